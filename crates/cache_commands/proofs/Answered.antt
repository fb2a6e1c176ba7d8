-- From what a store's call does to what a line owes.
use Rattle.std.proofs.Common.{refl, sym, ap, ◌∙◌, subst, arith, Err, get_or, ◌≡◌, ℕ, ◌≤◌, Bool, true, false, ◌||◌, List, ◌++◌, length, map, Option, Some, None, Ok, IfSome, codes, decimal, is_some, IsTrue, [], if◌then◌else◌, not}
use Rattle.std.proofs.Math.Bool.{or-false}
use Rattle.std.proofs.lemmas.List.{append-nil, append_cancel_left}
use Rattle.std.specs.List.{concat, list_all}
use Rattle.std.specs.Option.{option_map}
use Rattle.audit_model.specs.Bytewise.{is_empty, text_line}
use Rattle.audit_model.specs.Changes.{all_held_after}
use Rattle.audit_model.specs.Commands.{Covering, Deed, Everything, Nothing, Prefixed, is_sync, deed_of, drops}
use Rattle.audit_model.specs.Grammar.{Reading}
use Rattle.audit_model.specs.History.{Storing, Value, accepts_values, Effect}
use Rattle.audit_model.specs.Notes.{is_within}
use Rattle.audit_model.specs.Replies.{fault_text, keys_listed, offered, taken_where, value_or_none, yes_or_no, ok_or_off}
use Rattle.audit_model.specs.Situation.{HeldValue, Situation, live_at, live_keys_at, view_in, candidate_at}
use Rattle.audit_model.specs.Steps.{action_by, effect_in}
use Rattle.audit_model.specs.declared.command.LineError.{LineError}
use Rattle.audit_model.specs.declared.config.Config.{Config}
use Rattle.audit_model.specs.declared.event.Outcome.{Outcome}
use Rattle.audit_model.specs.declared.transcript.Accepted.{Accepted}
use Rattle.cache_commands.specs.Answered.{Agrees, IsAnswered, IsStored, key_written, says_drop}
use Rattle.cache_commands.specs.Drawing.{DrawsForParts}
use Rattle.cache_commands.specs.Found.{found_text}
use Rattle.cache_commands.specs.Order.{MovesOrder}
use Rattle.cache_commands.specs.Right.{RepliesRightly, KeepsFrame, DoesRight, step_saying}
use Rattle.cache_commands.specs.Sums.{sum_of_bytes}
use Rattle.cache_commands.specs.Handing.{AppendsNotes}
use Rattle.cache_commands.specs.Promises.{Done, Frame, accepting, covering, deleting, syncing, using, value_for, no_deed}
use Rattle.cache_commands.specs.Values.{AcceptsValue, AreLive, DrawsBy, Does, HandsBy, IsLive, IsSettled, IsSoundStore, LacksIdentifiers, Values, covers_prefix}
use Rattle.cache_commands.specs.Running.{is_timely}
use Rattle.audit_model.specs.declared.command.Command.TheVariants as says
use Rattle.audit_model.specs.declared.event.Outcome.TheVariants as came
use Rattle.cache_commands.proofs.Adding.{answers-add, answers-add-error, answers-add-off, sum-found}
use Rattle.cache_commands.proofs.Answering.{found-load, stores-nothing, stores-off, stores-value, answers-get, answers-refused, none_succeeded, said, answers-set, answers-sync, keys-written, no-found, undropped, yes-found}
use Rattle.cache_commands.proofs.Ordering.{moves-add, moves-del, moves-drop, moves-fault, moves-get, moves-has, moves-keys, moves-off, moves-quit, moves-set, moves-sync}
use Rattle.cache_commands.proofs.Drawn.{draws-alone, draws-kept, draws-none, draws-registers}
use Rattle.cache_commands.proofs.Few.{few}

-- ---- what each call leaves

keeps-frame : (was is : Frame) (now : ℕ) (dropped : Bool) → is ≡ record was { dropped = dropped; latest = now } → KeepsFrame was is now
keeps-frame was is now dropped e = subst (λ f. KeepsFrame was f now) (sym e) (record { rest = refl; latest = omega arith })

same-frame : (f : Frame) (now : ℕ) → f.latest ≤ now → KeepsFrame f f now
same-frame f now h = record { rest = refl; latest = h }

draws-by : (covers : Covering) (was is : Values) → DrawsBy covers was is → DrawsForParts was.stream is.stream was.registered is.registered
draws-by Nothing was is d = draws-kept was.stream is.stream was.registered is.registered d
draws-by Everything was is d = draws-kept was.stream is.stream was.registered is.registered d
draws-by (Prefixed prefix) was is d = draws-registers was.stream is.stream was.registered is.registered d

-- whether a `DROPIF` was accepted, where none is now
pub still : (now : ℕ) (deed : Deed) (was is : Values) (s : Situation) → Does now deed was is → covers_prefix deed.covers ≡ false → Agrees was now s → is.frame.dropped ≡ s.dropped
still now deed was is s d none a = ap (λ (f : Frame). f.dropped) d.frame ∙ ap (λ b. was.frame.dropped || b) none ∙ or-false was.frame.dropped ∙ sym a.dropped

-- a call that did something answers a line that is no `DROPIF`
pub answered-by : (now : ℕ) (reading : Reading) (accepted : Option Accepted) (deed : Deed) (was is : Values) (old new : List ℕ) → IsSoundStore was → Does now deed was is → says_drop reading ≡ false
    → ((s : Situation) → Agrees was now s → RepliesRightly was.frame.config s (action_by reading) accepted is.Stands is.frame.dropped (AppendsNotes was.untaken is.untaken) old new)
    → IfSome accepted (λ a. IfSome (key_written reading) (λ key. a.part ≡ was.frame.part_of key))
    → is_sync (action_by reading) ≡ false → MovesOrder was.frame.config was.Used is.Used reading → IsAnswered now reading accepted was is old new
answered-by now reading accepted deed was is old new sound d no_drop right part no_sync order = record {
  right = right;
  part = part;
  timely = λ h. let e : false ≡ true = sym no_sync ∙ h in cc;
  frame = keeps-frame was.frame is.frame now _ d.frame;
  spent = d.spent;
  few = few now deed was is sound d;
  draws = draws-by deed.covers was is d.drawn;
  used_up = λ h. let e : false ≡ true = sym no_drop ∙ h in cc;
  order = order;
}

-- what the step of such a line does
abbrev effect_of : Values → Situation → Reading → List ℕ → Effect
effect_of v s reading reply = effect_in v.frame.config (view_in v.frame.config s) (action_by reading) (step_saying 0 [] reply None [])

-- a line that changes nothing
pub answered-idle : (now : ℕ) (reading : Reading) (v : Values) (reply : Situation → List ℕ) (old new : List ℕ) → IsSoundStore v → v.frame.latest ≤ now → says_drop reading ≡ false → is_sync (action_by reading) ≡ false
    → ((s : Situation) → Agrees v now s → (new ≡ old ++ reply s) × DoesRight v.frame.config s (action_by reading) (step_saying 0 [] (reply s) None []))
    → ((s : Situation) → (deed_of (effect_of v s reading (reply s)) ≡ no_deed) × (drops (effect_of v s reading (reply s)) ≡ false))
    → MovesOrder v.frame.config v.Used v.Used reading → IsAnswered now reading None v v old new
answered-idle now reading v reply old new sound in_time no_drop no_sync right idle order = record {
  right = λ s a. record {
    told = [];
    reply = reply s;
    written = (right s a).0;
    right = (right s a).1;
    left = subst (λ d. v.Stands (all_held_after v.frame.config s.latest s.held d [])) (sym (idle s).0) (sound.idle s.held s.latest a.stands);
    dropped_is = undropped s v.frame.dropped (sym a.dropped) ∙ ap (λ b. s.dropped || b) (sym (idle s).1);
    handed = record { added = sym (append-nil v.untaken) };
  };
  part = tt;
  timely = λ h. let e : false ≡ true = sym no_sync ∙ h in cc;
  frame = same-frame v.frame now in_time;
  spent = omega arith;
  few = omega arith;
  draws = draws-none v.stream v.registered;
  used_up = λ h. let e : false ≡ true = sym no_drop ∙ h in cc;
  order = order;
}

-- ---- lines

-- the call that a right step does, at the situation's moment
at-moment : (now : ℕ) (deed : Deed) (was is : Values) (s : Situation) → Does now deed was is → Agrees was now s
    → Done was.frame.config s.latest deed s.held is.Stands (HandsBy deed.covers was.untaken is.untaken)
at-moment now deed was is s d a = subst (λ n. Done was.frame.config n deed s.held is.Stands (HandsBy deed.covers was.untaken is.untaken)) (sym a.at) (d.done s.held a.stands)

pub answered-del : (now : ℕ) (key : List ℕ) (was is : Values) (old new : List ℕ) → IsSoundStore was → Does now (deleting key) was is → new ≡ old ++ codes "OK\n" → IsAnswered now (Ok (says.Del key)) None was is old new
answered-del now key was is old new sound d w =
    answered-by now (Ok (says.Del key)) None (deleting key) was is old new sound d refl
    (λ s a. let done = at-moment now (deleting key) was is s d a in
    record {
      told = done.told;
      reply = codes "OK\n";
      written = w;
      right = record { replies = refl; loads = refl; accepts = refl; tells = done.right; silent = refl; within = refl };
      left = done.left;
      dropped_is = undropped s is.frame.dropped (still now (deleting key) was is s d refl a);
      handed = done.handed;
    })
    tt refl (moves-del was.frame.config was.Used is.Used key (λ n keys plain u. d.used n keys plain u))

-- the text of what was found is the reply
found-reply : (o : Option Value) → found_text (option_map (λ (v : Value). v.bytes) o) ≡ value_or_none o
found-reply None = refl
found-reply (Some v) = refl

pub answered-get : (now : ℕ) (key : List ℕ) (found : Option (List ℕ)) (was is : Values) (old new : List ℕ) → IsSoundStore was → IsLive was now key found → new ≡ old ++ found_text found → Does now (using key) was is
    → IsAnswered now (Ok (says.Get key)) None was is old new
answered-get now key found was is old new sound live w d =
    answered-by now (Ok (says.Get key)) None (using key) was is old new sound d refl
    (λ s a. answers-get was.frame.config s key (found_text found) old new is.Stands is.frame.dropped (AppendsNotes was.untaken is.untaken) w
    (ap found_text (live s.held a.stands) ∙ found-reply (live_at was.frame.config now s.held key) ∙ ap (λ n. value_or_none (live_at was.frame.config n s.held key)) (sym a.at))
    (at-moment now (using key) was is s d a) (still now (using key) was is s d refl a))
    tt refl (moves-get was.frame.config was.Used is.Used key (λ n keys plain u. d.used n keys plain u))

pub answered-set : (now : ℕ) (key bytes : List ℕ) (ms : Option ℕ) (part : ℕ) (was is : Values) (old new : List ℕ) → IsSoundStore was → accepts_values was.frame.config.capacity ≡ true
    → new ≡ old ++ codes "OK\n" → AcceptsValue now key bytes ms false part was is
    → IsAnswered now (Ok (says.Set key ms bytes)) (Some (record { part = part })) was is old new
answered-set now key bytes ms part was is old new sound takes w (p, d) =
    let deed = accepting None (value_for was.frame now key bytes ms) in
    answered-by now (Ok (says.Set key ms bytes)) (Some (record { part = part })) deed was is old new sound d refl
    (λ s a. answers-set was.frame s now key bytes ms part old new is.Stands is.frame.dropped (AppendsNotes was.untaken is.untaken) a.at takes p (sound.parted key) w (d.done s.held a.stands) (still now deed was is s d refl a))
    p refl (moves-set was.frame.config was.Used is.Used key bytes ms (λ n keys plain u. d.used n keys plain u))

pub answered-off : (now : ℕ) (key bytes : List ℕ) (ms : Option ℕ) (v : Values) (old new : List ℕ) → IsSoundStore v → v.frame.latest ≤ now → accepts_values v.frame.config.capacity ≡ false
    → new ≡ old ++ codes "OFF\n" → IsAnswered now (Ok (says.Set key ms bytes)) None v v old new
answered-off now key bytes ms v old new sound in_time off w =
    answered-idle now (Ok (says.Set key ms bytes)) v (λ s. codes "OFF\n") old new sound in_time refl refl
    (λ s a. (
      w,
      record {
        replies = said (codes "OFF\n") (ok_or_off v.frame.config) _ (sym (ap (λ b. if b then text_line (codes "OK") else text_line (codes "OFF")) off));
        loads = refl;
        accepts = ap (λ b. not (is_some (taken_where b (Some (record { key = key; bytes = bytes; ms = ms }))))) off;
        tells = none_succeeded (map (candidate_at v.frame.config s.latest) s.held ++ []);
        silent = refl;
        within = refl;
      },
    ))
    (λ s. (refl, refl)) (moves-off v.frame.config v.Used v.Used (Ok (says.Set key ms bytes)) off)

pub answered-fault : (now : ℕ) (error : LineError) (v : Values) (old new : List ℕ) → IsSoundStore v → v.frame.latest ≤ now → new ≡ old ++ fault_text error → IsAnswered now (Err error) None v v old new
answered-fault now error v old new sound in_time w =
    answered-idle now (Err error) v (λ s. fault_text error) old new sound in_time refl refl
    (λ s a. (w, record { replies = said (fault_text error) (fault_text error) _ refl; loads = refl; accepts = refl; tells = none_succeeded (map (candidate_at v.frame.config s.latest) s.held ++ []); silent = refl; within = refl }))
    (λ s. (refl, refl)) (moves-fault v.frame.config v.Used v.Used error)

pub answered-quit : (now : ℕ) (v : Values) (old new : List ℕ) → IsSoundStore v → v.frame.latest ≤ now → new ≡ old ++ codes "OK\n" → IsAnswered now (Ok says.Quit) None v v old new
answered-quit now v old new sound in_time w =
    answered-idle now (Ok says.Quit) v (λ s. codes "OK\n") old new sound in_time refl refl
    (λ s a. (w, record { replies = refl; loads = refl; accepts = refl; tells = none_succeeded (map (candidate_at v.frame.config s.latest) s.held ++ []); silent = refl; within = refl }))
    (λ s. (refl, refl)) (moves-quit v.frame.config v.Used v.Used)

-- a `HAS` with this reply
answered-has : (now : ℕ) (key reply : List ℕ) (v : Values) (old new : List ℕ) → IsSoundStore v → v.frame.latest ≤ now → ((s : Situation) → Agrees v now s → reply ≡ yes_or_no (live_at v.frame.config now s.held key)) → new ≡ old ++ reply
    → IsAnswered now (Ok (says.Has key)) None v v old new
answered-has now key reply v old new sound in_time found w =
    answered-idle now (Ok (says.Has key)) v (λ s. reply) old new sound in_time refl refl
    (λ s a. (
      w,
      record {
        replies = said reply (yes_or_no (live_at v.frame.config s.latest s.held key)) _ (subst (λ n. reply ≡ yes_or_no (live_at v.frame.config n s.held key)) (sym a.at) (found s a));
        loads = refl;
        accepts = refl;
        tells = none_succeeded (map (candidate_at v.frame.config s.latest) s.held ++ []);
        silent = refl;
        within = refl;
      },
    ))
    (λ s. (refl, refl)) (moves-has v.frame.config v.Used key)

pub answered-yes : (now : ℕ) (key bytes : List ℕ) (v : Values) (old new : List ℕ) → IsSoundStore v → v.frame.latest ≤ now → IsLive v now key (Some bytes) → new ≡ old ++ codes "YES\n"
    → IsAnswered now (Ok (says.Has key)) None v v old new
answered-yes now key bytes v old new sound in_time live w = answered-has now key (codes "YES\n") v old new sound in_time (λ s a. yes-found v.frame.config now s.held key bytes (live s.held a.stands)) w

pub answered-no : (now : ℕ) (key : List ℕ) (v : Values) (old new : List ℕ) → IsSoundStore v → v.frame.latest ≤ now → IsLive v now key None → new ≡ old ++ codes "NO\n"
    → IsAnswered now (Ok (says.Has key)) None v v old new
answered-no now key v old new sound in_time live w = answered-has now key (codes "NO\n") v old new sound in_time (λ s a. no-found v.frame.config now s.held key (live s.held a.stands)) w

pub answered-keys : (now number : ℕ) (v : Values) (old before new : List ℕ) → IsSoundStore v → v.frame.latest ≤ now → AreLive v now (λ keys. number ≡ length keys)
    → before ≡ old ++ (codes "KEYS " ++ decimal number ++ codes "\n") → AreLive v now (λ keys. new ≡ before ++ concat (map text_line keys)) → IsAnswered now (Ok says.Keys) None v v old new
answered-keys now number v old before new sound in_time n b w =
    answered-idle now (Ok says.Keys) v (λ s. keys_listed (live_keys_at v.frame.config now s.held)) old new sound in_time refl refl
    (λ s a. let keys = live_keys_at v.frame.config now s.held in (
      keys-written keys number old before new (n s.held a.stands) b (w s.held a.stands),
      record {
        replies = said (keys_listed keys) (keys_listed (live_keys_at v.frame.config s.latest s.held)) _ (ap (λ m. keys_listed (live_keys_at v.frame.config m s.held)) (sym a.at));
        loads = refl;
        accepts = refl;
        tells = none_succeeded (map (candidate_at v.frame.config s.latest) s.held ++ []);
        silent = refl;
        within = refl;
      },
    ))
    (λ s. (refl, refl)) (moves-keys v.frame.config v.Used)

pub answered-sync : (now number weight : ℕ) (was is : Values) (old new : List ℕ) → IsSoundStore was → Does now syncing was is → IsSettled is number weight
    → new ≡ old ++ (codes "SYNC " ++ decimal number ++ codes " " ++ decimal weight ++ codes "\n") → IsAnswered now (Ok says.Sync) None was is old new
answered-sync now number weight was is old new sound d settled w =
    let config : is.frame.config ≡ was.frame.config = ap (λ (f : Frame). f.config) d.frame in
    record {
      right = λ s a.
          let done = d.done s.held a.stands in
          let left = all_held_after was.frame.config now s.held syncing done.told in
          let counts = settled.held left done.left in
          answers-sync was.frame.config s now number weight old new is.Stands is.frame.dropped (AppendsNotes was.untaken is.untaken) a.at w
          (record { told = done.told; right = done.right; left = (done.left, subst (λ f. IsTrue (is_within f (map (λ (h : HeldValue). h.value) left))) config (settled.within left done.left), counts.0, counts.1); handed = done.handed })
          (still now syncing was is s d refl a);
      part = tt;
      timely = λ h held stands. subst (λ (f : Frame). IsTrue (list_all (is_timely f.config f.made f.latest) held)) d.frame (settled.timely held stands);
      frame = keeps-frame was.frame is.frame now _ d.frame;
      spent = d.spent;
      few = few now syncing was is sound d;
      draws = draws-by Nothing was is d.drawn;
      used_up = λ h. let e : false ≡ true = h in cc;
      order = moves-sync was.frame.config was.Used is.Used (λ n b keys plain u. d.used n b keys plain u);
    }

-- ---- a `CLEAR`

moves-clear : (config : Config) (Old New : Bool → List (List ℕ) → Type 0) → MovesOrder config Old New (Ok says.Clear)
moves-clear config Old New = record { moves = λ n order plain agrees. tt }

pub answered-clear : (now : ℕ) (was is : Values) (old new : List ℕ) → IsSoundStore was → Does now (covering Everything) was is → new ≡ old ++ codes "OK\n" → IsAnswered now (Ok says.Clear) None was is old new
answered-clear now was is old new sound d w = record {
  right = λ s a.
      let done = at-moment now (covering Everything) was is s d a in
      record {
        told = done.told;
        reply = codes "OK\n";
        written = w;
        right = record { replies = refl; loads = refl; accepts = refl; tells = done.right; silent = ap is_empty done.handed.none; within = refl };
        left = done.left;
        dropped_is = undropped s is.frame.dropped (still now (covering Everything) was is s d refl a);
        handed = record { added = done.handed.same ∙ sym (append-nil was.untaken) ∙ ap (λ ns. was.untaken ++ ns) (sym done.handed.none) };
      };
  part = tt;
  timely = λ h. let e : false ≡ true = h in cc;
  frame = keeps-frame was.frame is.frame now _ d.frame;
  spent = d.spent;
  few = few now (covering Everything) was is sound d;
  draws = draws-by Everything was is d.drawn;
  used_up = λ h. let e : false ≡ true = h in cc;
  order = moves-clear was.frame.config was.Used is.Used;
}

-- ---- a `DROPIF`

same-id : (old new : List ℕ) → new ≡ old ++ codes "OK\n" → new ≡ old ++ codes "ERR id\n" → ⊥
same-id old new a b = let e : codes "OK\n" ≡ codes "ERR id\n" = append_cancel_left old (codes "OK\n") (codes "ERR id\n") (sym a ∙ b) in let h : 79 ≡ 69 = ap (λ xs. get_or xs 0 0) e in cc

pub answered-dropped : (now : ℕ) (prefix : List ℕ) (was is : Values) (old new : List ℕ) → IsSoundStore was → Does now (covering (Prefixed prefix)) was is → new ≡ old ++ codes "OK\n"
    → IsAnswered now (Ok (says.DropIf prefix)) None was is old new
answered-dropped now prefix was is old new sound d w = record {
  right = λ s a.
      let done = at-moment now (covering (Prefixed prefix)) was is s d a in
      record {
        told = done.told;
        reply = codes "OK\n";
        written = w;
        right = record { replies = refl; loads = refl; accepts = refl; tells = done.right; silent = ap is_empty done.handed.none; within = refl };
        left = done.left;
        dropped_is = ap (λ (f : Frame). f.dropped) d.frame ∙ ap (λ b. b || true) (sym a.dropped);
        handed = record { added = done.handed.same ∙ sym (append-nil was.untaken) ∙ ap (λ ns. was.untaken ++ ns) (sym done.handed.none) };
      };
  part = tt;
  timely = λ h. let e : false ≡ true = h in cc;
  frame = keeps-frame was.frame is.frame now _ d.frame;
  spent = d.spent;
  few = few now (covering (Prefixed prefix)) was is sound d;
  draws = draws-by (Prefixed prefix) was is d.drawn;
  used_up = λ h id. absurd (same-id old new w id);
  order = moves-drop was.frame.config was.Used is.Used prefix;
}

pub answered-lacking : (now : ℕ) (prefix : List ℕ) (was is : Values) (old new : List ℕ) → IsSoundStore was → was.frame.latest ≤ now → LacksIdentifiers was is → new ≡ old ++ codes "ERR id\n"
    → IsAnswered now (Ok (says.DropIf prefix)) None was is old new
answered-lacking now prefix was is old new sound in_time l w = record {
  right = λ s a.
      answers-refused was.frame.config s prefix old new was.untaken is.untaken is.Stands is.frame.dropped (a.dropped ∙ l.dropped) w (l.stands _ (sound.idle s.held s.latest a.stands))
      (ap (λ (f : Frame). f.dropped) l.frame ∙ sym a.dropped) l.untaken;
  part = tt;
  timely = λ h. let e : false ≡ true = h in cc;
  frame = subst (λ f. KeepsFrame was.frame f now) (sym l.frame) (same-frame was.frame now in_time);
  spent = let e = l.spent in omega (arith, e);
  few = let e = ap length l.untaken in omega (arith, e);
  draws = draws-alone was.stream is.stream was.registered is.registered (record { number = l.used_up.number; stream = l.used_up.stream; registered = l.registered });
  used_up = λ h id. l.used_up;
  order = moves-drop was.frame.config was.Used is.Used prefix;
}

moves-load : (config : Config) (Old New : Bool → List (List ℕ) → Type 0) (key : List ℕ) → MovesOrder config Old New (Ok (says.Load key))
moves-load config Old New key = record { moves = λ n order plain agrees. tt }

-- ---- a `LOAD` that finds a value

pub answered-load : (now : ℕ) (key : List ℕ) (found : Option (List ℕ)) (was is : Values) (old new : List ℕ) → is_some found ≡ true → IsLive was now key found → IsAnswered now (Ok (says.Get key)) None was is old new
    → IsAnswered now (Ok (says.Load key)) None was is old new
answered-load now key None was is old new some live a = let no : false ≡ true = some in cc
answered-load now key (Some bytes) was is old new some live a = record {
  right = λ s g. found-load was.frame.config s now key bytes old new is.Stands is.frame.dropped (AppendsNotes was.untaken is.untaken) g.at (live s.held g.stands) (a.right s g);
  part = tt;
  timely = λ h. let e : false ≡ true = h in cc;
  frame = a.frame;
  spent = a.spent;
  few = a.few;
  draws = a.draws;
  used_up = λ h. let e : false ≡ true = h in cc;
  order = moves-load was.frame.config was.Used is.Used key;
}

-- ---- sums

pub answered-added : (now : ℕ) (key : List ℕ) (ms : Option ℕ) (added sum part : ℕ) (found : Option (List ℕ)) (was is : Values) (old new : List ℕ) → IsSoundStore was → accepts_values was.frame.config.capacity ≡ true
    → IsLive was now key found → Some sum ≡ sum_of_bytes found added → new ≡ old ++ (codes "VAL " ++ decimal sum ++ codes "\n")
    → AcceptsValue now key (decimal sum) ms true part was is → IsAnswered now (Ok (says.Add key ms added)) (Some (record { part = part })) was is old new
answered-added now key ms added sum part found was is old new sound takes live e w (p, d) =
    let deed = accepting (Some key) (value_for was.frame now key (decimal sum) ms) in
    answered-by now (Ok (says.Add key ms added)) (Some (record { part = part })) deed was is old new sound d refl
    (λ s a. answers-add was.frame s now key ms added sum part old new is.Stands is.frame.dropped (AppendsNotes was.untaken is.untaken) a.at takes (sum-found was.frame.config s now key added found (Some sum) a.at (live s.held a.stands) e) p (sound.parted key) w
    (d.done s.held a.stands) (still now deed was is s d refl a))
    p refl (moves-add was.frame.config was.Used is.Used key ms added)

pub answered-unsummed : (now : ℕ) (key : List ℕ) (ms : Option ℕ) (added : ℕ) (found : Option (List ℕ)) (was is : Values) (old new : List ℕ) → IsSoundStore was → accepts_values was.frame.config.capacity ≡ true
    → IsLive was now key found → None ≡ sum_of_bytes found added → new ≡ old ++ codes "ERR number\n" → Does now (using key) was is
    → IsAnswered now (Ok (says.Add key ms added)) None was is old new
answered-unsummed now key ms added found was is old new sound takes live e w d =
    answered-by now (Ok (says.Add key ms added)) None (using key) was is old new sound d refl
    (λ s a. answers-add-error was.frame.config s now key ms added old new is.Stands is.frame.dropped (AppendsNotes was.untaken is.untaken) a.at takes (sum-found was.frame.config s now key added found None a.at (live s.held a.stands) e)
    w (d.done s.held a.stands) (still now (using key) was is s d refl a))
    tt refl (moves-add was.frame.config was.Used is.Used key ms added)

pub answered-add-off : (now : ℕ) (key : List ℕ) (ms : Option ℕ) (added : ℕ) (was is : Values) (old new : List ℕ) → IsSoundStore was → accepts_values was.frame.config.capacity ≡ false
    → new ≡ old ++ codes "OFF\n" → Does now (using key) was is → IsAnswered now (Ok (says.Add key ms added)) None was is old new
answered-add-off now key ms added was is old new sound off w d =
    answered-by now (Ok (says.Add key ms added)) None (using key) was is old new sound d refl
    (λ s a. answers-add-off was.frame.config s now key ms added old new is.Stands is.frame.dropped (AppendsNotes was.untaken is.untaken) a.at off (w) (d.done s.held a.stands) (still now (using key) was is s d refl a))
    tt refl (moves-add was.frame.config was.Used is.Used key ms added)

-- ---- what an answer stores

same-stored : (now : ℕ) (key : List ℕ) (outcome : Outcome) (v : Values) → IsSoundStore v → v.frame.latest ≤ now
    → ((s : Situation) → taken_where (accepts_values v.frame.config.capacity) (offered (view_in v.frame.config s) (Storing (Some key) outcome)) ≡ None) → IsStored now key outcome None v v
same-stored now key outcome v sound in_time none = record {
  right = λ s e m. stores-nothing v.frame.config s key outcome v.untaken v.Stands (none s) (sound.idle s.held s.latest m);
  part = tt;
  frame = same-frame v.frame now in_time;
  dropped = refl;
  spent = omega arith;
  few = omega arith;
  identifiers = record { stream = refl; registered = λ part id h. h };
}

pub stored-off : (now : ℕ) (key : List ℕ) (outcome : Outcome) (v : Values) → IsSoundStore v → v.frame.latest ≤ now → accepts_values v.frame.config.capacity ≡ false → IsStored now key outcome None v v
stored-off now key outcome v sound in_time off = same-stored now key outcome v sound in_time (λ s. stores-off v.frame.config s key outcome off)

pub stored-none : (now : ℕ) (key : List ℕ) (v : Values) → IsSoundStore v → v.frame.latest ≤ now → IsStored now key came.None None v v
stored-none now key v sound in_time = same-stored now key came.None v sound in_time (λ s. grind arith)

pub stored-fault : (now : ℕ) (key text : List ℕ) (v : Values) → IsSoundStore v → v.frame.latest ≤ now → IsStored now key (came.Fault text) None v v
stored-fault now key text v sound in_time = same-stored now key (came.Fault text) v sound in_time (λ s. grind arith)

pub stored-value : (now : ℕ) (key bytes : List ℕ) (ms : Option ℕ) (part : ℕ) (was is : Values) → IsSoundStore was → accepts_values was.frame.config.capacity ≡ true
    → AcceptsValue now key bytes ms false part was is → IsStored now key (came.Value bytes ms) (Some (record { part = part })) was is
stored-value now key bytes ms part was is sound takes (p, d) =
    let deed = accepting None (value_for was.frame now key bytes ms) in
    record {
      right = λ s e m. (stores-value was.frame s now key bytes ms part is.Stands (AppendsNotes was.untaken is.untaken) e takes p (sound.parted key) (d.done s.held m), refl);
      part = p;
      frame = keeps-frame was.frame is.frame now _ d.frame;
      dropped = ap (λ (f : Frame). f.dropped) d.frame ∙ or-false was.frame.dropped;
      spent = d.spent;
      few = few now deed was is sound d;
      identifiers = d.drawn;
    }
