-- The record of a feed.
use Rattle.std.proofs.Common.{refl, sym, ap, ◌∙◌, subst, ◌≡◌, ℕ, Bool, true, false, List, [], ◌∷◌, ◌++◌, Option, Some, None, if◌then◌else◌, is_some, max, arith, suc, ◌+◌, ◌<◌, ◌^◌, not, ◌&&◌, ◌==◌, nat_le, is_none, slice_set, IsTrue}
use Rattle.std.proofs.lemmas.Bool.{eq-eqb}
use Rattle.std.proofs.lemmas.List.{append-nil}
use Rattle.std.proofs.lemmas.Option.{same_Some, slice_get_within}
use Rattle.std.specs.List.{flat_map, list_all, slice_get}
use Rattle.std.specs.Option.{option_map, option_map_or, option_or}
use Rattle.audit_model.specs.Belongs.{refusal_where}
use Rattle.audit_model.specs.Follows.{after_event, after_steps, known_in, tasks_in}
use Rattle.audit_model.specs.Obeys.{accepted_values}
use Rattle.audit_model.specs.Places.{tasks_to_feed}
use Rattle.audit_model.specs.Situation.{HeldValue, Situation, is_holding, is_waiting_now, with_connection}
use Rattle.audit_model.specs.declared.config.Config.{Config}
use Rattle.audit_model.specs.declared.event.Event.{Event}
use Rattle.audit_model.specs.declared.transcript.Note.{Note}
use Rattle.audit_model.specs.declared.transcript.Record.{Record}
use Rattle.audit_model.specs.declared.transcript.Step.{Step}
use Rattle.audit_laws.specs.Leading.{is_parted}
use Rattle.audit_laws.specs.Placing.{placed_steps_in}
use Rattle.cache_commands.specs.Promises.{Frame}
use Rattle.cache_commands.specs.Running.{is_bounded}
use Rattle.cache_commands.specs.Values.{IsSoundStore, Values}
use Rattle.cache_commands.proofs.Taking.{taken-on}
use Rattle.cache_commands.specs.Loads.Pending.{SameTaken}
use Rattle.cache_commands.specs.Loads.Standings.{holds_line, waits_for_load}
use Rattle.cache_commands.specs.declared.loads.loads.Loads.{Loads}
use Rattle.cache_lines.proofs.leads.Leading.{leads-mean, leads-order}
use Rattle.cache_lines.specs.Bases.{Seen, seen_on}
use Rattle.cache_lines.specs.Ended.{RanTasks, ends_silent}
use Rattle.cache_lines.specs.Gathered.{Gathered, adds, gather, reply_in, stage, written_in}
use Rattle.cache_lines.specs.Lines.{IsThere, ready, are_timely, ends_quit, set_in}
use Rattle.cache_lines.specs.Making.{making_of}
use Rattle.cache_lines.specs.Ordered.{HaveKeys}
use Rattle.cache_lines.specs.Tape.Taped.{IsAtRest, IsBegun, Taped, finishes, started, with_entry}
use Rattle.cache_lines.specs.Waiting.{under_way, when_left}
use Rattle.cache_lines.specs.declared.base.Base.{Base}
use Rattle.cache_core.proofs.Orders.{order-turned}
use Rattle.cache_core.proofs.Sending.{all-own, feed-own, own-all, sends-behind}
use Rattle.cache_core.proofs.Spots.{closing-is, replaced-is, text-is}
use Rattle.cache_core.proofs.Turning.{closings-by, found-open, holding-shown, known-open, leb-above, outputs-by, put-situation, sit, waiting-shown}
use Rattle.cache_core.proofs.connection.Pieces.{fed-from}
use Rattle.cache_core.proofs.connections.Getting.{at-replaced}
use Rattle.cache_core.specs.Connection.Fed.{FedRan, LooksAsBefore, closing_by}
use Rattle.cache_core.specs.Connection.Fits.{ClosesFor}
use Rattle.cache_core.specs.Connection.Shown.{put_in, shown_connection, with_piece}
use Rattle.cache_core.specs.Connections.Presence.{Here, Presence, closing_at, text_at}
use Rattle.cache_core.specs.Fed.{with_tape, FedTurn, ReplacedAt, seen_at}
use Rattle.cache_core.specs.State.{IsBetweenEvents, NamespaceState, situation_with, state_of}
use Rattle.cache_core.specs.Turned.{with_record, IsRecordOf, Turned, ContinuesBy, feeding, own_steps, reason_of}
use Rattle.cache_core.specs.declared.connection.connection.Connection.{Connection}
use Rattle.audit_model.specs.Situation as model
use Rattle.audit_model.specs.declared.input.ServiceError.TheVariants as error

-- ---- a tape whose record was begun

-- what was gathered is in the record under way, where there is one
pub gathers-begun : (tape middle : Option Taped) (text new_text : List ℕ) (untaken new_untaken : List Note) (steps : List Step)
    → record { text = new_text; kept = option_map written_in middle; waiting = new_untaken } ≡ gather (record { text = text; kept = option_map written_in (option_map (started 1) tape); waiting = untaken }) steps
    → IsBegun middle × (is_some middle ≡ is_some tape)
gathers-begun None None text new_text untaken new_untaken steps e = (tt, refl)
gathers-begun None (Some m) text new_text untaken new_untaken steps e = let no : Some (written_in m) ≡ None = ap (λ (g : Gathered). g.kept) e in cc
gathers-begun (Some t) None text new_text untaken new_untaken steps e = let no : None ≡ Some (adds steps (written_in (started 1 t))) = ap (λ (g : Gathered). g.kept) e in cc
gathers-begun (Some t) (Some m) text new_text untaken new_untaken steps e =
    let is : written_in m ≡ adds steps (written_in (started 1 t)) = same_Some _ _ (ap (λ (g : Gathered). g.kept) e) in (ap (λ (x : Taped). x.begun) is, refl)

-- a situation in which the connection of that number is open
abbrev some_situation : ℕ → ℕ → Seen → List HeldValue → Situation
some_situation now_is number x held =
    record { latest = now_is; opened = 0; sent = x.loads.sent; connections = ready number [] ∷ []; pending = x.loads.pending; held = held; dropped = x.stage.values.frame.dropped }

pub fed-begun : (now_is number : ℕ) (old new : Connection) (piece : List ℕ) (is_held : Bool) (was is : Seen) (tape : Option Taped)
    → FedRan now_is number old piece new is_held (with_tape (option_map (started 1) tape) was) is → IsSoundStore was.stage.values
    → IsBegun is.stage.tape × (is_some is.stage.tape ≡ is_some tape)
fed-begun now_is number old new piece is_held was is tape f sound =
    let s = some_situation now_is number was sound.some in
    let there : IsThere number s = ap (λ b. is_some (if b then Some (ready number []) else None)) (eq-eqb number number refl) in
    let r = f.ran s (record { at = refl; dropped = refl; stands = sound.stands }) there refl in
    gathers-begun tape is.stage.tape was.stage.text is.stage.text was.stage.values.untaken is.stage.values.untaken r.steps r.gathered_is

-- the event is told where a record is kept alone
pub finish-same : (tape middle : Option Taped) (a b : Event) → is_some middle ≡ is_some tape → (is_some tape ≡ true → a ≡ b)
    → option_map (finishes a None []) middle ≡ option_map (finishes b None []) middle
finish-same tape None a b some same = refl
finish-same tape (Some m) a b some same = ap (λ e. Some (finishes e None [] m)) (same (sym some))

-- ---- a tape whose record has ended

-- what was gathered stands behind what there was, or in the record
pub record KeptBy (happened : Event) (steps : List Step) (tape final : Option Taped) (text new_text : List ℕ) (untaken new_untaken : List Note) : Type 0 where
  pub kept : final ≡ option_map (with_record (record { event = happened; own = None; notices = []; steps = steps })) tape
  pub text_is : new_text ≡ text ++ (if is_some tape then [] else flat_map reply_in steps)
  pub untaken_is : new_untaken ≡ untaken ++ (if is_some tape then [] else flat_map (λ step. step.notices) steps)

pub kept-by : (happened : Event) (steps : List Step) (tape middle final : Option Taped) (text new_text : List ℕ) (untaken new_untaken : List Note) → IsAtRest tape
    → record { text = new_text; kept = option_map written_in middle; waiting = new_untaken } ≡ gather (record { text = text; kept = option_map written_in (option_map (started 1) tape); waiting = untaken }) steps
    → final ≡ option_map (finishes happened None []) middle
    → KeptBy happened steps tape final text new_text untaken new_untaken
kept-by happened steps None None final text new_text untaken new_untaken rests e ended = record { kept = ended; text_is = ap (λ (g : Gathered). g.text) e; untaken_is = ap (λ (g : Gathered). g.waiting) e }
kept-by happened steps None (Some m) final text new_text untaken new_untaken rests e ended = let no : Some (written_in m) ≡ None = ap (λ (g : Gathered). g.kept) e in cc
kept-by happened steps (Some t) None final text new_text untaken new_untaken rests e ended = let no : None ≡ Some (adds steps (written_in (started 1 t))) = ap (λ (g : Gathered). g.kept) e in cc
kept-by happened steps (Some t) (Some m) final text new_text untaken new_untaken rests e ended =
    let is : written_in m ≡ adds steps (written_in (started 1 t)) = same_Some _ _ (ap (λ (g : Gathered). g.kept) e) in
    let entry : List Step → Record = λ ss. record { event = happened; own = None; notices = []; steps = ss } in
    record {
      kept =
          ended
          ∙ ap (λ rs. Some (record { journal = with_entry (entry m.steps) rs; begun = false; steps = []; spare = 0; drafted = None })) (ap (λ (x : Taped). x.journal) is)
          ∙ ap (λ ss. Some (record { journal = with_entry (entry ss) t.journal; begun = false; steps = []; spare = 0; drafted = None })) (ap (λ (x : Taped). x.steps) is)
          ∙ ap (λ b. Some (record { journal = with_entry (entry steps) t.journal; begun = b; steps = []; spare = 0; drafted = None })) (sym rests.closed)
          ∙ ap (λ ss. Some (record { journal = with_entry (entry steps) t.journal; begun = t.begun; steps = ss; spare = 0; drafted = None })) (sym rests.steps)
          ∙ ap (λ n. Some (record { journal = with_entry (entry steps) t.journal; begun = t.begun; steps = t.steps; spare = n; drafted = None })) (sym rests.spare)
          ∙ ap (λ d. Some (record { journal = with_entry (entry steps) t.journal; begun = t.begun; steps = t.steps; spare = t.spare; drafted = d })) (sym rests.undrafted);
      text_is = ap (λ (g : Gathered). g.text) e ∙ sym (append-nil text);
      untaken_is = ap (λ (g : Gathered). g.waiting) e ∙ sym (append-nil untaken);
    }

-- a connection was fed when a record was begun, and room was made
pub fed-started : {S T : Type 0} (view : S → Values) (tape : T → Option Taped) (now_is number : ℕ) (base mid : Base S T) (old ready_as new : Connection) (piece : List ℕ) (is_held : Bool) (is : Seen)
    → mid ≡ record base { tape = mid.tape } → tape mid.tape ≡ option_map (started 1) (tape base.tape) → LooksAsBefore old ready_as
    → FedRan now_is number ready_as piece new is_held (seen_on view tape mid ready_as.output) is
    → FedRan now_is number old piece new is_held (with_tape (option_map (started 1) (tape base.tape)) (seen_on view tape base old.output)) is
fed-started {S} {T} view tape now_is number base mid old ready_as new piece is_held is rest begun same f =
    let shows : seen_on view tape mid ready_as.output ≡ with_tape (option_map (started 1) (tape base.tape)) (seen_on view tape base old.output) =
    ap (λ (b : Base S T). record { stage = stage (view b.store) ready_as.output.text.items (tape mid.tape); loads = under_way b.loads }) rest
    ∙ ap (λ t. record { stage = stage (view base.store) ready_as.output.text.items t; loads = under_way base.loads }) begun
    ∙ ap (λ x. record { stage = stage (view base.store) x (option_map (started 1) (tape base.tape)); loads = under_way base.loads }) same.text in
    subst (λ x. FedRan now_is number old piece new is_held x is) shows (fed-from now_is number old ready_as new piece is_held (seen_on view tape mid ready_as.output) is same f)

-- A feed of a namespace is one record that follows.

module _ {S T : Type 0} (view : S → Values) (tape : T → Option Taped) (base new_base : Base S T) (left : Loads) (latest i moment : ℕ) (cs : List Presence) (old new : Connection) (piece : List ℕ) (is_held : Bool) (at : slice_get cs i ≡ Some (Here old)) (is_open : old.closing ≡ None) (low : moment < 2 ^ 63) (rests : IsAtRest (tape base.tape))
    (turn : FedTurn (max moment latest) (suc i) moment old piece new is_held (seen_at view tape base cs i) (seen_at view tape new_base (slice_set cs i (Here new)) i)) where
  abbrev m : ℕ
  m = suc i

  abbrev before : Values
  before = view base.store

  abbrev behind : Values
  behind = view new_base.store

  abbrev config : Config
  config = before.frame.config

  -- the connection with the piece, in the situation at that moment
  abbrev start : List HeldValue → Situation
  start held = set_in (sit (max moment latest) (under_way base.loads) cs before.frame.dropped held) held (with_piece piece (shown_connection m old))

  pub ran-fed : (held : List HeldValue) → before.Stands held
      → RanTasks (making_of before.frame) (start held) (tasks_to_feed m (holds_line old.standing)) [] turn.ran.quit is_held turn.ran.silent
      (λ rest. put_in (sit (max moment latest) (under_way new_base.loads) cs behind.frame.dropped held) rest m new)
      (stage before (text_at cs i) (option_map (started 1) (tape base.tape))) (stage behind (text_at (slice_set cs i (Here new)) i) turn.middle)
  ran-fed held stands = turn.ran.ran (sit (max moment latest) (under_way base.loads) cs before.frame.dropped held) (record { at = refl; dropped = refl; stands = stands }) (ap is_some (found-open m i old cs refl at is_open)) refl

  pub kept-fed : (held : List HeldValue) (stands : before.Stands held) → KeptBy (feeding m piece moment) (ran-fed held stands).steps (tape base.tape) (tape new_base.tape) (text_at cs i) (text_at (slice_set cs i (Here new)) i) before.untaken behind.untaken
  kept-fed held stands = kept-by (feeding m piece moment) (ran-fed held stands).steps (tape base.tape) turn.middle (tape new_base.tape) (text_at cs i) (text_at (slice_set cs i (Here new)) i) before.untaken behind.untaken rests (ran-fed held stands).gathered_is turn.ended

  pub config-stays : behind.frame.config ≡ config
  config-stays = ap (λ (f : Frame). f.config) turn.ran.frame.rest

  pub turned-fed : IsSoundStore behind → under_way left ≡ when_left (is_none new.closing) m (under_way new_base.loads) → (held : List HeldValue) → before.Stands held
      → (entry : Record) × IsRecordOf (feeding m piece moment) is_held entry × Turned view tape (state_of base latest cs) (state_of (record new_base { loads = left }) (max moment latest) (slice_set cs i (Here new))) (situation_with view (state_of base latest cs) held) entry
  turned-fed sound leaves held stands =
      let s = sit latest (under_way base.loads) cs before.frame.dropped held in
      let later = sit (max moment latest) (under_way base.loads) cs before.frame.dropped held in
      let r = ran-fed held stands in
      let steps = r.steps in
      let entry : Record = record { event = feeding m piece moment; own = None; notices = []; steps = steps } in
      let k = kept-fed held stands in
      let found = found-open m i old cs refl at is_open in
      let tasks = tasks_to_feed m (holds_line old.standing) in
      let ends = put_in (sit (max moment latest) (under_way new_base.loads) cs behind.frame.dropped held) r.left m new in
      let mean = leads-mean (making_of before.frame) (start held) ends tasks steps before behind r.leads in
      let after = mean.follows refl in
      let own : list_all (λ (step : Step). step.conn == m) steps ≡ true = all-own config m (start held) tasks steps _ (feed-own m (holds_line old.standing)) after in
      let known = known-open m i old s cs refl refl refl at is_open in
      let next = sit (max moment latest) (under_way left) (slice_set cs i (Here new)) behind.frame.dropped r.left in
      let rest = after_steps config (after_event (feeding m piece moment) s) (tasks_in s (feeding m piece moment)) steps in
      let fed : Option model.Connection → Situation = λ o. option_map_or (λ c. with_connection false (record c { unread = c.unread ++ piece }) later) o later in
      let fed_tasks = λ (o : Option model.Connection). tasks_to_feed m (option_map_or (λ (c : model.Connection). is_holding c.standing) o false) in
      let text : new.output.text.items ≡ old.output.text.items ++ (if is_some (tape base.tape) then [] else flat_map reply_in steps) =
      sym (text-is (slice_set cs i (Here new)) i new (at-replaced cs i (Here new) (slice_get_within cs i (Here old) at))) ∙ k.text_is ∙ ap (λ t. t ++ (if is_some (tape base.tape) then [] else flat_map reply_in steps)) (text-is cs i old at) in
      let reason : reason_of config s m (feeding m piece moment) steps ≡ closing_by (waits_for_load old.standing) turn.ran.quit turn.ran.silent =
      ap (λ o. closing_by (option_map_or (λ (c : model.Connection). is_waiting_now c.standing) o false) (ends_quit config (own_steps m steps)) (ends_silent (own_steps m steps))) found
      ∙ ap (λ b. closing_by b (ends_quit config (own_steps m steps)) (ends_silent (own_steps m steps))) (waiting-shown m old)
      ∙ ap (λ ss. closing_by (waits_for_load old.standing) (ends_quit config ss) (ends_silent ss)) (own-all m steps own)
      ∙ ap (λ b. closing_by (waits_for_load old.standing) b (ends_silent steps)) r.quits
      ∙ ap (λ b. closing_by (waits_for_load old.standing) turn.ran.quit b) r.silent in (
        entry,
        record { event_is = refl; ends = r.ends },
        record {
          next = next;
          stands = record { held = r.left; stands = r.stands; is = refl };
          follows =
              ap (λ a. if is_none (option_or (option_or (refusal_where (not a) error.NoConnection) (refusal_where (not ((known_in s).is_open m)) error.Closed)) (refusal_where (nat_le (2 ^ 63) moment) error.Moment)) && true && true then rest else None) known.0
              ∙ ap (λ a. if is_none (option_or (refusal_where (not a) error.Closed) (refusal_where (nat_le (2 ^ 63) moment) error.Moment)) && true && true then rest else None) known.1
              ∙ ap (λ a. if is_none (refusal_where a error.Moment) && true && true then rest else None) (leb-above (2 ^ 63) moment low)
              ∙ ap (λ o. after_steps config (fed o) (fed_tasks o) steps) found
              ∙ ap (λ b. after_steps config (start held) (tasks_to_feed m b) steps) (holding-shown m old)
              ∙ after ∙ ap Some (put-situation (max moment latest) m i (under_way new_base.loads) old new cs behind.frame.dropped held r.left refl at is_open)
              ∙ ap (λ l. Some (sit (max moment latest) l (slice_set cs i (Here new)) behind.frame.dropped r.left)) (sym leaves);
          kept = k.kept;
          outputs = outputs-by cs i old new steps (is_some (tape base.tape)) at text own;
          notes = k.untaken_is;
          closings = closings-by config s next entry cs i old new at is_open refl refl (subst (λ why. ClosesFor why new.closing) (sym reason) turn.ran.closing);
          parted =
              ap (λ o. list_all (is_parted before.frame.part_of) (accepted_values (placed_steps_in config (fed o) (fed_tasks o) steps))) found
              ∙ ap (λ b. list_all (is_parted before.frame.part_of) (accepted_values (placed_steps_in config (start held) (tasks_to_feed m b) steps))) (holding-shown m old)
              ∙ mean.parted;
          timely =
              ap (λ o. are_timely config before.frame.made (fed o) (fed_tasks o) steps) found
              ∙ ap (λ b. are_timely config before.frame.made (start held) (tasks_to_feed m b) steps) (holding-shown m old)
              ∙ mean.timely;
          bounded = subst (λ (c : Config). IsTrue (is_bounded c r.left)) config-stays (sound.bounded r.left r.stands);
          draws = mean.draws;
          ordered = λ places order plain agrees.
              let a = leads-order (making_of before.frame) (start held) ends tasks steps before behind r.leads places order plain agrees in (
                a.0,
                subst (λ o. HaveKeys config (suc places) order (fed o) (fed_tasks o) steps) (sym found)
                    (subst (λ b. HaveKeys config (suc places) order (start held) (tasks_to_feed m b) steps) (sym (holding-shown m old)) a.1),
              );
        },
      )

  pub turns-fed : IsSoundStore before → IsSoundStore behind → under_way left ≡ when_left (is_none new.closing) m (under_way new_base.loads) → SameTaken base.loads new_base.loads → SameTaken new_base.loads left
      → ContinuesBy view tape (state_of base latest cs) (state_of (record new_base { loads = left }) (max moment latest) (slice_set cs i (Here new))) (feeding m piece moment) is_held
  turns-fed sound_before sound leaves goes leaves_goes = record {
    turned = λ s st. subst (λ x. (entry : Record) × IsRecordOf (feeding m piece moment) is_held entry × Turned view tape (state_of base latest cs) (state_of (record new_base { loads = left }) (max moment latest) (slice_set cs i (Here new))) x entry) (sym st.is)
        (turned-fed sound leaves st.held st.stands);
    stays = record {
      config = config-stays;
      part_of = ap (λ (f : Frame). f.part_of) turn.ran.frame.rest;
      made = ap (λ (f : Frame). f.made) turn.ran.frame.rest;
      namespace = leaves_goes.namespace ∙ goes.namespace;
      taken = leaves_goes.taken ∙ goes.taken;
      sends =
          let x = turned-fed sound leaves sound_before.some sound_before.stands in
          sends-behind view tape base (record new_base { loads = left }) latest (max moment latest) cs (slice_set cs i (Here new)) _ x.0 (record { held = sound_before.some; stands = sound_before.stands; is = refl }) x.2
          (taken-on goes leaves_goes);
    };
  }

-- the same, by the places before and behind
pub fed-turns : {S T : Type 0} (view : S → Values) (tape : T → Option Taped) (base new_base : Base S T) (left : Loads) (latest now m i moment : ℕ) (cs ds : List Presence) (piece : List ℕ) (is_held : Bool) (p : ReplacedAt cs ds i)
    → m ≡ i + 1 → now ≡ max moment latest → closing_at cs i ≡ None → moment < 2 ^ 63 → IsBetweenEvents view tape (state_of base latest cs) → IsSoundStore (view base.store) → IsSoundStore (view new_base.store)
    → under_way left ≡ when_left (is_none (closing_at ds i)) m (under_way new_base.loads) → SameTaken base.loads new_base.loads → SameTaken new_base.loads left
    → FedTurn now (i + 1) moment p.was piece p.is is_held (seen_at view tape base cs i) (seen_at view tape new_base ds i)
    → ContinuesBy view tape (state_of base latest cs) (state_of (record new_base { loads = left }) now ds) (feeding m piece moment) is_held × IsBetweenEvents view tape (state_of (record new_base { loads = left }) now ds)
fed-turns {S} {T} view tape base new_base left latest now m i moment cs ds piece is_held p number_is at_now open_at low order sound sound_behind leaves goes leaves_goes turn =
    subst Goal_m (sym next_is) (subst Goal_now (sym at_now) (subst Goal_ds (sym p.set) core)) (subst (λ k. FedTurn now k moment p.was piece p.is is_held (seen_at view tape base cs i) (seen_at view tape new_base ds i)) (sym number_is) turn)
    (leaves ∙ ap (λ o. when_left (is_none o) m (under_way new_base.loads)) (closing-is ds i p.is (replaced-is cs ds i p)))
  where
    next_is : m ≡ suc i
    next_is = omega (arith, number_is)

    behind_at : ℕ → List Presence → NamespaceState S T
    behind_at n xs = state_of (record new_base { loads = left }) n xs

    Goal : ℕ → ℕ → List Presence → Type 0
    Goal k n xs =
        FedTurn n k moment p.was piece p.is is_held (seen_at view tape base cs i) (seen_at view tape new_base xs i) → under_way left ≡ when_left (is_none p.is.closing) k (under_way new_base.loads)
        → ContinuesBy view tape (state_of base latest cs) (behind_at n xs) (feeding k piece moment) is_held × IsBetweenEvents view tape (behind_at n xs)

    Goal_m : ℕ → Type 0
    Goal_m k = Goal k now ds

    Goal_now : ℕ → Type 0
    Goal_now n = Goal (suc i) n ds

    Goal_ds : List Presence → Type 0
    Goal_ds xs = Goal (suc i) (max moment latest) xs

    core : Goal_ds (slice_set cs i (Here p.is))
    core f l =
        let is_open : p.was.closing ≡ None = sym (closing-is cs i p.was p.at) ∙ open_at in
        let turned = turned-fed view tape base new_base left latest i moment cs p.was p.is piece is_held p.at is_open low order.rests f sound_behind l sound.some sound.stands in
        let last = order.moment in (
          turns-fed view tape base new_base left latest i moment cs p.was p.is piece is_held p.at is_open low order.rests f sound sound_behind l goes leaves_goes,
          order-turned view tape (state_of base latest cs) (behind_at (max moment latest) (slice_set cs i (Here p.is))) _ turned.0 (record { held = sound.some; stands = sound.stands; is = refl }) turned.2 order (ap (λ (fr : Frame). fr.config) f.ran.frame.rest) f.ran.frame.latest (omega (arith, low, last)),
        )
