-- What is moved out of a service, and what an input adds to it.
use Rattle.std.proofs.Common.{◌&&◌, drop, is_none, ◌≡◌, ◌≢◌, ℕ, zero, suc, ◌-◌, ◌<◌, ◌==◌, Bool, true, false, List, [], ◌∷◌, ◌++◌, length, map, Option, None, Some, refl, sym, ap, ◌∙◌, subst, arith, inl, inr, ◌⊎◌, Vec, Global}
use Rattle.std.specs.Prelude.{slice_set, Result, Ok, Err, OnErr, OnOk, IfOk, MatchOption, IfSome, is_some, if◌then◌else◌, unwrap_or, nat_lt, nat_le}
use Rattle.std.specs.List.{flat_map, slice_get}
use Rattle.std.specs.Option.{option_map, option_map_or, option_to_list}
use Rattle.std.proofs.Math.Seq.{drop-append_seam}
use Rattle.std.proofs.lemmas.Bool.{and_parts, cases_eq, eq-eqb, ltb-true, ne_eqb}
use Rattle.std.proofs.lemmas.List.{append-nil, length-map, map-set, set-set}
use Rattle.std.proofs.lemmas.Option.{none-some, same_Some, slice_get_within}
use Rattle.audit_laws.proofs.Following.{passed}
use Rattle.audit_laws.specs.declared.receipts.output.Output.{Output}
use Rattle.audit_model.specs.Belongs.{refusal_of}
use Rattle.audit_model.specs.Bytewise.{is_empty}
use Rattle.audit_model.specs.Follows.{Follows, after_event, after_steps, known_in, tasks_in}
use Rattle.audit_model.specs.Obeys.{has_right_own_value, is_numbered}
use Rattle.audit_model.specs.Places.{steps_of}
use Rattle.audit_model.specs.Situation.{Situation}
use Rattle.audit_model.specs.declared.config.Config.{Config}
use Rattle.audit_model.specs.declared.event.Event.{Event}
use Rattle.audit_model.specs.declared.event.Event.TheVariants as event
use Rattle.audit_model.specs.declared.transcript.Accepted.{Accepted}
use Rattle.audit_model.specs.declared.input.Conn.{Conn}
use Rattle.audit_model.specs.declared.input.Input.{Input}
use Rattle.audit_model.specs.declared.input.LoadId.{LoadId}
use Rattle.audit_model.specs.declared.input.ServiceError.{ServiceError}
use Rattle.audit_model.specs.declared.transcript.Note.{Note}
use Rattle.audit_model.specs.declared.transcript.Record.{Record}
use Rattle.audit_model.specs.declared.transcript.Step.{Step}
use Rattle.audit_model.specs.declared.transcript.Transcript.{Transcript}
use Rattle.cache_core.proofs.connections.Getting.{at-mapped, at-other, at-replaced}
use Rattle.cache_core.specs.Owing.{GivesWanted, without_output}
use Rattle.cache_core.specs.Turned.{notes_in, replies_to}
use Rattle.cache_core.specs.declared.owing.Owed.{Owed}
use Rattle.cache_lines.specs.Tape.Taped.{Taped, with_entry}
use Rattle.cache_spaces.proofs.Journaling.{journal-at}
use Rattle.cache_spaces.proofs.Placing.{at-is, at-map, at-others, fact-here}
use Rattle.cache_spaces.proofs.Reaching.{at-shown, performs-shown}
use Rattle.cache_spaces.proofs.Reading.{same-conn}
use Rattle.cache_spaces.specs.Calls as calls
use Rattle.cache_spaces.specs.Calls.{At, InSpace, IsOpened, IsUnknown, Performs, PerformsFrom, Refuses, TakesLoads, TakesNotice, TakesOutput, namespace_of}
use Rattle.cache_spaces.specs.Cursors.{lists_joined, lists_of, notes_from, notes_of_records, records_at, replies_for, reply_for, taken_through}
use Rattle.cache_spaces.specs.Journals.{journals_of, kept_by}
use Rattle.cache_spaces.specs.Played.{journal_of}
use Rattle.cache_spaces.specs.Recorded.{GainsRecord, Recorded, TakesNote, TakesReplies, cursor_in, gained_in, records_in, untaken_in, untold_in}
use Rattle.cache_spaces.specs.Services.{BareSpace, bare_tape}
use Rattle.cache_spaces.specs.Spaces.{Shown, Space, closing_of, config_of, is_waiting_for, untaken_notes, outgoing_of, shown_space, shown_tape, untaken_output}
use Rattle.cache_shared.proofs.Performing.{first-note, loads-leave, loads-shown, no-note}
use Rattle.cache_shared.specs.Events.{IsReachedFrom, configs_of}
use Rattle.cache_shared.specs.Looked.{HeldAtSomeMoment, IsOwedIn, IsWhatIsOwed, MovesNotes, Owes, WereOut, WereUntaken, nothing_owed}
use Rattle.cache_shared.specs.Recordings.{bare_spaces, spaces_in, untaken_of, untold_of}
use Rattle.cache_shared.specs.Taken.{GainsFrom, KeepsNotes, MovesAll, MovesLoads, MovesNote, MovesNotesOf, MovesOwed, MovesReplies, TakesInput, outgoing_in}

-- ---- what is seen of the namespace with a number

module _ {X Y : Type 0} (of : X → List Y) where
  abbrev seen : List X → ℕ → List Y
  seen xs k = option_map_or of (slice_get xs k) []

  seen-at : (xs : List X) (k : ℕ) (x : X) → slice_get xs k ≡ Some x → seen xs k ≡ of x
  seen-at xs k x at = ap (λ o. option_map_or of o []) at

  seen-other : {F : X → X → Type 0} (old new : List X) (n k : ℕ) → At old new n F → k ≢ n → seen new k ≡ seen old k
  seen-other old new n k a ne = ap (λ o. option_map_or of o []) (at-others old new n k a ne)

  -- in one place something was added
  seen-more : {F : X → X → Type 0} (old new : List X) (n : ℕ) (a : At old new n F) (added : List Y) → of a.is ≡ of a.was ++ added → (k : ℕ) → seen new k ≡ seen old k ++ (if k == n then added else [])
  seen-more {F} old new n a added more k = go (cases_eq k n)
    where
      go : (k ≡ n) ⊎ (k ≢ n) → seen new k ≡ seen old k ++ (if k == n then added else [])
      go (inl here) =
          subst (λ b. seen new k ≡ seen old k ++ (if b then added else [])) (sym (eq-eqb k n here))
          (ap (seen new) here ∙ seen-at new n a.is (at-is F old new n a) ∙ more ∙ ap (λ l. l ++ added) (sym (ap (seen old) here ∙ seen-at old n a.was a.at)))
      go (inr ne) = subst (λ b. seen new k ≡ seen old k ++ (if b then added else [])) (sym (ne_eqb k n ne)) (seen-other old new n k a ne ∙ sym (append-nil (seen old k)))

  -- everywhere the same
  seen-kept : (old new : List X) (n : ℕ) → At old new n (λ was is. of is ≡ of was) → (k : ℕ) → seen new k ≡ seen old k
  seen-kept old new n a k = go (cases_eq k n)
    where
      go : (k ≡ n) ⊎ (k ≢ n) → seen new k ≡ seen old k
      go (inl here) = ap (seen new) here ∙ seen-at new n a.is (at-is (λ was is. of is ≡ of was) old new n a) ∙ a.fact ∙ sym (ap (seen old) here ∙ seen-at old n a.was a.at)
      go (inr ne) = seen-other old new n k a ne

-- ---- what a connection is owed

own-moved : {X : Type 0} (given : Option (Vec X Global)) (w x y z : List X) → x ≡ w → z ≡ y → MatchOption given (y ≡ x) (λ l. (l.items ≡ x) × (y ≡ [])) → MatchOption given (z ≡ w) (λ l. (l.items ≡ w) × (z ≡ []))
own-moved None w x y z before after e = after ∙ e ∙ before
own-moved (Some l) w x y z before after e = (e.0 ∙ before, after ∙ e.1)

told-of : {X : Type 0} (A B : Type 0) (given : Option (Vec X Global)) (all there : List X) → all ≡ there → MatchOption given A (λ l. (l.items ≡ all) × B) → IfSome given (λ l. l.items ≡ there)
told-of A B None all there same e = tt
told-of A B (Some l) all there same e = e.0 ∙ same

none-where : {X : Type 0} (o : Option X) → is_some o ≡ false → o ≡ None
none-where None e = refl
none-where (Some x) e = let no : true ≡ false = e in cc

-- a namespace that was there is there
pub still-there : (old new : List Shown) (n : ℕ) (space : Shown) → configs_of new ≡ configs_of old → slice_get old n ≡ Some space → n < length new
still-there old new n space same at =
    let long : length old ≡ length new = sym (length-map old config_of) ∙ sym (ap (λ cs. length cs) same) ∙ length-map new config_of in
    subst (λ m. n < m) long (slice_get_within old n space at)

module _ {C : Type 0} (spaces : C → List Shown) (untaken : C → Conn → List ℕ) (untold : C → ℕ → List Note) where
  -- loads, if any are given
  record LoadsOut (old new : C) (n : ℕ) (loads : Option (Vec (LoadId × List ℕ) Global)) : Type 0 where
    own : MatchOption loads (outgoing_in (spaces new) n ≡ outgoing_in (spaces old) n) (λ l. (l.items ≡ outgoing_in (spaces old) n) × (outgoing_in (spaces new) n ≡ []))
    others : (other : ℕ) → other ≢ n → outgoing_in (spaces new) other ≡ outgoing_in (spaces old) other
    replies : (conn : Conn) → untaken new conn ≡ untaken old conn
    notes : (other : ℕ) → untold new other ≡ untold old other

  loads-out : (old new : C) (n : ℕ) (loads : Option (Vec (LoadId × List ℕ) Global)) → MatchOption loads (new ≡ old) (λ l. MovesLoads spaces untaken untold old new n l.items) → LoadsOut old new n loads
  loads-out old new n None same = record {
    own = ap (λ c. outgoing_in (spaces c) n) same;
    others = λ other ne. ap (λ c. outgoing_in (spaces c) other) same;
    replies = λ conn. ap (λ c. untaken c conn) same;
    notes = λ other. ap (λ c. untold c other) same;
  }
  loads-out old new n (Some l) moved =
      let a = moved.all in
      let is = at-is (λ was is. TakesLoads was is l.items) (spaces old) (spaces new) n a in record {
        own = (a.fact.taken ∙ sym (seen-at outgoing_of (spaces old) n a.was a.at), seen-at outgoing_of (spaces new) n a.is is ∙ ap outgoing_of a.fact.rest);
        others = λ other ne. seen-other outgoing_of (spaces old) (spaces new) n other a ne;
        replies = moved.replies;
        notes = moved.notes;
      }

  -- replies, if any are given
  record TextOut (old new : C) (conn : Conn) (text : Option (Vec ℕ Global)) : Type 0 where
    own : MatchOption text (untaken new conn ≡ untaken old conn) (λ t. (t.items ≡ untaken old conn) × (untaken new conn ≡ []))
    others : (other : Conn) → other ≢ conn → untaken new other ≡ untaken old other
    notes : (other : ℕ) → untold new other ≡ untold old other
    loads : (other : ℕ) → outgoing_in (spaces new) other ≡ outgoing_in (spaces old) other

  text-out : (old new : C) (conn : Conn) (text : Option (Vec ℕ Global)) → MatchOption text (new ≡ old) (λ t. MovesReplies spaces untaken untold old new conn t.items) → TextOut old new conn text
  text-out old new conn None same = record {
    own = ap (λ c. untaken c conn) same;
    others = λ other ne. ap (λ c. untaken c other) same;
    notes = λ other. ap (λ c. untold c other) same;
    loads = λ other. ap (λ c. outgoing_in (spaces c) other) same;
  }
  text-out old new conn (Some t) moved = record { own = (moved.all, moved.none); others = moved.others; notes = moved.notes; loads = moved.loads }

  -- replies and then loads
  pub moves-parts : (a b c : C) (conn : Conn) (owed : Owed) → MatchOption owed.replies (b ≡ a) (λ t. MovesReplies spaces untaken untold a b conn t.items)
      → MatchOption owed.loads (c ≡ b) (λ l. MovesLoads spaces untaken untold b c conn.namespace l.items) → MovesOwed spaces untaken untold a c conn owed × KeepsNotes spaces untaken untold a c
  moves-parts a b c conn owed replies loads =
      let n = conn.namespace in
      let t = text-out a b conn owed.replies replies in
      let l = loads-out b c n owed.loads loads in (
        record {
          replies = own-moved owed.replies (untaken a conn) (untaken a conn) (untaken b conn) (untaken c conn) refl (l.replies conn) t.own;
          loads = own-moved owed.loads (outgoing_in (spaces a) n) (outgoing_in (spaces b) n) (outgoing_in (spaces c) n) (outgoing_in (spaces c) n) (t.loads n) refl l.own;
          other_replies = λ other ne. l.replies other ∙ t.others other ne;
          other_loads = λ other ne. l.others other ne ∙ t.loads other;
          other_notes = λ other ne. l.notes other ∙ t.notes other;
        },
        λ other. l.notes other ∙ t.notes other,
      )

  -- and this is what it was owed
  pub owed-parts : (old new : C) (conn : Conn) (wants : Bool) (owed : Owed) → MovesOwed spaces untaken untold old new conn owed → InSpace (spaces old) conn.namespace (λ space. IsOpened space conn.number × (owed.closing ≡ closing_of space conn.number))
      → InSpace (spaces old) conn.namespace (λ space. IsOpened space conn.number × (owed.waits ≡ is_waiting_for space conn.number)) → is_some owed.loads ≡ wants → InSpace (spaces old) conn.namespace (λ space. IsWhatIsOwed space conn.number wants owed)
  owed-parts old new conn wants owed moved i j wanted = record {
    space = i.space;
    at = i.at;
    fact = record {
      opened = i.fact.0;
      loads = told-of _ _ owed.loads (outgoing_in (spaces old) conn.namespace) (outgoing_of i.space) (seen-at outgoing_of (spaces old) conn.namespace i.space i.at) moved.loads;
      wanted = wanted;
      closing = i.fact.1;
      waits = (fact-here (λ space. IsOpened space conn.number × (owed.waits ≡ is_waiting_for space conn.number)) (spaces old) conn.namespace i.space i.at j).1;
    };
  }

  -- what it was owed, and then notes
  pub moves-owed : (a b c : C) (conn : Conn) (wants : Bool) (owed : Owed) (behind behind' : List Note) → MovesOwed spaces untaken untold a b conn owed → KeepsNotes spaces untaken untold a b → IsOwedIn conn wants owed (spaces a)
      → MovesNotesOf spaces untaken untold b c conn.namespace → MovesNotes behind behind' (untold b conn.namespace) (untold c conn.namespace) → MovesAll spaces untaken untold a c conn wants owed behind behind'
  moves-owed a b c conn wants owed behind behind' moves kept told notes moved =
      let n = conn.namespace in record {
        owed = record {
          replies = own-moved owed.replies (untaken a conn) (untaken a conn) (untaken b conn) (untaken c conn) refl (notes.replies conn) moves.replies;
          loads = own-moved owed.loads (outgoing_in (spaces a) n) (outgoing_in (spaces a) n) (outgoing_in (spaces b) n) (outgoing_in (spaces c) n) refl (notes.loads n) moves.loads;
          other_replies = λ other ne. notes.replies other ∙ moves.other_replies other ne;
          other_loads = λ other ne. notes.loads other ∙ moves.other_loads other ne;
          other_notes = λ other ne. notes.others other ne ∙ kept other;
        };
        told = told;
        notes = subst (λ l. MovesNotes behind behind' l (untold c n)) (kept n) moved;
      }

  -- if the connection is unknown, nothing is
  pub moves-nothing : (a b c : C) (conn : Conn) (wants : Bool) (behind behind' : List Note) → b ≡ a → (e : ServiceError) → Refuses (spaces a) conn.namespace e (λ space. IsUnknown space conn.number e)
      → MovesNotesOf spaces untaken untold b c conn.namespace → MovesNotes behind behind' (untold b conn.namespace) (untold c conn.namespace) → MovesAll spaces untaken untold a c conn wants nothing_owed behind behind'
  moves-nothing a b c conn wants behind behind' same e refused notes moved =
      let parts = moves-parts a a b conn nothing_owed refl same in
      moves-owed a b c conn wants nothing_owed behind behind' parts.0 parts.1 (inr (e, refused, refl)) notes moved

-- what was due at some moment
module _ {C : Type 0} (configs : List Config) (spaces : C → List Shown) (untaken : C → Conn → List ℕ) (untold : C → ℕ → List Note) (old new : C) (events : ℕ) (reached : IsReachedFrom configs (spaces old) events) (conn : Conn) where
  replies-due : (text : Option (Vec ℕ Global)) → MatchOption text (untaken new conn ≡ untaken old conn) (λ t. (t.items ≡ untaken old conn) × (untaken new conn ≡ [])) → IfSome text (λ t. WereUntaken configs spaces untaken conn t.items)
  replies-due None e = tt
  replies-due (Some t) e = record { core = old; events = events; reached = reached; same = e.0 }

  pub owes-due : (wants : Bool) (owed : Owed) → MovesOwed spaces untaken untold old new conn owed → IsOwedIn conn wants owed (spaces old) → Owes configs spaces untaken conn wants owed
  owes-due wants owed moved told = record { replies = replies-due owed.replies moved.replies; told = record { core = old; events = events; reached = reached; fact = told } }

-- the loads among it, which are there only where they are requested
module _ {C : Type 0} (configs : List Config) (spaces : C → List Shown) (conn : Conn) (wants : Bool) where
  pub owed-out : (owed : Owed) → HeldAtSomeMoment configs spaces (IsOwedIn conn wants owed) → IfSome owed.loads (λ loads. WereOut configs spaces conn.namespace loads.items)
  owed-out owed held = go owed.loads (out-of owed held.fact)
    where
      Out : Option (Vec (LoadId × List ℕ) Global) → Type 0
      Out loads = IfSome loads (λ l. InSpace (spaces held.core) conn.namespace (λ space. l.items ≡ outgoing_of space))

      here : (loads : Option (Vec (LoadId × List ℕ) Global)) (space : Shown) → slice_get (spaces held.core) conn.namespace ≡ Some space → IfSome loads (λ l. l.items ≡ outgoing_of space) → Out loads
      here None space at same = tt
      here (Some l) space at same = record { space = space; at = at; fact = same }

      out-of : (o : Owed) → IsOwedIn conn wants o (spaces held.core) → Out o.loads
      out-of o (inl i) = here o.loads i.space i.at i.fact.loads
      out-of o (inr n) = subst (λ (p : Owed). Out p.loads) (sym n.2) tt

      go : (loads : Option (Vec (LoadId × List ℕ) Global)) → Out loads → IfSome loads (λ l. WereOut configs spaces conn.namespace l.items)
      go None out = tt
      go (Some l) out = record { core = held.core; events = held.events; reached = held.reached; out = out }

  pub owed-unwanted : (owed : Owed) (all : List Shown) → IsOwedIn conn wants owed all → wants ≡ false → owed.loads ≡ None
  owed-unwanted owed all (inl i) unwanted = none-where owed.loads (i.fact.wanted ∙ unwanted)
  owed-unwanted owed all (inr n) unwanted = ap (λ (o : Owed). o.loads) n.2

-- ---- takings of a service that keeps no journal

-- replies in a list, after those in one place were taken
text-set : (xs : List (List ℕ)) (k : ℕ) → unwrap_or (slice_get (slice_set xs k []) k) [] ≡ []
text-set [] zero = refl
text-set [] (suc k) = refl
text-set (x ∷ xs) zero = refl
text-set (x ∷ xs) (suc k) = text-set xs k

output-none : (was is : BareSpace) (number : ℕ) (text : List ℕ) → TakesOutput was is number text → untaken_output is number ≡ []
output-none was is zero text t = refl
output-none was is (suc place) text t =
    let e : suc place - 1 ≡ place = omega arith in
    ap (λ (s : BareSpace). untaken_output s (suc place)) t.rest ∙ ap (λ k. unwrap_or (slice_get (slice_set was.outputs k []) place) []) e ∙ text-set was.outputs place

output-other : (was is : BareSpace) (number : ℕ) (text : List ℕ) → TakesOutput was is number text → (other : ℕ) → other ≢ number → untaken_output is other ≡ untaken_output was other
output-other was is number text t zero ne = refl
output-other was is number text t (suc place) ne =
    let opened = ltb-true 0 number (and_parts (nat_lt 0 number) (nat_le number (length was.closings)) t.opened).0 in
    let apart : place ≢ number - 1 = λ same. ne (omega (arith, same, opened)) in
    ap (λ (s : BareSpace). untaken_output s (suc place)) t.rest ∙ ap (λ (o : Option (List ℕ)). unwrap_or o []) (at-other was.outputs place (number - 1) [] apart)

module _ (n : ℕ) {F : BareSpace → BareSpace → Type 0} (old new : List BareSpace) (a : At old new n F) where
  -- what such a taking leaves
  notes-kept : ((was is : BareSpace) → F was is → untaken_notes is ≡ untaken_notes was) → (k : ℕ) → untold_of new k ≡ untold_of old k
  notes-kept same = seen-kept untaken_notes old new n (at-map F (λ was is. untaken_notes is ≡ untaken_notes was) old new n a same)

  texts-kept : ((number : ℕ) (was is : BareSpace) → F was is → untaken_output is number ≡ untaken_output was number) → (conn : Conn) → untaken_of new conn ≡ untaken_of old conn
  texts-kept same conn =
      let of : BareSpace → List ℕ = λ space. untaken_output space conn.number in
      seen-kept of old new n (at-map F (λ was is. of is ≡ of was) old new n a (same conn.number)) conn.namespace

  loads-kept : ((was is : BareSpace) → F was is → outgoing_of is ≡ outgoing_of was) → (k : ℕ) → outgoing_in (bare_spaces new) k ≡ outgoing_in (bare_spaces old) k
  loads-kept same = seen-kept outgoing_of (bare_spaces old) (bare_spaces new) n (at-shown (shown_space bare_tape) old new n same a)

pub bare-replies : (conn : Conn) (old new : List BareSpace) (r : Result (Vec ℕ Global) ServiceError) → IfOk r (λ text. At old new conn.namespace (λ was is. TakesOutput was is conn.number text.items))
    → IfOk r (λ text. MovesReplies bare_spaces untaken_of untold_of old new conn text.items)
bare-replies conn old new (Err e) taken = taken
bare-replies conn old new (Ok text) a = record {
  known = record { space = shown_space bare_tape a.was; at = at-mapped (shown_space bare_tape) old n a.was a.at; fact = a.fact.opened };
  all = a.fact.taken ∙ sym (seen-at own old n a.was a.at);
  none = seen-at own new n a.is (at-is F old new n a) ∙ output-none a.was a.is conn.number text.items a.fact;
  others = λ other ne. go other ne (cases_eq other.namespace n);
  notes = notes-kept n old new a (λ was is t. ap untaken_notes t.rest);
  loads = loads-kept n old new a (λ was is t. ap outgoing_of t.rest);
}
  where
    n : ℕ
    n = conn.namespace

    F : BareSpace → BareSpace → Type 0
    F was is = TakesOutput was is conn.number text.items

    own : BareSpace → List ℕ
    own space = untaken_output space conn.number

    go : (other : Conn) → other ≢ conn → (other.namespace ≡ n) ⊎ (other.namespace ≢ n) → untaken_of new other ≡ untaken_of old other
    go other ne (inl here) =
        let of : BareSpace → List ℕ = λ space. untaken_output space other.number in
        seen-kept of old new n (at-map F (λ was is. of is ≡ of was) old new n a (λ was is t. output-other was is conn.number text.items t other.number (λ same. ne (same-conn other conn here same)))) other.namespace
    go other ne (inr apart) = seen-other (λ (space : BareSpace). untaken_output space other.number) old new n other.namespace a apart

pub bare-note : (n : ℕ) (old new : List BareSpace) (r : Result (Option Note) ServiceError) → IfOk r (λ note. At old new n (λ was is. TakesNotice was is note))
    → IfOk r (λ note. MovesNote bare_spaces untaken_of untold_of old new n note)
bare-note n old new (Err e) taken = taken
bare-note n old new (Ok note) a =
    let before = seen-at untaken_notes old n a.was a.at in
    let behind = seen-at untaken_notes new n a.is (at-is (λ was is. TakesNotice was is note) old new n a) in record {
      there = subst (λ k. n < k) (sym (length-map old (shown_space bare_tape))) (slice_get_within old n a.was a.at);
      first = before ∙ first-note note a.was a.is a.fact ∙ ap (λ l. option_to_list note ++ l) (sym behind);
      none = λ none. before ∙ no-note note a.was a.is a.fact none;
      rest = record {
        others = λ other ne. seen-other untaken_notes old new n other a ne;
        replies = texts-kept n old new a (λ number was is t. ap (λ (s : BareSpace). untaken_output s number) t.rest);
        loads = loads-kept n old new a (λ was is t. ap outgoing_of t.rest);
      };
    }

pub bare-loads : (n : ℕ) (old new : List BareSpace) (r : Result (Vec (LoadId × List ℕ) Global) ServiceError) → IfOk r (λ loads. At old new n (λ was is. TakesLoads was is loads.items))
    → IfOk r (λ loads. At (bare_spaces old) (bare_spaces new) n (λ was is. TakesLoads was is loads.items)) → IfOk r (λ loads. MovesLoads bare_spaces untaken_of untold_of old new n loads.items)
bare-loads n old new (Err e) taken seen = taken
bare-loads n old new (Ok loads) a seen = record {
  all = seen;
  replies = texts-kept n old new a (λ number was is t. ap (λ (s : BareSpace). untaken_output s number) t.rest);
  notes = notes-kept n old new a (λ was is t. ap untaken_notes t.rest);
}

-- what a connection is owed
wanted-moved : (n number : ℕ) (old new : List BareSpace) (was is : BareSpace) (loads : Option (Vec (LoadId × List ℕ) Global)) → slice_get old n ≡ Some was → new ≡ slice_set old n is
    → GivesWanted (without_output number was) is (option_map (λ l. l.items) loads)
    → MatchOption loads (new ≡ slice_set old n (without_output number was)) (λ l. MovesLoads bare_spaces untaken_of untold_of (slice_set old n (without_output number was)) new n l.items)
wanted-moved n number old new was is None at set same = set ∙ ap (slice_set old n) same
wanted-moved n number old new was is (Some loads) at set gives =
    let told = without_output number was in
    let mid = slice_set old n told in
    let a : At mid new n (λ x y. TakesLoads x y loads.items) = record {
      was = told;
      is = is;
      at = at-replaced old n told (slice_get_within old n was at);
      set = set ∙ sym (set-set old n told is);
      fact = record { taken = gives.taken; rest = gives.rest; in_turn = gives.in_turn; keys = gives.keys };
    } in
    bare-loads n mid new (Ok loads) a (loads-shown bare_tape n mid new (Ok loads) a)

replies-moved : (conn : Conn) (old : List BareSpace) (was : BareSpace) (text : Option (Vec ℕ Global)) → slice_get old conn.namespace ≡ Some was → IsOpened was conn.number
    → option_map (λ t. t.items) text ≡ Some (untaken_output was conn.number)
    → MatchOption text (slice_set old conn.namespace (without_output conn.number was) ≡ old) (λ t. MovesReplies bare_spaces untaken_of untold_of old (slice_set old conn.namespace (without_output conn.number was)) conn t.items)
replies-moved conn old was None at opened is = absurd (none-some _ is)
replies-moved conn old was (Some text) at opened is =
    let told = without_output conn.number was in
    bare-replies conn old (slice_set old conn.namespace told) (Ok text)
    (record { was = was; is = told; at = at; set = refl; fact = record { opened = opened; taken = same_Some text.items _ is; rest = refl } })

module _ (conn : Conn) (wants : Bool) (old new : List BareSpace) where
  abbrev Given : BareSpace → BareSpace → Owed → Type 0
  Given was is owed = calls.GivesConnectionOwed was is conn.number wants owed

  owed-moved : (owed : Owed) → At old new conn.namespace (λ was is. Given was is owed) → MovesOwed bare_spaces untaken_of untold_of old new conn owed × KeepsNotes bare_spaces untaken_of untold_of old new
  owed-moved owed a =
      let told = slice_set old conn.namespace (without_output conn.number a.was) in
      moves-parts bare_spaces untaken_of untold_of old told new conn owed
      (replies-moved conn old a.was owed.replies a.at a.fact.0 a.fact.1.replies)
      (wanted-moved conn.namespace conn.number old new a.was a.is owed.loads a.at a.set a.fact.1.loads)

  pub bare-owed : (r : Result Owed ServiceError) → IfOk r (λ owed. At old new conn.namespace (λ was is. Given was is owed)) → IfOk r (λ owed. MovesOwed bare_spaces untaken_of untold_of old new conn owed)
  bare-owed (Ok owed) a = (owed-moved owed a).0
  bare-owed (Err e) a = a

  pub bare-notes : (r : Result Owed ServiceError) → IfOk r (λ owed. At old new conn.namespace (λ was is. Given was is owed)) → OnErr r (new ≡ old) → KeepsNotes bare_spaces untaken_of untold_of old new
  bare-notes (Ok owed) a same = (owed-moved owed a).1
  bare-notes (Err e) a same = λ other. ap (λ spaces. untold_of spaces other) same

  pub bare-told : (r : Result Owed ServiceError) → IfOk r (λ owed. At old new conn.namespace (λ was is. Given was is owed))
      → IfOk r (λ owed. InSpace (bare_spaces old) conn.namespace (λ space. IsWhatIsOwed space conn.number wants owed))
  bare-told (Err e) a = a
  bare-told (Ok owed) a =
      let at = at-mapped (shown_space bare_tape) old conn.namespace a.was a.at in
      owed-parts bare_spaces untaken_of untold_of old new conn wants owed (owed-moved owed a).0
      (record { space = shown_space bare_tape a.was; at = at; fact = (a.fact.0, a.fact.1.closing) })
      (record { space = shown_space bare_tape a.was; at = at; fact = (a.fact.0, a.fact.1.waits) })
      a.fact.1.wanted

  pub bare-configs : (owed : Owed) (was is : BareSpace) → Given was is owed → config_of is ≡ config_of was
  bare-configs owed was is g = go (option_map (λ l. l.items) owed.loads) g.1.loads
    where
      go : (loads : Option (List (LoadId × List ℕ))) → GivesWanted (without_output conn.number was) is loads → config_of is ≡ config_of was
      go None same = ap config_of same
      go (Some loads) gives = ap config_of gives.rest

-- ---- takings of a recording service

pub kept-replies : (old new : Recorded) (conn : Conn) (r : Result (Vec ℕ Global) ServiceError) → IfOk r (λ text. TakesReplies old new conn text.items) → IfOk r (λ text. MovesReplies spaces_in untaken_in untold_in old new conn text.items)
kept-replies old new conn (Err e) taken = taken
kept-replies old new conn (Ok text) t = record {
  known = record { space = shown_space kept_by t.known.space; at = at-mapped (shown_space kept_by) old.spaces conn.namespace t.known.space t.known.at; fact = t.known.fact };
  all = t.text_is;
  none = t.none;
  others = t.others;
  notes = λ k. (t.notes k).1;
  loads = λ k. ap (λ spaces. outgoing_in (map (shown_space kept_by) spaces) k) t.spaces;
}

pub kept-note : (old new : Recorded) (n : ℕ) (r : Result (Option Note) ServiceError) → IfOk r (TakesNote old new n) → OnOk r (n < length old.spaces) → IfOk r (λ note. MovesNote spaces_in untaken_in untold_in old new n note)
kept-note old new n (Err e) taken there = taken
kept-note old new n (Ok note) t there = record {
  there = subst (λ k. n < k) (sym (length-map old.spaces (shown_space kept_by))) there;
  first = t.left;
  none = t.none;
  rest = record {
    others = λ other ne. (t.others other ne).1;
    replies = t.replies;
    loads = λ k. ap (λ spaces. outgoing_in (map (shown_space kept_by) spaces) k) t.spaces;
  };
}

pub kept-loads : (old new : Recorded) (n : ℕ) (r : Result (Vec (LoadId × List ℕ) Global) ServiceError) → IfOk r (λ loads. At old.spaces new.spaces n (λ was is. TakesLoads was is loads.items))
    → IfOk r (λ loads. At (spaces_in old) (spaces_in new) n (λ was is. TakesLoads was is loads.items)) → OnErr r (new.spaces ≡ old.spaces) → new.cursors ≡ old.cursors
    → IfOk r (λ loads. MovesLoads spaces_in untaken_in untold_in old new n loads.items)
kept-loads old new n (Err e) taken seen none cursors = taken
kept-loads old new n (Ok loads) taken seen none cursors =
    let journals = loads-leave n old.spaces new.spaces (Ok loads) taken none in record {
      all = seen;
      replies = λ conn.
          let k = conn.namespace in
          ap (λ js. replies_for conn.number (drop-through new conn (records_at js k))) journals
          ∙ ap (λ cs. replies_for conn.number (drop-through (record { spaces = old.spaces; cursors = cs }) conn (records_at (journals_of old.spaces) k))) cursors;
      notes = λ k.
          ap (λ js. notes_from (records_at js k) (cursor_in new k).notes) journals
          ∙ ap (λ cs. notes_from (records_at (journals_of old.spaces) k) (cursor_in (record { spaces = old.spaces; cursors = cs }) k).notes) cursors;
    }
  where
    drop-through : Recorded → Conn → List Record → List Record
    drop-through recorded conn records = drop (taken_through (cursor_in recorded conn.namespace) conn.number) records

-- ---- what an input adds

-- the replies of a connection in a record
own-steps-replies : (number : ℕ) (steps : List Step) → flat_map (reply_for number) steps ≡ replies_to number steps
own-steps-replies number [] = refl
own-steps-replies number (x ∷ xs) = let more = own-steps-replies number xs in grind (arith, more)

replies-one : (number : ℕ) (entry : Record) → replies_for number (entry ∷ []) ≡ replies_to number entry.steps
replies-one number entry = append-nil (flat_map (reply_for number) entry.steps) ∙ own-steps-replies number entry.steps

-- the notes of a record that follows
joined-map : (steps : List Step) → lists_joined (map (λ (step : Step). step.notices) steps) ≡ flat_map (λ (step : Step). step.notices) steps
joined-map [] = refl
joined-map (x ∷ xs) = ap (λ l. x.notices ++ l) (joined-map xs)

empty-is : {A : Type 0} (xs : List A) → is_empty xs ≡ true → xs ≡ []
empty-is [] e = refl
empty-is (x ∷ xs) e = let no : false ≡ true = e in cc

abbrev record_with : Event → Option Accepted → List Note → List Step → Record
record_with happened own notices steps = record { event = happened; own = own; notices = notices; steps = steps }

notes-so : (happened : Event) (own : Option Accepted) (notices : List Note) (steps : List Step) → has_right_own_value (record_with happened own notices steps) ≡ true
    → lists_joined (lists_of (record_with happened own notices steps)) ≡ notes_in (record_with happened own notices steps)
notes-so (event.Answer load outcome moment) own notices steps right = ap (λ l. notices ++ l) (joined-map steps)
notes-so (event.Open conn) own notices steps right = ap (λ l. l ++ lists_joined (map (λ (step : Step). step.notices) steps)) (empty-is notices (and_parts _ (is_empty notices) right).1) ∙ joined-map steps
notes-so (event.Close conn) own notices steps right = ap (λ l. l ++ lists_joined (map (λ (step : Step). step.notices) steps)) (empty-is notices (and_parts _ (is_empty notices) right).1) ∙ joined-map steps
notes-so (event.Feed conn piece moment) own notices steps right = ap (λ l. l ++ lists_joined (map (λ (step : Step). step.notices) steps)) (empty-is notices (and_parts _ (is_empty notices) right).1) ∙ joined-map steps
notes-so (event.GiveUp load moment) own notices steps right = ap (λ l. l ++ lists_joined (map (λ (step : Step). step.notices) steps)) (empty-is notices (and_parts _ (is_empty notices) right).1) ∙ joined-map steps

notes-one : (config : Config) (s t : Situation) (entry : Record) → Follows config s entry t → notes_of_records (entry ∷ []) ≡ notes_in entry
notes-one config s t entry follows =
    let unrefused = is-none-refusal in
    let tests = passed (unrefused && is_numbered s.opened entry.event && has_right_own_value entry) (after_steps config (after_event entry.event s) (tasks_in s entry.event) (steps_of entry)) t follows in
    append-nil (lists_joined (lists_of entry))
    ∙ notes-so entry.event entry.own entry.notices entry.steps (and_parts (unrefused && is_numbered s.opened entry.event) (has_right_own_value entry) tests.test).1
  where
    is-none-refusal : Bool
    is-none-refusal = is_none (refusal_of config (known_in s) entry.event)

no-length : {X : Type 0} (xs : List X) → length xs ≡ 0 → xs ≡ []
no-length [] e = refl
no-length (x ∷ xs) e = absurd (omega arith)

-- an input was taken by a service that keeps no journal
bare-taken : (i : Input) (output : Output) (old new : List BareSpace) → At old new (namespace_of i) (Performs bare_tape i output) → TakesInput bare_spaces untaken_of untold_of i output old new
bare-taken i output old new a = record {
  performed = at-shown (shown_space bare_tape) old new n (λ was is p. performs-shown bare_tape i output was is p) a;
  gained = record {
    was = shown_space bare_tape a.was;
    is = shown_space bare_tape a.is;
    at = at-mapped (shown_space bare_tape) old n a.was a.at;
    set = ap (map (shown_space bare_tape)) a.set ∙ map-set (shown_space bare_tape) old n a.is;
    fact = λ s stands.
        let p = (performs-shown bare_tape i output a.was a.is a.fact).from s stands in record {
          performed = p;
          replies = λ conn. seen-more (λ (space : BareSpace). untaken_output space conn.number) old new n a (replies_to conn.number p.entry.steps) (p.turned.outputs conn.number) conn.namespace;
          notes = seen-more untaken_notes old new n a (notes_in p.entry) p.turned.notes;
        };
  };
}
  where
    n : ℕ
    n = namespace_of i

pub bare-input : {E : Type 0} (i : Input) (r : Result Output E) (old new : List BareSpace) → IfOk r (λ output. At old new (namespace_of i) (Performs bare_tape i output)) → IfOk r (λ output. TakesInput bare_spaces untaken_of untold_of i output old new)
bare-input i (Ok output) old new taken = bare-taken i output old new taken
bare-input i (Err e) old new taken = taken

-- by a recording service
module _ (i : Input) (output : Output) (old new : Recorded) (a : At old.spaces new.spaces (namespace_of i) (Performs kept_by i output)) (gains : GainsRecord (namespace_of i) old new) where
  abbrev own : ℕ
  own = namespace_of i

  records-at : (spaces : List (Space Taped)) (space : Space Taped) → slice_get spaces own ≡ Some space → records_at (journals_of spaces) own ≡ (journal_of space).records
  records-at spaces space at = ap (λ (o : Option Transcript). option_map_or (λ (t : Transcript). t.records) o []) (journal-at spaces own space at)

  none-gained : (k : ℕ) → k ≢ own → gained_in old new k ≡ []
  none-gained k ne = no-length (gained_in old new k) (gains.one k ∙ ap (λ (b : Bool). if b then 1 else 0) (ne_eqb k own ne))

  module _ (s : Situation) (p : PerformsFrom shown_tape i output (shown_space kept_by a.was) (shown_space kept_by a.is) s) where
    journal-is : journal_of a.is ≡ with_entry p.entry (journal_of a.was)
    journal-is = ap (λ (x : Taped). x.journal) (same_Some a.is.tape _ p.turned.kept)

    behind-is : records_in new own ≡ records_in old own ++ p.entry ∷ []
    behind-is =
        records-at new.spaces a.is (at-is (Performs kept_by i output) old.spaces new.spaces own a) ∙ ap (λ (t : Transcript). t.records) journal-is
        ∙ ap (λ rs. rs ++ p.entry ∷ []) (sym (records-at old.spaces a.was a.at))

    -- the record is what its journal gained
    own-gained : gained_in old new own ≡ p.entry ∷ []
    own-gained = ap (drop (length (records_in old own))) behind-is ∙ drop-append_seam (records_in old own) (p.entry ∷ [])

    -- what is made of it
    made-of : {Y : Type 0} (make : List Record → List Y) (k : ℕ) (made : List Y) → make [] ≡ [] → make (p.entry ∷ []) ≡ made → make (gained_in old new k) ≡ (if k == own then made else [])
    made-of {Y} make k made none one = go (cases_eq k own)
      where
        go : (k ≡ own) ⊎ (k ≢ own) → make (gained_in old new k) ≡ (if k == own then made else [])
        go (inl here) =
            subst (λ b. make (gained_in old new k) ≡ (if b then made else [])) (sym (eq-eqb k own here)) (ap (λ m. make (gained_in old new m)) here ∙ ap make own-gained ∙ one)
        go (inr ne) = subst (λ b. make (gained_in old new k) ≡ (if b then made else [])) (sym (ne_eqb k own ne)) (ap make (none-gained k ne) ∙ none)

    gains-from : GainsFrom spaces_in untaken_in untold_in i output old new (shown_space kept_by a.was) (shown_space kept_by a.is) s
    gains-from = record {
      performed = p;
      replies = λ conn.
          gains.replies conn ∙ ap (λ l. untaken_in old conn ++ l) (made-of (replies_for conn.number) conn.namespace (replies_to conn.number p.entry.steps) refl (replies-one conn.number p.entry));
      notes = λ k. gains.notes k ∙ ap (λ l. untold_in old k ++ l) (made-of notes_of_records k (notes_in p.entry) refl (notes-one (config_of a.was) s p.turned.next p.entry p.turned.follows));
    }

  kept-taken : TakesInput spaces_in untaken_in untold_in i output old new
  kept-taken = record {
    performed = at-shown (shown_space kept_by) old.spaces new.spaces own (λ was is p. performs-shown kept_by i output was is p) a;
    gained = record {
      was = shown_space kept_by a.was;
      is = shown_space kept_by a.is;
      at = at-mapped (shown_space kept_by) old.spaces own a.was a.at;
      set = ap (map (shown_space kept_by)) a.set ∙ map-set (shown_space kept_by) old.spaces own a.is;
      fact = λ s stands. gains-from s ((performs-shown kept_by i output a.was a.is a.fact).from s stands);
    };
  }

pub kept-input : {E : Type 0} (i : Input) (r : Result Output E) (old new : Recorded) → IfOk r (λ output. At old.spaces new.spaces (namespace_of i) (Performs kept_by i output)) → OnOk r (GainsRecord (namespace_of i) old new)
    → IfOk r (λ output. TakesInput spaces_in untaken_in untold_in i output old new)
kept-input i (Ok output) old new taken gains = kept-taken i output old new taken gains
kept-input i (Err e) old new taken gains = taken
