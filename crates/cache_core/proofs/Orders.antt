-- What is taken from a namespace, and what it is asked.
use Rattle.std.proofs.Common.{refl, sym, ap, ◌∙◌, arith, subst, ◌≡◌, ℕ, zero, suc, ◌+◌, ◌-◌, ◌<◌, Bool, true, false, ◌&&◌, List, [], ◌∷◌, length, map, Option, Some, None, is_none, slice_set, inl, ◌≤◌, ◌^◌, not, ◌++◌, if◌then◌else◌, nat_lt, nat_le, is_some, ◌⊎◌, MatchOption}
use Rattle.std.proofs.lemmas.Bool.{and_from, le-leb, lt-ltb}
use Rattle.std.proofs.lemmas.List.{append-nil, length-map}
use Rattle.std.proofs.lemmas.Option.{slice_get_within}
use Rattle.std.specs.List.{slice_get}
use Rattle.std.specs.Option.{option_map_or, option_map, option_or}
use Rattle.audit_model.specs.Belongs.{refusal_of, refusal_of_conn, refusal_where}
use Rattle.audit_model.specs.Situation.{is_waiting_now, HeldValue, PendingLoad, Situation, is_holding, is_holding_in}
use Rattle.audit_model.specs.declared.command.Closing.{Closing}
use Rattle.audit_model.specs.declared.config.Config.{Config}
use Rattle.audit_model.specs.declared.input.LoadId.{LoadId}
use Rattle.audit_model.specs.declared.input.ServiceError.{ServiceError}
use Rattle.audit_model.specs.declared.transcript.Note.{Note}
use Rattle.audit_model.specs.declared.transcript.Record.{Record}
use Rattle.audit_laws.proofs.waiting.Records.{records as records-tidy}
use Rattle.audit_laws.specs.Waiting.Tidy.{Tidy}
use Rattle.cache_commands.specs.Handing.{TakesFirstNote}
use Rattle.cache_commands.specs.Promises.{Frame}
use Rattle.cache_commands.specs.Values.{Values, GivesNote}
use Rattle.cache_commands.specs.Loads.Pending.{loads_pending, namespace_of_loads, outgoing_loads, sent_of}
use Rattle.cache_commands.specs.Loads.Standings.{waits_for_load, holds_line}
use Rattle.cache_lines.proofs.leads.Waits.{records-wait}
use Rattle.cache_lines.specs.Gathered.{gathered, HasNothingOutside, stage}
use Rattle.cache_lines.specs.Leads.Waiters.{WaitForLoads}
use Rattle.cache_lines.specs.Tape.Taped.{Taped, IsAtRest}
use Rattle.cache_lines.specs.declared.base.Base.{Base}
use Rattle.cache_core.proofs.Spots.{seen-was, here-open, replaced-is}
use Rattle.cache_core.proofs.Table.{listed_as, listed_of}
use Rattle.cache_core.proofs.Turning.{found-is, waiting-shown, found-open, holding-shown, known-open, leb-above}
use Rattle.cache_core.proofs.connections.Getting.{at-mapped, found-at, map-same, set-same}
use Rattle.cache_core.proofs.connections.Listed.{closings-retired, open-retired, open-same, retired-same, texts-put, texts-retired}
use Rattle.cache_core.specs.Connection.Fed.{LooksAsBefore}
use Rattle.cache_core.specs.Connection.Parts.{standing_as}
use Rattle.cache_core.specs.Connection.Shown.{shown_connection}
use Rattle.cache_core.specs.Connections.Presence.{Gone, Here, Out, Presence, closing_at, closing_of_presence, gone_if, is_here, open_from, reply_text_of, retired, retired_at, text_at}
use Rattle.cache_core.specs.Fed.{ReplacedAt, BaseStays, CanTurn, WantsMemory, seen_at}
use Rattle.cache_core.specs.Connection.Taken.{IsTakenFrom}
use Rattle.cache_core.specs.Taking.{IsLeftOf, IsOwed, IsOwedAt, TakesOwedAt}
use Rattle.cache_core.specs.declared.connection.taking.Taken.{Taken}
use Rattle.cache_core.specs.Places.{IsTakenAt, waits_at, waits_in, known_of_all, refusal_at}
use Rattle.cache_core.specs.State.{IsBetweenEvents, at_number, situation_with, state_of, StateStandsFor, NamespaceState, known_of_state, output_in}
use Rattle.cache_core.specs.Turned.{is_waiting_in, RefusesBy, Turned, feeding, notes_in, replies_to, with_record}
use Rattle.cache_core.specs.declared.connection.connection.Connection.{Connection}
use Rattle.audit_model.specs.Situation as model
use Rattle.audit_model.specs.declared.command.Closing.TheVariants as by
use Rattle.audit_model.specs.declared.event.Event.TheVariants as event
use Rattle.audit_model.specs.declared.input.ServiceError.TheVariants as error

-- the reason under a number is the one at its place
pub closing-number : (cs : List Presence) (i m : ℕ) → m ≡ i + 1 → i < length cs → closing_at cs i ≡ at_number None (map closing_of_presence cs) m
closing-number cs i m e lt =
    let c = found-at cs i lt in
    let is : m ≡ suc i = omega (arith, e) in
    ap (λ o. option_map_or closing_of_presence o None) c.1 ∙ sym (seen-was closing_of_presence None cs i c.0 c.1) ∙ ap (at_number None (map closing_of_presence cs)) (sym is)

waits-one : (m : ℕ) (p : Presence) → waits_in p ≡ option_map_or (λ (k : model.Connection). is_waiting_now k.standing) (listed_of m p) false
waits-one m (Here c) = go (is_none c.closing) (waiting-shown m c)
  where
    go : (b : Bool) → is_waiting_now (shown_connection m c).standing ≡ waits_for_load c.standing → (b && waits_for_load c.standing) ≡ option_map_or (λ (k : model.Connection). is_waiting_now k.standing) (listed_as b (shown_connection m c)) false
    go true shows = sym shows
    go false shows = refl
waits-one m Out = refl
waits-one m (Gone why) = refl

-- so is whether a `LOAD` waits
pub waits-number : {S T : Type 0} (view : S → Values) (base : Base S T) (latest : ℕ) (cs : List Presence) (i m : ℕ) → m ≡ i + 1 → i < length cs → waits_at cs i ≡ is_waiting_in (situation_with view (state_of base latest cs) []) m
waits-number view base latest cs i m e lt =
    let c = found-at cs i lt in
    let is : m ≡ suc i = omega (arith, e) in
    ap (λ o. option_map_or waits_in o false) c.1
    ∙ waits-one m c.0
    ∙ sym (ap (λ o. option_map_or (λ (k : model.Connection). is_waiting_now k.standing) o false) (found-is m i c.0 cs is c.1))

-- and what was written to it
pub output-number : (cs : List Presence) (i m : ℕ) → m ≡ i + 1 → i < length cs → text_at cs i ≡ at_number [] (map reply_text_of cs) m
output-number cs i m e lt =
    let c = found-at cs i lt in
    let is : m ≡ suc i = omega (arith, e) in
    ap (λ o. option_map_or reply_text_of o []) c.1 ∙ sym (seen-was reply_text_of [] cs i c.0 c.1) ∙ ap (at_number [] (map reply_text_of cs)) (sym is)

-- ---- what an output leaves that was taken

none-here : (p : Presence) → is_here (Some p) ≡ false → reply_text_of p ≡ []
none-here (Here c) e = let no : true ≡ false = e in cc
none-here Out e = refl
none-here (Gone why) e = refl

-- of one that is not here nothing
pub taken-none : (cs : List Presence) (i : ℕ) → i < length cs → is_here (slice_get cs i) ≡ false → IsTakenAt cs cs i
taken-none cs i lt away =
    let c = found-at cs i lt in
    let none = none-here c.0 (ap is_here (sym c.1) ∙ away) in
    record { listed = refl; closings = refl; texts = sym (ap (slice_set (map reply_text_of cs) i) (sym none) ∙ set-same (map reply_text_of cs) i (reply_text_of c.0) (at-mapped reply_text_of cs i c.0 c.1)) }

pub text-none : (cs : List Presence) (i : ℕ) → i < length cs → is_here (slice_get cs i) ≡ false → text_at cs i ≡ []
text-none cs i lt away =
    let c = found-at cs i lt in
    ap (λ o. option_map_or reply_text_of o []) c.1 ∙ none-here c.0 (ap is_here (sym c.1) ∙ away)

-- one that was put back, and then retired
pub taken-at : (cs ds es : List Presence) (i : ℕ) (p : ReplacedAt cs ds i) → IsTakenFrom p.was p.is → es ≡ retired_at ds i → IsTakenAt cs es i
taken-at cs ds es i p taken retires =
    let shows : (k : ℕ) → shown_connection k p.is ≡ shown_connection k p.was =
    λ k. ap (λ st. standing_as k st p.is.waited p.is.unread.bytes) taken.standing ∙ ap (λ n. standing_as k p.was.standing n p.is.unread.bytes) taken.waited ∙ ap (standing_as k p.was.standing p.was.waited) taken.bytes in
    record {
      listed = ap (open_from 1) retires ∙ open-retired 1 ds i ∙ ap (open_from 1) p.set ∙ open-same 1 i p.was p.is cs p.at taken.closing shows;
      closings = ap (map closing_of_presence) retires ∙ closings-retired ds i ∙ ap (map closing_of_presence) p.set ∙ map-same closing_of_presence cs i (Here p.was) (Here p.is) p.at taken.closing;
      texts = ap (map reply_text_of) retires ∙ texts-retired ds i ∙ ap (map reply_text_of) p.set ∙ texts-put cs i p.is ∙ ap (λ t. slice_set (map reply_text_of cs) i t) taken.none;
    }

-- one that is not here stays
left-none : (cs ds es : List Presence) (i : ℕ) (p is : Presence) → slice_get cs i ≡ Some p → ds ≡ slice_set cs i is → is ≡ p → retired p ≡ p → is_here (Some p) ≡ false → es ≡ retired_at ds i → IsTakenAt cs es i
left-none cs ds es i p is at set same stays away retires =
    let none : ds ≡ cs = set ∙ ap (slice_set cs i) same ∙ set-same cs i p at in
    subst (λ z. IsTakenAt cs z i) (sym (retires ∙ ap (λ z. retired_at z i) none ∙ retired-same cs i p at stays)) (taken-none cs i (slice_get_within cs i p at) (ap is_here at ∙ away))

-- one whose replies were moved out in place, and that was then retired
pub taken-left : (cs ds es : List Presence) (i : ℕ) (taken : Taken) → TakesOwedAt cs ds i taken → es ≡ retired_at ds i → IsTakenAt cs es i
taken-left cs ds es i taken t retires = go t.was t.is t.at t.set t.left
  where
    go : (was is : Presence) → slice_get cs i ≡ Some was → ds ≡ slice_set cs i is → IsLeftOf was is → IsTakenAt cs es i
    go (Here c) is at set left = taken-at cs ds es i (record { was = c; is = left.0; at = at; set = set ∙ ap (slice_set cs i) left.1 }) left.2 retires
    go Out is at set same = left-none cs ds es i Out is at set same refl refl retires
    go (Gone why) is at set same = left-none cs ds es i (Gone why) is at set same refl refl retires

-- of one that is open, this is so at once
pub taken-open : (cs ds : List Presence) (i : ℕ) (taken : Taken) → TakesOwedAt cs ds i taken → taken.closing ≡ None → IsTakenAt cs ds i
taken-open cs ds i taken t none = go t.was t.is t.at t.set t.left t.owed
  where
    go : (was is : Presence) → slice_get cs i ≡ Some was → ds ≡ slice_set cs i is → IsLeftOf was is → IsOwed was taken → IsTakenAt cs ds i
    go (Here c) is at set left owed =
        let p : ReplacedAt cs ds i = record { was = c; is = left.0; at = at; set = set ∙ ap (slice_set cs i) left.1 } in
        let still : left.0.closing ≡ None = left.2.closing ∙ sym owed.closing ∙ none in
        taken-at cs ds ds i p left.2 (sym (retired-same ds i (Here left.0) (replaced-is cs ds i p) (ap (λ o. gone_if o left.0.output.text.items left.0) still)))
    go Out is at set same owed = let no : None ≡ Some by.Asked = sym none ∙ owed.closing in cc
    go (Gone why) is at set same owed = let no : None ≡ Some why = sym none ∙ owed.closing in cc

-- and this is what it is owed
pub owed-at : (cs ds : List Presence) (i : ℕ) (taken : Taken) → TakesOwedAt cs ds i taken → IsOwedAt cs i taken
owed-at cs ds i taken t = record {
  replies = t.owed.replies ∙ ap (λ o. option_map_or reply_text_of o []) (sym t.at);
  closing = t.owed.closing ∙ ap (λ o. option_map_or closing_of_presence o None) (sym t.at);
  waits = t.owed.waits ∙ ap (λ o. option_map_or waits_in o false) (sym t.at);
}

pub output-taken : {S T : Type 0} (base : Base S T) (latest i m : ℕ) (cs ds : List Presence) → IsTakenAt cs ds i → m ≡ i + 1
    → state_of base latest ds ≡ record (state_of base latest cs) { outputs = slice_set (state_of base latest cs).outputs (m - 1) [] }
output-taken {S} {T} base latest i m cs ds taken e =
    let place : i ≡ m - 1 = omega (arith, e) in
    let texts : map reply_text_of ds ≡ slice_set (map reply_text_of cs) (m - 1) [] = taken.texts ∙ ap (λ k. slice_set (map reply_text_of cs) k []) place in
    ap (λ ks. record (state_of base latest ds) { connections = ks }) taken.listed
    ∙ ap (λ whys. record (state_of base latest ds) { connections = open_from 1 cs; closings = whys }) taken.closings
    ∙ ap (λ outs. record (state_of base latest cs) { outputs = outs }) texts

none-at : (xs : List (List ℕ)) (i n : ℕ) → at_number [] xs n ≡ [] → at_number [] (slice_set xs i []) n ≡ []
none-at xs i zero e = refl
none-at [] i (suc n) e = refl
none-at (x ∷ xs) zero (suc zero) e = refl
none-at (x ∷ xs) zero (suc (suc n)) e = e
none-at (x ∷ xs) (suc i) (suc zero) e = e
none-at (x ∷ xs) (suc i) (suc (suc n)) e = none-at xs i (suc n) e

pub order-taken : {S T : Type 0} (view : S → Values) (tape : T → Option Taped) (base : Base S T) (latest i : ℕ) (cs ds : List Presence) → IsTakenAt cs ds i → IsBetweenEvents view tape (state_of base latest cs)
    → IsBetweenEvents view tape (state_of base latest ds)
order-taken view tape base latest i cs ds taken order =
    let same = ap (λ n. situation_with view n []) (output-taken base latest i (i + 1) cs ds taken refl) in
    record {
      in_time = order.in_time;
      moment = order.moment;
      rests = order.rests;
      untaken = order.untaken;
      outputs = λ e n. ap (λ xs. at_number [] xs n) taken.texts ∙ none-at (map reply_text_of cs) i n (order.outputs e n);
      tidy = subst (λ s. Tidy [] s) (sym same) order.tidy;
      reads = subst (WaitForLoads (view base.store).frame.config) (sym same) order.reads;
    }

-- ---- of one that is retired, less stays

pub state-retired : {S T : Type 0} (base : Base S T) (latest i : ℕ) (cs ds : List Presence) → ds ≡ retired_at cs i → state_of base latest ds ≡ state_of base latest cs
state-retired base latest i cs ds e =
    let listed = ap (open_from 1) e ∙ open-retired 1 cs i in
    let closings = ap (map closing_of_presence) e ∙ closings-retired cs i in
    let texts = ap (map reply_text_of) e ∙ texts-retired cs i in
    ap (λ ks. record (state_of base latest ds) { connections = ks }) listed
    ∙ ap (λ whys. record (state_of base latest ds) { connections = open_from 1 cs; closings = whys }) closings
    ∙ ap (λ outs. record (state_of base latest cs) { outputs = outs }) texts

-- A namespace in order, before and behind an event, and how an event is refused.

still-kept : (entry : Record) (t : Option Taped) → is_some (option_map (with_record entry) t) ≡ is_some t
still-kept entry None = refl
still-kept entry (Some t) = refl

rests-kept : (entry : Record) (t : Option Taped) → IsAtRest t → IsAtRest (option_map (with_record entry) t)
rests-kept entry None rests = tt
rests-kept entry (Some t) rests = record { closed = rests.closed; steps = rests.steps; spare = rests.spare; undrafted = rests.undrafted }

-- the same of any values held
tidy-with : {S T : Type 0} (view : S → Values) (n : NamespaceState S T) (a b : List HeldValue) → Tidy [] (situation_with view n a) → Tidy [] (situation_with view n b)
tidy-with view n a b t = record { once = t.once; keys = t.keys }

reads-with : {S T : Type 0} (config : Config) (view : S → Values) (n : NamespaceState S T) (a b : List HeldValue) → WaitForLoads config (situation_with view n a) → WaitForLoads config (situation_with view n b)
reads-with config view n a b w = w

-- behind an event
pub order-turned : {S T : Type 0} (view : S → Values) (tape : T → Option Taped) (was is : NamespaceState S T) (s : Situation) (entry : Record) → StateStandsFor view was s → Turned view tape was is s entry → IsBetweenEvents view tape was
    → (view is.store).frame.config ≡ (view was.store).frame.config → (view is.store).frame.latest ≤ is.latest → is.latest < 2 ^ 63 → IsBetweenEvents view tape is
order-turned view tape was is s entry st t order config_is in_time moment =
    let keeps : is_some (tape is.tape) ≡ true → is_some (tape was.tape) ≡ true = λ e. sym (still-kept entry (tape was.tape)) ∙ sym (ap is_some t.kept) ∙ e in
    let config = (view was.store).frame.config in
    record {
      in_time = in_time;
      moment = moment;
      rests = subst IsAtRest (sym t.kept) (rests-kept entry (tape was.tape) order.rests);
      untaken = λ e. let h = keeps e in t.notes ∙ ap (λ b. (view was.store).untaken ++ (if b then [] else notes_in entry)) h ∙ append-nil (view was.store).untaken ∙ order.untaken h;
      outputs = λ e n. let h = keeps e in t.outputs n ∙ ap (λ b. output_in was n ++ (if b then [] else replies_to n entry.steps)) h ∙ append-nil (output_in was n) ∙ order.outputs h n;
      tidy = tidy-with view is t.stands.held []
          (subst (λ x. Tidy [] x) t.stands.is (records-tidy config s t.next entry t.follows (subst (λ x. Tidy [] x) (sym st.is) (tidy-with view was [] st.held order.tidy))));
      reads = subst (λ (c : Config). WaitForLoads c (situation_with view is [])) (sym config_is)
          (reads-with config view is t.stands.held []
          (subst (WaitForLoads config) t.stands.is (records-wait config s t.next entry t.follows (subst (WaitForLoads config) (sym st.is) (reads-with config view was [] st.held order.reads)))));
    }

-- no note is left behind none
none-left : (old new : List Note) (taken : Option Note) → TakesFirstNote old new taken → old ≡ [] → new ≡ []
none-left old new None t e = t.1
none-left old new (Some note) t e = let no : [] ≡ note ∷ new = sym e ∙ t in cc

-- behind a note that was taken
pub order-noticed : {S T : Type 0} (view : S → Values) (tape : T → Option Taped) (n : NamespaceState S T) (store : S) (taken : Option Note) → TakesFirstNote (view n.store).untaken (view store).untaken taken → GivesNote (view n.store) (view store)
    → IsBetweenEvents view tape n → IsBetweenEvents view tape (record n { store = store })
order-noticed view tape n store taken takes gives order = record {
  in_time = subst (λ (f : Frame). f.latest ≤ n.latest) (sym gives.frame) order.in_time;
  moment = order.moment;
  rests = order.rests;
  untaken = λ e. none-left (view n.store).untaken (view store).untaken taken takes (order.untaken e);
  outputs = order.outputs;
  tidy = record { once = order.tidy.once; keys = order.tidy.keys };
  reads = subst (λ (f : Frame). WaitForLoads f.config (situation_with view n [])) (sym gives.frame) order.reads;
}

-- a turn may begin
pub can-turn : {S T : Type 0} (view : S → Values) (tape : T → Option Taped) (base : Base S T) (latest now i : ℕ) (cs : List Presence) → IsBetweenEvents view tape (state_of base latest cs) → latest ≤ now → now < 2 ^ 63 → i < length cs
    → CanTurn now (seen_at view tape base cs i)
can-turn view tape base latest now i cs order later low lt = record {
  in_time = (in-time order.in_time, low);
  clear = clear (tape base.tape) refl;
  rests = order.rests;
}
  where
    in-time : (view base.store).frame.latest ≤ latest → (view base.store).frame.latest ≤ now
    in-time h = omega (arith, h, later)

    clear : (t : Option Taped) → tape base.tape ≡ t → HasNothingOutside (gathered (stage (view base.store) (text_at cs i) t))
    clear None e = tt
    clear (Some t) e =
        let h : is_some (tape base.tape) ≡ true = ap is_some e in
        let c = found-at cs i lt in
        (ap (λ o. option_map_or reply_text_of o []) c.1 ∙ sym (seen-was reply_text_of [] cs i c.0 c.1) ∙ order.outputs h (suc i), order.untaken h)

-- ---- nothing has changed

pub state-alike : {S T : Type 0} (base new_base : Base S T) (latest : ℕ) (cs ds : List Presence) → BaseStays base new_base → open_from 1 ds ≡ open_from 1 cs → map closing_of_presence ds ≡ map closing_of_presence cs → map reply_text_of ds ≡ map reply_text_of cs
    → state_of new_base latest ds ≡ state_of base latest cs
state-alike {S} {T} base new_base latest cs ds b listed closings texts =
    let l = b.loads_are in
    let made : S → T → List model.Connection → List (Option Closing) → List (List ℕ) → ℕ → List PendingLoad → List (LoadId × List ℕ) → ℕ → NamespaceState S T = λ store tape ks whys outs sent pending outgoing namespace.
    record { store = store; tape = tape; latest = latest; connections = ks; closings = whys; outputs = outs; sent = sent; pending = pending; outgoing = outgoing; namespace = namespace } in
    ap (λ x. made x new_base.tape (open_from 1 ds) (map closing_of_presence ds) (map reply_text_of ds) (sent_of new_base.loads) (loads_pending new_base.loads) (outgoing_loads new_base.loads) (namespace_of_loads new_base.loads)) b.store_is
    ∙ ap (λ x. made base.store x (open_from 1 ds) (map closing_of_presence ds) (map reply_text_of ds) (sent_of new_base.loads) (loads_pending new_base.loads) (outgoing_loads new_base.loads) (namespace_of_loads new_base.loads)) b.tape_is
    ∙ ap (λ x. made base.store base.tape x (map closing_of_presence ds) (map reply_text_of ds) (sent_of new_base.loads) (loads_pending new_base.loads) (outgoing_loads new_base.loads) (namespace_of_loads new_base.loads)) listed
    ∙ ap (λ x. made base.store base.tape (open_from 1 cs) x (map reply_text_of ds) (sent_of new_base.loads) (loads_pending new_base.loads) (outgoing_loads new_base.loads) (namespace_of_loads new_base.loads)) closings
    ∙ ap (λ x. made base.store base.tape (open_from 1 cs) (map closing_of_presence cs) x (sent_of new_base.loads) (loads_pending new_base.loads) (outgoing_loads new_base.loads) (namespace_of_loads new_base.loads)) texts
    ∙ ap (λ x. made base.store base.tape (open_from 1 cs) (map closing_of_presence cs) (map reply_text_of cs) x (loads_pending new_base.loads) (outgoing_loads new_base.loads) (namespace_of_loads new_base.loads)) l.sent
    ∙ ap (λ x. made base.store base.tape (open_from 1 cs) (map closing_of_presence cs) (map reply_text_of cs) (sent_of base.loads) x (outgoing_loads new_base.loads) (namespace_of_loads new_base.loads)) l.pending
    ∙ ap (λ x. made base.store base.tape (open_from 1 cs) (map closing_of_presence cs) (map reply_text_of cs) (sent_of base.loads) (loads_pending base.loads) x (namespace_of_loads new_base.loads)) l.outgoing
    ∙ ap (λ x. made base.store base.tape (open_from 1 cs) (map closing_of_presence cs) (map reply_text_of cs) (sent_of base.loads) (loads_pending base.loads) (outgoing_loads base.loads) x) l.namespace

pub state-same : {S T : Type 0} (base new_base : Base S T) (latest i : ℕ) (cs ds : List Presence) → BaseStays base new_base → (p : ReplacedAt cs ds i) → LooksAsBefore p.was p.is → state_of new_base latest ds ≡ state_of base latest cs
state-same base new_base latest i cs ds b p same =
    let shows : (k : ℕ) → shown_connection k p.is ≡ shown_connection k p.was =
    λ k. ap (λ st. standing_as k st p.is.waited p.is.unread.bytes) same.standing ∙ ap (λ n. standing_as k p.was.standing n p.is.unread.bytes) same.waited ∙ ap (standing_as k p.was.standing p.was.waited) same.bytes in
    state-alike base new_base latest cs ds b (ap (open_from 1) p.set ∙ open-same 1 i p.was p.is cs p.at same.closing shows) (ap (map closing_of_presence) p.set ∙ map-same closing_of_presence cs i (Here p.was) (Here p.is) p.at same.closing)
    (ap (map reply_text_of) p.set ∙ map-same reply_text_of cs i (Here p.was) (Here p.is) p.at same.text)

-- ---- refusals

closed-listed : (m : ℕ) (p : Presence) → is_none (closing_of_presence p) ≡ false → is_some (listed_of m p) ≡ false
closed-listed m (Here c) gone = ap (λ b. is_some (listed_as b (shown_connection m c))) gone
closed-listed m Out gone = refl
closed-listed m (Gone why) gone = refl

-- a closed connection is refused as such
pub refused-closed : (m i : ℕ) (cs : List Presence) → m ≡ suc i → i < length cs → is_none (closing_at cs i) ≡ false → refusal_at cs m ≡ Some error.Closed
refused-closed m i cs e lt closed =
    let c = found-at cs i lt in
    let gone : is_none (closing_of_presence c.0) ≡ false = ap (λ o. is_none (option_map_or closing_of_presence o None)) (sym c.1) ∙ closed in
    let count = length-map cs closing_of_presence in
    let opened : (known_of_all cs).was_opened m ≡ true = and_from (nat_lt 0 m) (nat_le m (length (map closing_of_presence cs))) (lt-ltb 0 m (omega (arith, e))) (le-leb m (length (map closing_of_presence cs)) (omega (arith, e, lt, count))) in
    ap (λ a. option_or (refusal_where (not a) error.NoConnection) (refusal_where (not ((known_of_all cs).is_open m)) error.Closed)) opened
    ∙ ap (λ b. refusal_where (not b) error.Closed) (ap is_some (found-is m i c.0 cs e c.1) ∙ closed-listed m c.0 gone)

module _ {S T : Type 0} (view : S → Values) (base : Base S T) (latest m i moment : ℕ) (cs : List Presence) (piece : List ℕ) (e : m ≡ suc i) (lt : i < length cs) (is_open : closing_at cs i ≡ None) where
  abbrev n : NamespaceState S T
  n = state_of base latest cs

  -- an open connection is known
  pub known-none : refusal_of_conn (known_of_state view n) m ≡ None
  known-none =
      let c = here-open cs i lt is_open in
      let k = known-open m i c.0 (situation_with view n []) cs refl refl e c.1 c.2 in
      ap (λ a. option_or (refusal_where (not a) error.NoConnection) (refusal_where (not ((known_of_state view n).is_open m)) error.Closed)) k.0
      ∙ ap (λ a. refusal_where (not a) error.Closed) k.1

  -- a moment that is too late
  pub refuses-late : (held : Bool) → 2 ^ 63 ≤ moment → RefusesBy view n (feeding m piece moment) held error.Moment
  refuses-late held high =
      let late : refusal_of (view base.store).frame.config (known_of_state view n) (feeding m piece moment) ≡ Some error.Moment =
      ap (λ o. option_or o (refusal_where (nat_le (2 ^ 63) moment) error.Moment)) known-none ∙ ap (λ a. refusal_where a error.Moment) (le-leb (2 ^ 63) moment high) in
      subst (λ r. MatchOption r ((error.Moment ≡ error.OutOfMemory) ⊎ ((error.Moment ≡ error.HeldAgain) × (held ≡ true))) (λ refused. error.Moment ≡ refused)) (sym late) refl

  -- want of memory
  pub refuses-memory : (refused : ServiceError) → moment < 2 ^ 63 → ((c : Connection) → slice_get cs i ≡ Some (Here c) → WantsMemory (holds_line c.standing) refused)
      → RefusesBy view n (feeding m piece moment) (is_holding_in (situation_with view n []) m) refused
  refuses-memory refused low wants =
      let c = here-open cs i lt is_open in
      let held : is_holding_in (situation_with view n []) m ≡ holds_line c.0.standing =
      ap (λ o. option_map_or (λ (k : model.Connection). is_holding k.standing) o false) (found-open m i c.0 cs e c.1 c.2) ∙ holding-shown m c.0 in
      let none : refusal_of (view base.store).frame.config (known_of_state view n) (feeding m piece moment) ≡ None =
      ap (λ o. option_or o (refusal_where (nat_le (2 ^ 63) moment) error.Moment)) known-none ∙ ap (λ a. refusal_where a error.Moment) (leb-above (2 ^ 63) moment low) in
      subst (λ r. MatchOption r (WantsMemory (is_holding_in (situation_with view n []) m) refused) (λ x. refused ≡ x)) (sym none)
      (subst (λ h. WantsMemory h refused) (sym held) (wants c.0 c.1))

  -- the same of a closing
  pub closes-memory : RefusesBy view n (event.Close m) false error.OutOfMemory
  closes-memory = subst (λ r. MatchOption r (WantsMemory false error.OutOfMemory) (λ x. error.OutOfMemory ≡ x)) (sym known-none) (inl refl)
