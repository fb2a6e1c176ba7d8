-- A load that is taken out, and those that waited for it.
use Rattle.std.proofs.Common.{refl, ap, ◌∙◌, ◌≡◌, ℕ, ◌≤◌, Bool, not, ◌==◌, if◌then◌else◌, List, [], Option, Some, is_some, max, sym, subst, arith, ◌<◌, ◌^◌, true, false, ◌∷◌, length, None, nat_le, nat_lt, MatchOption}
use Rattle.std.proofs.lemmas.Bool.{leb-false, ltb-false}
use Rattle.std.proofs.lemmas.List.{length-append}
use Rattle.std.specs.List.{filter}
use Rattle.std.specs.Option.{option_map, option_map_or, option_or}
use Rattle.audit_model.specs.Belongs.{refusal_of, refusal_of_bytes, refusal_of_ms, refusal_of_outcome, refusal_where}
use Rattle.audit_model.specs.Follows.{without_load}
use Rattle.audit_model.specs.Grammar.{is_value}
use Rattle.audit_model.specs.Replies.{outcome_text}
use Rattle.audit_model.specs.Situation.{PendingLoad}
use Rattle.audit_model.specs.declared.config.Config.{Config}
use Rattle.audit_model.specs.declared.event.Outcome.{Outcome}
use Rattle.audit_model.specs.declared.input.ServiceError.{ServiceError}
use Rattle.audit_model.specs.declared.transcript.Accepted.{Accepted}
use Rattle.audit_model.specs.declared.transcript.Note.{Note}
use Rattle.audit_laws.proofs.waiting.Records.{settled-tidy}
use Rattle.cache_commands.specs.Promises.{Frame}
use Rattle.cache_commands.specs.Values.{GivesNote, Values}
use Rattle.cache_commands.specs.Loads.Pending.{load_numbered, loads_pending, sent_of}
use Rattle.cache_commands.specs.declared.loads.loads.Loads.{Loads}
use Rattle.cache_lines.specs.Tape.Taped.{Taped, started, IsAtRest, between_records}
use Rattle.cache_lines.specs.Waiting.{UnderWay, under_way}
use Rattle.cache_lines.specs.declared.base.Base.{Base}
use Rattle.cache_core.proofs.Amid.{room-least}
use Rattle.cache_core.proofs.Happening.{started-some}
use Rattle.cache_core.proofs.Touched.{all-texts, same-wait, told-wait}
use Rattle.cache_core.specs.Connections.Presence.{Presence}
use Rattle.cache_core.specs.Settled.{IsAmid}
use Rattle.cache_core.specs.Settling.{BeginsAnswer, StoresNoted, but_for, waiting_on, AllLookAsBefore, AreWaiting, CanSettle, answering, giving_up, known_of_loads}
use Rattle.cache_core.specs.State.{IsBetweenEvents, at_number, situation_with, state_of}
use Rattle.audit_model.specs.declared.event.Outcome.TheVariants as came
use Rattle.audit_model.specs.declared.input.ServiceError.TheVariants as error

-- those that waited
pub waiting-is : (number : ℕ) (l : UnderWay) (load : PendingLoad) → Some load ≡ load_numbered number l.pending → load.waiting ≡ waiting_on number l
waiting-is number l load e = ap (λ o. option_map_or (λ (k : PendingLoad). k.waiting) o []) e

-- the loads that are left
pub left-but : (number : ℕ) (loads left : Loads) → sent_of left ≡ sent_of loads → loads_pending left ≡ filter (λ load. not (load.number == number)) (loads_pending loads) → under_way left ≡ but_for number (under_way loads)
left-but number loads left sent pending = ap (λ k. record { sent = k; pending = loads_pending left }) sent ∙ ap (λ ps. record { sent = sent_of loads; pending = ps }) pending

-- what goes through a record does not see the loads
pub amid-loads : {S T : Type 0} (view : S → Values) (tape : T → Option Taped) (now : ℕ) (base : Base S T) (left : Loads) (cs : List Presence) (a b : ℕ) → b ≤ a → IsAmid view tape now base cs a → IsAmid view tape now (record base { loads = left }) cs b
amid-loads view tape now base left cs a b le amid = record { in_time = amid.in_time; untaken = amid.untaken; outputs = amid.outputs; room = room-least a b (tape base.tape) le amid.room }

-- no note is taken
pub gives-itself : (v : Values) → GivesNote v v
gives-itself v = record { stands = λ held h. h; frame = refl; used = λ settled keys h. h; identifiers = record { stream = refl; registered = λ part id h. h }; spent = refl }

-- an answer's record was begun, and its value stored
pub begins-answer : {S T : Type 0} (view : S → Values) (tape : T → Option Taped) (now load room : ℕ) (outcome : Outcome) (accepted : Option Accepted) (notes : List Note) (base : Base S T) (store : S) (begun : T) (key : List ℕ) (keeps : Bool)
    → option_map (λ l. l.key) (load_numbered load (loads_pending base.loads)) ≡ Some key → keeps ≡ is_some (tape base.tape) → tape begun ≡ option_map (started room) (tape base.tape) → StoresNoted view keeps now key outcome accepted notes base.store store
    → BeginsAnswer view tape now load outcome accepted notes room base (record { store = store; loads = base.loads; tape = begun })
begins-answer view tape now load room outcome accepted notes base store begun key keeps keyed is starts s = record {
  key = key;
  keyed = keyed;
  middle = s.middle;
  stored = s.stored;
  drains = s.drains;
  untaken_is = s.untaken_is ∙ ap (λ b. if b then [] else (view s.middle).untaken) is;
  notes_are = λ e. s.notes_are (is ∙ e);
  begun = starts;
  loads_are = refl;
}

-- A load that may be settled.

or-first : (a b : Option ServiceError) → option_or a b ≡ None → a ≡ None
or-first None b e = refl
or-first (Some x) b e = e

or-then : (a b : Option ServiceError) → option_or a b ≡ None → b ≡ None
or-then None b e = e
or-then (Some x) b e = let no : Some x ≡ None = e in cc

not-where : (b : Bool) (e : ServiceError) → refusal_where b e ≡ None → b ≡ false
not-where false e is = refl
not-where true e is = let no : Some e ≡ None = is in cc

not-false : (b : Bool) → not b ≡ false → b ≡ true
not-false true e = refl
not-false false e = let no : true ≡ false = e in cc

some-of : (o : Option PendingLoad) → is_some (option_map (λ (l : PendingLoad). l.key) o) ≡ true → is_some o ≡ true
some-of None e = e
some-of (Some l) e = refl

-- the load is under way, and the moment one
loads-known : (pending : List PendingLoad) (load : ℕ) → refusal_where (not ((known_of_loads pending).is_under_way load)) error.NoLoad ≡ None → is_some (load_numbered load pending) ≡ true
loads-known pending load e = some-of (load_numbered load pending) (not-false ((known_of_loads pending).is_under_way load) (not-where (not ((known_of_loads pending).is_under_way load)) error.NoLoad e))

moment-known : (moment : ℕ) → refusal_where (nat_le (2 ^ 63) moment) error.Moment ≡ None → moment < 2 ^ 63
moment-known moment e = leb-false (2 ^ 63) moment (not-where (nat_le (2 ^ 63) moment) error.Moment e)

-- a give-up that is not refused
pub given-admitted : (config : Config) (pending : List PendingLoad) (load moment : ℕ) → refusal_of config (known_of_loads pending) (giving_up load moment) ≡ None → (is_some (load_numbered load pending) ≡ true) × (moment < 2 ^ 63)
given-admitted config pending load moment e = (
  loads-known pending load (or-first (refusal_where (not ((known_of_loads pending).is_under_way load)) error.NoLoad) (refusal_where (nat_le (2 ^ 63) moment) error.Moment) e),
  moment-known moment (or-then (refusal_where (not ((known_of_loads pending).is_under_way load)) error.NoLoad) (refusal_where (nat_le (2 ^ 63) moment) error.Moment) e),
)

-- an answer that is not
pub answer-admitted : (config : Config) (pending : List PendingLoad) (load moment : ℕ) (outcome : Outcome) → refusal_of config (known_of_loads pending) (answering load outcome moment) ≡ None
    → (is_some (load_numbered load pending) ≡ true) × (moment < 2 ^ 63) × (refusal_of_outcome config outcome ≡ None)
answer-admitted config pending load moment outcome e =
    let rest = or-then (refusal_where (not ((known_of_loads pending).is_under_way load)) error.NoLoad) (option_or (refusal_where (nat_le (2 ^ 63) moment) error.Moment) (refusal_of_outcome config outcome)) e in (
      loads-known pending load (or-first (refusal_where (not ((known_of_loads pending).is_under_way load)) error.NoLoad) (option_or (refusal_where (nat_le (2 ^ 63) moment) error.Moment) (refusal_of_outcome config outcome)) e),
      moment-known moment (or-first (refusal_where (nat_le (2 ^ 63) moment) error.Moment) (refusal_of_outcome config outcome) rest),
      or-then (refusal_where (nat_le (2 ^ 63) moment) error.Moment) (refusal_of_outcome config outcome) rest,
    )

-- how long a reply is
few-bytes : (bytes : List ℕ) → refusal_of_bytes bytes ≡ None → length bytes ≤ 8192
few-bytes bytes e = ltb-false 8192 (length bytes) (not-where (nat_lt 8192 (length bytes)) error.TooLong (or-then (refusal_where (not (is_value bytes)) error.LineEnd) (refusal_where (nat_lt 8192 (length bytes)) error.TooLong) e))

pub few-replied : (config : Config) (outcome : Outcome) → refusal_of_outcome config outcome ≡ None → length (outcome_text outcome) ≤ 8202
few-replied config (came.Value bytes ms) e = let few = few-bytes bytes (or-first (refusal_of_bytes bytes) (refusal_of_ms config ms) e) in let more = length-append bytes (10 ∷ []) in omega arith
few-replied config came.None e = omega arith
few-replied config (came.Fault text) e = let few = few-bytes text e in let more = length-append text (10 ∷ []) in omega arith

-- a record that is begun has its room
started-room : (n : ℕ) (a b : Option Taped) → b ≡ option_map (started n) a → MatchOption b (Unit {0}) (λ t. n ≤ t.spare)
started-room n None b e = subst (λ o. MatchOption o (Unit {0}) (λ (t : Taped). n ≤ t.spare)) (sym e) tt
started-room n (Some t) b e = let le : n ≤ n = omega arith in subst (λ o. MatchOption o (Unit {0}) (λ (x : Taped). n ≤ x.spare)) (sym e) le

-- one that was begun and forgotten
pub forgot-started : (n : ℕ) (t : Option Taped) → IsAtRest t → t ≡ option_map between_records (option_map (started n) t)
forgot-started n None rests = refl
forgot-started n (Some t) rests =
    ap (λ b. Some (record { journal = t.journal; begun = b; steps = t.steps; spare = t.spare; drafted = t.drafted })) rests.closed
    ∙ ap (λ ss. Some (record { journal = t.journal; begun = false; steps = ss; spare = t.spare; drafted = t.drafted })) rests.steps
    ∙ ap (λ k. Some (record { journal = t.journal; begun = false; steps = []; spare = k; drafted = t.drafted })) rests.spare
    ∙ ap (λ d. Some (record { journal = t.journal; begun = false; steps = []; spare = 0; drafted = d })) rests.undrafted

module _ {S T : Type 0} (view : S → Values) (tape : T → Option Taped) (base : Base S T) (latest : ℕ) (cs : List Presence) (order : IsBetweenEvents view tape (state_of base latest cs)) where
  -- the record is begun
  pub amid-begun : (begun : T) (now moment room : ℕ) → now ≡ max moment latest → moment < 2 ^ 63 → tape begun ≡ option_map (started room) (tape base.tape) → IsAmid view tape now (record base { tape = begun }) cs room
  amid-begun begun now moment room at_now low starts =
      let some = started-some room (tape base.tape) (tape begun) starts in
      record {
        in_time = (omega (arith, order.in_time, at_now), omega (arith, order.moment, low, at_now));
        untaken = λ e. order.untaken (sym some ∙ e);
        outputs = λ e n. order.outputs (sym some ∙ e) n;
        room = started-room room (tape base.tape) (tape begun) starts;
      }

  -- those that wait do
  pub waiting-now : (load : ℕ) → AreWaiting (view base.store).frame.config cs (waiting_on load (under_way base.loads))
  waiting-now load =
      let s = situation_with view (state_of base latest cs) [] in
      told-wait (view base.store).frame.config (waiting_on load (under_way base.loads)) (without_load load 0 s) cs refl (settled-tidy load 0 s order.tidy) order.reads

  -- the load may be settled
  pub can-settle : (now moment : ℕ) → now ≡ max moment latest → moment < 2 ^ 63 → CanSettle view tape now base
  can-settle now moment at_now low =
      record { in_time = (omega (arith, order.in_time, at_now), omega (arith, order.moment, low, at_now)); rests = order.rests; untaken = order.untaken }

  module _ (begun : Base S T) (ds : List Presence) (now load moment room : ℕ) (outcome : Outcome) (accepted : Option Accepted) (notes : List Note) (starts : BeginsAnswer view tape now load outcome accepted notes room base begun) (looks : AllLookAsBefore cs ds) where
    -- an answer's record is begun
    pub amid-answered : now ≡ max moment latest → moment < 2 ^ 63 → IsAmid view tape now begun ds room
    amid-answered at_now low =
        let some = started-some room (tape base.tape) (tape begun.tape) starts.begun in
        record {
          in_time = (subst (λ (f : Frame). f.latest ≤ now) (sym starts.drains.frame) starts.stored.frame.latest, omega (arith, order.moment, low, at_now));
          untaken = λ e. starts.untaken_is ∙ ap (λ b. if b then [] else (view starts.middle).untaken) (sym some ∙ e);
          outputs = λ e n. ap (λ xs. at_number [] xs n) (all-texts cs ds looks) ∙ order.outputs (sym some ∙ e) n;
          room = started-room room (tape base.tape) (tape begun.tape) starts.begun;
        }

    pub waiting-answered : AreWaiting (view begun.store).frame.config ds (waiting_on load (under_way begun.loads))
    waiting-answered =
        let config_is : (view begun.store).frame.config ≡ (view base.store).frame.config = ap (λ (f : Frame). f.config) starts.drains.frame ∙ ap (λ (f : Frame). f.config) starts.stored.frame.rest in
        subst (λ (k : Config). AreWaiting k ds (waiting_on load (under_way begun.loads))) (sym config_is)
        (subst (λ l. AreWaiting (view base.store).frame.config ds (waiting_on load (under_way l))) (sym starts.loads_are) (same-wait (view base.store).frame.config (waiting_on load (under_way base.loads)) cs ds looks (waiting-now load)))
