-- What a step of a seat comes to; receipts that grow and that agree.
use Rattle.std.proofs.Common.{◌≡◌, ℕ, Bool, true, false, List, Some, refl, sym, subst, arith, ◌+◌, Vec, Global, ◌∙◌, ap, ◌≢◌, ◌⊎◌, inl, inr, ◌<◌, [], ◌∷◌, ◌++◌, length, get_or, map, cond, ◌≤◌}
use Rattle.std.proofs.Math.Logic.{∥∥₁_elim, ∥∥₁_map}
use Rattle.std.proofs.Math.Nat.{eq-or-lt_of_le}
use Rattle.std.proofs.Math.Seq.{map-set_same}
use Rattle.std.proofs.Props.{props}
use Rattle.std.proofs.lemmas.Bool.{eq-eqb}
use Rattle.std.proofs.lemmas.List.{get_or-map, get_or-set_other, get_or-set_same, length-map, map-set, append-nil}
use Rattle.std.proofs.lemmas.Option.{slice_get_within, same_Some}
use Rattle.std.specs.List.{slice_get}
use Rattle.std.specs.Prelude.{Result, Ok, Err, IfErr, IfOk, IsTrue, if◌then◌else◌, OnOk, slice_set}
use Rattle.audit_model.specs.declared.config.Config.{Config}
use Rattle.audit_model.specs.declared.input.Conn.{Conn}
use Rattle.audit_model.specs.declared.input.Input.{Input}
use Rattle.audit_model.specs.declared.transcript.Note.{Note}
use Rattle.audit_model.specs.declared.transcript.Step.{Step}
use Rattle.audit_model.specs.declared.transcript.Transcript.{Transcript}
use Rattle.audit_laws.specs.Receipts.Answers.{last_is_held, output_with}
use Rattle.audit_laws.specs.declared.receipts.output.Output.{Output}
use Rattle.audit_laws.specs.declared.receipts.output.Output.TheVariants.{All, Held}
use Rattle.audit_laws.specs.declared.receipts.receipt.Receipt.{Receipt}
use Rattle.cache_core.proofs.connections.Getting.{found-at}
use Rattle.cache_spaces.proofs.Reaching.{reached-more, asked-is, event_of}
use Rattle.cache_spaces.specs.Calls.{namespace_of}
use Rattle.cache_spaces.specs.Calls as inputs
use Rattle.cache_spaces.specs.Journals.{IsReached}
use Rattle.cache_spaces.specs.Spaces.{Shown, shown_tape}
use Rattle.cache_shared.specs.Events.{PerformsInput, is_fed, is_output_for, CountsRecord, StandsAfter, IsLastNumber, IsReachedFrom}
use Rattle.cache_shared.specs.Looked.{HappenedAtSomeMoment, HeldAtSomeMoment, MovesNotes, WasGuarded}
use Rattle.cache_shared.specs.Marks.{marks, AllMarked}
use Rattle.cache_shared.specs.Taken.{TakesInput}
use Rattle.cache_shared.proofs.Configured.{same-configs}
use Rattle.cache_shared.specs.Seats.{Counts, GainsReceipt, SameReceipts, receipts_at, receipt_for, Gains, holders, EachOnce, Agree, AgreeBelow, AgreeAll}
use Rattle.audit_model.specs.declared.input.Input.TheVariants as input

-- ---- an input that was taken

fed-so : (b : Bool) → IsTrue (is_fed (if b then Held else All))
fed-so true = refl
fed-so false = refl

-- the output of an input's event is one that it may have
fits : (i : Input) (opened : ℕ) (steps : List Step) → IsTrue (is_output_for i (output_with (namespace_of i) (event_of opened i) steps))
fits (input.Open n) opened steps = eq-eqb n n refl
fits (input.Close conn) opened steps = refl
fits (input.Feed conn piece moment) opened steps = fed-so (last_is_held steps)
fits (input.Answer load outcome moment) opened steps = refl
fits (input.GiveUp load moment) opened steps = refl

came : (i : Input) (output : Output) (old new : List Shown) (events : ℕ) → IsReached old events → PerformsInput i output old new → IsTrue (is_output_for i output)
came i output old new events r a =
    let k = namespace_of i in
    let lt = slice_get_within old k a.was a.at in
    let j = found-at r.journals k (let e = r.are.count in omega arith) in
    let l = (r.are.each k a.was j.0 a.at j.1).leads in
    let h = a.fact.from l.last l.stands in
    subst (λ o. IsTrue (is_output_for i o)) (sym h.answers)
    (subst (λ happened. IsTrue (is_output_for i (output_with k happened h.entry.steps))) (asked-is _ i h.entry.event h.event) (fits i _ h.entry.steps))

pub came-result : {C E : Type 0} (spaces : C → List Shown) (untaken : C → Conn → List ℕ) (untold : C → ℕ → List Note) (i : Input) (r : Result Output E) (old new : C) (events : ℕ) → ∥ IsReached (spaces old) events ∥₁
    → IfOk r (λ output. TakesInput spaces untaken untold i output old new) → IfOk r (λ output. IsTrue (is_output_for i output))
came-result spaces untaken untold i (Ok output) old new events reached done = ∥∥₁_elim reached (Prim.hlevel props) (λ w. came i output (spaces old) (spaces new) events w done.performed)
came-result spaces untaken untold i (Err e) old new events reached done = done

-- the seat counts it, and has a receipt of it if the service keeps journals
pub counts : {E : Type 0} (Event : Type 0) (keeps : Bool) (i : Input) (r : Result Output E) (count later : ℕ) (before after : List (Vec Receipt Global)) (journals : List Transcript)
    → OnOk r (Event × (later ≡ count + 1)) → (keeps ≡ true → IfOk r (λ output. GainsReceipt journals before after i output)) → (keeps ≡ false → SameReceipts before after)
    → IfOk r (λ output. IsTrue (is_output_for i output)) → IfOk r (λ output. Counts keeps i output count later before after)
counts Event keeps i (Ok output) count later before after journals counted gains same fit = record {
  one = counted.1;
  receipt = λ kept. let g = gains kept in (g.0, g.2);
  bare = same;
  fits = fit;
}
counts Event keeps i (Err e) count later before after journals counted gains same fit = tt

-- where the service stands then
pub one-further : {C : Type 0} (keeps : Bool) (configs : List Config) (spaces : C → List Shown) (journals : C → List Transcript) (i : Input) (output : Output) (old new : C) (n m : ℕ)
    → StandsAfter keeps configs spaces journals n old → PerformsInput i output (spaces old) (spaces new) → (keeps ≡ true → CountsRecord (journals old) (journals new)) → m ≡ n + 1
    → StandsAfter keeps configs spaces journals m new
one-further keeps configs spaces journals i output old new n m stands taken counts is = subst (λ k. StandsAfter keeps configs spaces journals k new) (sym is) (record {
  reached = record {
    led = ∥∥₁_map stands.reached.led (reached-more shown_tape i output (spaces old) (spaces new) n taken);
    configured = same-configs (inputs.Performs shown_tape i output) (namespace_of i) (spaces old) (spaces new) (λ was is p. p.stays.config) taken ∙ stands.reached.configured;
  };
  counted = λ kept. counts kept ∙ ap (λ k. k + 1) (stands.counted kept);
})

-- Lists of receipts that grow.

-- another list in its place
set-own : (lists : List (Vec Receipt Global)) (k : ℕ) (list : Vec Receipt Global) → k < length lists → receipts_at (slice_set lists k list) k ≡ list.items
set-own lists k list lt =
    ap (λ l. get_or l k []) (map-set (λ v. v.items) lists k list) ∙ get_or-set_same (map (λ v. v.items) lists) k list.items [] (subst (λ n. k < n) (sym (length-map lists (λ (v : Vec Receipt Global). v.items))) lt)

set-others : (lists : List (Vec Receipt Global)) (k j : ℕ) (list : Vec Receipt Global) → j ≢ k → receipts_at (slice_set lists k list) j ≡ receipts_at lists j
set-others lists k j list ne = ap (λ l. get_or l j []) (map-set (λ v. v.items) lists k list) ∙ get_or-set_other (map (λ v. v.items) lists) k j list.items [] ne

own-there : (lists : List (Vec Receipt Global)) (k : ℕ) (d : Vec Receipt Global) → k < length lists → (get_or lists k d).items ≡ receipts_at lists k
own-there lists k d lt = sym (get_or-map (λ (v : Vec Receipt Global). v.items) lists k d [] lt)

-- the same receipts in its place
set-stays : (lists : List (Vec Receipt Global)) (k : ℕ) (d list : Vec Receipt Global) → list.items ≡ (get_or lists k d).items → (j : ℕ) → receipts_at (slice_set lists k list) j ≡ receipts_at lists j
set-stays lists k d list e j = ap (λ l. get_or l j []) (map-set_same (λ (v : Vec Receipt Global). v.items) lists k list d e)

pub stays : (before mid : List (Vec Receipt Global)) (k : ℕ) (d list : Vec Receipt Global) → SameReceipts before mid → d ≡ get_or mid k d → list.items ≡ d.items → SameReceipts before (slice_set mid k list)
stays before mid k d list same value e = λ j. set-stays mid k d list (e ∙ ap (λ (v : Vec Receipt Global). v.items) value) j ∙ same j

gains : (before mid : List (Vec Receipt Global)) (k : ℕ) (d list : Vec Receipt Global) (x : Receipt) → SameReceipts before mid → k < length mid → list.items ≡ (get_or mid k d).items ++ x ∷ [] → Gains before (slice_set mid k list) k x
gains before mid k d list x same lt e = record {
  own = set-own mid k list lt ∙ e ∙ ap (λ (t : List Receipt). t ++ x ∷ []) (own-there mid k d lt ∙ same k);
  others = λ j ne. set-others mid k j list ne ∙ same j;
}

-- the receipt, in the list of its namespace, of an input that was taken
abbrev receipt_of : ℕ → ℕ → Input → Output → Receipt
receipt_of namespace number i output = record { namespace = namespace; number = number; input = i; output = output }

pub gains-receipt : (journals : List Transcript) (i copy : Input) (output : Output) (number : ℕ) (before mid : List (Vec Receipt Global)) (k : ℕ) (d roomy list : Vec Receipt Global)
    → SameReceipts before mid → k < length mid → d ≡ get_or mid k d → roomy.items ≡ d.items → k ≡ namespace_of i → copy ≡ i → IsLastNumber journals k number
    → list.items ≡ roomy.items ++ receipt_of k number copy output ∷ [] → GainsReceipt journals before (slice_set mid k list) i output
gains-receipt journals i copy output number before mid k d roomy list same lt value reserved e copied last grown =
    let receipt : receipt_of k number copy output ≡ receipt_for i output number =
    ap (λ (n : ℕ). receipt_of n number copy output) e ∙ ap (λ (c : Input). receipt_of (namespace_of i) number c output) copied in
    let items : list.items ≡ (get_or mid k d).items ++ receipt_for i output number ∷ [] =
    grown ∙ ap (λ (l : List Receipt). l ++ receipt_of k number copy output ∷ []) (reserved ∙ ap (λ (v : Vec Receipt Global). v.items) value)
    ∙ ap (λ (r : Receipt). (get_or mid k d).items ++ r ∷ []) receipt in (
      number,
      subst (λ n. IsLastNumber journals n number) e last,
      subst (λ n. Gains before (slice_set mid k list) n (receipt_for i output number)) e (gains before mid k d list (receipt_for i output number) same lt items),
    )

-- Receipts that stand in the journals, each of whose records has one.

module _ {X : Type 0} where
  -- where each place is marked once, each number stands in one receipt
  pub once_of : (own : X → List Receipt) (n : ℕ) (seats : List X) (old new : List Bool) → ((k : ℕ) → k < n → marks old k ≡ 0)
      → ((k : ℕ) → k < n → marks new k ≡ marks old k + holders own (k + 1) seats) → AllMarked new n → EachOnce own n seats
  once_of own n seats old new unmarked sum all = record {
    at = λ k lt.
        let z = unmarked k lt in
        let s = sum k lt in
        let one : marks new k ≡ 1 = ap (λ b. cond b 1 0) (all k lt) in
        omega (arith, z, s, one);
  }

  pub once_count : (own : X → List Receipt) (n m : ℕ) (seats : List X) → n ≡ m → EachOnce own n seats → EachOnce own m seats
  once_count own n m seats e once = subst (λ k. EachOnce own k seats) e once

-- ---- one namespace more

module _ {X : Type 0} where
  pub agree-more : (n : ℕ) (journals : List Transcript) (lists : X → List (Vec Receipt Global)) (seats : List X) (journal : Transcript)
      → AgreeBelow n journals lists seats → slice_get journals n ≡ Some journal → Agree n journal.records (λ seat. receipts_at (lists seat) n) seats
      → AgreeBelow (n + 1) journals lists seats
  agree-more n journals lists seats journal below here it = λ k other lt at.
      let c : (k ≡ n) ⊎ (k < n) = eq-or-lt_of_le (omega arith) in
      elim c [
        | inl same ↦
            let e : journal ≡ other = same_Some journal other (sym here ∙ ap (slice_get journals) (sym same) ∙ at) in
            subst (λ (t : Transcript). Agree k t.records (λ seat. receipts_at (lists seat) k) seats) e
            (subst (λ m. Agree m journal.records (λ seat. receipts_at (lists seat) m) seats) (sym same) it)
        | inr less ↦ below k other less at
      ]

  pub agree-all : (n : ℕ) (journals : List Transcript) (lists : X → List (Vec Receipt Global)) (seats : List X) → AgreeBelow n journals lists seats
      → length journals ≤ n → AgreeAll journals lists seats
  agree-all n journals lists seats below few = record {
    each = λ k journal at. let lt = slice_get_within journals k journal at in below k journal (omega (arith, lt, few)) at;
  }

-- Notes that are moved.

-- none
pub moves-none : (behind notes : List Note) → MovesNotes behind behind notes notes
moves-none behind notes = record { moved = []; gained = sym (append-nil behind); left = refl }

-- What is said once the lock is let go.

-- of what the lock guards
pub guarded : {A E B : Type 0} (Cause : E → Type 0) (Fact : B → Type 0) (r : Result A E) (value : B) → IfErr r (λ e. Cause e × Fact value) → IfErr r (λ e. Cause e × WasGuarded Fact)
guarded Cause Fact (Ok x) value cause = cause
guarded Cause Fact (Err e) value cause = (cause.0, record { value = value; fact = cause.1 })

module _ {C A E : Type 0} (configs : List Config) (spaces : C → List Shown) where
  -- of what was given
  pub happened : (Fact : A → C → C → Type 0) (r : Result A E) (old new : C) (events : ℕ) → IsReachedFrom configs (spaces old) events → IfOk r (λ x. Fact x old new) → IfOk r (λ x. HappenedAtSomeMoment configs spaces (Fact x))
  happened Fact (Ok x) old new events reached fact = record { old = old; new = new; events = events; reached = reached; fact = fact }
  happened Fact (Err e) old new events reached fact = fact

  -- of a refusal
  pub held : (Fact : E → List Shown → Type 0) (r : Result A E) (core : C) (events : ℕ) → IsReachedFrom configs (spaces core) events → IfErr r (λ e. Fact e (spaces core)) → IfErr r (λ e. HeldAtSomeMoment configs spaces (Fact e))
  held Fact (Ok x) core events reached fact = fact
  held Fact (Err e) core events reached fact = record { core = core; events = events; reached = reached; fact = fact }
