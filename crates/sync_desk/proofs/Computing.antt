-- How a call begins, and how a compute call does.
use Rattle.std.proofs.Common.{◌≡◌, ◌==◌, ℕ, Bool, true, false, Option, Some, None, Result, Ok, Err, IfOk, OnErr, refl, sym, ap, ◌∙◌, subst, inr, option_map, if◌then◌else◌, true≢false}
use Rattle.std.proofs.lemmas.Bool.{eq-eqb}
use Rattle.front_parts.specs.Places.Calls.{visible_of}
use Rattle.front_parts.specs.Places.Turning.{WaitsOrLeads}
use Rattle.engine_reference.specs.Scanning.{NotesLookUp, past}
use Rattle.front_reference.specs.Fronts.{CallsPart, Front, part_by_hash, passed, same_kind, turn_of}
use Rattle.front_reference.specs.Turns.{wait_or_lead}
use Rattle.front_reference.specs.declared.data.At.{At}
use Rattle.front_reference.specs.declared.data.OpenTurn.{OpenTurn}
use Rattle.front_reference.specs.declared.data.TurnKind.{TurnKind}
use Rattle.front_reference.specs.declared.data.TurnKind.TheVariants as kinds
use Rattle.front_reference.specs.declared.data.TurnStart.{TurnStart}
use Rattle.front_reference.specs.declared.data.TurnStart.TheVariants as state
use Rattle.front_reference.specs.declared.errors.CacheError.{CacheError}
use Rattle.front_state.specs.Beginning.{BeginsBy, StartsBy}
use Rattle.front_state.specs.Calls.{Ways, hash_in}
use Rattle.front_state.proofs.Steady.{begun_else, begun_found}
use Rattle.sync_desk.specs.Drawing.{BeginsAsDrawn, ComputesAsDrawn, EndsUnstarted, GivesUp, IsDrawn, LooksUpAsDrawn, StartsAsDrawn, state_start}
use Rattle.sync_desk.specs.Slots.Waiting.{ChangesTurnAt, IsPutAt, SlotsByNumber, changed, ended_with, fresh_turn, turn_by_number}
use Rattle.sync_desk.specs.declared.slots.slot.Ending.TheVariants.{GivenUp}
use Rattle.sync_desk.specs.declared.turns.ComputeStart.{ComputeStart}
use Rattle.sync_desk.specs.declared.turns.ComputeStart.TheVariants as computing
use Rattle.sync_desk.specs.declared.turns.Start.{Start}

-- a call begins with what is found, or as it starts where nothing is
module _ {K V P S R : Type 0} (ways : Ways K V P S R) (key : K) (hash : ℕ) (at : At) (Ignores : V → Bool → Type 0) (ignored : Bool) (old new : Front K V P S R) where
  abbrev seen : Option V
  seen = past ignored (visible_of ways (part_by_hash old hash) at.now key)

  pub found-begins : (kind : TurnKind) (value : V) → same_kind kind kinds.Compute ≡ false → ((v : V) → visible_of ways (part_by_hash old hash) at.now key ≡ Some v → Ignores v ignored) → Some value ≡ seen
      → CallsPart hash at.now at.step (NotesLookUp ways.answers ways.eq key hash at.now ignored) old new → BeginsBy ways kind key hash at Ignores old new (state.Found value)
  found-begins kinds.Compute value makes asked is looks = absurd (true≢false makes)
  found-begins kinds.With value makes asked is looks = begun_found ways old new kinds.With key hash at.now at.step Ignores ignored value asked is looks
  found-begins kinds.Optionally value makes asked is looks = begun_found ways old new kinds.Optionally key hash at.now at.step Ignores ignored value asked is looks
  found-begins kinds.Try value makes asked is looks = begun_found ways old new kinds.Try key hash at.now at.step Ignores ignored value asked is looks

  pub missed-begins : (kind : TurnKind) (start : TurnStart V) → same_kind kind kinds.Compute ≡ false → ((v : V) → visible_of ways (part_by_hash old hash) at.now key ≡ Some v → Ignores v ignored) → None ≡ seen
      → StartsBy ways kind key hash at ignored old new start → BeginsBy ways kind key hash at Ignores old new start
  missed-begins kinds.Compute start makes asked is starts = absurd (true≢false makes)
  missed-begins kinds.With start makes asked is starts = begun_else ways old new kinds.With key hash at Ignores ignored start asked is starts
  missed-begins kinds.Optionally start makes asked is starts = begun_else ways old new kinds.Optionally key hash at Ignores ignored start asked is starts
  missed-begins kinds.Try start makes asked is starts = begun_else ways old new kinds.Try key hash at Ignores ignored start asked is starts

  pub compute-begins : (kind : TurnKind) (start : TurnStart V) → same_kind kind kinds.Compute ≡ true → StartsBy ways kind key hash at ignored old new start → BeginsBy ways kind key hash at Ignores old new start
  compute-begins kinds.Compute start computes starts = starts
  compute-begins kinds.With start computes starts = absurd (true≢false (sym computes))
  compute-begins kinds.Optionally start computes starts = absurd (true≢false (sym computes))
  compute-begins kinds.Try start computes starts = absurd (true≢false (sym computes))

-- the same at the moment and step that were drawn
module _ {K V P S R : Type 0} (ways : Ways K V P S R) (moment : ℕ) (key : K) (hash : ℕ) (at : At) (Ignores : V → Bool → Type 0) (old new : Front K V P S R) (drawn : IsDrawn moment old at) (hashed : hash ≡ hash_in ways old key) where
  begins-drawn : (kind : TurnKind) (start : TurnStart V) → BeginsBy ways kind key hash at Ignores old new start → BeginsAsDrawn ways moment kind key Ignores old new start
  begins-drawn kind start begins = (at, drawn, subst (λ n. BeginsBy ways kind key n at Ignores old new start) hashed begins)

  pub found-drawn : (kind : TurnKind) (ignored : Bool) (value : V) → same_kind kind kinds.Compute ≡ false → ((v : V) → visible_of ways (part_by_hash old hash) at.now key ≡ Some v → Ignores v ignored)
      → Some value ≡ past ignored (visible_of ways (part_by_hash old hash) at.now key) → CallsPart hash at.now at.step (NotesLookUp ways.answers ways.eq key hash at.now ignored) old new → BeginsAsDrawn ways moment kind key Ignores old new (state.Found value)
  found-drawn kind ignored value makes asked is looks = begins-drawn kind (state.Found value) (found-begins ways key hash at Ignores ignored old new kind value makes asked is looks)

  pub missed-drawn : {A E : Type 0} (kind : TurnKind) (ignored : Bool) (looked : Front K V P S R) (r : Result (Start A V) E) → looked ≡ old → same_kind kind kinds.Compute ≡ false → ((v : V) → visible_of ways (part_by_hash old hash) at.now key ≡ Some v → Ignores v ignored)
      → None ≡ past ignored (visible_of ways (part_by_hash old hash) at.now key) → IfOk r (λ start. StartsBy ways kind key hash at ignored looked new (state_start start)) → IfOk r (λ start. BeginsAsDrawn ways moment kind key Ignores old new (state_start start))
  missed-drawn kind ignored looked (Ok start) stays makes asked is starts =
      begins-drawn kind (state_start start) (missed-begins ways key hash at Ignores ignored old new kind (state_start start) makes asked is (subst (λ f. StartsBy ways kind key hash at ignored f new (state_start start)) stays starts))
  missed-drawn kind ignored looked (Err e) stays makes asked is starts = tt

  pub compute-drawn : {A E : Type 0} (kind : TurnKind) (ignored : Bool) (r : Result (Start A V) E) → same_kind kind kinds.Compute ≡ true
      → IfOk r (λ start. StartsBy ways kind key hash at ignored old new (state_start start)) → IfOk r (λ start. BeginsAsDrawn ways moment kind key Ignores old new (state_start start))
  compute-drawn kind ignored (Ok start) computes starts = begins-drawn kind (state_start start) (compute-begins ways key hash at Ignores ignored old new kind (state_start start) computes starts)
  compute-drawn kind ignored (Err e) computes starts = tt

-- where no turn is under way, a call that finds nothing leads; where one is, it waits for it
module _ {K V P S R : Type 0} (ways : Ways K V P S R) (key : K) (hash : ℕ) (at : At) (ignored : Bool) (old new : Front K V P S R) where
  abbrev waits : ℕ → TurnStart V
  waits n = state.Wait n

  leading : (o : Option (OpenTurn K)) (kind : TurnKind) (f : Front K V P S R) (start : TurnStart V) → o ≡ None → (start, new) ≡ wait_or_lead o kind key hash f → start ≡ state.Lead f.next_turn
  leading o kind f start none ends = ap (λ (p : TurnStart V × Front K V P S R). p.0) (ends ∙ ap (λ x. wait_or_lead x kind key hash f) none)

  waiting : (o : Option (OpenTurn K)) (kind : TurnKind) (f : Front K V P S R) (start : TurnStart V) (n : ℕ) → option_map (λ turn. turn.number) o ≡ Some n → (start, new) ≡ wait_or_lead o kind key hash f → start ≡ state.Wait n
  waiting None kind f start n is ends = absurd (let no : ⊥ = cc in no)
  waiting (Some turn) kind f start n is ends =
      let both : Some turn.number ≡ Some n = is in
      let one : turn.number ≡ n = cc in
      ap (λ (p : TurnStart V × Front K V P S R). p.0) ends ∙ ap waits one

  made-leading : (kind : TurnKind) (start : TurnStart V) → turn_of ways.eq old.turns kind key ≡ None → WaitsOrLeads ways kind key hash at ignored old new start → (n : ℕ) × (start ≡ state.Lead n)
  made-leading kind start none w =
      (w.mid.next_turn, leading (turn_of ways.eq w.mid.turns kind key) kind w.mid start (ap (λ (x : Front K V P S R). turn_of ways.eq x.turns kind key) w.looks.changed ∙ none) w.ends)

  made-waiting : (kind : TurnKind) (start : TurnStart V) (n : ℕ) → option_map (λ turn. turn.number) (turn_of ways.eq old.turns kind key) ≡ Some n → WaitsOrLeads ways kind key hash at ignored old new start → start ≡ state.Wait n
  made-waiting kind start n is w =
      waiting (turn_of ways.eq w.mid.turns kind key) kind w.mid start n (ap (λ (x : Front K V P S R). option_map (λ turn. turn.number) (turn_of ways.eq x.turns kind key)) w.looks.changed ∙ is) w.ends

  pub starts-leading : (kind : TurnKind) (start : TurnStart V) → turn_of ways.eq old.turns kind key ≡ None → StartsBy ways kind key hash at ignored old new start → (n : ℕ) × (start ≡ state.Lead n)
  starts-leading kinds.Compute start none starts = (old.next_turn, leading (turn_of ways.eq old.turns kinds.Compute key) kinds.Compute (passed at.now at.step old) start none starts)
  starts-leading kinds.With start none starts = made-leading kinds.With start none starts
  starts-leading kinds.Optionally start none starts = made-leading kinds.Optionally start none starts
  starts-leading kinds.Try start none starts = made-leading kinds.Try start none starts

  pub starts-waiting : (kind : TurnKind) (start : TurnStart V) (n : ℕ) → option_map (λ turn. turn.number) (turn_of ways.eq old.turns kind key) ≡ Some n → StartsBy ways kind key hash at ignored old new start → start ≡ state.Wait n
  starts-waiting kinds.Compute start n is starts = waiting (turn_of ways.eq old.turns kinds.Compute key) kinds.Compute (passed at.now at.step old) start n is starts
  starts-waiting kinds.With start n is starts = made-waiting kinds.With start n is starts
  starts-waiting kinds.Optionally start n is starts = made-waiting kinds.Optionally start n is starts
  starts-waiting kinds.Try start n is starts = made-waiting kinds.Try start n is starts

-- a turn that begins and is given up is no longer there
module _ {V F : Type 0} (number hash : ℕ) (old mid new : SlotsByNumber V F) (begins : IsPutAt number (Some (fresh_turn kinds.Compute hash)) old mid) (ends : ChangesTurnAt kinds.Compute number (ended_with GivenUp) mid new) where
  there : turn_by_number number mid ≡ Some (fresh_turn kinds.Compute hash)
  there = begins number ∙ ap (λ b. if b then Some (fresh_turn kinds.Compute hash) else turn_by_number number old) (eq-eqb number number refl)

  pub unopened : IsPutAt number None old new
  unopened n = go (number == n) refl
    where
      go : (b : Bool) → (number == n) ≡ b → turn_by_number n new ≡ (if b then None else turn_by_number n old)
      go true e = ends n ∙ ap (λ b. if b then changed kinds.Compute (ended_with GivenUp) (turn_by_number number mid) else turn_by_number n mid) e ∙ ap (λ turn. changed kinds.Compute (ended_with GivenUp) turn) there
      go false e = ends n ∙ ap (λ b. if b then changed kinds.Compute (ended_with GivenUp) (turn_by_number number mid) else turn_by_number n mid) e ∙ begins n ∙ ap (λ b. if b then Some (fresh_turn kinds.Compute hash) else turn_by_number n old) e

-- a compute call that leads, and is then shown a value or refused
module _ {K V P S R : Type 0} (ways : Ways K V P S R) (moment kept : ℕ) (same : kept ≡ moment) (key : K) (number : ℕ) (old mid new : Front K V P S R) (starts : StartsAsDrawn ways moment key old mid (state.Lead number)) where
  pub led : (r : Result (ComputeStart V) CacheError) → IfOk r (λ start. (seen : Option V) × (start ≡ computing.Lead number seen) × LooksUpAsDrawn ways kept key mid new seen) → IfOk r (ComputesAsDrawn ways moment key old new)
  led (Ok start) shown = subst (λ s. ComputesAsDrawn ways moment key old new s) (sym shown.1) (mid, starts, subst (λ m. LooksUpAsDrawn ways m key mid new shown.0) same shown.2)
  led (Err e) shown = tt

  pub unled : {F : Type 0} (hash : ℕ) (slots opens left : SlotsByNumber V F) (r : Result (ComputeStart V) CacheError) → IsPutAt number (Some (fresh_turn kinds.Compute hash)) slots opens → OnErr r (GivesUp kept number mid new)
      → OnErr r (ChangesTurnAt kinds.Compute number (ended_with GivenUp) opens left) → OnErr r (EndsUnstarted ways moment key slots left old new)
  unled hash slots opens left (Ok start) begins gives told = tt
  unled hash slots opens left (Err e) begins gives told = inr (number, mid, starts, subst (λ m. GivesUp m number mid new) same gives, unopened number hash slots opens left begins told)
