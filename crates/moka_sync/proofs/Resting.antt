-- What a call with closures did in the holds of its lock, for what it returns.
use Rattle.std.specs.Prelude.{MatchOption}
use Rattle.std.specs.declared.alloc.AllocError.{AllocError}
use Rattle.std.proofs.Common.{◌≡◌, ◌∙◌, ℕ, Bool, true, false, Option, Some, None, Result, Ok, Err, IfOk, inl, inr, refl, sym, ap, subst, true≢false}
use Rattle.engine_reference.specs.Scanning.{NotesLookUp, past}
use Rattle.engine_reference.specs.Visible.{visible_value}
use Rattle.front_parts.specs.Places.Calls.{visible_of}
use Rattle.front_parts.specs.Places.Turning.{BeginsIn}
use Rattle.front_reference.specs.Fronts.{CallsPart, Front, part_by_hash, passed, turn_of}
use Rattle.front_reference.specs.Turns.{found_or, wait_or_lead}
use Rattle.front_reference.specs.declared.data.At.{At}
use Rattle.front_reference.specs.declared.data.Computed.{Computed}
use Rattle.front_reference.specs.declared.data.Made.{Made}
use Rattle.front_reference.specs.declared.data.Op.{Op}
use Rattle.front_reference.specs.declared.data.OpenTurn.{OpenTurn}
use Rattle.front_reference.specs.declared.data.TurnKind.{TurnKind}
use Rattle.front_reference.specs.declared.data.TurnKind.TheVariants as kinds
use Rattle.front_reference.specs.declared.data.TurnStart.{TurnStart}
use Rattle.front_reference.specs.declared.data.TurnStart.TheVariants as state
use Rattle.front_state.specs.Calls.{Ways, hash_in}
use Rattle.moka_sync.specs.Holding.{DoneUnderLock, Guarded}
use Rattle.moka_sync.specs.Making.{DidBegin, DidCoalesce, DidFinish, DoesUnderLock, GivenUnderLock, GivesUnderLock, MadeUnderLock, MayPass, OptionUnderLock, RestsUnderLock, ResultUnderLock, ValueUnderLock, WasVisible, WasMade, WasReceived, is_never}
use Rattle.moka_sync.specs.declared.turns.Passing.{Passing}
use Rattle.moka_sync.specs.declared.turns.Passing.TheVariants.{Never, Unasked, Said}
use Rattle.sync_desk.specs.Coalescing.{IsMadeOrFound}
use Rattle.sync_desk.specs.Drawing.{BeginsAsDrawn, CoalescesAsDrawn, LooksUpAsDrawn, state_start}
use Rattle.sync_desk.specs.Slots.Endings.{suits}
use Rattle.sync_desk.specs.declared.turns.Start.{Start}
use Rattle.sync_desk.specs.declared.turns.Start.TheVariants as starts

module _ {K V P S R : Type 0} (ways : Ways K V P S R) (moment : ℕ) (key : K) (old new : Front K V P S R) where
  -- a value that is found is not passed over
  found-past : (b : Bool) (o : Option V) (t : Option (OpenTurn K)) (kind : TurnKind) (hash : ℕ) (mid : Front K V P S R) (v : V) → (state.Found v, new) ≡ found_or (past b o) (wait_or_lead t kind key hash mid) mid
      → (b ≡ false) × (o ≡ Some v) × (new ≡ mid)
  found-past true o None kind hash mid v is = absurd (let no : state.Found v ≡ state.Lead mid.next_turn = ap (λ (p : TurnStart V × Front K V P S R). p.0) is in let never : ⊥ = cc in never)
  found-past true o (Some turn) kind hash mid v is = absurd (let no : state.Found v ≡ state.Wait turn.number = ap (λ (p : TurnStart V × Front K V P S R). p.0) is in let never : ⊥ = cc in never)
  found-past false None None kind hash mid v is = absurd (let no : state.Found v ≡ state.Lead mid.next_turn = ap (λ (p : TurnStart V × Front K V P S R). p.0) is in let never : ⊥ = cc in never)
  found-past false None (Some turn) kind hash mid v is = absurd (let no : state.Found v ≡ state.Wait turn.number = ap (λ (p : TurnStart V × Front K V P S R). p.0) is in let never : ⊥ = cc in never)
  found-past false (Some w) t kind hash mid v is =
      let one : state.Found v ≡ state.Found w = ap (λ (p : TurnStart V × Front K V P S R). p.0) is in
      let same : w ≡ v = cc in
      (refl, ap (λ x. Some x) same, ap (λ (p : TurnStart V × Front K V P S R). p.1) is)

  found-in : (Ignores : V → Bool → Type 0) (kind : TurnKind) (at : At) (v : V) → BeginsIn ways kind key (hash_in ways old key) at Ignores old new (state.Found v)
      → (Some v ≡ visible_of ways (part_by_hash old (hash_in ways old key)) at.now key)
      × CallsPart (hash_in ways old key) at.now at.step (NotesLookUp ways.answers ways.eq key (hash_in ways old key) at.now false) old new
  found-in Ignores kind at v b =
      let hash = hash_in ways old key in
      let is = found-past b.ignored (visible_value ways.answers ways.eq b.part at.now key) (turn_of ways.eq b.mid.turns kind key) kind hash b.mid v b.ends in (
        sym (ap (λ o. visible_of ways o at.now key) b.there ∙ is.1),
        subst (λ f. CallsPart hash at.now at.step (NotesLookUp ways.answers ways.eq key hash at.now false) old f) (sym is.2)
            (subst (λ ignored. CallsPart hash at.now at.step (NotesLookUp ways.answers ways.eq key hash at.now ignored) old b.mid) is.0 b.looks),
      )

  never-found : (t : Option (OpenTurn K)) (hash : ℕ) (f : Front K V P S R) (v : V) → (state.Found v, new) ≡ wait_or_lead t kinds.Compute key hash f → ⊥
  never-found None hash f v is = let other : state.Found v ≡ state.Lead f.next_turn = ap (λ (p : TurnStart V × Front K V P S R). p.0) is in cc
  never-found (Some turn) hash f v is = let other : state.Found v ≡ state.Wait turn.number = ap (λ (p : TurnStart V × Front K V P S R). p.0) is in cc

  -- a call that found a value looked its key up
  found-looked : (Ignores : V → Bool → Type 0) (kind : TurnKind) (v : V) → BeginsAsDrawn ways moment kind key Ignores old new (state.Found v) → LooksUpAsDrawn ways moment key old new (Some v)
  found-looked Ignores kinds.Compute v h = absurd (never-found (turn_of ways.eq old.turns kinds.Compute key) (hash_in ways old key) (passed h.0.now h.0.step old) v h.2)
  found-looked Ignores kinds.With v h = let found = found-in Ignores kinds.With h.0 v h.2 in (h.0, h.1, found.0, found.1)
  found-looked Ignores kinds.Optionally v h = let found = found-in Ignores kinds.Optionally h.0 v h.2 in (h.0, h.1, found.0, found.1)
  found-looked Ignores kinds.Try v h = let found = found-in Ignores kinds.Try h.0 v h.2 in (h.0, h.1, found.0, found.1)

  -- more may be passed over
  more-in : {I J : V → Bool → Type 0} (kind : TurnKind) (at : At) (start : TurnStart V) → ((v : V) (i : Bool) → I v i → J v i) → BeginsIn ways kind key (hash_in ways old key) at I old new start
      → BeginsIn ways kind key (hash_in ways old key) at J old new start
  more-in kind at start wider b = record { part = b.part; there = b.there; ignored = b.ignored; asked = λ v is. wider v b.ignored (b.asked v is); mid = b.mid; looks = b.looks; ends = b.ends }

  begins-more : {I J : V → Bool → Type 0} (kind : TurnKind) (start : TurnStart V) → ((v : V) (i : Bool) → I v i → J v i) → BeginsAsDrawn ways moment kind key I old new start → BeginsAsDrawn ways moment kind key J old new start
  begins-more kinds.Compute start wider h = h
  begins-more kinds.With start wider h = (h.0, h.1, more-in kinds.With h.0 start wider h.2)
  begins-more kinds.Optionally start wider h = (h.0, h.1, more-in kinds.Optionally h.0 start wider h.2)
  begins-more kinds.Try start wider h = (h.0, h.1, more-in kinds.Try h.0 start wider h.2)

  -- the same of how a call of a desk begins
  pub found-started : {A : Type 0} (Ignores : V → Bool → Type 0) (kind : TurnKind) (begun : Start A V) (v : V) → begun ≡ starts.Found v → BeginsAsDrawn ways moment kind key Ignores old new (state_start begun)
      → LooksUpAsDrawn ways moment key old new (Some v)
  found-started Ignores kind begun v is h = found-looked Ignores kind v (subst (λ s. BeginsAsDrawn ways moment kind key Ignores old new (state_start s)) is h)

  pub started-more : {A : Type 0} (I J : V → Bool → Type 0) (kind : TurnKind) (begun other : Start A V) → begun ≡ other → ((v : V) (i : Bool) → I v i → J v i) → BeginsAsDrawn ways moment kind key I old new (state_start begun)
      → BeginsAsDrawn ways moment kind key J old new (state_start other)
  started-more I J kind begun other is wider h = begins-more kind (state_start other) wider (subst (λ s. BeginsAsDrawn ways moment kind key I old new (state_start s)) is h)

module _ {K V P S R : Type 0} (ways : Ways K V P S R) (lock : ℕ) (kind : TurnKind) (key : K) {May Might : Bool → Type 0} (wider : (i : Bool) → May i → Might i) where
  pub begun-more : (start : TurnStart V) → DoneUnderLock lock (DidBegin ways kind key May start) → DoneUnderLock lock (DidBegin ways kind key Might start)
  begun-more start h = record {
    old = h.old;
    new = h.new;
    numbered = h.numbered;
    fact = record { begins = begins-more ways h.old.moment key h.old.state h.new.state kind start (λ v i. wider i) h.fact.begins; rest = h.fact.rest };
  }

  pub rests-more : {F : Type 0} (answer : Made V F) (is_fresh : Bool) → RestsUnderLock ways lock kind key May answer is_fresh → RestsUnderLock ways lock kind key Might answer is_fresh
  rests-more answer true h = record { number = h.number; leads = begun-more (state.Lead h.number) h.leads; ends = h.ends }
  rests-more answer false h = elim h [
    | inl found ↦ inl found
    | inr got ↦ inr (record { number = got.number; waits = begun-more (state.Wait got.number) got.waits; told = got.told })
  ]

  pub made-more : {F : Type 0} {Makes Made' : Made V F → Type 0} (answer : Made V F) (is_fresh : Bool) → (Makes answer → Made' answer) → MadeUnderLock ways lock kind key May Makes answer is_fresh
      → MadeUnderLock ways lock kind key Might Made' answer is_fresh
  made-more answer is_fresh makes h = record { suits = h.suits; made = λ fresh. makes (h.made fresh); rests = rests-more answer is_fresh h.rests }

module _ {V : Type 0} (Returns : V → Bool → Type 0) where
  -- what a closure returned for a value is known of it then
  pub still-said : (p : Passing) (written : ℕ) (said : Bool) (v : V) → is_never p ≡ false → Returns v said → (passed : Bool) → MayPass (Said written said) Returns passed → MayPass p Returns passed
  still-said Never written said v known returns passed may = absurd (true≢false known)
  still-said Unasked written said v known returns passed may = λ is. elim (may is) [
    | inl said' ↦ (v, subst (λ b. Returns v b) said' returns)
    | inr asked ↦ asked
  ]
  still-said (Said step b) written said v known returns passed may = λ is. elim (may is) [
    | inl said' ↦ inr (v, subst (λ b. Returns v b) said' returns)
    | inr asked ↦ inr asked
  ]

  pub said-once : (written : ℕ) (said : Bool) (v : V) → Returns v said → (passed : Bool) → MayPass (Said written said) (λ (w : V) b. b ≡ false) passed → MayPass Unasked Returns passed
  said-once written said v returns passed may = λ is. elim (may is) [
    | inl said' ↦ (v, subst (λ b. Returns v b) said' returns)
    | inr asked ↦ absurd (true≢false asked.1)
  ]

  pub never-passed : (passed : Bool) → passed ≡ false → MayPass Unasked Returns passed
  never-passed passed kept = λ is. absurd (true≢false (sym is ∙ kept))

  -- the same of a closure that returns more
  pub may-more : (Others : V → Bool → Type 0) (p : Passing) (passed : Bool) → ((v : V) (says : Bool) → Returns v says → Others v says) → MayPass p Returns passed → MayPass p Others passed
  may-more Others Never passed wider may = may
  may-more Others Unasked passed wider may = λ is. let asked = may is in (asked.0, wider asked.0 true asked.1)
  may-more Others (Said step said) passed wider may = λ is. elim (may is) [
    | inl said' ↦ inl said'
    | inr asked ↦ inr (asked.0, wider asked.0 true asked.1)
  ]

-- a call that begins has its answer, or leads and makes it
module _ {K V P S R F : Type 0} (ways : Ways K V P S R) (lock : ℕ) (kind : TurnKind) (key named : K) (same : key ≡ named) (over : Bool) (May : Bool → Type 0) (may : May over) (Makes : Made V F → Type 0) where
  wider : (i : Bool) → i ≡ over → May i
  wider i is = subst May (sym is) may

  pub answered : (answer : Made V F) → (suits kind answer ≡ true) × RestsUnderLock ways lock kind key (λ passed. passed ≡ over) answer false → MadeUnderLock ways lock kind named May Makes answer false
  answered answer begun = record {
    suits = begun.0;
    made = λ fresh. absurd (true≢false (sym fresh));
    rests = subst (λ k. RestsUnderLock ways lock kind k May answer false) same (rests-more ways lock kind key wider answer false begun.1);
  }

  pub led : {E : Type 0} (number : ℕ) (r : Result (Made V F × Bool) E) → DoneUnderLock lock (DidBegin ways kind key (λ passed. passed ≡ over) (state.Lead number)) → IfOk r (λ a. DoneUnderLock lock (DidFinish ways number a.0))
      → IfOk r (λ a. Makes a.0) → IfOk r (λ a. suits kind a.0 ≡ true) → IfOk r (λ a. a.1 ≡ true) → IfOk r (λ a. MadeUnderLock ways lock kind named May Makes a.0 a.1)
  led number (Ok a) leads ends makes suit fresh =
      let made : WasMade ways lock kind named May a.0 = subst (λ k. WasMade ways lock kind k May a.0) same (record { number = number; leads = begun-more ways lock kind key wider (state.Lead number) leads; ends = ends }) in
      record { suits = suit; made = λ is. makes; rests = subst (λ b. RestsUnderLock ways lock kind named May a.0 b) (sym fresh) made }
  led number (Err e) leads ends makes suit fresh = tt

module _ {K V P S R F : Type 0} (ways : Ways K V P S R) (lock : ℕ) (kind : TurnKind) (key : K) where
  -- a call that asked before it began
  pub asked-once : {E : Type 0} (Returns Others : V → Bool → Type 0) (p : Passing) → ((v : V) (says : Bool) → Others v says → says ≡ false)
      → ((passed : Bool) → MayPass p (λ (v : V) b. b ≡ false) passed → MayPass Unasked Returns passed) → (Makes : Made V F → Type 0) (r : Result (Made V F × Bool) E)
      → IfOk r (λ a. MadeUnderLock ways lock kind key (MayPass p Others) Makes a.0 a.1) → IfOk r (λ a. MadeUnderLock ways lock kind key (MayPass Unasked Returns) Makes a.0 a.1)
  asked-once Returns Others p never may Makes (Ok a) h =
      made-more ways lock kind key (λ passed m. may passed (may-more Others (λ (v : V) b. b ≡ false) p passed never m)) a.0 a.1 (λ m. m) h
  asked-once Returns Others p never may Makes (Err e) h = tt

  -- a call that does not say whether its answer is fresh
  pub given : {Makes Others : Made V F → Type 0} (May : Bool → Type 0) (answer shown : Made V F) (is_fresh : Bool) → shown ≡ answer → ((made : Made V F) → Makes made → Others made) → MadeUnderLock ways lock kind key May Makes answer is_fresh
      → GivenUnderLock ways lock kind key May Others shown
  given {Makes} {Others} May answer shown is_fresh same wider h = (is_fresh, subst (λ a. MadeUnderLock ways lock kind key May Others a is_fresh) (sym same) (made-more ways lock kind key (λ i m. m) answer is_fresh (wider answer) h))

-- the same number of a lock
module _ {K V P S R : Type 0} (ways : Ways K V P S R) {lock other : ℕ} (same : lock ≡ other) where
  pub value-at : {E : Type 0} (F : Type 0) (key : K) (May : Bool → Type 0) (Makes : V → Type 0) (r : Result V E) → IfOk r (ValueUnderLock ways lock F key May Makes) → IfOk r (ValueUnderLock ways other F key May Makes)
  value-at F key May Makes r h = subst (λ l. IfOk r (ValueUnderLock ways l F key May Makes)) same h

  pub option-at : {E : Type 0} (F : Type 0) (key : K) (Makes : Option V → Type 0) (r : Result (Option V) E) → IfOk r (OptionUnderLock ways lock F key Makes) → IfOk r (OptionUnderLock ways other F key Makes)
  option-at F key Makes r h = subst (λ l. IfOk r (OptionUnderLock ways l F key Makes)) same h

  pub result-at : {X E F : Type 0} (key : K) (Makes : Result V F → Type 0) (seen : X → Result V F) (r : Result X E) → IfOk r (λ x. ResultUnderLock ways lock key Makes (seen x)) → IfOk r (λ x. ResultUnderLock ways other key Makes (seen x))
  result-at key Makes seen r h = subst (λ l. IfOk r (λ x. ResultUnderLock ways l key Makes (seen x))) same h

  pub given-at : {F : Type 0} (kind : TurnKind) (key : K) {May : Bool → Type 0} (Makes : Made V F → Type 0) (answer : Made V F) → GivenUnderLock ways lock kind key May Makes answer → GivenUnderLock ways other kind key May Makes answer
  given-at kind key {May} Makes answer h = subst (λ l. GivenUnderLock ways l kind key May Makes answer) same h

any-ends : {V : Type 0} (A B C : Type 0) (D : V → Type 0) (o : Option V) → MatchOption o (A × B × C) D → MatchOption o (Unit {0} × B × C) D
any-ends A B C D None h = (tt, h.1, h.2)
any-ends A B C D (Some v) h = h

module _ {K V P S R F : Type 0} (ways : Ways K V P S R) (lock : ℕ) (key : K) where
  -- what was done in one hold, whatever its closures return
  coalesced-any : (I : V → Bool → Type 0) (M : Result (Made V F) AllocError → Type 0) (moment : ℕ) (old new : Front K V P S R) (a : Made V F × Bool) → CoalescesAsDrawn ways moment key I M old new a
      → CoalescesAsDrawn ways moment key (λ v b. Unit {0}) (λ (made : Result (Made V F) AllocError). Unit {0}) old new (a.0, a.1)
  coalesced-any I M moment old new a h =
      let call = h.2.call in
      let does = call.does in (
        h.0,
        h.1,
        record {
          parts = h.2.parts;
          call = record {
            before = call.before;
            after = call.after;
            there = call.there;
            does = record { ignored = does.ignored; asked = λ v is. tt; ends = any-ends _ _ _ _ (past does.ignored (visible_value ways.answers ways.eq call.before h.0.now key)) does.ends };
            changed = call.changed;
          };
          changed = h.2.changed;
        },
      )

  made-now : (Makes : Made V F → Type 0) (answer : Made V F) (is_fresh : Bool) → IsMadeOrFound Makes answer is_fresh → is_fresh ≡ true → Makes answer
  made-now Makes answer true h fresh = h
  made-now Makes answer false h fresh = absurd (true≢false (sym fresh))

  -- a selector's call that waits for nobody
  pub gives-held : {E : Type 0} (I : V → Bool → Type 0) (M : Result (Made V F) AllocError → Type 0) (Ignores : V → Bool → Type 0) (r : Result (Made V F × Bool) E) → IfOk r (λ a. DoneUnderLock lock (DidCoalesce ways key I M a))
      → IfOk r (λ a. IsMadeOrFound (λ made. M (Ok made)) a.0 a.1) → IfOk r (λ a. GivesUnderLock ways lock None key Ignores (λ made. M (Ok made)) a.0 a.1)
  gives-held I M Ignores (Ok a) did made = record {
    seen = None;
    sees = tt;
    ignored = false;
    asked = tt;
    made = made-now (λ m. M (Ok m)) a.0 a.1 made;
    does = record {
      old = did.old;
      new = did.new;
      numbered = did.numbered;
      fact = record { coalesces = coalesced-any I M did.old.moment did.old.state did.new.state a did.fact.coalesces; rest = did.fact.rest };
    };
  }
  gives-held I M Ignores (Err e) did made = tt

  -- one that has a kind
  pub gives-kind : {E : Type 0} (May : Bool → Type 0) (Makes : Made V F → Type 0) (Ignores : V → Bool → Type 0) (kind : TurnKind) (r : Result (Made V F × Bool) E) → IfOk r (λ a. MadeUnderLock ways lock kind key May Makes a.0 a.1)
      → IfOk r (λ a. GivesUnderLock ways lock (Some kind) key Ignores Makes a.0 a.1)
  gives-kind May Makes Ignores kind (Ok a) h = record { seen = None; sees = tt; ignored = false; asked = tt; made = h.made; does = rests-more ways lock kind key (λ i m. tt) a.0 a.1 h.rests }
  gives-kind May Makes Ignores kind (Err e) h = tt

-- what a selector of a handle that holds an `rt` says, said of the key and the lock that it was made of
module _ {K V P S R : Type 0} (ways : Ways K V P S R) {lock other : ℕ} (same : lock ≡ other) {key named : K} (is : key ≡ named) where
  pub gives-of : {F : Type 0} (kind : Option TurnKind) {Ignores : V → Bool → Type 0} {Makes : Made V F → Type 0} (answer : Made V F) (is_fresh : Bool) → GivesUnderLock ways lock kind key Ignores Makes answer is_fresh
      → GivesUnderLock ways other kind named Ignores Makes answer is_fresh
  gives-of kind {Ignores} {Makes} answer is_fresh h = subst (λ l. GivesUnderLock ways l kind named Ignores Makes answer is_fresh) same (subst (λ k. GivesUnderLock ways lock kind k Ignores Makes answer is_fresh) is h)

  pub does-of : (does : Op V) (done : Computed V) → DoesUnderLock ways lock key does done → DoesUnderLock ways other named does done
  does-of does done h = subst (λ l. DoesUnderLock ways l named does done) same (subst (λ k. DoesUnderLock ways lock k does done) is h)

module _ {K V P S R F E : Type 0} (ways : Ways K V P S R) {lock other : ℕ} (same : lock ≡ other) {kind named : Option TurnKind} (is : kind ≡ named) where
  pub gives-by : (key : K) (Ignores : V → Bool → Type 0) (Makes : Made V F → Type 0) (r : Result (Made V F × Bool) E) → IfOk r (λ a. GivesUnderLock ways lock kind key Ignores Makes a.0 a.1) → IfOk r (λ a. GivesUnderLock ways other named key Ignores Makes a.0 a.1)
  gives-by key Ignores Makes r h =
      subst (λ l. IfOk r (λ a. GivesUnderLock ways l named key Ignores Makes a.0 a.1)) same (subst (λ k. IfOk r (λ a. GivesUnderLock ways lock k key Ignores Makes a.0 a.1)) is h)
