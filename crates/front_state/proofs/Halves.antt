-- A predicate in the first part of a steady front, in two halves.
use Rattle.std.proofs.Common.{◌≡◌, refl, ap, sym, ◌∙◌, subst, ℕ, zero, suc, ◌+◌, ◌-◌, ◌<◌, ◌≤◌, ◌⊎◌, inl, inr, arith, Bool, true, false, List, [], ◌∷◌, length, get_or, Some, Err}
use Rattle.std.proofs.Math.Logic.{∥∥₁_elim}
use Rattle.std.proofs.Props.{props}
use Rattle.std.specs.Prelude.{slice_get, slice_set}
use Rattle.std.specs.Result.{IsErrOf}
use Rattle.rand_core.specs.Stream.{Stream}
use Rattle.engine_calls.specs.Refusing.{IsCauseToRegister}
use Rattle.engine_reference.specs.Calls.{registered, with_room, without_room}
use Rattle.engine_reference.specs.Identifiers.Drawing.{AreInUse, Draws, is_registered}
use Rattle.engine_reference.specs.State.{State}
use Rattle.engine_reference.specs.declared.data.Registered.{Registered}
use Rattle.engine_reference.specs.declared.rules.refusal.Refusal.{Refusal}
use Rattle.engine_reference.specs.declared.rules.refusal.Refusal.TheVariants as refusal
use Rattle.front_parts.proofs.wholes.Firsts.{first-length, first-step, set_same, there}
use Rattle.front_parts.specs.Places.Calls.{Ways}
use Rattle.front_parts.specs.Wholes.Firsts.{changed_first}
use Rattle.front_reference.proofs.laws.Kept.{calls_keep}
use Rattle.front_reference.specs.Fronts.{CallsEach, ComesAfter, Front, passed}
use Rattle.front_reference.specs.Keeping.{Common, IsKept}
use Rattle.front_reference.specs.Wholes.{DrawsInVain}
use Rattle.front_reference.specs.declared.errors.CacheError.{CacheError}
use Rattle.front_reference.specs.declared.errors.CacheError.TheVariants as errors
use Rattle.front_state.proofs.Covered.{some_parts}
use Rattle.front_state.proofs.Steady.{Keeps, KeepsEach, all_stay_steady}
use Rattle.front_state.specs.Covering.{IsCauseToCover}
use Rattle.front_state.specs.Sharding.{DrawsForFirst, FirstHasRoom, cover_error, with_first_part}

pub disabled_alone : {T U : Type 0} (refused : Refusal) (e : CacheError) → e ≡ cover_error refused → IsErrOf {T = T} (Err refused) refusal.InvalidationClosuresDisabled
    → IsErrOf {T = U} (Err e) errors.InvalidationClosuresDisabled
disabled_alone refused e same h = let is : refused ≡ refusal.InvalidationClosuresDisabled = cc in ap Err (same ∙ ap cover_error is)

module _ {K V P S R : Type 0} where
  -- a part is as it was, or changed
  abbrev MayBe : (State K V P S R → State K V P S R) → State K V P S R → State K V P S R → Type 0
  MayBe change s t = (t ≡ s) ⊎ (t ≡ change s)

  first-there : (change : State K V P S R → State K V P S R) (ss : List (State K V P S R)) (place : ℕ) (s : State K V P S R) → slice_get ss place ≡ Some s
      → (t : State K V P S R) × (slice_get (changed_first (λ k. change) 1 ss) place ≡ Some t) × MayBe change s t
  first-there change [] place s at = absurd (let no : ⊥ = cc in no)
  first-there change (x ∷ ss) zero s at = let same : x ≡ s = cc in (change x, refl, inr (ap change same))
  first-there change (x ∷ ss) (suc place) s at = (s, at, inl refl)

  first-each : (change : State K V P S R → State K V P S R) (ss : List (State K V P S R)) → CallsEach (MayBe change) ss (changed_first (λ k. change) 1 ss)
  first-each change ss = record { count = first-length (λ k. change) 1 ss; each = first-there change ss }

  -- the list with its first part changed
  pub first_set : (change : State K V P S R → State K V P S R) (ss : List (State K V P S R)) (s t : State K V P S R) → 0 < length ss → s ≡ get_or ss 0 s → t ≡ change s
      → slice_set ss 0 t ≡ changed_first (λ k. change) 1 ss
  first_set change ss s t some is does = first-step (λ k. change) 0 ss ss s t refl some is does

  pub first_as : (f g : Front K V P S R) (change : State K V P S R → State K V P S R) (parts : List (State K V P S R)) → f ≡ g → parts ≡ changed_first (λ k. change) 1 f.parts
      → record f { parts = parts } ≡ with_first_part change g
  first_as f g change parts same is = ap (λ ss. record f { parts = ss }) is ∙ ap (λ (x : Front K V P S R). with_first_part change x) same

module _ {K V P S R : Type 0} (ways : Ways K V P S R) where
  -- a change that keeps a part at a moment and a step
  abbrev KeepsIt : (now step : ℕ) → (State K V P S R → State K V P S R) → Type 0
  KeepsIt now step change = (common : Common S R) (belongs : K → Bool) (s : State K V P S R) → IsKept 63 ways.eq common belongs now step s → IsKept 63 ways.eq common belongs now step (change s)

  may-keep : (now step : ℕ) (change : State K V P S R → State K V P S R) → KeepsIt now step change → KeepsEach ways now step (MayBe change)
  may-keep now step change keeps common belongs moment last s t later less does old =
      let here = (calls_keep K V P S R).later common 63 ways.eq belongs moment last now step s later less old in
      elim does [
        | inl same ↦ subst (λ x. IsKept 63 ways.eq common belongs now step x) (sym same) here
        | inr made ↦ subst (λ x. IsKept 63 ways.eq common belongs now step x) (sym made) (keeps common belongs s here)
      ]

  pub room-keeps : (now step : ℕ) → KeepsIt now step with_room
  room-keeps now step common belongs s h = (calls_keep K V P S R).reserved common 63 ways.eq belongs now step (s.reserved + 1) s h

  pub release-keeps : (now step : ℕ) → KeepsIt now step without_room
  release-keeps now step common belongs s h = (calls_keep K V P S R).reserved common 63 ways.eq belongs now step (s.reserved - 1) s h

  pub register-keeps : (now step : ℕ) (r : Registered P) → KeepsIt now step (registered r)
  register-keeps now step r common belongs s h = (calls_keep K V P S R).covered common 63 ways.eq belongs now step r (without_room s) (release-keeps now step common belongs s h)

  -- the front stays steady
  pub first_passes : (f g : Front K V P S R) (now step : ℕ) (change : State K V P S R → State K V P S R) (parts : List (State K V P S R)) → f ≡ g → ComesAfter now step g → KeepsIt now step change
      → parts ≡ changed_first (λ k. change) 1 f.parts → Keeps ways f → Keeps ways (passed now step (record f { parts = parts }))
  first_passes f g now step change parts same after keeps is k =
      all_stay_steady ways f g now step (MayBe change) parts same after (may-keep now step change keeps)
      (subst (λ ss. CallsEach (MayBe change) f.parts ss) (sym is) (first-each change f.parts)) k

  pub first_stays : (f : Front K V P S R) (change : State K V P S R → State K V P S R) (parts : List (State K V P S R)) → KeepsIt f.moment f.step change
      → parts ≡ changed_first (λ k. change) 1 f.parts → Keeps ways f → Keeps ways (record f { parts = parts })
  first_stays f change parts keeps is k = first_passes f f f.moment f.step change parts refl (record { later = omega arith; further = omega arith }) keeps is k

  -- the first part, and why it refuses a predicate
  pub first_here : (f g : Front K V P S R) (s : State K V P S R) → f ≡ g → Keeps ways f → s ≡ get_or f.parts 0 s → slice_get g.parts 0 ≡ Some s
  first_here f g s same k is = there g.parts 0 s (subst (λ (x : Front K V P S R). 0 < length x.parts) same (some_parts ways f k)) (is ∙ ap (λ (x : Front K V P S R). get_or x.parts 0 s) same)

  pub takes_alike : (f g : Front K V P S R) (s : State K V P S R) → f ≡ g → Keeps ways f → s ≡ get_or f.parts 0 s → s.settings.takes_predicates ≡ g.common.settings.takes_predicates
  takes_alike f g s same k is =
      ∥∥₁_elim k (Prim.hlevel props) (λ x. ap (λ (o : Common S R). o.settings.takes_predicates) (x.kept 0 s (first_here f f s refl k is)).made
      ∙ ap (λ (h : Front K V P S R). h.common.settings.takes_predicates) same)

  pub first_draws : (f g : Front K V P S R) (s : State K V P S R) (a b : Stream) (id : ℕ) → f ≡ g → Keeps ways f → s ≡ get_or f.parts 0 s → Draws a b (is_registered s.predicates) id → DrawsForFirst a b id g
  first_draws f g s a b id same k is drawn t at =
      let both : Some s ≡ Some t = sym (first_here f g s same k is) ∙ at in
      let one : s ≡ t = cc in
      subst (λ (x : State K V P S R). Draws a b (is_registered x.predicates) id) one drawn

  vain-first : (ss : List (State K V P S R)) (s : State K V P S R) (a b : Stream) → slice_get ss 0 ≡ Some s → AreInUse a b (is_registered s.predicates) → DrawsInVain ss a b
  vain-first [] s a b at used = absurd (let no : ⊥ = cc in no)
  vain-first (x ∷ ss) s a b at used = let same : s ≡ x = cc in inl (subst (λ (y : State K V P S R). AreInUse a b (is_registered y.predicates)) same used)

  pub first_caused : (f g : Front K V P S R) (s : State K V P S R) (a b : Stream) (refused : Refusal) → f ≡ g → Keeps ways f → s ≡ get_or f.parts 0 s → IsCauseToRegister s a b refused
      → IsCauseToCover g a b (cover_error refused)
  first_caused f g s a b refusal.OutOfMemory same k is h = h
  first_caused f g s a b refusal.InvalidationClosuresDisabled same k is h = (h.0, sym (takes_alike f g s same k is) ∙ h.1)
  first_caused f g s a b refusal.UsedUp same k is h = (h.0, (0, s, first_here f g s same k is, h.1))
  first_caused f g s a b refusal.IdsInUse same k is h = vain-first g.parts s a b (first_here f g s same k is) h
  first_caused f g s a b refusal.UnknownTicket same k is h = absurd h
  first_caused f g s a b refusal.QueueFull same k is h = absurd h

  -- the part that has room
  pub first_roomy : (f g : Front K V P S R) (s : State K V P S R) → f ≡ g → Keeps ways f → s ≡ get_or f.parts 0 s → FirstHasRoom g → 0 < s.reserved
  first_roomy f g s same k is room = room s (first_here f g s same k is)

  pub untouched_stays : (f : Front K V P S R) (s t : State K V P S R) → Keeps ways f → s ≡ get_or f.parts 0 s → t ≡ s → Keeps ways (record f { parts = slice_set f.parts 0 t })
  untouched_stays f s t k is same =
      subst (λ ss. Keeps ways (record f { parts = ss })) (sym (ap (λ x. slice_set f.parts 0 x) same ∙ set_same f.parts 0 s (there f.parts 0 s (some_parts ways f k) is))) k
