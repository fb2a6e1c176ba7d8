-- Names are equal where their parts are.
use Rattle.std.proofs.Common.{◌≡◌, ℕ, true, refl, ap, ◌∙◌, arith}
use Rattle.std.proofs.lemmas.Bool.{and_parts, and_from, eqb-true, eq-eqb}
use Rattle.policy_base.specs.declared.name.CacheRegion.{CacheRegion}
use Rattle.policy_base.specs.declared.name.CacheRegion.TheVariants.{Window, MainProbation, MainProtected, Other}
use Rattle.policy_base.specs.declared.name.NodeId.{NodeId}
use Rattle.policy_base.specs.Region.{region_code, same_id}

-- a name is itself, and no other
pub same_id-refl : (a : NodeId) → same_id a a ≡ true
same_id-refl a = and_from _ _ (eq-eqb a.serial a.serial refl) (and_from _ _ (eq-eqb a.slot a.slot refl) (eq-eqb (region_code a.queue) (region_code a.queue) refl))

region_code_injective : (a b : CacheRegion) → region_code a ≡ region_code b → a ≡ b
region_code_injective Window Window e = refl
region_code_injective Window MainProbation e = absurd (omega arith)
region_code_injective Window MainProtected e = absurd (omega arith)
region_code_injective Window Other e = absurd (omega arith)
region_code_injective MainProbation Window e = absurd (omega arith)
region_code_injective MainProbation MainProbation e = refl
region_code_injective MainProbation MainProtected e = absurd (omega arith)
region_code_injective MainProbation Other e = absurd (omega arith)
region_code_injective MainProtected Window e = absurd (omega arith)
region_code_injective MainProtected MainProbation e = absurd (omega arith)
region_code_injective MainProtected MainProtected e = refl
region_code_injective MainProtected Other e = absurd (omega arith)
region_code_injective Other Window e = absurd (omega arith)
region_code_injective Other MainProbation e = absurd (omega arith)
region_code_injective Other MainProtected e = absurd (omega arith)
region_code_injective Other Other e = refl

pub same_id-slot : (a b : NodeId) → same_id a b ≡ true → a.slot ≡ b.slot
same_id-slot a b e =
    let p = and_parts _ _ e in
    let q = and_parts _ _ p.1 in
    eqb-true _ _ q.0

same_parts : (a b : NodeId) → a.queue ≡ b.queue → a.serial ≡ b.serial → a.slot ≡ b.slot → a ≡ b
same_parts a b queue serial slot =
    let mk : CacheRegion → ℕ → ℕ → NodeId = λ q s t. record { queue = q; serial = s; slot = t } in
    ap (λ q. mk q a.serial a.slot) queue ∙ ap (λ s. mk b.queue s a.slot) serial ∙ ap (λ t. mk b.queue b.serial t) slot

pub same_id-equal : (a b : NodeId) → same_id a b ≡ true → a ≡ b
same_id-equal a b e =
    let p = and_parts _ _ e in
    let q = and_parts _ _ p.1 in
    let serial : a.serial ≡ b.serial = eqb-true _ _ p.0 in
    let slot : a.slot ≡ b.slot = eqb-true _ _ q.0 in
    let queue : a.queue ≡ b.queue = region_code_injective a.queue b.queue (eqb-true _ _ q.1) in
    same_parts a b queue serial slot
