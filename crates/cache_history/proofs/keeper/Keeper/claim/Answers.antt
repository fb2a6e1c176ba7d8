use mathlib.Core.Option.{some, some-injective}
use prog.Atomic.{either}
use Rattle.atomic_table.specs.Table.{step}
use Rattle.std.proofs.Common.{◌==◌, ◌<◌, ◌∷◌, ℕ, List, length, ◌∙◌, ap, refl, subst, sym}
use Rattle.cache_history.specs.Histories.{AreAmong, IsHistory, IsNext, own_of, with_hold}
use Rattle.cache_history.specs.declared.known.Own.{Own}
use Rattle.cache_history.proofs.Moves.{are_next, claims, claims_one, cuts, next_is, takes_in}
use Rattle.cache_history.proofs.keeper.Keeper.claim.Goals as goal

pub join_seat-requires : goal.join_seat-requires
join_seat-requires g c =
    let i = c.self.invariant in
    let e = c.into_seat.ensures in
    let own = ap (λ b. b.table_id) c.replace-token.ensures.value ∙ c.claims.invariant.0 in
    (i.1, e.0 ∙ own ∙ sym i.0, e.3, i.2, takes_in _ _ _ _ _ _)

-- what the step makes of a word
abbrev swap : ℕ → ℕ
swap n = either (n == 0) 0 n

pub compare_exchange_with-requires : goal.compare_exchange_with-requires
compare_exchange_with-requires g c =
    let i = c.self.invariant in
    let j = c.join_seat.ensures in
    let slots = c.self.inside.table.shared.table_id.slots in
    let keeps = ap (λ m. m.0.keeps) j.2 ∙ ap (λ m. m.0.keeps) i.3 in
    let values = ap (λ m. m.0.values) j.2 ∙ c.self.view_is in
    let next = subst (λ cs. IsNext g.R.Law.starts g.R.Law.holds cs c.args.new.now) (sym values)
    c.requires.next in (
      j.0 ∙ i.1,
      i.2,
      claims _ _ slots _ _ swap _ _ c.args.new.now
          (step slots 0 0 0 (some c.args.new.now)) refl keeps next,
    )

pub split_seat-token-requires : goal.split_seat-token-requires
split_seat-token-requires g c =
    let i = c.self.invariant in
    (c.compare_exchange_with.ensures.0 ∙ c.join_seat.ensures.0 ∙ i.1, i.2, cuts _ _ _ _)

pub returns-clause-claimed : goal.returns-clause-claimed
returns-clause-claimed g c old latest =
    let Starts = g.R.Law.starts in
    let Holds = g.R.Law.holds in
    let values = ap (λ m. m.0.values) c.join_seat.ensures.2 ∙ c.self.view_is in
    let v = c.join_seat.new.seat.me.0 in
    let there = sym (ap (λ b. own_of b.views) c.replace-token.ensures.value)
    ∙ ap (λ vs. own_of vs) c.into_seat.ensures.2 in
    let own = ap (λ m. m.0.own) c.join_seat.ensures.2 ∙ sym there ∙ c.claims.view_is in
    let told = c.compare_exchange_with.ensures.2 in
    let new = sym (some-injective _ _ told.1) in
    let is = ap (λ vs. own_of vs) c.into_badge.ensures.2
    ∙ ap (λ m. m.0.own) c.split_seat-token.ensures.4
    ∙ ap (λ m. m.0.own) told.2
    ∙ (λ i. with_hold (values i) (new i) (own i)) in
    let before = subst (λ cs. AreAmong cs c.args.claims.now.holds) values
    (subst (λ o. AreAmong v.values o.holds) own told.3) in
    let later = subst (λ (cs : List g.row.C.Denot). c.args.claims.now.seen < length cs) values
    (subst (λ (o : Own g.row.C.Denot). o.seen < length v.values) own told.4) in
    let history = subst (λ cs. IsHistory Starts Holds cs) c.self.view_is c.self.invariant.4 in
    let after = are_next Starts Holds c.args.self.now c.args.new.now c.args.claims.now.holds
    c.requires.next before in
    claims_one Starts Holds c.args.self.now old c.args.new.now c.args.claims.now _ latest is later
    (subst (λ o. AreAmong (c.args.new.now ∷ c.args.self.now) o.holds) (sym is) after)
    (next_is Starts Holds c.args.self.now c.args.new.now history c.requires.next)
