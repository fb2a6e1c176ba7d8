use Rattle.std.proofs.Common.{◌∙◌, ap, arith, length, subst, sym}
use Rattle.front_parts.proofs.wholes.Firsts.{first-length}
use Rattle.front_parts.specs.Wholes.Covering.{AreOnly}
use Rattle.moka_sync.proofs.Shards.{all_prepared, covers_all}
use Rattle.moka_sync.specs.Covering.{CommitsFirst, prepared}
use Rattle.moka_sync.proofs.covering.AllDesks.invalidate_entries_if.Goals as goal

pub commit_all-requires-clause-ids : goal.commit_all-requires-clause-ids
commit_all-requires-clause-ids g c =
    ap length c.as_slice.ensures.value ∙ c.in-Ok.ensures.count ∙ sym (ap length c.in-Ok.ensures.ok ∙ first-length (λ k. prepared) (length c.args.self.now) c.args.self.now)

pub commit_all-requires-clause-predicates : goal.commit_all-requires-clause-predicates
commit_all-requires-clause-predicates g c =
    let count = c.count-count.ensures in
    let clones = c.in_ok-clones.ensures.count in
    let long = ap length c.in-Ok.ensures.ok ∙ first-length (λ k. prepared) (length c.args.self.now) c.args.self.now in
    omega arith

pub commit_all-requires-clause-prepared : goal.commit_all-requires-clause-prepared
commit_all-requires-clause-prepared g c =
    all_prepared c.prepare_all.new.ids.items c.args.self.now c.prepare_all.new.self c.in-Ok.ensures.may c.in-Ok.ensures.count c.in-Ok.ensures.ok

pub returns-in-Ok-clause-covers : goal.returns-in-Ok-clause-covers
returns-in-Ok-clause-covers g c =
    let alike = subst (λ p. AreOnly p c.in_ok-clones.clones.items) c.in_ok-shared.ensures c.in_ok-clones.ensures.alike in
    covers_all c.args.predicate c.prepare_all.new.ids.items c.args.self.now c.prepare_all.new.self c.commit_all.new.self c.in-Ok.ensures.may c.in-Ok.ensures.count c.in-Ok.ensures.ok
    (subst (λ ids. CommitsFirst c.args.predicate ids (length c.prepare_all.new.self) c.prepare_all.new.self c.commit_all.new.self) c.as_slice.ensures.value (c.commit_all.ensures c.args.predicate alike))
