use Rattle.std.proofs.Common.{sym, ap, ◌∙◌, ℕ, map}
use Rattle.std.specs.BTreeMap.{BTreeMap}
use Rattle.std.specs.declared.cmp.Reverse.{Reverse}
use Rattle.audit_model.specs.Numbered.{changed_numbered}
use Rattle.audit_model.specs.Situation.{PendingLoad}
use Rattle.cache_commands.specs.Loads.Numbers.{loads_of}
use Rattle.cache_commands.specs.declared.loads.load.Load.{Load}
use Rattle.cache_commands.proofs.Adding.{fails, follows}
use Rattle.cache_commands.proofs.loads.Numbers.{changed-is, joined-kept, same-is, unchanged-is, with_one}
use Rattle.cache_commands.proofs.loads.numbered.Numbered.join.Goals as goal
use Rattle.cache_commands.proofs.loads.numbered.Numbered.join.Goals.{in-Some, in-None}

pub invariant_of-self-inside : goal.invariant_of-self-inside
invariant_of-self-inside c =
    let inside = c.self.inside in
    let after = c.get_mut.follows.lender c.join.new.load in
    joined-kept c.join.result c.args.number c.args.conn inside.loads.entries after.entries c.in-Some.load.now c.join.new.load inside.own inside.falling (sym c.in-Some.ensures.value)
    (c.get_mut.follows.holds c.join.new.load).0 c.join.ensures.joined c.join.ensures.same

pub returns-clause-joined : goal.returns-clause-joined
returns-clause-joined c =
    let inside = c.self.inside in
    let F = with_one c.args.conn in
    elim c.match-get_mut.branch [
      | in-Some w ↦
          rw w.result-is
          (rw w.self-inside-is
          (follows w.join.result (λ is. ap loads_of (c.get_mut.follows.holds w.join.new.load).0
          ∙ changed-is c.args.number F inside.loads.entries w.in-Some.load.now w.join.new.load inside.own inside.falling (sym w.in-Some.ensures.value) is
          ∙ ap (map (changed_numbered (λ (p : PendingLoad). p.number) c.args.number F)) c.self.view_is) w.join.ensures.joined))
      | in-None w ↦
          rw w.result-is
          (rw w.self-inside-is
          (ap (λ (m : BTreeMap (Reverse ℕ) Load). loads_of m.entries) c.get_mut.follows.holds-at-none ∙ sym (unchanged-is c.args.number F inside.loads.entries inside.own (sym w.in-None.ensures.value))
          ∙ ap (map (changed_numbered (λ (p : PendingLoad). p.number) c.args.number F)) c.self.view_is))
    ]

pub returns-clause-same : goal.returns-clause-same
returns-clause-same c =
    let inside = c.self.inside in
    elim c.match-get_mut.branch [
      | in-Some w ↦
          rw w.result-is
          (rw w.self-inside-is
          (fails w.join.result (λ is. ap loads_of (c.get_mut.follows.holds w.join.new.load).0 ∙ same-is c.args.number inside.loads.entries w.in-Some.load.now w.join.new.load (sym w.in-Some.ensures.value) is ∙ c.self.view_is) w.join.ensures.same))
      | in-None w ↦ rw w.result-is tt
    ]
