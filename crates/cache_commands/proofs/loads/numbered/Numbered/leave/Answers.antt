use Rattle.std.proofs.Common.{refl, sym, ap, ◌∙◌, ℕ, map}
use Rattle.std.specs.BTreeMap.{BTreeMap}
use Rattle.std.specs.declared.cmp.Reverse.{Reverse}
use Rattle.audit_model.specs.Numbered.{changed_numbered}
use Rattle.audit_model.specs.Situation.{PendingLoad, without_waiting}
use Rattle.cache_commands.specs.Loads.Numbers.{loads_of}
use Rattle.cache_commands.specs.declared.loads.load.Load.{Load}
use Rattle.cache_commands.proofs.loads.Numbers.{changed-is, changed-kept, unchanged-is}
use Rattle.cache_commands.proofs.loads.numbered.Numbered.leave.Goals as goal
use Rattle.cache_commands.proofs.loads.numbered.Numbered.leave.Goals.{in-Some, in_default}

pub invariant_of-self-inside : goal.invariant_of-self-inside
invariant_of-self-inside c =
    let inside = c.self.inside in
    let after = c.get_mut.follows.lender c.leave.new.load in
    changed-kept c.args.number (without_waiting c.args.conn) (λ p. refl) inside.loads.entries after.entries c.in-Some.load.now c.leave.new.load inside.own inside.falling (sym c.in-Some.ensures.value)
    (c.get_mut.follows.holds c.leave.new.load).0 c.leave.ensures.left

pub returns : goal.returns
returns c =
    let inside = c.self.inside in
    let F = without_waiting c.args.conn in
    elim c.match-get_mut.branch [
      | in-Some w ↦
          rw w.self-inside-is
          (ap loads_of (c.get_mut.follows.holds w.leave.new.load).0
          ∙ changed-is c.args.number F inside.loads.entries w.in-Some.load.now w.leave.new.load inside.own inside.falling (sym w.in-Some.ensures.value) w.leave.ensures.left
          ∙ ap (map (changed_numbered (λ (p : PendingLoad). p.number) c.args.number F)) c.self.view_is)
      | in_default w ↦
          rw w.self-inside-is
          (ap (λ (m : BTreeMap (Reverse ℕ) Load). loads_of m.entries) c.get_mut.follows.holds-at-none ∙ sym (unchanged-is c.args.number F inside.loads.entries inside.own (sym w.in_default.ensures.value))
          ∙ ap (map (changed_numbered (λ (p : PendingLoad). p.number) c.args.number F)) c.self.view_is)
    ]
