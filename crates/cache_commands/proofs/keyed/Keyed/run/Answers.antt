use Rattle.std.proofs.Common.{None, subst, sym}
use Rattle.audit_lines.specs.Request.{said}
use Rattle.cache_commands.specs.Answered.{IsAnswered}
use Rattle.cache_commands.proofs.keyed.Keyed.run.Goals as goal

pub returns-in_ok-quit-in-Quit-clause-runs : goal.returns-in_ok-quit-in-Quit-clause-runs
returns-in_ok-quit-in-Quit-clause-runs g c =
    let v = g.S.Store.view c.args.self.now in
    subst (λ r. IsAnswered c.args.now (said r) None v v c.args.reply.now.items c.quit.new.output.items) (sym c.in-Quit.is)
    (rw c.self.view_is at (c.in_ok-quit-in-Quit.ensures.ok c.args.now (rw (← c.self.view_is) at c.requires.in_time)))

pub returns-in_ok-fault-in-Fault-clause-runs : goal.returns-in_ok-fault-in-Fault-clause-runs
returns-in_ok-fault-in-Fault-clause-runs g c =
    let v = g.S.Store.view c.args.self.now in
    subst (λ r. IsAnswered c.args.now (said r) None v v c.args.reply.now.items c.fault.new.output.items) (sym c.in-Fault.is)
    (rw c.self.view_is at (c.in_ok-fault-in-Fault.ensures.ok c.args.now (rw (← c.self.view_is) at c.requires.in_time)))
