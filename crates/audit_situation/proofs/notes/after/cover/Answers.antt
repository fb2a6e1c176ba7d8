use Rattle.std.proofs.Common.{ap, ◌∙◌}
use Rattle.std.proofs.Math.Bool.{or-false}
use Rattle.audit_situation.specs.Notes.After.{covered_in}
use Rattle.audit_situation.specs.Notes.Deeds.{covering_by}
use Rattle.audit_situation.proofs.notes.Passing.{covers-none}
use Rattle.audit_situation.proofs.notes.after.cover.Goals as goal

pub returns-in-Nothing : goal.returns-in-Nothing
returns-in-Nothing c = covers-none (covered_in (covering_by c.args.covers)) c.args.held.now (λ h. ap (λ d. covered_in (covering_by d) h) c.in-Nothing.is ∙ ap (λ b. record h { covered = b }) (or-false h.covered))
