use Rattle.std.proofs.Common.{◌≡◌, sym, subst, refl, true}
use Rattle.audit_model.specs.declared.event.Event.TheVariants as event
use Rattle.audit_situation.specs.States.{shown_situation}
use Rattle.moka_audit.specs.Records.Tidy.{is_tidy}
use Rattle.moka_audit.proofs.records.Tidying.{event-tidy}
use Rattle.moka_audit.proofs.records.records.judge_close.Goals as goal

pub judge_steps-requires : goal.judge_steps-requires
judge_steps-requires c = subst (λ u. is_tidy u ≡ true) (sym c.close.ensures) (event-tidy (event.Close c.args.conn) (shown_situation c.args.s.now) refl c.requires.tidy)
