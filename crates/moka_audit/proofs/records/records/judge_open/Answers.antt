use Rattle.std.proofs.Common.{◌≡◌, ◌++◌, ◌∷◌, [], suc, ap, ◌∙◌, sym, subst, true}
use Rattle.std.proofs.lemmas.Bool.{eqb-true}
use Rattle.audit_model.specs.Situation.{Ready}
use Rattle.audit_model.specs.declared.event.Event.TheVariants as event
use Rattle.audit_situation.specs.States.{shown_situation}
use Rattle.moka_audit.specs.Records.Tidy.{is_tidy}
use Rattle.moka_audit.proofs.records.Tidying.{event-tidy}
use Rattle.moka_audit.proofs.records.records.judge_open.Goals as goal

pub judge_steps-requires : goal.judge_steps-requires
judge_steps-requires c =
    let s = shown_situation c.args.s.now in
    subst (λ u. is_tidy u ≡ true)
    (sym (c.in_ok-open.ensures ∙ ap (λ n. record s { opened = n; connections = s.connections ++ record { number = c.args.conn; unread = []; standing = Ready; waited = 0 } ∷ [] }) (eqb-true c.args.conn (suc s.opened) c.requires.numbered)))
    (event-tidy (event.Open c.args.conn) s c.requires.numbered c.requires.tidy)
