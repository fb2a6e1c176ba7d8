use Rattle.std.proofs.Common.{ap, ◌∙◌, sym, refl}
use Rattle.audit_model.specs.Situation.{without_connection}
use Rattle.audit_situation.specs.Standings.{moved_on}
use Rattle.audit_situation.specs.States.{shown_situation}
use Rattle.audit_situation.proofs.Places.{closed_is, kept_is}
use Rattle.audit_situation.proofs.state.move_in.Goals as goal

pub returns-then-closes : goal.returns-then-closes
returns-then-closes c =
    let s = shown_situation c.args.s.now in
    let m = c.args.moving in
    c.close.ensures ∙ ap (λ cs. without_connection c.args.conn (record s { connections = cs })) c.in_ok-closes.ensures.moved
    ∙ closed_is c.args.conn (moved_on m.reads m.holds m.replies m.line.now) (λ d. refl) c.args.quits s (sym c.in_ok-closes.ensures.closes ∙ c.if-closes.true)

pub returns-else-closes : goal.returns-else-closes
returns-else-closes c =
    let s = shown_situation c.args.s.now in
    let m = c.args.moving in
    ap (λ cs. record s { connections = cs }) c.in_ok-closes.ensures.moved
    ∙ kept_is c.args.conn (moved_on m.reads m.holds m.replies m.line.now) (λ d. refl) c.args.quits s c.requires (sym c.in_ok-closes.ensures.closes ∙ c.if-closes.false)
