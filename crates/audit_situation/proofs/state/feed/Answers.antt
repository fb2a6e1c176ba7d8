use Rattle.std.proofs.Common.{ap, ◌∙◌, sym, refl, false}
use Rattle.audit_model.specs.Situation.{without_connection}
use Rattle.audit_situation.specs.Standings.{fed_with}
use Rattle.audit_situation.specs.States.{shown_situation}
use Rattle.audit_situation.proofs.Places.{closed_is, kept_is}
use Rattle.audit_situation.proofs.state.feed.Goals as goal

pub returns-then-closes : goal.returns-then-closes
returns-then-closes c =
    let s = shown_situation c.args.s.now in
    c.close.ensures ∙ ap (λ cs. without_connection c.args.conn (record s { connections = cs })) c.in_ok-closes.ensures.fed
    ∙ closed_is c.args.conn (fed_with c.args.piece.now) (λ d. refl) false s (sym c.in_ok-closes.ensures.closes ∙ c.if-closes.true)

pub returns-else-closes : goal.returns-else-closes
returns-else-closes c =
    let s = shown_situation c.args.s.now in
    ap (λ cs. record s { connections = cs }) c.in_ok-closes.ensures.fed
    ∙ kept_is c.args.conn (fed_with c.args.piece.now) (λ d. refl) false s c.requires (sym c.in_ok-closes.ensures.closes ∙ c.if-closes.false)
