use Rattle.std.proofs.Common.{◌≡◌, ap, ◌∙◌, sym, subst, refl, true}
use Rattle.audit_model.specs.declared.event.Event.TheVariants as event
use Rattle.audit_situation.specs.States.{shown_situation, fed_to}
use Rattle.moka_audit.specs.Records.Tidy.{is_tidy}
use Rattle.moka_audit.proofs.records.Tidying.{event-tidy}
use Rattle.moka_audit.proofs.records.records.judge_feed.Goals as goal

pub judge_steps-requires : goal.judge_steps-requires
judge_steps-requires c =
    let s = shown_situation c.args.s.now in
    subst (λ u. is_tidy u ≡ true)
    (sym (c.in_ok-feed.ensures ∙ ap (λ p. fed_to c.args.conn p (record s { latest = c.max-s.result })) c.as_slice.ensures ∙ ap (λ n. fed_to c.args.conn c.args.piece.now (record s { latest = n })) c.max-s.ensures))
    (event-tidy (event.Feed c.args.conn c.args.piece.now c.args.moment) s refl c.requires.tidy)
