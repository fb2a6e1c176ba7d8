use Rattle.std.proofs.Common.{ap, ◌∙◌, ◌≡◌, map, arith}
use Rattle.audit_model.specs.Notes.{is_over}
use Rattle.audit_situation.specs.Held.Weights.{values_of}
use Rattle.audit_situation.proofs.notes.Passing.{mark-none, mark-next, mark-done, values-below, marked_below}
use Rattle.audit_situation.proofs.notes.after.mark_all.Goals as goal

pub loop-part-init : goal.loop-part-init
loop-part-init c = mark-none c.args.config.now c.args.syncs c.args.sized.now (values_of c.args.held.now) c.args.held.now

pub loop-part-preserved : goal.loop-part-preserved
loop-part-preserved c =
    let config = c.args.config.now in
    let hs = c.args.held.now in
    c.mark.ensures
    ∙ mark-next config c.args.syncs c.args.sized.now (values_of hs) c.loop-part.part c.is_over-over.result c.is_anew-anew.result c.loop-part.held hs
    (c.is_over-over.ensures ∙ ap (is_over config c.loop-part.part) (values-below config c.args.syncs c.args.sized.now (values_of hs) c.loop-part.part c.loop-part.held hs c.loop-part.invariant))
    c.is_anew-anew.ensures c.loop-part.invariant

pub returns : goal.returns
returns c =
    let config = c.args.config.now in
    let hs = c.args.held.now in
    let last : c.loop-part.part ≡ 256 = omega arith in
    c.loop-part.invariant ∙ ap (λ n. map (marked_below config c.args.syncs c.args.sized.now (values_of hs) n) hs) last
    ∙ mark-done config c.args.syncs c.args.sized.now (values_of hs) hs c.len-number.ensures.small
