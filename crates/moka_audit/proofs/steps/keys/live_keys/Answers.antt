use Rattle.std.proofs.Common.{ap, ◌∙◌, sym, take, map, reverse}
use Rattle.audit_model.specs.Situation.{live_keys_at}
use Rattle.audit_situation.specs.Held.Seeing.{held_of}
use Rattle.moka_audit.proofs.steps.Sorting.{texts, live-more, live-put, put_if}
use Rattle.moka_audit.proofs.steps.keys.live_keys.Goals as goal
use Rattle.moka_audit.proofs.steps.keys.live_keys.Goals.{then-is_live+in_ok-insert, else-is_live}

pub loop-at-preserved : goal.loop-at-preserved
loop-at-preserved c =
    let config = c.args.config.now in
    let now = c.args.now in
    let h = c.seen_at-h.result in
    let before = live_keys_at config now (reverse (map held_of (take c.loop-at.at c.args.held.now))) in
    elim c.if-is_live.branch [
      | then-is_live+in_ok-insert w ↦
          ap (λ keys. texts keys.entries) w.keys-is
          ∙ live-put config now c.args.held.now c.loop-at.at h c.loop-at.keys.entries w.insert.new.self.entries c.loop-at-test.true (sym c.seen_at-h.ensures) (sym c.is_live.ensures ∙ w.if-is_live.true)
          c.requires w.in_ok-insert.ensures.entries c.loop-at.invariant
      | else-is_live w ↦
          live-more config now c.args.held.now c.loop-at.at h _ c.loop-at-test.true (sym c.seen_at-h.ensures)
          (ap (λ keys. texts keys.entries) w.keys-is ∙ c.loop-at.invariant ∙ sym (ap (λ b. put_if b h.key.now before) (sym c.is_live.ensures ∙ w.if-is_live.false)))
    ]
