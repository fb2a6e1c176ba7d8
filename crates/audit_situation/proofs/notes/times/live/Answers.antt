use Rattle.std.proofs.Common.{arith, ap, ◌∙◌, sym, option_map, Some, None, if◌then◌else◌, ◌≡◌}
use Rattle.audit_model.specs.Situation.{is_live_at}
use Rattle.audit_situation.specs.Held.Seeing.{held_of}
use Rattle.audit_situation.proofs.notes.Passing.{one-good, none-good}
use Rattle.audit_situation.proofs.notes.times.live.Goals as goal

pub returns-in-Some : goal.returns-in-Some
returns-in-Some c =
    let config = c.args.config.now in
    let live = is_live_at config c.args.now in
    let s = c.in-Some.seen in
    let seen : option_map (λ s. (held_of s).value) (if live (held_of s) then Some s else None) ≡ option_map (λ h. h.value) (if live (held_of s) then Some (held_of s) else None) = grind arith in
    ap (option_map (λ s. (held_of s).value)) c.if_live.ensures ∙ seen
    ∙ sym (ap (option_map (λ h. h.value)) (one-good c.args.key.now live c.args.held.now (held_of s) (c.len-number.ensures.apart c.args.key.now) (sym c.in-Some.ensures)))

pub returns-in-None : goal.returns-in-None
returns-in-None c = sym (ap (option_map (λ h. h.value)) (none-good c.args.key.now (is_live_at c.args.config.now c.args.now) c.args.held.now (sym c.in-None.ensures)))
