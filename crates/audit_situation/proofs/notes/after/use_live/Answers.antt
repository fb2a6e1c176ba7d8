use Rattle.std.proofs.Common.{ap, ◌∙◌, sym, option_map, Some, None, Option, map, ◌≡◌, refl, ◌&&◌}
use Rattle.std.specs.Prelude.{is_some}
use Rattle.std.specs.List.{find}
use Rattle.audit_model.specs.Bytewise.{same}
use Rattle.audit_model.specs.Situation.{HeldValue, is_live_at}
use Rattle.audit_situation.specs.Held.Seeing.{held_of}
use Rattle.audit_situation.specs.declared.held.held.Seen.{Seen}
use Rattle.audit_situation.specs.Notes.After.{used_in}
use Rattle.audit_situation.proofs.notes.Passing.{used-live, used-dead, used-none}
use Rattle.audit_situation.proofs.notes.after.use_live.Goals as goal

some-map : {X Y : Type 0} (f : X → Y) (o : Option X) → is_some o ≡ is_some (option_map f o)
some-map f None = refl
some-map f (Some x) = refl

pub returns-then-is_some : goal.returns-then-is_some
returns-then-is_some c =
    let config = c.args.config.now in
    let key = c.in-Some.key.now in
    let found = find (λ h. same key h.value.key && is_live_at config c.args.now h) c.args.held.now in
    c.use_at.ensures
    ∙ used-live config c.args.now key c.args.held.now (c.len-number.ensures.apart key)
    (some-map (λ (h : HeldValue). h.value) found ∙ ap is_some (sym c.live.ensures) ∙ sym (some-map (λ (s : Seen). (held_of s).value) c.live.result) ∙ sym c.is_some.ensures ∙ c.if-is_some.true)
    ∙ ap (λ u. map (used_in config c.args.now (option_map (λ k. k.now) u)) c.args.held.now) (sym c.in-Some.is)

pub returns-else-is_some : goal.returns-else-is_some
returns-else-is_some c =
    let config = c.args.config.now in
    let key = c.in-Some.key.now in
    let found = find (λ h. same key h.value.key && is_live_at config c.args.now h) c.args.held.now in
    used-dead config c.args.now key c.args.held.now
    (some-map (λ (h : HeldValue). h.value) found ∙ ap is_some (sym c.live.ensures) ∙ sym (some-map (λ (s : Seen). (held_of s).value) c.live.result) ∙ sym c.is_some.ensures ∙ c.if-is_some.false)
    ∙ ap (λ u. map (used_in config c.args.now (option_map (λ k. k.now) u)) c.args.held.now) (sym c.in-Some.is)

pub returns-in_default : goal.returns-in_default
returns-in_default c =
    used-none c.args.config.now c.args.now c.args.held.now
    ∙ ap (λ u. map (used_in c.args.config.now c.args.now (option_map (λ k. k.now) u)) c.args.held.now) (sym c.in_default.is)
