use Rattle.std.proofs.Common.{◌≡◌, ◌≤◌, ap, ◌∙◌, arith, get_or, subst, vec_len}
use Rattle.toml.specs.View.{view}
use Rattle.toml.specs.declared.value.Value.{Value}
use Rattle.cached_config.specs.Said.{SaysSpace}
use Rattle.cached_config.proofs.Saying.{never-none, say-next, some-so}
use Rattle.cached_config.proofs.reading.Reader.array.Goals.{in-Some-2+in_ok-push, in_default-2}
use Rattle.cached_config.proofs.reading.Reader.array.Goals as goal

pub loop-place-preserved : goal.loop-place-preserved
loop-place-preserved c =
    let kept = c.in_ok-space.ensures.kept in
    let l = c.loop-place in
    record {
      kept = omega (arith, kept, l.invariant.kept);
      said = λ none.
          let still : vec_len c.value.new.self.faults ≤ vec_len l.self.faults = omega (arith, none, l.invariant.kept) in
          let before = l.invariant.said (omega (arith, none, kept)) in
          let says = c.in_ok-space.ensures.said still in
          let this = c.value-item.result in
          let here : this ≡ get_or c.in-Some.values.now.items l.place this = c.value-item.is ∙ ap (λ vs. get_or vs l.place this) c.deref-value-items.ensures.value in
          elim c.match-branch-4.branch [
            | in-Some-2+in_ok-push w ↦ rw (w.spaces-is, w.in_ok-push.ensures.items)
                (say-next c.in-Some.values.now.items l.place this l.spaces.items w.in-Some-2.space (omega arith) before
                (subst (λ (v : Value). SaysSpace (view v) w.in-Some-2.space) here (some-so (SaysSpace (view this)) c.in_ok-space.field-0 w.in-Some-2.space w.in-Some-2.is says)))
            | in_default-2 w ↦ absurd (never-none (SaysSpace (view this)) c.in_ok-space.field-0 w.in_default-2.is says)
          ];
    }
