use Rattle.std.proofs.Common.{[], ◌∷◌, ◌++◌, arith, ap, sym, ◌∙◌, append_assoc}
use Rattle.toml.proofs.Views.{Entry}
use Rattle.cached_config.proofs.Saying.{load-more}
use Rattle.cached_config.proofs.reading.Reader.listed.Goals as goal

pub loop-key-preserved-in_ok-push-in-Ok : goal.loop-key-preserved-in_ok-push-in-Ok
loop-key-preserved-in_ok-push-in-Ok c =
    let l = c.loop-key in
    let done = l.invariant.done in
    let e : Entry = (c.in-Some.key.now, c.in-Some.value.now) in
    let left = c.next.new.self in
    record {
      kept = l.invariant.kept;
      done = done ++ e ∷ [];
      left = l.invariant.left ∙ ap (λ es. done ++ es) c.in-Some.ensures.steps ∙ sym (append_assoc done (e ∷ []) left);
      said = λ none.
          rw c.in_ok-push-in-Ok.ensures.items
          (load-more done e l.loads.items (record { key = c.in_ok-bytes_of-in-Ok.field-0; value = c.in_ok-bytes_of-in-Ok-2.field-0 }) (l.invariant.said none)
          (sym (c.in_ok-bytes_of-in-Ok.ensures ∙ c.as_str.ensures.value)) (rw c.in_ok-bytes_of-in-Ok-2.ensures c.in-Ok.ensures));
    }

pub loop-key-preserved : goal.loop-key-preserved
loop-key-preserved c =
    let l = c.loop-key in
    let done = l.invariant.done in
    let e : Entry = (c.in-Some.key.now, c.in-Some.value.now) in
    let left = c.next.new.self in
    record {
      kept = omega (arith, c.in_ok-fault-in-Err.ensures);
      done = done ++ e ∷ [];
      left = l.invariant.left ∙ ap (λ es. done ++ es) c.in-Some.ensures.steps ∙ sym (append_assoc done (e ∷ []) left);
      said = λ none. absurd (omega (arith, none, c.in_ok-fault-in-Err.ensures));
    }
