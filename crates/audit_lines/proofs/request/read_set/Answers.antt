use Rattle.std.proofs.Common.{length, ◌<◌, sym, ap, ◌∙◌, arith}
use Rattle.std.specs.Prelude.{option_map}
use Rattle.audit_lines.proofs.Cuts.{cut_at-shorter}
use Rattle.audit_lines.proofs.request.read_set.Goals as goal

pub returns-in-Some-read_deadline-clause-fit : goal.returns-in-Some-read_deadline-clause-fit
returns-in-Some-read_deadline-clause-fit c =
    let rest = c.in-Some.rest.now in
    let value = c.in-Some-value.value.now in
    let behind_key = cut_at-shorter 32 c.args.rest.now c.in-Some.key.now rest c.in-Some.ensures.0 in
    let behind_deadline = cut_at-shorter 32 rest c.cut.result.0.now value (sym c.cut.ensures ∙ ap (λ o. (c.cut.result.0.now, option_map (λ r. r.now) o)) c.in-Some-value.is) in
    let short : length value < length c.args.rest.now = omega arith in
    record {
      key_fits = c.in-Some.ensures.1;
      value_fits = sym c.if-not-value_fits.ensures;
      short = omega (arith, short);
      own = c.in-Some-read_deadline.ensures.own;
    }
