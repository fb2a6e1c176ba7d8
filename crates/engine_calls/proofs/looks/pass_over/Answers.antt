use Rattle.std.proofs.Common.{refl, subst, true, false}
use Rattle.std.specs.Fn.{FnOnceReturnsAt}
use Rattle.engine_calls.specs.Finding.{IsFoundIn, WasFound}
use Rattle.engine_calls.proofs.Finding.{asked-of}
use Rattle.engine_calls.proofs.looks.pass_over.Goals as goal

pub returns-then-is_ignored : goal.returns-then-is_ignored
returns-then-is_ignored g c = λ hash o w.
    let t = c.args.tables.now in
    let place = c.in-Some.place in
    let f : IsFoundIn t hash o place = subst (λ p. WasFound t hash p o) c.in-Some.is w in
    record {
      ignored = true;
      asked = asked-of (FnOnceReturnsAt g.F.FnOnce c.args.ignore_if) t hash place o true f (λ r there. subst (λ b. FnOnceReturnsAt g.F.FnOnce c.args.ignore_if r.entry.value b) c.if-is_ignored.true (c.is_ignored.ensures r there));
      found = refl;
    }

pub returns-else-is_ignored : goal.returns-else-is_ignored
returns-else-is_ignored g c = λ hash o w.
    let t = c.args.tables.now in
    let place = c.in-Some.place in
    let f : IsFoundIn t hash o place = subst (λ p. WasFound t hash p o) c.in-Some.is w in
    record {
      ignored = false;
      asked = asked-of (FnOnceReturnsAt g.F.FnOnce c.args.ignore_if) t hash place o false f (λ r there. subst (λ b. FnOnceReturnsAt g.F.FnOnce c.args.ignore_if r.entry.value b) c.if-is_ignored.false (c.is_ignored.ensures r there));
      found = f;
    }
