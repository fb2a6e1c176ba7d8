use Rattle.std.proofs.Common.{◌≡◌, ◌∙◌, [], true, length, refl, sym, inl, inr, arith, rules}
use Rattle.cache_run.specs.Driver.Driven.{unfed}
use Rattle.cache_run.specs.declared.driver.driving.Progress.TheVariants.{More, Over}
use Rattle.cache_run.specs.declared.driver.session.Footing.TheVariants.{Closed}
use Rattle.cache_run.specs.declared.devices.errors.RunError.TheVariants.{Moment, Read}
use Rattle.cache_run.proofs.driver.Exchanges.{asked-runs, ended-finished, moves-comes, ok-all, read-runs, read-why, talks-read, cut-whole, moves-beside, none-there, why-map}
use Rattle.cache_run.proofs.driver.driving.take_turn.Goals as goal

pub returns-then-not-has_no_load : goal.returns-then-not-has_no_load
returns-then-not-has_no_load g c =
    let next = c.settle_next.ensures in record {
      known = (next.known, next.same.0);
      goes = λ start a goes. next.goes _ start a goes;
      why = why-map c.settle_next.result (λ no. absurd no) (λ failed. failed) (λ used. used) (λ late. late) next.why;
      more = ok-all c.settle_next.result (λ progress is lent empty. (next.same.1 ∙ empty, asked-runs g.I.Read.remaining g.D.Loader.loads _ _ _ 1 (next.asked lent)));
      forward = (omega arith, next.forward.0, next.forward.1);
    }

pub returns-then-eq-2 : goal.returns-then-eq-2
returns-then-eq-2 g c =
    let none : c.args.session.now.taken.items ≡ [] = search rules in
    let closed : c.args.session.now.footing ≡ Closed = search rules in record {
      known = (c.requires.known, refl);
      goes = λ start a goes. ended-finished c.args.session.now _ _ none goes.whole goes.talks (λ is. goes.stands.done is none tt) (inr (goes.stands.closed closed));
      why = tt;
      more = λ is. let no : Over ≡ More = is in cc;
      forward = (omega arith, omega arith, omega arith);
    }

pub returns-in-Ok-false : goal.returns-in-Ok-false
returns-in-Ok-false g c =
    let none : c.args.session.now.taken.items ≡ [] = search rules in
    let ends = rw c.in-Ok-false.field-0-test at c.in-Ok-false.ensures in record {
      known = (record { known = c.requires.known.known; ready = c.requires.known.ready }, refl);
      goes = λ start a goes. ended-finished (record c.args.session.now { inbox = c.refill.new.self }) _ _ none (λ is. ends.1.0) (talks-read c.args.session.now ends.0 goes.talks) (λ is. goes.stands.done is none tt) (inl ends.1.1);
      why = tt;
      more = λ is. let no : Over ≡ More = is in cc;
      forward = (ends.0.later, omega arith, omega arith);
    }

pub returns-in-Err : goal.returns-in-Err
returns-in-Err g c =
    let failed = c.in-Err.ensures in record {
      known = (record { known = c.requires.known.known; ready = c.requires.known.ready }, refl);
      goes = λ start a goes. record {
        stopped = c.args.place.now;
        behind = λ r closes. closes;
        rest = unfed (record c.args.session.now { inbox = c.refill.new.self });
        talks = talks-read c.args.session.now failed.0 goes.talks;
        few = omega arith;
        late = λ is. let no : Read ≡ Moment = sym failed.1.0 ∙ is in cc;
      };
      why = read-why _ _ _ _ c.in-Err.error failed.1.0 failed.1.1;
      more = tt;
      forward = (failed.0.later, omega arith, omega arith);
    }

pub returns-then-is_empty : goal.returns-then-is_empty
returns-then-is_empty g c =
    let filled = rw c.in-Ok-true.field-0-test at c.in-Ok-true.ensures in
    let none = none-there c.refill.new.self (length c.refill.new.self) _ refl c.is_empty.ensures c.if-is_empty.true in record {
      known = (record { known = c.requires.known.known; ready = c.requires.known.ready }, refl);
      goes = λ start a goes. record { talks = talks-read c.args.session.now filled.0 goes.talks; stands = record { closed = goes.stands.closed; done = goes.stands.done }; whole = λ is. none };
      why = tt;
      more = λ is lent empty. (none, read-runs _ _ _ _ _ _ _ filled.0 filled.1 empty);
      forward = (filled.0.later, omega arith, omega arith);
    }

pub returns : goal.returns
returns g c =
    let fed = c.feed_piece.ensures in
    let filled = rw c.in-Ok-true.field-0-test at c.in-Ok-true.ensures in
    let whole = λ (lent : g.H.Host.LENT ≡ true). cut-whole c.refill.new.self c.as_slice.result.now c.feed_piece.new.session.inbox c.cut-count.result c.as_slice.ensures fed.same.1 (c.cut-count.ensures.whole lent) in record {
      known = (fed.known, fed.same.0);
      goes = λ start a goes. moves-comes (record c.args.session.now { inbox = c.refill.new.self }) _ _ _ _ fed.same.0 (talks-read c.args.session.now filled.0 goes.talks) whole c.feed_piece.result (moves-beside g.D.Loader.loads c.args.loader.now fed.goes);
      why = why-map c.feed_piece.result (λ no. absurd no) (λ failed. failed) (λ used. used) (λ late. late) fed.why;
      more = ok-all c.feed_piece.result (λ progress is lent empty. (whole lent, read-runs _ _ _ _ _ _ _ filled.0 filled.1 empty));
      forward = (filled.0.later, fed.forward.0, fed.forward.1);
    }
