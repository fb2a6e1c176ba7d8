-- The rows, computed.
use Rattle.std.proofs.Common.{◌≡◌, refl, ap, sym, ◌∙◌, subst, ℕ, zero, suc, ◌<◌, ◌≤◌, arith, Bool, true, false, [], ◌∷◌, Option, Some, None}
use Rattle.std.specs.Prelude.{option_map, nat_eq, nat_lt}
use Rattle.engine_reference.specs.declared.rules.causes.RemovalCause.TheVariants as cause
use Rattle.engine_reference.specs.declared.rules.settings.EvictionPolicy.TheVariants.{Lru}
use Rattle.engine_reference.specs.declared.data.Record.{Record}
use Rattle.engine_reference.specs.declared.data.Unsent.{Unsent}
use Rattle.engine_reference.specs.Calls.{sent}
use Rattle.engine_reference.specs.Records.{admitted_in}
use Rattle.engine_reference.specs.Runs.{FrontsAreClean, RunsToEnd, writes, leaves, evicts, first_of}
use Rattle.engine_reference.specs.Times.{has_come, end_of, is_reached}
use Rattle.engine_reference.specs.Visible.{is_covered}
use Rattle.engine_tests.specs.Laws.Playing.{Small, small_answers, new_small, put, put_unsent}
use Rattle.engine_reference.specs.RunLaws.Points.{IsInOrder}
use Rattle.engine_reference.specs.RunLaws.Sweeping.{IsTimely}
use Rattle.engine_reference.proofs.run_laws.Fronting.{each-at}
use Rattle.engine_reference.proofs.run_laws.Ordering.{calls_stay_in_order, runs_stay_in_order}
use Rattle.engine_reference.proofs.run_laws.Rises.{calls_stay_timely, uncut_runs_leave_none_due}
use Rattle.engine_tests.specs.Laws.Runs.{applied_one, ended, full, written_all, evicted, two, both_written, swept, RowsOfPoints, RowsOfFronts, RowsOfSweeping}

of_some : {X : Type 0} (f : X → Bool) (o : Option X) (x : X) → option_map f o ≡ Some false → o ≡ Some x → f x ≡ false
of_some f o x h e = let both : Some (f x) ≡ Some false = sym (ap (λ p. option_map f p) e) ∙ h in cc

-- a value is written, and its ticket sent
put-order : (key value now step : ℕ) (s : Small) (u : Unsent) → (put_unsent key value now step s).unsent ≡ u ∷ [] → u.ticket ≡ s.next_ticket → IsInOrder s → IsInOrder (put key value now step s)
put-order key value now step s u only same h =
    let laws = calls_stay_in_order ℕ ℕ ℕ ℕ ℕ in
    let t = put_unsent key value now step s in
    subst (λ n. IsInOrder (sent n t)) same (laws.sent u [] t only (laws.written nat_eq small_answers s key key value now step h))

full-order : IsInOrder full
full-order =
    let a = new_small Lru (Some 2) None None 0 in
    let b = put 1 5 0 1 a in
    let c = put 2 6 0 2 b in
    put-order 3 7 0 3 c _ refl refl (put-order 2 6 0 2 b _ refl refl (put-order 1 5 0 1 a _ refl refl ((calls_stay_in_order ℕ ℕ ℕ ℕ ℕ).empty a refl refl refl refl)))

pub rows_of_fronts : RowsOfFronts
rows_of_fronts = record {
  applied = record { reads = refl; writes = refl };
  quiet = record {
    alive = λ r there held. each-at (λ r. has_come written_all.settings 9 r.entry ≡ false) written_all.records r.number r (refl, (refl, (refl, tt))) there;
    uncovered = λ r there held. each-at (λ r. is_covered small_answers written_all r.entry ≡ false) written_all.records r.number r (refl, (refl, (refl, tt))) there;
  };
  weight = refl;
  victims = refl;
}

pub rows_of_points : RowsOfPoints
rows_of_points = record { order = full-order; run = whole; told = refl; kept = refl; again = again }
  where
    oldest : Record ℕ ℕ
    oldest = record { number = 0; hash = 1; entry = record { key = 1; value = 5; step = 1; written = 0; used = 0; expires = None; weight = 1 }; is_held = true; writes = 1; applied = 1; counts = Some 1 }

    clean : FrontsAreClean 9 written_all
    clean = record {
      predicates = refl;
      written = record {
        live = λ r first held. refl;
        clear = λ r first held. of_some (λ x. nat_lt x.entry.step 0) (first_of (admitted_in written_all.records written_all.order)) r refl first;
      };
      used = λ r first held. refl;
      timer = λ later r there held. each-at (λ x. is_reached x.entry.expires 9 ≡ false) written_all.records r.number r (refl, (refl, (refl, tt))) there;
    }

    whole : RunsToEnd small_answers 9 full (ended 9 evicted)
    whole = record {
      runs = record {
        stages = applied_one full ∷ applied_one (applied_one full) ∷ written_all ∷ evicted ∷ [];
        last = evicted;
        steps = (writes _ _ refl refl refl, (writes _ _ refl refl refl, (writes _ _ refl refl refl, (evicts oldest (record { reads = refl; writes = refl }) clean refl refl refl, refl))));
        applied = record { reads = refl; writes = refl };
        refused = true;
        after = refl;
      };
      done = record {
        within = λ capacity is_set above over. absurd (let same : 2 ≡ capacity = cc in let more : capacity < 2 = over in omega (arith, same, more));
        ended = refl;
      };
      swept = λ sent. record {
        live = λ r first. refl;
        clear = λ r first. of_some (λ x. nat_lt x.entry.step 0) (first_of (admitted_in evicted.records evicted.order)) r refl first;
        idle = λ r first. refl;
        own = λ later r there. each-at (λ x. is_reached x.entry.expires 9 ≡ false) evicted.records r.number r (refl, (refl, tt)) there;
      };
      table = refl;
    }

    again : IsInOrder (ended 9 evicted)
    again = runs_stay_in_order ℕ ℕ ℕ ℕ ℕ small_answers 9 full (ended 9 evicted) full-order.sound refl (λ is_set. absurd (let same : ◌≡◌ {A = ℕ} 2 0 = cc in omega (arith, same))) whole

-- ---- times

put-timely : (key value moment step now next : ℕ) (s : Small) → IsTimely moment step s → moment ≤ now → now ≤ 9223372036854775807 → step ≤ next → IsTimely now next (put key value now next s)
put-timely key value moment step now next s h less range rises = (calls_stay_timely ℕ ℕ ℕ ℕ ℕ).written nat_eq small_answers moment step s key key value now next h less range rises

two-timely : IsTimely 10000000000 2 two
two-timely =
    let a = new_small Lru None (Some 16000000000) None 0 in
    put-timely 2 6 0 1 10000000000 2 (put 1 5 0 1 a) (put-timely 1 5 0 0 0 1 a ((calls_stay_timely ℕ ℕ ℕ ℕ ℕ).empty a refl refl refl refl refl (omega arith)) (omega arith) (omega arith) (omega arith)) (omega arith) (omega arith) (omega arith)

pub rows_of_sweeping : RowsOfSweeping
rows_of_sweeping = record {
  timely = two-timely;
  run = whole;
  order = refl;
  told = refl;
  held = refl;
  none_due = uncut_runs_leave_none_due ℕ ℕ ℕ ℕ ℕ small_answers 10000000000 2 17000000000 two last two-timely (omega arith) (omega arith) whole;
}
  where
    last : Small
    last = ended 17000000000 swept

    dead : Record ℕ ℕ
    dead = record { number = 0; hash = 1; entry = record { key = 1; value = 5; step = 1; written = 0; used = 0; expires = None; weight = 1 }; is_held = true; writes = 1; applied = 1; counts = Some 1 }

    whole : RunsToEnd small_answers 17000000000 two last
    whole = record {
      runs = record {
        stages = applied_one two ∷ both_written ∷ swept ∷ [];
        last = swept;
        steps = (writes _ _ refl refl refl, (writes _ _ refl refl refl, (leaves dead cause.Expired (record { reads = refl; writes = refl }) refl refl refl refl, refl)));
        applied = record { reads = refl; writes = refl };
        refused = false;
        after = refl;
      };
      done = record {
        within = λ capacity is_set above over. absurd (let none : None ≡ Some capacity = is_set in cc);
        ended = refl;
      };
      swept = λ sent. record {
        live = λ r first. of_some (λ x. is_reached (end_of x.entry.written (Some 16000000000)) 17000000000) (first_of (admitted_in swept.records swept.order)) r refl first;
        clear = λ r first. of_some (λ x. nat_lt x.entry.step 0) (first_of (admitted_in swept.records swept.order)) r refl first;
        idle = λ r first. refl;
        own = λ later r there. each-at (λ x. is_reached x.entry.expires 17000000000 ≡ false) swept.records r.number r (refl, tt) there;
      };
      table = refl;
    }
