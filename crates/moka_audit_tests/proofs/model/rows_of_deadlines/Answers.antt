-- Each row by computation.
use Rattle.std.proofs.Common.{refl}
use Rattle.std.specs.Fmt.{digits}
use Rattle.moka_audit_tests.specs.Model.Making.{plain_config, of_idle_ms, of_live_ms, with_deadlines, IsGood, BreaksAfter}
use Rattle.moka_audit_tests.specs.Model.Deadlines.{own_deadline, idle_time, live_time, fallen_moment, own_end_first, idle_without_own, idle_end_first, shown_until_timer, own_end_missed, dead_told_replaced, idle_from_its_write, dead_stays_dead, dead_on_arrival, dead_and_covered, moment_of_an_answer}
use Rattle.moka_audit_tests.proofs.model.rows_of_deadlines.Goals as goal

own_deadline_good : IsGood (with_deadlines plain_config) own_deadline
unfolding digits
own_deadline_good = refl

idle_time_good : IsGood (of_idle_ms 7) idle_time
unfolding digits
idle_time_good = refl

live_time_good : IsGood (of_live_ms 7) live_time
unfolding digits
live_time_good = refl

fallen_moment_good : IsGood (with_deadlines plain_config) fallen_moment
unfolding digits
fallen_moment_good = refl

own_end_first_good : IsGood (with_deadlines (of_idle_ms 5)) own_end_first
unfolding digits
own_end_first_good = refl

idle_without_own_good : IsGood (with_deadlines (of_idle_ms 5)) idle_without_own
unfolding digits
idle_without_own_good = refl

idle_end_first_good : IsGood (with_deadlines (of_idle_ms 5)) idle_end_first
unfolding digits
idle_end_first_good = refl

shown_until_timer_breaks : BreaksAfter 2 (with_deadlines plain_config) shown_until_timer
unfolding digits
shown_until_timer_breaks = refl

own_end_missed_breaks : BreaksAfter 5 (with_deadlines (of_idle_ms 5)) own_end_missed
unfolding digits
own_end_missed_breaks = refl

dead_told_replaced_breaks : BreaksAfter 2 (of_idle_ms 7) dead_told_replaced
unfolding digits
dead_told_replaced_breaks = refl

idle_from_its_write_good : IsGood (of_idle_ms 7) idle_from_its_write
unfolding digits
idle_from_its_write_good = refl

dead_stays_dead_good : IsGood (of_idle_ms 7) dead_stays_dead
unfolding digits
dead_stays_dead_good = refl

dead_on_arrival_good : IsGood (with_deadlines plain_config) dead_on_arrival
unfolding digits
dead_on_arrival_good = refl

dead_and_covered_good : IsGood (of_idle_ms 7) dead_and_covered
unfolding digits
dead_and_covered_good = refl

moment_of_an_answer_good : IsGood (of_idle_ms 7) moment_of_an_answer
unfolding digits
moment_of_an_answer_good = refl

pub returns-clause-good : goal.returns-clause-good
returns-clause-good c = record { own_deadline_good = own_deadline_good; idle_time_good = idle_time_good; live_time_good = live_time_good; fallen_moment_good = fallen_moment_good; own_end_first_good = own_end_first_good; idle_without_own_good = idle_without_own_good; idle_end_first_good = idle_end_first_good; idle_from_its_write_good = idle_from_its_write_good; dead_stays_dead_good = dead_stays_dead_good; dead_on_arrival_good = dead_on_arrival_good; dead_and_covered_good = dead_and_covered_good; moment_of_an_answer_good = moment_of_an_answer_good }

pub returns-clause-broken : goal.returns-clause-broken
returns-clause-broken c = record { shown_until_timer_breaks = shown_until_timer_breaks; own_end_missed_breaks = own_end_missed_breaks; dead_told_replaced_breaks = dead_told_replaced_breaks }
