-- Each row by computation.
use Rattle.std.proofs.Common.{refl}
use Rattle.std.specs.Fmt.{digits}
use Rattle.moka_audit_tests.specs.Model.Making.{plain_config, of_capacity, of_idle_ms, with_deadlines, IsGood, BreaksAfter}
use Rattle.moka_audit_tests.specs.Model.Loads.{one_load_for_two, both_run_again, found_when_run_again, deleted_meanwhile, set_meanwhile, nothing_kept, no_value, closed_left_out, nobody_waits, lines_behind, two_keys, load_held_again, load_is_a_use, loaded_for_a_time, as_much_as_may_be_behind, too_much_behind, own_load_each, load_number_skipped, answered_by_give_up, not_run_again, runs_early, runs_early_in_its_piece, value_skipped, kept_at_capacity_0, told_without_value, dead_told_without_value, one_forgotten, line_before_the_second, closed_is_answered, answered_twice, value_of_two_lines, value_with_a_time, live_value_missed, answered_out_of_order}
use Rattle.moka_audit_tests.proofs.model.rows_of_loads.Goals as goal

one_load_for_two_good : IsGood plain_config one_load_for_two
unfolding digits
one_load_for_two_good = refl

both_run_again_good : IsGood plain_config both_run_again
unfolding digits
both_run_again_good = refl

found_when_run_again_good : IsGood plain_config found_when_run_again
unfolding digits
found_when_run_again_good = refl

deleted_meanwhile_good : IsGood plain_config deleted_meanwhile
unfolding digits
deleted_meanwhile_good = refl

set_meanwhile_good : IsGood plain_config set_meanwhile
unfolding digits
set_meanwhile_good = refl

nothing_kept_good : IsGood (of_capacity 0) nothing_kept
unfolding digits
nothing_kept_good = refl

no_value_good : IsGood plain_config no_value
unfolding digits
no_value_good = refl

closed_left_out_good : IsGood plain_config closed_left_out
unfolding digits
closed_left_out_good = refl

nobody_waits_good : IsGood plain_config nobody_waits
unfolding digits
nobody_waits_good = refl

lines_behind_good : IsGood plain_config lines_behind
unfolding digits
lines_behind_good = refl

two_keys_good : IsGood plain_config two_keys
unfolding digits
two_keys_good = refl

held_again_good : IsGood plain_config load_held_again
unfolding digits
held_again_good = refl

load_is_a_use_good : IsGood (of_idle_ms 7) load_is_a_use
unfolding digits
load_is_a_use_good = refl

loaded_for_a_time_good : IsGood (with_deadlines plain_config) loaded_for_a_time
unfolding digits
loaded_for_a_time_good = refl

as_much_as_may_be_behind_good : IsGood plain_config as_much_as_may_be_behind
unfolding digits
as_much_as_may_be_behind_good = refl

too_much_behind_good : IsGood plain_config too_much_behind
unfolding digits
too_much_behind_good = refl

own_load_each_breaks : BreaksAfter 3 plain_config own_load_each
unfolding digits
own_load_each_breaks = refl

load_number_skipped_breaks : BreaksAfter 1 plain_config load_number_skipped
unfolding digits
load_number_skipped_breaks = refl

answered_by_give_up_breaks : BreaksAfter 4 plain_config answered_by_give_up
unfolding digits
answered_by_give_up_breaks = refl

not_run_again_breaks : BreaksAfter 2 plain_config not_run_again
unfolding digits
not_run_again_breaks = refl

runs_early_breaks : BreaksAfter 3 plain_config runs_early
unfolding digits
runs_early_breaks = refl

runs_early_in_its_piece_breaks : BreaksAfter 1 plain_config runs_early_in_its_piece
unfolding digits
runs_early_in_its_piece_breaks = refl

value_skipped_breaks : BreaksAfter 4 plain_config value_skipped
unfolding digits
value_skipped_breaks = refl

kept_at_capacity_0_breaks : BreaksAfter 2 (of_capacity 0) kept_at_capacity_0
unfolding digits
kept_at_capacity_0_breaks = refl

told_without_value_breaks : BreaksAfter 4 plain_config told_without_value
unfolding digits
told_without_value_breaks = refl

dead_told_without_value_breaks : BreaksAfter 2 (of_idle_ms 7) dead_told_without_value
unfolding digits
dead_told_without_value_breaks = refl

one_forgotten_breaks : BreaksAfter 4 plain_config one_forgotten
unfolding digits
one_forgotten_breaks = refl

line_before_the_second_breaks : BreaksAfter 4 plain_config line_before_the_second
unfolding digits
line_before_the_second_breaks = refl

closed_is_answered_breaks : BreaksAfter 5 plain_config closed_is_answered
unfolding digits
closed_is_answered_breaks = refl

answered_twice_breaks : BreaksAfter 3 plain_config answered_twice
unfolding digits
answered_twice_breaks = refl

value_of_two_lines_breaks : BreaksAfter 2 plain_config value_of_two_lines
unfolding digits
value_of_two_lines_breaks = refl

value_with_a_time_breaks : BreaksAfter 2 plain_config value_with_a_time
unfolding digits
value_with_a_time_breaks = refl

live_value_missed_breaks : BreaksAfter 2 plain_config live_value_missed
unfolding digits
live_value_missed_breaks = refl

answered_out_of_order_breaks : BreaksAfter 4 plain_config answered_out_of_order
unfolding digits
answered_out_of_order_breaks = refl

pub returns-clause-good : goal.returns-clause-good
returns-clause-good c = record { one_load_for_two_good = one_load_for_two_good; both_run_again_good = both_run_again_good; found_when_run_again_good = found_when_run_again_good; deleted_meanwhile_good = deleted_meanwhile_good; set_meanwhile_good = set_meanwhile_good; nothing_kept_good = nothing_kept_good; no_value_good = no_value_good; closed_left_out_good = closed_left_out_good; nobody_waits_good = nobody_waits_good; lines_behind_good = lines_behind_good; two_keys_good = two_keys_good; held_again_good = held_again_good; load_is_a_use_good = load_is_a_use_good; loaded_for_a_time_good = loaded_for_a_time_good; as_much_as_may_be_behind_good = as_much_as_may_be_behind_good; too_much_behind_good = too_much_behind_good }

pub returns-clause-broken : goal.returns-clause-broken
returns-clause-broken c = record { own_load_each_breaks = own_load_each_breaks; load_number_skipped_breaks = load_number_skipped_breaks; answered_by_give_up_breaks = answered_by_give_up_breaks; not_run_again_breaks = not_run_again_breaks; runs_early_breaks = runs_early_breaks; runs_early_in_its_piece_breaks = runs_early_in_its_piece_breaks; value_skipped_breaks = value_skipped_breaks; kept_at_capacity_0_breaks = kept_at_capacity_0_breaks; told_without_value_breaks = told_without_value_breaks; dead_told_without_value_breaks = dead_told_without_value_breaks; one_forgotten_breaks = one_forgotten_breaks; line_before_the_second_breaks = line_before_the_second_breaks; closed_is_answered_breaks = closed_is_answered_breaks; answered_twice_breaks = answered_twice_breaks; value_of_two_lines_breaks = value_of_two_lines_breaks; value_with_a_time_breaks = value_with_a_time_breaks; live_value_missed_breaks = live_value_missed_breaks; answered_out_of_order_breaks = answered_out_of_order_breaks }
