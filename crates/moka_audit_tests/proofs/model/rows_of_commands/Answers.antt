-- Each row by computation.
use Rattle.std.proofs.Common.{refl}
use Rattle.std.specs.Fmt.{digits}
use Rattle.moka_audit_tests.specs.Model.Making.{plain_config, of_capacity, of_idle_ms, with_deadlines, IsGood, BreaksAfter}
use Rattle.moka_audit_tests.specs.Model.Commands.{has_is_no_use, sums, sum_with_deadline, failed_sum_uses, numbers, no_room_for_sums, add_tells_size, cleared, cleared_and_held, prefix_dropped, second_id, keys_in_order, quit, bare_words, has_tells, has_uses, silent_add, sum_without_held, sum_not_stored, cleared_shown, clear_tells, dropped_shown, other_prefix_dropped, first_id, refused_drop_covers, key_left_out, keys_out_of_order, quit_goes_on, fed_after_quit, dead_sum_replaced, covered_sum_replaced}
use Rattle.moka_audit_tests.proofs.model.rows_of_commands.Goals as goal

has_is_no_use_good : IsGood (of_idle_ms 7) has_is_no_use
unfolding digits
has_is_no_use_good = refl

sums_good : IsGood plain_config sums
unfolding digits
sums_good = refl

sum_with_deadline_good : IsGood (with_deadlines plain_config) sum_with_deadline
unfolding digits
sum_with_deadline_good = refl

failed_sum_uses_good : IsGood (of_idle_ms 7) failed_sum_uses
unfolding digits
failed_sum_uses_good = refl

numbers_good : IsGood plain_config numbers
unfolding digits
numbers_good = refl

no_room_for_sums_good : IsGood (of_capacity 0) no_room_for_sums
unfolding digits
no_room_for_sums_good = refl

add_tells_size_good : IsGood (of_capacity 2) add_tells_size
unfolding digits
add_tells_size_good = refl

cleared_good : IsGood plain_config cleared
unfolding digits
cleared_good = refl

cleared_and_held_good : IsGood plain_config cleared_and_held
unfolding digits
cleared_and_held_good = refl

prefix_dropped_good : IsGood plain_config prefix_dropped
unfolding digits
prefix_dropped_good = refl

second_id_good : IsGood plain_config second_id
unfolding digits
second_id_good = refl

keys_in_order_good : IsGood plain_config keys_in_order
unfolding digits
keys_in_order_good = refl

quit_good : IsGood plain_config quit
unfolding digits
quit_good = refl

bare_words_good : IsGood plain_config bare_words
unfolding digits
bare_words_good = refl

has_tells_breaks : BreaksAfter 2 (of_idle_ms 7) has_tells
unfolding digits
has_tells_breaks = refl

has_uses_breaks : BreaksAfter 3 (of_idle_ms 7) has_uses
unfolding digits
has_uses_breaks = refl

silent_add_breaks : BreaksAfter 2 plain_config silent_add
unfolding digits
silent_add_breaks = refl

sum_without_held_breaks : BreaksAfter 2 plain_config sum_without_held
unfolding digits
sum_without_held_breaks = refl

sum_not_stored_breaks : BreaksAfter 1 plain_config sum_not_stored
unfolding digits
sum_not_stored_breaks = refl

cleared_shown_breaks : BreaksAfter 3 plain_config cleared_shown
unfolding digits
cleared_shown_breaks = refl

clear_tells_breaks : BreaksAfter 2 plain_config clear_tells
unfolding digits
clear_tells_breaks = refl

dropped_shown_breaks : BreaksAfter 3 plain_config dropped_shown
unfolding digits
dropped_shown_breaks = refl

other_prefix_dropped_breaks : BreaksAfter 3 plain_config other_prefix_dropped
unfolding digits
other_prefix_dropped_breaks = refl

first_id_breaks : BreaksAfter 1 plain_config first_id
unfolding digits
first_id_breaks = refl

refused_drop_covers_breaks : BreaksAfter 4 plain_config refused_drop_covers
unfolding digits
refused_drop_covers_breaks = refl

key_left_out_breaks : BreaksAfter 3 plain_config key_left_out
unfolding digits
key_left_out_breaks = refl

keys_out_of_order_breaks : BreaksAfter 3 plain_config keys_out_of_order
unfolding digits
keys_out_of_order_breaks = refl

quit_goes_on_breaks : BreaksAfter 1 plain_config quit_goes_on
unfolding digits
quit_goes_on_breaks = refl

fed_after_quit_breaks : BreaksAfter 2 plain_config fed_after_quit
unfolding digits
fed_after_quit_breaks = refl

dead_sum_replaced_breaks : BreaksAfter 2 (of_idle_ms 7) dead_sum_replaced
unfolding digits
dead_sum_replaced_breaks = refl

covered_sum_replaced_breaks : BreaksAfter 3 plain_config covered_sum_replaced
unfolding digits
covered_sum_replaced_breaks = refl

pub returns-clause-good : goal.returns-clause-good
returns-clause-good c = record { has_is_no_use_good = has_is_no_use_good; sums_good = sums_good; sum_with_deadline_good = sum_with_deadline_good; failed_sum_uses_good = failed_sum_uses_good; numbers_good = numbers_good; no_room_for_sums_good = no_room_for_sums_good; add_tells_size_good = add_tells_size_good; cleared_good = cleared_good; cleared_and_held_good = cleared_and_held_good; prefix_dropped_good = prefix_dropped_good; second_id_good = second_id_good; keys_in_order_good = keys_in_order_good; quit_good = quit_good; bare_words_good = bare_words_good }

pub returns-clause-broken : goal.returns-clause-broken
returns-clause-broken c = record { has_tells_breaks = has_tells_breaks; has_uses_breaks = has_uses_breaks; silent_add_breaks = silent_add_breaks; sum_without_held_breaks = sum_without_held_breaks; sum_not_stored_breaks = sum_not_stored_breaks; cleared_shown_breaks = cleared_shown_breaks; clear_tells_breaks = clear_tells_breaks; dropped_shown_breaks = dropped_shown_breaks; other_prefix_dropped_breaks = other_prefix_dropped_breaks; first_id_breaks = first_id_breaks; refused_drop_covers_breaks = refused_drop_covers_breaks; key_left_out_breaks = key_left_out_breaks; keys_out_of_order_breaks = keys_out_of_order_breaks; quit_goes_on_breaks = quit_goes_on_breaks; fed_after_quit_breaks = fed_after_quit_breaks; dead_sum_replaced_breaks = dead_sum_replaced_breaks; covered_sum_replaced_breaks = covered_sum_replaced_breaks }
