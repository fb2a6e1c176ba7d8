-- Each row by computation.
use Rattle.std.proofs.Common.{refl, Some}
use Rattle.std.specs.Fmt.{digits}
use Rattle.moka_audit_tests.specs.Model.Making.{plain_config, of_capacity, of_bytes, of_two_parts, IsGood, BreaksAfter}
use Rattle.moka_audit_tests.specs.Model.Sizes.{oldest_leaves, used_stays, too_heavy, no_room, judged_before_it_shrinks, size_after_delete, size_in_its_step, size_twice, keeps_nothing, too_much_after_sync, set_tells_size, size_after_sync, size_after_delete_and_sync, size_of_later, size_twice_apart, a_share_each, a_share_rounded_up, told_of_both_parts, size_of_the_other_part, overwriting_fills_nothing}
use Rattle.moka_audit_tests.proofs.model.rows_of_sizes.Goals as goal

oldest_leaves_good : IsGood (of_capacity 2) oldest_leaves
unfolding digits
oldest_leaves_good = refl

used_stays_good : IsGood (of_capacity 2) used_stays
unfolding digits
used_stays_good = refl

too_heavy_good : IsGood (of_bytes 3) too_heavy
unfolding digits
too_heavy_good = refl

no_room_good : IsGood (of_capacity 0) no_room
unfolding digits
no_room_good = refl

judged_before_it_shrinks_good : IsGood (of_bytes 12) judged_before_it_shrinks
unfolding digits
judged_before_it_shrinks_good = refl

size_after_delete_good : IsGood (of_capacity 2) size_after_delete
unfolding digits
size_after_delete_good = refl

size_in_its_step_good : IsGood (of_capacity 2) size_in_its_step
unfolding digits
size_in_its_step_good = refl

size_twice_good : IsGood (of_capacity 2) size_twice
unfolding digits
size_twice_good = refl

keeps_nothing_breaks : BreaksAfter 1 plain_config keeps_nothing
unfolding digits
keeps_nothing_breaks = refl

too_much_after_sync_breaks : BreaksAfter 4 (of_capacity 2) too_much_after_sync
unfolding digits
too_much_after_sync_breaks = refl

set_tells_size_breaks : BreaksAfter 4 (of_capacity 2) set_tells_size
unfolding digits
set_tells_size_breaks = refl

size_after_sync_breaks : BreaksAfter 5 (of_capacity 2) size_after_sync
unfolding digits
size_after_sync_breaks = refl

size_after_delete_and_sync_breaks : BreaksAfter 6 (of_capacity 2) size_after_delete_and_sync
unfolding digits
size_after_delete_and_sync_breaks = refl

size_of_later_breaks : BreaksAfter 7 (of_capacity 2) size_of_later
unfolding digits
size_of_later_breaks = refl

size_twice_apart_breaks : BreaksAfter 4 (of_capacity 2) size_twice_apart
unfolding digits
size_twice_apart_breaks = refl

a_share_each_good : IsGood (of_two_parts (Some 2)) a_share_each
unfolding digits
a_share_each_good = refl

a_share_rounded_up_good : IsGood (of_two_parts (Some 3)) a_share_rounded_up
unfolding digits
a_share_rounded_up_good = refl

told_of_both_parts_good : IsGood (of_two_parts (Some 2)) told_of_both_parts
unfolding digits
told_of_both_parts_good = refl

size_of_the_other_part_breaks : BreaksAfter 4 (of_two_parts (Some 2)) size_of_the_other_part
unfolding digits
size_of_the_other_part_breaks = refl

overwriting_fills_nothing_breaks : BreaksAfter 3 (of_capacity 2) overwriting_fills_nothing
unfolding digits
overwriting_fills_nothing_breaks = refl

pub returns-clause-good : goal.returns-clause-good
returns-clause-good c = record { oldest_leaves_good = oldest_leaves_good; used_stays_good = used_stays_good; too_heavy_good = too_heavy_good; no_room_good = no_room_good; judged_before_it_shrinks_good = judged_before_it_shrinks_good; size_after_delete_good = size_after_delete_good; size_in_its_step_good = size_in_its_step_good; size_twice_good = size_twice_good; a_share_each_good = a_share_each_good; a_share_rounded_up_good = a_share_rounded_up_good; told_of_both_parts_good = told_of_both_parts_good }

pub returns-clause-broken : goal.returns-clause-broken
returns-clause-broken c = record { keeps_nothing_breaks = keeps_nothing_breaks; too_much_after_sync_breaks = too_much_after_sync_breaks; set_tells_size_breaks = set_tells_size_breaks; size_after_sync_breaks = size_after_sync_breaks; size_after_delete_and_sync_breaks = size_after_delete_and_sync_breaks; size_of_later_breaks = size_of_later_breaks; size_twice_apart_breaks = size_twice_apart_breaks; size_of_the_other_part_breaks = size_of_the_other_part_breaks; overwriting_fills_nothing_breaks = overwriting_fills_nothing_breaks }
