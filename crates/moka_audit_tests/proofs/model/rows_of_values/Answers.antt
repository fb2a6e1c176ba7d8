-- Each row by computation.
use Rattle.std.proofs.Common.{◌≡◌, refl, true, Some, None}
use Rattle.std.specs.Fmt.{digits}
use Rattle.moka_audit_tests.specs.Model.Making.{plain_config, of_two_parts, judgement, IsGood, BreaksAfter}
use Rattle.moka_audit_tests.specs.Model.Values.{set_get_delete, set_twice, delete_nothing, told_value_shown, live_value_hidden, accepts_nothing, get_accepts, part_too_high, silent_set, silent_delete, told_twice, other_value_told, always_explicit, expired_without_deadline, counts_drift, two_parts}
use Rattle.moka_audit_tests.proofs.model.rows_of_values.Goals as goal

set_get_delete_good : IsGood plain_config set_get_delete
unfolding digits
set_get_delete_good = refl

set_twice_good : IsGood plain_config set_twice
unfolding digits
set_twice_good = refl

delete_nothing_good : IsGood plain_config delete_nothing
unfolding digits
delete_nothing_good = refl

told_value_shown_breaks : BreaksAfter 3 plain_config told_value_shown
unfolding digits
told_value_shown_breaks = refl

live_value_hidden_breaks : BreaksAfter 2 plain_config live_value_hidden
unfolding digits
live_value_hidden_breaks = refl

accepts_nothing_breaks : BreaksAfter 1 plain_config accepts_nothing
unfolding digits
accepts_nothing_breaks = refl

get_accepts_breaks : BreaksAfter 1 plain_config get_accepts
unfolding digits
get_accepts_breaks = refl

part_too_high_breaks : BreaksAfter 1 plain_config part_too_high
unfolding digits
part_too_high_breaks = refl

silent_set_breaks : BreaksAfter 2 plain_config silent_set
unfolding digits
silent_set_breaks = refl

silent_delete_breaks : BreaksAfter 2 plain_config silent_delete
unfolding digits
silent_delete_breaks = refl

told_twice_breaks : BreaksAfter 3 plain_config told_twice
unfolding digits
told_twice_breaks = refl

other_value_told_breaks : BreaksAfter 2 plain_config other_value_told
unfolding digits
other_value_told_breaks = refl

always_explicit_breaks : BreaksAfter 2 plain_config always_explicit
unfolding digits
always_explicit_breaks = refl

expired_without_deadline_breaks : BreaksAfter 2 plain_config expired_without_deadline
unfolding digits
expired_without_deadline_breaks = refl

counts_drift_breaks : BreaksAfter 2 plain_config counts_drift
unfolding digits
counts_drift_breaks = refl

two_parts_break : judgement (of_two_parts None) two_parts ≡ (Some 3, 3, true)
unfolding digits
two_parts_break = refl

pub returns-clause-good : goal.returns-clause-good
returns-clause-good c = record { set_get_delete_good = set_get_delete_good; set_twice_good = set_twice_good; delete_nothing_good = delete_nothing_good }

pub returns-clause-broken : goal.returns-clause-broken
returns-clause-broken c = record { told_value_shown_breaks = told_value_shown_breaks; live_value_hidden_breaks = live_value_hidden_breaks; accepts_nothing_breaks = accepts_nothing_breaks; get_accepts_breaks = get_accepts_breaks; part_too_high_breaks = part_too_high_breaks; silent_set_breaks = silent_set_breaks; silent_delete_breaks = silent_delete_breaks; told_twice_breaks = told_twice_breaks; other_value_told_breaks = other_value_told_breaks; always_explicit_breaks = always_explicit_breaks; expired_without_deadline_breaks = expired_without_deadline_breaks; counts_drift_breaks = counts_drift_breaks; two_parts_break = two_parts_break }
