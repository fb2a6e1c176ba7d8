-- Each row by computation.
use Rattle.std.proofs.Common.{refl}
use Rattle.std.specs.Fmt.{digits}
use Rattle.moka_audit_tests.specs.Model.Making.{plain_config, with_deadlines, IsGood, BreaksAfter}
use Rattle.moka_audit_tests.specs.Model.Lines.{no_record, no_input, cut_pieces, bad_lines, returns, deadline_digits, longest_key, key_too_long, key_byte_too_high, longest_line, longest_value, value_too_long, line_too_long, other_fault, line_with_return, line_left_over, line_without_end, lines_swapped, key_too_long_read, fed_after_long_line}
use Rattle.moka_audit_tests.proofs.model.rows_of_lines.Goals as goal

no_record_good : IsGood plain_config no_record
unfolding digits
no_record_good = refl

no_input_good : IsGood plain_config no_input
unfolding digits
no_input_good = refl

cut_pieces_good : IsGood plain_config cut_pieces
unfolding digits
cut_pieces_good = refl

bad_lines_good : IsGood plain_config bad_lines
unfolding digits
bad_lines_good = refl

returns_good : IsGood plain_config returns
unfolding digits
returns_good = refl

deadline_digits_good : IsGood (with_deadlines plain_config) deadline_digits
unfolding digits
deadline_digits_good = refl

longest_key_good : IsGood plain_config longest_key
unfolding digits
longest_key_good = refl

key_too_long_good : IsGood plain_config key_too_long
unfolding digits
key_too_long_good = refl

key_byte_too_high_good : IsGood plain_config key_byte_too_high
unfolding digits
key_byte_too_high_good = refl

longest_line_good : IsGood plain_config longest_line
unfolding digits
longest_line_good = refl

longest_value_good : IsGood plain_config longest_value
unfolding digits
longest_value_good = refl

value_too_long_good : IsGood plain_config value_too_long
unfolding digits
value_too_long_good = refl

line_too_long_good : IsGood plain_config line_too_long
unfolding digits
line_too_long_good = refl

other_fault_breaks : BreaksAfter 1 plain_config other_fault
unfolding digits
other_fault_breaks = refl

line_with_return_breaks : BreaksAfter 1 plain_config line_with_return
unfolding digits
line_with_return_breaks = refl

line_left_over_breaks : BreaksAfter 1 plain_config line_left_over
unfolding digits
line_left_over_breaks = refl

line_without_end_breaks : BreaksAfter 1 plain_config line_without_end
unfolding digits
line_without_end_breaks = refl

lines_swapped_breaks : BreaksAfter 1 plain_config lines_swapped
unfolding digits
lines_swapped_breaks = refl

key_too_long_read_breaks : BreaksAfter 1 plain_config key_too_long_read
unfolding digits
key_too_long_read_breaks = refl

fed_after_long_line_breaks : BreaksAfter 2 plain_config fed_after_long_line
unfolding digits
fed_after_long_line_breaks = refl

pub returns-clause-good : goal.returns-clause-good
returns-clause-good c = record { no_record_good = no_record_good; no_input_good = no_input_good; cut_pieces_good = cut_pieces_good; bad_lines_good = bad_lines_good; returns_good = returns_good; deadline_digits_good = deadline_digits_good; longest_key_good = longest_key_good; key_too_long_good = key_too_long_good; key_byte_too_high_good = key_byte_too_high_good; longest_line_good = longest_line_good; longest_value_good = longest_value_good; value_too_long_good = value_too_long_good; line_too_long_good = line_too_long_good }

pub returns-clause-broken : goal.returns-clause-broken
returns-clause-broken c = record { other_fault_breaks = other_fault_breaks; line_with_return_breaks = line_with_return_breaks; line_left_over_breaks = line_left_over_breaks; line_without_end_breaks = line_without_end_breaks; lines_swapped_breaks = lines_swapped_breaks; key_too_long_read_breaks = key_too_long_read_breaks; fed_after_long_line_breaks = fed_after_long_line_breaks }
