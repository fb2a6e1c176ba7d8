-- Each row by computation.
use Rattle.std.proofs.Common.{refl}
use Rattle.std.specs.Fmt.{digits}
use Rattle.moka_audit_tests.specs.Model.Making.{plain_config, of_idle_ms, IsGood, BreaksAfter}
use Rattle.moka_audit_tests.specs.Model.Connections.{two_connections, held_command, held_delete, lines_behind_held, feed_first, wrong_number, fed_after_close, closed_twice, other_connection, moment_too_late, held_delete_hides, held_again, line_passes_held, held_tells}
use Rattle.moka_audit_tests.proofs.model.rows_of_connections.Goals as goal

two_connections_good : IsGood plain_config two_connections
unfolding digits
two_connections_good = refl

held_command_good : IsGood plain_config held_command
unfolding digits
held_command_good = refl

held_delete_good : IsGood plain_config held_delete
unfolding digits
held_delete_good = refl

lines_behind_held_good : IsGood plain_config lines_behind_held
unfolding digits
lines_behind_held_good = refl

feed_first_breaks : BreaksAfter 0 plain_config feed_first
unfolding digits
feed_first_breaks = refl

wrong_number_breaks : BreaksAfter 1 plain_config wrong_number
unfolding digits
wrong_number_breaks = refl

fed_after_close_breaks : BreaksAfter 2 plain_config fed_after_close
unfolding digits
fed_after_close_breaks = refl

closed_twice_breaks : BreaksAfter 2 plain_config closed_twice
unfolding digits
closed_twice_breaks = refl

other_connection_breaks : BreaksAfter 2 plain_config other_connection
unfolding digits
other_connection_breaks = refl

moment_too_late_breaks : BreaksAfter 1 plain_config moment_too_late
unfolding digits
moment_too_late_breaks = refl

held_delete_hides_breaks : BreaksAfter 4 plain_config held_delete_hides
unfolding digits
held_delete_hides_breaks = refl

held_again_breaks : BreaksAfter 2 plain_config held_again
unfolding digits
held_again_breaks = refl

line_passes_held_breaks : BreaksAfter 1 plain_config line_passes_held
unfolding digits
line_passes_held_breaks = refl

held_tells_breaks : BreaksAfter 2 (of_idle_ms 7) held_tells
unfolding digits
held_tells_breaks = refl

pub returns-clause-good : goal.returns-clause-good
returns-clause-good c = record { two_connections_good = two_connections_good; held_command_good = held_command_good; held_delete_good = held_delete_good; lines_behind_held_good = lines_behind_held_good }

pub returns-clause-broken : goal.returns-clause-broken
returns-clause-broken c = record { feed_first_breaks = feed_first_breaks; wrong_number_breaks = wrong_number_breaks; fed_after_close_breaks = fed_after_close_breaks; closed_twice_breaks = closed_twice_breaks; other_connection_breaks = other_connection_breaks; moment_too_late_breaks = moment_too_late_breaks; held_delete_hides_breaks = held_delete_hides_breaks; held_again_breaks = held_again_breaks; line_passes_held_breaks = line_passes_held_breaks; held_tells_breaks = held_tells_breaks }
