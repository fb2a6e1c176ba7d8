-- Each row by computation.
use Rattle.std.proofs.Common.{refl}
use Rattle.std.specs.Fmt.{digits}
use Rattle.moka_audit_tests.specs.Model.Bounds.{RowsOfBytes, RowsOfParts, RowsOfRefusals, RowsOfClosings, RowsOfGiveUps, RowsOfConfigs, RowsOfRecency}
use Rattle.moka_audit_tests.proofs.model.rows_of_bounds.Goals as goal

bytes-rows : RowsOfBytes
bytes-rows = record {
  lowest = refl;
  below = refl;
  highest = refl;
  none = refl;
  digits = refl;
  slash = refl;
  colon = refl;
}

parts-rows : RowsOfParts
parts-rows = record {
  three = refl;
  many = refl;
  rounded_up = refl;
  even = refl;
}

refusals-rows : RowsOfRefusals
refusals-rows = record {
  last_moment = refl;
  moment_too_late = refl;
  longest = refl;
  too_long = refl;
  line_end_first = refl;
  longest_time = refl;
  time_too_long = refl;
  no_deadlines = refl;
  unknown = refl;
  closed = refl;
  load_first = refl;
}

closings-rows : RowsOfClosings
unfolding digits
closings-rows = record {
  asked = refl;
  by_quit = refl;
  asked_first = refl;
  behind = refl;
  long = refl;
  longest = refl;
}

give_ups-rows : RowsOfGiveUps
unfolding digits
give_ups-rows = record {
  again = refl;
  abandoned = refl;
  held = refl;
  once = refl;
  answered = refl;
}

configs-rows : RowsOfConfigs
configs-rows = record {
  no_parts = refl;
  one_part = refl;
  most_parts = refl;
  too_many_parts = refl;
  no_time = refl;
  shortest_time = refl;
  longest_time = refl;
  time_too_long = refl;
  live_and_own = refl;
  idle_and_own = refl;
}

recencies-rows : RowsOfRecency
recencies-rows = record {
  used = refl;
  written_again = refl;
  not_there = refl;
  deleted = refl;
}

pub returns-clause-bytes : goal.returns-clause-bytes
returns-clause-bytes c = bytes-rows

pub returns-clause-parts : goal.returns-clause-parts
returns-clause-parts c = parts-rows

pub returns-clause-refusals : goal.returns-clause-refusals
returns-clause-refusals c = refusals-rows

pub returns-clause-closings : goal.returns-clause-closings
returns-clause-closings c = closings-rows

pub returns-clause-give_ups : goal.returns-clause-give_ups
returns-clause-give_ups c = give_ups-rows

pub returns-clause-configs : goal.returns-clause-configs
returns-clause-configs c = configs-rows

pub returns-clause-recencies : goal.returns-clause-recencies
returns-clause-recencies c = recencies-rows
