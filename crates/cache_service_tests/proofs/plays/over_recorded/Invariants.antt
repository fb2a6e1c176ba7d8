use Rattle.std.proofs.Common.{[], ◌∷◌}
use Rattle.cache_service_tests.specs.declared.inputs.TheConstants.{PLAIN}
use Rattle.cache_service_tests.proofs.plays.over_recorded.Given as goal

abbrev pub ghosts-play_recorded-L-Seating : goal.ghosts-play_recorded-L-Seating
ghosts-play_recorded-L-Seating g a = record { all = a.books.blank.parts; configs = PLAIN ∷ [] }

abbrev pub ghosts-play_recorded-L-Ledger : goal.ghosts-play_recorded-L-Ledger
ghosts-play_recorded-L-Ledger g a = record { name = a.books.blank.name; parts = a.books.blank.parts }

abbrev pub ghosts-play_recorded-L-Naming : goal.ghosts-play_recorded-L-Naming
ghosts-play_recorded-L-Naming g a = record { history = a.books.opened.0 }
