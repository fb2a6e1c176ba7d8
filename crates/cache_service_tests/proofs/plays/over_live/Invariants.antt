use Rattle.std.proofs.Common.{[], ◌∷◌}
use Rattle.cache_service_tests.specs.declared.inputs.TheConstants.{PLAIN}
use Rattle.cache_service_tests.proofs.plays.over_live.Given as goal

abbrev pub ghosts-play_live-L-Seating : goal.ghosts-play_live-L-Seating
ghosts-play_live-L-Seating g a = record { all = a.books.blank.parts; configs = PLAIN ∷ [] }

abbrev pub ghosts-play_live-L-Ledger : goal.ghosts-play_live-L-Ledger
ghosts-play_live-L-Ledger g a = record { name = a.books.blank.name; parts = a.books.blank.parts }

abbrev pub ghosts-play_live-L-Naming : goal.ghosts-play_live-L-Naming
ghosts-play_live-L-Naming g a = record { history = a.books.opened.0 }
