use Rattle.std.proofs.Common.{[], ◌∷◌}
use Rattle.cache_loop_tests.specs.declared.loads.TheConstants.{PLAIN}
use Rattle.cache_loop_tests.proofs.refusals.comes_out.Given as goal

abbrev pub ghosts-is_given_up-L-Seating : goal.ghosts-is_given_up-L-Seating
ghosts-is_given_up-L-Seating g a = record { all = a.books.blank.parts; configs = PLAIN ∷ [] }

abbrev pub ghosts-is_given_up-L-Ledger : goal.ghosts-is_given_up-L-Ledger
ghosts-is_given_up-L-Ledger g a = record { name = a.books.blank.name; parts = a.books.blank.parts }

abbrev pub ghosts-is_given_up-L-Naming : goal.ghosts-is_given_up-L-Naming
ghosts-is_given_up-L-Naming g a = record { history = a.books.opened.0 }
