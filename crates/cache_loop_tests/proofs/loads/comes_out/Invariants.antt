use Rattle.std.proofs.Common.{[], ◌∷◌}
use Rattle.cache_loop_tests.specs.declared.loads.TheConstants.{PLAIN}
use Rattle.cache_loop_tests.proofs.loads.comes_out.Given as goal

abbrev pub ghosts-serve_case-L-Seating : goal.ghosts-serve_case-L-Seating
ghosts-serve_case-L-Seating g a = record { all = a.books.blank.parts; configs = PLAIN ∷ [] }

abbrev pub ghosts-serve_case-L-Ledger : goal.ghosts-serve_case-L-Ledger
ghosts-serve_case-L-Ledger g a = record { name = a.books.blank.name; parts = a.books.blank.parts }

abbrev pub ghosts-serve_case-L-Naming : goal.ghosts-serve_case-L-Naming
ghosts-serve_case-L-Naming g a = record { history = a.books.opened.0 }
