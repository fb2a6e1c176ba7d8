use Rattle.std.proofs.Common.{[], ◌∷◌}
use Rattle.bivrangd_server.proofs.house.House.start.Given as goal

abbrev pub ghosts-share-L-Seating : goal.ghosts-share-L-Seating
ghosts-share-L-Seating g a = record { all = a.books.blank.parts; configs = a.plan.config ∷ [] }

abbrev pub ghosts-share-L-Ledger : goal.ghosts-share-L-Ledger
ghosts-share-L-Ledger g a = record { name = a.books.blank.name; parts = a.books.blank.parts }

abbrev pub ghosts-share-L-Naming : goal.ghosts-share-L-Naming
ghosts-share-L-Naming g a = record { history = a.books.opened.0 }
