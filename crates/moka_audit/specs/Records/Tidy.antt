-- What holds for the connections in each situation that records lead to.
use Rattle.std.specs.Prelude.{Bool, ◌&&◌, nat_le}
use Rattle.std.specs.List.{list_all}
use Rattle.audit_model.specs.Situation.{Situation}
use Rattle.audit_situation.specs.States.{have_numbers_apart}

-- no two open connections have the same number, and each number was given out
abbrev pub is_tidy : Situation → Bool
is_tidy s =
    have_numbers_apart s.connections && list_all (λ c. nat_le c.number s.opened) s.connections
