-- The situation that the judge keeps.
use Rattle.std.specs.Prelude.{ℕ, Bool, true, false, not, ◌&&◌, ◌==◌, List, [], ◌∷◌, ◌++◌, Option}
use Rattle.std.specs.List.{list_any}
use Rattle.std.specs.Option.{option_map, option_map_or}
use Rattle.audit_model.specs.Changes.{join_by}
use Rattle.audit_model.specs.Situation.{Situation, Connection, connection_in, with_connection}
use Rattle.audit_situation.specs.Standings.{moved_on}
use Rattle.audit_situation.specs.declared.state.Moved.{Moved}
use Rattle.audit_situation.specs.declared.state.State.{State}

-- in terms of the definitions
abbrev pub shown_situation : State → Situation
shown_situation s =
    record {
      latest = s.latest;
      opened = s.opened;
      sent = s.sent;
      connections = s.connections;
      pending = s.pending;
      held = s.held;
      dropped = s.dropped;
    }

-- no two have the same number
abbrev pub have_numbers_apart : List Connection → Bool
have_numbers_apart [] = true
have_numbers_apart (c ∷ cs) = not (list_any (λ d. d.number == c.number) cs) && have_numbers_apart cs

-- the situation after a piece came for a connection
abbrev pub fed_to : ℕ → List ℕ → Situation → Situation
fed_to conn piece s =
    option_map_or (λ c. with_connection false (record c {
      unread = c.unread ++ piece;
    }) s) (connection_in conn s) s

-- the situation after a step of a connection has moved it on; it may be a `LOAD` of this key, which may send this load, and it may be a
-- `QUIT`
abbrev pub moved_in : ℕ → Bool → Bool → Bool → List ℕ → Bool → Option (List ℕ) → Option ℕ
    → Situation → Situation
moved_in conn reads holds replies line quits key load s =
    option_map_or (λ c. with_connection quits (moved_on reads holds replies line c)
    (join_by conn (not replies && not holds) key load s)) (connection_in conn s) s

-- the same by the kind of the step
abbrev pub moved_by : Moved → Situation → Situation
moved_by moved s =
    moved_in moved.conn moved.moving.reads moved.moving.holds moved.moving.replies
    moved.moving.line.now moved.quits (option_map (λ k. k.now) moved.key) moved.load s
