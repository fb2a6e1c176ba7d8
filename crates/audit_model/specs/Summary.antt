-- The situation that a whole history leaves.
use Rattle.std.specs.Prelude.{◌≡◌, ℕ, List, [], ◌∷◌, ◌++◌, length, map, Some, if◌then◌else◌, unwrap_or}
use Rattle.std.specs.List.{filter}
use Rattle.audit_model.specs.History.{History, Opened, Value, latest_moment}
use Rattle.audit_model.specs.Stream.{opened_count, is_open, holds, waits, unread, unanswered, first_line, times_waited}
use Rattle.audit_model.specs.Values.{held_values, last_use, is_key_covered}
use Rattle.audit_model.specs.Loads.{loads_sent, loads_under_way, waiting_for, Sent}
use Rattle.audit_model.specs.Seen.{was_over, has_dropped}
use Rattle.audit_model.specs.Places.{history_after}
use Rattle.audit_model.specs.Situation.{Situation, Connection, PendingLoad, HeldValue, Standing, Ready, Held, Waiting, empty_situation}
use Rattle.audit_model.specs.Follows.{after_records}
use Rattle.audit_model.specs.declared.config.Config.{Config}
use Rattle.audit_model.specs.declared.transcript.Record.{Record}

-- the connections that were opened, in order
abbrev pub opened_conns : History → List ℕ
opened_conns [] = []
opened_conns (Opened conn ∷ past) = opened_conns past ++ conn ∷ []
opened_conns (h ∷ past) = opened_conns past

-- whether it runs lines, holds one back or waits, according to its history
abbrev pub standing_of : ℕ → History → Standing
standing_of conn past =
    let line = unwrap_or (first_line (unanswered conn past)) [] in
    if holds conn past then Held line else (if waits conn past then Waiting line else Ready)

-- the connection that its history leaves
abbrev pub connection_from : History → ℕ → Connection
connection_from past conn =
    record {
      number = conn;
      unread = unread conn past;
      standing = standing_of conn past;
      waited = times_waited conn past;
    }

-- a load under way, with the connections that wait for it
abbrev pub pending_from : History → Sent → PendingLoad
pending_from past sent =
    record { number = sent.number; key = sent.key; waiting = waiting_for (Some sent.key) past }

-- a held value, with what its history leaves of it
abbrev pub held_from : Config → History → Value → HeldValue
held_from config past value =
    record {
      value = value;
      last_use = last_use config value.key past;
      covered = is_key_covered value.key past;
      evictable = was_over config value.key value.part past;
    }

-- what later steps depend on
abbrev pub situation_of : Config → ℕ → History → Situation
situation_of config made past =
    record {
      latest = latest_moment made past;
      opened = opened_count past;
      sent = length (loads_sent past);
      connections = map (connection_from past) (filter (λ conn. is_open conn past) (opened_conns past));
      pending = map (pending_from past) (loads_under_way past);
      held = map (held_from config past) (held_values past);
      dropped = has_dropped past;
    }

-- records that follow one another lead to the situation that their history leaves
abbrev pub LeadsToSummary : Config → ℕ → List Record → Type 0
LeadsToSummary config made records =
    after_records config (empty_situation made) records
    ≡ Some (situation_of config made (history_after config made [] records))
