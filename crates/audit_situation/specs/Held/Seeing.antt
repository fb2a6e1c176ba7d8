-- A value that is borrowed.
use Rattle.audit_model.specs.Situation.{HeldValue}
use Rattle.audit_situation.specs.declared.held.held.Seen.{Seen}

-- in terms of the definitions
abbrev pub held_of : Seen → HeldValue
held_of s =
    record {
      value = record { key = s.key.now; bytes = s.bytes.now; part = s.part; weight = s.weight; accepted_at = s.accepted_at; own_deadline = s.own_deadline };
      last_use = s.last_use;
      covered = s.covered;
      evictable = s.evictable;
    }
