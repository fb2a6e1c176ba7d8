-- A test of equal situations.
use Rattle.std.specs.Prelude.{ℕ, Bool, true, false, ◌&&◌, ◌==◌, nat_eq, List, [], Option, Some, None}
use Rattle.std.specs.Option.{option_eq}
use Rattle.std.specs.Cmp.Lexicographic.{pointwise}
use mathlib.Core.Bool.{beq}
use Rattle.audit_model.specs.Bytewise.{same}
use Rattle.audit_model.specs.History.{Value}
use Rattle.audit_model.specs.Places.{history_after}
use Rattle.audit_model.specs.Situation.{Situation, Connection, PendingLoad, HeldValue, Standing, Ready, Held, Waiting, empty_situation}
use Rattle.audit_model.specs.Follows.{after_records}
use Rattle.audit_model.specs.Summary.{situation_of}
use Rattle.audit_model.specs.declared.config.Config.{Config}
use Rattle.audit_model.specs.declared.transcript.Record.{Record}

abbrev pub same_standing : Standing → Standing → Bool
same_standing Ready Ready = true
same_standing (Held a) (Held b) = same a b
same_standing (Waiting a) (Waiting b) = same a b
same_standing a b = false

abbrev pub same_connection : Connection → Connection → Bool
same_connection a b =
    (a.number == b.number) && same a.unread b.unread && same_standing a.standing b.standing
    && (a.waited == b.waited)

abbrev pub same_load : PendingLoad → PendingLoad → Bool
same_load a b = (a.number == b.number) && same a.key b.key && same a.waiting b.waiting

abbrev pub same_value : Value → Value → Bool
same_value a b =
    same a.key b.key && same a.bytes b.bytes && (a.part == b.part) && (a.weight == b.weight)
    && (a.accepted_at == b.accepted_at) && option_eq nat_eq a.own_deadline b.own_deadline

abbrev pub same_held : HeldValue → HeldValue → Bool
same_held a b =
    same_value a.value b.value && (a.last_use == b.last_use) && beq a.covered b.covered
    && beq a.evictable b.evictable

abbrev pub same_situation : Situation → Situation → Bool
same_situation a b =
    (a.latest == b.latest) && (a.opened == b.opened) && (a.sent == b.sent)
    && pointwise same_connection a.connections b.connections
    && pointwise same_load a.pending b.pending && pointwise same_held a.held b.held
    && beq a.dropped b.dropped

abbrev pub is_same : Situation → Option Situation → Bool
is_same a None = false
is_same a (Some b) = same_situation a b

abbrev pub leads_to_summary : Config → ℕ → List Record → Bool
leads_to_summary config made records =
    is_same (situation_of config made (history_after config made [] records))
    (after_records config (empty_situation made) records)
