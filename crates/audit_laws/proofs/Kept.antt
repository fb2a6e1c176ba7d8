-- What changes of connections and loads, and events, leave of a situation.
use Rattle.std.proofs.Common.{◌≡◌, refl, ◌∙◌, sym, subst, ℕ, ◌≤◌, Bool, true, false, ◌||◌, List, ◌++◌, Option, Some, None, max, arith}
use Rattle.std.specs.Option.{option_map_or}
use Rattle.audit_model.specs.Changes.{all_held_after, connection_after, join_by, join_load, with_connection_after, after_step}
use Rattle.audit_model.specs.Commands.{deed_of, drops, quits}
use Rattle.audit_model.specs.Follows.{after_event}
use Rattle.audit_model.specs.History.{Effect}
use Rattle.audit_model.specs.Loads.{key_loaded}
use Rattle.audit_model.specs.Situation.{Situation, Connection, connection_in, with_connection}
use Rattle.audit_model.specs.Steps.{Task, Store, Deliver, RunAgain, RunHeld, RunLines}
use Rattle.audit_model.specs.Stream.{is_waiting}
use Rattle.audit_model.specs.declared.config.Config.{Config}
use Rattle.audit_model.specs.declared.event.Event.{Event}
use Rattle.audit_model.specs.declared.event.Event.TheVariants as event
use Rattle.audit_model.specs.declared.transcript.Step.{Step}

-- the same values are held, at the same moment
pub record Keeps (s t : Situation) : Type 0 where
  pub held : t.held ≡ s.held
  pub latest : t.latest ≡ s.latest

pub keeps-all : (s : Situation) → Keeps s s
keeps-all s = record { held = refl; latest = refl }

pub keeps-on : (s t u : Situation) → Keeps s t → Keeps t u → Keeps s u
keeps-on s t u a b = record { held = b.held ∙ a.held; latest = b.latest ∙ a.latest }

with_connection-keeps : (closes : Bool) (c : Connection) (s : Situation) → Keeps s (with_connection closes c s)
with_connection-keeps closes c s = record { held = refl; latest = refl }

join_by-keeps : (conn : ℕ) (waits : Bool) (key : Option (List ℕ)) (load : Option ℕ) (s : Situation) → Keeps s (join_by conn waits key load s)
join_by-keeps conn waits None load s = record { held = refl; latest = refl }
join_by-keeps conn waits (Some key) (Some number) s = record { held = refl; latest = refl }
join_by-keeps conn true (Some key) None s = record { held = refl; latest = refl }
join_by-keeps conn false (Some key) None s = record { held = refl; latest = refl }

changed-keeps : (s : Situation) (change : Connection → Situation) → ((c : Connection) → Keeps s (change c)) → (o : Option Connection) → Keeps s (option_map_or change o s)
changed-keeps s change f None = keeps-all s
changed-keeps s change f (Some c) = f c

of_step-keeps : (task : Option Task) (step : Step) (effect : Effect) (s : Situation) (c : Connection)
    → Keeps s (with_connection (quits effect) (connection_after task step effect c) (join_load step.conn effect s))
of_step-keeps task step effect s c =
    let joined = join_load step.conn effect s in
    keeps-on s joined (with_connection (quits effect) (connection_after task step effect c) joined) (join_by-keeps step.conn (is_waiting effect) (key_loaded effect.action) effect.load s)
    (with_connection-keeps (quits effect) (connection_after task step effect c) joined)

pub connections-keep : (task : Option Task) (step : Step) (effect : Effect) (s : Situation) → Keeps s (with_connection_after task step effect s)
connections-keep (Some (Store key outcome)) step effect s = keeps-all s
connections-keep (Some (Deliver c outcome)) step effect s = changed-keeps s _ (of_step-keeps (Some (Deliver c outcome)) step effect s) (connection_in step.conn s)
connections-keep (Some (RunAgain c)) step effect s = changed-keeps s _ (of_step-keeps (Some (RunAgain c)) step effect s) (connection_in step.conn s)
connections-keep (Some (RunHeld c)) step effect s = changed-keeps s _ (of_step-keeps (Some (RunHeld c)) step effect s) (connection_in step.conn s)
connections-keep (Some (RunLines c)) step effect s = changed-keeps s _ (of_step-keeps (Some (RunLines c)) step effect s) (connection_in step.conn s)
connections-keep None step effect s = changed-keeps s _ (of_step-keeps None step effect s) (connection_in step.conn s)

-- a step changes the values held as its deed says, and no moment
pub held-stepped : (config : Config) (s : Situation) (task : Option Task) (step : Step) (effect : Effect)
    → (after_step config s task step effect).held ≡ all_held_after config s.latest s.held (deed_of effect) effect.notes
held-stepped config s task step effect =
    (connections-keep task step effect (record s { held = all_held_after config s.latest s.held (deed_of effect) effect.notes; dropped = s.dropped || drops effect })).held

pub latest-stepped : (config : Config) (s : Situation) (task : Option Task) (step : Step) (effect : Effect) → (after_step config s task step effect).latest ≡ s.latest
latest-stepped config s task step effect =
    (connections-keep task step effect (record s { held = all_held_after config s.latest s.held (deed_of effect) effect.notes; dropped = s.dropped || drops effect })).latest

-- an event changes no value held, and its moment is not earlier
pub record Ages (s t : Situation) : Type 0 where
  pub held : t.held ≡ s.held
  pub latest : s.latest ≤ t.latest

fed-ages : (s t : Situation) (moment : ℕ) (piece : List ℕ) (o : Option Connection) → t.held ≡ s.held → s.latest ≤ t.latest
    → Ages s (option_map_or (λ c. with_connection false (record c { unread = c.unread ++ piece }) t) o t)
fed-ages s t moment piece None h k = record { held = h; latest = k }
fed-ages s t moment piece (Some c) h k =
    let keeps = with_connection-keeps false (record c { unread = c.unread ++ piece }) t in
    record { held = keeps.held ∙ h; latest = subst (λ n. s.latest ≤ n) (sym keeps.latest) k }

pub event-ages : (e : Event) (s : Situation) → Ages s (after_event e s)
event-ages (event.Open conn) s = record { held = refl; latest = omega arith }
event-ages (event.Close conn) s = record { held = refl; latest = omega arith }
event-ages (event.Feed conn piece moment) s = fed-ages s (record s { latest = max moment.nanos s.latest }) moment.nanos piece (connection_in conn s) refl (omega arith)
event-ages (event.Answer load outcome moment) s = record { held = refl; latest = omega arith }
event-ages (event.GiveUp load moment) s = record { held = refl; latest = omega arith }
