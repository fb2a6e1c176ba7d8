-- Connections, each at the place below its number.
use Rattle.std.specs.Prelude.{◌≡◌, ℕ, Bool, false, ◌&&◌, List, [], Option, is_none, length, map, slice_set}
use Rattle.std.specs.List.{slice_get}
use Rattle.std.specs.Option.{option_map_or}
use Rattle.audit_model.specs.Belongs.{Known, refusal_of_conn}
use Rattle.audit_model.specs.Follows.{known_in}
use Rattle.audit_model.specs.declared.input.ServiceError.{ServiceError}
use Rattle.cache_commands.specs.Loads.Standings.{waits_for_load}
use Rattle.cache_core.specs.Connections.Presence.{Gone, Here, Out, Presence, closing_of_presence, open_from, reply_text_of}

-- what is known of connections
abbrev pub known_of_all : List Presence → Known
known_of_all connections =
    known_in (record {
      latest = 0;
      opened = length (map closing_of_presence connections);
      sent = 0;
      connections = open_from 1 connections;
      pending = [];
      held = [];
      dropped = false;
    })

-- how a number is refused that is not that of an open connection
abbrev pub refusal_at : List Presence → ℕ → Option ServiceError
refusal_at connections number = refusal_of_conn (known_of_all connections) number

-- a `LOAD` of it waits
abbrev pub waits_in : Presence → Bool
waits_in (Here c) = is_none c.closing && waits_for_load c.standing
waits_in Out = false
waits_in (Gone why) = false

-- a `LOAD` of the connection at a place waits
abbrev pub waits_at : List Presence → ℕ → Bool
waits_at connections index = option_map_or waits_in (slice_get connections index) false

-- The replies of the connection at a place were taken; which connections are open, and why others have closed, is as it was.
pub record IsTakenAt (old new : List Presence) (index : ℕ) : Type 0 where
  pub listed : open_from 1 new ≡ open_from 1 old
  pub closings : map closing_of_presence new ≡ map closing_of_presence old
  pub texts : map reply_text_of new ≡ slice_set (map reply_text_of old) index []
