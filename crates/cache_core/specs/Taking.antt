-- What connections are owed, each at the place below its number, and what is left when it is moved out.
use Rattle.std.specs.Prelude.{◌≡◌, ℕ, List, slice_set, Some}
use Rattle.std.specs.List.{slice_get}
use Rattle.cache_core.specs.Connection.Taken.{IsTakenFrom}
use Rattle.cache_core.specs.Connections.Presence.{Gone, Here, Out, Presence, closing_at, closing_of_presence, reply_text_of, text_at}
use Rattle.cache_core.specs.Places.{waits_at, waits_in}
use Rattle.cache_core.specs.declared.connection.connection.Connection.{Connection}
use Rattle.cache_core.specs.declared.connection.taking.Taken.{Taken}

-- this is what it is owed
pub record IsOwed (presence : Presence) (taken : Taken) : Type 0 where
  pub replies : taken.replies.items ≡ reply_text_of presence
  pub closing : taken.closing ≡ closing_of_presence presence
  pub waits : taken.waits ≡ waits_in presence

-- its replies were taken, if it is here, and the rest is as it was
abbrev pub IsLeftOf : Presence → Presence → Type 0
IsLeftOf (Here c) left = (d : Connection) × (left ≡ Here d) × IsTakenFrom c d
IsLeftOf Out left = left ≡ Out
IsLeftOf (Gone why) left = left ≡ Gone why

-- what the connection at a place is owed was moved out
pub record TakesOwedAt (old new : List Presence) (index : ℕ) (taken : Taken) : Type 0 where
  pub was : Presence
  pub is : Presence
  pub at : slice_get old index ≡ Some was
  pub set : new ≡ slice_set old index is
  pub left : IsLeftOf was is
  pub owed : IsOwed was taken

-- this is what the connection at a place is owed
pub record IsOwedAt (presences : List Presence) (index : ℕ) (taken : Taken) : Type 0 where
  pub replies : taken.replies.items ≡ text_at presences index
  pub closing : taken.closing ≡ closing_at presences index
  pub waits : taken.waits ≡ waits_at presences index
