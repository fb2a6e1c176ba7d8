-- What a request asks for.
use Rattle.std.specs.Prelude.{ℕ, Bool, List}
use Rattle.memcache_model.specs.declared.command.Direction.{Direction}
use Rattle.memcache_model.specs.declared.command.Exptime.{Exptime}
use Rattle.memcache_model.specs.declared.command.Meta.{Meta}
use Rattle.memcache_model.specs.declared.command.Storage.{Storage}
use Rattle.memcache_model.specs.declared.fault.ProtocolError.{ProtocolError}

-- a command with what follows its word; a `true` before keys says that uniques are told
pub data Command : Type 0 where
  get : Bool → List (List ℕ) → Command
  gat : Bool → Exptime → List (List ℕ) → Command
  store : Storage → (key : List ℕ) → (flags : ℕ) → Exptime → (block : List ℕ) → Command
  oversize : Storage → (key : List ℕ) → Command
  delete : (key : List ℕ) → Command
  arithmetic : Direction → (key : List ℕ) → (delta : ℕ) → Command
  touch : (key : List ℕ) → Exptime → Command
  flush_all : Exptime → Command
  stats : List (List ℕ) → Command
  version verbosity quit meta_no_op : Command
  meta : Meta → (key : List ℕ) → (flags : List (List ℕ)) → Command
  meta_set : (key : List ℕ) → (flags : List (List ℕ)) → (block : List ℕ) → Command
  meta_oversize : (key : List ℕ) → (flags : List (List ℕ)) → Command
  malformed : ProtocolError → Command

-- a command, and whether it is to have no reply
pub record Request : Type 0 where
  pub command : Command
  pub quiet : Bool
