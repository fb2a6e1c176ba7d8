-- A connection whose replies were taken.
use Rattle.std.specs.Prelude.{◌≡◌, []}
use Rattle.cache_core.specs.declared.connection.connection.Connection.{Connection}

-- its replies were taken, and the rest is as it was
pub record IsTakenFrom (old new : Connection) : Type 0 where
  pub bytes : new.unread.bytes ≡ old.unread.bytes
  pub standing : new.standing ≡ old.standing
  pub waited : new.waited ≡ old.waited
  pub closing : new.closing ≡ old.closing
  pub none : new.output.text.items ≡ []
