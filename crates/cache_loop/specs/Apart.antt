-- What a connection is given that leaves the loads of its namespace to others.
use Rattle.std.specs.Prelude.{◌≡◌, Option, None}
use Rattle.audit_model.specs.declared.input.Conn.{Conn}
use Rattle.cache_run.specs.Driver.Exchanges.{Exchange, Outs}
use Rattle.cache_run.specs.declared.driver.host.Given.{Given}

-- an exchange came, after which some loads were taken
abbrev pub ComesApart : {H : Type 0} → (Conn → H → Exchange → H → Type 0) → Conn → H → Exchange → H
    → Type 0
ComesApart Came conn p exchange q =
    (loads : Option Outs) × Came conn p (record exchange { loads = loads }) q

-- the same is given, but for the loads, of which there are none if there were none
pub record IsGivenApart (given apart : Given) : Type 0 where
  pub held : apart.held ≡ given.held
  pub replies : apart.owed.replies ≡ given.owed.replies
  pub closing : apart.owed.closing ≡ given.owed.closing
  pub waits : apart.owed.waits ≡ given.owed.waits
  pub none : given.owed.loads ≡ None → apart.owed.loads ≡ None
