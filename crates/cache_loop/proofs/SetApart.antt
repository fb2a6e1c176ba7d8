-- What a connection is given that leaves the loads of its namespace to others.
use Rattle.std.proofs.Common.{◌≡◌, Bool, subst}
use Rattle.std.specs.Option.{option_map}
use Rattle.audit_model.specs.declared.input.Conn.{Conn}
use Rattle.cache_run.specs.Driver.Exchanges.{Doing, Exchange}
use Rattle.cache_run.specs.Driver.Hosting.{exchange_of}
use Rattle.cache_run.specs.declared.driver.host.Given.{Given}
use Rattle.cache_loop.specs.Apart.{ComesApart, IsGivenApart}

-- an exchange came, also with the loads set apart
pub comes-apart : {H : Type 0} (Came : Conn → H → Exchange → H → Type 0) (conn : Conn) (p q : H) (doing : Bool → Doing) (given apart : Given) → IsGivenApart given apart → Came conn p (exchange_of (doing given.held) given) q → ComesApart Came conn p (exchange_of (doing apart.held) apart) q
comes-apart Came conn p q doing given apart same came =
    let held = same.held in
    let replies = same.replies in
    let closing = same.closing in
    let one : exchange_of (doing given.held) given ≡ record (exchange_of (doing apart.held) apart) { loads = option_map (λ loads. loads.items) given.owed.loads } = cc in
    (option_map (λ loads. loads.items) given.owed.loads, subst (λ exchange. Came conn p exchange q) one came)
