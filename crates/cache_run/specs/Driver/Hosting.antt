-- What a host returns to its driver, and what becomes of it.
use Rattle.std.specs.Prelude.{◌≡◌, ℕ, Bool, true, false, List, [], Option, Some, None, is_none, is_some, unwrap_or, Result, MatchResult}
use Rattle.std.specs.Option.{option_map}
use Rattle.audit_model.specs.declared.command.Closing.{Closing}
use Rattle.cache_run.specs.Devices.Sent.{SentBut}
use Rattle.cache_run.specs.Devices.Sources.{Asking}
use Rattle.cache_run.specs.declared.devices.errors.RunError.{RunError}
use Rattle.cache_run.specs.declared.devices.errors.RunError.TheVariants as error
use Rattle.cache_run.specs.Driver.Exchanges.{Doing, Exchange, Settled, Settling, load_number, settling_asking}
use Rattle.cache_run.specs.declared.driver.host.Given.{Given}
use Rattle.cache_run.specs.declared.driver.session.Footing.{Footing}
use Rattle.cache_run.specs.declared.driver.session.Footing.TheVariants.{Ready, Waiting, Closed}

-- this was done, and this was given after it
abbrev pub exchange_of : Doing → Given → Exchange
exchange_of doing given = record {
  doing = doing;
  text = option_map (λ text. text.items) given.owed.replies;
  loads = option_map (λ loads. loads.items) given.owed.loads;
  closing = given.owed.closing;
}

-- at this moment the load with this number was settled, after this request to the loader
pub record SettlesBy (load moment : ℕ) (asking : Asking) (doing : Doing) : Type 0 where
  pub settling : Settling
  pub of : settling_asking settling ≡ asking
  pub numbered : load_number settling ≡ load
  pub done : doing ≡ Settled settling moment

-- Loads are given only if they were requested; and if nobody else has the service, they are given then, and no `LOAD` waits for others.
pub record SuitsRequest (lent wants_loads : Bool) (given : Given) : Type 0 where
  pub unwanted : wants_loads ≡ false → given.owed.loads ≡ None
  pub wanted : lent ≡ true → wants_loads ≡ true → is_some given.owed.loads ≡ true
  pub waits : lent ≡ true → given.owed.waits ≡ false

-- why a host refuses
abbrev pub Stops : (used_up late : Type 0) → RunError → Type 0
Stops used_up late error.Read = ⊥
Stops used_up late error.Write = ⊥
Stops used_up late error.OutOfMemory = Unit {0}
Stops used_up late error.UsedUp = used_up
Stops used_up late error.Moment = late

-- the state of a connection after an exchange
abbrev pub footing_by : Option Closing → Bool → Footing
footing_by (Some why) waits = Closed
footing_by None true = Waiting
footing_by None false = Ready

-- the replies that were taken
abbrev pub text_of : Given → Option (List ℕ)
text_of given = option_map (λ text. text.items) given.owed.replies

-- they were taken and all sent, unless there was an error
abbrev pub WereSent : {X E : Type 0} → Result X E → Option (List ℕ) → Option (List ℕ)
    → Option (List ℕ) → Type 0
WereSent result text before after =
    MatchResult result
    (λ done. (is_none text ≡ false) × SentBut [] (unwrap_or text []) before after)
    (λ e. (rest : List ℕ) × SentBut rest (unwrap_or text []) before after)
