-- How far a connection has come, after a turn of it.
use Rattle.std.specs.Prelude.{◌≡◌, ◌≢◌, ◌≤◌, ◌⊎◌, ◌++◌, ℕ, true, false, List, [], Option, None, Result, MatchResult, Ok}
use Rattle.std.specs.Io.KnownBytes.{Appends, Consumes, IsAtEnd}
use Rattle.audit_model.specs.declared.event.Outcome.{Outcome}
use Rattle.cache_run.specs.Driver.Drives.{LeftUndone, lost_of}
use Rattle.cache_run.specs.Driver.Exchanges.{Exchange, HaveClosed, Outs}
use Rattle.cache_run.specs.Driver.Interludes.{Interlude, Station}
use Rattle.cache_run.specs.declared.devices.errors.RunError.{RunError}
use Rattle.cache_run.specs.declared.driver.host.Host.{Ghosts as Ways}
use Rattle.cache_run.specs.declared.driver.session.Footing.TheVariants.{Ready, Closed}
use Rattle.cache_link.specs.Dialogues.{Dialogue, Wire}
use Rattle.cache_link.specs.Patience.{device_of}
use Rattle.cache_link.specs.declared.link.Link.{Link}
use Rattle.cache_link.specs.declared.link.Next.{Next}
use Rattle.cache_link.specs.declared.link.Next.TheVariants.{Over}
use Rattle.cache_link.specs.declared.link.Report.TheVariants.{Nothing}
use Rattle.cache_link.specs.declared.patient.Patient.{Patient}
use Rattle.cache_link.specs.declared.tools.Tools.{Tools}

-- a place, and the clock and the loader beside it
abbrev pub station : {H K D : Type 0} → H → Tools K D → Station H K D
station place tools = record { place = place; clock = tools.clock; loader = tools.loader }

-- a reader and a writer
abbrev pub wire : {R W : Type 0} → (R → Option (List ℕ)) → (W → Option (List ℕ)) → Patient R
    → Patient W → Wire
wire remaining contents reader writer =
    record { remaining = remaining (device_of reader); contents = contents (device_of writer) }

-- only more was read of it, if all that was read had been fed; or nothing more is read
pub record Fetched {R : Type 0} (remaining : R → Option (List ℕ)) (was is : Patient R)
    (s t : Link) : Type 0 where
  pub conn : t.session.conn ≡ s.session.conn
  pub taken : t.session.taken.items ≡ s.session.taken.items
  pub footing : t.session.footing ≡ s.session.footing
  pub backlog : t.backlog ≡ s.backlog
  pub piece : List ℕ
  pub whole : t.session.inbox ≡ s.session.inbox ++ piece
  pub bytes : Consumes (remaining (device_of was)) (remaining (device_of is)) piece
  pub over : t.is_over ≡ true → (t.session.inbox ≡ [])
      × (IsAtEnd (remaining (device_of is)) ⊎ (t.is_stopped ≡ true))

-- nothing was done for it, and nothing was read or written
pub record IsAlike (s t : Link) : Type 0 where
  pub conn : t.session.conn ≡ s.session.conn
  pub taken : t.session.taken.items ≡ s.session.taken.items
  pub footing : t.session.footing ≡ s.session.footing
  pub inbox : t.session.inbox ≡ s.session.inbox
  pub backlog : t.backlog ≡ s.backlog
  pub report : t.report ≡ s.report
  pub stopped : t.is_stopped ≡ s.is_stopped
  pub over : t.is_over ≡ s.is_over

-- it was opened
pub record HasJustOpened (link : Link) : Type 0 where
  pub footing : link.session.footing ≡ Ready
  pub taken : link.session.taken.items ≡ []
  pub inbox : link.session.inbox ≡ []
  pub backlog : link.backlog ≡ []
  pub report : link.report ≡ Nothing
  pub stopped : link.is_stopped ≡ false
  pub over : link.is_over ≡ false

-- All that it was owed was written, and maybe more; or nothing was read or fed.
abbrev pub WritesFirst : {H K D R W : Type 0} → (W → Option (List ℕ)) → Link → Station H K D
    → Station H K D → Patient R → Patient R → Patient W → Patient W → Type 0
WritesFirst contents s p q reader reader' writer writer' =
    ((more : List ℕ)
    × Appends (contents (device_of writer)) (contents (device_of writer')) (s.backlog ++ more))
    ⊎ ((q ≡ p) × (reader' ≡ reader))

-- Nothing more is fed: the input is at its end, or nothing more is read of it, and all that was read was fed; or the connection has closed;
-- or others had closed it, so that something was refused.
abbrev pub FeedsNoMore : Link → Wire → List Exchange → LeftUndone → Type 0
FeedsNoMore link b exchanges rest =
    ((lost_of rest ≡ []) × (IsAtEnd b.remaining ⊎ (link.is_stopped ≡ true)))
    ⊎ HaveClosed exchanges ⊎ (rest.refused ≢ None)

module _ {X H K D : Type 0} (ways : Ways X H) (reads : K → ℕ → K → Type 0) (loads : D → List ℕ → Option Outcome → D → Type 0) where
  -- more of it may be fed: what was read and not fed is in its inbox, and no load is in hand; then others have their turns
  pub record IsGoing (link : Link) (last now : Station H K D) (rest : LeftUndone) : Type 0 where
    pub others : Interlude ways reads loads link.session.conn last now
    pub accepted : rest.refused ≡ None
    pub unfed : rest.unfed ≡ link.session.inbox
    pub idle : link.session.taken.items ≡ []
    pub opened : link.session.footing ≢ Closed

  -- A connection is served: exchanges took place, and what it was owed was written, but for its backlog.
  pub record IsServed (start : Station H K D) (a : Wire) (link : Link) (now : Station H K D)
      (b : Wire) : Type 0 where
    pub last : Station H K D
    pub rest : LeftUndone
    pub dialogue : Dialogue ways reads loads link.session.conn start last a b [] rest
    pub unsent : rest.unsent ≡ link.backlog
    pub all_taken : rest.untaken ≡ 0
    pub going : link.is_over ≡ false → IsGoing link last now rest
    pub over : link.is_over ≡ true → FeedsNoMore link b dialogue.exchanges rest

  -- and all that it was owed is written, and nothing more is fed
  pub record IsFinished (start : Station H K D) (a : Wire) (link : Link) (now : Station H K D)
      (b : Wire) : Type 0 where
    pub served : IsServed start a link now b
    pub over : link.is_over ≡ true
    pub written : link.backlog ≡ []

  -- There was an error. What it was owed was written, but for its backlog, and what was gathered after that is lost.
  pub record IsBroken (start : Station H K D) (a : Wire) (link : Link) (b : Wire) : Type 0 where
    pub last : Station H K D
    pub hand : Outs
    pub rest : LeftUndone
    pub dialogue : Dialogue ways reads loads link.session.conn start last a b hand rest
    pub held : link.is_over ≡ false → hand ≡ link.session.taken.items
    pub lost : List ℕ
    pub unsent : rest.unsent ≡ link.backlog ++ lost
    pub few : rest.untaken ≤ 1

  -- it goes on, unless there was an error
  abbrev pub Continued : {T : Type 0} → Result T RunError → Station H K D → Wire → Link
      → Station H K D → Wire → Type 0
  Continued result start a link now b =
      MatchResult result (λ x. IsServed start a link now b) (λ e. IsBroken start a link b)

  abbrev pub EndsAs : Result Next RunError → Station H K D → Wire → Link → Station H K D → Wire
      → Type 0
  EndsAs result start a link now b =
      Continued result start a link now b × (result ≡ Ok Over → IsFinished start a link now b)

  -- a connection that is served goes on, and may write
  abbrev pub Proceeds : Result Next RunError → Link → Link → Station H K D → Station H K D → Wire
      → Wire → Type 0
  Proceeds result s t p q b c =
      (start : Station H K D) → (a : Wire) → IsServed start a s p b → EndsAs result start a t q c

  -- a connection that was served takes a turn when others have had theirs
  abbrev pub TakesTurn : Result Next RunError → Link → Link → Station H K D → Station H K D → Wire
      → Wire → Type 0
  TakesTurn result s t p q b c =
      (start before : Station H K D) → (a : Wire) → IsServed start a s before b
      → Interlude ways reads loads s.session.conn before p → EndsAs result start a t q c

  -- it is served, and nothing is written
  abbrev pub Works : {R : Type 0} → (R → Option (List ℕ)) → Result (Unit {0}) RunError → Link
      → Link → Station H K D → Station H K D → Patient R → Patient R → Type 0
  Works remaining result s t p q was is =
      (start : Station H K D) → (a : Wire) → (contents : Option (List ℕ))
      → IsServed start a s p (record { remaining = remaining (device_of was); contents = contents })
      → Continued result start a t q
      (record { remaining = remaining (device_of is); contents = contents })

  -- and nothing is read
  abbrev pub Attends : Result (Unit {0}) RunError → Link → Link → Station H K D → Station H K D
      → Type 0
  Attends result s t p q =
      (start : Station H K D) → (a b : Wire) → IsServed start a s p b
      → Continued result start a t q b
