-- What is done by lines for the connections of a loop.
use Rattle.std.specs.Prelude.{◌≡◌, ◌⊎◌, ℕ, List, Option, Result, MatchOption}
use Rattle.audit_model.specs.declared.event.Outcome.{Outcome}
use Rattle.cache_run.specs.declared.devices.errors.RunError.{RunError}
use Rattle.cache_run.specs.declared.driver.host.Host.{Ghosts as Ways}
use Rattle.cache_run.specs.Driver.Interludes.{InterludeBut, Station}
use Rattle.cache_link.specs.Dialogues.{Wire}
use Rattle.cache_link.specs.Served.{HasJustOpened, TakesTurn}
use Rattle.cache_link.specs.declared.link.Link.{Link}
use Rattle.cache_link.specs.declared.link.Next.{Next}

-- a link was opened, whose connection the host opened and knows; or nothing came
abbrev pub OpensLink : {X H : Type 0} → Ways X H → ℕ → Option Link → H → H → Type 0
OpensLink ways namespace opened p q =
    MatchOption opened ((q ≡ p) ⊎ ways.rests p q)
    (λ link. HasJustOpened link × ways.opens namespace link.session.conn p q
    × ways.knows link.session.conn q)

-- a link took a turn, and whatever was done at the host was done for its connection
pub record TurnsLink {X H K D : Type 0} (ways : Ways X H) (reads : K → ℕ → K → Type 0)
    (loads : D → List ℕ → Option Outcome → D → Type 0) (result : Result Next RunError) (s t : Link)
    (p q : Station H K D) (b c : Wire) : Type 0 where
  pub conn : t.session.conn ≡ s.session.conn
  pub goes : TakesTurn ways reads loads result s t p q b c
  pub among : InterludeBut ways reads loads s.session.conn p q
