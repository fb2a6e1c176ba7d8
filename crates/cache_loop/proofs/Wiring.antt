-- A turn of a loop's connection, by its reader and its writer.
use Rattle.std.proofs.Common.{◌≡◌, ℕ, List, Option, Result, ap, subst, ◌∙◌}
use Rattle.audit_model.specs.declared.event.Outcome.{Outcome}
use Rattle.cache_run.specs.Driver.Interludes.{InterludeBut, Station}
use Rattle.cache_run.specs.declared.devices.errors.RunError.{RunError}
use Rattle.cache_run.specs.declared.driver.host.Host.{Ghosts as Ways}
use Rattle.cache_link.specs.Dialogues.{Wire}
use Rattle.cache_link.specs.Served.{TakesTurn}
use Rattle.cache_link.specs.declared.link.Link.{Link}
use Rattle.cache_link.specs.declared.link.Next.{Next}
use Rattle.cache_loop.specs.Lines.{TurnsLink}

pub wire-is : (b : Wire) (remaining contents : Option (List ℕ)) → b.remaining ≡ remaining → b.contents ≡ contents → b ≡ record { remaining = remaining; contents = contents }
wire-is b remaining contents reads writes =
    ap (λ (x : Option (List ℕ)). let w : Wire = record { remaining = x; contents = b.contents } in w) reads
    ∙ ap (λ (x : Option (List ℕ)). let w : Wire = record { remaining = remaining; contents = x } in w) writes

module _ {X H K D : Type 0} (ways : Ways X H) (reads : K → ℕ → K → Type 0) (loads : D → List ℕ → Option Outcome → D → Type 0) where
  -- what a link's turn is, where its reader and its writer are known
  pub turn-over : (result : Result Next RunError) (s t : Link) (p q : Station H K D) (b after : Wire) (remaining contents : Option (List ℕ)) → t.session.conn ≡ s.session.conn → TakesTurn ways reads loads result s t p q b after → InterludeBut ways reads loads s.session.conn p q
      → b.remaining ≡ remaining → b.contents ≡ contents → TurnsLink ways reads loads result s t p q (record { remaining = remaining; contents = contents }) after
  turn-over result s t p q b after remaining contents conn goes among reader writer = record {
    conn = conn;
    goes = subst (λ (w : Wire). TakesTurn ways reads loads result s t p q w after) (wire-is b remaining contents reader writer) goes;
    among = among;
  }
