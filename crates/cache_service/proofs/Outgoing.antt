-- What a connection is owed, given by a seat's host.
use Rattle.std.proofs.Common.{◌≡◌, ℕ, Bool, List, Some, None, refl, sym, subst, Option, IfSome, Vec}
use Rattle.std.specs.List.{slice_index_or}
use Rattle.std.specs.Option.{option_map}
use Rattle.std.specs.declared.alloc.Global.{Global}
use Rattle.std.proofs.lemmas.List.Elements.{Contains-get_or}
use Rattle.audit_model.specs.declared.config.Config.{Config}
use Rattle.audit_model.specs.declared.input.Conn.{Conn}
use Rattle.audit_model.specs.declared.input.LoadId.{LoadId}
use Rattle.cache_service.specs.Served.{AreOut}
use Rattle.cache_service.specs.Sitting.{GivesDue, IsReply}
use Rattle.cache_shared.specs.Looked.{Owes, WereOut, WereUntaken}
use Rattle.cache_run.specs.declared.driver.host.Given.{Given}
use Rattle.cache_shared.proofs.Moving.{owed-out, owed-unwanted}
use Rattle.cache_service.proofs.Seated.{suits-shared}
use Rattle.cache_spaces.specs.Spaces.{Shown}

module _ {C : Type 0} (configs : List Config) (spaces : C → List Shown) where
  -- each of the loads that one taking gave
  pub are-out : (n : ℕ) (loads : Option (Vec (LoadId × List ℕ) Global)) → IfSome loads (λ loads. WereOut configs spaces n loads.items) → IfSome (option_map (λ loads. loads.items) loads) (AreOut configs spaces n)
  are-out n None out = out
  are-out n (Some loads) out = λ k d lt. ∣ record { loads = loads.items; out = out; load = (slice_index_or loads.items k d).0; among = Contains-get_or loads.items k d lt; same = refl } ∣₁

  -- the text that one taking gave
  pub is-reply : (untaken : C → Conn → List ℕ) (conn : Conn) (text : Option (Vec ℕ Global)) → IfSome text (λ text. WereUntaken configs spaces untaken conn text.items) → IfSome (option_map (λ text. text.items) text) (IsReply configs spaces untaken conn)
  is-reply untaken conn None taken = taken
  is-reply untaken conn (Some text) taken = ∣ taken ∣₁

-- what a connection is owed
pub gives-due : {C : Type 0} (configs : List Config) (spaces : C → List Shown) (untaken : C → Conn → List ℕ) (conn : Conn) (wants held : Bool) (due given : Given) → given ≡ record { held = held; owed = due.owed } → Owes configs spaces untaken conn wants due.owed → GivesDue configs spaces untaken conn wants given
gives-due configs spaces untaken conn wants held due given is owes = subst (GivesDue configs spaces untaken conn wants) (sym is) (record {
  text = is-reply configs spaces untaken conn due.owed.replies owes.replies;
  out = are-out configs spaces conn.namespace due.owed.loads (owed-out configs spaces conn wants due.owed owes.told);
  suits = suits-shared (owed-unwanted configs spaces conn wants due.owed _ owes.told.fact);
})
