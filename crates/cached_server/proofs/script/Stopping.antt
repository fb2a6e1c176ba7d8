-- Why a script stops.
use Rattle.std.proofs.Common.{◌≡◌, ◌⊎◌, ◌∙◌, ◌≤◌, ℕ, List, Option, sym, subst, inl, inr}
use Rattle.std.specs.Prelude.{Result, Ok, Err, IfErr, IsErrOf}
use Rattle.std.specs.Result.{result_and}
use Rattle.audit_model.specs.declared.transcript.Note.{Note}
use Rattle.cache_run.proofs.devices.Sending.{failed_before}
use Rattle.cache_run.specs.Devices.Failures.{HasFailed}
use Rattle.cache_run.specs.declared.devices.errors.RunError.{RunError}
use Rattle.cache_run.specs.declared.devices.errors.RunError.TheVariants as run
use Rattle.cached_server.proofs.script.Ending.{ends-alone}
use Rattle.cached_server.specs.Script.Faults.{EndsByFault, HasCause, WritesPrefix, fault_after, fault_message}
use Rattle.cached_server.specs.Script.Notes.{StopsTelling}
use Rattle.cached_server.specs.declared.script.faults.Fault.{Fault}

-- the error of the first of two that failed
either-err : (r s both : Result (Unit {0}) RunError) (e : RunError) → both ≡ result_and r s → both ≡ Err e → (r ≡ Err e) ⊎ (s ≡ Err e)
either-err (Err d) s both e is err = inl (sym is ∙ err)
either-err (Ok x) (Ok y) both e is err = absurd (let no : Ok y ≡ Err e = sym is ∙ err in cc)
either-err (Ok x) (Err d) both e is err = inr (sym is ∙ err)

module _ (read write : Type 0) (before after last : ℕ) where
  -- what a script's fault is caused by: notes are told between the first two counts of failures
  abbrev Caused : RunError → Type 0
  Caused e = HasCause read (write ⊎ HasFailed before last) (Unit {0}) ⊥ (fault_after e)

  ran-so : (r : Result (Unit {0}) RunError) (e : RunError) → r ≡ Err e → (IsErrOf r run.Read → read) → (IsErrOf r run.Write → write) → Caused e
  ran-so r run.Read is reads writes = reads is
  ran-so r run.Write is reads writes = inl (writes is)
  ran-so r run.OutOfMemory is reads writes = tt
  ran-so r run.UsedUp is reads writes = tt
  ran-so r run.Moment is reads writes = tt

  told-so : (notes : List Note) (e : RunError) → after ≤ last → StopsTelling before after notes e → Caused e
  told-so notes e later (inl failed) = subst Caused (sym failed.0) (inr (failed_before before after last failed.1 later))
  told-so notes e later (inr many) = subst Caused (sym many.0) tt

  pub script-stopped : (r s both : Result (Unit {0}) RunError) (notes : List Note) (e : RunError) (f : Fault) (behind told : Option (List ℕ)) → both ≡ result_and r s → both ≡ Err e
      → (IsErrOf r run.Read → read) → (IsErrOf r run.Write → write) → IfErr s (StopsTelling before after notes) → after ≤ last → f ≡ fault_after e → WritesPrefix (fault_message f) behind told after last
      → EndsByFault read (write ⊎ HasFailed before last) (Unit {0}) ⊥ told last
  script-stopped r s both notes e f behind told is err reads writes tells later same text =
      let cause : Caused e = elim (either-err r s both e is err) [
        | inl ran ↦ ran-so r e ran reads writes
        | inr stopped ↦ told-so notes e later (subst (λ s. IfErr s (StopsTelling before after notes)) stopped tells)
      ] in
      ends-alone _ _ _ _ f behind told after last (subst (HasCause read (write ⊎ HasFailed before last) (Unit {0}) ⊥) (sym same) cause) text
