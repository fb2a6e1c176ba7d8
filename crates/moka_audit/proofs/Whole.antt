-- A transcript of which a front has a fault has one.
use Rattle.std.proofs.Common.{sym, subst, ℕ, List, ◌++◌, take, drop, [], IsTrue}
use Rattle.std.proofs.lemmas.List.{take-append-drop}
use Rattle.std.specs.List.{list_all}
use Rattle.audit_model.specs.Belongs.{is_admitted}
use Rattle.audit_model.specs.Places.{placed_records_after, history_after}
use Rattle.audit_model.specs.declared.config.Config.{Config}
use Rattle.audit_model.specs.declared.event.Instant.{Instant}
use Rattle.audit_model.specs.declared.transcript.Record.{Record}
use Rattle.audit_model.specs.declared.transcript.Transcript.{Transcript}
use Rattle.audit_laws.specs.Breaking.{IsFaultless, BreaksFirstAt}
use Rattle.audit_laws.proofs.Fronts.{placed_records_after-append, front_passes, front_obeys}

front-faultless : (config : Config) (made : Instant) (front rest : List Record) → IsFaultless config (record { made = made; records = front ++ rest }) → IsFaultless config (record { made = made; records = front })
front-faultless config made front rest f = (
  front_obeys config made front rest f.0,
  front_passes (is_admitted config) (placed_records_after config made.nanos [] front) (placed_records_after config made.nanos (history_after config made.nanos [] front) rest)
      (subst (λ ps. IsTrue (list_all (is_admitted config) ps)) (placed_records_after-append config made.nanos [] front rest) f.1),
)

pub broken-whole : (config : Config) (transcript : Transcript) (n : ℕ) → BreaksFirstAt config transcript n → (¬ IsFaultless config transcript) × BreaksFirstAt config transcript n
broken-whole config transcript n broken = (
  λ f. broken.faulty (front-faultless config transcript.made (take n transcript.records) (drop n transcript.records)
      (subst (λ rs. IsFaultless config (record { made = transcript.made; records = rs })) (sym (take-append-drop n transcript.records)) f)),
  broken,
)
