-- Records judged one after another.
use Rattle.std.proofs.Common.{◌≡◌, sym, ap, ◌∙◌, ℕ, suc, arith, drop-cons, ◌+◌, ◌<◌, List, ◌∷◌, length, drop, get_or, Some}
use Rattle.std.specs.Option.{option_map_or}
use Rattle.audit_model.specs.Situation.{Situation}
use Rattle.audit_model.specs.declared.config.Config.{Config}
use Rattle.audit_model.specs.declared.transcript.Record.{Record}
use Rattle.audit_situation.specs.Held.Known.{KeyPart}
use Rattle.moka_audit.specs.Records.Auditing.{Reached, audited_record, audited_from}

-- one record more
pub audited-next : (config : Config) (parts more : List KeyPart) (s t : Situation) (i : ℕ) (records : List Record) (entry : Record) → i < length records
    → entry ≡ get_or records i entry → audited_record config parts s entry ≡ Some (record { situation = t; parts = more })
    → audited_from config parts s i (drop i records) ≡ audited_from config more t (i + 1) (drop (i + 1) records)
audited-next config parts more s t i records entry lt is r =
    ap (audited_from config parts s i) (drop-cons records i entry lt) ∙ ap (λ x. audited_from config parts s i (x ∷ drop (suc i) records)) (sym is)
    ∙ ap (λ o. option_map_or (λ (r : Reached). audited_from config r.parts r.situation (suc i) (drop (suc i) records)) o (Some (suc i))) r
    ∙ ap (λ n. audited_from config more t n (drop n records)) (one i)
  where
    one : (n : ℕ) → suc n ≡ n + 1
    one n = omega arith
