-- A trail owns nothing, so threads may share it.
use denote.RattleType.{RattleType}
use denote.Param.Send.{IsSend, IsSync, whole-keyless}
use Rattle.engine_cells.specs.contracts.trail.Trail.{the_row}
use Rattle.engine_cells.proofs.trail.Trail.TheSendSync.Send.{send}

pub sync : (A B : RattleType) → IsSend A → IsSend B → IsSync (the_row A B)
sync A B a b = record { shared = λ d at o κ q. whole-keyless _ _ (λ x vs. (send A B a b).owned x vs) q d at o }
