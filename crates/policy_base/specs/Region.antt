-- Numbers and names of regions.
use Rattle.std.specs.Prelude.{ℕ, List, codes, Bool, ◌&&◌, eqb}
use Rattle.policy_base.specs.declared.name.NodeId.{NodeId}
use Rattle.policy_base.specs.declared.name.CacheRegion.{CacheRegion}
use Rattle.policy_base.specs.declared.name.CacheRegion.TheVariants.{Window, MainProbation, MainProtected, Other}

-- the number of a region
abbrev pub region_code : CacheRegion → ℕ
region_code Window = 0
region_code MainProbation = 1
region_code MainProtected = 2
region_code Other = 3

-- the name of a region
abbrev pub name_of : CacheRegion → List ℕ
name_of Window = codes "window"
name_of MainProbation = codes "main probation"
name_of MainProtected = codes "main protected"
name_of Other = codes "other"

-- the two name the same node
abbrev pub same_id : NodeId → NodeId → Bool
same_id a b =
    eqb a.serial b.serial && (eqb a.slot b.slot && eqb (region_code a.queue) (region_code b.queue))
