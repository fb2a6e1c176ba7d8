use Rattle.policy_base.specs.declared.name.CacheRegion.{CacheRegion}
use Rattle.policy_base.specs.declared.name.CacheRegion.TheVariants.{Window, MainProbation, MainProtected, Other}
use Rattle.moka_policy.specs.Deques.Queues.{Entries, queue_of, IsNewQueue}
use Rattle.moka_policy.proofs.deques.deques.Deques.default.Goals as goal

all_new : (a b c d : Entries) → IsNewQueue Window a → IsNewQueue MainProbation b → IsNewQueue MainProtected c → IsNewQueue Other d → (region : CacheRegion) → IsNewQueue region (queue_of region (record { window = a; probation = b; protected = c; write_order = d }))
all_new a b c d ha hb hc hd Window = ha
all_new a b c d ha hb hc hd MainProbation = hb
all_new a b c d ha hb hc hd MainProtected = hc
all_new a b c d ha hb hc hd Other = hd

pub returns : goal.returns
returns g c =
    all_new c.new.result c.new-2.result c.new-3.result c.new-4.result
    (record { nodes = c.new.ensures.nodes; region_is = c.new.ensures.region; cursor = c.new.ensures.cursor; next_serial = c.new.ensures.next_serial })
    (record { nodes = c.new-2.ensures.nodes; region_is = c.new-2.ensures.region; cursor = c.new-2.ensures.cursor; next_serial = c.new-2.ensures.next_serial })
    (record { nodes = c.new-3.ensures.nodes; region_is = c.new-3.ensures.region; cursor = c.new-3.ensures.cursor; next_serial = c.new-3.ensures.next_serial })
    (record { nodes = c.new-4.ensures.nodes; region_is = c.new-4.ensures.region; cursor = c.new-4.ensures.cursor; next_serial = c.new-4.ensures.next_serial })
