use Rattle.std.proofs.Common.{ap, ◌∙◌}
use Rattle.memcache_service.specs.Packing.{unpacked}
use Rattle.memcache_service.proofs.item.StoredItemClone.clone.Goals as goal

pub returns : goal.returns
returns c = record { cases = ap unpacked (c.in_ok-packed.ensures.items ∙ c.as_slice.ensures.value) ∙ c.self.view_is }
