use Rattle.std.proofs.Common.{ap, ◌∙◌}
use Rattle.memcache_model.specs.Items.{Item}
use Rattle.memcache_service.proofs.Packed.{unique-back-in, unique-is}
use Rattle.memcache_service.proofs.item.StoredItem.with_unique.Goals as goal

pub invariant_of-item : goal.invariant_of-item
invariant_of-item c =
    rw (c.put_last_word.ensures, c.last_word-marks.ensures, c.as_slice.ensures.value)
    (unique-is c.item.inside.packed.items c.args.unique c.item.invariant c.requires)

pub returns : goal.returns
returns c =
    rw (c.put_last_word.ensures, c.last_word-marks.ensures, c.as_slice.ensures.value)
    (unique-back-in c.item.inside.packed.items c.args.unique c.requires ∙ ap (λ (item : Item). record item { unique = c.args.unique }) c.item.view_is)
