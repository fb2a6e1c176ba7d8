use Rattle.std.proofs.Common.{◌+◌, ◌<◌, refl, ap, sym, subst, List, length, arith}
use Rattle.engine_cells.specs.declared.keys.Slot.{Slot}
use Rattle.engine_cells.proofs.keys.Tables.{read}
use Rattle.engine_cells.proofs.keys.Putting.{HasFirst, first-end, read-absent, read-no, read-yes}
use Rattle.engine_cells.proofs.keys.put_all.Goals.{then-slot-lt-NOWHERE, else-slot-lt-NOWHERE}
use Rattle.engine_cells.proofs.keys.put_all.Goals as goal

pub put_in-requires-clause-absent : goal.put_in-requires-clause-absent
put_in-requires-clause-absent c =
    let others = c.args.others.now.items in
    let within : c.loop-k.k < length others = omega (arith, c.len-k-end.ensures, c.args.others.now.ok.0) in
    let slot = read others c.loop-k.k (length others) c.index-slot.result.now refl within c.index-slot.ensures in
    read-absent others c.loop-k.slots.items (length c.args.slots.now.items) c.loop-k.k c.requires.found c.loop-k.invariant within c.index-slot.result.now slot c.if-slot-lt-NOWHERE.true

pub loop-k-preserved : goal.loop-k-preserved
loop-k-preserved c =
    let others = c.args.others.now.items in
    let many = length c.args.slots.now.items in
    let within : c.loop-k.k < length others = omega (arith, c.len-k-end.ensures, c.args.others.now.ok.0) in
    let slot = read others c.loop-k.k (length others) c.index-slot.result.now refl within c.index-slot.ensures in
    elim c.if-slot-lt-NOWHERE.branch [
      | then-slot-lt-NOWHERE w ↦
          subst (λ (v : List Slot). HasFirst others v many (c.loop-k.k + 1)) (sym (ap (λ v. v.items) w.slots-is))
          (read-yes others c.loop-k.slots.items many c.loop-k.k c.requires.found c.loop-k.invariant within c.index-slot.result.now slot w.put_in.new.slots.items w.if-slot-lt-NOWHERE.true w.put_in.ensures.found w.put_in.ensures.added)
      | else-slot-lt-NOWHERE w ↦
          subst (λ (v : List Slot). HasFirst others v many (c.loop-k.k + 1)) (sym (ap (λ v. v.items) w.slots-is))
          (read-no others c.loop-k.slots.items many c.loop-k.k c.requires.found c.loop-k.invariant within c.index-slot.result.now slot w.if-slot-lt-NOWHERE.false)
    ]

pub returns-clause-same : goal.returns-clause-same
returns-clause-same c = (first-end c.args.others.now.items c.loop-k.slots.items (length c.args.slots.now.items) c.loop-k.k (omega (arith, c.len-k-end.ensures, c.args.others.now.ok.0)) c.loop-k.invariant).0
