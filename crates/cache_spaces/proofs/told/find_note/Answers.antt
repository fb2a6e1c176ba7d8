use Rattle.std.proofs.Common.{refl, ◌≡◌, ap, ◌∙◌, arith, Some}
use Rattle.std.specs.List.{slice_get}
use Rattle.std.proofs.lemmas.Option.{slice_get_read}
use Rattle.cache_spaces.proofs.Reading.{lists-there, next-record, no-record}
use Rattle.cache_spaces.specs.Cursors.{rest_in}
use Rattle.cache_spaces.proofs.told.find_note.Goals as goal

pub loop-entry-preserved : goal.loop-entry-preserved
loop-entry-preserved c =
    let k = c.loop-entry.entry in
    let at : slice_get c.args.records.now k ≡ Some c.index-records-entry.result = slice_get_read c.args.records.now _ k c.index-records-entry.result refl (omega arith) c.index-records-entry.is in
    let e = lists-there c.args.records.now k c.index-records-entry.result at in
    c.loop-entry.invariant ∙ next-record c.args.records.now k c.loop-entry.list c.loop-entry.note (ap (λ l. rest_in l c.loop-entry.list c.loop-entry.note) e ∙ (rw c.in_default.is at c.find_in.ensures))

pub returns-clause-first : goal.returns-clause-first
returns-clause-first c =
    c.loop-entry.invariant ∙ no-record c.args.records.now (record { entry = c.loop-entry.entry; list = c.loop-entry.list; note = c.loop-entry.note }) (omega arith)
