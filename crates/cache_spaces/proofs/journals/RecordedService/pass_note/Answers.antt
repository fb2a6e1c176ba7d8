use Rattle.std.proofs.Common.{◌∙◌, Vec, Global, ℕ, ap, length, slice_set, subst, sym}
use Rattle.std.specs.List.{slice_get}
use Rattle.std.proofs.lemmas.List.{length-set}
use Rattle.cache_core.proofs.connections.Getting.{at-place}
use Rattle.cache_spaces.specs.Cursors.{Cursor, notes_from, records_at}
use Rattle.cache_spaces.specs.Journals.{journals_of}
use Rattle.cache_spaces.specs.Recorded.{Recorded, TakesNote, cursor_in, recorded_of, untold_in}
use Rattle.cache_spaces.proofs.Gaining.{have-set}
use Rattle.cache_spaces.proofs.Reading.{first-none, notes-read, takes-note, untold-is, was-there}
use Rattle.cache_spaces.proofs.journals.RecordedService.pass_note.Goals as goal

pub returns-clause-told : goal.returns-clause-told
returns-clause-told c =
    let item = c.in-Some.ensures.item in
    c.pass_note.ensures.was
    ∙ sym (ap (λ (x : Cursor). x.notes) (was-there c.self.inside.core c.self.inside.read.items c.args.namespace c.in-Some.cursors.now c.pass_note.new.self item.3.0 item.1))
    ∙ ap (λ (s : Recorded). (cursor_in s c.args.namespace).notes) c.self.view_is

pub returns-clause-passed : goal.returns-clause-passed
returns-clause-passed c =
    let core = c.self.inside.core in
    let read = c.self.inside.read.items in
    let n = c.args.namespace in
    let here = c.in-Some.cursors.now in
    let is = c.pass_note.new.self in
    let item = c.in-Some.ensures.item in
    let e = c.pass_note.ensures in
    let now = recorded_of core (slice_set read n is) in
    let notes = notes_from (records_at (journals_of core) n) here.notes in
    let taken = takes-note core read n here is item.3.0 item.1 (slice_get notes 0) (rw c.records.ensures at e.note) (first-none notes) (rw c.records.ensures at e.place) e.replies in
    let untold = untold-is core read n here is item.3.0 item.1 in
    subst (λ (s : Recorded). TakesNote s now n (slice_get (untold_in s n) 0)) c.self.view_is (subst (λ l. TakesNote (recorded_of core read) now n (slice_get l 0)) (sym untold) taken)

pub invariant_of-self-2 : goal.invariant_of-self-2
invariant_of-self-2 c =
    let core = c.self.inside.core in
    let read = c.self.inside.read.items in
    let n = c.args.namespace in
    let here = c.in-Some.cursors.now in
    let is = c.pass_note.new.self in
    let item = c.in-Some.ensures.item in
    let e = c.pass_note.ensures in (
      c.self.invariant.0,
      c.self.invariant.1,
      c.self.invariant.2,
      length-set read n is ∙ c.self.invariant.3,
      notes-read core read n here is item.3.0 item.1 (rw c.records.ensures at e.place) e.replies c.self.invariant.4,
      have-set core read n here is (at-place read n here item.3.0 item.1) (ap (λ (v : Vec ℕ Global). length v.items) e.replies) c.self.invariant.5,
    )
