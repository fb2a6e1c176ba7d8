use Rattle.std.proofs.Common.{◌<◌, ◌∙◌, ap, length, subst, sym}
use Rattle.std.proofs.lemmas.Option.{slice_get_within}
use Rattle.cache_core.proofs.connections.Getting.{at-place}
use Rattle.cache_spaces.specs.Cursors.{Cursor, taken_through}
use Rattle.cache_spaces.specs.Recorded.{Recorded, cursor_in}
use Rattle.cache_spaces.proofs.Gaining.{opened-cursor}
use Rattle.cache_spaces.proofs.Reading.{was-there}
use Rattle.cache_spaces.proofs.journals.RecordedService.replies_taken.Goals as goal

pub replies_taken-requires : goal.replies_taken-requires
replies_taken-requires c =
    let core = c.self.inside.core in
    let read = c.self.inside.read.items in
    let n = c.args.conn.namespace in
    let here = c.index-cursors.result.now in
    let k = c.in_ok-closed.ensures.closing in
    let within = slice_get_within core n k.space k.at in
    let lt : n < length read = subst (λ m. n < m) (sym c.self.invariant.3) within in
    opened-cursor core read n c.args.conn.number here c.self.invariant.5 (record { space = k.space; at = k.at; fact = k.fact.0 }) (at-place read n here lt c.index-cursors.ensures)

pub returns-clause-count : goal.returns-clause-count
returns-clause-count c =
    let core = c.self.inside.core in
    let read = c.self.inside.read.items in
    let n = c.args.conn.namespace in
    let here = c.index-cursors.result.now in
    let k = c.in_ok-closed.ensures.closing in
    let within = slice_get_within core n k.space k.at in
    let lt : n < length read = subst (λ m. n < m) (sym c.self.invariant.3) within in
    c.replies_taken.ensures ∙ ap (λ (k : Cursor). taken_through k c.args.conn.number) (sym (was-there core read n here here lt c.index-cursors.ensures))
    ∙ ap (λ (s : Recorded). taken_through (cursor_in s n) c.args.conn.number) c.self.view_is
