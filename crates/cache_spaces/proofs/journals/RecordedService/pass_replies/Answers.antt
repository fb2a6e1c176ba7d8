use Rattle.std.proofs.Common.{◌<◌, ◌∙◌, ap, length, slice_set, subst, sym}
use Rattle.std.proofs.lemmas.List.{length-set}
use Rattle.std.proofs.lemmas.Option.{slice_get_within}
use Rattle.cache_core.proofs.connections.Getting.{at-place}
use Rattle.cache_spaces.specs.Calls.{InSpace, IsOpened}
use Rattle.cache_spaces.specs.Recorded.{Recorded, TakesReplies, recorded_of, untaken_in}
use Rattle.cache_spaces.proofs.Gaining.{have-set, opened-cursor}
use Rattle.cache_spaces.proofs.Reading.{replies-read, takes-replies}
use Rattle.cache_spaces.proofs.journals.RecordedService.pass_replies.Goals as goal

pub pass_replies-requires : goal.pass_replies-requires
pass_replies-requires c =
    let core = c.self.inside.core in
    let read = c.self.inside.read.items in
    let n = c.args.conn.namespace in
    let known = subst (λ (s : Recorded). InSpace s.spaces n (λ space. IsOpened space c.args.conn.number)) (sym c.self.view_is) c.requires in
    let within = slice_get_within core n known.space known.at in
    let lt : n < length read = subst (λ m. n < m) (sym c.self.invariant.3) within in
    opened-cursor core read n c.args.conn.number c.index_mut.result.now c.self.invariant.5 known (at-place read n c.index_mut.result.now lt c.index_mut.ensures.value)

pub returns : goal.returns
returns c =
    let core = c.self.inside.core in
    let read = c.self.inside.read.items in
    let n = c.args.conn.namespace in
    let known = subst (λ (s : Recorded). InSpace s.spaces n (λ space. IsOpened space c.args.conn.number)) (sym c.self.view_is) c.requires in
    let within = slice_get_within core n known.space known.at in
    let lt : n < length read = subst (λ m. n < m) (sym c.self.invariant.3) within in
    let e = c.pass_replies.ensures in
    let now = recorded_of core (slice_set read n c.pass_replies.new.self) in
    subst (λ (s : Recorded). TakesReplies s now c.args.conn (untaken_in s c.args.conn)) c.self.view_is
    (takes-replies core read n c.index_mut.result.now c.pass_replies.new.self lt c.index_mut.ensures.value c.args.conn.number known (e.cursor ∙ ap length c.records.ensures) e.others e.notes)

pub invariant_of-self : goal.invariant_of-self
invariant_of-self c =
    let core = c.self.inside.core in
    let read = c.self.inside.read.items in
    let n = c.args.conn.namespace in
    let known = subst (λ (s : Recorded). InSpace s.spaces n (λ space. IsOpened space c.args.conn.number)) (sym c.self.view_is) c.requires in
    let within = slice_get_within core n known.space known.at in
    let lt : n < length read = subst (λ m. n < m) (sym c.self.invariant.3) within in
    let here = c.index_mut.result.now in
    let is = c.pass_replies.new.self in
    let e = c.pass_replies.ensures in (
      c.self.invariant.0,
      c.self.invariant.1,
      c.self.invariant.2,
      length-set read n is ∙ c.self.invariant.3,
      replies-read core read n here is lt c.index_mut.ensures.value c.args.conn.number (e.cursor ∙ ap length c.records.ensures) e.others e.notes c.self.invariant.4,
      have-set core read n here is (at-place read n here lt c.index_mut.ensures.value) e.len c.self.invariant.5,
    )
