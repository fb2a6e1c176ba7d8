use Rattle.std.proofs.Common.{◌≡◌, ◌∙◌, ◌<◌, ap, sym, subst, arith, length}
use Rattle.std.proofs.lemmas.Option.{slice_get_within}
use Rattle.std.specs.Prelude.{slice_get}
use Rattle.engine_reference.specs.Calls.{with_room, without_room}
use Rattle.front_reference.specs.Wholes.{DrawAll, DrawsInVain}
use Rattle.front_parts.specs.Wholes.Covering.{IsCoverCause, commits}
use Rattle.front_parts.specs.Wholes.Firsts.{changed_first}
use Rattle.front_parts.proofs.wholes.Drawn.{committed, draws-long, draws-unroomed, has_room, room_back, vain-unroomed}
use Rattle.front_parts.proofs.wholes.Firsts.{first-all, first-length, there, undone}
use Rattle.front_parts.proofs.wholes.covering.cover_all.Goals as goal

pub draw_all-requires-clause-room : goal.draw_all-requires-clause-room
draw_all-requires-clause-room g c =
    let long = ap length c.in_ok-reserve_all.ensures.ok ∙ first-length (λ k. with_room) (length c.args.parts.now.items) c.args.parts.now.items in
    let same = ap length c.as_slice.ensures.value in
    let count = c.len-count.ensures in
    let none = c.in_ok-ids.ensures.len in
    let exact = c.in_ok-ids.ensures.exact in
    omega arith

pub commit_all-requires-clause-ids : goal.commit_all-requires-clause-ids
commit_all-requires-clause-ids g c =
    let a = g.G.Rng.stream c.args.generator.now in
    let b = g.G.Rng.stream c.draw_all.new.generator in
    let n = length c.args.parts.now.items in
    let drawn = draws-unroomed n c.args.parts.now.items a b c.draw_all.new.ids.items (subst (λ l. DrawAll l a b c.draw_all.new.ids.items) (c.as_slice.ensures.value ∙ c.in_ok-reserve_all.ensures.ok) c.in-Ok.ensures.draws) in
    let ids = draws-long c.args.parts.now.items a b c.draw_all.new.ids.items drawn in
    let long = ap length c.in_ok-reserve_all.ensures.ok ∙ first-length (λ k. with_room) n c.args.parts.now.items in
    let same = ap length c.as_slice-in-Ok.ensures.value in
    omega arith

pub commit_all-requires-clause-predicates : goal.commit_all-requires-clause-predicates
commit_all-requires-clause-predicates g c =
    c.requires.predicates ∙ sym (ap length c.in_ok-reserve_all.ensures.ok ∙ first-length (λ k. with_room) (length c.args.parts.now.items) c.args.parts.now.items)

pub commit_all-requires-clause-room : goal.commit_all-requires-clause-room
commit_all-requires-clause-room g c = λ place s at.
    let n = length c.args.parts.now.items in
    let long = ap length c.in_ok-reserve_all.ensures.ok ∙ first-length (λ k. with_room) n c.args.parts.now.items in
    let low = slice_get_within c.reserve_all.new.parts.items place s at in
    first-all with_room (λ x. 0 < x.reserved) has_room n c.args.parts.now.items place s (omega arith) (ap (λ l. slice_get l place) (sym c.in_ok-reserve_all.ensures.ok) ∙ at)

pub index-requires : goal.index-requires
index-requires g c =
    let a = g.G.Rng.stream c.args.generator.now in
    let b = g.G.Rng.stream c.draw_all.new.generator in
    let n = length c.args.parts.now.items in
    let drawn = draws-unroomed n c.args.parts.now.items a b c.draw_all.new.ids.items (subst (λ l. DrawAll l a b c.draw_all.new.ids.items) (c.as_slice.ensures.value ∙ c.in_ok-reserve_all.ensures.ok) c.in-Ok.ensures.draws) in
    let ids = draws-long c.args.parts.now.items a b c.draw_all.new.ids.items drawn in
    let some = c.requires.some in
    omega arith

pub release_first-requires-clause-within : goal.release_first-requires-clause-within
release_first-requires-clause-within g c =
    let long = ap length c.in_ok-reserve_all.ensures.ok ∙ first-length (λ k. with_room) (length c.args.parts.now.items) c.args.parts.now.items in
    let count = c.len-count.ensures in
    omega arith

pub release_first-requires-clause-room : goal.release_first-requires-clause-room
release_first-requires-clause-room g c = λ place s less at.
    let n = length c.args.parts.now.items in
    let count = c.len-count.ensures in
    first-all with_room (λ x. 0 < x.reserved) has_room n c.args.parts.now.items place s (omega arith) (ap (λ l. slice_get l place) (sym c.in_ok-reserve_all.ensures.ok) ∙ at)

pub returns-in-Ok-clause-covers : goal.returns-in-Ok-clause-covers
returns-in-Ok-clause-covers g c = λ p h.
    let a = g.G.Rng.stream c.args.generator.now in
    let b = g.G.Rng.stream c.draw_all.new.generator in
    let old = c.args.parts.now.items in
    let roomed = c.reserve_all.new.parts.items in
    let ok = c.in_ok-reserve_all.ensures.ok in
    let ids = c.draw_all.new.ids.items in
    let drawn : DrawAll old a b ids = draws-unroomed (length old) old a b ids (subst (λ l. DrawAll l a b ids) (c.as_slice.ensures.value ∙ ok) c.in-Ok.ensures.draws) in
    let ids_long = draws-long old a b ids drawn in
    let long = ap length ok ∙ first-length (λ k. with_room) (length old) old in
    let some = c.requires.some in
    record {
      ids = ids;
      draws = drawn;
      registers = c.commit_all.ensures p h
          ∙ ap (λ i. changed_first (commits p c.args.step i) (length roomed) roomed) c.as_slice-in-Ok.ensures.value
          ∙ ap (λ n. changed_first (commits p c.args.step ids) n roomed) long
          ∙ ap (λ l. changed_first (commits p c.args.step ids) (length old) l) ok
          ∙ committed p c.args.step ids old ids_long;
      first_is = there ids 0 c.index.result.now (omega arith) c.index.ensures;
    }

pub returns-in-Err-clause-err : goal.returns-in-Err-clause-err
returns-in-Err-clause-err g c =
    let old = c.args.parts.now.items in
    let count = c.len-count.ensures in
    let same : c.len-count.result ≡ length old = omega arith in
    c.release_first.ensures
    ∙ ap (λ n. changed_first (λ k. without_room) n c.reserve_all.new.parts.items) same
    ∙ ap (λ l. changed_first (λ k. without_room) (length old) l) c.in_ok-reserve_all.ensures.ok
    ∙ undone with_room without_room room_back (length old) old

pub returns-in-Err-clause-cause : goal.returns-in-Err-clause-cause
returns-in-Err-clause-cause g c =
    let a = g.G.Rng.stream c.args.generator.now in
    let b = g.G.Rng.stream c.draw_all.new.generator in
    let old = c.args.parts.now.items in
    subst (λ e. IsCoverCause old a b e) (sym c.in-Err.ensures.err)
    (vain-unroomed (length old) old a b (subst (λ l. DrawsInVain l a b) (c.as_slice.ensures.value ∙ c.in_ok-reserve_all.ensures.ok) c.in-Err.ensures.in_use))

pub returns-in-Err-clause-undrawn : goal.returns-in-Err-clause-undrawn
returns-in-Err-clause-undrawn g c = λ other. absurd (other c.in-Err.ensures.err)
