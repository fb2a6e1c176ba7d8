use Rattle.std.proofs.Common.{◌<◌, ◌++◌, ◌∷◌, [], ap, sym, ◌∙◌, arith, length}
use Rattle.std.specs.VecDeque.{deque_capacity, deque_len}
use Rattle.cache_front.specs.State.{Lent}
use Rattle.cache_front.specs.Draining.{waiting_at}
use Rattle.cache_front.proofs.data.Drains.{all_fit, all_taken, fewer, one_more, pushed_if}
use Rattle.cache_front.proofs.data.draining.drain_at.Goals as goal

pub unwrap-requires : goal.unwrap-requires
unwrap-requires g c =
    let a = c.args in
    let l = c.loop-notice in
    let fits = all_fit a.place a.front.now a.notes.now.items a.count.now l.front l.notes.items l.count (deque_capacity a.notes.now) l.invariant.drains c.requires.room in
    let one = fewer a.place a.front.now a.notes.now.items a.count.now l.front c.in-Some.notice (sym c.in-Some.ensures.notice) in
    let room = l.invariant.room in
    let len = l.notes.ok.0 in
    c.push_back.ensures.succeeds (omega (arith, fits, one, room, len))

pub overflow_sub-count : goal.overflow_sub-count
overflow_sub-count g c =
    let a = c.args in
    let l = c.loop-notice in
    let one = fewer a.place a.front.now a.notes.now.items a.count.now l.front c.in-Some.notice (sym c.in-Some.ensures.notice) in
    let counted = l.invariant.drains.counted in
    let held = c.requires.held in
    omega (arith, one, counted, held)

pub loop-notice-smaller : goal.loop-notice-smaller
loop-notice-smaller g c =
    let a = c.args in
    let l = c.loop-notice in
    let one = fewer a.place a.front.now a.notes.now.items a.count.now l.front c.in-Some.notice (sym c.in-Some.ensures.notice) in
    let is = ap (λ (f : Lent g.row.S.Denot). length (waiting_at a.place f.parts)) c.in-Some.ensures.taken in
    omega (arith, one, is)

pub loop-notice-preserved : goal.loop-notice-preserved
loop-notice-preserved g c =
    let a = c.args in
    let l = c.loop-notice in
    let fits = all_fit a.place a.front.now a.notes.now.items a.count.now l.front l.notes.items l.count (deque_capacity a.notes.now) l.invariant.drains c.requires.room in
    let one = fewer a.place a.front.now a.notes.now.items a.count.now l.front c.in-Some.notice (sym c.in-Some.ensures.notice) in
    let room = l.invariant.room in
    let len = l.notes.ok.0 in
    let counted = l.invariant.drains.counted in
    let held = c.requires.held in
    let has_room : deque_len l.notes < deque_capacity l.notes = omega (arith, fits, one, room, len) in
    record {
      drains = one_more a.place a.front.now a.notes.now.items a.count.now l.front c.next_notice_of_part.new.self l.notes.items c.push_back.new.self.items l.count _ c.in-Some.notice l.invariant.drains (sym c.in-Some.ensures.notice) c.in-Some.ensures.taken
          (pushed_if c.push_back.result c.push_back.new.self.items _ _ (c.push_back.ensures.succeeds has_room) c.push_back.ensures.items ∙ ap (λ n. l.notes.items ++ n ∷ []) c.note_of.ensures) (omega (arith, one, counted, held));
      room = c.push_back.ensures.in_place has_room ∙ room;
    }

pub returns : goal.returns
returns g c =
    let a = c.args in
    let l = c.loop-notice in
    let t = all_taken a.place a.front.now a.notes.now.items a.count.now l.front c.next_notice_of_part.new.self l.notes.items l.count l.invariant.drains (sym c.next_notice_of_part.ensures.notice ∙ c.in_default.is) c.next_notice_of_part.ensures.taken in
    record { drained = t.0; queued = t.1; room = l.invariant.room; number = t.2 }
