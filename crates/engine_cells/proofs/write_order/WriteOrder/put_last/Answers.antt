use Rattle.std.proofs.Common.{◌≡◌, ap, sym, ◌∙◌, ◌+◌, cond, true, false, [], length, arith}
use Rattle.policy_queue.specs.Indices.{has_index}
use Rattle.engine_cells.specs.WriteList.{after_moves, unkept}
use Rattle.engine_cells.proofs.WriteLists.{moves-more, length-last, last-unkept}
use Rattle.engine_cells.proofs.write_order.WriteOrder.put_last.Goals as goal

pub invariant_of-self-then-not-is_there : goal.invariant_of-self-then-not-is_there
invariant_of-self-then-not-is_there c =
    let places = after_moves [] c.self.inside.moves.items in
    let was : unkept places ≡ c.args.self.now.places = sym (ap (λ b. cond b c.self.inside.queue (unkept places)) c.if-self.false) ∙ ap (λ w. w.places) c.self.view_is in
    let is = ap (λ ms. after_moves [] ms) c.and-self-inside.ensures ∙ moves-more [] c.self.inside.moves.items (c.args.place, true) in
    let off : has_index c.args.place places ≡ false = ap (λ q. has_index c.args.place q.indices) was ∙ sym c.requires.there ∙ c.if-not-is_there.true in
    let room = c.requires.room (sym c.requires.there ∙ c.if-not-is_there.true) in
    let some = room.0 in
    let free = ap (λ q. q.room) was in
    let long = ap length is ∙ length-last c.args.place places ∙ ap (λ b. length places + cond b 0 1) off in
    let counted = c.self.invariant.0 in
    (omega (arith, long, counted), omega (arith, some, free, counted))

pub invariant_of-self-else-not-is_there : goal.invariant_of-self-else-not-is_there
invariant_of-self-else-not-is_there c =
    let places = after_moves [] c.self.inside.moves.items in
    let was : unkept places ≡ c.args.self.now.places = sym (ap (λ b. cond b c.self.inside.queue (unkept places)) c.if-self.false) ∙ ap (λ w. w.places) c.self.view_is in
    let is = ap (λ ms. after_moves [] ms) c.and-self-inside.ensures ∙ moves-more [] c.self.inside.moves.items (c.args.place, true) in
    let on : has_index c.args.place places ≡ true = ap (λ q. has_index c.args.place q.indices) was ∙ sym c.requires.there ∙ c.if-not-is_there.false in
    let long = ap length is ∙ length-last c.args.place places ∙ ap (λ b. length places + cond b 0 1) on in
    (omega (arith, long, c.self.invariant.0), c.self.invariant.1)

pub returns-then-not-is_there-clause-last : goal.returns-then-not-is_there-clause-last
returns-then-not-is_there-clause-last c =
    let places = after_moves [] c.self.inside.moves.items in
    let was : unkept places ≡ c.args.self.now.places = sym (ap (λ b. cond b c.self.inside.queue (unkept places)) c.if-self.false) ∙ ap (λ w. w.places) c.self.view_is in
    let is = ap (λ ms. after_moves [] ms) c.and-self-inside.ensures ∙ moves-more [] c.self.inside.moves.items (c.args.place, true) in
    let free = ap (λ q. q.room) was in
    rw (← was, c.if-self.false) (last-unkept c.args.place places _ is (λ off. let room = c.requires.room (ap (λ q. has_index c.args.place q.indices) (sym was) ∙ off) in let some = room.0 in omega (arith, some, free)))

pub returns-else-not-is_there-clause-last : goal.returns-else-not-is_there-clause-last
returns-else-not-is_there-clause-last c =
    let places = after_moves [] c.self.inside.moves.items in
    let was : unkept places ≡ c.args.self.now.places = sym (ap (λ b. cond b c.self.inside.queue (unkept places)) c.if-self.false) ∙ ap (λ w. w.places) c.self.view_is in
    let is = ap (λ ms. after_moves [] ms) c.and-self-inside.ensures ∙ moves-more [] c.self.inside.moves.items (c.args.place, true) in
    let free = ap (λ q. q.room) was in
    rw (← was, c.if-self.false) (last-unkept c.args.place places _ is (λ off. let room = c.requires.room (ap (λ q. has_index c.args.place q.indices) (sym was) ∙ off) in let some = room.0 in omega (arith, some, free)))
