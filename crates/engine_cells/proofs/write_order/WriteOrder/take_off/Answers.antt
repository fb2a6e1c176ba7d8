use Rattle.std.proofs.Common.{◌≡◌, ap, sym, ◌∙◌, ◌+◌, cond, true, false, [], length, arith}
use Rattle.policy_queue.specs.Indices.{has_index, without_index}
use Rattle.engine_cells.specs.WriteList.{after_moves, unkept}
use Rattle.engine_cells.proofs.WriteLists.{moves-more, length-off, off-unkept}
use Rattle.engine_cells.proofs.write_order.WriteOrder.take_off.Goals as goal

pub invariant_of-self-then-is_there : goal.invariant_of-self-then-is_there
invariant_of-self-then-is_there c =
    let places = after_moves [] c.self.inside.moves.items in
    let was : unkept places ≡ c.args.self.now.places = sym (ap (λ b. cond b c.self.inside.queue (unkept places)) c.if-self.false) ∙ ap (λ w. w.places) c.self.view_is in
    let is = ap (λ ms. after_moves [] ms) c.and-self-inside.ensures ∙ moves-more [] c.self.inside.moves.items (c.args.place, false) in
    let on : has_index c.args.place places ≡ true = ap (λ q. has_index c.args.place q.indices) was ∙ sym c.requires ∙ c.if-is_there.true in
    let long = ap length is in
    let fewer = sym (ap (λ b. length (without_index c.args.place places) + cond b 1 0) on) ∙ length-off c.args.place places in
    let counted = c.self.invariant.0 in
    let few = c.self.invariant.1 in
    (omega (arith, long, fewer, counted), omega (arith, few))

pub invariant_of-self-else-is_there : goal.invariant_of-self-else-is_there
invariant_of-self-else-is_there c =
    let places = after_moves [] c.self.inside.moves.items in
    let was : unkept places ≡ c.args.self.now.places = sym (ap (λ b. cond b c.self.inside.queue (unkept places)) c.if-self.false) ∙ ap (λ w. w.places) c.self.view_is in
    let is = ap (λ ms. after_moves [] ms) c.and-self-inside.ensures ∙ moves-more [] c.self.inside.moves.items (c.args.place, false) in
    let off : has_index c.args.place places ≡ false = ap (λ q. has_index c.args.place q.indices) was ∙ sym c.requires ∙ c.if-is_there.false in
    let long = ap length is in
    let same = sym (ap (λ b. length (without_index c.args.place places) + cond b 1 0) off) ∙ length-off c.args.place places in
    let counted = c.self.invariant.0 in
    (omega (arith, long, same, counted), c.self.invariant.1)

pub returns-then-is_there-clause-out : goal.returns-then-is_there-clause-out
returns-then-is_there-clause-out c =
    let places = after_moves [] c.self.inside.moves.items in
    let was : unkept places ≡ c.args.self.now.places = sym (ap (λ b. cond b c.self.inside.queue (unkept places)) c.if-self.false) ∙ ap (λ w. w.places) c.self.view_is in
    let is = ap (λ ms. after_moves [] ms) c.and-self-inside.ensures ∙ moves-more [] c.self.inside.moves.items (c.args.place, false) in
    rw (← was, c.if-self.false) (off-unkept c.args.place places _ is (omega (arith, c.self.invariant.0, c.self.invariant.1)))

pub returns-else-is_there-clause-out : goal.returns-else-is_there-clause-out
returns-else-is_there-clause-out c =
    let places = after_moves [] c.self.inside.moves.items in
    let was : unkept places ≡ c.args.self.now.places = sym (ap (λ b. cond b c.self.inside.queue (unkept places)) c.if-self.false) ∙ ap (λ w. w.places) c.self.view_is in
    let is = ap (λ ms. after_moves [] ms) c.and-self-inside.ensures ∙ moves-more [] c.self.inside.moves.items (c.args.place, false) in
    rw (← was, c.if-self.false) (off-unkept c.args.place places _ is (omega (arith, c.self.invariant.0, c.self.invariant.1)))
