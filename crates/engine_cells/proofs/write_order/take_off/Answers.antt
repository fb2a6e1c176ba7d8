use Rattle.std.proofs.Common.{◌≡◌, ℕ, ◌+◌, cond, refl, sym, ap, ◌∙◌, arith}
use Rattle.engine_cells.proofs.Indexed.{without_lacked}
use Rattle.engine_cells.proofs.write_order.take_off.Goals as goal

pub returns-else-is_there : goal.returns-else-is_there
returns-else-is_there c =
    let off = sym c.requires ∙ c.if-is_there.false in
    let same : c.args.queue.now.room ≡ c.args.queue.now.room + 0 = omega arith in
    record {
      indices = sym (without_lacked c.args.index c.args.queue.now.indices off);
      room = same ∙ ap (λ b. c.args.queue.now.room + cond {A = ℕ} b 1 0) (sym off);
      bound = refl;
    }
