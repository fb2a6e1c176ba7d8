use Rattle.std.proofs.Common.{ℕ, ◌+◌, ◌++◌, ◌∷◌, [], cond, sym, ap, ◌∙◌, arith}
use Rattle.engine_cells.proofs.Indexed.{without_lacked}
use Rattle.engine_cells.proofs.write_order.put_last.Goals as goal

pub returns-else-is_there : goal.returns-else-is_there
returns-else-is_there c =
    let off = sym c.requires.there ∙ c.if-is_there.false in
    let less = ap (λ q. q.room) c.push_back.ensures in
    let some = (c.requires.room off).0 in
    record {
      indices = ap (λ q. q.indices) c.push_back.ensures ∙ ap (λ l. l ++ c.args.index ∷ []) (sym (without_lacked c.args.index c.args.queue.now.indices off));
      room = ap (λ b. c.push_back.new.self.room + cond {A = ℕ} b 0 1) off ∙ omega (arith, less, some);
      bound = ap (λ q. q.bound) c.push_back.ensures;
    }
