use Rattle.std.proofs.Common.{◌≡◌, ◌∙◌, ◌++◌, ◌-◌, [], OnOk, OnErr, ap, arith, drop, length, sym, vec_len}
use Rattle.std.proofs.lemmas.Bool.{eqb-true}
use Rattle.std.proofs.lemmas.List.{length-drop, take_all}
use Rattle.std.proofs.lemmas.Result.{err_from_is_err_and}
use Rattle.memcache_service.proofs.Feeding.{LacksWith, RunsWith, kept-lacked, kept-ran, moved, no-items, none-ran}
use Rattle.memcache_service.specs.Serving.{HasRun}
use Rattle.memcache_service.proofs.connection.Connection.take_in.Goals as goal

pub returns-in_err-used-clause-lacks : goal.returns-in_err-used-clause-lacks
returns-in_err-used-clause-lacks g c =
    let shelf = g.T.Shelf in
    let first = c.args.stock.now in
    let s = c.args.self.now in
    let passed = c.pass_over-piece.ensures.skip in
    let p = err_from_is_err_and c.from_residual.result c.from_residual.ensures.1 in
    let v = c.pass_over-piece.new.self.input in
    let zero : vec_len v ≡ 0 = eqb-true (vec_len v) 0 (sym c.is_empty.ensures ∙ c.if-is_empty.true) in
    let none : v.items ≡ [] = no-items v.items (omega (arith, zero, v.ok.0)) in
    let empty : s.input.items ≡ [] = sym (ap (λ k. k.input.items) passed) ∙ none in
    rw p.1 (moved shelf c.args.moment first.most first (λ b k o. LacksWith shelf c.args.moment first.most first b k o c.run.new.stock c.run.new.self.output.items) _ _ _ _ _ _
    (c.pass_over-piece.ensures.left ∙ sym (ap (λ z. z ++ drop s.skip c.args.piece.now) empty)) (ap (λ k. k.skip) passed) (ap (λ k. k.output.items) passed) c.in_err-used.ensures.lacks)

pub returns-in_err-extend_from_slice-clause-lacks : goal.returns-in_err-extend_from_slice-clause-lacks
returns-in_err-extend_from_slice-clause-lacks g c =
    let s = c.args.self.now in
    let first = c.args.stock.now in
    let p = err_from_is_err_and c.from_residual-in_err-extend_from_slice.result c.from_residual-in_err-extend_from_slice.ensures.1 in
    rw p.1 (none-ran g.T.Shelf c.args.moment first.most first (s.input.items ++ drop s.skip c.args.piece.now) (s.skip - length c.args.piece.now) s.output.items c.pass_over-piece.new.self.output.items (ap (λ k. k.output.items) c.pass_over-piece.ensures.skip))

pub returns-in_ok-used-clause-feeds : goal.returns-in_ok-used-clause-feeds
returns-in_ok-used-clause-feeds g c =
    let shelf = g.T.Shelf in
    let first = c.args.stock.now in
    let s = c.args.self.now in
    let rest = c.pass_over-piece.result.now in
    let used = c.in_ok-used.used in
    let passed = c.pass_over-piece.ensures.skip in
    let v = c.pass_over-piece.new.self.input in
    let zero : vec_len v ≡ 0 = eqb-true (vec_len v) 0 (sym c.is_empty.ensures ∙ c.if-is_empty.true) in
    let none : v.items ≡ [] = no-items v.items (omega (arith, zero, v.ok.0)) in
    let empty : s.input.items ≡ [] = sym (ap (λ k. k.input.items) passed) ∙ none in
    kept-ran shelf c.args.moment first.most first c.keep.result (s.input.items ++ drop s.skip c.args.piece.now) (s.skip - length c.args.piece.now) s.output.items c.run.new.stock (drop used rest) _ c.run.new.self c.keep.new.self
    (take_all (length rest - used) (drop used rest) (omega (arith, length-drop used rest))) (ap (λ z. z.items) c.run.ensures.kept ∙ none) c.keep.ensures.kept c.keep.ensures.rest
    (moved shelf c.args.moment first.most first (λ b k o. HasRun shelf c.args.moment first.most first b k o c.run.new.stock (drop used rest) c.run.new.self) _ _ _ _ _ _
    (c.pass_over-piece.ensures.left ∙ sym (ap (λ z. z ++ drop s.skip c.args.piece.now) empty)) (ap (λ k. k.skip) passed) (ap (λ k. k.output.items) passed) c.in_ok-used.ensures.ran)

pub returns-in_ok-used-clause-lacks : goal.returns-in_ok-used-clause-lacks
returns-in_ok-used-clause-lacks g c =
    let shelf = g.T.Shelf in
    let first = c.args.stock.now in
    let s = c.args.self.now in
    let rest = c.pass_over-piece.result.now in
    let used = c.in_ok-used.used in
    let passed = c.pass_over-piece.ensures.skip in
    let v = c.pass_over-piece.new.self.input in
    let zero : vec_len v ≡ 0 = eqb-true (vec_len v) 0 (sym c.is_empty.ensures ∙ c.if-is_empty.true) in
    let none : v.items ≡ [] = no-items v.items (omega (arith, zero, v.ok.0)) in
    let empty : s.input.items ≡ [] = sym (ap (λ k. k.input.items) passed) ∙ none in
    kept-lacked shelf c.args.moment first.most first c.keep.result (s.input.items ++ drop s.skip c.args.piece.now) (s.skip - length c.args.piece.now) s.output.items c.run.new.stock (drop used rest) c.run.new.self c.keep.new.self c.keep.ensures.going c.keep.ensures.rest
    (moved shelf c.args.moment first.most first (λ b k o. HasRun shelf c.args.moment first.most first b k o c.run.new.stock (drop used rest) c.run.new.self) _ _ _ _ _ _
    (c.pass_over-piece.ensures.left ∙ sym (ap (λ z. z ++ drop s.skip c.args.piece.now) empty)) (ap (λ k. k.skip) passed) (ap (λ k. k.output.items) passed) c.in_ok-used.ensures.ran)

pub returns-in_ok-extend_from_slice-clause-feeds : goal.returns-in_ok-extend_from_slice-clause-feeds
returns-in_ok-extend_from_slice-clause-feeds g c =
    let shelf = g.T.Shelf in
    let first = c.args.stock.now in
    let s = c.args.self.now in
    let passed = c.pass_over-piece.ensures.skip in
    moved shelf c.args.moment first.most first (λ b k o. OnOk c.run_kept.result (RunsWith shelf c.args.moment first.most first b k o c.run_kept.new.stock c.run_kept.new.self)) _ _ _ _ _ _
    (c.in_ok-extend_from_slice.ensures.items ∙ ap (λ z. z ++ c.pass_over-piece.result.now) (ap (λ k. k.input.items) passed) ∙ ap (λ z. s.input.items ++ z) c.pass_over-piece.ensures.left) (ap (λ k. k.skip) passed) (ap (λ k. k.output.items) passed) c.run_kept.ensures.ran

pub returns-in_ok-extend_from_slice-clause-lacks : goal.returns-in_ok-extend_from_slice-clause-lacks
returns-in_ok-extend_from_slice-clause-lacks g c =
    let shelf = g.T.Shelf in
    let first = c.args.stock.now in
    let s = c.args.self.now in
    let passed = c.pass_over-piece.ensures.skip in
    moved shelf c.args.moment first.most first (λ b k o. OnErr c.run_kept.result (LacksWith shelf c.args.moment first.most first b k o c.run_kept.new.stock c.run_kept.new.self.output.items)) _ _ _ _ _ _
    (c.in_ok-extend_from_slice.ensures.items ∙ ap (λ z. z ++ c.pass_over-piece.result.now) (ap (λ k. k.input.items) passed) ∙ ap (λ z. s.input.items ++ z) c.pass_over-piece.ensures.left) (ap (λ k. k.skip) passed) (ap (λ k. k.output.items) passed) c.run_kept.ensures.lacks
