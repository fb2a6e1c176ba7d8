use Rattle.std.proofs.Common.{inl, inr, ap, subst, sym, ◌∙◌}
use Rattle.slab.specs.Slab.{Slab}
use Rattle.cache_loop.specs.Turns.{EndsTurnAt, pair_at}
use Rattle.cache_loop.specs.declared.served.Served.{Served}
use Rattle.cache_loop.proofs.Turning.{ended-others}
use Rattle.cache_loop.proofs.hall.Hall.take_turn.Goals as goal

pub returns-in-Some : goal.returns-in-Some
returns-in-Some g c =
    let turn = c.in-Some.ensures in
    let given = c.in-Some.given in
    let between = c.give_turn.new in
    let ended = c.end_turn.new in
    let kept = c.note_settled.ensures in
    inl (
    record {
      result = given;
      between = between.self.served;
      after_turn = between.steward;
      after_end = ended.steward;
      turn = turn;
      ended = subst (λ (x : Slab (Served _)). EndsTurnAt g.S.Steward c.args.key given between.self.served between.steward x ended.steward) (sym kept) c.end_turn.ensures;
      loads = c.ask_loads-settled.ensures;
      others = λ other differs. ap (λ (x : Slab (Served _)). pair_at x other) kept ∙ ended-others g.S.Steward c.args.key given between.self.served between.steward ended.self.served ended.steward c.end_turn.ensures other differs ∙ turn.kept.others other differs;
    }
    )

pub returns-in-None : goal.returns-in-None
returns-in-None g c = inr c.in-None.ensures
