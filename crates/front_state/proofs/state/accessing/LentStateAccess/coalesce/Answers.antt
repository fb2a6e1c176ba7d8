use Rattle.std.specs.Prelude.{Ok}
use Rattle.std.specs.Fn.{FnOnceReturnsAt}
use Rattle.front_parts.specs.Places.Calls.{ways_by}
use Rattle.front_state.proofs.Accessed.{gives-if-ok, suits-if-ok}
use Rattle.front_state.proofs.state.accessing.LentStateAccess.coalesce.Goals as goal

pub returns-clause-gives : goal.returns-clause-gives
returns-clause-gives g c =
    gives-if-ok (ways_by g.R.Rules g.K.PartialEq.eq g.K.Hash.hash_input g.S.BuildHasher g.S.Hasher.Hasher) c.args.kind c.args.key c.args.when (FnOnceReturnsAt g.P.FnOnce c.args.replace_if) (λ made. goal.M-post g c.args.make (Ok made)) c.args.self.now c.coalesce.new.self c.coalesce.result c.coalesce.ensures.answer

pub returns-clause-suits : goal.returns-clause-suits
returns-clause-suits g c =
    suits-if-ok (ways_by g.R.Rules g.K.PartialEq.eq g.K.Hash.hash_input g.S.BuildHasher g.S.Hasher.Hasher) c.args.kind c.args.key c.args.when (FnOnceReturnsAt g.P.FnOnce c.args.replace_if) (λ made. goal.M-post g c.args.make (Ok made)) c.args.self.now c.coalesce.new.self c.coalesce.result c.requires.suitable c.coalesce.ensures.answer

pub returns-clause-cause : goal.returns-clause-cause
returns-clause-cause g c = c.coalesce.ensures.cause
