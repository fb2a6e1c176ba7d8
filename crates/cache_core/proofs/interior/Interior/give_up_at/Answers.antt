use Rattle.cache_core.proofs.Amid.{parts-on}
use Rattle.cache_core.proofs.Touched.{leaves-on}
use Rattle.cache_core.proofs.interior.Interior.give_up_at.Goals as goal

pub returns-clause-ran : goal.returns-clause-ran
returns-clause-ran g c =
    parts-on g.S.Store.view g.T.Tape.view c.args.now c.args.self.now.base c.again_at.new.self.base c.resume_at.new.self.base c.args.self.now.connections c.again_at.new.self.connections c.resume_at.new.self.connections _ _ c.again_at.ensures.ran c.resume_at.ensures.ran

pub returns-clause-amid : goal.returns-clause-amid
returns-clause-amid g c = λ lines amid. c.resume_at.ensures.amid lines (c.again_at.ensures.amid _ amid)

pub returns-clause-others : goal.returns-clause-others
returns-clause-others g c = leaves-on c.args.self.now.connections c.again_at.new.self.connections c.resume_at.new.self.connections c.args.index c.again_at.ensures.others c.resume_at.ensures.others
