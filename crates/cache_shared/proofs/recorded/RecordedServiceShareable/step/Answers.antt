use Rattle.cache_shared.proofs.Moving.{kept-input}
use Rattle.cache_shared.proofs.Performing.{counts, refused}
use Rattle.cache_spaces.specs.Journals.{kept_by}
use Rattle.cache_shared.proofs.recorded.RecordedServiceShareable.step.Goals as goal

pub returns-clause-taken : goal.returns-clause-taken
returns-clause-taken c = kept-input c.args.input c.step.result c.args.self.now c.step.new.self c.step.ensures.performed c.step.ensures.gained

pub returns-clause-one : goal.returns-clause-one
returns-clause-one c = λ keeps. counts c.args.input c.step.result c.args.self.now c.step.new.self c.step.ensures.performed c.step.ensures.gained

pub returns-clause-refused : goal.returns-clause-refused
returns-clause-refused c = refused kept_by c.args.input c.step.result c.args.self.now.spaces c.step.ensures.refused
