use Rattle.std.proofs.Common.{subst}
use Rattle.cache_spaces.specs.Journals.{IsJournalOf, IsSoOfEach}
use Rattle.cache_spaces.specs.Recorded.{Recorded}
use Rattle.cache_spaces.proofs.Journaling.{were-journals}
use Rattle.cache_spaces.proofs.journals.RecordedService.journal.Goals as goal

pub returns-clause-is : goal.returns-clause-is
returns-clause-is c = subst (λ (r : Recorded). IsSoOfEach IsJournalOf r.spaces) c.self.view_is (were-journals c.self.inside.core c.self.invariant.0)
