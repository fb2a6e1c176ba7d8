use Rattle.std.proofs.Common.{◌≤◌, subst, sym}
use Rattle.std.proofs.lemmas.List.{length-map}
use Rattle.std.proofs.lemmas.Result.{MatchResult-weaker}
use Rattle.cache_spaces.specs.Journals.{kept_by}
use Rattle.cache_spaces.specs.Played.{journal_of}
use Rattle.cache_spaces.specs.Spaces.{shown_space}
use Rattle.cache_shared.proofs.recorded.RecordedServiceShareable.journal.Goals as goal

pub returns-clause-refused : goal.returns-clause-refused
returns-clause-refused c = λ keeps.
    MatchResult-weaker c.journal.result c.journal.ensures.refused (λ a t. t) (λ e none. subst (λ n. n ≤ c.args.namespace) (sym (length-map c.args.self.now.spaces (shown_space kept_by))) none.1)

pub returns-clause-none : goal.returns-clause-none
returns-clause-none c =
    MatchResult-weaker c.journal.result c.journal.ensures.refused (λ a t. t) (λ e none. subst (λ n. n ≤ c.args.namespace) (sym (length-map c.args.self.now.spaces journal_of)) none.1)
