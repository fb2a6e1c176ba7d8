use Rattle.std.proofs.Common.{◌≡◌, ap, sym, ◌∙◌, subst, ◌-◌, Some}
use Rattle.std.proofs.lemmas.Option.{same_Some}
use Rattle.policy_base.specs.Counts.{frequency_of}
use Rattle.engine_reference.specs.Admission.{shortest_front}
use Rattle.engine_reference.specs.Records.{with_settled, weight_at}
use Rattle.engine_runs.specs.Contesting.{is_won}
use Rattle.engine_runs.proofs.Contests.{past-settled, past-unsettled}
use Rattle.engine_runs.proofs.contesting.past.Goals as goal

pub returns-then-writes-applied : goal.returns-then-writes-applied
returns-then-writes-applied g c = λ r at rest.
    let s = c.args.tables.now.state in
    let found = c.record_in-found.result.now in
    let same : found ≡ r = same_Some _ _ (sym c.record_in-found.ensures ∙ at) in
    subst (λ x. is_won s.sketch c.args.ahead (shortest_front c.args.left rest) ≡ is_won s.sketch c.args.ahead (shortest_front c.args.left (with_settled (Some x) rest))) same
    (past-unsettled s.sketch found c.args.left c.args.ahead rest (rw (c.writes.ensures, c.applied.ensures) at c.if-writes-applied.true))

pub returns : goal.returns
returns g c = λ r at rest.
    let s = c.args.tables.now.state in
    let found = c.record_in-found.result.now in
    let same : found ≡ r = same_Some _ _ (sym c.record_in-found.ensures ∙ at) in
    let ahead : c.saturating_sub-2.result ≡ c.args.ahead - frequency_of s.sketch found.hash = c.saturating_sub-2.ensures ∙ ap (λ n. c.args.ahead - n) ((rw c.hash.ensures at c.frequency-asked.ensures.least) ∙ ap (λ k. frequency_of k found.hash) c.sketch.ensures) in
    let left : c.saturating_sub.result ≡ c.args.left - weight_at found = c.saturating_sub.ensures ∙ ap (λ n. c.args.left - n) (rw c.counts.ensures at c.unwrap_or.ensures) in
    subst (λ x. is_won s.sketch c.saturating_sub-2.result (shortest_front c.saturating_sub.result rest) ≡ is_won s.sketch c.args.ahead (shortest_front c.args.left (with_settled (Some x) rest))) same
    (ap (λ n. is_won s.sketch n (shortest_front c.saturating_sub.result rest)) ahead
    ∙ ap (λ n. is_won s.sketch (c.args.ahead - frequency_of s.sketch found.hash) (shortest_front n rest)) left
    ∙ past-settled s.sketch found c.args.left c.args.ahead rest c.requires.some (rw (c.writes.ensures, c.applied.ensures) at c.if-writes-applied.false))
