use Rattle.std.proofs.Common.{◌≡◌, length}
use Rattle.engine_reference.specs.Admission.{shortest_front}
use Rattle.engine_reference.specs.Records.{settled_in}
use Rattle.engine_runs.specs.Contesting.{is_won, from_place, IsOnList, outcome}
use Rattle.engine_runs.proofs.contesting.is_won.Given as goal

abbrev pub invariant-loop-place : goal.invariant-loop-place
invariant-loop-place g l = record {
  same : outcome l.tables l.contest ≡ is_won l.tables.state.sketch l.wanted (shortest_front l.weight (settled_in l.tables.state.records l.tables.state.access));
  listed : IsOnList l.tables l.contest.next;
}

-- each turn leaves one record behind
abbrev pub decreases-loop-place : goal.decreases-loop-place
decreases-loop-place g l = length (from_place l.tables l.contest.next)
