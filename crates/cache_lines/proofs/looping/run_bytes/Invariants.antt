use Rattle.std.specs.Prelude.{◌≡◌, ◌≤◌, ◌-◌, length}
use Rattle.cache_commands.specs.Loads.Pending.{SameTaken}
use Rattle.cache_commands.specs.Right.{KeepsFrame}
use Rattle.cache_lines.specs.Bases.{seen_on}
use Rattle.cache_lines.specs.Gathered.{HasNothingOutside, gathered, spare_in, stage}
use Rattle.cache_lines.specs.Waiting.{under_way}
use Rattle.cache_lines.proofs.LineRuns.{RanTo}
use Rattle.cache_lines.proofs.looping.run_bytes.Given as goal

abbrev pub invariant-loop-len : goal.invariant-loop-len
invariant-loop-len g l = record {
  ran : RanTo l.fn.now l.fn.number l.fn.bytes l.used (seen_on g.S.Store.view g.T.Tape.view l.fn.base l.fn.output).stage (seen_on g.S.Store.view g.T.Tape.view l.base l.output).stage;
  frame : KeepsFrame (g.S.Store.view l.fn.base.store).frame (g.S.Store.view l.base.store).frame l.fn.now;
  fresh : HasNothingOutside (gathered (stage (g.S.Store.view l.base.store) l.output.text.items (g.T.Tape.view l.base.tape)));
  still : under_way l.base.loads ≡ under_way l.fn.base.loads;
  goes : SameTaken l.fn.base.loads l.base.loads;
  within : l.used ≤ length l.fn.bytes;
  spare : spare_in (g.T.Tape.view l.base.tape) ≡ spare_in (g.T.Tape.view l.fn.base.tape);
}

abbrev pub decreases-loop-len : goal.decreases-loop-len
decreases-loop-len g l = length l.fn.bytes - l.used
