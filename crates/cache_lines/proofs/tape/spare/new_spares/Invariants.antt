use Rattle.std.specs.Prelude.{◌≡◌, vec_len}
use Rattle.cache_lines.proofs.tape.spare.new_spares.Given as goal

abbrev pub invariant-loop : goal.invariant-loop
invariant-loop l = record {
  len : vec_len l.spares ≡ l.counter;
}
