use Rattle.std.proofs.Common.{◌≡◌, ◌≤◌, ◌++◌, length, drop}
use Rattle.transcript.specs.Printed.{namespaces_text}
use Rattle.transcript.proofs.replaying.print_transcripts.Given as goal

abbrev pub invariant-loop-config : goal.invariant-loop-config
invariant-loop-config l = record {
  inside : l.config-index ≤ length l.configs;
  number : l.number ≡ l.config-index;
  text : l.printed.items ++ namespaces_text l.number (drop l.config-index l.configs) l.left ≡ namespaces_text 0 l.configs l.transcripts;
}
