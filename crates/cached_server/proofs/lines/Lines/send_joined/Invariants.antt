use Rattle.std.proofs.Common.{◌≡◌, [], take, true}
use Rattle.cache_run.specs.Devices.Watched.{device}
use Rattle.cached_server.specs.Lines.{joined_texts}
use Rattle.cached_server.specs.Script.Gathering.{Gathers}
use Rattle.cached_server.proofs.lines.Lines.send_joined.Given as goal

abbrev pub invariant-loop-text : goal.invariant-loop-text
invariant-loop-text g l = record {
  gathers : Gathers (g.W.Write.contents (device l.fn.self.writer)) [] (joined_texts (take l.text-index l.texts)) (g.W.Write.contents (device l.self.writer)) l.self.gathered.items;
  cut : l.self.is_cut ≡ true;
}
