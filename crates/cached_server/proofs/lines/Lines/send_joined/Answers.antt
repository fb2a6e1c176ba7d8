use Rattle.std.proofs.Common.{[], subst, sym}
use Rattle.cache_run.specs.Devices.Watched.{device}
use Rattle.cached_server.specs.Script.Gathering.{Gathers}
use Rattle.cached_server.proofs.Lining.{joined_texts-more}
use Rattle.cached_server.proofs.script.Gathered.{gathers-more}
use Rattle.cached_server.proofs.lines.Lines.send_joined.Goals as goal

pub loop-text-preserved : goal.loop-text-preserved
loop-text-preserved g c =
    let more = joined_texts-more c.args.texts.now c.loop-text.text-index (record { ref_ptr = (0, 0); now = [] }) c.loop-text-test.true in record {
      gathers = subst (λ text. Gathers (g.W.Write.contents (device c.args.self.now.writer)) [] text (g.W.Write.contents (device c.put.new.writer)) c.put.new.gathered.items) (sym more)
          (gathers-more _ _ _ _ _ _ _ _ c.loop-text.invariant.gathers c.in_ok-put.ensures.ok);
      cut = c.loop-text.invariant.cut;
    }
