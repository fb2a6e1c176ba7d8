use Rattle.cache_run.specs.Devices.Watched.{device}
use Rattle.cached_server.proofs.script.Gathered.{gathers-both}
use Rattle.cached_server.proofs.script.gathering.put.Goals as goal

pub returns-clause-ok : goal.returns-clause-ok
returns-clause-ok g c =
    gathers-both (g.W.Write.contents (device c.args.writer.now)) (g.W.Write.contents (device c.write_out.new.writer)) (g.W.Write.contents (device c.send.new.writer)) c.args.gathered.now.items c.write_out.new.gathered.items c.args.text.now c.send.result
    c.in_ok-write_out.ensures.ok c.in_ok-write_out.ensures.none c.send.ensures.ok
