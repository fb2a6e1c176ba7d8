use Rattle.std.proofs.Common.{sym, ap, ◌∙◌, subst, List, ℕ, false}
use Rattle.cache_commands.specs.Loads.Standings.{keeps_line}
use Rattle.cache_core.specs.Connection.Fed.{FedRan, TakesWaiting}
use Rattle.cache_lines.specs.Bases.{seen_on}
use Rattle.cache_lines.specs.Gathered.{stage}
use Rattle.cache_lines.specs.Lines.{set_in}
use Rattle.cache_lines.specs.Waiting.{under_way}
use Rattle.cache_core.proofs.connection.Pieces.{fed-waiting, waits-with, whole-kept}
use Rattle.cache_core.proofs.connection.feeding.feed_connection.Goals as goal

pub returns-in-Waiting-clause-ran : goal.returns-in-Waiting-clause-ran
returns-in-Waiting-clause-ran g c =
    let base = c.args.base.now in
    let old = c.args.connection.now in
    let piece = c.args.piece.now in
    let new = c.wait_before.new.self in
    let was = seen_on g.S.Store.view g.T.Tape.view base old.output in
    let whole = whole-kept old.standing old.waited old.closing old.unread.bytes (ap keeps_line c.in-Waiting.is) old.fits in
    let took : TakesWaiting old piece new = record {
      put = λ s values number. ap (set_in s values) (waits-with number old.standing old.waited old.unread.bytes piece c.in-Waiting.is whole) ∙ c.wait_before.ensures.put s values number;
      closing = c.wait_before.ensures.closing;
    } in
    subst (λ (t : List ℕ). FedRan c.args.now c.args.number old piece new false was (record { stage = stage (g.S.Store.view base.store) t (g.T.Tape.view base.tape); loads = under_way base.loads })) (sym c.wait_before.ensures.text)
    (fed-waiting c.args.now c.args.number old new piece was c.in-Waiting.is took c.requires.can_run.in_time.0 c.requires.can_run.clear)
