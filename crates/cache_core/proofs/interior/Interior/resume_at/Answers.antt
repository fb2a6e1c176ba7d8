use Rattle.std.proofs.Common.{refl, sym, ap, ◌∙◌, subst, arith, ◌≡◌, ◌+◌, true, false, suc, is_none}
use Rattle.std.specs.List.{slice_get}
use Rattle.cache_commands.proofs.Taking.{taken-on}
use Rattle.cache_core.specs.Connections.Presence.{closing_at}
use Rattle.cache_core.specs.Settled.{IsAmid}
use Rattle.cache_core.specs.Settling.{runs_at}
use Rattle.cache_lines.specs.Making.{making_of}
use Rattle.cache_lines.specs.Waiting.{under_way, when_left}
use Rattle.cache_core.proofs.Amid.{amid-behind, amid-least, can-run}
use Rattle.cache_core.proofs.connections.Getting.{found-at}
use Rattle.cache_core.proofs.Steps.{piece-idle, piece-lines, runs-is}
use Rattle.cache_core.proofs.Touched.{leaves-all, leaves-others}
use Rattle.cache_core.proofs.interior.Interior.resume_at.Goals as goal

pub resume_there-requires-clause-can_run : goal.resume_there-requires-clause-can_run
resume_there-requires-clause-can_run g c = can-run g.S.Store.view g.T.Tape.view c.args.now c.args.self.now.base c.args.self.now.connections c.args.index 0 c.requires.inside c.requires.amid

pub returns-then-not-runs_there-clause-ran : goal.returns-then-not-runs_there-clause-ran
returns-then-not-runs_there-clause-ran g c =
    let cs = c.args.self.now.connections in
    let i = c.args.index in
    let here = found-at cs i c.requires.inside in
    let idle : runs_at (slice_get cs i) ≡ false = sym c.runs_there.ensures ∙ c.if-not-runs_there.true in
    record {
      ran = λ held stands. piece-idle g.S.Store.view g.T.Tape.view c.args.now c.args.self.now.base c.args.self.now.base (i + 1) i cs here.0 (omega arith) here.1 (sym (ap runs_at here.1) ∙ idle) held stands;
      frame = record { rest = refl; latest = c.requires.amid.in_time.0 };
    }

pub returns-then-not-runs_there-clause-amid : goal.returns-then-not-runs_there-clause-amid
returns-then-not-runs_there-clause-amid g c = λ lines amid. amid-least g.S.Store.view g.T.Tape.view c.args.now c.args.self.now.base c.args.self.now.connections (suc lines) lines (omega arith) amid

pub returns-then-not-runs_there-clause-others : goal.returns-then-not-runs_there-clause-others
returns-then-not-runs_there-clause-others g c = leaves-all c.args.self.now.connections c.args.index

pub returns : goal.returns
returns g c =
    let view = g.S.Store.view in
    let tape = g.T.Tape.view in
    let old = c.args.self.now in
    let cs = old.connections in
    let mid = c.resume_there.new.self in
    let i = c.args.index in
    let r = c.resume_there.ensures.ran in
    let runs : runs_at (slice_get cs i) ≡ true = sym c.runs_there.ensures ∙ c.if-not-runs_there.false in
    let so = runs-is _ r.put.was r.put.at runs in
    let leaves = c.leave_closed.ensures.left ∙ ap (λ k. when_left (is_none (closing_at mid.connections i)) k (under_way mid.base.loads)) c.number_at-number.ensures in
    let piece = piece-lines view tape c.args.now old.base mid.base (i + 1) i cs mid.connections r.put (omega arith) so.1 c.leave_closed.new.loads r.is_held so.0 r.ran leaves in
    record {
      ran = record { ran = piece; frame = r.ran.frame };
      amid = λ lines amid.
          let more : suc lines ≡ 1 + lines = omega arith in
          amid-behind view tape c.args.now old.base _ cs mid.connections _ c.sound.ensures.some 1 lines (making_of (view old.base.store).frame) (piece c.sound.ensures.some c.sound.ensures.stands) r.ran.frame.latest c.resume_there.ensures.spare
          (subst (λ k. IsAmid view tape c.args.now old.base cs k) more amid);
      others = leaves-others cs mid.connections i r.put;
      goes = taken-on c.resume_there.ensures.goes c.leave_closed.ensures.goes;
    }
