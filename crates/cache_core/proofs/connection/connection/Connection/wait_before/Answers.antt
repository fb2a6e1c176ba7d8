use Rattle.std.proofs.Common.{ap, arith, refl, ◌∙◌}
use Rattle.std.proofs.lemmas.Bool.{lt-ltb}
use Rattle.cache_lines.proofs.WholeLines.{has-line-more}
use Rattle.cache_lines.specs.Whole.{has_line}
use Rattle.cache_core.proofs.connection.Pieces.{whole-kept}
use Rattle.cache_core.proofs.connection.Putting.{fits-waiting}
use Rattle.cache_core.proofs.connection.connection.Connection.wait_before.Goals as goal

pub ended_closing-self-requires : goal.ended_closing-self-requires
ended_closing-self-requires c =
    let old = c.args.self.now in
    ap has_line c.append.ensures.bytes ∙ has-line-more old.unread.bytes c.args.piece.now (whole-kept old.standing old.waited old.closing old.unread.bytes c.requires.keeps old.fits)

pub invariant_of-self-clause-fits : goal.invariant_of-self-clause-fits
invariant_of-self-clause-fits c =
    let old = c.args.self.now in
    fits-waiting _ c.args.times _ c.append.new.self.bytes refl c.ended_closing-self.ensures
    (ap has_line c.append.ensures.bytes ∙ has-line-more old.unread.bytes c.args.piece.now (whole-kept old.standing old.waited old.closing old.unread.bytes c.requires.keeps old.fits))
    (lt-ltb c.args.times 201 (omega (arith, c.requires.few)))
