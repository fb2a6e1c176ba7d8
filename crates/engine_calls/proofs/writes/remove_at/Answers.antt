use Rattle.std.proofs.Common.{◌≡◌, Some, ap, sym, ◌∙◌}
use Rattle.std.proofs.lemmas.Option.{same_Some}
use Rattle.engine_reference.specs.declared.data.Record.{Record}
use Rattle.engine_calls.proofs.Writing.{marked, removal-reserved}
use Rattle.engine_calls.proofs.writes.remove_at.Goals as goal

pub returns : goal.returns
returns g c = λ r there.
    let s = c.args.tables.now.state in
    let l = c.mark_removed.ensures in
    let same : l.0 ≡ r = same_Some _ _ (sym l.1 ∙ there) in
    ap (λ t. t.state) l.2
    ∙ ap (λ (x : Record g.row.K.Denot g.row.V.Denot). marked c.args.at_once x s) same
    ∙ removal-reserved c.args.at_once r s (λ at_once. (c.requires.queue at_once).sent_all) c.requires.room
