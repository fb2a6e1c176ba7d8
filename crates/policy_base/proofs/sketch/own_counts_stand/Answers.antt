use Rattle.std.proofs.Common.{◌*◌, ap, ◌∙◌, sym}
use Rattle.policy_base.proofs.Nibbles.{length-counts}
use Rattle.policy_base.proofs.Own.{own_below}
use Rattle.policy_base.proofs.sketch.own_counts_stand.Goals as goal

pub returns : goal.returns
returns c = λ hash own hashes some le.
    let t = c.sketch.inside.table in
    own_below c.args.sketch.now hash own hashes (record {
      some = some;
      whole = rw (← c.sketch.view_is) (length-counts t.items ∙ ap (λ n. 16 * n) (sym t.ok.0));
    }) le
