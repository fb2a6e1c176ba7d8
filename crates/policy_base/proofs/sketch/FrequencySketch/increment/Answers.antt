use Rattle.std.proofs.Common.{◌≡◌, sym, ap, ◌∙◌, length}
use Rattle.std.proofs.lemmas.List.{with_items_is}
use Rattle.policy_base.specs.Counts.{sketch_of, incremented}
use Rattle.policy_base.proofs.sketch.FrequencySketch.increment.Goals as goal

pub returns : goal.returns
returns c =
    let v = c.self.inside.table in
    let ws = c.counted-self-inside.new.table in
    let kept : length ws ≡ v.len = c.counted-self-inside.auto.table ∙ ap length c.as_mut_slice.ensures.value ∙ sym v.ok.0 in
    rw (← c.self.view_is) (
    ap (λ t. sketch_of v.len t c.counted-self-inside.result c.self.inside.sample) (with_items_is v ws kept)
    ∙ ap (λ z. sketch_of z ws c.counted-self-inside.result c.self.inside.sample) (sym kept)
    ∙ c.counted-self-inside.ensures.sketch
    ∙ ap (λ t. incremented (sketch_of (length t) t c.self.inside.size c.self.inside.sample) c.args.hash) c.as_mut_slice.ensures.value
    ∙ ap (λ z. incremented (sketch_of z v.items c.self.inside.size c.self.inside.sample) c.args.hash) (sym v.ok.0))
