use Rattle.std.proofs.Common.{◌≡◌, ◌∙◌, ap, sym, refl, length, ◌^◌}
use Rattle.std.specs.Prelude.{option_map}
use Rattle.engine_reference.specs.declared.data.Settings.{Settings}
use Rattle.front_reference.specs.Fronts.{share_of}
use Rattle.front_parts.specs.Places.Calls.{ways_by}
use Rattle.front_parts.proofs.places.Newness.{new_steady}
use Rattle.front_state.proofs.state.LentState.with_shared.Goals as goal

pub invariant_of-result : goal.invariant_of-result
invariant_of-result g c =
    let ways = (ways_by g.R.Rules g.K.PartialEq.eq g.K.Hash.hash_input g.S.BuildHasher g.S.Hasher.Hasher) in
    let count : length c.in_ok-parts.parts.items ≡ 2 ^ c.args.bits = c.in_ok-parts.ensures.count ∙ c.pow-count.ensures in
    let shared = ap (λ (s : Settings). s.capacity) c.for_part-settings.ensures ∙ ap (λ n. option_map (share_of n) c.args.settings.capacity) (sym c.in_ok-parts.ensures.count) in
    ∣ new_steady ways _ c.in_ok-parts.ensures.new count c.requires.few shared c.new.ensures c.from_nanos.ensures refl ∣₁
