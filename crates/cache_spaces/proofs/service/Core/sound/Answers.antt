use Rattle.std.proofs.Common.{◌∙◌, subst, sym, arith}
use Rattle.std.proofs.lemmas.Option.{same_Some, slice_get_within}
use Rattle.cache_spaces.specs.Services.{IsSoundSpace}
use Rattle.cache_spaces.proofs.service.Core.sound.Goals as goal

pub returns-in-Ok : goal.returns-in-Ok
returns-in-Ok g c = λ space at.
    let same = same_Some c.in-Ok.space.now space (sym c.in-Ok.ensures.space ∙ at) in
    let sound = c.sound.ensures in
    subst (IsSoundSpace g.T.Tape.view) same (record { some = sound.stands.0; stands = sound.stands.1; order = sound.order; suits = sound.suits })

pub returns-in-Err : goal.returns-in-Err
returns-in-Err g c = λ space at.
    let within = slice_get_within c.args.self.now c.args.namespace space at in
    let past = c.in-Err.ensures.refused.1 in
    absurd (omega (arith, within, past))
