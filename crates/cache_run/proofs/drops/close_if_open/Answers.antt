use Rattle.std.proofs.Common.{false, inl, inr, refl}
use Rattle.audit_model.specs.declared.event.Event.TheVariants as event
use Rattle.cache_spaces.specs.Services.{bare_tape}
use Rattle.cache_spaces.specs.Calls.{ServesEvent}
use Rattle.cache_run.specs.Lent.{ClosesIt}
use Rattle.cache_run.proofs.Driving.{known-served, known-unmoved}
use Rattle.cache_spaces.proofs.Placing.{at-given, at-same, at-unmoved, refused-here}
use Rattle.cache_run.proofs.drops.close_if_open.Goals as goal

pub returns-in-Ok : goal.returns-in-Ok
returns-in-Ok c = record {
  closes = at-given (λ was is. ServesEvent bare_tape was is (event.Close c.args.conn.number) false) (ClosesIt c.args.conn.number) _ _ _ c.in-Ok.ensures.taken (λ x y at behind h. record { sound = c.sound.ensures x at; closes = inl h; behind = c.sound-2.ensures y behind });
  known = known-served _ _ _ _ (event.Close c.args.conn.number) false c.sound.ensures c.in-Ok.ensures.taken c.requires.known;
}

pub returns-in-Err : goal.returns-in-Err
returns-in-Err c =
    let i = c.requires.known in
    let unmoved = c.in-Err.ensures.unchanged in
    let sound = c.sound.ensures i.space i.at in record {
      closes = at-unmoved _ _ unmoved (at-same (ClosesIt c.args.conn.number) _ _ i.space i.at (record { sound = sound; closes = inr (refl, _, refused-here _ _ _ _ i.space i.at c.in-Err.ensures.spare refl); behind = sound }));
      known = known-unmoved _ _ _ _ unmoved i;
    }
