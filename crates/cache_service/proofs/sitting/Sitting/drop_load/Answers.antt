use Rattle.cache_service.proofs.Seated.{if-some-any, settles-anyhow, settles-give-up, takes-behind}
use Rattle.cache_service.proofs.sitting.Sitting.drop_load.Goals as goal

pub returns-in_default : goal.returns-in_default
returns-in_default g c = (c.load-said.result, λ key. settles-anyhow (c.settle_load.ensures.settled key).0, c.load-said.ensures)

pub returns-in-Err : goal.returns-in-Err
returns-in-Err g c = (
  c.load-said.result,
  λ key. settles-give-up c.give_up.result (record { key = key; answer = c.load-said.result }) (if-some-any c.load-said.result) (takes-behind _ _ _ _ _ c.give_up.result c.in-Err.ensures.rests.0 c.give_up.ensures.taken),
  c.load-said.ensures,
)
