use Rattle.policy_queue.proofs.timers.Shifts.{shifted_up}
use Rattle.policy_queue.proofs.timers.places.shift_up.Goals as goal

pub returns : goal.returns
returns c = λ a b d x whole from to. shifted_up c.args.places.now c.rotate_right.new.self c.args.at c.args.spare c.args.place a b d x c.rotate_right.ensures.after whole from to
