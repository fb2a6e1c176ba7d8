use Rattle.policy_queue.proofs.timers.Shifts.{shifted_down}
use Rattle.policy_queue.proofs.timers.places.shift_down.Goals as goal

pub returns : goal.returns
returns c = λ a b d x whole from to. shifted_down c.args.places.now c.rotate_left.new.self c.args.at c.args.spare c.args.place a b d x c.rotate_left.ensures.after whole from to
