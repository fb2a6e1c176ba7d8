use Rattle.std.proofs.Common.{◌≡◌, ◌++◌, take}
use Rattle.std.specs.List.{flat_map}
use Rattle.cache_spaces.specs.Cursors.{reply_for}
use Rattle.cache_spaces.proofs.replies.add_replies.Given as goal

abbrev pub invariant-loop-step : goal.invariant-loop-step
invariant-loop-step l = l.text.items ≡ l.initial.text.items ++ flat_map (reply_for l.number) (take l.step-index l.steps)
