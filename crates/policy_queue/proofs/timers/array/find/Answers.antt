use Rattle.std.proofs.Common.{◌≡◌, ◌≢◌, ℕ, Option, Some, None, sym}
use Rattle.std.specs.Option.{MatchOption}
use Rattle.std.specs.List.{All}
use Rattle.policy_queue.specs.declared.timers.array.Timer.{Timer}
use Rattle.policy_queue.specs.Timers.Array.{key_at, key_of}
use Rattle.policy_queue.specs.Timers.Places.{taken, IsNamed}
use Rattle.policy_queue.proofs.timers.Arrays.{unknown, unnamed}
use Rattle.policy_queue.proofs.timers.array.find.Goals as goal

weaker : (o : Option ℕ) (P Q : Type 0) (R : ℕ → Type 0) → (P → Q) → MatchOption o P R → MatchOption o Q R
weaker None P Q R f h = f h
weaker (Some k) P Q R f h = h

pub returns-in-None : goal.returns-in-None
returns-in-None c = unknown (taken c.args.row.now.places) c.args.slots.now c.args.id c.requires (sym c.in-None.ensures.value)

pub returns-in-Some : goal.returns-in-Some
returns-in-Some c =
    let ts = taken c.args.row.now.places in
    weaker c.seek.result (All (λ (t : Timer). key_of t ≡ key_at c.in-Some.placed.now c.in-Some.serial.now → t.id ≢ c.args.id) ts) (All (λ (t : Timer). t.id ≢ c.args.id) ts) (IsNamed c.args.row.now.places c.args.id) (unnamed ts c.args.slots.now c.args.id c.in-Some.placed.now c.in-Some.serial.now c.requires (sym c.in-Some.ensures.value)) (rw (← c.key.ensures) c.seek.ensures)
