-- The two readings of a deadline agree.
use Rattle.std.proofs.Common.{◌≡◌, refl, sym, ℕ, Bool, true, false, true≢false, not, ◌&&◌, ◌||◌, cond, Option, Some, None, is_some}
use Rattle.std.specs.Prelude.{IsTrue}
use Rattle.audit_model.specs.Values.{earlier_deadline}
use Rattle.audit_model.specs.Configs.{DeadlinesAgree}
use Rattle.std.proofs.lemmas.Bool.{and_parts}
use Rattle.std.specs.Option.{option_map}

by_cases : (own : Bool) (live idle dead : Option ℕ) (f g : ℕ → ℕ)
    → IsTrue (not (own && is_some live)) → IsTrue (not (own && is_some idle)) → IsTrue (own || not (is_some dead))
    → earlier_deadline dead (earlier_deadline (option_map f live) (option_map g idle)) ≡ cond own dead (earlier_deadline (option_map f live) (option_map g idle))
by_cases true None None None f g h k l = refl
by_cases true None None (Some d) f g h k l = refl
by_cases true None (Some i) dead f g h k l = absurd (true≢false (sym k))
by_cases true (Some v) idle dead f g h k l = absurd (true≢false (sym h))
by_cases false live idle None f g h k l = refl
by_cases false live idle (Some d) f g h k l = absurd (true≢false (sym l))

pub deadlines_agree : DeadlinesAgree
deadlines_agree config value last_use valid apart own =
    by_cases config.own_deadlines config.live_ms config.idle_ms value.own_deadline _ _ (and_parts _ _ valid).1 apart own
