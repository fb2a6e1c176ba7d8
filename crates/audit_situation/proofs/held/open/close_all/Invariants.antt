use Rattle.std.proofs.Common.{◌≡◌, ◌+◌, ℕ, List, true, false, cond, nat_eq}
use Rattle.std.specs.List.{starts_with}
use Rattle.std.specs.BTreeSet.{btree_set_len}
use Rattle.audit_situation.specs.Held.Holds.{is_open_key}
use Rattle.audit_situation.proofs.held.open.close_all.Given as goal

abbrev pub invariant-loop-more : goal.invariant-loop-more
invariant-loop-more l = ((q : List ℕ) → starts_with nat_eq q l.start.items ≡ false → is_open_key q l.keys ≡ is_open_key q l.initial.keys) × (l.more ≡ false → (q : List ℕ) → starts_with nat_eq q l.start.items ≡ true → is_open_key q l.keys ≡ false)

abbrev pub decreases-loop-more : goal.decreases-loop-more
decreases-loop-more l = cond l.more (btree_set_len l.keys + 1) 0
