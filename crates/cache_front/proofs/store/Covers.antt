-- Calls that cover, whatever they answer.
use Rattle.std.proofs.Common.{◌≡◌, ap, sym, ◌∙◌, subst, ℕ, suc, ◌≤◌, ◌^◌, ◌⊎◌, inl, inr, Bool, true, false, ◌||◌, List, Result, Ok, Err, OnOk, OnErr}
use Rattle.std.proofs.lemmas.Bool.{cases_Bool}
use Rattle.std.proofs.Math.Bool.{or-false, or-true}
use Rattle.rand_core.specs.Stream.{Stream}
use Rattle.audit_model.specs.Commands.{Everything, Prefixed}
use Rattle.cache_commands.specs.Promises.{covering}
use Rattle.cache_commands.specs.Values.{Does, IsMoment, IsSpent, LacksIdentifiers}
use Rattle.cache_commands.specs.declared.error.StoreError.{StoreError}
use Rattle.cache_front.specs.View.{view}
use Rattle.cache_front.specs.State.{IsFitStore, Lent}
use Rattle.engine_reference.specs.Calls.{cleared_by}
use Rattle.front_reference.specs.Fronts.{CallsAll}
use Rattle.front_reference.specs.Wholes.{DrawsInVain}
use Rattle.front_state.specs.Covering.{CoversAll}
use Rattle.cache_front.specs.Data.{FrontData, LackTickets, parted_by}
use Rattle.cache_front.proofs.data.Calls.{clear, drop, lack, lacks_steps, lacks_tickets}

module _ {S : Type 0} (hash : S → List ℕ → ℕ) (d : FrontData S) (g : Lent S) (count room now : ℕ) (r : Result (Unit {0}) StoreError) (f : IsFitStore (parted_by hash d) count room)
    (moment : IsMoment (view (parted_by hash d)) now) (clears : OnOk r (CallsAll now (suc d.front.step) (λ s t. t ≡ cleared_by (suc d.front.step) s) d.front g)) where
  pub cleared_does : OnOk r (Does now (covering Everything) (view (parted_by hash d)) (view (parted_by hash (record d { front = g }))))
  cleared_does = go r clears
    where
      go : (r : Result (Unit {0}) StoreError) → OnOk r (CallsAll now (suc d.front.step) (λ s t. t ≡ cleared_by (suc d.front.step) s) d.front g) → OnOk r (Does now (covering Everything) (view (parted_by hash d)) (view (parted_by hash (record d { front = g }))))
      go (Ok u) call = (clear hash d g count room now f moment call).0
      go (Err e) call = tt

  pub cleared_fits : OnErr r (g ≡ d.front) → IsFitStore (parted_by hash (record d { front = g })) count room
  cleared_fits same = go r clears same
    where
      go : (r : Result (Unit {0}) StoreError) → OnOk r (CallsAll now (suc d.front.step) (λ s t. t ≡ cleared_by (suc d.front.step) s) d.front g) → OnErr r (g ≡ d.front) → IsFitStore (parted_by hash (record d { front = g })) count room
      go (Ok u) call same = (clear hash d g count room now f moment call).1
      go (Err e) call same = subst (λ (x : Lent S). IsFitStore (parted_by hash (record d { front = x })) count room) (sym same) f

module _ {S : Type 0} (hash : S → List ℕ → ℕ) (d : FrontData S) where
  pub covered_up : (count room : ℕ) → IsFitStore (parted_by hash d) count room → LackTickets d.front.parts ⊎ (2 ^ 64 ≤ suc d.front.step) → IsSpent (view (parted_by hash d))
  covered_up count room f (inl lacks) = lacks_tickets hash d f.whole lacks
  covered_up count room f (inr last) = lacks_steps hash d last

-- a predicate, taken or not
module _ {S : Type 0} (hash : S → List ℕ → ℕ) (d : FrontData S) (g : Lent S) (left : Stream) (count room now : ℕ) (prefix : List ℕ) (covers dropped : Bool) (f : IsFitStore (parted_by hash d) count room) (moment : IsMoment (view (parted_by hash d)) now)
    (is_dropped : dropped ≡ (d.dropped || covers))
    (taken : covers ≡ true → (id : ℕ) × CoversAll prefix (record { now = now; step = suc d.front.step }) d.stream left id d.front g)
    (lacks : covers ≡ false → DrawsInVain d.front.parts d.stream left × (g ≡ d.front)) where
  abbrev after : FrontData S
  after = record d { dropped = dropped; stream = left; front = g }

  if_taken : covers ≡ true → after ≡ record d { dropped = true; stream = left; front = g }
  if_taken is = ap (λ b. record d { dropped = b; stream = left; front = g }) (is_dropped ∙ ap (λ b. d.dropped || b) is ∙ or-true d.dropped)

  if_lacking : covers ≡ false → g ≡ d.front → after ≡ record d { stream = left }
  if_lacking is same = ap (λ b. record d { dropped = b; stream = left; front = g }) (is_dropped ∙ ap (λ b. d.dropped || b) is ∙ or-false d.dropped) ∙ ap (λ (x : Lent S). record d { stream = left; front = x }) same

  pub covered_does : covers ≡ true → Does now (covering (Prefixed prefix)) (view (parted_by hash d)) (view (parted_by hash after))
  covered_does is =
      let t = taken is in
      subst (λ (x : FrontData S). Does now (covering (Prefixed prefix)) (view (parted_by hash d)) (view (parted_by hash x))) (sym (if_taken is)) (drop hash d g left t.0 count room now prefix f moment t.1).0

  pub covered_lacks : covers ≡ false → LacksIdentifiers (view (parted_by hash d)) (view (parted_by hash after))
  covered_lacks is =
      let t = lacks is in
      subst (λ (x : FrontData S). LacksIdentifiers (view (parted_by hash d)) (view (parted_by hash x))) (sym (if_lacking is t.1)) (lack hash d left count room f t.0).0

  pub covered_fits : IsFitStore (parted_by hash after) count room
  covered_fits = elim (cases_Bool covers) [
    | inl is ↦ let t = taken is in subst (λ (x : FrontData S). IsFitStore (parted_by hash x) count room) (sym (if_taken is)) (drop hash d g left t.0 count room now prefix f moment t.1).1
    | inr is ↦ let t = lacks is in subst (λ (x : FrontData S). IsFitStore (parted_by hash x) count room) (sym (if_lacking is t.1)) (lack hash d left count room f t.0).1
  ]
