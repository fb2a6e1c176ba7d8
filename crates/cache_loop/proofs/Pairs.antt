-- How the pairs of a loop's connections change.
use Rattle.std.proofs.Common.{◌≡◌, ◌≢◌, ◌⊎◌, ℕ, Option, Some, None, inl, inr, refl, sym, ap, subst, ◌∙◌, is_some}
use Rattle.std.specs.Option.{option_map}
use Rattle.std.proofs.lemmas.Bool.{cases_eq}
use Rattle.slab.proofs.SlabLemmas.{Updates-with_value}
use Rattle.slab.specs.Slab.{Slab, Updates, get, with_value}
use Rattle.cache_loop.specs.Turns.{ChangesPair, SamePairs, pair_at, pair_of}
use Rattle.cache_loop.specs.declared.doorway.Stream.{Stream}
use Rattle.cache_loop.specs.declared.served.Served.{Served}

module _ {L : Type 0} where
  pub pair-updated : (p q : Slab (Served L)) (key : ℕ) (slot : Option (Served L)) → Updates p q key slot → ChangesPair p q key (option_map pair_of slot)
  pair-updated p q key slot updates = record {
    changed = ap (λ (one : Option (Served L)). option_map pair_of one) updates.changed;
    others = λ other differs. ap (λ (one : Option (Served L)). option_map pair_of one) (updates.others other differs);
  }

  -- a value was written at a key that has one
  pub pair-written : (p : Slab (Served L)) (key : ℕ) (was is : Served L) → get p key ≡ Some was → ChangesPair p (with_value p key is) key (Some (pair_of is))
  pair-written p key was is there = pair-updated p (with_value p key is) key (Some is) (Updates-with_value p key is (ap is_some there))

  -- with the pair that it had
  pub pairs-kept : (p : Slab (Served L)) (key : ℕ) (was is : Served L) → get p key ≡ Some was → is.stream ≡ was.stream → is.link ≡ was.link → SamePairs p (with_value p key is)
  pairs-kept p key was is there stream link = λ other.
      let new = pair-written p key was is there in
      elim (cases_eq other key) [
        | inl same ↦ subst (λ k. pair_at (with_value p key is) k ≡ pair_at p k) (sym same)
            (new.changed ∙ ap (λ (s : Stream). Some (s, is.link)) stream ∙ ap (λ (l : L). Some (was.stream, l)) link
            ∙ sym (ap (λ (one : Option (Served L)). option_map pair_of one) there))
        | inr differs ↦ new.others other differs
      ]

  pub same-on : (p m q : Slab (Served L)) → SamePairs p m → SamePairs m q → SamePairs p q
  same-on p m q first second = λ key. second key ∙ first key

  pub changed-then : (p m q : Slab (Served L)) (key : ℕ) (pair : Option (Stream × L)) → ChangesPair p m key pair → SamePairs m q → ChangesPair p q key pair
  changed-then p m q key pair change same = record {
    changed = same key ∙ change.changed;
    others = λ other differs. same other ∙ change.others other differs;
  }

  -- one was written at a key, with the socket that was there and another link
  pub pair-told : (p : Slab (Served L)) (key : ℕ) (was is : Served L) → get p key ≡ Some was → is.stream ≡ was.stream → ChangesPair p (with_value p key is) key (Some (was.stream, is.link))
  pair-told p key was is there stream =
      let new = pair-written p key was is there in
      record { changed = new.changed ∙ ap (λ (s : Stream). Some (s, is.link)) stream; others = new.others }

  -- the pair at a key that has a value
  pub pair-there : (p : Slab (Served L)) (key : ℕ) (was : Served L) → get p key ≡ Some was → pair_at p key ≡ Some (pair_of was)
  pair-there p key was there = ap (λ (one : Option (Served L)). option_map pair_of one) there

  -- there is room for as many, or for more
  pub pairs-roomier : (p m : Slab (Served L)) → m ≡ record p { capacity = m.capacity } → SamePairs p m
  pairs-roomier p m same = λ key. ap (λ (x : Slab (Served L)). pair_at x key) same

  pub pairs-same : (p m : Slab (Served L)) → m ≡ p → SamePairs p m
  pairs-same p m same = λ key. ap (λ (x : Slab (Served L)). pair_at x key) same

  -- room was made, and a connection came
  pub pair-seated : (p m q : Slab (Served L)) (key : ℕ) (one : Served L) (socket : Stream) (link : L) → m ≡ record p { capacity = m.capacity } → key ≡ m.vacant_key → get m key ≡ None → Updates m q key (Some one)
      → one.stream ≡ socket → one.link ≡ link → (pair_at p p.vacant_key ≡ None) × ChangesPair p q p.vacant_key (Some (socket, link))
  pair-seated p m q key one socket link same is vacant updates stream its =
      let keys : key ≡ p.vacant_key = is ∙ ap (λ (x : Slab (Served L)). x.vacant_key) same in
      let gets : (k : ℕ) → get m k ≡ get p k = λ k. ap (λ (x : Slab (Served L)). get x k) same in
      let none : get m p.vacant_key ≡ None = subst (λ k. get m k ≡ None) keys vacant in
      let some : get q p.vacant_key ≡ Some one = subst (λ k. get q k ≡ Some one) keys updates.changed in (
        ap (λ (x : Option (Served L)). option_map pair_of x) (sym (gets p.vacant_key) ∙ none),
        record {
          changed = ap (λ (x : Option (Served L)). option_map pair_of x) some ∙ ap (λ (s : Stream). Some (s, one.link)) stream ∙ ap (λ (l : L). Some (socket, l)) its;
          others = λ other differs. ap (λ (x : Option (Served L)). option_map pair_of x) (updates.others other (λ e. differs (e ∙ keys)) ∙ gets other);
        },
      )
