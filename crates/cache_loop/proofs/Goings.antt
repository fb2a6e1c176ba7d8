-- One thing after another for the connections of a loop.
use Rattle.std.proofs.Common.{◌≡◌, ℕ, Option, Result, refl, sym, subst}
use Rattle.slab.specs.Slab.{Slab}
use Rattle.cache_loop.specs.Turns.{GoesRound, SamePairs, begins, stays, settles, opens, hears, stops, turns, closes}
use Rattle.cache_loop.specs.declared.served.Served.{Served}
use Rattle.cache_loop.specs.declared.steward.Steward.{Ghosts as Ways}

module _ {S L : Type 0} (ways : Ways S L) where
  -- what went on, and then more
  pub goes-on : (p m : Slab (Served L)) (s u : S) (q : Slab (Served L)) (t : S) → GoesRound ways p s m u → GoesRound ways m u q t → GoesRound ways p s q t
  goes-on p m s u q t first begins = first
  goes-on p m s u q t first (stays n q' t' more same) = stays n q t (goes-on p m s u n t first more) same
  goes-on p m s u q t first (settles q' v t' more loads) = settles q v t (goes-on p m s u q v first more) loads
  goes-on p m s u q t first (opens result socket n q' v t' more one) = opens result socket n q v t (goes-on p m s u n v first more) one
  goes-on p m s u q t first (hears key readable ending n q' t' more told) = hears key readable ending n q t (goes-on p m s u n t first more) told
  goes-on p m s u q t first (stops key n q' t' more told) = stops key n q t (goes-on p m s u n t first more) told
  goes-on p m s u q t first (turns key n q' v t' more turn) = turns key n q v t (goes-on p m s u n v first more) turn
  goes-on p m s u q t first (closes key outcome given n q' v t' more closed) = closes key outcome given n q v t (goes-on p m s u n v first more) closed

  -- nothing was done
  pub goes-same : (p q : Slab (Served L)) (s : S) → q ≡ p → GoesRound ways p s q s
  goes-same p q s same = subst (λ (x : Slab (Served L)). GoesRound ways p s x s) (sym same) begins

  -- the same connections are there
  pub goes-from : (p m q : Slab (Served L)) (s t : S) → m ≡ p → GoesRound ways m s q t → GoesRound ways p s q t
  goes-from p m q s t same more = subst (λ (x : Slab (Served L)). GoesRound ways x s q t) same more
