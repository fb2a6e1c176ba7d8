-- Bytes that requests take.
use Rattle.std.proofs.Common.{◌≡◌, ℕ, Bool, false, ◌+◌, ◌-◌, ◌<◌, ◌≤◌, List, [], refl, length, drop, take, sym, ap, subst, ◌∙◌, min, arith, ⊎_elim}
use Rattle.std.proofs.lemmas.Bool.{cases_lt}
use Rattle.std.proofs.Math.ListN.{drop_of_length-le}
use Rattle.std.proofs.lemmas.List.{drop-drop, length-drop, take_all}
use Rattle.memcache_model.specs.Commands.{Request}
use Rattle.memcache_model.specs.Grammar.{Arrived, arrived, part, request}
use Rattle.memcache_service.specs.Serving.{AreServed, HasLacked, IsRequestServed, ends_behind, one_more}
use Rattle.memcache_service.specs.declared.shelf.Shelf.{Ghosts}
use Rattle.memcache_service.specs.Stocks.{Spares}
use Rattle.memcache_service.specs.declared.stock.Stock.{Stock}

-- less than a request stands at the front of no bytes
pub none-arrived : (most : ℕ) (r : Request) (used : ℕ) → arrived most [] ≡ request r used → ⊥
none-arrived most r used is = let none : arrived most [] ≡ part = refl in cc

-- so there are bytes where a request has arrived
pub some-arrived : (most : ℕ) (bytes : List ℕ) (start : ℕ) (r : Request) (used : ℕ) → arrived most (drop start bytes) ≡ request r used → start < length bytes
some-arrived most bytes start r used is = ⊎_elim
    (λ inside. inside)
    (λ behind. absurd (none-arrived most r used (subst (λ (b : List ℕ). arrived most b ≡ request r used) (drop_of_length-le bytes behind) is)))
    (cases_lt start (length bytes))

-- as many bytes as a request takes, or as there are
drop-there : (bytes : List ℕ) (start used there : ℕ) → start ≤ length bytes → there ≡ min used (length bytes - start) → drop used (drop start bytes) ≡ drop (start + there) bytes
drop-there bytes start used there within is = ⊎_elim
    (λ few. drop-drop used start bytes ∙ ap (λ n. drop n bytes) (omega (arith, is, few)))
    (λ many. drop-drop used start bytes ∙ drop_of_length-le bytes (omega (arith, many)) ∙ sym (drop_of_length-le bytes (omega (arith, is, many))))
    (cases_lt used (length bytes - start))

-- one more request was served
pub served_one : {T : Type 0} (shelf : Ghosts T) (moment most : ℕ) (first : Stock T) (bytes : List ℕ) (skipped : ℕ) (before : List ℕ) (mid new : Stock T) (r : Request) (used skip start there : ℕ) (between after : List ℕ)
    → start ≤ length bytes → there ≡ min used (length bytes - start) → AreServed shelf moment most first bytes skipped before mid (drop start bytes) skip between false
    → arrived most (drop start bytes) ≡ request r used → IsRequestServed shelf moment r mid new between after → AreServed shelf moment most first bytes skipped before new (drop (start + there) bytes) (used - there) after (ends_behind r.command)
served_one shelf moment most first bytes skipped before mid new r used skip start there between after within is were arrives served =
    let left = drop start bytes in
    let same : used - length left ≡ used - there = omega (arith, is, length-drop start bytes) in
    subst (λ (l : List ℕ). AreServed shelf moment most first bytes skipped before new l (used - there) after (ends_behind r.command)) (drop-there bytes start used there within is)
    (subst (λ (n : ℕ). AreServed shelf moment most first bytes skipped before new (drop used left) n after (ends_behind r.command)) same
    (one_more mid new r used skip left between after were arrives served))

-- what stands at the front of the bytes from a place on
pub arrived-from : (most now : ℕ) (bytes : List ℕ) (start : ℕ) (a : Arrived) → a ≡ arrived now (take (length bytes - start) (drop start bytes)) → now ≡ most → arrived most (drop start bytes) ≡ a
arrived-from most now bytes start a is same =
    sym (is ∙ ap (λ (n : ℕ). arrived n (take (length bytes - start) (drop start bytes))) same ∙ ap (arrived most) (take_all (length bytes - start) (drop start bytes) (omega (arith, length-drop start bytes))))

-- there was no memory for one more
pub lacked : {T : Type 0} (shelf : Ghosts T) (moment most : ℕ) (first : Stock T) (bytes : List ℕ) (skipped : ℕ) (before : List ℕ) (last new : Stock T) (left : List ℕ) (skip : ℕ) (between after : List ℕ) (ends : Bool)
    → ends ≡ false → AreServed shelf moment most first bytes skipped before last left skip between ends → Spares last new → after ≡ between → HasLacked shelf moment most first bytes skipped before new after
lacked shelf moment most first bytes skipped before last new left skip between after ends still were spared same = record {
  last = last;
  left = left;
  skip = skip;
  served = subst (λ (said : List ℕ). AreServed shelf moment most first bytes skipped before last left skip said false) (sym same) (subst (λ (e : Bool). AreServed shelf moment most first bytes skipped before last left skip between e) still were);
  spared = spared;
}
