-- What a piece that is fed comes to.
use Rattle.std.proofs.Common.{◌≡◌, ◌∙◌, ℕ, arith, Bool, false, List, [], ◌∷◌, ◌++◌, length, Result, Ok, Err, OnOk, OnErr, refl, sym, ap, subst}
use Rattle.memcache_service.specs.Serving.{AreServed, HasLacked, HasRun, no_more}
use Rattle.memcache_service.specs.declared.shelf.Shelf.{Ghosts}
use Rattle.memcache_service.specs.declared.connection.Connection.{Connection}
use Rattle.memcache_service.specs.declared.stock.Stock.{Stock}

pub no-items : (xs : List ℕ) → length xs ≡ 0 → xs ≡ []
no-items [] none = refl
no-items (x ∷ xs) none = absurd (omega (arith, none))

module _ {T : Type 0} (shelf : Ghosts T) (moment most : ℕ) (first : Stock T) where
  -- the connection keeps what is left, or not
  abbrev pub RunsWith : (bytes : List ℕ) (skip : ℕ) (said : List ℕ) → Stock T → Connection → Type 0
  RunsWith bytes skip said new after = (left : List ℕ) × HasRun shelf moment most first bytes skip said new left after × (after.is_closed ≡ false → after.input.items ≡ left)

  abbrev pub LacksWith : (bytes : List ℕ) (skip : ℕ) (said : List ℕ) → Stock T → List ℕ → Type 0
  LacksWith bytes skip said new after = HasLacked shelf moment most first bytes skip said new after

  -- the same, by what the bytes, how many of them were passed over, and the replies were
  pub moved : (P : List ℕ → ℕ → List ℕ → Type 0) (b c : List ℕ) (s t : ℕ) (o p : List ℕ) → b ≡ c → s ≡ t → o ≡ p → P b s o → P c t p
  moved P b c s t o p bytes skip said h = subst (λ z. P c t z) said (subst (λ z. P c z o) skip (subst (λ z. P z s o) bytes h))

  -- only its input changes
  pub ran-as : (bytes : List ℕ) (skip : ℕ) (said : List ℕ) (new : Stock T) (left : List ℕ) (a b : Connection) → b ≡ record a { input = b.input } → HasRun shelf moment most first bytes skip said new left a → HasRun shelf moment most first bytes skip said new left b
  ran-as bytes skip said new left a b same ran = subst (λ (k : Connection). HasRun shelf moment most first bytes skip said new left k) (sym same) (record { served = ran.served; all = ran.all })

  -- what is left was kept
  pub kept-ran : {E : Type 0} (r : Result (Unit {0}) E) (bytes : List ℕ) (skip : ℕ) (said : List ℕ) (new : Stock T) (left there : List ℕ) (a b : Connection) → there ≡ left → a.input.items ≡ []
      → OnOk r (a.is_closed ≡ false → b.input.items ≡ a.input.items ++ there) → b ≡ record a { input = b.input } → HasRun shelf moment most first bytes skip said new left a → OnOk r (RunsWith bytes skip said new b)
  kept-ran (Ok x) bytes skip said new left there a b is none kept same ran = (
    left,
    ran-as bytes skip said new left a b same ran,
    λ still. kept (sym (ap (λ (k : Connection). k.is_closed) same) ∙ still) ∙ ap (λ z. z ++ there) none ∙ is,
  )
  kept-ran (Err e) bytes skip said new left there a b is none kept same ran = tt

  -- or there was no memory to keep it
  pub kept-lacked : {E : Type 0} (r : Result (Unit {0}) E) (bytes : List ℕ) (skip : ℕ) (said : List ℕ) (new : Stock T) (left : List ℕ) (a b : Connection) → OnErr r (a.is_closed ≡ false)
      → b ≡ record a { input = b.input } → HasRun shelf moment most first bytes skip said new left a → OnErr r (LacksWith bytes skip said new b.output.items)
  kept-lacked (Ok x) bytes skip said new left a b still same ran = tt
  kept-lacked (Err e) bytes skip said new left a b still same ran = record {
    last = new;
    left = left;
    skip = a.skip;
    served =
        subst (λ (after : List ℕ). AreServed shelf moment most first bytes skip said new left a.skip after false) (sym (ap (λ (k : Connection). k.output.items) same))
        (subst (λ (ends : Bool). AreServed shelf moment most first bytes skip said new left a.skip a.output.items ends) still ran.served);
    spared = record { shelf = refl; uniques = refl; flush = refl; most = refl; counters = refl };
  }

  -- or none ran
  pub none-ran : (bytes : List ℕ) (skip : ℕ) (said after : List ℕ) → after ≡ said → LacksWith bytes skip said first after
  none-ran bytes skip said after same = record {
    last = first;
    left = bytes;
    skip = skip;
    served = subst (λ (z : List ℕ). AreServed shelf moment most first bytes skip said first bytes skip z false) (sym same) no_more;
    spared = record { shelf = refl; uniques = refl; flush = refl; most = refl; counters = refl };
  }
