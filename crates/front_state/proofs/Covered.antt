-- Predicates in all parts, notices that are taken, and what an iterator goes over, of a steady front.
use Rattle.std.proofs.Common.{◌≡◌, refl, ap, sym, ◌∙◌, subst, ℕ, zero, suc, ◌^◌, ◌<◌, ◌⊎◌, inl, inr, arith, Bool, true, false, cond, List, [], ◌∷◌, length, Some, option_map}
use Rattle.std.proofs.Math.Logic.{∥∥₁_elim, ∥∥₁_map}
use Rattle.std.proofs.Props.{props}
use Rattle.std.proofs.lemmas.Bool.{eqb-true}
use Rattle.std.specs.Cmp.{IsEquivalence}
use Rattle.std.specs.List.{fold}
use Rattle.std.specs.Prelude.{slice_get, ◌==◌}
use Rattle.rand_core.specs.Stream.{Stream}
use Rattle.engine_reference.specs.Calls.{with_predicate, without_notice}
use Rattle.engine_reference.specs.Records.{held_entries}
use Rattle.engine_reference.specs.State.{State}
use Rattle.engine_reference.specs.Soundness.{Each}
use Rattle.engine_reference.specs.declared.data.Entry.{Entry}
use Rattle.engine_reference.specs.declared.data.Notice.{Notice}
use Rattle.engine_reference.specs.declared.data.Record.{Record}
use Rattle.engine_reference.specs.declared.data.Registered.{Registered}
use Rattle.front_reference.specs.Fronts.{CallsEach, Front, part_of, passed, share_of}
use Rattle.front_reference.specs.Keeping.{Common, IsKept}
use Rattle.front_reference.specs.Wholes.{HasGiven, registered_in, taken_or, without_told}
use Rattle.front_reference.specs.declared.data.At.{At}
use Rattle.front_reference.proofs.laws.Kept.{calls_keep}
use Rattle.front_parts.proofs.wholes.Drawn.{draws-long}
use Rattle.front_reference.specs.declared.errors.CacheError.{CacheError}
use Rattle.front_reference.specs.declared.errors.CacheError.TheVariants as errors
use Rattle.front_parts.specs.Wholes.Covering.{CoversEach, IsCoverCause, TakeAll}
use Rattle.front_parts.specs.Places.Told.{without_told_at}
use Rattle.front_parts.specs.Places.Calls.{IsSteadyBy, Ways, hash_in, keys_of, visible_in, visible_of}
use Rattle.front_state.specs.Covering.{CoversAll, IsCauseToCover, keys_of_part}
use Rattle.front_parts.specs.Iterator.Coming.{all_pairs, source_at}
use Rattle.front_parts.proofs.iterator.Keyed.{Has, first-or}
use Rattle.front_parts.proofs.iterator.Fronts.{GoesOver, IsSpread, all_given}
use Rattle.engine_reference.specs.Rules.Hashing.{hash_of_key}
use Rattle.front_state.proofs.Steady.{Keeps, KeepsEach, apart-untruncated}

module _ {K V P S R : Type 0} where
  -- a predicate is registered in a part
  abbrev pub Registers : State K V P S R → State K V P S R → Type 0
  Registers s t = (r : Registered P) × (t ≡ with_predicate r s)

  registered-long : (p : P) (step : ℕ) (ids : List ℕ) (ss : List (State K V P S R)) → length ids ≡ length ss → length (registered_in p step ids ss) ≡ length ss
  registered-long p step [] ss e = refl
  registered-long p step (id ∷ ids) [] e = refl
  registered-long p step (id ∷ ids) (s ∷ ss) e = let less : length ids ≡ length ss = omega arith in ap suc (registered-long p step ids ss less)

  registered-there : (p : P) (step : ℕ) (ids : List ℕ) (ss : List (State K V P S R)) → length ids ≡ length ss → (place : ℕ) (s : State K V P S R) → slice_get ss place ≡ Some s
      → (t : State K V P S R) × (slice_get (registered_in p step ids ss) place ≡ Some t) × Registers s t
  registered-there p step ids [] e place s at = absurd (let no : ⊥ = cc in no)
  registered-there p step [] (x ∷ ss) e place s at = absurd (omega arith)
  registered-there p step (id ∷ ids) (x ∷ ss) e zero s at =
      let same : x ≡ s = cc in
      let r : Registered P = record { id = id; predicate = p; step = step } in
      (with_predicate r x, refl, (r, ap (λ y. with_predicate r y) same))
  registered-there p step (id ∷ ids) (x ∷ ss) e (suc place) s at = registered-there p step ids ss (omega arith) place s at

  pub registers-each : (p : P) (step : ℕ) (drawn left : Stream) (first : ℕ) (old new : List (State K V P S R)) → CoversEach p step drawn left first old new → CallsEach Registers old new
  registers-each p step drawn left first old new h =
      let long = draws-long old drawn left h.ids h.draws in
      subst (λ xs. CallsEach Registers old xs) (sym h.registers) (record {
        count = registered-long p step h.ids old long;
        each = registered-there p step h.ids old long;
      })

  -- a notice is taken of a part, or not
  told-long : (ns : List (Notice K V)) (a b : List (State K V P S R)) → length a ≡ length b → length (taken_or ns a b) ≡ length b
  told-long [] a b e = refl
  told-long (n ∷ ns) a b e = e

  without_told-long : (ss : List (State K V P S R)) → length (without_told ss) ≡ length ss
  without_told-long [] = refl
  without_told-long (s ∷ ss) =
      let less = without_told-long ss in
      told-long s.notices (without_notice s ∷ ss) (s ∷ without_told ss) (ap suc (sym less)) ∙ ap suc less

  abbrev Left : State K V P S R → State K V P S R → Type 0
  Left s t = (t ≡ s) ⊎ (t ≡ without_notice s)

  left-there : (ss : List (State K V P S R)) (place : ℕ) (t : State K V P S R) → slice_get (without_told ss) place ≡ Some t → (s : State K V P S R) × (slice_get ss place ≡ Some s) × Left s t
  left-there [] place t at = absurd (let no : ⊥ = cc in no)
  left-there (x ∷ ss) place t at = go x.notices place (λ p h. left-there ss p t h) at
    where
      go : (ns : List (Notice K V)) (place : ℕ) → ((p : ℕ) → slice_get (without_told ss) p ≡ Some t → (s : State K V P S R) × (slice_get ss p ≡ Some s) × Left s t)
          → slice_get (taken_or ns (without_notice x ∷ ss) (x ∷ without_told ss)) place ≡ Some t → (s : State K V P S R) × (slice_get (x ∷ ss) place ≡ Some s) × Left s t
      go [] zero others at = let same : x ≡ t = cc in (x, refl, inl (sym same))
      go [] (suc place) others at = others place at
      go (n ∷ ns) zero others at = let same : without_notice x ≡ t = cc in (x, refl, inr (sym same))
      go (n ∷ ns) (suc place) others at = (t, at, inl refl)

  without_told_at-long : (place : ℕ) (ss : List (State K V P S R)) → length (without_told_at place ss) ≡ length ss
  without_told_at-long place [] = refl
  without_told_at-long zero (x ∷ ss) = refl
  without_told_at-long (suc place) (x ∷ ss) = ap suc (without_told_at-long place ss)

  left-at : (place : ℕ) (ss : List (State K V P S R)) (k : ℕ) (t : State K V P S R) → slice_get (without_told_at place ss) k ≡ Some t → (s : State K V P S R) × (slice_get ss k ≡ Some s) × Left s t
  left-at place [] k t at = absurd (let no : ⊥ = cc in no)
  left-at zero (x ∷ ss) zero t at = let same : without_notice x ≡ t = cc in (x, refl, inr (sym same))
  left-at zero (x ∷ ss) (suc k) t at = (t, at, inl refl)
  left-at (suc place) (x ∷ ss) zero t at = let same : x ≡ t = cc in (x, refl, inl (sym same))
  left-at (suc place) (x ∷ ss) (suc k) t at = left-at place ss k t at

module _ {K V P S R : Type 0} (ways : Ways K V P S R) where
  pub covering_keeps : (now step : ℕ) → KeepsEach ways now step (Registers {K = K} {V = V} {P = P} {S = S} {R = R})
  covering_keeps now step common belongs moment last s t later less does old =
      subst (λ x. IsKept 63 ways.eq common belongs now step x) (sym does.1)
      ((calls_keep K V P S R).covered common 63 ways.eq belongs now step does.0 s ((calls_keep K V P S R).later common 63 ways.eq belongs moment last now step s later less old))

  pub covers_all : (f g : Front K V P S R) (p : P) (at : At) (drawn left : Stream) (first : ℕ) (parts : List (State K V P S R)) → f ≡ g → CoversEach p at.step drawn left first f.parts parts
      → CoversAll p at drawn left first g (passed at.now at.step (record f { parts = parts }))
  covers_all f g p at drawn left first parts same each = subst (λ (x : Front K V P S R). CoversAll p at drawn left first x (passed at.now at.step (record f { parts = parts }))) same (record { parts = parts; covers = each; changed = refl })

  -- notices are taken of parts
  steady-left : (f : Front K V P S R) (parts : List (State K V P S R)) → length parts ≡ length f.parts
      → ((place : ℕ) (t : State K V P S R) → slice_get parts place ≡ Some t → (s : State K V P S R) × (slice_get f.parts place ≡ Some s) × Left s t) → IsSteadyBy ways f → IsSteadyBy ways (record f { parts = parts })
  steady-left f parts long left k = record {
    kept = λ place t at.
        let l = left place t at in
        let belongs = λ (key : K). part_of f.bits (hash_in ways f key) == place in
        let old = k.kept place l.0 l.1 in
        elim l.2 [
          | inl same ↦ subst (λ x. IsKept 63 ways.eq f.common belongs f.moment f.step x) (sym same) old
          | inr taken ↦ subst (λ x. IsKept 63 ways.eq f.common belongs f.moment f.step x) (sym taken) ((calls_keep K V P S R).taken f.common 63 ways.eq belongs f.moment f.step l.0 old)
        ];
    count = long ∙ k.count;
    few = k.few;
    share = k.share ∙ ap (λ n. option_map (share_of n) f.capacity) (sym long);
    turns = k.turns;
  }

  pub stays_told : (f : Front K V P S R) (parts : List (State K V P S R)) → parts ≡ without_told f.parts → Keeps ways f → Keeps ways (record f { parts = parts })
  stays_told f parts is k = subst (λ xs. Keeps ways (record f { parts = xs })) (sym is) (∥∥₁_map k (λ x. steady-left f (without_told f.parts) (without_told-long f.parts) (left-there f.parts) x))

  pub stays_told_at : (f : Front K V P S R) (place : ℕ) (parts : List (State K V P S R)) → parts ≡ without_told_at place f.parts → Keeps ways f → Keeps ways (record f { parts = parts })
  stays_told_at f place parts is k =
      subst (λ xs. Keeps ways (record f { parts = xs })) (sym is) (∥∥₁_map k (λ x. steady-left f (without_told_at place f.parts) (without_told_at-long place f.parts) (left-at place f.parts) x))

  pub takes_of : (f g : Front K V P S R) → f ≡ g → Keeps ways f → g.common.settings.takes_predicates ≡ true → TakeAll f.parts
  takes_of f g same k takes place s at =
      ∥∥₁_elim k (Prim.hlevel props) (λ x. ap (λ (o : Common S R). o.settings.takes_predicates) (x.kept place s at).made ∙ ap (λ (h : Front K V P S R). h.common.settings.takes_predicates) same ∙ takes)

  pub some_parts : (f : Front K V P S R) → Keeps ways f → 0 < length f.parts
  some_parts f k = ∥∥₁_elim k (Prim.hlevel props) (λ x. let e = x.count in let some = pow-some f.bits in omega arith)
    where
      pow-some : (n : ℕ) → 0 < 2 ^ n
      pow-some zero = omega arith
      pow-some (suc n) = let l = pow-some n in omega arith

-- what is held belongs where its record does
each-held : {K V : Type 0} (belongs : K → Bool) (rs : List (Record K V)) (e : Entry K V) → Each (λ r. belongs r.entry.key ≡ true) rs → Has (held_entries rs) e → belongs e.key ≡ true
each-held belongs [] e h there = absurd (let n = there.1 in let no : ⊥ = cc in no)
each-held {K = K} {V = V} belongs (r ∷ rs) e h there = by_held r.is_held (λ more. each-held belongs rs e h.1 more) there
  where
    by_held : (b : Bool) → (Has (held_entries rs) e → belongs e.key ≡ true) → Has (cond b (r.entry ∷ held_entries rs) (held_entries rs)) e → belongs e.key ≡ true
    by_held true others there = elim (first-or r.entry (held_entries rs) e there) [ inl same ↦ ap (λ (x : Entry K V). belongs x.key) (sym same) ∙ h.0 | inr more ↦ others more ]
    by_held false others there = others there

module _ {K V P S R : Type 0} (ways : Ways K V P S R) where
  pub spread : (f : Front K V P S R) → Keeps ways f → IsSpread ways.answers ways.eq (λ key. hash_in ways f key) f
  spread f k = record {
    apart = λ place s at. apart-untruncated ways.eq (held_entries s.records) (∥∥₁_map k (λ x. (x.kept place s at).apart));
    belong = λ place s e at there. ∥∥₁_elim k (Prim.hlevel props) (λ x. eqb-true _ _ (each-held (λ key. part_of f.bits (hash_in ways f key) == place) s.records e (x.kept place s at).belong there));
  }

  pub goes_over : (f : Front K V P S R) (now : ℕ) → GoesOver ways.answers ways.eq (λ key. hash_in ways f key) now f (source_at (λ (g : Front K V P S R). length g.parts) keys_of_part (λ (g : Front K V P S R) now key. visible_in ways g now key) f now)
  goes_over f now = record {
    segments = refl;
    keys = λ place s at. ap keys_of at;
    values = λ key s at. ap (λ o. visible_of ways o now key) at;
  }

  pub gives_all : IsEquivalence ways.eq → (f g : Front K V P S R) (now : ℕ) (coming : List (K × V)) → f ≡ g → Keeps ways f → ((x y : K) → ways.eq x y ≡ true → hash_in ways f x ≡ hash_in ways f y)
      → coming ≡ all_pairs (source_at (λ (h : Front K V P S R). length h.parts) keys_of_part (λ (h : Front K V P S R) now key. visible_in ways h now key) g now)
      → HasGiven ways.answers ways.eq (λ key. hash_in ways g key) now g (length g.parts) coming
  gives_all laws f g now coming same k respects is =
      subst (λ (h : Front K V P S R). (coming ≡ all_pairs (source_at (λ (x : Front K V P S R). length x.parts) keys_of_part (λ (x : Front K V P S R) now key. visible_in ways x now key) h now)) → HasGiven ways.answers ways.eq (λ key. hash_in ways h key) now h (length h.parts) coming) same
      (λ is. subst (λ xs. HasGiven ways.answers ways.eq (λ key. hash_in ways f key) now f (length f.parts) xs) (sym is)
      (all_given ways.answers ways.eq laws (λ key. hash_in ways f key) now f (source_at (λ (h : Front K V P S R). length h.parts) keys_of_part (λ (h : Front K V P S R) now key. visible_in ways h now key) f now) (spread f k) (goes_over f now) respects))
      is

-- keys that feed a hasher alike have one hash
pub hash-alike : {K S H : Type 0} (finish : H → ℕ) (write : H → List ℕ → H) (build_hasher : S → H) (hash_input : K → List (List ℕ)) (hasher : S) (a b : K) → hash_input a ≡ hash_input b
    → hash_of_key finish write build_hasher hash_input hasher a ≡ hash_of_key finish write build_hasher hash_input hasher b
hash-alike finish write build_hasher hash_input hasher a b same = ap (λ w. finish (fold write (build_hasher hasher) w)) same

module _ {K V P S R : Type 0} (ways : Ways K V P S R) where
  pub steady_as : (f g : Front K V P S R) → f ≡ g → Keeps ways f → Keeps ways g
  steady_as f g same k = subst (λ x. Keeps ways x) same k

  pub part_as : (f g : Front K V P S R) (place h : ℕ) (key : K) → f ≡ g → h ≡ hash_in ways f key → place ≡ part_of f.bits h → place ≡ part_of g.bits (hash_in ways g key)
  part_as f g place h key same is placed = placed ∙ ap (λ n. part_of f.bits n) is ∙ ap (λ (x : Front K V P S R). part_of x.bits (hash_in ways x key)) same

  pub within_as : (f g : Front K V P S R) (place : ℕ) → f ≡ g → Keeps ways f → place < 2 ^ f.bits → place < length g.parts
  within_as f g place same k low = subst (λ (x : Front K V P S R). place < length x.parts) same (∥∥₁_elim k (Prim.hlevel props) (λ x. let e = x.count in omega arith))

  pub cause_as : (f g : Front K V P S R) (a b : Stream) (e : CacheError) → f ≡ g → IsCoverCause f.parts a b e → IsCauseToCover g a b e
  cause_as f g a b e same h = by_kind e (subst (λ (x : Front K V P S R). IsCoverCause x.parts a b e) same h)
    where
      by_kind : (e : CacheError) → IsCoverCause g.parts a b e → IsCauseToCover g a b e
      by_kind errors.OutOfMemory h = h
      by_kind errors.UsedUp h = h
      by_kind errors.InvalidationClosuresDisabled h = absurd h
      by_kind errors.IdsInUse h = h
      by_kind errors.UnknownTurn h = h
      by_kind errors.Abandoned h = h
