-- How often connections stand among those that wait.
use Rattle.std.proofs.Common.{inr, inl, ◌≡◌, ℕ, ◌+◌, ◌≤◌, Bool, false, not, ◌==◌, List, [], ◌∷◌, ◌++◌, map, None, if◌then◌else◌, refl, ap, ◌∙◌, subst, arith}
use Rattle.std.specs.List.{filter, find}
use Rattle.std.specs.Option.{option_map_or}
use Rattle.std.proofs.lemmas.Bool.{cases_Bool, eq-eqb}
use Rattle.std.proofs.lemmas.Slice.Eq.{bytes_eq-Decides}
use Rattle.audit_model.specs.Bytewise.{same}
use Rattle.audit_model.specs.Situation.{PendingLoad, with_waiting, without_waiting}
use Rattle.audit_laws.specs.Waiting.Tidy.{times_in, times_loaded, times_waiting}
use Rattle.std.proofs.lemmas.Bool.Decides.{nat_tests}

-- 1 or 0
abbrev pub one_if : Bool → ℕ
one_if b = if b then 1 else 0

pub times-append : (c : ℕ) (xs ys : List ℕ) → times_in c (xs ++ ys) ≡ times_in c xs + times_in c ys
times-append c [] ys = omega arith
times-append c (x ∷ xs) ys = let e = times-append c xs ys in omega arith

-- a connection that was taken out stands there no more
pub times-out : (c : ℕ) (xs : List ℕ) → times_in c (filter (λ n. not (n == c)) xs) ≡ 0
times-out c [] = refl
times-out c (x ∷ xs) = let next = times-out c xs in grind (arith, nat_tests, next)

-- the others stay
pub times-others : (c n : ℕ) (xs : List ℕ) → (n == c) ≡ false → times_in c (filter (λ k. not (k == n)) xs) ≡ times_in c xs
times-others c n [] ne = refl
times-others c n (x ∷ xs) ne = let next = times-others c n xs ne in grind (arith, nat_tests, next)

pub waiting-out : (c : ℕ) (loads : List PendingLoad) → times_waiting c (map (without_waiting c) loads) ≡ 0
waiting-out c [] = refl
waiting-out c (load ∷ loads) = let a = times-out c load.waiting in let b = waiting-out c loads in omega arith

pub waiting-others : (c n : ℕ) (loads : List PendingLoad) → (n == c) ≡ false → times_waiting c (map (without_waiting n) loads) ≡ times_waiting c loads
waiting-others c n [] ne = refl
waiting-others c n (load ∷ loads) ne = ap (λ k. k + times_waiting c (map (without_waiting n) loads)) (times-others c n load.waiting ne) ∙ ap (λ k. times_in c load.waiting + k) (waiting-others c n loads ne)

pub loaded-out : (key : List ℕ) (n : ℕ) (loads : List PendingLoad) → times_loaded key (map (without_waiting n) loads) ≡ times_loaded key loads
loaded-out key n [] = refl
loaded-out key n (load ∷ loads) = ap (λ k. one_if (same load.key key) + k) (loaded-out key n loads)

-- ---- a connection joins the loads of a key

pub loaded-joined : (key joined : List ℕ) (n : ℕ) (loads : List PendingLoad) → times_loaded key (map (with_waiting n joined) loads) ≡ times_loaded key loads
loaded-joined key joined n [] = refl
loaded-joined key joined n (load ∷ loads) = let next = loaded-joined key joined n loads in grind (arith, nat_tests, next)

pub joined-own : (n : ℕ) (key : List ℕ) (loads : List PendingLoad) → times_waiting n (map (with_waiting n key) loads) ≡ times_waiting n loads + times_loaded key loads
joined-own n key [] = refl
joined-own n key (load ∷ loads) =
    elim (cases_Bool (same load.key key)) [
      | inl e ↦ let next = joined-own n key loads in rw e (let added : times_in n (load.waiting ++ n ∷ []) ≡ times_in n load.waiting + 1 = times-append n load.waiting (n ∷ []) ∙ ap (λ b. times_in n load.waiting + (one_if b + 0)) (eq-eqb n n refl) in omega arith)
      | inr e ↦ let next = joined-own n key loads in rw e (omega arith)
    ]

pub joined-others : (c n : ℕ) (key : List ℕ) (loads : List PendingLoad) → (n == c) ≡ false → times_waiting c (map (with_waiting n key) loads) ≡ times_waiting c loads
joined-others c n key [] ne = refl
joined-others c n key (load ∷ loads) ne =
    elim (cases_Bool (same load.key key)) [
      | inl e ↦ let next = joined-others c n key loads ne in rw e (let added : times_in c (load.waiting ++ n ∷ []) ≡ times_in c load.waiting + 0 = times-append c load.waiting (n ∷ []) ∙ ap (λ b. times_in c load.waiting + (one_if b + 0)) ne in omega arith)
      | inr e ↦ rw e (ap (λ k. times_in c load.waiting + k) (joined-others c n key loads ne))
    ]

-- no load of the key is under way
pub none-loaded : (key : List ℕ) (loads : List PendingLoad) → find (λ load. same load.key key) loads ≡ None → times_loaded key loads ≡ 0
none-loaded key [] e = refl
none-loaded key (load ∷ loads) e = let next = none-loaded key loads in grind (arith, nat_tests, next, e)

-- one more load of a key of which none was
pub loaded-more : (key sent : List ℕ) (loads : List PendingLoad) → times_loaded sent loads ≡ 0 → times_loaded key loads ≤ 1 → one_if (same sent key) + times_loaded key loads ≤ 1
loaded-more key sent loads none few =
    elim (cases_Bool (same sent key)) [
      | inl is ↦ rw is (let zero_is : times_loaded key loads ≡ 0 = subst (λ k. times_loaded k loads ≡ 0) ((bytes_eq-Decides sent key).0 is) none in omega arith)
      | inr is ↦ rw is (omega arith)
    ]

-- ---- a load is settled

pub fewer-waiting : (p : PendingLoad → Bool) (c : ℕ) (loads : List PendingLoad) → times_waiting c (filter p loads) ≤ times_waiting c loads
fewer-waiting p c [] = omega arith
fewer-waiting p c (load ∷ loads) = let next = fewer-waiting p c loads in grind (arith, nat_tests, next)

pub fewer-loaded : (p : PendingLoad → Bool) (key : List ℕ) (loads : List PendingLoad) → times_loaded key (filter p loads) ≤ times_loaded key loads
fewer-loaded p key [] = omega arith
fewer-loaded p key (load ∷ loads) = let next = fewer-loaded p key loads in grind (arith, nat_tests, next)

pub settled-out : (number c : ℕ) (loads : List PendingLoad)
    → times_in c (option_map_or (λ (load : PendingLoad). load.waiting) (find (λ load. load.number == number) loads) []) + times_waiting c (filter (λ load. not (load.number == number)) loads) ≤ times_waiting c loads
settled-out number c [] = omega arith
settled-out number c (load ∷ loads) = let next = settled-out number c loads in let next2 = fewer-waiting (λ l. not (l.number == number)) c loads in grind (arith, nat_tests, next, next2)
