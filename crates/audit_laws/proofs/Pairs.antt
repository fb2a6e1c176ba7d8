-- What holds of each two elements of a list, the earlier one first.
use Rattle.std.proofs.Common.{arith, ◌≡◌, ℕ, Bool, false, List, [], ◌∷◌, ◌++◌, map}
use Rattle.std.specs.List.{AllByRecursion, IsDistinct, filter}
use Rattle.audit_model.specs.Bytewise.{same}
use Rattle.audit_model.specs.Values.{without_key, untold}
use Rattle.audit_model.specs.declared.transcript.Note.{Note}
use Rattle.audit_laws.proofs.Told.{each-filter, Each, each-append, each-map, each-without_key}
use Rattle.std.proofs.lemmas.Bool.Decides.{nat_tests}

abbrev pub Pairs : {X : Type 0} → (X → X → Type 0) → List X → Type 0
Pairs R [] = Unit {0}
Pairs R (x ∷ xs) = Each (R x) xs × Pairs R xs

pub pairs-append : {X : Type 0} (R : X → X → Type 0) (xs ys : List X) → Pairs R xs → Pairs R ys → Each (λ x. Each (R x) ys) xs → Pairs R (xs ++ ys)
pairs-append R [] ys h k b = k
pairs-append R (x ∷ xs) ys (e, h) k (c, b) = (each-append (R x) xs ys e c, pairs-append R xs ys h k b)

pub pairs-map : {X Y : Type 0} (R : Y → Y → Type 0) (f : X → Y) (xs : List X) → Pairs (λ a b. R (f a) (f b)) xs → Pairs R (map f xs)
pairs-map R f [] h = tt
pairs-map R f (x ∷ xs) (e, h) = (each-map (R (f x)) f xs e, pairs-map R f xs h)

pub pairs-filter : {X : Type 0} (R : X → X → Type 0) (p : X → Bool) (xs : List X) → Pairs R xs → Pairs R (filter p xs)
pairs-filter R p [] h = tt
pairs-filter R p (x ∷ xs) (e, h) = let next = each-filter (R x) p xs e in let next2 = pairs-filter R p xs h in grind (arith, nat_tests, next, next2)

pairs-without_key : {X : Type 0} (R : X → X → Type 0) (key_of : X → List ℕ) (key : List ℕ) (xs : List X) → Pairs R xs → Pairs R (without_key key_of key xs)
pairs-without_key R key_of key [] h = tt
pairs-without_key R key_of key (x ∷ xs) (e, h) = let next = each-without_key (R x) key_of key xs e in let next2 = pairs-without_key R key_of key xs h in grind (arith, nat_tests, next, next2)

pub pairs-untold : {X : Type 0} (R : X → X → Type 0) (key_of : X → List ℕ) (notes : List Note) (xs : List X) → Pairs R xs → Pairs R (untold key_of notes xs)
pairs-untold R key_of [] xs h = h
pairs-untold R key_of (note ∷ notes) xs h = pairs-untold R key_of notes (without_key key_of note.key xs) (pairs-without_key R key_of note.key xs h)

pub each-joined : {X : Type 0} (P Q S : X → Type 0) (xs : List X) → ((x : X) → P x → Q x → S x) → Each P xs → Each Q xs → Each S xs
each-joined P Q S [] f h k = tt
each-joined P Q S (x ∷ xs) f (p, h) (q, k) = (f x p q, each-joined P Q S xs f h k)

-- a relation that follows for each two elements of which more is known
pub pairs-joined : {X : Type 0} (R S : X → X → Type 0) (P Q : X → Type 0) (xs : List X) → ((x y : X) → R x y → P x → Q y → S x y) → Pairs R xs → Each P xs → Each Q xs → Pairs S xs
pairs-joined R S P Q [] f h p q = tt
pairs-joined R S P Q (x ∷ xs) f (e, h) (p, ps) (q, qs) = (each-joined (R x) Q (S x) xs (λ y r k. f x y r p k) e qs, pairs-joined R S P Q xs f h ps qs)

-- ---- std's words for the same

pub each_of_all : {X : Type 0} (P : X → Type 0) (xs : List X) → AllByRecursion P xs → Each P xs
each_of_all P [] h = tt
each_of_all P (x ∷ xs) (p, h) = (p, each_of_all P xs h)

pub all_of_each : {X : Type 0} (P : X → Type 0) (xs : List X) → Each P xs → AllByRecursion P xs
all_of_each P [] h = tt
all_of_each P (x ∷ xs) (p, h) = (p, all_of_each P xs h)

abbrev pub Differ : List ℕ → List ℕ → Type 0
Differ a b = same a b ≡ false

pub pairs-distinct : (keys : List (List ℕ)) → IsDistinct same keys → Pairs Differ keys
unfolding IsDistinct
pairs-distinct [] h = tt
pairs-distinct (k ∷ ks) (e, h) = (each_of_all (Differ k) ks e, pairs-distinct ks h)

pub distinct-pairs : (keys : List (List ℕ)) → Pairs Differ keys → IsDistinct same keys
unfolding IsDistinct
distinct-pairs [] h = tt
distinct-pairs (k ∷ ks) (e, h) = (all_of_each (Differ k) ks e, distinct-pairs ks h)
