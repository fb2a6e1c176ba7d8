-- What notes leave of a list, and what holds of each element.
use Rattle.std.proofs.Common.{inr, inl, ◌≡◌, refl, ap, ◌∙◌, ℕ, Bool, true, List, [], ◌∷◌, ◌++◌, map}
use Rattle.std.specs.Prelude.{IsTrue}
use Rattle.std.specs.List.{filter, list_all}
use Rattle.std.proofs.lemmas.Bool.{cases_Bool, cond_both, and_parts}
use Rattle.audit_model.specs.Bytewise.{same}
use Rattle.audit_model.specs.Values.{without_key, untold}
use Rattle.audit_model.specs.declared.transcript.Note.{Note}

abbrev pub Each : {X : Type 0} → (X → Type 0) → List X → Type 0
Each P [] = Unit {0}
Each P (x ∷ xs) = P x × Each P xs

pub each-append : {X : Type 0} (P : X → Type 0) (xs ys : List X) → Each P xs → Each P ys → Each P (xs ++ ys)
each-append P [] ys h k = k
each-append P (x ∷ xs) ys (p, h) k = (p, each-append P xs ys h k)

pub each-map : {X Y : Type 0} (P : Y → Type 0) (f : X → Y) (xs : List X) → Each (λ x. P (f x)) xs → Each P (map f xs)
each-map P f [] h = tt
each-map P f (x ∷ xs) (p, h) = (p, each-map P f xs h)

pub each_of_map : {X Y : Type 0} (P : Y → Type 0) (f : X → Y) (xs : List X) → Each P (map f xs) → Each (λ x. P (f x)) xs
each_of_map P f [] h = tt
each_of_map P f (x ∷ xs) (p, h) = (p, each_of_map P f xs h)

pub each-more : {X : Type 0} (P Q : X → Type 0) (xs : List X) → ((x : X) → P x → Q x) → Each P xs → Each Q xs
each-more P Q [] f h = tt
each-more P Q (x ∷ xs) f (p, h) = (f x p, each-more P Q xs f h)

pub each-both : {X : Type 0} (P Q : X → Type 0) (xs : List X) → Each P xs → Each Q xs → Each (λ x. P x × Q x) xs
each-both P Q [] h k = tt
each-both P Q (x ∷ xs) (p, h) (q, k) = ((p, q), each-both P Q xs h k)

pub each_passing : {X : Type 0} (p : X → Bool) (xs : List X) → IsTrue (list_all p xs) → Each (λ x. IsTrue (p x)) xs
each_passing p [] h = tt
each_passing p (x ∷ xs) h = let parts = and_parts (p x) (list_all p xs) h in (parts.0, each_passing p xs parts.1)

pub each-filter : {X : Type 0} (P : X → Type 0) (p : X → Bool) (xs : List X) → Each P xs → Each P (filter p xs)
each-filter P p [] h = tt
each-filter P p (x ∷ xs) (a, h) = cond_both (p x) _ _ (Each P) (λ _. (a, each-filter P p xs h)) (λ _. each-filter P p xs h)

pub each-passed : {X : Type 0} (p : X → Bool) (xs : List X) → Each (λ x. p x ≡ true) (filter p xs)
each-passed p [] = tt
each-passed p (x ∷ xs) = elim (cases_Bool (p x)) [ inl e ↦ rw e (e, each-passed p xs) | inr e ↦ rw e (each-passed p xs) ]

pub map-same : {X Y : Type 0} (f g : X → Y) (xs : List X) → Each (λ x. f x ≡ g x) xs → map f xs ≡ map g xs
map-same f g [] h = refl
map-same f g (x ∷ xs) (p, h) = ap (λ y. y ∷ map f xs) p ∙ ap (λ ys. g x ∷ ys) (map-same f g xs h)

pub each-without_key : {X : Type 0} (P : X → Type 0) (key_of : X → List ℕ) (key : List ℕ) (xs : List X) → Each P xs → Each P (without_key key_of key xs)
each-without_key P key_of key [] h = tt
each-without_key P key_of key (x ∷ xs) (p, h) = cond_both (same key (key_of x)) _ _ (Each P) (λ _. h) (λ _. (p, each-without_key P key_of key xs h))

pub each-untold : {X : Type 0} (P : X → Type 0) (key_of : X → List ℕ) (notes : List Note) (xs : List X) → Each P xs → Each P (untold key_of notes xs)
each-untold P key_of [] xs h = h
each-untold P key_of (note ∷ notes) xs h = each-untold P key_of notes (without_key key_of note.key xs) (each-without_key P key_of note.key xs h)

pub without_key-map : {X Y : Type 0} (f : X → Y) (key_of : Y → List ℕ) (key : List ℕ) (xs : List X)
    → without_key key_of key (map f xs) ≡ map f (without_key (λ x. key_of (f x)) key xs)
without_key-map f key_of key [] = refl
without_key-map f key_of key (x ∷ xs) =
    elim (cases_Bool (same key (key_of (f x)))) [ inl e ↦ rw e | inr e ↦ rw e (ap (λ l. f x ∷ l) (without_key-map f key_of key xs)) ]

pub untold-map : {X Y : Type 0} (f : X → Y) (key_of : Y → List ℕ) (notes : List Note) (xs : List X)
    → untold key_of notes (map f xs) ≡ map f (untold (λ x. key_of (f x)) notes xs)
untold-map f key_of [] xs = refl
untold-map f key_of (note ∷ notes) xs =
    ap (untold key_of notes) (without_key-map f key_of note.key xs) ∙ untold-map f key_of notes (without_key (λ x. key_of (f x)) note.key xs)
