-- Places that move by one.
use Rattle.std.proofs.Common.{◌≡◌, ℕ, ◌+◌, ◌-◌, List, [], ◌∷◌, ◌++◌, length, set, take, drop, sym, ap, ◌∙◌, arith, append_assoc}
use Rattle.std.specs.List.{between}
use Rattle.std.proofs.lemmas.List.{take_at, drop_at, set_at, length-append}
use borrow.Rule.Slice.PartMut.{put_mid}
use Rattle.policy_queue.specs.declared.timers.places.Place.{Place}

pub shifted_up : (ps part : List Place) (at spare : ℕ) (p : Place) (a b d : List Place) (x : Place) → part ≡ drop (length (between at (spare + 1) ps) - 1) (between at (spare + 1) ps) ++ take (length (between at (spare + 1) ps) - 1) (between at (spare + 1) ps)
    → ps ≡ a ++ (b ++ x ∷ d) → length a ≡ at → at + length b ≡ spare → put_mid at (spare + 1 - at) ps (set part 0 p) ≡ a ++ p ∷ (b ++ d)
shifted_up ps part at spare p a b d x turned whole from to =
    let k : ℕ = spare + 1 - at in
    let turn : List Place → List Place = λ xs. drop (length xs - 1) xs ++ take (length xs - 1) xs in
    let ends : List Place = b ++ x ∷ [] in
    let len : length ends ≡ length b + 1 = length-append b (x ∷ []) in
    let n : ℕ = length ends - 1 in
    let low : take at ps ≡ a = ap (take at) whole ∙ take_at a (b ++ x ∷ d) at from in
    let high : drop at ps ≡ ends ++ d = ap (drop at) whole ∙ drop_at a (b ++ x ∷ d) at from ∙ sym (append_assoc b (x ∷ []) d) in
    let middle : between at (spare + 1) ps ≡ ends = ap (take k) high ∙ take_at ends d k (omega arith) in
    let rest : drop k (drop at ps) ≡ d = ap (drop k) high ∙ drop_at ends d k (omega arith) in
    let was : turn ends ≡ x ∷ b = ap (λ l. l ++ take n ends) (drop_at b (x ∷ []) n (omega arith)) ∙ ap (λ l. x ∷ l) (take_at b (x ∷ []) n (omega arith)) in
    let now : part ≡ x ∷ b = turned ∙ ap turn middle ∙ was in
    ap (λ l. l ++ (set part 0 p ++ drop k (drop at ps))) low ∙ ap (λ l. a ++ (set l 0 p ++ drop k (drop at ps))) now ∙ ap (λ r. a ++ (p ∷ b ++ r)) rest

pub shifted_down : (ps part : List Place) (at spare : ℕ) (p : Place) (a b d : List Place) (x : Place) → part ≡ drop 1 (between spare at ps) ++ take 1 (between spare at ps)
    → ps ≡ a ++ x ∷ (b ++ d) → length a ≡ spare → spare + 1 + length b ≡ at → put_mid spare (at - spare) ps (set part (at - spare - 1) p) ≡ a ++ (b ++ p ∷ d)
shifted_down ps part at spare p a b d x turned whole from to =
    let k : ℕ = at - spare in
    let turn : List Place → List Place = λ xs. drop 1 xs ++ take 1 xs in
    let low : take spare ps ≡ a = ap (take spare) whole ∙ take_at a (x ∷ (b ++ d)) spare from in
    let high : drop spare ps ≡ x ∷ b ++ d = ap (drop spare) whole ∙ drop_at a (x ∷ (b ++ d)) spare from in
    let middle : between spare at ps ≡ x ∷ b = ap (take k) high ∙ take_at (x ∷ b) d k (omega arith) in
    let rest : drop k (drop spare ps) ≡ d = ap (drop k) high ∙ drop_at (x ∷ b) d k (omega arith) in
    let now : part ≡ b ++ x ∷ [] = turned ∙ ap turn middle in
    let put : set part (k - 1) p ≡ b ++ p ∷ [] = ap (λ l. set l (k - 1) p) now ∙ set_at b x [] p (k - 1) (omega arith) in
    ap (λ l. l ++ (set part (k - 1) p ++ drop k (drop spare ps))) low
    ∙ ap (λ l. a ++ (l ++ drop k (drop spare ps))) put
    ∙ ap (λ r. a ++ ((b ++ p ∷ []) ++ r)) rest
    ∙ ap (λ l. a ++ l) (append_assoc b (p ∷ []) d)
