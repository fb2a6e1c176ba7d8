-- Steps around a table of slots.
use Rattle.std.proofs.Common.{◌≡◌, ap, sym, ◌∙◌, ℕ, ◌+◌, ◌-◌, ◌*◌, ◌/◌, ◌%◌, ◌^◌, ◌<◌, ◌≤◌, ◌⊎◌, inl, inr, arith, cond}
use Rattle.std.proofs.lemmas.Bool.{cases_lt, lt-ltb, le-ltb}
use Rattle.std.proofs.lemmas.Nat.{div_below}
use Rattle.std.proofs.Math.Nat.{mul-lt-mul_of_pos_right}
use Rattle.engine_cells.specs.Keys.Slots.{home_of, steps_on, steps_to}

pub scaled : (x many : ℕ) → x < 2 ^ 32 → 0 < many → x * many / 2 ^ 32 < many
scaled x many less some = div_below (x * many) (2 ^ 32) many (omega arith) (omega (arith, mul-lt-mul_of_pos_right {m = x} {n = 2 ^ 32} {k = many} less some))

pub home-below : (tag many : ℕ) → 0 < many → home_of tag many < many
unfolding home_of
home-below tag many some = scaled (tag % 2 ^ 32) many (omega arith) some

pub home-none : (tag : ℕ) → home_of tag 0 ≡ 0
unfolding home_of
home-none tag = omega arith

-- how many steps lead from a slot to one before it, and to one that is not
pub to_before : (many from to : ℕ) → to < from → steps_to many from to ≡ many - from + to
to_before many from to less = ap (λ b. cond b (many - from + to) (to - from)) (lt-ltb to from less)

pub to_behind : (many from to : ℕ) → from ≤ to → steps_to many from to ≡ to - from
to_behind many from to le = ap (λ b. cond b (many - from + to) (to - from)) (le-ltb to from le)

on_within : (many from steps : ℕ) → steps < many - from → steps_on many from steps ≡ from + steps
on_within many from steps less = ap (λ b. cond b (from + steps) (steps - (many - from))) (lt-ltb steps (many - from) less)

on_around : (many from steps : ℕ) → many - from ≤ steps → steps_on many from steps ≡ steps - (many - from)
on_around many from steps le = ap (λ b. cond b (from + steps) (steps - (many - from))) (le-ltb steps (many - from) le)

pub to-below : (many from to : ℕ) → from < many → to < many → steps_to many from to < many
to-below many from to f t = elim (cases_lt to from) [
  | inl less ↦ omega (arith, to_before many from to less)
  | inr le ↦ omega (arith, to_behind many from to le)
]

pub on-below : (many from steps : ℕ) → from < many → steps ≤ many → steps_on many from steps < many
on-below many from steps f s = elim (cases_lt steps (many - from)) [
  | inl less ↦ omega (arith, on_within many from steps less)
  | inr le ↦ omega (arith, on_around many from steps le)
]

-- no step
pub on-none : (many from : ℕ) → (0 < many → from < many) → (many ≡ 0 → from ≡ 0) → from ≡ steps_on many from 0
on-none many from some none = elim (cases_lt 0 many) [
  | inl more ↦ let f = some more in omega (arith, on_within many from 0 (omega arith))
  | inr zero ↦ omega (arith, none (omega arith), on_around many from 0 (omega arith))
]

-- so many steps on stands what so many steps lead to
pub on-to : (many from to : ℕ) → from < many → to < many → steps_on many from (steps_to many from to) ≡ to
on-to many from to f t = elim (cases_lt to from) [
  | inl less ↦
      let e = to_before many from to less in
      omega (arith, e, on_around many from (steps_to many from to) (omega (arith, e)))
  | inr le ↦
      let e = to_behind many from to le in
      omega (arith, e, on_within many from (steps_to many from to) (omega (arith, e)))
]

pub to-on : (many from steps : ℕ) → from < many → steps < many → steps_to many from (steps_on many from steps) ≡ steps
to-on many from steps f s = elim (cases_lt steps (many - from)) [
  | inl less ↦
      let e = on_within many from steps less in
      omega (arith, e, to_behind many from (steps_on many from steps) (omega (arith, e)))
  | inr le ↦
      let e = on_around many from steps le in
      omega (arith, e, to_before many from (steps_on many from steps) (omega (arith, e)))
]

-- as many steps lead to one slot
pub one_to : (many from a b : ℕ) → from < many → a < many → b < many → steps_to many from a ≡ steps_to many from b → a ≡ b
one_to many from a b f i j same = sym (on-to many from a f i) ∙ ap (λ n. steps_on many from n) same ∙ on-to many from b f j

-- over a third slot it is as far, or once around more
pub over : (many a b c : ℕ) → a < many → b < many → c < many → (steps_to many a b + steps_to many b c ≡ steps_to many a c) ⊎ (steps_to many a b + steps_to many b c ≡ steps_to many a c + many)
over many a b c i j k = elim (cases_lt b a) [
  | inl ba ↦ elim (cases_lt c b) [
    | inl cb ↦ inr (omega (arith, to_before many a b ba, to_before many b c cb, to_before many a c (omega arith)))
    | inr bc ↦ elim (cases_lt c a) [
      | inl ca ↦ inl (omega (arith, to_before many a b ba, to_behind many b c bc, to_before many a c ca))
      | inr ac ↦ inr (omega (arith, to_before many a b ba, to_behind many b c bc, to_behind many a c ac))
    ]
  ]
  | inr ab ↦ elim (cases_lt c b) [
    | inl cb ↦ elim (cases_lt c a) [
      | inl ca ↦ inl (omega (arith, to_behind many a b ab, to_before many b c cb, to_before many a c ca))
      | inr ac ↦ inr (omega (arith, to_behind many a b ab, to_before many b c cb, to_behind many a c ac))
    ]
    | inr bc ↦ inl (omega (arith, to_behind many a b ab, to_behind many b c bc, to_behind many a c (omega arith)))
  ]
]

-- what is on the way to a slot on the way is on the way
pub passes : (many h a b c : ℕ) → h < many → a < many → b < many → c < many → steps_to many h a ≤ steps_to many h c → steps_to many a b ≤ steps_to many a c → steps_to many h b ≤ steps_to many h c
passes many h a b c hh aa bb cc_ over_a less =
    let far = to-below many a c aa cc_ in
    let near = to-below many a b aa bb in
    let end = to-below many h c hh cc_ in
    elim (over many h a c hh aa cc_) [
      | inl whole ↦ elim (over many h a b hh aa bb) [
        | inl part ↦ omega arith
        | inr round ↦ omega arith
      ]
      | inr round ↦ absurd (omega arith)
    ]

-- how far it is between two slots, by how far they are from a third
pub ahead : (many from a b : ℕ) → from < many → a < many → b < many → steps_to many from a ≤ steps_to many from b → steps_to many from a + steps_to many a b ≡ steps_to many from b
ahead many from a b f i j le =
    let far = to-below many a b i j in
    elim (over many from a b f i j) [ inl e ↦ e | inr round ↦ absurd (omega arith) ]

pub around : (many from a b : ℕ) → from < many → a < many → b < many → steps_to many from b < steps_to many from a → steps_to many from a + steps_to many a b ≡ steps_to many from b + many
around many from a b f i j less = elim (over many from a b f i j) [ inl e ↦ absurd (omega arith) | inr round ↦ round ]

-- the slot so many steps on is reached in so many
pub reaches : (n many from steps at : ℕ) → n ≡ many → from < many → steps < many → at ≡ steps_on n from steps → (steps_to many from at ≡ steps) × (at < many)
reaches n many from steps at same f s is =
    let e : at ≡ steps_on many from steps = is ∙ ap (λ k. steps_on k from steps) same in
    (ap (λ k. steps_to many from k) e ∙ to-on many from steps f s, omega (arith, e, on-below many from steps f (omega arith)))
