-- Ticks and own expirations.
use Rattle.std.proofs.Common.{◌≡◌, refl, ap, sym, ◌∙◌, subst, ℕ, ◌+◌, ◌-◌, ◌*◌, ◌/◌, ◌<◌, ◌≤◌, arith, false, Option, Some, None}
use Rattle.std.specs.Prelude.{min, nat_le, nat_lt}
use Rattle.std.proofs.Math.Nat.{min-le_left, min-le_right, le-min}
use Rattle.std.proofs.lemmas.Bool.{ltb-false, le-ltb, leb-false, lt-leb}
use Rattle.policy_base.specs.Info.{kept_time}
use Rattle.engine_reference.specs.declared.data.Settings.{Settings}
use Rattle.engine_reference.specs.Times.{earlier_of, later, end_of, is_reached, own_expiration, changed_expiration, tick_of}

pub tick-rise : (settings : Settings) (a b : ℕ) → a ≤ b → tick_of settings a ≤ tick_of settings b
tick-rise settings a b less = omega arith

ticks-round : (b a : ℕ) → (a - b * 4096) / 1073741824 ≤ (a / 4096 * 4096 - b * 4096) / 1073741824
ticks-round b a = omega arith

-- an own expiration lies in no earlier tick than the moment at which it is set
kept-tick : (settings : Settings) (now time : ℕ) → now ≤ 9223372036854775807 → now ≤ time → tick_of settings now ≤ tick_of settings (kept_time time)
kept-tick settings now time range less =
    let rounded : now / 4096 * 4096 ≤ kept_time time = le-min (omega arith) (omega arith) in
    let one = ticks-round (settings.made / 4096) now in
    let two = tick-rise settings (now / 4096 * 4096) (kept_time time) rounded in
    omega (arith, one, two)

pub own-tick : (settings : Settings) (ran now : ℕ) (time : Option ℕ) (expires : ℕ) → ran ≤ now → now ≤ 9223372036854775807 → own_expiration now time ≡ Some expires → tick_of settings ran ≤ tick_of settings expires
own-tick settings ran now None expires less range e = absurd (cc)
own-tick settings ran now (Some d) expires less range e =
    let same : kept_time (later now d) ≡ expires = cc in
    let after : now ≤ later now d = le-min (omega arith) (omega arith) in
    let one = tick-rise settings ran now less in
    let two = kept-tick settings now (later now d) range after in
    subst (λ x. tick_of settings ran ≤ tick_of settings x) same (omega (arith, one, two))

pub changed-tick : (settings : Settings) (ran now : ℕ) (answer : Option (Option ℕ)) (before : Option ℕ) (expires : ℕ) → ran ≤ now → now ≤ 9223372036854775807
    → ((e : ℕ) → before ≡ Some e → tick_of settings ran ≤ tick_of settings e) → changed_expiration now answer before ≡ Some expires → tick_of settings ran ≤ tick_of settings expires
changed-tick settings ran now None before expires less range h e = h expires e
changed-tick settings ran now (Some time) before expires less range h e = own-tick settings ran now time expires less range e

-- a later moment is reached no earlier
not_reached : (a now : ℕ) → nat_le a now ≡ false → now < a
not_reached a now h = leb-false a now h

pub end-later : (a b : ℕ) (time : Option ℕ) (now : ℕ) → a ≤ b → is_reached (end_of a time) now ≡ false → is_reached (end_of b time) now ≡ false
end-later a b None now less h = refl
end-later a b (Some d) now less h =
    let front = not_reached (later a d) now h in
    let low = min-le_left (a + d) 18446744073709551614 in
    let cap = min-le_right (a + d) 18446744073709551614 in
    let up : later a d ≤ later b d = le-min (omega arith) (omega arith) in
    lt-leb (later b d) now (omega arith)

pub end-after : (a time now : ℕ) → is_reached (end_of a (Some time)) now ≡ false → now < a + time
end-after a time now h =
    let front = not_reached (later a time) now h in
    let low = min-le_left (a + time) 18446744073709551614 in
    omega arith

pub tick-not_reached : (settings : Settings) (expires : Option ℕ) (e now : ℕ) → is_reached expires now ≡ false → expires ≡ Some e → tick_of settings now ≤ tick_of settings e
tick-not_reached settings expires e now h same =
    let front = not_reached e now (sym (ap (λ o. is_reached o now) same) ∙ h) in
    tick-rise settings now e (omega arith)

pub lt-false-up : (a b c : ℕ) → a ≤ b → nat_lt a c ≡ false → nat_lt b c ≡ false
lt-false-up a b c less h = let low = ltb-false a c h in le-ltb b c (omega arith)

-- the earlier of two moments is not reached: neither is
pub earlier-not_reached : (a b : Option ℕ) (now : ℕ) → is_reached (earlier_of a b) now ≡ false → (is_reached a now ≡ false) × (is_reached b now ≡ false)
earlier-not_reached None b now h = (refl, h)
earlier-not_reached (Some a) None now h = (h, refl)
earlier-not_reached (Some a) (Some b) now h =
    let front = not_reached (min a b) now h in
    let left = min-le_left a b in
    let right = min-le_right a b in
    (lt-leb a now (omega arith), lt-leb b now (omega arith))
