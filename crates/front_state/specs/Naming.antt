-- The keys that texts and lists of bytes name.
use Rattle.std.specs.Global.{Global}
use Rattle.std.specs.Prelude.{ℕ, ◌<◌, ◌^◌, List, length, IsUtf8, String, Vec}
use denote.RawPtr.{null_ptr}
use mathlib.Core.Path.{refl}
use native.Mathlib.Nat.{le_refl}

-- the vector of some bytes
abbrev pub bytes_key : (bytes : List ℕ) → length bytes < 2 ^ 63 → Vec ℕ Global
bytes_key bytes is_short = record {
  ptr = null_ptr;
  len = length bytes;
  cap = length bytes;
  alloc = record { memory = record { seal = tt } };
  items = bytes;
  ok = (refl, le_refl (length bytes));
  small = is_short;
}

-- the string of a text
abbrev pub text_key : (text : List ℕ) → length text < 2 ^ 63 → ∥ IsUtf8 text ∥₁ → String Global
text_key text is_short is_text = record { bytes = bytes_key text is_short; ok = is_text }
