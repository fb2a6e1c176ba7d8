-- Words in a row, as streaks of equal ones.
use Rattle.std.specs.Prelude.{◌≡◌, ◌≢◌, ◌⊎◌, ℕ, zero, suc, ◌+◌, ◌<◌, ◌≤◌, true, List, [], ◌∷◌, ◌++◌, Option, Some, None, is_some, unwrap_or}
use Rattle.std.specs.List.{slice_get}
use Rattle.std.specs.BTreeMap.{BTreeMap, get}
use Rattle.std.specs.Ordering.{nat_cmp}

-- the word of the streak that begins at a place, if one does
abbrev pub streak_at : BTreeMap ℕ ℕ → ℕ → Option ℕ
streak_at streaks place = get nat_cmp streaks place

-- the word at a place, by the streaks that begin: that of the last one up to there
abbrev pub word_at : (ℕ → Option ℕ) → ℕ → ℕ
word_at begins zero = unwrap_or (begins zero) 0
word_at begins (suc place) = unwrap_or (begins (suc place)) (word_at begins place)

-- the first words
abbrev pub words_to : (ℕ → Option ℕ) → ℕ → List ℕ
words_to begins zero = []
words_to begins (suc place) = words_to begins place ++ word_at begins place ∷ []

-- a streak begins where the words do, and none behind them
pub record AreStreaks (begins : ℕ → Option ℕ) (len : ℕ) : Type 0 where
  pub first : 0 < len → is_some (begins 0) ≡ true
  pub within : (place : ℕ) → len ≤ place → begins place ≡ None

-- another streak begins at one place, or none does
pub record IsChangedAt (place : ℕ) (word : Option ℕ) (old new : ℕ → Option ℕ) : Type 0 where
  pub here : new place ≡ word
  pub others : (other : ℕ) → other ≢ place → new other ≡ old other

-- the streak that begins at a place is as it was, or had this word and goes into the one before it
pub record IsJoinedAt (place word : ℕ) (old new : ℕ → Option ℕ) : Type 0 where
  pub here : (new place ≡ old place) ⊎ ((old place ≡ Some word) × (new place ≡ None))
  pub others : (other : ℕ) → other ≢ place → new other ≡ old other

-- the word at a place differs from those beside it
pub record StandsApart (words : List ℕ) (place : ℕ) : Type 0 where
  pub before : (other : ℕ) → other + 1 ≡ place → slice_get words other ≢ slice_get words place
  pub behind : (other : ℕ) → other ≡ place + 1 → slice_get words other ≢ slice_get words place
