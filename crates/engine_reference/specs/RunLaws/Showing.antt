-- What calls make visible: nothing becomes visible except by a write.
use Rattle.std.specs.Prelude.{◌≡◌, ◌⊎◌, ℕ, Bool, false, Option, None}
use Rattle.std.specs.Cmp.{IsEquivalence}
use Rattle.engine_reference.specs.declared.data.Entry.{Entry}
use Rattle.engine_reference.specs.declared.data.Record.{Record}
use Rattle.engine_reference.specs.Calls.{written, removed_by, removal_told, with_read, with_room, without_room, without_notice}
use Rattle.engine_reference.specs.Records.{held_entries}
use Rattle.engine_reference.specs.Soundness.{IsSound}
use Rattle.engine_reference.specs.State.{State, Answers}
use Rattle.engine_reference.specs.Telling.{AreApart}
use Rattle.engine_reference.specs.Visible.{visible, visible_record, visible_value}

module _ (K V P S R : Type 0) where
  pub record OnlyWritesShow : Type 0 where
    -- a write changes no look-up of another key
    pub written : (eq : K → K → Bool) → IsEquivalence eq → (answers : Answers K V P R)
        (s : State K V P S R) (key : K) (hash : ℕ) (value : V) (now step moment : ℕ) (other : K)
        → IsSound s → eq other key ≡ false
        → visible answers eq (written answers eq s key hash value now step) moment other
        ≡ visible answers eq s moment other
    -- a removal makes nothing visible that was not
    pub removed : (eq : K → K → Bool) → IsEquivalence eq
        → (answers : Answers K V P R) (s : State K V P S R) (key : K) (moment : ℕ) (other : K)
        → AreApart eq (held_entries s.records)
        → (visible answers eq (removed_by eq key s) moment other ≡ visible answers eq s moment
        other) ⊎ (visible answers eq (removed_by eq key s) moment other ≡ None)
    -- after a look-up each key shows at its moment what it showed before, or nothing
    pub read : (eq : K → K → Bool) (answers : Answers K V P R) (s : State K V P S R) (key : K)
        (hash now : ℕ) (other : K) → IsSound s
        → (visible_value answers eq (with_read answers (visible_record answers eq s now key) hash
        now s) now other ≡ visible_value answers eq s now other)
        ⊎ (visible_value answers eq
        (with_read answers (visible_record answers eq s now key) hash now s) now other ≡ None)
    pub removal_told : (eq : K → K → Bool) (answers : Answers K V P R) (s : State K V P S R)
        (e : Entry K V) (now moment : ℕ) (other : K) → visible answers eq
        (removal_told answers e now s) moment other ≡ visible answers eq s moment other
    pub room : (eq : K → K → Bool) (answers : Answers K V P R) (s : State K V P S R)
        (moment : ℕ) (other : K) → visible answers eq (with_room s) moment other
        ≡ visible answers eq s moment other
    pub released : (eq : K → K → Bool) (answers : Answers K V P R) (s : State K V P S R)
        (moment : ℕ) (other : K) → visible answers eq (without_room s) moment other
        ≡ visible answers eq s moment other
    pub taken : (eq : K → K → Bool) (answers : Answers K V P R) (s : State K V P S R)
        (moment : ℕ) (other : K) → visible answers eq (without_notice s) moment other
        ≡ visible answers eq s moment other

  -- no call makes two entries whose keys compare equal
  pub record CallsKeepApart : Type 0 where
    pub written : (eq : K → K → Bool) → IsEquivalence eq → (answers : Answers K V P R)
        (s : State K V P S R) (key : K) (hash : ℕ) (value : V) (now step : ℕ) → IsSound s
        → AreApart eq (held_entries s.records)
        → AreApart eq (held_entries (written answers eq s key hash value now step).records)
    pub removed : (eq : K → K → Bool) → IsEquivalence eq
        → (key : K) (s : State K V P S R) → AreApart eq (held_entries s.records)
        → AreApart eq (held_entries (removed_by eq key s).records)
    pub read : (eq : K → K → Bool) → IsEquivalence eq
        → (answers : Answers K V P R) (s : State K V P S R) (found : Option (Record K V))
        (hash now : ℕ) → AreApart eq (held_entries s.records)
        → AreApart eq (held_entries (with_read answers found hash now s).records)
