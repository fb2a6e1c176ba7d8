-- Changes of the record in a place.
use Rattle.std.specs.Prelude.{◌≡◌, ℕ, ◌+◌, ◌-◌, Bool, true, false, min, if◌then◌else◌, [], ◌∷◌, ◌++◌, Some, None, is_some, slice_set}
use Rattle.engine_reference.specs.declared.rules.causes.RemovalCause.{RemovalCause}
use Rattle.engine_reference.specs.declared.data.Entry.{Entry}
use Rattle.engine_reference.specs.declared.data.Record.{Record}
use Rattle.engine_reference.specs.declared.data.Write.TheVariants.{Removed}
use Rattle.engine_reference.specs.Records.{changed_at, without_record, without, moved_to_back, admitted_number, admitted_weight}
use Rattle.engine_reference.specs.State.{State}
use Rattle.engine_reference.specs.Visible.{told}
use Rattle.engine_cells.specs.Kept.{Kept, kept_at}
use Rattle.engine_cells.specs.Writing.{with_put_for}

module _ {K V P S R : Type 0} where
  -- the record in a place became what this makes of it
  abbrev pub ChangesAt : (Record K V → Record K V) → ℕ → Kept K V P S R → Kept K V P S R → Type 0
  ChangesAt change place old new = (r : Record K V) × (kept_at old place ≡ Some r) × (new ≡ record old { state = record old.state { records = changed_at r.number change old.state.records } })

  -- its number went to the back of the access list, if it is admitted
  abbrev pub GoesToBack : ℕ → Kept K V P S R → Kept K V P S R → Type 0
  GoesToBack place old new = (r : Record K V) × (kept_at old place ≡ Some r) × (is_some r.counts ≡ true → new ≡ record old { state = record old.state { access = moved_to_back r.number old.state.access } })

  -- an entry replaces the one before, which is reported, and the write goes into the queue at once, or waits to be sent
  abbrev pub IsWrittenOver : Entry K V → RemovalCause → Bool → ℕ → Kept K V P S R → Kept K V P S R → Type 0
  IsWrittenOver entry cause at_once place old new = (r : Record K V) × (kept_at old place ≡ Some r) × (new ≡ record old { state = with_put_for at_once (record r { entry = entry; writes = r.writes + 1 }) (record old.state { records = changed_at r.number (λ x. record x { entry = entry; writes = x.writes + 1 }) old.state.records; notices = told old.state.settings.tells cause r.entry old.state.notices }) })

  -- it is no longer held, and its removal goes into the queue at once, or waits to be sent
  abbrev pub IsMarkedRemoved : Bool → ℕ → Kept K V P S R → Kept K V P S R → Type 0
  IsMarkedRemoved at_once place old new = (r : Record K V) × (kept_at old place ≡ Some r) × (new ≡ record old { state = record old.state { records = changed_at r.number (λ x. record x { is_held = false; writes = x.writes + 1 }) old.state.records; unsent = if at_once then old.state.unsent else old.state.unsent ++ (record { ticket = old.state.next_ticket; write = Removed r.number }) ∷ []; writes = if at_once then old.state.writes ++ Removed r.number ∷ [] else old.state.writes; next_ticket = old.state.next_ticket + 1; reserved = old.state.reserved - 1 } })

  -- it counts with a weight, at the back of both lists, and a write of it is applied
  abbrev pub CountsAt : ℕ → ℕ → ℕ → Kept K V P S R → Kept K V P S R → Type 0
  CountsAt write weight place old new = (r : Record K V) × (kept_at old place ≡ Some r) × (new ≡ record old { state = record old.state { records = changed_at r.number (λ x. record x { applied = write; counts = Some weight }) old.state.records; access = moved_to_back r.number old.state.access; order = moved_to_back r.number old.state.order } })

  -- it was removed, and nothing is reported
  abbrev pub IsForgotten : ℕ → Kept K V P S R → Kept K V P S R → Type 0
  IsForgotten place old new = (r : Record K V) × (kept_at old place ≡ Some r) × (new ≡ record old {
    state = record old.state { records = without_record r.number old.state.records; access = without r.number old.state.access; order = without r.number old.state.order };
    numbers = slice_set old.numbers place None;
  })

  -- it was removed, and is reported with a cause if it was held and removals are reported
  abbrev pub LeavesAt : RemovalCause → ℕ → Kept K V P S R → Kept K V P S R → Type 0
  LeavesAt cause place old new = (r : Record K V) × (kept_at old place ≡ Some r) × (new ≡ record old { state = record old.state { records = without_record r.number old.state.records; access = without r.number old.state.access; order = without r.number old.state.order; notices = if r.is_held then told old.state.settings.tells cause r.entry old.state.notices else old.state.notices }; numbers = slice_set old.numbers place None })

  -- number and weight of the admitted records are noted at the end of a run
  abbrev pub taken_down : ℕ → Bool → State K V P S R → State K V P S R
  taken_down now refused s = record s {
    number = admitted_number s.records;
    weight = min (admitted_weight s.records) 18446744073709551615;
    ran = now;
    table_refused = refused;
  }
