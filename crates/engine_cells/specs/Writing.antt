-- Writes of records as they are.
use Rattle.std.specs.Prelude.{◌≡◌, ℕ, ◌+◌, ◌-◌, Bool, true, if◌then◌else◌, [], ◌∷◌, ◌++◌, None}
use Rattle.engine_reference.specs.declared.data.Record.{Record}
use Rattle.engine_reference.specs.declared.data.Write.{Write}
use Rattle.engine_reference.specs.declared.data.Write.TheVariants.{Put}
use Rattle.engine_reference.specs.Records.{held_at, held_weight}
use Rattle.engine_reference.specs.State.{State}

module _ {K V : Type 0} where
  -- the write of a record, if this much is held
  abbrev pub put_for : Record K V → ℕ → Write
  put_for r kept = Put (record {
    number = r.number;
    write = r.writes;
    weight = r.entry.weight;
    hash = r.hash;
    kept = kept;
  })

  -- it goes into the queue at once, or waits to be sent, with the weight of all that is held
  abbrev pub with_put_for : {P S R : Type 0} → Bool → Record K V → State K V P S R
      → State K V P S R
  with_put_for at_once r s = record s {
    unsent = if at_once then s.unsent else s.unsent ++ (record {
      ticket = s.next_ticket;
      write = put_for r (held_weight s.records);
    }) ∷ [];
    writes = if at_once then s.writes ++ put_for r (held_weight s.records) ∷ [] else s.writes;
    next_ticket = s.next_ticket + 1;
    reserved = s.reserved - 1;
  }

-- a record is added whose key is not held
pub record IsNewcomer {K V P S R : Type 0} (eq : K → K → Bool) (hash_of : K → ℕ)
    (s : State K V P S R) (r : Record K V) : Type 0 where
  pub numbered : r.number ≡ s.next_number
  pub uncounted : r.counts ≡ None
  pub held : r.is_held ≡ true
  pub hashed : r.hash ≡ hash_of r.entry.key
  pub fresh : held_at eq s.records r.entry.key ≡ None
