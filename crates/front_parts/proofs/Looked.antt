-- What a look-up leaves as it is, and what is done after it.
use Rattle.std.proofs.Common.{◌≡◌, refl, ap, sym, ◌∙◌, subst, ℕ, ◌+◌, ◌-◌, ◌<◌, ◌≤◌, arith, Bool, true, false, true≢false, cond, length, Option, Some, None}
use Rattle.std.specs.Prelude.{MatchBool, MatchOption}
use Rattle.engine_reference.specs.declared.data.Record.{Record}
use Rattle.engine_reference.specs.Calls.{MaintainsIfDue, with_read, with_room}
use Rattle.engine_reference.specs.Laws.{rest_of}
use Rattle.engine_reference.specs.Runs.{RunsToEnd, is_due}
use Rattle.engine_reference.specs.Scanning.{past, NotesLookUp}
use Rattle.engine_reference.specs.State.{State, Answers}
use Rattle.engine_reference.specs.Visible.{visible_record, visible_value}
use Rattle.engine_reference.proofs.RestKept.{run-rest}
use Rattle.front_reference.specs.declared.data.Made.{Made}
use Rattle.front_reference.specs.declared.data.Made.TheVariants as made
use Rattle.front_reference.specs.declared.data.Op.TheVariants as op
use Rattle.front_reference.specs.Parts.{takes_nothing, with_put_room, put_sent, InsertsReserved, Acts, Coalesces, op_of_made}

module _ {K V P S R : Type 0} where
  -- room changes no hasher
  pub roomy-hasher : (s : State K V P S R) → (with_put_room s).hasher ≡ s.hasher
  roomy-hasher s = go (takes_nothing s.settings.capacity)
    where
      go : (b : Bool) → (cond b s (with_room s)).hasher ≡ s.hasher
      go true = refl
      go false = refl

module _ {K V P S R : Type 0} (answers : Answers K V P R) where
  read-rest : (o : Option (Record K V)) (hash now : ℕ) (s : State K V P S R) → (rest_of (with_read answers o hash now s) ≡ rest_of s) × ((with_read answers o hash now s).writes ≡ s.writes)
  read-rest None hash now s = (refl, refl)
  read-rest (Some r) hash now s = (refl, refl)

  maintained-rest : (now : ℕ) (old new : State K V P S R) → MaintainsIfDue answers now old new → (rest_of new ≡ rest_of old) × (length new.writes ≤ length old.writes)
  maintained-rest now old new m = go (is_due old now) m
    where
      go : (b : Bool) → MatchBool b (RunsToEnd answers now old new) (new ≡ old) → (rest_of new ≡ rest_of old) × (length new.writes ≤ length old.writes)
      go true run = (run-rest answers now old new run.runs, (let none = ap length (ap (λ t. t.writes) run.runs.after ∙ run.runs.applied.writes) in omega arith))
      go false e = (ap rest_of e, (let same = ap (λ s. length s.writes) e in omega arith))

  -- what calls alone change stays, and no write more waits
  pub looked-rest : (eq : K → K → Bool) (key : K) (hash now : ℕ) (ignored : Bool) (old new : State K V P S R) → NotesLookUp answers eq key hash now ignored old new → (rest_of new ≡ rest_of old) × (length new.writes ≤ length old.writes)
  looked-rest eq key hash now ignored old new h =
      let k = read-rest (past ignored (visible_record answers eq old now key)) hash now h.mid in
      let m = maintained-rest now old h.mid h.maintains in
      let same = ap (λ s. length s.writes) h.reads ∙ ap length k.1 in
      (ap rest_of h.reads ∙ k.0 ∙ m.0, omega (arith, same, m.1))

  -- ---- a look-up alone

  pub note-acts : (eq : K → K → Bool) (key : K) (hash now step : ℕ) (ignored : Bool) (old new : State K V P S R) → NotesLookUp answers eq key hash now ignored old new → Acts answers eq key hash now step ignored op.Nop old new
  note-acts eq key hash now step ignored old new h = record {
    rooms = 0;
    mid = new;
    looks = let none : old.reserved ≡ old.reserved + 0 = omega arith in subst (λ n. NotesLookUp answers eq key hash now ignored (record old { reserved = n }) new) none h;
    operates = let none : new.reserved ≡ new.reserved - 0 = omega arith in ap (λ n. record new { reserved = n }) none;
  }

  -- ---- a value after it

  module _ (eq : K → K → Bool) (key : K) (hash : ℕ) (value : V) (now step : ℕ) (ignored : Bool) (old mid new : State K V P S R) where
    insert-acts : (b : Bool) → takes_nothing old.settings.capacity ≡ b → NotesLookUp answers eq key hash now ignored (cond b old (with_room old)) mid → InsertsReserved answers eq key hash value now step mid new
        → Acts answers eq key hash now step ignored (op.Put value) old new
    insert-acts true off looks i =
        let rest = (looked-rest eq key hash now ignored old mid looks).0 in
        let still : takes_nothing mid.settings.capacity ≡ true = ap (λ x. takes_nothing x.settings.capacity) rest ∙ off in
        let none : old.reserved ≡ old.reserved + 0 = omega arith in
        let free : mid.reserved ≡ mid.reserved - 0 = omega arith in
        record {
          rooms = 0;
          mid = mid;
          looks = subst (λ n. NotesLookUp answers eq key hash now ignored (record old { reserved = n }) mid) none looks;
          operates = record {
            off = λ e. i.off still ∙ ap (λ n. record mid { reserved = n }) free;
            takes = λ e. absurd (true≢false (sym still ∙ e));
          };
        }
    insert-acts false on looks i =
        let rest = (looked-rest eq key hash now ignored (with_room old) mid looks).0 in
        let still : takes_nothing mid.settings.capacity ≡ false = ap (λ x. takes_nothing x.settings.capacity) rest ∙ on in
        let roomy : mid.reserved ≡ old.reserved + 1 = ap (λ x. x.reserved) rest in
        let same : mid.reserved ≡ (mid.reserved - 1) + 1 = omega (arith, roomy) in
        record {
          rooms = 1;
          mid = mid;
          looks = looks;
          operates = record {
            off = λ e. absurd (true≢false (sym e ∙ still));
            takes = λ e. subst (λ n. MaintainsIfDue answers now (put_sent answers eq key hash value now step (record mid { reserved = n })) new) same (i.takes still);
          };
        }

    pub inserted-acts : NotesLookUp answers eq key hash now ignored (with_put_room old) mid → InsertsReserved answers eq key hash value now step mid new → Acts answers eq key hash now step ignored (op.Put value) old new
    inserted-acts looks i = insert-acts (takes_nothing old.settings.capacity) refl looks i

    -- the room is there where a value is taken
    room-there : (b : Bool) → takes_nothing old.settings.capacity ≡ b → NotesLookUp answers eq key hash now ignored (cond b old (with_room old)) mid → takes_nothing mid.settings.capacity ≡ false → 0 < mid.reserved
    room-there true off looks on =
        let rest = (looked-rest eq key hash now ignored old mid looks).0 in
        absurd (true≢false (sym (ap (λ x. takes_nothing x.settings.capacity) rest ∙ off) ∙ on))
    room-there false e looks on = let roomy = ap (λ x. x.reserved) (looked-rest eq key hash now ignored (with_room old) mid looks).0 in omega (arith, roomy)

    pub insert-roomy : NotesLookUp answers eq key hash now ignored (with_put_room old) mid → takes_nothing mid.settings.capacity ≡ false → 0 < mid.reserved
    insert-roomy looks on = room-there (takes_nothing old.settings.capacity) refl looks on

    pub put_room-rest : (b : Bool) → ((cond b old (with_room old)).unsent ≡ old.unsent) × ((cond b old (with_room old)).writes ≡ old.writes) × ((cond b old (with_room old)).hasher ≡ old.hasher)
    put_room-rest true = (refl, refl, refl)
    put_room-rest false = (refl, refl, refl)

    -- what the insertion asks for
    pub record AsAsked : Type 0 where
      pub unsent : mid.unsent ≡ old.unsent
      pub few : length mid.writes ≤ length old.writes
      pub hasher : mid.hasher ≡ old.hasher

    pub as_asked : NotesLookUp answers eq key hash now ignored (with_put_room old) mid → AsAsked
    as_asked looks =
        let k = looked-rest eq key hash now ignored (with_put_room old) mid looks in
        let r = put_room-rest (takes_nothing old.settings.capacity) in
        record {
          unsent = ap (λ x. x.unsent) k.0 ∙ r.0;
          few = let low = k.1 in let same = ap length r.1 in omega (arith, low, same);
          hasher = ap (λ x. x.hasher) k.0 ∙ r.2;
        }

-- ---- coalesced calls, by what they looked up and what was made

module _ {K V P S R F : Type 0} (answers : Answers K V P R) (Ignores : V → Bool → Type 0) (Makes : Made V F → Type 0) (eq : K → K → Bool) (key : K) (hash now step : ℕ) (old new : State K V P S R) (ignored : Bool)
    (asked : (value : V) → visible_value answers eq old now key ≡ Some value → Ignores value ignored) where
  pub found-coalesces : (value : V) → Some value ≡ past ignored (visible_value answers eq old now key) → NotesLookUp answers eq key hash now ignored old new
      → Coalesces answers eq key hash now step Ignores Makes old new (made.Value value) false
  found-coalesces value found looks = record {
    ignored = ignored;
    asked = asked;
    ends =
        let end : Made V F = made.Value value in
        subst (λ o. MatchOption o (Makes end × (false ≡ true) × Acts answers eq key hash now step ignored (op_of_made end) old new)
        (λ v. (end ≡ made.Value v) × (false ≡ false) × NotesLookUp answers eq key hash now ignored old new)) found (refl, refl, looks);
  }

  pub made-coalesces : (end answer : Made V F) → answer ≡ end → None ≡ past ignored (visible_value answers eq old now key) → Makes end → Acts answers eq key hash now step ignored (op_of_made end) old new
      → Coalesces answers eq key hash now step Ignores Makes old new answer true
  made-coalesces end answer same none makes acts = subst (λ x. Coalesces answers eq key hash now step Ignores Makes old new x true) (sym same) (record {
    ignored = ignored;
    asked = asked;
    ends = subst (λ o. MatchOption o (Makes end × (true ≡ true) × Acts answers eq key hash now step ignored (op_of_made end) old new)
        (λ v. (end ≡ made.Value v) × (true ≡ false) × NotesLookUp answers eq key hash now ignored old new)) none (makes, refl, acts);
  })
