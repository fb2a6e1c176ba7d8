-- The fronts, and why what stands there has to leave.
use Rattle.std.proofs.Common.{◌≡◌, refl, ap, sym, ◌∙◌, subst, ℕ, arith, Bool, true, false, ◌&&◌, cond, List, [], ◌∷◌, Option, Some, None, is_some, inl, inr}
use Rattle.std.specs.Prelude.{min, nat_lt, slice_get}
use Rattle.std.specs.Option.{option_and_then}
use Rattle.std.proofs.lemmas.Bool.{cases_Bool, and_parts, leb-true, le-leb, le-ltb}
use Rattle.engine_reference.specs.declared.rules.causes.RemovalCause.{RemovalCause}
use Rattle.engine_reference.specs.declared.rules.causes.RemovalCause.TheVariants as cause
use Rattle.engine_reference.specs.declared.data.Entry.{Entry}
use Rattle.engine_reference.specs.declared.data.Record.{Record}
use Rattle.engine_reference.specs.declared.data.Settings.{Settings}
use Rattle.engine_reference.specs.Records.{record_at, admitted_in, with_admitted}
use Rattle.engine_reference.proofs.HeldRecords.{record_at-number}
use Rattle.engine_reference.specs.Runs.{first_of, IsWrittenClean, IsUsedClean}
use Rattle.engine_reference.specs.State.{State}
use Rattle.engine_reference.specs.Times.{end_of, is_reached, earlier_of, has_come}
use Rattle.engine_cells.specs.Looking.{is_expired}
use Rattle.engine_cells.specs.Swept.{NoneIsCleared}
use Rattle.engine_runs.specs.Fronts.{why_written, why_used, MayLeave, dies, cleared}
use Rattle.engine_runs.proofs.SweepingStretching.{first-admitted}

-- ---- deadlines

earlier-left : (a b : Option ℕ) (now : ℕ) → is_reached a now ≡ true → is_reached (earlier_of a b) now ≡ true
earlier-left None b now h = absurd (cc)
earlier-left (Some a) None now h = h
earlier-left (Some a) (Some b) now h = let l = leb-true a now h in le-leb (min a b) now (omega arith)

earlier-right : (a b : Option ℕ) (now : ℕ) → is_reached b now ≡ true → is_reached (earlier_of a b) now ≡ true
earlier-right None b now h = h
earlier-right (Some a) None now h = absurd (cc)
earlier-right (Some a) (Some b) now h = let l = leb-true b now h in le-leb (min a b) now (omega arith)

module _ {K V : Type 0} where
  -- a deadline has come where one of the three times has
  pub own-comes : (settings : Settings) (now : ℕ) (e : Entry K V) → is_reached e.expires now ≡ true → has_come settings now e ≡ true
  own-comes settings now e h = earlier-left e.expires (earlier_of (end_of e.written settings.live) (end_of e.used settings.idle)) now h

  pub live-comes : (settings : Settings) (now : ℕ) (e : Entry K V) → is_reached (end_of e.written settings.live) now ≡ true → has_come settings now e ≡ true
  live-comes settings now e h = earlier-right e.expires (earlier_of (end_of e.written settings.live) (end_of e.used settings.idle)) now (earlier-left (end_of e.written settings.live) (end_of e.used settings.idle) now h)

  pub idle-comes : (settings : Settings) (now : ℕ) (e : Entry K V) → is_reached (end_of e.used settings.idle) now ≡ true → has_come settings now e ≡ true
  idle-comes settings now e h = earlier-right e.expires (earlier_of (end_of e.written settings.live) (end_of e.used settings.idle)) now (earlier-right (end_of e.written settings.live) (end_of e.used settings.idle) now h)

  -- ---- the front of a list

  -- a record that a place has is the one of its number
  pub kept-number : (rs : List (Record K V)) (o : Option ℕ) (r : Record K V) → option_and_then (λ n. record_at rs n) o ≡ Some r → (record_at rs r.number ≡ Some r)
  kept-number rs None r h = absurd (cc)
  kept-number rs (Some n) r h = ap (λ m. record_at rs m) (record_at-number rs n r h) ∙ h

  pub front-admitted : (rs : List (Record K V)) (ns : List ℕ) (r : Record K V) → slice_get ns 0 ≡ Some r.number → record_at rs r.number ≡ Some r → is_some r.counts ≡ true → first_of (admitted_in rs ns) ≡ Some r
  front-admitted rs [] r e there counts = absurd (cc)
  front-admitted rs (n ∷ ns) r e there counts =
      let same : n ≡ r.number = cc in
      ap (λ m. first_of (with_admitted (record_at rs m) (admitted_in rs ns))) same
      ∙ ap (λ o. first_of (with_admitted o (admitted_in rs ns))) there
      ∙ ap (λ b. first_of (cond b (r ∷ admitted_in rs ns) (admitted_in rs ns))) counts

  -- ---- why

  -- what a record tells that does not leave by its write
  pub record StaysBy (live : Option ℕ) (clear now : ℕ) (r : Record K V) : Type 0 where
    pub alive : r.is_held ≡ true → is_reached (end_of r.entry.written live) now ≡ false
    pub uncovered : r.is_held ≡ true → nat_lt r.entry.step clear ≡ false

  pub stays-by : (live : Option ℕ) (clear now : ℕ) (r : Record K V) → why_written live clear now r ≡ None → StaysBy live clear now r
  stays-by live clear now r h = record { alive = λ held. grind (arith, held, h); uncovered = λ held. grind (arith, held, h) }

  used-not : (idle : Option ℕ) (now : ℕ) (r : Record K V) → why_used idle now r ≡ None → r.is_held ≡ true → is_reached (end_of r.entry.used idle) now ≡ false
  used-not idle now r h held = go r.is_held (is_reached (end_of r.entry.used idle) now) held h
    where
      go : (a b : Bool) → a ≡ true → cond (a && b) (Some cause.Expired) None ≡ None → b ≡ false
      go false b e h = absurd (cc)
      go true true e h = absurd (cc)
      go true false e h = refl

  pub timer-clean : (now : ℕ) (r : Record K V) → is_expired now r ≡ false → r.is_held ≡ true → is_reached r.entry.expires now ≡ false
  timer-clean now r h held = go r.is_held (is_reached r.entry.expires now) held h
    where
      go : (a b : Bool) → a ≡ true → (a && b) ≡ false → b ≡ false
      go false b e h = absurd (cc)
      go true b e h = h

module _ {K V P S R : Type 0} where
  pub leaves-by_write : (s : State K V P S R) (now : ℕ) (r : Record K V) (why : RemovalCause) → why_written s.settings.live s.cleared now r ≡ Some why → MayLeave s now r why
  leaves-by_write s now r why h = elim (cases_Bool r.is_held) [
    | inl held ↦
        let written = rw held at h in
        elim (cases_Bool (is_reached (end_of r.entry.written s.settings.live) now)) [
          | inl reached ↦ let is = rw reached at written in dies held (live-comes s.settings now r.entry reached) (cc)
          | inr alive ↦
              let covered = rw alive at written in
              elim (cases_Bool (nat_lt r.entry.step s.cleared)) [ inl before ↦ let is = rw before at covered in cleared held before (cc) | inr after ↦ let none = rw after at covered in absurd (cc) ]
        ]
    | inr out ↦ let none = rw out at h in absurd (cc)
  ]

  pub leaves-by_use : (s : State K V P S R) (now : ℕ) (r : Record K V) (why : RemovalCause) → why_used s.settings.idle now r ≡ Some why → MayLeave s now r why
  leaves-by_use s now r why h = elim (cases_Bool (r.is_held && is_reached (end_of r.entry.used s.settings.idle) now)) [
    | inl e ↦ let p = and_parts _ _ e in let is = rw e at h in dies p.0 (idle-comes s.settings now r.entry p.1) (cc)
    | inr e ↦ let none = rw e at h in absurd (cc)
  ]

  pub leaves-by_timer : (s : State K V P S R) (now : ℕ) (r : Record K V) → is_expired now r ≡ true → MayLeave s now r cause.Expired
  leaves-by_timer s now r h = let p = and_parts _ _ h in dies p.0 (own-comes s.settings now r.entry p.1) refl

  -- ---- a front that is clean

  pub never-written : (s : State K V P S R) (now : ℕ) → s.settings.live ≡ None → NoneIsCleared s → IsWrittenClean now s
  never-written s now live none = record {
    live = λ x at held. ap (λ t. is_reached (end_of x.entry.written t) now) live;
    clear = λ x at held.
        let p = first-admitted s.records s.order x at in
        le-ltb x.entry.step s.cleared (none x (ap (λ m. record_at s.records m) (record_at-number s.records p.0 x p.1) ∙ p.1) held);
  }

  pub written-clean : (s : State K V P S R) (now : ℕ) (r : Record K V) → slice_get s.order 0 ≡ Some r.number → record_at s.records r.number ≡ Some r → is_some r.counts ≡ true → why_written s.settings.live s.cleared now r ≡ None → IsWrittenClean now s
  written-clean s now r first there counts none =
      let stays = stays-by s.settings.live s.cleared now r none in
      let front = front-admitted s.records s.order r first there counts in
      record {
        live = λ x at. let same : r ≡ x = (let e : Some r ≡ Some x = sym front ∙ at in cc) in subst (λ y. y.is_held ≡ true → is_reached (end_of y.entry.written s.settings.live) now ≡ false) same stays.alive;
        clear = λ x at. let same : r ≡ x = (let e : Some r ≡ Some x = sym front ∙ at in cc) in subst (λ y. y.is_held ≡ true → nat_lt y.entry.step s.cleared ≡ false) same stays.uncovered;
      }

  pub used-clean : (s : State K V P S R) (now : ℕ) (r : Record K V) → slice_get s.access 0 ≡ Some r.number → record_at s.records r.number ≡ Some r → is_some r.counts ≡ true → why_used s.settings.idle now r ≡ None → IsUsedClean now s
  used-clean s now r first there counts none x at =
      let front = front-admitted s.records s.access r first there counts in
      let same : r ≡ x = (let e : Some r ≡ Some x = sym front ∙ at in cc) in
      subst (λ y. y.is_held ≡ true → is_reached (end_of y.entry.used s.settings.idle) now ≡ false) same (used-not s.settings.idle now r none)
