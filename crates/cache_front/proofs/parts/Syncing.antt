-- What a run of all parts does, and what it leaves: counts, weights, deadlines.
use Rattle.std.proofs.Common.{◌≡◌, ℕ, zero, suc, ◌+◌, ◌<◌, ◌≤◌, Bool, cond, true, false, not, List, [], ◌∷◌, ◌++◌, map, Option, option_map, Some, None, slice_get, refl, sym, ap, ◌∙◌, subst, arith, append-nil, min, length, length-append, ◌-◌, ◌*◌, ◌/◌, ◌%◌, ◌||◌, nat_lt, nat_le}
use Rattle.std.specs.List.{list_all, sum_by, list_any}
use Rattle.std.proofs.lemmas.Option.{none-some}
use Rattle.audit_model.specs.Bytewise.{same}
use Rattle.audit_model.specs.Changes.{held_after, left_held, all_held_after}
use Rattle.audit_model.specs.Commands.{Nothing}
use Rattle.audit_model.specs.Notes.{are_true_notes, first_with_key, is_succeeded, is_over, is_within}
use Rattle.audit_model.specs.Situation.{HeldValue, candidate_at}
use Rattle.audit_model.specs.Values.{untold, after_ms, deadline_has_come}
use Rattle.audit_model.specs.View.{Candidate}
use Rattle.audit_model.specs.declared.config.Config.{Config}
use Rattle.audit_model.specs.declared.transcript.Note.{Note}
use Rattle.engine_reference.specs.Records.{held_entries, held_weight, record_at, held_at, admitted_weight, weight_at, changed_at, without_record}
use Rattle.engine_reference.specs.Runs.{RunsToEnd}
use Rattle.engine_reference.specs.Telling.{entry_of, AreApart}
use Rattle.engine_reference.specs.RunLaws.Points.{HasPoint, IsInOrder, with_write, pending_of}
use Rattle.cache_commands.specs.Promises.{Done, syncing, no_deed}
use Rattle.cache_commands.proofs.Steps.{after_plain, corresponds-as, none_succeeded}
use Rattle.cache_commands.specs.Held.{value_at, items_without, have_own_keys, Corresponds, plain, is_absent}
use Rattle.cache_commands.proofs.SameKeys.{equal_from_same, same-refl}
use Rattle.cache_commands.proofs.Held.{apart-items_without, none_from_absent, corresponds-left, apart-left, value_at-items_without, left, left-append, permutation}
use Rattle.engine_reference.specs.RunLaws.Just.{IsJust}
use Rattle.cache_front.specs.Parts.{Part, service_answers, note_from, as_held_value, items_in, items_of, Stands, drained, Stored, part_settings, nanos, IsBrief, AreLight, write_weight, AreMarked}
use Rattle.cache_front.proofs.parts.Accepting.{all-untold}
use Rattle.cache_front.proofs.parts.Items.{ArePlaced, AreParted, value_at-part, value_at-both, not_here, apart-of, corresponds_from, AreOf, of-removals, left-elsewhere, decides, parted-at, away, placed-away, found-away, weight-part, in_part, marks_elsewhere, candidates_placed}
use Rattle.cache_front.proofs.parts.Joining.{Knows, above_is, fits_held, ran, Ran, ran_from}
use Rattle.cache_front.proofs.parts.Writing.{Judges, judged, no_point, Kept, Fits, notes_of, told_truly, key_of, first_with_key-other, end_is, reached_is, Rec}
use Rattle.std.proofs.lemmas.List.{length-map}
use Rattle.std.proofs.lemmas.List.Sums.{sum_by-cons, sum_by-append}
use Rattle.std.proofs.lemmas.List.Sorted.{sum_by-IsPermutation}
use Rattle.audit_model.specs.declared.config.Weight.{Weight}
use Rattle.engine_reference.specs.Soundness.{IsSound, AreNumbered}
use Rattle.engine_reference.proofs.SoundSteps.{counts_are_exact}
use Rattle.std.proofs.lemmas.Bool.{and_from, and_parts, not_from_false, false_from_ne_true, ltb-true, leb-true, le-leb, ltb-false}
use Rattle.audit_model.specs.History.{share}
use Rattle.engine_reference.specs.declared.data.Settings.{Settings}
use Rattle.engine_reference.specs.Admission.{is_above}
use Rattle.engine_reference.specs.Times.{is_reached, end_of, tick_of}
use Rattle.engine_reference.specs.Visible.{is_covered, is_covered_by}
use Rattle.engine_reference.proofs.SoundCalls.{held_at-only}
use Rattle.engine_reference.specs.RunLaws.Sweeping.{LeavesNoneDue, InOrderBy, IsUsedBefore}
use Rattle.engine_reference.proofs.run_laws.Shown.{entry-held}
use Rattle.cache_commands.specs.Running.{weight_in, is_timely, is_of_earlier_tick, tick_since, is_bounded}
use Rattle.cache_commands.proofs.Weights.{over_is, same_weight}
use Rattle.engine_reference.specs.declared.data.Record.{Record}
use Rattle.engine_reference.specs.declared.data.Write.{Write}
use Rattle.engine_reference.specs.declared.data.Write.TheVariants.{Put, Removed}
use Rattle.engine_reference.specs.State.{State}
use Rattle.engine_reference.proofs.run_laws.Fewer.{weight-cons, fewer-refl, fewer-without, fewer-weight}
use Rattle.engine_reference.proofs.run_laws.Ordering.{with_writes, applied-weight}

-- ---- notes of later parts

abbrev pub AreFrom : (List ℕ → ℕ) → ℕ → List Note → Type 0
AreFrom part_of first [] = Unit {0}
AreFrom part_of first (n ∷ notes) = (first ≤ part_of n.key) × AreFrom part_of first notes

from-append : (part_of : List ℕ → ℕ) (first : ℕ) (xs ys : List Note) → AreFrom part_of first xs → AreFrom part_of first ys → AreFrom part_of first (xs ++ ys)
from-append part_of first [] ys a b = b
from-append part_of first (n ∷ xs) ys a b = (a.0, from-append part_of first xs ys a.1 b)

from-of : (part_of : List ℕ → ℕ) (part : ℕ) (notes : List Note) → AreOf part_of part notes → AreFrom part_of part notes
from-of part_of part [] h = tt
from-of part_of part (n ∷ notes) h = ((let e = h.0 in omega (arith, e)), from-of part_of part notes h.1)

from-later : (part_of : List ℕ → ℕ) (first : ℕ) (notes : List Note) → AreFrom part_of (suc first) notes → AreFrom part_of first notes
from-later part_of first [] h = tt
from-later part_of first (n ∷ notes) h = ((let e = h.0 in omega (arith, e)), from-later part_of first notes h.1)

left-before : (part_of : List ℕ → ℕ) (first : ℕ) (notes : List Note) (xs : List HeldValue) (q : List ℕ) → have_own_keys xs ≡ true → AreFrom part_of first notes → part_of q < first → value_at (left notes xs) q ≡ value_at xs q
left-before part_of first [] xs q a of lt = refl
left-before part_of first (n ∷ notes) xs q a of lt = grind (arith, left-before part_of first notes (items_without n.key xs) q (apart-items_without n.key xs a) of.1 lt, apart-items_without n.key xs a, value_at-items_without n.key q xs a, equal_from_same q n.key)

first_with_key-elsewhere : (part_of : List ℕ → ℕ) (part : ℕ) (notes : List Note) (cs : List Candidate) (q : List ℕ) → AreOf part_of part notes → (part_of q ≡ part → ⊥) → first_with_key q (untold key_of notes cs) ≡ first_with_key q cs
first_with_key-elsewhere part_of part [] cs q of other = refl
first_with_key-elsewhere part_of part (n ∷ notes) cs q of other = grind (arith, key_of, equal_from_same, first_with_key-other, first_with_key-elsewhere part_of part notes)

module _ {S : Type 0} (now : ℕ) where
  -- each part ran to its end, and its notices were taken, part after part
  pub data AllRan : List (Part S) → List (Part S) → List Note → Type 0 where
    none : AllRan [] [] []
    next : {parts news : List (Part S)} {notes : List Note} (s new : Part S) → RunsToEnd service_answers now s new → AllRan parts news notes → AllRan (s ∷ parts) (drained new ∷ news) (map note_from new.notices ++ notes)

  -- of each part
  abbrev pub EachPart : (Part S → Type 0) → List (Part S) → Type 0
  EachPart P [] = Unit {0}
  EachPart P (s ∷ parts) = P s × EachPart P parts

  -- before a run of all: in order, notices are told, and were taken
  pub record IsReady (s : Part S) : Type 0 where
    pub in_order : IsInOrder s
    pub apart : AreApart same (held_entries s.records)
    pub tells : s.settings.tells ≡ true
    pub taken : s.notices ≡ []

  ran_of : (s new : Part S) → IsReady s → RunsToEnd service_answers now s new → Ran now s new
  ran_of s new ready run = ran_from now s new ready.in_order ready.apart ready.tells (ran run)

  notes_is : (s new : Part S) (ready : IsReady s) (run : RunsToEnd service_answers now s new) → map note_from new.notices ≡ notes_of (ran_of s new ready run).removals
  notes_is s new ready run = (ran_of s new ready run).notices ∙ ap (λ ns. map note_from ns ++ notes_of (ran_of s new ready run).removals) ready.taken

  from-parts : (part_of : List ℕ → ℕ) (first : ℕ) (parts news : List (Part S)) (notes : List Note) → AllRan parts news notes → EachPart IsReady parts → AreParted part_of first parts → AreFrom part_of first notes
  from-parts part_of first all news notes none ready p = tt
  from-parts part_of first all news notes (next {parts = parts} {notes = rest} s new run later) ready p =
      let r = ran_of s new ready.0 run in
      from-append part_of first (map note_from new.notices) rest
      (subst (λ ns. AreFrom part_of first ns) (sym (notes_is s new ready.0 run)) (from-of part_of first (notes_of r.removals) (of-removals part_of first r.removals (held_entries s.records) (held_entries new.records) p.0 p.1 r.takes)))
      (from-later part_of first rest (from-parts part_of (suc first) parts _ rest later ready.1 p.2))

  parted-after : (part_of : List ℕ → ℕ) (first : ℕ) (parts news : List (Part S)) (notes : List Note) → AllRan parts news notes → EachPart IsReady parts → AreParted part_of first parts → AreParted part_of first news
  parted-after part_of first all news notes none ready p = tt
  parted-after part_of first all news notes (next {parts = parts} {notes = rest} s new run later) ready p =
      let r = ran_of s new ready.0 run in (
        away r.removals (held_entries s.records) (held_entries new.records) p.0 r.takes,
        placed-away part_of first r.removals (held_entries s.records) (held_entries new.records) p.0 p.1 r.takes,
        parted-after part_of (suc first) parts _ rest later ready.1 p.2,
      )

  -- what is found when all parts ran
  found-after : (part_of : List ℕ → ℕ) (first : ℕ) (parts news : List (Part S)) (notes : List Note) → AllRan parts news notes → EachPart IsReady parts → AreParted part_of first parts → (xs : List HeldValue) → have_own_keys xs ≡ true
      → ((q : List ℕ) → first ≤ part_of q → value_at xs q ≡ value_at (items_of first parts) q) → (q : List ℕ) → first ≤ part_of q → value_at (left notes xs) q ≡ value_at (items_of first news) q
  found-after part_of first all news notes none ready p xs a e q le = e q le
  found-after part_of first all news notes (next {parts = parts} {news = after} {notes = rest} s new run later) ready p xs a e q le =
      ap (λ ns. value_at (left (ns ++ rest) xs) q) (notes_is s new ready.0 run)
      ∙ ap (λ ys. value_at ys q) (left-append (notes_of r.removals) rest xs)
      ∙ by_part (decides (part_of q) first) (found-after part_of (suc first) parts after rest later ready.1 p.2 (left (notes_of r.removals) xs) (apart-left (notes_of r.removals) xs a))
    where
      r : Ran now s new
      r = ran_of s new ready.0 run

      of : AreOf part_of first (notes_of r.removals)
      of = of-removals part_of first r.removals (held_entries s.records) (held_entries new.records) p.0 p.1 r.takes

      placed_new : ArePlaced part_of first (held_entries new.records)
      placed_new = placed-away part_of first r.removals (held_entries s.records) (held_entries new.records) p.0 p.1 r.takes

      behind : (q : List ℕ) → suc first ≤ part_of q → value_at (left (notes_of r.removals) xs) q ≡ value_at (items_of (suc first) parts) q
      behind q lt =
          left-elsewhere part_of first (notes_of r.removals) xs q a of (λ is. omega (arith, is, lt)) ∙ e q (omega (arith, lt))
          ∙ value_at-both (items_in first s) (items_of (suc first) parts) q (not_here part_of first s q p.1 (λ is. omega (arith, is, lt)))

      covers : (o : Option Kept) → entry_of same (held_entries new.records) q ≡ o → option_map (as_held_value first s) o ≡ option_map (as_held_value first new) o
      covers None f = refl
      covers (Some x) f = ap (λ b. Some (record (as_held_value first s x) { covered = b })) (sym (r.cover q x f))

      by_part : Dec (part_of q ≡ first) → (((q : List ℕ) → suc first ≤ part_of q → value_at (left (notes_of r.removals) xs) q ≡ value_at (items_of (suc first) parts) q)
          → (q : List ℕ) → suc first ≤ part_of q → value_at (left rest (left (notes_of r.removals) xs)) q ≡ value_at (items_of (suc first) after) q)
          → value_at (left rest (left (notes_of r.removals) xs)) q ≡ value_at (items_in first (drained new) ++ items_of (suc first) after) q
      by_part (yes is) ih =
          left-before part_of (suc first) rest (left (notes_of r.removals) xs) q (apart-left (notes_of r.removals) xs a) (from-parts part_of (suc first) parts after rest later ready.1 p.2) (omega (arith, is))
          ∙ found-away first s r.removals (held_entries s.records) (held_entries new.records) xs p.0 a r.takes q
          (e q le ∙ value_at-part part_of first 0 (s ∷ parts) s q p refl (is ∙ sym zero_plus) ∙ ap (λ m. option_map (as_held_value m s) (entry_of same (held_entries s.records) q)) zero_plus)
          ∙ covers (entry_of same (held_entries new.records) q) refl
          ∙ ap (λ m. option_map (as_held_value m (drained new)) (entry_of same (held_entries new.records) q)) (sym zero_plus)
          ∙ sym (value_at-part part_of first 0 (drained new ∷ after) (drained new) q
          (away r.removals (held_entries s.records) (held_entries new.records) p.0 r.takes, placed_new, parted-after part_of (suc first) parts after rest later ready.1 p.2) refl (is ∙ sym zero_plus))
        where
          zero_plus : first + 0 ≡ first
          zero_plus = omega arith
      by_part (no other) ih =
          let lt : suc first ≤ part_of q = after_first (part_of q) first le other in
          ih behind q lt ∙ sym (value_at-both (items_in first (drained new)) (items_of (suc first) after) q (not_here part_of first (drained new) q placed_new other))
        where
          after_first : (a b : ℕ) → b ≤ a → (a ≡ b → ⊥) → suc b ≤ a
          after_first a b le ne = omega (arith, le, ne)

  module _ (config : Config) (part_of : List ℕ → ℕ) (held : List HeldValue) where
    -- the notes of all parts are true
    all_true : (first : ℕ) (parts news : List (Part S)) (notes : List Note) → AllRan parts news notes → EachPart IsReady parts → AreParted part_of first parts
        → (cs : List Candidate)
        → ((s : Part S) (k : ℕ) → slice_get parts k ≡ Some s → Fits (Judges config syncing (map (candidate_at config now) held) now s) cs (held_entries s.records))
        → list_all (λ c. not (is_succeeded syncing c)) cs ≡ true → are_true_notes config (map (candidate_at config now) held) syncing cs notes ≡ true
    all_true first all news notes none ready p cs fits rest = rest
    all_true first all news notes (next {parts = parts} {news = after} {notes = behind} s new run later) ready p cs fits rest =
        ap (λ ns. are_true_notes config (map (candidate_at config now) held) syncing cs (ns ++ behind)) (notes_is s new ready.0 run)
        ∙ told_truly (Judges config syncing (map (candidate_at config now) held) now s) config syncing (map (candidate_at config now) held) (IsJust service_answers now s) (λ why x c j h. judged config syncing (map (candidate_at config now) held) now s why x c j h)
        r.removals behind cs (held_entries s.records) (held_entries new.records) p.0 (fits s 0 refl) r.just r.takes
        (all_true (suc first) parts after behind later ready.1 p.2 (untold key_of (notes_of r.removals) cs)
        (λ x k there q e h.
        let f = fits x (suc k) there q e h in
        let at = placed_later p.2 x k there q e h in
        record { candidate = f.candidate; there = first_with_key-elsewhere part_of first (notes_of r.removals) cs q of (λ is. omega (arith, is, at)) ∙ f.there; is = f.is })
        (all-untold (λ c. not (is_succeeded syncing c)) (notes_of r.removals) cs rest))
      where
        r : Ran now s new
        r = ran_of s new ready.0 run

        of : AreOf part_of first (notes_of r.removals)
        of = of-removals part_of first r.removals (held_entries s.records) (held_entries new.records) p.0 p.1 r.takes

        placed_later : AreParted part_of (suc first) parts → (x : Part S) (k : ℕ) → slice_get parts k ≡ Some x → (q : List ℕ) (e : Kept) → entry_of same (held_entries x.records) q ≡ Some e → first < part_of q
        placed_later p x k there q e h = let at = (parted-at part_of (suc first) k parts x p there).1 q e h in omega (arith, at)

    -- nothing waits then
    none_waits : (parts news : List (Part S)) (notes : List Note) → AllRan parts news notes → EachPart IsReady parts → (k : ℕ) (x : Part S) → slice_get news k ≡ Some x → x.writes ≡ []
    none_waits all news notes none ready k x there = absurd (none-some x there)
    none_waits all news notes (next {news = after} {notes = rest} s new run later) ready zero x there = grind arith
    none_waits all news notes (next {parts = parts} {news = after} {notes = rest} s new run later) ready (suc k) x there = none_waits parts after rest later ready.1 k x there

    -- A RUN OF ALL PARTS DOES WHAT A STORE PROMISES
    pub run_all_does : (made : ℕ) (parts news : List (Part S)) (notes : List Note) → AllRan parts news notes → EachPart IsReady parts → AreParted part_of 0 parts → Stands parts held
        → ((k : ℕ) (s : Part S) → slice_get parts k ≡ Some s → Knows config part_of made now k s parts held)
        → Done config now syncing held (Stands news) (λ told. told ≡ notes)
    run_all_does made parts news notes all ready p stands knows = record {
      told = notes;
      right = all_true 0 parts news notes all ready p (map (candidate_at config now) held ++ [])
          (λ s k there. fits_held config part_of made now k s parts held (knows k s there) stands.same (stands.marked k s there) syncing [] (λ q e h g found. refl))
          (ap (list_all (λ c. not (is_succeeded syncing c))) (append-nil (map (candidate_at config now) held)) ∙ none_succeeded config now None Nothing true held);
      left = record {
        same = corresponds-as (held_after config now held syncing notes (map (λ (h : HeldValue). h.value) (left_held held syncing notes))) (items_of 0 news) (left_held held syncing notes) (λ h. refl)
            (λ q h found. after_plain config now held syncing notes (map (λ (h : HeldValue). h.value) (left_held held syncing notes)) refl h refl)
            (subst (λ xs. Corresponds (items_of 0 news) (left notes xs)) (sym (append-nil held))
            (corresponds_from (items_of 0 news) (left notes held) (apart-of part_of 0 news (parted-after part_of 0 parts news notes all ready p)) (apart-left notes held stands.same.apart)
            (λ q. (corresponds-left notes (items_of 0 parts) held apart_items stands.same).found q ∙ found-after part_of 0 parts news notes all ready p (items_of 0 parts) apart_items (λ q le. refl) q (omega arith))));
        marked = λ k x there owner at held_now point h found.
            absurd (no_point x.settings.capacity (map (λ u. u.write) x.unsent) owner.number
            (subst (λ ws. HasPoint x.settings.capacity ws (map (λ u. u.write) x.unsent) owner.number) (none_waits parts news notes all ready k x there) point));
      };
      handed = refl;
    }
      where
        apart_items : have_own_keys (items_of 0 parts) ≡ true
        apart_items = apart-of part_of 0 parts p

-- ---- sums over all parts: how many values are held and what they weigh, and what the engine counts after a run of all

-- ---- what is held

weight-plain : (held : List HeldValue) → sum_by (λ (h : HeldValue). h.value.weight) (map plain held) ≡ sum_by (λ (h : HeldValue). h.value.weight) held
weight-plain [] = refl
weight-plain (h ∷ held) = grind (arith, sum_by-cons (λ (g : HeldValue). g.value.weight) (plain h) (map plain held), weight-plain held, sum_by-cons (λ (g : HeldValue). g.value.weight) h held)

exact : (n : ℕ) → n ≤ 18446744073709551615 → min n 18446744073709551615 ≡ n
exact n le = omega arith

module _ {S : Type 0} where
  weight-here : (part : ℕ) (s : Part S) (es : List Kept) → sum_by (λ (h : HeldValue). h.value.weight) (map (as_held_value part s) es) ≡ sum_by (λ (e : Kept). e.weight) es
  weight-here part s [] = refl
  weight-here part s (e ∷ es) = grind (arith, sum_by-cons (λ (g : HeldValue). g.value.weight) (as_held_value part s e) (map (as_held_value part s) es), weight-here part s es, sum_by-cons (λ (x : Kept). x.weight) e es, Kept)

  number-items : (first : ℕ) (parts : List (Part S)) → length (items_of first parts) ≡ sum_by (λ (s : Part S). length (held_entries s.records)) parts
  number-items first [] = refl
  number-items first (s ∷ parts) = grind (arith, length-append (items_in first s) (items_of (suc first) parts), length-map (held_entries s.records) (as_held_value first s), number-items (suc first) parts, sum_by-cons (λ (s : Part S). length (held_entries s.records)) s parts)

  weight-items : (first : ℕ) (parts : List (Part S)) → sum_by (λ (h : HeldValue). h.value.weight) (items_of first parts) ≡ sum_by (λ (s : Part S). held_weight s.records) parts
  weight-items first [] = refl
  weight-items first (s ∷ parts) = grind (arith, sum_by-append (λ (h : HeldValue). h.value.weight) (items_in first s) (items_of (suc first) parts), weight-here first s (held_entries s.records), weight-items (suc first) parts, sum_by-cons (λ (s : Part S). held_weight s.records) s parts)

  -- THE NUMBER OF VALUES HELD is the sum over the parts
  pub number_is : (parts : List (Part S)) (held : List HeldValue) → Stands parts held → length held ≡ sum_by (λ (s : Part S). length (held_entries s.records)) parts
  number_is parts held stands = stands.same.number ∙ number-items 0 parts

  -- and so is their weight
  pub weight_is : (part_of : List ℕ → ℕ) (parts : List (Part S)) (held : List HeldValue) → AreParted part_of 0 parts → Stands parts held → sum_by (λ (h : HeldValue). h.value.weight) held ≡ sum_by (λ (s : Part S). held_weight s.records) parts
  weight_is part_of parts held parted stands =
      let ispermutation = sum_by-IsPermutation (λ (h : HeldValue). h.value.weight) (map plain held) (items_of 0 parts) (permutation (items_of 0 parts) held (apart-of part_of 0 parts parted) stands.same) in
      grind (arith, weight-plain held, ispermutation, permutation (items_of 0 parts) held (apart-of part_of 0 parts parted) stands.same, apart-of part_of 0 parts parted, weight-items 0 parts)

  -- ---- what the engine counts

  -- sound, and nothing is unsent
  pub record IsSent (s : Part S) : Type 0 where
    pub sound : IsSound s
    pub sent : s.unsent ≡ []

  counted_number : (now : ℕ) (parts news : List (Part S)) (notes : List Note) → AllRan now parts news notes → EachPart now IsSent parts → sum_by (λ (s : Part S). s.number) news ≡ sum_by (λ (s : Part S). length (held_entries s.records)) news
  counted_number now all news notes none ready = refl
  counted_number now all news notes (next {parts = parts} {news = after} {notes = rest} s new run later) ready =
      sum_by-cons (λ (x : Part S). x.number) (record new { notices = [] }) after
      ∙ ap (λ n. n + sum_by (λ (x : Part S). x.number) after) (counts_are_exact (List ℕ) Stored (List ℕ) S Weight service_answers now s new ready.0.sound ready.0.sent run).number
      ∙ ap (λ n. length (held_entries new.records) + n) (counted_number now parts after rest later ready.1)
      ∙ sym (sum_by-cons (λ (x : Part S). length (held_entries x.records)) (record new { notices = [] }) after)

  -- where all weigh less than 2^64 together
  counted_weight : (now : ℕ) (parts news : List (Part S)) (notes : List Note) → AllRan now parts news notes → EachPart now IsSent parts → sum_by (λ (s : Part S). held_weight s.records) news ≤ 18446744073709551615
      → sum_by (λ (s : Part S). s.weight) news ≡ sum_by (λ (s : Part S). held_weight s.records) news
  counted_weight now all news notes none ready le = refl
  counted_weight now all news notes (next {parts = parts} {news = after} {notes = rest} s new run later) ready le =
      let both = sum_by-cons (λ (x : Part S). held_weight x.records) (record new { notices = [] }) after in
      sum_by-cons (λ (x : Part S). x.weight) (record new { notices = [] }) after
      ∙ ap (λ n. n + sum_by (λ (x : Part S). x.weight) after)
      ((counts_are_exact (List ℕ) Stored (List ℕ) S Weight service_answers now s new ready.0.sound ready.0.sent run).weight ∙ exact (held_weight new.records) (omega (arith, both, le)))
      ∙ ap (λ n. held_weight new.records + n) (counted_weight now parts after rest later ready.1 (omega (arith, both, le)))
      ∙ sym both

  -- THE COUNTS AFTER A RUN OF ALL are those of what is left
  pub record CountsAreTold (news : List (Part S)) (left : List HeldValue) : Type 0 where
    pub number : sum_by (λ (s : Part S). s.number) news ≡ length left
    pub weight : sum_by (λ (s : Part S). s.weight) news ≡ sum_by (λ (h : HeldValue). h.value.weight) left

  pub counts_are_told : (part_of : List ℕ → ℕ) (now : ℕ) (parts news : List (Part S)) (notes : List Note) (left : List HeldValue) → AllRan now parts news notes → EachPart now IsSent parts → AreParted part_of 0 news → Stands news left
      → sum_by (λ (h : HeldValue). h.value.weight) left ≤ 18446744073709551615 → CountsAreTold news left
  counts_are_told part_of now parts news notes left all ready parted stands le = grind (arith, counted_number now parts news notes all ready, number_is news left stands, weight_is part_of news left parted stands, counted_weight now parts news notes all ready)

-- ---- what a run of all parts leaves: within the shares, and timely

-- what is so of each value that is found is so of all
pub all_by_key : (p : HeldValue → Bool) (xs : List HeldValue) → have_own_keys xs ≡ true → ((q : List ℕ) (h : HeldValue) → value_at xs q ≡ Some h → p h ≡ true) → list_all p xs ≡ true
all_by_key p [] a each = refl
all_by_key p (x ∷ xs) a each =
    let parts = and_parts (is_absent x.value.key xs) (have_own_keys xs) a in
    and_from _ _ (each x.value.key x (ap (λ b. cond b (Some x) (value_at xs x.value.key)) (same-refl x.value.key)))
    (all_by_key p xs parts.1 (λ q h found. each q h (behind q h found parts.0)))
  where
    behind : (q : List ℕ) (h : HeldValue) → value_at xs q ≡ Some h → is_absent x.value.key xs ≡ true → value_at (x ∷ xs) q ≡ Some h
    behind q h found absent = grind (arith, equal_from_same q x.value.key, none_from_absent x.value.key xs absent, none-some h)

module _ {S : Type 0} (config : Config) (part_of : List ℕ → ℕ) (made : ℕ) (parts : List (Part S)) (held : List HeldValue) (parted : AreParted part_of 0 parts) (c : Corresponds (items_of 0 parts) held)
    (count : (q : List ℕ) → (x : Part S) × (slice_get parts (part_of q) ≡ Some x)) (settings : (k : ℕ) (x : Part S) → slice_get parts k ≡ Some x → x.settings ≡ part_settings config made) where
  -- the part and the entry of a value held
  pub record Lies (q : List ℕ) (h : HeldValue) : Type 0 where
    pub part : Part S
    pub there : slice_get parts (part_of q) ≡ Some part
    pub entry : Kept
    pub found : entry_of same (held_entries part.records) q ≡ Some entry
    pub is : plain h ≡ as_held_value (part_of q) part entry

  pub lies : (q : List ℕ) (h : HeldValue) → value_at held q ≡ Some h → Lies q h
  lies q h e =
      let s = count q in
      let zero_plus : 0 + part_of q ≡ part_of q = omega arith in
      go s.0 s.1 (entry_of same (held_entries s.0.records) q) refl
      (ap (option_map plain) (sym e) ∙ c.found q ∙ value_at-part part_of 0 (part_of q) parts s.0 q parted s.1 (sym zero_plus) ∙ ap (λ m. option_map (as_held_value m s.0) (entry_of same (held_entries s.0.records) q)) zero_plus)
    where
      go : (s : Part S) → slice_get parts (part_of q) ≡ Some s → (o : Option Kept) → entry_of same (held_entries s.records) q ≡ o → Some (plain h) ≡ option_map (as_held_value (part_of q) s) o → Lies q h
      go s there None f g = absurd (none-some (plain h) (sym g))
      go s there (Some x) f g = record { part = s; there = there; entry = x; found = f; is = cc }

  -- a part weighs what the audit says
  pub over_part : (k : ℕ) (x : Part S) → slice_get parts k ≡ Some x → is_over config k (map (λ (h : HeldValue). h.value) held) ≡ is_above x.settings.capacity (held_weight x.records)
  over_part k x there = grind (arith, over_is config k (items_of 0 parts) held (apart-of part_of 0 parts parted) c, apart-of part_of 0 parts parted, weight-part 0 k parts x there, above_is (option_map (share config) config.capacity) (held_weight x.records))

  pub within_all : ((k : ℕ) (x : Part S) → slice_get parts k ≡ Some x → is_above x.settings.capacity (held_weight x.records) ≡ false) → is_within config (map (λ (h : HeldValue). h.value) held) ≡ true
  within_all fits = list_map held (all_by_key (λ h. not (is_over config h.value.part (map (λ (h : HeldValue). h.value) held))) held c.apart (λ q h e.
      let l = lies q h e in
      not_from_false _ (ap (λ m. is_over config m (map (λ (h : HeldValue). h.value) held)) (ap (λ (g : HeldValue). g.value.part) l.is) ∙ over_part (part_of q) l.part l.there ∙ fits (part_of q) l.part l.there)))
    where
      list_map : (xs : List HeldValue) → list_all (λ h. not (is_over config h.value.part (map (λ (h : HeldValue). h.value) held))) xs ≡ true
          → list_all (λ v. not (is_over config v.part (map (λ (h : HeldValue). h.value) held))) (map (λ (h : HeldValue). h.value) xs) ≡ true
      list_map [] e = refl
      list_map (x ∷ xs) e = let p = and_parts (not (is_over config x.value.part (map (λ (h : HeldValue). h.value) held))) _ e in and_from _ _ p.0 (list_map xs p.1)

  -- ---- times

  record-of : (x : Part S) (q : List ℕ) (e : Kept) → AreNumbered x.records → entry_of same (held_entries x.records) q ≡ Some e → (r : Rec) × (record_at x.records r.number ≡ Some r) × (r.entry ≡ e)
  record-of x q e numbered h = go (held_at same x.records q) refl (sym (entry-held same x.records q) ∙ h)
    where
      go : (o : Option Rec) → held_at same x.records q ≡ o → option_map (λ (y : Rec). y.entry) o ≡ Some e → (r : Rec) × (record_at x.records r.number ≡ Some r) × (r.entry ≡ e)
      go None f g = absurd (none-some e g)
      go (Some r) f g = (r, held_at-only same x.records q r numbered f, cc)

  pub record IsRested (now : ℕ) (x : Part S) : Type 0 where
    pub due : LeavesNoneDue now x
    pub numbered : AreNumbered x.records
    pub predicates : x.predicates ≡ []
    pub in_order : InOrderBy IsUsedBefore x.records x.access
    pub early : (q : List ℕ) (e : Kept) → entry_of same (held_entries x.records) q ≡ Some e → (e.written < 9223372036854775808) × (e.used < 9223372036854775808)

  pub timely_all : (now : ℕ) → IsBrief config → ((k : ℕ) (x : Part S) → slice_get parts k ≡ Some x → IsRested now x) → list_all (is_timely config made now) held ≡ true
  timely_all now brief rested = all_by_key (is_timely config made now) held c.apart each
    where
      each : (q : List ℕ) (h : HeldValue) → value_at held q ≡ Some h → is_timely config made now h ≡ true
      each q h e =
          ap (λ (g : HeldValue). is_timely config made now g) l.is
          ∙ and_from _ _ (and_from _ _ (and_from _ _ (not_from_false _ uncovered) (not_from_false _ live)) (not_from_false _ (idle config.idle_ms refl))) (not_from_false _ (own x.expires refl))
        where
          l : Lies q h
          l = lies q h e

          x : Kept
          x = l.entry

          t : IsRested now l.part
          t = rested (part_of q) l.part l.there

          rec : (r : Rec) × (record_at l.part.records r.number ≡ Some r) × (r.entry ≡ l.entry)
          rec = record-of l.part q l.entry t.numbered l.found

          set : l.part.settings ≡ part_settings config made
          set = settings (part_of q) l.part l.there

          uncovered : is_covered service_answers l.part x ≡ false
          uncovered =
              ap (λ ps. nat_lt x.step l.part.cleared || list_any (λ p. is_covered_by service_answers l.part.rules p x) ps) t.predicates
              ∙ ap (λ b. b || false) (ap (λ (y : Kept). nat_lt y.step l.part.cleared) (sym rec.2) ∙ t.due.clear rec.0 rec.1)

          live : deadline_has_come (option_map (after_ms x.written) config.live_ms) now ≡ false
          live =
              sym (reached_is (option_map (after_ms x.written) config.live_ms) now)
              ∙ sym (ap (λ o. is_reached o now) (end_is x.written config.live_ms (t.early q x l.found).0 brief.live))
              ∙ ap (λ (z : Settings). is_reached (end_of x.written z.live) now) (sym set)
              ∙ ap (λ (y : Kept). is_reached (end_of y.written l.part.settings.live) now) (sym rec.2)
              ∙ t.due.live rec.0 rec.1

          idle : (ms : Option ℕ) → config.idle_ms ≡ ms → deadline_has_come (option_map (λ m. after_ms x.used m + 300000000) ms) now ≡ false
          idle None is = refl
          idle (Some m) is =
              let less = t.due.idle t.in_order rec.0 rec.1 (nanos m) (ap (λ (z : Settings). z.idle) set ∙ ap (option_map nanos) is) in
              let same_use : rec.0.entry.used ≡ x.used = ap (λ (y : Kept). y.used) rec.2 in
              false_from_ne_true _ (λ e. (let le = leb-true (x.used + m * 1000000 + 300000000) now e in omega (arith, le, less, same_use)))

          rounds : (made : ℕ) → made / 4096 * 4096 ≡ made - made % 4096
          rounds made = omega arith

          own : (o : Option ℕ) → x.expires ≡ o → is_of_earlier_tick made now o ≡ false
          own None is = refl
          own (Some m) is =
              let le = t.due.own rec.0 rec.1 m (ap (λ (y : Kept). y.expires) rec.2 ∙ is) in
              let at : ((k : ℕ) → tick_of l.part.settings k ≡ tick_since made k) = λ k. ap (λ (z : Settings). tick_of z k) set ∙ ap (λ b. (k - b) / 1073741824) (rounds made) in
              false_from_ne_true _ (λ e. (let lt = ltb-true (tick_since made m) (tick_since made now) e in let a = at now in let b = at m in omega (arith, lt, le, a, b)))

-- ---- how much a part may hold while writes wait

abbrev pub weigh : List Write → ℕ
weigh [] = 0
weigh (w ∷ ws) = write_weight w + weigh ws

light-weigh : (ws : List Write) → AreLight 8192 ws → weigh ws ≤ length ws * 8192
light-weigh [] h = omega arith
light-weigh (w ∷ ws) h = let rest = light-weigh ws h.1 in let first = h.0 in omega (arith, rest, first)

module _ {K V : Type 0} where
  counted-more : (n weight : ℕ) (f : Record K V → Record K V) → ((r : Record K V) → weight_at (f r) ≡ weight) → (rs : List (Record K V)) → admitted_weight (changed_at n f rs) ≤ weight + admitted_weight rs
  counted-more n weight f is [] = omega arith
  counted-more n weight f is (r ∷ rs) = grind (arith, counted-more n weight f is rs, weight-cons (f r) rs, weight-cons r rs, weight-cons r (changed_at n f rs))

  write-more : (w : Write) (rs : List (Record K V)) → admitted_weight (with_write w rs) ≤ write_weight w + admitted_weight rs
  write-more (Put u) rs = counted-more u.number u.weight (λ r. record r { applied = u.write; counts = Some u.weight }) (λ r. refl) rs
  write-more (Removed n) rs = let le = fewer-weight (without_record n rs) rs (fewer-without n rs rs (fewer-refl rs)) in omega (arith, le)

  writes-more : (ws : List Write) (rs : List (Record K V)) → admitted_weight (with_writes ws rs) ≤ weigh ws + admitted_weight rs
  writes-more [] rs = omega arith
  writes-more (w ∷ ws) rs = let a = writes-more ws (with_write w rs) in let b = write-more w rs in omega arith

-- WHAT IS HELD WEIGHS AT MOST WHAT COUNTS AND WHAT WAITS
pub held_at_most : {K V P S R : Type 0} (s : State K V P S R) → IsInOrder s → held_weight s.records ≤ weigh (pending_of s) + admitted_weight s.records
held_at_most s order = let e = applied-weight s order.sound order.rising in let le = writes-more (pending_of s) s.records in omega (arith, e, le)

module _ {S : Type 0} (config : Config) (part_of : List ℕ → ℕ) (made : ℕ) (parts : List (Part S)) (held : List HeldValue) (parted : AreParted part_of 0 parts) (c : Corresponds (items_of 0 parts) held)
    (count : (q : List ℕ) → (x : Part S) × (slice_get parts (part_of q) ≡ Some x)) (settings : (k : ℕ) (x : Part S) → slice_get parts k ≡ Some x → x.settings ≡ part_settings config made) where
  pub record IsLean (x : Part S) : Type 0 where
    pub in_order : IsInOrder x
    pub sent : x.unsent ≡ []
    pub few : length x.writes < 64
    pub light : AreLight 8192 x.writes

  pub bounded_all : ((k : ℕ) (x : Part S) → slice_get parts k ≡ Some x → IsLean x) → is_bounded config held ≡ true
  bounded_all lean = go config.capacity refl
    where
      go : (capacity : Option ℕ) → config.capacity ≡ capacity → is_bounded (record config { capacity = capacity }) held ≡ true
      go None is = refl
      go (Some capacity) is = all_by_key (λ h. nat_le (weight_in h.value.part held) (share config capacity + 524288)) held c.apart each
        where
          each : (q : List ℕ) (h : HeldValue) → value_at held q ≡ Some h → nat_le (weight_in h.value.part held) (share config capacity + 524288) ≡ true
          each q h e =
              let l = lies config part_of made parts held parted c count settings q h e in
              let x = l.part in
              let k = lean (part_of q) x l.there in
              let at : h.value.part ≡ part_of q = ap (λ (g : HeldValue). g.value.part) l.is in
              let zero_plus : 0 + part_of q ≡ part_of q = omega arith in
              let weight : weight_in h.value.part held ≡ held_weight x.records =
              same_weight h.value.part (items_of 0 parts) held (apart-of part_of 0 parts parted) c ∙ ap (λ m. weight_in m (items_of 0 parts)) (at ∙ sym zero_plus) ∙ weight-part 0 (part_of q) parts x l.there in
              let le = held_at_most x k.in_order in
              let pending : pending_of x ≡ x.writes = ap (λ us. x.writes ++ map (λ u. u.write) us) k.sent ∙ append-nil x.writes in
              let waits : weigh (pending_of x) ≤ length x.writes * 8192 = subst (λ ws. weigh ws ≤ length x.writes * 8192) (sym pending) (light-weigh x.writes k.light) in
              let capacity_is : x.settings.capacity ≡ Some (share config capacity) = ap (λ z. z.capacity) (settings (part_of q) x l.there) ∙ ap (option_map (share config)) is in
              let fits = ltb-false (share config capacity) (admitted_weight x.records) (sym (ap (λ o. is_above o (admitted_weight x.records)) capacity_is) ∙ k.in_order.within) in
              let few = k.few in
              le-leb (weight_in h.value.part held) (share config capacity + 524288) (omega (arith, weight, le, waits, fits, few))

-- ---- a step that does nothing to values leaves those that are held, and what is told of one part is no more than its entries

module _ {S : Type 0} where
  pub idle_does : (config : Config) (part_of : List ℕ → ℕ) (now : ℕ) (parts : List (Part S)) (held : List HeldValue) → AreParted part_of 0 parts → ((q : List ℕ) → (x : Part S) × (slice_get parts (part_of q) ≡ Some x)) → Stands parts held
      → Stands parts (all_held_after config now held no_deed [])
  idle_does config part_of now parts held p count stands = record {
    same = corresponds-as (held_after config now held no_deed [] (map (λ (h : HeldValue). h.value) (held ++ []))) (items_of 0 parts) (held ++ []) (λ h. refl)
        (λ q h found. after_plain config now held no_deed [] (map (λ (h : HeldValue). h.value) (held ++ [])) refl h refl) (subst (λ xs. Corresponds (items_of 0 parts) xs) (sym (append-nil held)) stands.same);
    marked = λ k x here.
        subst (λ xs. AreMarked x (map (held_after config now held no_deed [] (map (λ (h : HeldValue). h.value) (held ++ []))) xs)) (sym (append-nil held))
        (marks_elsewhere config part_of now parts held p stands.same no_deed [] (suc k) k x held (map (λ (h : HeldValue). h.value) (held ++ [])) refl tt (λ e. omega (arith, e)) here
        (in_part config part_of now parts held p stands.same count) (candidates_placed config part_of now parts held p stands.same count)
        (λ q e. refl) (stands.marked k x here));
  }
