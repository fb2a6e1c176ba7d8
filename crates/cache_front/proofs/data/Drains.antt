-- Notices that are taken one by one from a part, and from one part after another.
use Rattle.std.proofs.Common.{◌≡◌, refl, ap, ◌∙◌, sym, subst, ℕ, zero, suc, ◌+◌, ◌≤◌, arith, List, ◌∷◌, ◌++◌, drop, length, map, Some, None, Result, Ok, Err, true≢false, if◌then◌else◌, [], slice_get, slice_set}
use Rattle.std.specs.Result.{IsOk, is_ok}
use Rattle.std.proofs.lemmas.List.{append-nil, append_assoc, length-append}
use Rattle.std.proofs.lemmas.Option.{none-some}
use Rattle.audit_model.specs.declared.transcript.Note.{Note}
use Rattle.cache_front.specs.Draining.{drained_at, waiting_at}
use Rattle.cache_front.specs.State.{Lent}
use Rattle.cache_front.specs.Parts.{Part, Stored, drained, note_from}
use Rattle.cache_front.specs.View.{all_drained, waiting}
use Rattle.cache_front.proofs.whole.Changing.{AreTaken, all_drained-none, drained-none, waiting-none}
use Rattle.engine_reference.specs.Calls.{without_notice}
use Rattle.engine_reference.specs.declared.data.Notice.{Notice}
use Rattle.front_parts.specs.Places.Told.{told_at, without_told_at}
use Rattle.front_parts.proofs.wholes.Told.{NoneTold}

-- what was pushed
pub pushed_if : {X T E : Type 0} (r : Result T E) (now more old : X) → IsOk r → now ≡ (if is_ok r then more else old) → now ≡ more
pushed_if (Ok t) now more old ok is = is
pushed_if (Err e) now more old ok is = absurd (true≢false (sym ok))

-- ---- one part

module _ {S : Type 0} where
  told-none : (place : ℕ) (parts : List (Part S)) → told_at place parts ≡ None → (waiting_at place parts ≡ []) × (drained_at place parts ≡ parts) × (without_told_at place parts ≡ parts)
  told-none place [] none = (refl, refl, refl)
  told-none zero (s ∷ parts) none = go s.notices refl none
    where
      go : (ns : List (Notice (List ℕ) Stored)) → s.notices ≡ ns → slice_get ns 0 ≡ None → (map note_from s.notices ≡ []) × (drained s ∷ parts ≡ s ∷ parts) × (without_notice s ∷ parts ≡ s ∷ parts)
      go [] is none = (
        ap (map note_from) is,
        ap (λ y. y ∷ parts) (drained-none s is),
        ap (λ ns. record s { notices = drop 1 ns } ∷ parts) is ∙ ap (λ y. y ∷ parts) (drained-none s is),
      )
      go (n ∷ ns) is none = absurd (none-some n (sym none))
  told-none (suc place) (s ∷ parts) none = let t = told-none place parts none in (t.0, ap (λ ps. s ∷ ps) t.1, ap (λ ps. s ∷ ps) t.2)

  told-some : (place : ℕ) (parts : List (Part S)) (n : Notice (List ℕ) Stored) → told_at place parts ≡ Some n
      → (waiting_at place parts ≡ note_from n ∷ waiting_at place (without_told_at place parts)) × (drained_at place (without_told_at place parts) ≡ drained_at place parts)
  told-some place [] n told = absurd (none-some n told)
  told-some zero (s ∷ parts) n told = grind (arith, none-some)
  told-some (suc place) (s ∷ parts) n told = let t = told-some place parts n told in (t.0, ap (λ ps. s ∷ ps) t.1)

module _ {S : Type 0} (place : ℕ) (was : Lent S) (had : List Note) (held : ℕ) where
  -- some were taken from the part, and stand in the queue, and so many values are left
  pub record DrainsAt (front : Lent S) (queue : List Note) (count : ℕ) : Type 0 where
    pub rest : front ≡ record was { parts = front.parts }
    pub same : drained_at place front.parts ≡ drained_at place was.parts
    pub queued : queue ++ waiting_at place front.parts ≡ had ++ waiting_at place was.parts
    pub counted : count + length (waiting_at place was.parts) ≡ held + length (waiting_at place front.parts)

  -- there is room for each
  pub all_fit : (front : Lent S) (queue : List Note) (count room : ℕ) → DrainsAt front queue count → length had + length (waiting_at place was.parts) ≤ room → length queue + length (waiting_at place front.parts) ≤ room
  all_fit front queue count room d fits =
      let e = ap length d.queued in
      let a = length-append queue (waiting_at place front.parts) in
      let b = length-append had (waiting_at place was.parts) in
      omega (arith, e, a, b, fits)

  pub fewer : (front : Lent S) (n : Notice (List ℕ) Stored) → told_at place front.parts ≡ Some n → suc (length (waiting_at place (without_told_at place front.parts))) ≡ length (waiting_at place front.parts)
  fewer front n told = sym (ap length (told-some place front.parts n told).0)

  pub one_more : (front later : Lent S) (queue queue_then : List Note) (count count_then : ℕ) (n : Notice (List ℕ) Stored) → DrainsAt front queue count → told_at place front.parts ≡ Some n
      → later ≡ record front { parts = without_told_at place front.parts } → queue_then ≡ queue ++ note_from n ∷ [] → suc count_then ≡ count → DrainsAt later queue_then count_then
  one_more front later queue queue_then count count_then n d told is pushed less =
      let t = told-some place front.parts n told in
      let rest = waiting_at place (without_told_at place front.parts) in
      let parts_are : later.parts ≡ without_told_at place front.parts = ap (λ (x : Lent S). x.parts) is in
      record {
        rest = is ∙ ap (λ (x : Lent S). record x { parts = without_told_at place front.parts }) d.rest ∙ ap (λ (ps : List (Part S)). record was { parts = ps }) (sym parts_are);
        same = ap (λ ps. drained_at place ps) parts_are ∙ t.1 ∙ d.same;
        queued =
            ap (λ (ps : List (Part S)). queue_then ++ waiting_at place ps) parts_are
            ∙ ap (λ ns. ns ++ rest) pushed
            ∙ append_assoc queue (note_from n ∷ []) rest
            ∙ ap (λ ns. queue ++ ns) (sym t.0)
            ∙ d.queued;
        counted = (let a = d.counted in let b = ap length t.0 in let e = ap (λ (ps : List (Part S)). length (waiting_at place ps)) parts_are in omega (arith, a, b, e, less));
      }

  pub all_taken : (front later : Lent S) (queue : List Note) (count : ℕ) → DrainsAt front queue count → told_at place front.parts ≡ None → later ≡ record front { parts = without_told_at place front.parts }
      → (later ≡ record was { parts = drained_at place was.parts }) × (queue ≡ had ++ waiting_at place was.parts) × (count + length (waiting_at place was.parts) ≡ held)
  all_taken front later queue count d none is = grind (arith, told-none, append-nil)

-- ---- one part after another

module _ {S : Type 0} where
  waiting-split : (place : ℕ) (parts : List (Part S)) → NoneTold place parts → waiting parts ≡ waiting_at place parts ++ waiting (drained_at place parts)
  waiting-split place [] none = refl
  waiting-split zero (s ∷ parts) none = refl
  waiting-split (suc place) (s ∷ parts) none = grind (arith, waiting-split place parts none.1)

  none-more : (place : ℕ) (parts : List (Part S)) → NoneTold place parts → NoneTold (suc place) (drained_at place parts)
  none-more place [] none = tt
  none-more zero (s ∷ parts) none = (refl, tt)
  none-more (suc place) (s ∷ parts) none = (none.0, none-more place parts none.1)

  all_drained-at : (place : ℕ) (parts : List (Part S)) → all_drained (drained_at place parts) ≡ all_drained parts
  all_drained-at place [] = refl
  all_drained-at zero (s ∷ parts) = refl
  all_drained-at (suc place) (s ∷ parts) = ap (λ ps. drained s ∷ ps) (all_drained-at place parts)

  length-drained_at : (place : ℕ) (parts : List (Part S)) → length (drained_at place parts) ≡ length parts
  length-drained_at place [] = refl
  length-drained_at zero (s ∷ parts) = refl
  length-drained_at (suc place) (s ∷ parts) = ap suc (length-drained_at place parts)

  none-waits : (place : ℕ) (parts : List (Part S)) → length parts ≤ place → NoneTold place parts → (waiting parts ≡ []) × (all_drained parts ≡ parts)
  none-waits place [] past none = (refl, refl)
  none-waits zero (s ∷ parts) past none = absurd (omega arith)
  none-waits (suc place) (s ∷ parts) past none = grind (arith, drained-none, none-waits place parts)

module _ {S : Type 0} (was : Lent S) (had : List Note) (held : ℕ) where
  -- what so many first parts told was taken, and stands in the queue, and so many values are left
  pub record Drains (number_of_parts : ℕ) (front : Lent S) (queue : List Note) (count : ℕ) : Type 0 where
    pub rest : front ≡ record was { parts = front.parts }
    pub number : length front.parts ≡ length was.parts
    pub none : NoneTold number_of_parts front.parts
    pub same : all_drained front.parts ≡ all_drained was.parts
    pub queued : queue ++ waiting front.parts ≡ had ++ waiting was.parts
    pub counted : count + length (waiting was.parts) ≡ held + length (waiting front.parts)

  pub none_yet : Drains 0 was had held
  none_yet = record { rest = refl; number = refl; none = tt; same = refl; queued = refl; counted = refl }

  -- the next part's notes have room, and are of values that are held
  pub part_fits : (place : ℕ) (front : Lent S) (queue : List Note) (count room : ℕ) → Drains place front queue count → length had + length (waiting was.parts) ≤ room → length (waiting was.parts) ≤ held
      → (length queue + length (waiting_at place front.parts) ≤ room) × (length (waiting_at place front.parts) ≤ count)
  part_fits place front queue count room d fits few =
      let e = ap length d.queued in
      let a = length-append queue (waiting front.parts) in
      let b = length-append had (waiting was.parts) in
      let s = ap length (waiting-split place front.parts d.none) in
      let t = length-append (waiting_at place front.parts) (waiting (drained_at place front.parts)) in
      let c = d.counted in
      (omega (arith, e, a, b, s, t, fits), omega (arith, s, t, c, few))

  pub one_part : (place : ℕ) (front later : Lent S) (queue queue_then : List Note) (count count_then : ℕ) → Drains place front queue count → later ≡ record front { parts = drained_at place front.parts }
      → queue_then ≡ queue ++ waiting_at place front.parts → count_then + length (waiting_at place front.parts) ≡ count → Drains (place + 1) later queue_then count_then
  one_part place front later queue queue_then count count_then d is queued less =
      let more : suc place ≡ place + 1 = omega arith in
      let parts_are : later.parts ≡ drained_at place front.parts = ap (λ (x : Lent S). x.parts) is in
      record {
        rest = is ∙ ap (λ (x : Lent S). record x { parts = drained_at place front.parts }) d.rest ∙ ap (λ (ps : List (Part S)). record was { parts = ps }) (sym parts_are);
        number = ap length parts_are ∙ length-drained_at place front.parts ∙ d.number;
        none = subst (λ ps. NoneTold (place + 1) ps) (sym parts_are) (subst (λ n. NoneTold n (drained_at place front.parts)) more (none-more place front.parts d.none));
        same = ap all_drained parts_are ∙ all_drained-at place front.parts ∙ d.same;
        queued =
            ap (λ (ps : List (Part S)). queue_then ++ waiting ps) parts_are
            ∙ ap (λ ns. ns ++ waiting (drained_at place front.parts)) queued
            ∙ append_assoc queue (waiting_at place front.parts) (waiting (drained_at place front.parts))
            ∙ ap (λ ns. queue ++ ns) (sym (waiting-split place front.parts d.none))
            ∙ d.queued;
        counted =
            (let c = d.counted in let s = ap length (waiting-split place front.parts d.none) in let t = length-append (waiting_at place front.parts) (waiting (drained_at place front.parts)) in
            let e = ap (λ (ps : List (Part S)). length (waiting ps)) parts_are in omega (arith, c, s, t, e, less));
      }

  pub each_part : (number_of_parts : ℕ) (front : Lent S) (queue : List Note) (count : ℕ) → Drains number_of_parts front queue count → length was.parts ≤ number_of_parts
      → (front ≡ record was { parts = all_drained was.parts }) × (queue ≡ had ++ waiting was.parts) × (count + length (waiting was.parts) ≡ held)
  each_part number_of_parts front queue count d past = grind (arith, none-waits, append-nil)

-- ---- a part alone

-- where one of them changed
pub one_told : {S : Type 0} (place : ℕ) (parts : List (Part S)) (t : Part S) → AreTaken parts
    → (waiting_at place (slice_set parts place t) ≡ waiting (slice_set parts place t)) × (drained_at place (slice_set parts place t) ≡ all_drained (slice_set parts place t))
one_told place [] t taken = (refl, refl)
one_told zero (x ∷ parts) t taken =
    let others : AreTaken parts = λ k s there. taken (suc k) s there in
    (sym (append-nil (map note_from t.notices)) ∙ ap (λ ns. map note_from t.notices ++ ns) (sym (waiting-none parts others)), ap (λ ps. drained t ∷ ps) (sym (all_drained-none parts others)))
one_told (suc place) (x ∷ parts) t taken =
    let u = one_told place parts t (λ k s there. taken (suc k) s there) in
    let none = taken 0 x refl in (
      u.0 ∙ ap (λ ns. map note_from ns ++ waiting (slice_set parts place t)) (sym none),
      ap (λ ps. x ∷ ps) u.1 ∙ ap (λ y. y ∷ all_drained (slice_set parts place t)) (sym (drained-none x none)),
    )
