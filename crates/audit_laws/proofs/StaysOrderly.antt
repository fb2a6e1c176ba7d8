-- Situations that records lead to are orderly.
use Rattle.std.proofs.Common.{arith, ◌≡◌, refl, ap, ◌∙◌, sym, subst, ℕ, Bool, true, false, true≢false, not, ◌||◌, List, [], ◌∷◌, ◌++◌, map, Option, Some, None}
use Rattle.std.specs.Prelude.{IsTrue}
use Rattle.std.specs.List.{list_all, IsDistinct}
use Rattle.std.specs.Option.{option_map, option_to_list}
use Rattle.std.proofs.lemmas.Bool.{and_from}
use Rattle.std.proofs.lemmas.List.{map-append}
use Rattle.std.proofs.lemmas.Simd.{map-map}
use Rattle.audit_model.specs.Bytewise.{same}
use Rattle.audit_model.specs.Changes.{newly_held, left_held, held_after, all_held_after, after_step}
use Rattle.audit_model.specs.Commands.{Deed, deed_of}
use Rattle.audit_model.specs.Follows.{after_event, placed_step_in}
use Rattle.audit_model.specs.History.{Value}
use Rattle.audit_model.specs.Notes.{is_over, newcomer, candidates_of, is_succeeded, are_true_notes}
use Rattle.audit_model.specs.Situation.{Situation, HeldValue, candidate_at}
use Rattle.audit_model.specs.Steps.{Task, is_right}
use Rattle.audit_model.specs.Values.{untold}
use Rattle.audit_model.specs.View.{Candidate}
use Rattle.audit_model.specs.declared.config.Config.{Config}
use Rattle.audit_model.specs.declared.event.Event.{Event}
use Rattle.audit_model.specs.declared.transcript.Note.{Note}
use Rattle.audit_model.specs.declared.transcript.Step.{Step}
use Rattle.audit_laws.specs.Orderly.{IsOrderly}
use Rattle.audit_laws.specs.Laws.{OrderlyStays}
use Rattle.audit_laws.proofs.Told.{Each, each-append, each-map, each_of_map, each-more, each_passing, each-untold, untold-map}
use Rattle.audit_laws.proofs.PendingLoads.{each-any}
use Rattle.audit_laws.proofs.Pairs.{Pairs, Differ, pairs-append, pairs-map, pairs-untold, pairs-joined, pairs-distinct, distinct-pairs}
use Rattle.audit_laws.proofs.HeldAll.{none_succeeded}
use Rattle.audit_laws.proofs.PlacedStepsAgree.{parts-of}
use Rattle.audit_laws.proofs.Kept.{held-stepped, event-ages}
use Rattle.audit_laws.proofs.Following.{records-keep}
use Rattle.std.proofs.lemmas.Bool.Decides.{nat_tests}

abbrev Marked : Config → List HeldValue → Type 0
Marked config held = IsTrue (list_all (λ h. not (is_over config h.value.part (map (λ k. k.value) held)) || h.evictable) held)

abbrev Distinct : List HeldValue → Type 0
Distinct held = IsDistinct same (map (λ h. h.value.key) held)

-- ---- excess is marked

list_all-mapped : {X Y : Type 0} (p : Y → Bool) (f : X → Y) (xs : List X) → ((x : X) → p (f x) ≡ true) → list_all p (map f xs) ≡ true
list_all-mapped p f [] h = refl
list_all-mapped p f (x ∷ xs) h = and_from (p (f x)) (list_all p (map f xs)) (h x) (list_all-mapped p f xs h)

marked-after : (config : Config) (now : ℕ) (held : List HeldValue) (deed : Deed) (notes : List Note) → Marked config (all_held_after config now held deed notes)
marked-after config now held deed notes =
    ap (λ vs. list_all (λ h. not (is_over config h.value.part vs) || h.evictable) (map (held_after config now held deed notes (map (λ k. k.value) (left_held held deed notes))) (left_held held deed notes)))
    (map-map (λ (k : HeldValue). k.value) (held_after config now held deed notes (map (λ k. k.value) (left_held held deed notes))) (left_held held deed notes))
    ∙ list_all-mapped (λ h. not (is_over config h.value.part (map (λ k. k.value) (left_held held deed notes))) || h.evictable) (held_after config now held deed notes (map (λ k. k.value) (left_held held deed notes))) (left_held held deed notes)
    (λ h. either (is_over config h.value.part (map (λ k. k.value) (left_held held deed notes))) _)
  where
    either : (o b : Bool) → (not o || (o || b)) ≡ true
    either o b = grind arith

-- ---- keys are distinct

module _ (config : Config) (now : ℕ) (held : List HeldValue) (deed : Deed) (notes : List Note) where
  abbrev olds : List Candidate
  olds = map (candidate_at config now) held

  abbrev all : List Candidate
  all = candidates_of config olds deed

  abbrev left : List Candidate
  left = untold (λ c. c.value.key) notes all

  held-newly : (o : Option Value) → map (λ (h : HeldValue). h.value) (option_to_list (option_map newly_held o)) ≡ option_to_list o
  held-newly None = refl
  held-newly (Some v) = refl

  newly : (o : Option Value) → map (λ (c : Candidate). c.value) (option_to_list (option_map (newcomer config) o)) ≡ option_to_list o
  newly None = refl
  newly (Some v) = refl

  all-values : map (λ c. c.value) all ≡ map (λ h. h.value) (held ++ option_to_list (option_map newly_held deed.value))
  all-values =
      map-append (λ c. c.value) olds (option_to_list (option_map (newcomer config) deed.value))
      ∙ ap (λ vs. vs ++ map (λ c. c.value) (option_to_list (option_map (newcomer config) deed.value))) (map-map (λ (c : Candidate). c.value) (candidate_at config now) held)
      ∙ ap (λ vs. map (λ h. h.value) held ++ vs) (newly deed.value ∙ sym (held-newly deed.value))
      ∙ sym (map-append (λ h. h.value) held (option_to_list (option_map newly_held deed.value)))

  left-values : map (λ h. h.value) (left_held held deed notes) ≡ map (λ c. c.value) left
  left-values =
      sym (untold-map (λ h. h.value) (λ v. v.key) notes (held ++ option_to_list (option_map newly_held deed.value)))
      ∙ ap (untold (λ v. v.key) notes) (sym all-values)
      ∙ untold-map (λ c. c.value) (λ v. v.key) notes all

  left-keys : map (λ h. h.value.key) (all_held_after config now held deed notes) ≡ map (λ c. c.value.key) left
  left-keys =
      map-map (λ (h : HeldValue). h.value.key) (held_after config now held deed notes (map (λ k. k.value) (left_held held deed notes))) (left_held held deed notes)
      ∙ sym (map-map (λ (v : Value). v.key) (λ (h : HeldValue). h.value) (left_held held deed notes))
      ∙ ap (map (λ v. v.key)) left-values
      ∙ map-map (λ (v : Value). v.key) (λ (c : Candidate). c.value) left

  -- of two candidates the first is old, and an old second one has another key
  abbrev Apart : Candidate → Candidate → Type 0
  Apart c d = (c.new ≡ false) × (d.new ≡ false → Differ c.value.key d.value.key)

  abbrev Fresh : Candidate → Type 0
  Fresh c = c.new ≡ true → deed.value ≡ Some c.value

  olds-apart : (hs : List HeldValue) → Pairs (λ g h. Differ g.value.key h.value.key) hs → Pairs (λ g h. Apart (candidate_at config now g) (candidate_at config now h)) hs
  olds-apart [] h = tt
  olds-apart (g ∷ gs) (e, h) = (each-more _ _ gs (λ k d. (refl, λ new. d)) e, olds-apart gs h)

  one-new : (o : Option Value) → Pairs Apart (option_to_list (option_map (newcomer config) o))
  one-new None = tt
  one-new (Some v) = (tt, tt)

  before-new : (o : Option Value) (c : Candidate) → c.new ≡ false → Each (Apart c) (option_to_list (option_map (newcomer config) o))
  before-new None c old = tt
  before-new (Some v) c old = ((old, λ e. absurd (true≢false e)), tt)

  all-apart : Pairs (λ g h. Differ g.value.key h.value.key) held → Pairs Apart all
  all-apart h =
      pairs-append Apart olds (option_to_list (option_map (newcomer config) deed.value)) (pairs-map Apart (candidate_at config now) held (olds-apart held h)) (one-new deed.value)
      (each-map (λ c. Each (Apart c) (option_to_list (option_map (newcomer config) deed.value))) (candidate_at config now) held
      (each-any held (λ h. before-new deed.value (candidate_at config now h) refl)))

  new-fresh : (o : Option Value) → deed.value ≡ o → Each Fresh (option_to_list (option_map (newcomer config) o))
  new-fresh None e = tt
  new-fresh (Some v) e = ((λ new. e), tt)

  all-fresh : Each Fresh all
  all-fresh =
      each-append Fresh olds (option_to_list (option_map (newcomer config) deed.value)) (each-map Fresh (candidate_at config now) held (each-any held (λ h e. absurd (true≢false (sym e))))) (new-fresh deed.value refl)

  differ-left : (c d : Candidate) → Apart c d → IsTrue (not (is_succeeded deed c)) → Fresh d → Differ c.value.key d.value.key
  differ-left c d apart spared fresh = grind (arith, nat_tests)

  distinct-after : Pairs (λ g h. Differ g.value.key h.value.key) held → IsTrue (are_true_notes config olds deed all notes) → Distinct (all_held_after config now held deed notes)
  distinct-after h told =
      subst (IsDistinct same) (sym left-keys)
      (distinct-pairs (map (λ c. c.value.key) left)
      (pairs-map Differ (λ (c : Candidate). c.value.key) left
      (pairs-joined Apart (λ c d. Differ c.value.key d.value.key) (λ c. IsTrue (not (is_succeeded deed c))) Fresh left differ-left
      (pairs-untold Apart (λ c. c.value.key) notes all (all-apart h))
      (each_passing (λ c. not (is_succeeded deed c)) left (none_succeeded config olds deed all notes told))
      (each-untold Fresh (λ c. c.value.key) notes all all-fresh))))

pub pairs-of_keys : (hs : List HeldValue) → Pairs Differ (map (λ h. h.value.key) hs) → Pairs (λ g h. Differ g.value.key h.value.key) hs
pairs-of_keys [] h = tt
pairs-of_keys (g ∷ gs) (e, h) = (each_of_map (Differ g.value.key) (λ (k : HeldValue). k.value.key) gs e, pairs-of_keys gs h)

pub held-pairs : (config : Config) (held : List HeldValue) → IsOrderly config held → Pairs (λ g h. Differ g.value.key h.value.key) held
held-pairs config held o = pairs-of_keys held (pairs-distinct (map (λ h. h.value.key) held) o.distinct)

-- ---- deeds, events, steps and records

orderly-deed : (config : Config) (now : ℕ) (held : List HeldValue) (deed : Deed) (notes : List Note)
    → IsOrderly config held → IsTrue (are_true_notes config (map (candidate_at config now) held) deed (candidates_of config (map (candidate_at config now) held) deed) notes)
    → IsOrderly config (all_held_after config now held deed notes)
orderly-deed config now held deed notes o told =
    record { marked = marked-after config now held deed notes; distinct = distinct-after config now held deed notes (held-pairs config held o) told }

orderly-event : (config : Config) (e : Event) (s : Situation) → IsOrderly config s.held → IsOrderly config (after_event e s).held
orderly-event config e s o = subst (IsOrderly config) (sym (event-ages e s).held) o

orderly-step : (config : Config) (s : Situation) (task : Option Task) (step : Step) → IsOrderly config s.held → is_right config (placed_step_in config s task step) ≡ true
    → IsOrderly config (after_step config s task step (placed_step_in config s task step).effect).held
orderly-step config s task step o right =
    let placed = placed_step_in config s task step in
    subst (IsOrderly config) (sym (held-stepped config s task step placed.effect))
    (orderly-deed config s.latest s.held (deed_of placed.effect) placed.effect.notes o (parts-of config placed right).told)

orderly-empty : (config : Config) → IsOrderly config []
orderly-empty config = record { marked = refl; distinct = distinct-pairs [] tt }

pub orderly_stays : OrderlyStays
orderly_stays =
    record {
      empty = orderly-empty;
      deed = orderly-deed;
      event = orderly-event;
      step = orderly-step;
      records = λ config records s t o e. records-keep config (λ u. IsOrderly config u.held) (orderly-event config) (orderly-step config) records s t e o;
    }
