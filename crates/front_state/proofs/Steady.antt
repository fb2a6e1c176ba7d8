-- A call that comes to the part of a key keeps the front steady.
use Rattle.std.proofs.Common.{◌≡◌, refl, ap, sym, ◌∙◌, subst, ℕ, ◌^◌, ◌<◌, ◌≤◌, arith, Bool, true, false, List, [], ◌∷◌, length, get_or, Option, Some, None, inl, inr, ◌+◌, ◌++◌}
use Rattle.std.proofs.Math.Logic.{∥∥₁_elim, ∥∥₁_map}
use Rattle.std.proofs.Props.{props}
use Rattle.std.proofs.lemmas.Bool.{eq-eqb}
use Rattle.std.proofs.lemmas.Option.{slice_get_within, slice_get-get_or}
use Rattle.std.specs.Prelude.{slice_get, slice_set, option_map, ◌==◌, Result, IfOk, Ok, Err, All, is_some}
use Rattle.std.specs.Cmp.{IsEquivalence}
use Rattle.engine_reference.specs.Records.{held_entries}
use Rattle.engine_reference.specs.Calls.{LooksUp, cleared_by}
use Rattle.engine_reference.specs.Scanning.{NotesLookUp, past}
use Rattle.engine_reference.specs.State.{State}
use Rattle.engine_reference.specs.declared.data.Entry.{Entry}
use Rattle.engine_reference.specs.Telling.{AreApart, entry_of}
use Rattle.front_reference.specs.Keeping.{Common, IsKept}
use Rattle.front_reference.specs.Parts.{Inserts, TakesOut}
use Rattle.front_reference.specs.Wholes.{RunsPart}
use Rattle.front_reference.specs.Fronts.{Front, CallsAll, ComesAfter, passed, share_of, part_of, CallsEach, CallsPart, turn_at, turn_of, part_by_hash, without_turn}
use Rattle.front_reference.specs.declared.errors.CacheError.{CacheError}
use Rattle.front_reference.specs.declared.errors.CacheError.TheVariants as errors
use Rattle.front_reference.specs.Parts.{Coalesces, Computes}
use Rattle.front_reference.specs.declared.data.At.{At}
use Rattle.front_reference.specs.declared.data.Computed.{Computed}
use Rattle.front_reference.specs.declared.data.Made.{Made}
use Rattle.front_reference.specs.declared.data.Op.{Op}
use Rattle.front_reference.proofs.laws.Kept.{calls_keep, kept-coalesced, kept-computed}
use Rattle.front_parts.proofs.places.Lists.{length-set_at, one_set}
use Rattle.front_parts.proofs.wholes.Firsts.{set_same}
use Rattle.front_parts.specs.Looking.{IsOpen}
use Rattle.front_state.specs.Lending.{AreParts}
use Rattle.front_reference.specs.Turns.{Begins, found_or, wait_or_lead, with_turn, abandoned, begun_compute}
use Rattle.front_reference.specs.declared.data.TurnKind.{TurnKind}
use Rattle.front_reference.specs.declared.data.OpenTurn.{OpenTurn}
use Rattle.front_reference.specs.declared.data.TurnStart.{TurnStart}
use Rattle.front_reference.specs.declared.data.TurnStart.TheVariants.{Found, Wait, Lead}
use Rattle.front_parts.specs.Places.Turning.{IsFinishCause, Leads, WaitsOrLeads, EndsTurn, EndsTurnOf}
use Rattle.front_parts.proofs.places.Turned.{numbers_low, stand_under, turns-append, turns-without, turn-hashed}
use Rattle.front_reference.specs.declared.data.TurnKind.TheVariants as turns
use Rattle.front_reference.specs.declared.data.Op.TheVariants as op
use Rattle.front_parts.specs.Places.Calls.{Ways, IsCauseOf, IsSteadyBy, hash_in, CoalescesIn, ComputesIn, part_with, visible_of}

-- what is there or not is known
untruncated : {X : Type 0} (o : Option X) → ∥ o ≡ None ∥₁ → o ≡ None
untruncated None h = refl
untruncated (Some x) h = absurd (∥∥₁_elim h (Prim.hlevel props) (λ (e : Some x ≡ None). let no : ⊥ = cc in no))

pub apart-untruncated : {K V : Type 0} (eq : K → K → Bool) (es : List (Entry K V)) → ∥ AreApart eq es ∥₁ → AreApart eq es
apart-untruncated eq [] h = tt
apart-untruncated eq (e ∷ es) h = (untruncated (entry_of eq es e.key) (∥∥₁_map h (λ k. k.0)), apart-untruncated eq es (∥∥₁_map h (λ k. k.1)))

pub if_ok-map : {X E : Type 0} (A B : X → Type 0) (r : Result X E) → ((x : X) → A x → B x) → IfOk r A → IfOk r B
if_ok-map A B (Ok x) f h = f x h
if_ok-map A B (Err e) f h = h

module _ {K V P S R : Type 0} (ways : Ways K V P S R) where
  abbrev pub Keeps : Front K V P S R → Type 0
  Keeps f = ∥ IsSteadyBy ways f ∥₁

  -- a call that keeps each part to which its key belongs
  abbrev pub KeepsPart : K → (now next : ℕ) → (State K V P S R → State K V P S R → Type 0) → Type 0
  KeepsPart key now next Rel = (common : Common S R) (belongs : K → Bool) (moment step : ℕ) (s t : State K V P S R)
      → moment ≤ now → step ≤ next → belongs key ≡ true → Rel s t → IsKept 63 ways.eq common belongs moment step s → IsKept 63 ways.eq common belongs now next t

  pub few_bits : (f : Front K V P S R) → Keeps f → f.bits ≤ 16
  few_bits f h = ∥∥₁_elim h (Prim.hlevel props) (λ k. k.few)

  pub all_parts : (f : Front K V P S R) → Keeps f → AreParts f.bits f.parts
  all_parts f h = (few_bits f h, ∥∥₁_elim h (Prim.hlevel props) (λ k. k.count))

  -- ---- the part of a hash

  -- the front whose part of a hash has become this one
  abbrev pub with_part : (h : ℕ) → State K V P S R → Front K V P S R → Front K V P S R
  with_part h t f = record f { parts = slice_set f.parts (part_of f.bits h) t }

  pub same_part : (f g : Front K V P S R) (h : ℕ) (s : State K V P S R) → f ≡ g → part_by_hash f h ≡ Some s → part_by_hash g h ≡ Some s
  same_part f g h s same there = ap (λ (x : Front K V P S R). part_by_hash x h) (sym same) ∙ there

  pub part_of_key : (f g : Front K V P S R) (h : ℕ) (key : K) (s : State K V P S R) → f ≡ g → h ≡ hash_in ways f key → part_by_hash f h ≡ Some s → part_with ways g key ≡ Some s
  part_of_key f g h key s same is there = ap (λ n. part_by_hash g n) (ap (λ (x : Front K V P S R). hash_in ways x key) (sym same) ∙ sym is) ∙ same_part f g h s same there

  pub open_part : (f : Front K V P S R) (h : ℕ) (key : K) (s : State K V P S R) → Keeps f → h ≡ hash_in ways f key → part_by_hash f h ≡ Some s → IsOpen ways.eq ways.hash key h s
  open_part f h key s k is there = record {
    hashed = ∥∥₁_elim k (Prim.hlevel props) (λ x. is ∙ ap (λ (o : Common S R). ways.hash o.hasher key) (sym (x.kept (part_of f.bits h) s there).made));
    ready = record {
      sent = ∥∥₁_elim k (Prim.hlevel props) (λ x. (x.kept (part_of f.bits h) s there).sent);
      room = ∥∥₁_elim k (Prim.hlevel props) (λ x. let n = (x.kept (part_of f.bits h) s there).few in omega arith);
    };
    apart = apart-untruncated ways.eq (held_entries s.records) (∥∥₁_map k (λ x. (x.kept (part_of f.bits h) s there).apart));
  }

  -- a part that is as it was
  pub untouched : (f : Front K V P S R) (h : ℕ) (s t : State K V P S R) → part_by_hash f h ≡ Some s → t ≡ s → with_part h t f ≡ f
  untouched f h s t there same = ap (λ ss. record f { parts = ss }) (ap (λ x. slice_set f.parts (part_of f.bits h) x) same ∙ set_same f.parts (part_of f.bits h) s there)

  pub untouched_keeps : (f : Front K V P S R) (h : ℕ) (s t : State K V P S R) → part_by_hash f h ≡ Some s → t ≡ s → Keeps f → Keeps (with_part h t f)
  untouched_keeps f h s t there same k = subst Keeps (sym (untouched f h s t there same)) k

  steady-called : (f : Front K V P S R) (now step h : ℕ) (key : K) (Rel : State K V P S R → State K V P S R → Type 0) (s t : State K V P S R)
      → ComesAfter now step f → h ≡ hash_in ways f key → KeepsPart key now step Rel → part_by_hash f h ≡ Some s → Rel s t → IsSteadyBy ways f → IsSteadyBy ways (passed now step (with_part h t f))
  steady-called f now step h key Rel s t after is keeps there does k =
      let less : f.step ≤ step = after.further in
      let place : ℕ = part_of f.bits h in
      let belongs = λ (p : ℕ) (x : K). part_of f.bits (hash_in ways f x) == p in
      let own : belongs place key ≡ true = ap (λ n. part_of f.bits n == place) (sym is) ∙ eq-eqb place place refl in
      let long : length (slice_set f.parts place t) ≡ length f.parts = length-set_at f.parts place t in
      let one : IsKept 63 ways.eq f.common (belongs place) now step t = keeps f.common (belongs place) f.moment f.step s t after.later less own does (k.kept place s there) in
      record {
        kept = λ p u at.
            elim (one_set f.parts place p t u at) [
              | inl here ↦ subst (λ x. IsKept 63 ways.eq f.common (belongs p) now step x) (sym here.1) (subst (λ n. IsKept 63 ways.eq f.common (belongs n) now step t) (sym here.0) one)
              | inr other ↦ (calls_keep K V P S R).later f.common 63 ways.eq (belongs p) f.moment f.step now step u after.later less (k.kept p u other)
            ];
        count = long ∙ k.count;
        few = k.few;
        share = k.share ∙ ap (λ n. option_map (share_of n) f.capacity) (sym long);
        turns = k.turns;
      }

  pub stays_steady : (f g : Front K V P S R) (now step h : ℕ) (key : K) (Rel : State K V P S R → State K V P S R → Type 0) (s t : State K V P S R)
      → f ≡ g → ComesAfter now step g → h ≡ hash_in ways f key → KeepsPart key now step Rel → part_by_hash f h ≡ Some s → Rel s t → Keeps f → Keeps (passed now step (with_part h t f))
  stays_steady f g now step h key Rel s t same after is keeps there does k =
      let late : ComesAfter now step f = subst (λ x. ComesAfter now step x) (sym same) after in
      ∥∥₁_map k (λ x. steady-called f now step h key Rel s t late is keeps there does x)

  -- ---- the calls that keep a part

  pub looking_keeps : IsEquivalence ways.eq → (key : K) (h now step : ℕ) (ignored : Bool) → KeepsPart key now step (NotesLookUp ways.answers ways.eq key h now ignored)
  looking_keeps laws key h now step ignored common belongs moment last s t later less own look old = (calls_keep K V P S R).looked_up common ways.eq laws belongs ways.answers moment last now step s t key h ignored later less look old

  -- a look-up is noted with what is visible, of which nothing is passed over
  pub looks_noted : (key : K) (h now : ℕ) (s t : State K V P S R) → LooksUp ways.answers ways.eq key h now s t → NotesLookUp ways.answers ways.eq key h now false s t
  looks_noted key h now s t u = record { mid = u.mid; maintains = u.maintains; reads = u.reads }

  pub inserting_keeps : IsEquivalence ways.eq → (key : K) (h : ℕ) (value : V) (now step : ℕ) → KeepsPart key now step (Inserts ways.answers ways.eq key h value now step)
  inserting_keeps laws key h value now step common belongs moment last s t later less own ins old = (calls_keep K V P S R).inserted common ways.eq laws belongs ways.answers moment last now step s t key h value later less own ins old

  pub taking_out_keeps : IsEquivalence ways.eq → (key : K) (now step : ℕ) → KeepsPart key now step (TakesOut ways.answers ways.eq key now)
  taking_out_keeps laws key now step common belongs moment last s t later less own out old = (calls_keep K V P S R).taken_out common ways.eq laws belongs ways.answers moment last now step s t key later less out old

  pub coalescing_keeps : {F : Type 0} → IsEquivalence ways.eq → (key : K) (h now step : ℕ) (Ignores : V → Bool → Type 0) (Makes : Made V F → Type 0) (answer : Made V F) (is_fresh : Bool)
      → KeepsPart key now step (λ s t. Coalesces ways.answers ways.eq key h now step Ignores Makes s t answer is_fresh)
  coalescing_keeps laws key h now step Ignores Makes answer is_fresh common belongs moment last s t later less own does old =
      kept-coalesced common ways.eq belongs laws ways.answers Ignores Makes moment last now step s t key h answer is_fresh later less own does old

  pub computing_keeps : {E : Type 0} → IsEquivalence ways.eq → (key : K) (h now step : ℕ) (Decides : Option V → Result (Op V) E → Type 0) (answer : Result (Computed V) E)
      → KeepsPart key now step (λ s t. Computes ways.answers ways.eq key h now step Decides s t answer)
  computing_keeps laws key h now step Decides answer common belongs moment last s t later less own does old =
      kept-computed common ways.eq belongs laws ways.answers Decides moment last now step s t key h answer later less own does old

  -- ---- what the calls say

  pub called_hash : (f g : Front K V P S R) (now step h : ℕ) (Rel : State K V P S R → State K V P S R → Type 0) (s t : State K V P S R)
      → f ≡ g → part_by_hash f h ≡ Some s → Rel s t → CallsPart h now step Rel g (passed now step (with_part h t f))
  called_hash f g now step h Rel s t same there does =
      subst (λ (x : Front K V P S R). CallsPart h now step Rel x (passed now step (with_part h t f))) same
      (record { parts = slice_set f.parts (part_of f.bits h) t; call = record { before = s; after = t; there = there; does = does; changed = refl }; changed = refl })

  pub called_key : (f g : Front K V P S R) (now step h : ℕ) (key : K) (Rel : ℕ → State K V P S R → State K V P S R → Type 0) (s t : State K V P S R)
      → f ≡ g → h ≡ hash_in ways f key → part_by_hash f h ≡ Some s → Rel h s t → CallsPart (hash_in ways g key) now step (Rel (hash_in ways g key)) g (passed now step (with_part h t f))
  called_key f g now step h key Rel s t same hashed there does =
      subst (λ n. CallsPart {K = K} {V = V} {P = P} {S = S} {R = R} n now step (Rel n) g (passed now step (with_part h t f))) (hashed ∙ ap (λ (x : Front K V P S R). hash_in ways x key) same)
      (called_hash f g now step h (Rel h) s t same there does)

  pub coalesced_key : {F : Type 0} (f g : Front K V P S R) (at : At) (h : ℕ) (key : K) (Ignores : V → Bool → Type 0) (Makes : Made V F → Type 0) (answer : Made V F) (is_fresh : Bool) (s t : State K V P S R)
      → f ≡ g → h ≡ hash_in ways f key → part_by_hash f h ≡ Some s → Coalesces ways.answers ways.eq key h at.now at.step Ignores Makes s t answer is_fresh
      → CoalescesIn ways key at Ignores Makes g (passed at.now at.step (with_part h t f)) answer is_fresh
  coalesced_key f g at h key Ignores Makes answer is_fresh s t same hashed there does =
      called_key f g at.now at.step h key (λ n s t. Coalesces ways.answers ways.eq key n at.now at.step Ignores Makes s t answer is_fresh) s t same hashed there does

  pub computed_key : {E : Type 0} (f g : Front K V P S R) (at : At) (h : ℕ) (key : K) (Decides : Option V → Result (Op V) E → Type 0) (answer : Result (Computed V) E) (s t : State K V P S R)
      → f ≡ g → h ≡ hash_in ways f key → part_by_hash f h ≡ Some s → Computes ways.answers ways.eq key h at.now at.step Decides s t answer
      → ComputesIn ways key at Decides g (passed at.now at.step (with_part h t f)) answer
  computed_key f g at h key Decides answer s t same hashed there does =
      called_key f g at.now at.step h key (λ n s t. Computes ways.answers ways.eq key n at.now at.step Decides s t answer) s t same hashed there does

  -- the step may stay as it was
  pub comes_still : (f g : Front K V P S R) (now : ℕ) → f ≡ g → g.moment ≤ now → ComesAfter now f.step g
  comes_still f g now same later = let stays : g.step ≡ f.step = ap (λ (x : Front K V P S R). x.step) (sym same) in record { later = later; further = omega arith }

  pub touched : (f g : Front K V P S R) (now h : ℕ) (key : K) (s t : State K V P S R)
      → f ≡ g → h ≡ hash_in ways f key → part_by_hash f h ≡ Some s → NotesLookUp ways.answers ways.eq key h now false s t
      → CallsPart (hash_in ways g key) now g.step (NotesLookUp ways.answers ways.eq key (hash_in ways g key) now false) g (passed now f.step (with_part h t f))
  touched f g now h key s t same hashed there does =
      subst (λ n. CallsPart {K = K} {V = V} {P = P} {S = S} {R = R} (hash_in ways g key) now n (NotesLookUp ways.answers ways.eq key (hash_in ways g key) now false) g (passed now f.step (with_part h t f)))
      (ap (λ (x : Front K V P S R). x.step) same)
      (called_key f g now f.step h key (λ n. NotesLookUp ways.answers ways.eq key n now false) s t same hashed there does)

  -- ---- calls on all parts

  pub called_all : (f g : Front K V P S R) (now step : ℕ) (Rel : State K V P S R → State K V P S R → Type 0) (parts : List (State K V P S R))
      → f ≡ g → CallsEach Rel f.parts parts → CallsAll now step Rel g (passed now step (record f { parts = parts }))
  called_all f g now step Rel parts same each = subst (λ (x : Front K V P S R). CallsAll now step Rel x (passed now step (record f { parts = parts }))) same (record { parts = parts; each = each; changed = refl })

  abbrev pub KeepsEach : (now next : ℕ) → (State K V P S R → State K V P S R → Type 0) → Type 0
  KeepsEach now next Rel = (common : Common S R) (belongs : K → Bool) (moment step : ℕ) (s t : State K V P S R)
      → moment ≤ now → step ≤ next → Rel s t → IsKept 63 ways.eq common belongs moment step s → IsKept 63 ways.eq common belongs now next t

  steady-each : (f : Front K V P S R) (now step : ℕ) (Rel : State K V P S R → State K V P S R → Type 0) (parts : List (State K V P S R))
      → ComesAfter now step f → KeepsEach now step Rel → CallsEach Rel f.parts parts → IsSteadyBy ways f → IsSteadyBy ways (passed now step (record f { parts = parts }))
  steady-each f now step Rel parts after keeps call k =
      let less : f.step ≤ step = after.further in
      record {
        kept = λ p t at.
            let low = slice_get_within parts p t at in
            let same = call.count in
            let here = slice_get-get_or f.parts p t (omega arith) in
            let d = call.each p (get_or f.parts p t) here in
            let both : Some t ≡ Some d.0 = sym at ∙ d.1 in
            let one : d.0 ≡ t = cc in
            keeps f.common (λ key. part_of f.bits (hash_in ways f key) == p) f.moment f.step (get_or f.parts p t) t after.later less (subst (λ x. Rel (get_or f.parts p t) x) one d.2) (k.kept p (get_or f.parts p t) here);
        count = call.count ∙ k.count;
        few = k.few;
        share = k.share ∙ ap (λ n. option_map (share_of n) f.capacity) (sym call.count);
        turns = k.turns;
      }

  pub all_stay_steady : (f g : Front K V P S R) (now step : ℕ) (Rel : State K V P S R → State K V P S R → Type 0) (parts : List (State K V P S R))
      → f ≡ g → ComesAfter now step g → KeepsEach now step Rel → CallsEach Rel f.parts parts → Keeps f → Keeps (passed now step (record f { parts = parts }))
  all_stay_steady f g now step Rel parts same after keeps call k =
      let late : ComesAfter now step f = subst (λ x. ComesAfter now step x) (sym same) after in
      ∥∥₁_map k (λ x. steady-each f now step Rel parts late keeps call x)

  pub running_keeps : IsEquivalence ways.eq → (now step : ℕ) → KeepsEach now step (RunsPart ways.answers now)
  running_keeps laws now step common belongs moment last s t later less run old = (calls_keep K V P S R).ran common ways.eq laws belongs ways.answers moment last now step s t later less run.runs old

  pub clearing_keeps : (now step : ℕ) → KeepsEach now step (λ s t. t ≡ cleared_by step s)
  clearing_keeps now step common belongs moment last s t later less cleared old =
      subst (λ x. IsKept 63 ways.eq common belongs now step x) (sym cleared)
      ((calls_keep K V P S R).cleared common 63 ways.eq belongs now step step s ((calls_keep K V P S R).later common 63 ways.eq belongs moment last now step s later less old))

  pub all_sent : (f : Front K V P S R) → Keeps f → (place : ℕ) (s : State K V P S R) → slice_get f.parts place ≡ Some s → s.unsent ≡ []
  all_sent f k place s at = ∥∥₁_elim k (Prim.hlevel props) (λ x. (x.kept place s at).sent)

  -- ---- turns

  steady-with_turn : IsEquivalence ways.eq → (f : Front K V P S R) (kind : TurnKind) (key : K) (h : ℕ) → h ≡ hash_in ways f key → turn_of ways.eq f.turns kind key ≡ None → IsSteadyBy ways f → IsSteadyBy ways (with_turn kind key h f)
  steady-with_turn laws f kind key h is free k = record {
    kept = k.kept;
    count = k.count;
    few = k.few;
    share = k.share;
    turns = turns-append ways.eq laws (ways.hash f.common.hasher) f.next_turn f.turns (record { number = f.next_turn; kind = kind; key = key; hash = h }) refl is free k.turns;
  }

  -- the turns with one that begins
  abbrev pub BeginsTurn : TurnKind → K → ℕ → Front K V P S R → List (OpenTurn K) → Type 0
  BeginsTurn kind key h f ts = ts ≡ (with_turn kind key h f).turns

  pub begun_turns : (old after : List (OpenTurn K)) (next : ℕ) (kind : TurnKind) (key : K) (h : ℕ) (t : OpenTurn K) → after ≡ old ++ t ∷ [] → t ≡ (record { number = next; kind = kind; key = key; hash = h })
      → after ≡ old ++ (record { number = next; kind = kind; key = key; hash = h }) ∷ []
  begun_turns old after next kind key h t added is = added ∙ ap (λ x. old ++ x ∷ []) is

  -- the number of the next turn is above the others
  pub comes_last : IsEquivalence ways.eq → (f : Front K V P S R) (t : OpenTurn K) → t.number ≡ f.next_turn → Keeps f → All (λ (u : OpenTurn K). u.number < t.number) f.turns
  comes_last laws f t is k =
      subst (λ n. All (λ (u : OpenTurn K). u.number < n) f.turns) (sym is)
      (∥∥₁_elim k (Prim.hlevel props) (λ x. numbers_low ways.eq laws (ways.hash f.common.hasher) f.next_turn f.turns x.turns))

  -- the turns of a key have its hash
  pub stand_for : IsEquivalence ways.eq → (f : Front K V P S R) (key : K) (h : ℕ) → ((x y : K) → ways.eq x y ≡ true → hash_in ways f x ≡ hash_in ways f y) → h ≡ hash_in ways f key → Keeps f
      → All (λ (t : OpenTurn K). ways.eq key t.key ≡ true → t.hash ≡ h) f.turns
  stand_for laws f key h respects is k =
      subst (λ n. All (λ (t : OpenTurn K). ways.eq key t.key ≡ true → t.hash ≡ n) f.turns) (sym is)
      (∥∥₁_elim k (Prim.hlevel props) (λ x. stand_under ways.eq laws (ways.hash f.common.hasher) respects f.next_turn key f.turns x.turns))

  pub noted_key : (h now : ℕ) (ignored : Bool) (k key : K) (s t : State K V P S R) → k ≡ key → NotesLookUp ways.answers ways.eq k h now ignored s t → NotesLookUp ways.answers ways.eq key h now ignored s t
  noted_key h now ignored k key s t is does = subst (λ x. NotesLookUp ways.answers ways.eq x h now ignored s t) is does

  pub leads_steadily : IsEquivalence ways.eq → (f g : Front K V P S R) (now step h : ℕ) (kind : TurnKind) (key : K) (ignored : Bool) (s t : State K V P S R) (ts : List (OpenTurn K))
      → f ≡ g → ComesAfter now step g → h ≡ hash_in ways f key → turn_of ways.eq g.turns kind key ≡ None → part_by_hash f h ≡ Some s → NotesLookUp ways.answers ways.eq key h now ignored s t → BeginsTurn kind key h f ts → Keeps f
      → Keeps (record (passed now step (with_part h t f)) { turns = ts; next_turn = f.next_turn + 1 })
  leads_steadily laws f g now step h kind key ignored s t ts same after is free there does begun k =
      let none : turn_of ways.eq f.turns kind key ≡ None = ap (λ (x : Front K V P S R). turn_of ways.eq x.turns kind key) same ∙ free in
      subst (λ us. Keeps (record (passed now step (with_part h t f)) { turns = us; next_turn = f.next_turn + 1 })) (sym begun)
      (∥∥₁_map (stays_steady f g now step h key (NotesLookUp ways.answers ways.eq key h now ignored) s t same after is (looking_keeps laws key h now step ignored) there does k)
      (λ x. steady-with_turn laws (passed now step (with_part h t f)) kind key h is none x))

  pub led : (f g : Front K V P S R) (at : At) (h : ℕ) (kind : TurnKind) (key : K) (ignored : Bool) (s t : State K V P S R) (ts : List (OpenTurn K))
      → f ≡ g → part_by_hash f h ≡ Some s → NotesLookUp ways.answers ways.eq key h at.now ignored s t → BeginsTurn kind key h f ts
      → Leads ways kind key h at ignored g (record (passed at.now at.step (with_part h t f)) { turns = ts; next_turn = f.next_turn + 1 }) f.next_turn
  led f g at h kind key ignored s t ts same there does begun = record {
    mid = passed at.now at.step (with_part h t f);
    looks = called_hash f g at.now at.step h (NotesLookUp ways.answers ways.eq key h at.now ignored) s t same there does;
    first = ap (λ (x : Front K V P S R). x.next_turn) same;
    opens = ap (λ (us : List (OpenTurn K)). record (passed at.now at.step (with_part h t f)) { turns = us; next_turn = f.next_turn + 1 }) begun;
  }

  abbrev pub waiting : ℕ → TurnStart V
  waiting n = Wait n

  abbrev pub leading : ℕ → TurnStart V
  leading n = Lead n

  waits-or : (o : Option (OpenTurn K)) (n : ℕ) (kind : TurnKind) (key : K) (h : ℕ) (f : Front K V P S R) → Some n ≡ option_map (λ t. t.number) o → (waiting n, f) ≡ wait_or_lead o kind key h f
  waits-or None n kind key h f e = absurd (let no : ⊥ = cc in no)
  waits-or (Some t) n kind key h f e = let same : n ≡ t.number = cc in ap (λ m. (waiting m, f)) same

  pub none_under : (o : Option (OpenTurn K)) → None ≡ option_map (λ t. t.number) o → o ≡ None
  none_under None e = refl
  none_under (Some t) e = absurd (let no : ⊥ = cc in no)

  pub waited : (f g : Front K V P S R) (kind : TurnKind) (key : K) (h : ℕ) (at : At) (ignored : Bool) (n : ℕ) → Some n ≡ option_map (λ t. t.number) (turn_of ways.eq f.turns kind key)
      → CallsPart h at.now at.step (NotesLookUp ways.answers ways.eq key h at.now ignored) f g → WaitsOrLeads ways kind key h at ignored f g (Wait n)
  waited f g kind key h at ignored n is call = record {
    mid = g;
    looks = call;
    ends = waits-or (turn_of ways.eq g.turns kind key) n kind key h g (is ∙ ap (λ (x : Front K V P S R). option_map (λ t. t.number) (turn_of ways.eq x.turns kind key)) (sym call.changed));
  }

  pub led_on : (f g : Front K V P S R) (kind : TurnKind) (key : K) (h : ℕ) (at : At) (ignored : Bool) (n : ℕ) → None ≡ option_map (λ t. t.number) (turn_of ways.eq f.turns kind key)
      → Leads ways kind key h at ignored f g n → WaitsOrLeads ways kind key h at ignored f g (Lead n)
  led_on f g kind key h at ignored n is l =
      let none : turn_of ways.eq l.mid.turns kind key ≡ None = ap (λ (x : Front K V P S R). turn_of ways.eq x.turns kind key) l.looks.changed ∙ none_under (turn_of ways.eq f.turns kind key) is in
      let first : n ≡ l.mid.next_turn = l.first ∙ ap (λ (x : Front K V P S R). x.next_turn) (sym l.looks.changed) in
      record {
        mid = l.mid;
        looks = l.looks;
        ends = ap (λ (x : Front K V P S R). (leading n, x)) l.opens ∙ ap (λ m. (leading m, with_turn kind key h l.mid)) first ∙ ap (λ o. wait_or_lead o kind key h l.mid) (sym none);
      }

  pub begun_found : (f g : Front K V P S R) (kind : TurnKind) (key : K) (h now step : ℕ) (Ignores : V → Bool → Type 0) (ignored : Bool) (value : V)
      → ((v : V) → visible_of ways (part_by_hash f h) now key ≡ Some v → Ignores v ignored) → Some value ≡ past ignored (visible_of ways (part_by_hash f h) now key)
      → CallsPart h now step (NotesLookUp ways.answers ways.eq key h now ignored) f g → Begins ways.answers ways.eq kind key h now step Ignores f g (Found value)
  begun_found f g kind key h now step Ignores ignored value asked found call =
      let seen = λ (o : Option (State K V P S R)). visible_of ways o now key in
      record {
        part = call.call.before;
        there = call.call.there;
        ignored = ignored;
        asked = λ v is. asked v (ap seen call.call.there ∙ is);
        mid = g;
        looks = call;
        ends = ap (λ o. found_or o (wait_or_lead (turn_of ways.eq g.turns kind key) kind key h g) g) (found ∙ ap (λ o. past ignored (seen o)) call.call.there);
      }

  pub begun_else : (f g : Front K V P S R) (kind : TurnKind) (key : K) (h : ℕ) (at : At) (Ignores : V → Bool → Type 0) (ignored : Bool) (start : TurnStart V)
      → ((v : V) → visible_of ways (part_by_hash f h) at.now key ≡ Some v → Ignores v ignored) → None ≡ past ignored (visible_of ways (part_by_hash f h) at.now key)
      → WaitsOrLeads ways kind key h at ignored f g start → Begins ways.answers ways.eq kind key h at.now at.step Ignores f g start
  begun_else f g kind key h at Ignores ignored start asked found w =
      let seen = λ (o : Option (State K V P S R)). visible_of ways o at.now key in
      let there = w.looks.call.there in
      record {
        part = w.looks.call.before;
        there = there;
        ignored = ignored;
        asked = λ v is. asked v (ap seen there ∙ is);
        mid = w.mid;
        looks = w.looks;
        ends = w.ends ∙ ap (λ o. found_or o (wait_or_lead (turn_of ways.eq w.mid.turns kind key) kind key h w.mid) w.mid) (found ∙ ap (λ o. past ignored (seen o)) there);
      }

  steady-passed : (f : Front K V P S R) (now step : ℕ) → ComesAfter now step f → IsSteadyBy ways f → IsSteadyBy ways (passed now step f)
  steady-passed f now step after k =
      let less : f.step ≤ step = after.further in
      record {
        kept = λ p s at. (calls_keep K V P S R).later f.common 63 ways.eq (λ key. part_of f.bits (hash_in ways f key) == p) f.moment f.step now step s after.later less (k.kept p s at);
        count = k.count;
        few = k.few;
        share = k.share;
        turns = k.turns;
      }

  pub passes_steadily : (f g : Front K V P S R) (now step : ℕ) → f ≡ g → ComesAfter now step g → Keeps f → Keeps (passed now step f)
  passes_steadily f g now step same after k = ∥∥₁_map k (λ x. steady-passed f now step (subst (λ y. ComesAfter now step y) (sym same) after) x)

  pub computing_leads : IsEquivalence ways.eq → (f g : Front K V P S R) (now step h : ℕ) (kind : TurnKind) (key : K) (ts : List (OpenTurn K))
      → f ≡ g → ComesAfter now step g → h ≡ hash_in ways f key → turn_of ways.eq g.turns kind key ≡ None → BeginsTurn kind key h f ts → Keeps f
      → Keeps (record (passed now step f) { turns = ts; next_turn = f.next_turn + 1 })
  computing_leads laws f g now step h kind key ts same after is free begun k =
      let none : turn_of ways.eq f.turns kind key ≡ None = ap (λ (x : Front K V P S R). turn_of ways.eq x.turns kind key) same ∙ free in
      subst (λ us. Keeps (record (passed now step f) { turns = us; next_turn = f.next_turn + 1 })) (sym begun)
      (∥∥₁_map (passes_steadily f g now step same after k) (λ x. steady-with_turn laws (passed now step f) kind key h is none x))

  pub led_computing : (f g : Front K V P S R) (now step h : ℕ) (kind : TurnKind) (key : K) (ts : List (OpenTurn K)) → f ≡ g → BeginsTurn kind key h f ts
      → record (passed now step f) { turns = ts; next_turn = f.next_turn + 1 } ≡ with_turn kind key h (passed now step g)
  led_computing f g now step h kind key ts same begun =
      ap (λ (us : List (OpenTurn K)). record (passed now step f) { turns = us; next_turn = f.next_turn + 1 }) begun ∙ ap (λ (x : Front K V P S R). with_turn kind key h (passed now step x)) same

  pub begun_waiting : (f g : Front K V P S R) (key : K) (h now step n : ℕ) → Some n ≡ option_map (λ t. t.number) (turn_of ways.eq f.turns turns.Compute key) → g ≡ passed now step f → (waiting n, g) ≡ begun_compute ways.eq key h now step f
  begun_waiting f g key h now step n is same = ap (λ (x : Front K V P S R). (waiting n, x)) same ∙ waits-or (turn_of ways.eq f.turns turns.Compute key) n turns.Compute key h (passed now step f) is

  pub begun_leading : (f g : Front K V P S R) (key : K) (h now step n : ℕ) → None ≡ option_map (λ t. t.number) (turn_of ways.eq f.turns turns.Compute key) → n ≡ f.next_turn → g ≡ with_turn turns.Compute key h (passed now step f)
      → (leading n, g) ≡ begun_compute ways.eq key h now step f
  begun_leading f g key h now step n is first same =
      ap (λ (x : Front K V P S R). (leading n, x)) same ∙ ap (λ m. (leading m, with_turn turns.Compute key h (passed now step f))) first
      ∙ ap (λ o. wait_or_lead o turns.Compute key h (passed now step f)) (sym (none_under (turn_of ways.eq f.turns turns.Compute key) is))

  -- a turn ends
  pub ends_steadily : IsEquivalence ways.eq → (f g : Front K V P S R) (now step n : ℕ) (ts : List (OpenTurn K)) → f ≡ g → ComesAfter now step g → ts ≡ without_turn n f.turns → Keeps f → Keeps (record (passed now step f) { turns = ts })
  ends_steadily laws f g now step n ts same after gone k =
      subst (λ us. Keeps (record (passed now step f) { turns = us })) (sym gone)
      (∥∥₁_map (passes_steadily f g now step same after k) (λ x. record {
        kept = x.kept;
        count = x.count;
        few = x.few;
        share = x.share;
        turns = turns-without ways.eq laws (ways.hash f.common.hasher) n f.next_turn f.turns x.turns;
      }))

  pub ended_turn : (f g : Front K V P S R) (now step n : ℕ) (ts : List (OpenTurn K)) → f ≡ g → ts ≡ without_turn n f.turns → record (passed now step f) { turns = ts } ≡ abandoned n now step g
  ended_turn f g now step n ts same gone = ap (λ (us : List (OpenTurn K)). record (passed now step f) { turns = us }) gone ∙ ap (λ (x : Front K V P S R). abandoned n now step x) same

  -- the hash of a turn is its key's
  pub turn_hashed : IsEquivalence ways.eq → (f : Front K V P S R) (n : ℕ) (t : OpenTurn K) → Keeps f → turn_at f.turns n ≡ Some t → t.hash ≡ hash_in ways f t.key
  turn_hashed laws f n t k at = ∥∥₁_elim k (Prim.hlevel props) (λ x. turn-hashed ways.eq laws (ways.hash f.common.hasher) f.next_turn f.turns n t x.turns at)

  -- a value is inserted for a turn, which ends
  pub finishes_steadily : IsEquivalence ways.eq → (f g : Front K V P S R) (now step n : ℕ) (t : OpenTurn K) (value : V) (a b : State K V P S R) (ts : List (OpenTurn K))
      → f ≡ g → ComesAfter now step g → t.hash ≡ hash_in ways f t.key → part_by_hash f t.hash ≡ Some a → Inserts ways.answers ways.eq t.key t.hash value now step a b → ts ≡ without_turn n f.turns → Keeps f
      → Keeps (record (passed now step (with_part t.hash b f)) { turns = ts })
  finishes_steadily laws f g now step n t value a b ts same after is there does gone k =
      subst (λ us. Keeps (record (passed now step (with_part t.hash b f)) { turns = us })) (sym gone)
      (∥∥₁_map (stays_steady f g now step t.hash t.key (Inserts ways.answers ways.eq t.key t.hash value now step) a b same after is (inserting_keeps laws t.key t.hash value now step) there does k) (λ x. record {
        kept = x.kept;
        count = x.count;
        few = x.few;
        share = x.share;
        turns = turns-without ways.eq laws (ways.hash f.common.hasher) n f.next_turn f.turns x.turns;
      }))

  finished : (f g : Front K V P S R) (at : At) (n : ℕ) (t : OpenTurn K) (value : V) (a b : State K V P S R) (ts : List (OpenTurn K))
      → f ≡ g → part_by_hash f t.hash ≡ Some a → Inserts ways.answers ways.eq t.key t.hash value at.now at.step a b → ts ≡ without_turn n f.turns
      → EndsTurn ways n t (op.Put value) at g (record (passed at.now at.step (with_part t.hash b f)) { turns = ts })
  finished f g at n t value a b ts same there does gone = record {
    mid = passed at.now at.step (with_part t.hash b f);
    writes = called_hash f g at.now at.step t.hash (Inserts ways.answers ways.eq t.key t.hash value at.now at.step) a b same there does;
    ends = ap (λ (us : List (OpenTurn K)). record (passed at.now at.step (with_part t.hash b f)) { turns = us }) gone;
  }

  pub finished_for : (f g : Front K V P S R) (at : At) (n : ℕ) (t : OpenTurn K) (value : V) (a b : State K V P S R) (ts : List (OpenTurn K))
      → f ≡ g → part_by_hash f t.hash ≡ Some a → Inserts ways.answers ways.eq t.key t.hash value at.now at.step a b → ts ≡ without_turn n f.turns → turn_at f.turns n ≡ Some t
      → EndsTurnOf ways n (op.Put value) at g (record (passed at.now at.step (with_part t.hash b f)) { turns = ts })
  finished_for f g at n t value a b ts same there does gone here u known =
      let both : Some t ≡ Some u = sym here ∙ ap (λ (x : Front K V P S R). turn_at x.turns n) same ∙ known in
      let one : t ≡ u = cc in
      subst (λ x. EndsTurn ways n x (op.Put value) at g (record (passed at.now at.step (with_part t.hash b f)) { turns = ts })) one (finished f g at n t value a b ts same there does gone)

  pub finish_caused : (f g : Front K V P S R) (n : ℕ) (t : OpenTurn K) (e : CacheError) → f ≡ g → turn_at f.turns n ≡ Some t → IsCauseOf ways (λ settings. 1) (part_by_hash f t.hash) e → IsFinishCause ways n g e
  finish_caused f g n t e same here cause =
      by_kind e (ap (λ (x : Front K V P S R). turn_at x.turns n) (sym same) ∙ here) (subst (λ (x : Front K V P S R). IsCauseOf ways (λ settings. 1) (part_by_hash x t.hash) e) same cause)
    where
      by_kind : (e : CacheError) → turn_at g.turns n ≡ Some t → IsCauseOf ways (λ settings. 1) (part_by_hash g t.hash) e → IsFinishCause ways n g e
      by_kind errors.OutOfMemory there cause = (t, there, cause)
      by_kind errors.UsedUp there cause = (t, there, cause)
      by_kind errors.InvalidationClosuresDisabled there cause = (t, there, cause)
      by_kind errors.IdsInUse there cause = (t, there, cause)
      by_kind errors.UnknownTurn there cause = absurd cause
      by_kind errors.Abandoned there cause = (t, there, cause)

  -- no turn of this number is under way
  pub unknown_caused : (f : Front K V P S R) (n : ℕ) (e : CacheError) → (e ≡ errors.UnknownTurn) × (turn_at f.turns n ≡ None) → IsFinishCause ways n f e
  unknown_caused f n e h = subst (λ x. IsFinishCause ways n f x) (sym h.0) h.1

  pub known_by : (f g : Front K V P S R) (n : ℕ) (t : OpenTurn K) → f ≡ g → Some t ≡ turn_at f.turns n → is_some (turn_at g.turns n) ≡ true
  known_by f g n t same here = ap is_some (ap (λ (x : Front K V P S R). turn_at x.turns n) (sym same) ∙ sym here)
