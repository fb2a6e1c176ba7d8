-- What the front's calls with closures do, as selectors say it, and where their closures say less.
use Rattle.std.proofs.Common.{◌≡◌, refl, ap, sym, ◌∙◌, subst, ℕ, Bool, true, false, Option, Some, None, Result, Ok, Err}
use Rattle.std.specs.Prelude.{⊤, IfOk, MatchOption}
use Rattle.engine_reference.specs.Scanning.{past}
use Rattle.engine_reference.specs.State.{State}
use Rattle.engine_reference.specs.Visible.{visible_value}
use Rattle.front_parts.specs.Access.Answering.{IsCoalesced, IsComputed, IsOptionOf, IsOutcomeOf, IsResultOf, IsValueOf, Suits, done_as, made_option, made_result, passes_none}
use Rattle.front_reference.specs.Fronts.{Front}
use Rattle.front_reference.specs.Parts.{computed_as, computed_by, held_value, op_decided}
use Rattle.front_reference.specs.declared.data.At.{At}
use Rattle.front_reference.specs.declared.data.Computed.{Computed}
use Rattle.front_reference.specs.declared.data.Made.{Made}
use Rattle.front_reference.specs.declared.data.Made.TheVariants.{Value}
use Rattle.front_reference.specs.declared.data.Op.{Op}
use Rattle.front_reference.specs.declared.data.Op.TheVariants.{Nop, Put, Remove}
use Rattle.front_reference.specs.declared.data.TurnKind.{TurnKind}
use Rattle.front_state.specs.Accessing.{CoalescedIn, ComputedIn, GetsIn, GetsOptionIn, GetsResultIn, SeesIn}
use Rattle.front_parts.specs.Places.Calls.{CoalescesIn, ComputesIn, Ways, visible_in, visible_of}

module _ {V F : Type 0} where
  -- how a coalesced call ends, by what is seen and not passed over
  abbrev Ends : (Makes : Made V F → Type 0) (answer : Made V F) (is_fresh : Bool) (Act : Type 0) (Look : Type 0) → Option V → Type 0
  Ends Makes answer is_fresh Act Look o = MatchOption o (Makes answer × (is_fresh ≡ true) × Act) (λ value. (answer ≡ Value value) × (is_fresh ≡ false) × Look)

  made-fresh : (Makes : Made V F → Type 0) (answer : Made V F) (is_fresh : Bool) (Act Look : Type 0) (o : Option V) → Ends Makes answer is_fresh Act Look o → is_fresh ≡ true → Makes answer
  made-fresh Makes answer is_fresh Act Look None h is = h.0
  made-fresh Makes answer is_fresh Act Look (Some v) h is = let low = h.1 in absurd (let no : ⊥ = cc in no)

  suits-made : (kind : Option TurnKind) (Makes : Made V F → Type 0) (answer : Made V F) (is_fresh : Bool) (Act Look : Type 0) (o : Option V) → (Makes answer → Suits kind answer) → Ends Makes answer is_fresh Act Look o → Suits kind answer
  suits-made kind Makes answer is_fresh Act Look None f h = f h.0
  suits-made kind Makes answer is_fresh Act Look (Some v) f h = subst (λ a. Suits kind a) (sym h.0) tt

  ends-as : (P Q : Made V F → Type 0) (answer : Made V F) (is_fresh : Bool) (Act Look : Type 0) (o : Option V) → (P answer → Q answer) → Ends P answer is_fresh Act Look o → Ends Q answer is_fresh Act Look o
  ends-as P Q answer is_fresh Act Look None f h = (f h.0, h.1, h.2)
  ends-as P Q answer is_fresh Act Look (Some v) f h = h

-- what is there is asked about
asked-match : {V : Type 0} (Ignores : V → Bool → Type 0) (ignored : Bool) (o : Option V) → ((v : V) → o ≡ Some v → Ignores v ignored) → MatchOption o (Unit {0}) (λ v. Ignores v ignored)
asked-match Ignores ignored None h = tt
asked-match Ignores ignored (Some v) h = h v refl

outcome-fits : {V : Type 0} (does : Op V) (seen held : Option V) → IsOutcomeOf does (computed_as does seen held)
outcome-fits Nop None held = tt
outcome-fits Nop (Some v) held = tt
outcome-fits (Put value) None held = refl
outcome-fits (Put value) (Some v) held = refl
outcome-fits Remove seen None = tt
outcome-fits Remove seen (Some v) = tt

answers-done : {V E : Type 0} (decided : Result (Op V) E) (seen held : Option V) → computed_by decided seen held ≡ done_as decided (computed_as (op_decided decided) seen held)
answers-done (Ok does) seen held = refl
answers-done (Err e) seen held = refl

module _ {K V P S R : Type 0} (ways : Ways K V P S R) where
  -- the part of a key sees what the front does
  seen-there : (o : Option (State K V P S R)) (s : State K V P S R) (now : ℕ) (key : K) → o ≡ Some s → visible_of ways o now key ≡ visible_value ways.answers ways.eq s now key
  seen-there o s now key there = ap (λ x. visible_of ways x now key) there

  pub coalesced-as : {F : Type 0} (key : K) (at : At) (I J : V → Bool → Type 0) (M N : Made V F → Type 0) (old new : Front K V P S R) (answer : Made V F) (is_fresh : Bool)
      → ((v : V) (ignored : Bool) → I v ignored → J v ignored) → (M answer → N answer) → CoalescesIn ways key at I M old new answer is_fresh → CoalescesIn ways key at J N old new answer is_fresh
  coalesced-as key at I J M N old new answer is_fresh f g c =
      let d = c.call.does in
      record {
        parts = c.parts;
        call = record {
          before = c.call.before;
          after = c.call.after;
          there = c.call.there;
          does = record { ignored = d.ignored; asked = λ v is. f v d.ignored (d.asked v is); ends = ends-as M N answer is_fresh _ _ (past d.ignored (visible_value ways.answers ways.eq c.call.before at.now key)) g d.ends };
          changed = c.call.changed;
        };
        changed = c.changed;
      }

  pub coalesced-gives : {F : Type 0} (kind : Option TurnKind) (key : K) (at : At) (Ignores : V → Bool → Type 0) (Makes : Made V F → Type 0) (old new : Front K V P S R) (answer : Made V F) (is_fresh : Bool)
      → CoalescesIn ways key at Ignores Makes old new answer is_fresh → IsCoalesced (SeesIn ways) (CoalescedIn ways) kind at key old new Ignores Makes answer is_fresh
  coalesced-gives kind key at Ignores Makes old new answer is_fresh c =
      let d = c.call.does in
      let seen = seen-there _ c.call.before at.now key c.call.there in
      record {
        seen = visible_in ways old at.now key;
        sees = refl;
        ignored = d.ignored;
        asked = asked-match Ignores d.ignored (visible_in ways old at.now key) (λ v is. d.asked v (sym seen ∙ is));
        made = made-fresh Makes answer is_fresh _ _ (past d.ignored (visible_value ways.answers ways.eq c.call.before at.now key)) d.ends;
        does = record {
          parts = c.parts;
          call = record {
            before = c.call.before;
            after = c.call.after;
            there = c.call.there;
            does = record { ignored = d.ignored; asked = λ v is. refl; ends = ends-as Makes (λ m. Unit {0}) answer is_fresh _ _ (past d.ignored (visible_value ways.answers ways.eq c.call.before at.now key)) (λ m. tt) d.ends };
            changed = c.call.changed;
          };
          changed = c.changed;
        };
      }

  pub coalesced-suits : {F : Type 0} (kind : Option TurnKind) (key : K) (at : At) (Ignores : V → Bool → Type 0) (Makes : Made V F → Type 0) (old new : Front K V P S R) (answer : Made V F) (is_fresh : Bool)
      → ((made : Made V F) → Makes made → Suits kind made) → CoalescesIn ways key at Ignores Makes old new answer is_fresh → Suits kind answer
  coalesced-suits kind key at Ignores Makes old new answer is_fresh f c =
      let d = c.call.does in
      suits-made kind Makes answer is_fresh _ _ (past d.ignored (visible_value ways.answers ways.eq c.call.before at.now key)) (f answer) d.ends

  pub computed-gives : {E : Type 0} (key : K) (at : At) (Says : Option V → Result (Op V) E → Type 0) (old new : Front K V P S R) (answer : Result (Computed V) E)
      → ComputesIn ways key at Says old new answer → IsComputed (SeesIn ways) (ComputedIn ways) at key old new Says answer
  computed-gives key at Says old new answer c =
      let d = c.call.does in
      let seen = seen-there _ c.call.before at.now key c.call.there in
      record {
        seen = visible_in ways old at.now key;
        sees = refl;
        decided = d.decided;
        says = subst (λ o. Says o d.decided) (sym seen) d.decides;
        done = computed_as (op_decided d.decided) (visible_value ways.answers ways.eq c.call.before at.now key) (held_value ways.eq d.acts.mid key);
        does = record {
          parts = c.parts;
          call = record {
            before = c.call.before;
            after = c.call.after;
            there = c.call.there;
            does = record { decided = Ok (op_decided d.decided); decides = refl; acts = d.acts; gives = refl };
            changed = c.call.changed;
          };
          changed = c.changed;
        };
        fits = outcome-fits (op_decided d.decided) (visible_value ways.answers ways.eq c.call.before at.now key) (held_value ways.eq d.acts.mid key);
        answers = d.gives ∙ answers-done d.decided (visible_value ways.answers ways.eq c.call.before at.now key) (held_value ways.eq d.acts.mid key);
      }

  -- the same of a call that may be refused
  pub gives-if-ok : {F E : Type 0} (kind : Option TurnKind) (key : K) (at : At) (Ignores : V → Bool → Type 0) (Makes : Made V F → Type 0) (old new : Front K V P S R) (r : Result (Made V F × Bool) E)
      → IfOk r (λ a. CoalescesIn ways key at Ignores Makes old new a.0 a.1) → IfOk r (λ a. IsCoalesced (SeesIn ways) (CoalescedIn ways) kind at key old new Ignores Makes a.0 a.1)
  gives-if-ok kind key at Ignores Makes old new (Ok a) h = coalesced-gives kind key at Ignores Makes old new a.0 a.1 h
  gives-if-ok kind key at Ignores Makes old new (Err e) h = h

  pub suits-if-ok : {F E : Type 0} (kind : Option TurnKind) (key : K) (at : At) (Ignores : V → Bool → Type 0) (Makes : Made V F → Type 0) (old new : Front K V P S R) (r : Result (Made V F × Bool) E)
      → ((made : Made V F) → Makes made → Suits kind made) → IfOk r (λ a. CoalescesIn ways key at Ignores Makes old new a.0 a.1) → IfOk r (λ a. Suits kind a.0)
  suits-if-ok kind key at Ignores Makes old new (Ok a) f h = coalesced-suits kind key at Ignores Makes old new a.0 a.1 f h
  suits-if-ok kind key at Ignores Makes old new (Err e) f h = h

  pub decides-if-ok : {E X : Type 0} (key : K) (at : At) (Says : Option V → Result (Op V) E → Type 0) (old new : Front K V P S R) (r : Result (Result (Computed V) E) X)
      → IfOk r (λ answer. ComputesIn ways key at Says old new answer) → IfOk r (λ answer. IsComputed (SeesIn ways) (ComputedIn ways) at key old new Says answer)
  decides-if-ok key at Says old new (Ok answer) h = computed-gives key at Says old new answer h
  decides-if-ok key at Says old new (Err e) h = h

  -- ---- calls that make a value, by their closures' words

  pub gets-value : (key : K) (at : At) (I J : V → Bool → Type 0) (M : Made V ⊤ → Type 0) (N : V → Type 0) (old new : Front K V P S R) (made : Made V ⊤) (is_fresh : Bool) (value : V) → Value value ≡ made
      → ((v : V) (ignored : Bool) → I v ignored → J v ignored) → (M made → IsValueOf N made) → CoalescesIn ways key at I M old new made is_fresh → GetsIn ways key at J N old new value
  gets-value key at I J M N old new made is_fresh value is f g c =
      (is_fresh, subst (λ m. CoalescesIn ways key at J (IsValueOf N) old new m is_fresh) (sym is) (coalesced-as key at I J M (IsValueOf N) old new made is_fresh f g c))

  pub gets-option : (key : K) (at : At) (I : V → Bool → Type 0) (M : Made V ⊤ → Type 0) (N : Option V → Type 0) (old new : Front K V P S R) (made : Made V ⊤) (is_fresh : Bool) (value : Option V) → made_option value ≡ made
      → CoalescesIn ways key at I M old new made is_fresh → ((v : V) (ignored : Bool) → I v ignored → passes_none v ignored) → (M made → IsOptionOf N made) → GetsOptionIn ways key at N old new value
  gets-option key at I M N old new made is_fresh value is c f g =
      (is_fresh, subst (λ m. CoalescesIn ways key at passes_none (IsOptionOf N) old new m is_fresh) (sym is) (coalesced-as key at I passes_none M (IsOptionOf N) old new made is_fresh f g c))

  pub gets-result : {F : Type 0} (key : K) (at : At) (I : V → Bool → Type 0) (M : Made V F → Type 0) (N : Result V F → Type 0) (old new : Front K V P S R) (made : Made V F) (is_fresh : Bool) (value : Result V F) → made_result value ≡ made
      → CoalescesIn ways key at I M old new made is_fresh → ((v : V) (ignored : Bool) → I v ignored → passes_none v ignored) → (M made → IsResultOf N made) → GetsResultIn ways key at N old new value
  gets-result key at I M N old new made is_fresh value is c f g =
      (is_fresh, subst (λ m. CoalescesIn ways key at passes_none (IsResultOf N) old new m is_fresh) (sym is) (coalesced-as key at I passes_none M (IsResultOf N) old new made is_fresh f g c))

  pub gets-as : {E : Type 0} (key : K) (at : At) (I J : V → Bool → Type 0) (N : V → Type 0) (old new : Front K V P S R) (r : Result V E)
      → IfOk r (λ value. GetsIn ways key at I N old new value) → ((v : V) (ignored : Bool) → I v ignored → J v ignored) → IfOk r (λ value. GetsIn ways key at J N old new value)
  gets-as key at I J N old new (Ok value) h f = (h.0, coalesced-as key at I J (IsValueOf N) (IsValueOf N) old new (Value value) h.0 f (λ made. made) h.1)
  gets-as key at I J N old new (Err e) h f = h
