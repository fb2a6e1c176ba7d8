-- What a front says of its calls to selectors, and what its calls that make a value answer.
use Rattle.std.specs.Prelude.{◌≡◌, ⊤, Bool, Option, None, MatchOption, Result, Ok}
use Rattle.front_parts.specs.Access.Answering.{IsCoalesced, IsComputed, IsOptionOf, IsResultOf, IsValueOf, made_option, made_result, passes_none}
use Rattle.front_reference.specs.Fronts.{ComesAfter, Front, turn_of}
use Rattle.front_reference.specs.declared.data.At.{At}
use Rattle.front_reference.specs.declared.data.Computed.{Computed}
use Rattle.front_reference.specs.declared.data.Made.{Made}
use Rattle.front_reference.specs.declared.data.Made.TheVariants.{Value}
use Rattle.front_reference.specs.declared.data.Op.{Op}
use Rattle.front_reference.specs.declared.data.TurnKind.{TurnKind}
use Rattle.front_parts.specs.Places.Calls.{CoalescesIn, ComputesIn, Ways, visible_in}

-- a call of a kind, or of none, comes for a key: after the last one, and no turn of its kind and key is under way
pub record MayCall {K V P S R : Type 0} (eq : K → K → Bool) (f : Front K V P S R) (at : At)
    (kind : Option TurnKind) (key : K) : Type 0 where
  pub follows : ComesAfter at.now at.step f
  pub free : MatchOption kind (Unit {0}) (λ k. turn_of eq f.turns k key ≡ None)

module _ {K V P S R : Type 0} (ways : Ways K V P S R) where
  -- the visible value is seen
  abbrev pub SeesIn : Front K V P S R → At → K → Option V → Type 0
  SeesIn f at key seen = seen ≡ visible_in ways f at.now key

  -- a coalesced call of any kind, where a visible value is passed over or not, whatever is made
  abbrev pub CoalescedIn : {F : Type 0} → Front K V P S R → At → Option TurnKind → K
      → (ignored : Bool) → Made V F → (is_fresh : Bool) → Front K V P S R → Type 0
  CoalescedIn old at kind key ignored answer is_fresh new =
      CoalescesIn ways key at (λ v i. i ≡ ignored) (λ made. Unit {0}) old new answer is_fresh

  -- this operation is done, whatever is seen
  abbrev pub ComputedIn : Front K V P S R → At → K → Op V → Computed V → Front K V P S R → Type 0
  ComputedIn old at key does done new =
      ComputesIn ways {E = ⊤} key at (λ seen decided. decided ≡ Ok does) old new (Ok done)

  -- a call answers the visible value of a key that is not passed over, or the one that it makes
  abbrev pub GetsIn : K → At → (Ignores : V → Bool → Type 0) → (Makes : V → Type 0)
      → Front K V P S R → Front K V P S R → V → Type 0
  GetsIn key at Ignores Makes old new value =
      (is_fresh : Bool)
      × CoalescesIn ways {F = ⊤} key at Ignores (IsValueOf Makes) old new (Value value) is_fresh

  -- the same, where it may make none
  abbrev pub GetsOptionIn : K → At → (Makes : Option V → Type 0) → Front K V P S R → Front K V P S R
      → Option V → Type 0
  GetsOptionIn key at Makes old new answer =
      (is_fresh : Bool) × CoalescesIn ways {F = ⊤} key at passes_none (IsOptionOf Makes) old new
      (made_option answer) is_fresh

  -- the same, where it may fail
  abbrev pub GetsResultIn : {F : Type 0} → K → At → (Makes : Result V F → Type 0) → Front K V P S R
      → Front K V P S R → Result V F → Type 0
  GetsResultIn key at Makes old new answer =
      (is_fresh : Bool) × CoalescesIn ways key at passes_none (IsResultOf Makes) old new
      (made_result answer) is_fresh

  -- ---- the two calls of selectors, over what their closures answer

  abbrev pub GivesIn : {F E : Type 0} → Option TurnKind → At → K → (Ignores : V → Bool → Type 0)
      → (Makes : Result (Made V F) E → Type 0) → Front K V P S R → Front K V P S R → Made V F × Bool
      → Type 0
  GivesIn kind at key Ignores Makes old new answer =
      IsCoalesced SeesIn CoalescedIn kind at key old new Ignores (λ made. Makes (Ok made)) answer.0
      answer.1

  abbrev pub DecidesIn : {E : Type 0} → At → K → (Says : Option V → Result (Op V) E → Type 0)
      → Front K V P S R → Front K V P S R → Result (Computed V) E → Type 0
  DecidesIn at key Says old new answer = IsComputed SeesIn ComputedIn at key old new Says answer
