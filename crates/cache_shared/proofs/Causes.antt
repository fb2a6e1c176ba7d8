-- For what a step of a seat is refused.
use Rattle.std.proofs.Common.{◌≡◌, ◌≢◌, ℕ, ◌⊎◌, ◌^◌, ◌-◌, Bool, true, false, not, nat_le, nat_lt, ◌||◌, List, length, Option, None, Some, is_some, refl, sym, ap, ◌∙◌, subst, inl, inr}
use Rattle.std.proofs.lemmas.Bool.{leb-true}
use Rattle.std.specs.Option.{option_map_or, option_or}
use Rattle.std.specs.Prelude.{Result, Ok, Err, IfErr, MatchOption}
use Rattle.audit_model.specs.Belongs.{Known, refusal_of, refusal_of_bytes, refusal_of_conn, refusal_of_load, refusal_of_moment, refusal_of_ms, refusal_of_outcome, refusal_where}
use Rattle.audit_model.specs.Grammar.{is_value}
use Rattle.audit_model.specs.declared.event.Instant.{Instant}
use Rattle.audit_model.specs.declared.config.Config.{Config}
use Rattle.audit_model.specs.declared.event.Outcome.{Outcome}
use Rattle.audit_model.specs.declared.event.Outcome.TheVariants as outcome
use Rattle.audit_model.specs.declared.input.Input.{Input}
use Rattle.audit_model.specs.declared.input.Input.TheVariants as input
use Rattle.audit_model.specs.declared.input.ServiceError.{ServiceError}
use Rattle.audit_model.specs.declared.input.ServiceError.TheVariants as error
use Rattle.cache_spaces.proofs.Reaching.{asked-is, event_of}
use Rattle.cache_spaces.specs.Calls.{RefusedInput, Refuses, is_held_for, namespace_of}
use Rattle.cache_spaces.specs.Spaces.{Shown, config_of, known_of}
use Rattle.cache_shared.specs.Events.{HasLateMoment, IsUnfitAnswer, RefusesStep, is_of_outcome}
use Rattle.cache_shared.specs.Looked.{HeldAtSomeMoment}
use Rattle.cache_shared.specs.declared.intake.IntakeError.{IntakeError}

-- ---- refusals one after another, the first of which applies

module _ (is : ServiceError → Bool) where
  -- it is of this kind
  abbrev IsSo : Option ServiceError → Bool
  IsSo refusal = option_map_or is refusal false

  apart-where : (b : Bool) (x : ServiceError) → is x ≡ false → IsSo (refusal_where b x) ≡ false
  apart-where true x unlike = unlike
  apart-where false x unlike = refl

  apart-or : (a b : Option ServiceError) → IsSo a ≡ false → IsSo b ≡ false → IsSo (option_or a b) ≡ false
  apart-or None b first second = second
  apart-or (Some x) b first second = first

  -- the last applies, or the one in the middle
  last-where : (a : Option ServiceError) (b : Bool) (x : ServiceError) → IsSo a ≡ false → IsSo (option_or a (refusal_where b x)) ≡ true → b ≡ true
  last-where None true x first so = refl
  last-where None false x first so = let no : false ≡ true = so in cc
  last-where (Some y) b x first so = let no : false ≡ true = sym first ∙ so in cc

  middle-where : (a : Option ServiceError) (b : Bool) (x : ServiceError) (c : Option ServiceError) → IsSo a ≡ false → IsSo c ≡ false → IsSo (option_or a (option_or (refusal_where b x) c)) ≡ true → b ≡ true
  middle-where None true x c first last so = refl
  middle-where None false x c first last so = let no : false ≡ true = sym last ∙ so in cc
  middle-where (Some y) b x c first last so = let no : false ≡ true = sym first ∙ so in cc

  last-some : (a b c : Option ServiceError) → IsSo a ≡ false → IsSo b ≡ false → IsSo (option_or a (option_or b c)) ≡ true → is_some c ≡ true
  last-some None None None first second so = let no : false ≡ true = so in cc
  last-some None None (Some z) first second so = refl
  last-some None (Some y) c first second so = let no : false ≡ true = sym second ∙ so in cc
  last-some (Some x) b c first second so = let no : false ≡ true = sym first ∙ so in cc

  -- the causes of other kinds
  conn-apart : (known : Known) (conn : ℕ) → is error.NoConnection ≡ false → is error.Closed ≡ false → IsSo (refusal_of_conn known conn) ≡ false
  conn-apart known conn none closed =
      apart-or (refusal_where (not (known.was_opened conn)) error.NoConnection) (refusal_where (not (known.is_open conn)) error.Closed) (apart-where (not (known.was_opened conn)) error.NoConnection none) (apart-where (not (known.is_open conn)) error.Closed closed)

  bytes-apart : (bytes : List ℕ) → is error.LineEnd ≡ false → is error.TooLong ≡ false → IsSo (refusal_of_bytes bytes) ≡ false
  bytes-apart bytes line long =
      apart-or (refusal_where (not (is_value bytes)) error.LineEnd) (refusal_where (nat_lt 8192 (length bytes)) error.TooLong) (apart-where (not (is_value bytes)) error.LineEnd line) (apart-where (nat_lt 8192 (length bytes)) error.TooLong long)

  ms-apart : (config : Config) (ms : Option ℕ) → is error.Deadline ≡ false → IsSo (refusal_of_ms config ms) ≡ false
  ms-apart config None deadline = refl
  ms-apart config (Some ms) deadline = apart-where (not config.own_deadlines || nat_lt 999999999999 ms) error.Deadline deadline

  outcome-apart : (config : Config) (came : Outcome) → is error.LineEnd ≡ false → is error.TooLong ≡ false → is error.Deadline ≡ false → IsSo (refusal_of_outcome config came) ≡ false
  outcome-apart config (outcome.Value bytes ms) line long deadline = apart-or (refusal_of_bytes bytes) (refusal_of_ms config ms) (bytes-apart bytes line long) (ms-apart config ms deadline)
  outcome-apart config outcome.None line long deadline = refl
  outcome-apart config (outcome.Fault text) line long deadline = bytes-apart text line long

-- ---- refusals of inputs

module _ (is : ServiceError → Bool) (e : ServiceError) (so : is e ≡ true) where
  other : (x : ServiceError) → is x ≡ false → e ≢ x
  other x unlike same = let no : false ≡ true = sym unlike ∙ ap is (sym same) ∙ so in cc

  module _ (memory : is error.OutOfMemory ≡ false) (again : is error.HeldAgain ≡ false) where
    -- a definition's refusal is of the error's kind
    kind : (o : Option ServiceError) (held : Bool) → MatchOption o ((e ≡ error.OutOfMemory) ⊎ ((e ≡ error.HeldAgain) × (held ≡ true))) (λ refused. e ≡ refused) → IsSo is o ≡ true
    kind None held (inl full) = absurd (other error.OutOfMemory memory full)
    kind None held (inr twice) = absurd (other error.HeldAgain again twice.0)
    kind (Some refused) held same = ap is (sym same) ∙ so

    -- and so it is of an input, in some situation
    kind_refused : is error.NoNamespace ≡ false → (i : Input) (spaces : List Shown) → Refuses spaces (namespace_of i) e (RefusedInput i e)
        → (config : Config) × (known : Known) × (opened : ℕ) × (IsSo is (refusal_of config known (event_of opened i)) ≡ true)
    kind_refused none i spaces (inl absent) = absurd (other error.NoNamespace none absent.0)
    kind_refused none i spaces (inr there) =
        let refused = there.fact in
        let config = config_of there.space in
        let known = known_of there.space in
        let opened = length there.space.closings in
        let same = asked-is opened i refused.happened refused.event in (
          config,
          known,
          opened,
          subst (λ happened. IsSo is (refusal_of config known happened) ≡ true) (sym same) (kind (refusal_of config known refused.happened) (is_held_for there.space i) refused.refused),
        )

    -- where the count is not used up
    kind_step : is error.NoNamespace ≡ false → is error.UsedUp ≡ false → (i : Input) (count : ℕ) (spaces : List Shown) → RefusesStep i e count spaces
        → (config : Config) × (known : Known) × (opened : ℕ) × (IsSo is (refusal_of config known (event_of opened i)) ≡ true)
    kind_step none used i count spaces (inl full) = absurd (other error.UsedUp used full.0)
    kind_step none used i count spaces (inr (inl full)) = absurd (other error.OutOfMemory memory full)
    kind_step none used i count spaces (inr (inr refused)) = kind_refused none i spaces refused

-- an outcome that is refused for its bytes or its time
pub unfit_step : (i : Input) (e : ServiceError) (count : ℕ) (spaces : List Shown) → is_of_outcome e ≡ true → RefusesStep i e count spaces → IsUnfitAnswer i
unfit_step i e count spaces so refused = let k = kind_step is_of_outcome e so refl refl refl refl i count spaces refused in go i k.0 k.1 k.2 k.3
  where
    never : {A : Type 0} (o : Option ServiceError) → IsSo is_of_outcome o ≡ false → IsSo is_of_outcome o ≡ true → A
    never o unlike like = absurd (let no : false ≡ true = sym unlike ∙ like in cc)

    go : (i : Input) (config : Config) (known : Known) (opened : ℕ) → IsSo is_of_outcome (refusal_of config known (event_of opened i)) ≡ true → IsUnfitAnswer i
    go (input.Open n) config known opened like = never None refl like
    go (input.Close conn) config known opened like = never (refusal_of_conn known conn.number) (conn-apart is_of_outcome known conn.number refl refl) like
    go (input.Feed conn piece moment) config known opened like =
        never _ (apart-or is_of_outcome (refusal_of_conn known conn.number) (refusal_of_moment moment) (conn-apart is_of_outcome known conn.number refl refl) (apart-where is_of_outcome (nat_le (2 ^ 63) moment.nanos) error.Moment refl)) like
    go (input.Answer load came moment) config known opened like = (
      config,
      last-some is_of_outcome (refusal_of_load known load.number) (refusal_of_moment moment) (refusal_of_outcome config came) (apart-where is_of_outcome (not (known.is_under_way load.number)) error.NoLoad refl) (apart-where is_of_outcome (nat_le (2 ^ 63) moment.nanos) error.Moment refl) like,
    )
    go (input.GiveUp load moment) config known opened like =
        never _ (apart-or is_of_outcome (refusal_of_load known load.number) (refusal_of_moment moment) (apart-where is_of_outcome (not (known.is_under_way load.number)) error.NoLoad refl) (apart-where is_of_outcome (nat_le (2 ^ 63) moment.nanos) error.Moment refl)) like

abbrev is_moment : ServiceError → Bool
is_moment error.Moment = true
is_moment e = false

-- a moment that is too late
pub late_step : (i : Input) (e : ServiceError) (count : ℕ) (spaces : List Shown) → e ≡ error.Moment → RefusesStep i e count spaces → HasLateMoment i
late_step i e count spaces same refused = let k = kind_step is_moment e (ap is_moment same) refl refl refl refl i count spaces refused in go i k.0 k.1 k.2 k.3
  where
    never : {A : Type 0} (o : Option ServiceError) → IsSo is_moment o ≡ false → IsSo is_moment o ≡ true → A
    never o unlike like = absurd (let no : false ≡ true = sym unlike ∙ like in cc)

    go : (i : Input) (config : Config) (known : Known) (opened : ℕ) → IsSo is_moment (refusal_of config known (event_of opened i)) ≡ true → HasLateMoment i
    go (input.Open n) config known opened like = never None refl like
    go (input.Close conn) config known opened like = never (refusal_of_conn known conn.number) (conn-apart is_moment known conn.number refl refl) like
    go (input.Feed conn piece moment) config known opened like =
        leb-true (2 ^ 63) moment.nanos (last-where is_moment (refusal_of_conn known conn.number) (nat_le (2 ^ 63) moment.nanos) error.Moment (conn-apart is_moment known conn.number refl refl) like)
    go (input.Answer load came moment) config known opened like =
        leb-true (2 ^ 63) moment.nanos (middle-where is_moment (refusal_of_load known load.number) (nat_le (2 ^ 63) moment.nanos) error.Moment (refusal_of_outcome config came) (apart-where is_moment (not (known.is_under_way load.number)) error.NoLoad refl) (outcome-apart is_moment config came refl refl refl) like)
    go (input.GiveUp load moment) config known opened like =
        leb-true (2 ^ 63) moment.nanos (last-where is_moment (refusal_of_load known load.number) (nat_le (2 ^ 63) moment.nanos) error.Moment (apart-where is_moment (not (known.is_under_way load.number)) error.NoLoad refl) like)

abbrev is_used_up : ServiceError → Bool
is_used_up error.UsedUp = true
is_used_up e = false

-- a count that is used up: the definition has no such refusal
pub used_up_step : (i : Input) (e : ServiceError) (count : ℕ) (spaces : List Shown) → e ≡ error.UsedUp → RefusesStep i e count spaces → count ≡ 2 ^ 64 - 1
used_up_step i e count spaces same (inl full) = full.1
used_up_step i e count spaces same (inr (inl full)) = absurd (other is_used_up e (ap is_used_up same) error.OutOfMemory refl full)
used_up_step i e count spaces same (inr (inr refused)) = let k = kind_refused is_used_up e (ap is_used_up same) refl refl refl i spaces refused in absurd (go i k.0 k.1 k.2 k.3)
  where
    never : (o : Option ServiceError) → IsSo is_used_up o ≡ false → IsSo is_used_up o ≡ true → ⊥
    never o unlike like = let no : false ≡ true = sym unlike ∙ like in cc

    late : (moment : Instant) → IsSo is_used_up (refusal_of_moment moment) ≡ false
    late moment = apart-where is_used_up (nat_le (2 ^ 63) moment.nanos) error.Moment refl

    load : (known : Known) (number : ℕ) → IsSo is_used_up (refusal_of_load known number) ≡ false
    load known number = apart-where is_used_up (not (known.is_under_way number)) error.NoLoad refl

    go : (i : Input) (config : Config) (known : Known) (opened : ℕ) → IsSo is_used_up (refusal_of config known (event_of opened i)) ≡ true → ⊥
    go (input.Open n) config known opened like = never None refl like
    go (input.Close conn) config known opened like = never (refusal_of_conn known conn.number) (conn-apart is_used_up known conn.number refl refl) like
    go (input.Feed conn piece moment) config known opened like =
        never _ (apart-or is_used_up (refusal_of_conn known conn.number) (refusal_of_moment moment) (conn-apart is_used_up known conn.number refl refl) (late moment)) like
    go (input.Answer id came moment) config known opened like =
        never _ (apart-or is_used_up (refusal_of_load known id.number) (option_or (refusal_of_moment moment) (refusal_of_outcome config came)) (load known id.number) (apart-or is_used_up (refusal_of_moment moment) (refusal_of_outcome config came) (late moment) (outcome-apart is_used_up config came refl refl refl))) like
    go (input.GiveUp id moment) config known opened like = never _ (apart-or is_used_up (refusal_of_load known id.number) (refusal_of_moment moment) (load known id.number) (late moment)) like

-- ---- at some moment

module _ {C : Type 0} (configs : List Config) (spaces : C → List Shown) (i : Input) (e : ServiceError) (count : ℕ) (held : HeldAtSomeMoment configs spaces (RefusesStep i e count)) where
  pub late_held : e ≡ error.Moment → HasLateMoment i
  late_held same = late_step i e count (spaces held.core) same held.fact

  pub unfit_held : is_of_outcome e ≡ true → IsUnfitAnswer i
  unfit_held so = unfit_step i e count (spaces held.core) so held.fact

-- a count is used up only at its end
pub used_up_refused : {A : Type 0} (i : Input) (r : Result A IntakeError) (count : ℕ) (spaces : List Shown) → IfErr r (λ refused. RefusesStep i refused.error count spaces) → IfErr r (λ refused. refused.error ≡ error.UsedUp → count ≡ 2 ^ 64 - 1)
used_up_refused i (Ok a) count spaces refused = tt
used_up_refused i (Err refused) count spaces cause = λ same. used_up_step i refused.error count spaces same cause
