-- Why an answer or a give-up was refused.
use Rattle.std.proofs.Common.{◌≡◌, ◌≢◌, ◌⊎◌, ◌^◌, ℕ, Bool, true, false, not, ap, inl, inr, refl, sym, subst, ◌∙◌, nat_le, nat_lt, ◌||◌, length, List, Option, None, Some}
use Rattle.std.specs.Option.{option_map_or, option_or}
use Rattle.std.specs.Prelude.{MatchOption}
use Rattle.audit_model.specs.Belongs.{refusal_of, refusal_of_bytes, refusal_of_moment, refusal_of_ms, refusal_of_outcome, refusal_where}
use Rattle.audit_model.specs.Grammar.{is_value}
use Rattle.audit_model.specs.declared.config.Config.{Config}
use Rattle.audit_model.specs.declared.event.Instant.{Instant}
use Rattle.audit_model.specs.declared.event.Outcome.{Outcome}
use Rattle.audit_model.specs.declared.event.Outcome.TheVariants as outcome
use Rattle.audit_model.specs.declared.input.Conn.{Conn}
use Rattle.audit_model.specs.declared.input.Input.{Input}
use Rattle.audit_model.specs.declared.input.Input.TheVariants as input
use Rattle.audit_model.specs.declared.input.ServiceError.{ServiceError}
use Rattle.audit_model.specs.declared.input.ServiceError.TheVariants as error
use Rattle.audit_model.specs.declared.transcript.Note.{Note}
use Rattle.cache_spaces.proofs.Reaching.{asked-is}
use Rattle.cache_spaces.specs.Calls.{RefusedInput, Refuses, namespace_of}
use Rattle.cache_spaces.specs.Spaces.{Shown, config_of, known_of}
use Rattle.cache_service.specs.Asked.{give_up_input}
use Rattle.cache_service.specs.Exchanged.{IsNotUnderWay, IsRefusedFor, LacksItsLoad, WasNotUnderWay}
use Rattle.cache_shared.proofs.Causes.{unfit_held}
use Rattle.cache_shared.specs.Events.{RefusesStep, is_of_outcome}
use Rattle.cache_shared.specs.Looked.{HeldAtSomeMoment}

-- such an error is one of three
pub of_outcome : (e : ServiceError) → (e ≡ error.LineEnd) ⊎ ((e ≡ error.TooLong) ⊎ (e ≡ error.Deadline)) → is_of_outcome e ≡ true
of_outcome e (inl is) = ap is_of_outcome is
of_outcome e (inr (inl is)) = ap is_of_outcome is
of_outcome e (inr (inr is)) = ap is_of_outcome is

pub not_of_outcome : (e : ServiceError) → e ≢ error.LineEnd → e ≢ error.TooLong → e ≢ error.Deadline → is_of_outcome e ≡ false
not_of_outcome error.NoNamespace line long deadline = refl
not_of_outcome error.NoConnection line long deadline = refl
not_of_outcome error.Closed line long deadline = refl
not_of_outcome error.NoLoad line long deadline = refl
not_of_outcome error.Moment line long deadline = refl
not_of_outcome error.OutOfMemory line long deadline = refl
not_of_outcome error.HeldAgain line long deadline = refl
not_of_outcome error.LineEnd line long deadline = absurd (line refl)
not_of_outcome error.TooLong line long deadline = absurd (long refl)
not_of_outcome error.Deadline line long deadline = absurd (deadline refl)
not_of_outcome error.UsedUp line long deadline = refl
not_of_outcome error.Config line long deadline = refl

-- ---- refusals for a moment or an outcome

abbrev is_passing : ServiceError → Bool
is_passing error.Moment = true
is_passing error.LineEnd = true
is_passing error.TooLong = true
is_passing error.Deadline = true
is_passing e = false

passing_apart : (e : ServiceError) → e ≢ error.Moment → is_of_outcome e ≡ false → is_passing e ≡ false
passing_apart error.NoNamespace late fit = refl
passing_apart error.NoConnection late fit = refl
passing_apart error.Closed late fit = refl
passing_apart error.NoLoad late fit = refl
passing_apart error.Moment late fit = absurd (late refl)
passing_apart error.OutOfMemory late fit = refl
passing_apart error.HeldAgain late fit = refl
passing_apart error.LineEnd late fit = fit
passing_apart error.TooLong late fit = fit
passing_apart error.Deadline late fit = fit
passing_apart error.UsedUp late fit = refl
passing_apart error.Config late fit = refl

-- if there is one, it is of that kind
abbrev IsOnlySo : Option ServiceError → Type 0
IsOnlySo refusal = option_map_or is_passing refusal true ≡ true

only_where : (b : Bool) (x : ServiceError) → is_passing x ≡ true → IsOnlySo (refusal_where b x)
only_where true x so = so
only_where false x so = refl

only_or : (a b : Option ServiceError) → IsOnlySo a → IsOnlySo b → IsOnlySo (option_or a b)
only_or None b first second = second
only_or (Some x) b first second = first

only_bytes : (bytes : List ℕ) → IsOnlySo (refusal_of_bytes bytes)
only_bytes bytes = only_or (refusal_where (not (is_value bytes)) error.LineEnd) (refusal_where (nat_lt 8192 (length bytes)) error.TooLong) (only_where (not (is_value bytes)) error.LineEnd refl) (only_where (nat_lt 8192 (length bytes)) error.TooLong refl)

only_ms : (config : Config) (ms : Option ℕ) → IsOnlySo (refusal_of_ms config ms)
only_ms config None = refl
only_ms config (Some ms) = only_where (not config.own_deadlines || nat_lt 999999999999 ms) error.Deadline refl

only_outcome : (config : Config) (came : Outcome) → IsOnlySo (refusal_of_outcome config came)
only_outcome config (outcome.Value bytes ms) = only_or (refusal_of_bytes bytes) (refusal_of_ms config ms) (only_bytes bytes) (only_ms config ms)
only_outcome config outcome.None = refl
only_outcome config (outcome.Fault text) = only_bytes text

only_moment : (moment : Instant) → IsOnlySo (refusal_of_moment moment)
only_moment moment = only_where (nat_le (2 ^ 63) moment.nanos) error.Moment refl

-- ---- a load that is not under way

-- the load that an input names
abbrev LacksIn : Input → List Shown → Type 0
LacksIn (input.Open namespace) spaces = Unit {0}
LacksIn (input.Close conn) spaces = Unit {0}
LacksIn (input.Feed conn piece moment) spaces = Unit {0}
LacksIn (input.Answer load outcome moment) spaces = IsNotUnderWay load.namespace load.number spaces
LacksIn (input.GiveUp load moment) spaces = IsNotUnderWay load.namespace load.number spaces

module _ (e : ServiceError) (memory : e ≢ error.OutOfMemory) (late : e ≢ error.Moment) (fit : is_of_outcome e ≡ false) where
  -- if it was refused for nothing else, it is not under way
  lacks : (under : Bool) (rest : Option ServiceError) → IsOnlySo rest
      → MatchOption (option_or (refusal_where (not under) error.NoLoad) rest) ((e ≡ error.OutOfMemory) ⊎ ((e ≡ error.HeldAgain) × (false ≡ true))) (λ refused. e ≡ refused) → under ≡ false
  lacks false rest only refused = refl
  lacks true None only (inl full) = absurd (memory full)
  lacks true None only (inr held) = absurd (let no : false ≡ true = held.1 in cc)
  lacks true (Some x) only same = absurd (let no : false ≡ true = sym (passing_apart e late fit) ∙ ap is_passing same ∙ only in cc)

  lacks_there : (i : Input) (spaces : List Shown) → Refuses spaces (namespace_of i) e (RefusedInput i e) → LacksIn i spaces
  lacks_there (input.Open namespace) spaces refused = tt
  lacks_there (input.Close conn) spaces refused = tt
  lacks_there (input.Feed conn piece moment) spaces refused = tt
  lacks_there (input.Answer load came moment) spaces (inl absent) = inl absent.1
  lacks_there (input.Answer load came moment) spaces (inr there) =
      let r = there.fact in
      let known = known_of there.space in
      let same = asked-is (length there.space.closings) (input.Answer load came moment) r.happened r.event in
      let refused = subst (λ happened. MatchOption (refusal_of (config_of there.space) known happened) ((e ≡ error.OutOfMemory) ⊎ ((e ≡ error.HeldAgain) × (false ≡ true))) (λ refused. e ≡ refused)) (sym same) r.refused in
      inr (record {
        space = there.space;
        at = there.at;
        fact = lacks (known.is_under_way load.number) (option_or (refusal_of_moment moment) (refusal_of_outcome (config_of there.space) came))
            (only_or (refusal_of_moment moment) (refusal_of_outcome (config_of there.space) came) (only_moment moment) (only_outcome (config_of there.space) came)) refused;
      })
  lacks_there (input.GiveUp load moment) spaces (inl absent) = inl absent.1
  lacks_there (input.GiveUp load moment) spaces (inr there) =
      let r = there.fact in
      let known = known_of there.space in
      let same = asked-is (length there.space.closings) (input.GiveUp load moment) r.happened r.event in
      let refused = subst (λ happened. MatchOption (refusal_of (config_of there.space) known happened) ((e ≡ error.OutOfMemory) ⊎ ((e ≡ error.HeldAgain) × (false ≡ true))) (λ refused. e ≡ refused)) (sym same) r.refused in
      inr (record { space = there.space; at = there.at; fact = lacks (known.is_under_way load.number) (refusal_of_moment moment) (only_moment moment) refused })

  lacks_step : e ≢ error.UsedUp → (i : Input) (count : ℕ) (spaces : List Shown) → RefusesStep i e count spaces → LacksIn i spaces
  lacks_step used i count spaces (inl full) = absurd (used full.0)
  lacks_step used i count spaces (inr (inl full)) = absurd (memory full)
  lacks_step used i count spaces (inr (inr refused)) = lacks_there i spaces refused

module _ {C : Type 0} (configs : List Config) (spaces : C → List Shown) (untaken : C → Conn → List ℕ) (untold : C → ℕ → List Note) where
  pub refused-for : (i : Input) (e : ServiceError) (count : ℕ) → HeldAtSomeMoment configs spaces (RefusesStep i e count) → IsRefusedFor configs spaces untaken untold i e
  refused-for i e count held = record {
    unfit = unfit_held configs spaces i e count held;
    left = λ memory used late fit. go i (lacks_step e memory late fit used i count (spaces held.core) held.fact);
  }
    where
      there : (namespace load : ℕ) → IsNotUnderWay namespace load (spaces held.core) → WasNotUnderWay configs spaces untaken untold namespace load
      there namespace load lacks = ∣ record { core = held.core; events = held.events; reached = held.reached; fact = lacks } ∣₁

      go : (j : Input) → LacksIn j (spaces held.core) → LacksItsLoad configs spaces untaken untold j
      go (input.Open namespace) lacks = tt
      go (input.Close conn) lacks = tt
      go (input.Feed conn piece moment) lacks = tt
      go (input.Answer load outcome moment) lacks = there load.namespace load.number lacks
      go (input.GiveUp load moment) lacks = there load.namespace load.number lacks

  -- a give-up is refused for no outcome
  pub left-up : (namespace moment load : ℕ) (e : ServiceError) → IsRefusedFor configs spaces untaken untold (give_up_input namespace moment load) e → e ≢ error.OutOfMemory → e ≢ error.UsedUp → e ≢ error.Moment → WasNotUnderWay configs spaces untaken untold namespace load
  left-up namespace moment load e refused memory used late = go (is_of_outcome e) refl
    where
      go : (b : Bool) → is_of_outcome e ≡ b → WasNotUnderWay configs spaces untaken untold namespace load
      go true so = absurd (refused.unfit so)
      go false so = refused.left memory used late so
