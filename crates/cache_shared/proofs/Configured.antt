-- The configurations of a service's namespaces, which no call changes.
use Rattle.std.proofs.Common.{◌≡◌, ℕ, zero, suc, List, [], ◌∷◌, length, map, Option, Some, refl, sym, ap, ◌∙◌, arith}
use Rattle.std.specs.Prelude.{Result, Ok, Err, IfOk, OnErr}
use Rattle.std.specs.List.{slice_get}
use Rattle.audit_model.specs.declared.config.Config.{Config}
use Rattle.cache_core.proofs.connections.Getting.{map-same}
use Rattle.cache_lines.specs.Tape.Taped.{Taped}
use Rattle.cache_spaces.specs.Calls.{At}
use Rattle.cache_spaces.specs.Services.{AreNewSpaces}
use Rattle.cache_spaces.specs.Spaces.{Space, config_of, shown_space}
use Rattle.cache_shared.specs.Events.{configs_of}

module _ {T : Type 0} where
  -- one namespace is replaced, and keeps its own
  pub same-configs : (F : Space T → Space T → Type 0) (k : ℕ) (old new : List (Space T)) → ((was is : Space T) → F was is → config_of is ≡ config_of was) → At old new k F → map config_of new ≡ map config_of old
  same-configs F k old new keeps a = ap (λ (l : List (Space T)). map config_of l) a.set ∙ map-same config_of old k a.was a.is a.at (keeps a.was a.is a.fact)

  -- so it is, or nothing changed
  pub configs-stay : {A E : Type 0} (F : A → Space T → Space T → Type 0) (k : ℕ) (old new : List (Space T)) (r : Result A E) → ((x : A) (was is : Space T) → F x was is → config_of is ≡ config_of was)
      → IfOk r (λ x. At old new k (F x)) → OnErr r (new ≡ old) → map config_of new ≡ map config_of old
  configs-stay F k old new (Ok x) keeps a same = same-configs (F x) k old new (keeps x) a
  configs-stay F k old new (Err e) keeps a same = ap (λ (l : List (Space T)). map config_of l) same

  all-same : (spaces : List (Space T)) (configs : List Config) → length spaces ≡ length configs
      → ((k : ℕ) (config : Config) (space : Space T) → slice_get configs k ≡ Some config → slice_get spaces k ≡ Some space → config_of space ≡ config) → map config_of spaces ≡ configs
  all-same [] [] count each = refl
  all-same [] (c ∷ cs) count each = absurd (omega (arith, count))
  all-same (x ∷ xs) [] count each = absurd (omega (arith, count))
  all-same (x ∷ xs) (c ∷ cs) count each = ap (λ k. k ∷ map config_of xs) (each zero c x refl refl) ∙ ap (λ l. c ∷ l) (all-same xs cs (omega (arith, count)) (λ k. each (suc k)))

  -- those of a service that was just made
  pub configs-new : (tape : T → Option Taped) (blank : Option Taped) (spaces : List (Space T)) (configs : List Config) (generator : List ℕ) (made : ℕ) → AreNewSpaces tape blank spaces configs generator made → map config_of spaces ≡ configs
  configs-new tape blank spaces configs generator made new = all-same spaces configs new.count (λ k config space c s. (new.each k config space c s).configured)

  -- they look the same whatever the tapes are
  pub configs-shown : (tape : T → Option Taped) (spaces : List (Space T)) → configs_of (map (shown_space tape) spaces) ≡ map config_of spaces
  configs-shown tape [] = refl
  configs-shown tape (x ∷ xs) = ap (λ l. config_of x ∷ l) (configs-shown tape xs)

  pub stay-shown : (tape : T → Option Taped) (old new : List (Space T)) → map config_of new ≡ map config_of old → configs_of (map (shown_space tape) new) ≡ configs_of (map (shown_space tape) old)
  stay-shown tape old new same = configs-shown tape new ∙ same ∙ sym (configs-shown tape old)
