-- What is left of a report.
use Rattle.std.proofs.Common.{◌≡◌, ℕ, ◌<◌, List, Option, sym, ◌∙◌, arith, inl, inr, Result, Ok, Err, MatchResult}
use Rattle.std.specs.declared.io.Error.{Error}
use Rattle.cache_run.specs.Devices.Failures.{failures_after}
use Rattle.cache_run.specs.Driver.Causes.{Obtains}
use Rattle.cache_link.specs.Patience.{device_of, would_wait_by}
use Rattle.cache_link.specs.Reports.{Hears, HearsOf, TakesFew}
use Rattle.cache_link.specs.declared.link.Report.{Report}
use Rattle.cache_link.specs.declared.link.Report.TheVariants.{Nothing, Bytes}
use Rattle.cache_link.specs.declared.patient.Patient.{Patient}
use Rattle.cache_link.proofs.Patience.{counted-fails}

takes-few : (a b : Option (List ℕ)) (bytes : List ℕ) (filled : Result ℕ Error) → MatchResult filled (λ n. (0 < n) × (n < 8192)) (λ e. ⊥) → Obtains a b bytes filled → TakesFew a b
takes-few a b bytes (Ok n) few got = let count = got.1 in (bytes, got.0, omega (arith, few.0, count), omega (arith, few.1, count))
takes-few a b bytes (Err e) few got = absurd few

module _ {R : Type 0} (remaining : R → Option (List ℕ)) (before after : Report) (was is : Patient R) where
  -- a report that is kept
  pub hears-same : after ≡ before → Hears remaining before after was is
  hears-same same = record {
    ending = λ end. inl (same ∙ end);
    bytes = λ some none. let no : Bytes ≡ Nothing = sym some ∙ sym same ∙ none in cc;
  }

  -- a report of which something was read
  pub hears-read : (filled : Result ℕ Error) (bytes : List ℕ) → HearsOf filled before after → is.waited ≡ failures_after (would_wait_by filled) was.waited → Obtains (remaining (device_of was)) (remaining (device_of is)) bytes filled → Hears remaining before after was is
  hears-read filled bytes heard count got = record {
    ending = λ end. elim (heard.ending end) [ inl same ↦ inl same | inr wait ↦ inr (counted-fails (would_wait_by filled) was.waited is.waited count wait) ];
    bytes = λ some none. elim (heard.bytes some none) [
      | inl wait ↦ inl (counted-fails (would_wait_by filled) was.waited is.waited count wait)
      | inr few ↦ inr (takes-few (remaining (device_of was)) (remaining (device_of is)) bytes filled few got)
    ];
  }

  -- and nothing changes after that
  pub hears-then : (later : Report) → later ≡ after → Hears remaining before after was is → Hears remaining before later was is
  hears-then later same heard = record {
    ending = λ end. elim (heard.ending end) [ inl is_there ↦ inl (same ∙ is_there) | inr wait ↦ inr wait ];
    bytes = λ some none. heard.bytes some (sym same ∙ none);
  }
