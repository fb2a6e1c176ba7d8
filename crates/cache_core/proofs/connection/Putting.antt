-- A connection as its lines leave it.
use Rattle.std.proofs.Common.{refl, sym, subst, arith, ◌≡◌, ℕ, ◌≤◌, Bool, true, false, List, Option, None, Some, if◌then◌else◌, nat_lt}
use Rattle.std.proofs.lemmas.Bool.{ltb-true}
use Rattle.audit_model.specs.declared.command.Closing.{Closing}
use Rattle.cache_commands.specs.declared.loads.standing.Standing.{Standing}
use Rattle.cache_core.specs.Connection.Fits.{FitsStanding, ended_closing}
use Rattle.cache_lines.specs.Whole.{has_line, is_near}
use Rattle.audit_model.specs.declared.command.Closing.TheVariants as by
use Rattle.cache_lines.specs.declared.looping.End.TheVariants as at
use Rattle.cache_commands.specs.declared.loads.standing.Standing.TheVariants as now

pub not-above : (n : ℕ) → n ≤ 8192 → nat_lt 8192 n ≡ false
not-above n le = go (nat_lt 8192 n) refl
  where
    go : (t : Bool) → nat_lt 8192 n ≡ t → t ≡ false
    go true e = let h = ltb-true 8192 n e in absurd (omega arith)
    go false e = refl

-- what is known of it where its `LOAD` waits, before it drops what came
pub fits-waiting : (standing : Standing) (times : ℕ) (closing : Option Closing) (rest : List ℕ) → standing ≡ now.Waiting → closing ≡ ended_closing at.Waits rest → has_line rest ≡ true → nat_lt times 201 ≡ true → FitsStanding standing times closing rest
fits-waiting standing times closing rest stands closes whole few = subst (λ st. FitsStanding st times closing rest) (sym stands) (subst (λ o. FitsStanding now.Waiting times o rest) (sym closes) (go (is_near rest) refl))
  where
    go : (near : Bool) → is_near rest ≡ near → FitsStanding now.Waiting times (ended_closing at.Waits rest) rest
    go true e = subst (λ b. FitsStanding now.Waiting times (if b then None else Some by.Behind) rest) (sym e) (record { whole = whole; short = refl; near = e; few = few })
    go false e = subst (λ b. FitsStanding now.Waiting times (if b then None else Some by.Behind) rest) (sym e) (record { whole = whole; short = refl; near = refl; few = few })
