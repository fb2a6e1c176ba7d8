-- What is done about a pending write of a record that is there.
use Rattle.std.specs.Prelude.{nat_lt, if◌then◌else◌, is_some}
use Rattle.engine_reference.specs.declared.data.Record.{Record}
use Rattle.engine_reference.specs.declared.data.Upsert.{Upsert}
use Rattle.engine_reference.specs.Admission.{Verdict, admit, displace, refuse, verdict}
use Rattle.engine_reference.specs.Runs.{is_overtaken}
use Rattle.engine_reference.specs.State.{State}
use Rattle.engine_runs.specs.declared.deciding.Decision.{Decision}
use Rattle.engine_runs.specs.declared.deciding.Decision.TheVariants as decide

module _ {K V : Type 0} where
  -- the result of a verdict, if this is what is done about a refused record
  abbrev pub decided : Decision → Verdict K V → Decision
  decided otherwise admit = decide.Count
  decided otherwise (displace victims) = decide.Displace
  decided otherwise refuse = otherwise

  abbrev pub refused_as : Upsert → Record K V → Decision
  refused_as u r = if is_overtaken u r then decide.PutOff else decide.Refuse

module _ {K V P S R : Type 0} where
  abbrev pub decision : State K V P S R → Upsert → Record K V → Decision
  decision s u r =
      if nat_lt r.applied u.write
      then (if is_some r.counts then decide.Count else decided (refused_as u r) (verdict s u))
      else decide.Skip
