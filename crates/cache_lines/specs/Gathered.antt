-- Where lines run, and where their replies, steps and notes go.
use Rattle.std.specs.Prelude.{◌≡◌, ℕ, List, [], ◌++◌, Option, Some, None, MatchOption, unwrap_or}
use Rattle.std.specs.List.{flat_map}
use Rattle.std.specs.Option.{option_map}
use Rattle.audit_model.specs.declared.transcript.Note.{Note}
use Rattle.audit_model.specs.declared.transcript.Step.{Step}
use Rattle.cache_commands.specs.Values.{Values}
use Rattle.cache_lines.specs.Tape.Taped.{Taped}

-- what a line changes: the values, the replies written and not taken, and the tape
pub record LineStage : Type 1 where
  pub values : Values
  pub text : List ℕ
  pub tape : Option Taped

abbrev pub stage : Values → List ℕ → Option Taped → LineStage
stage values text tape = record { values = values; text = text; tape = tape }

-- a tape's records and steps, whatever room it has
abbrev pub written_in : Taped → Taped
written_in t =
    record { journal = t.journal; begun = t.begun; steps = t.steps; spare = 0; drafted = None }

-- the replies written and not taken, what the tape keeps, if anything, and the notes reported and not taken
pub record Gathered : Type 0 where
  pub text : List ℕ
  pub kept : Option Taped
  pub waiting : List Note

abbrev pub gathered : LineStage → Gathered
gathered g = record { text = g.text; kept = option_map written_in g.tape; waiting = g.values.untaken }

abbrev pub reply_in : Step → List ℕ
reply_in step = unwrap_or step.reply []

-- these steps come after those of the record under way
abbrev pub adds : List Step → Taped → Taped
adds steps t =
    record {
      journal = t.journal;
      begun = t.begun;
      steps = t.steps ++ steps;
      spare = t.spare;
      drafted = t.drafted;
    }

-- what is gathered after these steps have run: if a record is made, they contain their own replies and notes
abbrev pub gather : Gathered → List Step → Gathered
gather g steps = go g.kept
  where
    go : Option Taped → Gathered
    go None = record {
      text = g.text ++ flat_map reply_in steps;
      kept = None;
      waiting = g.waiting ++ flat_map (λ step. step.notices) steps;
    }
    go (Some t) = record { text = g.text; kept = Some (adds steps t); waiting = g.waiting }

-- if a record is made, nothing waits outside it
abbrev pub HasNothingOutside : Gathered → Type 0
HasNothingOutside g = MatchOption g.kept (Unit {0}) (λ t. (g.text ≡ []) × (g.waiting ≡ []))

-- how many lines can be added to the record without allocating, if one is made
abbrev pub spare_in : Option Taped → Option ℕ
spare_in tape = option_map (λ t. t.spare) tape
