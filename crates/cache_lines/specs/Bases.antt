-- What a connection's lines run over, as contracts see it.
use Rattle.std.specs.Prelude.{◌≡◌, ℕ, Option}
use Rattle.cache_commands.specs.Loads.Pending.{SameLoads}
use Rattle.cache_commands.specs.Values.{IsMoment, Values}
use Rattle.cache_lines.specs.Tape.Taped.{HasSpare, Taped}
use Rattle.cache_lines.specs.Gathered.{HasNothingOutside, LineStage, gathered, stage}
use Rattle.cache_lines.specs.Waiting.{UnderWay, under_way}
use Rattle.cache_lines.specs.declared.base.Base.{Base}
use Rattle.cache_lines.specs.declared.output.ReplyBuffer.{ReplyBuffer}

-- what lines change, and the loads under way
pub record Seen : Type 1 where
  pub stage : LineStage
  pub loads : UnderWay

-- in terms of what the store and the tape show
abbrev pub seen_on : {S T : Type 0} → (S → Values) → (T → Option Taped) → Base S T → ReplyBuffer → Seen
seen_on view tape base output =
    record {
      stage = stage (view base.store) output.text.items (tape base.tape);
      loads = under_way base.loads;
    }

-- if a record is made, nothing waits outside it
abbrev pub IsClear : Seen → Type 0
IsClear x = HasNothingOutside (gathered x.stage)

-- the moment is valid, nothing waits outside a record, and there is room to hold a line back
pub record CanRun (now : ℕ) (x : Seen) : Type 0 where
  pub in_time : IsMoment x.stage.values now
  pub clear : IsClear x
  pub spare : HasSpare x.stage.tape

-- the store, what is gathered, and the loads are the same
pub record LooksSame {S T : Type 0} (view : S → Values) (tape : T → Option Taped)
    (old new : Base S T) (output after : ReplyBuffer) : Type 0 where
  pub store_is : new.store ≡ old.store
  pub gathered_is : gathered (seen_on view tape new after).stage
      ≡ gathered (seen_on view tape old output).stage
  pub loads_are : SameLoads old.loads new.loads
