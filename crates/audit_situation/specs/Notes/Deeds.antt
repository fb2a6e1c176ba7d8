-- What a step does to values.
use Rattle.std.specs.Prelude.{Option}
use Rattle.std.specs.Option.{option_map}
use Rattle.audit_model.specs.Commands.{Covering, Nothing, Everything, Prefixed, Deed}
use Rattle.audit_model.specs.History.{Value}
use Rattle.audit_situation.specs.declared.notes.deed.Covering.{Covering as Covered}
use Rattle.audit_situation.specs.declared.notes.deed.Covering.TheVariants as covered
use Rattle.audit_situation.specs.declared.notes.deed.Deed.{Deed as Done}

-- which keys are covered
abbrev pub covering_by : Covered → Covering
covering_by covered.Nothing = Nothing
covering_by covered.Everything = Everything
covering_by (covered.Prefixed prefix) = Prefixed prefix.now

-- the deed with the value that the step accepts
abbrev pub deed_with : Done → Option Value → Deed
deed_with done value =
    record {
      uses = option_map (λ k. k.now) done.uses;
      value = value;
      deletes = option_map (λ k. k.now) done.deletes;
      covers = covering_by done.covers;
      syncs = done.syncs;
    }
