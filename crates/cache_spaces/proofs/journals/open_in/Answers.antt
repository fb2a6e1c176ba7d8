use Rattle.std.proofs.Common.{inl, inr, refl}
use Rattle.audit_model.specs.declared.input.Input.TheVariants as input
use Rattle.audit_model.specs.declared.input.ServiceError.TheVariants as error
use Rattle.cache_core.proofs.connections.Getting.{found-at}
use Rattle.cache_spaces.proofs.Reaching.{refused-input}
use Rattle.cache_spaces.proofs.journals.open_in.Goals as goal

pub returns-then-is_err-clause-refused : goal.returns-then-is_err-clause-refused
returns-then-is_err-clause-refused c =
    let x = found-at c.args.core.now c.args.namespace c.requires in
    rw c.new.ensures (inr (record { space = x.0; at = x.1; fact = refused-input (input.Open c.args.namespace) error.OutOfMemory x.0 (inl refl) }))
