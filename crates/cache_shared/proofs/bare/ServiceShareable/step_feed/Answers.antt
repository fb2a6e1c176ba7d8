use Rattle.audit_model.specs.declared.input.Input.TheVariants as input
use Rattle.cache_shared.proofs.Moving.{bare-input}
use Rattle.cache_shared.proofs.Performing.{cause-shown}
use Rattle.cache_spaces.proofs.Reaching.{refused-shown}
use Rattle.cache_spaces.specs.Services.{bare_tape}
use Rattle.cache_shared.proofs.bare.ServiceShareable.step_feed.Goals as goal

pub returns-clause-taken : goal.returns-clause-taken
returns-clause-taken c = bare-input (input.Feed c.args.conn c.args.piece.now c.args.moment) c.step_feed.result c.args.self.now c.step_feed.new.self c.step_feed.ensures.performed

pub returns-clause-refused : goal.returns-clause-refused
returns-clause-refused c = cause-shown bare_tape _ _ c.args.conn.namespace c.args.self.now c.step_feed.result (λ e x r. refused-shown bare_tape (input.Feed c.args.conn c.args.piece.now c.args.moment) e x r) c.step_feed.ensures.refused
