use Rattle.audit_model.specs.declared.input.Input.TheVariants as input
use Rattle.cache_shared.proofs.Moving.{kept-input}
use Rattle.cache_shared.proofs.Performing.{cause-shown, counts}
use Rattle.cache_spaces.proofs.Reaching.{refused-shown}
use Rattle.cache_spaces.specs.Journals.{kept_by}
use Rattle.cache_shared.proofs.recorded.RecordedServiceShareable.step_feed.Goals as goal

pub returns-clause-taken : goal.returns-clause-taken
returns-clause-taken c = kept-input (input.Feed c.args.conn c.args.piece.now c.args.moment) c.step_feed.result c.args.self.now c.step_feed.new.self c.step_feed.ensures.performed c.step_feed.ensures.gained

pub returns-clause-one : goal.returns-clause-one
returns-clause-one c = λ keeps. counts (input.Feed c.args.conn c.args.piece.now c.args.moment) c.step_feed.result c.args.self.now c.step_feed.new.self c.step_feed.ensures.performed c.step_feed.ensures.gained

pub returns-clause-refused : goal.returns-clause-refused
returns-clause-refused c = cause-shown kept_by _ _ c.args.conn.namespace c.args.self.now.spaces c.step_feed.result (λ e x r. refused-shown kept_by (input.Feed c.args.conn c.args.piece.now c.args.moment) e x r) c.step_feed.ensures.refused
