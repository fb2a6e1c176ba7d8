use Rattle.std.proofs.Common.{refl}
use Rattle.cache_shared.proofs.Performing.{cause-shown, look-shown, unknown-shown}
use Rattle.cache_spaces.specs.Journals.{kept_by}
use Rattle.cache_spaces.specs.Spaces.{is_waiting_for}
use Rattle.cache_shared.proofs.recorded.RecordedServiceShareable.waiting.Goals as goal

pub returns : goal.returns
returns c = record {
  waits = look-shown kept_by (λ space. is_waiting_for space c.args.conn.number) (λ space. is_waiting_for space c.args.conn.number) c.args.conn.namespace c.args.conn.number c.args.self.now.spaces c.waiting.result (λ x. refl) (rw c.service.ensures.core at c.waiting.ensures.waits);
  refused = cause-shown kept_by _ _ c.args.conn.namespace c.args.self.now.spaces c.waiting.result (unknown-shown kept_by c.args.conn.number) (rw c.service.ensures.core at c.waiting.ensures.refused);
}
