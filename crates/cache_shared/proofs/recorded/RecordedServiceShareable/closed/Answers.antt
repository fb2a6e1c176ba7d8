use Rattle.std.proofs.Common.{refl}
use Rattle.cache_shared.proofs.Performing.{cause-shown, look-shown, unknown-shown}
use Rattle.cache_spaces.specs.Journals.{kept_by}
use Rattle.cache_spaces.specs.Spaces.{closing_of}
use Rattle.cache_shared.proofs.recorded.RecordedServiceShareable.closed.Goals as goal

pub returns : goal.returns
returns c = record {
  closing = look-shown kept_by (λ space. closing_of space c.args.conn.number) (λ space. closing_of space c.args.conn.number) c.args.conn.namespace c.args.conn.number c.args.self.now.spaces c.closed.result (λ x. refl) (rw c.service.ensures.core at c.closed.ensures.closing);
  refused = cause-shown kept_by _ _ c.args.conn.namespace c.args.self.now.spaces c.closed.result (unknown-shown kept_by c.args.conn.number) (rw c.service.ensures.core at c.closed.ensures.refused);
}
