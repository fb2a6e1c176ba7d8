use Rattle.std.proofs.lemmas.Result.{IfOk-weaker}
use Rattle.cache_shared.proofs.Moving.{kept-replies}
use Rattle.cache_shared.proofs.Performing.{cause-shown, copy-shown, keeps-standing}
use Rattle.cache_spaces.specs.Journals.{kept_by}
use Rattle.cache_spaces.specs.Recorded.{TakesReplies}
use Rattle.cache_shared.proofs.recorded.RecordedServiceShareable.take_output.Goals as goal

pub returns : goal.returns
returns c = record {
  taken = kept-replies c.args.self.now c.take_text.new.recorded c.args.conn c.take_text.result c.take_text.ensures.taken;
  refused = cause-shown kept_by _ _ c.args.conn.namespace c.args.self.now.spaces c.take_text.result (copy-shown kept_by c.args.conn.number) c.take_text.ensures.refused;
  unchanged = c.take_text.ensures.unchanged;
  standing = keeps-standing c.take_text.result c.args.self.now c.take_text.new.recorded
      (IfOk-weaker c.take_text.result (λ text. TakesReplies c.args.self.now c.take_text.new.recorded c.args.conn text.items) _ (λ text t. t.spaces) c.take_text.ensures.taken) c.take_text.ensures.unchanged;
}
