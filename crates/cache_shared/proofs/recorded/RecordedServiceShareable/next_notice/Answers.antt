use Rattle.std.proofs.lemmas.Result.{IfOk-weaker}
use Rattle.cache_shared.proofs.Moving.{kept-note}
use Rattle.cache_shared.proofs.Performing.{cause-shown, keeps-standing}
use Rattle.cache_spaces.specs.Journals.{kept_by}
use Rattle.cache_spaces.specs.Recorded.{TakesNote}
use Rattle.cache_shared.proofs.recorded.RecordedServiceShareable.next_notice.Goals as goal

pub returns : goal.returns
returns c = record {
  note = kept-note c.args.self.now c.take_note.new.recorded c.args.namespace c.take_note.result c.take_note.ensures.taken c.take_note.ensures.there;
  refused = cause-shown kept_by _ _ c.args.namespace c.args.self.now.spaces c.take_note.result (λ e x full. full) c.take_note.ensures.refused;
  unchanged = c.take_note.ensures.unchanged;
  standing = keeps-standing c.take_note.result c.args.self.now c.take_note.new.recorded (IfOk-weaker c.take_note.result (TakesNote c.args.self.now c.take_note.new.recorded c.args.namespace) _ (λ note t. t.spaces) c.take_note.ensures.taken) c.take_note.ensures.unchanged;
}
