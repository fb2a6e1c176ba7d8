-- Answers to commands that are replied to by one line, and to `stats`.
use Rattle.std.proofs.Common.{◌≡◌, ℕ, inl, inr, refl, sym, ap, subst, true, true≢false, List, [], take, length, Result, Ok, Err, IfOk, OnErr, arith}
use Rattle.std.proofs.lemmas.List.{take_all}
use Rattle.std.proofs.Math.ListN.{drop_of_length-le}
use Rattle.std.specs.Result.{result_unwrap_or}
use Rattle.memcache_model.specs.Answers.{answer}
use Rattle.memcache_model.specs.Commands.{Command}
use Rattle.memcache_model.specs.Commands as model
use Rattle.memcache_model.specs.Statistics.{stats_text}
use Rattle.memcache_service.proofs.Keeping.{short_ends, stands}
use Rattle.memcache_service.specs.Lines.{reply_text, said_from}
use Rattle.memcache_service.specs.Shelves.{Shelved, UsesOne}
use Rattle.memcache_service.specs.Stocks.{AnswersCommand, Did, LeavesRefused, LeavesStock, Spares, facts_of, is_short, keys_read, may_want, service_of, stock_at}
use Rattle.memcache_service.specs.declared.replies.Reply.{Reply}
use Rattle.memcache_service.specs.declared.replies.Reply.TheVariants.{Written, Stored, NotStored, Exists, NotFound, Deleted, Touched, Done, Reset, Version, NoOp, TooLarge, NoNumber, Number, Fault, NoMemory, NoRoom, NoStatistics}
use Rattle.memcache_service.specs.declared.shelf.Shelf.{Ghosts}
use Rattle.memcache_service.specs.declared.stock.Stock.{Stock}

-- nothing was written, so the reply is a line, or none
said_shortly : (before : List ℕ) (reply : Reply) → said_from (length before) before reply ≡ reply_text reply
said_shortly before Written = drop_of_length-le before (omega arith)
said_shortly before Stored = refl
said_shortly before NotStored = refl
said_shortly before Exists = refl
said_shortly before NotFound = refl
said_shortly before Deleted = refl
said_shortly before Touched = refl
said_shortly before Done = refl
said_shortly before Reset = refl
said_shortly before Version = refl
said_shortly before NoOp = refl
said_shortly before TooLarge = refl
said_shortly before NoNumber = refl
said_shortly before (Number n) = refl
said_shortly before (Fault error) = refl
said_shortly before NoMemory = refl
said_shortly before NoRoom = refl
said_shortly before NoStatistics = refl

reads_none : (command : Command) → is_short command ≡ true → keys_read command ≡ []
reads_none (model.get uniques keys) e = absurd (true≢false (sym e))
reads_none (model.gat uniques exptime keys) e = refl
reads_none (model.store storage key flags exptime block) e = refl
reads_none (model.oversize storage key) e = refl
reads_none (model.delete key) e = refl
reads_none (model.arithmetic direction key delta) e = refl
reads_none (model.touch key exptime) e = refl
reads_none (model.flush_all exptime) e = refl
reads_none (model.stats words) e = refl
reads_none model.version e = refl
reads_none model.verbosity e = refl
reads_none model.quit e = refl
reads_none model.meta_no_op e = refl
reads_none (model.meta kind key flags) e = refl
reads_none (model.meta_set key flags block) e = refl
reads_none (model.meta_oversize key flags) e = refl
reads_none (model.malformed error) e = refl

refused_shortly : {T : Type 0} (view : T → Shelved) (moment : ℕ) (command : Command) (old new : Stock T) → is_short command ≡ true → stock_at view moment new ≡ stock_at view moment old
    → LeavesRefused view moment command (stock_at view moment old) old new
refused_shortly view moment (model.gat uniques exptime keys) old new e same = absurd (true≢false (sym e))
refused_shortly view moment (model.get uniques keys) old new e same = same
refused_shortly view moment (model.store storage key flags exptime block) old new e same = same
refused_shortly view moment (model.oversize storage key) old new e same = same
refused_shortly view moment (model.delete key) old new e same = same
refused_shortly view moment (model.arithmetic direction key delta) old new e same = same
refused_shortly view moment (model.touch key exptime) old new e same = same
refused_shortly view moment (model.flush_all exptime) old new e same = same
refused_shortly view moment (model.stats words) old new e same = same
refused_shortly view moment model.version old new e same = same
refused_shortly view moment model.verbosity old new e same = same
refused_shortly view moment model.quit old new e same = same
refused_shortly view moment model.meta_no_op old new e same = same
refused_shortly view moment (model.meta kind key flags) old new e same = same
refused_shortly view moment (model.meta_set key flags block) old new e same = same
refused_shortly view moment (model.meta_oversize key flags) old new e same = same
refused_shortly view moment (model.malformed error) old new e same = same

-- a command that is replied to by one line
pub short_answers : {T E : Type 0} (shelf : Ghosts T) (moment : ℕ) (command : Command) (old new : Stock T) (before : List ℕ) (r : Result Reply E) (reply : Reply) → is_short command ≡ true → reply ≡ result_unwrap_or r NoMemory
    → IfOk r (λ reply. is_short command ≡ true → Did shelf.view moment (answer (service_of old.most (reply_text reply)) moment command (stock_at shelf.view moment old)) old new (reply_text reply))
    → OnErr r (Spares old new) → (is_short command ≡ true → OnErr r (may_want command ≡ true)) → AnswersCommand shelf moment command old new before before reply
short_answers {T} shelf moment command old new before (Ok x) reply short is does refused wants = rw is (record {
  begun = take_all (length before) before (omega arith);
  does = inl (
    subst (λ (text : List ℕ). Did shelf.view moment (answer (service_of old.most text) moment command (stock_at shelf.view moment old)) old new text) (sym (said_shortly before x)) (does short),
    subst (λ (keys : List (List ℕ)). UsesOne shelf.uses moment keys old.shelf new.shelf) (sym (reads_none command short)) tt,
  );
  tells = short_ends command (facts_of moment old) old.counters (said_from (length before) before x) short;
})
short_answers {T} shelf moment command old new before (Err e) reply short is does refused wants = rw is (record {
  begun = take_all (length before) before (omega arith);
  does = inr (record {
    says = inl refl;
    wants = wants short;
    keeps = refused_shortly shelf.view moment command old new short (stands shelf.view moment new old (ap shelf.view refused.shelf) refused.uniques refused.flush);
    capacity = ap (λ (s : T). (shelf.view s).capacity) refused.shelf;
  });
  tells = short_ends command (facts_of moment old) old.counters (reply_text NoMemory) short;
})

-- a `stats`
pub stats_answers : {T E : Type 0} (shelf : Ghosts T) (moment : ℕ) (words : List (List ℕ)) (old new : Stock T) (before after : List ℕ) (r : Result Reply E) (reply : Reply) → reply ≡ result_unwrap_or r NoStatistics
    → LeavesStock shelf.view moment old new
    → IfOk r (λ reply. (items bytes : ℕ) × (said_from (length before) after reply ≡ stats_text words (facts_of moment old items bytes) old.counters))
    → take (length before) after ≡ before → AnswersCommand shelf moment (model.stats words) old new before after reply
stats_answers shelf moment words old new before after (Ok x) reply is keeps tells begun = rw is (record {
  begun = begun;
  does = inl (record { said = refl; leaves = keeps }, tt);
  tells = inr tells;
})
stats_answers shelf moment words old new before after (Err e) reply is keeps tells begun = rw is (record {
  begun = begun;
  does = inl (record { said = refl; leaves = keeps }, tt);
  tells = inl refl;
})
