-- What a call leaves that did what it was to do, or was refused.
use Rattle.std.proofs.Common.{◌≡◌, ℕ, ⊎_elim, inl, inr, ◌∙◌, refl, sym, subst, ap, true, true≢false, List, Some, Result, Ok, Err, IfOk, OnOk, OnErr}
use Rattle.std.proofs.lemmas.Bool.{cases_Bool}
use Rattle.std.proofs.lemmas.Slice.Eq.{bytes_eq-Decides}
use Rattle.std.specs.Result.{result_unwrap_or}
use Rattle.std.specs.Str.{bytes_eq}
use Rattle.memcache_model.specs.Commands.{Command}
use Rattle.memcache_model.specs.Commands as model
use Rattle.memcache_model.specs.Items.{Item, Items, with_item}
use Rattle.memcache_model.specs.Outcomes.{Outcome}
use Rattle.memcache_model.specs.Statistics.{Facts, counted_by}
use Rattle.memcache_model.specs.declared.counters.Counters.{Counters}
use Rattle.memcache_service.specs.Lines.{said_from}
use Rattle.memcache_service.specs.declared.replies.Reply.{Reply}
use Rattle.memcache_service.specs.declared.replies.Reply.TheVariants.{NoMemory}
use Rattle.memcache_service.specs.Shelves.{MayComeAt, Shelved, live_on}
use Rattle.memcache_service.specs.Stocks.{CountsIfRoom, Did, TellsStatistics, LeavesStock, LeavesAll, Spares, is_short, stock_at}
use Rattle.memcache_service.specs.declared.stock.Stock.{Stock}

-- a call may follow at the moment of one that did what it was to do, or was refused
pub may_follow : {T X E : Type 0} (view : T → Shelved) (moment : ℕ) (outcome : Outcome) (text : X → List ℕ) (old new : Stock T) (r : Result X E) → IfOk r (λ x. Did view moment outcome old new (text x))
    → OnErr r (Spares old new) → MayComeAt (view old.shelf) moment → MayComeAt (view new.shelf) moment
may_follow view moment outcome text old new (Ok x) done refused before = done.leaves.may_follow
may_follow view moment outcome text old new (Err e) done refused before = subst (λ s. MayComeAt (view s) moment) (sym refused.shelf) before

-- and takes as large blocks as before
pub most_kept : {T X E : Type 0} (view : T → Shelved) (moment : ℕ) (outcome : Outcome) (text : X → List ℕ) (old new : Stock T) (r : Result X E) → IfOk r (λ x. Did view moment outcome old new (text x)) → OnErr r (Spares old new) → new.most ≡ old.most
most_kept view moment outcome text old new (Ok x) done refused = done.leaves.most
most_kept view moment outcome text old new (Err e) done refused = refused.most

-- the live item of a key is given it again: nothing changes
pub same_item : {T : Type 0} (view : T → Shelved) (moment : ℕ) (key : List ℕ) (item : Item) (old new : Stock T) → live_on (view old.shelf) moment key ≡ Some item → LeavesStock view moment old new
    → LeavesAll view moment (record (stock_at view moment old) { items = with_item key (Some item) (live_on (view old.shelf) moment) }) old new
same_item view moment key item old new is kept = record {
  items = λ k. ⊎_elim (λ e. inl (e ∙ put k)) (λ none. inr none) (kept.items k);
  uniques = kept.uniques;
  flush = kept.flush;
  may_follow = kept.may_follow;
  most = kept.most;
  capacity = kept.capacity;
}
  where
    put : (k : List ℕ) → live_on (view old.shelf) moment k ≡ with_item key (Some item) (live_on (view old.shelf) moment) k
    put k = ⊎_elim
        (λ e. rw e (ap (live_on (view old.shelf) moment) ((bytes_eq-Decides k key).0 e) ∙ is))
        (λ e. rw e refl)
        (cases_Bool (bytes_eq k key))

-- a short command tells no statistics
pub short_ends : (command : Command) (facts : (items bytes : ℕ) → Facts) (counts : Counters) (text : List ℕ) → is_short command ≡ true → TellsStatistics command facts counts text
short_ends (model.get uniques keys) facts counts text e = absurd (true≢false (sym e))
short_ends (model.gat uniques exptime keys) facts counts text e = absurd (true≢false (sym e))
short_ends (model.store storage key flags exptime block) facts counts text e = tt
short_ends (model.oversize storage key) facts counts text e = tt
short_ends (model.delete key) facts counts text e = tt
short_ends (model.arithmetic direction key delta) facts counts text e = tt
short_ends (model.touch key exptime) facts counts text e = tt
short_ends (model.flush_all exptime) facts counts text e = tt
short_ends (model.stats words) facts counts text e = absurd (true≢false (sym e))
short_ends model.version facts counts text e = tt
short_ends model.verbosity facts counts text e = tt
short_ends model.quit facts counts text e = tt
short_ends model.meta_no_op facts counts text e = tt
short_ends (model.meta kind key flags) facts counts text e = absurd (true≢false (sym e))
short_ends (model.meta_set key flags block) facts counts text e = absurd (true≢false (sym e))
short_ends (model.meta_oversize key flags) facts counts text e = tt
short_ends (model.malformed error) facts counts text e = tt

-- and is counted, unless it is refused
pub short_counts : {T E : Type 0} (command : Command) (items : Items) (old new : Stock T) (start : ℕ) (written : List ℕ) (r : Result Reply E) (reply : Reply) → is_short command ≡ true → reply ≡ result_unwrap_or r NoMemory
    → OnOk r (is_short command ≡ true → new.counters ≡ counted_by command items old.counters) → OnErr r (Spares old new) → CountsIfRoom command items (said_from start written reply) old.counters new.counters
short_counts command items old new start written (Ok x) reply short is counts refused = inl (counts short)
short_counts command items old new start written (Err e) reply short is counts refused = rw is (inr (inl (inl refl), refused.counters))

-- what it stands for, by its parts
pub stands : {T : Type 0} (view : T → Shelved) (moment : ℕ) (a b : Stock T) → view a.shelf ≡ view b.shelf → a.uniques ≡ b.uniques → a.flush ≡ b.flush → stock_at view moment a ≡ stock_at view moment b
stands view moment a b shelf uniques flush = cc
