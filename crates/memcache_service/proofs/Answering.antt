-- Requests by the answers to their commands.
use Rattle.std.proofs.Common.{◌≡◌, ℕ, ◌-◌, ◌⊎◌, ⊎_elim, inl, inr, ◌∙◌, sym, ap, subst, List, [], ◌++◌, length, take, None, false}
use Rattle.std.specs.Prelude.{if◌then◌else◌}
use Rattle.memcache_model.specs.Answers.{answer}
use Rattle.memcache_model.specs.Commands as model
use Rattle.memcache_model.specs.Items.{Stock as Stocked, moment_has_come}
use Rattle.memcache_model.specs.Outcomes.{Outcome}
use Rattle.memcache_model.specs.declared.counters.Counters.{Counters}
use Rattle.memcache_service.proofs.Keeping.{stands}
use Rattle.memcache_service.specs.Lines.{said_from}
use Rattle.memcache_service.specs.Shelves.{MayComeAt, Shelved, UsesOne, live_on}
use Rattle.memcache_service.specs.Stocks.{AnswersCommand, CountsIfRoom, CountsStored, TellsStatistics, facts_of, Did, LeavesAll, LeavesRefused, IsOutOfMemory, UsesOfStock, WritesReply, keys_read, service_of, stock_at}
use Rattle.memcache_service.specs.declared.replies.Reply.{Reply}
use Rattle.memcache_service.specs.declared.shelf.Shelf.{Ghosts}
use Rattle.memcache_service.specs.declared.stock.Stock.{Stock}

-- the same stock but for the key, the counters and a shelf that shows the same
moved : {T : Type 0} (view : T → Shelved) (moment : ℕ) (all : Stocked) (mid new old final : Stock T) → LeavesAll view moment all mid new → (view mid.shelf).capacity ≡ (view old.shelf).capacity
    → view final.shelf ≡ view new.shelf → final.uniques ≡ new.uniques → final.flush ≡ new.flush → final.most ≡ old.most → LeavesAll view moment all old final
moved view moment all mid new old final left room same uniques flush most = record {
  items = subst (λ (v : Shelved). (key : List ℕ) → (live_on v moment key ≡ all.items key) ⊎ (live_on v moment key ≡ None)) (sym same) left.items;
  uniques = uniques ∙ left.uniques;
  flush = flush ∙ left.flush;
  may_follow = subst (λ (v : Shelved). MayComeAt v moment) (sym same) left.may_follow;
  most = most;
  capacity = ap (λ (v : Shelved). v.capacity) same ∙ left.capacity ∙ room;
}

moved_refused : {T : Type 0} (view : T → Shelved) (moment : ℕ) (command : model.Command) (all : Stocked) (mid new old final : Stock T) → LeavesRefused view moment command all mid new
    → (view mid.shelf).capacity ≡ (view old.shelf).capacity → view final.shelf ≡ view new.shelf → final.uniques ≡ new.uniques → final.flush ≡ new.flush → final.most ≡ old.most
    → LeavesRefused view moment command all old final
moved_refused view moment (model.gat told exptime keys) all mid new old final left room same uniques flush most = (left.0, moved view moment _ mid new old final left.1 room same uniques flush most)
moved_refused view moment command all mid new old final left room same uniques flush most = stands view moment final new same uniques flush ∙ left

-- a request, by the answer to its command behind a flush that was due
pub served : {T : Type 0} (shelf : Ghosts T) (moment : ℕ) (request : model.Request) (all : Stocked) (old mid new final : Stock T) (before after written : List ℕ) (reply : Reply) → mid ≡ record old { shelf = mid.shelf; flush = mid.flush }
    → (shelf.view mid.shelf).capacity ≡ (shelf.view old.shelf).capacity → (moment_has_come moment old.flush ≡ false → mid.shelf ≡ old.shelf) → stock_at shelf.view moment mid ≡ all
    → AnswersCommand shelf moment request.command mid new before after reply
    → CountsIfRoom request.command (stock_at shelf.view moment mid).items (said_from (length before) after reply) mid.counters new.counters → CountsStored (final.uniques - old.uniques) new.counters final.counters → shelf.counts new.shelf final.shelf → shelf.view final.shelf ≡ shelf.view new.shelf → final.uniques ≡ new.uniques → final.flush ≡ new.flush → final.most ≡ old.most
    → written ≡ take (length before) after ++ (if request.quiet then [] else said_from (length before) after reply) → WritesReply shelf moment all request old final before written
served {T} shelf moment request all old mid new final before after written reply alike room begins is answered counted stored counts same uniques flush most wrote = record {
  text = text;
  written = wrote ∙ ap (λ begun. begun ++ (if request.quiet then [] else text)) answered.begun;
  does = ⊎_elim (λ d. inl (done d.0, used d.1)) (λ r. inr (refused r)) answered.does;
  tells = subst (λ (s : Stock T). TellsStatistics request.command (facts_of moment s) s.counters text) alike answered.tells;
  counted = (
    new.counters,
    subst (λ (s : Stocked). CountsIfRoom request.command s.items text old.counters new.counters) is (subst (λ (c : Counters). CountsIfRoom request.command (stock_at shelf.view moment mid).items text c new.counters) (ap (λ (s : Stock T). s.counters) alike) counted),
    stored,
  );
}
  where
    kept : mid.most ≡ old.most
    kept = ap (λ (s : Stock T). s.most) alike

    text : List ℕ
    text = said_from (length before) after reply

    outcome : ℕ → Stocked → Outcome
    outcome m s = answer (service_of m text) moment request.command s

    used : UsesOne shelf.uses moment (keys_read request.command) mid.shelf new.shelf → UsesOfStock shelf moment (keys_read request.command) old final
    used u = record { first = mid.shelf; last = new.shelf; begins = begins; uses = u; counts = counts }

    done : Did shelf.view moment (outcome mid.most (stock_at shelf.view moment mid)) mid new text → Did shelf.view moment (outcome old.most all) old final text
    done d = record {
      said = d.said ∙ ap (λ (s : Stocked). (outcome mid.most s).reply) is ∙ ap (λ m. (outcome m all).reply) kept;
      leaves = moved shelf.view moment _ mid new old final (subst (λ m. LeavesAll shelf.view moment (outcome m all).stock mid new) kept (subst (λ (s : Stocked). LeavesAll shelf.view moment (outcome mid.most s).stock mid new) is d.leaves)) room same uniques flush most;
    }

    refused : IsOutOfMemory shelf.view moment request.command (stock_at shelf.view moment mid) mid new text → IsOutOfMemory shelf.view moment request.command all old final text
    refused r = record {
      says = r.says;
      wants = r.wants;
      keeps = moved_refused shelf.view moment request.command all mid new old final (subst (λ (s : Stocked). LeavesRefused shelf.view moment request.command s mid new) is r.keeps) room same uniques flush most;
      capacity = ap (λ (v : Shelved). v.capacity) same ∙ r.capacity ∙ room;
    }
