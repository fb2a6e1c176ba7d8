-- How commands change the order of use.
use Rattle.std.proofs.Common.{zero, refl, sym, ap, ◌∙◌, subst, arith, Err, ◌≡◌, ℕ, suc, ◌≤◌, Bool, true, false, List, [], ◌∷◌, length, take, Option, Ok}
use Rattle.std.proofs.lemmas.List.{take_all}
use Rattle.std.specs.List.{list_any}
use Rattle.audit_model.specs.Bytewise.{same}
use Rattle.audit_model.specs.Grammar.{Reading}
use Rattle.audit_model.specs.History.{accepts_values}
use Rattle.audit_model.specs.declared.command.LineError.{LineError}
use Rattle.audit_model.specs.declared.config.Config.{Config}
use Rattle.cache_commands.specs.Order.{Order, Settled, Used, Unknown, AgreesWith, MovesOrder, settled, used_by}
use Rattle.audit_model.specs.Recency.{recency_after, keys_without}
use Rattle.audit_model.specs.declared.command.Command.{Command}
use Rattle.audit_model.specs.declared.command.Command.TheVariants as says
use Rattle.cache_commands.specs.Recency.{IsPlainLru, KeepsRecency, put_first, used_first}

abbrev Recency : Type 1
Recency = Bool → List (List ℕ) → Type 0

-- ---- how long lists are

pub without-shorter : (key : List ℕ) (keys : List (List ℕ)) → length (keys_without key keys) ≤ length keys
without-shorter key [] = omega arith
without-shorter key (k ∷ keys) = let next = without-shorter key keys in grind (arith, next)

pub without-one : (key : List ℕ) (keys : List (List ℕ)) → list_any (λ k. same k key) keys ≡ true → suc (length (keys_without key keys)) ≤ length keys
without-one key [] h = let e : false ≡ true = h in cc
without-one key (k ∷ keys) h =
    let shorter = without-shorter key keys in
    let next = without-one key keys in
    grind (arith, shorter, next)

pub used-shorter : (key : List ℕ) (keys : List (List ℕ)) → length (used_first key keys) ≤ length keys
used-shorter key keys = let one = without-one key keys in grind (arith, one)

take-short : (n : ℕ) (keys : List (List ℕ)) → length (take n keys) ≤ n
take-short zero keys = omega arith
take-short (suc n) [] = omega arith
take-short (suc n) (k ∷ keys) = let h = take-short n keys in omega arith

-- ---- what is known when a command ran

-- a line behind which nothing is known
pub moves-fault : (config : Config) (Old New : Recency) (fault : LineError) → MovesOrder config Old New (Err fault)
moves-fault config Old New fault = record { moves = λ n order plain agrees. tt }

pub moves-add : (config : Config) (Old New : Recency) (key : List ℕ) (ms : Option ℕ) (added : ℕ) → MovesOrder config Old New (Ok (says.Add key ms added))
moves-add config Old New key ms added = record { moves = λ n order plain agrees. tt }

pub moves-drop : (config : Config) (Old New : Recency) (prefix : List ℕ) → MovesOrder config Old New (Ok (says.DropIf prefix))
moves-drop config Old New prefix = record { moves = λ n order plain agrees. tt }

pub moves-quit : (config : Config) (Old New : Recency) → MovesOrder config Old New (Ok says.Quit)
moves-quit config Old New = record { moves = λ n order plain agrees. tt }

-- nothing is stored at capacity 0, which is none of these configurations
pub moves-off : (config : Config) (Old New : Recency) (reading : Reading) → accepts_values config.capacity ≡ false → MovesOrder config Old New reading
moves-off config Old New reading off = record { moves = λ n order plain agrees. absurd (let e : true ≡ false = sym (ap accepts_values plain.capacity) ∙ off in cc) }

-- a command that changes the list so
pub moves-used : (Old New : Recency) (number : ℕ) (command : Command) (change : List (List ℕ) → List (List ℕ)) (is_settled : Bool)
    → ((keys : List (List ℕ)) → Old true keys → New is_settled (change keys))
    → ((keys : List (List ℕ)) → length keys ≤ suc number → recency_after (suc number) keys command ≡ take (suc number) (change keys))
    → (order : Order) → AgreesWith Old number order → AgreesWith New number (used_by (suc number) command order)
moves-used Old New number command change is_settled moves cuts (Settled keys) agrees =
    record { settled = is_settled; all = change keys; recency = moves keys agrees.0; cut = cuts keys agrees.1 }
moves-used Old New number command change is_settled moves cuts (Used keys) agrees = tt
moves-used Old New number command change is_settled moves cuts Unknown agrees = tt

pub moves-set : (config : Config) (Old New : Recency) (key value : List ℕ) (ms : Option ℕ)
    → ((n : ℕ) (keys : List (List ℕ)) → IsPlainLru config n → Old true keys → New false (put_first key keys)) → MovesOrder config Old New (Ok (says.Set key ms value))
moves-set config Old New key value ms moves =
    record { moves = λ n order plain agrees. moves-used Old New n (says.Set key ms value) (put_first key) false (λ keys r. moves n keys plain r) (λ keys l. refl) order agrees }

pub moves-get : (config : Config) (Old New : Recency) (key : List ℕ)
    → ((n : ℕ) (keys : List (List ℕ)) → IsPlainLru config n → Old true keys → New false (used_first key keys)) → MovesOrder config Old New (Ok (says.Get key))
moves-get config Old New key moves = record {
  moves = λ n order plain agrees.
      moves-used Old New n (says.Get key) (used_first key) false (λ keys r. moves n keys plain r)
      (λ keys l. sym (take_all (suc n) (used_first key keys) (let h = used-shorter key keys in omega arith))) order agrees;
}

pub moves-del : (config : Config) (Old New : Recency) (key : List ℕ)
    → ((n : ℕ) (keys : List (List ℕ)) → IsPlainLru config n → Old true keys → New false (keys_without key keys)) → MovesOrder config Old New (Ok (says.Del key))
moves-del config Old New key moves = record {
  moves = λ n order plain agrees.
      moves-used Old New n (says.Del key) (keys_without key) false (λ keys r. moves n keys plain r)
      (λ keys l. sym (take_all (suc n) (keys_without key keys) (let h = without-shorter key keys in omega arith))) order agrees;
}

-- a command that asks
pub moves-has : (config : Config) (Old : Recency) (key : List ℕ) → MovesOrder config Old Old (Ok (says.Has key))
moves-has config Old key = record {
  moves = λ n order plain agrees.
      moves-used Old Old n (says.Has key) (λ keys. keys) true (λ keys r. r) (λ keys l. sym (take_all (suc n) keys l)) order agrees;
}

pub moves-keys : (config : Config) (Old : Recency) → MovesOrder config Old Old (Ok says.Keys)
moves-keys config Old = record {
  moves = λ n order plain agrees.
      moves-used Old Old n says.Keys (λ keys. keys) true (λ keys r. r) (λ keys l. sym (take_all (suc n) keys l)) order agrees;
}

-- a `SYNC`
pub moves-sync : (config : Config) (Old New : Recency)
    → ((n : ℕ) (is_settled : Bool) (keys : List (List ℕ)) → IsPlainLru config n → Old is_settled keys → New true (take (suc n) keys)) → MovesOrder config Old New (Ok says.Sync)
moves-sync config Old New moves = record { moves = λ n order plain agrees. go n plain order agrees }
  where
    go : (n : ℕ) → IsPlainLru config n → (order : Order) → AgreesWith Old n order → AgreesWith New n (settled order)
    go n plain (Settled keys) agrees = (subst (New true) (take_all (suc n) keys agrees.1) (moves n true keys plain agrees.0), agrees.1)
    go n plain (Used keys) agrees = (subst (New true) (sym agrees.cut) (moves n agrees.settled agrees.all plain agrees.recency), subst (λ ks. length ks ≤ suc n) (sym agrees.cut) (take-short (suc n) agrees.all))
    go n plain Unknown agrees = tt

-- what keeps the order of use agrees with what was known
pub agrees-kept : (Old New : Recency) (number : ℕ) (order : Order) → KeepsRecency Old New → AgreesWith Old number order → AgreesWith New number order
agrees-kept Old New number (Settled keys) keeps agrees = (keeps true keys agrees.0, agrees.1)
agrees-kept Old New number (Used keys) keeps agrees = record { settled = agrees.settled; all = agrees.all; recency = keeps agrees.settled agrees.all agrees.recency; cut = agrees.cut }
agrees-kept Old New number Unknown keeps agrees = tt
