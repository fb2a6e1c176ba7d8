-- What one hold of the lock does is one of what it may do.
use Rattle.std.proofs.Common.{◌≡◌, ◌∷◌, ◌++◌, ℕ, Bool, List, [], Option, inl, inr, refl, subst}
use Rattle.std.specs.Option.{option_to_list}
use Rattle.std.specs.Prelude.{Result, Vec}
use Rattle.std.specs.declared.alloc.Global.{Global}
use Rattle.audit_laws.specs.declared.receipts.output.Output.{Output}
use Rattle.audit_model.specs.declared.input.Conn.{Conn}
use Rattle.audit_model.specs.declared.input.Input.{Input}
use Rattle.audit_model.specs.declared.input.LoadId.{LoadId}
use Rattle.audit_model.specs.declared.transcript.Note.{Note}
use Rattle.cache_core.specs.declared.owing.Owed.{Owed}
use Rattle.cache_history.proofs.Moves.{all_more, next_of}
use Rattle.cache_history.specs.Histories.{AreAllOf, AreAmong, IsLatest, IsNext}
use Rattle.cache_history.specs.declared.known.Own.{Own}
use Rattle.cache_shared.specs.Histories.{IsHold, Starts}
use Rattle.cache_shared.specs.Looked.{MovesNotes}
use Rattle.cache_shared.specs.Taken.{MovesAll, MovesLoads, MovesNote, MovesOldest, MovesReplies, TakesInput, TakesInputWhole}
use Rattle.cache_shared.specs.declared.turning.Turn.{Turn}
use Rattle.cache_spaces.specs.Spaces.{Shown}

module _ {C : Type 0} (spaces : C → List Shown) (untaken : C → Conn → List ℕ) (untold : C → ℕ → List Note) (values : List C) (old new : C) (latest : IsLatest old values) where
  abbrev Next : Type 0
  Next = IsNext (Starts spaces) (IsHold spaces untaken untold) values new

  abbrev next : IsHold spaces untaken untold old new → Next
  next = next_of (Starts spaces) (IsHold spaces untaken untold) values old new latest

  pub took : (i : Input) (output : Output) → TakesInput spaces untaken untold i output old new
      → Next
  took i output takes = next (inl (i, output, takes))

  pub turned : (conn : Conn) (i : Input) (wants_loads : Bool) (turn : Turn)
      (behind behind' : List Note)
      → TakesInputWhole spaces untaken untold old new conn i wants_loads turn behind behind' → Next
  turned conn i wants_loads turn behind behind' takes =
      next (inr (inl (conn, i, wants_loads, turn, behind, behind', takes)))

  pub gave : (conn : Conn) (wants_loads : Bool) (owed : Owed) (behind behind' : List Note)
      → MovesAll spaces untaken untold old new conn wants_loads owed behind behind' → Next
  gave conn wants_loads owed behind behind' moves =
      next (inr (inr (inl (conn, wants_loads, owed, behind, behind', moves))))

  pub replied : (conn : Conn) (text : List ℕ)
      → MovesReplies spaces untaken untold old new conn text → Next
  replied conn text moves = next (inr (inr (inr (inl (conn, text, moves)))))

  pub loaded : (namespace : ℕ) (loads : List (LoadId × List ℕ))
      → MovesLoads spaces untaken untold old new namespace loads → Next
  loaded namespace loads moves = next (inr (inr (inr (inr (inl (namespace, loads, moves))))))

  pub noted : {A E : Type 0} (namespace : ℕ) (result : Result A E) (behind behind' : Vec Note Global)
      → MovesOldest spaces untaken untold old new namespace result behind behind' → Next
  noted namespace result behind behind' moves =
      next (inr (inr (inr (inr (inr (namespace, behind.items, behind'.items, moves.notes, moves.rest))))))

  pub told : (namespace : ℕ) (note : Option Note)
      → MovesNote spaces untaken untold old new namespace note → Next
  told namespace note moves =
      let moved : MovesNotes [] (option_to_list note) (untold old namespace) (untold new namespace) = record { moved = option_to_list note; gained = refl; left = moves.first } in
      next (inr (inr (inr (inr (inr (namespace, [], option_to_list note, moved, moves.rest))))))

-- what one seat more claims is of the history too
pub all-claimed : {C X : Type 0} (values kept : List C) (own : X → Own C) (xs : List X) (x : X)
    (claims : Own C) → kept ≡ values → claims ≡ own x → AreAmong kept claims.holds
    → AreAllOf values own xs → AreAllOf values own (xs ++ x ∷ [])
all-claimed values kept own xs x claims same is are all =
    all_more values own xs x all (subst (λ o. AreAmong values o.holds) is
    (subst (λ cs. AreAmong cs claims.holds) same are))
