-- What is moved out of a shared service, what is left of it, and what an input adds to it.
use Rattle.std.specs.Prelude.{◌≡◌, ◌≢◌, ◌<◌, ◌⊎◌, ℕ, Bool, List, [], ◌++◌, ◌==◌, length, Option, IsNone, MatchOption, Result, OnOk, Vec, vec_len, vec_capacity, if◌then◌else◌}
use Rattle.std.specs.declared.alloc.Global.{Global}
use Rattle.std.specs.List.{slice_get}
use Rattle.std.specs.Option.{option_map_or, option_to_list}
use Rattle.audit_laws.specs.declared.receipts.output.Output.{Output}
use Rattle.audit_model.specs.Situation.{Situation}
use Rattle.audit_model.specs.declared.input.Conn.{Conn}
use Rattle.audit_model.specs.declared.input.Input.{Input}
use Rattle.audit_model.specs.declared.input.LoadId.{LoadId}
use Rattle.audit_model.specs.declared.transcript.Note.{Note}
use Rattle.cache_core.specs.Turned.{notes_in, replies_to}
use Rattle.cache_spaces.specs.Calls.{At, InSpace, IsOpened, PerformsFrom, TakesLoads, namespace_of}
use Rattle.cache_spaces.specs.Spaces.{Shown, StandsFor, outgoing_of, shown_tape}
use Rattle.cache_shared.specs.Events.{PerformsInput}
use Rattle.cache_shared.specs.Looked.{IsOwedIn, MovesNotes}
use Rattle.cache_core.specs.declared.owing.Owed.{Owed}
use Rattle.cache_shared.specs.declared.turning.Turn.{Turn}

-- the loads of a namespace that were sent and not taken, with their keys; none if there is no such namespace
abbrev pub outgoing_in : List Shown → ℕ → List (LoadId × List ℕ)
outgoing_in spaces namespace = option_map_or outgoing_of (slice_get spaces namespace) []

module _ {C : Type 0} (spaces : C → List Shown) (untaken : C → Conn → List ℕ) (untold : C → ℕ → List Note) where
  -- no replies, no notes, no loads were taken
  abbrev pub KeepsReplies : C → C → Type 0
  KeepsReplies old new = (conn : Conn) → untaken new conn ≡ untaken old conn

  abbrev pub KeepsNotes : C → C → Type 0
  KeepsNotes old new = (namespace : ℕ) → untold new namespace ≡ untold old namespace

  abbrev pub KeepsLoads : C → C → Type 0
  KeepsLoads old new =
      (namespace : ℕ) → outgoing_in (spaces new) namespace ≡ outgoing_in (spaces old) namespace

  -- All replies of this connection, which was opened, were moved out, and nothing else was taken.
  pub record MovesReplies (old new : C) (conn : Conn) (text : List ℕ) : Type 0 where
    pub known : InSpace (spaces old) conn.namespace (λ space. IsOpened space conn.number)
    pub all : text ≡ untaken old conn
    pub none : untaken new conn ≡ []
    pub others : (other : Conn) → other ≢ conn → untaken new other ≡ untaken old other
    pub notes : KeepsNotes old new
    pub loads : KeepsLoads old new

  -- Nothing was taken but notes of this namespace.
  pub record MovesNotesOf (old new : C) (namespace : ℕ) : Type 0 where
    pub others : (other : ℕ) → other ≢ namespace → untold new other ≡ untold old other
    pub replies : KeepsReplies old new
    pub loads : KeepsLoads old new

  -- The oldest note of this namespace, which exists, was moved out, if there is one, and nothing else was taken.
  pub record MovesNote (old new : C) (namespace : ℕ) (note : Option Note) : Type 0 where
    pub there : namespace < length (spaces old)
    pub first : untold old namespace ≡ option_to_list note ++ untold new namespace
    pub none : IsNone note → untold old namespace ≡ []
    pub rest : MovesNotesOf old new namespace

  -- The oldest notes of this namespace were appended to others, in order, and nothing else was taken. If the call was not refused, the
  -- namespace exists and no note of it is left, or there is no more room.
  pub record MovesOldest {A E : Type 0} (old new : C) (namespace : ℕ) (result : Result A E)
      (behind behind' : Vec Note Global) : Type 0 where
    pub notes : MovesNotes behind.items behind'.items (untold old namespace) (untold new namespace)
    pub rest : MovesNotesOf old new namespace
    pub all : OnOk result (((namespace < length (spaces old)) × (untold new namespace ≡ []))
        ⊎ (vec_len behind' ≡ vec_capacity behind))

  -- All loads of this namespace that went out were moved out, and nothing else was taken.
  pub record MovesLoads (old new : C) (namespace : ℕ) (loads : List (LoadId × List ℕ)) : Type 0
    where
      pub all : At (spaces old) (spaces new) namespace (λ was is. TakesLoads was is loads)
      pub replies : KeepsReplies old new
      pub notes : KeepsNotes old new

  -- What a connection was owed was moved out. Replies and loads that are given are all there were, and then there are none; those that are
  -- not given were left. Nothing else was taken but notes of its namespace.
  pub record MovesOwed (old new : C) (conn : Conn) (owed : Owed) : Type 0 where
    pub replies : MatchOption owed.replies (untaken new conn ≡ untaken old conn)
        (λ text. (text.items ≡ untaken old conn) × (untaken new conn ≡ []))
    pub loads : MatchOption owed.loads
        (outgoing_in (spaces new) conn.namespace ≡ outgoing_in (spaces old) conn.namespace)
        (λ loads. (loads.items ≡ outgoing_in (spaces old) conn.namespace)
        × (outgoing_in (spaces new) conn.namespace ≡ []))
    pub other_replies : (other : Conn) → other ≢ conn → untaken new other ≡ untaken old other
    pub other_loads : (other : ℕ) → other ≢ conn.namespace
        → outgoing_in (spaces new) other ≡ outgoing_in (spaces old) other
    pub other_notes : (other : ℕ) → other ≢ conn.namespace
        → untold new other ≡ untold old other

  -- The same, and this is what it was owed; with the oldest notes of its namespace, which were appended to others.
  pub record MovesAll (old new : C) (conn : Conn) (wants_loads : Bool) (given : Owed)
      (behind behind' : List Note) : Type 0 where
    pub owed : MovesOwed old new conn given
    pub told : IsOwedIn conn wants_loads given (spaces old)
    pub notes : MovesNotes behind behind' (untold old conn.namespace) (untold new conn.namespace)

  -- From this situation the input's event happened, by a record with this output. Its replies and notes, and nothing else, were added to
  -- those that were not taken.
  pub record GainsFrom (i : Input) (output : Output) (old new : C) (was is : Shown)
      (s : Situation) : Type 0 where
    pub performed : PerformsFrom shown_tape i output was is s
    pub replies : (conn : Conn) → untaken new conn ≡ untaken old conn
        ++ (if conn.namespace == namespace_of i then replies_to conn.number performed.entry.steps
        else [])
    pub notes : (namespace : ℕ) → untold new namespace ≡ untold old namespace
        ++ (if namespace == namespace_of i then notes_in performed.entry else [])

  -- An input was taken: its event happened in its namespace, and added its replies and notes to those that were not taken.
  pub record TakesInput (i : Input) (output : Output) (old new : C) : Type 0 where
    pub performed : PerformsInput i output (spaces old) (spaces new)
    pub gained : At (spaces old) (spaces new) (namespace_of i)
        (λ was is. (s : Situation) → StandsFor was s → GainsFrom i output old new was is s)

  -- An input was taken, and everything that a connection was owed then was moved out, and oldest notes of its namespace.
  pub record TakesInputWhole (old new : C) (conn : Conn) (i : Input) (wants_loads : Bool)
      (turn : Turn) (behind behind' : List Note) : Type 0 where
    pub between : C
    pub taken : TakesInput i turn.output old between
    pub moved : MovesAll between new conn wants_loads turn.owed behind behind'
