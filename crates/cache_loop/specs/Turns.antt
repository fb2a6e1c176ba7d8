-- What becomes of the connections of a loop. Each has a key, and a socket and a link of its own: its pair.
use Rattle.std.specs.Prelude.{◌≡◌, ◌≢◌, ◌⊎◌, ℕ, Bool, [], Option, None, Some, Result, Ok, Err, MatchOption}
use Rattle.std.specs.Option.{option_map}
use Rattle.slab.specs.Slab.{Slab, get}
use Rattle.cache_run.specs.declared.devices.errors.RunError.{RunError}
use Rattle.cache_link.specs.Dialogues.{Wire}
use Rattle.cache_link.specs.declared.link.Next.{Next}
use Rattle.cache_link.specs.declared.link.Next.TheVariants.{Turn, Input, Room, Load, Over}
use Rattle.cache_loop.specs.declared.doorway.Stream.{Stream}
use Rattle.cache_loop.specs.declared.served.Served.{Served}
use Rattle.cache_loop.specs.declared.steward.Steward.{Ghosts as Ways}

-- with what a connection is closed after a turn, if it is
abbrev pub outcome_of : Result Next RunError → Option (Result (Unit {0}) RunError)
outcome_of (Ok Over) = Some (Ok (record {}))
outcome_of (Ok Turn) = None
outcome_of (Ok Input) = None
outcome_of (Ok Room) = None
outcome_of (Ok Load) = None
outcome_of (Err e) = Some (Err e)

module _ {L : Type 0} where
  -- the pair of a connection
  abbrev pub pair_of : Served L → Stream × L
  pair_of one = (one.stream, one.link)

  -- the pair of the connection with this key, if there is one
  abbrev pub pair_at : Slab (Served L) → ℕ → Option (Stream × L)
  pair_at served key = option_map pair_of (get served key)

  -- each key has the pair that it had
  abbrev pub SamePairs : Slab (Served L) → Slab (Served L) → Type 0
  SamePairs p q = (key : ℕ) → pair_at q key ≡ pair_at p key

  -- this key has this, and each other the pair that it had
  pub record ChangesPair (p q : Slab (Served L)) (key : ℕ) (pair : Option (Stream × L)) : Type 0 where
    pub changed : pair_at q key ≡ pair
    pub others : (other : ℕ) → other ≢ key → pair_at q other ≡ pair_at p other

  -- a link was told something, and the connection with this key has it now
  pub record IsTold (key : ℕ) (Tells : L → L → Type 0) (p q : Slab (Served L)) : Type 0 where
    pub socket : Stream
    pub was : L
    pub is : L
    pub there : pair_at p key ≡ Some (socket, was)
    pub told : Tells was is
    pub kept : ChangesPair p q key (Some (socket, is))

module _ {S L : Type 0} (ways : Ways S L) where
  -- a connection had a turn over its socket, which stays with it
  pub record HasTurn (result : Result Next RunError) (was is : Served L) (s t : S) : Type 0 where
    pub socket : is.stream ≡ was.stream
    pub before : Wire
    pub after : Wire
    pub turned : ways.turns result was.link is.link s t before after

  -- there is no connection with this key, and nothing was done
  pub record IsAbsent (key : ℕ) (p : Slab (Served L)) (s : S) (q : Slab (Served L)) (t : S) : Type 0 where
    pub absent : get p key ≡ None
    pub same : SamePairs p q
    pub idle : t ≡ s

  -- the connection with this key had its turn, and each other one is as it was
  pub record GaveTurn (key : ℕ) (result : Result Next RunError) (p : Slab (Served L)) (s : S)
      (q : Slab (Served L)) (t : S) : Type 0 where
    pub was : Served L
    pub is : Served L
    pub there : get p key ≡ Some was
    pub had : HasTurn result was is s t
    pub kept : ChangesPair p q key (Some (pair_of is))

  -- the connection with this key was closed, and gave back its socket
  pub record ClosedAt (key : ℕ) (outcome : Result (Unit {0}) RunError) (p : Slab (Served L)) (s : S)
      (socket : Stream) (q : Slab (Served L)) (t : S) : Type 0 where
    pub link : L
    pub there : pair_at p key ≡ Some (socket, link)
    pub closed : ways.closes link outcome s t
    pub gone : ChangesPair p q key None

  -- it was closed, if there is one
  abbrev pub ClosesAtKey : ℕ → Result (Unit {0}) RunError → Slab (Served L) → S → Option Stream
      → Slab (Served L) → S → Type 0
  ClosesAtKey key outcome p s given q t =
      MatchOption given (IsAbsent key p s q t) (λ socket. ClosedAt key outcome p s socket q t)

  -- after a turn with this result it was closed, or stays
  abbrev pub EndsTurnAt : ℕ → Result Next RunError → Slab (Served L) → S → Slab (Served L) → S → Type 0
  EndsTurnAt key result p s q t =
      MatchOption (outcome_of result) (SamePairs p q × (t ≡ s))
      (λ outcome. (given : Option Stream) × ClosesAtKey key outcome p s given q t)

  -- The connection with this key had its turn, and was closed after it, or stays; then loads were asked for. Each other one is as it was.
  pub record TookTurnAt (key : ℕ) (p : Slab (Served L)) (s : S) (q : Slab (Served L)) (t : S) : Type 0
    where
      pub result : Result Next RunError
      pub between : Slab (Served L)
      pub after_turn : S
      pub after_end : S
      pub turn : GaveTurn key result p s between after_turn
      pub ended : EndsTurnAt key result between after_turn q after_end
      pub loads : ways.settles after_end t
      pub others : (other : ℕ) → other ≢ key → pair_at q other ≡ pair_at p other

  -- it had its turn, if there is one
  abbrev pub TakesTurnAt : ℕ → Slab (Served L) → S → Slab (Served L) → S → Type 0
  TakesTurnAt key p s q t = TookTurnAt key p s q t ⊎ IsAbsent key p s q t

  -- A connection was opened, and has this socket, and a key that was vacant; or there is none more.
  abbrev pub SeatsOne : Option (Unit {0}) → Stream → Slab (Served L) → S → Slab (Served L) → S → Type 0
  SeatsOne result socket p s q t =
      MatchOption result (SamePairs p q × ((t ≡ s) ⊎ ways.opens None s t))
      (λ done. (link : L) × ways.opens (Some link) s t × (pair_at p p.vacant_key ≡ None)
      × ChangesPair p q p.vacant_key (Some (socket, link)))

  -- one thing after another was done for the connections of a loop, by its steward
  pub data GoesRound (p : Slab (Served L)) (s : S) : Slab (Served L) → S → Type 0 where
    begins : GoesRound p s p s
    stays : (m q : Slab (Served L)) (t : S) → GoesRound p s m t → SamePairs m q → GoesRound p s q t
    settles : (q : Slab (Served L)) (u t : S) → GoesRound p s q u → ways.settles u t → GoesRound p s q t
    opens : (result : Option (Unit {0})) (socket : Stream) (m q : Slab (Served L)) (u t : S)
        → GoesRound p s m u → SeatsOne result socket m u q t → GoesRound p s q t
    hears : (key : ℕ) (readable ending : Bool) (m q : Slab (Served L)) (t : S) → GoesRound p s m t
        → IsTold key (ways.wakes readable ending) m q → GoesRound p s q t
    stops : (key : ℕ) (m q : Slab (Served L)) (t : S) → GoesRound p s m t → IsTold key ways.stops m q
        → GoesRound p s q t
    turns : (key : ℕ) (m q : Slab (Served L)) (u t : S) → GoesRound p s m u → TakesTurnAt key m u q t
        → GoesRound p s q t
    closes : (key : ℕ) (outcome : Result (Unit {0}) RunError) (given : Option Stream)
        (m q : Slab (Served L)) (u t : S) → GoesRound p s m u → ClosesAtKey key outcome m u given q t
        → GoesRound p s q t

  -- and at first there was no connection
  abbrev pub ServesByLoop : S → S → Type 0
  ServesByLoop s t = (p q : Slab (Served L)) × (p.slots ≡ []) × GoesRound p s q t
