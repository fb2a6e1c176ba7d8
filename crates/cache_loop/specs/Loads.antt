-- What becomes of the loads that go out to a loop: each is held until it is settled, once.
use Rattle.std.specs.Prelude.{◌≡◌, ◌⊎◌, ℕ, ◌+◌, ◌==◌, nat_le, Bool, false, cond, List, [], ◌∷◌, ◌++◌, map, reverse, Option, None, Vec, unwrap_or, sum_by}
use Rattle.std.specs.Option.{option_map, option_map_or}
use Rattle.std.specs.List.{flat_map}
use Rattle.std.specs.declared.alloc.Global.{Global}
use Rattle.audit_model.specs.declared.event.Outcome.{Outcome}
use Rattle.audit_model.specs.declared.input.Conn.{Conn}
use Rattle.audit_model.specs.declared.input.LoadId.{LoadId}
use Rattle.cache_run.specs.Driver.Exchanges.{Exchange, Outs, Settling, Settled, load_number, settling_asking}
use Rattle.cache_loop.specs.declared.asker.Asked.{Asked}
use Rattle.cache_loop.specs.declared.asker.Asked.TheVariants.{Now, Later}
use Rattle.cache_loop.specs.declared.loading.Pending.{Pending}

-- 1 if it is this load, and 0 otherwise
abbrev pub once : ℕ → ℕ → ℕ
once number load = cond (number == load) 1 0

-- how often a load is among those that went out
abbrev pub times_out : Outs → ℕ → ℕ
times_out outs load = sum_by (λ (out : LoadId × List ℕ). once out.0.number load) outs

-- those for which there was no memory, if any
abbrev pub outs_in : Option (Vec (LoadId × List ℕ) Global) → Outs
outs_in loads = unwrap_or (option_map (λ kept. kept.items) loads) []

-- Of loads that went out some were kept, behind those that were there, and the others are left.
pub record KeepsOf (outs left old new : Outs) : Type 0 where
  pub kept : Outs
  pub of : outs ≡ kept ++ left
  pub behind : new ≡ old ++ kept

-- the numbers of loads that went out
abbrev pub numbers_out : Outs → List ℕ
numbers_out outs = map (λ (out : LoadId × List ℕ). out.0.number) outs

-- how often a load is among those that were asked for and not settled
abbrev pub times_pending : List Pending → ℕ → ℕ
times_pending pending load = sum_by (λ one. once one.number load) pending

-- the time of one of them is over
abbrev pub is_overdue : Pending → ℕ → Bool
is_overdue one moment = option_map_or (λ due. nat_le due moment) one.due false

-- the numbers of such loads, from the last to the first
abbrev pub numbers_pending : List Pending → List ℕ
numbers_pending pending = reverse (map (λ one. one.number) pending)

-- those that went out while loads were settled, and were kept
abbrev pub kept_among : List (ℕ × Outs) → Outs
kept_among steps = flat_map (λ (step : ℕ × Outs). step.1) steps

-- how often a loop holds a load: it went out and was not asked for, or it is pending
abbrev pub held : Outs → List Pending → ℕ → ℕ
held outs pending load = times_out outs load + times_pending pending load

-- and these are in hand
abbrev pub held_in_hand : Outs → Outs → List Pending → ℕ → ℕ
held_in_hand hand outs pending load = times_out hand load + held outs pending load

-- and this one is
abbrev pub held_one : ℕ → Outs → List Pending → ℕ → ℕ
held_one number outs pending load = once number load + held outs pending load

-- none is held
abbrev pub nothing_held : ℕ → ℕ
nothing_held load = 0

module _ {H : Type 0} (Came : Conn → H → Exchange → H → Type 0) (conn : Conn) where
  -- a load was settled at a moment by what was said of it, its outcome or that there is none, and these went out
  pub record SettlesOne (number moment : ℕ) (said : Option Outcome) (p : H) (outs : Outs) (q : H) :
      Type 0 where
    pub exchange : Exchange
    pub settling : Settling
    pub numbered : load_number settling ≡ number
    pub by : (settling_asking settling).answer ≡ said
    pub done : exchange.doing ≡ Settled settling moment
    pub went : unwrap_or exchange.loads [] ≡ outs
    pub came : Came conn p exchange q

module _ {H : Type 0} (Came : Conn → H → Exchange → H → Type 0) (Rests : H → H → Type 0)
    (conn : Conn) where
  -- The host was told to give a load up at moment 0, which is not after the last one: it did, and none went out, or it refused.
  abbrev pub GivesUpOne : ℕ → H → H → Type 0
  GivesUpOne number p q = SettlesOne Came conn number 0 None p [] q ⊎ Rests p q

  -- it was told so of each of these, one after another
  abbrev pub GivesUpEach : H → List ℕ → H → Type 0
  GivesUpEach p [] q = q ≡ p
  GivesUpEach p (number ∷ numbers) q = (m : H) × GivesUpOne number p m × GivesUpEach m numbers q

  -- A load was settled at a moment by what was said of it, and of those that went out these were kept; the others, for which there was no
  -- memory, were given up then. Or the host refused to settle it, and was told to give it up.
  abbrev pub Resolves : ℕ → ℕ → Option Outcome → H → Outs → H → Type 0
  Resolves number moment said p kept q =
      ((left : Outs) × (m : H) × SettlesOne Came conn number moment said p (kept ++ left) m
      × GivesUpEach m (numbers_out left) q)
      ⊎ ((m : H) × Rests p m × GivesUpOne number m q × (kept ≡ []))

  -- it was settled by what was said at once, or is not yet
  abbrev pub IsSettledAs : ℕ → ℕ → Asked → H → Outs → H → Type 0
  IsSettledAs number moment (Now said) p kept q = Resolves number moment said p kept q
  IsSettledAs number moment Later p kept q = (q ≡ p) × (kept ≡ [])

  -- one load after another was settled so, each by what was said of it
  abbrev pub ResolveEach : H → List (ℕ × Outs) → H → Type 0
  ResolveEach p [] q = q ≡ p
  ResolveEach p (step ∷ steps) q =
      (m : H) × ((moment : ℕ) × (said : Option Outcome) × Resolves step.0 moment said p step.1 m)
      × ResolveEach m steps q

  -- Each load, as often as it was held before or went out and was kept, was settled or is held after.
  pub record SettlesEach (had : ℕ → ℕ) (p : H) (has : ℕ → ℕ) (q : H) : Type 0 where
    pub steps : List (ℕ × Outs)
    pub done : ResolveEach p steps q
    pub balance : (load : ℕ) → had load + sum_by (λ step. times_out step.1 load) steps
        ≡ has load + sum_by (λ step. once step.0 load) steps

  -- and those that went out and were kept came behind those that were there
  abbrev pub SettlesBehind : (ℕ → ℕ) → H → (ℕ → ℕ) → H → Outs → Outs → Type 0
  SettlesBehind had p has q old new =
      (each : SettlesEach had p has q) × (new ≡ old ++ kept_among each.steps)

  -- A loader was asked for a load, and what it said at once is what the load was settled by; or it will say it later. Or there was no
  -- memory to ask for it, and it was given up.
  abbrev pub AsksFor : {A : Type 0} → (A → LoadId → List ℕ → Asked → A → Type 0) → LoadId → List ℕ
      → ℕ → A → A → H → Outs → H → Type 0
  AsksFor asks load key moment a b p kept q =
      ((asked : Asked) × asks a load key asked b × IsSettledAs load.number moment asked p kept q)
      ⊎ ((b ≡ a) × Resolves load.number moment None p kept q)
