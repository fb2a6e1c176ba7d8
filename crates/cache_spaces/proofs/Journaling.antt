-- What namespaces and their journals are, input by input, from new ones on.
use Rattle.std.proofs.Common.{◌≡◌, ◌≢◌, ℕ, zero, suc, ◌<◌, ◌+◌, ◌≤◌, List, [], ◌∷◌, ◌++◌, length, map, Some, refl, sym, ap, ◌∙◌, subst, inl, inr, arith, get_or, take, ◌⊎◌, Result, Ok, Err, OnErr, IfOk, IsTrue, ◌&&◌, not, is_some, nat_le, Option, Bool, length-append, None}
use Rattle.std.proofs.Math.Logic.{∥∥₁_elim, ∥∥₁_map}
use Rattle.std.proofs.Math.Seq.{take-suc}
use Rattle.std.proofs.Props.{props}
use Rattle.std.proofs.lemmas.Bool.{cases_eq, and_parts, leb-true}
use Rattle.std.proofs.lemmas.List.{length-map, take_all}
use Rattle.std.proofs.lemmas.Option.{none-some, same_Some, slice_get_within}
use Rattle.std.specs.List.{list_all, slice_get}
use Rattle.rand_core.specs.Steps.{stream_of, steps_u64_high}
use Rattle.rand_core.specs.Stream.{Stream, fill_bytes}
use Rattle.rand_xoshiro.specs.Xoshiro256.{plus_plus}
use Rattle.audit_model.specs.Belongs.{IsAdmitted, event_in}
use Rattle.audit_model.specs.BelongsIn.{BelongsIn}
use Rattle.audit_model.specs.Configs.{is_time}
use Rattle.audit_model.specs.Follows.{Follows, after_event, tasks_in}
use Rattle.audit_model.specs.Obeys.{Obeys}
use Rattle.audit_model.specs.Places.{steps_of}
use Rattle.audit_model.specs.Situation.{Situation, empty_situation}
use Rattle.audit_model.specs.declared.config.Config.{Config}
use Rattle.audit_model.specs.declared.event.Instant.{Instant}
use Rattle.audit_model.specs.declared.input.Input.{Input}
use Rattle.audit_model.specs.declared.transcript.Record.{Record}
use Rattle.audit_model.specs.declared.transcript.Transcript.{Transcript}
use Rattle.audit_laws.proofs.Belonging.{belongs_on, belongs_step_by_step}
use Rattle.audit_laws.proofs.Journals.{leads_by-more, obeys-led}
use Rattle.audit_laws.specs.Leading.{LeadsBy, is_parted}
use Rattle.audit_laws.specs.Placing.{accepted_in}
use Rattle.audit_laws.specs.declared.receipts.output.Output.{Output}
use Rattle.cache_commands.specs.Recency.{IsPlainLru}
use Rattle.cache_commands.specs.Running.{is_bounded}
use Rattle.cache_commands.specs.Order.{AgreesWith, Settled}
use Rattle.cache_lines.specs.Ordered.{OrdersSteps}
use Rattle.cache_lines.specs.Tape.Taped.{Taped, with_entry}
use Rattle.cache_core.proofs.connections.Getting.{at-mapped, found-at}
use Rattle.cache_front.specs.Parts.{IsBrief}
use Rattle.cache_spaces.proofs.Placing.{at-it, at-length, at-others}
use Rattle.cache_spaces.proofs.Throughout.{keys-one-more, order-at-end-more, so-of-one-more, keeps-list}
use Rattle.cache_spaces.specs.Calls.{At, Performs, namespace_of}
use Rattle.cache_spaces.specs.Journals.{IsJournalOf, IsSoOfEach, LeadsSo, journals_of, kept_by}
use Rattle.cache_spaces.specs.Played.{ArePlayed, HasPlayed, HavePlayed, Plays, WerePlayed, journal_of}
use Rattle.cache_spaces.specs.Services.{is_served, AreNewSpaces, blank_tape, IsNewNamespace, fork_after, stream_after_forks}
use Rattle.cache_spaces.specs.Spaces.{HasItsParts, Space, config_of, part_in, recency_of}
use Rattle.cache_spaces.specs.Throughout.{HasExactKeys, HaveKeysFrom, are_bounded_from, are_timely_from, are_timely_in, is_bounded_throughout, is_timely_throughout, order_at_end}

-- ---- places

-- a journal stands on the tape of a namespace
pub mapped : {X Y : Type 0} (f : X → Y) (xs : List X) (k : ℕ) (y : Y) → slice_get (map f xs) k ≡ Some y → (x : X) × (slice_get xs k ≡ Some x) × (f x ≡ y)
mapped f [] k y e = absurd (none-some _ e)
mapped f (x ∷ xs) zero y e = (x, refl, same_Some (f x) y e)
mapped f (x ∷ xs) (suc k) y e = mapped f xs k y e

-- ---- the beginning

pub played-none : (configs : List Config) (generator : List ℕ) (moment : Instant) (spaces : List (Space Taped))
    → AreNewSpaces kept_by (Some (blank_tape moment)) spaces configs generator moment.nanos → HavePlayed configs moment [] spaces
played-none configs generator moment spaces new = record {
  count = new.count;
  each = λ k config space c s.
      let n = new.each k config space c s in
      let blank : space.tape ≡ blank_tape moment = same_Some space.tape (blank_tape moment) n.taped in
      let e : journal_of space ≡ record { made = moment; records = [] } = ap (λ (t : Taped). t.journal) blank in
      let none : (journal_of space).records ≡ [] = ap (λ (x : Transcript). x.records) e in
      record {
        made = ap (λ (x : Transcript). x.made) e;
        configured = n.configured;
        served = n.served;
        last = empty_situation moment.nanos;
        stands = n.stands;
        within = n.within;
        parted = subst (λ x. LeadsBy config (part_in space) x (empty_situation moment.nanos)) (sym e) (record { leads = refl; parted = refl });
        belongs = (none, refl);
        made_is = n.made_is;
        agrees = λ places plain.
            let P : List Record → Type 0 = λ rs. AgreesWith (recency_of space) places (order_at_end config (suc places) (Settled []) rs) in
            subst P (sym none) (n.recency, omega arith);
        exact = λ places plain.
            let P : List Record → Type 0 = λ rs. HaveKeysFrom config (suc places) (Settled []) (empty_situation moment.nanos) rs in
            subst P (sym none) tt;
        timely = ap (λ (x : Transcript). are_timely_from config moment.nanos x.records) e;
        bounded = ap (λ (x : Transcript). are_bounded_from config moment.nanos x.records) e;
      };
}

-- ---- one input more

left-alone : (config : Config) (k : ℕ) (moment : Instant) (inputs : List Input) (i : Input) (space : Space Taped)
    → HasPlayed config k moment inputs space → HasPlayed config k moment (inputs ++ i ∷ []) space
left-alone config k moment inputs i space h = record {
  made = h.made;
  configured = h.configured;
  served = h.served;
  last = h.last;
  stands = h.stands;
  within = h.within;
  parted = h.parted;
  belongs = belongs_on.left_out config k inputs i (journal_of space).records (empty_situation moment.nanos) h.last h.belongs;
  made_is = h.made_is;
  agrees = h.agrees;
  exact = h.exact;
  timely = h.timely;
  bounded = h.bounded;
}

taken-here : (config : Config) (k : ℕ) (moment : Instant) (inputs : List Input) (i : Input) (output : Output) (was is : Space Taped)
    → k ≡ namespace_of i → HasPlayed config k moment inputs was → Performs kept_by i output was is → HasPlayed config k moment (inputs ++ i ∷ []) is
taken-here config k moment inputs i output was is here h p =
    let r = p.from h.last h.stands in
    let entry = r.entry in
    let t = r.turned in
    let records : List Record = (journal_of was).records in
    let journal : journal_of is ≡ with_entry entry (journal_of was) = ap (λ (x : Taped). x.journal) (same_Some is.tape _ t.kept) in
    let added : (journal_of is).records ≡ records ++ entry ∷ [] = ap (λ (x : Transcript). x.records) journal in
    let e : event_in k h.last.opened i ≡ Some entry.event =
    ap (λ n. event_in n h.last.opened i) here ∙ ap (λ (s : Situation). event_in (namespace_of i) s.opened i) h.stands.is ∙ r.event in
    let leads = (belongs_step_by_step.belongs config k moment inputs records h.last h.belongs).0 in
    let follows = subst (λ x. Follows x h.last entry t.next) h.configured t.follows in
    let ordered = subst (λ x. OrdersSteps x (recency_of was) (recency_of is) (after_event entry.event h.last) (tasks_in h.last entry.event) (steps_of entry)) h.configured t.ordered in
    record {
      made = ap (λ (x : Transcript). x.made) journal ∙ h.made;
      configured = p.stays.config ∙ h.configured;
      served = h.served;
      last = t.next;
      stands = t.stands;
      within = subst (HasItsParts config) (sym p.stays.part_of) h.within;
      parted = subst (λ m. LeadsBy config m (journal_of is) t.next) (sym p.stays.part_of)
          (subst (λ x. LeadsBy config (part_in was) x t.next) (sym journal)
          (leads_by-more config (part_in was) (journal_of was).made records entry h.last t.next h.parted follows
          (subst (λ x. IsTrue (list_all (is_parted (part_in was)) (accepted_in x h.last entry))) h.configured t.parted)));
      belongs = subst (λ rs. BelongsIn config k (empty_situation moment.nanos) (inputs ++ i ∷ []) rs t.next) (sym added)
          (belongs_on.taken config k inputs i records entry (empty_situation moment.nanos) h.last t.next h.belongs e follows);
      made_is = p.stays.made ∙ h.made_is;
      agrees = λ places plain.
          subst (λ rs. AgreesWith (recency_of is) places (order_at_end config (suc places) (Settled []) rs)) (sym added)
          (subst (AgreesWith (recency_of is) places) (sym (order-at-end-more config (suc places) (Settled []) records entry))
          (ordered places (order_at_end config (suc places) (Settled []) records) plain (h.agrees places plain)).0);
      exact = λ places plain.
          subst (λ rs. HaveKeysFrom config (suc places) (Settled []) (empty_situation moment.nanos) rs) (sym added)
          (keys-one-more config (suc places) (Settled []) (empty_situation moment.nanos) records entry h.last t.next (h.exact places plain) leads follows
          (ordered places (order_at_end config (suc places) (Settled []) records) plain (h.agrees places plain)).1);
      timely = subst (λ rs. IsTrue (are_timely_from config moment.nanos rs)) (sym added)
          (so-of-one-more (λ s x y. are_timely_in config moment.nanos s x) config (empty_situation moment.nanos) records entry h.last t.next h.timely leads follows
          (subst (λ x. IsTrue (are_timely_in x moment.nanos h.last entry)) h.configured (subst (λ n. IsTrue (are_timely_in (config_of was) n h.last entry)) h.made_is t.timely)));
      bounded = subst (λ rs. IsTrue (are_bounded_from config moment.nanos rs)) (sym added)
          (so-of-one-more (λ s x y. is_bounded config y.held) config (empty_situation moment.nanos) records entry h.last t.next h.bounded leads follows
          (subst (λ x. IsTrue (is_bounded x t.next.held)) h.configured t.bounded));
    }

-- the input was taken
pub played-on : (configs : List Config) (moment : Instant) (inputs : List Input) (i : Input) (output : Output) (old new : List (Space Taped))
    → HavePlayed configs moment inputs old → At old new (namespace_of i) (Performs kept_by i output) → HavePlayed configs moment (inputs ++ i ∷ []) new
played-on configs moment inputs i output old new played a = record {
  count = at-length old new (namespace_of i) a ∙ played.count;
  each = λ k config is c at_is. go k config is c at_is (cases_eq k (namespace_of i));
}
  where
    go : (k : ℕ) (config : Config) (is : Space Taped) → slice_get configs k ≡ Some config → slice_get new k ≡ Some is → (k ≡ namespace_of i) ⊎ (k ≢ namespace_of i)
        → HasPlayed config k moment (inputs ++ i ∷ []) is
    go k config is c at_is (inl here) =
        subst (HasPlayed config k moment (inputs ++ i ∷ [])) (at-it old new (namespace_of i) a is (ap (slice_get new) (sym here) ∙ at_is))
        (taken-here config k moment inputs i output a.was a.is here (played.each k config a.was c (ap (slice_get old) here ∙ a.at)) a.fact)
    go k config is c at_is (inr ne) = left-alone config k moment inputs i is (played.each k config is c (sym (at-others old new (namespace_of i) k a ne) ∙ at_is))

-- it was left out
pub played-left : (configs : List Config) (moment : Instant) (inputs : List Input) (i : Input) (spaces : List (Space Taped)) → HavePlayed configs moment inputs spaces → HavePlayed configs moment (inputs ++ i ∷ []) spaces
played-left configs moment inputs i spaces h = record { count = h.count; each = λ k config is c at_is. left-alone config k moment inputs i is (h.each k config is c at_is) }

-- loads that are taken leave what was played
pub played-loads : (configs : List Config) (moment : Instant) (inputs : List Input) (n : ℕ) (Some-loads : Space Taped → Space Taped → Type 0) (old new : List (Space Taped))
    → ((was is : Space Taped) → Some-loads was is → is ≡ record was { outgoing = [] }) → HavePlayed configs moment inputs old → At old new n Some-loads → HavePlayed configs moment inputs new
played-loads configs moment inputs n Some-loads old new rest played a = record {
  count = at-length old new n a ∙ played.count;
  each = λ k config is c at_is. go k config is c at_is (cases_eq k n);
}
  where
    taken : (config : Config) (k : ℕ) (was : Space Taped) → HasPlayed config k moment inputs was → HasPlayed config k moment inputs (record was { outgoing = [] })
    taken config k was h = record {
      made = h.made;
      configured = h.configured;
      served = h.served;
      last = h.last;
      stands = record { held = h.stands.held; stands = h.stands.stands; is = h.stands.is };
      within = h.within;
      parted = h.parted;
      belongs = h.belongs;
      made_is = h.made_is;
      agrees = h.agrees;
      exact = h.exact;
      timely = h.timely;
      bounded = h.bounded;
    }

    go : (k : ℕ) (config : Config) (is : Space Taped) → slice_get configs k ≡ Some config → slice_get new k ≡ Some is → (k ≡ n) ⊎ (k ≢ n) → HasPlayed config k moment inputs is
    go k config is c at_is (inl here) =
        subst (HasPlayed config k moment inputs) (sym (rest a.was a.is a.fact) ∙ at-it old new n a is (ap (slice_get new) (sym here) ∙ at_is))
        (taken config k a.was (played.each k config a.was c (ap (slice_get old) here ∙ a.at)))
    go k config is c at_is (inr ne) = played.each k config is c (sym (at-others old new n k a ne) ∙ at_is)

-- ---- the end

-- what was played, in one namespace
abbrev pub played-one : (config : Config) (k : ℕ) (moment : Instant) (inputs : List Input) (space : Space Taped) → HasPlayed config k moment inputs space → Plays config k moment inputs (journal_of space)
played-one config k moment inputs space h =
    let transcript : Transcript = journal_of space in
    let b = belongs_step_by_step.belongs config k transcript.made inputs transcript.records h.last (subst (λ (m : Instant). BelongsIn config k (empty_situation m.nanos) inputs transcript.records h.last) (sym h.made) h.belongs) in
    let o = obeys-led config (part_in space) transcript h.last h.parted in
    let exact : (places : ℕ) → IsPlainLru config places → HasExactKeys config places transcript = λ places plain. subst (λ (m : Instant). HaveKeysFrom config (suc places) (Settled []) (empty_situation m.nanos) transcript.records) (sym h.made) (h.exact places plain) in
    record {
      made = h.made;
      belongs = b.1;
      last = h.last;
      leads = b.0;
      part_of = part_in space;
      within = h.within;
      parted = h.parted;
      obeys = o.0;
      admitted = o.1;
      timely = subst (λ (m : Instant). IsTrue (are_timely_from config m.nanos transcript.records)) (sym h.made) h.timely;
      bounded = subst (λ (m : Instant). IsTrue (are_bounded_from config m.nanos transcript.records)) (sym h.made) h.bounded;
      exact = exact;
      recent = λ places plain. keeps-list config places transcript (exact places plain);
    }

pub played-all : (configs : List Config) (moment : Instant) (inputs : List Input) (spaces : List (Space Taped)) → HavePlayed configs moment inputs spaces → ArePlayed configs moment inputs (journals_of spaces)
played-all configs moment inputs spaces played = record {
  count = length-map spaces journal_of ∙ played.count;
  each = λ k config transcript c t.
      let x = mapped journal_of spaces k transcript t in
      subst (Plays config k moment inputs) x.2 (played-one config k moment inputs x.0 (played.each k config x.0 c x.1));
}

-- all inputs are played
pub played-to-end : (configs : List Config) (moment : Instant) (inputs : List Input) (n : ℕ) (spaces : List (Space Taped)) → length inputs ≤ n → HavePlayed configs moment (take n inputs) spaces
    → ArePlayed configs moment inputs (journals_of spaces)
played-to-end configs moment inputs n spaces past played =
    subst (λ is. ArePlayed configs moment is (journals_of spaces)) (take_all n inputs past) (played-all configs moment (take n inputs) spaces played)

-- ---- a turn of the loop

one-more : (inputs : List Input) (n : ℕ) (i : Input) → n < length inputs → i ≡ get_or inputs n i → take (n + 1) inputs ≡ take n inputs ++ i ∷ []
one-more inputs n i lt at = grind (arith, take-suc)

pub played-step : (configs : List Config) (moment : Instant) (inputs : List Input) (n : ℕ) (i : Input) (old new : List (Space Taped)) {E : Type 0} (r : Result Output E) → n < length inputs → i ≡ get_or inputs n i
    → HavePlayed configs moment (take n inputs) old → IfOk r (λ output. At old new (namespace_of i) (Performs kept_by i output)) → OnErr r (new ≡ old) → HavePlayed configs moment (take (n + 1) inputs) new
played-step configs moment inputs n i old new r lt at played taken same = subst (λ is. HavePlayed configs moment is new) (sym (one-more inputs n i lt at)) (go r taken same)
  where
    go : {E : Type 0} (r : Result Output E) → IfOk r (λ output. At old new (namespace_of i) (Performs kept_by i output)) → OnErr r (new ≡ old) → HavePlayed configs moment (take n inputs ++ i ∷ []) new
    go (Ok output) taken same = played-on configs moment (take n inputs) i output old new played taken
    go (Err e) taken same = subst (HavePlayed configs moment (take n inputs ++ i ∷ [])) (sym same) (played-left configs moment (take n inputs) i old played)

-- ---- journals

pub were-none : (configs : List Config) (generator : List ℕ) (moment : Instant) (spaces : List (Space Taped)) → AreNewSpaces kept_by (Some (blank_tape moment)) spaces configs generator moment.nanos → WerePlayed spaces
were-none configs generator moment spaces new = record { configs = configs; moment = moment; inputs = []; played = played-none configs generator moment spaces new }

-- the journals go on
pub were-on : (i : Input) (old new : List (Space Taped)) {E : Type 0} (r : Result Output E) → IfOk r (λ output. At old new (namespace_of i) (Performs kept_by i output)) → OnErr r (new ≡ old) → WerePlayed old → WerePlayed new
were-on i old new (Ok output) taken same w = record { configs = w.configs; moment = w.moment; inputs = w.inputs ++ i ∷ []; played = played-on w.configs w.moment w.inputs i output old new w.played taken }
were-on i old new (Err e) taken same w = subst WerePlayed (sym same) w

pub were-loads : {A E : Type 0} (n : ℕ) (old new : List (Space Taped)) (r : Result A E) (Loads : A → Space Taped → Space Taped → Type 0) → ((a : A) (was is : Space Taped) → Loads a was is → is ≡ record was { outgoing = [] })
    → IfOk r (λ a. At old new n (Loads a)) → OnErr r (new ≡ old) → WerePlayed old → WerePlayed new
were-loads n old new (Ok a) Loads rest taken same w = record { configs = w.configs; moment = w.moment; inputs = w.inputs; played = played-loads w.configs w.moment w.inputs n (Loads a) old new (rest a) w.played taken }
were-loads n old new (Err e) Loads rest taken same w = subst WerePlayed (sym same) w

-- there are as many namespaces as before
pub step-length : {A E : Type 0} (n : ℕ) (old new : List (Space Taped)) (r : Result A E) (Fact : A → Space Taped → Space Taped → Type 0) → IfOk r (λ a. At old new n (Fact a)) → OnErr r (new ≡ old) → length new ≡ length old
step-length n old new (Ok a) Fact taken same = at-length old new n taken
step-length n old new (Err e) Fact taken same = ap length same

-- what was played in the namespace at a place
abbrev pub were-at : (spaces : List (Space Taped)) (k : ℕ) (space : Space Taped) → (w : WerePlayed spaces) → slice_get spaces k ≡ Some space → HasPlayed (config_of space) k w.moment w.inputs space
were-at spaces k space w s =
    let lt = slice_get_within spaces k space s in
    let config = found-at w.configs k (let e = w.played.count in omega arith) in
    let h = w.played.each k config.0 space config.1 s in
    subst (λ c. HasPlayed c k w.moment w.inputs space) (sym h.configured) h

abbrev were-plays : (spaces : List (Space Taped)) (k : ℕ) (space : Space Taped) → (w : WerePlayed spaces) → slice_get spaces k ≡ Some space → Plays (config_of space) k w.moment w.inputs (journal_of space)
were-plays spaces k space w s = played-one (config_of space) k w.moment w.inputs space (were-at spaces k space w s)

pub were-led : (spaces : List (Space Taped)) (k : ℕ) (space : Space Taped) → WerePlayed spaces → slice_get spaces k ≡ Some space → LeadsSo space (journal_of space)
were-led spaces k space w s =
    let h = were-at spaces k space w s in
    record { last = h.last; stands = h.stands; leads = (were-plays spaces k space w s).leads }

-- each journal is its namespace's
pub were-journals : (spaces : List (Space Taped)) → ∥ WerePlayed spaces ∥₁ → IsSoOfEach IsJournalOf spaces
were-journals spaces played k space s = record {
  obeys = (∥∥₁_elim played (Prim.hlevel props) (λ w. both w)).0;
  admitted = (∥∥₁_elim played (Prim.hlevel props) (λ w. both w)).1;
  leads = ∥∥₁_map played (λ w. were-led spaces k space w s);
  timely = ∥∥₁_elim played (Prim.hlevel props) timely;
  bounded = ∥∥₁_elim played (Prim.hlevel props) bounded;
  exact = λ places plain. ∥∥₁_map played (λ w. (were-plays spaces k space w s).exact places plain);
  recent = λ places plain. ∥∥₁_map played (λ w. (were-plays spaces k space w s).recent places plain);
}
  where
    both : WerePlayed spaces → Obeys (config_of space) (journal_of space) × IsAdmitted (config_of space) (journal_of space)
    both w = let p = were-plays spaces k space w s in (p.obeys, p.admitted)

    timely : WerePlayed spaces → IsTrue (is_timely_throughout (config_of space) (journal_of space))
    timely w = (were-plays spaces k space w s).timely

    bounded : WerePlayed spaces → IsTrue (is_bounded_throughout (config_of space) (journal_of space))
    bounded w = (were-plays spaces k space w s).bounded

-- the journal of the namespace at a place
pub journal-at : (spaces : List (Space Taped)) (k : ℕ) (space : Space Taped) → slice_get spaces k ≡ Some space → slice_get (journals_of spaces) k ≡ Some (journal_of space)
journal-at spaces k space e = at-mapped journal_of spaces k space e

-- New namespaces.

-- ---- a configuration in range

short : (time : Option ℕ) (ms : ℕ) → IsTrue (is_time time) → time ≡ Some ms → ms ≤ 999999999999
short time ms is at = grind (arith, and_parts, leb-true)

pub brief : (config : Config) → IsTrue (is_served config) → IsBrief config
brief config served =
    let n = nat_le 1 config.parts && nat_le config.parts 256 in
    let a = and_parts (n && is_time config.live_ms && is_time config.idle_ms) (not (config.own_deadlines && is_some config.live_ms)) served in
    let b = and_parts (n && is_time config.live_ms) (is_time config.idle_ms) a.0 in
    let l = and_parts n (is_time config.live_ms) b.0 in
    record { live = λ ms at. short config.live_ms ms l.1 at; idle = λ ms at. short config.idle_ms ms b.1 at }

-- ---- namespaces, made one after another

absent : {X A : Type 0} {x : X} → None ≡ Some x → A
absent e = absurd (none-some _ e)

-- two lists of one length, at each place of which that is true
abbrev AtEach : {X Y : Type 0} → (ℕ → X → Y → Type 0) → List X → List Y → Type 0
AtEach {X} {Y} P xs ys = (k : ℕ) (x : X) (y : Y) → slice_get xs k ≡ Some x → slice_get ys k ≡ Some y → P k x y

each-more : {X Y : Type 0} (P : ℕ → X → Y → Type 0) (xs : List X) (ys : List Y) (x : X) (y : Y) → length xs ≡ length ys → AtEach P xs ys → P (length xs) x y
    → AtEach P (xs ++ x ∷ []) (ys ++ y ∷ [])
each-more P [] [] x y count each p zero u v at_u at_v = subst (λ z. P 0 z v) (same_Some x u at_u) (subst (P 0 x) (same_Some y v at_v) p)
each-more P [] [] x y count each p (suc k) u v at_u at_v = absent at_u
each-more P [] (b ∷ ys) x y count each p k u v at_u at_v = absurd (omega arith)
each-more P (a ∷ xs) [] x y count each p k u v at_u at_v = absurd (omega arith)
each-more P (a ∷ xs) (b ∷ ys) x y count each p zero u v at_u at_v = each zero u v at_u at_v
each-more P (a ∷ xs) (b ∷ ys) x y count each p (suc k) u v at_u at_v =
    each-more (λ j. P (suc j)) xs ys x y (omega arith) (λ j r s at_r at_s. each (suc j) r s at_r at_s) p k u v at_u at_v

-- each is true where all are
pub all-at : {X : Type 0} (p : X → Bool) (xs : List X) (i : ℕ) (d : X) → i < length xs → IsTrue (list_all p xs) → IsTrue (p (get_or xs i d))
all-at p [] i d lt all = absurd (omega arith)
all-at p (x ∷ xs) zero d lt all = (and_parts (p x) (list_all p xs) all).0
all-at p (x ∷ xs) (suc i) d lt all = all-at p xs i d (omega arith) (and_parts (p x) (list_all p xs) all).1

-- the stream of a generator
abbrev pub stream_from : List ℕ → Stream
stream_from generator = stream_of (steps_u64_high plus_plus) generator

module _ {T : Type 0} (tape : T → Option Taped) (blank : Option Taped) where
  -- none yet
  pub new-none : (spaces : List (Space T)) (generator : List ℕ) (made : ℕ) → spaces ≡ [] → AreNewSpaces tape blank spaces [] generator made
  new-none spaces generator made none = record { count = ap length none; each = λ k config space at_c at_s. absent at_c }

  -- the same number and generator
  pub new-so : (space : Space T) (k i : ℕ) (config : Config) (r q : List ℕ) (made : ℕ) → k ≡ i → r ≡ q → IsNewNamespace tape blank space k config r made → IsNewNamespace tape blank space i config q made
  new-so space k i config r q made e f n = subst (λ j. IsNewNamespace tape blank space j config q made) e (subst (λ x. IsNewNamespace tape blank space k config x made) f n)

  -- one namespace more
  pub new-more : (spaces more : List (Space T)) (configs : List Config) (generator : List ℕ) (made i : ℕ) (space : Space T) (d : Config) → i < length configs → length spaces ≡ i
      → AreNewSpaces tape blank spaces (take i configs) generator made → IsNewNamespace tape blank space i (get_or configs i d) (fork_after i generator) made → more ≡ spaces ++ space ∷ [] → AreNewSpaces tape blank more (take (i + 1) configs) generator made
  new-more spaces more configs generator made i space d lt number new added last =
      subst (λ l. AreNewSpaces tape blank l (take (i + 1) configs) generator made) (sym last) (subst (λ l. AreNewSpaces tape blank (spaces ++ space ∷ []) l generator made) (sym one-more) (record {
        count = length-append spaces (space ∷ []) ∙ ap (λ n. n + 1) new.count ∙ sym (length-append (take i configs) (get_or configs i d ∷ []));
        each = λ k c s at_c at_s.
            each-more (λ k s c. IsNewNamespace tape blank s k c (fork_after k generator) made) spaces (take i configs) space (get_or configs i d) new.count (λ j s c at_s at_c. new.each j c s at_c at_s)
            (subst (λ n. IsNewNamespace tape blank space n (get_or configs i d) (fork_after n generator) made) (sym number) added) k s c at_s at_c;
      }))
    where
      one-more : take (i + 1) configs ≡ take i configs ++ get_or configs i d ∷ []
      one-more =
          let e : i + 1 ≡ suc i = omega arith in
          ap (λ k. take k configs) e ∙ take-suc configs i d lt

-- one fork more
pub forked-more : (before generator after : List ℕ) (i : ℕ) → stream_from generator ≡ stream_after_forks i (stream_from before) → stream_from after ≡ (fill_bytes 32 (stream_from generator)).1
    → stream_from after ≡ stream_after_forks (i + 1) (stream_from before)
forked-more before generator after i was is = grind (arith, stream_from)
