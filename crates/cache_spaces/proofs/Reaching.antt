-- Namespaces, shown with what their tapes keep.
use Rattle.std.proofs.Common.{ℕ, ◌≤◌, List, map, Option, sym, ap, ◌∙◌, subst, inl, inr, ◌≡◌, zero, suc, ◌+◌, [], ◌∷◌, length, Some, refl, arith, ◌≢◌, ◌<◌, get_or, ◌++◌, length-append, Vec, Global, slice_set, sum_by, ◌⊎◌, Result, Ok, Err, IfErr, IfOk, OnErr, OnOk, Bool, None, ◌==◌, if◌then◌else◌}
use Rattle.std.proofs.Math.Logic.{∥∥₁_map}
use Rattle.std.proofs.lemmas.Bool.{cases_eq, eq-eqb}
use Rattle.std.proofs.lemmas.List.{length-map, map-set, length-set}
use Rattle.std.proofs.lemmas.List.Sums.{sum_by-cons}
use Rattle.std.proofs.lemmas.Option.{none-some, same_Some, slice_get_within}
use Rattle.std.specs.List.{slice_get}
use Rattle.audit_model.specs.Belongs.{event_in}
use Rattle.audit_model.specs.Situation.{Situation, empty_situation}
use Rattle.audit_model.specs.declared.config.Config.{Config}
use Rattle.audit_model.specs.declared.event.Event.{Event}
use Rattle.audit_model.specs.declared.event.Instant.{Instant}
use Rattle.audit_model.specs.declared.input.Input.{Input}
use Rattle.audit_model.specs.declared.input.LoadId.{LoadId}
use Rattle.audit_model.specs.declared.input.ServiceError.{ServiceError}
use Rattle.audit_model.specs.declared.transcript.Step.{Step}
use Rattle.audit_model.specs.declared.transcript.Transcript.{Transcript}
use Rattle.audit_laws.proofs.Journals.{leads_by-more, obeys-led}
use Rattle.audit_laws.specs.Leading.{LeadsBy, LeadsTo}
use Rattle.audit_laws.specs.Receipts.Answers.{last_is_held, output_with}
use Rattle.audit_laws.specs.declared.receipts.output.Output.{Output}
use Rattle.audit_laws.specs.declared.receipts.output.Output.TheVariants.{All, Held}
use Rattle.cache_commands.specs.Values.{GivesNote}
use Rattle.cache_lines.specs.Ended.{ends_held}
use Rattle.cache_lines.specs.Tape.Taped.{Taped}
use Rattle.cache_core.proofs.connections.Getting.{at-mapped, found-at, set-same}
use Rattle.cache_core.specs.Settling.{answering, giving_up}
use Rattle.cache_core.specs.Turned.{feeding}
use Rattle.cache_spaces.proofs.Journaling.{mapped}
use Rattle.cache_spaces.proofs.Placing.{at-it, at-length, at-others, put-at}
use Rattle.cache_core.specs.Owing.{GivesOwed, GivesWanted}
use Rattle.cache_core.specs.declared.owing.Owed.{Owed}
use Rattle.cache_spaces.specs.Calls.{At, InSpace, RefusedFor, Refuses, TakesLoads, TakesOutput, ServesEvent, Settled, Performs, RefusedInput, is_held_for, namespace_of}
use Rattle.cache_spaces.specs.Journals.{LeadsSo, record_count, IsJournal, IsOneFurther, IsReached, IsWhereItWas}
use Rattle.cache_spaces.specs.Services.{AreNewSpaces}
use Rattle.cache_spaces.specs.Spaces.{Space, StandsFor, shown_space, shown_tape, config_of, part_in, shown_of}
use Rattle.audit_model.specs.declared.input.Input.TheVariants as input
use Rattle.audit_model.specs.declared.input.ServiceError.TheVariants as error
use Rattle.audit_model.specs.declared.event.Event.TheVariants as event

module _ {X Y : Type 0} (f : X → Y) where
  -- what is true of one and another is true of them as they are shown
  pub at-shown : {Fact : X → X → Type 0} {More : Y → Y → Type 0} (old new : List X) (i : ℕ) → ((was is : X) → Fact was is → More (f was) (f is)) → At old new i Fact → At (map f old) (map f new) i More
  at-shown old new i g a = record { was = f a.was; is = f a.is; at = at-mapped f old i a.was a.at; set = ap (map f) a.set ∙ map-set f old i a.is; fact = g a.was a.is a.fact }

  pub in-shown : {Fact : X → Type 0} {More : Y → Type 0} (xs : List X) (i : ℕ) → ((x : X) → Fact x → More (f x)) → InSpace xs i Fact → InSpace (map f xs) i More
  in-shown xs i g a = record { space = f a.space; at = at-mapped f xs i a.space a.at; fact = g a.space a.fact }

  pub refuses-shown : {Cause : X → Type 0} {More : Y → Type 0} (xs : List X) (i : ℕ) (e : ServiceError) → ((x : X) → Cause x → More (f x)) → Refuses xs i e Cause → Refuses (map f xs) i e More
  refuses-shown xs i e g (inl none) = inl (none.0, subst (λ n. n ≤ i) (sym (length-map xs f)) none.1)
  refuses-shown xs i e g (inr a) = inr (in-shown xs i g a)

module _ {T : Type 0} (tape : T → Option Taped) where
  pub stands-shown : (space : Space T) (s : Situation) → StandsFor space s → StandsFor (shown_space tape space) s
  stands-shown space s x = record { held = x.held; stands = x.stands; is = x.is }

  pub stands-hidden : (space : Space T) (s : Situation) → StandsFor (shown_space tape space) s → StandsFor space s
  stands-hidden space s x = record { held = x.held; stands = x.stands; is = x.is }

  pub performs-shown : (i : Input) (output : Output) (was is : Space T) → Performs tape i output was is → Performs shown_tape i output (shown_space tape was) (shown_space tape is)
  performs-shown i output was is p = record {
    from = λ s stands.
        let x = p.from s (stands-hidden was s stands) in
        let t = x.turned in
        record {
          entry = x.entry;
          event = x.event;
          answers = x.answers;
          turned = record {
            next = t.next;
            stands = stands-shown is t.next t.stands;
            follows = t.follows;
            kept = t.kept;
            outputs = t.outputs;
            notes = t.notes;
            closings = t.closings;
            parted = t.parted;
            timely = t.timely;
            bounded = t.bounded;
            draws = t.draws;
            ordered = t.ordered;
          };
        };
    stays = record {
      config = p.stays.config;
      part_of = p.stays.part_of;
      made = p.stays.made;
      namespace = p.stays.namespace;
      taken = p.stays.taken;
      sends = record { loads = p.stays.sends.loads; behind = p.stays.sends.behind; in_turn = p.stays.sends.in_turn; count = p.stays.sends.count; keys = p.stays.sends.keys };
    };
  }

  pub refused-shown : (i : Input) (e : ServiceError) (was : Space T) → RefusedInput i e was → RefusedInput i e (shown_space tape was)
  refused-shown i e was r = record { happened = r.happened; event = r.event; refused = same i r }
    where
      same : (i : Input) (r : RefusedInput i e was) → RefusedFor (shown_space tape was) r.happened (is_held_for (shown_space tape was) i) e
      same (input.Open namespace) r = r.refused
      same (input.Close conn) r = r.refused
      same (input.Feed conn piece moment) r = r.refused
      same (input.Answer load outcome moment) r = r.refused
      same (input.GiveUp load moment) r = r.refused

-- Journals lead to where a service stands, whether or not it keeps them.

-- ---- how many records they have

-- where one of the summands is greater by one, so is the sum
sum-set : {X : Type 0} (f : X → ℕ) (xs : List X) (k : ℕ) (was is : X) → slice_get xs k ≡ Some was → f is ≡ f was + 1 → sum_by f (slice_set xs k is) ≡ sum_by f xs + 1
sum-set f [] k was is at e = absurd (none-some was at)
sum-set f (x ∷ xs) zero was is at e = grind (arith, same_Some, sum_by-cons)
sum-set f (x ∷ xs) (suc k) was is at e = grind (arith, sum_by-cons, sum-set f xs k was is at e)

pub count-more : (old new : List Transcript) (k : ℕ) (was is : Transcript) → slice_get old k ≡ Some was → new ≡ slice_set old k is → length is.records ≡ length was.records + 1 → record_count new ≡ record_count old + 1
count-more old new k was is at set e = ap record_count set ∙ sum-set (λ journal. length journal.records) old k was is at e

-- transcripts that begin at this moment, without records
abbrev pub AreEmpty : Instant → List Transcript → Type 0
AreEmpty made transcripts =
    (namespace : ℕ) (transcript : Transcript) → slice_get transcripts namespace ≡ Some transcript → transcript ≡ record {
      made = made;
      records = [];
    }

-- journals that have just begun have no records
pub count-empty : (made : Instant) (journals : List Transcript) → AreEmpty made journals → record_count journals ≡ 0
count-empty made [] empty = refl
count-empty made (t ∷ ts) empty =
    let h = count-empty made ts (λ k u at. empty (suc k) u at) in
    let z : length t.records ≡ 0 = ap (λ (u : Transcript). length u.records) (empty zero t refl) in
    omega (arith, h, z, sum_by-cons (λ (journal : Transcript). length journal.records) t ts)

-- ---- where they lead

-- journals of that moment without records
empties : {X : Type 0} → Instant → List X → List Transcript
empties made spaces = map (λ space. record { made = made; records = [] }) spaces

empties-at : {X : Type 0} (made : Instant) (spaces : List X) (k : ℕ) (journal : Transcript) → slice_get (empties made spaces) k ≡ Some journal → journal ≡ record { made = made; records = [] }
unfolding empties
empties-at made spaces k journal at = sym (mapped (λ space. record { made = made; records = [] }) spaces k journal at).2

empties-count : {X : Type 0} (made : Instant) (spaces : List X) → length (empties made spaces) ≡ length spaces
unfolding empties
empties-count made spaces = length-map spaces (λ space. record { made = made; records = [] })

-- a journal in the place of another
abbrev put-journal : (journals : List Transcript) (k : ℕ) (t u : Transcript) → slice_get journals k ≡ Some t → At journals (slice_set journals k u) k (λ was is. Unit {0})
put-journal journals k t u at = record { was = t; is = u; at = at; set = refl; fact = tt }

module _ {T : Type 0} where
  -- a journal that leads to where the namespace stands obeys
  pub led-journal : (space : Space T) (journal : Transcript) (led : LeadsSo space journal) → LeadsBy (config_of space) (part_in space) journal led.last → IsJournal space journal
  led-journal space journal led parted =
      let o = obeys-led (config_of space) (part_in space) journal led.last parted in
      record { obeys = o.0; admitted = o.1; leads = led; parted = parted }

  -- ---- one namespace changes

  reached-set : (F : Space T → Space T → Type 0) (old new : List (Space T)) (k n m : ℕ) (w : IsReached old n) (a : At old new k F) (t u : Transcript)
      → slice_get w.journals k ≡ Some t → IsJournal a.is u → record_count (slice_set w.journals k u) ≡ m → IsReached new m
  reached-set F old new k n m w a t u at is_led records = record {
    journals = slice_set w.journals k u;
    are = record {
      count = length-set w.journals k u ∙ w.are.count ∙ sym (at-length old new k a);
      each = λ j space journal s c. go j space journal s c (cases_eq j k);
    };
    count = records;
  }
    where
      go : (j : ℕ) (space : Space T) (journal : Transcript) → slice_get new j ≡ Some space → slice_get (slice_set w.journals k u) j ≡ Some journal → (j ≡ k) ⊎ (j ≢ k) → IsJournal space journal
      go j space journal s c (inl here) =
          let is = at-it old new k a space (ap (slice_get new) (sym here) ∙ s) in
          let same : u ≡ journal = at-it w.journals (slice_set w.journals k u) k (put-journal w.journals k t u at) journal (ap (slice_get (slice_set w.journals k u)) (sym here) ∙ c) in
          subst (λ x. IsJournal x journal) is (subst (IsJournal a.is) same is_led)
      go j space journal s c (inr ne) = w.are.each j space journal (sym (at-others old new k j a ne) ∙ s) (sym (at-others w.journals (slice_set w.journals k u) k j (put-journal w.journals k t u at) ne) ∙ c)

  -- the journal of that namespace
  journal-there : (F : Space T → Space T → Type 0) (old new : List (Space T)) (k n : ℕ) (w : IsReached old n) → At old new k F → (t : Transcript) × (slice_get w.journals k ≡ Some t)
  journal-there F old new k n w a =
      let lt = slice_get_within old k a.was a.at in
      found-at w.journals k (let e = w.are.count in omega arith)

  -- the namespace stands for the same, made as it was
  pub record IsStill (was is : Space T) : Type 0 where
    pub stands : (s : Situation) → StandsFor was s → StandsFor is s
    pub config : config_of is ≡ config_of was
    pub part_of : part_in is ≡ part_in was

  reached-still : (F : Space T → Space T → Type 0) (k : ℕ) (old new : List (Space T)) (n : ℕ) → ((x y : Space T) → F x y → IsStill x y) → At old new k F → IsReached old n → IsReached new n
  reached-still F k old new n still a w =
      let t = journal-there F old new k n w a in
      let h = w.are.each k a.was t.0 a.at t.1 in
      let e = still a.was a.is a.fact in
      let led : LeadsSo a.is t.0 = record { last = h.leads.last; stands = e.stands h.leads.last h.leads.stands; leads = subst (λ c. LeadsTo c t.0 h.leads.last) (sym e.config) h.leads.leads } in
      reached-set F old new k n n w a t.0 t.0 t.1
      (led-journal a.is t.0 led (subst (λ m. LeadsBy (config_of a.is) m t.0 h.leads.last) (sym e.part_of) (subst (λ c. LeadsBy c (part_in a.was) t.0 h.leads.last) (sym e.config) h.parted)))
      (ap record_count (set-same w.journals k t.0 t.1) ∙ w.count)

  pub still-text : (was is : Space T) (outputs : List (List ℕ)) → is ≡ record was { outputs = outputs } → IsStill was is
  still-text was is outputs e = subst (IsStill was) (sym e) (record { stands = λ s x. record { held = x.held; stands = x.stands; is = x.is }; config = refl; part_of = refl })

  pub still-loads : (was is : Space T) → is ≡ record was { outgoing = [] } → IsStill was is
  still-loads was is e = subst (IsStill was) (sym e) (record { stands = λ s x. record { held = x.held; stands = x.stands; is = x.is }; config = refl; part_of = refl })

  pub still-note : (was is : Space T) → GivesNote (shown_of was.store) (shown_of is.store) → is ≡ record was { store = is.store } → IsStill was is
  still-note was is gives e =
      let frame = gives.frame in
      subst (IsStill was) (sym e) (record {
        stands = λ s x. record {
          held = x.held;
          stands = gives.stands x.held x.stands;
          is = x.is ∙ ap (λ d. record { latest = was.latest; opened = length was.closings; sent = was.sent; connections = was.connections; pending = was.pending; held = x.held; dropped = d }) (sym (ap (λ f. f.dropped) frame));
        };
        config = ap (λ f. f.config) frame;
        part_of = ap (λ f. f.part_of) frame;
      })

  -- replies were taken, or were not
  pub still-output : (was is : Space T) (number : ℕ) (r : Result (Vec ℕ Global) ServiceError) → IfOk r (λ text. TakesOutput was is number text.items) → IfErr r (λ e. (e ≡ error.NoConnection) × (is ≡ was)) → IsStill was is
  still-output was is number (Ok text) t same = still-text was is _ t.rest
  still-output was is number (Err e) t same = subst (IsStill was) (sym same.1) (record { stands = λ s x. x; config = refl; part_of = refl })

  still-wanted : (was is : Space T) (outputs : List (List ℕ)) (loads : Option (List (LoadId × List ℕ))) → GivesWanted (record was { outputs = outputs }) is loads → IsStill was is
  still-wanted was is outputs None e = still-text was is outputs e
  still-wanted was is outputs (Some loads) gives = subst (IsStill was) (sym gives.rest) (record { stands = λ s x. record { held = x.held; stands = x.stands; is = x.is }; config = refl; part_of = refl })

  pub still-owed : (was is : Space T) (number : ℕ) (wants : Bool) (r : Result Owed ServiceError) → IfOk r (GivesOwed shown_of was is number wants) → IfErr r (λ e. (e ≡ error.NoConnection) × (is ≡ was)) → IsStill was is
  still-owed was is number wants (Ok owed) gives same = still-wanted was is _ _ gives.loads
  still-owed was is number wants (Err e) gives same = subst (IsStill was) (sym same.1) (record { stands = λ s x. x; config = refl; part_of = refl })

  -- one that stands for the same was put in the place of another
  pub put-still : (seen xs : List (Space T)) (e : xs ≡ seen) (k : ℕ) (was : Space T) (lt : k < length xs) (here : was ≡ get_or xs k was) (is : Space T) → IsStill was is → IsWhereItWas seen (slice_set xs k is)
  put-still seen xs e k was lt here is still = λ n w. ∥∥₁_map w (reached-still IsStill k seen (slice_set xs k is) n (λ x y s. s) (put-at seen xs e k was lt here IsStill is still))

  -- loads were taken, or were not
  pub reached-loads : (k : ℕ) (old new : List (Space T)) (r : Result (Vec (LoadId × List ℕ) Global) ServiceError) → IfOk r (λ loads. At old new k (λ was is. TakesLoads was is loads.items)) → OnErr r (new ≡ old) → IsWhereItWas old new
  reached-loads k old new (Ok loads) a same = λ n w. ∥∥₁_map w (reached-still (λ was is. TakesLoads was is loads.items) k old new n (λ x y t. still-loads x y t.rest) a)
  reached-loads k old new (Err e) a same = λ n w. subst (λ x. ∥ IsReached x n ∥₁) (sym same) w

module _ {T : Type 0} (tape : T → Option Taped) where
  -- nothing has come yet
  pub reached-none : (blank : Option Taped) (configs : List Config) (generator : List ℕ) (moment : Instant) (spaces : List (Space T)) → AreNewSpaces tape blank spaces configs generator moment.nanos → IsReached spaces 0
  reached-none blank configs generator moment spaces new = record {
    journals = empties moment spaces;
    are = record {
      count = empties-count moment spaces;
      each = λ k space journal s j.
          let lt = slice_get_within spaces k space s in
          let config = found-at configs k (let e = new.count in omega arith) in
          let n = new.each k config.0 space config.1 s in
          let e = empties-at moment spaces k journal j in
          subst (IsJournal space) (sym e)
          (led-journal space _ (record { last = empty_situation moment.nanos; stands = n.stands; leads = refl }) (record { leads = refl; parted = refl }));
    };
    count = count-empty moment (empties moment spaces) (empties-at moment spaces);
  }

  -- an input was taken
  pub reached-more : (i : Input) (output : Output) (old new : List (Space T)) (n : ℕ) → At old new (namespace_of i) (Performs tape i output) → IsReached old n → IsReached new (n + 1)
  reached-more i output old new n a w =
      let k = namespace_of i in
      let t = journal-there (Performs tape i output) old new k n w a in
      let h = w.are.each k a.was t.0 a.at t.1 in
      let p = a.fact.from h.leads.last h.leads.stands in
      let config = a.fact.stays.config in
      let last = p.turned.next in
      let u : Transcript = record { made = t.0.made; records = t.0.records ++ p.entry ∷ [] } in
      let more : LeadsBy (config_of a.was) (part_in a.was) u last =
      leads_by-more (config_of a.was) (part_in a.was) t.0.made t.0.records p.entry h.leads.last last h.parted p.turned.follows p.turned.parted in
      reached-set (Performs tape i output) old new k n (n + 1) w a t.0 u t.1
      (led-journal a.is u (record { last = last; stands = p.turned.stands; leads = subst (λ c. LeadsTo c u last) (sym config) more.leads })
      (subst (λ m. LeadsBy (config_of a.is) m u last) (sym a.fact.stays.part_of) (subst (λ c. LeadsBy c (part_in a.was) u last) (sym config) more)))
      (count-more w.journals (slice_set w.journals k u) k t.0 u t.1 refl (length-append t.0.records (p.entry ∷ [])) ∙ ap (λ c. c + 1) w.count)

  pub reached-result : {E : Type 0} (i : Input) (r : Result Output E) (old new : List (Space T)) → IfOk r (λ output. At old new (namespace_of i) (Performs tape i output)) → OnOk r (IsOneFurther old new)
  reached-result i (Ok output) old new a = λ n w. ∥∥₁_map w (reached-more i output old new n a)
  reached-result i (Err e) old new taken = taken

  -- ---- the same namespaces, as they are shown

  pub reached-shown : (spaces : List (Space T)) (n : ℕ) → IsReached spaces n → IsReached (map (shown_space tape) spaces) n
  reached-shown spaces n w = record {
    journals = w.journals;
    are = record {
      count = w.are.count ∙ sym (length-map spaces (shown_space tape));
      each = λ k space journal s j.
          let x = mapped (shown_space tape) spaces k space s in
          let h = w.are.each k x.0 journal x.1 j in
          subst (λ v. IsJournal v journal) x.2
          (led-journal (shown_space tape x.0) journal (record { last = h.leads.last; stands = stands-shown tape x.0 h.leads.last h.leads.stands; leads = h.leads.leads }) h.parted);
    };
    count = w.count;
  }

  pub reached-hidden : (spaces : List (Space T)) (n : ℕ) → IsReached (map (shown_space tape) spaces) n → IsReached spaces n
  reached-hidden spaces n w = record {
    journals = w.journals;
    are = record {
      count = w.are.count ∙ length-map spaces (shown_space tape);
      each = λ k space journal s j.
          let h = w.are.each k (shown_space tape space) journal (at-mapped (shown_space tape) spaces k space s) j in
          led-journal space journal (record { last = h.leads.last; stands = stands-hidden tape space h.leads.last h.leads.stands; leads = h.leads.leads }) h.parted;
    };
    count = w.count;
  }

  pub where-shown : (old new : List (Space T)) → IsWhereItWas old new → IsWhereItWas (map (shown_space tape) old) (map (shown_space tape) new)
  where-shown old new still n w = ∥∥₁_map (still n (∥∥₁_map w (reached-hidden old n))) (reached-shown new n)

-- Calls, and the inputs that they take.

-- a namespace's number is its own
own-number : (n : ℕ) (o : Option Event) → (if n == n then o else None) ≡ o
own-number n o = ap (λ b. if b then o else None) (eq-eqb n n refl)

held-last : (steps : List Step) → last_is_held steps ≡ ends_held steps
held-last [] = refl
held-last (step ∷ []) = refl
held-last (step ∷ next ∷ steps) = held-last (next ∷ steps)

-- ---- what the inputs ask for

-- the event of an input, where so many connections were opened
abbrev pub event_of : ℕ → Input → Event
event_of opened (input.Open n) = event.Open (suc opened)
event_of opened (input.Close conn) = event.Close conn.number
event_of opened (input.Feed conn piece moment) = feeding conn.number piece moment.nanos
event_of opened (input.Answer load outcome moment) = answering load.number outcome moment.nanos
event_of opened (input.GiveUp load moment) = giving_up load.number moment.nanos

pub asked : (opened : ℕ) (i : Input) → event_in (namespace_of i) opened i ≡ Some (event_of opened i)
asked opened (input.Open n) = own-number n _
asked opened (input.Close conn) = own-number conn.namespace _
asked opened (input.Feed conn piece moment) = own-number conn.namespace _
asked opened (input.Answer load outcome moment) = own-number load.namespace _
asked opened (input.GiveUp load moment) = own-number load.namespace _

-- and there is no other
pub asked-is : (opened : ℕ) (i : Input) (happened : Event) → event_in (namespace_of i) opened i ≡ Some happened → event_of opened i ≡ happened
asked-is opened i happened e = same_Some (event_of opened i) happened (sym (asked opened i) ∙ e)

-- ---- what they come to

pub comes-fed : (is_held : Bool) (steps : List Step) → ends_held steps ≡ is_held → (if is_held then Held else All) ≡ (if last_is_held steps then Held else All)
comes-fed is_held steps e = sym (ap (λ b. if b then Held else All) (held-last steps ∙ e))

module _ {T : Type 0} (tape : T → Option Taped) (i : Input) (was is : Space T) (output : Output) where
  pub serves-performs : (is_held : Bool) → ((steps : List Step) → ends_held steps ≡ is_held → output ≡ output_with (namespace_of i) (event_of (length was.closings) i) steps)
      → ServesEvent tape was is (event_of (length was.closings) i) is_held → Performs tape i output was is
  serves-performs is_held comes t = record {
    from = λ s stands.
        let x = t.turned s stands in
        record {
          entry = x.0;
          event = asked (length was.closings) i ∙ ap Some (sym x.1.event_is);
          answers = comes x.0.steps x.1.ends ∙ sym (ap (λ ev. output_with (namespace_of i) ev x.0.steps) x.1.event_is);
          turned = x.2;
        };
    stays = t.stays;
  }

  pub settled-performs : ((steps : List Step) → output ≡ output_with (namespace_of i) (event_of (length was.closings) i) steps) → Settled tape was is (event_of (length was.closings) i) → Performs tape i output was is
  settled-performs comes t = record {
    from = λ s stands.
        let x = t.turned s stands in
        record {
          entry = x.0;
          event = asked (length was.closings) i ∙ ap Some (sym x.1);
          answers = comes x.0.steps ∙ sym (ap (λ ev. output_with (namespace_of i) ev x.0.steps) x.1);
          turned = x.2;
        };
    stays = t.stays;
  }

-- the input's event is refused so
pub refused-input : {T : Type 0} (i : Input) (e : ServiceError) (was : Space T) → RefusedFor was (event_of (length was.closings) i) (is_held_for was i) e → RefusedInput i e was
refused-input i e was refused = record { happened = event_of (length was.closings) i; event = asked (length was.closings) i; refused = refused }
