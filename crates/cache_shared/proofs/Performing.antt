-- What a service does with an input and with what is taken of it, as its namespaces are seen whatever their tapes are.
use Rattle.std.proofs.Common.{◌≡◌, ℕ, ◌+◌, ◌≤◌, Bool, true, false, List, [], length, length-append, map, Option, Some, refl, sym, ap, ◌∙◌, subst, arith, inl, inr, Vec, Global, ◌++◌, None}
use Rattle.std.specs.Prelude.{slice_set, Result, Ok, Err, OnOk, OnErr, IfOk, IfErr, if◌then◌else◌, IsNone}
use Rattle.std.specs.Option.{option_map_or, option_to_list}
use Rattle.std.proofs.Math.Logic.{∥∥₁_map}
use Rattle.std.proofs.lemmas.List.{length-map, map-set}
use Rattle.std.proofs.lemmas.Option.{same_Some, slice_get_within}
use Rattle.std.proofs.lemmas.Bool.{eq-eqb}
use Rattle.audit_model.specs.declared.config.Config.{Config}
use Rattle.audit_model.specs.declared.event.Instant.{Instant}
use Rattle.audit_model.specs.declared.input.Input.{Input}
use Rattle.audit_model.specs.declared.input.LoadId.{LoadId}
use Rattle.audit_model.specs.declared.input.ServiceError.{ServiceError}
use Rattle.audit_model.specs.declared.transcript.Record.{Record}
use Rattle.audit_model.specs.declared.transcript.Transcript.{Transcript}
use Rattle.audit_laws.specs.declared.receipts.output.Output.{Output}
use Rattle.cache_core.proofs.connections.Getting.{found-at, set-same}
use Rattle.cache_spaces.proofs.Journaling.{journal-at, mapped}
use Rattle.cache_spaces.proofs.Placing.{at-is}
use Rattle.cache_spaces.proofs.Reaching.{count-empty, count-more, reached-none, reached-shown, at-shown, in-shown, refused-shown, refuses-shown}
use Rattle.cache_shared.specs.Looked.{RefusesCopy}
use Rattle.cache_spaces.specs.Services.{BareSpace, bare_tape, AreNewSpaces, blank_tape}
use Rattle.cache_spaces.specs.Calls.{At, InSpace, IsOpened, IsUnknown, Refuses, TakesLoads, TakesNotice, Performs, RefusedInput, namespace_of}
use Rattle.cache_spaces.specs.Journals.{journals_of, kept_by, IsReached, record_count}
use Rattle.cache_spaces.specs.Played.{journal_of}
use Rattle.cache_spaces.specs.Recorded.{GainsRecord, Recorded, gained_in, records_in}
use Rattle.cache_spaces.specs.Spaces.{Shown, Space, shown_space, untaken_notes}
use Rattle.cache_spaces.specs.declared.stepping.Refusal.{Refusal}
use Rattle.cache_shared.specs.Recordings.{bare_spaces, no_journals, journals_in, spaces_in}
use Rattle.cache_shared.specs.Events.{CountsRecord, StandsAfter, KeepsStanding, configs_of}
use Rattle.cache_shared.proofs.Configured.{configs-new, configs-shown}
use Rattle.cache_lines.specs.Tape.Taped.{Taped}
use Rattle.audit_model.specs.declared.transcript.Note.{Note}
use Rattle.audit_model.specs.declared.input.ServiceError.TheVariants as error

module _ {T : Type 0} (tape : T → Option Taped) where
  pub refused : {A : Type 0} (i : Input) (r : Result A Refusal) (old : List (Space T)) → IfErr r (λ refusal. Refuses old (namespace_of i) refusal.error (RefusedInput i refusal.error))
      → IfErr r (λ refusal. Refuses (map (shown_space tape) old) (namespace_of i) refusal.error (RefusedInput i refusal.error))
  refused i (Ok a) old cause = cause
  refused i (Err refusal) old cause = refuses-shown (shown_space tape) old (namespace_of i) refusal.error (λ was c. refused-shown tape i refusal.error was c) cause

  -- takings and looks

  pub loads-shown : (n : ℕ) (old new : List (Space T)) (r : Result (Vec (LoadId × List ℕ) Global) ServiceError) → IfOk r (λ loads. At old new n (λ was is. TakesLoads was is loads.items))
      → IfOk r (λ loads. At (map (shown_space tape) old) (map (shown_space tape) new) n (λ was is. TakesLoads was is loads.items))
  loads-shown n old new (Ok loads) taken = at-shown (shown_space tape) old new n (λ was is t. record { taken = t.taken; rest = ap (shown_space tape) t.rest; in_turn = t.in_turn; keys = t.keys }) taken
  loads-shown n old new (Err e) taken = taken

  pub none-shown : {A : Type 0} (n : ℕ) (old : List (Space T)) (r : Result A ServiceError) → IfErr r (λ e. (e ≡ error.NoNamespace) × (length old ≤ n)) → IfErr r (λ e. (e ≡ error.NoNamespace) × (length (map (shown_space tape) old) ≤ n))
  none-shown n old (Ok a) cause = cause
  none-shown n old (Err e) cause = (cause.0, subst (λ k. k ≤ n) (sym (length-map old (shown_space tape))) cause.1)

  pub look-shown : {A : Type 0} (of : Space T → A) (seen : Shown → A) (n number : ℕ) (spaces : List (Space T)) (r : Result A ServiceError) → ((x : Space T) → seen (shown_space tape x) ≡ of x)
      → IfOk r (λ a. InSpace spaces n (λ space. IsOpened space number × (a ≡ of space))) → IfOk r (λ a. InSpace (map (shown_space tape) spaces) n (λ space. IsOpened space number × (a ≡ seen space)))
  look-shown of seen n number spaces (Ok a) same looked = in-shown (shown_space tape) spaces n (λ x p. (p.0, p.1 ∙ sym (same x))) looked
  look-shown of seen n number spaces (Err e) same looked = looked

  -- a refusal, where its cause is seen whatever the tape is
  pub cause-shown : {A : Type 0} (Cause : ServiceError → Space T → Type 0) (More : ServiceError → Shown → Type 0) (n : ℕ) (spaces : List (Space T)) (r : Result A ServiceError)
      → ((e : ServiceError) (x : Space T) → Cause e x → More e (shown_space tape x)) → IfErr r (λ e. Refuses spaces n e (Cause e)) → IfErr r (λ e. Refuses (map (shown_space tape) spaces) n e (More e))
  cause-shown Cause More n spaces (Ok a) more cause = cause
  cause-shown Cause More n spaces (Err e) more cause = refuses-shown (shown_space tape) spaces n e (more e) cause

  pub unknown-shown : (number : ℕ) (e : ServiceError) (x : Space T) → IsUnknown x number e → IsUnknown (shown_space tape x) number e
  unknown-shown number e x u = record { unknown = u.unknown; error = u.error }

  pub copy-shown : (number : ℕ) (e : ServiceError) (x : Space T) → RefusesCopy x number e → RefusesCopy (shown_space tape x) number e
  copy-shown number e x (inl u) = inl (unknown-shown number e x u)
  copy-shown number e x (inr full) = inr full

-- a record that one namespace gains is one record more
counts-one : (i : Input) (output : Output) (old new : Recorded) → At old.spaces new.spaces (namespace_of i) (Performs kept_by i output) → GainsRecord (namespace_of i) old new
    → record_count (journals_of new.spaces) ≡ record_count (journals_of old.spaces) + 1
counts-one i output old new a gains =
    let k = namespace_of i in
    let was-at = journal-at old.spaces k a.was a.at in
    let is-at = journal-at new.spaces k a.is (at-is (Performs kept_by i output) old.spaces new.spaces k a) in
    let was = ap (λ (o : Option Transcript). option_map_or (λ (t : Transcript). t.records) o []) was-at in
    let is = ap (λ (o : Option Transcript). option_map_or (λ (t : Transcript). t.records) o []) is-at in
    let one : length (gained_in old new k) ≡ 1 = gains.one k ∙ ap (λ (b : Bool). if b then 1 else 0) (eq-eqb k k refl) in
    let len = ap length (sym is ∙ gains.journals k) ∙ length-append (records_in old k) (gained_in old new k) in
    count-more (journals_of old.spaces) (journals_of new.spaces) k (journal_of a.was) (journal_of a.is) was-at (ap journals_of a.set ∙ map-set journal_of old.spaces k a.is)
    (len ∙ ap (λ n. length (records_in old k) + n) one ∙ ap (λ (l : List Record). length l + 1) was)

pub counts : {E : Type 0} (i : Input) (r : Result Output E) (old new : Recorded) → IfOk r (λ output. At old.spaces new.spaces (namespace_of i) (Performs kept_by i output)) → OnOk r (GainsRecord (namespace_of i) old new)
    → OnOk r (CountsRecord (journals_of old.spaces) (journals_of new.spaces))
counts i (Ok output) old new taken gains = counts-one i output old new taken gains
counts i (Err e) old new taken gains = taken

-- a service just made has no records
counts-none : (configs : List Config) (generator : List ℕ) (made : Instant) (spaces : List (Space Taped)) → AreNewSpaces kept_by (Some (blank_tape made)) spaces configs generator made.nanos → record_count (journals_of spaces) ≡ 0
counts-none configs generator made spaces new = count-empty made (journals_of spaces) (λ k journal at.
    let x = mapped journal_of spaces k journal at in
    let lt = slice_get_within spaces k x.0 x.1 in
    let config = found-at configs k (let e = new.count in omega (arith, e, lt)) in
    sym x.2 ∙ ap (λ (t : Taped). t.journal) (same_Some x.0.tape (blank_tape made) (new.each k config.0 x.0 config.1 x.1).taped))

-- services just made, without inputs
pub unused-kept : (configs : List Config) (generator : List ℕ) (made : Instant) (recorded : Recorded) → AreNewSpaces kept_by (Some (blank_tape made)) recorded.spaces configs generator made.nanos → StandsAfter true configs spaces_in journals_in 0 recorded
unused-kept configs generator made recorded new = record {
  reached = record {
    led = ∣ reached-shown kept_by recorded.spaces 0 (reached-none kept_by (Some (blank_tape made)) configs generator made recorded.spaces new) ∣₁;
    configured = configs-shown kept_by recorded.spaces ∙ configs-new kept_by (Some (blank_tape made)) recorded.spaces configs generator made.nanos new;
  };
  counted = λ kept. counts-none configs generator made recorded.spaces new;
}

pub unused-bare : (configs : List Config) (generator : List ℕ) (made : ℕ) (spaces : List BareSpace) → AreNewSpaces bare_tape None spaces configs generator made → ∥ IsReached spaces 0 ∥₁ → StandsAfter false configs bare_spaces no_journals 0 spaces
unused-bare configs generator made spaces new none = record {
  reached = record {
    led = ∥∥₁_map none (reached-shown bare_tape spaces 0);
    configured = configs-shown bare_tape spaces ∙ configs-new bare_tape None spaces configs generator made new;
  };
  counted = λ kept. refl;
}

-- loads that are taken leave the journals
pub loads-leave : (n : ℕ) (old new : List (Space Taped)) (r : Result (Vec (LoadId × List ℕ) Global) ServiceError) → IfOk r (λ loads. At old new n (λ was is. TakesLoads was is loads.items)) → OnErr r (new ≡ old)
    → journals_of new ≡ journals_of old
loads-leave n old new (Ok loads) a same =
    ap journals_of a.set ∙ map-set journal_of old n a.is ∙ ap (λ x. slice_set (journals_of old) n (journal_of x)) a.fact.rest ∙ set-same (journals_of old) n (journal_of a.was) (journal-at old n a.was a.at)
loads-leave n old new (Err e) a same = ap journals_of same

-- ---- notes of a service that keeps no journal

pub first-note : (note : Option Note) (was is : BareSpace) → TakesNotice was is note → untaken_notes was ≡ option_to_list note ++ untaken_notes is
first-note None was is t = t.taken.0 ∙ sym t.taken.1
first-note (Some note) was is t = t.taken

pub no-note : (note : Option Note) (was is : BareSpace) → TakesNotice was is note → IsNone note → untaken_notes was ≡ []
no-note None was is t none = t.taken.0
no-note (Some note) was is t none = absurd (let h : true ≡ false = none in cc)

pub untold-refused : (n : ℕ) (old : List BareSpace) (r : Result (Option Note) ServiceError) → IfErr r (λ e. (e ≡ error.NoNamespace) × (length old ≤ n))
    → IfErr r (λ e. Refuses (map (shown_space bare_tape) old) n e (λ space. e ≡ error.OutOfMemory))
untold-refused n old (Ok told) refused = refused
untold-refused n old (Err e) refused = inl (refused.0, subst (λ k. k ≤ n) (sym (length-map old (shown_space bare_tape))) refused.1)

-- ---- what is taken of a recording service

-- where the namespaces are as they were, the service stands where it did
keeps : (old new : Recorded) → new.spaces ≡ old.spaces → KeepsStanding spaces_in journals_in old new
keeps old new same = (ap journals_of same, λ n w. subst (λ spaces. ∥ IsReached (map (shown_space kept_by) spaces) n ∥₁) (sym same) w, ap (λ spaces. configs_of (map (shown_space kept_by) spaces)) same)

pub keeps-standing : {A E : Type 0} (r : Result A E) (old new : Recorded) → OnOk r (new.spaces ≡ old.spaces) → OnErr r (new ≡ old) → KeepsStanding spaces_in journals_in old new
keeps-standing (Ok a) old new taken same = keeps old new taken
keeps-standing (Err e) old new taken same = keeps old new (ap (λ (x : Recorded). x.spaces) same)
