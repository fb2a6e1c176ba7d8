-- What a step adds to a journal, the connection that it opens and its cursor, and what is left to be taken then.
use Rattle.std.proofs.Common.{◌≡◌, ◌≢◌, ℕ, zero, suc, ◌+◌, ◌==◌, List, [], ◌∷◌, ◌++◌, length, get_or, drop, Some, refl, sym, ap, ◌∙◌, subst, inl, inr, arith, ◌<◌, ◌≤◌, Bool, true, false, map, ◌⊎◌, Result, Ok, Err, IfOk, OnErr, OnOk, if◌then◌else◌, slice_set, unwrap_or, Option, None}
use Rattle.std.specs.List.{flat_map, slice_get}
use Rattle.std.specs.Option.{option_map, option_map_or}
use Rattle.std.proofs.Math.Logic.{∥∥₁_elim, ∥∥₁_map}
use Rattle.std.proofs.Math.Seq.{drop-append_seam}
use Rattle.std.proofs.Props.{props}
use Rattle.std.proofs.lemmas.Bool.{cases_eq, eq-eqb, ne_eqb, and_parts, leb-true, ltb-true}
use Rattle.std.proofs.lemmas.List.{append-nil, drop-append-le, length-append, map-set}
use Rattle.std.proofs.lemmas.List.Concat.{flat_map-append}
use Rattle.std.proofs.lemmas.Option.{same_Some, slice_get-map, slice_get_within}
use Rattle.audit_laws.specs.declared.receipts.output.Output.{Output}
use Rattle.audit_model.specs.declared.input.Input.{Input}
use Rattle.audit_model.specs.declared.transcript.Record.{Record}
use Rattle.audit_model.specs.declared.transcript.Transcript.{Transcript}
use Rattle.cache_spaces.specs.Calls.{At, InSpace, IsOpened, Performs, namespace_of, PerformsFrom}
use Rattle.cache_spaces.specs.Journals.{IsJournalOf, IsSoOfEach, journals_of, kept_by}
use Rattle.cache_spaces.specs.Cursors.{notes_from, IsPlaceIn, Cursor, taken_through, cursor_of, records_at, replies_for, reply_for}
use Rattle.cache_spaces.specs.Played.{WerePlayed, journal_of}
use Rattle.cache_spaces.specs.Recorded.{GainsRecord, ReadsJournals, ReadsWithin, Recorded, cursor_in, gained_in, records_in, AreAtStart, HaveCursors, KeepsTaken, recorded_of}
use Rattle.cache_spaces.specs.Spaces.{Space, StandsFor}
use Rattle.cache_spaces.proofs.Journaling.{journal-at, step-length, were-at, were-journals, were-on}
use Rattle.cache_spaces.proofs.Reading.{notes-added, place-added, same-read, same-seen}
use Rattle.cache_spaces.proofs.Placing.{at-is, at-others}
use Rattle.cache_lines.specs.Tape.Taped.{Taped, with_entry}
use Rattle.audit_laws.proofs.Following.{Passed, passed}
use Rattle.audit_model.specs.Bytewise.{is_empty}
use Rattle.audit_model.specs.Changes.{after_step, connection_after, join_by, join_load}
use Rattle.audit_model.specs.Commands.{quits}
use Rattle.audit_model.specs.Follows.{Follows, after_event, after_steps, placed_step_in, tasks_in}
use Rattle.audit_model.specs.History.{Effect}
use Rattle.audit_model.specs.Loads.{key_loaded}
use Rattle.audit_model.specs.Places.{due, first_due, left_after, steps_of}
use Rattle.audit_model.specs.Situation.{Connection, Situation, connection_in, may_run_in, with_connection}
use Rattle.audit_model.specs.Steps.{Task, Store, is_right}
use Rattle.audit_model.specs.Stream.{is_waiting}
use Rattle.audit_model.specs.declared.config.Config.{Config}
use Rattle.audit_model.specs.declared.event.Event.{Event}
use Rattle.audit_model.specs.declared.event.Instant.{Instant}
use Rattle.audit_model.specs.declared.transcript.Step.{Step}
use Rattle.cache_core.specs.State.{at_number}
use Rattle.cache_core.proofs.connections.Getting.{at-mapped, at-place, found-at, map-same}
use Rattle.cache_spaces.specs.Services.{AreNewSpaces, blank_tape}
use Rattle.cache_spaces.specs.declared.cursors.Cursors.{Cursors}
use Rattle.cache_spaces.proofs.Reaching.{asked-is, event_of}
use Rattle.audit_model.specs.declared.event.Event.TheVariants as event
use Rattle.audit_model.specs.declared.input.Input.TheVariants as input

-- ---- records

-- the records of the namespace at a place
records-is : (spaces : List (Space Taped)) (k : ℕ) (space : Space Taped) → slice_get spaces k ≡ Some space → records_at (journals_of spaces) k ≡ (journal_of space).records
records-is spaces k space at = ap (λ o. option_map_or (λ (t : Transcript). t.records) o []) (journal-at spaces k space at)

-- where the same stands, they are the same
records-same : (old new : List (Space Taped)) (k : ℕ) → slice_get new k ≡ slice_get old k → records_at (journals_of new) k ≡ records_at (journals_of old) k
records-same old new k same =
    ap (λ o. option_map_or (λ (t : Transcript). t.records) o []) (slice_get-map journal_of new k ∙ ap (option_map journal_of) same ∙ sym (slice_get-map journal_of old k))

-- records stand behind those of a namespace, as many as that
record Adds (old new : List (Space Taped)) (k count : ℕ) : Type 0 where
  added : List Record
  behind : records_at (journals_of new) k ≡ records_at (journals_of old) k ++ added
  counted : length added ≡ count

adds-none : (old new : List (Space Taped)) (k : ℕ) → records_at (journals_of new) k ≡ records_at (journals_of old) k → Adds old new k 0
adds-none old new k e = record { added = []; behind = e ∙ sym (append-nil (records_at (journals_of old) k)); counted = refl }

-- a step adds a record in its namespace
adds-one : (i : Input) (output : Output) (old new : List (Space Taped)) → WerePlayed old → At old new (namespace_of i) (Performs kept_by i output) → (k : ℕ) → Adds old new k (if k == namespace_of i then 1 else 0)
adds-one i output old new w a k = go (cases_eq k (namespace_of i))
  where
    n : ℕ
    n = namespace_of i

    go : (k ≡ n) ⊎ (k ≢ n) → Adds old new k (if k == n then 1 else 0)
    go (inl here) =
        let h = were-at old n a.was w a.at in
        let p = a.fact.from h.last h.stands in
        let journal : journal_of a.is ≡ with_entry p.entry (journal_of a.was) = ap (λ (x : Taped). x.journal) (same_Some a.is.tape _ p.turned.kept) in
        let behind : records_at (journals_of new) n ≡ records_at (journals_of old) n ++ p.entry ∷ [] =
        records-is new n a.is (at-is (Performs kept_by i output) old new n a) ∙ ap (λ (x : Transcript). x.records) journal ∙ ap (λ rs. rs ++ p.entry ∷ []) (sym (records-is old n a.was a.at)) in
        subst (λ b. Adds old new k (if b then 1 else 0)) (sym (eq-eqb k n here)) (subst (λ m. Adds old new m 1) (sym here) (record { added = p.entry ∷ []; behind = behind; counted = refl }))
    go (inr ne) =
        subst (λ b. Adds old new k (if b then 1 else 0)) (sym (ne_eqb k n ne))
        (adds-none old new k (records-same old new k (at-others old new n k a ne)))

-- what was read stands in the longer journals too
reads-on : (old new : List (Space Taped)) (cursors : List Cursor) (count : ℕ → ℕ) → ((k : ℕ) → Adds old new k (count k))
    → ReadsJournals (record { spaces = old; cursors = cursors }) → ReadsJournals (record { spaces = new; cursors = cursors })
reads-on old new cursors count adds reads k =
    let a = adds k in
    let was = reads k in
    let records : List Record = records_at (journals_of old) k in
    subst (λ rs. ReadsWithin rs (cursor_in (record { spaces = new; cursors = cursors }) k)) (sym a.behind) (record {
      replies = λ number. let le = was.replies number in let e = length-append records a.added in omega (arith, le, e);
      notes = place-added records a.added _ was.notes;
    })

-- and what they gained is left to be taken
gains : (n : ℕ) (old new : List (Space Taped)) (cursors : List Cursor) → ((k : ℕ) → Adds old new k (if k == n then 1 else 0)) → ReadsJournals (record { spaces = old; cursors = cursors })
    → GainsRecord n (record { spaces = old; cursors = cursors }) (record { spaces = new; cursors = cursors })
gains n old new cursors adds reads = record {
  one = λ k. ap length (gained k) ∙ (adds k).counted;
  journals = λ k. behind k;
  replies = λ conn.
      let k = conn.namespace in
      let from = taken_through (cursor_in was k) conn.number in
      ap (λ rs. replies_for conn.number (drop from rs)) (behind k) ∙ ap (replies_for conn.number) (drop-append-le from (records_in was k) (gained_in was is k) ((reads k).replies conn.number))
      ∙ flat_map-append (λ (entry : Record). flat_map (reply_for conn.number) entry.steps) (drop from (records_in was k)) (gained_in was is k);
  notes = λ k. ap (λ rs. notes_from rs (cursor_in was k).notes) (behind k) ∙ notes-added (records_in was k) (gained_in was is k) (cursor_in was k).notes (reads k).notes;
}
  where
    was : Recorded
    was = record { spaces = old; cursors = cursors }

    is : Recorded
    is = record { spaces = new; cursors = cursors }

    gained : (k : ℕ) → gained_in was is k ≡ (adds k).added
    gained k = ap (drop (length (records_in was k))) (adds k).behind ∙ drop-append_seam (records_in was k) (adds k).added

    behind : (k : ℕ) → records_in is k ≡ records_in was k ++ gained_in was is k
    behind k = (adds k).behind ∙ ap (λ rs. records_in was k ++ rs) (sym (gained k))

-- ---- what the calls say

pub step-gains : (i : Input) (old new : List (Space Taped)) (cursors : List Cursor) {E : Type 0} (r : Result Output E) → ∥ WerePlayed old ∥₁ → ReadsJournals (record { spaces = old; cursors = cursors })
    → IfOk r (λ output. At old new (namespace_of i) (Performs kept_by i output)) → OnOk r (GainsRecord (namespace_of i) (record { spaces = old; cursors = cursors }) (record { spaces = new; cursors = cursors }))
step-gains i old new cursors (Ok output) played reads taken = ∥∥₁_elim played (Prim.hlevel props) (λ w. gains (namespace_of i) old new cursors (adds-one i output old new w taken) reads)
step-gains i old new cursors (Err e) played reads taken = tt

pub step-reads : (i : Input) (old new : List (Space Taped)) (cursors : List Cursor) {E : Type 0} (r : Result Output E) → ∥ WerePlayed old ∥₁ → IfOk r (λ output. At old new (namespace_of i) (Performs kept_by i output)) → OnErr r (new ≡ old)
    → ReadsJournals (record { spaces = old; cursors = cursors }) → ReadsJournals (record { spaces = new; cursors = cursors })
step-reads i old new cursors (Ok output) played taken same reads = ∥∥₁_elim played (Prim.hlevel props) (λ w. reads-on old new cursors (λ k. if k == namespace_of i then 1 else 0) (adds-one i output old new w taken) reads)
step-reads i old new cursors (Err e) played taken same reads = subst (λ (spaces : List (Space Taped)). ReadsJournals (record { spaces = spaces; cursors = cursors })) (sym same) reads

-- loads that are taken leave the journals
pub loads-reads : {A E : Type 0} (n : ℕ) (old new : List (Space Taped)) (cursors : List Cursor) (r : Result A E) (Loads : A → Space Taped → Space Taped → Type 0) → ((a : A) (was is : Space Taped) → Loads a was is → is ≡ record was { outgoing = [] })
    → IfOk r (λ a. At old new n (Loads a)) → OnErr r (new ≡ old) → ReadsJournals (record { spaces = old; cursors = cursors }) → ReadsJournals (record { spaces = new; cursors = cursors })
loads-reads n old new cursors (Ok loads) Loads rest taken same reads = reads-on old new cursors (λ k. 0) (λ k. adds-none old new k (go k (cases_eq k n))) reads
  where
    go : (k : ℕ) → (k ≡ n) ⊎ (k ≢ n) → records_at (journals_of new) k ≡ records_at (journals_of old) k
    go k (inl here) =
        ap (records_at (journals_of new)) here ∙ records-is new n taken.is (at-is (Loads loads) old new n taken) ∙ ap (λ (s : Space Taped). (journal_of s).records) (rest loads taken.was taken.is taken.fact)
        ∙ sym (records-is old n taken.was taken.at) ∙ sym (ap (records_at (journals_of old)) here)
    go k (inr ne) = records-same old new k (at-others old new n k taken ne)
loads-reads n old new cursors (Err e) Loads rest taken same reads = subst (λ (spaces : List (Space Taped)). ReadsJournals (record { spaces = spaces; cursors = cursors })) (sym same) reads

-- ---- connections, and their cursors

-- ---- how many connections a record opens

abbrev pub opens_by : Event → ℕ
opens_by (event.Open conn) = 1
opens_by happened = 0

abbrev pub opened_by : Input → ℕ
opened_by (input.Open n) = 1
opened_by i = 0

pub opens-none : (i : Input) → ((n : ℕ) → i ≡ input.Open n → ⊥) → opened_by i ≡ 0
opens-none (input.Open n) other = absurd (other n refl)
opens-none i other = refl

-- the event that an input asks for opens as many
event-of-opens : (opened : ℕ) (i : Input) → opens_by (event_of opened i) ≡ opened_by i
event-of-opens opened (input.Open n) = refl
event-of-opens opened (input.Close conn) = refl
event-of-opens opened (input.Feed conn piece moment) = refl
event-of-opens opened (input.Answer load outcome moment) = refl
event-of-opens opened (input.GiveUp load moment) = refl

event-opens : (happened : Event) (s : Situation) → (after_event happened s).opened ≡ s.opened + opens_by happened
event-opens (event.Open conn) s = omega arith
event-opens (event.Close conn) s = omega arith
event-opens (event.Feed conn piece moment) s = grind arith
event-opens (event.Answer load outcome moment) s = omega arith
event-opens (event.GiveUp load moment) s = omega arith

join-opens : (conn : ℕ) (waits : Bool) (of : Option (List ℕ)) (load : Option ℕ) (s : Situation) → (join_by conn waits of load s).opened ≡ s.opened
join-opens conn waits None load s = refl
join-opens conn waits (Some key) (Some number) s = refl
join-opens conn true (Some key) None s = refl
join-opens conn false (Some key) None s = refl

own-opens : (task : Option Task) (step : Step) (effect : Effect) (s : Situation) (o : Option Connection)
    → (option_map_or (λ c. with_connection (quits effect) (connection_after task step effect c) (join_load step.conn effect s)) o s).opened ≡ s.opened
own-opens task step effect s None = refl
own-opens task step effect s (Some c) = join-opens step.conn (is_waiting effect) (key_loaded effect.action) effect.load s

step-opens : (config : Config) (s : Situation) (task : Option Task) (step : Step) (effect : Effect) → (after_step config s task step effect).opened ≡ s.opened
step-opens config s (Some (Store key outcome)) step effect = refl
step-opens config s task step effect = own-opens task step effect _ (connection_in step.conn s)

steps-open : (config : Config) (steps : List Step) (s t : Situation) (tasks : List Task) → after_steps config s tasks steps ≡ Some t → t.opened ≡ s.opened
steps-open config [] s t tasks e = ap (λ (u : Situation). u.opened) (sym (same_Some s t (passed (is_empty (due (may_run_in s) tasks)) (Some s) t e).rest))
steps-open config (x ∷ steps) s t tasks e =
    let now_due = due (may_run_in s) tasks in
    let placed = placed_step_in config s (first_due now_due) x in
    let next = after_step config s placed.task x placed.effect in
    let on : Passed (is_right config placed) (after_steps config next (left_after now_due) steps) t = passed (is_right config placed) (after_steps config next (left_after now_due) steps) t e in
    steps-open config steps next t (left_after now_due) on.rest ∙ step-opens config s (first_due now_due) x placed.effect

pub record-opens : (config : Config) (s t : Situation) (entry : Record) → Follows config s entry t → t.opened ≡ s.opened + opens_by entry.event
record-opens config s t entry e =
    steps-open config (steps_of entry) (after_event entry.event s) t (tasks_in s entry.event) (passed _ (after_steps config (after_event entry.event s) (tasks_in s entry.event) (steps_of entry)) t e).rest
    ∙ event-opens entry.event s

-- ---- of a namespace

performed-opens : (i : Input) (output : Output) (was is : Space Taped) (s : Situation) → StandsFor was s → PerformsFrom kept_by i output was is s → length is.closings ≡ length was.closings + opened_by i
performed-opens i output was is s st p = grind (arith, is, was, record-opens, opens_by, asked-is, event-of-opens)

at-opens : (i : Input) (output : Output) (old new : List (Space Taped)) → WerePlayed old → (a : At old new (namespace_of i) (Performs kept_by i output)) → length a.is.closings ≡ length a.was.closings + opened_by i
at-opens i output old new w a =
    let h = were-at old (namespace_of i) a.was w a.at in
    performed-opens i output a.was a.is h.last h.stands (a.fact.from h.last h.stands)

-- ---- of all

abbrev cursor_count : Cursors → ℕ
cursor_count cursors = length cursors.replies.items

abbrev opened_count : Space Taped → ℕ
opened_count space = length space.closings

-- no connection was opened
have-on : {Fact : Space Taped → Space Taped → Type 0} (old new : List (Space Taped)) (read : List Cursors) (n : ℕ) (a : At old new n Fact) → opened_count a.is ≡ opened_count a.was → HaveCursors old read → HaveCursors new read
have-on old new read n a same have = have ∙ sym (ap (map opened_count) a.set ∙ map-same opened_count old n a.was a.is a.at same)

-- as many cursors
pub have-set : (spaces : List (Space Taped)) (read : List Cursors) (n : ℕ) (here is : Cursors) → slice_get read n ≡ Some here → cursor_count is ≡ cursor_count here → HaveCursors spaces read → HaveCursors spaces (slice_set read n is)
have-set spaces read n here is there same have = map-same cursor_count read n here is there same ∙ have

-- those of one namespace
cursors-there : (spaces : List (Space Taped)) (read : List Cursors) (n : ℕ) (space : Space Taped) (here : Cursors) → HaveCursors spaces read → slice_get spaces n ≡ Some space → slice_get read n ≡ Some here
    → cursor_count here ≡ opened_count space
cursors-there spaces read n space here have at there =
    same_Some (cursor_count here) (opened_count space) (sym (at-mapped cursor_count read n here there) ∙ ap (λ l. slice_get l n) have ∙ at-mapped opened_count spaces n space at)

-- one connection more, and its cursor
have-more : (output : Output) (n : ℕ) (old new : List (Space Taped)) (read : List Cursors) (here is : Cursors) → ∥ WerePlayed old ∥₁ → At old new n (Performs kept_by (input.Open n) output) → slice_get read n ≡ Some here
    → cursor_count is ≡ cursor_count here + 1 → HaveCursors old read → HaveCursors new (slice_set read n is)
have-more output n old new read here is played a there more have =
    let opens = ∥∥₁_elim played (Prim.hlevel props) (λ w. at-opens (input.Open n) output old new w a) in
    let grown : cursor_count is ≡ opened_count a.is = more ∙ ap (λ m. m + 1) (cursors-there old read n a.was here have a.at there) ∙ sym opens in
    map-set cursor_count read n is ∙ ap (λ l. slice_set l n (cursor_count is)) have ∙ ap (slice_set (map opened_count old) n) grown ∙ sym (ap (map opened_count) a.set ∙ map-set opened_count old n a.is)

-- a connection that was opened has its own
pub opened-cursor : (spaces : List (Space Taped)) (read : List Cursors) (n number : ℕ) (here : Cursors) → HaveCursors spaces read → InSpace spaces n (λ space. IsOpened space number) → slice_get read n ≡ Some here
    → (0 < number) × (number ≤ length here.replies.items)
opened-cursor spaces read n number here have known there = grind (arith, cursors-there, and_parts, leb-true, ltb-true)

-- none was opened
same-none : {X Y : Type 0} (f : X → ℕ) (g : Y → ℕ) (xs : List X) (ys : List Y) → length xs ≡ length ys → ((k : ℕ) (x : X) → slice_get xs k ≡ Some x → f x ≡ 0) → ((k : ℕ) (y : Y) → slice_get ys k ≡ Some y → g y ≡ 0)
    → map f xs ≡ map g ys
same-none f g [] [] same fs gs = refl
same-none f g [] (y ∷ ys) same fs gs = absurd (omega arith)
same-none f g (x ∷ xs) [] same fs gs = absurd (omega arith)
same-none f g (x ∷ xs) (y ∷ ys) same fs gs = rw (fs zero x refl, gs zero y refl, same-none f g xs ys (omega arith) (λ k z at. fs (suc k) z at) (λ k z at. gs (suc k) z at))

pub start-have : (configs : List Config) (generator : List ℕ) (moment : Instant) (spaces : List (Space Taped)) (read : List Cursors) (count : ℕ) → AreNewSpaces kept_by (Some (blank_tape moment)) spaces configs generator moment.nanos → AreAtStart read count
    → length read ≡ length spaces → HaveCursors spaces read
start-have configs generator moment spaces read count new start same = same-none cursor_count opened_count read spaces same (λ k c at. ap length (start.none k c at).0) (λ k space at.
    let lt = slice_get_within spaces k space at in
    let counted = new.count in
    let config = found-at configs k (omega (arith, lt, counted)) in
    ap opened_count (new.each k config.0 space config.1 at).state_is)

-- ---- a connection that is opened

more-number : (xs : List ℕ) (n : ℕ) → at_number 0 (xs ++ 0 ∷ []) n ≡ at_number 0 xs n
more-number xs zero = refl
more-number xs (suc n) = go xs n
  where
    go : (xs : List ℕ) (n : ℕ) → unwrap_or (slice_get (xs ++ 0 ∷ []) n) 0 ≡ unwrap_or (slice_get xs n) 0
    go [] zero = refl
    go [] (suc n) = refl
    go (x ∷ xs) zero = refl
    go (x ∷ xs) (suc n) = go xs n

-- what is left to be taken is the same where as much was taken
gains-kept : (n : ℕ) (was : Recorded) (spaces : List (Space Taped)) (mid is : List Cursor) → KeepsTaken (record { spaces = spaces; cursors = mid }) (record { spaces = spaces; cursors = is }) → GainsRecord n was (record { spaces = spaces; cursors = mid })
    → GainsRecord n was (record { spaces = spaces; cursors = is })
gains-kept n was spaces mid is keeps g = record {
  one = g.one;
  journals = g.journals;
  replies = λ conn. ap (λ k. replies_for conn.number (drop k (records_at (journals_of spaces) conn.namespace))) ((keeps conn.namespace).0 conn.number) ∙ g.replies conn;
  notes = λ k. ap (notes_from (records_at (journals_of spaces) k)) (keeps k).1 ∙ g.notes k;
}

reads-kept : (spaces : List (Space Taped)) (mid is : List Cursor) → KeepsTaken (record { spaces = spaces; cursors = mid }) (record { spaces = spaces; cursors = is }) → ReadsJournals (record { spaces = spaces; cursors = mid })
    → ReadsJournals (record { spaces = spaces; cursors = is })
reads-kept spaces mid is keeps reads k = record {
  replies = λ number. subst (λ m. m ≤ length (records_at (journals_of spaces) k)) (sym ((keeps k).0 number)) ((reads k).replies number);
  notes = subst (IsPlaceIn (records_at (journals_of spaces) k)) (sym (keeps k).1) (reads k).notes;
}

-- a connection was opened, and has a cursor; or nothing changed
module _ {E : Type 0} (n : ℕ) (old new : List (Space Taped)) (read : List Cursors) (here is : Cursors) (lt : n < length read) (at : here ≡ get_or read n here) (r : Result Output E)
    (performed : IfOk r (λ output. At old new n (Performs kept_by (input.Open n) output))) (unchanged : OnErr r (new ≡ old)) (notes : is.notes ≡ here.notes)
    (added : OnOk r (is.replies.items ≡ here.replies.items ++ 0 ∷ [])) (kept : OnErr r (is.replies.items ≡ here.replies.items)) where
  same-taken : (number : ℕ) → taken_through (cursor_of is) number ≡ taken_through (cursor_of here) number
  same-taken number = grind (arith, is, more-number)

  pub open-keeps : (spaces : List (Space Taped)) → KeepsTaken (recorded_of spaces read) (recorded_of spaces (slice_set read n is))
  open-keeps spaces k = (λ number. same-seen spaces read n here is lt at (λ c. taken_through c number) (same-taken number) k, same-seen spaces read n here is lt at (λ c. c.notes) notes k)

  pub open-gains : ∥ WerePlayed old ∥₁ → ReadsJournals (recorded_of old read) → OnOk r (GainsRecord n (recorded_of old read) (recorded_of new (slice_set read n is)))
  open-gains played reads = go r (step-gains (input.Open n) old new (map cursor_of read) r played reads performed)
    where
      go : (r : Result Output E) → OnOk r (GainsRecord n (recorded_of old read) (record { spaces = new; cursors = map cursor_of read })) → OnOk r (GainsRecord n (recorded_of old read) (recorded_of new (slice_set read n is)))
      go (Ok output) g = gains-kept n (recorded_of old read) new (map cursor_of read) (map cursor_of (slice_set read n is)) (open-keeps new) g
      go (Err e) g = tt

  pub open-same : OnErr r (recorded_of new (slice_set read n is) ≡ recorded_of old read)
  open-same = go r unchanged kept
    where
      go : (r : Result Output E) → OnErr r (new ≡ old) → OnErr r (is.replies.items ≡ here.replies.items) → OnErr r (recorded_of new (slice_set read n is) ≡ recorded_of old read)
      go (Ok output) same replies = tt
      go (Err e) same replies = ap (λ (spaces : List (Space Taped)). recorded_of spaces (slice_set read n is)) same ∙ same-read old read n here is at replies notes

  pub open-reads : ∥ WerePlayed old ∥₁ → ReadsJournals (recorded_of old read) → ReadsJournals (recorded_of new (slice_set read n is))
  open-reads played reads = reads-kept new (map cursor_of read) (map cursor_of (slice_set read n is)) (open-keeps new) (step-reads (input.Open n) old new (map cursor_of read) r played performed unchanged reads)

  pub open-have : ∥ WerePlayed old ∥₁ → HaveCursors old read → HaveCursors new (slice_set read n is)
  open-have played have = go r performed unchanged added kept
    where
      there : slice_get read n ≡ Some here
      there = at-place read n here lt at

      go : (r : Result Output E) → IfOk r (λ output. At old new n (Performs kept_by (input.Open n) output)) → OnErr r (new ≡ old) → OnOk r (is.replies.items ≡ here.replies.items ++ 0 ∷ []) → OnErr r (is.replies.items ≡ here.replies.items)
          → HaveCursors new (slice_set read n is)
      go (Ok output) a same more stay = have-more output n old new read here is played a there (ap length more ∙ length-append here.replies.items (0 ∷ [])) have
      go (Err e) a same more stay = subst (λ (spaces : List (Space Taped)). HaveCursors spaces (slice_set read n is)) (sym same) (have-set old read n here is there (ap length stay) have)

-- ---- what the calls say

pub step-have : (i : Input) (old new : List (Space Taped)) (read : List Cursors) {E : Type 0} (r : Result Output E) → opened_by i ≡ 0 → ∥ WerePlayed old ∥₁ → IfOk r (λ output. At old new (namespace_of i) (Performs kept_by i output)) → OnErr r (new ≡ old)
    → HaveCursors old read → HaveCursors new read
step-have i old new read (Ok output) none played a same have =
    have-on old new read (namespace_of i) a (∥∥₁_elim played (Prim.hlevel props) (λ w. at-opens i output old new w a) ∙ let z : length a.was.closings + opened_by i ≡ length a.was.closings = omega (arith, none) in z) have
step-have i old new read (Err e) none played a same have = subst (λ (spaces : List (Space Taped)). HaveCursors spaces read) (sym same) have

pub same-step : (old new : List (Space Taped)) (read : List Cursors) {A E : Type 0} (r : Result A E) → OnErr r (new ≡ old) → OnErr r (recorded_of new read ≡ recorded_of old read)
same-step old new read (Ok a) same = tt
same-step old new read (Err e) same = ap (λ (spaces : List (Space Taped)). recorded_of spaces read) same

-- what a step that opens no connection leaves of a recording service, whether it is refused or not
module _ (i : Input) (old new : List (Space Taped)) (read : List Cursors) (was : Recorded) (seen : recorded_of old read ≡ was) {E : Type 0} (r : Result Output E) where
  pub record Stepped : Type 0 where
    pub played : ∥ WerePlayed new ∥₁
    pub many : length new ≡ length old
    pub reads : ReadsJournals (recorded_of new read)
    pub have : HaveCursors new read
    pub performed : IfOk r (λ output. At was.spaces new (namespace_of i) (Performs kept_by i output))
    pub gained : OnOk r (GainsRecord (namespace_of i) was (recorded_of new read))
    pub cursors : KeepsTaken was (recorded_of new read)
    pub unchanged : OnErr r (recorded_of new read ≡ was)
    pub journals : IsSoOfEach IsJournalOf new

  pub stepped : opened_by i ≡ 0 → IfOk r (λ output. At old new (namespace_of i) (Performs kept_by i output)) → OnErr r (new ≡ old) → ∥ WerePlayed old ∥₁ → ReadsJournals (recorded_of old read) → HaveCursors old read → Stepped
  stepped none performed unchanged played reads have =
      let later = ∥∥₁_map played (were-on i old new r performed unchanged) in record {
        played = later;
        many = step-length (namespace_of i) old new r (Performs kept_by i) performed unchanged;
        reads = step-reads i old new (map cursor_of read) r played performed unchanged reads;
        have = step-have i old new read r none played performed unchanged have;
        performed = subst (λ (s : Recorded). IfOk r (λ output. At s.spaces new (namespace_of i) (Performs kept_by i output))) seen performed;
        gained = subst (λ (s : Recorded). OnOk r (GainsRecord (namespace_of i) s (recorded_of new read))) seen (step-gains i old new (map cursor_of read) r played reads performed);
        cursors = subst (λ (s : Recorded). KeepsTaken s (recorded_of new read)) seen (λ k. (λ number. refl, refl));
        unchanged = subst (λ (s : Recorded). OnErr r (recorded_of new read ≡ s)) seen (same-step old new read r unchanged);
        journals = were-journals new later;
      }

pub loads-have : {A E : Type 0} (n : ℕ) (old new : List (Space Taped)) (read : List Cursors) (r : Result A E) (Loads : A → Space Taped → Space Taped → Type 0) → ((x : A) (was is : Space Taped) → Loads x was is → is ≡ record was { outgoing = [] })
    → IfOk r (λ x. At old new n (Loads x)) → OnErr r (new ≡ old) → HaveCursors old read → HaveCursors new read
loads-have n old new read (Ok x) Loads rest a same have = have-on old new read n a (ap (λ (s : Space Taped). length s.closings) (rest x a.was a.is a.fact)) have
loads-have n old new read (Err e) Loads rest a same have = subst (λ (spaces : List (Space Taped)). HaveCursors spaces read) (sym same) have
