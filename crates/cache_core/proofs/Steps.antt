-- How a connection goes on, by one list of its steps behind another.
use Rattle.std.proofs.Common.{cond, refl, sym, ap, ◌∙◌, subst, ◌≡◌, ℕ, Bool, true, false, ◌==◌, List, [], ◌∷◌, ◌++◌, append_assoc, ◌≢◌, suc, map, Option, Some, None, if◌then◌else◌, is_some, slice_set, inl, inr, ◌&&◌, is_none}
use Rattle.std.proofs.lemmas.Bool.{eq-eqb, eqb-true, and_from}
use Rattle.std.proofs.lemmas.List.{append-nil, set-get_or}
use Rattle.std.proofs.lemmas.Option.{slice_get_within, get_or_from_slice_get}
use Rattle.std.specs.List.{flat_map, list_all, slice_get}
use Rattle.std.specs.Option.{option_map, option_map_or}
use Rattle.audit_model.specs.Bytewise.{is_empty}
use Rattle.audit_model.specs.Places.{tasks_to_feed}
use Rattle.audit_model.specs.Situation.{HeldValue, Situation, is_ready, may_run_in, without_connection}
use Rattle.audit_model.specs.Steps.{Task, RunLines}
use Rattle.audit_model.specs.Stream.{first_line}
use Rattle.audit_model.specs.declared.command.Closing.{Closing}
use Rattle.audit_model.specs.declared.config.Config.{Config}
use Rattle.audit_model.specs.declared.transcript.Note.{Note}
use Rattle.audit_model.specs.declared.transcript.Step.{Step}
use Rattle.cache_commands.specs.Values.{Values}
use Rattle.cache_commands.specs.Loads.Standings.{holds_line, waits_for_load}
use Rattle.cache_commands.specs.declared.loads.loads.Loads.{Loads}
use Rattle.cache_commands.specs.declared.loads.standing.Standing.{Standing}
use Rattle.cache_lines.proofs.leads.Leading.{leads-framed, leads-mean, leads-no-lines, leads-nothing, leads-on}
use Rattle.cache_lines.specs.Ended.{ends_silent, RanTasks}
use Rattle.cache_lines.specs.Gathered.{Gathered, adds, gather, gathered, reply_in, stage, written_in}
use Rattle.cache_lines.specs.Leading.{TasksLead}
use Rattle.cache_lines.specs.Lines.{ends_quit, set_in, with_drops}
use Rattle.cache_lines.specs.Making.{Making, making_of}
use Rattle.cache_lines.specs.Tape.Taped.{Taped}
use Rattle.cache_lines.specs.Waiting.{under_way, UnderWay, when_left, with_under_way}
use Rattle.cache_lines.specs.declared.base.Base.{Base}
use Rattle.cache_core.proofs.Opened.{none-more}
use Rattle.cache_core.proofs.Sending.{own-all, own-none, all-own, feed-own}
use Rattle.cache_core.proofs.Spots.{seen-at, seen-other, seen-was, closing-is, replaced-is, text-is}
use Rattle.cache_core.proofs.Table.{listed_as, listed_of}
use Rattle.cache_core.proofs.Turning.{found-is, found-open, outputs-by, put-situation, sit}
use Rattle.cache_core.specs.Connection.Fed.{EndsCalm, StepRan, closing_by, FedRan}
use Rattle.cache_core.specs.Connection.Fits.{ClosesFor, RunsOn}
use Rattle.cache_core.specs.Connection.Parts.{standing_as}
use Rattle.cache_core.specs.Connection.Shown.{put_in, shown_connection, with_piece}
use Rattle.cache_core.specs.Connections.Presence.{Here, Presence, reply_text_of, Gone, Out, closing_at, is_here, text_at}
use Rattle.cache_core.specs.Fed.{ReplacedAt, seen_at}
use Rattle.cache_core.specs.Settled.{Running, Absent, Closed, Course, MovesCourse, Resting, closing_of_steps, Piece, course_at, course_in, course_of, middle_of}
use Rattle.cache_core.specs.Settling.{runs_at, runs_with}
use Rattle.cache_core.specs.State.{at_number}
use Rattle.cache_core.specs.Turned.{own_steps, replies_to}
use Rattle.cache_core.specs.declared.connection.connection.Connection.{Connection}
use Rattle.audit_model.specs.Situation as model
use Rattle.cache_commands.specs.declared.loads.standing.Standing.TheVariants as now_is

-- the last of steps is the last of those behind
quit-behind : (config : Config) (xs ys : List Step) → is_empty ys ≡ false → ends_quit config (xs ++ ys) ≡ ends_quit config ys
quit-behind config [] ys e = refl
quit-behind config (x ∷ []) [] e = let no : true ≡ false = e in cc
quit-behind config (x ∷ []) (y ∷ ys) e = refl
quit-behind config (x ∷ z ∷ xs) ys e = quit-behind config (z ∷ xs) ys e

silent-behind : (xs ys : List Step) → is_empty ys ≡ false → ends_silent (xs ++ ys) ≡ ends_silent ys
silent-behind [] ys e = refl
silent-behind (x ∷ []) [] e = let no : true ≡ false = e in cc
silent-behind (x ∷ []) (y ∷ ys) e = refl
silent-behind (x ∷ z ∷ xs) ys e = silent-behind (z ∷ xs) ys e

-- behind some that ended calmly
quit-calm : (config : Config) (xs ys : List Step) → EndsCalm config xs → ends_quit config (xs ++ ys) ≡ ends_quit config ys
quit-calm config xs [] calm = ap (ends_quit config) (append-nil xs) ∙ calm.quits
quit-calm config xs (y ∷ ys) calm = quit-behind config xs (y ∷ ys) refl

silent-calm : (config : Config) (xs ys : List Step) → EndsCalm config xs → ends_silent (xs ++ ys) ≡ ends_silent ys
silent-calm config xs [] calm = ap ends_silent (append-nil xs) ∙ calm.silent
silent-calm config xs (y ∷ ys) calm = silent-behind xs (y ∷ ys) refl

empty-behind : (xs ys : List Step) → is_empty ys ≡ false → is_empty (xs ++ ys) ≡ false
empty-behind [] ys e = e
empty-behind (x ∷ xs) ys e = refl

empty-before : (xs ys : List Step) → is_empty xs ≡ false → is_empty (xs ++ ys) ≡ false
empty-before [] ys e = let no : true ≡ false = e in cc
empty-before (x ∷ xs) ys e = refl

calm-both : (config : Config) (xs ys : List Step) → EndsCalm config xs → EndsCalm config ys → EndsCalm config (xs ++ ys)
calm-both config xs ys a b = record { quits = quit-calm config xs ys a ∙ b.quits; silent = silent-calm config xs ys a ∙ b.silent }

calm-behind : (config : Config) (xs ys : List Step) → is_empty ys ≡ false → EndsCalm config ys → EndsCalm config (xs ++ ys)
calm-behind config xs ys e b = record { quits = quit-behind config xs ys e ∙ b.quits; silent = silent-behind xs ys e ∙ b.silent }

why-calm : (config : Config) (xs ys : List Step) (why : Closing) → EndsCalm config xs → why ≡ closing_of_steps config ys → why ≡ closing_of_steps config (xs ++ ys)
why-calm config xs ys why a e = e ∙ sym (ap (λ b. closing_by false b (ends_silent (xs ++ ys))) (quit-calm config xs ys a) ∙ ap (closing_by false (ends_quit config ys)) (silent-calm config xs ys a))

why-behind : (config : Config) (xs ys : List Step) (why : Closing) → is_empty ys ≡ false → why ≡ closing_of_steps config ys → why ≡ closing_of_steps config (xs ++ ys)
why-behind config xs ys why some e = e ∙ sym (ap (λ b. closing_by false b (ends_silent (xs ++ ys))) (quit-behind config xs ys some) ∙ ap (closing_by false (ends_quit config ys)) (silent-behind xs ys some))

why-none : (config : Config) (xs ys : List Step) (why : Closing) → why ≡ closing_of_steps config xs → ys ≡ [] → why ≡ closing_of_steps config (xs ++ ys)
why-none config xs ys why e none = e ∙ sym (ap (closing_of_steps config) (ap (λ zs. xs ++ zs) none ∙ append-nil xs))

pub moves-on : (config : Config) (xs ys : List Step) (k l m : Course) → MovesCourse config xs k l → MovesCourse config ys l m → MovesCourse config (xs ++ ys) k m
moves-on config xs ys Absent l m a b = subst (λ c. MovesCourse config ys c m → m ≡ Absent) (sym a) (λ h. h) b
moves-on config xs ys (Closed why) l m a b =
    let c = subst (λ k. MovesCourse config ys k m) a.0 b in (c.0, ap (λ zs. zs ++ ys) a.1 ∙ c.1)
moves-on config xs ys Running Absent m a b = absurd a
moves-on config xs ys Running (Closed why) Absent a b = let no : Absent ≡ Closed why = b.0 in cc
moves-on config xs ys Running (Closed why) (Closed w) a b = why-none config xs ys w (closed-is b.0 ∙ a) b.1
  where
    closed-is : Closed w ≡ Closed why → w ≡ why
    closed-is e = ap (λ c. closing_in c) e
      where
        closing_in : Course → Closing
        closing_in (Closed x) = x
        closing_in other = why
moves-on config xs ys Running (Closed why) Running a b = let no : Running ≡ Closed why = b.0 in cc
moves-on config xs ys Running (Closed why) Resting a b = let no : Resting ≡ Closed why = b.0 in cc
moves-on config xs ys Running Running Absent a b = b
moves-on config xs ys Running Running (Closed w) a b = why-calm config xs ys w a b
moves-on config xs ys Running Running Running a b = calm-both config xs ys a b
moves-on config xs ys Running Running Resting a b = tt
moves-on config xs ys Running Resting Absent a b = b
moves-on config xs ys Running Resting (Closed w) a b = why-behind config xs ys w b.1 b.0
moves-on config xs ys Running Resting Running a b = calm-behind config xs ys b.1 b.0
moves-on config xs ys Running Resting Resting a b = tt
moves-on config xs ys Resting Absent m a b = absurd a
moves-on config xs ys Resting (Closed why) Absent a b = let no : Absent ≡ Closed why = b.0 in cc
moves-on config xs ys Resting (Closed why) (Closed w) a b = (why-none config xs ys w (closed-is b.0 ∙ a.0) b.1, empty-before xs ys a.1)
  where
    closed-is : Closed w ≡ Closed why → w ≡ why
    closed-is e = ap (λ c. closing_in c) e
      where
        closing_in : Course → Closing
        closing_in (Closed x) = x
        closing_in other = why
moves-on config xs ys Resting (Closed why) Running a b = let no : Running ≡ Closed why = b.0 in cc
moves-on config xs ys Resting (Closed why) Resting a b = let no : Resting ≡ Closed why = b.0 in cc
moves-on config xs ys Resting Running Absent a b = b
moves-on config xs ys Resting Running (Closed w) a b = (why-calm config xs ys w a.0 b, empty-before xs ys a.1)
moves-on config xs ys Resting Running Running a b = (calm-both config xs ys a.0 b, empty-before xs ys a.1)
moves-on config xs ys Resting Running Resting a b = tt
moves-on config xs ys Resting Resting Absent a b = b
moves-on config xs ys Resting Resting (Closed w) a b = (why-behind config xs ys w b.1 b.0, empty-behind xs ys b.1)
moves-on config xs ys Resting Resting Running a b = (calm-behind config xs ys b.1 b.0, empty-behind xs ys b.1)
moves-on config xs ys Resting Resting Resting a b = tt

-- one that had no step
pub moves-none : (config : Config) (k : Course) → MovesCourse config [] k k
moves-none config Absent = refl
moves-none config (Closed why) = (refl, refl)
moves-none config Running = record { quits = refl; silent = refl }
moves-none config Resting = tt

-- a connection's own steps of both
pub own-both : (n : ℕ) (xs ys : List Step) → own_steps n (xs ++ ys) ≡ own_steps n xs ++ own_steps n ys
own-both n [] ys = refl
own-both n (x ∷ xs) ys = go (x.conn == n) (own-both n xs ys)
  where
    go : (b : Bool) → own_steps n (xs ++ ys) ≡ own_steps n xs ++ own_steps n ys → cond b (x ∷ own_steps n (xs ++ ys)) (own_steps n (xs ++ ys)) ≡ cond b (x ∷ own_steps n xs) (own_steps n xs) ++ own_steps n ys
    go true e = ap (λ zs. x ∷ zs) e
    go false e = e

-- One part of a record behind another.

pub flat-both : {A B : Type 0} (f : A → List B) (xs ys : List A) → flat_map f (xs ++ ys) ≡ flat_map f xs ++ flat_map f ys
flat-both f [] ys = refl
flat-both f (x ∷ xs) ys = ap (λ zs. f x ++ zs) (flat-both f xs ys) ∙ sym (append_assoc (f x) (flat_map f xs) (flat_map f ys))

-- what was added twice
added-both : {B : Type 0} (b : Bool) (text mid last xs ys zs : List B) → mid ≡ text ++ (if b then [] else xs) → last ≡ mid ++ (if b then [] else ys) → zs ≡ xs ++ ys → last ≡ text ++ (if b then [] else zs)
added-both true text mid last xs ys zs a c e = c ∙ append-nil mid ∙ a
added-both false text mid last xs ys zs a c e = c ∙ ap (λ t. t ++ ys) a ∙ append_assoc text xs ys ∙ ap (λ t. text ++ t) (sym e)

adds-both : (xs ys : List Step) (t : Option Taped) → option_map (adds ys) (option_map (adds xs) t) ≡ option_map (adds (xs ++ ys)) t
adds-both xs ys None = refl
adds-both xs ys (Some t) = ap (λ ss. Some (record { journal = t.journal; begun = t.begun; steps = ss; spare = t.spare; drafted = t.drafted })) (append_assoc t.steps xs ys)

some-map : {A B : Type 0} (f : A → B) (t : Option A) → is_some (option_map f t) ≡ is_some t
some-map f None = refl
some-map f (Some t) = refl

module _ {S T : Type 0} (view : S → Values) (tape : T → Option Taped) (making : Making) (now : ℕ) (was mid is : Base S T) (old between new : List Presence) (tasks more : List Task) (held : List HeldValue) where
  pub still-kept : Piece view tape making now was mid old between tasks held → is_some (tape mid.tape) ≡ is_some (tape was.tape)
  still-kept p = sym (some-map written_in (tape mid.tape)) ∙ ap is_some p.kept ∙ some-map (adds p.steps) (option_map written_in (tape was.tape)) ∙ some-map written_in (tape was.tape)

  pub piece-on : (p : Piece view tape making now was mid old between tasks held) → Piece view tape making now mid is between new more p.left → Piece view tape making now was is old new (tasks ++ more) held
  piece-on p q =
      let some = still-kept p in
      let steps = p.steps ++ q.steps in
      let b = is_some (tape was.tape) in
      record {
        steps = steps;
        left = q.left;
        stands = q.stands;
        leads =
            let s = middle_of (view was.store) now (under_way was.loads) old held in
            let t = middle_of (view mid.store) now (under_way mid.loads) between p.left in
            let u = middle_of (view is.store) now (under_way is.loads) new q.left in
            leads-on making s t u (tasks ++ more) more [] p.steps q.steps (view was.store) (view mid.store) (view is.store) (leads-framed making s t tasks more p.steps (view was.store) (view mid.store) p.leads) q.leads;
        outputs = λ n.
            added-both b _ _ _ (replies_to n p.steps) (replies_to n q.steps) (replies_to n steps) (p.outputs n)
            (subst (λ k. at_number [] (map reply_text_of new) n ≡ at_number [] (map reply_text_of between) n ++ (if k then [] else replies_to n q.steps)) some (q.outputs n))
            (ap (flat_map reply_in) (own-both n p.steps q.steps) ∙ flat-both reply_in (own_steps n p.steps) (own_steps n q.steps));
        kept = q.kept ∙ ap (option_map (adds q.steps)) p.kept ∙ adds-both p.steps q.steps (option_map written_in (tape was.tape));
        notes =
            added-both b _ _ _ (flat_map (λ (step : Step). step.notices) p.steps) (flat_map (λ (step : Step). step.notices) q.steps) (flat_map (λ (step : Step). step.notices) steps) p.notes
            (subst (λ k. (view is.store).untaken ≡ (view mid.store).untaken ++ (if k then [] else flat_map (λ (step : Step). step.notices) q.steps)) some q.notes) (flat-both (λ (step : Step). step.notices) p.steps q.steps);
        moves = λ n. subst (λ ss. MovesCourse making.config ss (course_at old n) (course_at new n)) (sym (own-both n p.steps q.steps)) (moves-on making.config (own_steps n p.steps) (own_steps n q.steps) (course_at old n) (course_at between n) (course_at new n) (p.moves n) (q.moves n));
      }

-- ---- a part in which one connection had steps

-- what was gathered, apart
pub record GatheredApart (steps : List Step) (t new_t : Option Taped) (text new_text : List ℕ) (untaken new_untaken : List Note) : Type 0 where
  pub text_is : new_text ≡ text ++ (if is_some t then [] else flat_map reply_in steps)
  pub kept : option_map written_in new_t ≡ option_map (adds steps) (option_map written_in t)
  pub untaken_is : new_untaken ≡ untaken ++ (if is_some t then [] else flat_map (λ step. step.notices) steps)

pub gathered-apart : (v w : Values) (steps : List Step) (t new_t : Option Taped) (text new_text : List ℕ) → gathered (stage w new_text new_t) ≡ gather (gathered (stage v text t)) steps
    → GatheredApart steps t new_t text new_text v.untaken w.untaken
gathered-apart v w steps None new_t text new_text e = record { text_is = ap (λ (g : Gathered). g.text) e; kept = ap (λ (g : Gathered). g.kept) e; untaken_is = ap (λ (g : Gathered). g.waiting) e }
gathered-apart v w steps (Some t) new_t text new_text e = record {
  text_is = ap (λ (g : Gathered). g.text) e ∙ sym (append-nil text);
  kept = ap (λ (g : Gathered). g.kept) e;
  untaken_is = ap (λ (g : Gathered). g.waiting) e ∙ sym (append-nil v.untaken);
}

-- how the connections went on
pub moves-by : (config : Config) (cs : List Presence) (i : ℕ) (old new : Connection) (steps : List Step) → slice_get cs i ≡ Some (Here old) → list_all (λ step. step.conn == suc i) steps ≡ true
    → MovesCourse config steps (course_of old.closing old.standing) (course_of new.closing new.standing)
    → (n : ℕ) → MovesCourse config (own_steps n steps) (course_at cs n) (course_at (slice_set cs i (Here new)) n)
moves-by config cs i old new steps at own moves n = go (n == suc i) refl
  where
    go : (b : Bool) → (n == suc i) ≡ b → MovesCourse config (own_steps n steps) (at_number Absent (map course_in cs) n) (at_number Absent (map course_in (slice_set cs i (Here new))) n)
    go true e =
        let is : n ≡ suc i = eqb-true n (suc i) e in
        subst (λ k. MovesCourse config (own_steps k steps) (at_number Absent (map course_in cs) k) (at_number Absent (map course_in (slice_set cs i (Here new))) k)) (sym is)
        (subst (λ k. MovesCourse config (own_steps (suc i) steps) k (at_number Absent (map course_in (slice_set cs i (Here new))) (suc i))) (sym (seen-was course_in Absent cs i (Here old) at))
        (subst (λ k. MovesCourse config (own_steps (suc i) steps) (course_of old.closing old.standing) k) (sym (seen-at course_in Absent cs i (Here new) (slice_get_within cs i (Here old) at)))
        (subst (λ ss. MovesCourse config ss (course_of old.closing old.standing) (course_of new.closing new.standing)) (sym (own-all (suc i) steps own)) moves)))
    go false e =
        let ne : n ≢ suc i = λ h. let no : false ≡ true = sym e ∙ eq-eqb n (suc i) h in cc in
        subst (λ ss. MovesCourse config ss (at_number Absent (map course_in cs) n) (at_number Absent (map course_in (slice_set cs i (Here new))) n)) (sym (own-none (suc i) n steps own ne))
        (subst (λ k. MovesCourse config [] (at_number Absent (map course_in cs) n) k) (sym (seen-other course_in Absent cs i n (Here new) ne)) (moves-none config (at_number Absent (map course_in cs) n)))

-- Parts of a record in which one connection has its steps.

-- ---- no step

adds-none : (t : Option Taped) → option_map written_in t ≡ option_map (adds []) (option_map written_in t)
adds-none None = refl
adds-none (Some t) = ap (λ ss. Some (record { journal = t.journal; begun = t.begun; steps = ss; spare = 0; drafted = None })) (sym (append-nil t.steps))

-- ---- how a connection goes on

-- a `LOAD` that waited has its step
moves-step : (config : Config) (steps : List Step) (was is : Option Closing) (standing standing' : Standing) → was ≡ None → standing ≡ now_is.Waiting → is ≡ None → (standing' ≡ now_is.Ready → EndsCalm config steps) → is_empty steps ≡ false
    → MovesCourse config steps (course_of was standing) (course_of is standing')
moves-step config steps was is standing standing' was_open waited is_open calm some =
    subst (λ o. MovesCourse config steps (course_of o standing) (course_of is standing')) (sym was_open)
    (subst (λ st. MovesCourse config steps (course_of None st) (course_of is standing')) (sym waited)
    (subst (λ o. MovesCourse config steps (course_of None now_is.Waiting) (course_of o standing')) (sym is_open) (go standing' calm)))
  where
    go : (st : Standing) → (st ≡ now_is.Ready → EndsCalm config steps) → MovesCourse config steps (course_of None now_is.Waiting) (course_of None st)
    go now_is.Ready c = (c refl, some)
    go now_is.Held c = tt
    go now_is.Waiting c = tt

-- lines ran
moves-lines : (config : Config) (steps : List Step) (quit silent : Bool) (was is : Option Closing) (standing standing' : Standing) → was ≡ None → standing ≡ now_is.Ready → ends_quit config steps ≡ quit → ends_silent steps ≡ silent
    → ClosesFor (closing_by (waits_for_load standing) quit silent) is → RunsOn is standing' quit silent → MovesCourse config steps (course_of was standing) (course_of is standing')
moves-lines config steps quit silent was is standing standing' was_open ready quits silents closes runs =
    subst (λ o. MovesCourse config steps (course_of o standing) (course_of is standing')) (sym was_open)
    (subst (λ st. MovesCourse config steps (course_of None st) (course_of is standing')) (sym ready)
    (go is standing' (subst (λ st. ClosesFor (closing_by (waits_for_load st) quit silent) is) ready closes) runs))
  where
    stays : (st : Standing) → RunsOn None st quit silent → MovesCourse config steps Running (course_of None st)
    stays now_is.Ready r = let x = r refl refl in record { quits = quits ∙ x.0; silent = silents ∙ x.1 }
    stays now_is.Held r = tt
    stays now_is.Waiting r = tt

    due : closing_of_steps config steps ≡ closing_by false quit silent
    due = ap (λ b. closing_by false b (ends_silent steps)) quits ∙ ap (closing_by false quit) silents

    go : (o : Option Closing) (st : Standing) → ClosesFor (closing_by false quit silent) o → RunsOn o st quit silent → MovesCourse config steps Running (course_of o st)
    go o st (inl is_open) r = subst (λ x. MovesCourse config steps Running (course_of x st)) (sym is_open) (stays st (subst (λ x. RunsOn x st quit silent) is_open r))
    go o st (inr closed) r = subst (λ x. MovesCourse config steps Running (course_of x st)) (sym closed) (sym due)

-- ---- the connection where it stands

-- what is put where it stands changes nothing
put-same : (latest m i : ℕ) (l : UnderWay) (cs : List Presence) (dropped : Bool) (held : List HeldValue) (c : Connection) → m ≡ suc i → slice_get cs i ≡ Some (Here c) → c.closing ≡ None
    → set_in (sit latest l cs dropped held) held (shown_connection m c) ≡ sit latest l cs dropped held
put-same latest m i l cs dropped held c e at is_open =
    let s = sit latest l cs dropped held in
    sym (ap (λ o. if is_none o then set_in s held (shown_connection m c) else without_connection m (record s { held = held })) is_open)
    ∙ put-situation latest m i l c c cs dropped held held e at is_open
    ∙ ap (λ o. sit latest (when_left (is_none o) m l) (slice_set cs i (Here c)) dropped held) is_open
    ∙ ap (λ k. sit latest l (slice_set cs i k) dropped held) (sym (get_or_from_slice_get cs i (Here c) (Here c) at))
    ∙ ap (λ ks. sit latest l ks dropped held) (set-get_or cs i (Here c))

-- a connection that runs no lines
idle-stops : (m : ℕ) (closing : Option Closing) (standing : Standing) (times : ℕ) (bytes : List ℕ) → runs_with closing standing ≡ false
    → option_map_or (λ (k : model.Connection). is_ready k.standing && is_some (first_line k.unread)) (listed_as (is_none closing) (standing_as m standing times bytes)) false ≡ false
idle-stops m (Some by) standing times bytes e = refl
idle-stops m None now_is.Ready times bytes e = let no : true ≡ false = e in cc
idle-stops m None now_is.Held times bytes e = refl
idle-stops m None now_is.Waiting times bytes e = refl

idle-one : (m : ℕ) (p : Presence) → runs_at (Some p) ≡ false → option_map_or (λ (k : model.Connection). is_ready k.standing && is_some (first_line k.unread)) (listed_of m p) false ≡ false
idle-one m (Here c) e = idle-stops m c.closing c.standing c.waited c.unread.bytes e
idle-one m Out e = refl
idle-one m (Gone why) e = refl

piece-nothing : (c : model.Connection) → with_piece [] c ≡ c
piece-nothing c = ap (λ bs. record c { unread = bs }) (append-nil c.unread)

module _ {S T : Type 0} (view : S → Values) (tape : T → Option Taped) (now : ℕ) (was is : Base S T) where
  abbrev frame_was : Making
  frame_was = making_of (view was.store).frame

  -- nothing happened
  pub piece-none : (cs : List Presence) (held : List HeldValue) → (view was.store).Stands held → Piece view tape frame_was now was was cs cs [] held
  piece-none cs held stands = record {
    steps = [];
    left = held;
    stands = stands;
    leads = leads-nothing frame_was (middle_of (view was.store) now (under_way was.loads) cs held) [] (view was.store);
    outputs = λ n. none-more (is_some (tape was.tape)) (at_number [] (map reply_text_of cs) n);
    kept = adds-none (tape was.tape);
    notes = none-more (is_some (tape was.tape)) (view was.store).untaken;
    moves = λ n. moves-none frame_was.config (course_at cs n);
  }

  module _ (m i : ℕ) (cs ds : List Presence) (p : ReplacedAt cs ds i) (e : m ≡ suc i) (was_open : p.was.closing ≡ None) where
    -- the texts, where the steps are the connection's own
    texts-own : (steps : List Step) → text_at ds i ≡ text_at cs i ++ (if is_some (tape was.tape) then [] else flat_map reply_in steps) → list_all (λ step. step.conn == suc i) steps ≡ true
        → (n : ℕ) → at_number [] (map reply_text_of ds) n ≡ at_number [] (map reply_text_of cs) n ++ (if is_some (tape was.tape) then [] else replies_to n steps)
    texts-own steps text own n =
        subst (λ ks. at_number [] (map reply_text_of ks) n ≡ at_number [] (map reply_text_of cs) n ++ (if is_some (tape was.tape) then [] else replies_to n steps)) (sym p.set)
        (outputs-by cs i p.was p.is steps (is_some (tape was.tape)) p.at
        (sym (text-is ds i p.is (replaced-is cs ds i p)) ∙ text ∙ ap (λ t. t ++ (if is_some (tape was.tape) then [] else flat_map reply_in steps)) (text-is cs i p.was p.at)) own n)

    moves-own : (steps : List Step) → list_all (λ step. step.conn == suc i) steps ≡ true → MovesCourse frame_was.config steps (course_of p.was.closing p.was.standing) (course_of p.is.closing p.is.standing)
        → (n : ℕ) → MovesCourse frame_was.config (own_steps n steps) (course_at cs n) (course_at ds n)
    moves-own steps own moves n = subst (λ ks. MovesCourse frame_was.config (own_steps n steps) (course_at cs n) (course_at ks n)) (sym p.set) (moves-by frame_was.config cs i p.was p.is steps p.at own moves n)

    -- a task of its `LOAD` that waited was done
    pub piece-step : (task : Task) → p.was.standing ≡ now_is.Waiting → StepRan now m task p.was p.is (seen_at view tape was cs i) (seen_at view tape is ds i) → (held : List HeldValue) → (view was.store).Stands held
        → Piece view tape frame_was now was is cs ds (task ∷ []) held
    piece-step task waited r held stands =
        let s = sit now (under_way was.loads) cs (view was.store).frame.dropped held in
        let x = r.ran s (record { at = refl; dropped = refl; stands = stands }) refl (found-open m i p.was cs e p.at was_open) in
        let steps : List Step = x.step ∷ [] in
        let g = gathered-apart (view was.store) (view is.store) steps (tape was.tape) (tape is.tape) (text_at cs i) (text_at ds i) x.gathered_is in
        let own : list_all (λ (step : Step). step.conn == suc i) steps ≡ true = and_from (x.step.conn == suc i) true (eq-eqb x.step.conn (suc i) (x.own ∙ e)) refl in
        let target : put_in (with_under_way (under_way is.loads) (with_drops (view is.store).frame.dropped s)) x.left m p.is ≡ middle_of (view is.store) now (under_way is.loads) ds x.left =
        put-situation now m i (under_way is.loads) p.was p.is cs (view is.store).frame.dropped held x.left e p.at was_open
        ∙ ap (λ o. sit now (when_left (is_none o) m (under_way is.loads)) (slice_set cs i (Here p.is)) (view is.store).frame.dropped x.left) r.is_open
        ∙ ap (λ ks. sit now (under_way is.loads) ks (view is.store).frame.dropped x.left) (sym p.set) in
        record {
          steps = steps;
          left = x.left;
          stands = x.stands;
          leads = subst (λ t. TasksLead frame_was s (task ∷ []) steps t [] (view was.store) (view is.store)) target x.leads;
          outputs = texts-own steps g.text_is own;
          kept = g.kept;
          notes = g.untaken_is;
          moves = moves-own steps own (moves-step frame_was.config steps p.was.closing p.is.closing p.was.standing p.is.standing was_open waited r.is_open x.calm refl);
        }

    -- its lines ran
    pub piece-lines : (left : Loads) (is_held : Bool) → p.was.standing ≡ now_is.Ready → FedRan now m p.was [] p.is is_held (seen_at view tape was cs i) (seen_at view tape is ds i) → under_way left ≡ when_left (is_none (closing_at ds i)) m (under_way is.loads)
        → (held : List HeldValue) → (view was.store).Stands held → Piece view tape frame_was now was (record is { loads = left }) cs ds (RunLines m ∷ []) held
    piece-lines left is_held ready r leaves held stands =
        let s = sit now (under_way was.loads) cs (view was.store).frame.dropped held in
        let found = found-open m i p.was cs e p.at was_open in
        let x = r.ran s (record { at = refl; dropped = refl; stands = stands }) (ap is_some found) refl in
        let dropping = (view is.store).frame.dropped in
        let start : set_in s held (with_piece [] (shown_connection m p.was)) ≡ s = ap (set_in s held) (piece-nothing (shown_connection m p.was)) ∙ put-same now m i (under_way was.loads) cs (view was.store).frame.dropped held p.was e p.at was_open in
        let tasks : tasks_to_feed m (holds_line p.was.standing) ≡ RunLines m ∷ [] = ap (λ st. tasks_to_feed m (holds_line st)) ready in
        let ends : List HeldValue → Situation = λ rest. put_in (with_under_way (under_way is.loads) (with_drops dropping s)) rest m p.is in
        let before = stage (view was.store) (text_at cs i) (tape was.tape) in
        let behind = stage (view is.store) (text_at ds i) (tape is.tape) in
        let ran : RanTasks frame_was s (RunLines m ∷ []) [] r.quit is_held r.silent ends before behind =
        subst (λ ts. RanTasks frame_was s ts [] r.quit is_held r.silent ends before behind) tasks (subst (λ u. RanTasks frame_was u (tasks_to_feed m (holds_line p.was.standing)) [] r.quit is_held r.silent ends before behind) start x) in
        let target : ends ran.left ≡ middle_of (view is.store) now (under_way left) ds ran.left =
        put-situation now m i (under_way is.loads) p.was p.is cs dropping held ran.left e p.at was_open
        ∙ ap (λ ks. sit now (when_left (is_none p.is.closing) m (under_way is.loads)) ks dropping ran.left) (sym p.set)
        ∙ ap (λ l. sit now l ds dropping ran.left) (sym (leaves ∙ ap (λ o. when_left (is_none o) m (under_way is.loads)) (closing-is ds i p.is (replaced-is cs ds i p)))) in
        let leads = subst (λ t. TasksLead frame_was s (RunLines m ∷ []) ran.steps t [] (view was.store) (view is.store)) target ran.leads in
        let own : list_all (λ (step : Step). step.conn == suc i) ran.steps ≡ true =
        subst (λ k. list_all (λ (step : Step). step.conn == k) ran.steps ≡ true) e (all-own frame_was.config m s (RunLines m ∷ []) ran.steps (middle_of (view is.store) now (under_way left) ds ran.left) (feed-own m false)
        ((leads-mean frame_was s (middle_of (view is.store) now (under_way left) ds ran.left) (RunLines m ∷ []) ran.steps (view was.store) (view is.store) leads).follows refl)) in
        let g = gathered-apart (view was.store) (view is.store) ran.steps (tape was.tape) (tape is.tape) (text_at cs i) (text_at ds i) ran.gathered_is in
        record {
          steps = ran.steps;
          left = ran.left;
          stands = ran.stands;
          leads = leads;
          outputs = texts-own ran.steps g.text_is own;
          kept = g.kept;
          notes = g.untaken_is;
          moves = moves-own ran.steps own (moves-lines frame_was.config ran.steps r.quit r.silent p.was.closing p.is.closing p.was.standing p.is.standing was_open ready ran.quits ran.silent r.closing r.runs);
        }

  -- no line of it may run
  pub piece-idle : (m i : ℕ) (cs : List Presence) (p : Presence) → m ≡ suc i → slice_get cs i ≡ Some p → runs_at (Some p) ≡ false → (held : List HeldValue) → (view was.store).Stands held
      → Piece view tape frame_was now was was cs cs (RunLines m ∷ []) held
  unfolding piece-none
  piece-idle m i cs p e at idle held stands =
      let s = sit now (under_way was.loads) cs (view was.store).frame.dropped held in
      let none = piece-none cs held stands in
      let stops : may_run_in s m ≡ false = ap (λ o. option_map_or (λ (k : model.Connection). is_ready k.standing && is_some (first_line k.unread)) o false) (found-is m i p cs e at) ∙ idle-one m p idle in
      record {
        steps = [];
        left = held;
        stands = stands;
        leads = leads-no-lines frame_was s m (view was.store) stops;
        outputs = none.outputs;
        kept = none.kept;
        notes = none.notes;
        moves = none.moves;
      }

-- where one runs lines, or does not
runs-here : (closing : Option Closing) (standing : Standing) → runs_with closing standing ≡ true → (standing ≡ now_is.Ready) × (closing ≡ None)
runs-here (Some by) standing e = let no : false ≡ true = e in cc
runs-here None now_is.Ready e = (refl, refl)
runs-here None now_is.Held e = let no : false ≡ true = e in cc
runs-here None now_is.Waiting e = let no : false ≡ true = e in cc

-- one that runs lines is here
pub runs-is : (o : Option Presence) (c : Connection) → o ≡ Some (Here c) → runs_at o ≡ true → (c.standing ≡ now_is.Ready) × (c.closing ≡ None)
runs-is o c at e = runs-here c.closing c.standing (sym (ap runs_at at) ∙ e)

pub runs-is-here : (o : Option Presence) → runs_at o ≡ true → is_here o ≡ true
runs-is-here None e = let no : false ≡ true = e in cc
runs-is-here (Some (Here c)) e = refl
runs-is-here (Some Out) e = e
runs-is-here (Some (Gone why)) e = e
