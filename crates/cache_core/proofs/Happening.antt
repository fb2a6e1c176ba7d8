-- A settled load's record, from its parts.
use Rattle.std.proofs.Common.{max, refl, sym, ap, ◌∙◌, subst, arith, inl, ◌≡◌, ℕ, zero, suc, ◌+◌, ◌<◌, ◌^◌, Bool, true, false, not, ◌||◌, ◌==◌, List, [], ◌∷◌, ◌++◌, map, Option, Some, None, if◌then◌else◌, is_none, is_some, IsTrue, MatchOption}
use Rattle.std.proofs.lemmas.Option.{same_Some}
use Rattle.std.specs.List.{find, flat_map}
use Rattle.std.specs.Option.{option_map}
use Rattle.audit_model.specs.Belongs.{refusal_of}
use Rattle.audit_model.specs.Follows.{without_load}
use Rattle.audit_model.specs.Places.{tasks_to_give_up}
use Rattle.audit_model.specs.Situation.{HeldValue, Situation, connection_in}
use Rattle.audit_model.specs.declared.command.Closing.{Closing}
use Rattle.audit_model.specs.declared.config.Config.{Config}
use Rattle.audit_model.specs.declared.event.Event.{Event}
use Rattle.audit_model.specs.declared.input.ServiceError.{ServiceError}
use Rattle.audit_model.specs.declared.transcript.Accepted.{Accepted}
use Rattle.audit_model.specs.declared.transcript.Note.{Note}
use Rattle.audit_model.specs.declared.transcript.Record.{Record}
use Rattle.audit_model.specs.declared.transcript.Step.{Step}
use Rattle.cache_commands.specs.Loads.Pending.{SameTaken, loads_pending}
use Rattle.cache_commands.specs.Order.{Unknown}
use Rattle.cache_commands.specs.declared.loads.loads.Loads.{Loads}
use Rattle.cache_commands.specs.declared.loads.standing.Standing.{Standing}
use Rattle.cache_core.specs.Connections.Presence.{Gone, Here, Out, Presence, closing_of_presence, open_from, reply_text_of}
use Rattle.cache_core.specs.Fed.{WantsMemory}
use Rattle.cache_core.specs.Settling.{Happens, but_for, giving_up, known_of_loads, waiting_on}
use Rattle.cache_core.specs.State.{IsBetweenEvents, NamespaceState, at_number, known_of_state, situation_with, state_of}
use Rattle.cache_core.specs.Turned.{RefusesBy, Turned, closing_behind, own_steps, reason_of, replies_to, with_record}
use Rattle.cache_lines.proofs.leads.Leading.{leads-mean, leads-order}
use Rattle.cache_lines.proofs.leads.Settling.{give-up}
use Rattle.cache_lines.specs.Drawing.{identifiers_in}
use Rattle.cache_lines.specs.Gathered.{adds, written_in}
use Rattle.cache_lines.specs.Leads.Laws.{record_given_up}
use Rattle.cache_lines.specs.Leading.{TasksLead}
use Rattle.cache_lines.specs.Making.{making_of}
use Rattle.cache_lines.specs.Tape.Taped.{IsAtRest, Taped, finishes, started, with_entry}
use Rattle.cache_lines.specs.Waiting.{UnderWay, under_way}
use Rattle.cache_lines.specs.declared.base.Base.{Base}
use Rattle.cache_commands.specs.Promises.{Frame}
use Rattle.cache_commands.specs.Running.{is_bounded}
use Rattle.cache_commands.specs.Values.{IsSoundStore, Values}
use Rattle.audit_model.specs.Situation as model
use Rattle.audit_model.specs.declared.input.ServiceError.TheVariants as error
use Rattle.cache_commands.specs.declared.loads.standing.Standing.TheVariants as now_is
use Rattle.cache_core.specs.Settled.{Running, Absent, Closed, Course, MovesCourse, Parts, Resting, course_at, course_in, course_of, closing_of_steps, middle_of}
use Rattle.cache_core.proofs.Sending.{sends-behind}
use Rattle.cache_core.proofs.Orders.{order-turned}
use Rattle.cache_core.proofs.Table.{found-first, listed_of, none-below, passed-over}
use Rattle.cache_core.proofs.Turning.{other-number, sit}

-- ---- why a connection is closed, by what it is at

abbrev closing_at_course : Course → Option Closing
closing_at_course Absent = None
closing_at_course (Closed why) = Some why
closing_at_course Running = None
closing_at_course Resting = None

abbrev is_open_course : Course → Bool
is_open_course Absent = false
is_open_course (Closed why) = false
is_open_course Running = true
is_open_course Resting = true

closing-course : (closing : Option Closing) (standing : Standing) → closing ≡ closing_at_course (course_of closing standing)
closing-course (Some why) standing = refl
closing-course None now_is.Ready = refl
closing-course None now_is.Held = refl
closing-course None now_is.Waiting = refl

open-course : (closing : Option Closing) (standing : Standing) → is_none closing ≡ is_open_course (course_of closing standing)
open-course (Some why) standing = refl
open-course None now_is.Ready = refl
open-course None now_is.Held = refl
open-course None now_is.Waiting = refl

closing-in : (p : Presence) → closing_of_presence p ≡ closing_at_course (course_in p)
closing-in (Here c) = closing-course c.closing c.standing
closing-in Out = refl
closing-in (Gone why) = refl

open-in : (n : ℕ) (p : Presence) → is_some (listed_of n p) ≡ is_open_course (course_in p)
open-in n (Here c) = (grind arith) ∙ open-course c.closing c.standing
open-in n Out = refl
open-in n (Gone why) = refl

closing-seen : (cs : List Presence) (n : ℕ) → at_number None (map closing_of_presence cs) n ≡ closing_at_course (course_at cs n)
closing-seen cs zero = refl
closing-seen [] (suc n) = refl
closing-seen (c ∷ cs) (suc zero) = closing-in c
closing-seen (c ∷ cs) (suc (suc n)) = closing-seen cs (suc n)

-- those from a number on
course-from : (n k : ℕ) (cs : List Presence) → is_some (find (λ (x : model.Connection). x.number == n + k) (open_from n cs)) ≡ is_open_course (at_number Absent (map course_in cs) (suc k))
course-from n k [] = refl
course-from n zero (c ∷ cs) =
    let is : n + 0 ≡ n = omega arith in
    ap (λ m. is_some (find (λ (x : model.Connection). x.number == m) (open_from n (c ∷ cs)))) is ∙ ap is_some (found-first n c cs (none-below n (suc n) cs (omega arith))) ∙ open-in n c
course-from n (suc k) (c ∷ cs) =
    let is : n + suc k ≡ suc n + k = omega arith in
    ap (λ m. is_some (find (λ (x : model.Connection). x.number == m) (open_from n (c ∷ cs)))) is
    ∙ ap is_some (passed-over (suc n + k) n c cs (other-number n (suc n + k) (λ e. (let no : ⊥ = omega (arith, e) in no))))
    ∙ course-from (suc n) k cs

none-numbered : (n : ℕ) (cs : List Presence) → 0 < n → is_some (find (λ (x : model.Connection). x.number == 0) (open_from n cs)) ≡ false
none-numbered n cs lt = ap is_some (none-below 0 n cs lt)

open-seen : (cs : List Presence) (n : ℕ) → is_some (find (λ (x : model.Connection). x.number == n) (open_from 1 cs)) ≡ is_open_course (course_at cs n)
open-seen cs zero = none-numbered 1 cs (omega arith)
open-seen cs (suc k) = let is : suc k ≡ 1 + k = omega arith in ap (λ m. is_some (find (λ (x : model.Connection). x.number == m) (open_from 1 cs))) is ∙ course-from 1 k cs

abbrev closing_go : Config → List Step → Option Closing → (is_open was_open : Bool) → Option Closing
closing_go config own (Some why) is_open was_open = Some why
closing_go config own None is_open was_open = if is_open || not was_open then None else Some (closing_of_steps config own)

-- why it is closed behind its steps
closed-by : (config : Config) (own : List Step) (k l : Course) → MovesCourse config own k l
    → closing_at_course l ≡ (closing_go config own (closing_at_course k) (is_open_course l) (is_open_course k))
closed-by config own Absent l m = subst (λ x. closing_at_course x ≡ closing_go config own None (is_open_course x) false) (sym m) refl
closed-by config own (Closed why) l m = subst (λ x. closing_at_course x ≡ closing_go config own (Some why) (is_open_course x) false) (sym m.0) refl
closed-by config own Running Absent m = absurd m
closed-by config own Running (Closed why) m = ap Some m
closed-by config own Running Running m = refl
closed-by config own Running Resting m = refl
closed-by config own Resting Absent m = absurd m
closed-by config own Resting (Closed why) m = ap Some m.0
closed-by config own Resting Running m = refl
closed-by config own Resting Resting m = refl

pub closings-moved : (config : Config) (s next : Situation) (entry : Record) (cs ds : List Presence) → s.connections ≡ open_from 1 cs → next.connections ≡ open_from 1 ds
    → ((n : ℕ) → reason_of config s n entry.event entry.steps ≡ closing_of_steps config (own_steps n entry.steps)) → ((n : ℕ) → MovesCourse config (own_steps n entry.steps) (course_at cs n) (course_at ds n))
    → (n : ℕ) → at_number None (map closing_of_presence ds) n ≡ closing_behind config s entry next (at_number None (map closing_of_presence cs) n) n
closings-moved config s next entry cs ds listed relisted reasons moves n =
    closing-seen ds n
    ∙ closed-by config (own_steps n entry.steps) (course_at cs n) (course_at ds n) (moves n)
    ∙ ap (λ b. closing_go config (own_steps n entry.steps) (closing_at_course (course_at cs n)) b (is_open_course (course_at cs n))) (sym (ap (λ ks. is_some (find (λ (x : model.Connection). x.number == n) ks)) relisted ∙ open-seen ds n))
    ∙ ap (λ b. closing_go config (own_steps n entry.steps) (closing_at_course (course_at cs n)) (is_some (connection_in n next)) b) (sym (ap (λ ks. is_some (find (λ (x : model.Connection). x.number == n) ks)) listed ∙ open-seen cs n))
    ∙ ap (λ o. closing_go config (own_steps n entry.steps) o (is_some (connection_in n next)) (is_some (connection_in n s))) (sym (closing-seen cs n))
    ∙ behind (at_number None (map closing_of_presence cs) n)
  where
    behind : (o : Option Closing) → closing_go config (own_steps n entry.steps) o (is_some (connection_in n next)) (is_some (connection_in n s)) ≡ closing_behind config s entry next o n
    behind (Some why) = refl
    behind None = ap (λ why. if is_some (connection_in n next) || not (is_some (connection_in n s)) then None else Some why) (sym (reasons n))

-- ---- the record that was begun, gone through, and ended

pub settled-kept : (happened : Event) (own : Option Accepted) (notices : List Note) (steps : List Step) (n : ℕ) (tape begun middle final : Option Taped) → IsAtRest tape → begun ≡ option_map (started n) tape
    → option_map written_in middle ≡ option_map (adds steps) (option_map written_in begun) → final ≡ option_map (finishes happened own notices) middle
    → final ≡ option_map (with_record (record { event = happened; own = own; notices = notices; steps = steps })) tape
settled-kept happened own notices steps n tape begun middle final rests starts adds_to ended = go tape middle rests (adds_to ∙ ap (λ b. option_map (adds steps) (option_map written_in b)) starts) ended
  where
    entry : List Step → Record
    entry ss = record { event = happened; own = own; notices = notices; steps = ss }

    go : (t m : Option Taped) → IsAtRest t → option_map written_in m ≡ option_map (adds steps) (option_map written_in (option_map (started n) t)) → final ≡ option_map (finishes happened own notices) m → final ≡ option_map (with_record (entry steps)) t
    go None None r e f = f
    go None (Some m) r e f = let no : Some (written_in m) ≡ None = e in cc
    go (Some t) None r e f = let no : None ≡ Some (adds steps (written_in (started n t))) = e in cc
    go (Some t) (Some m) r e f =
        let is : written_in m ≡ adds steps (written_in (started n t)) = same_Some _ _ e in
        f
        ∙ ap (λ rs. Some (record { journal = with_entry (entry m.steps) rs; begun = false; steps = []; spare = 0; drafted = None })) (ap (λ (x : Taped). x.journal) is)
        ∙ ap (λ ss. Some (record { journal = with_entry (entry ss) t.journal; begun = false; steps = []; spare = 0; drafted = None })) (ap (λ (x : Taped). x.steps) is)
        ∙ ap (λ b. Some (record { journal = with_entry (entry steps) t.journal; begun = b; steps = []; spare = 0; drafted = None })) (sym r.closed)
        ∙ ap (λ ss. Some (record { journal = with_entry (entry steps) t.journal; begun = t.begun; steps = ss; spare = 0; drafted = None })) (sym r.steps)
        ∙ ap (λ k. Some (record { journal = with_entry (entry steps) t.journal; begun = t.begun; steps = t.steps; spare = k; drafted = None })) (sym r.spare)
        ∙ ap (λ d. Some (record { journal = with_entry (entry steps) t.journal; begun = t.begun; steps = t.steps; spare = t.spare; drafted = d })) (sym r.undrafted)

pub started-some : (n : ℕ) (tape begun : Option Taped) → begun ≡ option_map (started n) tape → is_some begun ≡ is_some tape
started-some n None begun e = ap is_some e
started-some n (Some t) begun e = ap is_some e

-- ---- a give-up

module _ {S T : Type 0} (view : S → Values) (tape : T → Option Taped) (base new_base : Base S T) (left : Loads) (begun final : T) (latest now load moment room : ℕ) (cs ds : List Presence) (at_now : now ≡ max moment latest)
    (starts : tape begun ≡ option_map (started room) (tape base.tape)) (left_is : under_way left ≡ but_for load (under_way base.loads))
    (parts : Parts view tape now (record { store = base.store; loads = left; tape = begun }) new_base cs ds (tasks_to_give_up (waiting_on load (under_way base.loads))))
    (ended : tape final ≡ option_map (finishes (giving_up load moment) None []) (tape new_base.tape)) where
  abbrev config : Config
  config = (view base.store).frame.config

  abbrev last : NamespaceState S T
  last = state_of (record { store = new_base.store; loads = new_base.loads; tape = final }) now ds

  config-stays : (view new_base.store).frame.config ≡ config
  config-stays = ap (λ (f : Frame). f.config) parts.frame.rest

  pub turned-given : IsAtRest (tape base.tape) → IsSoundStore (view new_base.store) → refusal_of config (known_of_loads (loads_pending base.loads)) (giving_up load moment) ≡ None → (held : List HeldValue) → (view base.store).Stands held
      → (entry : Record) × (entry.event ≡ giving_up load moment) × Turned view tape (state_of base latest cs) last (situation_with view (state_of base latest cs) held) entry
  turned-given rests sound admitted held stands =
      let making = making_of (view base.store).frame in
      let s = sit latest (under_way base.loads) cs (view base.store).frame.dropped held in
      let p = parts.ran held stands in
      let steps = p.steps in
      let tasks = tasks_to_give_up (waiting_on load (under_way base.loads)) in
      let t = middle_of (view new_base.store) now (under_way new_base.loads) ds p.left in
      let u = without_load load moment s in
      let v = view base.store in
      let w = view new_base.store in
      let begins : middle_of v now (under_way left) cs held ≡ u =
      ap (λ n. middle_of v n (under_way left) cs held) at_now ∙ ap (λ (l : UnderWay). middle_of v (max moment latest) l cs held) left_is in
      let leads : TasksLead making u tasks steps t [] v w = subst (λ x. TasksLead making x tasks steps t [] v w) begins p.leads in
      let x = leads 0 Unknown (λ plain. tt) in
      let settles = give-up making 0 s t load moment steps (identifiers_in v) (identifiers_in w) Unknown x.0 admitted x.2 in
      let kept_same = started-some room (tape base.tape) (tape begun) starts in (
        record_given_up load moment steps,
        refl,
        record {
          next = t;
          stands = record { held = p.left; stands = p.stands; is = refl };
          follows = settles.follows;
          kept = settled-kept (giving_up load moment) None [] steps room (tape base.tape) (tape begun) (tape new_base.tape) (tape final) rests starts p.kept ended;
          outputs = λ n.
              subst (λ b. at_number [] (map reply_text_of ds) n ≡ at_number [] (map reply_text_of cs) n ++ (if b then [] else replies_to n steps)) kept_same (p.outputs n);
          notes = subst (λ b. (view new_base.store).untaken ≡ (view base.store).untaken ++ (if b then [] else flat_map (λ (step : Step). step.notices) steps)) kept_same p.notes;
          closings = closings-moved config s t (record_given_up load moment steps) cs ds refl refl (λ n. refl) p.moves;
          parted = (leads-mean making u t tasks steps v w leads).parted;
          timely = (leads-mean making u t tasks steps v w leads).timely;
          bounded = subst (λ (k : Config). IsTrue (is_bounded k p.left)) config-stays (sound.bounded p.left p.stands);
          draws = settles.draws;
          ordered = leads-order making u t tasks steps v w leads;
        },
      )

  pub happens-given : IsBetweenEvents view tape (state_of base latest cs) → IsSoundStore (view base.store) → IsSoundStore (view new_base.store) → refusal_of config (known_of_loads (loads_pending base.loads)) (giving_up load moment) ≡ None → now < 2 ^ 63 → SameTaken base.loads new_base.loads
      → Happens view tape (state_of base latest cs) last (giving_up load moment) × IsBetweenEvents view tape last
  happens-given order sound sound_behind admitted low goes =
      let x = turned-given order.rests sound_behind admitted sound.some sound.stands in (
        record {
          turned = λ s st. subst (λ y. (entry : Record) × (entry.event ≡ giving_up load moment) × Turned view tape (state_of base latest cs) last y entry) (sym st.is) (turned-given order.rests sound_behind admitted st.held st.stands);
          stays = record {
            config = config-stays;
            part_of = ap (λ (f : Frame). f.part_of) parts.frame.rest;
            made = ap (λ (f : Frame). f.made) parts.frame.rest;
            namespace = goes.namespace;
            taken = goes.taken;
            sends = sends-behind view tape base (record { store = new_base.store; loads = new_base.loads; tape = final }) latest now cs ds _ x.0 (record { held = sound.some; stands = sound.stands; is = refl }) x.2 goes;
          };
        },
        order-turned view tape (state_of base latest cs) last _ x.0 (record { held = sound.some; stands = sound.stands; is = refl }) x.2 order config-stays parts.frame.latest low,
      )

-- ---- refusals

-- the definition's own cause
pub refuses-known : {S T : Type 0} (view : S → Values) (n : NamespaceState S T) (happened : Event) (e : ServiceError) → refusal_of (view n.store).frame.config (known_of_state view n) happened ≡ Some e → RefusesBy view n happened false e
refuses-known view n happened e is = subst (λ r. MatchOption r (WantsMemory false e) (λ refused. e ≡ refused)) (sym is) refl

-- want of memory
pub refuses-wanting : {S T : Type 0} (view : S → Values) (n : NamespaceState S T) (happened : Event) → refusal_of (view n.store).frame.config (known_of_state view n) happened ≡ None → RefusesBy view n happened false error.OutOfMemory
refuses-wanting view n happened is = subst (λ r. MatchOption r (WantsMemory false error.OutOfMemory) (λ refused. error.OutOfMemory ≡ refused)) (sym is) (inl refl)
