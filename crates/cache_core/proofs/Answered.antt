-- An answer's record, from its own step and its parts.
use Rattle.std.proofs.Common.{arith, max, refl, sym, ap, ◌∙◌, subst, append_assoc, ◌≡◌, ℕ, ◌<◌, ◌^◌, Bool, true, false, List, [], ◌++◌, length, map, Option, Some, None, if◌then◌else◌, IfSome, IsTrue, is_some}
use Rattle.std.proofs.lemmas.Bool.{eq-eqb}
use Rattle.std.proofs.lemmas.List.{append-nil}
use Rattle.std.specs.List.{flat_map}
use Rattle.std.specs.Option.{option_map}
use Rattle.audit_model.specs.Belongs.{refusal_of}
use Rattle.audit_model.specs.Follows.{after_event, tasks_in, without_load}
use Rattle.audit_model.specs.History.{Storing}
use Rattle.audit_model.specs.Places.{steps_of}
use Rattle.audit_model.specs.Situation.{HeldValue, Situation, view_in}
use Rattle.audit_model.specs.Steps.{Deliver, RunLines, effect_in}
use Rattle.audit_model.specs.declared.config.Config.{Config}
use Rattle.audit_model.specs.declared.event.Event.{Event}
use Rattle.audit_model.specs.declared.event.Outcome.{Outcome}
use Rattle.audit_model.specs.declared.transcript.Accepted.{Accepted}
use Rattle.audit_model.specs.declared.transcript.Note.{Note}
use Rattle.audit_model.specs.declared.transcript.Record.{Record}
use Rattle.audit_model.specs.declared.transcript.Step.{Step}
use Rattle.cache_commands.specs.Loading.{step_silent}
use Rattle.cache_commands.specs.Loads.Pending.{SameTaken, loads_pending}
use Rattle.cache_commands.specs.Order.{Order, Unknown}
use Rattle.cache_commands.specs.Right.{held_when_run}
use Rattle.cache_core.specs.Connections.Presence.{Presence, closing_of_presence, open_from, reply_text_of}
use Rattle.cache_core.specs.Fed.{BaseStays}
use Rattle.cache_core.specs.Settled.{Absent, MovesCourse, Piece, course_at, middle_of}
use Rattle.cache_core.specs.Settling.{AllLookAsBefore, BeginsAnswer, Happens, HandsOut, answering, but_for, known_of_loads, waiting_on}
use Rattle.cache_core.specs.State.{IsBetweenEvents, NamespaceState, at_number, situation_with, state_of}
use Rattle.cache_core.specs.Turned.{Turned, own_steps, replies_to, with_record}
use Rattle.cache_lines.proofs.Drawn.{keeps-more}
use Rattle.cache_lines.proofs.leads.Leading.{leads-mean, leads-order}
use Rattle.cache_lines.proofs.leads.Settling.{answer}
use Rattle.cache_lines.specs.Drawing.{identifiers_in}
use Rattle.cache_lines.specs.Leads.Laws.{record_answered, when_stored}
use Rattle.cache_lines.specs.Leading.{StepsLead, TasksLead, point}
use Rattle.cache_lines.specs.Leads.Leads.{SettlingLeads}
use Rattle.cache_lines.specs.Lines.{has_its_part}
use Rattle.cache_lines.specs.Making.{Making, making_of}
use Rattle.cache_lines.specs.Tape.Taped.{IsAtRest, Taped, finishes}
use Rattle.cache_lines.specs.Waiting.{UnderWay, under_way}
use Rattle.cache_lines.specs.declared.base.Base.{Base}
use Rattle.cache_commands.specs.Promises.{Frame}
use Rattle.cache_commands.specs.Running.{is_bounded}
use Rattle.cache_commands.specs.Values.{IsSoundStore, Values}
use Rattle.audit_model.specs.Situation as model
use Rattle.audit_model.specs.declared.event.Outcome.TheVariants as came
use Rattle.cache_core.proofs.Sending.{sends-behind}
use Rattle.cache_core.proofs.Happening.{closings-moved, settled-kept, started-some}
use Rattle.cache_core.proofs.Orders.{order-turned, state-alike}
use Rattle.cache_core.proofs.Touched.{all-closings, all-courses, all-listed, all-texts}
use Rattle.cache_core.proofs.Turning.{sit}

-- the value that was stored stands in its key's part
stored-parted : (config : Config) (part_of : List ℕ → ℕ) (s : Situation) (key : List ℕ) (outcome : Outcome) (accepted : Option Accepted) (told : List Note) → IfSome accepted (λ a. a.part ≡ part_of key)
    → has_its_part part_of (effect_in config (view_in config s) (Storing (Some key) outcome) (step_silent 0 [] None accepted told)) ≡ true
stored-parted config part_of s key outcome None told at = refl
stored-parted config part_of s key (came.Value bytes ms) (Some a) told at = let own = eq-eqb a.part (part_of key) at in grind (arith, own)
stored-parted config part_of s key came.None (Some a) told at = refl
stored-parted config part_of s key (came.Fault text) (Some a) told at = refl

-- the notes of an answer's own step are told where a record is kept alone
told-kept : (happened : Event) (own : Option Accepted) (notes told : List Note) (steps : List Step) (t : Option Taped) → (is_some t ≡ true → notes ≡ told)
    → option_map (with_record (record { event = happened; own = own; notices = notes; steps = steps })) t ≡ option_map (with_record (record { event = happened; own = own; notices = told; steps = steps })) t
told-kept happened own notes told steps None same = refl
told-kept happened own notes told steps (Some t) same = ap (λ ns. Some (with_record (record { event = happened; own = own; notices = ns; steps = steps }) t)) (same refl)

-- all notes
notes-all : (b : Bool) (was mid drained last told more : List Note) → (b ≡ true → was ≡ []) → mid ≡ was ++ told → drained ≡ (if b then [] else mid) → last ≡ drained ++ (if b then [] else more) → last ≡ was ++ (if b then [] else told ++ more)
notes-all true was mid drained last told more none adds drains adds_on = adds_on ∙ append-nil drained ∙ drains ∙ sym (none refl) ∙ sym (append-nil was)
notes-all false was mid drained last told more none adds drains adds_on = adds_on ∙ ap (λ ns. ns ++ more) (drains ∙ adds) ∙ append_assoc was told more

module _ {S T : Type 0} (view : S → Values) (tape : T → Option Taped) (base begun new_base : Base S T) (final : T) (latest now load moment room : ℕ) (outcome : Outcome) (accepted : Option Accepted) (notes : List Note) (old cs ds : List Presence) (at_now : now ≡ max moment latest)
    (starts : BeginsAnswer view tape now load outcome accepted notes room base begun) (looks : AllLookAsBefore old cs)
    (out : HandsOut view tape now load begun new_base cs ds (λ ns. map (λ conn. Deliver conn outcome) ns ++ map RunLines ns))
    (ended : tape final ≡ option_map (finishes (answering load outcome moment) accepted notes) (tape new_base.tape)) where
  abbrev config : Config
  config = (view base.store).frame.config

  abbrev last : NamespaceState S T
  last = state_of (record { store = new_base.store; loads = new_base.loads; tape = final }) now ds

  abbrev l : UnderWay
  l = under_way base.loads

  begun-frame : (view begun.store).frame ≡ (view starts.middle).frame
  begun-frame = starts.drains.frame

  making-same : making_of (view begun.store).frame ≡ making_of (view base.store).frame
  making-same = ap making_of begun-frame ∙ ap making_of starts.stored.frame.rest

  config-stays : (view new_base.store).frame.config ≡ config
  config-stays = ap (λ (f : Frame). f.config) out.parts.frame.rest ∙ ap (λ (f : Frame). f.config) begun-frame ∙ ap (λ (f : Frame). f.config) starts.stored.frame.rest

  turned-answered : IsAtRest (tape base.tape) → (is_some (tape base.tape) ≡ true → (view base.store).untaken ≡ []) → IsSoundStore (view new_base.store) → refusal_of config (known_of_loads (loads_pending base.loads)) (answering load outcome moment) ≡ None
      → (held : List HeldValue) → (view base.store).Stands held
      → (entry : Record) × (entry.event ≡ answering load outcome moment) × Turned view tape (state_of base latest old) last (situation_with view (state_of base latest old) held) entry
  turned-answered rests untaken sound admitted held stands =
      let making = making_of (view base.store).frame in
      let s = sit latest l old (view base.store).frame.dropped held in
      let u = without_load load moment s in
      let key = starts.key in
      let y = starts.stored.right u (sym at_now) stands in
      let x = y.0 in
      let told = x.told in
      let w = held_when_run config u (Storing (Some key) outcome) (step_silent 0 [] None accepted told) in
      let waiting = waiting_on load l in
      let tasks = map (λ conn. Deliver conn outcome) waiting ++ map RunLines waiting in
      let same_loads : under_way begun.loads ≡ l = ap under_way starts.loads_are in
      let were : waiting_on load (under_way begun.loads) ≡ waiting = ap (waiting_on load) same_loads in
      let amid : Base S T = record { store = begun.store; loads = out.left; tape = begun.tape } in
      let p = subst (λ (ns : List ℕ). Piece view tape making now amid new_base cs ds (map (λ conn. Deliver conn outcome) ns ++ map RunLines ns) w) were
      (subst (λ (made : Making). Piece view tape made now amid new_base cs ds (map (λ conn. Deliver conn outcome) (waiting_on load (under_way begun.loads)) ++ map RunLines (waiting_on load (under_way begun.loads))) w) making-same
      (out.parts.ran w (starts.drains.stands w x.left))) in
      let steps = p.steps in
      let t = middle_of (view new_base.store) now (under_way new_base.loads) ds p.left in
      let start = middle_of (view begun.store) now (under_way out.left) cs w in
      let a = identifiers_in (view base.store) in
      let b = identifiers_in (view begun.store) in
      let c = identifiers_in (view new_base.store) in
      let count : length (map closing_of_presence cs) ≡ length (map closing_of_presence old) = ap length (all-closings old cs looks) in
      let dropped_is : (view begun.store).frame.dropped ≡ (view base.store).frame.dropped = ap (λ (f : Frame). f.dropped) begun-frame ∙ starts.stored.dropped in
      let at : ℕ → ℕ → UnderWay → List model.Connection → Bool → Situation = λ latest_is opened_is loads_is ks dropping. record { latest = latest_is; opened = opened_is; sent = loads_is.sent; connections = ks; pending = loads_is.pending; held = w; dropped = dropping } in
      let begins : start ≡ when_stored config u key outcome accepted told =
      ap (λ n. at n (length (map closing_of_presence cs)) (under_way out.left) (open_from 1 cs) (view begun.store).frame.dropped) at_now
      ∙ ap (λ n. at (max moment latest) n (under_way out.left) (open_from 1 cs) (view begun.store).frame.dropped) count
      ∙ ap (λ k. at (max moment latest) (length (map closing_of_presence old)) k (open_from 1 cs) (view begun.store).frame.dropped) (out.left_is ∙ ap (but_for load) same_loads)
      ∙ ap (λ ks. at (max moment latest) (length (map closing_of_presence old)) (but_for load l) ks (view begun.store).frame.dropped) (all-listed 1 old cs looks)
      ∙ ap (at (max moment latest) (length (map closing_of_presence old)) (but_for load l) (open_from 1 old)) dropped_is in
      let leads : TasksLead making (when_stored config u key outcome accepted told) tasks steps t [] (view begun.store) (view new_base.store) =
      subst (λ v. TasksLead making v tasks steps t [] (view begun.store) (view new_base.store)) begins p.leads in
      let kept = keeps-more (view base.store).stream (view starts.middle).stream (view begun.store).stream (view base.store).registered (view starts.middle).registered (view begun.store).registered starts.stored.identifiers starts.drains.identifiers in
      let entry = record_answered load outcome moment accepted told steps in
      let settles : (places : ℕ) (order behind : Order) → StepsLead making places (point (when_stored config u key outcome accepted told) b Unknown) tasks steps (point t c behind) [] → SettlingLeads making places s entry t a c order behind =
      λ places order behind lead. answer making places s t load moment key outcome accepted told steps a b c order behind admitted starts.keyed y.1 x.right
      (stored-parted config making.part_of u key outcome accepted told starts.stored.part) kept lead in
      let own : TasksLead making (after_event entry.event s) (tasks_in s entry.event) (steps_of entry) t [] (view base.store) (view new_base.store) = λ places order agrees.
      let l = leads places Unknown (λ plain. tt) in
      (l.0, l.1, (settles places order l.0 l.2).leads) in
      let mean = leads-mean making (after_event entry.event s) t (tasks_in s entry.event) (steps_of entry) (view base.store) (view new_base.store) own in
      let l = leads 0 Unknown (λ plain. tt) in
      let settled = settles 0 Unknown l.0 l.2 in
      let kept_same = started-some room (tape base.tape) (tape begun.tape) starts.begun in
      let same_texts = all-texts old cs looks in
      let same_courses = all-courses old cs looks in (
        entry,
        refl,
        record {
          next = t;
          stands = record { held = p.left; stands = p.stands; is = refl };
          follows = settled.follows;
          kept = settled-kept (answering load outcome moment) accepted notes steps room (tape base.tape) (tape begun.tape) (tape new_base.tape) (tape final) rests starts.begun p.kept ended
              ∙ told-kept (answering load outcome moment) accepted notes told steps (tape base.tape) (λ e. starts.notes_are e ∙ x.handed.added ∙ ap (λ ns. ns ++ told) (untaken e));
          outputs = λ n.
              subst (λ b. at_number [] (map reply_text_of ds) n ≡ at_number [] (map reply_text_of old) n ++ (if b then [] else replies_to n steps)) kept_same
              (p.outputs n ∙ ap (λ xs. at_number [] xs n ++ (if is_some (tape begun.tape) then [] else replies_to n steps)) same_texts);
          notes = notes-all (is_some (tape base.tape)) (view base.store).untaken (view starts.middle).untaken (view begun.store).untaken (view new_base.store).untaken told (flat_map (λ (step : Step). step.notices) steps) untaken x.handed.added starts.untaken_is
              (subst (λ b. (view new_base.store).untaken ≡ (view begun.store).untaken ++ (if b then [] else flat_map (λ (step : Step). step.notices) steps)) kept_same p.notes);
          closings = closings-moved config s t entry old ds refl refl (λ n. refl) (λ n. subst (λ ks. MovesCourse config (own_steps n steps) (at_number Absent ks n) (course_at ds n)) same_courses (p.moves n));
          parted = mean.parted;
          timely = mean.timely;
          bounded = subst (λ (k : Config). IsTrue (is_bounded k p.left)) config-stays (sound.bounded p.left p.stands);
          draws = settled.draws;
          ordered = leads-order making (after_event entry.event s) t (tasks_in s entry.event) (steps_of entry) (view base.store) (view new_base.store) own;
        },
      )

  pub happens-answered : IsBetweenEvents view tape (state_of base latest old) → IsSoundStore (view base.store) → IsSoundStore (view new_base.store) → refusal_of config (known_of_loads (loads_pending base.loads)) (answering load outcome moment) ≡ None → now < 2 ^ 63 → SameTaken begun.loads new_base.loads
      → Happens view tape (state_of base latest old) last (answering load outcome moment) × IsBetweenEvents view tape last
  happens-answered order sound sound_behind admitted low goes =
      let x = turned-answered order.rests order.untaken sound_behind admitted sound.some sound.stands in
      let goes_on = subst (λ k. SameTaken k new_base.loads) starts.loads_are goes in (
        record {
          turned = λ s st. subst (λ y. (entry : Record) × (entry.event ≡ answering load outcome moment) × Turned view tape (state_of base latest old) last y entry) (sym st.is) (turned-answered order.rests order.untaken sound_behind admitted st.held st.stands);
          stays = record {
            config = config-stays;
            part_of = ap (λ (f : Frame). f.part_of) out.parts.frame.rest ∙ ap (λ (f : Frame). f.part_of) begun-frame ∙ ap (λ (f : Frame). f.part_of) starts.stored.frame.rest;
            made = ap (λ (f : Frame). f.made) out.parts.frame.rest ∙ ap (λ (f : Frame). f.made) begun-frame ∙ ap (λ (f : Frame). f.made) starts.stored.frame.rest;
            namespace = goes_on.namespace;
            taken = goes_on.taken;
            sends = sends-behind view tape base (record { store = new_base.store; loads = new_base.loads; tape = final }) latest now old ds _ x.0 (record { held = sound.some; stands = sound.stands; is = refl }) x.2 goes_on;
          };
        },
        order-turned view tape (state_of base latest old) last _ x.0 (record { held = sound.some; stands = sound.stands; is = refl }) x.2 order config-stays out.parts.frame.latest low,
      )

-- ---- nothing has changed

pub state-looks : {S T : Type 0} (base new_base : Base S T) (latest : ℕ) (cs ds : List Presence) → BaseStays base new_base → AllLookAsBefore cs ds → state_of new_base latest ds ≡ state_of base latest cs
state-looks base new_base latest cs ds b looks = state-alike base new_base latest cs ds b (all-listed 1 cs ds looks) (all-closings cs ds looks) (all-texts cs ds looks)
