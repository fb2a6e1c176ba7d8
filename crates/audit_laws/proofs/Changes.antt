-- The situation after one connection's change, and after a step.
use Rattle.std.proofs.Common.{inr, inl, ◌≡◌, refl, ap, ◌∙◌, sym, ℕ, suc, Bool, true, false, true≢false, not, ◌&&◌, ◌||◌, cond, List, ◌∷◌, map, Option, Some, None, length, is_none}
use Rattle.std.specs.Prelude.{IsTrue, ◌==◌}
use Rattle.std.specs.List.{filter}
use Rattle.std.specs.Option.{option_map_or}
use Rattle.std.proofs.Math.Bool.{or_comm, or-false}
use Rattle.std.proofs.lemmas.Simd.{map-map}
use Rattle.audit_laws.proofs.ConnectionSteps.{put_connection}
use Rattle.audit_model.specs.Changes.{all_held_after, connection_after, join_load, with_connection_after, after_step}
use Rattle.audit_model.specs.Commands.{deed_of, drops, covers, quits}
use Rattle.audit_model.specs.History.{Value, Effect, History, latest_moment, Storing, Stored, Ran}
use Rattle.audit_model.specs.Loads.{Sent, key_loaded, loads_sent, loads_under_way, joined}
use Rattle.audit_model.specs.Notes.{candidates_of, are_true_notes}
use Rattle.audit_model.specs.Places.{step_happens}
use Rattle.audit_model.specs.Seen.{has_dropped, view_of}
use Rattle.audit_model.specs.Situation.{Connection, Situation, connection_in, is_overlong, without_waiting, without_connection, with_connection}
use Rattle.audit_model.specs.Steps.{Task, Store, Deliver, RunAgain, RunHeld, RunLines}
use Rattle.audit_model.specs.Stream.{is_held, is_waiting, behind_lines, unanswered, first_line, is_open}
use Rattle.audit_model.specs.Summary.{opened_conns, connection_from, situation_of}
use Rattle.audit_model.specs.Values.{held_values}
use Rattle.audit_model.specs.View.{View}
use Rattle.audit_model.specs.declared.event.Outcome.{Outcome}
use Rattle.audit_model.specs.declared.config.Config.{Config}
use Rattle.audit_model.specs.declared.transcript.Step.{Step}
use Rattle.audit_laws.proofs.Told.{Each, map-same}
use Rattle.audit_laws.proofs.StepReads.{Reads, reads-ran, reads-stored}
use Rattle.audit_laws.proofs.HeldStep.{Stands}
use Rattle.audit_laws.proofs.HeldAll.{all_held-step, stand-step}
use Rattle.audit_laws.proofs.Connections.{Facts, facts, connection_of_facts, open_in, closing_in, facts-ran, facts-own, open-by_connection, connection-of}
use Rattle.audit_laws.proofs.ConnectionSteps.{connections_by, connections-stay, connections-close, filter-stay, filter-close, connection-ran}
use Rattle.audit_laws.proofs.PendingLoads.{pending_by, each-any, join-step, SendsRightly}
use Rattle.audit_laws.proofs.Leaving.{NotJoined, leave-none}
use Rattle.std.proofs.lemmas.Bool.{cases_Bool}

pub record IsOpen (f : Facts) : Type 0 where
  pub opened : f.opened ≡ true
  pub closed : f.closed ≡ false
  pub quit : f.quit ≡ false

pub open-parts : (f : Facts) → open_in f ≡ true → IsOpen f
open-parts f e = go f.opened f.closed f.quit refl refl refl e
  where
    go : (o c q : Bool) → f.opened ≡ o → f.closed ≡ c → f.quit ≡ q → (o && is_none (closing_in (record f { closed = c; quit = q }))) ≡ true → IsOpen f
    go false c q x y z e = absurd (true≢false (sym e))
    go true true q x y z e = absurd (true≢false (sym e))
    go true false true x y z e = absurd (true≢false (sym e))
    go true false false x y z e = record { opened = x; closed = y; quit = z }

module _ (c : ℕ) (f g : ℕ → Facts) (others : (d : ℕ) → (c == d) ≡ false → g d ≡ f d) (was : open_in (f c) ≡ true) (ds : List ℕ) (waiters : List ℕ → List ℕ) (sents : List Sent) where
  abbrev own : Connection
  own = connection_of_facts c (g c)

  pending-stay : open_in (g c) ≡ true → map (pending_by (λ d. open_in (g d)) waiters) sents ≡ map (pending_by (λ d. open_in (f d)) waiters) sents
  pending-stay stays =
      map-same _ (pending_by (λ d. open_in (f d)) waiters) sents
      (each-any sents (λ sent. ap (λ ws. record { number = sent.number; key = sent.key; waiting = ws }) (filter-stay c f g others was stays (waiters sent.key))))

  pending-close : open_in (g c) ≡ false → map (pending_by (λ d. open_in (g d)) waiters) sents ≡ map (without_waiting c) (map (pending_by (λ d. open_in (f d)) waiters) sents)
  pending-close closes =
      map-same _ (λ sent. without_waiting c (pending_by (λ d. open_in (f d)) waiters sent)) sents
      (each-any sents (λ sent. ap (λ ws. record { number = sent.number; key = sent.key; waiting = ws }) (filter-close c f g others was closes (waiters sent.key))))
      ∙ sym (map-map (without_waiting c) (pending_by (λ d. open_in (f d)) waiters) sents)

  abbrev changed : Situation → Situation
  changed j = record j { connections = connections_by g ds; pending = map (pending_by (λ d. open_in (g d)) waiters) sents }

  pub close-changed : (j : Situation) → j.connections ≡ connections_by f ds → j.pending ≡ map (pending_by (λ d. open_in (f d)) waiters) sents → open_in (g c) ≡ false → without_connection c j ≡ changed j
  close-changed j e u closes =
      ap (λ ls. record j { connections = ls; pending = map (without_waiting c) j.pending }) (ap (filter (λ x. not (x.number == c))) e ∙ sym (connections-close c f g others was closes ds))
      ∙ ap (λ us. record j { connections = connections_by g ds; pending = us }) (ap (map (without_waiting c)) u ∙ sym (pending-close closes))

  stay-changed : (j : Situation) → j.connections ≡ connections_by f ds → j.pending ≡ map (pending_by (λ d. open_in (f d)) waiters) sents → open_in (g c) ≡ true → record j { connections = put_connection own j.connections } ≡ changed j
  stay-changed j e u stays =
      ap (λ ls. record j { connections = ls }) (ap (put_connection own) e ∙ sym (connections-stay c f g others was stays ds))
      ∙ ap (λ us. record j { connections = connections_by g ds; pending = us }) (u ∙ sym (pending-stay stays))

  pub with_connection-changed : (q : Bool) (j : Situation) → j.connections ≡ connections_by f ds → j.pending ≡ map (pending_by (λ d. open_in (f d)) waiters) sents
      → open_in (g c) ≡ not (q || is_overlong own) → with_connection q own j ≡ changed j
  with_connection-changed q j e u o = elim (cases_Bool (q || is_overlong own)) [ inl is ↦ rw is (close-changed j e u (rw is at o)) | inr is ↦ rw is (stay-changed j e u (rw is at o)) ]

-- ---- a step of a connection

abbrev pub is_of_conn : Option Task → Bool
is_of_conn (Some (Store key outcome)) = false
is_of_conn task = true

pub of_conn-connection : (task : Option Task) (step : Step) (effect : Effect) (s : Situation) → is_of_conn task ≡ true
    → with_connection_after task step effect s ≡ option_map_or (λ l. with_connection (quits effect) (connection_after task step effect l) (join_load step.conn effect s)) (connection_in step.conn s) s
of_conn-connection (Some (Store key outcome)) step effect s e = absurd (true≢false (sym e))
of_conn-connection (Some (Deliver c outcome)) step effect s e = refl
of_conn-connection (Some (RunAgain c)) step effect s e = refl
of_conn-connection (Some (RunHeld c)) step effect s e = refl
of_conn-connection (Some (RunLines c)) step effect s e = refl
of_conn-connection None step effect s e = refl

pub of_conn-happens : (task : Option Task) (step : Step) (effect : Effect) → is_of_conn task ≡ true → step_happens task step effect ≡ Ran step.conn effect
of_conn-happens (Some (Store key outcome)) step effect e = absurd (true≢false (sym e))
of_conn-happens (Some (Deliver c outcome)) step effect e = refl
of_conn-happens (Some (RunAgain c)) step effect e = refl
of_conn-happens (Some (RunHeld c)) step effect e = refl
of_conn-happens (Some (RunLines c)) step effect e = refl
of_conn-happens None step effect e = refl

-- a load that a step sends has the next number
abbrev pub NumbersRightly : History → Option (List ℕ) → Option ℕ → Type 0
NumbersRightly past (Some key) (Some n) = n ≡ suc (length (loads_sent past))
NumbersRightly past ko lo = Unit {0}

-- each note of a step tells a value with a true cause
abbrev pub NotesFit : Config → View → Effect → Type 0
NotesFit config seen effect = IsTrue (are_true_notes config seen.held (deed_of effect) (candidates_of config seen.held (deed_of effect)) effect.notes)

-- what a step of a connection must be like
pub record StepFits (config : Config) (made : ℕ) (past : History) (task : Option Task) (step : Step) (effect : Effect) : Type 0 where
  pub of_conn : is_of_conn task ≡ true
  pub at_now : effect.at ≡ latest_moment made past
  pub is_open : is_open step.conn past ≡ true
  pub held_silent : is_held effect ≡ true → is_none effect.reply ≡ true
  pub reads : (connection_after task step effect (connection_of_facts step.conn (facts step.conn past))).unread ≡ behind_lines 1 (unanswered step.conn past)
  pub line : first_line (unanswered step.conn past) ≡ Some step.line
  pub sends : SendsRightly past step.conn (λ d. open_in (facts d past)) is_open (is_waiting effect) (key_loaded effect.action) effect.load
  pub numbers : NumbersRightly past (key_loaded effect.action) effect.load
  pub away : NotJoined past step.conn
  pub fresh : (v : Value) → effect.value ≡ Some v → (covers v.key effect ≡ false) × (v.accepted_at ≡ effect.at)
  pub notes : NotesFit config (view_of config past (latest_moment made past)) effect

module _ (config : Config) (made : ℕ) (past : History) (task : Option Task) (step : Step) (effect : Effect)
    (stand : Each (Stands past) (held_values past)) (fits : StepFits config made past task step effect) where
  abbrev c : ℕ
  c = step.conn

  abbrev then' : History
  then' = Ran c effect ∷ past

  abbrev s : Situation
  s = situation_of config made past

  abbrev t : Situation
  t = record s { held = all_held_after config s.latest s.held (deed_of effect) effect.notes; dropped = s.dropped || drops effect }

  abbrev runs : ℕ → Bool
  runs d = open_in (facts d past)

  abbrev waiters : List ℕ → List ℕ
  waiters key = joined key then'

  abbrev sents : List Sent
  sents = loads_under_way then'

  abbrev j : Situation
  j = record t { sent = length (loads_sent then'); pending = map (pending_by runs waiters) sents }

  abbrev l : Connection
  l = connection_of_facts c (facts c then')

  joins : join_load c effect t ≡ j
  joins = join-step past c runs fits.is_open (is_waiting effect) (key_loaded effect.action) effect.load t fits.sends refl refl (leave-none c runs past fits.away)

  connections : connection_after task step effect (connection_of_facts c (facts c past)) ≡ l
  connections = sym (ap (connection_of_facts c) (facts-own c effect past) ∙ connection-ran c past task step effect fits.held_silent fits.reads fits.line)

  opens : open_in (facts c then') ≡ not (quits effect || is_overlong l)
  opens =
      let is : IsOpen (facts c past) = open-parts (facts c past) fits.is_open in
      open-by_connection c (facts c then') is.opened is.closed
      ∙ ap (λ b. not (b || is_overlong l)) (ap (λ x. x.quit) (facts-own c effect past) ∙ ap (λ b. quits effect || b) is.quit ∙ or-false (quits effect))

  with_connection_after-step : with_connection_after task step effect t ≡ record j { connections = connections_by (λ d. facts d then') (opened_conns past); pending = map (pending_by (λ d. open_in (facts d then')) waiters) sents }
  with_connection_after-step =
      of_conn-connection task step effect t fits.of_conn
      ∙ ap (λ o. option_map_or (λ x. with_connection (quits effect) (connection_after task step effect x) (join_load c effect t)) o t)
      (connection-of config made past c ∙ ap (λ b. cond b (Some (connection_from past c)) None) fits.is_open)
      ∙ ap (λ x. with_connection (quits effect) x (join_load c effect t)) connections
      ∙ ap (with_connection (quits effect) l) joins
      ∙ with_connection-changed c (λ d. facts d past) (λ d. facts d then') (λ d e. facts-ran d c effect past e) fits.is_open (opened_conns past) waiters sents (quits effect) j refl refl opens

  pub situation-ran : situation_of config made then' ≡ after_step config s task step effect
  situation-ran =
      ap (λ ks. record (situation_of config made then') { held = ks }) (sym (all_held-step config made past (Ran c effect) effect (reads-ran c effect) fits.at_now stand fits.fresh fits.notes))
      ∙ ap (λ b. record (situation_of config made then') { held = all_held_after config s.latest s.held (deed_of effect) effect.notes; dropped = b }) (ap (λ b. b || has_dropped past) ((reads-ran c effect).dropped) ∙ or_comm (drops effect) (has_dropped past))
      ∙ sym with_connection_after-step

  pub stand-ran : Each (Stands then') (held_values then')
  stand-ran = stand-step config made past (Ran c effect) effect (reads-ran c effect) fits.at_now stand fits.fresh fits.notes

-- ---- the step that stores an answer

pub record StoreFits (config : Config) (made : ℕ) (past : History) (key : Option (List ℕ)) (outcome : Outcome) (effect : Effect) : Type 0 where
  pub action : effect.action ≡ Storing key outcome
  pub at_now : effect.at ≡ latest_moment made past
  pub fresh : (v : Value) → effect.value ≡ Some v → (covers v.key effect ≡ false) × (v.accepted_at ≡ effect.at)
  pub notes : NotesFit config (view_of config past (latest_moment made past)) effect

module _ (config : Config) (made : ℕ) (past : History) (key : Option (List ℕ)) (outcome : Outcome) (step : Step) (effect : Effect)
    (stand : Each (Stands past) (held_values past)) (fits : StoreFits config made past key outcome effect) where
  abbrev told_reads : Reads (Stored effect) effect
  told_reads = reads-stored effect

  pub situation-stored : situation_of config made (Stored effect ∷ past)
      ≡ after_step config (situation_of config made past) (Some (Store key outcome)) step effect
  situation-stored =
      ap (λ ks. record (situation_of config made (Stored effect ∷ past)) { held = ks }) (sym (all_held-step config made past (Stored effect) effect told_reads fits.at_now stand fits.fresh fits.notes))
      ∙ ap (λ b. record (situation_of config made past) { held = all_held_after config (latest_moment made past) (situation_of config made past).held (deed_of effect) effect.notes; dropped = b }) (ap (λ b. b || has_dropped past) told_reads.dropped ∙ or_comm (drops effect) (has_dropped past))

  pub stand-stored : Each (Stands (Stored effect ∷ past)) (held_values (Stored effect ∷ past))
  stand-stored = stand-step config made past (Stored effect) effect told_reads fits.at_now stand fits.fresh fits.notes
