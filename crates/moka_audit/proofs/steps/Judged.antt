-- A step judged part by part.
use Rattle.std.proofs.Common.{◌≡◌, refl, sym, ap, ◌∙◌, ℕ, Bool, true, false, not, ◌&&◌, ◌||◌, List, [], map, Option, Some, None, true≢false, Result, Ok, Err, arith}
use Rattle.std.proofs.Math.Bool.{and_comm, and-false}
use Rattle.std.proofs.lemmas.Bool.{and_from, and_left, and_right}
use Rattle.std.specs.Prelude.{is_some, IfOk}
use Rattle.std.specs.Option.{option_map}
use Rattle.std.proofs.lemmas.Simd.{map-map}
use Rattle.audit_model.specs.Changes.{left_held, all_held_after, held_after, with_connection_after}
use Rattle.audit_model.specs.Commands.{Deed, quits, syncs}
use Rattle.audit_model.specs.History.{Action}
use Rattle.audit_model.specs.Loads.{key_loaded}
use Rattle.audit_model.specs.Situation.{Situation, HeldValue}
use Rattle.audit_model.specs.Steps.{Task, Store, Deliver, RunAgain, RunHeld, RunLines, PlacedStep, is_right, is_in_turn, is_held_rightly, has_right_line, has_right_reply, has_right_load, has_right_acceptance, has_right_notes, is_quiet_where_silent}
use Rattle.audit_model.specs.Stream.{is_held}
use Rattle.audit_model.specs.Notes.{is_within}
use Rattle.audit_model.specs.declared.config.Config.{Config}
use Rattle.audit_model.specs.declared.transcript.Note.{Note}
use Rattle.audit_model.specs.declared.transcript.Step.{Step}
use Rattle.audit_situation.specs.States.{moved_in}
use Rattle.moka_audit.specs.Steps.Doings.{acting}
use Rattle.moka_audit.specs.Steps.Judging.{is_fit, is_synced}
use Rattle.moka_audit.specs.Steps.Showing.{runs_lines, is_store_due}

pub is_some-map : {X Y : Type 0} (f : X → Y) (o : Option X) → is_some o ≡ is_some (option_map f o)
is_some-map f None = refl
is_some-map f (Some x) = refl

-- six tests that are the same
pub all-same : (a b c d e f a' b' c' d' e' f' : Bool) → a ≡ a' → b ≡ b' → c ≡ c' → d ≡ d' → e ≡ e' → f ≡ f' → (a && b && c && d && e && f) ≡ (a' && b' && c' && d' && e' && f')
all-same a b c d e f a' b' c' d' e' f' p q r s t u =
    ap (λ x. x && b && c && d && e && f) p ∙ ap (λ x. a' && x && c && d && e && f) q ∙ ap (λ x. a' && b' && x && d && e && f) r
    ∙ ap (λ x. a' && b' && c' && x && e && f) s ∙ ap (λ x. a' && b' && c' && d' && x && f) t ∙ ap (λ x. a' && b' && c' && d' && e' && x) u

-- what a step that stores no answer does to its connection and to the loads
pub passes : (task : Option Task) (step : Step) (action : Action) (s : Situation) → is_store_due task ≡ false
    → moved_in step.conn (runs_lines task) (is_held (acting action step.reply step.load)) (is_some step.reply) step.line (quits (acting action step.reply step.load)) (key_loaded action) step.load s
    ≡ with_connection_after task step (acting action step.reply step.load) s
passes task step action s e = go task step.reply e
  where
    go : (t : Option Task) (r : Option (List ℕ)) → is_store_due t ≡ false
        → moved_in step.conn (runs_lines t) (is_held (acting action r step.load)) (is_some r) step.line (quits (acting action r step.load)) (key_loaded action) step.load s
        ≡ with_connection_after t (record step { reply = r }) (acting action r step.load) s
    go None None e = refl
    go None (Some r) e = refl
    go (Some (Store key outcome)) r e = absurd (true≢false e)
    go (Some (Deliver conn outcome)) None e = refl
    go (Some (Deliver conn outcome)) (Some r) e = refl
    go (Some (RunAgain conn)) None e = refl
    go (Some (RunAgain conn)) (Some r) e = refl
    go (Some (RunHeld conn)) None e = refl
    go (Some (RunHeld conn)) (Some r) e = refl
    go (Some (RunLines conn)) None e = refl
    go (Some (RunLines conn)) (Some r) e = refl

-- the values held are those that the step leaves
pub values-after : (config : Config) (now : ℕ) (held : List HeldValue) (deed : Deed) (notes : List Note)
    → map (λ h. h.value) (all_held_after config now held deed notes) ≡ map (λ h. h.value) (left_held held deed notes)
values-after config now held deed notes = map-map (λ h. h.value) (held_after config now held deed notes (map (λ h. h.value) (left_held held deed notes))) (left_held held deed notes)

pub first-wrong : (r s : Bool) → r ≡ false → false ≡ (r && s)
first-wrong r s e = sym (and_left r s e)

pub second-wrong : (r s : Bool) → s ≡ false → false ≡ (r && s)
second-wrong r s e = sym (and_right r s e)

pub both-right : (r s : Bool) → r ≡ true → s ≡ true → true ≡ (r && s)
both-right r s e f = sym (and_from r s e f)

-- nine tests in another order
reorder : (t h l r ld a n q sync w : Bool)
    → (t && h && l && r && ld && a && n && q && (not sync || w)) ≡ (((t && h && l && (sync || r) && ld && q) && a) && (n && (not sync || (r && w))))
reorder t h l r ld a n q sync w = grind arith

pub right-is : (config : Config) (placed : PlacedStep)
    → is_right config placed ≡ ((is_fit config placed && has_right_acceptance config placed) && (has_right_notes config placed && is_synced config placed))
right-is config placed =
    reorder (is_in_turn placed) (is_held_rightly placed) (has_right_line placed) (has_right_reply config placed) (has_right_load placed) (has_right_acceptance config placed)
    (has_right_notes config placed) (is_quiet_where_silent placed) (syncs placed.effect) (is_within config placed.held)

-- the judgement by its parts
pub judged : (config : Config) (placed : PlacedStep) (agrees : Bool) (fit accepts finished : Bool) → fit ≡ is_fit config placed → accepts ≡ has_right_acceptance config placed
    → finished ≡ (has_right_notes config placed && is_synced config placed) → (((fit && accepts) && finished) && agrees) ≡ (is_right config placed && agrees)
judged config placed agrees fit accepts finished f a n =
    ap (λ b. ((b && accepts) && finished) && agrees) f ∙ ap (λ b. ((is_fit config placed && b) && finished) && agrees) a
    ∙ ap (λ b. ((is_fit config placed && has_right_acceptance config placed) && b) && agrees) n ∙ ap (λ b. b && agrees) (sym (right-is config placed))

pub wrong-fit : (config : Config) (placed : PlacedStep) (agrees : Bool) → is_fit config placed ≡ false → false ≡ (is_right config placed && agrees)
wrong-fit config placed agrees f = judged config placed agrees false (has_right_acceptance config placed) (has_right_notes config placed && is_synced config placed) (sym f) refl refl

pub wrong-acceptance : (config : Config) (placed : PlacedStep) (agrees : Bool) → has_right_acceptance config placed ≡ false → false ≡ (is_right config placed && agrees)
wrong-acceptance config placed agrees a =
    ap (λ b. (b && (has_right_notes config placed && is_synced config placed)) && agrees) (sym (and-false (is_fit config placed)))
    ∙ judged config placed agrees (is_fit config placed) false (has_right_notes config placed && is_synced config placed) refl (sym a) refl

pub right-of : (config : Config) (placed : PlacedStep) (agrees b : Bool) → is_fit config placed ≡ true → has_right_acceptance config placed ≡ true
    → b ≡ (agrees && (has_right_notes config placed && is_synced config placed)) → b ≡ (is_right config placed && agrees)
right-of config placed agrees b f a n =
    n ∙ and_comm agrees (has_right_notes config placed && is_synced config placed)
    ∙ judged config placed agrees true true (has_right_notes config placed && is_synced config placed) (sym f) (sym a) refl

-- what holds of a result that is there
pub if-ok : {T E : Type 0} {P Q : T → Type 0} (r : Result T E) → ((x : T) → P x → Q x) → IfOk r P → IfOk r Q
if-ok (Ok x) f p = f x p
if-ok (Err e) f p = tt

pub if-ok-three : {T E : Type 0} {P Q R S : T → Type 0} (r : Result T E) → ((x : T) → P x → Q x → R x → S x) → IfOk r P → IfOk r Q → IfOk r R → IfOk r S
if-ok-three (Ok x) f p q r = f x p q r
if-ok-three (Err e) f p q r = tt

pub if-ok-always : {T E : Type 0} {P : T → Type 0} (r : Result T E) → ((x : T) → P x) → IfOk r P
if-ok-always (Ok x) f = f x
if-ok-always (Err e) f = tt
