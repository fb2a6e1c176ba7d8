-- A feed cut in two, by what histories say of what is to come.
use Rattle.std.proofs.Common.{inr, inl, ◌≡◌, refl, ap, ◌∙◌, sym, subst, ℕ, max, Bool, true, false, true≢false, not, ◌&&◌, ◌||◌, cond, List, [], ◌∷◌, ◌++◌, append_assoc, length, Option, Some, None, is_some, is_none, nat_lt, arith, zero-add}
use Rattle.std.specs.Prelude.{◌==◌, Ok, Err}
use Rattle.std.specs.List.{list_all}
use Rattle.std.proofs.Math.Path.{fun_ext}
use Rattle.std.proofs.lemmas.Bool.{not-true, cases_Bool, and_parts, and_from, eqb-true, true_from_ne_false}
use Rattle.std.proofs.lemmas.List.{append-nil}
use Rattle.audit_model.specs.Bytewise.{is_empty, cut_at}
use Rattle.audit_model.specs.Grammar.{Reading, reading}
use Rattle.audit_model.specs.History.{Happening, Opened, Closed, Fed, Settled, Stored, Ran, Effect, Holding}
use Rattle.audit_model.specs.Notes.{is_over}
use Rattle.audit_model.specs.Places.{first_due, left_after, tasks_to_feed}
use Rattle.audit_model.specs.Steps.{Task, RunHeld, RunLines, PlacedStep, action_by, is_right}
use Rattle.audit_model.specs.Stream.{is_held, is_waiting, behind_lines, first_line}
use Rattle.audit_model.specs.declared.command.Closing.TheVariants as by
use Rattle.audit_model.specs.declared.config.Config.{Config}
use Rattle.audit_model.specs.declared.transcript.Step.{Step}
use Rattle.audit_laws.specs.Cutting.{none_held}
use Rattle.audit_laws.proofs.Connections.{Facts, last_is, bytes_left, unread_in, open_in, eqb-self}
use Rattle.audit_laws.proofs.ConnectionSteps.{eqb-turned}
use Rattle.audit_laws.proofs.FedMore.{has_line}
use Rattle.audit_laws.proofs.LinesRead.{Complete, with_bytes, cut-more, first_line-more, behind-more, connection-fed, ran_itself, complete-after}
use Rattle.audit_laws.proofs.PlacedStepsAgree.{Parts, parts-of}
use Rattle.audit_laws.proofs.Rightly.{held-silent, line-due}
use Rattle.audit_laws.proofs.Traces.{Traces, ran_on, then_traces, may_by, line_by, effect_by, placed_by, Walked, then_step, walk_by}

-- ---- a connection whose line may run, with more bytes behind

abbrev pub runs_by : Facts → Bool
runs_by f = open_in f && not (last_is is_waiting f.effect) && not (last_is is_held f.effect) && is_some (first_line (unread_in f))

pub unread-more : (f : Facts) (rest : List ℕ) → Complete f → unread_in (with_bytes rest f) ≡ unread_in f ++ rest
unread-more f rest h = ap (λ c. c.unread) (connection-fed 0 rest f h)

abbrev open_with : Facts → Bool → List ℕ → List ℕ → Bool
open_with f waits behind line =
    f.opened && is_none (cond f.closed (Some by.Asked)
    (cond f.quit (Some by.Quit)
    (cond (waits && nat_lt 8192 (length behind)) (Some by.Behind)
    (cond (not waits && not (last_is is_held f.effect) && nat_lt 8192 (length line)) (Some by.Long) None))))

pub runs-more : (f : Facts) (rest : List ℕ) → Complete f → runs_by f ≡ true → runs_by (with_bytes rest f) ≡ true
runs-more f rest h e =
    let p3 = and_parts _ (is_some (first_line (unread_in f))) e in
    let p2 = and_parts _ (not (last_is is_held f.effect)) p3.0 in
    let p1 = and_parts (open_in f) (not (last_is is_waiting f.effect)) p2.0 in
    let unread = unread-more f rest h in
    let whole = sym (has_line (unread_in f)) ∙ p3.1 in
    let idle = not-true (last_is is_waiting f.effect) p1.1 in
    let opens : open_in (with_bytes rest f) ≡ open_in f =
    ap (λ w. open_with f w (unread_in (with_bytes rest f)) (cut_at 10 (unread_in (with_bytes rest f))).0) idle
    ∙ ap (λ bs. open_with f false [] (cut_at 10 bs).0) unread
    ∙ ap (λ (m : List ℕ × Option (List ℕ)). open_with f false [] m.0) (cut-more (unread_in f) rest whole)
    ∙ sym (ap (λ w. open_with f w (unread_in f) (cut_at 10 (unread_in f)).0) idle) in
    and_from _ _
    (and_from _ _ (and_from _ _ (opens ∙ p1.0) p1.1) p2.1)
    (ap (λ bs. is_some (first_line bs)) unread ∙ ap is_some (first_line-more (unread_in f) rest whole) ∙ p3.1)

-- another one's step leaves a connection's facts
pub ran-other : (effect : Effect) (f : Facts) → ran_on effect f false ≡ f
ran-other effect f = ap (λ n. record f { replies = n }) (zero-add f.replies)

twice : (a b : Bool) → (a || (a || b)) ≡ (a || b)
twice a b = grind arith

unheld_by : (r : Reading) (effect : Effect) → is_held (record effect { action = action_by r }) ≡ false
unheld_by (Ok command) effect = refl
unheld_by (Err error) effect = refl

module _ (config : Config) (conn : ℕ) where
  -- the same with other bytes of the connection
  abbrev pub with_own : List ℕ → Traces → Traces
  with_own bytes t = record t { connection = λ c. record (t.connection c) { bytes = cond (c == conn) bytes (t.connection c).bytes } }

  abbrev pub own : Traces → Facts
  own t = t.connection conn

  pub own-with : (bytes : List ℕ) (t : Traces) → own (with_own bytes t) ≡ record (own t) { bytes = bytes }
  own-with bytes t = ap (λ b. record (own t) { bytes = cond b bytes (own t).bytes }) (eqb-self conn)

  -- an excess now is among those that still count
  abbrev pub Steady : Traces → Type 0
  Steady t = (key : List ℕ) (part : ℕ) → (is_over config part t.kept || t.over key part) ≡ t.over key part

  pub steady-then : (h : Happening) (t : Traces) → Steady (then_traces config h t)
  steady-then (Opened d) t key part = twice (is_over config part t.kept) _
  steady-then (Closed d) t key part = twice (is_over config part t.kept) _
  steady-then (Fed d piece m) t key part = twice (is_over config part t.kept) _
  steady-then (Settled load m) t key part = twice (is_over config part t.kept) _
  steady-then (Stored effect) t key part = twice (is_over config part (then_traces config (Stored effect) t).kept) _
  steady-then (Ran d effect) t key part = twice (is_over config part (then_traces config (Ran d effect) t).kept) _

  module _ (rest : List ℕ) (m : ℕ) where
    -- with those bytes behind the connection's
    abbrev pub more : Traces → Traces
    more t = with_own ((own t).bytes ++ rest) t

    -- what holds where the second feed comes
    pub record Good (t : Traces) : Type 0 where
      pub complete : Complete (own t)
      pub steady : Steady t
      pub moment : max m t.moment ≡ t.moment

    bytes_one : (t : Traces) (c : ℕ) (same : Bool) → (c == conn) ≡ same → (conn == c) ≡ same
        → (t.connection c).bytes ++ cond (conn == c) rest [] ≡ cond (c == conn) ((own t).bytes ++ rest) (t.connection c).bytes
    bytes_one t c true e k =
        ap (λ b. (t.connection c).bytes ++ cond b rest []) k ∙ ap (λ d. (t.connection d).bytes ++ rest) (eqb-true c conn e) ∙ sym (ap (λ b. cond b ((own t).bytes ++ rest) (t.connection c).bytes) e)
    bytes_one t c false e k =
        ap (λ b. (t.connection c).bytes ++ cond b rest []) k ∙ append-nil (t.connection c).bytes ∙ sym (ap (λ b. cond b ((own t).bytes ++ rest) (t.connection c).bytes) e)

    abbrev fed_with : (List ℕ → ℕ → Bool) → ℕ → (ℕ → List ℕ) → Traces → Traces
    fed_with over moment bytes t = record t { over = over; moment = moment; connection = λ c. record (t.connection c) { bytes = bytes c } }

    -- the second feed adds them
    pub fed-more : (t : Traces) → Good t → then_traces config (Fed conn rest m) t ≡ more t
    fed-more t g =
        ap (λ over. fed_with over (max m t.moment) (λ c. (t.connection c).bytes ++ cond (conn == c) rest []) t) (fun_ext (λ key. fun_ext (g.steady key)))
        ∙ ap (λ n. fed_with t.over n (λ c. (t.connection c).bytes ++ cond (conn == c) rest []) t) g.moment
        ∙ ap (λ bytes. fed_with t.over t.moment bytes t) (fun_ext (λ c. bytes_one t c (c == conn) refl (eqb-turned conn c)))

    -- the whole feed, and the first one with more behind
    whole_one : (front : List ℕ) (t : Traces) (c : ℕ) (same : Bool) → (c == conn) ≡ same → (conn == c) ≡ same
        → (t.connection c).bytes ++ cond (conn == c) (front ++ rest) []
        ≡ cond (c == conn) (((own t).bytes ++ cond (conn == conn) front []) ++ rest) ((t.connection c).bytes ++ cond (conn == c) front [])
    whole_one front t c true e k =
        ap (λ b. (t.connection c).bytes ++ cond b (front ++ rest) []) k
        ∙ ap (λ d. (t.connection d).bytes ++ (front ++ rest)) (eqb-true c conn e)
        ∙ sym (append_assoc (own t).bytes front rest)
        ∙ ap (λ b. ((own t).bytes ++ cond b front []) ++ rest) (sym (eqb-self conn))
        ∙ sym (ap (λ b. cond b (((own t).bytes ++ cond (conn == conn) front []) ++ rest) ((t.connection c).bytes ++ cond (conn == c) front [])) e)
    whole_one front t c false e k =
        ap (λ b. (t.connection c).bytes ++ cond b (front ++ rest) []) k
        ∙ sym (ap (λ b. (t.connection c).bytes ++ cond b front []) k)
        ∙ sym (ap (λ b. cond b (((own t).bytes ++ cond (conn == conn) front []) ++ rest) ((t.connection c).bytes ++ cond (conn == c) front [])) e)

    pub fed-whole : (front : List ℕ) (t : Traces) → then_traces config (Fed conn (front ++ rest) m) t ≡ more (then_traces config (Fed conn front m) t)
    fed-whole front t =
        ap (λ bytes. fed_with (then_traces config (Fed conn front m) t).over (max m t.moment) bytes t) (fun_ext (λ c. whole_one front t c (c == conn) refl (eqb-turned conn c)))

    pub good-fed : (front : List ℕ) (t : Traces) → Complete (own (then_traces config (Fed conn front m) t)) → Good (then_traces config (Fed conn front m) t)
    good-fed front t h = record { complete = h; steady = steady-then (Fed conn front m) t; moment = omega arith }

    -- ---- one step

    abbrev pub task_of : Bool → Task
    task_of held = cond held (RunHeld conn) (RunLines conn)

    line-of : (held : Bool) (t : Traces) (n : ℕ) → line_by config t (Some (task_of held)) n ≡ first_line (bytes_left (t.connection n))
    line-of true t n = refl
    line-of false t n = refl

    placed-of : (held : Bool) (t : Traces) (x : Step)
        → placed_by config (more t) (Some (task_of held)) x ≡ record (placed_by config t (Some (task_of held)) x) { line = line_by config (more t) (Some (task_of held)) x.conn }
    placed-of true t x = refl
    placed-of false t x = refl

    -- its first line has come whole
    abbrev pub Came : Traces → Type 0
    Came t = is_some (cut_at 10 (bytes_left (own t))).1 ≡ true

    first-more : (t : Traces) (n : ℕ) → n ≡ conn → Complete (own t) → Came t → first_line (bytes_left ((more t).connection n)) ≡ first_line (bytes_left (t.connection n))
    first-more t n e h came =
        ap (λ k. first_line (bytes_left ((more t).connection k))) e
        ∙ ap (λ f. first_line (bytes_left f)) (own-with ((own t).bytes ++ rest) t)
        ∙ ap first_line (behind-more (own t).replies (own t).bytes rest h.answered)
        ∙ first_line-more (bytes_left (own t)) rest came
        ∙ sym (ap (λ k. first_line (bytes_left (t.connection k))) e)

    -- the same step with more bytes behind
    pub placed-more : (held : Bool) (t : Traces) (x : Step) → x.conn ≡ conn → Complete (own t) → Came t
        → placed_by config (more t) (Some (task_of held)) x ≡ placed_by config t (Some (task_of held)) x
    placed-more held t x e h came =
        placed-of held t x
        ∙ ap (λ l. record (placed_by config t (Some (task_of held)) x) { line = l }) (line-of held (more t) x.conn ∙ first-more t x.conn e h came ∙ sym (line-of held t x.conn))

    pub then-more : (held : Bool) (t : Traces) (x : Step) → then_step config (more t) (Some (task_of held)) x ≡ more (then_step config t (Some (task_of held)) x)
    then-more true t x = refl
    then-more false t x = refl

    pub in-turn : (held : Bool) (t : Traces) (x : Step) → is_right config (placed_by config t (Some (task_of held)) x) ≡ true → x.conn ≡ conn
    in-turn true t x r = sym (eqb-true conn x.conn (parts-of config (placed_by config t (Some (RunHeld conn)) x) r).in_turn)
    in-turn false t x r = sym (eqb-true conn x.conn (parts-of config (placed_by config t (Some (RunLines conn)) x) r).in_turn)

    -- after a right step of its own
    own-then : (held : Bool) (t : Traces) (x : Step) → x.conn ≡ conn → own (then_step config t (Some (task_of held)) x) ≡ ran_itself (effect_by config t (Some (task_of held)) x) (own t)
    own-then true t x e = ap (λ n. ran_on (effect_by config t (Some (RunHeld conn)) x) (own t) (n == conn)) e ∙ ap (ran_on (effect_by config t (Some (RunHeld conn)) x) (own t)) (eqb-self conn)
    own-then false t x e = ap (λ n. ran_on (effect_by config t (Some (RunLines conn)) x) (own t) (n == conn)) e ∙ ap (ran_on (effect_by config t (Some (RunLines conn)) x) (own t)) (eqb-self conn)

    moment-then : (held : Bool) (t : Traces) (x : Step) → (then_step config t (Some (task_of held)) x).moment ≡ t.moment
    moment-then true t x = refl
    moment-then false t x = refl

    steady-step : (held : Bool) (t : Traces) (x : Step) → Steady (then_step config t (Some (task_of held)) x)
    steady-step true t x = steady-then (Ran x.conn (effect_by config t (Some (RunHeld conn)) x)) t
    steady-step false t x = steady-then (Ran x.conn (effect_by config t (Some (RunLines conn)) x)) t

    pub good-then : (held : Bool) (t : Traces) (x : Step) → is_right config (placed_by config t (Some (task_of held)) x) ≡ true → Good t → Good (then_step config t (Some (task_of held)) x)
    good-then held t x r g =
        let p : Parts config (placed_by config t (Some (task_of held)) x) = parts-of config (placed_by config t (Some (task_of held)) x) r in
        let e = in-turn held t x r in
        let effect = effect_by config t (Some (task_of held)) x in
        let line : first_line (bytes_left (own t)) ≡ Some x.line =
        sym (ap (λ n. first_line (bytes_left (t.connection n))) e) ∙ sym (line-of held t x.conn) ∙ line-due (line_by config t (Some (task_of held)) x.conn) x.line p.line in
        record {
          complete = subst Complete (sym (own-then held t x e)) (complete-after (own t) effect x.line (held-silent config (placed_by config t (Some (task_of held)) x).seen (placed_by config t (Some (task_of held)) x).held effect p.reply) line g.complete);
          steady = steady-step held t x;
          moment = ap (max m) (moment-then held t x) ∙ g.moment ∙ sym (moment-then held t x);
        }

    abbrev pub Unheld : Traces → Type 0
    Unheld t = last_is is_held (own t).effect ≡ false

    effect-unheld : (held : Bool) (t : Traces) (x : Step) → x.held ≡ false → is_held (effect_by config t (Some (task_of held)) x) ≡ false
    effect-unheld true t x e = ap (λ b. is_held (record (effect_by config t (Some (RunHeld conn)) x) { action = cond b Holding (action_by (reading config x.line)) })) e ∙ unheld_by (reading config x.line) (effect_by config t (Some (RunHeld conn)) x)
    effect-unheld false t x e = ap (λ b. is_held (record (effect_by config t (Some (RunLines conn)) x) { action = cond b Holding (action_by (reading config x.line)) })) e ∙ unheld_by (reading config x.line) (effect_by config t (Some (RunLines conn)) x)

    pub unheld-then : (held : Bool) (t : Traces) (x : Step) → x.conn ≡ conn → x.held ≡ false → Unheld (then_step config t (Some (task_of held)) x)
    unheld-then held t x e k = ap (λ f. last_is is_held f.effect) (own-then held t x e) ∙ effect-unheld held t x k

    pub opened-then : (held : Bool) (t : Traces) (x : Step) → (own (then_step config t (Some (task_of held)) x)).opened ≡ (own t).opened
    opened-then true t x = refl
    opened-then false t x = refl

    -- ---- steps

    abbrev pub onto : PlacedStep → Walked → Walked
    onto placed w = record { placed = placed ∷ w.placed; left = w.left; after = w.after }

    -- the first step, of the held line or of one that may run
    pub first-walk : (held : Bool) (t : Traces) (x : Step) (xs : List Step) → (held ≡ false → may_by config t conn ≡ true)
        → walk_by config t (tasks_to_feed conn held) (x ∷ xs) ≡ onto (placed_by config t (Some (task_of held)) x) (walk_by config (then_step config t (Some (task_of held)) x) (RunLines conn ∷ []) xs)
    first-walk true t x xs f = refl
    first-walk false t x xs f =
        ap (λ may. let now_due = cond may (RunLines conn ∷ []) [] in
        onto (placed_by config t (first_due now_due) x) (walk_by config (then_step config t (first_due now_due) x) (left_after now_due) xs)) (f refl)

    -- the second feed's steps
    abbrev pub second_walk : Traces → List Step → Walked
    second_walk t second = walk_by config (then_traces config (Fed conn rest m) t) (tasks_to_feed conn (last_is is_held (own t).effect)) second

    -- a walk in two: the first ends, and the second goes on
    pub record InTwo (was : Bool) (w w1 : Walked) (second : List Step) : Type 0 where
      pub finished : w1.left ≡ []
      pub good : Good w1.after
      pub unheld : Unheld w1.after
      pub opened : (own w1.after).opened ≡ was
      pub placed : w.placed ≡ w1.placed ++ (second_walk w1.after second).placed
      pub left : w.left ≡ (second_walk w1.after second).left
      pub after : w.after ≡ (second_walk w1.after second).after

    -- where no line may run, the first one ends
    here : (t : Traces) (second : List Step) → Good t → Unheld t → may_by config t conn ≡ false
        → InTwo (own t).opened (walk_by config (more t) (RunLines conn ∷ []) second) (walk_by config t (RunLines conn ∷ []) []) second
    here t second g u may =
        let same : second_walk t second ≡ walk_by config (more t) (RunLines conn ∷ []) second =
        ap (λ held. walk_by config (then_traces config (Fed conn rest m) t) (tasks_to_feed conn held) second) u ∙ ap (λ s. walk_by config s (RunLines conn ∷ []) second) (fed-more t g) in
        record {
          finished = ap (λ b. cond b (RunLines conn ∷ []) []) may;
          good = g;
          unheld = u;
          opened = refl;
          placed = ap (λ (w : Walked). w.placed) (sym same);
          left = ap (λ (w : Walked). w.left) (sym same);
          after = ap (λ (w : Walked). w.after) (sym same);
        }

    -- a step that is the same in both, and what follows it
    there : (held : Bool) (t : Traces) (x : Step) (first second : List Step)
        → (held ≡ false → may_by config t conn ≡ true) → (held ≡ false → may_by config (more t) conn ≡ true) → x.conn ≡ conn → Complete (own t) → Came t
        → InTwo (own (then_step config t (Some (task_of held)) x)).opened (walk_by config (more (then_step config t (Some (task_of held)) x)) (RunLines conn ∷ []) (first ++ second)) (walk_by config (then_step config t (Some (task_of held)) x) (RunLines conn ∷ []) first) second
        → InTwo (own t).opened (walk_by config (more t) (tasks_to_feed conn held) (x ∷ first ++ second)) (walk_by config t (tasks_to_feed conn held) (x ∷ first)) second
    there held t x first second may may' e h came two =
        subst (λ w1. InTwo (own t).opened (walk_by config (more t) (tasks_to_feed conn held) (x ∷ first ++ second)) w1 second) (sym (first-walk held t x first may))
        (subst (λ w. InTwo (own t).opened w (onto (placed_by config t (Some (task_of held)) x) (walk_by config (then_step config t (Some (task_of held)) x) (RunLines conn ∷ []) first)) second)
        (sym (first-walk held (more t) x (first ++ second) may' ∙ ap (λ s. onto (placed_by config (more t) (Some (task_of held)) x) (walk_by config s (RunLines conn ∷ []) (first ++ second))) (then-more held t x)))
        (record {
          finished = two.finished;
          good = two.good;
          unheld = two.unheld;
          opened = two.opened ∙ opened-then held t x;
          placed =
              ap (λ p. p ∷ (walk_by config (more (then_step config t (Some (task_of held)) x)) (RunLines conn ∷ []) (first ++ second)).placed) (placed-more held t x e h came)
              ∙ ap (λ ps. placed_by config t (Some (task_of held)) x ∷ ps) two.placed;
          left = two.left;
          after = two.after;
        }))

    -- ---- where a step is due

    came-held : (t : Traces) → Complete (own t) → last_is is_held (own t).effect ≡ true → Came t
    came-held t h e = h.read (ap (λ b. b || last_is is_waiting (own t).effect) e)

    came-lines : (t : Traces) → may_by config t conn ≡ true → Came t
    came-lines t e =
        let p3 = and_parts _ (is_some (first_line (unread_in (own t)))) e in
        let p2 = and_parts _ (not (last_is is_held (own t).effect)) p3.0 in
        let p1 = and_parts (open_in (own t)) (not (last_is is_waiting (own t).effect)) p2.0 in
        let unread : unread_in (own t) ≡ bytes_left (own t) =
        ap (λ b. cond (b || last_is is_waiting (own t).effect) (behind_lines 1 (bytes_left (own t))) (bytes_left (own t))) (not-true (last_is is_held (own t).effect) p2.1)
        ∙ ap (λ b. cond b (behind_lines 1 (bytes_left (own t))) (bytes_left (own t))) (not-true (last_is is_waiting (own t).effect) p1.1) in
        ap (λ bs. is_some (cut_at 10 bs).1) (sym unread) ∙ sym (has_line (unread_in (own t))) ∙ p3.1

    may-more : (t : Traces) → Complete (own t) → may_by config t conn ≡ true → may_by config (more t) conn ≡ true
    may-more t h e = ap runs_by (own-with ((own t).bytes ++ rest) t) ∙ runs-more (own t) rest h e

    pub none_due : (t : Traces) (x : Step) (xs : List Step) → may_by config t conn ≡ false → list_all (is_right config) (walk_by config t (RunLines conn ∷ []) (x ∷ xs)).placed ≡ false
    none_due t x xs may =
        ap (λ b. let now_due = cond b (RunLines conn ∷ []) [] in
        list_all (is_right config) (onto (placed_by config t (first_due now_due) x) (walk_by config (then_step config t (first_due now_due) x) (left_after now_due) xs)).placed) may

    lines_left : (t : Traces) → may_by config t conn ≡ true → is_empty (walk_by config t (RunLines conn ∷ []) []).left ≡ false
    lines_left t may = ap (λ b. is_empty (cond b (RunLines conn ∷ []) [])) may

    abbrev pub Right : Walked → Type 0
    Right w = list_all (is_right config) w.placed ≡ true

    unheld-first : (x : Step) (xs : List Step) → none_held (x ∷ xs) ≡ true → x.held ≡ false
    unheld-first x xs e = not-true x.held (and_parts (not x.held) (none_held xs) e).0

    -- ---- from two to one

    pub join-lines : (first second : List Step) (t : Traces) → Good t → Unheld t → none_held first ≡ true → Right (walk_by config t (RunLines conn ∷ []) first) → is_empty (walk_by config t (RunLines conn ∷ []) first).left ≡ true
        → InTwo (own t).opened (walk_by config (more t) (RunLines conn ∷ []) (first ++ second)) (walk_by config t (RunLines conn ∷ []) first) second
    join-lines [] second t g u none r l = elim (cases_Bool (may_by config t conn)) [ inl e ↦ absurd (true≢false (sym l ∙ lines_left t e)) | inr e ↦ here t second g u e ]
    join-lines (x ∷ first) second t g u none r l =
        let may : may_by config t conn ≡ true = true_from_ne_false _ (λ out. true≢false (sym r ∙ none_due t x first out)) in
        let s = then_step config t (Some (RunLines conn)) x in
        let same = first-walk false t x first (λ z. may) in
        let right = and_parts (is_right config (placed_by config t (Some (RunLines conn)) x)) _ (sym (ap (λ (w : Walked). list_all (is_right config) w.placed) same) ∙ r) in
        let e = in-turn false t x right.0 in
        there false t x first second (λ z. may) (λ z. may-more t g.complete may) e g.complete (came-lines t may)
        (join-lines first second s (good-then false t x right.0 g) (unheld-then false t x e (unheld-first x first none)) (and_parts (not x.held) (none_held first) none).1 right.1 (sym (ap (λ (w : Walked). is_empty w.left) same) ∙ l))

    pub join-steps : (held : Bool) (first second : List Step) (t : Traces) → Good t → last_is is_held (own t).effect ≡ held → none_held first ≡ true
        → Right (walk_by config t (tasks_to_feed conn held) first) → is_empty (walk_by config t (tasks_to_feed conn held) first).left ≡ true
        → InTwo (own t).opened (walk_by config (more t) (tasks_to_feed conn held) (first ++ second)) (walk_by config t (tasks_to_feed conn held) first) second
    join-steps false first second t g u none r l = join-lines first second t g u none r l
    join-steps true [] second t g u none r l = absurd (true≢false (sym l))
    join-steps true (x ∷ first) second t g u none r l =
        let right = and_parts (is_right config (placed_by config t (Some (RunHeld conn)) x)) _ r in
        let e = in-turn true t x right.0 in
        there true t x first second (λ z. absurd (true≢false z)) (λ z. absurd (true≢false z)) e g.complete (came-held t g.complete u)
        (join-lines first second (then_step config t (Some (RunHeld conn)) x) (good-then true t x right.0 g) (unheld-then true t x e (unheld-first x first none)) (and_parts (not x.held) (none_held first) none).1 right.1 l)

    -- ---- from one to two

    pub record Cut (t : Traces) (tasks : List Task) (steps : List Step) : Type 0 where
      pub first : List Step
      pub second : List Step
      pub in_parts : steps ≡ first ++ second
      pub two : InTwo (own t).opened (walk_by config (more t) tasks (first ++ second)) (walk_by config t tasks first) second

    cut-on : (held : Bool) (t : Traces) (x : Step) (steps : List Step) → (held ≡ false → may_by config t conn ≡ true) → (held ≡ false → may_by config (more t) conn ≡ true) → Good t → Came t
        → x.held ≡ false → Right (walk_by config (more t) (tasks_to_feed conn held) (x ∷ steps)) → is_empty (walk_by config (more t) (tasks_to_feed conn held) (x ∷ steps)).left ≡ true
        → ((s : Traces) → Good s → Unheld s → Right (walk_by config (more s) (RunLines conn ∷ []) steps) → is_empty (walk_by config (more s) (RunLines conn ∷ []) steps).left ≡ true → Cut s (RunLines conn ∷ []) steps)
        → Cut t (tasks_to_feed conn held) (x ∷ steps)
    cut-on held t x steps may may' g came unheld r l ih =
        let same : walk_by config (more t) (tasks_to_feed conn held) (x ∷ steps)
        ≡ onto (placed_by config (more t) (Some (task_of held)) x) (walk_by config (more (then_step config t (Some (task_of held)) x)) (RunLines conn ∷ []) steps) =
        first-walk held (more t) x steps may' ∙ ap (λ s. onto (placed_by config (more t) (Some (task_of held)) x) (walk_by config s (RunLines conn ∷ []) steps)) (then-more held t x) in
        let right = and_parts (is_right config (placed_by config (more t) (Some (task_of held)) x)) _ (sym (ap (λ (w : Walked). list_all (is_right config) w.placed) same) ∙ r) in
        let e = in-turn held (more t) x right.0 in
        let right' : is_right config (placed_by config t (Some (task_of held)) x) ≡ true = ap (is_right config) (sym (placed-more held t x e g.complete came)) ∙ right.0 in
        let later : Cut (then_step config t (Some (task_of held)) x) (RunLines conn ∷ []) steps =
        ih (then_step config t (Some (task_of held)) x) (good-then held t x right' g) (unheld-then held t x e unheld) right.1 (sym (ap (λ (w : Walked). is_empty w.left) same) ∙ l) in
        record {
          first = x ∷ later.first;
          second = later.second;
          in_parts = ap (λ xs. x ∷ xs) later.in_parts;
          two = there held t x later.first later.second may may' e g.complete came later.two;
        }

    cut-lines : (steps : List Step) (t : Traces) → Good t → Unheld t → none_held steps ≡ true → Right (walk_by config (more t) (RunLines conn ∷ []) steps) → is_empty (walk_by config (more t) (RunLines conn ∷ []) steps).left ≡ true
        → Cut t (RunLines conn ∷ []) steps
    cut-lines [] t g u none r l =
        elim (cases_Bool (may_by config t conn)) [
          | inl e ↦ absurd (true≢false (sym l ∙ lines_left (more t) (may-more t g.complete e)))
          | inr e ↦ record { first = []; second = []; in_parts = refl; two = here t [] g u e }
        ]
    cut-lines (x ∷ steps) t g u none r l =
        elim (cases_Bool (may_by config t conn)) [
          | inl e ↦ cut-on false t x steps (λ z. e) (λ z. may-more t g.complete e) g (came-lines t e) (unheld-first x steps none) r l (λ s a b. cut-lines steps s a b (and_parts (not x.held) (none_held steps) none).1)
          | inr e ↦ record { first = []; second = x ∷ steps; in_parts = refl; two = here t (x ∷ steps) g u e }
        ]

    pub cut-steps : (held : Bool) (steps : List Step) (t : Traces) → Good t → last_is is_held (own t).effect ≡ held → none_held steps ≡ true
        → Right (walk_by config (more t) (tasks_to_feed conn held) steps) → is_empty (walk_by config (more t) (tasks_to_feed conn held) steps).left ≡ true
        → Cut t (tasks_to_feed conn held) steps
    cut-steps false steps t g u none r l = cut-lines steps t g u none r l
    cut-steps true [] t g u none r l = absurd (true≢false (sym l))
    cut-steps true (x ∷ steps) t g u none r l =
        cut-on true t x steps (λ z. absurd (true≢false z)) (λ z. absurd (true≢false z)) g (came-held t g.complete u) (unheld-first x steps none) r l
        (λ s a b. cut-lines steps s a b (and_parts (not x.held) (none_held steps) none).1)
