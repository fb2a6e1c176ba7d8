-- Transcripts that obey still do where a feed is cut in two or two are joined.
use Rattle.std.proofs.Common.{inr, inl, ◌≡◌, refl, ap, ◌∙◌, sym, subst, append_assoc, ℕ, Bool, true, false, true≢false, ◌&&◌, cond, List, [], ◌∷◌, ◌++◌, Option, Some, None, is_some, is_none}
use Rattle.std.specs.Prelude.{◌==◌, IsTrue}
use Rattle.std.specs.List.{list_all}
use Rattle.std.proofs.lemmas.Bool.{cases_Bool, and_parts, and_from}
use Rattle.std.proofs.lemmas.List.Folds.{list_all-append}
use Rattle.std.proofs.lemmas.List.{append-nil}
use Rattle.std.proofs.lemmas.List.Elements.{filter_map-append}
use Rattle.audit_model.specs.Bytewise.{is_empty}
use Rattle.audit_model.specs.History.{Effect, Fed}
use Rattle.audit_model.specs.Obeys.{Obeys, accepted_values, agree_on_parts, is_numbered, has_right_own_value}
use Rattle.audit_model.specs.Places.{happening_of, due, first_due, left_after, steps_of, tasks_to_feed}
use Rattle.audit_model.specs.Steps.{Task, Store, Deliver, RunAgain, RunHeld, RunLines, is_right}
use Rattle.audit_model.specs.Stream.{is_held, first_line}
use Rattle.audit_model.specs.declared.command.Closing.{Closing}
use Rattle.audit_model.specs.declared.config.Config.{Config}
use Rattle.audit_model.specs.declared.event.Event.{Event}
use Rattle.audit_model.specs.declared.event.Event.TheVariants as event
use Rattle.audit_model.specs.declared.event.Instant.{Instant}
use Rattle.audit_model.specs.declared.transcript.Record.{Record}
use Rattle.audit_model.specs.declared.transcript.Step.{Step}
use Rattle.audit_laws.specs.Cutting.{feed_record, none_held, ClosesItsConnection, ObeyingParts}
use Rattle.audit_laws.specs.Laws.{ObeyingMayBeCut}
use Rattle.audit_laws.proofs.Connections.{last_is, bytes_left, open_in}
use Rattle.audit_laws.proofs.CutTraces.{more, Good, InTwo, Cut, Unheld, fed-whole, fed-more, good-fed, cut-steps, join-steps, none_due, own-with}
use Rattle.audit_laws.proofs.LinesRead.{Complete, complete-fed, complete-after}
use Rattle.audit_laws.proofs.PlacedStepsAgree.{Parts, parts-of}
use Rattle.audit_laws.proofs.Rightly.{held-silent, line-due}
use Rattle.audit_laws.proofs.ShutTraces.{Shut, shut-fed, not-run, BothShut, shut-records}
use Rattle.audit_laws.proofs.Traces.{Traces, Walked, ran_on, then_traces, traces, may_by, tasks_by, effect_by, placed_by, then_step, walk_by, walked_by, is_right_by, are_right_by, values_by, traces_after, right-same, values-same, after-same, right-append, after-append, values-append}
use Rattle.audit_laws.proofs.TranscriptsAgree.{obeys-right, right-obeys}
use Rattle.std.proofs.lemmas.Bool.{eqb-true}
use Rattle.audit_laws.proofs.CutTraces.{ran-other, runs_by}

module _ (config : Config) where
  abbrev start : Instant → Traces
  start made = traces config made.nanos []

  -- ---- obeying, by traces

  record RightBy (t : Traces) (entries : List Record) : Type 0 where
    right : are_right_by config t entries ≡ true
    parts : IsTrue (agree_on_parts (values_by config t entries))

  right-of : (made : Instant) (entries : List Record) → Obeys config (record { made = made; records = entries }) → RightBy (start made) entries
  right-of made entries o =
      record {
        right = sym (right-same config made.nanos entries []) ∙ obeys-right config (record { made = made; records = entries }) o;
        parts = subst (λ vs. IsTrue (agree_on_parts vs)) (values-same config made.nanos entries []) o.parts;
      }

  obeys-from : (made : Instant) (entries : List Record) → RightBy (start made) entries → Obeys config (record { made = made; records = entries })
  obeys-from made entries r =
      right-obeys config (record { made = made; records = entries }) (right-same config made.nanos entries [] ∙ r.right)
      (subst (λ vs. IsTrue (agree_on_parts vs)) (sym (values-same config made.nanos entries [])) r.parts)

  -- ---- each line that was read is a whole one

  abbrev Whole : Traces → Type 0
  Whole t = (c : ℕ) → Complete (t.connection c)

  whole-start : (made : Instant) → Whole (start made)
  whole-start made c = record { answered = refl; read = λ e. absurd (true≢false (sym e)) }

  whole-event : (t : Traces) (e : Event) → Whole t → Whole (then_traces config (happening_of e) t)
  whole-event t (event.Open d) w c = record { answered = (w c).answered; read = (w c).read }
  whole-event t (event.Close d) w c = record { answered = (w c).answered; read = (w c).read }
  whole-event t (event.Feed d piece moment) w c = complete-fed (cond (d == c) piece []) (t.connection c) (w c)
  whole-event t (event.Answer load outcome moment) w c = w c
  whole-event t (event.GiveUp load moment) w c = w c

  whole-ran : (t : Traces) (effect : Effect) (n : ℕ) (line : List ℕ) → first_line (bytes_left (t.connection n)) ≡ Some line → (is_held effect ≡ true → is_none effect.reply ≡ true)
      → Whole t → (c : ℕ) → Complete (ran_on effect (t.connection c) (n == c))
  whole-ran t effect n line l silent w c =
      elim (cases_Bool (n == c)) [
        | inl is ↦ rw is (complete-after (t.connection c) effect line silent (ap (λ d. first_line (bytes_left (t.connection d))) (sym (eqb-true n c is)) ∙ l) (w c))
        | inr is ↦ rw is (subst Complete (sym (ran-other effect (t.connection c))) (w c))
      ]

  silent-of : (t : Traces) (o : Option Task) (x : Step) → is_right config (placed_by config t o x) ≡ true → is_held (effect_by config t o x) ≡ true → is_none (effect_by config t o x).reply ≡ true
  silent-of t o x r =
      let p = placed_by config t o x in
      let parts : Parts config p = parts-of config p r in held-silent config p.seen p.held p.effect parts.reply

  line-of : (t : Traces) (o : Option Task) (x : Step) → is_right config (placed_by config t o x) ≡ true → (placed_by config t o x).line ≡ Some x.line
  line-of t o x r =
      let p = placed_by config t o x in
      let parts : Parts config p = parts-of config p r in line-due p.line x.line parts.line

  whole-step : (t : Traces) (o : Option Task) (x : Step) → is_right config (placed_by config t o x) ≡ true → Whole t → Whole (then_step config t o x)
  whole-step t None x r w c = absurd (true≢false (sym r))
  whole-step t (Some (Store key outcome)) x r w c = w c
  whole-step t (Some (Deliver d outcome)) x r w c = whole-ran t (effect_by config t (Some (Deliver d outcome)) x) x.conn x.line (line-of t (Some (Deliver d outcome)) x r) (silent-of t (Some (Deliver d outcome)) x r) w c
  whole-step t (Some (RunAgain d)) x r w c = whole-ran t (effect_by config t (Some (RunAgain d)) x) x.conn x.line (line-of t (Some (RunAgain d)) x r) (silent-of t (Some (RunAgain d)) x r) w c
  whole-step t (Some (RunHeld d)) x r w c = whole-ran t (effect_by config t (Some (RunHeld d)) x) x.conn x.line (line-of t (Some (RunHeld d)) x r) (silent-of t (Some (RunHeld d)) x r) w c
  whole-step t (Some (RunLines d)) x r w c = whole-ran t (effect_by config t (Some (RunLines d)) x) x.conn x.line (line-of t (Some (RunLines d)) x r) (silent-of t (Some (RunLines d)) x r) w c

  whole-walk : (steps : List Step) (t : Traces) (tasks : List Task) → list_all (is_right config) (walk_by config t tasks steps).placed ≡ true → Whole t → Whole (walk_by config t tasks steps).after
  whole-walk [] t tasks r w = w
  whole-walk (x ∷ steps) t tasks r w =
      let now = due (may_by config t) tasks in
      let p = and_parts (is_right config (placed_by config t (first_due now) x)) _ r in
      whole-walk steps (then_step config t (first_due now) x) (left_after now) p.1 (whole-step t (first_due now) x p.0 w)

  -- what a right record is
  record RightRecord (t : Traces) (entry : Record) : Type 0 where
    left : is_empty (walked_by config t entry).left ≡ true
    steps : list_all (is_right config) (walked_by config t entry).placed ≡ true

  right-record : (t : Traces) (entry : Record) → is_right_by config t entry ≡ true → RightRecord t entry
  right-record t entry e =
      let p3 = and_parts (is_numbered t.count entry.event && is_empty (walked_by config t entry).left && has_right_own_value entry) _ e in
      let p2 = and_parts (is_numbered t.count entry.event && is_empty (walked_by config t entry).left) (has_right_own_value entry) p3.0 in
      record { left = (and_parts (is_numbered t.count entry.event) _ p2.0).1; steps = p3.1 }

  whole-records : (entries : List Record) (t : Traces) → are_right_by config t entries ≡ true → Whole t → Whole (traces_after config t entries)
  whole-records [] t r w = w
  whole-records (entry ∷ entries) t r w =
      let p = and_parts (is_right_by config t entry) _ r in
      let one : RightRecord t entry = right-record t entry p.0 in
      whole-records entries (walked_by config t entry).after p.1 (whole-walk (steps_of entry) (then_traces config (happening_of entry.event) t) (tasks_by config t entry.event) one.steps (whole-event t entry.event w))

  mixed : (l r1 r2 a : Bool) → ((true && l && true && (r1 && r2)) && a) ≡ ((true && true && true && r1) && ((true && l && true && r2) && a))
  mixed l true r2 a = refl
  mixed true false r2 a = refl
  mixed false false r2 a = refl

  module _ (conn : ℕ) (moment : Instant) (front rest : List ℕ) where
    abbrev one : List Step → Record
    one steps = feed_record conn moment (front ++ rest) steps

    abbrev fore : List Step → Record
    fore steps = feed_record conn moment front steps

    abbrev aft : List Step → Record
    aft steps = feed_record conn moment rest steps

    -- from where the feed's records come on
    module _ (t : Traces) where
      abbrev fed_front : Traces
      fed_front = then_traces config (Fed conn front moment.nanos) t

      abbrev held : Bool
      held = last_is is_held (t.connection conn).effect

      abbrev Two : Walked → Walked → List Step → Type 0
      Two w w1 second = InTwo config conn rest moment.nanos (t.connection conn).opened w w1 second

      one-walk : (steps : List Step) → walked_by config t (one steps) ≡ walk_by config (more config conn rest moment.nanos fed_front) (tasks_to_feed conn held) steps
      one-walk steps = ap (λ u. walk_by config u (tasks_to_feed conn held) steps) (fed-whole config conn rest moment.nanos front t)

      good-front : Whole t → Good config conn rest moment.nanos fed_front
      good-front w = good-fed config conn rest moment.nanos front t (complete-fed (cond (conn == conn) front []) (t.connection conn) (w conn))

      -- the whole feed and the two are right alike, and accept the same
      record Alike (first second : List Step) (after : List Record) : Type 0 where
        right : are_right_by config t (one (first ++ second) ∷ after) ≡ are_right_by config t (fore first ∷ aft second ∷ after)
        values : values_by config t (one (first ++ second) ∷ after) ≡ values_by config t (fore first ∷ aft second ∷ after)

      alike : (first second : List Step) (after : List Record) → Two (walked_by config t (one (first ++ second))) (walked_by config t (fore first)) second → Alike first second after
      alike first second after two =
          let w1 = walked_by config t (fore first) in
          let w2 = walked_by config w1.after (aft second) in
          let w = walked_by config t (one (first ++ second)) in
          record {
            right =
                ap (λ ts. (true && is_empty ts && true && list_all (is_right config) w.placed) && are_right_by config w.after after) two.left
                ∙ ap (λ ps. (true && is_empty w2.left && true && list_all (is_right config) ps) && are_right_by config w.after after) two.placed
                ∙ ap (λ u. (true && is_empty w2.left && true && list_all (is_right config) (w1.placed ++ w2.placed)) && are_right_by config u after) two.after
                ∙ ap (λ b. (true && is_empty w2.left && true && b) && are_right_by config w2.after after) (list_all-append (is_right config) w1.placed w2.placed)
                ∙ mixed (is_empty w2.left) (list_all (is_right config) w1.placed) (list_all (is_right config) w2.placed) (are_right_by config w2.after after)
                ∙ ap (λ ts. (true && is_empty ts && true && list_all (is_right config) w1.placed) && are_right_by config w1.after (aft second ∷ after)) (sym two.finished);
            values =
                ap (λ ps. accepted_values ps ++ values_by config w.after after) two.placed
                ∙ ap (λ u. accepted_values (w1.placed ++ w2.placed) ++ values_by config u after) two.after
                ∙ ap (λ vs. vs ++ values_by config w2.after after) (filter_map-append (λ placed. placed.effect.value) w1.placed w2.placed)
                ∙ append_assoc (accepted_values w1.placed) (accepted_values w2.placed) (values_by config w2.after after);
          }

      joins : (first second : List Step) → Whole t → none_held first ≡ true → is_right_by config t (fore first) ≡ true → Two (walked_by config t (one (first ++ second))) (walked_by config t (fore first)) second
      joins first second w none r =
          let p : RightRecord t (fore first) = right-record t (fore first) r in
          subst (λ v. Two v (walked_by config t (fore first)) second) (sym (one-walk (first ++ second)))
          (join-steps config conn rest moment.nanos held first second fed_front (good-front w) refl none p.steps p.left)

      -- a feed in two parts
      record Parted (steps : List Step) : Type 0 where
        first : List Step
        second : List Step
        in_parts : steps ≡ first ++ second
        two : Two (walked_by config t (one (first ++ second))) (walked_by config t (fore first)) second

      cuts : (steps : List Step) → Whole t → none_held steps ≡ true → is_right_by config t (one steps) ≡ true → Parted steps
      cuts steps w none r =
          let p : RightRecord t (one steps) = right-record t (one steps) r in
          let c : Cut config conn rest moment.nanos fed_front (tasks_to_feed conn held) steps =
          cut-steps config conn rest moment.nanos held steps fed_front (good-front w) refl none
          (sym (ap (λ (v : Walked). list_all (is_right config) v.placed) (one-walk steps)) ∙ p.steps) (sym (ap (λ (v : Walked). is_empty v.left) (one-walk steps)) ∙ p.left) in
          record {
            first = c.first;
            second = c.second;
            in_parts = c.in_parts;
            two = subst (λ v. Two v (walked_by config t (fore c.first)) c.second) (sym (one-walk (c.first ++ c.second))) c.two;
          }

    -- ---- where the first feed closes the connection

    module _ (u : Traces) (g : Good config conn rest moment.nanos u) (unheld : Unheld config conn rest moment.nanos u) (s : Shut (u.connection conn)) where
      abbrev bytes : List ℕ
      bytes = (u.connection conn).bytes ++ rest

      both-shut : BothShut config conn bytes u
      both-shut = record { here = s; there = shut-fed rest (u.connection conn) s }

      may-not : may_by config (more config conn rest moment.nanos u) conn ≡ false
      may-not = ap runs_by (own-with config conn bytes u) ∙ not-run _ both-shut.there

      second-same : (second : List Step) → walked_by config u (aft second) ≡ walk_by config (more config conn rest moment.nanos u) (RunLines conn ∷ []) second
      second-same second =
          ap (λ h. walk_by config (then_traces config (Fed conn rest moment.nanos) u) (tasks_to_feed conn h) second) unheld
          ∙ ap (λ v. walk_by config v (RunLines conn ∷ []) second) (fed-more config conn rest moment.nanos u g)

      no-second : (second : List Step) → is_right_by config u (aft second) ≡ true → second ≡ []
      no-second [] r = refl
      no-second (x ∷ xs) r =
          let p : RightRecord u (aft (x ∷ xs)) = right-record u (aft (x ∷ xs)) r in
          absurd (true≢false (sym p.steps ∙ ap (λ (v : Walked). list_all (is_right config) v.placed) (second-same (x ∷ xs)) ∙ none_due config conn rest moment.nanos (more config conn rest moment.nanos u) x xs may-not))

      abbrev idle : Walked
      idle = record { placed = []; left = []; after = more config conn rest moment.nanos u }

      second-idle : walked_by config u (aft []) ≡ idle
      second-idle = second-same [] ∙ ap (λ b. record idle { left = cond b (RunLines conn ∷ []) [] }) may-not

      without-right : (after : List Record) → are_right_by config u (aft [] ∷ after) ≡ are_right_by config u after
      without-right after =
          ap (λ (v : Walked). (true && is_empty v.left && true && list_all (is_right config) v.placed) && are_right_by config v.after after) second-idle
          ∙ (shut-records config conn after bytes u both-shut).right

      without-values : (after : List Record) → are_right_by config u after ≡ true → values_by config u (aft [] ∷ after) ≡ values_by config u after
      without-values after r =
          ap (λ (v : Walked). accepted_values v.placed ++ values_by config v.after after) second-idle
          ∙ (shut-records config conn after bytes u both-shut).values r

    -- ---- in a transcript

    module _ (made : Instant) (before after : List Record) where
      abbrev t0 : Traces
      t0 = start made

      abbrev t1 : Traces
      t1 = traces_after config t0 before

      record Amid (middle : List Record) : Type 0 where
        right_before : are_right_by config t0 before ≡ true
        right_on : are_right_by config t1 middle ≡ true
        parts : IsTrue (agree_on_parts (values_by config t0 before ++ values_by config t1 middle))

      amid : (middle : List Record) → RightBy t0 (before ++ middle) → Amid middle
      amid middle r =
          let p = and_parts (are_right_by config t0 before) _ (sym (right-append config t0 before middle) ∙ r.right) in
          record { right_before = p.0; right_on = p.1; parts = subst (λ vs. IsTrue (agree_on_parts vs)) (values-append config t0 before middle) r.parts }

      around : (middle : List Record) → Amid middle → RightBy t0 (before ++ middle)
      around middle a =
          record {
            right = right-append config t0 before middle ∙ and_from _ _ a.right_before a.right_on;
            parts = subst (λ vs. IsTrue (agree_on_parts vs)) (sym (values-append config t0 before middle)) a.parts;
          }

      -- other records in the middle that are right alike and accept the same
      instead : (xs ys : List Record) → are_right_by config t1 xs ≡ are_right_by config t1 ys → values_by config t1 xs ≡ values_by config t1 ys → Amid xs → Amid ys
      instead xs ys e v a =
          record { right_before = a.right_before; right_on = sym e ∙ a.right_on; parts = subst (λ vs. IsTrue (agree_on_parts (values_by config t0 before ++ vs))) v a.parts }

      whole-t1 : are_right_by config t0 before ≡ true → Whole t1
      whole-t1 r = whole-records before t0 r (whole-start made)

      obeys-amid : (middle : List Record) → Amid middle → Obeys config (record { made = made; records = before ++ middle })
      obeys-amid middle a = obeys-from made (before ++ middle) (around middle a)

      amid-obeys : (middle : List Record) → Obeys config (record { made = made; records = before ++ middle }) → Amid middle
      amid-obeys middle o = amid middle (right-of made (before ++ middle) o)

      -- the first feed closes the connection
      shut-after : (first : List Step) (w : Walked) (second : List Step) → Two t1 w (walked_by config t1 (fore first)) second → ClosesItsConnection config made before conn moment front first
          → Shut ((walked_by config t1 (fore first)).after.connection conn)
      shut-after first w second two c =
          record {
            shut =
                closed _ _ (two.opened ∙ (and_parts (t1.connection conn).opened _ (sym (ap (λ (u : Traces). open_in (u.connection conn)) (after-same config made.nanos before [])) ∙ c.open_before)).0)
                (sym (ap (λ (u : Traces). open_in (u.connection conn)) (after-same config made.nanos (before ++ fore first ∷ []) [] ∙ after-append config t0 before (fore first ∷ []))) ∙ c.shut_after);
            unheld = two.unheld;
            complete = two.good.complete;
          }
        where
          closed : (o : Bool) (x : Option Closing) → o ≡ true → (o && is_none x) ≡ false → is_some x ≡ true
          closed true None e f = absurd (true≢false f)
          closed true (Some x) e f = refl
          closed false x e f = absurd (true≢false (sym e))

      -- without the second feed
      module _ (first : List Step) (w : Walked) (two : Two t1 w (walked_by config t1 (fore first)) []) (c : ClosesItsConnection config made before conn moment front first) where
        abbrev u : Traces
        u = (walked_by config t1 (fore first)).after

        shut : Shut (u.connection conn)
        shut = shut-after first w [] two c

        alone-right : are_right_by config t1 (fore first ∷ aft [] ∷ after) ≡ are_right_by config t1 (fore first ∷ after)
        alone-right = ap (λ b. is_right_by config t1 (fore first) && b) (without-right u two.good two.unheld shut after)

        alone-values : are_right_by config t1 (fore first ∷ after) ≡ true → values_by config t1 (fore first ∷ aft [] ∷ after) ≡ values_by config t1 (fore first ∷ after)
        alone-values r =
            ap (λ vs. accepted_values (walked_by config t1 (fore first)).placed ++ vs)
            (without-values u two.good two.unheld shut after (and_parts (is_right_by config t1 (fore first)) _ r).1)

      join : (first second : List Step) → none_held first ≡ true → Amid (fore first ∷ aft second ∷ after) → Amid (one (first ++ second) ∷ after)
      join first second none a =
          let two = joins t1 first second (whole-t1 a.right_before) none (and_parts (is_right_by config t1 (fore first)) _ a.right_on).0 in
          let same : Alike t1 first second after = alike t1 first second after two in
          instead (fore first ∷ aft second ∷ after) (one (first ++ second) ∷ after) (sym same.right) (sym same.values) a

      join-alone : (first : List Step) → none_held first ≡ true → ClosesItsConnection config made before conn moment front first → Amid (fore first ∷ after) → Amid (one first ∷ after)
      join-alone first none c a =
          let two = joins t1 first [] (whole-t1 a.right_before) none (and_parts (is_right_by config t1 (fore first)) _ a.right_on).0 in
          subst (λ xs. Amid (one xs ∷ after)) (append-nil first)
          (join first [] none
          (instead (fore first ∷ after) (fore first ∷ aft [] ∷ after) (sym (alone-right first (walked_by config t1 (one (first ++ []))) two c)) (sym (alone-values first (walked_by config t1 (one (first ++ []))) two c a.right_on)) a))

      drop-second : (first second : List Step) (w : Walked) → Two t1 w (walked_by config t1 (fore first)) second → ClosesItsConnection config made before conn moment front first
          → Amid (fore first ∷ aft second ∷ after) → (second ≡ []) × Amid (fore first ∷ after)
      drop-second first second w two c a =
          let p = and_parts (is_right_by config t1 (fore first)) _ a.right_on in
          let q = and_parts (is_right_by config (walked_by config t1 (fore first)).after (aft second)) _ p.1 in
          let empty : second ≡ [] = no-second (walked_by config t1 (fore first)).after two.good two.unheld (shut-after first w second two c) second q.0 in
          (empty, onto (subst (λ xs. Two t1 w (walked_by config t1 (fore first)) xs) empty two) (subst (λ xs. Amid (fore first ∷ aft xs ∷ after)) empty a))
        where
          onto : Two t1 w (walked_by config t1 (fore first)) [] → Amid (fore first ∷ aft [] ∷ after) → Amid (fore first ∷ after)
          onto two a =
              let r = sym (alone-right first w two c) ∙ a.right_on in
              instead (fore first ∷ aft [] ∷ after) (fore first ∷ after) (alone-right first w two c) (alone-values first w two c r) a

      cut : (steps : List Step) → none_held steps ≡ true → Amid (one steps ∷ after) → ObeyingParts config made before after conn moment front rest steps
      cut steps none a =
          let p : Parted t1 steps = cuts t1 steps (whole-t1 a.right_before) none (and_parts (is_right_by config t1 (one steps)) _ a.right_on).0 in
          let same : Alike t1 p.first p.second after = alike t1 p.first p.second after p.two in
          let both : Amid (fore p.first ∷ aft p.second ∷ after) =
          instead (one (p.first ++ p.second) ∷ after) (fore p.first ∷ aft p.second ∷ after) same.right same.values (subst (λ xs. Amid (one xs ∷ after)) p.in_parts a) in
          record {
            first = p.first;
            second = p.second;
            in_parts = p.in_parts;
            both = obeys-amid (fore p.first ∷ aft p.second ∷ after) both;
            alone =
                λ c.
                let h = drop-second p.first p.second (walked_by config t1 (one (p.first ++ p.second))) p.two c both in
                (h.0, obeys-amid (fore p.first ∷ after) h.1);
          }

pub obeying_may_be_cut : ObeyingMayBeCut
obeying_may_be_cut =
    record {
      cut =
          λ config made before after conn moment front rest steps none o.
          cut config conn moment front rest made before after steps none (amid-obeys config conn moment front rest made before after (feed_record conn moment (front ++ rest) steps ∷ after) o);
      joined =
          λ config made before after conn moment front rest first second none o.
          obeys-amid config conn moment front rest made before after (feed_record conn moment (front ++ rest) (first ++ second) ∷ after)
          (join config conn moment front rest made before after first second none (amid-obeys config conn moment front rest made before after (feed_record conn moment front first ∷ feed_record conn moment rest second ∷ after) o));
      joined_alone =
          λ config made before after conn moment front rest first none c o.
          obeys-amid config conn moment front rest made before after (feed_record conn moment (front ++ rest) first ∷ after)
          (join-alone config conn moment front rest made before after first none c (amid-obeys config conn moment front rest made before after (feed_record conn moment front first ∷ after) o));
    }
