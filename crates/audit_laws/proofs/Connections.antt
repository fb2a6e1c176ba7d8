-- A connection's part of the situation.
use Rattle.std.proofs.Common.{inr, inl, ◌≡◌, refl, ap, ◌∙◌, sym, ℕ, ◌+◌, Bool, true, false, not, ◌&&◌, ◌||◌, cond, List, [], ◌∷◌, ◌++◌, map, Option, Some, None, nat_lt, length, is_some, is_none, arith}
use Rattle.std.specs.Prelude.{◌==◌, unwrap_or}
use Rattle.std.specs.List.{filter, find, list_any}
use Rattle.std.specs.Option.{option_map_or}
use Rattle.std.proofs.lemmas.List.{append-nil}
use Rattle.std.proofs.lemmas.List.Folds.{list_any-append}
use Rattle.std.proofs.lemmas.Bool.{cases_Bool, eqb-true, eq-eqb}
use Rattle.audit_model.specs.Bytewise.{cut_at}
use Rattle.audit_model.specs.Commands.{quits}
use Rattle.audit_model.specs.History.{Effect, History, Opened, Closed, Fed, Settled, Stored, Ran}
use Rattle.audit_model.specs.Situation.{Standing, Connection, is_ready, is_waiting_now, connection_in, may_run_in, is_overlong, Ready, Held, Waiting}
use Rattle.audit_model.specs.Stream.{was_opened, was_closed, bytes_of, last_effect, replies_of, is_held, is_waiting, holds, waits, behind_lines, unread, first_line, has_quit, closing, is_open, may_run, times_waited}
use Rattle.audit_model.specs.Summary.{opened_conns, connection_from, situation_of}
use Rattle.audit_model.specs.declared.command.Closing.{Closing}
use Rattle.audit_model.specs.declared.command.Closing.TheVariants as by
use Rattle.audit_model.specs.declared.config.Config.{Config}

pub eqb-self : (n : ℕ) → (n == n) ≡ true
eqb-self n = eq-eqb n n refl

-- all that a connection and an open connection depend on
pub record Facts : Type 0 where
  pub opened : Bool
  pub closed : Bool
  pub quit : Bool
  pub effect : Option Effect
  pub replies : ℕ
  pub bytes : List ℕ
  pub times : ℕ

-- the last step, if there is one, is such
abbrev pub last_is : (Effect → Bool) → Option Effect → Bool
last_is test effect = option_map_or test effect false

abbrev pub facts : ℕ → History → Facts
facts c past =
    record { opened = was_opened c past; closed = was_closed c past; quit = has_quit c past; effect = last_effect c past; replies = replies_of c past; bytes = bytes_of c past; times = times_waited c past }

abbrev pub bytes_left : Facts → List ℕ
bytes_left f = behind_lines f.replies f.bytes

abbrev pub unread_in : Facts → List ℕ
unread_in f = cond (last_is is_held f.effect || last_is is_waiting f.effect) (behind_lines 1 (bytes_left f)) (bytes_left f)

abbrev pub standing_in : Facts → Standing
standing_in f =
    cond (last_is is_held f.effect) (Held (unwrap_or (first_line (bytes_left f)) [])) (cond (last_is is_waiting f.effect) (Waiting (unwrap_or (first_line (bytes_left f)) [])) Ready)

abbrev pub connection_of_facts : ℕ → Facts → Connection
connection_of_facts c f = record { number = c; unread = unread_in f; standing = standing_in f; waited = f.times }

abbrev pub closing_in : Facts → Option Closing
closing_in f =
    cond f.closed (Some by.Asked)
    (cond f.quit (Some by.Quit)
    (cond (last_is is_waiting f.effect && nat_lt 8192 (length (unread_in f))) (Some by.Behind)
    (cond (not (last_is is_waiting f.effect) && not (last_is is_held f.effect) && nat_lt 8192 (length (cut_at 10 (unread_in f)).0)) (Some by.Long) None)))

abbrev pub open_in : Facts → Bool
open_in f = f.opened && is_none (closing_in f)

pub facts-opened : (c d : ℕ) (past : History) → (d == c) ≡ false → facts c (Opened d ∷ past) ≡ facts c past
facts-opened c d past e = ap (λ b. record (facts c past) { opened = b || was_opened c past }) e

pub facts-closed : (c d : ℕ) (past : History) → (d == c) ≡ false → facts c (Closed d ∷ past) ≡ facts c past
facts-closed c d past e = ap (λ b. record (facts c past) { closed = b || was_closed c past }) e

pub facts-fed : (c d : ℕ) (piece : List ℕ) (moment : ℕ) (past : History) → (d == c) ≡ false → facts c (Fed d piece moment ∷ past) ≡ facts c past
facts-fed c d piece moment past e =
    ap (λ b. record (facts c past) { bytes = bytes_of c past ++ cond b piece [] }) e ∙ ap (λ bs. record (facts c past) { bytes = bs }) (append-nil (bytes_of c past))

abbrev pub ran_by : ℕ → Effect → History → Bool → Facts
ran_by c effect past b =
    record (facts c past) {
      quit = (b && quits effect) || has_quit c past;
      effect = cond b (Some effect) (last_effect c past);
      replies = cond (b && is_some effect.reply) 1 0 + replies_of c past;
      times = cond b (cond (is_some effect.reply) 0 (cond (is_waiting effect) 1 0 + times_waited c past)) (times_waited c past);
    }

pub facts-ran : (c d : ℕ) (effect : Effect) (past : History) → (d == c) ≡ false → facts c (Ran d effect ∷ past) ≡ facts c past
facts-ran c d effect past e = ap (ran_by c effect past) e ∙ ap (λ n. record (facts c past) { replies = n }) (omega arith)

pub facts-own : (c : ℕ) (effect : Effect) (past : History) → facts c (Ran c effect ∷ past) ≡ ran_by c effect past true
facts-own c effect past = ap (ran_by c effect past) (eqb-self c)

-- ---- when a connection is open

open_by : (q b n : Bool) (A B : Bool) (w r : List ℕ)
    → is_none (cond q (Some by.Quit) (cond ((n && not b) && A) (Some by.Behind) (cond (not (n && not b) && not b && B) (Some by.Long) None)))
    ≡ not (q || ((is_ready (cond b (Held w) (cond (n && not b) (Waiting r) Ready)) && B) || (is_waiting_now (cond b (Held w) (cond (n && not b) (Waiting r) Ready)) && A)))
open_by q b n A B w r = grind arith

pub open-now : (c : ℕ) (f : Facts) (effect : Effect) → f.opened ≡ true → f.closed ≡ false → f.effect ≡ Some effect → open_in f ≡ not (f.quit || is_overlong (connection_of_facts c f))
open-now c f effect o cl e =
    ap (λ b. b && is_none (closing_in f)) o
    ∙ ap (λ b. is_none (closing_in (record f { closed = b }))) cl
    ∙ ap (λ a. is_none (closing_in (record f { closed = false; effect = a }))) e
    ∙ open_by f.quit (is_held effect) (is_none effect.reply) _ _ _ _
    ∙ sym (ap (λ a. not (f.quit || is_overlong (connection_of_facts c (record f { effect = a })))) e)

pub open-now_none : (c : ℕ) (f : Facts) → f.opened ≡ true → f.closed ≡ false → f.effect ≡ None → open_in f ≡ not (f.quit || is_overlong (connection_of_facts c f))
open-now_none c f o cl e =
    ap (λ b. b && is_none (closing_in f)) o
    ∙ ap (λ b. is_none (closing_in (record f { closed = b }))) cl
    ∙ ap (λ a. is_none (closing_in (record f { closed = false; effect = a }))) e
    ∙ open_by f.quit false false false _ [] []
    ∙ sym (ap (λ a. not (f.quit || is_overlong (connection_of_facts c (record f { effect = a })))) e)

pub open-by_connection : (c : ℕ) (f : Facts) → f.opened ≡ true → f.closed ≡ false → open_in f ≡ not (f.quit || is_overlong (connection_of_facts c f))
open-by_connection c f o cl = go f.effect refl
  where
    go : (a : Option Effect) → f.effect ≡ a → open_in f ≡ not (f.quit || is_overlong (connection_of_facts c f))
    go None e = open-now_none c f o cl e
    go (Some effect) e = open-now c f effect o cl e

-- ---- the connections of a history

pub opened-listed : (c : ℕ) (past : History) → list_any (λ d. d == c) (opened_conns past) ≡ was_opened c past
opened-listed c [] = refl
opened-listed c (Opened d ∷ past) =
    list_any-append (λ x. x == c) (opened_conns past) (d ∷ []) ∙ ap (λ b. b || ((d == c) || false)) (opened-listed c past) ∙ turn_round (was_opened c past) (d == c)
  where
    turn_round : (a b : Bool) → (a || (b || false)) ≡ (b || a)
    turn_round a b = grind arith
opened-listed c (Closed d ∷ past) = opened-listed c past
opened-listed c (Fed d piece moment ∷ past) = opened-listed c past
opened-listed c (Settled load moment ∷ past) = opened-listed c past
opened-listed c (Stored effect ∷ past) = opened-listed c past
opened-listed c (Ran d effect ∷ past) = opened-listed c past

module _ (connection : ℕ → Connection) (number : (c : ℕ) → (connection c).number ≡ c) (runs : ℕ → Bool) (c : ℕ) where
  step_found : (d : ℕ) (o any same : Bool) (ls : List Connection) → (d == c) ≡ same → runs d ≡ o → find (λ l. l.number == c) ls ≡ cond (any && runs c) (Some (connection c)) None
      → find (λ l. l.number == c) (cond o (connection d ∷ ls) ls) ≡ cond ((same || any) && runs c) (Some (connection c)) None
  step_found d true any true ls e p r =
      ap (λ b. cond b (Some (connection d)) (find (λ l. l.number == c) ls)) (ap (λ x. x == c) (number d) ∙ e)
      ∙ ap (λ x. Some (connection x)) (eqb-true d c e)
      ∙ sym (ap (λ b. cond b (Some (connection c)) None) (sym (ap runs (eqb-true d c e)) ∙ p))
  step_found d true any false ls e p r = ap (λ b. cond b (Some (connection d)) (find (λ l. l.number == c) ls)) (ap (λ x. x == c) (number d) ∙ e) ∙ r
  step_found d false any true ls e p r =
      r ∙ ap (λ b. cond (any && b) (Some (connection c)) None) (sym (ap runs (eqb-true d c e)) ∙ p) ∙ never any
      ∙ sym (ap (λ b. cond b (Some (connection c)) None) (sym (ap runs (eqb-true d c e)) ∙ p))
    where
      never : (a : Bool) → cond (a && false) (Some (connection c)) None ≡ None
      never true = refl
      never false = refl
  step_found d false any false ls e p r = r

  pub find-connection : (ds : List ℕ) → find (λ l. l.number == c) (map connection (filter runs ds)) ≡ cond (list_any (λ d. d == c) ds && runs c) (Some (connection c)) None
  find-connection [] = refl
  find-connection (d ∷ ds) =
      (elim (cases_Bool (runs d)) [ inl e ↦ rw e | inr e ↦ rw e ]) ∙ step_found d (runs d) (list_any (λ x. x == c) ds) (d == c) (map connection (filter runs ds)) refl refl (find-connection ds)

pub connection-of : (config : Config) (made : ℕ) (past : History) (c : ℕ) → connection_in c (situation_of config made past) ≡ cond (is_open c past) (Some (connection_from past c)) None
connection-of config made past c =
    find-connection (connection_from past) (λ d. refl) (λ d. is_open d past) c (opened_conns past)
    ∙ ap (λ b. cond (b && is_open c past) (Some (connection_from past c)) None) (opened-listed c past)
    ∙ ap (λ b. cond b (Some (connection_from past c)) None) (again (was_opened c past) (is_none (closing c past)))
  where
    again : (a b : Bool) → (a && (a && b)) ≡ (a && b)
    again a b = grind arith

pub open-same : (config : Config) (made : ℕ) (past : History) (c : ℕ) → is_open c past ≡ is_some (connection_in c (situation_of config made past))
open-same config made past c = sym (ap is_some (connection-of config made past c) ∙ (elim (cases_Bool (is_open c past)) [ inl e ↦ rw e | inr e ↦ rw e ]))

ready_by : (o b n : Bool) (w r : List ℕ) (B : Bool) (l : Connection)
    → l.standing ≡ cond b (Held w) (cond n (Waiting r) Ready) → is_some (first_line l.unread) ≡ B
    → option_map_or (λ m. is_ready m.standing && is_some (first_line m.unread)) (cond o (Some l) None) false ≡ (o && not n && not b && B)
ready_by o b n w r B l e f = grind (arith, e, f)

pub ready-same : (config : Config) (made : ℕ) (past : History) (c : ℕ) → may_run c past ≡ may_run_in (situation_of config made past) c
ready-same config made past c =
    sym (ap (λ o. option_map_or (λ m. is_ready m.standing && is_some (first_line m.unread)) o false) (connection-of config made past c)
    ∙ ready_by (is_open c past) (holds c past) (waits c past) _ _ (is_some (first_line (unread c past))) (connection_from past c) refl refl)
