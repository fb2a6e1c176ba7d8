-- Lines that were read stay read when more bytes come.
use Rattle.std.proofs.Common.{◌≡◌, refl, ap, ◌∙◌, sym, ℕ, zero, suc, ◌+◌, Bool, true, false, true≢false, not, ◌&&◌, ◌||◌, cond, List, [], ◌∷◌, ◌++◌, Option, Some, None, is_some, is_none, arith, zero-add}
use Rattle.std.specs.Prelude.{◌==◌, unwrap_or}
use Rattle.std.proofs.lemmas.Bool.{and_parts, and_from}
use Rattle.audit_laws.proofs.Connections.{last_is}
use Rattle.audit_model.specs.Bytewise.{cut_at}
use Rattle.audit_model.specs.Commands.{quits}
use Rattle.audit_model.specs.History.{Effect, History, Fed}
use Rattle.audit_model.specs.Situation.{Connection, Ready, Held, Waiting}
use Rattle.audit_model.specs.Stream.{bytes_of, is_held, is_waiting, behind_lines, unanswered, without_return, first_line}
use Rattle.audit_laws.proofs.Connections.{Facts, facts, connection_of_facts, bytes_left, unread_in, eqb-self, ran_by}
use Rattle.std.proofs.lemmas.Bool.Decides.{nat_tests}

abbrev pub has_lines : ℕ → List ℕ → Bool
has_lines zero bytes = true
has_lines (suc n) bytes = is_some (cut_at 10 bytes).1 && has_lines n (unwrap_or (cut_at 10 bytes).1 [])

abbrev Cut : Type 0
Cut = List ℕ × Option (List ℕ)

cut_step : (b : ℕ) (here : Bool) (bs ys : List ℕ) (rest more : Cut)
    → (is_some rest.1 ≡ true → more ≡ (rest.0, Some (unwrap_or rest.1 [] ++ ys)))
    → (is_some (elim here as (λ x. Cut) [ true ↦ ([], Some bs) | false ↦ (b ∷ rest.0, rest.1) ]).1) ≡ true
    → (elim here as (λ x. Cut) [ true ↦ ([], Some (bs ++ ys)) | false ↦ (b ∷ more.0, more.1) ])
    ≡ ((elim here as (λ x. Cut) [ true ↦ ([], Some bs) | false ↦ (b ∷ rest.0, rest.1) ]).0, Some (unwrap_or (elim here as (λ x. Cut) [ true ↦ ([], Some bs) | false ↦ (b ∷ rest.0, rest.1) ]).1 [] ++ ys))
cut_step b true bs ys rest more ih e = refl
cut_step b false bs ys rest more ih e = ap (λ (m : Cut). (b ∷ m.0, m.1)) (ih e)

pub cut-more : (xs ys : List ℕ) → is_some (cut_at 10 xs).1 ≡ true → cut_at 10 (xs ++ ys) ≡ ((cut_at 10 xs).0, Some (unwrap_or (cut_at 10 xs).1 [] ++ ys))
cut-more [] ys e = absurd (true≢false (sym e))
cut-more (b ∷ bs) ys e = cut_step b (b == 10) bs ys (cut_at 10 bs) (cut_at 10 (bs ++ ys)) (cut-more bs ys) e

pub behind_first : (xs ys : List ℕ) → is_some (cut_at 10 xs).1 ≡ true → behind_lines 1 (xs ++ ys) ≡ behind_lines 1 xs ++ ys
behind_first xs ys e = ap (λ (m : Cut). unwrap_or m.1 []) (cut-more xs ys e)

pub first_line-more : (xs ys : List ℕ) → is_some (cut_at 10 xs).1 ≡ true → first_line (xs ++ ys) ≡ first_line xs
first_line-more xs ys e =
    ap (λ (m : Cut). cond (is_some m.1) (Some (without_return m.0)) None) (cut-more xs ys e)
    ∙ sym (ap (λ b. cond b (Some (without_return (cut_at 10 xs).0)) None) e)

pub behind-more : (n : ℕ) (xs ys : List ℕ) → has_lines n xs ≡ true → behind_lines n (xs ++ ys) ≡ behind_lines n xs ++ ys
behind-more zero xs ys e = refl
behind-more (suc n) xs ys e =
    let parts = and_parts (is_some (cut_at 10 xs).1) _ e in
    ap (λ (m : Cut). behind_lines n (unwrap_or m.1 [])) (cut-more xs ys parts.0) ∙ behind-more n (unwrap_or (cut_at 10 xs).1 []) ys parts.1

pub has-more : (n : ℕ) (xs ys : List ℕ) → has_lines n xs ≡ true → has_lines n (xs ++ ys) ≡ true
has-more zero xs ys e = refl
has-more (suc n) xs ys e =
    let parts = and_parts (is_some (cut_at 10 xs).1) _ e in
    ap (λ (m : Cut). is_some m.1 && has_lines n (unwrap_or m.1 [])) (cut-more xs ys parts.0) ∙ has-more n (unwrap_or (cut_at 10 xs).1 []) ys parts.1

pub has-one : (n : ℕ) (xs : List ℕ) → has_lines n xs ≡ true → is_some (cut_at 10 (behind_lines n xs)).1 ≡ true → has_lines (suc n) xs ≡ true
has-one zero xs e f = ap (λ b. b && true) f
has-one (suc n) xs e f =
    let parts = and_parts (is_some (cut_at 10 xs).1) _ e in
    and_from _ _ parts.0 (has-one n (unwrap_or (cut_at 10 xs).1 []) parts.1 f)

-- ---- the invariant

pub record Complete (f : Facts) : Type 0 where
  pub answered : has_lines f.replies f.bytes ≡ true
  pub read : (last_is is_held f.effect || last_is is_waiting f.effect) ≡ true → is_some (cut_at 10 (bytes_left f)).1 ≡ true

abbrev pub with_bytes : List ℕ → Facts → Facts
with_bytes piece f = record f { bytes = f.bytes ++ piece }

pub facts-own_fed : (c : ℕ) (piece : List ℕ) (moment : ℕ) (past : History) → facts c (Fed c piece moment ∷ past) ≡ with_bytes piece (facts c past)
facts-own_fed c piece moment past = ap (λ b. record (facts c past) { bytes = bytes_of c past ++ cond b piece [] }) (eqb-self c)

module _ (c : ℕ) (piece bytes : List ℕ) (times : ℕ) where
  abbrev fed_connection : Bool → Bool → List ℕ → List ℕ → List ℕ → Connection
  fed_connection held waits first rest lined =
      record { number = c; unread = cond (held || waits) rest first; standing = cond held (Held (unwrap_or (first_line lined) [])) (cond waits (Waiting (unwrap_or (first_line lined) [])) Ready); waited = times }

  fed_by : (held waits : Bool) → ((held || waits) ≡ true → is_some (cut_at 10 bytes).1 ≡ true)
      → fed_connection held waits (bytes ++ piece) (behind_lines 1 (bytes ++ piece)) (bytes ++ piece)
      ≡ record { number = c; unread = cond (held || waits) (behind_lines 1 bytes) bytes ++ piece; standing = cond held (Held (unwrap_or (first_line bytes) [])) (cond waits (Waiting (unwrap_or (first_line bytes) [])) Ready); waited = times }
  fed_by true waits f =
      ap (λ bs. record { number = c; unread = bs; standing = Held (unwrap_or (first_line (bytes ++ piece)) []); waited = times }) (behind_first bytes piece (f refl))
      ∙ ap (λ o. record { number = c; unread = behind_lines 1 bytes ++ piece; standing = Held (unwrap_or o []); waited = times }) (first_line-more bytes piece (f refl))
  fed_by false true f =
      ap (λ bs. record { number = c; unread = bs; standing = Waiting (unwrap_or (first_line (bytes ++ piece)) []); waited = times }) (behind_first bytes piece (f refl))
      ∙ ap (λ o. record { number = c; unread = behind_lines 1 bytes ++ piece; standing = Waiting (unwrap_or o []); waited = times }) (first_line-more bytes piece (f refl))
  fed_by false false f = refl

pub connection-fed : (c : ℕ) (piece : List ℕ) (f : Facts) → Complete f → connection_of_facts c (with_bytes piece f) ≡ record (connection_of_facts c f) { unread = unread_in f ++ piece }
connection-fed c piece f h =
    ap (λ bs. fed_connection c piece (bytes_left f) f.times (last_is is_held f.effect) (last_is is_waiting f.effect) bs (behind_lines 1 bs) bs) (behind-more f.replies f.bytes piece h.answered)
    ∙ fed_by c piece (bytes_left f) f.times (last_is is_held f.effect) (last_is is_waiting f.effect) h.read

pub complete-fed : (piece : List ℕ) (f : Facts) → Complete f → Complete (with_bytes piece f)
complete-fed piece f h =
    record {
      answered = has-more f.replies f.bytes piece h.answered;
      read = λ e. ap (λ bs. is_some (cut_at 10 bs).1) (behind-more f.replies f.bytes piece h.answered) ∙ ap (λ (m : Cut). is_some m.1) (cut-more (bytes_left f) piece (h.read e));
    }

came : (bytes line : List ℕ) → first_line bytes ≡ Some line → is_some (cut_at 10 bytes).1 ≡ true
came bytes line e = let next = ap is_some e in grind (arith, nat_tests, next)

lines_now : (reply : Option (List ℕ)) (n : ℕ) (bytes : List ℕ) → has_lines n bytes ≡ true → is_some (cut_at 10 (behind_lines n bytes)).1 ≡ true → has_lines (cond (is_some reply) 1 0 + n) bytes ≡ true
lines_now None n bytes e f = ap (λ m. has_lines m bytes) (zero-add n) ∙ e
lines_now (Some reply) n bytes e f = ap (λ m. has_lines m bytes) (one_more n) ∙ has-one n bytes e f
  where
    one_more : (n : ℕ) → 1 + n ≡ suc n
    one_more n = omega arith

-- a connection's facts after a step of its own
abbrev pub ran_itself : Effect → Facts → Facts
ran_itself effect f =
    record f {
      quit = quits effect || f.quit;
      effect = Some effect;
      replies = cond (is_some effect.reply) 1 0 + f.replies;
      times = cond (is_some effect.reply) 0 (cond (is_waiting effect) 1 0 + f.times);
    }

pub complete-after : (f : Facts) (effect : Effect) (line : List ℕ) → (is_held effect ≡ true → is_none effect.reply ≡ true) → first_line (bytes_left f) ≡ Some line → Complete f
    → Complete (ran_itself effect f)
complete-after f effect line silent e h =
    record {
      answered = lines_now effect.reply f.replies f.bytes h.answered (came (bytes_left f) line e);
      read = go effect.reply (is_held effect) silent;
    }
  where
    go : (reply : Option (List ℕ)) (held : Bool) → (held ≡ true → is_none reply ≡ true) → (held || (is_none reply && not held)) ≡ true
        → is_some (cut_at 10 (behind_lines (cond (is_some reply) 1 0 + f.replies) f.bytes)).1 ≡ true
    go None held s k = ap (λ m. is_some (cut_at 10 (behind_lines m f.bytes)).1) (zero-add f.replies) ∙ came (bytes_left f) line e
    go (Some reply) true s k = absurd (true≢false (sym (s refl)))
    go (Some reply) false s k = absurd (true≢false (sym k))

pub complete-ran : (c : ℕ) (effect : Effect) (past : History) (line : List ℕ) → (is_held effect ≡ true → is_none effect.reply ≡ true) → first_line (unanswered c past) ≡ Some line
    → Complete (facts c past) → Complete (ran_by c effect past true)
complete-ran c effect past line silent e h = complete-after (facts c past) effect line silent e h
