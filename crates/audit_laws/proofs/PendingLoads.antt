-- The loads under way, as the history says.
use Rattle.std.proofs.Common.{inr, inl, arith, ◌≡◌, refl, ap, ◌∙◌, sym, ℕ, suc, Bool, true, false, true≢false, not, ◌&&◌, ◌||◌, cond, List, [], ◌∷◌, ◌++◌, map, Option, Some, None, length, is_some}
use Rattle.std.specs.Prelude.{◌==◌}
use Rattle.std.specs.List.{filter}
use Rattle.std.proofs.lemmas.List.{append-nil}
use Rattle.std.proofs.lemmas.List.Elements.{filter-append}
use Rattle.std.proofs.lemmas.Simd.{map-map}
use Rattle.audit_model.specs.Bytewise.{same}
use Rattle.audit_model.specs.Changes.{join_by}
use Rattle.audit_model.specs.History.{History, Settled}
use Rattle.audit_model.specs.Loads.{Sent, sent_by, loads_sent, is_load_settled, loads_under_way, is_key_of, joined}
use Rattle.audit_model.specs.Situation.{PendingLoad, Situation, without_waiting, with_waiting}
use Rattle.audit_model.specs.Summary.{pending_from}
use Rattle.audit_laws.proofs.Told.{Each, each-more, map-same}
use Rattle.audit_laws.proofs.HeldStep.{same-refl}
use Rattle.audit_laws.proofs.ConnectionSteps.{eqb-turned}
use Rattle.std.proofs.lemmas.Bool.{cases_Bool}

abbrev pub pending_by : (ℕ → Bool) → (List ℕ → List ℕ) → Sent → PendingLoad
pending_by runs waiters sent = record { number = sent.number; key = sent.key; waiting = filter runs (waiters sent.key) }

pub each-any : {X : Type 0} {P : X → Type 0} (xs : List X) → ((x : X) → P x) → Each P xs
each-any [] f = tt
each-any (x ∷ xs) f = (f x, each-any xs f)

pub filter-swap : {X : Type 0} (p q : X → Bool) (xs : List X) → filter p (filter q xs) ≡ filter q (filter p xs)
filter-swap p q [] = refl
filter-swap p q (x ∷ xs) = let next = filter-swap p q xs in grind (arith, next)

pub filter-map : {X Y : Type 0} (p : Y → Bool) (f : X → Y) (xs : List X) → filter p (map f xs) ≡ map f (filter (λ x. p (f x)) xs)
filter-map p f [] = refl
filter-map p f (x ∷ xs) = elim (cases_Bool (p (f x))) [ inl e ↦ rw e (ap (λ l. f x ∷ l) (filter-map p f xs)) | inr e ↦ rw e (filter-map p f xs) ]

pub settled-filter : (load : ℕ) (past : History) (sents : List Sent)
    → filter (λ sent. not ((load == sent.number) || is_load_settled sent.number past)) sents ≡ filter (λ sent. not (sent.number == load)) (filter (λ sent. not (is_load_settled sent.number past)) sents)
settled-filter load past [] = refl
settled-filter load past (x ∷ xs) = let next = settled-filter load past xs in let turned = eqb-turned load x.number in grind (arith, next, turned)

-- an event that settles a load
pub pending-settled : (load moment : ℕ) (past : History)
    → map (pending_from (Settled load moment ∷ past)) (loads_under_way (Settled load moment ∷ past)) ≡ filter (λ u. not (u.number == load)) (map (pending_from past) (loads_under_way past))
pending-settled load moment past =
    ap (map (pending_from past)) (settled-filter load past (loads_sent past)) ∙ sym (filter-map (λ u. not (u.number == load)) (pending_from past) (loads_under_way past))

-- ---- a step of a connection

module _ (past : History) (c : ℕ) (runs : ℕ → Bool) (running : runs c ≡ true) where
  abbrev waiters : Bool → Option (List ℕ) → Option ℕ → List ℕ → List ℕ
  waiters waits ko lo key =
      cond (is_some lo && is_key_of key ko) [] (filter (λ x. not (x == c)) (joined key past)) ++ cond (waits && is_key_of key ko) (c ∷ []) []

  abbrev before : List Sent → List PendingLoad
  before sents = map (without_waiting c) (map (pending_by runs (λ key. joined key past)) sents)

  left_out : (xs : List ℕ) → filter runs (filter (λ x. not (x == c)) xs ++ []) ≡ filter (λ x. not (x == c)) (filter runs xs)
  left_out xs = ap (filter runs) (append-nil _) ∙ filter-swap runs (λ x. not (x == c)) xs

  put_last : (xs : List ℕ) → filter runs (filter (λ x. not (x == c)) xs ++ c ∷ []) ≡ filter (λ x. not (x == c)) (filter runs xs) ++ c ∷ []
  put_last xs =
      filter-append runs (filter (λ x. not (x == c)) xs) (c ∷ []) ∙ ap (λ b. filter runs (filter (λ x. not (x == c)) xs) ++ cond b (c ∷ []) []) running
      ∙ ap (λ l. l ++ c ∷ []) (filter-swap runs (λ x. not (x == c)) xs)

  abbrev at_waiting : Sent → List ℕ → PendingLoad
  at_waiting sent l = record { number = sent.number; key = sent.key; waiting = l }

  no_load : (waits : Bool) (lo : Option ℕ) (sents : List Sent) → before sents ≡ map (pending_by runs (waiters waits None lo)) sents
  no_load waits lo sents =
      map-map (without_waiting c) (pending_by runs (λ key. joined key past)) sents
      ∙ map-same _ (pending_by runs (waiters waits None lo)) sents (each-any sents (λ sent. ap (at_waiting sent) (sym (go sent.key waits lo))))
    where
      go : (key : List ℕ) (waits : Bool) (lo : Option ℕ) → filter runs (waiters waits None lo key) ≡ filter (λ x. not (x == c)) (filter runs (joined key past))
      go key true None = left_out (joined key past)
      go key false None = left_out (joined key past)
      go key true (Some n) = left_out (joined key past)
      go key false (Some n) = left_out (joined key past)

  joins_one : (key : List ℕ) (sent : Sent) → with_waiting c key (without_waiting c (pending_by runs (λ k. joined k past) sent)) ≡ pending_by runs (waiters true (Some key) None) sent
  joins_one key sent =
      elim (cases_Bool (same sent.key key)) [
        | inl e ↦ rw e (ap (at_waiting sent) (sym (put_last (joined sent.key past))))
        | inr e ↦ rw e (ap (at_waiting sent) (sym (left_out (joined sent.key past))))
      ]

  joins : (key : List ℕ) (sents : List Sent) → map (with_waiting c key) (before sents) ≡ map (pending_by runs (waiters true (Some key) None)) sents
  joins key sents =
      ap (map (with_waiting c key)) (map-map (without_waiting c) (pending_by runs (λ k. joined k past)) sents)
      ∙ map-map (with_waiting c key) (λ sent. without_waiting c (pending_by runs (λ k. joined k past) sent)) sents
      ∙ map-same _ (pending_by runs (waiters true (Some key) None)) sents (each-any sents (joins_one key))

  finds_it : (key : List ℕ) (sents : List Sent) → before sents ≡ map (pending_by runs (waiters false (Some key) None)) sents
  finds_it key sents =
      map-map (without_waiting c) (pending_by runs (λ k. joined k past)) sents
      ∙ map-same _ (pending_by runs (waiters false (Some key) None)) sents (each-any sents (λ sent. ap (at_waiting sent) (sym (left_out (joined sent.key past)))))

  sends_one : (key : List ℕ) (n : ℕ) (sent : Sent) → same sent.key key ≡ false → without_waiting c (pending_by runs (λ k. joined k past) sent) ≡ pending_by runs (waiters true (Some key) (Some n)) sent
  sends_one key n sent e =
      ap (at_waiting sent) (sym (left_out (joined sent.key past)))
      ∙ ap (λ b. at_waiting sent (filter runs (cond b [] (filter (λ x. not (x == c)) (joined sent.key past)) ++ cond b (c ∷ []) []))) (sym e)

  sends : (key : List ℕ) (n : ℕ) (sents : List Sent) → Each (λ sent. same sent.key key ≡ false) sents → before sents ≡ map (pending_by runs (waiters true (Some key) (Some n))) sents
  sends key n sents h =
      map-map (without_waiting c) (pending_by runs (λ k. joined k past)) sents
      ∙ map-same _ (pending_by runs (waiters true (Some key) (Some n))) sents (each-more _ _ sents (sends_one key n) h)

  sent_now : (key : List ℕ) (n : ℕ) → pending_by runs (waiters true (Some key) (Some n)) (record { number = n; key = key }) ≡ record { number = n; key = key; waiting = c ∷ [] }
  sent_now key n =
      ap (λ b. record { number = n; key = key; waiting = filter runs (cond b [] (filter (λ x. not (x == c)) (joined key past)) ++ cond b (c ∷ []) []) }) (same-refl key)
      ∙ ap (λ b. record { number = n; key = key; waiting = cond b (c ∷ []) [] }) running

  -- what a step may send: its connection then waits, the number is new, and no load of the key is under way
  abbrev pub SendsRightly : Bool → Option (List ℕ) → Option ℕ → Type 0
  SendsRightly waits (Some key) (Some n) = (waits ≡ true) × (is_load_settled n past ≡ false) × Each (λ sent. same sent.key key ≡ false) (loads_under_way past)
  SendsRightly waits ko lo = Unit {0}

  abbrev under_way_then : Option (List ℕ) → Option ℕ → List Sent
  under_way_then ko lo = filter (λ sent. not (is_load_settled sent.number past)) (sent_by ko lo ++ loads_sent past)

  abbrev leave : ℕ → Situation → Situation
  leave conn s = record s { pending = map (without_waiting conn) s.pending }

  left_alone : (s : Situation) → s.pending ≡ map (pending_by runs (λ key. joined key past)) (loads_under_way past)
      → map (without_waiting c) (map (pending_by runs (λ key. joined key past)) (loads_under_way past)) ≡ map (pending_by runs (λ key. joined key past)) (loads_under_way past) → s ≡ leave c s
  left_alone s u e = ap (λ us. record s { pending = us }) (u ∙ sym e ∙ sym (ap (map (without_waiting c)) u))

  join-left : (waits : Bool) (ko : Option (List ℕ)) (lo : Option ℕ) (s : Situation) → SendsRightly waits ko lo
      → s.pending ≡ map (pending_by runs (λ key. joined key past)) (loads_under_way past) → s.sent ≡ length (loads_sent past)
      → join_by c waits ko lo (leave c s) ≡ record s { sent = length (sent_by ko lo ++ loads_sent past); pending = map (pending_by runs (waiters waits ko lo)) (under_way_then ko lo) }
  join-left waits None lo s r u n =
      ap (λ us. record s { pending = us }) (ap (map (without_waiting c)) u ∙ no_load waits lo (loads_under_way past))
      ∙ ap (λ m. record s { sent = m; pending = map (pending_by runs (waiters waits None lo)) (loads_under_way past) }) n
  join-left true (Some key) None s r u n =
      ap (λ us. record s { pending = us }) (ap (λ us. map (with_waiting c key) (map (without_waiting c) us)) u ∙ joins key (loads_under_way past))
      ∙ ap (λ m. record s { sent = m; pending = map (pending_by runs (waiters true (Some key) None)) (loads_under_way past) }) n
  join-left false (Some key) None s r u n =
      ap (λ us. record s { pending = us }) (ap (map (without_waiting c)) u ∙ finds_it key (loads_under_way past))
      ∙ ap (λ m. record s { sent = m; pending = map (pending_by runs (waiters false (Some key) None)) (loads_under_way past) }) n
  join-left false (Some key) (Some m) s r u n = absurd (true≢false (sym r.0))
  join-left true (Some key) (Some m) s r u n =
      ap (λ us. record s { sent = suc s.sent; pending = record { number = m; key = key; waiting = c ∷ [] } ∷ us }) (ap (map (without_waiting c)) u ∙ sends key m (loads_under_way past) r.2)
      ∙ ap (λ x. record s { sent = suc s.sent; pending = x ∷ map (pending_by runs (waiters true (Some key) (Some m))) (loads_under_way past) }) (sym (sent_now key m))
      ∙ ap (λ k. record s { sent = suc k; pending = map (pending_by runs (waiters true (Some key) (Some m))) (record { number = m; key = key } ∷ loads_under_way past) }) n
      ∙ ap (λ b. record s { sent = suc (length (loads_sent past)); pending = map (pending_by runs (waiters true (Some key) (Some m))) (cond (not b) (record { number = m; key = key } ∷ loads_under_way past) (loads_under_way past)) }) (sym r.1)

  pub join-step : (waits : Bool) (ko : Option (List ℕ)) (lo : Option ℕ) (s : Situation) → SendsRightly waits ko lo
      → s.pending ≡ map (pending_by runs (λ key. joined key past)) (loads_under_way past) → s.sent ≡ length (loads_sent past)
      → map (without_waiting c) (map (pending_by runs (λ key. joined key past)) (loads_under_way past)) ≡ map (pending_by runs (λ key. joined key past)) (loads_under_way past)
      → join_by c waits ko lo s ≡ record s { sent = length (sent_by ko lo ++ loads_sent past); pending = map (pending_by runs (waiters waits ko lo)) (under_way_then ko lo) }
  join-step waits ko lo s r u n e = ap (join_by c waits ko lo) (left_alone s u e) ∙ join-left waits ko lo s r u n
