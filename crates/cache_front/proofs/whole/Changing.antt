-- The parts where a call changed one of them, or all: what was told is taken from them, and which ticket comes.
use Rattle.std.proofs.Common.{◌≡◌, refl, ap, ◌∙◌, sym, subst, ℕ, zero, suc, ◌+◌, ◌≤◌, max, arith, List, [], ◌∷◌, ◌++◌, map, length, append-nil, Option, Some, None, slice_get, slice_set}
use Rattle.std.specs.List.{sum_by}
use Rattle.std.proofs.lemmas.List.Sums.{sum_by-cons}
use Rattle.std.proofs.lemmas.Option.{none-some}
use Rattle.audit_model.specs.Bytewise.{same}
use Rattle.engine_reference.specs.Calls.{removal_told, sent, with_read, with_removed, with_room, written}
use Rattle.engine_reference.specs.Runs.{RunsToEnd}
use Rattle.engine_reference.proofs.RestKept.{run-rest}
use Rattle.front_reference.specs.Parts.{taken_out}
use Rattle.cache_front.specs.Parts.{Part, Stored, note_from, value_put, service_answers, drained}
use Rattle.cache_front.proofs.parts.Removing.{removed}
use Rattle.cache_front.proofs.parts.Joining.{Maintained, idle, ran}
use Rattle.cache_front.proofs.parts.Items.{replaced-other, replaced-there}
use Rattle.cache_front.proofs.parts.Syncing.{AllRan, none, next}
use Rattle.cache_front.proofs.parts.Writing.{Rec}
use Rattle.cache_front.specs.View.{AreUnreserved, all_drained, greatest_ticket, waiting}

module _ {S : Type 0} where
  -- no notice waits in any of them
  abbrev pub AreTaken : List (Part S) → Type 0
  AreTaken parts = (k : ℕ) (s : Part S) → slice_get parts k ≡ Some s → s.notices ≡ []

  taken-rest : (x : Part S) (parts : List (Part S)) → AreTaken (x ∷ parts) → AreTaken parts
  taken-rest x parts taken k s there = taken (suc k) s there

  -- ---- what was told is taken

  pub drained-none : (s : Part S) → s.notices ≡ [] → drained s ≡ s
  drained-none s e = ap (λ ns. record s { notices = ns }) (sym e)

  pub all_drained-none : (parts : List (Part S)) → AreTaken parts → all_drained parts ≡ parts
  all_drained-none [] taken = refl
  all_drained-none (x ∷ parts) taken = ap (λ y. y ∷ all_drained parts) (drained-none x (taken 0 x refl)) ∙ ap (λ ys. x ∷ ys) (all_drained-none parts (taken-rest x parts taken))

  pub waiting-none : (parts : List (Part S)) → AreTaken parts → waiting parts ≡ []
  waiting-none [] taken = refl
  waiting-none (x ∷ parts) taken = ap (λ ns. map note_from ns ++ waiting parts) (taken 0 x refl) ∙ waiting-none parts (taken-rest x parts taken)

  -- one part changed
  pub all_drained-set : (parts : List (Part S)) (k : ℕ) (t : Part S) → AreTaken parts → all_drained (slice_set parts k t) ≡ slice_set parts k (drained t)
  all_drained-set [] k t taken = refl
  all_drained-set (x ∷ parts) zero t taken = ap (λ ys. drained t ∷ ys) (all_drained-none parts (taken-rest x parts taken))
  all_drained-set (x ∷ parts) (suc k) t taken = ap (λ y. y ∷ all_drained (slice_set parts k t)) (drained-none x (taken 0 x refl)) ∙ ap (λ ys. x ∷ ys) (all_drained-set parts k t (taken-rest x parts taken))

  pub waiting-set : (parts : List (Part S)) (k : ℕ) (s t : Part S) → AreTaken parts → slice_get parts k ≡ Some s → waiting (slice_set parts k t) ≡ map note_from t.notices
  waiting-set [] k s t taken there = absurd (none-some s there)
  waiting-set (x ∷ parts) zero s t taken there = ap (λ ns. map note_from t.notices ++ ns) (waiting-none parts (taken-rest x parts taken)) ∙ append-nil (map note_from t.notices)
  waiting-set (x ∷ parts) (suc k) s t taken there = ap (λ ns. map note_from ns ++ waiting (slice_set parts k t)) (taken 0 x refl) ∙ waiting-set parts k s t (taken-rest x parts taken) there

  -- ---- one notice is taken

  -- ---- all parts ran

  pub all-ran : (now : ℕ) (olds news : List (Part S)) → length news ≡ length olds → ((k : ℕ) (s : Part S) → slice_get olds k ≡ Some s → (t : Part S) × (slice_get news k ≡ Some t) × RunsToEnd service_answers now s t) → AllRan now olds (all_drained news) (waiting news)
  all-ran now [] [] count each = none
  all-ran now [] (t ∷ news) count each = absurd (omega (arith, count))
  all-ran now (s ∷ olds) [] count each = absurd (omega (arith, count))
  all-ran now (s ∷ olds) (t ∷ news) count each =
      let x = each 0 s refl in
      let is : x.0 ≡ t = cc in
      next s t (subst (λ y. RunsToEnd service_answers now s y) is x.2) (all-ran now olds news (let same_rest : suc (length news) ≡ suc (length olds) = count in omega (arith, same_rest)) (λ k y there. each (suc k) y there))

  -- the parts without their notices
  pub drained-at : (parts : List (Part S)) (k : ℕ) (t : Part S) → slice_get parts k ≡ Some t → slice_get (all_drained parts) k ≡ Some (drained t)
  drained-at [] k t there = absurd (none-some t there)
  drained-at (x ∷ parts) zero t there = let is : x ≡ t = cc in ap (λ (y : Part S). Some (drained y)) is
  drained-at (x ∷ parts) (suc k) t there = drained-at parts k t there

  pub drained-length : (parts : List (Part S)) → length (all_drained parts) ≡ length parts
  drained-length [] = refl
  drained-length (x ∷ parts) = ap suc (drained-length parts)

  pub drained-sum : (f : Part S → ℕ) → ((x : Part S) → f (drained x) ≡ f x) → (parts : List (Part S)) → sum_by f (all_drained parts) ≡ sum_by f parts
  drained-sum f each [] = refl
  drained-sum f each (x ∷ parts) = grind (arith, sum_by-cons f (drained x) (all_drained parts), drained-sum f each parts, sum_by-cons f x parts)

  -- ---- tickets

  -- one was drawn at most
  abbrev pub DrawsTicket : Part S → Part S → Type 0
  DrawsTicket old new = new.next_ticket ≤ old.next_ticket + 1

  pub ran-ticket : (now : ℕ) (s t : Part S) → RunsToEnd service_answers now s t → t.next_ticket ≡ s.next_ticket
  ran-ticket now s t run = ap (λ r. r.next_ticket) (run-rest service_answers now s t run.runs)

  pub maintained-ticket : (now : ℕ) (s t : Part S) → Maintained now s t → t.next_ticket ≡ s.next_ticket
  maintained-ticket now s t (idle is) = ap (λ (x : Part S). x.next_ticket) is
  maintained-ticket now s t (ran run) = ran-ticket now s t run

  same-sent : (ticket : ℕ) (t : Part S) → (sent ticket t).next_ticket ≡ t.next_ticket
  same-sent ticket t = grind arith

  pub value_put-ticket : (key : List ℕ) (hash : ℕ) (value : Stored) (now step : ℕ) (s : Part S) → (value_put key hash value now step s).next_ticket ≡ s.next_ticket + 1
  value_put-ticket key hash value now step s = grind (arith, same-sent s.next_ticket (written service_answers same (with_room s) key hash value now step), Rec)

  pub removed-ticket : (key : List ℕ) (now : ℕ) (s : Part S) (r : Rec) → (removed key now s r).next_ticket ≡ s.next_ticket + 1
  removed-ticket key now s r = same-sent s.next_ticket (removal_told service_answers r.entry now (with_removed (Some r) s))

  pub read-ticket : (o : Option Rec) (hash now : ℕ) (s : Part S) → (with_read service_answers o hash now s).next_ticket ≡ s.next_ticket
  read-ticket None hash now s = refl
  read-ticket (Some r) hash now s = refl

  pub greatest-with : (k : ℕ) (s new : Part S) (parts : List (Part S)) → slice_get parts k ≡ Some s → DrawsTicket s new → greatest_ticket (slice_set parts k (drained new)) ≤ greatest_ticket parts + 1
  greatest-with k s new [] there f = absurd (none-some s there)
  greatest-with zero s new (x ∷ parts) there f = let is : x ≡ s = cc in let e = ap (λ (y : Part S). y.next_ticket) is in omega (arith, e, f)
  greatest-with (suc k) s new (x ∷ parts) there f = let l = greatest-with k s new parts there f in omega (arith, l)

  -- none is drawn where each part draws none
  pub greatest-same : (olds news : List (Part S)) → length news ≡ length olds → ((k : ℕ) (s t : Part S) → slice_get olds k ≡ Some s → slice_get news k ≡ Some t → t.next_ticket ≡ s.next_ticket) → greatest_ticket news ≡ greatest_ticket olds
  greatest-same [] [] count each = refl
  greatest-same [] (t ∷ news) count each = absurd (omega (arith, count))
  greatest-same (s ∷ olds) [] count each = absurd (omega (arith, count))
  greatest-same (s ∷ olds) (t ∷ news) count each =
      ap (λ n. max n (greatest_ticket news)) (each 0 s t refl refl)
      ∙ ap (max s.next_ticket) (greatest-same olds news (let same_rest : suc (length news) ≡ suc (length olds) = count in omega (arith, same_rest)) (λ k x y there at. each (suc k) x y there at))

  pub ticket_within : (parts : List (Part S)) (k : ℕ) (s : Part S) → slice_get parts k ≡ Some s → s.next_ticket ≤ greatest_ticket parts
  ticket_within [] k s there = absurd (none-some s there)
  ticket_within (x ∷ parts) zero s there = let is : x ≡ s = cc in let e = ap (λ (y : Part S). y.next_ticket) is in omega (arith, e)
  ticket_within (x ∷ parts) (suc k) s there = let l = ticket_within parts k s there in omega (arith, l)

  -- ---- room

  pub ran-room : (now : ℕ) (s t : Part S) → RunsToEnd service_answers now s t → t.reserved ≡ s.reserved
  ran-room now s t run = ap (λ r. r.reserved) (run-rest service_answers now s t run.runs)

  pub maintained-room : (now : ℕ) (s t : Part S) → Maintained now s t → t.reserved ≡ s.reserved
  maintained-room now s t (idle is) = ap (λ (x : Part S). x.reserved) is
  maintained-room now s t (ran run) = ran-room now s t run

  sent-room : (ticket : ℕ) (t : Part S) → (sent ticket t).reserved ≡ t.reserved
  sent-room ticket t = grind arith

  -- a write takes the room that was made for it
  pub value_put-room : (key : List ℕ) (hash : ℕ) (value : Stored) (now step : ℕ) (s : Part S) → (value_put key hash value now step s).reserved ≡ s.reserved
  value_put-room key hash value now step s = grind (arith, sent-room s.next_ticket (written service_answers same (with_room s) key hash value now step), Rec)

  -- so does a removal's notice
  pub removed-room : (key : List ℕ) (now : ℕ) (s : Part S) (r : Rec) → (removed key now s r).reserved ≡ s.reserved
  removed-room key now s r = grind (arith, sent-room s.next_ticket (removal_told service_answers r.entry now (with_removed (Some r) s)))

  pub read-room : (o : Option Rec) (hash now : ℕ) (s : Part S) → (with_read service_answers o hash now s).reserved ≡ s.reserved
  read-room None hash now s = refl
  read-room (Some r) hash now s = refl

  pub unreserved-with : (k : ℕ) (s new : Part S) (parts : List (Part S)) → slice_get parts k ≡ Some s → AreUnreserved parts → new.reserved ≡ s.reserved → AreUnreserved (slice_set parts k (drained new))
  unreserved-with k s new parts there free keeps j x at = grind (arith, replaced-there k (drained new) s parts there, replaced-other k j (drained new) parts)

  -- ---- the front's removal is that of the laws

  pub removal-is : (key : List ℕ) (now : ℕ) (s : Part S) (r : Rec) → taken_out service_answers r now s ≡ removed key now s r
  removal-is key now s r = grind arith
