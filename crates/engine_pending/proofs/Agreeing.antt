-- What is said of what waits is said of the state that it is a part of.
use Rattle.std.proofs.Common.{◌≡◌, refl, ap, sym, ◌∙◌, ℕ, ◌+◌, ◌-◌, ◌||◌, Bool, true, false, cond, List, [], ◌∷◌, ◌++◌, Option, Some, None, length}
use Rattle.std.specs.Prelude.{◌==◌, nat_le, map, option_map}
use Rattle.std.proofs.lemmas.List.{map-append, length-map, drop-map}
use Rattle.engine_reference.specs.declared.rules.causes.RemovalCause.{RemovalCause}
use Rattle.engine_reference.specs.declared.data.Entry.{Entry}
use Rattle.engine_reference.specs.declared.data.Read.{Read}
use Rattle.engine_reference.specs.declared.data.Record.{Record}
use Rattle.engine_reference.specs.declared.data.Write.{Write}
use Rattle.engine_reference.specs.Calls.{with_sent, unsent_at, without_ticket}
use Rattle.engine_reference.specs.Times.{end_of, is_reached}
use Rattle.engine_reference.specs.Visible.{notice_of, told}
use Rattle.engine_pending.specs.declared.tickets.Ticketed.{Ticketed}
use Rattle.engine_pending.specs.Pending.{Pending, ticketed_at, without_ticketed, with_sent_of, told_if, with_queued_write}
use Rattle.engine_pending.specs.Whole.{unsent_of, whole, PendingAgrees}

module _ {W : Type 0} (write_of : W → Write) (t : ℕ) where
  ticket-at : (us : List (Ticketed W)) → unsent_at (map (unsent_of write_of) us) t ≡ option_map write_of (ticketed_at us t)
  ticket-at [] = refl
  ticket-at (u ∷ us) = go (u.ticket == t) (ticket-at us)
    where
      go : (b : Bool) → unsent_at (map (unsent_of write_of) us) t ≡ option_map write_of (ticketed_at us t)
          → cond b (Some (write_of u.write)) (unsent_at (map (unsent_of write_of) us) t) ≡ option_map write_of (cond b (Some u.write) (ticketed_at us t))
      go true h = refl
      go false h = h

  ticket-without : (us : List (Ticketed W)) → without_ticket t (map (unsent_of write_of) us) ≡ map (unsent_of write_of) (without_ticketed t us)
  ticket-without [] = refl
  ticket-without (u ∷ us) = go (u.ticket == t) (ticket-without us)
    where
      go : (b : Bool) → without_ticket t (map (unsent_of write_of) us) ≡ map (unsent_of write_of) (without_ticketed t us)
          → cond b (map (unsent_of write_of) us) (unsent_of write_of u ∷ without_ticket t (map (unsent_of write_of) us)) ≡ map (unsent_of write_of) (cond b us (u ∷ without_ticketed t us))
      go true h = refl
      go false h = ap (λ l. unsent_of write_of u ∷ l) h

module _ {K V O W P S R : Type 0} (read_of : O → Read) (write_of : W → Write) (records : List (Record K V)) (access order : List ℕ) (next : ℕ) (p : Pending K V O W P S R) where
  sent-whole : (t : ℕ) (o : Option W) → whole read_of write_of records access order next (with_sent_of t o p) ≡ with_sent t (option_map write_of o) (whole read_of write_of records access order next p)
  sent-whole t None = refl
  sent-whole t (Some w) =
      let s = whole read_of write_of records access order next p in
      ap (λ us. record s { unsent = us; writes = map write_of (p.writes ++ w ∷ []) }) (sym (ticket-without write_of t p.unsent))
      ∙ ap (λ ws. record s { unsent = without_ticket t s.unsent; writes = ws }) (map-append write_of p.writes (w ∷ []))

  told-whole : (is_told : Bool) (why : RemovalCause) (e : Entry K V) → whole read_of write_of records access order next (told_if is_told (notice_of why e) p)
      ≡ (let s = whole read_of write_of records access order next p in record s { notices = told is_told why e s.notices })
  told-whole true why e = refl
  told-whole false why e = refl

  added-whole : (at_once : Bool) (w : W) → whole read_of write_of records access order next (with_queued_write at_once w p)
      ≡ (let s = whole read_of write_of records access order next p in record s {
        unsent = cond at_once s.unsent (s.unsent ++ (record { ticket = s.next_ticket; write = write_of w }) ∷ []);
        writes = cond at_once (s.writes ++ write_of w ∷ []) s.writes;
        next_ticket = s.next_ticket + 1;
        reserved = s.reserved - 1;
      })
  added-whole true w = ap (λ ws. record (whole read_of write_of records access order next p) { writes = ws; next_ticket = p.next_ticket + 1; reserved = p.reserved - 1 }) (map-append write_of p.writes (w ∷ []))
  added-whole false w = ap (λ us. record (whole read_of write_of records access order next p) { unsent = us; next_ticket = p.next_ticket + 1; reserved = p.reserved - 1 })
      (map-append (unsent_of write_of) p.unsent ((record { ticket = p.next_ticket; write = w }) ∷ []))

module _ (K V O W P S R : Type 0) where
  pub pending_agrees : PendingAgrees K V O W P S R
  pending_agrees read_of write_of records access order next = record {
    unsent = λ ticket p. ticket-at write_of ticket p.unsent;
    sent = λ ticket p. sent-whole read_of write_of records access order next p ticket (ticketed_at p.unsent ticket)
        ∙ ap (λ o. with_sent ticket o (whole read_of write_of records access order next p)) (sym (ticket-at write_of ticket p.unsent));
    full = λ p. ap (λ n. nat_le 128 n) (length-map p.writes write_of);
    added = λ at_once w p. added-whole read_of write_of records access order next p at_once w;
    read = λ o p. ap (λ rs. record (whole read_of write_of records access order next p) { reads = rs }) (map-append read_of p.reads (o ∷ []));
    counted = λ p. ap (λ rs. record (whole read_of write_of records access order next p) { reads = rs }) (sym (drop-map read_of 1 p.reads));
    applied = λ p. ap (λ ws. record (whole read_of write_of records access order next p) { writes = ws }) (sym (drop-map write_of 1 p.writes));
    told = λ is_told why e p. told-whole read_of write_of records access order next p is_told why e;
    taken = λ p. refl;
    covered = λ answers e p. refl;
    due = λ now p. sym (
        ap (λ n. nat_le 64 n || nat_le 64 (length (map read_of p.reads)) || is_reached (end_of p.ran (Some 300000000)) now) (length-map p.writes write_of)
        ∙ ap (λ n. nat_le 64 (length p.writes) || nat_le 64 n || is_reached (end_of p.ran (Some 300000000)) now) (length-map p.reads read_of));
  }
