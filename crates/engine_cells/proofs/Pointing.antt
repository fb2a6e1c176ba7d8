-- Reads and writes that name records by number and place, as cells change.
use Rattle.std.proofs.Common.{◌≡◌, refl, ap, sym, ◌∙◌, subst, ℕ, zero, suc, ◌+◌, ◌-◌, ◌≤◌, arith, Bool, true, false, not, cond, ◌&&◌, List, [], ◌∷◌, ◌++◌, Option, Some, None, is_some, inl, inr, eqb}
use Rattle.std.specs.Prelude.{map, option_map, slice_get, IfSome, IfNone}
use Rattle.std.proofs.lemmas.List.{map-append}
use Rattle.std.proofs.lemmas.Bool.{cases_Bool, and_parts, eqb-true, eq-eqb}
use Rattle.policy_queue.specs.Indices.{has_index}
use Rattle.policy_queue.specs.Queue.{head}
use Rattle.engine_reference.specs.Records.{record_at, without_record, without, moved_to_back}
use Rattle.engine_reference.specs.declared.data.Record.{Record}
use Rattle.engine_reference.specs.declared.data.Entry.{Entry}
use Rattle.engine_reference.specs.declared.data.Notice.{Notice}
use Rattle.engine_reference.specs.Visible.{notice_of, told}
use Rattle.engine_reference.specs.declared.rules.causes.RemovalCause.{RemovalCause}
use Rattle.engine_reference.specs.Runs.{after_hit, after_removal}
use Rattle.engine_reference.specs.State.{State}
use Rattle.engine_cells.specs.declared.noting.Noted.{Noted}
use Rattle.engine_cells.specs.declared.noting.Noted.TheVariants.{Hit, Miss}
use Rattle.engine_cells.specs.declared.noting.PlacedWrite.{PlacedWrite}
use Rattle.engine_pending.specs.Pending.{Pending, told_if, ticketed_at, without_ticketed, with_sent_of, ticket_sent}
use Rattle.engine_pending.specs.declared.tickets.Ticketed.{Ticketed}
use Rattle.engine_cells.specs.Cells.{cell_at, records_by_number, numbers_of, place_number, numbers_in, HaveOwnNumbers, AreNumberedBelow, AreListed}
use Rattle.engine_cells.specs.Kept.{Kept, is_admitted_as, is_removed_as}
use Rattle.engine_pending.specs.Whole.{unsent_of, whole}
use Rattle.engine_pending.proofs.Agreeing.{pending_agrees}
use Rattle.engine_reference.specs.Calls.{sent}
use Rattle.engine_cells.specs.Noting.{read_of, write_of, number_written, AimsAt, IsAimed, AreAimed, AreWritesAimed, AreUnsentAimed, AreAllAimed, AimsOnlyAt, AimsRight}
use Rattle.engine_cells.proofs.Indexed.{has_first}
use Rattle.engine_cells.proofs.Views.{number-in, AreAlike, before}
use Rattle.engine_cells.proofs.Changes.{Loses, Gets, was, place_of, stood}
use Rattle.engine_cells.proofs.Listed.{record_at-none, record_at-there}

-- a write that was made, as the state shows it
pub made-unsent : (at_once : Bool) (us : List (Ticketed PlacedWrite)) (t : ℕ) (w : PlacedWrite)
    → map (unsent_of write_of) (cond at_once us (us ++ (record { ticket = t; write = w }) ∷ [])) ≡ cond at_once (map (unsent_of write_of) us) (map (unsent_of write_of) us ++ (record { ticket = t; write = w.write }) ∷ [])
made-unsent true us t w = refl
made-unsent false us t w = map-append (unsent_of write_of) us ((record { ticket = t; write = w }) ∷ [])

pub made-writes : (at_once : Bool) (ws : List PlacedWrite) (w : PlacedWrite) → map write_of (cond at_once (ws ++ w ∷ []) ws) ≡ cond at_once (map write_of ws ++ w.write ∷ []) (map write_of ws)
made-writes true ws w = map-append write_of ws (w ∷ [])
made-writes false ws w = refl

-- one of a list
pub mapped-at : {X Y : Type 0} (f : X → Y) (xs : List X) (i : ℕ) (x : X) → slice_get xs i ≡ Some x → slice_get (map f xs) i ≡ Some (f x)
mapped-at f [] i x e = absurd (cc)
mapped-at f (y ∷ ys) zero x e = let same : y ≡ x = cc in ap (λ z. Some (f z)) same
mapped-at f (y ∷ ys) (suc i) x e = mapped-at f ys i x e

-- what a sending leaves as it was
sent_of-same : {K V O W P S R : Type 0} (t : ℕ) (o : Option W) (p : Pending K V O W P S R) → with_sent_of t o p ≡ record p { unsent = (with_sent_of t o p).unsent; writes = (with_sent_of t o p).writes }
sent_of-same t None p = refl
sent_of-same t (Some w) p = refl

pub sent-same : {K V O W P S R : Type 0} (t : ℕ) (p : Pending K V O W P S R) → ticket_sent t p ≡ record p { unsent = (ticket_sent t p).unsent; writes = (ticket_sent t p).writes }
sent-same t p = sent_of-same t (ticketed_at p.unsent t) p

-- a sending, as a contract sees it
abbrev kept_with : {K V P S R : Type 0} → List (Record K V) → List ℕ → List ℕ → ℕ → List (Option ℕ) → Pending K V Noted PlacedWrite P S R → Kept K V P S R
kept_with records access order next numbers p = record { state = whole read_of write_of records access order next p; numbers = numbers }

pub kept-sent : {K V P S R : Type 0} (records : List (Record K V)) (access order : List ℕ) (next : ℕ) (numbers : List (Option ℕ)) (t : ℕ) (p q : Pending K V Noted PlacedWrite P S R) → q ≡ ticket_sent t p
    → kept_with records access order next numbers q ≡ record (kept_with records access order next numbers p) { state = sent t (whole read_of write_of records access order next p) }
kept-sent {K} {V} {P} {S} {R} records access order next numbers t p q e =
    ap (λ x. kept_with records access order next numbers x) e
    ∙ ap (λ s. record (kept_with records access order next numbers p) { state = s }) ((pending_agrees K V Noted PlacedWrite P S R read_of write_of records access order next).sent t p)

-- an entry that is told or not
pub told-same : {K V O W P S R : Type 0} (b : Bool) (why : RemovalCause) (e : Entry K V) (n : Notice K V) (p : Pending K V O W P S R) → n ≡ notice_of why e → told_if b n p ≡ record p { notices = told b why e p.notices; notice_room = cond b (p.notice_room - 1) p.notice_room }
told-same true why e n p is = ap (λ m. record p { notices = p.notices ++ m ∷ []; notice_room = p.notice_room - 1 }) is
told-same false why e n p is = refl

pub told-parts : {K V : Type 0} (a b : Bool) (why : RemovalCause) (e : Entry K V) (ns : List (Notice K V)) → told (a && b) why e ns ≡ cond a (told b why e ns) ns
told-parts true b why e ns = refl
told-parts false b why e ns = refl

pub told-room : (b : Bool) (n : ℕ) → n ≤ cond b (n - 1) n + 1
told-room true n = omega arith
told-room false n = omega arith

module _ {K V : Type 0} where
  reads-map : (old new : List (Option (Record K V))) (m n : ℕ) → ((place number : ℕ) → AimsAt old m place number → AimsAt new n place number) → (ns : List Noted) → AreAimed old m ns → AreAimed new n ns
  reads-map old new m n f [] h = tt
  reads-map old new m n f (Hit hash place number ∷ ns) h = (f place number h.0, reads-map old new m n f ns h.1)
  reads-map old new m n f (Miss hash ∷ ns) h = (tt, reads-map old new m n f ns h.1)

  writes-map : (old new : List (Option (Record K V))) (m n : ℕ) → ((place number : ℕ) → AimsAt old m place number → AimsAt new n place number) → (ws : List PlacedWrite) → AreWritesAimed old m ws → AreWritesAimed new n ws
  writes-map old new m n f [] h = tt
  writes-map old new m n f (w ∷ ws) h = (f w.place (number_written w.write) h.0, writes-map old new m n f ws h.1)

  unsent-map : (old new : List (Option (Record K V))) (m n : ℕ) → ((place number : ℕ) → AimsAt old m place number → AimsAt new n place number) → (us : List (Ticketed PlacedWrite)) → AreUnsentAimed old m us → AreUnsentAimed new n us
  unsent-map old new m n f [] h = tt
  unsent-map old new m n f (u ∷ us) h = (f u.write.place (number_written u.write.write) h.0, unsent-map old new m n f us h.1)

  pub pointed-map : (old new : List (Option (Record K V))) (m n : ℕ) {rs : List Noted} {ws : List PlacedWrite} {us : List (Ticketed PlacedWrite)} → ((place number : ℕ) → AimsAt old m place number → AimsAt new n place number) → AreAllAimed old m rs ws us → AreAllAimed new n rs ws us
  pointed-map old new m n {rs} {ws} {us} f h = record { reads_are = reads-map old new m n f rs h.reads_are; writes_are = writes-map old new m n f ws h.writes_are; unsent_are = unsent-map old new m n f us h.unsent_are }

  pub pointed-alike : (old new : List (Option (Record K V))) (next : ℕ) {rs : List Noted} {ws : List PlacedWrite} {us : List (Ticketed PlacedWrite)} → AreAlike old new → AreAllAimed old next rs ws us → AreAllAimed new next rs ws us
  pointed-alike old new next h = pointed-map old new next next (λ place number p. (p.0, λ i c at same. let b = before old new h i c at in p.1 i b.cell b.there (sym (ap (λ s. s.number) b.alike) ∙ same)))

  pub pointed-loses : (old new : List (Option (Record K V))) (next i : ℕ) {rs : List Noted} {ws : List PlacedWrite} {us : List (Ticketed PlacedWrite)} → Loses old new i → AreAllAimed old next rs ws us → AreAllAimed new next rs ws us
  pointed-loses old new next i h = pointed-map old new next next (λ place number p. (p.0, λ j c at same. p.1 j c (was old new i j c h at) same))

  pub pointed-gets : (old new : List (Option (Record K V))) (next i : ℕ) (d : Record K V) {rs : List Noted} {ws : List PlacedWrite} {us : List (Ticketed PlacedWrite)} → Gets old new i d → d.number ≡ next → AreAllAimed old next rs ws us → AreAllAimed new (next + 1) rs ws us
  pointed-gets old new next i d h is = pointed-map old new next (next + 1) (λ place number p. (
    (let less = p.0 in omega arith),
    λ j c at same. elim (place_of old new i j d c h at) [
      | inl q ↦ (let less = p.0 in let e : number ≡ next = sym same ∙ ap (λ x. x.number) q.1 ∙ is in absurd (omega arith))
      | inr f ↦ p.1 j c f same
    ],
  ))

  -- a record is found where it stands
  pub aims-there : (cells : List (Option (Record K V))) (next i : ℕ) (c : Record K V) → AreNumberedBelow cells next → cell_at cells i ≡ Some c → AimsAt cells next i c.number
  aims-there cells next i c h at = (h.below i c at, λ j d there same. h.apart j i d c there at same)

  -- a write that was made, and one that is sent
  unsent-more : (cells : List (Option (Record K V))) (next t : ℕ) (w : PlacedWrite) → AimsAt cells next w.place (number_written w.write) → (us : List (Ticketed PlacedWrite)) → AreUnsentAimed cells next us → AreUnsentAimed cells next (us ++ (record { ticket = t; write = w }) ∷ [])
  unsent-more cells next t w p [] h = (p, tt)
  unsent-more cells next t w p (u ∷ us) h = (h.0, unsent-more cells next t w p us h.1)

  writes-more : (cells : List (Option (Record K V))) (next : ℕ) (w : PlacedWrite) → AimsAt cells next w.place (number_written w.write) → (ws : List PlacedWrite) → AreWritesAimed cells next ws → AreWritesAimed cells next (ws ++ w ∷ [])
  writes-more cells next w p [] h = (p, tt)
  writes-more cells next w p (x ∷ xs) h = (h.0, writes-more cells next w p xs h.1)

  pub aims-made : (at_once : Bool) (cells : List (Option (Record K V))) (next t : ℕ) (w : PlacedWrite) {rs : List Noted} {ws : List PlacedWrite} {us : List (Ticketed PlacedWrite)} → AimsAt cells next w.place (number_written w.write) → AreAllAimed cells next rs ws us
      → AreAllAimed cells next rs (cond at_once (ws ++ w ∷ []) ws) (cond at_once us (us ++ (record { ticket = t; write = w }) ∷ []))
  aims-made true cells next t w {rs} {ws} {us} p h = record { reads_are = h.reads_are; writes_are = writes-more cells next w p ws h.writes_are; unsent_are = h.unsent_are }
  aims-made false cells next t w {rs} {ws} {us} p h = record { reads_are = h.reads_are; writes_are = h.writes_are; unsent_are = unsent-more cells next t w p us h.unsent_are }

  reads-more : (cells : List (Option (Record K V))) (next : ℕ) (n : Noted) → IsAimed cells next n → (ns : List Noted) → AreAimed cells next ns → AreAimed cells next (ns ++ n ∷ [])
  reads-more cells next n p [] h = (p, tt)
  reads-more cells next n p (x ∷ xs) h = (h.0, reads-more cells next n p xs h.1)

  pub aims-noted : (cells : List (Option (Record K V))) (next : ℕ) (n : Noted) {rs : List Noted} {ws : List PlacedWrite} {us : List (Ticketed PlacedWrite)} → IsAimed cells next n → AreAllAimed cells next rs ws us → AreAllAimed cells next (rs ++ n ∷ []) ws us
  aims-noted cells next n {rs} {ws} {us} p h = record { reads_are = reads-more cells next n p rs h.reads_are; writes_are = h.writes_are; unsent_are = h.unsent_are }

  ticket-aimed : (cells : List (Option (Record K V))) (next t : ℕ) (w : PlacedWrite) (us : List (Ticketed PlacedWrite)) → ticketed_at us t ≡ Some w → AreUnsentAimed cells next us → AimsAt cells next w.place (number_written w.write)
  ticket-aimed cells next t w [] e h = absurd (cc)
  ticket-aimed cells next t w (u ∷ us) e h = go (eqb u.ticket t) e (λ f. ticket-aimed cells next t w us f h.1)
    where
      go : (b : Bool) → cond b (Some u.write) (ticketed_at us t) ≡ Some w → (ticketed_at us t ≡ Some w → AimsAt cells next w.place (number_written w.write)) → AimsAt cells next w.place (number_written w.write)
      go true f later = let same : u.write ≡ w = cc in subst (λ (x : PlacedWrite). AimsAt cells next x.place (number_written x.write)) same h.0
      go false f later = later f

  others-aimed : (cells : List (Option (Record K V))) (next t : ℕ) (us : List (Ticketed PlacedWrite)) → AreUnsentAimed cells next us → AreUnsentAimed cells next (without_ticketed t us)
  others-aimed cells next t [] h = tt
  others-aimed cells next t (u ∷ us) h = elim (cases_Bool (eqb u.ticket t)) [ inl e ↦ rw e h.1 | inr e ↦ rw e (h.0, (others-aimed cells next t us h.1)) ]

  aims-sent_of : (cells : List (Option (Record K V))) (next t : ℕ) (o : Option PlacedWrite) {P S R : Type 0} (p : Pending K V Noted PlacedWrite P S R) → ticketed_at p.unsent t ≡ o → AreAllAimed cells next p.reads p.writes p.unsent
      → AreAllAimed cells next p.reads (with_sent_of t o p).writes (with_sent_of t o p).unsent
  aims-sent_of cells next t None p e h = h
  aims-sent_of cells next t (Some w) p e h = record { reads_are = h.reads_are; writes_are = writes-more cells next w (ticket-aimed cells next t w p.unsent e h.unsent_are) p.writes h.writes_are; unsent_are = others-aimed cells next t p.unsent h.unsent_are }

  pub aims-sent : (cells : List (Option (Record K V))) (next t : ℕ) {P S R : Type 0} (p : Pending K V Noted PlacedWrite P S R) → AreAllAimed cells next p.reads p.writes p.unsent
      → AreAllAimed cells next p.reads (ticket_sent t p).writes (ticket_sent t p).unsent
  aims-sent cells next t p h = aims-sent_of cells next t (ticketed_at p.unsent t) p refl h

  -- one of those that wait
  pub read-aimed : (cells : List (Option (Record K V))) (next : ℕ) (n : Noted) (rs : List Noted) (i : ℕ) → slice_get rs i ≡ Some n → AreAimed cells next rs → IsAimed cells next n
  read-aimed cells next n [] i e h = absurd (cc)
  read-aimed cells next n (r ∷ rs) zero e h = let same : r ≡ n = cc in subst (λ (x : Noted). IsAimed cells next x) same h.0
  read-aimed cells next n (r ∷ rs) (suc i) e h = read-aimed cells next n rs i e h.1

  pub write-aimed : (cells : List (Option (Record K V))) (next : ℕ) (w : PlacedWrite) (ws : List PlacedWrite) (i : ℕ) → slice_get ws i ≡ Some w → AreWritesAimed cells next ws → AimsAt cells next w.place (number_written w.write)
  write-aimed cells next w [] i e h = absurd (cc)
  write-aimed cells next w (x ∷ ws) zero e h = let same : x ≡ w = cc in subst (λ (y : PlacedWrite). AimsAt cells next y.place (number_written y.write)) same h.0
  write-aimed cells next w (x ∷ ws) (suc i) e h = write-aimed cells next w ws i e h.1

  -- as the numbers in the places show it
  pub points-to : (cells : List (Option (Record K V))) (next place number : ℕ) → AimsAt cells next place number → AimsOnlyAt (numbers_of cells) place number
  points-to cells next place number p i at = go (cell_at cells i) refl
    where
      go : (o : Option (Record K V)) → cell_at cells i ≡ o → i ≡ place
      go None e = absurd (let f : None ≡ Some number = sym (number-in cells i ∙ ap (λ o. option_map (λ c. c.number) o) e) ∙ at in cc)
      go (Some c) e = p.1 i c e (let f : Some c.number ≡ Some number = sym (number-in cells i ∙ ap (λ o. option_map (λ c. c.number) o) e) ∙ at in cc)

  pub is-right : (cells : List (Option (Record K V))) (next : ℕ) (n : Noted) → IsAimed cells next n → AimsRight (numbers_of cells) n
  is-right cells next (Hit hash place number) p = points-to cells next place number p
  is-right cells next (Miss hash) p = tt

  -- where the place has another, the record is gone
  pub gone-elsewhere : (cells : List (Option (Record K V))) (place number : ℕ) → HaveOwnNumbers cells → AimsOnlyAt (numbers_of cells) place number → ((c : Record K V) → cell_at cells place ≡ Some c → c.number ≡ number → ⊥)
      → record_at (records_by_number cells) number ≡ None
  gone-elsewhere cells place number apart points other = record_at-none cells number apart (λ i c at same.
      let here : i ≡ place = points i (number-in cells i ∙ ap (λ o. option_map (λ x. x.number) o) at ∙ ap (λ m. Some m) same) in
      other c (ap (λ k. cell_at cells k) (sym here) ∙ at) same)

  -- an admitted record in the place is the one of the number
  pub hit-there : (cells : List (Option (Record K V))) (place number : ℕ) → HaveOwnNumbers cells → is_admitted_as number (cell_at cells place) ≡ true → record_at (records_by_number cells) number ≡ cell_at cells place
  hit-there cells place number apart h = go (cell_at cells place) refl h
    where
      go : (o : Option (Record K V)) → cell_at cells place ≡ o → is_admitted_as number o ≡ true → record_at (records_by_number cells) number ≡ o
      go None e t = absurd (cc)
      go (Some c) e t = ap (λ n. record_at (records_by_number cells) n) (sym (eqb-true c.number number (and_parts _ _ t).0)) ∙ record_at-there cells place c apart e

  -- else a read of it changes nothing of the access list
  pub hit-nothing : {P S R : Type 0} (cells : List (Option (Record K V))) (place number : ℕ) (s : State K V P S R) → HaveOwnNumbers cells → AimsOnlyAt (numbers_of cells) place number → is_admitted_as number (cell_at cells place) ≡ false
      → after_hit (record_at (records_by_number cells) number) s ≡ s
  hit-nothing cells place number s apart points h = go (cell_at cells place) refl h
    where
      go : (o : Option (Record K V)) → cell_at cells place ≡ o → is_admitted_as number o ≡ false → after_hit (record_at (records_by_number cells) number) s ≡ s
      go None e t = ap (λ o. after_hit o s) (gone-elsewhere cells place number apart points (λ d at is. let f : Some d ≡ None = sym at ∙ e in cc))
      go (Some c) e t =
          elim (cases_Bool (eqb c.number number)) [
            | inl h ↦ ap (λ o. after_hit o s) (ap (λ n. record_at (records_by_number cells) n) (sym (eqb-true c.number number h)) ∙ record_at-there cells place c apart e) ∙ ap (λ b. cond b (record s { access = moved_to_back c.number s.access }) s) (rw h at t)
            | inr h ↦ ap (λ o. after_hit o s) (gone-elsewhere cells place number apart points (λ d at is. let f : Some d ≡ Some c = sym at ∙ e in let is_c : d ≡ c = cc in let yes_there = eq-eqb c.number number (ap (λ x. x.number) (sym is_c) ∙ is) in let wrong : false ≡ true = sym h ∙ yes_there in cc))
          ]

  -- the record of the first of these places, which stand in a queue
  pub record Front (cells : List (Option (Record K V))) (places : List ℕ) (i : ℕ) : Type 0 where
    pub cell : Record K V
    pub there : cell_at cells i ≡ Some cell
    pub first : slice_get (numbers_in cells places) 0 ≡ Some cell.number
    pub counts : is_some cell.counts ≡ true

  front-of : (cells : List (Option (Record K V))) (all places : List ℕ) (i : ℕ) → AreListed cells all → ((j : ℕ) → has_index j places ≡ true → has_index j all ≡ true) → Some i ≡ head places → Front cells places i
  front-of cells all [] i h in-all e = absurd (cc)
  front-of cells all (j ∷ places) i h in-all e =
      let same : j ≡ i = cc in
      let s = stood cells all i h (ap (λ k. has_index k all) (sym same) ∙ in-all j (has_first j places)) in
      record {
        cell = s.cell;
        there = s.there;
        first = ap (λ k. Some (place_number cells k)) same ∙ ap (λ n. Some n) s.number;
        counts = s.counts;
      }

  pub fronts-of : (cells : List (Option (Record K V))) (all places : List ℕ) (o : Option ℕ) → AreListed cells all → ((j : ℕ) → has_index j places ≡ true → has_index j all ≡ true) → o ≡ head places → IfSome o (λ i. Front cells places i)
  fronts-of cells all places None h in-all e = tt
  fronts-of cells all places (Some i) h in-all e = front-of cells all places i h in-all e

  pub fronts : (cells : List (Option (Record K V))) (places : List ℕ) (o : Option ℕ) → AreListed cells places → o ≡ head places → IfSome o (λ i. Front cells places i)
  fronts cells places o h e = fronts-of cells places places o h (λ j has. has) e

  -- ---- a removal

  -- a record of the number that is not held is the one in the place
  pub removed-there : (cells : List (Option (Record K V))) (place number : ℕ) → HaveOwnNumbers cells → is_removed_as number (cell_at cells place) ≡ true → record_at (records_by_number cells) number ≡ cell_at cells place
  removed-there cells place number apart h = go (cell_at cells place) refl h
    where
      go : (o : Option (Record K V)) → cell_at cells place ≡ o → is_removed_as number o ≡ true → record_at (records_by_number cells) number ≡ o
      go None e t = absurd (cc)
      go (Some c) e t = ap (λ n. record_at (records_by_number cells) n) (sym (eqb-true c.number number (and_parts _ _ t).0)) ∙ record_at-there cells place c apart e

  -- else its removal changes nothing
  pub removed-nothing : {P S R : Type 0} (cells : List (Option (Record K V))) (place number : ℕ) (s : State K V P S R) → HaveOwnNumbers cells → AimsOnlyAt (numbers_of cells) place number → is_removed_as number (cell_at cells place) ≡ false
      → after_removal (record_at (records_by_number cells) number) s ≡ s
  removed-nothing cells place number s apart points h = go (cell_at cells place) refl h
    where
      same : (c : Record K V) → cell_at cells place ≡ Some c → (b h : Bool) → eqb c.number number ≡ b → c.is_held ≡ h → (b && not h) ≡ false → after_removal (record_at (records_by_number cells) number) s ≡ s
      same c e true true t held off =
          ap (λ o. after_removal o s) (ap (λ n. record_at (records_by_number cells) n) (sym (eqb-true c.number number t)) ∙ record_at-there cells place c apart e)
          ∙ ap (λ b. cond b s (record s { records = without_record c.number s.records; access = without c.number s.access; order = without c.number s.order })) held
      same c e true false t held off = absurd (cc)
      same c e false h t held off =
          ap (λ o. after_removal o s) (gone-elsewhere cells place number apart points (λ d at is.
          let f : Some d ≡ Some c = sym at ∙ e in
          let is_c : d ≡ c = cc in
          let yes_there = eq-eqb c.number number (ap (λ x. x.number) (sym is_c) ∙ is) in
          let wrong : false ≡ true = sym t ∙ yes_there in
          cc))

      go : (o : Option (Record K V)) → cell_at cells place ≡ o → is_removed_as number o ≡ false → after_removal (record_at (records_by_number cells) number) s ≡ s
      go None e t = ap (λ o. after_removal o s) (gone-elsewhere cells place number apart points (λ d at is. let f : Some d ≡ None = sym at ∙ e in cc))
      go (Some c) e t = same c e (eqb c.number number) c.is_held refl refl t

  pub removed-some : (number : ℕ) (o : Option (Record K V)) → is_removed_as number o ≡ true → is_some o ≡ true
  removed-some number None h = absurd (cc)
  removed-some number (Some r) h = refl

  pub removed-unheld : (number : ℕ) (r : Record K V) → is_removed_as number (Some r) ≡ true → r.is_held ≡ false
  removed-unheld number r h = go r.is_held (and_parts _ _ h).1
    where
      go : (b : Bool) → not b ≡ true → b ≡ false
      go true t = absurd (cc)
      go false t = refl

pub no-front : (xs : List ℕ) (o : Option ℕ) → o ≡ head xs → IfNone o (xs ≡ [])
no-front [] None e = refl
no-front (x ∷ xs) None e = absurd (cc)
no-front xs (Some i) e = tt
