-- Openings and closings of a namespace, as records that follow.
use Rattle.std.proofs.Common.{refl, sym, ap, ◌∙◌, arith, subst, inr, ◌≡◌, ℕ, zero, suc, ◌+◌, Bool, true, false, not, ◌&&◌, ◌||◌, ◌==◌, List, [], ◌∷◌, ◌++◌, length, map, Option, Some, None, if◌then◌else◌, is_some, is_none, slice_set, nat_lt, nat_le}
use Rattle.std.proofs.lemmas.Bool.{eq-eqb, and_parts, leb-true}
use Rattle.std.proofs.lemmas.List.{length-append, append-nil, length-map}
use Rattle.std.proofs.lemmas.Option.{slice_get_within}
use Rattle.std.specs.List.{find}
use Rattle.std.specs.Option.{option_map, option_or}
use Rattle.audit_model.specs.Belongs.{refusal_where}
use Rattle.audit_model.specs.Follows.{known_in}
use Rattle.audit_model.specs.Situation.{HeldValue, Situation, connection_in, without_connection, without_waiting}
use Rattle.audit_model.specs.declared.command.Closing.{Closing}
use Rattle.audit_model.specs.declared.config.Config.{Config}
use Rattle.audit_model.specs.declared.event.Event.{Event}
use Rattle.audit_model.specs.declared.transcript.Record.{Record}
use Rattle.cache_commands.specs.Values.{IsSoundStore, Values}
use Rattle.cache_commands.proofs.Taking.{taken-same}
use Rattle.cache_commands.specs.Loads.Pending.{SameTaken, loads_pending, sent_of}
use Rattle.cache_commands.specs.declared.loads.loads.Loads.{Loads}
use Rattle.cache_lines.proofs.Drawn.{spends-same}
use Rattle.cache_lines.specs.Drawing.{identifiers_in}
use Rattle.cache_lines.specs.Lines.{ready}
use Rattle.cache_lines.specs.Tape.Taped.{IsAtRest, Taped, finishes, started, with_entry}
use Rattle.cache_lines.specs.Waiting.{under_way, when_left}
use Rattle.cache_lines.specs.declared.base.Base.{Base}
use Rattle.cache_core.proofs.Orders.{order-turned}
use Rattle.cache_core.proofs.Sending.{sends-behind}
use Rattle.cache_core.proofs.Spots.{seen-was}
use Rattle.cache_core.proofs.Table.{dropped-at, opened-last, listed_of}
use Rattle.cache_core.proofs.Turning.{closings-by, known-open, opened-same, sit, found-is}
use Rattle.cache_core.proofs.connections.Getting.{map-same, found-at}
use Rattle.cache_core.specs.Connection.Parts.{standing_as}
use Rattle.cache_core.specs.Connection.Shown.{shown_connection}
use Rattle.cache_core.specs.Connections.Presence.{Here, Presence, closing_of_presence, open_from, reply_text_of, Gone, Out}
use Rattle.cache_core.specs.Fed.{ReplacedAt}
use Rattle.cache_core.specs.State.{IsBetweenEvents, NamespaceState, at_number, situation_with, state_of}
use Rattle.cache_core.specs.Turned.{Turned, ContinuesBy, closing_behind, reason_of, with_record}
use Rattle.cache_core.specs.declared.connection.connection.Connection.{Connection}
use Rattle.audit_model.specs.Situation as model
use Rattle.audit_model.specs.declared.command.Closing.TheVariants as by
use Rattle.audit_model.specs.declared.event.Event.TheVariants as event
use Rattle.audit_model.specs.declared.input.ServiceError.TheVariants as error
use Rattle.cache_commands.specs.declared.loads.standing.Standing.TheVariants as now

abbrev pub record_of : Event → Record
record_of happened = record { event = happened; own = None; notices = []; steps = [] }

-- a record without steps, begun and ended
pub kept-bare : (happened : Event) (tape middle final : Option Taped) → IsAtRest tape → middle ≡ option_map (started 0) tape → final ≡ option_map (finishes happened None []) middle
    → final ≡ option_map (with_record (record_of happened)) tape
kept-bare happened None middle final rests begun ended = ended ∙ ap (option_map (finishes happened None [])) begun
kept-bare happened (Some t) middle final rests begun ended =
    ended ∙ ap (option_map (finishes happened None [])) begun
    ∙ ap (λ b. Some (record { journal = with_entry (record_of happened) t.journal; begun = b; steps = []; spare = 0; drafted = None })) (sym rests.closed)
    ∙ ap (λ ss. Some (record { journal = with_entry (record_of happened) t.journal; begun = t.begun; steps = ss; spare = 0; drafted = None })) (sym rests.steps)
    ∙ ap (λ n. Some (record { journal = with_entry (record_of happened) t.journal; begun = t.begun; steps = t.steps; spare = n; drafted = None })) (sym rests.spare)
    ∙ ap (λ d. Some (record { journal = with_entry (record_of happened) t.journal; begun = t.begun; steps = t.steps; spare = t.spare; drafted = d })) (sym rests.undrafted)

pub none-more : {A : Type 0} (b : Bool) (xs : List A) → xs ≡ xs ++ (if b then [] else [])
none-more true xs = sym (append-nil xs)
none-more false xs = sym (append-nil xs)

-- ---- an opening

last-number : {A : Type 0} (f : Presence → A) (d : A) (cs : List Presence) (new : Presence) → f new ≡ d → (n : ℕ) → at_number d (map f (cs ++ new ∷ [])) n ≡ at_number d (map f cs) n
last-number f d [] new e zero = refl
last-number f d [] new e (suc zero) = e
last-number f d [] new e (suc (suc n)) = refl
last-number f d (c ∷ cs) new e zero = refl
last-number f d (c ∷ cs) new e (suc zero) = refl
last-number f d (c ∷ cs) new e (suc (suc n)) = last-number f d cs new e (suc n)

count-more : (cs : List Presence) (new : Presence) → length (map closing_of_presence (cs ++ new ∷ [])) ≡ suc (length (map closing_of_presence cs))
count-more cs new = let a = length-map (cs ++ new ∷ []) closing_of_presence in let b = length-map cs closing_of_presence in let l = length-append cs (new ∷ []) in omega (arith, a, b, l)

find-more : (n : ℕ) (xs ys : List model.Connection) → is_some (find (λ c. c.number == n) xs) ≡ true → is_some (find (λ c. c.number == n) (xs ++ ys)) ≡ true
find-more n [] ys e = let no : false ≡ true = e in cc
find-more n (x ∷ xs) ys e = let next = find-more n xs ys in grind (arith, next)

stays-open : (a b : Bool) → (b ≡ true → a ≡ true) → (a || not b) ≡ true
stays-open true b h = refl
stays-open false true h = h refl
stays-open false false h = refl

-- a connection that stays open is closed as it was
stays-closing : (config : Config) (s next : Situation) (entry : Record) (n : ℕ) (o : Option Closing) → (is_some (connection_in n s) ≡ true → is_some (connection_in n next) ≡ true) → o ≡ closing_behind config s entry next o n
stays-closing config s next entry n (Some why) stays = refl
stays-closing config s next entry n None stays = sym (ap (λ b. if b then None else Some (reason_of config s n entry.event entry.steps)) (stays-open (is_some (connection_in n next)) (is_some (connection_in n s)) stays))

module _ {S T : Type 0} (view : S → Values) (tape : T → Option Taped) (base : Base S T) (final : T) (latest m : ℕ) (cs : List Presence) (new : Connection) (e : m ≡ suc (length cs)) (free : new.standing ≡ now.Ready) (empty : new.unread.bytes ≡ []) (silent : new.output.text.items ≡ []) (is_open : new.closing ≡ None)
    (kept : tape final ≡ option_map (with_record (record_of (event.Open m))) (tape base.tape)) where
  abbrev config : Config
  config = (view base.store).frame.config

  abbrev last : NamespaceState S T
  last = state_of (record { store = base.store; loads = base.loads; tape = final }) latest (cs ++ Here new ∷ [])

  -- the new connection comes last
  listed : open_from 1 (cs ++ Here new ∷ []) ≡ open_from 1 cs ++ ready m [] ∷ []
  listed =
      let n_is : 1 + length cs ≡ m = omega (arith, e) in
      opened-last 1 cs new (ap is_none is_open) ∙ ap (λ k. open_from 1 cs ++ shown_connection k new ∷ []) n_is
      ∙ ap (λ st. open_from 1 cs ++ standing_as m st new.waited new.unread.bytes ∷ []) free ∙ ap (λ bs. open_from 1 cs ++ ready m bs ∷ []) empty

  pub turned-open : IsSoundStore (view base.store) → (held : List HeldValue) → (view base.store).Stands held
      → Turned view tape (state_of base latest cs) last (situation_with view (state_of base latest cs) held) (record_of (event.Open m))
  turned-open sound held stands =
      let s = sit latest (under_way base.loads) cs (view base.store).frame.dropped held in
      let count = length-map cs closing_of_presence in
      let number_is : m ≡ suc (length (map closing_of_presence cs)) = omega (arith, e, count) in
      let next = situation_with view last held in
      record {
        next = next;
        stands = record { held = held; stands = stands; is = refl };
        follows =
            ap (λ b. if b && true then Some (record s { opened = suc s.opened; connections = open_from 1 cs ++ ready m [] ∷ [] }) else None) (eq-eqb m (suc s.opened) number_is)
            ∙ ap (λ ks. Some (record s { opened = suc s.opened; connections = ks })) (sym listed)
            ∙ ap (λ n. Some (record s { opened = n; connections = open_from 1 (cs ++ Here new ∷ []) })) (sym (count-more cs (Here new)));
        kept = kept;
        outputs = λ n. last-number reply_text_of [] cs (Here new) silent n ∙ none-more (is_some (tape base.tape)) (at_number [] (map reply_text_of cs) n);
        notes = none-more (is_some (tape base.tape)) (view base.store).untaken;
        closings = λ n.
            last-number closing_of_presence None cs (Here new) is_open n
            ∙ stays-closing config s next (record_of (event.Open m)) n (at_number None (map closing_of_presence cs) n)
            (λ h. ap (λ ks. is_some (find (λ (k : model.Connection). k.number == n) ks)) listed ∙ find-more n (open_from 1 cs) (ready m [] ∷ []) h);
        parted = refl;
        timely = refl;
        bounded = sound.bounded held stands;
        draws = spends-same (identifiers_in (view base.store));
        ordered = λ places order plain agrees. (agrees, tt);
      }

  pub turns-open : IsSoundStore (view base.store) → ContinuesBy view tape (state_of base latest cs) last (event.Open m) false
  turns-open sound = record {
    turned = λ s st. (record_of (event.Open m), record { event_is = refl; ends = refl }, subst (λ x. Turned view tape (state_of base latest cs) last x (record_of (event.Open m))) (sym st.is) (turned-open sound st.held st.stands));
    stays = record {
      config = refl;
      part_of = refl;
      made = refl;
      namespace = refl;
      taken = refl;
      sends = sends-behind view tape base (record { store = base.store; loads = base.loads; tape = final }) latest latest cs (cs ++ Here new ∷ []) _ _ (record { held = sound.some; stands = sound.stands; is = refl })
          (turned-open sound sound.some sound.stands) (taken-same base.loads);
    };
  }

  pub order-open : IsSoundStore (view base.store) → IsBetweenEvents view tape (state_of base latest cs) → IsBetweenEvents view tape last
  order-open sound order = order-turned view tape (state_of base latest cs) last _ _ (record { held = sound.some; stands = sound.stands; is = refl }) (turned-open sound sound.some sound.stands) order refl order.in_time order.moment

-- ---- a closing

module _ {S T : Type 0} (view : S → Values) (tape : T → Option Taped) (base : Base S T) (left : Loads) (final : T) (latest m i : ℕ) (cs ds : List Presence) (p : ReplacedAt cs ds i) (e : m ≡ suc i) (is_open : p.was.closing ≡ None) (closed : p.is.closing ≡ Some by.Asked) (stays : p.is.output.text.items ≡ p.was.output.text.items)
    (leaves : under_way left ≡ when_left false m (under_way base.loads)) (kept : tape final ≡ option_map (with_record (record_of (event.Close m))) (tape base.tape)) where
  abbrev closed_last : NamespaceState S T
  closed_last = state_of (record { store = base.store; loads = left; tape = final }) latest ds

  pub turned-close : IsSoundStore (view base.store) → (held : List HeldValue) → (view base.store).Stands held
      → Turned view tape (state_of base latest cs) closed_last (situation_with view (state_of base latest cs) held) (record_of (event.Close m))
  turned-close sound held stands =
      let frame = (view base.store).frame in
      let s = sit latest (under_way base.loads) cs frame.dropped held in
      let next = situation_with view closed_last held in
      let known = known-open m i p.was s cs refl refl e p.at is_open in
      let rest : Option Situation = Some (without_connection m s) in
      let within = slice_get_within cs i (Here p.was) p.at in
      let relisted : open_from 1 (slice_set cs i (Here p.is)) ≡ open_from 1 ds = ap (open_from 1) (sym p.set) in
      let count : length (map closing_of_presence cs) ≡ length (map closing_of_presence ds) = sym (ap (λ xs. length (map closing_of_presence xs)) p.set ∙ opened-same cs i (Here p.is)) in
      let texts = ap (map reply_text_of) p.set ∙ map-same reply_text_of cs i (Here p.was) (Here p.is) p.at stays in
      record {
        next = next;
        stands = record { held = held; stands = stands; is = refl };
        follows =
            ap (λ a. if is_none (option_or (refusal_where (not a) error.NoConnection) (refusal_where (not ((known_in s).is_open m)) error.Closed)) && true && true then rest else None) known.0
            ∙ ap (λ a. if is_none (refusal_where (not a) error.Closed) && true && true then rest else None) known.1
            ∙ ap (λ ks. Some (record s { connections = ks; pending = map (without_waiting m) s.pending })) (dropped-at m 1 i p.is cs (omega (arith, e)) within (ap is_none closed) ∙ relisted)
            ∙ ap (λ n. Some (record s { opened = n; connections = open_from 1 ds; pending = map (without_waiting m) s.pending })) count
            ∙ ap (λ l. Some (sit latest l ds frame.dropped held)) (sym leaves);
        kept = kept;
        outputs = λ n. ap (λ xs. at_number [] xs n) texts ∙ none-more (is_some (tape base.tape)) (at_number [] (map reply_text_of cs) n);
        notes = none-more (is_some (tape base.tape)) (view base.store).untaken;
        closings = λ n.
            ap (λ xs. at_number None (map closing_of_presence xs) n) p.set
            ∙ closings-by frame.config s next (record_of (event.Close m)) cs i p.was p.is p.at is_open refl (sym relisted) (inr closed) n;
        parted = refl;
        timely = refl;
        bounded = sound.bounded held stands;
        draws = spends-same (identifiers_in (view base.store));
        ordered = λ places order plain agrees. (agrees, tt);
      }

  pub turns-close : IsSoundStore (view base.store) → SameTaken base.loads left → ContinuesBy view tape (state_of base latest cs) closed_last (event.Close m) false
  turns-close sound goes = record {
    turned = λ s st. (record_of (event.Close m), record { event_is = refl; ends = refl }, subst (λ x. Turned view tape (state_of base latest cs) closed_last x (record_of (event.Close m))) (sym st.is) (turned-close sound st.held st.stands));
    stays = record {
      config = refl;
      part_of = refl;
      made = refl;
      namespace = goes.namespace;
      taken = goes.taken;
      sends = sends-behind view tape base (record { store = base.store; loads = left; tape = final }) latest latest cs ds _ _ (record { held = sound.some; stands = sound.stands; is = refl })
          (turned-close sound sound.some sound.stands) goes;
    };
  }

  pub order-close : IsSoundStore (view base.store) → IsBetweenEvents view tape (state_of base latest cs) → IsBetweenEvents view tape closed_last
  order-close sound order = order-turned view tape (state_of base latest cs) closed_last _ _ (record { held = sound.some; stands = sound.stands; is = refl }) (turned-close sound sound.some sound.stands) order refl order.in_time order.moment

-- the loads of a connection that waits no more
pub left-is : (loads left : Loads) (n : ℕ) → sent_of left ≡ sent_of loads → loads_pending left ≡ map (without_waiting n) (loads_pending loads) → under_way left ≡ when_left false n (under_way loads)
left-is loads left n sent pending = ap (λ k. record { sent = k; pending = loads_pending left }) sent ∙ ap (λ ps. record { sent = sent_of loads; pending = ps }) pending

-- how many connections there are
pub count-open : (cs : List Presence) → length (map closing_of_presence cs) ≡ length cs
count-open cs = length-map cs closing_of_presence

-- How the parts of a namespace suit one another.

-- each has its replies and the reason of its closing
pub counted-all : (cs : List Presence) → length (map reply_text_of cs) ≡ length (map closing_of_presence cs)
counted-all cs = length-map cs reply_text_of ∙ sym (count-open cs)

listed-one : (m : ℕ) (p : Presence) → is_some (listed_of m p) ≡ is_none (closing_of_presence p)
listed-one m (Here c) = grind arith
listed-one m Out = refl
listed-one m (Gone why) = refl

-- a connection that was opened is listed just while it has not closed
pub listed-open : (cs : List Presence) (number : ℕ) → (nat_lt 0 number && nat_le number (length (map closing_of_presence cs))) ≡ true
    → is_some (find (λ (k : model.Connection). k.number == number) (open_from 1 cs)) ≡ is_none (at_number None (map closing_of_presence cs) number)
listed-open cs zero e = let no : false ≡ true = e in cc
listed-open cs (suc i) e =
    let few = leb-true (suc i) (length (map closing_of_presence cs)) (and_parts (nat_lt 0 (suc i)) (nat_le (suc i) (length (map closing_of_presence cs))) e).1 in
    let count = count-open cs in
    let c = found-at cs i (omega (arith, few, count)) in
    ap is_some (found-is (suc i) i c.0 cs refl c.1) ∙ listed-one (suc i) c.0 ∙ sym (ap is_none (seen-was closing_of_presence None cs i c.0 c.1))
