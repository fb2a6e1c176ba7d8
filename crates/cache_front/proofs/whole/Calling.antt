-- The parts stand for a list of values, each of which may be evicted; and after a call for at most as many as before it, and one more.
use Rattle.std.proofs.Common.{◌≡◌, refl, ap, ◌∙◌, sym, ℕ, suc, ◌+◌, ◌≤◌, arith, true, List, [], ◌∷◌, ◌++◌, map, length, Option, option_map, Some, None, slice_get, Bool, false, not, ◌&&◌, is_some, option_to_list, subst, ◌<◌, ◌^◌, max, ◌||◌, is_none, slice_set, if◌then◌else◌, IfSome, IsSome, IsTrue, MatchOption}
use Rattle.std.proofs.Math.Bool.{and_comm, or-false}
use Rattle.std.proofs.lemmas.Bool.{both_ways, cond_both}
use Rattle.std.proofs.lemmas.List.{length-append, length-map}
use Rattle.std.proofs.lemmas.Option.{cond_some, none-some}
use Rattle.std.specs.Option.{option_map_or}
use Rattle.engine_reference.proofs.SoundSteps.{runs_stay_sound}
use Rattle.engine_reference.proofs.StayingVisible.{visible_by_entries}
use Rattle.engine_reference.specs.Calls.{MaintainsIfDue, with_read}
use Rattle.engine_reference.specs.Identifiers.Drawing.{is_registered}
use Rattle.engine_reference.specs.Records.{held_entries, held_at}
use Rattle.engine_reference.specs.Scanning.{NotesLookUp}
use Rattle.engine_reference.specs.Soundness.{IsSound}
use Rattle.engine_reference.specs.Telling.{entry_of}
use Rattle.engine_reference.specs.Times.{has_come}
use Rattle.engine_reference.specs.Visible.{is_covered, is_visible, passing, visible, visible_record, visible_value}
use Rattle.front_reference.specs.Parts.{Inserts, TakesOut, taken_out, takes_nothing}
use Rattle.audit_model.specs.Bytewise.{same}
use Rattle.audit_model.specs.Changes.{all_held_after, newly_held}
use Rattle.audit_model.specs.Commands.{Deed}
use Rattle.audit_model.specs.History.{Value}
use Rattle.audit_model.specs.Situation.{HeldValue, is_live_at}
use Rattle.audit_model.specs.Values.{sorted}
use Rattle.audit_model.specs.declared.config.Config.{Config}
use Rattle.audit_model.specs.declared.transcript.Note.{Note}
use Rattle.cache_commands.proofs.Held.{apart-map, left, value_at-map, length-without_at_most}
use Rattle.cache_commands.proofs.LiveKeys.{live_keys_from, live_keys_are}
use Rattle.cache_commands.specs.Among.{has_live, are_distinct, is_among_keys}
use Rattle.cache_commands.specs.Handing.{AppendsNotes}
use Rattle.cache_commands.specs.Held.{plain, have_own_keys, value_at, items_without}
use Rattle.cache_commands.specs.Identifiers.{KeepsIdentifiers}
use Rattle.cache_commands.specs.Promises.{Done, accepting, deleting, using, value_for}
use Rattle.cache_commands.specs.Recency.{used_first}
use Rattle.cache_commands.specs.Values.{Does, AreLive, IsAcceptable, IsLive}
use Rattle.cache_front.proofs.kept.Identifying.{inserted-no_more, keeps_identifiers, looked-no_more, removed-no_more}
use Rattle.cache_front.proofs.kept.Storing.{enough-parted, enough-parts, enough-knows, Comes, keeps-accept, keeps-look_up, keeps-remove, maintained_from, takes_values, value-new}
use Rattle.cache_front.proofs.parts.Accepting.{accept_does}
use Rattle.cache_front.proofs.parts.Joining.{live_value_is, Knows, Maintained, idle, ran, ran_from}
use Rattle.cache_front.proofs.parts.Items.{AreParted, apart-of, corresponds_from, value_at-part, decides, replaced-other, replaced-there}
use Rattle.cache_front.proofs.parts.Looking.{look_up_does, miss_does}
use Rattle.cache_front.proofs.parts.Moving.{taking}
use Rattle.cache_front.proofs.parts.Removing.{remove_does, removed, took_out}
use Rattle.cache_front.proofs.parts.Writing.{Kept, dead_is, Rec, wrote}
use Rattle.cache_front.proofs.whole.Changing.{AreTaken, DrawsTicket, all_drained-set, greatest-with, maintained-room, maintained-ticket, value_put-room, value_put-ticket, read-room, read-ticket, removal-is, removed-room, removed-ticket, unreserved-with, waiting-set}
use Rattle.cache_front.proofs.whole.Ordered.{accepts, look_ups, removes}
use Rattle.cache_front.specs.Keeping.{IsKeptPart, at_moment, IsStorable}
use Rattle.cache_front.specs.Parts.{Part, Stands, as_held_value, items_of, service_answers, drained, Stored, note_from, value_put, put_entry}
use Rattle.cache_front.specs.Recent.{IsRecentOver}
use Rattle.cache_front.specs.Registering.{HasNoMore, register_of}
use Rattle.cache_front.specs.View.{IsWhole, StoreOfParts, view, kept_value, ComesTo, after_telling, greatest_ticket}

abbrev evictable : HeldValue → HeldValue
evictable h = record h { evictable = true }

-- ---- how many are held

left-few : (notes : List Note) (items : List HeldValue) → length (left notes items) ≤ length items
left-few [] items = omega arith
left-few (n ∷ notes) items = let l = left-few notes (items_without n.key items) in let w = length-without_at_most n.key items in omega (arith, l, w)

held-few : (config : Config) (now : ℕ) (held : List HeldValue) (deed : Deed) (told : List Note) → length (all_held_after config now held deed told) ≤ length held + length (option_to_list (option_map newly_held deed.value))
held-few config now held deed told = grind (arith, length-map, left-few told (held ++ option_to_list (option_map newly_held deed.value)), length-append held (option_to_list (option_map newly_held deed.value)))

one-more : (o : Option Value) → length (option_to_list (option_map newly_held o)) ≤ 1
one-more None = omega arith
one-more (Some v) = omega arith

module _ {S : Type 0} (a : StoreOfParts S) (w : IsWhole a) where
  pub parted : AreParted a.frame.part_of 0 a.parts
  parted = enough-parted a.frame a.step a.parts w.kept

  pub parts_are : (q : List ℕ) → (x : Part S) × (slice_get a.parts (a.frame.part_of q) ≡ Some x)
  parts_are = enough-parts a.frame a.step a.parts w.kept

  abbrev pub some_held : List HeldValue
  some_held = map evictable (items_of 0 a.parts)

  pub some_stand : Stands a.parts some_held
  some_stand = record {
    same = corresponds_from (items_of 0 a.parts) some_held apart (apart-map evictable (items_of 0 a.parts) (λ h. refl) ∙ apart) (λ q. ap (option_map plain) (value_at-map evictable (items_of 0 a.parts) q (λ h. refl)) ∙ found q);
    marked = λ part s there owner at held point h is. marked (value_at (items_of 0 a.parts) owner.entry.key) h (sym (value_at-map evictable (items_of 0 a.parts) owner.entry.key (λ h. refl)) ∙ is);
  }
    where
      apart : have_own_keys (items_of 0 a.parts) ≡ true
      apart = apart-of a.frame.part_of 0 a.parts parted

      marked : (o : Option HeldValue) (h : HeldValue) → option_map evictable o ≡ Some h → h.evictable ≡ true
      marked None h is = absurd (none-some h is)
      marked (Some x) h is = let e : evictable x ≡ h = cc in ap (λ (y : HeldValue). y.evictable) (sym e)

      each : (part : ℕ) (s : Part S) (o : Option Kept) → option_map plain (option_map evictable (option_map (as_held_value part s) o)) ≡ option_map (as_held_value part s) o
      each part s None = refl
      each part s (Some e) = refl

      found : (q : List ℕ) → option_map plain (option_map evictable (value_at (items_of 0 a.parts) q)) ≡ value_at (items_of 0 a.parts) q
      found q =
          let x = parts_are q in
          let zero_plus : a.frame.part_of q ≡ 0 + a.frame.part_of q = omega arith in
          let is = value_at-part a.frame.part_of 0 (a.frame.part_of q) a.parts x.0 q parted x.1 zero_plus in
          ap (λ o. option_map plain (option_map evictable o)) is ∙ each (0 + a.frame.part_of q) x.0 (entry_of same (held_entries x.0.records) q) ∙ sym is

  -- a call leaves at most as many as there were, and the one that it accepts
  few-after : (now : ℕ) (deed : Deed) (b : StoreOfParts S) → Does now deed (view a) (view b) → length (items_of 0 b.parts) ≤ length (items_of 0 a.parts) + length (option_to_list (option_map newly_held deed.value))
  few-after now deed b does = grind (arith, some_stand, held-few a.frame.config now some_held deed, length-map (items_of 0 a.parts) evictable)

  pub one_more-after : (now : ℕ) (deed : Deed) (b : StoreOfParts S) → Does now deed (view a) (view b) → length (items_of 0 b.parts) ≤ suc (length (items_of 0 a.parts))
  one_more-after now deed b does = let l = few-after now deed b does in let o = one-more deed.value in omega (arith, l, o)

  pub no_more-after : (now : ℕ) (deed : Deed) (b : StoreOfParts S) → deed.value ≡ None → Does now deed (view a) (view b) → length (items_of 0 b.parts) ≤ length (items_of 0 a.parts)
  no_more-after now deed b none does = let l = few-after now deed b does in let e = ap (λ o. length (option_to_list (option_map newly_held o))) none in omega (arith, l, e)

-- ---- the live keys of a store of parts

-- of keys that are each there once, exactly those of which something is visible are the live keys, once in byte order
pub live_keys : {S : Type 0} → (a : StoreOfParts S) (now : ℕ) (keys : List (List ℕ)) → IsWhole a → are_distinct keys ≡ true
    → ((key : List ℕ) (s : Part S) → slice_get a.parts (a.frame.part_of key) ≡ Some s → is_among_keys key keys ≡ is_some (visible service_answers same s now key)) → AreLive (view a) now (λ live. live ≡ sorted keys)
live_keys {S} a now keys w distinct among = λ held stands.
    live_keys_are a.frame.config now (items_of 0 a.parts) held (apart-of a.frame.part_of 0 a.parts (parted a w)) stands.same
    ∙ live_keys_from a.frame.config now (items_of 0 a.parts) keys (apart-of a.frame.part_of 0 a.parts (parted a w)) distinct (λ q. (let x = parts_are a w q in among q x.0 x.1 ∙ sym (live-is q x.0 x.1)))
  where
    live-is : (q : List ℕ) (s : Part S) → slice_get a.parts (a.frame.part_of q) ≡ Some s → has_live a.frame.config now (items_of 0 a.parts) q ≡ is_some (visible service_answers same s now q)
    live-is q s there =
        let zero_plus : a.frame.part_of q ≡ 0 + a.frame.part_of q = omega arith in
        ap (λ o. option_map_or (is_live_at a.frame.config now) o false) (value_at-part a.frame.part_of 0 (a.frame.part_of q) a.parts s q (parted a w) there zero_plus)
        ∙ by_entry (entry_of same (held_entries s.records) q) refl
        ∙ ap (λ o. is_some o) (sym (visible_by_entries same service_answers s now q))
      where
        by_entry : (o : Option Kept) → entry_of same (held_entries s.records) q ≡ o
            → option_map_or (is_live_at a.frame.config now) (option_map (as_held_value (0 + a.frame.part_of q) s) o) false ≡ is_some (passing (is_visible service_answers s now) o)
        by_entry None found = refl
        by_entry (Some e) found =
            let k = enough-knows a.frame a.step now (a.frame.part_of q) a.parts s [] w.kept there in
            let early = k.early q e found in
            ap (λ b. not (is_covered service_answers s e) && not b) (sym (dead_is a.frame.config a.frame.made now (0 + a.frame.part_of q) s e k.brief k.settings early.0 early.1))
            ∙ and_comm (not (is_covered service_answers s e)) (not (has_come s.settings now e))
            ∙ cond_both (is_visible service_answers s now e) (Some e) None (λ o. is_visible service_answers s now e ≡ is_some o) (λ t. t) (λ t. t)

-- The calls that come to one part: what is seen, used, accepted and removed.

maintained-sound : {S : Type 0} (now : ℕ) (old new : Part S) → Maintained now old new → IsSound old → IsSound new
maintained-sound {S} now old new (idle is) sound = subst (λ (s : Part S). IsSound s) (sym is) sound
maintained-sound {S} now old new (ran run) sound = runs_stay_sound _ _ _ _ _ _ now old new sound run.runs

module _ {S : Type 0} (a : StoreOfParts S) (w : IsWhole a) where
  pub taken : AreTaken a.parts
  taken k s there = (w.kept.each k s there).taken

  tells : (k : ℕ) (s : Part S) → slice_get a.parts k ≡ Some s → s.settings.tells ≡ true
  tells k s there = ap (λ c. c.settings.tells) (w.kept.each k s there).front.made

  knows : (now k : ℕ) (s : Part S) → slice_get a.parts k ≡ Some s → (held : List HeldValue) → Knows a.frame.config a.frame.part_of a.frame.made now k s a.parts held
  knows now k s there held = enough-knows a.frame a.step now k a.parts s held w.kept there

  pub comes : (now next : ℕ) → ComesTo a now next → Comes a.frame a.step now next
  comes now next at = record { less = at.moment.0; rises = at.rises; range = at.moment.1 }

  -- at that moment one part became another, whose notices were taken
  abbrev pub changed : (now next k : ℕ) → Part S → StoreOfParts S
  changed now next k new = record a { frame = at_moment a.frame now; parts = slice_set a.parts k (drained new); queue = a.queue ++ map note_from new.notices; step = next }

  pub after_telling-is : (now next k : ℕ) (s new : Part S) → slice_get a.parts k ≡ Some s → after_telling now next (slice_set a.parts k new) a ≡ changed now next k new
  after_telling-is now next k s new there = grind (arith, all_drained-set, taken, waiting-set)

  -- the notes that were told are handed on
  pub handed : (now : ℕ) (deed : Deed) (held : List HeldValue) (New : List HeldValue → Type 0) (notes : List Note) → Done a.frame.config now deed held New (λ told. told ≡ notes) → Done a.frame.config now deed held New (AppendsNotes a.queue (a.queue ++ notes))
  handed now deed held New notes d = record { told = d.told; right = d.right; left = d.left; handed = record { added = ap (λ ns. a.queue ++ ns) (sym d.handed) } }

  spent-with : (now next k : ℕ) (s new : Part S) → ComesTo a now next → slice_get a.parts k ≡ Some s → DrawsTicket s new → max next (greatest_ticket (slice_set a.parts k (drained new))) ≤ max a.step (greatest_ticket a.parts) + 1
  spent-with now next k s new at there f = let l = greatest-with k s new a.parts there f in let one = at.one in omega (arith, l, one)

  keeps-with : (k : ℕ) (s new : Part S) → slice_get a.parts k ≡ Some s → HasNoMore S s new → KeepsIdentifiers a.stream a.stream (register_of a.parts) (register_of (slice_set a.parts k (drained new)))
  keeps-with k s new there more = keeps_identifiers a.stream a.parts (slice_set a.parts k (drained new)) (λ part t at. each part t at (decides part k))
    where
      each : (part : ℕ) (t : Part S) → slice_get (slice_set a.parts k (drained new)) part ≡ Some t → Dec (part ≡ k) → (x : Part S) × (slice_get a.parts part ≡ Some x) × HasNoMore S x t
      each part t at (yes is) =
          let both : Some (drained new) ≡ Some t = sym (replaced-there k (drained new) s a.parts there) ∙ ap (slice_get (slice_set a.parts k (drained new))) (sym is) ∙ at in
          let one : drained new ≡ t = cc in
          (s, ap (slice_get a.parts) is ∙ there, λ n e. more n (ap (λ (x : Part S). is_registered x.predicates n) one ∙ e))
      each part t at (no other) = (t, sym (replaced-other k part (drained new) a.parts other) ∙ at, λ n e. e)

-- ---- `peek`

pub peek : {S : Type 0} → (a : StoreOfParts S) (now : ℕ) (key : List ℕ) (s : Part S) → IsWhole a → slice_get a.parts (a.frame.part_of key) ≡ Some s → IsLive (view a) now key (option_map (λ value. value.bytes) (visible_value service_answers same s now key))
peek {S} a now key s w there = λ held stands.
    sym (live_value_is a.frame.config a.frame.part_of a.frame.made now (a.frame.part_of key) s a.parts held (enough-knows a.frame a.step now (a.frame.part_of key) a.parts s held w.kept there) stands.same key refl
    ∙ bytes_are (visible service_answers same s now key))
  where
    bytes_are : (o : Option Kept) → option_map (λ (e : Kept). e.value.bytes) o ≡ option_map (λ (v : Stored). v.bytes) (option_map (λ (e : Kept). e.value) o)
    bytes_are None = refl
    bytes_are (Some e) = refl

-- ---- `look_up`

pub look_up : {S : Type 0} (a : StoreOfParts S) (w : IsWhole a) (now next hash : ℕ) (key : List ℕ) (s new : Part S) → ComesTo a now next → slice_get a.parts (a.frame.part_of key) ≡ Some s
    → NotesLookUp service_answers same key hash now false s new → Does now (using key) (view a) (view (changed a w now next (a.frame.part_of key) new)) × IsWhole (changed a w now next (a.frame.part_of key) new)
look_up {S} a w now next hash key s new at there look = (
  does,
  record {
    kept = keeps-look_up a.frame a.step now next k a.parts s new key hash (comes a w now next at) w.kept there look;
    small = (let l = no_more-after a w now (using key) (changed a w now next k new) refl does in let small = w.small in omega (arith, l, small));
    unreserved = unreserved-with k s new a.parts there w.unreserved room;
  },
)
  where
    k : ℕ
    k = a.frame.part_of key

    part : IsKeptPart a.frame k a.step s
    part = w.kept.each k s there

    maintained : Maintained now s look.mid
    maintained = maintained_from now s look.mid look.maintains

    read : Part S
    read = with_read service_answers (visible_record service_answers same s now key) hash now look.mid

    same_notices : (o : Option Rec) → (with_read service_answers o hash now look.mid).notices ≡ look.mid.notices
    same_notices None = refl
    same_notices (Some r) = refl

    done : (held : List HeldValue) → Stands a.parts held → Done a.frame.config now (using key) held (Stands (slice_set a.parts k (drained new))) (AppendsNotes a.queue (a.queue ++ map note_from new.notices))
    done held stands =
        let order = part.front.ordered in
        let sound = maintained-sound now s look.mid maintained order.sound in
        let d = look_up_does now key hash s look.mid order sound part.front.apart (ran_from now s look.mid order part.front.apart (tells a w k s there) maintained) a.frame.config a.frame.part_of a.frame.made k a.parts held (knows a w now k s there held) stands (parts_are a w) part.taken refl in
        subst (λ (x : Part S). Done a.frame.config now (using key) held (Stands (slice_set a.parts k (drained x))) (AppendsNotes a.queue (a.queue ++ map note_from x.notices))) (sym look.reads)
        (handed a w now (using key) held _ (map note_from read.notices)
        (subst (λ ns. Done a.frame.config now (using key) held (Stands (slice_set a.parts k (drained read))) (λ told. told ≡ map note_from ns)) (sym (same_notices (visible_record service_answers same s now key))) d))

    ticket : DrawsTicket s new
    ticket =
        let e = ap (λ (x : Part S). x.next_ticket) look.reads ∙ read-ticket (visible_record service_answers same s now key) hash now look.mid ∙ maintained-ticket now s look.mid maintained in
        omega (arith, e)

    room : new.reserved ≡ s.reserved
    room = ap (λ (x : Part S). x.reserved) look.reads ∙ read-room (visible_record service_answers same s now key) hash now look.mid ∙ maintained-room now s look.mid maintained

    does : Does now (using key) (view a) (view (changed a w now next k new))
    does = record {
      done = done;
      frame = ap (λ b. record a.frame { dropped = b; latest = now }) (sym (or-false a.frame.dropped));
      used = λ n keys plain recent.
          subst (λ (x : Part S). IsRecentOver a.frame.config (slice_set a.parts k (drained x)) false (used_first key keys)) (sym look.reads) (look_ups a.frame a.step a.parts k s look.mid key hash now w.kept there maintained n keys plain recent);
      drawn = keeps-with a w k s new there (looked-no_more key hash now s new look);
      spent = spent-with a w now next k s new at there ticket;
    }

-- ---- `accept`

-- the milliseconds of a value are few, and stand where there are own deadlines
brief-ms : (own : Bool) (ms : Option ℕ) → IfSome ms (λ n. (n ≤ 999999999999) × IsTrue own) → (n : ℕ) → ms ≡ Some n → n ≤ 999999999999
brief-ms own None fits n e = absurd (none-some n e)
brief-ms own (Some m) fits n e = let is : m ≡ n = cc in let f = fits.0 in omega (arith, is, f)

timed-ms : (own : Bool) (ms : Option ℕ) → IfSome ms (λ n. (n ≤ 999999999999) × IsTrue own) → IsTrue (own || is_none ms)
timed-ms own ms fits = grind (arith, fits)

own-ms : (own : Bool) (ms : Option ℕ) → IfSome ms (λ n. (n ≤ 999999999999) × IsTrue own) → IsSome ms → IsTrue own
own-ms own None fits some = absurd (both_ways false refl some)
own-ms own (Some m) fits some = fits.1

pub accept : {S : Type 0} (a : StoreOfParts S) (w : IsWhole a) (now next hash : ℕ) (key bytes : List ℕ) (ms : Option ℕ) (looked_up : Bool) (s new : Part S) → ComesTo a now next → IsAcceptable a.frame.config bytes ms → length (items_of 0 a.parts) < 2 ^ 50
    → slice_get a.parts (a.frame.part_of key) ≡ Some s → Inserts service_answers same key hash (kept_value bytes ms) now next s new
    → Does now (accepting (if looked_up then Some key else None) (value_for a.frame now key bytes ms)) (view a) (view (changed a w now next (a.frame.part_of key) new)) × IsWhole (changed a w now next (a.frame.part_of key) new)
accept {S} a w now next hash key bytes ms looked_up s new at fits few there call = (
  does,
  record {
    kept = keeps-accept a.frame a.step now next k a.parts s new key hash (kept_value bytes ms) (comes a w now next at) w.kept there fits.takes acceptable call;
    small = (let l = one_more-after a w now deed (changed a w now next k new) does in omega (arith, l, few));
    unreserved = unreserved-with k s new a.parts there w.unreserved
        (maintained-room now t new maintained ∙ value_put-room key hash (kept_value bytes ms) now next s);
  },
)
  where
    k : ℕ
    k = a.frame.part_of key

    part : IsKeptPart a.frame k a.step s
    part = w.kept.each k s there

    value : Value
    value = value_for a.frame now key bytes ms

    used : Option (List ℕ)
    used = if looked_up then Some key else None

    deed : Deed
    deed = accepting used value

    acceptable : IsStorable a.frame k key (kept_value bytes ms)
    acceptable = record { placed = refl; short = fits.short; timed = timed-ms a.frame.config.own_deadlines ms fits.own }

    on : takes_nothing s.settings.capacity ≡ false
    on = ap (λ c. takes_nothing c.settings.capacity) part.front.made ∙ takes_values a.frame a.step a.parts w.kept fits.takes

    t : Part S
    t = value_put key hash (kept_value bytes ms) now next s

    maintained : Maintained now t new
    maintained = maintained_from now t new (call.takes on)

    done : (held : List HeldValue) → Stands a.parts held → Done a.frame.config now deed held (Stands (slice_set a.parts k (drained new))) (AppendsNotes a.queue (a.queue ++ map note_from new.notices))
    done held stands =
        let known = knows a w now k s there held in
        let front = part.front in
        handed a w now deed held _ (map note_from new.notices)
        (accept_does a.frame.config a.frame.part_of a.frame.made now k s a.parts held known stands (parts_are a w) (tells a w k s there) part.taken key (put_entry s key (kept_value bytes ms) now next) t value
        (wrote key hash (kept_value bytes ms) now next s front.ordered front.apart (tells a w k s there) front.sent) used (λ x is. sym (cond_some looked_up key x is).1)
        (value-new a.frame a.step now next k a.parts s held key hash (kept_value bytes ms) known stands.same (stands.marked k s known.there) (comes a w now next at) part acceptable (brief-ms a.frame.config.own_deadlines ms fits.own)) new maintained)

    ticket : DrawsTicket s new
    ticket = let e = maintained-ticket now t new maintained ∙ value_put-ticket key hash (kept_value bytes ms) now next s in omega (arith, e)

    does : Does now deed (view a) (view (changed a w now next k new))
    does = record {
      done = done;
      frame = ap (λ b. record a.frame { dropped = b; latest = now }) (sym (or-false a.frame.dropped));
      used = accepts a.frame a.step next a.parts k s new key (kept_value bytes ms) hash now w.kept there at.rises (own-ms a.frame.config.own_deadlines ms fits.own) maintained;
      drawn = keeps-with a w k s new there (inserted-no_more key hash now next (kept_value bytes ms) s new call);
      spent = spent-with a w now next k s new at there ticket;
    }

-- ---- `remove`

pub remove : {S : Type 0} (a : StoreOfParts S) (w : IsWhole a) (now next : ℕ) (key : List ℕ) (s new : Part S) → ComesTo a now next → slice_get a.parts (a.frame.part_of key) ≡ Some s → TakesOut service_answers same key now s new
    → Does now (deleting key) (view a) (view (changed a w now next (a.frame.part_of key) new)) × IsWhole (changed a w now next (a.frame.part_of key) new)
remove {S} a w now next key s new at there call = (
  does,
  record {
    kept = keeps-remove a.frame a.step now next k a.parts s new key (comes a w now next at) w.kept there call;
    small = (let l = no_more-after a w now (deleting key) (changed a w now next k new) refl does in let small = w.small in omega (arith, l, small));
    unreserved = unreserved-with k s new a.parts there w.unreserved
        (room (held_at same s.records key) call);
  },
)
  where
    k : ℕ
    k = a.frame.part_of key

    part : IsKeptPart a.frame k a.step s
    part = w.kept.each k s there

    Ends : Option Rec → Type 0
    Ends o = MatchOption o (new ≡ s) (λ r. MaintainsIfDue service_answers now (taken_out service_answers r now s) new)

    -- a run came where it was due, behind the removal
    maintained_some : (r : Rec) → MaintainsIfDue service_answers now (taken_out service_answers r now s) new → Maintained now (removed key now s r) new
    maintained_some r m = maintained_from now (removed key now s r) new (subst (λ x. MaintainsIfDue service_answers now x new) (removal-is key now s r) m)

    maintained : (o : Option Rec) → Ends o → Maintained now (taking s now o o) new
    maintained None is = idle is
    maintained (Some r) m = maintained_some r m

    done : (held : List HeldValue) → Stands a.parts held → Done a.frame.config now (deleting key) held (Stands (slice_set a.parts k (drained new))) (AppendsNotes a.queue (a.queue ++ map note_from new.notices))
    done held stands = handed a w now (deleting key) held _ (map note_from new.notices) (go (held_at same s.records key) refl call)
      where
        go : (o : Option Rec) → held_at same s.records key ≡ o → Ends o → Done a.frame.config now (deleting key) held (Stands (slice_set a.parts k (drained new))) (λ notes. notes ≡ map note_from new.notices)
        go None e is = miss_does a.frame.config a.frame.part_of a.frame.made now k s new a.parts held (knows a w now k s there held) stands (parts_are a w) (tells a w k s there) part.taken part.front.apart key refl e (idle is)
        go (Some r) e m =
            remove_does a.frame.config a.frame.part_of a.frame.made now k s a.parts held (knows a w now k s there held) stands (parts_are a w) (tells a w k s there) part.taken key r e (removed key now s r)
            (took_out key now s r part.front.ordered part.front.apart (tells a w k s there) part.front.sent e) new (maintained_some r m)

    room : (o : Option Rec) → Ends o → new.reserved ≡ s.reserved
    room None is = ap (λ (x : Part S). x.reserved) is
    room (Some r) m = maintained-room now (removed key now s r) new (maintained_some r m) ∙ removed-room key now s r

    ticket : (o : Option Rec) → Ends o → DrawsTicket s new
    ticket None is = let e = ap (λ (x : Part S). x.next_ticket) is in omega (arith, e)
    ticket (Some r) m = let e = maintained-ticket now (removed key now s r) new (maintained_some r m) ∙ removed-ticket key now s r in omega (arith, e)

    does : Does now (deleting key) (view a) (view (changed a w now next k new))
    does = record {
      done = done;
      frame = ap (λ b. record a.frame { dropped = b; latest = now }) (sym (or-false a.frame.dropped));
      used = removes a.frame a.step a.parts k s new key now w.kept there (maintained (held_at same s.records key) call);
      drawn = keeps-with a w k s new there (removed-no_more key now s new call);
      spent = spent-with a w now next k s new at there (ticket (held_at same s.records key) call);
    }
