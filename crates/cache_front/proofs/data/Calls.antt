-- A store over a front that was just made.
use Rattle.std.proofs.Common.{◌≡◌, refl, ap, ◌∙◌, sym, subst, ℕ, ◌+◌, ◌-◌, ◌*◌, ◌/◌, ◌^◌, ◌≤◌, ◌<◌, suc, arith, false, List, ◌∷◌, length, Option, option_map, Some, None, slice_get, [], true, true≢false, ◌++◌, map, option_to_list, Bool, slice_set}
use Rattle.std.proofs.Math.Nat.{div-lt_iff_lt-mul}
use Rattle.std.proofs.lemmas.Bool.{and_parts}
use Rattle.std.proofs.lemmas.List.{length-append, length-map}
use Rattle.std.proofs.lemmas.Nat.{pow-add, pow_pos}
use Rattle.std.proofs.lemmas.Option.{none-some}
use Rattle.std.specs.Borrow.{Bor, MutBor}
use Rattle.std.specs.Fn.{Once}
use Rattle.rand_core.specs.Stream.{Stream}
use Rattle.engine_reference.specs.Calls.{IsNew, cleared_by, removal_rooms}
use Rattle.engine_reference.specs.Scanning.{NotesLookUp}
use Rattle.engine_reference.specs.declared.data.Settings.{Settings}
use Rattle.front_reference.specs.Fronts.{part_of, share_of, CallsAll, CallsPart, part_by_hash, passed}
use Rattle.front_reference.specs.Keeping.{Common}
use Rattle.front_reference.specs.Wholes.{DrawsInVain, RunsPart}
use Rattle.front_reference.specs.declared.errors.CacheError.{CacheError}
use Rattle.front_state.specs.Calls.{IsCauseOf, Ways, visible_of}
use Rattle.front_state.specs.Covering.{CoversAll, IsCauseToCover}
use Rattle.front_state.specs.Making.{IsMadeWith, with_share}
use Rattle.front_state.specs.Showing.{IsShown}
use Rattle.audit_model.specs.Bytewise.{same}
use Rattle.audit_model.specs.Changes.{all_held_after, newly_held}
use Rattle.audit_model.specs.Commands.{Covering, Deed, Everything, Nothing, Prefixed}
use Rattle.audit_model.specs.History.{part_count, Value}
use Rattle.audit_model.specs.Notes.{are_true_notes, candidates_of, first_with_key, is_true_note, newcomer}
use Rattle.audit_model.specs.Situation.{HeldValue, candidate_at}
use Rattle.audit_model.specs.Values.{untold, without_key}
use Rattle.audit_model.specs.View.{Candidate}
use Rattle.audit_model.specs.declared.config.Config.{Config}
use Rattle.audit_model.specs.declared.config.Weight.{Weight}
use Rattle.audit_model.specs.declared.transcript.Note.{Note}
use Rattle.cache_commands.specs.Promises.{Frame, covering, deleting, syncing, using}
use Rattle.cache_commands.specs.Values.{Does, HandsBy, AcceptsValue, IsAcceptable, IsLive, IsMoment, IsSettled, IsSoundStore, IsSpent, LacksIdentifiers, ReadsLive}
use Rattle.cache_front.proofs.data.Drains.{one_told}
use Rattle.cache_front.proofs.kept.Identifying.{released}
use Rattle.cache_front.proofs.whole.Calling.{some_held, some_stand, accept as one_accept, after_telling-is, changed, look_up as one_look_up, peek as one_peek, remove as one_remove, parts_are}
use Rattle.cache_front.proofs.whole.Settling.{made, sound, clear as clear_parts, drop as drop_parts, lacks, no_steps, no_tickets, run_all as run_parts}
use Rattle.cache_front.specs.Data.{FrontData, InsertsBy, LackTickets, TakesOutBy, parted_by}
use Rattle.cache_front.specs.Draining.{drained_at, waiting_at}
use Rattle.cache_front.specs.Making.{IsJustMade, whole_settings}
use Rattle.cache_front.specs.Parts.{IsBrief, Part, part_settings, items_of, Stored, service_answers}
use Rattle.cache_front.specs.State.{IsFitStore, Lent, store_of, over_drained}
use Rattle.cache_front.specs.View.{StoreOfParts, view, IsWhole, ComesTo, after_telling, all_drained, kept_value, number_in_all, weight_in_all, waiting}
use Rattle.front_reference.specs.declared.errors.CacheError.TheVariants as errors

-- the upper bits of a number of 64 bits say one of so many parts
all-bits : (bits : ℕ) → bits ≤ 16 → 2 ^ 64 ≡ 2 ^ bits * 2 ^ (64 - bits)
all-bits bits low = let e : 64 ≡ bits + (64 - bits) = omega arith in ap (λ n. 2 ^ n) e ∙ pow-add 2 bits (64 - bits)

below : (bits hash : ℕ) → bits ≤ 16 → hash < 2 ^ 64 → hash / 2 ^ (64 - bits) < 2 ^ bits
below bits hash low fits = (div-lt_iff_lt-mul (pow_pos (64 - bits))).1 (subst (λ n. hash < n) (all-bits bits low) fits)

-- each part gets its share
shared : (config : Config) (made parts : ℕ) → parts ≡ part_count config → with_share parts (whole_settings config made) ≡ part_settings config made
shared config made parts is = ap (λ (c : Option ℕ). record (part_settings config made) { capacity = c }) (ap (λ n. option_map (share_of n) config.capacity) is)

none-from : (xs : List HeldValue) → length xs ≡ 0 → xs ≡ []
none-from [] e = refl
none-from (x ∷ xs) e = absurd (let n : suc (length xs) ≡ 0 = e in omega (arith, n))

abbrev new_frame : {S : Type 0} → Config → (S → List ℕ → ℕ) → (since bits : ℕ) → S → (latest : ℕ) → Frame
new_frame config hash since bits hasher latest = record { config = config; part_of = λ key. part_of bits (hash hasher key); made = since; dropped = false; latest = latest }

pub new_over : {S : Type 0} (hash : S → List ℕ → ℕ) (config : Config) (since bits : ℕ) (hasher : S) (stream : Stream) (f : Lent S) (room : ℕ)
    → IsMadeWith None bits (whole_settings config since) hasher config.weight f → 2 ^ bits ≡ part_count config → bits ≤ 8 → ((s : S) (key : List ℕ) → hash s key < 2 ^ 64) → IsBrief config → since < 2 ^ 63
    → IsFitStore (store_of hash config since false [] stream f) 0 room × IsJustMade config (hash hasher) since stream (view (store_of hash config since false [] stream f))
new_over {S} hash config since bits hasher stream f room m counts few words brief range =
    let t = made a None hasher number placed brief range moment m.new.step each in
    let s = sound a t.0 in (
      record { whole = t.0; counted = sym t.1; room = omega arith },
      record {
        bits = bits;
        counts = counts;
        frame =
            ap (λ b. new_frame config hash since b f.common.hasher f.moment) m.bits_are
            ∙ ap (λ (c : Common S Weight). new_frame config hash since bits c.hasher f.moment) common
            ∙ ap (λ n. new_frame config hash since bits hasher n) (m.new.moment ∙ ap (λ (c : Common S Weight). c.settings.made) common);
        empty = subst (view a).Stands (none-from s.some (s.counted s.some s.stands ∙ t.1)) s.stands;
        untaken = refl;
        used = t.2;
        stream_is = refl;
        unregistered = released f.parts (λ place s there. (m.new.parts place s there).predicates);
      },
    )
  where
    a : StoreOfParts S
    a = store_of hash config since false [] stream f

    common : f.common ≡ record { settings = part_settings config since; hasher = hasher; rules = config.weight }
    common = m.common ∙ ap (λ (s : Settings). record { settings = s; hasher = hasher; rules = config.weight }) (shared config since (2 ^ bits) counts)

    number : length f.parts ≡ part_count config
    number = m.new.count ∙ ap (λ b. 2 ^ b) m.bits_are ∙ counts

    moment : a.frame.latest ≡ a.frame.made
    moment = m.new.moment ∙ ap (λ (c : Common S Weight). c.settings.made) common

    placed : (key : List ℕ) → a.frame.part_of key < part_count config
    placed key = subst (λ n. hash f.common.hasher key / 2 ^ (64 - f.bits) < n) (ap (λ b. 2 ^ b) m.bits_are ∙ counts) (below f.bits (hash f.common.hasher key) (let e = m.bits_are in omega (arith, e, few)) (words f.common.hasher key))

    each : (place : ℕ) (s : Part S) → slice_get f.parts place ≡ Some s → IsNew None (part_settings config since) hasher config.weight s
    each place s there = subst (λ (c : Common S Weight). IsNew None c.settings c.hasher c.rules s) common (m.new.parts place s there)

-- A call tells each note of another value, so by as many fewer values are held.

abbrev candidate_key : Candidate → List ℕ
candidate_key c = c.value.key

abbrev held_key : HeldValue → List ℕ
held_key h = h.value.key

abbrev itself : List ℕ → List ℕ
itself k = k

-- ---- what is left is a matter of keys

without-map : {A : Type 0} (key_of : A → List ℕ) (key : List ℕ) (xs : List A) → map key_of (without_key key_of key xs) ≡ without_key itself key (map key_of xs)
without-map key_of key [] = refl
without-map key_of key (x ∷ xs) = grind (arith, itself, without-map key_of key xs)

untold-map : {A : Type 0} (key_of : A → List ℕ) (notes : List Note) (xs : List A) → map key_of (untold key_of notes xs) ≡ untold itself notes (map key_of xs)
untold-map key_of [] xs = refl
untold-map key_of (n ∷ notes) xs = untold-map key_of notes (without_key key_of n.key xs) ∙ ap (λ ks. untold itself notes ks) (without-map key_of n.key xs)

untold-length : {A : Type 0} (key_of : A → List ℕ) (notes : List Note) (xs : List A) → length (untold key_of notes xs) ≡ length (untold itself notes (map key_of xs))
untold-length key_of notes xs = sym (length-map (untold key_of notes xs) key_of) ∙ ap length (untold-map key_of notes xs)

keys-same : (config : Config) (now : ℕ) (o : Option Value) (held : List HeldValue)
    → map candidate_key (map (candidate_at config now) held ++ option_to_list (option_map (newcomer config) o)) ≡ map held_key (held ++ option_to_list (option_map newly_held o))
keys-same config now None [] = refl
keys-same config now (Some v) [] = refl
keys-same config now o (h ∷ held) = ap (λ ks. h.value.key ∷ ks) (keys-same config now o held)

news-same : (config : Config) (o : Option Value) → length (option_to_list (option_map (newcomer config) o)) ≡ length (option_to_list (option_map newly_held o))
news-same config None = refl
news-same config (Some v) = refl

-- ---- each note tells another candidate

shorter : (key : List ℕ) (cs : List Candidate) (c : Candidate) → first_with_key key cs ≡ Some c → suc (length (without_key candidate_key key cs)) ≡ length cs
shorter key [] c found = absurd (none-some c found)
shorter key (x ∷ cs) c found = grind (arith, candidate_key, shorter key cs c)

told-exact : (config : Config) (held : List Candidate) (deed : Deed) (cs : List Candidate) (notes : List Note) → are_true_notes config held deed cs notes ≡ true → length (untold candidate_key notes cs) + length notes ≡ length cs
told-exact config held deed cs [] h = omega arith
told-exact config held deed cs (note ∷ notes) h = go (first_with_key note.key cs) refl (and_parts _ _ h).0 (told-exact config held deed (without_key candidate_key note.key cs) notes (and_parts _ _ h).1)
  where
    go : (o : Option Candidate) → first_with_key note.key cs ≡ o → is_true_note config held deed note o ≡ true
        → length (untold candidate_key notes (without_key candidate_key note.key cs)) + length notes ≡ length (without_key candidate_key note.key cs)
        → length (untold candidate_key notes (without_key candidate_key note.key cs)) + suc (length notes) ≡ length cs
    go None found is later = absurd (true≢false (sym is))
    go (Some c) found is later = let e = shorter note.key cs c found in omega (arith, e, later)

held-exact : (config : Config) (now : ℕ) (held : List HeldValue) (deed : Deed) (told : List Note) → are_true_notes config (map (candidate_at config now) held) deed (candidates_of config (map (candidate_at config now) held) deed) told ≡ true
    → length (all_held_after config now held deed told) + length told ≡ length held + length (option_to_list (option_map newly_held deed.value))
held-exact config now held deed told right = grind (arith, length-map, untold-length, held_key, itself, keys-same, candidate_key, told-exact, length-append, news-same)

-- what was told stands behind what waited
handed : (covers : Covering) (old new told : List Note) → covers ≡ Nothing → HandsBy covers old new told → length new ≡ length old + length told
handed Nothing old new told is h = ap length h.added ∙ length-append old told
handed Everything old new told is h = let no : ⊥ = cc in absurd no
handed (Prefixed prefix) old new told is h = let no : ⊥ = cc in absurd no

-- A CALL THAT COVERS NOTHING TELLS EACH NOTE OF ANOTHER VALUE: that many fewer values are held, not counting the one that it accepts
pub counted : {S : Type 0} → (a b : StoreOfParts S) (now : ℕ) (deed : Deed) → IsWhole a → deed.covers ≡ Nothing → Does now deed (view a) (view b)
    → length (items_of 0 b.parts) + length b.queue ≡ length (items_of 0 a.parts) + length a.queue + length (option_to_list (option_map newly_held deed.value))
counted {S} a b now deed w nothing does =
    let done = does.done (some_held a w) (some_stand a w) in
    let e = held-exact a.frame.config now (some_held a w) deed done.told done.right in
    let n = done.left.same.number in
    let m = length-map (items_of 0 a.parts) (λ (h : HeldValue). record h { evictable = true }) in
    let h = handed deed.covers a.queue b.queue done.told nothing done.handed in
    omega (arith, e, n, m, h)

-- What the calls of a front come to in the store over it.

module _ {S : Type 0} (hash : S → List ℕ → ℕ) where
  -- the store when what a call told was taken
  abbrev pub then_by : FrontData S → Stream → Lent S → StoreOfParts S
  then_by d stream g = over_drained hash d.config d.made d.dropped d.queue stream g

  -- what a call comes to once its notices are taken: the store shows this of it, is whole, and holds so many values with those told
  pub record Comes (d : FrontData S) (g : Lent S) (number : ℕ) (Shows : StoreOfParts S → Type 0) : Type 0 where
    pub shows : Shows (then_by d d.stream g)
    pub whole : IsWhole (then_by d d.stream g)
    pub number_is : length (items_of 0 (then_by d d.stream g).parts) + length (waiting g.parts) ≡ number

  -- a call left these parts
  left-is : (d : FrontData S) (g : Lent S) (now next : ℕ) (parts : List (Part S)) → g ≡ passed now next (record d.front { parts = parts }) → then_by d d.stream g ≡ after_telling now next parts (parted_by hash d)
  left-is d g now next parts is = ap (λ (x : Lent S). then_by d d.stream x) is

  -- a call came to one part
  changed-is : (d : FrontData S) (g : Lent S) (h now next : ℕ) (Rel : Part S → Part S → Type 0) (w : IsWhole (parted_by hash d)) (call : CallsPart h now next Rel d.front g)
      → then_by d d.stream g ≡ changed (parted_by hash d) w now next (part_of d.front.bits h) call.call.after
  changed-is d g h now next Rel w call =
      let a = parted_by hash d in
      left-is d g now next call.parts call.changed ∙ ap (λ ps. after_telling now next ps a) call.call.changed ∙ after_telling-is a w now next (part_of d.front.bits h) call.call.before call.call.after call.call.there

  -- what a call comes to that left the store so
  comes-to : (d : FrontData S) (g : Lent S) (count room number now : ℕ) (deed : Deed) (Shows : StoreOfParts S → Type 0) (b : StoreOfParts S) → IsFitStore (parted_by hash d) count room → deed.covers ≡ Nothing
      → number ≡ count + length (option_to_list (option_map newly_held deed.value)) → then_by d d.stream g ≡ b → Does now deed (view (parted_by hash d)) (view b) → Shows b → IsWhole b → Comes d g number Shows
  comes-to d g count room number now deed Shows b f none number_is is does shows whole =
      let c = counted (parted_by hash d) (then_by d d.stream g) now deed f.whole none (subst (λ x. Does now deed (view (parted_by hash d)) (view x)) (sym is) does) in
      let l = length-append d.queue (waiting g.parts) in
      let e = f.counted in
      record { shows = subst Shows (sym is) shows; whole = subst (λ x. IsWhole x) (sym is) whole; number_is = omega (arith, c, l, e, number_is) }

  -- the data then
  abbrev pub with_front : FrontData S → List Note → Lent S → FrontData S
  with_front d queue front = record d { queue = queue; front = front }

  -- and this is all that was told, with the parts without it
  pub record Tells (d : FrontData S) (g : Lent S) (told : List Note) (left : List (Part S)) (number : ℕ) (Shows : StoreOfParts S → Type 0) : Type 0 where
    pub comes : Comes d g number Shows
    pub told_is : told ≡ waiting g.parts
    pub left_is : left ≡ all_drained g.parts

  module _ (d : FrontData S) (g : Lent S) (told : List Note) (left : List (Part S)) (number : ℕ) (Shows : StoreOfParts S → Type 0) (t : Tells d g told left number Shows) where
    -- no more were told than were held
    pub few_told : length told ≤ number
    few_told = let e = t.comes.number_is in let n = ap length t.told_is in omega (arith, e, n)

    -- they were taken so
    module _ (h : Lent S) (queue : List Note) (drained : h ≡ record g { parts = left }) (queued : queue ≡ d.queue ++ told) where
      then_is : parted_by hash (with_front d queue h) ≡ then_by d d.stream g
      then_is = grind arith

      pub shown : Shows (parted_by hash (with_front d queue h))
      shown = subst Shows (sym then_is) t.comes.shows

      pub fits : (count room : ℕ) → count + length told ≡ number → length d.queue + number ≤ room → IsFitStore (parted_by hash (with_front d queue h)) count room
      fits count room counts has_room = subst (λ (x : StoreOfParts S). IsFitStore x count room) (sym then_is) (record {
        whole = t.comes.whole;
        counted = (let e = t.comes.number_is in let n = ap length t.told_is in omega (arith, e, n, counts));
        room = (let e = length-append d.queue (waiting g.parts) in let n = ap length t.told_is in omega (arith, e, n, counts, has_room));
      })

  -- a call came to one part: what waits there is all that waits
  told_there : (d : FrontData S) (g : Lent S) (h now step place number : ℕ) (Rel : Part S → Part S → Type 0) (Shows : StoreOfParts S → Type 0) → IsWhole (parted_by hash d) → CallsPart h now step Rel d.front g → place ≡ part_of d.front.bits h
      → Comes d g number Shows → Tells d g (waiting_at place g.parts) (drained_at place g.parts) number Shows
  told_there d g h now step place number Rel Shows w call is comes =
      let t = one_told place d.front.parts call.call.after (λ k s there. (w.kept.each k s there).taken) in
      let parts_are : g.parts ≡ slice_set d.front.parts place call.call.after =
      ap (λ (x : Lent S). x.parts) call.changed ∙ call.call.changed ∙ ap (λ n. slice_set d.front.parts n call.call.after) (sym is)
      in
      record { comes = comes; told_is = subst (λ ps. waiting_at place ps ≡ waiting ps) (sym parts_are) t.0; left_is = subst (λ ps. drained_at place ps ≡ all_drained ps) (sym parts_are) t.1 }

  -- the room that is kept for it
  pub room_for : (d : FrontData S) (count room : ℕ) → IsFitStore (parted_by hash d) count room → length d.queue + count ≤ room
  room_for d count room f = let r = f.room in omega (arith, r)

  -- ---- calls that tell

  still : (d : FrontData S) (now : ℕ) → IsMoment (view (parted_by hash d)) now → ComesTo (parted_by hash d) now d.front.step
  still d now moment = record { moment = moment; rises = omega arith; one = omega arith }

  pub look_up : (d : FrontData S) (g : Lent S) (place count room now : ℕ) (key : List ℕ) → IsFitStore (parted_by hash d) count room → IsMoment (view (parted_by hash d)) now
      → CallsPart (hash d.front.common.hasher key) now d.front.step (NotesLookUp service_answers same key (hash d.front.common.hasher key) now false) d.front g → place ≡ part_of d.front.bits (hash d.front.common.hasher key)
      → Tells d g (waiting_at place g.parts) (drained_at place g.parts) count (λ b. Does now (using key) (view (parted_by hash d)) (view b))
  look_up d g place count room now key f moment call is =
      let a = parted_by hash d in
      let h = hash d.front.common.hasher key in
      let both = one_look_up a f.whole now d.front.step h key call.call.before call.call.after (still d now moment) call.call.there call.call.does in
      told_there d g h now d.front.step place count _ _ f.whole call is
      (comes-to d g count room count now (using key) (λ b. Does now (using key) (view a) (view b)) (changed a f.whole now d.front.step (part_of d.front.bits h) call.call.after) f refl (omega arith)
      (changed-is d g h now d.front.step _ f.whole call) both.0 both.0 both.1)

  pub accept : (d : FrontData S) (g : Lent S) (place count room now : ℕ) (key bytes : List ℕ) (milliseconds : Option ℕ) (looked_up : Bool) → IsFitStore (parted_by hash d) count room → IsMoment (view (parted_by hash d)) now
      → IsAcceptable d.config bytes milliseconds → count < 2 ^ 50 → InsertsBy hash key (kept_value bytes milliseconds) now d.front g → place ≡ part_of d.front.bits (hash d.front.common.hasher key)
      → Tells d g (waiting_at place g.parts) (drained_at place g.parts) (suc count) (λ b. AcceptsValue now key bytes milliseconds looked_up (part_of d.front.bits (hash d.front.common.hasher key)) (view (parted_by hash d)) (view b))
  accept d g place count room now key bytes milliseconds looked_up f moment acceptable few call is =
      let a = parted_by hash d in
      let h = hash d.front.common.hasher key in
      let both = one_accept a f.whole now d.front.step h key bytes milliseconds looked_up call.call.before call.call.after (still d now moment) acceptable (subst (λ n. n < 2 ^ 50) f.counted few) call.call.there call.call.does in
      told_there d g h now d.front.step place (suc count) _ _ f.whole call is
      (comes-to d g count room (suc count) now _ (λ b. AcceptsValue now key bytes milliseconds looked_up (part_of d.front.bits h) (view a) (view b)) (changed a f.whole now d.front.step (part_of d.front.bits h) call.call.after) f refl (omega arith)
      (changed-is d g h now d.front.step _ f.whole call) both.0 (refl, both.0) both.1)

  pub remove : (d : FrontData S) (g : Lent S) (place count room now : ℕ) (key : List ℕ) → IsFitStore (parted_by hash d) count room → IsMoment (view (parted_by hash d)) now → TakesOutBy hash key now d.front g
      → place ≡ part_of d.front.bits (hash d.front.common.hasher key) → Tells d g (waiting_at place g.parts) (drained_at place g.parts) count (λ b. Does now (deleting key) (view (parted_by hash d)) (view b))
  remove d g place count room now key f moment call is =
      let a = parted_by hash d in
      let h = hash d.front.common.hasher key in
      let both = one_remove a f.whole now d.front.step key call.call.before call.call.after (still d now moment) call.call.there call.call.does in
      told_there d g h now d.front.step place count _ _ f.whole call is
      (comes-to d g count room count now (deleting key) (λ b. Does now (deleting key) (view a) (view b)) (changed a f.whole now d.front.step (part_of d.front.bits h) call.call.after) f refl (omega arith)
      (changed-is d g h now d.front.step _ f.whole call) both.0 both.0 both.1)

  pub run_all : (d : FrontData S) (g : Lent S) (count room now : ℕ) → IsFitStore (parted_by hash d) count room → IsMoment (view (parted_by hash d)) now → CallsAll now d.front.step (RunsPart service_answers now) d.front g
      → Tells d g (waiting g.parts) (all_drained g.parts) count (λ b. Does now syncing (view (parted_by hash d)) (view b) × IsSettled (view b) (number_in_all g.parts) (weight_in_all g.parts))
  run_all d g count room now f moment call =
      let a = parted_by hash d in
      let b = after_telling now d.front.step call.parts a in
      let t = run_parts a now d.front.step call.parts f.whole (still d now moment) call.each in
      record {
        comes =
            comes-to d g count room count now syncing (λ x. Does now syncing (view a) (view x) × IsSettled (view x) (number_in_all g.parts) (weight_in_all g.parts)) b f refl (omega arith) (left-is d g now d.front.step call.parts call.changed) t.0
            (t.0, subst (λ (ps : List (Part S)). IsSettled (view b) (number_in_all ps) (weight_in_all ps)) (sym (ap (λ (x : Lent S). x.parts) call.changed)) t.2) t.1;
        told_is = refl;
        left_is = refl;
      }

  -- ---- calls that cover

  left-covered : (config : Config) (now : ℕ) (held : List HeldValue) (which : Covering) (told : List Note) → told ≡ [] → length (all_held_after config now held (covering which) told) ≡ length held
  left-covered config now held which told none = grind (arith, length-map, length-append)

  covered-count : (a b : StoreOfParts S) (now : ℕ) (which : Covering) (w : IsWhole a) (does : Does now (covering which) (view a) (view b)) → (does.done (some_held a w) (some_stand a w)).told ≡ [] → length (items_of 0 b.parts) ≡ length (items_of 0 a.parts)
  covered-count a b now which w does none =
      let done = does.done (some_held a w) (some_stand a w) in
      let n = done.left.same.number in
      let l = left-covered a.frame.config now (some_held a w) which done.told none in
      let m = length-map (items_of 0 a.parts) (λ (h : HeldValue). record h { evictable = true }) in
      omega (arith, n, l, m)

  still_fits : (d e : FrontData S) (count room : ℕ) → IsFitStore (parted_by hash d) count room → IsWhole (parted_by hash e) → length (items_of 0 e.front.parts) ≡ length (items_of 0 d.front.parts) → e.queue ≡ d.queue → IsFitStore (parted_by hash e) count room
  still_fits d e count room f w same_number same_queue = record { whole = w; counted = f.counted ∙ sym same_number; room = (let r = f.room in let q = ap length same_queue in omega (arith, r, q)) }

  next : (d : FrontData S) (now : ℕ) → IsMoment (view (parted_by hash d)) now → ComesTo (parted_by hash d) now (suc d.front.step)
  next d now moment = record { moment = moment; rises = omega arith; one = omega arith }

  pub clear : (d : FrontData S) (g : Lent S) (count room now : ℕ) → IsFitStore (parted_by hash d) count room → IsMoment (view (parted_by hash d)) now
      → CallsAll now (suc d.front.step) (λ s t. t ≡ cleared_by (suc d.front.step) s) d.front g
      → Does now (covering Everything) (view (parted_by hash d)) (view (parted_by hash (record d { front = g }))) × IsFitStore (parted_by hash (record d { front = g })) count room
  clear d g count room now f moment call =
      let a = parted_by hash d in
      let t = subst (λ (x : Lent S). Does now (covering Everything) (view a) (view (parted_by hash (record d { front = x }))) × IsWhole (parted_by hash (record d { front = x }))) (sym call.changed)
      (clear_parts a now (suc d.front.step) call.parts f.whole (next d now moment) (omega arith) call.each) in
      let none = (t.0.done (some_held (parted_by hash d) f.whole) (some_stand (parted_by hash d) f.whole)).handed.none in
      (t.0, still_fits d (record d { front = g }) count room f t.1 (covered-count (parted_by hash d) (parted_by hash (record d { front = g })) now Everything f.whole t.0 none) refl)

  pub drop : (d : FrontData S) (g : Lent S) (left : Stream) (id count room now : ℕ) (prefix : List ℕ) → IsFitStore (parted_by hash d) count room → IsMoment (view (parted_by hash d)) now
      → CoversAll prefix (record { now = now; step = suc d.front.step }) d.stream left id d.front g
      → let e = record d { dropped = true; stream = left; front = g } in
      Does now (covering (Prefixed prefix)) (view (parted_by hash d)) (view (parted_by hash e)) × IsFitStore (parted_by hash e) count room
  drop d g left id count room now prefix f moment call =
      let e = record d { dropped = true; stream = left; front = g } in
      let is = call.changed ∙ ap (λ (ps : List (Part S)). record d.front { parts = ps; moment = now; step = suc d.front.step }) call.covers.registers in
      let a = parted_by hash d in
      let t = subst (λ (x : Lent S). Does now (covering (Prefixed prefix)) (view a) (view (parted_by hash (record e { front = x }))) × IsWhole (parted_by hash (record e { front = x }))) (sym is)
      (drop_parts a now (suc d.front.step) prefix left call.covers.ids f.whole (next d now moment) (omega arith) call.covers.draws) in
      let none = (t.0.done (some_held (parted_by hash d) f.whole) (some_stand (parted_by hash d) f.whole)).handed.none in
      (t.0, still_fits d e count room f t.1 (covered-count (parted_by hash d) (parted_by hash e) now (Prefixed prefix) f.whole t.0 none) refl)

  pub lack : (d : FrontData S) (left : Stream) (count room : ℕ) → IsFitStore (parted_by hash d) count room → DrawsInVain d.front.parts d.stream left
      → LacksIdentifiers (view (parted_by hash d)) (view (parted_by hash (record d { stream = left }))) × IsFitStore (parted_by hash (record d { stream = left })) count room
  lack d left count room f vain =
      let t = lacks (parted_by hash d) left f.whole vain in
      (t.0, still_fits d (record d { stream = left }) count room f t.1 refl refl)

  -- ---- what it answers, and what is true of it

  pub peek : (d : FrontData S) (now : ℕ) (key : List ℕ) (value : Option Stored) (bytes : Option (List ℕ)) → IsWhole (parted_by hash d)
      → value ≡ visible_of (record { answers = service_answers; eq = same; hash = hash }) (part_by_hash d.front (hash d.front.common.hasher key)) now key
      → bytes ≡ option_map (λ (v : Stored). v.bytes) value → IsLive (view (parted_by hash d)) now key bytes
  peek d now key value bytes w is shows = λ held stands.
      let x = parts_are (parted_by hash d) w key in
      shows ∙ ap (λ (o : Option Stored). option_map (λ (v : Stored). v.bytes) o) (is ∙ ap (λ o. visible_of (record { answers = service_answers; eq = same; hash = hash }) o now key) x.1)
      ∙ one_peek (parted_by hash d) now key x.0 w x.1 held stands

  -- a look-up reads the live value
  pub reads_live : {F O R : Type 0} (read : Once F (Option (Bor (List ℕ)) × (MutBor O × Unit {0})) (R × (MutBor O × Unit {0}))) (f : F) (d : FrontData S) (now : ℕ) (key : List ℕ) (value : Option Stored) (old shown left new : O) (answer : R) → IsWhole (parted_by hash d)
      → value ≡ visible_of (record { answers = service_answers; eq = same; hash = hash }) (part_by_hash d.front (hash d.front.common.hasher key)) now key
      → shown ≡ old → left ≡ new → IsShown read f (option_map (λ (v : Stored). v.bytes) value) shown answer left → ReadsLive read f (view (parted_by hash d)) now key old answer new
  reads_live read f d now key value old shown left new answer w is shows leaves r = record {
    found = r.found;
    live = peek d now key value (option_map (λ (b : Bor (List ℕ)). b.now) r.found) w is r.is;
    shown = r.shown;
    shows = r.shows ∙ shows;
    left = r.left;
    met = r.met;
    leaves = r.leaves ∙ leaves;
  }

  pub sound_is : (d : FrontData S) → IsWhole (parted_by hash d) → IsSoundStore (view (parted_by hash d))
  sound_is d w = sound (parted_by hash d) w

  -- the numbers are used up
  pub lacks_tickets : (d : FrontData S) → IsWhole (parted_by hash d) → LackTickets d.front.parts → IsSpent (view (parted_by hash d))
  lacks_tickets d w l = no_tickets (parted_by hash d) l.0 2 l.1 w l.2 (omega arith) l.3

  pub lacks_steps : (d : FrontData S) → 2 ^ 64 ≤ suc d.front.step → IsSpent (view (parted_by hash d))
  lacks_steps d l = no_steps (parted_by hash d) l

-- ---- why a call of a front is refused

-- the tickets of one part do not suffice
pub tickets_from : {S : Type 0} (ways : Ways (List ℕ) Stored (List ℕ) S Weight) (rooms : Settings → ℕ) → ((s : Settings) → rooms s ≤ 2) → (parts : List (Part S)) (place : ℕ) (e : CacheError)
    → IsCauseOf ways rooms (slice_get parts place) e → e ≡ errors.UsedUp → LackTickets parts
tickets_from {S} ways rooms few parts place e cause is = go (slice_get parts place) refl (subst (λ x. IsCauseOf ways rooms (slice_get parts place) x) is cause)
  where
    go : (o : Option (Part S)) → slice_get parts place ≡ o → IsCauseOf ways rooms o errors.UsedUp → LackTickets parts
    go None there lacks = absurd lacks
    go (Some s) there lacks = (place, s, there, let f = few s.settings in omega (arith, f, lacks))

pub two_rooms : (s : Settings) → removal_rooms s ≤ 2
two_rooms s = grind arith

module _ {S : Type 0} (f : Lent S) (drawn left : Stream) where
  -- nothing is drawn where a predicate is refused but for identifiers
  pub tickets_for_all : (e : CacheError) → IsCauseToCover f drawn left e → e ≡ errors.UsedUp → LackTickets f.parts
  tickets_for_all e cause is =
      let c = subst (λ x. IsCauseToCover f drawn left x) is cause in
      let lacks = c.1 in
      (lacks.0, lacks.1, lacks.2, let n = lacks.3 in omega (arith, n))

  -- an identifier is lacking where that is why
  pub draws_in_vain : (e : CacheError) → IsCauseToCover f drawn left e → e ≡ errors.IdsInUse → DrawsInVain f.parts drawn left
  draws_in_vain e cause is = subst (λ x. IsCauseToCover f drawn left x) is cause
