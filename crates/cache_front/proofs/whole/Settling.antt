-- A clear of all parts, a predicate in all, and identifiers drawn in vain.
use Rattle.std.proofs.Common.{◌≡◌, refl, ap, ◌∙◌, sym, subst, ℕ, zero, suc, ◌≤◌, ◌<◌, max, arith, true, nat_eq, nat_lt, List, [], ◌∷◌, length, Some, slice_get, ◌+◌, ◌^◌, ◌++◌, Option}
use Rattle.std.proofs.Math.Bool.{or-false, or-true, or_assoc}
use Rattle.std.proofs.lemmas.Bool.{lt-ltb, true_from_ne_false}
use Rattle.std.proofs.lemmas.List.Folds.{list_any-append}
use Rattle.std.proofs.lemmas.Option.{none-some}
use Rattle.std.specs.List.{sum_by}
use Rattle.rand_core.specs.Stream.{Stream}
use Rattle.engine_reference.specs.Calls.{cleared_by, with_predicate, IsNew}
use Rattle.engine_reference.specs.Identifiers.Drawing.{is_registered}
use Rattle.engine_reference.specs.Records.{held_entries}
use Rattle.engine_reference.specs.Telling.{entry_of}
use Rattle.engine_reference.specs.declared.data.Registered.{Registered}
use Rattle.front_reference.specs.Fronts.{CallsEach}
use Rattle.front_reference.specs.Wholes.{DrawAll, DrawsInVain, registered_in, RunsPart}
use Rattle.audit_model.specs.Bytewise.{same}
use Rattle.audit_model.specs.Commands.{Covering, Everything, Prefixed}
use Rattle.audit_model.specs.History.{part_count}
use Rattle.audit_model.specs.Situation.{HeldValue}
use Rattle.audit_model.specs.declared.config.Weight.{Weight}
use Rattle.cache_commands.specs.Handing.{AppendsNotes}
use Rattle.cache_commands.specs.Identifiers.{AreUsedUp, KeepsIdentifiers}
use Rattle.cache_commands.specs.Promises.{covering, Done, syncing}
use Rattle.cache_commands.specs.Values.{Does, LacksIdentifiers, IsSettled, IsSoundStore, IsSpent}
use Rattle.cache_front.proofs.kept.Identifying.{keeps_identifiers, never_in_vain, registers_all, used_up, released, run_no_more}
use Rattle.cache_front.proofs.kept.Storing.{covers-all, held-each, keeps-clear, keeps-cover, there-too, Comes, RunsDrained, all-ready, enough-knows, fits-part, keeps-run_all, lean, left-by, news-kept, rested-part, weighs as weighs_little}
use Rattle.cache_front.proofs.parts.Looking.{AllCover, CoversToo, cover_does, none, next}
use Rattle.cache_front.proofs.parts.Syncing.{CountsAreTold, counts_are_told, idle_does, AllRan, run_all_does, bounded_all, timely_all, within_all}
use Rattle.cache_front.proofs.parts.Writing.{Kept}
use Rattle.cache_front.proofs.whole.Calling.{comes, no_more-after, parted, parts_are, handed, some_held, some_stand}
use Rattle.cache_front.proofs.whole.Changing.{greatest-same, all-ran, drained-at, drained-length, drained-sum, ran-room, ran-ticket, ticket_within}
use Rattle.cache_front.proofs.whole.Ordered.{keys_held, made as made_recent, none-yet, runs_all}
use Rattle.cache_front.specs.Keeping.{AreKeptParts, at_moment}
use Rattle.cache_front.specs.Parts.{IsProper, Part, Stored, drained, IsBrief, Stands, service_answers, part_settings}
use Rattle.cache_front.specs.Recent.{IsRecentOver}
use Rattle.cache_front.specs.Registering.{HasNoMore, register_of}
use Rattle.cache_front.specs.View.{AreUnreserved, ComesTo, IsWhole, StoreOfParts, greatest_ticket, after_silently, view, after_telling, all_drained, number_in_all, weight_in_all, waiting}

less-later : (a b c n : ℕ) → a ≤ b → b < n → nat_lt a (max c n) ≡ true
less-later a b c n le lt = lt-ltb a (max c n) (omega (arith, le, lt))

-- all are covered where each is
all-cover : {S : Type 0} (which : Covering) (olds news : List (Part S)) → length news ≡ length olds
    → ((k : ℕ) (s : Part S) → slice_get olds k ≡ Some s → (t : Part S) × (slice_get news k ≡ Some t) × CoversToo which s t) → AllCover which olds news
all-cover which [] [] count each = none
all-cover which [] (t ∷ news) count each = absurd (omega (arith, count))
all-cover which (s ∷ olds) [] count each = absurd (omega (arith, count))
all-cover {S} which (s ∷ olds) (t ∷ news) count each =
    let x = each 0 s refl in
    let is : x.0 ≡ t = cc in
    next s t (subst (λ (y : Part S). CoversToo which s y) is x.2) (all-cover which olds news (let same_rest : suc (length news) ≡ suc (length olds) = count in omega (arith, same_rest)) (λ k y there. each (suc k) y there))

-- each entry was written at no later step
steps-are : {S : Type 0} (a : StoreOfParts S) → IsWhole a → (k : ℕ) (s : Part S) → slice_get a.parts k ≡ Some s → (q : List ℕ) (e : Kept) → entry_of same (held_entries s.records) q ≡ Some e → e.step ≤ a.step
steps-are a w k s there q e found = (held-each (IsProper a.frame k a.step) s.records q e (w.kept.each k s there).own.proper found).earlier

-- no part registers another identifier
pub keeps-each : {S : Type 0} (a : StoreOfParts S) (Rel : Part S → Part S → Type 0) (news : List (Part S)) → CallsEach Rel a.parts news → ((s t : Part S) → Rel s t → HasNoMore S s t) → KeepsIdentifiers a.stream a.stream (register_of a.parts) (register_of news)
keeps-each {S} a Rel news calls more = grind (arith, keeps_identifiers a.stream a.parts news, there-too news a.parts calls.count)

-- ---- `clear`

clear-covers : {S : Type 0} (step n : ℕ) (s : Part S) → step < n → ((q : List ℕ) (e : Kept) → entry_of same (held_entries s.records) q ≡ Some e → e.step ≤ step) → CoversToo Everything s (cleared_by n s)
clear-covers step n s lt early = grind (arith, less-later, or-true, Kept)

pub clear : {S : Type 0} → (a : StoreOfParts S) (now next : ℕ) (parts : List (Part S)) → IsWhole a → ComesTo a now next → a.step < next → CallsEach (λ s t. t ≡ cleared_by next s) a.parts parts
    → Does now (covering Everything) (view a) (view (after_silently now next parts a)) × IsWhole (after_silently now next parts a)
clear {S} a now n parts w at lt calls = (
  does,
  record {
    kept = keeps-clear a.frame a.step now n a.parts parts (comes a w now n at) w.kept calls;
    small = (let l = no_more-after a w now (covering Everything) (after_silently now n parts a) refl does in let small = w.small in omega (arith, l, small));
    unreserved = free;
  },
)
  where
    cover : AllCover Everything a.parts parts
    cover = all-cover Everything a.parts parts calls.count (λ k s there.
        let x = calls.each k s there in
        (x.0, x.1, subst (λ (y : Part S). CoversToo Everything s y) (sym x.2) (clear-covers a.step n s lt (steps-are a w k s there))))

    free : AreUnreserved parts
    free k t found =
        let old = there-too parts a.parts calls.count k t found in
        let x = calls.each k old.0 old.1 in
        let both : Some x.0 ≡ Some t = sym x.1 ∙ found in
        let one : x.0 ≡ t = cc in
        sym (ap (λ (y : Part S). y.reserved) one) ∙ ap (λ (y : Part S). y.reserved) x.2 ∙ w.unreserved k old.0 old.1

    tickets : greatest_ticket parts ≡ greatest_ticket a.parts
    tickets = greatest-same a.parts parts calls.count (λ k s t there found.
        let x = calls.each k s there in
        let both : Some x.0 ≡ Some t = sym x.1 ∙ found in
        let one : x.0 ≡ t = cc in
        sym (ap (λ (y : Part S). y.next_ticket) one) ∙ ap (λ (y : Part S). y.next_ticket) x.2)

    does : Does now (covering Everything) (view a) (view (after_silently now n parts a))
    does = record {
      done = λ held stands. cover_does Everything a.frame.config a.frame.part_of now a.parts parts held a.queue a.queue cover (parted a w) stands (parts_are a w) refl;
      frame = ap (λ b. record a.frame { dropped = b; latest = now }) (sym (or-false a.frame.dropped));
      used = tt;
      drawn = keeps-each a (λ s t. t ≡ cleared_by n s) parts calls (λ s t is k e. ap (λ (y : Part S). is_registered y.predicates k) (sym is) ∙ e);
      spent = let e = tickets in let one = at.one in omega (arith, e, one);
    }

-- ---- `drop_prefix`

abbrev added : (prefix : List ℕ) (n id : ℕ) → Registered (List ℕ)
added prefix n id = record { id = id; predicate = prefix; step = n }

module _ {S : Type 0} (prefix : List ℕ) (step n : ℕ) where
  drop-covers : (s : Part S) (id : ℕ) → step < n → ((q : List ℕ) (e : Kept) → entry_of same (held_entries s.records) q ≡ Some e → e.step ≤ step) → CoversToo (Prefixed prefix) s (with_predicate (added prefix n id) s)
  drop-covers s id lt early = grind (arith, Kept, nat_eq, lt-ltb, list_any-append, or-false, or_assoc)

  -- each part has its predicate
  pub record EachRegistered (parts news : List (Part S)) : Type 0 where
    pub count : length news ≡ length parts
    pub each : (k : ℕ) (s : Part S) → slice_get parts k ≡ Some s → (id : ℕ) × (slice_get news k ≡ Some (with_predicate (added prefix n id) s))

  registered-each : (parts : List (Part S)) (old new : Stream) (ids : List ℕ) → DrawAll parts old new ids → EachRegistered parts (registered_in prefix n ids parts)
  registered-each [] old new ids d = record { count = ap (λ xs. length (registered_in {K = List ℕ} {V = Stored} {S = S} {R = Weight} prefix n xs [])) d.0; each = λ k s there. absurd (none-some s there) }
  registered-each (s ∷ parts) old new ids (id, rest, mid, is, draws, others) = grind (arith, registered-each parts mid new rest others, zero)

first-of : {S : Type 0} (parts : List (Part S)) → 0 < length parts → (x : Part S) × (slice_get parts 0 ≡ Some x)
first-of [] lt = absurd (omega (arith, lt))
first-of (x ∷ parts) lt = (x, refl)

pub drop : {S : Type 0} → (a : StoreOfParts S) (now next : ℕ) (prefix : List ℕ) (stream : Stream) (ids : List ℕ) → IsWhole a → ComesTo a now next → a.step < next → DrawAll a.parts a.stream stream ids
    → let b = record a { frame = record a.frame { dropped = true; latest = now }; parts = registered_in prefix next ids a.parts; stream = stream; step = next } in Does now (covering (Prefixed prefix)) (view a) (view b) × IsWhole b
drop {S} a now n prefix stream ids w at lt drawn = (
  does,
  record {
    kept = keeps-cover a.frame a.step now n a.parts news (comes a w now n at) w.kept (covers-all n prefix a.parts a.stream stream ids drawn);
    small = (let l = no_more-after a w now (covering (Prefixed prefix)) b refl does in let small = w.small in omega (arith, l, small));
    unreserved = free;
  },
)
  where
    news : List (Part S)
    news = registered_in prefix n ids a.parts

    b : StoreOfParts S
    b = record a { frame = record a.frame { dropped = true; latest = now }; parts = news; stream = stream; step = n }

    stand : EachRegistered prefix a.step n a.parts news
    stand = registered-each prefix a.step n a.parts a.stream stream ids drawn

    cover : AllCover (Prefixed prefix) a.parts news
    cover = all-cover (Prefixed prefix) a.parts news stand.count (λ k s there. let x = stand.each k s there in (with_predicate (added prefix n x.0) s, x.1, drop-covers prefix a.step n s x.0 lt (steps-are a w k s there)))

    free : AreUnreserved news
    free k t found =
        let old = there-too news a.parts stand.count k t found in
        let x = stand.each k old.0 old.1 in
        let both : Some (with_predicate (added prefix n x.0) old.0) ≡ Some t = sym x.1 ∙ found in
        let one : with_predicate (added prefix n x.0) old.0 ≡ t = cc in
        sym (ap (λ (y : Part S). y.reserved) one) ∙ w.unreserved k old.0 old.1

    tickets : greatest_ticket news ≡ greatest_ticket a.parts
    tickets = greatest-same a.parts news stand.count (λ k s t there found.
        let x = stand.each k s there in
        let both : Some (with_predicate (added prefix n x.0) s) ≡ Some t = sym x.1 ∙ found in
        let one : with_predicate (added prefix n x.0) s ≡ t = cc in
        sym (ap (λ (y : Part S). y.next_ticket) one))

    some : 0 < length a.parts
    some = let p = w.kept.placed [] in let m = w.kept.number in omega (arith, p, m)

    does : Does now (covering (Prefixed prefix)) (view a) (view b)
    does = record {
      done = λ held stands. cover_does (Prefixed prefix) a.frame.config a.frame.part_of now a.parts news held a.queue a.queue cover (parted a w) stands (parts_are a w) refl;
      frame = ap (λ c. record a.frame { dropped = c; latest = now }) (sym (or-true a.frame.dropped));
      used = tt;
      drawn = let one = first-of a.parts some in registers_all prefix n a.parts a.stream stream ids one.0 one.1 drawn;
      spent = let e = tickets in let one = at.one in omega (arith, e, one);
    }

-- ---- and where none is drawn

pub lacks : {S : Type 0} → (a : StoreOfParts S) (stream : Stream) → IsWhole a → DrawsInVain a.parts a.stream stream → LacksIdentifiers (view a) (view (record a { stream = stream })) × IsWhole (record a { stream = stream })
lacks {S} a stream w vain = (
  record {
    used_up = subst (λ n. AreUsedUp n a.stream stream (register_of a.parts)) w.kept.number (used_up a.parts a.stream stream vain);
    registered = λ part id e. e;
    stands = λ held stands. stands;
    frame = refl;
    dropped = true_from_ne_false _ (λ e. never_in_vain a.parts a.stream stream (λ part s there. (w.kept.each part s there).own.undropped e) vain);
    untaken = refl;
    spent = refl;
  },
  record { kept = w.kept; small = w.small; unreserved = w.unreserved },
)

-- A run of all parts, and what is so of every store of parts.

settings : {S : Type 0} (a : StoreOfParts S) → IsWhole a → (k : ℕ) (s : Part S) → slice_get a.parts k ≡ Some s → s.settings ≡ part_settings a.frame.config a.frame.made
settings a w k s there = ap (λ c. c.settings) (w.kept.each k s there).front.made

-- ---- `run_all`

module _ {S : Type 0} (a : StoreOfParts S) (w : IsWhole a) (now n : ℕ) (at : ComesTo a now n) (parts : List (Part S)) (calls : CallsEach (RunsPart service_answers now) a.parts parts) where
  abbrev ran_to : StoreOfParts S
  ran_to = after_telling now n parts a

  all : AllRan now a.parts (all_drained parts) (waiting parts)
  all = all-ran now a.parts parts calls.count (λ k s there. let x = calls.each k s there in (x.0, x.1, x.2.runs))

  -- each ran, and its notices were taken
  runs : CallsEach (RunsDrained S now) a.parts (all_drained parts)
  runs = record {
    count = drained-length parts ∙ calls.count;
    each = λ k s there. let x = calls.each k s there in (drained x.0, drained-at parts k x.0 x.1, record { new = x.0; runs = x.2.runs; is = refl });
  }

  done : (held : List HeldValue) → Stands a.parts held → Done a.frame.config now syncing held (Stands (all_drained parts)) (AppendsNotes a.queue (a.queue ++ waiting parts))
  done held stands =
      handed a w now syncing held _ (waiting parts)
      (run_all_does now a.frame.config a.frame.part_of held a.frame.made a.parts (all_drained parts) (waiting parts) all (all-ready a.frame a.step now a.parts w.kept).0 (parted a w) stands
      (λ k s there. enough-knows a.frame a.step now k a.parts s held w.kept there))

  tickets : greatest_ticket (all_drained parts) ≡ greatest_ticket a.parts
  tickets = greatest-same a.parts (all_drained parts) runs.count (λ k s t there found.
      let x = runs.each k s there in
      let both : Some x.0 ≡ Some t = sym x.1 ∙ found in
      let one : x.0 ≡ t = cc in
      sym (ap (λ (y : Part S). y.next_ticket) one) ∙ ap (λ (y : Part S). y.next_ticket) x.2.is ∙ ran-ticket now s x.2.new x.2.runs)

  ran-does : Does now syncing (view a) (view ran_to)
  ran-does = record {
    done = done;
    frame = ap (λ c. record a.frame { dropped = c; latest = now }) (sym (or-false a.frame.dropped));
    used = runs_all a.frame a.step now a.parts (all_drained parts) (waiting parts) w.kept all;
    drawn = keeps-each a (RunsDrained S now) (all_drained parts) runs (λ s t x k e. run_no_more now s x.new x.runs.runs k (ap (λ (y : Part S). is_registered y.predicates k) (sym x.is) ∙ e));
    spent = let e = tickets in let one = at.one in omega (arith, e, one);
  }

  free : AreUnreserved (all_drained parts)
  free k t found =
      let old = there-too (all_drained parts) a.parts runs.count k t found in
      let x = runs.each k old.0 old.1 in
      let both : Some x.0 ≡ Some t = sym x.1 ∙ found in
      let one : x.0 ≡ t = cc in
      sym (ap (λ (y : Part S). y.reserved) one) ∙ ap (λ (y : Part S). y.reserved) x.2.is ∙ ran-room now old.0 x.2.new x.2.runs ∙ w.unreserved k old.0 old.1

  ran-whole : IsWhole ran_to
  ran-whole = record { kept = keeps-run_all a.frame a.step now n a.parts (all_drained parts) (comes a w now n at) w.kept runs; small = (let l = no_more-after a w now syncing ran_to refl ran-does in let small = w.small in omega (arith, l, small)); unreserved = free }

  -- the run alone, at the step of the last call
  still : Comes a.frame a.step now a.step
  still = record { less = at.moment.0; rises = omega arith; range = at.moment.1 }

  weighs : (held : List HeldValue) → Stands (all_drained parts) held → sum_by (λ (h : HeldValue). h.value.weight) held ≤ 2 ^ 63
  weighs held stands =
      let l = weighs_little (at_moment a.frame now) n (all_drained parts) held ran-whole.kept stands in
      let m = stands.same.number in
      let small = ran-whole.small in
      omega (arith, l, m, small)

  counts : (held : List HeldValue) → Stands (all_drained parts) held → CountsAreTold (all_drained parts) held
  counts held stands =
      counts_are_told a.frame.part_of now a.parts (all_drained parts) (waiting parts) held all (all-ready a.frame a.step now a.parts w.kept).1 (parted ran_to ran-whole) stands (let l = weighs held stands in omega (arith, l))

  counted : (held : List HeldValue) → Stands (all_drained parts) held → (number_in_all parts ≡ length held) × (weight_in_all parts ≡ sum_by (λ (h : HeldValue). h.value.weight) held)
  counted held stands = grind (arith, counts, drained-sum, weighs, ran-whole)

  ran-settled : IsSettled (view ran_to) (number_in_all parts) (weight_in_all parts)
  ran-settled = record {
    held = counted;
    within = λ held stands. within_all a.frame.config a.frame.part_of a.frame.made (all_drained parts) held (parted ran_to ran-whole) stands.same (parts_are ran_to ran-whole) (settings ran_to ran-whole)
        (λ k x there. fits-part a.frame a.step now k x (left-by a.frame a.step now a.parts (all_drained parts) still w.kept runs k x there));
    timely = λ held stands. timely_all a.frame.config a.frame.part_of a.frame.made (all_drained parts) held (parted ran_to ran-whole) stands.same (parts_are ran_to ran-whole) (settings ran_to ran-whole) now w.kept.brief
        (λ k x there. rested-part a.frame a.step now k x (all_drained parts) held (parted ran_to ran-whole) stands.same (parts_are ran_to ran-whole) (settings ran_to ran-whole) still (left-by a.frame a.step now a.parts (all_drained parts) still w.kept runs k x there));
    released = released (all_drained parts) (λ part t found.
        let old = there-too (all_drained parts) a.parts runs.count part t found in
        let x = runs.each part old.0 old.1 in
        let both : Some x.0 ≡ Some t = sym x.1 ∙ found in
        let one : x.0 ≡ t = cc in
        sym (ap (λ (y : Part S). y.predicates) one) ∙ ap (λ (y : Part S). y.predicates) x.2.is ∙ x.2.runs.done.ended);
  }

pub run_all : {S : Type 0} → (a : StoreOfParts S) (now next : ℕ) (parts : List (Part S)) → IsWhole a → ComesTo a now next → CallsEach (RunsPart service_answers now) a.parts parts
    → Does now syncing (view a) (view (after_telling now next parts a)) × IsWhole (after_telling now next parts a) × IsSettled (view (after_telling now next parts a)) (number_in_all parts) (weight_in_all parts)
run_all {S} a now n parts w at calls = (ran-does a w now n at parts calls, ran-whole a w now n at parts calls, ran-settled a w now n at parts calls)

-- ---- `sound`

pub sound : {S : Type 0} → (a : StoreOfParts S) → IsWhole a → IsSoundStore (view a)
sound {S} a w = record {
  some = some_held a w;
  stands = some_stand a w;
  counted = λ held stands. stands.same.number;
  small = w.small;
  parted = w.kept.placed;
  idle = λ held now stands. idle_does a.frame.config a.frame.part_of now a.parts held (parted a w) (parts_are a w) stands;
  bounded = λ held stands. bounded_all a.frame.config a.frame.part_of a.frame.made a.parts held (parted a w) stands.same (parts_are a w) (settings a w)
      (lean a.frame a.step a.parts held (parted a w) stands.same (parts_are a w) (settings a w) w.kept);
  ordered = λ held keys stands used. keys_held a.frame a.step a.parts held keys w.kept stands used;
}

-- ---- numbers, a store just made

-- a part has no tickets left for a write or a removal
pub no_tickets : {S : Type 0} (a : StoreOfParts S) (part rooms : ℕ) (s : Part S) → IsWhole a → slice_get a.parts part ≡ Some s → rooms ≤ 2 → 2 ^ 64 ≤ s.next_ticket + s.reserved + rooms → IsSpent (view a)
no_tickets a part rooms s w there few lack = let l = ticket_within a.parts part s there in let free = w.unreserved part s there in omega (arith, l, lack, few, free)

-- there is no further step
pub no_steps : {S : Type 0} (a : StoreOfParts S) → 2 ^ 64 ≤ suc a.step → IsSpent (view a)
no_steps a lack = omega (arith, lack)

-- a store that was just created holds nothing
pub made : {S : Type 0} → (a : StoreOfParts S) (name : Option (List ℕ)) (hasher : S) → length a.parts ≡ part_count a.frame.config → ((key : List ℕ) → a.frame.part_of key < part_count a.frame.config)
    → IsBrief a.frame.config → a.frame.made < 2 ^ 63 → a.frame.latest ≡ a.frame.made → a.step ≡ 0
    → ((part : ℕ) (s : Part S) → slice_get a.parts part ≡ Some s → IsNew name (part_settings a.frame.config a.frame.made) hasher a.frame.config.weight s)
    → IsWhole a × ((view a).count ≡ 0) × IsRecentOver a.frame.config a.parts true []
made {S} a name hasher number placed brief range first step new =
    let none = none-yet 0 a.parts (λ k s there. (new k s there).records) in
    let count = ap (λ xs. length xs) none in (
      record { kept = subst (λ m. AreKeptParts a.frame m a.parts) (sym step) (news-kept a.frame name hasher a.parts number placed brief range first new); small = (let c = count in omega (arith, c)); unreserved = λ k s there. (new k s there).reserved },
      count,
      made_recent a.frame.config name (part_settings a.frame.config a.frame.made) hasher a.frame.config.weight a.parts new,
    )
