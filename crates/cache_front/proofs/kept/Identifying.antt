-- Identifiers over parts: what is drawn for a predicate in all parts, and what is registered then.
use Rattle.std.proofs.Common.{◌≡◌, ℕ, zero, suc, ◌+◌, ◌*◌, ◌<◌, true, List, [], ◌∷◌, ◌++◌, length, refl, sym, ap, ◌∙◌, arith, get_or, ◌-◌, ◌≤◌, false, true≢false, ◌||◌, MatchBool, Option, Some, None, IsTrue, slice_get, inl, inr, ◌⊎◌, nat_lt, ◌==◌, All}
use Rattle.std.proofs.Math.Bool.{and-false}
use Rattle.std.specs.Int.{from_be_bytes, to_be_bytes, w64, w128}
use Rattle.std.specs.List.{list_all}
use Rattle.std.proofs.lemmas.Bool.{and_parts, ltb-true, eqb-true, and_from, eq-eqb, lt-ltb, or_cases, or_left, or_right}
use Rattle.std.proofs.lemmas.Nat.{be_bytes_8}
use Rattle.cache_front.specs.Registering.{is_identifier, is_registered_in, register_of, HasNoMore}
use Rattle.std.specs.Option.{option_map_or}
use Rattle.std.proofs.lemmas.List.Elements.{All-head, All-tail}
use Rattle.std.proofs.lemmas.Option.{none-some}
use Rattle.rand_core.specs.Stream.{Stream, fill_bytes}
use Rattle.uuid.specs.Parts.{v4_of_fill}
use Rattle.audit_model.specs.Bytewise.{same}
use Rattle.cache_commands.specs.Identifiers.{stream_left, identifier_after, next_drawn, KeepsIdentifiers, Registers, AreUsedUp}
use Rattle.engine_reference.specs.Identifiers.Drawing as engine
use Rattle.engine_reference.specs.Identifiers.Drawing.{is_registered}
use Rattle.engine_reference.specs.declared.data.Registered.{Registered}
use Rattle.engine_reference.specs.declared.data.Record.{Record}
use Rattle.engine_reference.specs.Calls.{with_predicate, sent, with_written, written, with_removed, with_read, with_room, MaintainsIfDue}
use Rattle.engine_reference.specs.Records.{held_at}
use Rattle.engine_reference.specs.Runs.{Runs}
use Rattle.engine_reference.specs.Visible.{visible_record}
use Rattle.engine_reference.specs.Scanning.{NotesLookUp}
use Rattle.front_reference.specs.Parts.{Inserts, TakesOut, inserted, taken_out}
use Rattle.front_reference.specs.Wholes.{DrawAll, DrawsInVain, registered_in}
use Rattle.cache_commands.proofs.SameKeys.{same-refl}
use Rattle.cache_front.specs.Parts.{Part, Stored, service_answers}
use Rattle.cache_front.proofs.kept.Keeping.{EachPredicate, run-predicates}

-- the first so many values of a function
abbrev listing : ℕ → (ℕ → ℕ) → List ℕ
listing zero f = []
listing (suc n) f = f 0 ∷ listing n (λ i. f (suc i))

abbrev byte_of : List ℕ → ℕ → ℕ
byte_of xs i = get_or xs i 0

listed : (xs : List ℕ) → xs ≡ listing (length xs) (byte_of xs)
listed [] = refl
listed (x ∷ xs) = ap (λ ys. x ∷ ys) (listed xs)

small-listing : (n : ℕ) (f : ℕ → ℕ) → ((i : ℕ) → f i < 256) → (i : ℕ) → get_or (listing n f) i 0 < 256
small-listing zero f small i = omega arith
small-listing (suc n) f small zero = small 0
small-listing (suc n) f small (suc i) = small-listing n (λ j. f (suc j)) (λ j. small (suc j)) i

small-bytes : (xs : List ℕ) → list_all (λ b. nat_lt b 256) xs ≡ true → (i : ℕ) → byte_of xs i < 256
small-bytes [] all i = omega arith
small-bytes (x ∷ xs) all zero = ltb-true x 256 (and_parts (nat_lt x 256) _ all).0
small-bytes (x ∷ xs) all (suc i) = small-bytes xs (and_parts (nat_lt x 256) _ all).1 i

abbrev eight : (ℕ → ℕ) → ℕ
eight f = from_be_bytes w64 (listing 8 f)

eight-listing : (f : ℕ → ℕ) → ((i : ℕ) → f i < 256) → to_be_bytes w64 (eight f) ≡ listing 8 f
eight-listing f small = be_bytes_8 (listing 8 f) (eight f) refl (small-listing 8 f small) refl

eight-small : (f : ℕ → ℕ) → ((i : ℕ) → f i < 256) → eight f < 18446744073709551616
eight-small f small = grind arith

-- sixteen bytes are eight and eight
halves : (f : ℕ → ℕ) → from_be_bytes w128 (listing 16 f) ≡ eight f * 18446744073709551616 + eight (λ i. f (8 + i))
halves f = omega arith

same_high : (a b c d : ℕ) → c < 18446744073709551616 → d < 18446744073709551616 → a * 18446744073709551616 + c ≡ b * 18446744073709551616 + d → a ≡ b
same_high a b c d x y e = omega arith

same_low : (a b c d : ℕ) → c < 18446744073709551616 → d < 18446744073709551616 → a * 18446744073709551616 + c ≡ b * 18446744073709551616 + d → c ≡ d
same_low a b c d x y e = omega arith

both-halves : (f : ℕ → ℕ) → listing 16 f ≡ listing 8 f ++ listing 8 (λ i. f (8 + i))
both-halves f = refl

same_listing : (f g : ℕ → ℕ) → ((i : ℕ) → f i < 256) → ((i : ℕ) → g i < 256) → from_be_bytes w128 (listing 16 f) ≡ from_be_bytes w128 (listing 16 g) → listing 16 f ≡ listing 16 g
same_listing f g small_f small_g e =
    let small = eight-small (λ i. g (8 + i)) (λ i. small_g (8 + i)) in
    let high = same_high (eight f) (eight g) (eight (λ i. f (8 + i))) (eight (λ i. g (8 + i))) in
    let low = same_low (eight f) (eight g) (eight (λ i. f (8 + i))) (eight (λ i. g (8 + i))) in
    let listing = eight-listing (λ i. f (8 + i)) (λ i. small_f (8 + i)) in
    let eight2 = eight-listing (λ i. g (8 + i)) (λ i. small_g (8 + i)) in
    grind (arith, halves f, halves g, eight-small (λ i. f (8 + i)) (λ i. small_f (8 + i)), small, high, low, both-halves f, eight-listing f small_f, eight-listing g small_g, listing, eight2, both-halves g)

sixteen : (xs : List ℕ) → is_identifier xs ≡ true → xs ≡ listing 16 (byte_of xs)
sixteen xs is = listed xs ∙ ap (λ n. listing n (byte_of xs)) (eqb-true (length xs) 16 (and_parts (length xs == 16) _ is).0)

-- two identifiers that say one number are one
pub same_bytes : (xs ys : List ℕ) → is_identifier xs ≡ true → is_identifier ys ≡ true → from_be_bytes w128 xs ≡ from_be_bytes w128 ys → xs ≡ ys
same_bytes xs ys x y e = grind (arith, sixteen, same_listing, byte_of, small-bytes, and_parts)

-- ---- identifiers over parts: what is drawn for a predicate in all parts, and what is registered then

-- ---- the drawn stream

streams_are : (n : ℕ) (s : Stream) → engine.stream_after n s ≡ stream_left n s
streams_are zero s = refl
streams_are (suc n) s = ap (λ t. (v4_of_fill (fill_bytes 16 t)).1) (streams_are n s)

-- the engine's number is what the bytes say
number_is : (n : ℕ) (s : Stream) → engine.identifier_at n s ≡ from_be_bytes w128 (identifier_after n s)
number_is n s = ap (λ t. from_be_bytes w128 (v4_of_fill (fill_bytes 16 t)).0) (streams_are n s)

stream-further : (a b : ℕ) (s : Stream) → stream_left a (stream_left b s) ≡ stream_left (a + b) s
stream-further zero b s = ap (λ n. stream_left n s) (let e : b ≡ 0 + b = omega arith in e)
stream-further (suc a) b s = ap (λ t. (next_drawn t).1) (stream-further a b s) ∙ ap (λ n. stream_left n s) (let e : suc (a + b) ≡ suc a + b = omega arith in e)

identifier-further : (a b : ℕ) (s : Stream) → identifier_after a (stream_left b s) ≡ identifier_after (a + b) s
identifier-further a b s = ap (λ t. (next_drawn t).0) (stream-further a b s)

-- each that is drawn is 16 bytes
all-bytes : (xs : List ℕ) → All (λ b. b < 256) xs → list_all (λ b. nat_lt b 256) xs ≡ true
all-bytes [] all = refl
all-bytes (x ∷ xs) all = and_from _ _ (lt-ltb x 256 (All-head (λ b. b < 256) x xs all)) (all-bytes xs (All-tail (λ b. b < 256) x xs all))

identifiers-are : (number : ℕ) (s : Stream) → engine.AreIdentifiers number s → (n : ℕ) → n < number → is_identifier (identifier_after n s) ≡ true
identifiers-are number s bytes n lt = grind (arith, streams_are n s, and_from, eq-eqb, all-bytes)

-- ---- what is registered

-- one more predicate
registered-pushed : (ps : List (Registered (List ℕ))) (p : Registered (List ℕ)) (n : ℕ) → is_registered (ps ++ p ∷ []) n ≡ true → (is_registered ps n ≡ true) ⊎ (p.id ≡ n)
registered-pushed [] p n e = elim (or_cases (p.id == n) false e) [ inl h ↦ inr (eqb-true p.id n h) | inr h ↦ absurd (true≢false (sym h)) ]
registered-pushed (x ∷ ps) p n e = grind (arith, or_cases, or_left, registered-pushed ps p n, or_right)

-- what is so of each number that is registered in the new, by the old
registered-from : (old ps : List (Registered (List ℕ))) (n : ℕ) → EachPredicate (λ p. is_registered old p.id ≡ true) ps → is_registered ps n ≡ true → is_registered old n ≡ true
registered-from old [] n each e = absurd (true≢false (sym e))
registered-from old (p ∷ ps) n each e = elim (or_cases (p.id == n) (is_registered ps n) e) [
  | inl h ↦ ap (is_registered old) (sym (eqb-true p.id n h)) ∙ each zero p refl
  | inr h ↦ registered-from old ps n (λ place q there. each (suc place) q there) h
]

registered-own : (ps : List (Registered (List ℕ))) → EachPredicate (λ p. is_registered ps p.id ≡ true) ps
registered-own [] place p there = absurd (none-some p there)
registered-own (x ∷ ps) zero p there = grind (arith, or_left, eq-eqb)
registered-own (x ∷ ps) (suc place) p there = or_right (x.id == p.id) (is_registered ps p.id) (registered-own ps place p there)

-- a predicate whose number is that of a drawn identifier registers that one alone
registers-drawn : (ps : List (Registered (List ℕ))) (p : Registered (List ℕ)) (n : ℕ) (start : Stream) → is_identifier (identifier_after n start) ≡ true → p.id ≡ engine.identifier_at n start
    → (id : List ℕ) → is_registered_in (ps ++ p ∷ []) id ≡ true → (is_registered_in ps id || same id (identifier_after n start)) ≡ true
registers-drawn ps p n start proper drawn_is id e =
    let parts = and_parts (is_identifier id) (is_registered (ps ++ p ∷ []) (from_be_bytes w128 id)) e in
    let right = or_right (is_registered_in ps id) (same id (identifier_after n start)) in
    grind (arith, parts, registered-pushed ps p (from_be_bytes w128 id), or_left (is_registered_in ps id) (same id (identifier_after n start)), and_from, right, same_bytes id (identifier_after n start), number_is n start, same-refl id)

-- ---- all parts draw

module _ {S : Type 0} (prefix : List ℕ) (step : ℕ) (start : Stream) where
  -- each part registers one identifier that was drawn
  record Drawn (first : ℕ) (parts news : List (Part S)) (new : Stream) : Type 0 where
    number : ℕ
    later : first ≤ number
    stream : new ≡ stream_left number start
    more : (s : Part S) → slice_get parts 0 ≡ Some s → first < number
    each : (part : ℕ) (t : Part S) → slice_get news part ≡ Some t
        → (s : Part S) × (place : ℕ) × (p : Registered (List ℕ)) × (slice_get parts part ≡ Some s) × (place < number) × (p.id ≡ engine.identifier_at place start) × (t ≡ with_predicate p s) × (is_identifier (identifier_after place start) ≡ true)

  drawn-all : (first : ℕ) (parts : List (Part S)) (old new : Stream) (ids : List ℕ) → old ≡ stream_left first start → DrawAll parts old new ids → Drawn first parts (registered_in prefix step ids parts) new
  drawn-all first [] old new ids at d = grind (arith, none-some)
  drawn-all first (s ∷ ss) old new ids at (id, rest, mid, is, draws, others) =
      let next : mid ≡ stream_left (suc draws.place + first) start = draws.stream ∙ streams_are (suc draws.place) old ∙ ap (stream_left (suc draws.place)) at ∙ stream-further (suc draws.place) first start in
      let d = drawn-all (suc draws.place + first) ss mid new rest next others in
      let more = d.later in
      record {
        number = d.number;
        later = omega (arith, more);
        stream = d.stream;
        more = λ x there. omega (arith, more);
        each = λ part t there. go part t (sym (ap (λ xs. slice_get (registered_in prefix step xs (s ∷ ss)) part) is) ∙ there) d;
      }
    where
      own : id ≡ engine.identifier_at (draws.place + first) start
      own =
          draws.drawn ∙ number_is draws.place old ∙ ap (λ t. from_be_bytes w128 (identifier_after draws.place t)) at
          ∙ ap (from_be_bytes w128) (identifier-further draws.place first start) ∙ sym (number_is (draws.place + first) start)

      proper : is_identifier (identifier_after (draws.place + first) start) ≡ true
      proper = ap is_identifier (sym (identifier-further draws.place first start) ∙ ap (identifier_after draws.place) (sym at)) ∙ identifiers-are (suc draws.place) old draws.bytes draws.place (omega arith)

      go : (part : ℕ) (t : Part S) → slice_get (registered_in prefix step (id ∷ rest) (s ∷ ss)) part ≡ Some t → (d : Drawn (suc draws.place + first) ss (registered_in prefix step rest ss) new)
          → (x : Part S) × (place : ℕ) × (p : Registered (List ℕ)) × (slice_get (s ∷ ss) part ≡ Some x) × (place < d.number) × (p.id ≡ engine.identifier_at place start) × (t ≡ with_predicate p x) × (is_identifier (identifier_after place start) ≡ true)
      go zero t there d = let more = d.later in (s, draws.place + first, record { id = id; predicate = prefix; step = step }, refl, omega (arith, more), own, cc, proper)
      go (suc k) t there d = d.each k t there

  -- a part drew a thousand, each of them registered there
  record InVain (first : ℕ) (parts : List (Part S)) (new : Stream) : Type 0 where
    part : ℕ
    s : Part S
    there : slice_get parts part ≡ Some s
    before : ℕ
    stream : new ≡ stream_left (1000 + before) start
    each : (n : ℕ) → n < 1000 → is_registered_in s.predicates (identifier_after (n + before) start) ≡ true

  in-vain : (first : ℕ) (parts : List (Part S)) (old new : Stream) → old ≡ stream_left first start → DrawsInVain parts old new → InVain first parts new
  in-vain first [] old new at d = absurd d
  in-vain first (s ∷ ss) old new at (inl used) = record {
    part = 0;
    s = s;
    there = refl;
    before = first;
    stream = used.drawn.stream ∙ streams_are used.number old ∙ ap (λ n. stream_left n old) used.thousand ∙ ap (stream_left 1000) at ∙ stream-further 1000 first start;
    each = λ n lt.
        (let is = sym (identifier-further n first start) ∙ ap (identifier_after n) (sym at) in
        ap (is_registered_in s.predicates) is
        ∙ and_from _ _ (identifiers-are used.number old used.drawn.bytes n (let all = used.thousand in omega (arith, all, lt))) (ap (is_registered s.predicates) (sym (number_is n old)) ∙ used.drawn.each n (let all = used.thousand in omega (arith, all, lt))));
  }
  in-vain first (s ∷ ss) old new at (inr (id, mid, draws, later)) =
      let next : mid ≡ stream_left (suc draws.place + first) start = draws.stream ∙ streams_are (suc draws.place) old ∙ ap (stream_left (suc draws.place)) at ∙ stream-further (suc draws.place) first start in
      let v = in-vain (suc draws.place + first) ss mid new next later in
      record { part = suc v.part; s = v.s; there = v.there; before = v.before; stream = v.stream; each = v.each }

-- A `DROPIF` is registered in all parts, each under an identifier that was drawn
pub registers_all : {S : Type 0} (prefix : List ℕ) (step : ℕ) (parts : List (Part S)) (old new : Stream) (ids : List ℕ) (first : Part S) → slice_get parts 0 ≡ Some first → DrawAll parts old new ids
    → Registers old new (register_of parts) (register_of (registered_in prefix step ids parts))
registers_all {S = S} prefix step parts old new ids first there d =
    let k = drawn-all prefix step old 0 parts old new ids refl d in
    let some = k.more first there in
    record {
      number = k.number;
      stream = k.stream;
      registered = λ part. go part (slice_get (registered_in prefix step ids parts) part) refl k;
    }
  where
    go : (part : ℕ) (o : Option (Part S)) → slice_get (registered_in prefix step ids parts) part ≡ o → (k : Drawn prefix step old 0 parts (registered_in prefix step ids parts) new)
        → (place : ℕ) × (place < k.number) × ((id : List ℕ) → IsTrue (option_map_or (λ (s : Part S). is_registered_in s.predicates id) (slice_get (registered_in prefix step ids parts) part) false) → IsTrue (register_of parts part id || same id (identifier_after place old)))
    go part None at k = (0, k.more first there, λ id e. absurd (true≢false (sym e ∙ ap (λ o. option_map_or (λ (s : Part S). is_registered_in s.predicates id) o false) at)))
    go part (Some t) at k =
        let x = k.each part t at in (
          x.1,
          x.4,
          λ id e.
              ap (λ o. option_map_or (λ (s : Part S). is_registered_in s.predicates id) o false || same id (identifier_after x.1 old)) x.3
              ∙ registers-drawn x.0.predicates x.2 x.1 old x.7 x.5 id
              (ap (λ (y : Part S). is_registered_in y.predicates id) (sym x.6) ∙ ap (λ o. option_map_or (λ (s : Part S). is_registered_in s.predicates id) o false) (sym at) ∙ e),
        )

slice-below : {S : Type 0} (parts : List (Part S)) (part : ℕ) (s : Part S) → slice_get parts part ≡ Some s → part < length parts
slice-below [] part s there = absurd (none-some s there)
slice-below (x ∷ parts) zero s there = omega arith
slice-below (x ∷ parts) (suc k) s there = let lt = slice-below parts k s there in omega (arith, lt)

-- `ERR id` comes only after a thousand that are registered in one part
pub used_up : {S : Type 0} (parts : List (Part S)) (old new : Stream) → DrawsInVain parts old new → AreUsedUp (length parts) old new (register_of parts)
used_up {S = S} parts old new d =
    let v = in-vain [] 0 old 0 parts old new refl d in
    record {
      part = v.part;
      is_part = slice-below parts v.part v.s v.there;
      first = v.before;
      number = 1000 + v.before;
      thousand = omega arith;
      stream = v.stream;
      each = λ n from below.
          ap (λ o. option_map_or (λ (s : Part S). is_registered_in s.predicates (identifier_after n old)) o false) v.there
          ∙ (let is : n ≡ (n - v.before) + v.before = omega (arith, from) in ap (λ m. is_registered_in v.s.predicates (identifier_after m old)) is ∙ v.each (n - v.before) (omega (arith, from, below)));
    }

-- a `DROPIF` is never refused for identifiers where no part has a predicate
pub never_in_vain : {S : Type 0} (parts : List (Part S)) (old new : Stream) → ((part : ℕ) (s : Part S) → slice_get parts part ≡ Some s → s.predicates ≡ []) → DrawsInVain parts old new → ⊥
never_in_vain [] old new none d = d
never_in_vain (s ∷ ss) old new none (inl used) =
    true≢false (sym (used.drawn.each 0 (let all = used.thousand in omega (arith, all))) ∙ ap (λ ps. is_registered ps (engine.identifier_at 0 old)) (none 0 s refl))
never_in_vain (s ∷ ss) old new none (inr (id, mid, draws, later)) = never_in_vain ss mid new (λ part x there. none (suc part) x there) later

-- ---- the other calls

module _ {S : Type 0} where
  pub run_no_more : (now : ℕ) (s new : Part S) → Runs service_answers now s new → HasNoMore S s new
  run_no_more now s new run n e = registered-from s.predicates new.predicates n (run-predicates (λ p. is_registered s.predicates p.id ≡ true) service_answers now s new run (registered-own s.predicates)) e

  no_more_in : (s new : Part S) → HasNoMore S s new → (id : List ℕ) → is_registered_in new.predicates id ≡ true → is_registered_in s.predicates id ≡ true
  no_more_in s new h id e = let parts = and_parts (is_identifier id) (is_registered new.predicates (from_be_bytes w128 id)) e in and_from _ _ parts.0 (h (from_be_bytes w128 id) parts.1)

  -- where no part has more, the store has not
  pub keeps_identifiers : (stream : Stream) (parts news : List (Part S)) → ((part : ℕ) (t : Part S) → slice_get news part ≡ Some t → (s : Part S) × (slice_get parts part ≡ Some s) × HasNoMore S s t) → KeepsIdentifiers stream stream (register_of parts) (register_of news)
  keeps_identifiers stream parts news each = grind (arith, IsTrue, true≢false, no_more_in)

  -- after a run of all parts that ended its predicates none is registered
  pub released : (news : List (Part S)) → ((part : ℕ) (t : Part S) → slice_get news part ≡ Some t → t.predicates ≡ []) → (part : ℕ) (id : List ℕ) → register_of news part id ≡ false
  released news ended part id = grind (arith, and-false (is_identifier id))

  -- ---- the calls register none

  same-sent : (ticket : ℕ) (t : Part S) → (sent ticket t).predicates ≡ t.predicates
  same-sent ticket t = grind arith

  same-written : (o : Option (Record (List ℕ) Stored)) (s : Part S) (key : List ℕ) (hash : ℕ) (value : Stored) (now step : ℕ) → (with_written service_answers o s key hash value now step).predicates ≡ s.predicates
  same-written None s key hash value now step = refl
  same-written (Some r) s key hash value now step = refl

  same-read : (o : Option (Record (List ℕ) Stored)) (hash now : ℕ) (s : Part S) → (with_read service_answers o hash now s).predicates ≡ s.predicates
  same-read None hash now s = refl
  same-read (Some r) hash now s = refl

  same-taken_out : (r : Record (List ℕ) Stored) (now : ℕ) (s : Part S) → (taken_out service_answers r now s).predicates ≡ s.predicates
  same-taken_out r now s = same-sent s.next_ticket (with_removed (Some r) s)

  from-same : (s t : Part S) → t.predicates ≡ s.predicates → HasNoMore S s t
  from-same s t e n h = ap (λ ps. is_registered ps n) (sym e) ∙ h

  -- maintenance, and what came before it
  maintained-no_more : (now : ℕ) (s t new : Part S) → t.predicates ≡ s.predicates → MaintainsIfDue service_answers now t new → HasNoMore S s new
  maintained-no_more now s t new e m = grind (arith, MatchBool, from-same s t e, run_no_more now t new, from-same s new)

  pub looked-no_more : (key : List ℕ) (hash now : ℕ) (s new : Part S) → NotesLookUp service_answers same key hash now false s new → HasNoMore S s new
  looked-no_more key hash now s new look n h =
      let more = maintained-no_more now s s look.mid refl look.maintains n (ap (λ ps. is_registered ps n) (sym (ap (λ (x : Part S). x.predicates) look.reads ∙ same-read (visible_record service_answers same s now key) hash now look.mid)) ∙ h) in
      grind (arith, more, same-read (visible_record service_answers same s now key) hash now look.mid)

  pub inserted-no_more : (key : List ℕ) (hash now step : ℕ) (value : Stored) (s new : Part S) → Inserts service_answers same key hash value now step s new → HasNoMore S s new
  inserted-no_more key hash now step value s new call =
      let more = maintained-no_more now s (inserted service_answers same key hash value now step s) new (same-sent s.next_ticket (written service_answers same (with_room s) key hash value now step) ∙ same-written (held_at same s.records key) (with_room s) key hash value now step) in
      grind (arith, from-same s new, more, same-sent s.next_ticket (written service_answers same (with_room s) key hash value now step), same-written (held_at same s.records key) (with_room s) key hash value now step)

  pub removed-no_more : (key : List ℕ) (now : ℕ) (s new : Part S) → TakesOut service_answers same key now s new → HasNoMore S s new
  removed-no_more key now s new call = grind (arith, from-same s new, maintained-no_more now s, same-taken_out)
