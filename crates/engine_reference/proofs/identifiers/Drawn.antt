-- Identifiers that were drawn.
use Rattle.std.proofs.Common.{◌≡◌, ℕ, suc, ◌+◌, ◌<◌, ◌≤◌, inl, inr, Bool, true, false, List, refl, sym, ap, ◌∙◌, subst, arith}
use Rattle.std.specs.Int.{from_be_bytes, w128}
use Rattle.std.proofs.lemmas.Bool.{cases_lt}
use Rattle.rand_core.specs.Stream.{Stream, fill_bytes}
use Rattle.uuid.specs.Parts.{v4_of_fill}
use Rattle.engine_reference.specs.Identifiers.Drawing.{drawn, stream_after, identifier_at, AreSixteenBytes, AreIdentifiers, Draws, DrawsSome}

pub draws_none_yet : (old : Stream) (registered : ℕ → Bool) → DrawsSome 0 old old registered
draws_none_yet old registered = record { stream = refl; each = λ n lt. absurd (omega arith); bytes = λ n lt. absurd (omega arith) }

first_is : (a b : List ℕ × Stream) → a ≡ b → a.0 ≡ b.0
first_is a b e = ap (λ (p : List ℕ × Stream). p.0) e

second_is : (a b : List ℕ × Stream) → a ≡ b → a.1 ≡ b.1
second_is a b e = ap (λ (p : List ℕ × Stream). p.1) e

drawn_id : (place : ℕ) (old mid new : Stream) (registered : ℕ → Bool) (bytes : List ℕ) (id : ℕ) → DrawsSome place old mid registered → (bytes, new) ≡ v4_of_fill (fill_bytes 16 mid)
    → id ≡ from_be_bytes w128 bytes → id ≡ identifier_at place old
drawn_id place old mid new registered bytes id d e is = is ∙ ap (λ b. from_be_bytes w128 b) (first_is (bytes, new) (drawn mid) e ∙ ap (λ s. (drawn s).0) d.stream)

drawn_stream : (place : ℕ) (old mid new : Stream) (registered : ℕ → Bool) (bytes : List ℕ) → DrawsSome place old mid registered → (bytes, new) ≡ v4_of_fill (fill_bytes 16 mid)
    → new ≡ stream_after (suc place) old
drawn_stream place old mid new registered bytes d e = second_is (bytes, new) (drawn mid) e ∙ ap (λ s. (drawn s).1) d.stream

-- one more identifier of 16 bytes
identifiers_more : (place : ℕ) (old mid new : Stream) (registered : ℕ → Bool) (bytes : List ℕ) → DrawsSome place old mid registered → AreSixteenBytes bytes → (bytes, new) ≡ v4_of_fill (fill_bytes 16 mid) → AreIdentifiers (suc place) old
identifiers_more place old mid new registered bytes d whole e n lt = elim (cases_lt n place) [
  | inl less ↦ d.bytes n less
  | inr most ↦ subst (λ bs. AreSixteenBytes bs) (first_is (bytes, new) (drawn mid) e ∙ ap (λ s. (drawn s).0) d.stream ∙ ap (λ k. (drawn (stream_after k old)).0) (let same : place ≡ n = omega arith in same)) whole
]

pub draws_it : (place : ℕ) (old mid new : Stream) (registered : ℕ → Bool) (bytes : List ℕ) (id : ℕ) → DrawsSome place old mid registered → AreSixteenBytes bytes → (bytes, new) ≡ v4_of_fill (fill_bytes 16 mid)
    → id ≡ from_be_bytes w128 bytes → registered id ≡ false → place < 1000 → Draws old new registered id
draws_it place old mid new registered bytes id d whole e is free few = record {
  place = place;
  few = few;
  drawn = drawn_id place old mid new registered bytes id d e is;
  free = free;
  stream = drawn_stream place old mid new registered bytes d e;
  each = d.each;
  bytes = identifiers_more place old mid new registered bytes d whole e;
}

one_more : (n : ℕ) → suc n ≡ n + 1
one_more n = omega arith

most_of : (n place : ℕ) → n < place + 1 → place ≤ n → n ≡ place
most_of n place l m = omega arith

pub draws_more : (place : ℕ) (old mid new : Stream) (registered : ℕ → Bool) (bytes : List ℕ) (id : ℕ) → DrawsSome place old mid registered → AreSixteenBytes bytes → (bytes, new) ≡ v4_of_fill (fill_bytes 16 mid)
    → id ≡ from_be_bytes w128 bytes → registered id ≡ true → DrawsSome (place + 1) old new registered
draws_more place old mid new registered bytes id d whole e is among = record {
  stream = drawn_stream place old mid new registered bytes d e ∙ ap (λ n. stream_after n old) (one_more place);
  each = λ n lt. elim (cases_lt n place) [
    | inl less ↦ d.each n less
    | inr most ↦ ap (λ k. registered (identifier_at k old)) (most_of n place lt most) ∙ ap registered (sym (drawn_id place old mid new registered bytes id d e is)) ∙ among
  ];
  bytes = subst (λ k. AreIdentifiers k old) (one_more place) (identifiers_more place old mid new registered bytes d whole e);
}
