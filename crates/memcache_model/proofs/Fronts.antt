-- What stands at the front of a stream, and more bytes behind it.
use Rattle.std.proofs.Common.{◌≡◌, ℕ, zero, suc, ◌+◌, ◌<◌, ◌≤◌, Bool, false, cond, List, [], ◌∷◌, ◌++◌, length, take, drop, Option, Some, None, refl, sym, ap, ◌∙◌, subst, arith, ⊎_elim, length-append, length-drop}
use Rattle.std.specs.Prelude.{nat_eq, not, codes}
use Rattle.std.specs.Str.{bytes_eq}
use Rattle.std.specs.Cmp.Lexicographic.{pointwise}
use Rattle.std.specs.List.{position, position_or_len, starts_with}
use Rattle.std.proofs.lemmas.Bool.{cond-true, cond-false, lt-ltb, le-ltb, ltb-true, ne_eqb, cases_lt, cases_Bool, cond_both}
use Rattle.std.proofs.lemmas.List.{take-append-le, drop-append-le, take_all, length-take-le}
use Rattle.std.proofs.lemmas.List.Folds.{prefix_len-append}
use Rattle.std.proofs.lemmas.Option.{cond_some}
use Rattle.memcache_model.specs.Bytes.{is_feed, without_one_return}
use Rattle.memcache_model.specs.Commands.{Command, Request, store, oversize, meta_set, meta_oversize}
use Rattle.memcache_model.specs.Grammar.{RequestLine, whole, head, meta_head, Arrived, part, request, Block, too_large, unfinished, broken, filled, has_end, block_in, with_block, arrived_line, line_at, line_within, line_limit, request_line}
use Rattle.memcache_model.specs.Streams.{IsCutFree, TakesBytes}

-- ---- places

place-append : (p : ℕ → Bool) (xs ys : List ℕ) → position_or_len p xs < length xs → position_or_len p (xs ++ ys) ≡ position_or_len p xs
place-append p xs ys inside =
    prefix_len-append (λ x. not (p x)) xs ys ∙ cond-false _ _ _ (ne_eqb (position_or_len p xs) (length xs) (λ same. omega (arith, same, inside)))

-- what is found is inside
position-inside : (p : ℕ → Bool) (xs : List ℕ) (at : ℕ) → position p xs ≡ Some at → at < length xs
position-inside p xs at is =
    let place = cond_some _ (position_or_len p xs) at is in
    subst (λ n. n < length xs) place.1 (ltb-true (position_or_len p xs) (length xs) place.0)

-- and is found with more behind it
position-append : (p : ℕ → Bool) (xs ys : List ℕ) (at : ℕ) → position p xs ≡ Some at → position p (xs ++ ys) ≡ Some at
position-append p xs ys at is =
    let place = cond_some _ (position_or_len p xs) at is in
    let inside = ltb-true (position_or_len p xs) (length xs) place.0 in
    let same = place-append p xs ys inside in
    cond-true _ _ _ (lt-ltb (position_or_len p (xs ++ ys)) (length (xs ++ ys)) (omega (arith, same, inside, length-append xs ys))) ∙ ap Some (same ∙ place.1)

-- more than all elements, with more behind them
take-longer : (n : ℕ) (xs ys : List ℕ) → length xs ≤ n → (zs : List ℕ) × (take n (xs ++ ys) ≡ xs ++ zs)
take-longer n [] ys long = (take n ys, refl)
take-longer zero (x ∷ xs) ys long = absurd (omega arith)
take-longer (suc m) (x ∷ xs) ys long = let rest = take-longer m xs ys (omega arith) in (rest.0, ap (λ l. x ∷ l) rest.1)

-- the first line feed of a window
feed-append : (n : ℕ) (bytes more : List ℕ) (end : ℕ) → position is_feed (take n bytes) ≡ Some end → position is_feed (take n (bytes ++ more)) ≡ Some end
feed-append n bytes more end is = ⊎_elim
    (λ short. let longer = take-longer n bytes more (omega arith) in ap (position is_feed) longer.1 ∙ position-append is_feed bytes longer.0 end (sym (ap (position is_feed) (take_all n bytes (omega arith))) ∙ is))
    (λ long. ap (position is_feed) (take-append-le n bytes more long) ∙ is)
    (cases_lt (length bytes) n)

-- it is inside
feed-inside : (n : ℕ) (bytes : List ℕ) (end : ℕ) → position is_feed (take n bytes) ≡ Some end → end < length bytes
feed-inside n bytes end is = ⊎_elim
    (λ short. subst (λ l. end < length l) (take_all n bytes (omega arith)) (position-inside is_feed (take n bytes) end is))
    (λ long. omega (arith, position-inside is_feed (take n bytes) end is, length-take-le n bytes long))
    (cases_lt (length bytes) n)

-- ---- data blocks

has_end-append : (size : ℕ) (rest more : List ℕ) → size + 2 ≤ length rest → has_end size (rest ++ more) ≡ has_end size rest
has_end-append size rest more long =
    ap (λ l. bytes_eq (take 2 l) (codes "\r\n")) (drop-append-le size rest more (omega arith))
    ∙ ap (λ l. bytes_eq l (codes "\r\n")) (take-append-le 2 (drop size rest) more (omega (arith, length-drop size rest)))

no_request : (r : Request) (used : ℕ) → part ≡ request r used → ⊥
no_request r used same = cc

block-append : (most size : ℕ) (rest more : List ℕ) → (block_in most size rest ≡ unfinished → ⊥) → block_in most size (rest ++ more) ≡ block_in most size rest
block-append most size rest more done = ⊎_elim
    (λ large. cond-true _ _ _ (lt-ltb most size large) ∙ sym (cond-true _ _ _ (lt-ltb most size large)))
    (λ fits. cond-false _ _ _ (le-ltb most size fits) ∙ ⊎_elim
    (λ short. absurd (done (cond-false _ _ _ (le-ltb most size fits) ∙ cond-true _ _ _ (lt-ltb (length rest) (size + 2) short))))
    (λ long.
    cond-false _ _ _ (le-ltb (length (rest ++ more)) (size + 2) (omega (arith, length-append rest more)))
    ∙ ap (λ b. cond b (filled (take size (rest ++ more))) broken) (has_end-append size rest more long)
    ∙ ap (λ block. cond (has_end size rest) (filled block) broken) (take-append-le size rest more (omega arith))
    ∙ sym (cond-false _ _ _ (le-ltb (length rest) (size + 2) long)))
    (cases_lt (length rest) (size + 2))
    ∙ sym (cond-false _ _ _ (le-ltb most size fits)))
    (cases_lt most size)

-- a command with its block
with_block-append : (command : List ℕ → Command) (passed_over : Command) (quiet : Bool) (used most size : ℕ) (rest more : List ℕ) (r : Request) (n : ℕ)
    → with_block command passed_over quiet used (block_in most size rest) ≡ request r n
    → with_block command passed_over quiet used (block_in most size (rest ++ more)) ≡ request r n
with_block-append command passed_over quiet used most size rest more r n is =
    let does : Block → Arrived = with_block command passed_over quiet used in
    ap does (block-append most size rest more (λ same. no_request r n (sym (ap does same) ∙ is))) ∙ is

arrived_line-append : (most : ℕ) (line : RequestLine) (used : ℕ) (rest more : List ℕ) (r : Request) (n : ℕ) → arrived_line most line used rest ≡ request r n → arrived_line most line used (rest ++ more) ≡ request r n
arrived_line-append most (whole command quiet) used rest more r n is = is
arrived_line-append most (head storage key flags exptime size quiet) used rest more r n is =
    with_block-append (store storage key flags exptime) (oversize storage key) quiet (used + size + 2) most size rest more r n is
arrived_line-append most (meta_head key flags size) used rest more r n is =
    with_block-append (meta_set key flags) (meta_oversize key flags) false (used + size + 2) most size rest more r n is

-- ---- the front of a stream

start-append : (first bytes more : List ℕ) → length first ≤ length bytes → starts_with nat_eq (bytes ++ more) first ≡ starts_with nat_eq bytes first
start-append first bytes more long = ap (pointwise nat_eq first) (take-append-le (length first) bytes more long)

-- five bytes say how long a line may be
longest-append : (bytes more : List ℕ) → 5 ≤ length bytes → line_limit (bytes ++ more) ≡ line_limit bytes
longest-append bytes more long =
    let a = start-append (codes "get ") bytes more (omega (arith, long)) in
    let b = start-append (codes "gets ") bytes more (omega (arith, long)) in
    let c = start-append (codes "gat ") bytes more (omega (arith, long)) in
    let d = start-append (codes "gats ") bytes more (omega (arith, long)) in
    cc

-- and it may be longer than they
longest-long : (bytes : List ℕ) → 5 ≤ line_limit bytes
longest-long bytes = cond_both _ 2097152 65536 (λ n. 5 ≤ n) (λ _. omega arith) (λ _. omega arith)

-- the line that ends at a place within the bytes
line-append : (most n m : ℕ) (bytes more : List ℕ) (r : Request) (used end : ℕ) → position is_feed (take (n + 1) bytes) ≡ Some end → position is_feed (take (m + 1) (bytes ++ more)) ≡ Some end → end < length bytes
    → line_within most n bytes ≡ request r used → line_within most m (bytes ++ more) ≡ request r used
line-append most n m bytes more r used end found again inside is =
    ap (line_at most m (bytes ++ more)) again
    ∙ ap (λ line. arrived_line most (request_line (without_one_return line)) (end + 1) (drop (end + 1) (bytes ++ more))) (take-append-le end bytes more (omega arith))
    ∙ ap (arrived_line most (request_line (without_one_return (take end bytes))) (end + 1)) (drop-append-le (end + 1) bytes more (omega arith))
    ∙ arrived_line-append most (request_line (without_one_return (take end bytes))) (end + 1) (drop (end + 1) bytes) more r used (sym (ap (line_at most n bytes) found) ∙ is)

-- a line that has no end has arrived only if it is too long
unended-long : (most n : ℕ) (bytes : List ℕ) (r : Request) (used : ℕ) → position is_feed (take (n + 1) bytes) ≡ None → line_within most n bytes ≡ request r used → n < length bytes
unended-long most n bytes r used none is = ⊎_elim
    (λ long. long)
    (λ short. absurd (no_request r used (sym (cond-false _ _ _ (le-ltb n (length bytes) short)) ∙ sym (ap (line_at most n bytes) none) ∙ is)))
    (cases_lt n (length bytes))

-- as long as a line may be as long as before
alike : (most n : ℕ) (bytes more : List ℕ) (r : Request) (used : ℕ) → line_within most n bytes ≡ request r used → line_within most n (bytes ++ more) ≡ request r used
alike most n bytes more r used is = go (position is_feed (take (n + 1) bytes)) refl
  where
    go : (o : Option ℕ) → position is_feed (take (n + 1) bytes) ≡ o → line_within most n (bytes ++ more) ≡ request r used
    go None none =
        let long = unended-long most n bytes r used none is in
        ap (line_at most n (bytes ++ more)) (ap (position is_feed) (take-append-le (n + 1) bytes more (omega (arith, long))) ∙ none)
        ∙ cond-true _ _ _ (lt-ltb n (length (bytes ++ more)) (omega (arith, long, length-append bytes more)))
        ∙ sym (cond-true _ _ _ (lt-ltb n (length bytes) long))
        ∙ sym (ap (line_at most n bytes) none) ∙ is
    go (Some end) found = line-append most n n bytes more r used end found (feed-append (n + 1) bytes more end found) (feed-inside (n + 1) bytes end found) is

-- where there are fewer bytes than a line may have
few : (most n m : ℕ) (bytes more : List ℕ) (r : Request) (used : ℕ) → length bytes ≤ n → length bytes ≤ m → line_within most n bytes ≡ request r used → line_within most m (bytes ++ more) ≡ request r used
few most n m bytes more r used in_n in_m is = go (position is_feed (take (n + 1) bytes)) refl
  where
    go : (o : Option ℕ) → position is_feed (take (n + 1) bytes) ≡ o → line_within most m (bytes ++ more) ≡ request r used
    go None none = absurd (omega (arith, in_n, unended-long most n bytes r used none is))
    go (Some end) found =
        let longer = take-longer (m + 1) bytes more (omega (arith, in_m)) in
        let there = position-append is_feed bytes longer.0 end (sym (ap (position is_feed) (take_all (n + 1) bytes (omega (arith, in_n)))) ∙ found) in
        line-append most n m bytes more r used end found (ap (position is_feed) longer.1 ∙ there) (feed-inside (n + 1) bytes end found) is

within : (most : ℕ) (bytes more : List ℕ) (r : Request) (used : ℕ) → line_within most (line_limit bytes) bytes ≡ request r used → line_within most (line_limit (bytes ++ more)) (bytes ++ more) ≡ request r used
within most bytes more r used is = ⊎_elim
    (λ short. few most (line_limit bytes) (line_limit (bytes ++ more)) bytes more r used (omega (arith, short, longest-long bytes)) (omega (arith, short, longest-long (bytes ++ more))) is)
    (λ long. ap (λ n. line_within most n (bytes ++ more)) (longest-append bytes more long) ∙ alike most (line_limit bytes) bytes more r used is)
    (cases_lt (length bytes) 5)

pub cuts : IsCutFree
cuts most [] more r used is = absurd (no_request r used is)
cuts most (b ∷ bs) more r used is = ⊎_elim
    (λ t. cond-true _ _ _ (first ∙ t) ∙ sym (cond-true _ _ _ t) ∙ is)
    (λ f. cond-false _ _ _ (first ∙ f) ∙ within most (b ∷ bs) more r used (sym (cond-false _ _ _ f) ∙ is))
    (cases_Bool (starts_with nat_eq (b ∷ bs) (128 ∷ [])))
  where
    first : starts_with nat_eq ((b ∷ bs) ++ more) (128 ∷ []) ≡ starts_with nat_eq (b ∷ bs) (128 ∷ [])
    first = start-append (128 ∷ []) (b ∷ bs) more (omega arith)

-- ---- how many bytes a request takes

same_used : (a b : Request) (m n : ℕ) → request a m ≡ request b n → m ≡ n
same_used a b m n same = cc

with_block-takes : (command : List ℕ → Command) (passed_over : Command) (quiet : Bool) (used : ℕ) (block : Block) (r : Request) (n : ℕ) → 1 ≤ used → with_block command passed_over quiet used block ≡ request r n → 1 ≤ n
with_block-takes command passed_over quiet used too_large r n some is = omega (arith, same_used _ r used n is)
with_block-takes command passed_over quiet used unfinished r n some is = absurd (no_request r n is)
with_block-takes command passed_over quiet used broken r n some is = omega (arith, same_used _ r used n is)
with_block-takes command passed_over quiet used (filled block) r n some is = omega (arith, same_used _ r used n is)

arrived_line-takes : (most : ℕ) (line : RequestLine) (used : ℕ) (rest : List ℕ) (r : Request) (n : ℕ) → 1 ≤ used → arrived_line most line used rest ≡ request r n → 1 ≤ n
arrived_line-takes most (whole command quiet) used rest r n some is = omega (arith, same_used _ r used n is)
arrived_line-takes most (head storage key flags exptime size quiet) used rest r n some is =
    with_block-takes (store storage key flags exptime) (oversize storage key) quiet (used + size + 2) (block_in most size rest) r n (omega arith) is
arrived_line-takes most (meta_head key flags size) used rest r n some is =
    with_block-takes (meta_set key flags) (meta_oversize key flags) false (used + size + 2) (block_in most size rest) r n (omega arith) is

line-takes : (most n : ℕ) (bytes : List ℕ) (r : Request) (used : ℕ) → line_within most n bytes ≡ request r used → 1 ≤ used
line-takes most n bytes r used is = go (position is_feed (take (n + 1) bytes)) refl
  where
    go : (o : Option ℕ) → position is_feed (take (n + 1) bytes) ≡ o → 1 ≤ used
    go None none =
        let long = unended-long most n bytes r used none is in
        omega (arith, same_used _ r (n + 1) used (sym (cond-true _ _ _ (lt-ltb n (length bytes) long)) ∙ sym (ap (line_at most n bytes) none) ∙ is))
    go (Some end) found =
        arrived_line-takes most (request_line (without_one_return (take end bytes))) (end + 1) (drop (end + 1) bytes) r used (omega arith) (sym (ap (line_at most n bytes) found) ∙ is)

pub takes : TakesBytes
takes most bytes r used is = ⊎_elim
    (λ t. omega (arith, same_used _ r 1 used (sym (cond-true _ _ _ t) ∙ is)))
    (λ f. line-takes most (line_limit bytes) bytes r used (sym (cond-false _ _ _ f) ∙ is))
    (cases_Bool (starts_with nat_eq bytes (128 ∷ [])))
