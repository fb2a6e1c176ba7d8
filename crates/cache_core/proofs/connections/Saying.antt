-- What the words say, after a resident changes, comes or goes.
use Rattle.std.proofs.Common.{refl, sym, ap, ◌∙◌, subst, arith, get_or, inl, inr, lit≤, ◌≡◌, ◌≢◌, ℕ, ◌-◌, ◌<◌, ◌≤◌, List, [], ◌∷◌, ◌++◌, length, Option, Some, None, if◌then◌else◌, true, false, slice_set}
use Rattle.std.proofs.lemmas.Bool.{cases_eq, cases_lt, le-ltb, lt-ltb}
use Rattle.std.proofs.lemmas.List.{length-append, length-map, length-set, map-append, map-set}
use Rattle.std.proofs.lemmas.Option.{same_Some, slice_get-map, slice_get_within}
use Rattle.std.specs.List.{slice_get}
use Rattle.std.specs.Option.{option_map}
use Rattle.audit_model.specs.declared.command.Closing.{Closing}
use Rattle.cache_core.specs.Connections.Presence.{Gone, Here, Out, Presence, is_here}
use Rattle.cache_core.specs.Connections.Residents.{AreMatched, AreSettled, first_reason, held_or_out, places_of, presence_by, presence_held, presences_of, reason_numbered, reason_word}
use Rattle.cache_core.specs.Connections.Words.{StandsApart}
use Rattle.cache_core.specs.declared.connections.residents.Resident.{Resident}
use Rattle.audit_model.specs.declared.command.Closing.TheVariants as by
use Rattle.cache_core.specs.declared.connection.connection.Connection.{Connection}
use Rattle.cache_core.proofs.connections.Getting.{at-end, at-front, at-other, at-place, at-replaced, ext-get, map-same}
use Rattle.cache_core.proofs.connections.Matching.{matched-more, matched-moved, matched-shorter}

pub by-index : (rs : List Resident) (w : ℕ) → w < first_reason → presence_by rs w ≡ presence_held (slice_get rs w)
by-index rs w lt = ap (λ b. if b then presence_held (slice_get rs w) else Gone (reason_numbered (w - first_reason))) (lt-ltb w first_reason lt)

pub by-reason : (rs : List Resident) (w : ℕ) → first_reason ≤ w → presence_by rs w ≡ Gone (reason_numbered (w - first_reason))
by-reason rs w le = ap (λ b. if b then presence_held (slice_get rs w) else Gone (reason_numbered (w - first_reason))) (le-ltb w first_reason le)

pub is-reason : (why : Closing) → first_reason ≤ reason_word why
is-reason by.Asked = lit≤ tt
is-reason by.Quit = lit≤ tt
is-reason by.Long = lit≤ tt
is-reason by.Behind = lit≤ tt

same-reason : (why : Closing) → reason_numbered (reason_word why - first_reason) ≡ why
same-reason by.Asked = refl
same-reason by.Quit = refl
same-reason by.Long = refl
same-reason by.Behind = refl

pub by-why : (rs : List Resident) (why : Closing) → presence_by rs (reason_word why) ≡ Gone why
by-why rs why = by-reason rs (reason_word why) (is-reason why) ∙ ap Gone (same-reason why)

-- a word says the same of residents that agree at its index
pub by-same : (rs ss : List Resident) (w : ℕ) → (w < first_reason → slice_get ss w ≡ slice_get rs w) → presence_by ss w ≡ presence_by rs w
by-same rs ss w same = elim (cases_lt w first_reason) [
  | inl lt ↦ by-index ss w lt ∙ ap presence_held (same lt) ∙ sym (by-index rs w lt)
  | inr le ↦ by-reason ss w le ∙ sym (by-reason rs w le)
]

pub place-there : (rs : List Resident) (w : ℕ) (r : Resident) → slice_get rs w ≡ Some r → slice_get (places_of rs) w ≡ Some r.place
place-there rs w r e = slice_get-map (λ (r : Resident). r.place) rs w ∙ ap (option_map (λ (r : Resident). r.place)) e

-- the resident that an index names
pub resident-there : (rs : List Resident) (ws : List ℕ) (i w : ℕ) → AreSettled rs ws → slice_get ws i ≡ Some w → w < first_reason → w < length rs
resident-there rs ws i w m at lt =
    let l = slice_get_within (places_of rs) w i (m.owned i w at lt) in
    let e = length-map rs (λ (r : Resident). r.place) in
    omega arith

-- what stands at a place
pub said-at : (rs : List Resident) (ws : List ℕ) (i w : ℕ) → slice_get ws i ≡ Some w → slice_get (presences_of rs ws) i ≡ Some (presence_by rs w)
said-at rs ws i w at = slice_get-map (presence_by rs) ws i ∙ ap (option_map (presence_by rs)) at

-- all that the words say, where one place says something else
pub says : (rs ss : List Resident) (ws vs : List ℕ) (i : ℕ) (p : Presence) → i < length ws → slice_get (presences_of ss vs) i ≡ Some p
    → ((j : ℕ) → j ≢ i → option_map (presence_by ss) (slice_get vs j) ≡ option_map (presence_by rs) (slice_get ws j))
    → presences_of ss vs ≡ slice_set (presences_of rs ws) i p
says rs ss ws vs i p lt at others = ext-get (presences_of ss vs) (slice_set (presences_of rs ws) i p) each
  where
    each : (j : ℕ) → slice_get (presences_of ss vs) j ≡ slice_get (slice_set (presences_of rs ws) i p) j
    each j = elim (cases_eq j i) [
      | inl same ↦
          ap (slice_get (presences_of ss vs)) same ∙ at
          ∙ sym (ap (slice_get (slice_set (presences_of rs ws) i p)) same ∙ at-replaced (presences_of rs ws) i p (let e = length-map ws (presence_by rs) in omega arith))
      | inr other ↦
          slice_get-map (presence_by ss) vs j ∙ others j other ∙ sym (at-other (presences_of rs ws) j i p other ∙ slice_get-map (presence_by rs) ws j)
    ]

-- a word elsewhere says the same
option-same : (rs ss : List Resident) (o : Option ℕ) → ((v : ℕ) → o ≡ Some v → v < first_reason → slice_get ss v ≡ slice_get rs v) → option_map (presence_by ss) o ≡ option_map (presence_by rs) o
option-same rs ss None same = refl
option-same rs ss (Some v) same = ap Some (by-same rs ss v (same v refl))

-- ---- a resident changes

pub changed : (rs : List Resident) (ws : List ℕ) (i w : ℕ) (r : Resident) → AreSettled rs ws → slice_get ws i ≡ Some w → w < first_reason
    → presences_of (slice_set rs w r) ws ≡ slice_set (presences_of rs ws) i (held_or_out r.connection)
changed rs ws i w r m at lt =
    says rs (slice_set rs w r) ws ws i (held_or_out r.connection) (slice_get_within ws i w at)
    (said-at (slice_set rs w r) ws i w at ∙ ap Some (by-index (slice_set rs w r) w lt ∙ ap presence_held (at-replaced rs w r (resident-there rs ws i w m at lt))))
    (λ j other. option-same rs (slice_set rs w r) (slice_get ws j) (λ v e small. at-other rs v w r (λ same.
    other (same_Some j i (sym (m.owned j v e small) ∙ ap (slice_get (places_of rs)) same ∙ m.owned i w at lt)))))

pub changed-settled : (rs : List Resident) (ws : List ℕ) (w : ℕ) (old new : Resident) → AreSettled rs ws → slice_get rs w ≡ Some old → new.place ≡ old.place → AreSettled (slice_set rs w new) ws
changed-settled rs ws w old new m at e = subst (λ ps. AreMatched ps ws) (sym (map-same (λ (r : Resident). r.place) rs w old new at e)) m

-- ---- a resident comes

module _ (rs : List Resident) (ws : List ℕ) (c : Connection) (m : AreSettled rs ws) (lt : length rs < first_reason) where
  abbrev comer : Resident
  comer = record { place = length ws; connection = Some c }

  abbrev more : List Resident
  more = rs ++ comer ∷ []

  same-each : (j : ℕ) → slice_get (presences_of more ws) j ≡ slice_get (presences_of rs ws) j
  same-each j =
      slice_get-map (presence_by more) ws j
      ∙ option-same rs more (slice_get ws j) (λ v e small. at-front rs comer v (resident-there rs ws j v m e small))
      ∙ sym (slice_get-map (presence_by rs) ws j)

  pub added : presences_of more (ws ++ length rs ∷ []) ≡ presences_of rs ws ++ Here c ∷ []
  added =
      map-append (presence_by more) ws (length rs ∷ [])
      ∙ ap (λ ps. ps ++ presence_by more (length rs) ∷ []) (ext-get (presences_of more ws) (presences_of rs ws) same-each)
      ∙ ap (λ p. presences_of rs ws ++ p ∷ []) (by-index more (length rs) lt ∙ ap presence_held (at-end rs comer))

  pub added-settled : AreSettled more (ws ++ length rs ∷ [])
  added-settled =
      let e = length-map rs (λ (r : Resident). r.place) in
      subst (λ ps. AreMatched ps (ws ++ length rs ∷ [])) (sym (map-append (λ (r : Resident). r.place) rs (comer ∷ [])))
      (subst (λ n. AreMatched (places_of rs ++ length ws ∷ []) (ws ++ n ∷ [])) e (matched-more (places_of rs) ws m (omega arith)))

-- ---- a resident goes

module _ (rs : List Resident) (last : Resident) (ws : List ℕ) (i w : ℕ) (why : Closing) (m : AreSettled (rs ++ last ∷ []) ws) (at : slice_get ws i ≡ Some w) (lt : w < first_reason) where
  abbrev code : ℕ
  code = reason_word why

  matched : AreMatched (places_of rs ++ last.place ∷ []) ws
  matched = subst (λ ps. AreMatched ps ws) (map-append (λ (r : Resident). r.place) rs (last ∷ [])) m

  count : length (places_of rs) ≡ length rs
  count = length-map rs (λ (r : Resident). r.place)

  within : i < length ws
  within = slice_get_within ws i w at

  -- a word that is of another place names another resident
  apart : (j v : ℕ) → j ≢ i → slice_get ws j ≡ Some v → v < first_reason → v ≢ w
  apart j v other e small same = other (same_Some j i (sym (m.owned j v e small) ∙ ap (slice_get (places_of (rs ++ last ∷ []))) same ∙ m.owned i w at lt))

  below : (j v : ℕ) → slice_get ws j ≡ Some v → v < first_reason → v ≢ length rs → v < length rs
  below j v e small other = let l = resident-there (rs ++ last ∷ []) ws j v m e small in let k = length-append rs (last ∷ []) in omega (arith, other)

  -- the last one goes
  pub shorter-settled : length rs ≤ w → AreSettled rs (slice_set ws i code)
  shorter-settled le = matched-shorter (places_of rs) last.place ws i w code matched at lt (let e = count in omega arith) (is-reason why)

  pub shorter : length rs ≤ w → presences_of rs (slice_set ws i code) ≡ slice_set (presences_of (rs ++ last ∷ []) ws) i (Gone why)
  shorter le =
      let is_last : w ≡ length rs = let l = resident-there (rs ++ last ∷ []) ws i w m at lt in let k = length-append rs (last ∷ []) in omega arith in
      says (rs ++ last ∷ []) rs ws (slice_set ws i code) i (Gone why) within
      (said-at rs (slice_set ws i code) i code (at-replaced ws i code within) ∙ ap Some (by-why rs why))
      (λ j other.
      ap (option_map (presence_by rs)) (at-other ws j i code other)
      ∙ option-same (rs ++ last ∷ []) rs (slice_get ws j) (λ v e small. sym (at-front rs last v (below j v e small (λ same. apart j v other e small (same ∙ sym is_last))))))

  -- the last one moves into the gap
  pub moved-settled : w < length rs → AreSettled (slice_set rs w last) (slice_set (slice_set ws i code) last.place w)
  moved-settled inside =
      subst (λ ps. AreMatched ps (slice_set (slice_set ws i code) last.place w)) (sym (map-set (λ (r : Resident). r.place) rs w last))
      (matched-moved (places_of rs) last.place ws i w code matched at lt (let e = count in omega arith) (is-reason why))

  abbrev closed_up : List Resident
  closed_up = slice_set rs w last

  abbrev renamed : List ℕ
  renamed = slice_set (slice_set ws i code) last.place w

  pub last-word-at : slice_get ws last.place ≡ Some (length rs)
  last-word-at = m.placed (length rs) last.place (place-there (rs ++ last ∷ []) (length rs) last (at-end rs last))

  pub last-within : last.place < length ws
  last-within = slice_get_within ws last.place (length rs) last-word-at

  pub small-end : length rs < first_reason
  small-end = let f = m.few in let e = length-map (rs ++ last ∷ []) (λ (r : Resident). r.place) in let k = length-append rs (last ∷ []) in omega arith

  pub away : w < length rs → last.place ≢ i
  away inside same = let is : length rs ≡ w = same_Some (length rs) w (sym last-word-at ∙ ap (slice_get ws) same ∙ at) in absurd (omega arith)

  wide : last.place < length (slice_set ws i code)
  wide = let l = slice_get_within ws last.place (length rs) last-word-at in let e = length-set ws i code in omega arith

  elsewhere : w < length rs → (j : ℕ) → j ≢ i → option_map (presence_by closed_up) (slice_get renamed j) ≡ option_map (presence_by (rs ++ last ∷ [])) (slice_get ws j)
  elsewhere inside j other = elim (cases_eq j last.place) [
    | inl same ↦
        ap (λ k. option_map (presence_by closed_up) (slice_get renamed k)) same
        ∙ ap (option_map (presence_by closed_up)) (at-replaced (slice_set ws i code) last.place w wide)
        ∙ ap Some (by-index closed_up w lt ∙ ap presence_held (at-replaced rs w last inside ∙ sym (at-end rs last)) ∙ sym (by-index (rs ++ last ∷ []) (length rs) small-end))
        ∙ sym (ap (λ k. option_map (presence_by (rs ++ last ∷ [])) (slice_get ws k)) same ∙ ap (option_map (presence_by (rs ++ last ∷ []))) last-word-at)
    | inr distinct ↦
        ap (option_map (presence_by closed_up)) (at-other (slice_set ws i code) j last.place w distinct ∙ at-other ws j i code other)
        ∙ option-same (rs ++ last ∷ []) closed_up (slice_get ws j) (λ v e small.
        at-other rs v w last (apart j v other e small)
        ∙ sym (at-front rs last v (below j v e small (λ same. distinct (same_Some j last.place (sym (m.owned j v e small) ∙ place-there (rs ++ last ∷ []) v last (ap (slice_get (rs ++ last ∷ [])) same ∙ at-end rs last)))))))
  ]

  pub moved : w < length rs → presences_of closed_up renamed ≡ slice_set (presences_of (rs ++ last ∷ []) ws) i (Gone why)
  moved inside =
      says (rs ++ last ∷ []) closed_up ws renamed i (Gone why) within
      (said-at closed_up renamed i code (at-other (slice_set ws i code) i last.place w (λ same. away inside (sym same)) ∙ at-replaced ws i code within) ∙ ap Some (by-why closed_up why))
      (elsewhere inside)

-- ---- the word of a place

within-from : (ps : List Presence) (i : ℕ) (o : Option Presence) → slice_get ps i ≡ o → is_here o ≡ true → i < length ps
within-from ps i (Some p) e here = slice_get_within ps i p e
within-from ps i None e here = let no : false ≡ true = here in cc

pub within-here : (ps : List Presence) (i : ℕ) → is_here (slice_get ps i) ≡ true → i < length ps
within-here ps i here = within-from ps i (slice_get ps i) refl here

-- a place whose connection has not gone has an index for its word
pub index-unless : (rs : List Resident) (ws : List ℕ) (i w : ℕ) → slice_get ws i ≡ Some w → ((why : Closing) → slice_get (presences_of rs ws) i ≡ Some (Gone why) → ⊥) → w < first_reason
index-unless rs ws i w at stays = elim (cases_lt w first_reason) [
  | inl lt ↦ lt
  | inr le ↦ absurd (stays (reason_numbered (w - first_reason)) (said-at rs ws i w at ∙ ap Some (by-reason rs w le)))
]

pub index-here : (rs : List Resident) (ws : List ℕ) (i w : ℕ) → slice_get ws i ≡ Some w → is_here (slice_get (presences_of rs ws) i) ≡ true → w < first_reason
index-here rs ws i w at here = index-unless rs ws i w at (λ why gone. let no : false ≡ true = sym (ap is_here gone) ∙ here in cc)

pub index-out : (rs : List Resident) (ws : List ℕ) (i w : ℕ) → slice_get ws i ≡ Some w → slice_get (presences_of rs ws) i ≡ Some Out → w < first_reason
index-out rs ws i w at out = index-unless rs ws i w at (λ why gone. let no : Out ≡ Gone why = same_Some Out (Gone why) (sym out ∙ gone) in cc)

-- what stands at a place whose word is an index
pub held-at : (rs : List Resident) (ws : List ℕ) (i w : ℕ) (r : Resident) → slice_get ws i ≡ Some w → w < first_reason → slice_get rs w ≡ Some r → slice_get (presences_of rs ws) i ≡ Some (held_or_out r.connection)
held-at rs ws i w r at lt there = said-at rs ws i w at ∙ ap Some (by-index rs w lt ∙ ap presence_held there)

-- ---- what is found at a place of the whole

module _ (rs : List Resident) (ws : List ℕ) (ps : List Presence) (is : presences_of rs ws ≡ ps) (i w : ℕ) where
  -- it has a word
  pub has-word : i < length ps → i < length ws
  has-word within = let e = ap length is in let m = length-map ws (presence_by rs) in omega (arith, e, m, within)

  -- by the word there
  pub resident-in : AreSettled rs ws → slice_get ws i ≡ Some w → w < first_reason → w < length rs
  resident-in settled at small = resident-there rs ws i w settled at small

  pub said-in : slice_get ws i ≡ Some w → slice_get ps i ≡ Some (presence_by rs w)
  said-in at = ap (λ qs. slice_get qs i) (sym is) ∙ said-at rs ws i w at

  pub held-in : AreSettled rs ws → (r : Resident) → slice_get ws i ≡ Some w → w < first_reason → r ≡ get_or rs w r → slice_get ps i ≡ Some (held_or_out r.connection)
  held-in settled r at small there = ap (λ qs. slice_get qs i) (sym is) ∙ held-at rs ws i w r at small (at-place rs w r (resident-in settled at small) there)

  -- of a connection that is here, or out
  pub small-here : is_here (slice_get ps i) ≡ true → slice_get ws i ≡ Some w → w < first_reason
  small-here here at = index-here rs ws i w at (ap (λ qs. is_here (slice_get qs i)) is ∙ here)

  pub small-out : slice_get ps i ≡ Some Out → slice_get ws i ≡ Some w → w < first_reason
  small-out out at = index-out rs ws i w at (ap (λ qs. slice_get qs i) is ∙ out)

-- ---- a word that names a resident differs from all others

pub apart-at : (ps ws : List ℕ) (i w : ℕ) → AreMatched ps ws → slice_get ws i ≡ Some w → w < first_reason → StandsApart ws i
apart-at ps ws i w m at small = record {
  before = λ other e same. absurd (omega (arith, e, other-is other same));
  behind = λ other e same. absurd (omega (arith, e, other-is other same));
}
  where
    other-is : (other : ℕ) → slice_get ws other ≡ slice_get ws i → other ≡ i
    other-is other same = same_Some other i (sym (m.owned other w (same ∙ at) small) ∙ m.owned i w at small)

-- also after a word was set that says why one is gone
pub apart-after : (ps ws : List ℕ) (i j w code : ℕ) → AreMatched ps ws → slice_get ws j ≡ Some w → w < first_reason → first_reason ≤ code → j ≢ i → i < length ws → StandsApart (slice_set ws i code) j
apart-after ps ws i j w code m at small reason away within = record {
  before = λ other e same. absurd (omega (arith, e, other-is other same));
  behind = λ other e same. absurd (omega (arith, e, other-is other same));
}
  where
    still : slice_get (slice_set ws i code) j ≡ Some w
    still = at-other ws j i code away ∙ at

    other-is : (other : ℕ) → slice_get (slice_set ws i code) other ≡ slice_get (slice_set ws i code) j → other ≡ j
    other-is other same = elim (cases_eq other i) [
      | inl there ↦
          let is : code ≡ w = same_Some code w (sym (at-replaced ws i code within) ∙ ap (slice_get (slice_set ws i code)) (sym there) ∙ same ∙ still) in
          absurd (omega (arith, is, small, reason))
      | inr apart ↦ same_Some other j (sym (m.owned other w (sym (at-other ws other i code apart) ∙ same ∙ still) small) ∙ m.owned j w at small)
    ]
