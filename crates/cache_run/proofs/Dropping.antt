-- How a namespace goes on by several calls, and by loads that are given up behind a closing.
use Rattle.std.proofs.Common.{◌≡◌, ◌≢◌, ℕ, zero, suc, ◌-◌, ◌<◌, nat_lt, nat_le, List, [], ◌∷◌, ◌++◌, length, refl, sym, ap, ◌∙◌, subst, arith, slice_set, unwrap_or, ◌≤◌, ◌+◌, Bool, true, false, not, ◌&&◌, ◌||◌, ◌==◌, Some, append_assoc, Option, None, inl, inr, is_none}
use Rattle.std.proofs.lemmas.Bool.Decides.{nat_tests}
use Rattle.std.proofs.lemmas.Bool.{and_parts, ltb-true, cases_Bool, eq-eqb, and_from, cases_lt, ne_eqb, not-true, or_from, or_left, or_right}
use Rattle.std.proofs.lemmas.Grind.{flat_map-append}
use Rattle.std.proofs.lemmas.List.{append-nil}
use Rattle.std.proofs.lemmas.List.Elements.{All-cons, All-nil}
use Rattle.std.proofs.lemmas.List.Folds.{list_any-append}
use Rattle.std.specs.List.{slice_get, flat_map, list_all}
use Rattle.audit_model.specs.Belongs.{refusal_of}
use Rattle.audit_model.specs.Bytewise.{same}
use Rattle.audit_model.specs.Follows.{Follows}
use Rattle.audit_model.specs.Situation.{Situation, PendingLoad, HeldValue, connection_in}
use Rattle.audit_model.specs.declared.config.Config.{Config}
use Rattle.audit_model.specs.declared.input.LoadId.{LoadId}
use Rattle.audit_model.specs.declared.input.ServiceError.{ServiceError}
use Rattle.audit_model.specs.declared.transcript.Note.{Note}
use Rattle.audit_model.specs.declared.transcript.Record.{Record}
use Rattle.audit_laws.proofs.Views.{same-true}
use Rattle.audit_laws.proofs.waiting.Closed.{closed, given-up}
use Rattle.audit_laws.proofs.waiting.Sending.{all-but, all-own, one-of}
use Rattle.audit_laws.specs.Waiting.Alone.{WaitsAlone}
use Rattle.audit_laws.specs.Waiting.Closed.{NobodyWaits}
use Rattle.audit_laws.specs.Waiting.Keys.{HasKey, IsKnown}
use Rattle.audit_laws.specs.Waiting.Sending.{are_all, is_under_way}
use Rattle.audit_laws.specs.Waiting.Tidy.{Tidy}
use Rattle.cache_commands.specs.Loads.Keys.{agrees_on, are_in_turn, has_its_key, have_their_keys}
use Rattle.cache_lines.specs.Gathered.{reply_in}
use Rattle.cache_core.proofs.connections.Getting.{at-other}
use Rattle.cache_core.specs.Settling.{giving_up}
use Rattle.cache_core.specs.State.{at_number, situation_with}
use Rattle.cache_core.specs.Turned.{feeding, notes_in}
use Rattle.cache_spaces.specs.Services.{BareSpace, bare_tape, IsSoundSpace}
use Rattle.cache_spaces.specs.Calls.{IsOpened, TakesOutput, TakesLoads}
use Rattle.cache_spaces.specs.Spaces.{StandsFor, closing_of, config_of, untaken_output, untaken_notes, outgoing_of, place_of, taken_of, known_of, shown_of}
use Rattle.cache_run.proofs.Accounting.{Accounted, adds-no-loads, loads-same, taken-count, taken-or-left, unfound, in-turn-next}
use Rattle.cache_run.proofs.Happening.{IsPlain, plain-record, goes-by, pending-is, sent-is, stays-closed, listed-is, none-where, give-up-first}
use Rattle.cache_run.proofs.Led.{record-one, Led, led-turn, records-more}
use Rattle.cache_run.specs.Loading.{AddsNoLoads, DropsAll, DropsUnwaited, IsUnderWay, is_left, loads_under_way_in, SameButLoads, AreKnown, GivesLoads, OnlyGivesUp, GivesUpLoads}
use Rattle.cache_run.specs.Connected.{HasSituation}
use Rattle.cache_run.specs.Driver.Exchanges.{Outs}
use Rattle.cache_run.specs.Worlds.{LeadsOnAlone}
use Rattle.cache_run.specs.Happened.{Fed, AreSent, record_of, AreDrops}
use Rattle.cache_run.specs.Lent.{Drops, DropsBoth}
use Rattle.cache_spaces.specs.Calls as served

-- one after another
pub goes-more : (number : ℕ) (x y z : BareSpace) (F G H : Situation → Situation → Type 0) → LeadsOnAlone number x y F → LeadsOnAlone number y z G → ((s t u : Situation) → F s t → G t u → H s u) → LeadsOnAlone number x z H
goes-more number x y z F G H a b h = record {
  each = λ s stands alone.
      let first = a.each s stands alone in
      let second = b.each first.next first.stands first.alone in
      record {
        next = second.next;
        stands = second.stands;
        alone = second.alone;
        fact = h s first.next second.next first.fact second.fact;
        others = λ other ne. let p = first.others other ne in let q = second.others other ne in (q.0 ∙ p.0, q.1 ∙ p.1);
      };
  config = b.config ∙ a.config;
}

-- ---- what is the same

-- a namespace of which only loads were taken stands for the same situations
pub still-stands : (was is : BareSpace) (s : Situation) → SameButLoads was is → StandsFor was s → StandsFor is s
still-stands was is s e x = subst (λ y. StandsFor y s) (sym e) (record { held = x.held; stands = x.stands; is = x.is })

-- or of which replies were taken
pub output-stands : (was is : BareSpace) (number : ℕ) (text : List ℕ) (s : Situation) → TakesOutput was is number text → StandsFor was s → StandsFor is s
output-stands was is number text s t x = subst (λ y. StandsFor y s) (sym t.rest) (record { held = x.held; stands = x.stands; is = x.is })

set-other : {A : Type 0} (d x : A) (xs : List A) (number other : ℕ) → 0 < number → other ≢ number → at_number d (slice_set xs (number - 1) x) other ≡ at_number d xs other
set-other d x xs zero other positive ne = absurd (omega (arith, positive))
set-other d x xs (suc place) zero positive ne = refl
set-other {A} d x xs (suc place) (suc index) positive ne = grind (arith, at-other)

set-own : (xs : List (List ℕ)) (number : ℕ) → at_number [] (slice_set xs (number - 1) []) number ≡ []
set-own xs zero = refl
set-own xs (suc place) =
    let place_is : suc place - 1 ≡ place = omega arith in
    ap (λ k. at_number [] (slice_set xs k []) (suc place)) place_is ∙ there xs place
  where
    there : (ys : List (List ℕ)) (i : ℕ) → unwrap_or (slice_get (slice_set ys i []) i) [] ≡ []
    there [] i = refl
    there (y ∷ ys) zero = refl
    there (y ∷ ys) (suc i) = there ys i

opened-positive : (space : BareSpace) (number : ℕ) → IsOpened space number → 0 < number
opened-positive space number opened = ltb-true 0 number (and_parts (nat_lt 0 number) (nat_le number (length space.closings)) opened).0

-- where replies were taken, those of others stay, and each connection is closed as it was
module _ (was is : BareSpace) (number : ℕ) (text : List ℕ) (t : TakesOutput was is number text) where
  pub output-others : (other : ℕ) → other ≢ number → (untaken_output is other ≡ untaken_output was other) × (closing_of is other ≡ closing_of was other)
  output-others other ne = (ap (λ x. untaken_output x other) t.rest ∙ set-other [] [] was.outputs number other (opened-positive was number t.opened) ne, ap (λ x. closing_of x other) t.rest)

  pub output-none : untaken_output is number ≡ []
  output-none = ap (λ x. untaken_output x number) t.rest ∙ set-own was.outputs number

-- a namespace of which only loads were taken
pub goes-same : (number : ℕ) (was is : BareSpace) (F : Situation → Situation → Type 0) → SameButLoads was is → ((s : Situation) → StandsFor was s → F s s) → LeadsOnAlone number was is F
goes-same number was is F same h = record {
  each = λ s stands alone. record { next = s; stands = still-stands was is s same stands; alone = alone; fact = h s stands; others = λ other ne. (ap (λ x. untaken_output x other) same, ap (λ x. closing_of x other) same) };
  config = ap config_of same;
}

-- nothing changed
pub goes-still : (number : ℕ) (x : BareSpace) (F : Situation → Situation → Type 0) → ((s : Situation) → StandsFor x s → F s s) → LeadsOnAlone number x x F
goes-still number x F h = goes-same number x x F refl h

-- replies are taken behind it
pub goes-output : (number : ℕ) (x y z : BareSpace) (text : List ℕ) (F : Situation → Situation → Type 0) → TakesOutput y z number text → LeadsOnAlone number x y F → LeadsOnAlone number x z F
goes-output number x y z text F taken goes = record {
  each = λ s stands alone.
      let first = goes.each s stands alone in
      record {
        next = first.next;
        stands = output-stands y z number text first.next taken first.stands;
        alone = first.alone;
        fact = first.fact;
        others = λ other ne. let p = first.others other ne in let q = output-others y z number text taken other ne in (q.0 ∙ p.0, q.1 ∙ p.1);
      };
  config = ap config_of taken.rest ∙ goes.config;
}

-- ---- a piece

-- the turn of a piece that was fed
pub fed-turn : (config : Config) (number : ℕ) (piece : List ℕ) (moment : ℕ) (entry : Record) (s t : Situation) (before after : List Note) (text : List ℕ) (gone behind : Outs) → Follows config s entry t → entry.event ≡ feeding number piece moment
    → (more : Outs) → AreSent s t more → gone ++ more ≡ behind → after ≡ before ++ notes_in entry → text ≡ flat_map reply_in entry.steps → Led config number s t before after piece (moment ∷ []) [] text gone behind
fed-turn config number piece moment entry s t before after text gone behind follows is more sent whole notices replies =
    let plain = plain-record config s t entry (feeding number piece moment) follows is (subst IsPlain (sym is) tt) in
    let steps = entry.steps in
    led-turn config number s t before after (Fed piece moment steps) text gone behind tt gone refl more sent whole (record-one config s (record_of (feeding number piece moment) steps) t (subst (λ e. Follows config s e t) plain follows))
    (notices ∙ ap (λ e. before ++ notes_in e) plain ∙ ap (λ z. before ++ z) (sym (append-nil (flat_map (λ step. step.notices) steps)))) (replies ∙ sym (append-nil (flat_map reply_in steps)))

-- Loads that are given up behind a closing, and what is under way behind them.

pub are-drops-more : (xs ys : List Record) → AreDrops xs → AreDrops ys → AreDrops (xs ++ ys)
are-drops-more [] ys a b = b
are-drops-more (x ∷ xs) ys a b = (a.0, are-drops-more xs ys a.1 b)

-- loads that were taken leave the namespace the same
pub taken-same : (was is : BareSpace) (loads : List (LoadId × List ℕ)) → TakesLoads was is loads → SameButLoads was is
taken-same was is loads t = t.rest ∙ ap (λ o. record was { outgoing = o }) (sym (ap outgoing_of t.rest))

given-none : (config : Config) (s t : Situation) (before after : List Note) → t ≡ s → after ≡ before → OnlyGivesUp config s t before after
given-none config s t before after same notices = record { drops = []; dropped = tt; follows = ap (λ x. Some x) (sym same); notices = notices ∙ sym (append-nil before) }

given-more : (config : Config) (s t u : Situation) (a b c : List Note) → OnlyGivesUp config s t a b → OnlyGivesUp config t u b c → OnlyGivesUp config s u a c
given-more config s t u a b c x y = record {
  drops = x.drops ++ y.drops;
  dropped = are-drops-more x.drops y.drops x.dropped y.dropped;
  follows = records-more config s x.drops t y.drops u x.follows y.follows;
  notices = y.notices ∙ ap (λ l. l ++ flat_map notes_in y.drops) x.notices ∙ append_assoc a (flat_map notes_in x.drops) (flat_map notes_in y.drops) ∙ ap (λ l. a ++ l) (sym (flat_map-append notes_in x.drops y.drops));
}

-- ---- the keys of loads that were taken

key-out : (out : LoadId × List ℕ) (loads : List PendingLoad) → list_all (agrees_on out) loads ≡ true → HasKey out.0.number out.1 loads
key-out out [] e = tt
key-out out (load ∷ loads) e =
    let parts = and_parts (agrees_on out load) (list_all (agrees_on out) loads) e in
    let own = same-true load.key out.1 in
    (λ is. grind (arith, nat_tests, parts, own), key-out out loads parts.1)

known-taken : (place before : ℕ) (outs : List (LoadId × List ℕ)) (s : Situation) → are_in_turn place before outs ≡ true → before + length outs ≤ s.sent → have_their_keys s.pending outs ≡ true → AreKnown outs s
known-taken place before [] s turn few have = All-nil (λ (o : LoadId × List ℕ). IsKnown o.0.number o.1 s)
known-taken place before (out ∷ outs) s turn few have =
    let ours = in-turn-next place before out outs turn in
    let is = ours.0 in
    let keys = and_parts (has_its_key s.pending out) (have_their_keys s.pending outs) have in
    All-cons (λ (o : LoadId × List ℕ). IsKnown o.0.number o.1 s) out outs (omega (arith, few, is), key-out out s.pending keys.0) (known-taken place (suc before) outs s ours.1 (omega (arith, few)) keys.1)

-- loads that are taken have the keys that they come with
pub known-given : (was is : BareSpace) (loads : List (LoadId × List ℕ)) (s : Situation) → GivesLoads loads was is → StandsFor was s → AreKnown loads s
known-given was is loads s t stands =
    let count = taken-count was is loads t.0 t.1 in
    let sent = sent-is was s stands in
    known-taken (place_of was) (taken_of was) loads s t.1.in_turn (omega (arith, count, sent)) (ap (λ l. have_their_keys l loads) (pending-is was s stands) ∙ t.1.keys)

-- nothing was given up
pub drops-none : (number : ℕ) (was is : BareSpace) → SameButLoads was is → GivesUpLoads number was is
drops-none number was is same = (
  goes-same number was is (λ s t. OnlyGivesUp (config_of was) s t (untaken_notes was) (untaken_notes is)) same (λ s stands. given-none (config_of was) s s (untaken_notes was) (untaken_notes is) refl (ap untaken_notes same)),
  λ closed is_open. closed (sym (ap (λ x. closing_of x number) same) ∙ is_open),
)

-- one after another
pub drops-again : (number : ℕ) (x y z : BareSpace) → GivesUpLoads number x y → GivesUpLoads number y z → GivesUpLoads number x z
drops-again number x y z a b = (
  goes-more number x y z (λ s t. OnlyGivesUp (config_of x) s t (untaken_notes x) (untaken_notes y)) (λ s t. OnlyGivesUp (config_of y) s t (untaken_notes y) (untaken_notes z)) (λ s t. OnlyGivesUp (config_of x) s t (untaken_notes x) (untaken_notes z)) a.0 b.0
      (λ s t u f g. given-more (config_of x) s t u (untaken_notes x) (untaken_notes y) (untaken_notes z) f (subst (λ k. OnlyGivesUp k t u (untaken_notes y) (untaken_notes z)) a.0.config g)),
  λ closed. b.1 (a.1 closed),
)

-- one load was given up
pub drops-one : (number : ℕ) (was is : BareSpace) (load : ℕ) → HasSituation was → served.Settled bare_tape was is (giving_up load 0) → GivesUpLoads number was is
drops-one number was is load begun settled = (
  goes-by was is (giving_up load 0) settled number tt (λ s t. OnlyGivesUp (config_of was) s t (untaken_notes was) (untaken_notes is))
      (λ s t entry event turned follows own stands. record {
        drops = entry ∷ [];
        dropped = ((load, event), tt);
        follows = record-one (config_of was) s entry t follows;
        notices = turned.notes ∙ ap (λ l. untaken_notes was ++ l) (sym (append-nil (notes_in entry)));
      }),
  λ closed is_open. closed (sym (stays-closed was is (giving_up load 0) settled number begun closed) ∙ is_open),
)

-- ---- nobody waits

not-none : {A : Type 0} (o : Option A) → o ≢ None → is_none o ≡ false
not-none None some = absurd (some refl)
not-none (Some x) some = refl

-- who waits does not depend on the values that are held
tidy-with : (x : BareSpace) (held : List HeldValue) → Tidy [] (situation_with shown_of x []) → Tidy [] (situation_with shown_of x held)
tidy-with x held t = record { once = t.once; keys = t.keys }

-- where no other connection waits, and this one has closed, nobody does
pub nobody-behind : (number : ℕ) (x w : BareSpace) (F : Situation → Situation → Type 0) → HasSituation x → IsSoundSpace bare_tape w → IsOpened w number → LeadsOnAlone number x w F → closing_of w number ≢ None → WaitsAlone number (loads_under_way_in x)
    → NobodyWaits (loads_under_way_in w)
nobody-behind number x w F before after opened goes closes alone =
    let g = goes.each before.some before.stands (subst (WaitsAlone number) (sym (pending-is x before.some before.stands)) alone) in
    let tidy = subst (Tidy []) (sym g.stands.is) (tidy-with w g.stands.held after.order.tidy) in
    let gone = none-where (connection_in number g.next) (listed-is w g.next number after g.stands opened ∙ not-none (closing_of w number) closes) in
    subst NobodyWaits (pending-is w g.next g.stands) (closed g.next number tidy g.alone gone)

-- ---- one load is given up

drops-settled : (was is : BareSpace) (load : ℕ) → HasSituation was → served.Settled bare_tape was is (giving_up load 0) → DropsUnwaited (λ n. n == load) was is
drops-settled was is load begun settled none =
    let s = begun.some in
    let x = settled.turned s begun.stands in
    let law = given-up (config_of was) s x.2.next x.0 load _ x.1 x.2.follows (subst NobodyWaits (sym (pending-is was s begun.stands)) none) in
    let p : ℕ → Bool = λ n. is_under_way n s.pending && not (n == load) in
    let own : are_all (λ n. n == load || p n) s.pending ≡ true = all-own (λ n. n == load || p n) s.pending
    (λ n under. elim (cases_Bool (n == load)) [ inl is ↦ or_left (n == load) (p n) is | inr other ↦ or_right (n == load) (p n) (and_from (is_under_way n s.pending) (not (n == load)) under (ap not other)) ]) in
    record {
      taken = settled.stays.taken;
      nobody = subst NobodyWaits (pending-is is x.2.next x.2.stands) law.2;
      loads = λ n under.
          let left = ap (λ (t : Situation). t.pending) (sym law.1) ∙ pending-is is x.2.next x.2.stands in
          let parts = and_parts (is_under_way n s.pending) (not (n == load)) (one-of p n (loads_under_way_in is) (ap (are_all p) (sym left) ∙ all-but p load s.pending own) under) in
          (ap (is_under_way n) (sym (pending-is was s begun.stands)) ∙ parts.0, not-true (n == load) parts.1);
    }

-- ---- several loads are given up

drops-more : (f g h : ℕ → Bool) (x y z : BareSpace) → ((n : ℕ) → f n ≡ false → g n ≡ false → h n ≡ false) → DropsUnwaited f x y → DropsUnwaited g y z → DropsUnwaited h x z
drops-more f g h x y z both p q none =
    let a = p none in
    let b = q a.nobody in
    record {
      taken = b.taken ∙ a.taken;
      nobody = b.nobody;
      loads = λ n under. let later = b.loads n under in let before = a.loads n later.0 in (before.0, both n before.1 later.1);
    }

-- the next of them
not-left : (outs : List (LoadId × List ℕ)) (out : LoadId × List ℕ) (n : ℕ) → is_left n outs ≡ false → (n == out.0.number) ≡ false → is_left n (outs ++ out ∷ []) ≡ false
not-left outs out n a b = grind (arith, ne_eqb, eq-eqb, list_any-append, or_from)

-- those that were taken are given up, then the rest are taken and given up
drops-all : (outs loads : List (LoadId × List ℕ)) (x y z w : BareSpace) → IsSoundSpace bare_tape y → DropsUnwaited (λ n. is_left n outs) x y → TakesLoads y z loads → DropsUnwaited (λ n. is_left n loads) z w → DropsAll outs x w
drops-all outs loads x y z w sound p t q none n under =
    let a = p none in
    let b = q (subst NobodyWaits (sym (loads-same y z loads t)) a.nobody) in
    let last = b.loads n under in
    let middle = ap (is_under_way n) (sym (loads-same y z loads t)) ∙ last.0 in
    let first = a.loads n middle in
    let taken = a.taken in (
      first.0,
      first.1,
      elim (cases_lt (taken_of x) n) [ inl above ↦ (let no : true ≡ false = sym (taken-or-left y z loads n sound t middle (omega (arith, above, taken))) ∙ last.1 in cc) | inr most ↦ most ],
    )

-- each that is under way was kept
pub kept-behind : (x w v : BareSpace) (outs : List (LoadId × List ℕ)) → Accounted x w outs → DropsAll outs w v → NobodyWaits (loads_under_way_in w) → AddsNoLoads x v
kept-behind x w v outs a d none =
    adds-no-loads x v
    (λ n under.
    let left = d none n under in
    let few = left.2 in
    elim (a.loads n left.0) [ inl before ↦ before | inr (inl in_hand) ↦ (let no : true ≡ false = sym in_hand ∙ left.1 in cc) | inr (inr above) ↦ absurd (omega (arith, above, few)) ])

-- where none was under way, none is
pub none-behind : (x v : BareSpace) → AddsNoLoads x v → loads_under_way_in x ≡ [] → loads_under_way_in v ≡ []
none-behind x v adds none = go (loads_under_way_in v) (ap (λ l. are_all (λ n. is_under_way n l) (loads_under_way_in v)) (sym none) ∙ adds)
  where
    go : (loads : List PendingLoad) → are_all (λ n. is_under_way n []) loads ≡ true → loads ≡ []
    go [] e = refl
    go (load ∷ loads) e = let no : false ≡ true = e in cc

-- ---- and nothing else came

module _ (number : ℕ) where
  -- one was given up
  pub dropped-settled : (was is : BareSpace) (load : ℕ) → HasSituation was → served.Settled bare_tape was is (giving_up load 0) → Drops number (λ n. n == load) was is
  dropped-settled was is load begun settled = record { gives = drops-one number was is load begun settled; gone = drops-settled was is load begun settled }

  -- it is not under way
  pub dropped-unknown : (x : BareSpace) (load : ℕ) (e : ServiceError) → refusal_of (config_of x) (known_of x) (giving_up load 0) ≡ Some e → Drops number (λ n. n == load) x x
  dropped-unknown x load e refused = record {
    gives = drops-none number x x refl;
    gone = λ none. record {
      taken = refl;
      nobody = none;
      loads = λ n under. (under, ne_eqb n load (λ e. unfound load (loads_under_way_in x) (give-up-first (config_of x) (known_of x) load _ refused) (subst (IsUnderWay x) e under)));
    };
  }

  -- none was
  pub dropped-none : (x : BareSpace) → Drops number (λ n. is_left n []) x x
  dropped-none x = record { gives = drops-none number x x refl; gone = λ none. record { taken = refl; nobody = none; loads = λ n under. (under, refl) } }

  -- the next of them
  pub dropped-next : (outs all : List (LoadId × List ℕ)) (out : LoadId × List ℕ) (load : ℕ) (x y z : BareSpace) → all ≡ outs ++ out ∷ [] → load ≡ out.0.number → Drops number (λ n. is_left n outs) x y → Drops number (λ n. n == load) y z → Drops number (λ n. is_left n all) x z
  dropped-next outs all out load x y z whole is p q = record {
    gives = drops-again number x y z p.gives q.gives;
    gone = drops-more (λ n. is_left n outs) (λ n. n == load) (λ n. is_left n all) x y z (λ n a b. ap (is_left n) whole ∙ not-left outs out n a (ap (λ m. n == m) (sym is) ∙ b)) p.gone q.gone;
  }

  -- those in hand, and then those that had gone out
  pub dropped-both : (hand loads : List (LoadId × List ℕ)) (x y z w : BareSpace) → Drops number (λ n. is_left n hand) x y → GivesLoads loads y z → Drops number (λ n. is_left n loads) z w → DropsBoth number hand x w
  dropped-both hand loads x y z w p t q = record {
    gives = drops-again number x y w p.gives (drops-again number y z w (drops-none number y z (taken-same y z loads t.1)) q.gives);
    gone = drops-all hand loads x y z w t.0 p.gone t.1 q.gone;
  }
