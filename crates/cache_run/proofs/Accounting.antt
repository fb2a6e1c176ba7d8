-- What becomes of the loads of a namespace, call by call, and over an exchange.
use Rattle.std.proofs.Common.{◌≡◌, ℕ, suc, ◌≤◌, true, false, ◌==◌, List, [], ◌∷◌, ◌++◌, Option, Some, None, sym, ap, ◌∙◌, subst, arith, nat_lt, refl, IfSome, ◌+◌, ◌-◌, ◌<◌, ◌||◌, not, nat_le, Bool, length, is_some, inl, inr, ◌⊎◌}
use Rattle.std.proofs.lemmas.Bool.{and_parts, eq-eqb, eqb-true, or_left, or_right, cases_lt, leb-true, ltb-true, or_cases}
use Rattle.std.proofs.lemmas.List.{append_assoc, append-nil}
use Rattle.std.proofs.lemmas.List.Folds.{list_any-append}
use Rattle.std.proofs.lemmas.Option.{same_Some}
use Rattle.std.specs.List.{list_all, find}
use Rattle.std.specs.Option.{option_map_or, option_map}
use Rattle.audit_model.specs.Bytewise.{same}
use Rattle.audit_model.specs.Follows.{Follows, after_event, tasks_in}
use Rattle.audit_model.specs.Situation.{Situation, PendingLoad}
use Rattle.audit_model.specs.declared.event.Event.{Event}
use Rattle.audit_model.specs.declared.input.LoadId.{LoadId}
use Rattle.audit_model.specs.declared.transcript.Record.{Record}
use Rattle.audit_laws.proofs.waiting.Sending.{all-own, one-of, send-later, settle}
use Rattle.audit_laws.specs.Waiting.Sending.{IsSettlingOf, are_all, is_under_way}
use Rattle.cache_commands.specs.Loads.Keys.{are_in_turn}
use Rattle.cache_core.specs.Settling.{answering, giving_up}
use Rattle.cache_core.specs.Turned.{SendsBehind, Turned, is_sent, feeding}
use Rattle.cache_spaces.specs.Services.{BareSpace, bare_tape, IsSoundSpace}
use Rattle.cache_spaces.specs.Calls.{ServesEvent, Settled, TakesLoads, TakesOutput}
use Rattle.cache_spaces.specs.Spaces.{StandsFor, config_of, outgoing_of, place_of, taken_of, shown_of}
use Rattle.cache_run.proofs.Happening.{pending-is, sent-is, IsPlain, quiet-steps, happened-so}
use Rattle.cache_run.specs.Loading.{AddsNoLoads, IsUnderWay, is_left, loads_under_way_in}
use Rattle.cache_run.specs.Connected.{HasSituation}
use Rattle.cache_run.specs.Driver.Drives.{IsOfHand}
use Rattle.cache_run.specs.Driver.Exchanges.{Doing, EachOut, ComeIntoHand, Outs, asks_of, load_number, settling_asking, Exchange, Hands, IsLastInHand, LeavesInHand}
use Rattle.cache_run.specs.Happened.{AreSent, AskForSent, Picks}
use Rattle.cache_run.specs.Lent.{MayGiveLoads, ExchangeCame, WasDone}
use Rattle.cache_spaces.specs.Calls as served
use Rattle.cache_run.specs.Driver.Exchanges as did

-- loads in turn begin with the next one
pub in-turn-next : (place before : ℕ) (out : LoadId × List ℕ) (outs : Outs) → are_in_turn place before (out ∷ outs) ≡ true → (out.0.number ≡ suc before) × (are_in_turn place (suc before) outs ≡ true)
in-turn-next place before out outs turn = grind (arith, and_parts, eqb-true)

-- ---- an event

-- the loads that it sends are there to be taken behind those that were
pub sent-behind : (was is : BareSpace) (happened : Event) (s t : Situation) (entry : Record) → served.Settled bare_tape was is happened → Turned shown_of bare_tape was is s entry → Follows (config_of was) s entry t → StandsFor was s
    → (more : Outs) × AreSent s t more × (outgoing_of is ≡ outgoing_of was ++ more)
sent-behind was is happened s t entry settled turned follows stands =
    let sends : SendsBehind was is = settled.stays.sends in
    let behind = subst (λ u. StandsFor is u) (same_Some turned.next t (sym turned.follows ∙ follows)) turned.stands in
    let before = sent-is was s stands in (
      sends.loads,
      record {
        place = was.namespace;
        in_turn = subst (λ n. are_in_turn was.namespace n sends.loads ≡ true) (sym before) sends.in_turn;
        count = sent-is is t behind ∙ sends.count ∙ ap (λ n. n + length sends.loads) (sym before);
        keys = ap (λ l. list_all (is_sent l) sends.loads) (pending-is is t behind) ∙ sends.keys;
      },
      sends.behind,
    )

-- a situation that stays sends none
pub sent-none : (s : Situation) → AreSent s s []
sent-none s = record { place = 0; in_turn = refl; count = omega arith; keys = refl }

-- ---- the hand

-- the last load in hand is taken out of those that went out
pub takes-last : (hand outs rest : Outs) (load : ℕ) (key : List ℕ) → IsLastInHand hand load key rest → Picks load key (hand ++ outs) (rest ++ outs)
takes-last hand outs rest load key last = record {
  front = rest;
  back = outs;
  id = last.0;
  number = last.1;
  whole = ap (λ h. h ++ outs) last.2 ∙ append_assoc rest ((last.0, key) ∷ []) outs;
  others = refl;
}

-- for what was refused the loader was asked by the key of a load in hand
pub asked-refused : (hand outs : Outs) (refused : Option Doing) → IfSome refused (IsOfHand hand) → AskForSent (option_map_or asks_of refused []) (hand ++ outs)
asked-refused hand outs None of = tt
asked-refused hand outs (Some (did.Fed piece moment held)) of = tt
asked-refused hand outs (Some (did.Settled settling moment)) of =
    (load_number settling, of.0 ++ outs, takes-last hand outs of.0 (load_number settling) (settling_asking settling).key of.1, tt)
asked-refused hand outs (Some did.Looked) of = tt

-- ---- loads are taken

-- they come into the hand
pub gone-same : (was is : BareSpace) (loads : Option Outs) (rest after : Outs) → MayGiveLoads loads was is → ComeIntoHand loads rest after → after ++ outgoing_of is ≡ rest ++ outgoing_of was
gone-same was is None rest after same keeps = ap (λ outs. outs ++ outgoing_of is) keeps ∙ ap (λ y. rest ++ outgoing_of y) same
gone-same was is (Some loads) rest after t keeps = grind (arith, append-nil)

-- What becomes of the loads of a namespace, call by call, and over an exchange.

-- ---- loads are sent later, or not at all

-- each load under way was so before
abbrev pub AddsNone : BareSpace → BareSpace → Type 0
AddsNone was is = (n : ℕ) → IsUnderWay is n → IsUnderWay was n

pub adds-no-loads : (was is : BareSpace) → AddsNone was is → AddsNoLoads was is
adds-no-loads was is adds = all-own (λ n. is_under_way n (loads_under_way_in was)) (loads_under_way_in is) adds

-- no load was taken, and none was added
pub record KeepsLoads (was is : BareSpace) : Type 0 where
  pub taken : taken_of is ≡ taken_of was
  pub adds : AddsNone was is

-- no load was taken, and each that is under way was so before, or has not been taken
pub record SendsLater (was is : BareSpace) : Type 0 where
  pub taken : taken_of is ≡ taken_of was
  pub loads : (n : ℕ) → IsUnderWay is n → IsUnderWay was n ⊎ (taken_of was < n)

-- and a load that was taken before is not under way
pub record SettlesLoad (number : ℕ) (was is : BareSpace) : Type 0 where
  pub later : SendsLater was is
  pub settled : number ≤ taken_of was → IsUnderWay is number → ⊥

pub later-kept : (was is : BareSpace) → KeepsLoads was is → SendsLater was is
later-kept was is k = record { taken = k.taken; loads = λ n under. inl (k.adds n under) }

later-same : (x : BareSpace) → SendsLater x x
later-same x = record { taken = refl; loads = λ n under. inl under }

later-happened : (was is : BareSpace) (happened : Event) → HasSituation was → Settled bare_tape was is happened → SendsLater was is
later-happened was is happened begun h =
    let s = begun.some in
    let x = h.turned s begun.stands in
    let t = x.2.next in
    let sent = sent-is was s begun.stands in
    record {
      taken = h.stays.taken;
      loads = λ n under.
          elim (or_cases (is_under_way n s.pending) (nat_lt s.sent n) (one-of (λ m. is_under_way m s.pending || nat_lt s.sent m) n t.pending (send-later (config_of was) s t x.0 x.2.follows) (ap (is_under_way n) (pending-is is t x.2.stands) ∙ under))) [
            | inl old ↦ inl (ap (is_under_way n) (sym (pending-is was s begun.stands)) ∙ old)
            | inr later ↦ (let above = ltb-true s.sent n later in inr (omega (arith, above, sent)))
          ];
    }

later-output : (was is : BareSpace) (number : ℕ) (text : List ℕ) → TakesOutput was is number text → SendsLater was is
later-output was is number text t = subst (SendsLater was) (sym t.rest) (record { taken = refl; loads = λ n under. inl under })

-- ---- a load is settled

not-self : (number : ℕ) → not (number == number) ≡ true → ⊥
not-self number other = let no : false ≡ true = sym (ap not (eq-eqb number number refl)) ∙ other in cc

settles-load : (number : ℕ) (was is : BareSpace) (happened : Event) → IsSettlingOf number happened → HasSituation was → Settled bare_tape was is happened → SettlesLoad number was is
settles-load number was is happened of begun h = record {
  later = later-happened was is happened begun h;
  settled = λ taken under.
      let x = h.turned begun.some begun.stands in
      let sent = sent-is was begun.some begun.stands in
      not-self number
      (one-of (λ n. not (n == number)) number x.2.next.pending (settle (config_of was) begun.some x.2.next x.0 number x.2.follows (subst (IsSettlingOf number) (sym x.1) of) (omega (arith, sent, taken)))
      (ap (is_under_way number) (pending-is is x.2.next x.2.stands) ∙ under));
}

-- no load of that number is under way
pub unfound : (number : ℕ) (loads : List PendingLoad) → is_some (option_map (λ (load : PendingLoad). load.key) (find (λ load. load.number == number) loads)) ≡ false → is_under_way number loads ≡ true → ⊥
unfound number [] none under = let no : false ≡ true = under in cc
unfound number (load ∷ loads) none under = grind (arith, unfound number loads)

-- ---- what is known of the loads of a namespace

-- Those in hand were taken, and each that is under way was so in the first namespace, or is in hand, or has not been taken.
pub record Accounted (first x : BareSpace) (hand : Outs) : Type 0 where
  pub taken : (n : ℕ) → is_left n hand ≡ true → n ≤ taken_of x
  pub loads : (n : ℕ) → IsUnderWay x n → IsUnderWay first n ⊎ (is_left n hand ≡ true) ⊎ (taken_of x < n)

-- that stays so: none is lost
abbrev pub Accounts : BareSpace → BareSpace → Outs → Outs → Type 0
Accounts was is before after = (first : BareSpace) → Accounted first was before → Accounted first is after

-- nothing is in hand at first
pub accounted-none : (x : BareSpace) → Accounted x x []
accounted-none x = record { taken = λ n left. let no : false ≡ true = left in cc; loads = λ n under. inl under }

-- where no load is taken
pub accounts-later : (was is : BareSpace) (hand : Outs) → SendsLater was is → Accounts was is hand hand
accounts-later was is hand l first a =
    let same = l.taken in
    record {
      taken = λ n left. let few = a.taken n left in omega (arith, few, same);
      loads = λ n under.
          elim (l.loads n under) [ inl before ↦ subst (λ (t : ℕ). IsUnderWay first n ⊎ (is_left n hand ≡ true) ⊎ (t < n)) (sym same) (a.loads n before) | inr later ↦ inr (inr (omega (arith, later, same))) ];
    }

accounts-none : (was is : BareSpace) (hand rest : Outs) → is ≡ was → rest ≡ hand → Accounts was is hand rest
accounts-none was is hand rest same left = subst (λ y. Accounts was y hand rest) (sym same) (subst (λ outs. Accounts was was hand outs) (sym left) (accounts-later was was hand (later-same was)))

-- ---- loads are taken

in-turn-has : (place before : ℕ) (outs : Outs) (n : ℕ) → are_in_turn place before outs ≡ true → before < n → n ≤ before + length outs → is_left n outs ≡ true
in-turn-has place before [] n turn above few = absurd (omega (arith, above, few))
in-turn-has place before (out ∷ outs) n turn above few = grind (arith, in-turn-next, cases_lt, or_right, or_left, eq-eqb, in-turn-has place (suc before) outs n)

in-turn-few : (place before : ℕ) (outs : Outs) (n : ℕ) → are_in_turn place before outs ≡ true → is_left n outs ≡ true → n ≤ before + length outs
in-turn-few place before [] n turn left = let no : false ≡ true = left in cc
in-turn-few place before (out ∷ outs) n turn left = grind (arith, in-turn-next, or_cases, eqb-true, in-turn-few place (suc before) outs n)

-- a load under way was sent
pub sent-under : (x : BareSpace) (n : ℕ) → IsSoundSpace bare_tape x → IsUnderWay x n → n ≤ x.sent
sent-under x n sound under = leb-true n x.sent (one-of (λ m. nat_le m x.sent) n (loads_under_way_in x) sound.suits.sent under)

-- those that were taken are the last that were sent
pub taken-count : (was is : BareSpace) (loads : Outs) → IsSoundSpace bare_tape was → TakesLoads was is loads → taken_of was + length loads ≡ was.sent
taken-count was is loads sound t = let count = ap length t.taken in let few = sound.suits.fewer in omega (arith, count, few)

-- so one under way was taken before, or is one of them
pub taken-or-left : (was is : BareSpace) (loads : Outs) (n : ℕ) → IsSoundSpace bare_tape was → TakesLoads was is loads → IsUnderWay was n → taken_of was < n → is_left n loads ≡ true
taken-or-left was is loads n sound t under above = grind (arith, taken-count, sent-under, in-turn-has)

pub loads-same : (was is : BareSpace) (loads : Outs) → TakesLoads was is loads → loads_under_way_in is ≡ loads_under_way_in was
loads-same was is loads t = ap loads_under_way_in t.rest

accounts-taken : (was is : BareSpace) (loads : Outs) → IsSoundSpace bare_tape was → TakesLoads was is loads → Accounts was is [] loads
accounts-taken was is loads sound t first a =
    let count = taken-count was is loads sound t in
    let now : taken_of is ≡ was.sent - 0 = ap taken_of t.rest in
    record {
      taken = λ n left. let few = in-turn-few (place_of was) (taken_of was) loads n t.in_turn left in omega (arith, few, count, now);
      loads = λ n under.
          let before : IsUnderWay was n = ap (is_under_way n) (sym (loads-same was is loads t)) ∙ under in
          elim (a.loads n before) [ inl known ↦ inl known | inr (inl left) ↦ (let no : false ≡ true = left in cc) | inr (inr above) ↦ inr (inl (taken-or-left was is loads n sound t before above)) ];
    }

-- where none is in hand and none is to be taken, each that is under way was so at first
pub adds-none : (first x : BareSpace) → IsSoundSpace bare_tape x → outgoing_of x ≡ [] → Accounted first x [] → AddsNone first x
adds-none first x sound out a n under = elim (a.loads n under) [
  | inl before ↦ before
  | inr (inl left) ↦ (let no : false ≡ true = left in cc)
  | inr (inr above) ↦ (let all = ap length out in let few = sent-under x n sound under in absurd (omega (arith, above, few, all)))
]

-- ---- an opening and a closing

-- they take no load, and each that is under way was so before
pub keeps-quiet : (was is : BareSpace) (happened : Event) (held : Bool) → ((s : Situation) (p : ℕ → Bool) → are_all p s.pending ≡ true → are_all p (after_event happened s).pending ≡ true)
    → ((s : Situation) → tasks_in s happened ≡ []) → IsPlain happened → HasSituation was → ServesEvent bare_tape was is happened held → KeepsLoads was is
keeps-quiet was is happened held quiet idle plain begun takes =
    let s = begun.some in
    let x = takes.turned s begun.stands in
    let law = quiet-steps (config_of was) s x.2.next x.0 happened x.1.event_is idle plain x.2.follows in
    let p : ℕ → Bool = λ n. is_under_way n s.pending in
    record {
      taken = takes.stays.taken;
      adds = λ n under.
          ap (is_under_way n) (sym (pending-is was s begun.stands))
          ∙ one-of p n (after_event happened s).pending (quiet s p (all-own p s.pending (λ m own. own))) (ap (λ (t : Situation). is_under_way n t.pending) (sym law.1) ∙ ap (is_under_way n) (pending-is is x.2.next x.2.stands) ∙ under);
    }

-- ---- what becomes of them

-- the last one is in hand, and the rest
in-hand : (hand : Outs) (load : ℕ) (key : List ℕ) (rest : Outs) (n : ℕ) → IsLastInHand hand load key rest → is_left n hand ≡ (is_left n rest || (load == n || false))
in-hand hand load key rest n last = grind (arith, list_any-append)

-- the last of them is settled
accounts-out : (was is : BareSpace) (hand : Outs) (load : ℕ) (key : List ℕ) (rest : Outs) → IsLastInHand hand load key rest → SettlesLoad load was is → Accounts was is hand rest
accounts-out was is hand load key rest last s first a =
    let same = s.later.taken in
    let more : (n : ℕ) → (is_left n rest || (load == n || false)) ≡ true → n ≤ taken_of was = λ n left. a.taken n (in-hand hand load key rest n last ∙ left) in
    let own = more load (or_right (is_left load rest) (load == load || false) (or_left (load == load) false (eq-eqb load load refl))) in
    record {
      taken = λ n left. let few = more n (or_left (is_left n rest) (load == n || false) left) in omega (arith, few, same);
      loads = λ n under. elim (s.later.loads n under) [
        | inl before ↦ elim (a.loads n before) [
          | inl known ↦ inl known
          | inr (inl left) ↦ elim (or_cases (is_left n rest) (load == n || false) (sym (in-hand hand load key rest n last) ∙ left)) [
            | inl still ↦ inr (inl still)
            | inr last ↦ elim (or_cases (load == n) false last) [ inl it ↦ absurd (s.settled own (subst (IsUnderWay is) (sym (eqb-true load n it)) under)) | inr never ↦ (let no : false ≡ true = never in cc) ]
          ]
          | inr (inr later) ↦ inr (inr (omega (arith, later, same)))
        ]
        | inr later ↦ inr (inr (omega (arith, later, same)))
      ];
    }

accounts-done : (number : ℕ) (was is : BareSpace) (doing : Doing) (hand rest : Outs) → HasSituation was → LeavesInHand doing hand rest → WasDone number doing was is → Accounts was is hand rest
accounts-done number was is (did.Fed piece moment held) hand rest begun leaves d =
    subst (λ outs. Accounts was is hand outs) (sym leaves) (accounts-later was is hand (later-happened was is (feeding number piece moment) begun (happened-so was is (feeding number piece moment) held d)))
accounts-done number was is (did.Settled (did.Answered load key outcome) moment) hand rest begun leaves d =
    accounts-out was is hand load key rest leaves (settles-load load was is (answering load outcome moment) refl begun d)
accounts-done number was is (did.Settled (did.GivenUp load asking) moment) hand rest begun leaves d =
    accounts-out was is hand load asking.key rest leaves (settles-load load was is (giving_up load moment) refl begun d.0)
accounts-done number was is (did.Settled (did.Dropped load asking) moment) hand rest begun leaves d =
    accounts-out was is hand load asking.key rest leaves (subst (SettlesLoad load was) (sym d.0) (record { later = later-same was; settled = λ taken. unfound load (loads_under_way_in was) d.1 }))
accounts-done number was is did.Looked hand rest begun leaves d = accounts-none was is hand rest d leaves

accounts-given : (was is : BareSpace) (loads : Option Outs) (rest after : Outs) → MayGiveLoads loads was is → ComeIntoHand loads rest after → Accounts was is rest after
accounts-given was is None rest after same keeps = accounts-none was is rest after same keeps
accounts-given was is (Some loads) rest after t keeps = subst (λ outs. Accounts was is outs after) (sym keeps.0) (subst (λ outs. Accounts was is [] outs) (sym keeps.1) (accounts-taken was is loads t.0 t.1))

-- over an exchange
pub accounts-behind : (number : ℕ) (was is : BareSpace) (exchange : Exchange) (hand after : Outs) → HasSituation was → ExchangeCame number was exchange is → Hands exchange hand after → Accounts was is hand after
accounts-behind number was is exchange hand after begun c h first a =
    accounts-given c.told is exchange.loads h.rest after c.gives h.keeps first
    (accounts-later c.done c.told h.rest (later-output c.done c.told number c.text c.replies) first (accounts-done number was c.done exchange.doing hand h.rest begun h.leaves c.does first a))
