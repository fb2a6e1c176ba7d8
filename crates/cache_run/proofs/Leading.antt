-- What a chain of exchanges comes to in a namespace.
use Rattle.std.proofs.Common.{◌≡◌, ℕ, false, List, [], ◌∷◌, ◌++◌, Option, None, Some, refl, sym, ap, ◌∙◌, subst, inl, inr, ◌≢◌, MatchOption, unwrap_or}
use Rattle.std.proofs.lemmas.List.{append_assoc, append-nil}
use Rattle.audit_model.specs.Follows.{Follows}
use Rattle.audit_model.specs.Situation.{Situation, pending_key}
use Rattle.audit_model.specs.declared.config.Config.{Config}
use Rattle.audit_model.specs.declared.event.Event.{Event}
use Rattle.audit_model.specs.declared.transcript.Note.{Note}
use Rattle.audit_model.specs.declared.transcript.Record.{Record}
use Rattle.audit_laws.specs.Waiting.Alone.{IsTurnOf}
use Rattle.audit_laws.specs.Waiting.Keys.{IsKnown}
use Rattle.audit_laws.specs.Waiting.Sending.{IsSettlingOf}
use Rattle.cache_core.specs.State.{situation_with}
use Rattle.cache_core.specs.Turned.{notes_in, replies_to, feeding}
use Rattle.cache_spaces.specs.Calls as served
use Rattle.cache_spaces.specs.Calls.{TakesOutput, IsOpened}
use Rattle.cache_spaces.specs.Spaces.{StandsFor, config_of, known_of, untaken_notes, untaken_output, closing_of, outgoing_of, shown_of}
use Rattle.cache_spaces.specs.Services.{BareSpace, bare_tape}
use Rattle.cache_run.specs.Worlds.{LeadsOnAlone}
use Rattle.cache_run.specs.Devices.Sources.{Asking}
use Rattle.cache_run.specs.Happened.{Dropped, IsKeyOf, IsSettledBy, Settled, record_replies}
use Rattle.cache_run.proofs.Accounting.{gone-same, Accounts, AddsNone, accounted-none, accounts-behind, adds-none, sent-behind, sent-none, takes-last}
use Rattle.cache_run.proofs.Led.{record-one, Led, led-turn, led-known, led-more, led-none}
use Rattle.cache_run.proofs.Dropping.{goes-still, output-none, output-stands, still-stands, fed-turn, goes-more, goes-output, goes-same, taken-same, known-given}
use Rattle.cache_run.proofs.Happening.{goes-by, own-replies, happened-so, situation-behind, stays-fed, stays-opened, none-where}
use Rattle.cache_core.specs.Settling.{answering, giving_up}
use Rattle.cache_run.specs.Connected.{HasSituation, HasTakenReplies, IsFed}
use Rattle.cache_run.specs.Driver.Exchanges as did
use Rattle.cache_run.specs.Driver.Exchanges.{Doing, Exchange, Outs, AreDone, Chain, Hands, HaveClosed, ComeIntoHand, LeavesInHand, LeavesNothing, asks_of, askings_in, bytes_fed, moments_in, pieces_in, replies_in, readings_of}
use Rattle.cache_run.specs.Lent.{ExchangeCame, WasDone, MayGiveLoads}
use Rattle.std.specs.List.{last_or}
use Rattle.std.proofs.lemmas.Option.{none-some, same_Some}
use Rattle.audit_laws.proofs.waiting.Keys.{answered-key, given-up-key}
use Rattle.cache_spaces.specs.Services.{IsSoundSpace}
use Rattle.cache_run.specs.Loading.{AreKnown, GivesLoads}
use Rattle.cache_run.proofs.driver.Exchanges.{each-last, each-rest}

-- ---- how the namespace goes on

settling : (config : Config) (asking : Asking) (moment : ℕ) (happened : Event) → IsSettledBy config asking.answer moment happened → (number : ℕ) → IsTurnOf number happened
settling config asking moment happened (inl p) = λ number. subst (IsTurnOf number) (sym p.3) tt
settling config asking moment happened (inr p) = λ number. subst (IsTurnOf number) (sym p.1) tt

-- the last of the loads in hand was settled by what the loader said, which was asked by its key
pub settled-goes : (number : ℕ) (was is : BareSpace) (happened : Event) (asking : Asking) (hand rest : Outs) (load moment : ℕ) (after : List Note) (text : List ℕ) → untaken_output was number ≡ [] → text ≡ untaken_output is number → after ≡ untaken_notes is
    → did.IsLastInHand hand load asking.key rest → IsSettledBy (config_of was) asking.answer moment happened → ((s t : Situation) (entry : Record) → Follows (config_of was) s entry t → entry.event ≡ happened → IsKnown load asking.key s → IsKeyOf s entry.event asking.key) → IsSettlingOf load happened → served.Settled bare_tape was is happened
    → LeadsOnAlone number was is (λ s t. AreKnown hand s → Led (config_of was) number s t (untaken_notes was) after [] (moment ∷ []) (asking ∷ []) text (hand ++ outgoing_of was) (rest ++ outgoing_of is))
settled-goes number was is happened asking hand rest load moment after text none texts notes last said keyed of settled =
    goes-by was is happened settled number (settling (config_of was) asking moment happened said number)
    (λ s t. AreKnown hand s → Led (config_of was) number s t (untaken_notes was) after [] (moment ∷ []) (asking ∷ []) text (hand ++ outgoing_of was) (rest ++ outgoing_of is))
    (λ s t entry event turned follows own stands known.
    let placed = keyed s t entry follows event (each-last (λ n key. IsKnown n key s) hand load asking.key rest last known).1 in
    let more = sent-behind was is happened s t entry settled turned follows stands in
    led-turn (config_of was) number s t (untaken_notes was) after (Settled asking moment entry) text (hand ++ outgoing_of was) (rest ++ outgoing_of is) (subst (IsSettledBy (config_of was) asking.answer moment) (sym event) said)
    (rest ++ outgoing_of was) (placed, (load, subst (IsSettlingOf load) (sym event) of, takes-last hand (outgoing_of was) rest load asking.key last)) more.0 more.1 (append_assoc rest (outgoing_of was) more.0 ∙ ap (λ outs. rest ++ outs) (sym more.2))
    (record-one (config_of was) s entry t follows)
    (notes ∙ turned.notes ∙ ap (λ l. untaken_notes was ++ l) (sym (append-nil (notes_in entry))))
    (texts ∙ turned.outputs number ∙ ap (λ o. o ++ replies_to number entry.steps) none ∙ own-replies number entry.steps own ∙ sym (append-nil (record_replies entry))))

-- no load of that number is under way in any situation that the namespace stands for
unknown-there : (was : BareSpace) (s : Situation) (load : ℕ) → StandsFor was s → (known_of was).is_under_way load ≡ false → pending_key load s ≡ None
unknown-there was s load stands unknown = ap (λ (t : Situation). pending_key load t) stands.is ∙ none-where (pending_key load (situation_with shown_of was [])) unknown

-- the last of the loads in hand was not under way, and what the loader said, which was asked by its key, was dropped
pub dropped-goes : (number : ℕ) (x : BareSpace) (asking : Asking) (hand rest : Outs) (load moment : ℕ) (after : List Note) (text : List ℕ) → untaken_output x number ≡ [] → text ≡ untaken_output x number → after ≡ untaken_notes x → did.IsLastInHand hand load asking.key rest
    → (known_of x).is_under_way load ≡ false → LeadsOnAlone number x x (λ s t. AreKnown hand s → Led (config_of x) number s t (untaken_notes x) after [] (moment ∷ []) (asking ∷ []) text (hand ++ outgoing_of x) (rest ++ outgoing_of x))
dropped-goes number x asking hand rest load moment after text none texts notes last unknown =
    goes-still number x (λ s t. AreKnown hand s → Led (config_of x) number s t (untaken_notes x) after [] (moment ∷ []) (asking ∷ []) text (hand ++ outgoing_of x) (rest ++ outgoing_of x))
    (λ s stands known.
    led-turn (config_of x) number s s (untaken_notes x) after (Dropped asking moment load) text (hand ++ outgoing_of x) (rest ++ outgoing_of x) tt
    (rest ++ outgoing_of x) (unknown-there x s load stands unknown, takes-last hand (outgoing_of x) rest load asking.key last) [] (sent-none s) (append-nil (rest ++ outgoing_of x))
    refl (notes ∙ sym (append-nil (untaken_notes x))) (texts ∙ none))

-- ---- how the connection stands

-- the namespace stands for a situation, it knows the connection, and that is true of it
pub record Stands (IsLeft : ℕ → BareSpace → Type 0) (number : ℕ) (space : BareSpace) : Type 0 where
  pub situation : HasSituation space
  pub opened : IsOpened space number
  pub left : IsLeft number space

-- behind an event
stands-by : (number other : ℕ) (was is : BareSpace) (happened : Event) → IsTurnOf other happened → Stands HasTakenReplies number was → served.Settled bare_tape was is happened → Stands IsFed number is
stands-by number other was is happened turn s h = record {
  situation = situation-behind was is happened h s.situation;
  opened = stays-opened was is happened h number s.situation s.opened;
  left = stays-fed was is happened h number other turn s.situation s.left.0;
}

stands-still : (number : ℕ) (was is : BareSpace) → is ≡ was → Stands HasTakenReplies number was → Stands IsFed number is
stands-still number was is same s = subst (Stands IsFed number) (sym same) (record { situation = s.situation; opened = s.opened; left = s.left.0 })

-- behind what was done
pub stands-done : (number : ℕ) (was is : BareSpace) (doing : Doing) → WasDone number doing was is → Stands HasTakenReplies number was → Stands IsFed number is
stands-done number was is (did.Fed piece moment held) d s = stands-by number number was is (feeding number piece moment) refl s (happened-so was is (feeding number piece moment) held d)
stands-done number was is (did.Settled (did.Answered load key outcome) moment) d s = stands-by number number was is (answering load outcome moment) tt s d
stands-done number was is (did.Settled (did.GivenUp load asking) moment) d s = stands-by number number was is (giving_up load moment) tt s d.0
stands-done number was is (did.Settled (did.Dropped load asking) moment) d s = stands-still number was is d.0 s
stands-done number was is did.Looked d s = stands-still number was is d s

-- where replies were taken
pub stands-told : (number : ℕ) (was is : BareSpace) (text : List ℕ) → TakesOutput was is number text → Stands IsFed number was → Stands HasTakenReplies number is
stands-told number was is text t s = record {
  situation = record { some = s.situation.some; stands = output-stands was is number text s.situation.some t s.situation.stands };
  opened = subst (λ x. IsOpened x number) (sym t.rest) s.opened;
  left = (subst (IsFed number) (sym t.rest) s.left, output-none was is number text t);
}

-- where loads were taken
pub stands-given : (number : ℕ) (was is : BareSpace) (loads : Option Outs) → MayGiveLoads loads was is → Stands HasTakenReplies number was → Stands HasTakenReplies number is
stands-given number was is None same s = subst (Stands HasTakenReplies number) (sym same) s
stands-given number was is (Some loads) t s =
    let e = taken-same was is loads t.1 in
    record {
      situation = record { some = s.situation.some; stands = still-stands was is s.situation.some e s.situation.stands };
      opened = subst (λ x. IsOpened x number) (sym e) s.opened;
      left = subst (HasTakenReplies number) (sym e) s.left;
    }

-- behind an exchange
pub stands-behind : (number : ℕ) (was is : BareSpace) (exchange : Exchange) → ExchangeCame number was exchange is → Stands HasTakenReplies number was → Stands HasTakenReplies number is
stands-behind number was is exchange c s =
    stands-given number c.told is exchange.loads c.gives (stands-told number c.done c.told c.text c.replies (stands-done number was c.done exchange.doing c.does s))

-- ---- what was done

-- in each situation, where the keys of the loads in hand are right
pub does-led : (number : ℕ) (was is : BareSpace) (doing : Doing) (hand rest : Outs) (after : List Note) (text : List ℕ) → untaken_output was number ≡ [] → text ≡ untaken_output is number → after ≡ untaken_notes is → LeavesInHand doing hand rest → WasDone number doing was is
    → LeadsOnAlone number was is (λ s t. AreKnown hand s → Led (config_of was) number s t (untaken_notes was) after (bytes_fed doing) (readings_of doing) (asks_of doing) text (hand ++ outgoing_of was) (rest ++ outgoing_of is))
does-led number was is (did.Fed piece moment held) hand rest after text none texts notes leaves d =
    let settled = happened-so was is (feeding number piece moment) held d in
    goes-by was is (feeding number piece moment) settled number refl
    (λ s t. AreKnown hand s → Led (config_of was) number s t (untaken_notes was) after piece (moment ∷ []) [] text (hand ++ outgoing_of was) (rest ++ outgoing_of is))
    (λ s t entry event turned follows own stands known.
    let more = sent-behind was is (feeding number piece moment) s t entry settled turned follows stands in
    fed-turn (config_of was) number piece moment entry s t (untaken_notes was) after text (hand ++ outgoing_of was) (rest ++ outgoing_of is) follows event more.0 more.1
    (append_assoc hand (outgoing_of was) more.0 ∙ ap (λ outs. hand ++ outs) (sym more.2) ∙ ap (λ outs. outs ++ outgoing_of is) (sym leaves)) (notes ∙ turned.notes)
    (texts ∙ turned.outputs number ∙ ap (λ o. o ++ replies_to number entry.steps) none ∙ own-replies number entry.steps own))
does-led number was is (did.Settled (did.Answered load key outcome) moment) hand rest after text none texts notes leaves d =
    settled-goes number was is (answering load outcome moment) (record { key = key; answer = Some outcome }) hand rest load moment after text none texts notes leaves (inl (load, outcome, refl, refl))
    (λ s t entry follows event known. subst (λ h. IsKeyOf s h key) (sym event) (answered-key (config_of was) s t entry load outcome _ key follows event known.1)) refl d
does-led number was is (did.Settled (did.GivenUp load asking) moment) hand rest after text none texts notes leaves d =
    settled-goes number was is (giving_up load moment) asking hand rest load moment after text none texts notes leaves (inr (load, refl, d.1))
    (λ s t entry follows event known. subst (λ h. IsKeyOf s h asking.key) (sym event) (given-up-key (config_of was) s t entry load _ asking.key follows event known.1)) refl d.0
does-led number was is (did.Settled (did.Dropped load asking) moment) hand rest after text none texts notes leaves d =
    subst (λ y. LeadsOnAlone number was y (λ s t. AreKnown hand s → Led (config_of was) number s t (untaken_notes was) after [] (moment ∷ []) (asking ∷ []) text (hand ++ outgoing_of was) (rest ++ outgoing_of y))) (sym d.0)
    (dropped-goes number was asking hand rest load moment after text none (texts ∙ ap (λ y. untaken_output y number) d.0) (notes ∙ ap untaken_notes d.0) leaves d.1)
does-led number was is did.Looked hand rest after text none texts notes leaves d =
    let unmoved : untaken_output is number ≡ untaken_output was number = ap (λ y. untaken_output y number) d in
    subst (λ y. LeadsOnAlone number was y (λ s t. AreKnown hand s → Led (config_of was) number s t (untaken_notes was) after [] [] [] text (hand ++ outgoing_of was) (rest ++ outgoing_of y))) (sym d)
    (goes-still number was (λ s t. AreKnown hand s → Led (config_of was) number s t (untaken_notes was) after [] [] [] text (hand ++ outgoing_of was) (rest ++ outgoing_of was))
    (λ s stands known.
    led-none (config_of was) number s (untaken_notes was) after text (hand ++ outgoing_of was) (rest ++ outgoing_of was) (notes ∙ ap untaken_notes d) (texts ∙ unmoved ∙ none) (ap (λ outs. outs ++ outgoing_of was) leaves)))

-- ---- loads are taken

notes-given : (was is : BareSpace) (loads : Option Outs) → MayGiveLoads loads was is → untaken_notes is ≡ untaken_notes was
notes-given was is None same = ap untaken_notes same
notes-given was is (Some loads) t = ap untaken_notes (taken-same was is loads t.1)

-- and the situation stays
goes-given : (number : ℕ) (was is : BareSpace) (loads : Option Outs) (rest after : Outs) → MayGiveLoads loads was is → ComeIntoHand loads rest after
    → LeadsOnAlone number was is (λ s t. (s ≡ t) × (AreKnown rest s → AreKnown after t))
goes-given number was is None rest after same keeps =
    subst (λ y. LeadsOnAlone number was y (λ s t. (s ≡ t) × (AreKnown rest s → AreKnown after t))) (sym same)
    (goes-still number was (λ s t. (s ≡ t) × (AreKnown rest s → AreKnown after t)) (λ s stands. (refl, λ known. subst (λ outs. AreKnown outs s) (sym keeps) known)))
goes-given number was is (Some loads) rest after t keeps =
    goes-same number was is (λ s u. (s ≡ u) × (AreKnown rest s → AreKnown after u)) (taken-same was is loads t.1)
    (λ s stands. (refl, λ known. subst (λ outs. AreKnown outs s) (sym keeps.1) (known-given was is loads s t stands)))

-- ---- an exchange, and exchanges one after another

-- Where the keys of the loads in hand are right, each situation goes on by turns, for which these pieces were fed, and so on; the keys of those
-- that are in hand behind them are right, and where loads that had gone out were sent, so were those. No load is lost sight of, and the
-- connection stands there with its replies taken.
pub record Leads (number : ℕ) (was is : BareSpace) (hand after : Outs) (exchanges : List Exchange) : Type 0 where
  pub goes : LeadsOnAlone number was is (λ s t. AreKnown hand s → Led (config_of was) number s t (untaken_notes was) (untaken_notes is) (pieces_in exchanges) (moments_in exchanges) (askings_in exchanges) (replies_in exchanges) (hand ++ outgoing_of was) (after ++ outgoing_of is) × AreKnown after t)
  pub accounted : Accounts was is hand after
  pub stands : Stands HasTakenReplies number is

-- no exchange
pub leads-none : (number : ℕ) (x : BareSpace) (hand : Outs) → Stands HasTakenReplies number x → Leads number x x hand hand []
leads-none number x hand stands = record {
  goes = goes-still number x (λ s t. AreKnown hand s → Led (config_of x) number s t (untaken_notes x) (untaken_notes x) [] [] [] [] (hand ++ outgoing_of x) (hand ++ outgoing_of x) × AreKnown hand t)
      (λ s stands known. (led-none (config_of x) number s (untaken_notes x) (untaken_notes x) [] (hand ++ outgoing_of x) (hand ++ outgoing_of x) refl refl refl, known));
  accounted = λ first known. known;
  stands = stands;
}

-- one, and then others
pub leads-more : (number : ℕ) (was mid is : BareSpace) (hand between after : Outs) (exchange : Exchange) (exchanges : List Exchange) → Stands HasTakenReplies number was → ExchangeCame number was exchange mid → Hands exchange hand between
    → Leads number mid is between after exchanges → Leads number was is hand after (exchange ∷ exchanges)
leads-more number was mid is hand between after exchange exchanges s c h l =
    let doing = exchange.doing in
    let text = unwrap_or exchange.text [] in
    let texts : text ≡ c.text = ap (λ o. unwrap_or o []) c.texts in
    let notes : untaken_notes mid ≡ untaken_notes c.done = notes-given c.told mid exchange.loads c.gives ∙ ap untaken_notes c.replies.rest in
    let gone = hand ++ outgoing_of was in
    let halfway = between ++ outgoing_of mid in
    let behind = after ++ outgoing_of is in
    let same : halfway ≡ h.rest ++ outgoing_of c.done = gone-same c.told mid exchange.loads h.rest between c.gives h.keeps ∙ ap (λ outs. h.rest ++ outs) (ap outgoing_of c.replies.rest) in
    let Step : Situation → Situation → Outs → Type 0 = λ s t outs. Led (config_of was) number s t (untaken_notes was) (untaken_notes mid) (bytes_fed doing) (readings_of doing) (asks_of doing) text gone outs in
    let done : LeadsOnAlone number was c.done (λ s t. AreKnown hand s → Step s t (h.rest ++ outgoing_of c.done)) =
    does-led number was c.done doing hand h.rest (untaken_notes mid) text s.left.1 (texts ∙ c.replies.taken) notes h.leaves c.does in
    let one : LeadsOnAlone number was mid (λ s t. AreKnown hand s → Step s t halfway × AreKnown between t) =
    goes-more number was c.told mid (λ s t. AreKnown hand s → Step s t (h.rest ++ outgoing_of c.done)) (λ s t. (s ≡ t) × (AreKnown h.rest s → AreKnown between t)) (λ s t. AreKnown hand s → Step s t halfway × AreKnown between t)
    (goes-output number was c.done c.told c.text (λ s t. AreKnown hand s → Step s t (h.rest ++ outgoing_of c.done)) c.replies done) (goes-given number c.told mid exchange.loads h.rest between c.gives h.keeps)
    (λ s t u led g known.
    let f = led known in
    let knows = led-known (config_of was) number s t (untaken_notes was) (untaken_notes mid) (bytes_fed doing) (readings_of doing) (asks_of doing) text gone (h.rest ++ outgoing_of c.done) h.rest f (each-rest (λ n key. IsKnown n key s) doing hand h.rest h.leaves known) in
    (subst (λ m. Step s m halfway) g.0 (subst (λ outs. Step s t outs) (sym same) f), g.1 knows)) in
    let More : Config → Situation → Situation → Type 0 = λ k s t. Led k number s t (untaken_notes mid) (untaken_notes is) (pieces_in exchanges) (moments_in exchanges) (askings_in exchanges) (replies_in exchanges) halfway behind in
    record {
      goes = goes-more number was mid is (λ s t. AreKnown hand s → Step s t halfway × AreKnown between t) (λ s t. AreKnown between s → More (config_of mid) s t × AreKnown after t)
          (λ s t. AreKnown hand s → Led (config_of was) number s t (untaken_notes was) (untaken_notes is) (pieces_in (exchange ∷ exchanges)) (moments_in (exchange ∷ exchanges)) (askings_in (exchange ∷ exchanges)) (replies_in (exchange ∷ exchanges)) gone behind × AreKnown after t)
          one l.goes
          (λ s t u f g known.
          let first = f known in
          let second = g first.1 in (
            led-more (config_of was) number s t u (untaken_notes was) (untaken_notes mid) (untaken_notes is) (bytes_fed doing) (pieces_in exchanges) (readings_of doing) (moments_in exchanges) (asks_of doing) (askings_in exchanges) text (replies_in exchanges) gone halfway behind first.0
                (subst (λ k. More k t u) one.config second.0),
            second.1,
          ));
      accounted = λ first known. l.accounted first (accounts-behind number was mid exchange hand between s.situation c h first known);
      stands = l.stands;
    }

-- a chain
pub chain-leads : (number : ℕ) (was : BareSpace) (hand : Outs) (exchanges : List Exchange) (is : BareSpace) (after : Outs) → Stands HasTakenReplies number was → Chain (ExchangeCame number) was hand exchanges is after → Leads number was is hand after exchanges
chain-leads number was hand [] is after s c =
    subst (λ y. Leads number was y hand after []) (sym c.0) (subst (λ outs. Leads number was was hand outs []) (sym c.1) (leads-none number was hand s))
chain-leads number was hand (exchange ∷ exchanges) is after s c =
    leads-more number was c.0 is hand c.1 after exchange exchanges s c.2 c.3
    (chain-leads number c.0 c.1 exchanges is after (stands-behind number was c.0 exchange c.2 s) c.4)

-- ---- the last of them

-- loads were taken behind it, or not, and why the connection has closed
record Last (number : ℕ) (exchange : Exchange) (is : BareSpace) : Type 0 where
  told : BareSpace
  gives : MayGiveLoads exchange.loads told is
  closing : exchange.closing ≡ closing_of is number

chain-last : (number : ℕ) (was : BareSpace) (hand : Outs) (first : Option Exchange) (exchanges : List Exchange) (is : BareSpace) (after : Outs) (exchange : Exchange) → ((e : Exchange) → first ≡ Some e → Last number e was)
    → Chain (ExchangeCame number) was hand exchanges is after → last_or first exchanges ≡ Some exchange → Last number exchange is
chain-last number was hand first [] is after exchange before c last = subst (Last number exchange) (sym c.0) (before exchange last)
chain-last number was hand first (x ∷ xs) is after exchange before c last =
    chain-last number c.0 c.1 (Some x) xs is after exchange
    (λ e same. subst (λ y. Last number y c.0) (same_Some x e same) (record { told = c.2.told; gives = c.2.gives; closing = c.2.closing })) c.4 last

chain-unmoved : (number : ℕ) (was : BareSpace) (hand : Outs) (exchanges : List Exchange) (is : BareSpace) (after : Outs) → Chain (ExchangeCame number) was hand exchanges is after → last_or None exchanges ≡ None → is ≡ was
chain-unmoved number was hand [] is after c last = c.0
chain-unmoved number was hand (x ∷ xs) is after c last = let h = has-last x xs last in absurd h
  where
    has-last : (x : Exchange) (xs : List Exchange) → last_or (Some x) xs ≡ None → ⊥
    has-last x [] e = let no : Some x ≡ None = e in cc
    has-last x (y ∷ ys) e = has-last y ys e

-- where each load was taken and none is left, each that is under way was so before
pub chain-adds-none : (number : ℕ) (was : BareSpace) (exchanges : List Exchange) (is : BareSpace) → IsSoundSpace bare_tape is → Chain (ExchangeCame number) was [] exchanges is [] → AreDone exchanges → Accounts was is [] [] → AddsNone was is
chain-adds-none number was exchanges is sound c settled accounted = go (last_or None exchanges) refl settled
  where
    go : (o : Option Exchange) → last_or None exchanges ≡ o → MatchOption o (Unit {0}) LeavesNothing → AddsNone was is
    go None e done = subst (AddsNone was) (sym (chain-unmoved number was [] exchanges is [] c e)) (λ n under. under)
    go (Some x) e done =
        let last = chain-last number was [] None exchanges is [] x (λ e no. absurd (none-some e no)) c e in
        let gives : GivesLoads [] last.told is = subst (λ loads. MayGiveLoads loads last.told is) done.none last.gives in
        adds-none was is sound (ap outgoing_of gives.1.rest) (accounted was (accounted-none was))

-- it had closed
pub chain-closed : (number : ℕ) (was : BareSpace) (hand : Outs) (exchanges : List Exchange) (is : BareSpace) (after : Outs) → Chain (ExchangeCame number) was hand exchanges is after → HaveClosed exchanges → closing_of is number ≢ None
chain-closed number was hand exchanges is after c closed = go (last_or None exchanges) refl closed
  where
    go : (o : Option Exchange) → last_or None exchanges ≡ o → MatchOption o ⊥ (λ exchange. exchange.closing ≢ None) → closing_of is number ≢ None
    go None e none = absurd none
    go (Some x) e done = λ none. done ((chain-last number was hand None exchanges is after x (λ e no. absurd (none-some e no)) c e).closing ∙ none)
