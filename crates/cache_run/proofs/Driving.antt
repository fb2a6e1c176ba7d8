-- One connection, from its opening to its closing, and what a driver answers for gives what `run` promises.
use Rattle.std.proofs.Common.{◌≡◌, ◌≢◌, ℕ, ◌≤◌, ◌^◌, ◌||◌, not, nat_lt, nat_le, Bool, true, false, List, [], ◌∷◌, length, Option, Some, None, is_some, if◌then◌else◌, refl, sym, ap, ◌∙◌, subst, arith, inl, inr, ◌++◌, ◌⊎◌, is_none, Result, Ok, Err, IfErr, IfOk, IsErrOf, MatchResult, OnOk, Vec, Global}
use Rattle.std.proofs.lemmas.Bool.{and_from, eq-eqb, le-leb, lt-ltb, ne_eqb}
use Rattle.std.proofs.lemmas.List.{append-nil, length-set, nil_from_length}
use Rattle.std.proofs.lemmas.List.Elements.{All-nil}
use Rattle.std.proofs.lemmas.Option.{none-some}
use Rattle.std.specs.Io.KnownBytes.{IsAtEnd}
use Rattle.std.specs.List.{flat_map, slice_get}
use Rattle.std.specs.Option.{option_or, option_map, option_map_or}
use Rattle.audit_model.specs.Belongs.{refusal_of, refusal_where}
use Rattle.audit_model.specs.Follows.{Follows, after_event, after_records, known_in, tasks_in}
use Rattle.audit_model.specs.Situation.{Connection, Situation, Ready, connection_in}
use Rattle.audit_model.specs.declared.command.Closing.{Closing}
use Rattle.audit_model.specs.declared.event.Event.{Event}
use Rattle.audit_model.specs.declared.event.Outcome.{Outcome}
use Rattle.audit_model.specs.declared.input.Conn.{Conn}
use Rattle.audit_model.specs.declared.input.LoadId.{LoadId}
use Rattle.audit_model.specs.declared.input.ServiceError.{ServiceError}
use Rattle.audit_model.specs.declared.transcript.Note.{Note}
use Rattle.audit_model.specs.declared.transcript.Record.{Record}
use Rattle.audit_laws.proofs.Belonging.{follows-unrefused}
use Rattle.audit_laws.proofs.waiting.Sending.{all-without}
use Rattle.audit_laws.proofs.waiting.Standing.{found-left}
use Rattle.audit_laws.proofs.waiting.Steps.{alone-without}
use Rattle.audit_laws.specs.Waiting.Alone.{WaitsAlone}
use Rattle.audit_laws.specs.Waiting.Keys.{IsKnown}
use Rattle.cache_core.specs.Turned.{closing_behind, notes_in, reason_of, replies_to}
use Rattle.cache_core.specs.Owing.{GivesWanted, without_output}
use Rattle.cache_core.specs.declared.owing.Owed.{Owed}
use Rattle.cache_spaces.proofs.Placing.{at-given, at-is, at-map, at-was, at-same, at-more, at-unmoved}
use Rattle.cache_spaces.specs.Services.{BareSpace, bare_tape, IsSoundSpace}
use Rattle.cache_spaces.specs.Calls.{IsOpened, OpensNext, ServesEvent, At, InSpace, IsUnknown}
use Rattle.cache_spaces.specs.Spaces.{closing_of, config_of, known_of, untaken_notes, outgoing_of, untaken_output}
use Rattle.cache_run.proofs.Accounting.{Accounts, AddsNone, KeepsLoads, accounted-none, accounts-later, adds-no-loads, keeps-quiet, later-kept, asked-refused}
use Rattle.cache_run.proofs.Dropping.{goes-more, goes-still, kept-behind, nobody-behind, taken-same, none-behind}
use Rattle.cache_run.proofs.Happening.{happened-so, listed-is, none-past, opened-is, same-closing, sent-is, situation-of, stays-opened, IsPlain, found-behind, found-last, found-none, plain-steps, quiet-steps, none-of, IsSoundAt, none-where}
use Rattle.cache_run.proofs.Leading.{Stands, Leads, chain-adds-none, chain-closed, chain-leads}
use Rattle.cache_run.proofs.Led.{carried-close, carried-drops, carried-still, Led, carried-led}
use Rattle.cache_run.proofs.driver.Exchanges.{because-map, asking_then, underway-stopped}
use Rattle.cache_run.specs.Loading.{loads_under_way_in, OnlyGivesUp, GivesLoads, AreKnown}
use Rattle.cache_run.specs.Worlds.{Broken, Carried, Left, nothing_left, world, LeadsOnAlone}
use Rattle.cache_run.specs.Connected.{HasTakenReplies, IsEnded, IsFed, IsOpenOrEnded}
use Rattle.cache_run.specs.Devices.Sources.{Askings}
use Rattle.cache_run.specs.Driver.Causes.{Because, outcome_by}
use Rattle.cache_run.specs.Driver.Driven.{ClosesAfter, ComesToProgress, Finished, Stopped, around}
use Rattle.cache_run.specs.Driver.Drives.{Outside, LeftUndone, Talks, asked_of, late_of, lost_of}
use Rattle.cache_run.specs.Driver.Exchanges.{Outs, Answered, Doing, Dropped, GivenUp, Settled, Chain, Exchange, HaveClosed, askings_in, moments_in, pieces_in, replies_in, readings_of}
use Rattle.cache_run.specs.Driver.Hosting.{SettlesBy, SuitsRequest, exchange_of}
use Rattle.cache_run.specs.Happened.{record_of, IsGivenUpFor}
use Rattle.cache_run.specs.Lent.{DropsBoth, IsClosedBefore, AnswersOr, ExchangeCame, WasDone, WereGiven, GivesUpOr, MayGiveLoads, SettlesAt, ClosesAt, ClosesIt, ComesAt, DropsAt, OpensAt}
use Rattle.cache_run.specs.Runs.{Closes, EndsConnection, Quiet, ServesPartly, ServesWhole, Unfed, RunsPartly, RunsWhole}
use Rattle.cache_run.specs.declared.devices.errors.RunError.{RunError}
use Rattle.cache_run.specs.declared.devices.errors.RunError.TheVariants.{Moment, Read, Write, OutOfMemory, UsedUp}
use Rattle.cache_run.specs.declared.devices.watched.Watched.{Watched}
use Rattle.cache_run.specs.declared.driver.driving.Progress.{Progress}
use Rattle.cache_run.specs.declared.driver.driving.Progress.TheVariants.{More, Over}
use Rattle.cache_run.specs.declared.driver.host.Given.{Given}
use Rattle.cache_run.specs.declared.driver.session.Session.{Session}
use Rattle.audit_model.specs.declared.command.Closing.TheVariants as by
use Rattle.audit_model.specs.declared.event.Event.TheVariants as event
use Rattle.audit_model.specs.declared.input.ServiceError.TheVariants as error
use Rattle.cache_spaces.specs.Calls as served

-- nobody begins to wait as a connection opens or closes, and no other is touched
goes-quiet : (number : ℕ) (was is : BareSpace) (happened : Event) (held : Bool) → ((s : Situation) → WaitsAlone number s.pending → WaitsAlone number (after_event happened s).pending) → ((s : Situation) → tasks_in s happened ≡ []) → IsPlain happened
    → ((s : Situation) (other : ℕ) → other ≢ number → connection_in other (after_event happened s) ≡ connection_in other s) → ServesEvent bare_tape was is happened held
    → LeadsOnAlone number was is (λ s t. Quiet (config_of was) happened s t (untaken_notes was) (untaken_notes is))
goes-quiet number was is happened held calm idle plain apart takes = record {
  each = λ s stands alone.
      let x = takes.turned s stands in
      let law = quiet-steps (config_of was) s x.2.next x.0 happened x.1.event_is idle plain x.2.follows in
      record {
        next = x.2.next;
        stands = x.2.stands;
        alone = subst (λ (t : Situation). WaitsAlone number t.pending) (sym law.1) (calm s alone);
        fact = record {
          follows = subst (λ e. Follows (config_of was) s e x.2.next) law.0 x.2.follows;
          notices = x.2.notes ∙ ap (λ e. untaken_notes was ++ notes_in e) law.0 ∙ untold happened plain (untaken_notes was);
        };
        others = λ other ne. (
          x.2.outputs other ∙ ap (λ e. untaken_output was other ++ replies_to other e.steps) law.0 ∙ append-nil (untaken_output was other),
          x.2.closings other
              ∙ same-closing (config_of was) s x.2.next x.0 other (closing_of was other) (ap (connection_in other) law.1 ∙ apart s other ne),
        );
      };
  config = takes.stays.config;
}
  where
    untold : (h : Event) → IsPlain h → (before : List Note) → before ++ notes_in (record_of h []) ≡ before
    untold h is before = ap (λ steps. before ++ flat_map (λ step. step.notices) steps) (plain-steps h [] is) ∙ append-nil before

-- ---- the opening

module _ (was is : BareSpace) (number : ℕ) (sound : IsSoundSpace bare_tape was) (opens : OpensNext bare_tape was is number) where
  pub opens-quiet : LeadsOnAlone number was is (λ s t. Quiet (config_of was) (event.Open number) s t (untaken_notes was) (untaken_notes is))
  opens-quiet =
      goes-quiet number was is (event.Open number) false (λ s alone. alone) (λ s. refl) tt
      (λ s other ne. found-behind (record { number = number; unread = []; standing = Ready; waited = 0 }) other s.connections (ne_eqb number other (λ e. ne (sym e)))) opens.0

  pub opens-keeps : KeepsLoads was is
  opens-keeps = keeps-quiet was is (event.Open number) false (λ s p all. all) (λ s. refl) tt (situation-of was sound) opens.0

  -- no load was sent
  pub opens-outgoing : outgoing_of is ≡ outgoing_of was
  opens-outgoing =
      let x = opens.0.turned sound.some sound.stands in
      let law = quiet-steps (config_of was) sound.some x.2.next x.0 (event.Open number) x.1.event_is (λ s. refl) tt x.2.follows in
      let same = ap (λ (t : Situation). t.sent) law.1 in
      let before = sent-is was sound.some sound.stands in
      let after = sent-is is x.2.next x.2.stands in
      let sends = opens.0.stays.sends in
      let count = sends.count in
      sends.behind ∙ ap (λ outs. outgoing_of was ++ outs) (nil_from_length sends.loads (omega (arith, same, before, after, count))) ∙ append-nil (outgoing_of was)

  pub opens-stands : Stands HasTakenReplies number is
  opens-stands =
      let next = opens.1 in
      let x = opens.0.turned sound.some sound.stands in
      let law = quiet-steps (config_of was) sound.some x.2.next x.0 (event.Open number) x.1.event_is (λ s. refl) tt x.2.follows in
      let before = opened-is was sound.some sound.stands in
      let after = opened-is is x.2.next x.2.stands in
      let count = ap (λ (t : Situation). t.opened) law.1 in
      let found = found-last (record { number = number; unread = []; standing = Ready; waited = 0 }) number sound.some.connections (eq-eqb number number refl) in
      record {
        situation = record { some = x.2.next; stands = x.2.stands };
        opened = and_from (nat_lt 0 number) (nat_le number (length is.closings)) (lt-ltb 0 number (omega (arith, next))) (le-leb number (length is.closings) (omega (arith, next, before, after, count)));
        left = (
          inl
              (x.2.closings number ∙ ap (λ o. closing_behind (config_of was) sound.some x.0 x.2.next o number) (none-past None was.closings number (omega (arith, next)))
              ∙ still-open (connection_in number x.2.next) (not (is_some (connection_in number sound.some))) (reason_of (config_of was) sound.some number x.0.event x.0.steps) (ap (λ (t : Situation). is_none (connection_in number t)) law.1 ∙ found)),
          x.2.outputs number ∙ ap (λ e. untaken_output was number ++ replies_to number e.steps) law.0 ∙ append-nil (untaken_output was number) ∙ nothing-past,
        );
      }
    where
      still-open : (o : Option Connection) (b : Bool) (why : Closing) → is_none o ≡ false → (if is_some o || b then None else Some why) ≡ None
      still-open (Some c) b why e = refl
      still-open None b why e = let no : true ≡ false = e in cc

      nothing-past : untaken_output was number ≡ []
      nothing-past = let next = opens.1 in let same = sound.suits.counted in none-past [] was.outputs number (omega (arith, next, same))

-- ---- the closing

-- an open one has not ended
ended-none : {A : Type 0} (closing : Option Closing) → IsEnded closing → closing ≡ None → A
ended-none closing (inl long) none = absurd (none-some by.Long (sym none ∙ long))
ended-none closing (inr (inl quit)) none = absurd (none-some by.Quit (sym none ∙ quit))
ended-none closing (inr (inr behind)) none = absurd (none-some by.Behind (sym none ∙ behind))

-- it closed, no load was taken or added, and it is known still
pub record Closed (number : ℕ) (was is : BareSpace) : Type 0 where
  pub closes : Closes number was is
  pub keeps : KeepsLoads was is
  pub opened : IsOpened is number

module _ (was is : BareSpace) (number : ℕ) (sound : IsSoundSpace bare_tape was) (s : Stands IsFed number was) where
  closes-now : ServesEvent bare_tape was is (event.Close number) false → Closed number was is
  closes-now p =
      let x = p.turned sound.some sound.stands in
      let law = quiet-steps (config_of was) sound.some x.2.next x.0 (event.Close number) x.1.event_is (λ s. refl) tt x.2.follows in
      let was_open = open-where ((known_in sound.some).was_opened number) ((known_in sound.some).is_open number) (ap (refusal_of (config_of was) (known_in sound.some)) (sym x.1.event_is) ∙ follows-unrefused (config_of was) 0 sound.some x.2.next x.0 x.2.follows) in
      let none = none-of (closing_of was number) (sym (listed-is was sound.some number sound sound.stands s.opened) ∙ was_open) in
      record {
        closes = inl (
          none,
          x.2.closings number ∙ ap (λ o. closing_behind (config_of was) sound.some x.0 x.2.next o number) none
              ∙ closed-now (connection_in number x.2.next) (is_some (connection_in number sound.some)) (reason_of (config_of was) sound.some number x.0.event x.0.steps) (ap (connection_in number) law.1 ∙ found-none number sound.some.connections) was_open
              ∙ ap (λ e. Some (reason_of (config_of was) sound.some number e x.0.steps)) x.1.event_is,
          goes-quiet number was is (event.Close number) false (λ s alone. alone-without number number s.pending alone) (λ s. refl) tt (λ s other ne. found-left other number s.connections (ne_eqb number other (λ e. ne (sym e)))) p,
        );
        keeps = keeps-quiet was is (event.Close number) false (λ u f all. all-without f number u.pending all) (λ u. refl) tt s.situation p;
        opened = stays-opened was is (event.Close number) (happened-so was is (event.Close number) false p) number s.situation s.opened;
      }
    where
      open-where : (was_opened is_open : Bool) → option_or (refusal_where (not was_opened) error.NoConnection) (refusal_where (not is_open) error.Closed) ≡ None → is_open ≡ true
      open-where true true e = refl
      open-where true false e = let no : Some error.Closed ≡ None = e in cc
      open-where false is_open e = let no : Some error.NoConnection ≡ None = e in cc

      closed-now : (o : Option Connection) (b : Bool) (why : Closing) → o ≡ None → b ≡ true → (if is_some o || not b then None else Some why) ≡ Some why
      closed-now None true why e is = refl
      closed-now None false why e is = let no : false ≡ true = is in cc
      closed-now (Some c) b why e is = let no : Some c ≡ None = e in cc

  -- a closing is refused only where the connection has closed
  closed-before : (e : ServiceError) → refusal_of (config_of was) (known_of was) (event.Close number) ≡ Some e → IsEnded (closing_of was number)
  closed-before e refused = go s.left
    where
      closed-where : (was_opened is_open : Bool) → was_opened ≡ true → is_open ≡ true → option_or (refusal_where (not was_opened) error.NoConnection) (refusal_where (not is_open) error.Closed) ≡ Some e → ⊥
      closed-where true true opened opens refused = none-some e refused
      closed-where true false opened opens refused = let no : false ≡ true = opens in cc
      closed-where false is_open opened opens refused = let no : false ≡ true = opened in cc

      go : IsOpenOrEnded (closing_of was number) → IsEnded (closing_of was number)
      go (inl none) = absurd (closed-where ((known_of was).was_opened number) ((known_of was).is_open number) s.opened (sound.suits.listed number s.opened ∙ ap is_none none) refused)
      go (inr ended) = ended

  pub closed-so : ServesEvent bare_tape was is (event.Close number) false ⊎ IsClosedBefore number was is → Closed number was is
  closed-so (inl served) = closes-now served
  closed-so (inr refused) =
      subst (Closed number was) (sym refused.0)
      (record {
        closes = inr (closed-before refused.1 refused.2, refl, goes-still number was (λ s t. Unfed s t (untaken_notes was) (untaken_notes was)) (λ s stands. record { same = refl; notices = refl }));
        keeps = record { taken = refl; adds = λ n under. under };
        opened = s.opened;
      })

-- ---- what was carried between

module _ {C L : Type 0} (reads : C → ℕ → C → Type 0) (loads : L → List ℕ → Option Outcome → L → Type 0) (number : ℕ) (before after : Outside C L) where
  -- it was closed, or had closed
  record Ended (x z w : BareSpace) (left : Left) : Type 0 where
    closes : Bool
    goes : LeadsOnAlone number x w (λ s t. Carried (config_of x) number reads loads (world x s before) (world w t after) true closes [] left)
    ends : IsAtEnd after.remaining ⊎ (closing_of z number ≢ None) → EndsConnection closes (closing_of w number) after.remaining
    closed : closing_of w number ≢ None

  carried-ended : (x z w : BareSpace) (left : Left) → LeadsOnAlone number x z (λ s t. Carried (config_of x) number reads loads (world x s before) (world z t after) true false [] left) → Closes number z w → Ended x z w left
  carried-ended x z w left g (inl closes) = record {
    closes = true;
    goes = goes-more number x z w (λ s t. Carried (config_of x) number reads loads (world x s before) (world z t after) true false [] left) (λ s t. Quiet (config_of z) (event.Close number) s t (untaken_notes z) (untaken_notes w))
        (λ s t. Carried (config_of x) number reads loads (world x s before) (world w t after) true true [] left) g closes.2
        (λ s t u f q. carried-close (config_of x) number reads loads (world x s before) (world z t after) w u true left f (subst (λ k. Follows k t (record_of (event.Close number) []) u) g.config q.follows) q.notices);
    ends = λ over. (closes.1, at-end over);
    closed = λ none. none-some by.Asked (sym none ∙ closes.1);
  }
    where
      at-end : IsAtEnd after.remaining ⊎ (closing_of z number ≢ None) → IsAtEnd after.remaining
      at-end (inl end) = end
      at-end (inr closed) = absurd (closed closes.0)
  carried-ended x z w left g (inr closes) = record {
    closes = false;
    goes = goes-more number x z w (λ s t. Carried (config_of x) number reads loads (world x s before) (world z t after) true false [] left) (λ s t. Unfed s t (untaken_notes z) (untaken_notes w))
        (λ s t. Carried (config_of x) number reads loads (world x s before) (world w t after) true false [] left) g closes.2
        (λ s t u f q. carried-still (config_of x) number reads loads (world x s before) (world z t after) w u true false left f q.same q.notices);
    ends = λ over. subst IsEnded (sym closes.1) closes.0;
    closed = λ none. ended-none (closing_of z number) closes.0 (sym closes.1 ∙ none);
  }

  -- a connection was opened in a sound namespace, that was carried and these loads are left, and it was closed, or had closed
  module _ (x y z w : BareSpace) (sound : IsSoundSpace bare_tape x) (opens : OpensNext bare_tape x y number) (left : Left) (goes : LeadsOnAlone number x z (λ s t. Carried (config_of x) number reads loads (world x s before) (world z t after) true false [] left)) (closing : Closed number z w) where
    ended : Ended x z w left
    ended = carried-ended x z w left goes closing.closes

    -- none of them stays undone
    pub whole-so : left ≡ nothing_left → AddsNone y z → IsAtEnd after.remaining ⊎ (closing_of z number ≢ None) → ServesWhole reads loads x w before after
    whole-so none adds over = record {
      number = number;
      next = opens.1;
      closes = ended.closes;
      goes = subst (λ l. LeadsOnAlone number x w (λ s t. Carried (config_of x) number reads loads (world x s before) (world w t after) true ended.closes [] l)) none ended.goes;
      ends = ended.ends over;
      settled = adds-no-loads x w (λ n under. (opens-keeps x y number sound opens).adds n (adds n (closing.keeps.adds n under)));
    }

    -- loads were dropped then
    pub partly-so : (v : BareSpace) (e : RunError) (hand : List (LoadId × List ℕ)) → (e ≡ Moment → (t : ℕ) × (2 ^ 63 ≤ t) × (left.late ≡ t ∷ [])) → IsSoundSpace bare_tape w → Accounts y z [] hand → DropsBoth number hand w v → ServesPartly reads loads x v before after e
    partly-so v e hand late behind accounted dropped =
        let why = closed-why (closing_of v number) (dropped.gives.1 ended.closed) in
        record {
          number = number;
          next = opens.1;
          closes = ended.closes;
          goes = goes-more number x w v (λ s t. Carried (config_of x) number reads loads (world x s before) (world w t after) true ended.closes [] left) (λ s t. OnlyGivesUp (config_of w) s t (untaken_notes w) (untaken_notes v))
              (λ s t. (drops : List Record) × Broken (config_of x) number reads loads (world x s before) (world v t after) true ended.closes drops e) ended.goes dropped.gives.0
              (λ s t u f q. (
                q.drops,
                record {
                  left = left;
                  carried = carried-drops (config_of x) number reads loads (world x s before) (world w t after) v u true ended.closes [] q.drops left f (subst (λ k. after_records k t q.drops ≡ Some u) ended.goes.config q.follows) q.notices;
                  dropped = q.dropped;
                  moment = late;
                },
              ));
          why = why.0;
          closed = why.1;
          settled = λ alone. kept-behind x w v hand
              (accounts-later z w hand (later-kept z w closing.keeps) x (accounted x (accounts-later x y [] (later-kept x y (opens-keeps x y number sound opens)) x (accounted-none x)))) dropped.gone
              (nobody-behind number x w (λ s t. Carried (config_of x) number reads loads (world x s before) (world w t after) true ended.closes [] left) (situation-of x sound) behind closing.opened ended.goes ended.closed alone);
        }
      where
        closed-why : (c : Option Closing) → c ≢ None → (why : Closing) × (c ≡ Some why)
        closed-why None closed = absurd (closed refl)
        closed-why (Some why) closed = (why, refl)

-- What is kept, done and given in the calls of a lent service.

-- a connection that is there stays so
pub known-by : (F : BareSpace → BareSpace → Type 0) (old new : List BareSpace) (n number : ℕ) → At old new n F → ((x y : BareSpace) → slice_get old n ≡ Some x → F x y → IsOpened x number → IsOpened y number) → InSpace old n (λ space. IsOpened space number)
    → InSpace new n (λ space. IsOpened space number)
known-by F old new n number a keep i = record {
  space = a.is;
  at = at-is F old new n a;
  fact = keep a.was a.is a.at a.fact (subst (λ x. IsOpened x number) (sym (at-was F old new n a i.space i.at)) i.fact);
}

-- where loads were taken
pub known-given : (old new : List BareSpace) (n number : ℕ) (loads : Outs) → At old new n (GivesLoads loads) → InSpace old n (λ space. IsOpened space number) → InSpace new n (λ space. IsOpened space number)
known-given old new n number loads a i = known-by (GivesLoads loads) old new n number a (λ x y at t opened. subst (λ z. IsOpened z number) (sym (taken-same x y loads t.1)) opened) i

-- behind an event
pub known-settled : (old new : List BareSpace) (n number : ℕ) (happened : Event) → IsSoundAt old n → At old new n (λ was is. served.Settled bare_tape was is happened) → InSpace old n (λ space. IsOpened space number) → InSpace new n (λ space. IsOpened space number)
known-settled old new n number happened sound a i =
    known-by (λ was is. served.Settled bare_tape was is happened) old new n number a (λ x y at h opened. stays-opened x y happened h number (situation-of x (sound x at)) opened) i

pub known-served : (old new : List BareSpace) (n number : ℕ) (happened : Event) (held : Bool) → IsSoundAt old n → At old new n (λ was is. ServesEvent bare_tape was is happened held) → InSpace old n (λ space. IsOpened space number) → InSpace new n (λ space. IsOpened space number)
known-served old new n number happened held sound a i =
    known-settled old new n number happened sound (at-map (λ was is. ServesEvent bare_tape was is happened held) (λ was is. served.Settled bare_tape was is happened) old new n a (λ x y h. happened-so x y happened held h)) i

-- one that was opened is there
pub known-opened : (old new : List BareSpace) (n m number : ℕ) → m ≡ n → At old new n (λ was is. IsSoundSpace bare_tape was × OpensNext bare_tape was is number) → InSpace new m (λ space. IsOpened space number)
known-opened old new n m number same a =
    subst (λ k. InSpace new k (λ space. IsOpened space number)) (sym same)
    (record { space = a.is; at = at-is (λ was is. IsSoundSpace bare_tape was × OpensNext bare_tape was is number) old new n a; fact = (opens-stands a.was a.is number a.fact.0 a.fact.1).opened })

-- nothing was taken
pub none-given : (spaces : List BareSpace) (n number : ℕ) → InSpace spaces n (λ space. IsOpened space number) → At spaces spaces n (λ was is. is ≡ was)
none-given spaces n number i = at-same (λ was is. is ≡ was) spaces n i.space i.at refl

pub known-unmoved : (old new : List BareSpace) (n number : ℕ) → new ≡ old → InSpace old n (λ space. IsOpened space number) → InSpace new n (λ space. IsOpened space number)
known-unmoved old new n number same i = subst (λ spaces. InSpace spaces n (λ space. IsOpened space number)) (sym same) i

-- a connection that was opened is known
pub not-unknown : (space : BareSpace) (number : ℕ) (e : ServiceError) → IsOpened space number → IsUnknown space number e → ⊥
not-unknown space number e opened unknown = let h : true ≡ false = sym opened ∙ unknown.unknown in cc

-- ---- what is done and given

-- a namespace is sound also without the replies of a connection
sound-told : (was : BareSpace) (number : ℕ) → IsSoundSpace bare_tape was → IsSoundSpace bare_tape (without_output number was)
sound-told was number s = record {
  some = s.some;
  stands = record { held = s.stands.held; stands = s.stands.stands; is = s.stands.is };
  order = record {
    in_time = s.order.in_time;
    moment = s.order.moment;
    rests = s.order.rests;
    untaken = s.order.untaken;
    outputs = λ kept n. let no : false ≡ true = kept in cc;
    tidy = s.order.tidy;
    reads = s.order.reads;
  };
  suits = record { listed = s.suits.listed; counted = length-set was.outputs _ [] ∙ s.suits.counted; sent = s.suits.sent; fewer = s.suits.fewer };
}

-- loads that were moved out of a sound namespace, if they were requested
gives-wanted : (was is : BareSpace) (loads : Option Outs) → IsSoundSpace bare_tape was → GivesWanted was is loads → MayGiveLoads loads was is
gives-wanted was is None sound same = same
gives-wanted was is (Some loads) sound gives = (sound, record { taken = gives.taken; rest = gives.rest; in_turn = gives.in_turn; keys = gives.keys })

closing-kept : (was is : BareSpace) (number : ℕ) (loads : Option Outs) → GivesWanted was is loads → closing_of is number ≡ closing_of was number
closing-kept was is number None same = ap (λ (s : BareSpace). closing_of s number) same
closing-kept was is number (Some loads) gives = ap (λ (s : BareSpace). closing_of s number) gives.rest

opened-kept : (was is : BareSpace) (number : ℕ) (loads : Option Outs) → GivesWanted was is loads → IsOpened was number → IsOpened is number
opened-kept was is number None same opened = subst (λ z. IsOpened z number) (sym same) opened
opened-kept was is number (Some loads) gives opened = subst (λ z. IsOpened z number) (sym gives.rest) opened

-- what a connection was owed was moved out, and is given
pub at-gives : (old new : List BareSpace) (n number : ℕ) (wants : Bool) (owed : Owed) (given : Given) → IsSoundAt old n → At old new n (λ was is. served.GivesConnectionOwed was is number wants owed)
    → given.owed.replies ≡ owed.replies → given.owed.loads ≡ owed.loads → given.owed.closing ≡ owed.closing → At old new n (WereGiven number given)
at-gives old new n number wants owed given sound a replies loads closing =
    at-given (λ was is. served.GivesConnectionOwed was is number wants owed) (WereGiven number given) old new n a (λ x y at behind g.
    let told = without_output number x in
    let outs = option_map (λ l. l.items) owed.loads in
    record {
      told = told;
      text = untaken_output x number;
      texts = ap (option_map (λ (t : Vec ℕ Global). t.items)) replies ∙ g.1.replies;
      replies = record { opened = g.0; taken = refl; rest = refl };
      gives = subst (λ (o : Option (Vec (LoadId × List ℕ) Global)). MayGiveLoads (option_map (λ l. l.items) o) told y) (sym loads) (gives-wanted told y outs (sound-told x number (sound x at)) g.1.loads);
      closing = closing ∙ g.1.closing ∙ sym (closing-kept told y number outs g.1.loads);
    })

pub known-owed : (old new : List BareSpace) (n number : ℕ) (wants : Bool) (owed : Owed) → At old new n (λ was is. served.GivesConnectionOwed was is number wants owed) → InSpace old n (λ space. IsOpened space number) → InSpace new n (λ space. IsOpened space number)
known-owed old new n number wants owed a i =
    known-by (λ was is. served.GivesConnectionOwed was is number wants owed) old new n number a
    (λ x y at g opened. opened-kept (without_output number x) y number (option_map (λ l. l.items) owed.loads) g.1.loads opened) i

pub suits-so : (wants : Bool) (given : Given) → is_some given.owed.loads ≡ wants → given.owed.waits ≡ false → SuitsRequest true wants given
suits-so wants given some waits = record {
  unwanted = λ no. none-where given.owed.loads (some ∙ no);
  wanted = λ lent yes. some ∙ yes;
  waits = λ lent. waits;
}

-- that was done, and that was given: an exchange came
pub at-comes : (old mid new : List BareSpace) (n number : ℕ) (doing : Doing) (given : Given) → At old mid n (WasDone number doing) → At mid new n (WereGiven number given) → At old new n (λ was is. ExchangeCame number was (exchange_of doing given) is)
at-comes old mid new n number doing given a b =
    at-more (WasDone number doing) (WereGiven number given) (λ was is. ExchangeCame number was (exchange_of doing given) is) old mid new n a b
    (λ x y z d g. record { done = y; told = g.told; text = g.text; does = d; texts = g.texts; replies = g.replies; gives = g.gives; closing = g.closing })

-- ---- what settled a load

-- it was not under way
settled-unknown : {F : BareSpace → BareSpace → Type 0} (conn : Conn) (load moment : ℕ) (said : Option Outcome) (key : List ℕ) (old new : List BareSpace) (a : At old new conn.namespace F) → (a.is ≡ a.was) × ((known_of a.was).is_under_way load ≡ false)
    → (doing : Doing) × SettlesBy load moment (record { key = key; answer = said }) doing × At old new conn.namespace (WasDone conn.number doing)
settled-unknown conn load moment said key old new a unknown = (
  Settled (Dropped load (record { key = key; answer = said })) moment,
  record { settling = Dropped load (record { key = key; answer = said }); of = refl; numbered = refl; done = refl },
  record { was = a.was; is = a.is; at = a.at; set = a.set; fact = unknown },
)

-- with the outcome that was said
pub by-answer : (conn : Conn) (load : ℕ) (outcome : Outcome) (moment : ℕ) (said : Option Outcome) (old new : List BareSpace) → said ≡ Some outcome → At old new conn.namespace (AnswersOr load outcome moment) → SettlesAt conn load said moment old new
by-answer conn load outcome moment said old new is a key = go a.fact
  where
    go : AnswersOr load outcome moment a.was a.is → (doing : Doing) × SettlesBy load moment (record { key = key; answer = said }) doing × At old new conn.namespace (WasDone conn.number doing)
    go (inl h) = (
      Settled (Answered load key outcome) moment,
      record { settling = Answered load key outcome; of = ap (λ (o : Option Outcome). record { key = key; answer = o }) (sym is); numbered = refl; done = refl },
      record { was = a.was; is = a.is; at = a.at; set = a.set; fact = h },
    )
    go (inr h) = settled-unknown conn load moment said key old new a h

-- by a give-up, where that may be
pub by-give-up : (conn : Conn) (load moment : ℕ) (said : Option Outcome) (old new : List BareSpace) → ((x : BareSpace) → slice_get old conn.namespace ≡ Some x → IsGivenUpFor (config_of x) said) → At old new conn.namespace (GivesUpOr load moment) → SettlesAt conn load said moment old new
by-give-up conn load moment said old new may a key = go a.fact
  where
    go : GivesUpOr load moment a.was a.is → (doing : Doing) × SettlesBy load moment (record { key = key; answer = said }) doing × At old new conn.namespace (WasDone conn.number doing)
    go (inl h) = (
      Settled (GivenUp load (record { key = key; answer = said })) moment,
      record { settling = GivenUp load (record { key = key; answer = said }); of = refl; numbered = refl; done = refl },
      record { was = a.was; is = a.is; at = a.at; set = a.set; fact = (h, may a.was a.at) },
    )
    go (inr h) = settled-unknown conn load moment said key old new a h

-- What a driver answers for to whom a service is lent gives what `run` promises.

-- what stays undone
abbrev left_of : LeftUndone → Left
left_of rest = record { late = late_of rest; lost = lost_of rest; asked = asked_of rest; unsent = rest.unsent }

-- ---- of a service

-- exchanges of a service are exchanges of the namespace
chain-at : (conn : Conn) (old : List BareSpace) (hand : Outs) (exchanges : List Exchange) (new : List BareSpace) (after : Outs) (x : BareSpace) → slice_get old conn.namespace ≡ Some x → Chain (ComesAt conn) old hand exchanges new after
    → At old new conn.namespace (λ was is. Chain (ExchangeCame conn.number) was hand exchanges is after)
chain-at conn old hand [] new after x at c = at-unmoved old new c.0 (at-same (λ was is. Chain (ExchangeCame conn.number) was hand [] is after) old conn.namespace x at (refl, c.1))
chain-at conn old hand (exchange ∷ exchanges) new after x at c =
    let n = conn.namespace in
    at-more (λ was is. ExchangeCame conn.number was exchange is) (λ was is. Chain (ExchangeCame conn.number) was c.1 exchanges is after) (λ was is. Chain (ExchangeCame conn.number) was hand (exchange ∷ exchanges) is after) old c.0 new n c.2
    (chain-at conn c.0 c.1 exchanges new after c.2.is (at-is (λ was is. ExchangeCame conn.number was exchange is) old c.0 n c.2) c.4) (λ u v w p q. (v, c.1, p, c.3, q))

-- an opening, exchanges and a closing, one behind the other
record Between (conn : Conn) (exchanges : List Exchange) (hand : Outs) (x w : BareSpace) : Type 0 where
  opened : BareSpace
  left : BareSpace
  opens : IsSoundSpace bare_tape x × OpensNext bare_tape x opened conn.number
  chain : Chain (ExchangeCame conn.number) opened [] exchanges left hand
  closes : ClosesIt conn.number left w

between : (namespace : ℕ) (conn : Conn) (old opened left new : List BareSpace) (exchanges : List Exchange) (hand : Outs) → OpensAt namespace conn old opened → Chain (ComesAt conn) opened [] exchanges left hand → ClosesAt conn left new
    → At old new conn.namespace (Between conn exchanges hand)
between namespace conn old opened left new exchanges hand opens chain closes =
    let n = conn.namespace in
    let Opens : BareSpace → BareSpace → Type 0 = λ x y. IsSoundSpace bare_tape x × OpensNext bare_tape x y conn.number in
    let LeftUndone : BareSpace → BareSpace → Type 0 = λ y w. (z : BareSpace) × Chain (ExchangeCame conn.number) y [] exchanges z hand × ClosesIt conn.number z w in
    let first : At old opened n Opens = subst (λ k. At old opened k Opens) (sym opens.0) opens.1 in
    let second = chain-at conn opened [] exchanges left hand first.is (at-is Opens old opened n first) chain in
    at-more Opens LeftUndone (Between conn exchanges hand) old opened new n first
    (at-more (λ y z. Chain (ExchangeCame conn.number) y [] exchanges z hand) (ClosesIt conn.number) LeftUndone opened left new n second closes (λ y z w p q. (z, p, q))) (λ x y w o q. record { opened = y; left = q.0; opens = o; chain = q.1; closes = q.2 })

module _ {C L : Type 0} (reads : C → ℕ → C → Type 0) (loads : L → List ℕ → Option Outcome → L → Type 0) (namespace : ℕ) (old new : List BareSpace) (a b : Outside C L) where
  -- what was talked between an opening and a closing
  module _ (conn : Conn) (h k : List BareSpace) (hand : Outs) (rest : LeftUndone) (t : Talks (ComesAt conn) reads loads h k a b [] hand rest) (x w : BareSpace) (r : Between conn t.exchanges hand x w) where
    leads : Leads conn.number r.opened r.left [] hand t.exchanges
    leads = chain-leads conn.number r.opened [] t.exchanges r.left hand (opens-stands x r.opened conn.number r.opens.0 r.opens.1) r.chain

    goes : LeadsOnAlone conn.number x r.left (λ s u. Carried (config_of x) conn.number reads loads (world x s a) (world r.left u b) true false [] (left_of rest))
    goes =
        let first = opens-quiet x r.opened conn.number r.opens.0 r.opens.1 in
        goes-more conn.number x r.opened r.left (λ s m. Quiet (config_of x) (event.Open conn.number) s m (untaken_notes x) (untaken_notes r.opened))
        (λ m u. AreKnown [] m → Led (config_of r.opened) conn.number m u (untaken_notes r.opened) (untaken_notes r.left) (pieces_in t.exchanges) (moments_in t.exchanges) (askings_in t.exchanges) (replies_in t.exchanges) (outgoing_of r.opened) (hand ++ outgoing_of r.left) × AreKnown hand u)
        (λ s u. Carried (config_of x) conn.number reads loads (world x s a) (world r.left u b) true false [] (left_of rest)) first leads.goes
        (λ s m u f g.
        let led = subst (λ k. Led k conn.number m u (untaken_notes r.opened) (untaken_notes r.left) (pieces_in t.exchanges) (moments_in t.exchanges) (askings_in t.exchanges) (replies_in t.exchanges) (outgoing_of r.opened) (hand ++ outgoing_of r.left)) first.config (g (All-nil (λ (o : LoadId × List ℕ). IsKnown o.0.number o.1 m))).0 in
        carried-led reads loads (config_of x) conn.number x r.opened r.left s m u a b (pieces_in t.exchanges) (moments_in t.exchanges) (askings_in t.exchanges) (replies_in t.exchanges) (outgoing_of r.opened) (hand ++ outgoing_of r.left) (left_of rest) t.sent f led
        (opens-outgoing x r.opened conn.number r.opens.0 r.opens.1) (asked-refused hand (outgoing_of r.left) rest.refused t.refused) t.read t.wrote t.replies t.clock t.loader)

    closing : Closed conn.number r.left w
    closing = closed-so r.left w conn.number r.closes.sound (record { situation = leads.stands.situation; opened = leads.stands.opened; left = leads.stands.left.0 }) r.closes.closes

  -- a connection that came to its end was served whole
  lent-whole : (s : Session) (start m : List BareSpace) → OpensAt namespace s.conn old start → Finished true ComesAt ClosesAt reads loads start a s m b → ClosesAt s.conn m new → At old new namespace (λ was is. ServesWhole reads loads was is a b)
  lent-whole s start m opens f closes =
      subst (λ k. At old new k (λ was is. ServesWhole reads loads was is a b)) opens.0
      (at-map (Between s.conn f.talks.exchanges []) (λ was is. ServesWhole reads loads was is a b) old new s.conn.namespace (between namespace s.conn old start f.closed new f.talks.exchanges [] opens f.talks.chain (f.behind new closes))
      (λ x w r.
      whole-so reads loads s.conn.number a b x r.opened r.left w r.opens.0 r.opens.1 (left_of f.rest) (goes s.conn start f.closed [] f.rest f.talks x w r) (closing s.conn start f.closed [] f.rest f.talks x w r) (ap left_of (f.whole refl))
      (chain-adds-none s.conn.number r.opened f.talks.exchanges r.left r.closes.sound r.chain (f.done refl) (leads s.conn start f.closed [] f.rest f.talks x w r).accounted) (over x w r f.over)))
    where
      over : (x w : BareSpace) (r : Between s.conn f.talks.exchanges [] x w) → IsAtEnd b.remaining ⊎ HaveClosed f.talks.exchanges ⊎ (f.rest.refused ≢ None) → IsAtEnd b.remaining ⊎ (closing_of r.left s.conn.number ≢ None)
      over x w r (inl end) = inl end
      over x w r (inr (inl have)) = inr (chain-closed s.conn.number r.opened [] f.talks.exchanges r.left [] r.chain have)
      over x w r (inr (inr refused)) = absurd (refused (ap (λ (r : LeftUndone). r.refused) (f.whole refl)))

  -- one that came to an error was served partly
  lent-partly : (s : Session) (start m : List BareSpace) (middle : L) (e : RunError) → OpensAt namespace s.conn old start → Stopped true ComesAt ClosesAt reads loads start a s m (asking_then b middle) e → ClosesAfter ClosesAt DropsAt loads (Err e) s m new middle b.loader
      → At old new namespace (λ was is. ServesPartly reads loads was is a b e)
  lent-partly s start m middle e opens f closes =
      let unasked : b.loader ≡ middle = subst (λ askings. Askings loads middle askings b.loader) closes.3.1 closes.4 in
      let hand = s.taken.items in
      let t = subst (λ (l : L). Talks (ComesAt s.conn) reads loads start f.stopped a (asking_then b l) [] hand f.rest) (sym unasked) f.talks in
      subst (λ k. At old new k (λ was is. ServesPartly reads loads was is a b e)) opens.0
      (at-more (Between s.conn t.exchanges hand) (DropsBoth s.conn.number hand) (λ was is. ServesPartly reads loads was is a b e) old closes.0 new s.conn.namespace
      (between namespace s.conn old start f.stopped closes.0 t.exchanges hand opens t.chain (f.behind closes.0 closes.2)) closes.3.0
      (λ x w v r p.
      partly-so reads loads s.conn.number a b x r.opened r.left w r.opens.0 r.opens.1 (left_of f.rest) (goes s.conn start f.stopped hand f.rest t x w r) (closing s.conn start f.stopped hand f.rest t x w r) v e hand
      (λ is. let l = f.late is in (l.moment, l.late, ap (λ (o : Option Doing). option_map_or readings_of o []) l.refused ∙ l.told)) r.closes.behind (leads s.conn start f.stopped hand f.rest t x w r).accounted p))

  abbrev pub Served : Result (Unit {0}) RunError → Type 0
  Served outcome = MatchResult outcome (λ done. At old new namespace (λ was is. ServesWhole reads loads was is a b)) (λ e. At old new namespace (λ was is. ServesPartly reads loads was is a b e))

  -- whatever it came to
  pub lent-served : (s : Session) (start m : List BareSpace) (middle : L) (result : Result Progress RunError) → OpensAt namespace s.conn old start → ComesToProgress true ComesAt ClosesAt reads loads start a result s m (asking_then b middle)
      → ClosesAfter ClosesAt DropsAt loads (outcome_by result) s m new middle b.loader → Served (outcome_by result)
  lent-served s start m middle (Ok More) opens comes closes = lent-partly s start m middle UsedUp opens (underway-stopped true ComesAt ClosesAt reads loads start a s m (asking_then b middle) comes) closes
  lent-served s start m middle (Ok Over) opens comes closes = lent-whole s start m opens (subst (λ (l : L). Finished true ComesAt ClosesAt reads loads start a s m (asking_then b l)) (sym closes.1) comes) closes.0
  lent-served s start m middle (Err e) opens comes closes = lent-partly s start m middle e opens comes closes

  -- however it ended, no load is under way where none was before
  pub lent-none : (outcome : Result (Unit {0}) RunError) → Served outcome → At old new namespace (λ was is. loads_under_way_in was ≡ [] → loads_under_way_in is ≡ [])
  lent-none (Ok done) d = at-map (λ was is. ServesWhole reads loads was is a b) (λ was is. loads_under_way_in was ≡ [] → loads_under_way_in is ≡ []) old new namespace d (λ x y w none. none-behind x y w.settled none)
  lent-none (Err e) d =
      at-map (λ was is. ServesPartly reads loads was is a b e) (λ was is. loads_under_way_in was ≡ [] → loads_under_way_in is ≡ []) old new namespace d (λ x y q none. none-behind x y (q.settled (subst (WaitsAlone q.number) (sym none) tt)) none)

-- ---- why it stopped

-- the cause of one error
pub cause-of : {T : Type 0} (r w u m : Type 0) (o : Result T RunError) (e : RunError) → IfErr o (Because r w u m) → IsErrOf o e → Because r w u m e
cause-of r w u m o e why is = subst (λ x. IfErr x (Because r w u m)) is why

-- where no connection could be opened, it was for want of memory
pub memory-only : (e : RunError) → Because ⊥ ⊥ ⊥ ⊥ e → e ≡ OutOfMemory
memory-only Read why = absurd why
memory-only Write why = absurd why
memory-only OutOfMemory why = refl
memory-only UsedUp why = absurd why
memory-only Moment why = absurd why

-- where it is not gone on with, turns that were used up are the cause of one more error
pub stops-for : (r w u m a b v : Type 0) (ended : Result Progress RunError) → a → b → (v → u) → IfErr ended (Because r w ⊥ m) → IfOk ended (λ progress. progress ≡ More → a → b → v) → IfErr (outcome_by ended) (Because r w u m)
stops-for r w u m a b v (Ok More) x y f why more = f (more refl x y)
stops-for r w u m a b v (Ok Over) x y f why more = tt
stops-for r w u m a b v (Err e) x y f why more = because-map e (λ x. x) (λ x. x) (λ never. absurd never) (λ x. x) why

-- no loader is asked for loads that are dropped
pub unasked : {L : Type 0} (loads : L → List ℕ → Option Outcome → L → Type 0) (outcome : Result (Unit {0}) RunError) (s : Session) (h k : List BareSpace) (loader loader' : L) → ClosesAfter ClosesAt DropsAt loads outcome s h k loader loader' → loader' ≡ loader
unasked loads (Ok done) s h k loader loader' closes = closes.1
unasked loads (Err e) s h k loader loader' closes = subst (λ askings. Askings loads loader askings loader') closes.3.1 closes.4

-- ---- what it served

module _ {R W C L : Type 0} (remaining : R → Option (List ℕ)) (contents : W → Option (List ℕ)) (reads : C → ℕ → C → Type 0) (loads : L → List ℕ → Option Outcome → L → Type 0) (namespace : ℕ) (old new : List BareSpace)
    (reader reader' : Watched R) (writer writer' : Watched W) (clock clock' : C) (loader loader' : L) where
  abbrev Ran : Result (Unit {0}) RunError → Type 0
  Ran result = Served reads loads namespace old new (around remaining contents reader writer clock loader) (around remaining contents reader' writer' clock' loader') result

  pub runs-whole : (result : Result (Unit {0}) RunError) → Ran result → OnOk result (RunsWhole remaining contents reads loads namespace old new reader reader' writer writer' clock clock' loader loader')
  runs-whole (Ok done) d = d
  runs-whole (Err e) d = tt

  pub runs-partly : (result : Result (Unit {0}) RunError) → Ran result → IfErr result (RunsPartly remaining contents reads loads namespace old new reader reader' writer writer' clock clock' loader loader')
  runs-partly (Ok done) d = tt
  runs-partly (Err e) d = inr d
