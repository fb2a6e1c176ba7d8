-- What an event and its record do to a namespace that keeps no journal.
use Rattle.std.proofs.Common.{◌≡◌, ℕ, ◌≤◌, Bool, true, false, not, ◌&&◌, ◌==◌, cond, List, [], ◌∷◌, ◌++◌, Option, Some, None, if◌then◌else◌, refl, sym, ap, ◌∙◌, subst, arith, ◌≢◌, zero, suc, ◌<◌, ◌||◌, nat_lt, nat_le, length, is_some, inl, inr, is_none, unwrap_or, ◌^◌, ⊎_elim, ◌⊎◌, MatchOption}
use Rattle.std.proofs.lemmas.Bool.{and_parts, and_from, eq-eqb, le-leb, leb-true, ne_eqb}
use Rattle.std.proofs.lemmas.List.{append-nil}
use Rattle.std.proofs.lemmas.Option.{none-some, same_Some, slice_get_past}
use Rattle.std.specs.List.{find, flat_map, slice_get}
use Rattle.std.specs.Option.{option_or}
use Rattle.audit_model.specs.Belongs.{refusal_of, Known, refusal_of_outcome, refusal_where}
use Rattle.audit_model.specs.Bytewise.{is_empty}
use Rattle.audit_model.specs.Follows.{Follows, after_event, after_steps, known_in, tasks_in}
use Rattle.audit_model.specs.Grammar.{is_value}
use Rattle.audit_model.specs.Obeys.{has_right_own_value, is_numbered}
use Rattle.audit_model.specs.Places.{steps_of}
use Rattle.audit_model.specs.Situation.{Situation, Connection, connection_in, without_number}
use Rattle.audit_model.specs.declared.command.Closing.{Closing}
use Rattle.audit_model.specs.declared.config.Config.{Config}
use Rattle.audit_model.specs.declared.event.Event.{Event}
use Rattle.audit_model.specs.declared.event.Outcome.{Outcome}
use Rattle.audit_model.specs.declared.input.ServiceError.{ServiceError}
use Rattle.audit_model.specs.declared.transcript.Accepted.{Accepted}
use Rattle.audit_model.specs.declared.transcript.Note.{Note}
use Rattle.audit_model.specs.declared.transcript.Record.{Record}
use Rattle.audit_model.specs.declared.transcript.Step.{Step}
use Rattle.audit_laws.proofs.Following.{passed}
use Rattle.audit_laws.proofs.waiting.Events.{records}
use Rattle.audit_laws.specs.Waiting.Alone.{IsTurnOf, StepsOf}
use Rattle.cache_lines.specs.Ended.{ends_silent}
use Rattle.cache_lines.specs.Gathered.{reply_in}
use Rattle.cache_lines.specs.Lines.{ends_quit}
use Rattle.cache_core.specs.Settling.{answering, giving_up}
use Rattle.cache_core.specs.State.{at_number}
use Rattle.cache_core.specs.Turned.{Turned, closing_behind, is_waiting_in, own_steps, reason_of, replies_to}
use Rattle.cache_spaces.proofs.Gaining.{record-opens}
use Rattle.cache_spaces.specs.Services.{BareSpace, bare_tape, IsSoundSpace}
use Rattle.cache_spaces.specs.Calls.{IsOpened, ServesEvent, Settled, RefusedFor}
use Rattle.cache_spaces.specs.Spaces.{StandsFor, closing_of, config_of, untaken_output, known_of, shown_of}
use Rattle.cache_run.specs.Connected.{HasSituation, IsEnded, IsOpenOrEnded}
use Rattle.cache_run.specs.Worlds.{LeadsOnAlone}
use Rattle.cache_run.specs.Happened.{record_of}
use Rattle.audit_model.specs.declared.event.Event.TheVariants as event
use Rattle.audit_model.specs.declared.command.Closing.TheVariants as by
use Rattle.audit_laws.proofs.waiting.Apart as apart
use Rattle.audit_model.specs.declared.event.Outcome.TheVariants as came
use Rattle.audit_model.specs.declared.input.ServiceError.TheVariants as error

-- ---- what a record that follows passes

pub none-of : {A : Type 0} (o : Option A) → is_none o ≡ true → o ≡ None
none-of None e = refl
none-of (Some x) e = let no : false ≡ true = e in cc

pub none-where : {A : Type 0} (o : Option A) → is_some o ≡ false → o ≡ None
none-where None e = refl
none-where (Some x) e = let no : true ≡ false = e in cc

module _ (config : Config) (s t : Situation) (entry : Record) (e : Follows config s entry t) where
  test : (is_none (refusal_of config (known_in s) entry.event) && is_numbered s.opened entry.event && has_right_own_value entry) ≡ true
  test = (passed (is_none (refusal_of config (known_in s) entry.event) && is_numbered s.opened entry.event && has_right_own_value entry) (after_steps config (after_event entry.event s) (tasks_in s entry.event) (steps_of entry)) t e).test

  own-value : has_right_own_value entry ≡ true
  own-value = (and_parts (is_none (refusal_of config (known_in s) entry.event) && is_numbered s.opened entry.event) (has_right_own_value entry) test).1

  pub steps-follow : after_steps config (after_event entry.event s) (tasks_in s entry.event) (steps_of entry) ≡ Some t
  steps-follow = (passed (is_none (refusal_of config (known_in s) entry.event) && is_numbered s.opened entry.event && has_right_own_value entry) (after_steps config (after_event entry.event s) (tasks_in s entry.event) (steps_of entry)) t e).rest

-- ---- the record of an event that is no answer has no value and no notes of its own

abbrev pub IsPlain : Event → Type 0
IsPlain (event.Open conn) = Unit {0}
IsPlain (event.Close conn) = Unit {0}
IsPlain (event.Feed conn piece moment) = Unit {0}
IsPlain (event.Answer load outcome moment) = ⊥
IsPlain (event.GiveUp load moment) = Unit {0}

plain-own : (happened : Event) (own : Option Accepted) (notices : List Note) (steps : List Step) → (is_none own && is_empty notices) ≡ true → record { event = happened; own = own; notices = notices; steps = steps } ≡ record_of happened steps
plain-own happened None [] steps e = refl
plain-own happened None (x ∷ xs) steps e = let no : false ≡ true = e in cc
plain-own happened (Some x) notices steps e = let no : false ≡ true = e in cc

plain-by : (happened : Event) (own : Option Accepted) (notices : List Note) (steps : List Step) → IsPlain happened → has_right_own_value (record { event = happened; own = own; notices = notices; steps = steps }) ≡ true
    → record { event = happened; own = own; notices = notices; steps = steps } ≡ record_of happened steps
plain-by (event.Open conn) own notices steps plain e = plain-own (event.Open conn) own notices steps e
plain-by (event.Close conn) own notices steps plain e = plain-own (event.Close conn) own notices steps e
plain-by (event.Feed conn piece moment) own notices steps plain e = plain-own (event.Feed conn piece moment) own notices steps e
plain-by (event.Answer load outcome moment) own notices steps plain e = absurd plain
plain-by (event.GiveUp load moment) own notices steps plain e = plain-own (event.GiveUp load moment) own notices steps e

pub plain-record : (config : Config) (s t : Situation) (entry : Record) (happened : Event) → Follows config s entry t → entry.event ≡ happened → IsPlain entry.event → entry ≡ record_of happened entry.steps
plain-record config s t entry happened e is plain = grind (arith, plain-by, own-value)

-- ---- an opening or a closing has no steps

pub no-steps : (config : Config) (s t : Situation) (steps : List Step) → after_steps config s [] steps ≡ Some t → (steps ≡ []) × (t ≡ s)
no-steps config s t [] e = (refl, sym (same_Some s t e))
no-steps config s t (step ∷ steps) e = absurd (none-some t e)

pub plain-steps : (happened : Event) (steps : List Step) → IsPlain happened → steps_of (record_of happened steps) ≡ steps
plain-steps (event.Open conn) steps plain = refl
plain-steps (event.Close conn) steps plain = refl
plain-steps (event.Feed conn piece moment) steps plain = refl
plain-steps (event.Answer load outcome moment) steps plain = absurd plain
plain-steps (event.GiveUp load moment) steps plain = refl

-- such a record leads to where its event does
pub quiet-steps : (config : Config) (s t : Situation) (entry : Record) (happened : Event) → entry.event ≡ happened → ((u : Situation) → tasks_in u happened ≡ []) → IsPlain happened → Follows config s entry t
    → (entry ≡ record_of happened []) × (t ≡ after_event happened s)
quiet-steps config s t entry happened is idle plain follows = grind (arith, plain-record, IsPlain, plain-steps, steps-follow, no-steps)

-- ---- the connections that were opened

pub record-opened : (config : Config) (s t : Situation) (entry : Record) → Follows config s entry t → s.opened ≤ t.opened
record-opened config s t entry e = let more = record-opens config s t entry e in omega (arith, more)

-- ---- one that is listed behind others

pub found-behind : (k : Connection) (c : ℕ) (ks : List Connection) → (k.number == c) ≡ false → find (λ x. x.number == c) (ks ++ k ∷ []) ≡ find (λ x. x.number == c) ks
found-behind k c [] ne = ap (λ b. cond b (Some k) None) ne
found-behind k c (x ∷ xs) ne = ap (λ o. cond (x.number == c) (Some x) o) (found-behind k c xs ne)

-- one is found where one of that number is listed last
pub found-last : (k : Connection) (c : ℕ) (ks : List Connection) → (k.number == c) ≡ true → is_none (find (λ x. x.number == c) (ks ++ k ∷ [])) ≡ false
found-last k c [] is = ap (λ b. is_none (cond b (Some k) None)) is
found-last k c (x ∷ xs) is = grind (arith, found-last k c xs is)

-- none is, where those of that number are left out
pub found-none : (c : ℕ) (ks : List Connection) → find (λ x. x.number == c) (without_number c ks) ≡ None
found-none c [] = refl
found-none c (x ∷ xs) = grind (arith, found-none c xs)

-- ---- what a situation says of a namespace

pub pending-is : (x : BareSpace) (s : Situation) → StandsFor x s → s.pending ≡ x.pending
pending-is x s stands = ap (λ (t : Situation). t.pending) stands.is

pub sent-is : (x : BareSpace) (s : Situation) → StandsFor x s → s.sent ≡ x.sent
sent-is x s stands = ap (λ (t : Situation). t.sent) stands.is

pub opened-is : (x : BareSpace) (s : Situation) → StandsFor x s → s.opened ≡ length x.closings
opened-is x s stands = ap (λ (t : Situation). t.opened) stands.is

-- a connection is listed just while it has not closed
pub listed-is : (x : BareSpace) (s : Situation) (number : ℕ) → IsSoundSpace bare_tape x → StandsFor x s → IsOpened x number → is_some (connection_in number s) ≡ is_none (closing_of x number)
listed-is x s number sound stands opened = ap (λ (t : Situation). is_some (connection_in number t)) stands.is ∙ sound.suits.listed number opened

-- a sound one stands for a situation
pub situation-of : (x : BareSpace) → IsSoundSpace bare_tape x → HasSituation x
situation-of x sound = record { some = sound.some; stands = sound.stands }

-- each namespace of that number is sound
abbrev pub IsSoundAt : List BareSpace → ℕ → Type 0
IsSoundAt spaces n = (x : BareSpace) → slice_get spaces n ≡ Some x → IsSoundSpace bare_tape x

-- ---- an event

-- an event happened
pub happened-so : (was is : BareSpace) (happened : Event) (held : Bool) → ServesEvent bare_tape was is happened held → Settled bare_tape was is happened
happened-so was is happened held t = record {
  turned = λ s stands. let x = t.turned s stands in (x.0, x.1.event_is, x.2);
  stays = t.stays;
}

-- the steps of other connections
pub no-own-steps : (number other : ℕ) (steps : List Step) → StepsOf number steps → other ≢ number → own_steps other steps ≡ []
no-own-steps number other [] own ne = refl
no-own-steps number other (step ∷ steps) own ne = grind (arith, ne_eqb, no-own-steps number other steps own.1 ne)

pub own-replies : (number : ℕ) (steps : List Step) → StepsOf number steps → replies_to number steps ≡ flat_map reply_in steps
own-replies number [] own = refl
own-replies number (step ∷ steps) own = grind (arith, eq-eqb, own-replies number steps own.1)

-- a connection that is listed as it was is closed as it was
pub same-closing : (config : Config) (s next : Situation) (entry : Record) (n : ℕ) (o : Option Closing) → connection_in n next ≡ connection_in n s → closing_behind config s entry next o n ≡ o
same-closing config s next entry n (Some why) e = refl
same-closing config s next entry n None e = grind arith

-- ---- a feed, or a load that is settled

ended-by : (waited quit silent : Bool) → IsEnded (Some (if quit then by.Quit else (if waited || silent then by.Behind else by.Long)))
ended-by waited true silent = inr (inl refl)
ended-by true false silent = inr (inr refl)
ended-by false false true = inr (inr refl)
ended-by false false false = inl refl

reason-ended : (config : Config) (s : Situation) (number other : ℕ) (happened : Event) (steps : List Step) → IsTurnOf other happened → IsEnded (Some (reason_of config s number happened steps))
reason-ended config s number other (event.Open conn) steps turn = absurd turn
reason-ended config s number other (event.Close conn) steps turn = absurd turn
reason-ended config s number other (event.Feed conn piece moment) steps turn = ended-by (is_waiting_in s number) (ends_quit config (own_steps number steps)) (ends_silent (own_steps number steps))
reason-ended config s number other (event.Answer load outcome moment) steps turn = ended-by false (ends_quit config (own_steps number steps)) (ends_silent (own_steps number steps))
reason-ended config s number other (event.GiveUp load moment) steps turn = ended-by false (ends_quit config (own_steps number steps)) (ends_silent (own_steps number steps))

left-behind : (config : Config) (s next : Situation) (entry : Record) (number other : ℕ) (o : Option Closing) → IsTurnOf other entry.event → IsOpenOrEnded o → IsOpenOrEnded (closing_behind config s entry next o number)
left-behind config s next entry number other (Some why) turn left = left
left-behind config s next entry number other None turn left = go (is_some (connection_in number next) || not (is_some (connection_in number s)))
  where
    go : (b : Bool) → IsOpenOrEnded (if b then None else Some (reason_of config s number entry.event entry.steps))
    go true = inl refl
    go false = inr (reason-ended config s number other entry.event entry.steps turn)

closed-behind : (config : Config) (s next : Situation) (entry : Record) (number : ℕ) (o : Option Closing) → o ≢ None → closing_behind config s entry next o number ≡ o
closed-behind config s next entry number (Some why) closed = refl
closed-behind config s next entry number None closed = absurd (closed refl)

module _ (was is : BareSpace) (happened : Event) (h : Settled bare_tape was is happened) where
  -- it stands for a situation again
  pub situation-behind : HasSituation was → HasSituation is
  situation-behind before = let x = h.turned before.some before.stands in record { some = x.2.next; stands = x.2.stands }

  -- connections that were opened stay so
  pub stays-opened : (number : ℕ) → HasSituation was → IsOpened was number → IsOpened is number
  stays-opened number begun opened =
      let x = h.turned begun.some begun.stands in
      let more = record-opened (config_of was) begun.some x.2.next x.0 x.2.follows in
      let before = opened-is was begun.some begun.stands in
      let after = opened-is is x.2.next x.2.stands in
      let parts = and_parts (nat_lt 0 number) (nat_le number (length was.closings)) opened in
      let few = leb-true number (length was.closings) parts.1 in
      and_from (nat_lt 0 number) (nat_le number (length is.closings)) parts.0 (le-leb number (length is.closings) (omega (arith, more, before, after, few)))

  -- one that is open may have closed for what it was fed
  pub stays-fed : (number other : ℕ) → IsTurnOf other happened → HasSituation was → IsOpenOrEnded (closing_of was number) → IsOpenOrEnded (closing_of is number)
  stays-fed number other turn begun left =
      let x = h.turned begun.some begun.stands in
      subst IsOpenOrEnded (sym (x.2.closings number)) (left-behind (config_of was) begun.some x.2.next x.0 number other (closing_of was number) (subst (IsTurnOf other) (sym x.1) turn) left)

  -- one that has closed stays so
  pub stays-closed : (number : ℕ) → HasSituation was → closing_of was number ≢ None → closing_of is number ≡ closing_of was number
  stays-closed number begun closed =
      let x = h.turned begun.some begun.stands in
      x.2.closings number ∙ closed-behind (config_of was) begun.some x.2.next x.0 number (closing_of was number) closed

  -- where no other connection waits, the namespace goes on by steps of this one
  pub goes-by : (number : ℕ) → IsTurnOf number happened → (F : Situation → Situation → Type 0)
      → ((s t : Situation) (entry : Record) → entry.event ≡ happened → Turned shown_of bare_tape was is s entry → Follows (config_of was) s entry t → StepsOf number entry.steps → StandsFor was s → F s t) → LeadsOnAlone number was is F
  goes-by number turn F f = record {
    each = λ s stands alone.
        let x = h.turned s stands in
        let at = subst (IsTurnOf number) (sym x.1) turn in
        let law = records (config_of was) s x.2.next x.0 number x.2.follows at alone in
        record {
          next = x.2.next;
          stands = x.2.stands;
          alone = law.1;
          fact = f s x.2.next x.0 x.1 x.2 x.2.follows law.0 stands;
          others = λ other ne. (
            x.2.outputs other ∙ ap (λ steps. untaken_output was other ++ flat_map reply_in steps) (no-own-steps number other x.0.steps law.0 ne) ∙ append-nil (untaken_output was other),
            x.2.closings other ∙ same-closing (config_of was) s x.2.next x.0 other (closing_of was other) (apart.records (config_of was) s x.2.next x.0 number other x.2.follows at alone ne),
          );
        };
    config = h.stays.config;
  }

-- ---- what was not opened yet

pub none-past : {A : Type 0} (other : A) (xs : List A) (number : ℕ) → length xs < number → at_number other xs number ≡ other
none-past other xs zero lt = refl
none-past {A} other xs (suc place) lt = ap (λ (o : Option A). unwrap_or o other) (slice_get_past xs place (omega (arith, lt)))

-- Why a load is not settled.

-- a give-up is refused only for its load, which is not under way, or for its moment, which is late
give-up-kinds : (moment : ℕ) (under_way late : Bool) (e : ServiceError) → nat_le (2 ^ 63) moment ≡ late → option_or (refusal_where (not under_way) error.NoLoad) (refusal_where late error.Moment) ≡ Some e
    → ((e ≡ error.NoLoad) × (under_way ≡ false)) ⊎ ((e ≡ error.Moment) × (2 ^ 63 ≤ moment))
give-up-kinds moment false late e is r = inl (sym (same_Some error.NoLoad e r), refl)
give-up-kinds moment true true e is r = inr (sym (same_Some error.Moment e r), leb-true (2 ^ 63) moment is)
give-up-kinds moment true false e is r = absurd (none-some e r)

pub give-up-late : (config : Config) (known : Known) (load moment : ℕ) → refusal_of config known (giving_up load moment) ≡ Some error.Moment → 2 ^ 63 ≤ moment
give-up-late config known load moment r = grind (arith, give-up-kinds)

pub give-up-unknown : (config : Config) (known : Known) (load moment : ℕ) (e : ServiceError) → refusal_of config known (giving_up load moment) ≡ Some e → e ≢ error.Moment → known.is_under_way load ≡ false
give-up-unknown config known load moment e r ne = ⊎_elim (λ p. p.1) (λ p. absurd (ne p.0)) (give-up-kinds moment (known.is_under_way load) (nat_le (2 ^ 63) moment) e refl r)

-- moment 0 is never late
pub give-up-first : (config : Config) (known : Known) (load : ℕ) (e : ServiceError) → refusal_of config known (giving_up load 0) ≡ Some e → known.is_under_way load ≡ false
give-up-first config known load e r = grind (arith, give-up-kinds)

-- ---- an answer

-- not what the bytes or the time of an outcome are refused with
abbrev IsOther : ServiceError → Type 0
IsOther e = (error.LineEnd ≢ e) × (error.TooLong ≢ e) × (error.Deadline ≢ e)

moment-other : IsOther error.Moment
moment-other = (λ h. cc, λ h. cc, λ h. cc)

load-other : IsOther error.NoLoad
load-other = (λ h. cc, λ h. cc, λ h. cc)

bytes-kind : (e : ServiceError) → IsOther e → (line long : Bool) → option_or (refusal_where line error.LineEnd) (refusal_where long error.TooLong) ≢ Some e
bytes-kind e other true long h = other.0 (same_Some error.LineEnd e h)
bytes-kind e other false true h = other.1 (same_Some error.TooLong e h)
bytes-kind e other false false h = none-some e h

value-kind : (e : ServiceError) → IsOther e → (line long ms : Bool) → option_or (option_or (refusal_where line error.LineEnd) (refusal_where long error.TooLong)) (refusal_where ms error.Deadline) ≢ Some e
value-kind e other true long ms h = other.0 (same_Some error.LineEnd e h)
value-kind e other false true ms h = other.1 (same_Some error.TooLong e h)
value-kind e other false false true h = other.2 (same_Some error.Deadline e h)
value-kind e other false false false h = none-some e h

-- an outcome is refused for its bytes or its time alone
outcome-kind : (config : Config) (outcome : Outcome) (e : ServiceError) → IsOther e → refusal_of_outcome config outcome ≢ Some e
outcome-kind config (came.Value bytes None) e other h = value-kind e other (not (is_value bytes)) (nat_lt 8192 (length bytes)) false h
outcome-kind config (came.Value bytes (Some ms)) e other h = value-kind e other (not (is_value bytes)) (nat_lt 8192 (length bytes)) (not config.own_deadlines || nat_lt 999999999999 ms) h
outcome-kind config came.None e other h = none-some e h
outcome-kind config (came.Fault text) e other h = bytes-kind e other (not (is_value text)) (nat_lt 8192 (length text)) h

abbrev Kind : ℕ → Bool → Option ServiceError → ServiceError → Type 0
Kind moment under_way refused e = ((e ≡ error.NoLoad) × (under_way ≡ false)) ⊎ ((e ≡ error.Moment) × (2 ^ 63 ≤ moment)) ⊎ (refused ≡ Some e) ⊎ (e ≡ error.OutOfMemory)

kinds : (moment : ℕ) (under_way late : Bool) (refused : Option ServiceError) (e : ServiceError) → nat_le (2 ^ 63) moment ≡ late
    → MatchOption (option_or (refusal_where (not under_way) error.NoLoad) (option_or (refusal_where late error.Moment) refused)) (e ≡ error.OutOfMemory) (λ refusal. e ≡ refusal)
    → Kind moment under_way refused e
kinds moment false late refused e is r = inl (r, refl)
kinds moment true true refused e is r = inr (inl (r, leb-true (2 ^ 63) moment is))
kinds moment true false None e is r = inr (inr (inr r))
kinds moment true false (Some refusal) e is r = inr (inr (inl (ap (λ x. Some x) (sym r))))

-- the definition refuses it so, or memory was wanted
abbrev RefusedAnswer : BareSpace → Event → ServiceError → Type 0
RefusedAnswer space happened e = RefusedFor space happened false e

unheld : (o : Option ServiceError) (e : ServiceError) → MatchOption o ((e ≡ error.OutOfMemory) ⊎ ((e ≡ error.HeldAgain) × (false ≡ true))) (λ refusal. e ≡ refusal) → MatchOption o (e ≡ error.OutOfMemory) (λ refusal. e ≡ refusal)
unheld None e (inl memory) = memory
unheld None e (inr again) = let no : false ≡ true = again.1 in cc
unheld (Some refusal) e is = is

answer-kinds : (space : BareSpace) (load : ℕ) (outcome : Outcome) (moment : ℕ) (e : ServiceError) → RefusedAnswer space (answering load outcome moment) e → Kind moment ((known_of space).is_under_way load) (refusal_of_outcome (config_of space) outcome) e
answer-kinds space load outcome moment e r =
    kinds moment ((known_of space).is_under_way load) (nat_le (2 ^ 63) moment) (refusal_of_outcome (config_of space) outcome) e refl (unheld (refusal_of (config_of space) (known_of space) (answering load outcome moment)) e r)

pub answer-late : (space : BareSpace) (load : ℕ) (outcome : Outcome) (moment : ℕ) → RefusedAnswer space (answering load outcome moment) error.Moment → 2 ^ 63 ≤ moment
answer-late space load outcome moment r = elim (answer-kinds space load outcome moment error.Moment r) [
  | inl p ↦ (let h : error.Moment ≡ error.NoLoad = p.0 in cc)
  | inr (inl p) ↦ p.1
  | inr (inr (inl refused)) ↦ absurd (outcome-kind (config_of space) outcome error.Moment moment-other refused)
  | inr (inr (inr e)) ↦ (let h : error.Moment ≡ error.OutOfMemory = e in cc)
]

-- no load of that number is under way
pub answer-unknown : (space : BareSpace) (load : ℕ) (outcome : Outcome) (moment : ℕ) → RefusedAnswer space (answering load outcome moment) error.NoLoad → (known_of space).is_under_way load ≡ false
answer-unknown space load outcome moment r = elim (answer-kinds space load outcome moment error.NoLoad r) [
  | inl p ↦ p.1
  | inr (inl p) ↦ (let h : error.NoLoad ≡ error.Moment = p.0 in cc)
  | inr (inr (inl refused)) ↦ absurd (outcome-kind (config_of space) outcome error.NoLoad load-other refused)
  | inr (inr (inr e)) ↦ (let h : error.NoLoad ≡ error.OutOfMemory = e in cc)
]

-- what is refused, and not for the load, the moment or memory, is the outcome
pub answer-refused : (space : BareSpace) (load : ℕ) (outcome : Outcome) (moment : ℕ) (e : ServiceError) → RefusedAnswer space (answering load outcome moment) e → e ≢ error.NoLoad → e ≢ error.Moment → e ≢ error.OutOfMemory
    → is_some (refusal_of_outcome (config_of space) outcome) ≡ true
answer-refused space load outcome moment e r no_load no_moment no_memory = grind (arith, answer-kinds)
