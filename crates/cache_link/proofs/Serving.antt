-- Connections that are served: what a step of a turn leaves.
use Rattle.std.proofs.Common.{◌≡◌, ◌≢◌, ℕ, List, [], ◌∷◌, ◌++◌, Option, None, Some, refl, sym, ◌∙◌, subst, arith, Bool, true, false, ap, append_assoc, ◌⊎◌, inl, inr, Ok, Err}
use Rattle.std.proofs.lemmas.List.{append-nil}
use Rattle.std.specs.Option.{option_map_or}
use Rattle.std.specs.Io.KnownBytes.{Consumes}
use Rattle.audit_model.specs.declared.event.Outcome.{Outcome}
use Rattle.audit_model.specs.declared.input.Conn.{Conn}
use Rattle.cache_run.proofs.devices.Sending.{consumes_more}
use Rattle.cache_run.proofs.driver.Interludes.{interlude-more}
use Rattle.cache_run.specs.Devices.Sent.{SentBut}
use Rattle.cache_run.specs.Driver.Driven.{ComesToProgress as DriverComesTo, Finished, Stopped, Underway, unfed}
use Rattle.cache_run.specs.Driver.Drives.{Outside, LeftUndone, Talks, lost_of}
use Rattle.cache_run.specs.Driver.Exchanges.{HaveClosed, Outs, asks_of, pieces_in, readings_of}
use Rattle.cache_run.specs.Driver.Causes.{Because}
use Rattle.cache_run.specs.Driver.Interludes.{Interlude, Station, together}
use Rattle.cache_run.specs.declared.devices.errors.RunError.{RunError}
use Rattle.cache_run.specs.declared.devices.errors.RunError.TheVariants.{Moment, OutOfMemory, Read, UsedUp, Write}
use Rattle.cache_run.specs.declared.driver.driving.Progress.{Progress}
use Rattle.cache_run.specs.declared.driver.driving.Progress.TheVariants.{More, Over}
use Rattle.cache_run.specs.declared.driver.host.Host.{Ghosts as Ways}
use Rattle.cache_run.specs.declared.driver.session.Footing.TheVariants.{Closed}
use Rattle.cache_run.specs.declared.driver.session.Session.{Session}
use Rattle.cache_link.specs.Dialogues.{Dialogue, Wire}
use Rattle.cache_link.specs.Served.{Fetched, IsAlike, FeedsNoMore, IsBroken, IsGoing, IsServed}
use Rattle.cache_link.specs.Patience.{device_of}
use Rattle.cache_link.specs.declared.link.Link.{Link}
use Rattle.cache_link.specs.declared.patient.Patient.{Patient}
use Rattle.cache_link.proofs.Closing.{closed-more}
use Rattle.cache_link.proofs.Dialogues.{dialogue-more, dialogue-sent, follows-talks, lost-is, sentinel}

pub no-both : (b : Bool) → b ≡ true → b ≡ false → ⊥
no-both true holds fails = let h : true ≡ false = fails in cc
no-both false holds fails = let h : false ≡ true = holds in cc

pub not-ok : {T E : Type 0} (e : E) (x : T) → Err e ≡ Ok x → ⊥
not-ok e x is = let h : Err e ≡ Ok x = is in cc

module _ {X H K D : Type 0} (ways : Ways X H) (reads : K → ℕ → K → Type 0) (loads : D → List ℕ → Option Outcome → D → Type 0) (shared : ways.LENT ≡ false) where
  -- a turn begins where all that was read and not fed is in the inbox
  pub begun : (s : Session) (h : H) (before : List ℕ) (c : K) (l : D) → s.taken.items ≡ [] → s.footing ≢ Closed
      → Underway ways.LENT ways.came ways.closes reads loads h (record { remaining = Some (s.inbox ++ sentinel); contents = Some before; clock = c; loader = l }) s h (record { remaining = Some sentinel; contents = Some before; clock = c; loader = l })
  begun s h before c l idle opened = record {
    talks = record {
      exchanges = [];
      chain = (refl, idle);
      read = refl;
      sent = [];
      wrote = sym (append-nil before);
      replies = refl;
      clock = refl;
      loader = refl;
      refused = tt;
      untaken = refl;
    };
    stands = record { closed = λ is. absurd (opened is); done = λ lent. absurd (no-both ways.LENT lent shared) };
    whole = λ lent. absurd (no-both ways.LENT lent shared);
  }

  module _ (start : Station H K D) (a : Wire) (s t : Link) (p q : Station H K D) (b : Wire) (same : t.session.conn ≡ s.session.conn) (served : IsServed ways reads loads start a s p b) (goes : s.is_over ≡ false) (empty : s.backlog ≡ []) (before gathered : List ℕ) (none : before ≡ []) (owed : t.backlog ≡ gathered) where
    going-of : IsGoing ways reads loads s served.last p served.rest
    going-of = served.going goes

    abbrev there : Conn → Type 0
    there conn = Dialogue ways reads loads conn start served.last a b [] served.rest × Interlude ways reads loads conn served.last p

    moved : there t.session.conn
    moved = subst there (sym same) (served.dialogue, going-of.others)

    abbrev first : Outside K D
    first = record { remaining = Some (s.session.inbox ++ sentinel); contents = Some before; clock = p.clock; loader = p.loader }

    abbrev second : Outside K D
    second = record { remaining = Some sentinel; contents = Some gathered; clock = q.clock; loader = q.loader }

    -- an answer of which all was taken
    answered-none : (k : H) (left : LeftUndone) → left.unsent ≡ [] → left.untaken ≡ 0 → (talks : Talks (ways.came t.session.conn) reads loads p.place k first second [] [] left)
        → (t.is_over ≡ false → (k ≡ q.place) × (left.refused ≡ None) × (left.unfed ≡ t.session.inbox) × (t.session.taken.items ≡ []) × (t.session.footing ≢ Closed)) → (t.is_over ≡ true → HaveClosed talks.exchanges ⊎ (left.refused ≢ None)) → IsServed ways reads loads start a t q b
    answered-none k left written taken talks stays over =
        let xs = moved.0.exchanges in
        let g = follows-talks ways reads loads t.session.conn start served.last p xs k first.remaining first.contents second.remaining second.contents q.clock q.loader [] left moved.0.chain moved.1 talks in
        record {
          last = g.1.last;
          rest = record left { unsent = gathered ++ left.unsent };
          dialogue = dialogue-more ways reads loads t.session.conn start served.last p a b served.rest s.session.inbox moved.0 moved.1 going-of.accepted going-of.unfed (served.unsent ∙ empty) served.all_taken k before gathered q.clock q.loader [] left none talks g.0 g.1;
          unsent = ap (λ z. gathered ++ z) written ∙ append-nil gathered ∙ sym owed;
          all_taken = taken;
          going = λ still.
              let facts = stays still in
              record {
                others = subst (λ z. Interlude ways reads loads t.session.conn g.1.last z) (g.2 (ap (λ z. option_map_or readings_of z []) facts.1) (ap (λ z. option_map_or asks_of z []) facts.1) ∙ ap (λ z. together z q.clock q.loader) facts.0) g.1.others;
                accepted = facts.1;
                unfed = facts.2;
                idle = facts.3;
                opened = facts.4;
              };
          over = λ done. inr (elim (over done) [ inl closed ↦ inl (closed-more xs talks.exchanges closed) | inr refused ↦ inr refused ]);
        }

    -- it goes on, and more of it may be fed unless it has closed
    answered-more : t.session.taken.items ≡ [] → (t.is_over ≡ false → t.session.footing ≢ Closed) → (t.is_over ≡ true → t.session.footing ≡ Closed)
        → Underway ways.LENT ways.came ways.closes reads loads p.place first t.session q.place second → IsServed ways reads loads start a t q b
    answered-more idle stays closes x =
        let P : Outs → Type 0 = λ hand. (talks : Talks (ways.came t.session.conn) reads loads p.place q.place first second [] hand (unfed t.session)) → (t.session.footing ≡ Closed → HaveClosed talks.exchanges) → IsServed ways reads loads start a t q b in
        let base : P [] = λ talks closed. answered-none q.place (unfed t.session) refl refl talks (λ still. (refl, refl, refl, idle, stays still)) (λ done. inl (closed (closes done))) in
        subst P (sym idle) base x.talks x.stands.closed

    -- others had closed it
    answered-over : (t.is_over ≡ false → ⊥) → Finished ways.LENT ways.came ways.closes reads loads p.place first t.session q.place second → IsServed ways reads loads start a t q b
    answered-over never x =
        answered-none x.closed x.rest x.sent.0 x.sent.1 x.talks (λ still. absurd (never still)) (λ is. elim x.over [
          | inl end ↦ let no : 0 ∷ [] ≡ [] = end in cc
          | inr rest ↦ rest
        ])

    -- whether more of it may be fed or not
    pub answered-on : (progress : Progress) → (progress ≡ More → t.session.taken.items ≡ []) → (t.is_over ≡ false → (progress ≡ More) × (t.session.footing ≢ Closed)) → (t.is_over ≡ true → (progress ≡ Over) ⊎ (t.session.footing ≡ Closed))
        → DriverComesTo ways.LENT ways.came ways.closes reads loads p.place first (Ok progress) t.session q.place second → IsServed ways reads loads start a t q b
    answered-on More settled stays closes x =
        answered-more (settled refl) (λ still. (stays still).1) (λ done. elim (closes done) [
          | inl over ↦ let no : More ≡ Over = over in cc
          | inr closed ↦ closed
        ]) x
    answered-on Over settled stays closes x = answered-over (λ still. let no : Over ≡ More = (stays still).0 in cc) x

    -- there was an error
    pub answered-broken : (e : RunError) → Stopped ways.LENT ways.came ways.closes reads loads p.place first t.session q.place second e → IsBroken ways reads loads start a t b
    answered-broken e x =
        let xs = moved.0.exchanges in
        let g = follows-talks ways reads loads t.session.conn start served.last p xs x.stopped first.remaining first.contents second.remaining second.contents q.clock q.loader t.session.taken.items x.rest moved.0.chain moved.1 x.talks in
        record {
          last = g.1.last;
          hand = t.session.taken.items;
          rest = record x.rest { unsent = gathered ++ x.rest.unsent };
          dialogue = dialogue-more ways reads loads t.session.conn start served.last p a b served.rest s.session.inbox moved.0 moved.1 going-of.accepted going-of.unfed (served.unsent ∙ empty) served.all_taken x.stopped before gathered q.clock q.loader t.session.taken.items x.rest none x.talks g.0 g.1;
          held = λ still. refl;
          lost = x.rest.unsent;
          unsent = ap (λ z. z ++ x.rest.unsent) (sym owed);
          few = x.few;
        }

  module _ (start : Station H K D) (a : Wire) (s : Link) (b : Wire) where
    -- some of what it is owed was written
    pub served-sent : (p : Station H K D) (rest : List ℕ) (c : Option (List ℕ)) → SentBut rest s.backlog b.contents c → IsServed ways reads loads start a s p b → IsServed ways reads loads start a (record s { backlog = rest }) p (record b { contents = c })
    served-sent p rest c wrote x = record {
      last = x.last;
      rest = record x.rest { unsent = rest ++ [] };
      dialogue = dialogue-sent ways reads loads s.session.conn start x.last a b [] x.rest s.backlog rest [] c wrote (x.unsent ∙ sym (append-nil s.backlog)) x.dialogue;
      unsent = append-nil rest;
      all_taken = x.all_taken;
      going = λ still. let g = x.going still in record { others = g.others; accepted = g.accepted; unfed = g.unfed; idle = g.idle; opened = g.opened };
      over = x.over;
    }

    -- an error leaves it where it is
    pub served-broken : (p : Station H K D) → IsServed ways reads loads start a s p b → IsBroken ways reads loads start a s b
    served-broken p x = record {
      last = x.last;
      hand = [];
      rest = x.rest;
      dialogue = x.dialogue;
      held = λ still. sym (x.going still).idle;
      lost = [];
      unsent = x.unsent ∙ sym (append-nil s.backlog);
      few = let none = x.all_taken in omega (arith, none);
    }

    -- and after an error
    pub broken-sent : (rest : List ℕ) (c : Option (List ℕ)) → SentBut rest s.backlog b.contents c → IsBroken ways reads loads start a s b → IsBroken ways reads loads start a (record s { backlog = rest }) (record b { contents = c })
    broken-sent rest c wrote x = record {
      last = x.last;
      hand = x.hand;
      rest = record x.rest { unsent = rest ++ x.lost };
      dialogue = dialogue-sent ways reads loads s.session.conn start x.last a b x.hand x.rest s.backlog rest x.lost c wrote x.unsent x.dialogue;
      held = x.held;
      lost = x.lost;
      unsent = refl;
      few = x.few;
    }

  -- others had more turns
  pub served-later : (start : Station H K D) (a : Wire) (s : Link) (p q : Station H K D) (b : Wire) → Interlude ways reads loads s.session.conn p q → IsServed ways reads loads start a s p b → IsServed ways reads loads start a s q b
  served-later start a s p q b more x = record {
    last = x.last;
    rest = x.rest;
    dialogue = x.dialogue;
    unsent = x.unsent;
    all_taken = x.all_taken;
    going = λ still. let g = x.going still in record { others = interlude-more ways reads loads s.session.conn x.last p q g.others more; accepted = g.accepted; unfed = g.unfed; idle = g.idle; opened = g.opened };
    over = x.over;
  }

  -- more was read of it, or nothing more is read
  pub served-fetched : {R : Type 0} (remaining : R → Option (List ℕ)) (was is : Patient R) (start : Station H K D) (a : Wire) (s t : Link) (p : Station H K D) (w : Option (List ℕ)) → s.is_over ≡ false → Fetched remaining was is s t
      → IsServed ways reads loads start a s p (record { remaining = remaining (device_of was); contents = w }) → IsServed ways reads loads start a t p (record { remaining = remaining (device_of is); contents = w })
  served-fetched remaining was is start a s t p w goes f x =
      let g = x.going goes in
      let There : Conn → Type 0 = λ conn. Dialogue ways reads loads conn start x.last a (record { remaining = remaining (device_of was); contents = w }) [] x.rest × Interlude ways reads loads conn x.last p in
      let d : There t.session.conn = subst There (sym f.conn) (x.dialogue, g.others) in
      let xs = d.0.exchanges in
      let left : LeftUndone = record x.rest { unfed = t.session.inbox } in
      record {
        last = x.last;
        rest = left;
        dialogue = record {
          exchanges = xs;
          chain = d.0.chain;
          read = subst (Consumes a.remaining (remaining (device_of is)))
              (append_assoc (pieces_in xs) (lost_of x.rest) f.piece ∙ ap (λ z. pieces_in xs ++ z) (ap (λ z. z ++ f.piece) (lost-is x.rest s.session.inbox g.accepted g.unfed) ∙ sym f.whole ∙ sym (lost-is left t.session.inbox g.accepted refl)))
              (consumes_more a.remaining (remaining (device_of was)) (remaining (device_of is)) (pieces_in xs ++ lost_of x.rest) f.piece d.0.read f.bytes);
          sent = d.0.sent;
          wrote = d.0.wrote;
          replies = d.0.replies;
          untaken = d.0.untaken;
        };
        unsent = x.unsent ∙ sym f.backlog;
        all_taken = x.all_taken;
        going = λ still. record { others = d.1; accepted = g.accepted; unfed = refl; idle = f.taken ∙ g.idle; opened = λ is. g.opened (sym f.footing ∙ is) };
        over = λ done. let o = f.over done in inl (lost-is left t.session.inbox g.accepted refl ∙ o.0, o.1);
      }

  -- a link that is alike
  pub served-alike : (start : Station H K D) (a : Wire) (s t : Link) (p : Station H K D) (b : Wire) → IsAlike s t → IsServed ways reads loads start a s p b → IsServed ways reads loads start a t p b
  served-alike start a s t p b f x =
      let There : Conn → Type 0 = λ conn. (d : Dialogue ways reads loads conn start x.last a b [] x.rest) × (s.is_over ≡ false → Interlude ways reads loads conn x.last p) × (s.is_over ≡ true → FeedsNoMore s b d.exchanges x.rest) in
      let d : There t.session.conn = subst There (sym f.conn) (x.dialogue, (λ still. (x.going still).others), x.over) in
      record {
        last = x.last;
        rest = x.rest;
        dialogue = d.0;
        unsent = x.unsent ∙ sym f.backlog;
        all_taken = x.all_taken;
        going = λ still.
            let was = sym f.over ∙ still in
            let g = x.going was in
            record { others = d.1 was; accepted = g.accepted; unfed = g.unfed ∙ sym f.inbox; idle = f.taken ∙ g.idle; opened = λ is. g.opened (sym f.footing ∙ is) };
        over = λ done. elim (d.2 (sym f.over ∙ done)) [
          | inl all ↦ inl (all.0, elim all.1 [ inl end ↦ inl end | inr stopped ↦ inr (f.stopped ∙ stopped) ])
          | inr rest ↦ inr rest
        ];
      }

-- an error of an answer
pub answer-because : (L : Type 0) (e r : RunError) → (r ≡ e) ⊎ (r ≡ OutOfMemory) → (r ≢ Read) × (r ≢ Write) → Because ⊥ (Unit {0}) (Unit {0}) L e → Because ⊥ ⊥ (Unit {0}) L r
answer-because L e Read from none why = absurd (none.0 refl)
answer-because L e Write from none why = absurd (none.1 refl)
answer-because L e OutOfMemory from none why = tt
answer-because L e UsedUp from none why = tt
answer-because L e Moment from none why = elim from [
  | inl same ↦ subst (Because ⊥ (Unit {0}) (Unit {0}) L) (sym same) why
  | inr memory ↦ let no : Moment ≡ OutOfMemory = memory in cc
]
