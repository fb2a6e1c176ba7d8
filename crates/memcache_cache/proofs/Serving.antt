-- Connections that are served: what a step of a turn leaves.
use Rattle.std.proofs.Common.{◌≡◌, ◌⊎◌, ◌∙◌, refl, sym, ap, subst, arith, ℕ, Bool, true, false, List, [], ◌∷◌, ◌++◌, ◌==◌, length, append_assoc, Option}
use Rattle.std.proofs.lemmas.Bool.{eqb-true}
use Rattle.std.proofs.lemmas.List.{append-nil}
use Rattle.std.specs.Io.KnownBytes.{Appends, Consumes, IsAtEnd}
use Rattle.cache_run.proofs.devices.Sending.{appends_more, consumes_more, same_appends, same_consumes}
use Rattle.cache_run.specs.Devices.Sent.{SentBut}
use Rattle.cache_link.specs.Dialogues.{Wire}
use Rattle.memcache_service.specs.declared.service.Service.{Service}
use Rattle.memcache_service.specs.declared.shelf.Shelf.{Ghosts}
use Rattle.memcache_cache.specs.declared.link.MemcacheLink.{MemcacheLink}
use Rattle.memcache_cache.specs.declared.link.Phase.{Phase}
use Rattle.memcache_cache.specs.declared.link.Phase.TheVariants.{Fed, Held, Over, Ended}
use Rattle.memcache_cache.specs.Served.{AnswersPiece, Exchanges, WasJustOpened, HasTalked, OthersTurns, OwesNothing, IsServedByTalk, has_ended, is_phase_over, no_more, one_more}

pub not-ended : (phase : Phase) → is_phase_over phase ≡ false → has_ended phase ≡ false
not-ended Fed going = refl
not-ended Held going = refl
not-ended Over going = refl
not-ended Ended going = let no : true ≡ false = going in cc

pub not-over : (phase : Phase) → is_phase_over phase ≡ false → phase ≡ Over → ⊥
not-over phase going over = let no : true ≡ false = sym (ap is_phase_over over) ∙ going in cc

module _ {T : Type 0} {shelf : Ghosts T} where
  pub no-interlude : (conn : ℕ) (p : Service T shelf) → OthersTurns conn p p
  no-interlude conn p = record { same = refl; later = omega arith }

  both-interludes : (conn : ℕ) (p q r : Service T shelf) → OthersTurns conn p q → OthersTurns conn q r → OthersTurns conn p r
  both-interludes conn p q r first second = record { same = second.same ∙ first.same; later = omega (arith, first.later, second.later) }

  known-later : (conn : ℕ) (ended : Bool) (p q : Service T shelf) → OthersTurns conn p q → OwesNothing conn ended p → OwesNothing conn ended q
  known-later conn ended p q others known = record {
    has = record { connection = known.has.connection; is = others.same ∙ known.has.is; closed = known.has.closed };
    taken = known.taken;
  }

module _ {T : Type 0} (shelf : Ghosts T) where
  -- one that was just opened
  pub served-first : (link : MemcacheLink) (p q : Service T shelf) → WasJustOpened link p q → (a : Wire) → IsServedByTalk shelf q a link q a
  served-first link p q fresh a = record {
    last = q;
    fed = [];
    told = [];
    sent = [];
    talked = no_more;
    others = no-interlude link.conn q;
    read = same_consumes a.remaining;
    wrote = same_appends a.contents;
    replies = fresh.backlog;
    known = record {
      has = record { connection = fresh.opens.connection; is = fresh.opens.opened.changed; closed = fresh.opens.unused.opened ∙ sym (ap has_ended fresh.phase) };
      taken = fresh.opens.unused.output;
    };
    over = λ over. let no : Fed ≡ Over = sym fresh.phase ∙ over in cc;
  }

  module _ (start : Service T shelf) (a : Wire) (s t : MemcacheLink) (same : t.conn ≡ s.conn) where
    -- others had their turns
    pub served-later : (p q : Service T shelf) (b : Wire) → t ≡ s → OthersTurns s.conn p q → IsServedByTalk shelf start a s p b → IsServedByTalk shelf start a t q b
    served-later p q b is others x = subst (λ (l : MemcacheLink). IsServedByTalk shelf start a l q b) (sym is) (record {
      last = x.last;
      fed = x.fed;
      told = x.told;
      sent = x.sent;
      talked = x.talked;
      others = both-interludes s.conn x.last p q x.others others;
      read = x.read;
      wrote = x.wrote;
      replies = x.replies;
      known = known-later s.conn (has_ended s.phase) p q others x.known;
      over = x.over;
    })

    -- nothing was read or fed, and some of the backlog was written
    pub served-on : (p : Service T shelf) (b c : Wire) → SentBut t.backlog s.backlog b.contents c.contents → Consumes b.remaining c.remaining [] → has_ended t.phase ≡ has_ended s.phase → (t.phase ≡ Over → (s.phase ≡ Over → IsAtEnd b.remaining ⊎ (s.is_stopped ≡ true)) → IsAtEnd c.remaining ⊎ (t.is_stopped ≡ true)) → IsServedByTalk shelf start a s p b → IsServedByTalk shelf start a t p c
    served-on p b c wrote read ended over x = record {
      last = x.last;
      fed = x.fed;
      told = x.told;
      sent = x.sent ++ wrote.sent;
      talked = subst (λ (conn : ℕ). HasTalked shelf conn start x.fed x.told x.last) (sym same) x.talked;
      others = subst (λ (conn : ℕ). OthersTurns conn x.last p) (sym same) x.others;
      read = subst (λ (z : List ℕ). Consumes a.remaining c.remaining z) (append-nil x.fed) (consumes_more a.remaining b.remaining c.remaining x.fed [] x.read read);
      wrote = appends_more a.contents b.contents c.contents x.sent wrote.sent x.wrote wrote.wrote;
      replies = append_assoc x.sent wrote.sent t.backlog ∙ ap (λ (z : List ℕ). x.sent ++ z) wrote.whole ∙ x.replies;
      known = subst (λ (conn : ℕ). OwesNothing conn (has_ended t.phase) p) (sym same) (subst (λ (e : Bool). OwesNothing s.conn e p) (sym ended) x.known);
      over = λ is. over is x.over;
    }

    -- a piece was read and fed
    pub served-fed : (m : MemcacheLink) (piece : List ℕ) (p q : Service T shelf) (b c : Wire) → m.conn ≡ s.conn → s.backlog ≡ [] → has_ended s.phase ≡ false → Consumes b.remaining c.remaining piece → c.contents ≡ b.contents → AnswersPiece shelf piece m t p q → IsServedByTalk shelf start a s p b → IsServedByTalk shelf start a t q c
    served-fed m piece p q b c mid empty going read contents answers x =
        let still : OwesNothing m.conn false p = subst (λ (conn : ℕ). OwesNothing conn false p) (sym mid) (subst (λ (e : Bool). OwesNothing s.conn e p) going x.known) in
        let exchanges = subst (λ (conn : ℕ). Exchanges shelf conn piece t.backlog p q) mid (answers.exchanges still) in
        let talked = one_more x.fed x.told piece t.backlog x.last p q x.talked x.others exchanges in
        let told : x.sent ≡ x.told = sym (append-nil x.sent) ∙ ap (λ (z : List ℕ). x.sent ++ z) (sym empty) ∙ x.replies in
        record {
          last = q;
          fed = x.fed ++ piece;
          told = x.told ++ t.backlog;
          sent = x.sent;
          talked = subst (λ (conn : ℕ). HasTalked shelf conn start (x.fed ++ piece) (x.told ++ t.backlog) q) (sym same) talked;
          others = no-interlude t.conn q;
          read = consumes_more a.remaining b.remaining c.remaining x.fed piece x.read read;
          wrote = subst (λ (z : Option (List ℕ)). Appends a.contents z x.sent) (sym contents) x.wrote;
          replies = ap (λ (z : List ℕ). z ++ t.backlog) told;
          known = subst (λ (conn : ℕ). OwesNothing conn (has_ended t.phase) q) (mid ∙ sym same) (answers.known still);
          over = λ over. absurd (answers.going over);
        }

-- nothing is left to read or write
pub no-bytes : (bytes : List ℕ) → (length bytes == 0) ≡ true → bytes ≡ []
no-bytes [] none = refl
no-bytes (byte ∷ bytes) none = absurd (let n : length (byte ∷ bytes) ≡ 0 = eqb-true (length (byte ∷ bytes)) 0 none in omega (arith, n))

pub sent-none : (output : List ℕ) (contents : Option (List ℕ)) → SentBut output output contents contents
sent-none output contents = record { sent = []; whole = refl; wrote = same_appends contents }
