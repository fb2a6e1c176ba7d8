-- What holds of every history of admitted events and right steps.
use Rattle.std.proofs.Common.{inr, inl, ◌≡◌, refl, ap, ◌∙◌, sym, ℕ, suc, ◌<◌, ◌≤◌, Bool, true, false, true≢false, not, ◌&&◌, ◌||◌, cond, List, [], ◌∷◌, ◌++◌, map, Option, Some, None, length, is_some, is_none, arith, nat_lt, nat_le, max}
use Rattle.std.specs.Prelude.{IsTrue, ◌==◌}
use Rattle.std.specs.List.{filter}
use Rattle.std.specs.Option.{option_map_or, option_or}
use Rattle.std.proofs.lemmas.Bool.{cases_Bool, and_parts, leb-true, ne_eqb, eqb-true}
use Rattle.std.proofs.lemmas.List.{map-append}
use Rattle.std.proofs.lemmas.List.Elements.{filter-append}
use Rattle.std.proofs.Math.Bool.{and-false}
use Rattle.audit_model.specs.Belongs.{refusal_of_conn, refusal_of_load, refusal_of, known_from}
use Rattle.audit_model.specs.Follows.{without_load, after_event}
use Rattle.audit_model.specs.History.{History, Opened, Closed, Fed, Settled}
use Rattle.audit_model.specs.Loads.{loads_sent, is_load_settled, loads_under_way, key_of_load, joined}
use Rattle.audit_model.specs.Obeys.{is_numbered}
use Rattle.audit_model.specs.Places.{happening_of}
use Rattle.audit_model.specs.Situation.{Connection, Situation, is_overlong, with_connection, Ready}
use Rattle.audit_model.specs.Stream.{opened_count, was_opened, is_open}
use Rattle.audit_model.specs.Summary.{opened_conns, connection_from, pending_from, situation_of}
use Rattle.audit_model.specs.Values.{held_values}
use Rattle.audit_model.specs.declared.config.Config.{Config}
use Rattle.audit_model.specs.declared.event.Event.{Event}
use Rattle.audit_model.specs.declared.event.Event.TheVariants as event
use Rattle.audit_model.specs.declared.event.Instant.{Instant}
use Rattle.audit_laws.proofs.Told.{Each, each-more, map-same}
use Rattle.audit_laws.proofs.HeldStep.{Stands}
use Rattle.audit_laws.proofs.HeldEvent.{held_from-event}
use Rattle.audit_laws.proofs.Connections.{Facts, facts, connection_of_facts, open_in, closing_in, facts-opened, facts-closed, facts-fed, open-by_connection, connection-of, eqb-self}
use Rattle.audit_laws.proofs.ConnectionSteps.{connections_by}
use Rattle.audit_laws.proofs.PendingLoads.{pending-settled, each-any}
use Rattle.audit_laws.proofs.Leaving.{Distinct}
use Rattle.audit_laws.proofs.LinesRead.{Complete, facts-own_fed, connection-fed}
use Rattle.audit_laws.proofs.Changes.{IsOpen, open-parts, close-changed, with_connection-changed}

abbrev pub no_facts : Facts
no_facts = record { opened = false; closed = false; quit = false; effect = None; replies = 0; bytes = []; times = 0 }

pub record Sound (past : History) : Type 0 where
  pub stand : Each (Stands past) (held_values past)
  pub opened : (c : ℕ) → was_opened c past ≡ (nat_lt 0 c && nat_le c (opened_count past))
  pub listed : Each (λ d. d ≤ opened_count past) (opened_conns past)
  pub joined_opened : (key : List ℕ) → Each (λ d. d ≤ opened_count past) (joined key past)
  pub fresh : (c : ℕ) → opened_count past < c → facts c past ≡ no_facts
  pub complete : (c : ℕ) → Complete (facts c past)
  pub sent_numbers : Each (λ sent. sent.number ≤ length (loads_sent past)) (loads_sent past)
  pub keys : Distinct (loads_under_way past)
  pub unsettled : (n : ℕ) → length (loads_sent past) < n → is_load_settled n past ≡ false

pub le_open : (c : ℕ) (past : History) → Sound past → is_open c past ≡ true → c ≤ opened_count past
le_open c past h e = leb-true c (opened_count past) (and_parts (nat_lt 0 c) (nat_le c (opened_count past)) (sym (h.opened c) ∙ (open-parts (facts c past) e).opened)).1

pub le_other : (c d n : ℕ) → d ≤ n → n < c → (c == d) ≡ false
le_other c d n h k = ne_eqb c d (λ e. omega arith)

pub le_other' : (c d n : ℕ) → d ≤ n → n < c → (d == c) ≡ false
le_other' c d n h k = ne_eqb d c (λ e. omega arith)

filter-same : (p q : ℕ → Bool) (xs : List ℕ) → Each (λ x. p x ≡ q x) xs → filter p xs ≡ filter q xs
filter-same p q [] h = refl
filter-same p q (x ∷ xs) (e, h) =
    ap (λ b. cond b (x ∷ filter p xs) (filter p xs)) e ∙ ap (λ ys. cond (q x) (x ∷ ys) ys) (filter-same p q xs h)

connections-same : (f g : ℕ → Facts) (ds : List ℕ) → Each (λ d. g d ≡ f d) ds → connections_by g ds ≡ connections_by f ds
connections-same f g [] h = refl
connections-same f g (d ∷ ds) (e, h) =
    (elim (cases_Bool (open_in (g d))) [ inl is ↦ rw is | inr is ↦ rw is ]) ∙ ap (λ ls. cond (open_in (g d)) (connection_of_facts d (g d) ∷ ls) ls) (connections-same f g ds h) ∙ ap (λ x. cond (open_in x) (connection_of_facts d x ∷ connections_by f ds) (connections_by f ds)) e
    ∙ sym ((elim (cases_Bool (open_in (f d))) [ inl t ↦ rw t | inr t ↦ rw t ]))

-- ---- what an admitted event says

or_none : {X : Type 0} (a b : Option X) → is_none (option_or a b) ≡ true → (is_none a ≡ true) × (is_none b ≡ true)
or_none None b e = (refl, e)
or_none (Some x) b e = absurd (true≢false (sym e))

pub conn-admitted : (conn : ℕ) (past : History) → is_none (refusal_of_conn (known_from past) conn) ≡ true → is_open conn past ≡ true
conn-admitted conn past e = grind (arith, e)

pub load-admitted : (load : ℕ) (past : History) → is_none (refusal_of_load (known_from past) load) ≡ true → is_some (key_of_load load past) ≡ true
load-admitted load past e = grind (arith, e)

-- what each event needs
abbrev pub Admitted : History → Event → Type 0
Admitted past (event.Open conn) = conn ≡ suc (opened_count past)
Admitted past (event.Close conn) = is_open conn past ≡ true
Admitted past (event.Feed conn piece moment) = is_open conn past ≡ true
Admitted past (event.Answer load outcome moment) = is_some (key_of_load load past) ≡ true
Admitted past (event.GiveUp load moment) = is_some (key_of_load load past) ≡ true

pub is-admitted : (config : Config) (past : History) (e : Event) → IsTrue (is_none (refusal_of config (known_from past) e)) → IsTrue (is_numbered (opened_count past) e) → Admitted past e
is-admitted config past (event.Open conn) a n = eqb-true _ _ n
is-admitted config past (event.Close conn) a n = conn-admitted conn past a
is-admitted config past (event.Feed conn piece moment) a n = conn-admitted conn past (or_none _ _ a).0
is-admitted config past (event.Answer load outcome moment) a n = load-admitted load past (or_none _ _ a).0
is-admitted config past (event.GiveUp load moment) a n = load-admitted load past (or_none _ _ a).0

-- ---- the situation after an event

pub closed-now : (c : ℕ) (past : History) → open_in (facts c (Closed c ∷ past)) ≡ false
closed-now c past = ap (λ b. (facts c past).opened && is_none (closing_in (record (facts c past) { closed = b || (facts c past).closed }))) (eqb-self c) ∙ and-false (facts c past).opened

opened-facts : (c : ℕ) (past : History) → facts c past ≡ no_facts → facts c (Opened c ∷ past) ≡ record no_facts { opened = true }
opened-facts c past e = ap (λ b. record (facts c past) { opened = b || (facts c past).opened }) (eqb-self c) ∙ ap {A = Facts} {B = Facts} (λ f. record f { opened = true }) e

abbrev new_connection : ℕ → List Connection
new_connection c = record { number = c; unread = []; standing = Ready; waited = 0 } ∷ []

module _ (config : Config) (made : ℕ) (past : History) (h : Sound past) where
  abbrev s : Situation
  s = situation_of config made past

  module _ (c : ℕ) (next : c ≡ suc (opened_count past)) where
    above : opened_count past < c
    above = omega arith

    others : (d : ℕ) → d ≤ opened_count past → facts d (Opened c ∷ past) ≡ facts d past
    others d k = facts-opened d c past (le_other c d (opened_count past) k above)

    opened-connections : connections_by (λ d. facts d (Opened c ∷ past)) (opened_conns past ++ c ∷ []) ≡ s.connections ++ new_connection c
    opened-connections =
        ap (map (λ d. connection_of_facts d (facts d (Opened c ∷ past)))) (filter-append (λ d. open_in (facts d (Opened c ∷ past))) (opened_conns past) (c ∷ []))
        ∙ map-append (λ d. connection_of_facts d (facts d (Opened c ∷ past))) (filter (λ d. open_in (facts d (Opened c ∷ past))) (opened_conns past)) _
        ∙ ap (λ ls. ls ++ connections_by (λ d. facts d (Opened c ∷ past)) (c ∷ [])) (connections-same (λ d. facts d past) (λ d. facts d (Opened c ∷ past)) (opened_conns past) (each-more _ _ (opened_conns past) others h.listed))
        ∙ ap (λ f. s.connections ++ map (λ d. connection_of_facts d (facts d (Opened c ∷ past))) (cond (open_in f) (c ∷ []) [])) (opened-facts c past (h.fresh c above))
        ∙ ap (λ f. s.connections ++ connection_of_facts c f ∷ []) (opened-facts c past (h.fresh c above))

    opened-pending : map (pending_from (Opened c ∷ past)) (loads_under_way past) ≡ s.pending
    opened-pending =
        map-same _ (pending_from past) (loads_under_way past)
        (each-any (loads_under_way past) (λ sent. ap (λ ws. record { number = sent.number; key = sent.key; waiting = ws })
        (filter-same (λ d. open_in (facts d (Opened c ∷ past))) (λ d. open_in (facts d past)) (joined sent.key past) (each-more _ _ (joined sent.key past) (λ d k. ap open_in (others d k)) (h.joined_opened sent.key)))))

    pub situation-opened : situation_of config made (Opened c ∷ past) ≡ after_event (event.Open c) s
    situation-opened =
        ap (λ ks. record (situation_of config made (Opened c ∷ past)) { held = ks }) (held_from-event config past (event.Open c))
        ∙ ap (λ ls. record (situation_of config made (Opened c ∷ past)) { connections = ls; held = s.held }) opened-connections
        ∙ ap (λ us. record s { opened = suc (opened_count past); connections = s.connections ++ new_connection c; pending = us }) opened-pending

  module _ (c : ℕ) (is : is_open c past ≡ true) where
    pub situation-closed : situation_of config made (Closed c ∷ past) ≡ after_event (event.Close c) s
    situation-closed =
        ap (λ ks. record (situation_of config made (Closed c ∷ past)) { held = ks }) (held_from-event config past (event.Close c))
        ∙ sym (close-changed c (λ d. facts d past) (λ d. facts d (Closed c ∷ past)) (λ d e. facts-closed d c past e) is (opened_conns past) (λ key. joined key past) (loads_under_way past) s refl refl (closed-now c past))

    module _ (piece : List ℕ) (moment : Instant) where
      abbrev then' : History
      then' = Fed c piece moment.nanos ∷ past

      abbrev t : Situation
      t = record s { latest = max moment.nanos s.latest }

      opens : open_in (facts c then') ≡ not (false || is_overlong (connection_of_facts c (facts c then')))
      opens =
          let parts : IsOpen (facts c past) = open-parts (facts c past) is in
          open-by_connection c (facts c then') parts.opened parts.closed ∙ ap (λ b. not (b || is_overlong (connection_of_facts c (facts c then')))) parts.quit

      pub situation-fed : situation_of config made then' ≡ after_event (event.Feed c piece moment) s
      situation-fed =
          ap (λ ks. record (situation_of config made then') { held = ks }) (held_from-event config past (event.Feed c piece moment))
          ∙ sym (ap (λ o. option_map_or (λ l. with_connection false (record l { unread = l.unread ++ piece }) t) o t) (connection-of config made past c ∙ ap (λ b. cond b (Some (connection_from past c)) None) is)
          ∙ ap (λ l. with_connection false l t) (sym (ap (connection_of_facts c) (facts-own_fed c piece moment.nanos past) ∙ connection-fed c piece (facts c past) (h.complete c)))
          ∙ with_connection-changed c (λ d. facts d past) (λ d. facts d then') (λ d e. facts-fed d c piece moment.nanos past e) is (opened_conns past) (λ key. joined key past) (loads_under_way past) false t refl refl opens)

  pub situation-settled : (load moment : ℕ) → situation_of config made (Settled load moment ∷ past) ≡ without_load load moment s
  situation-settled load moment =
      ap (λ ks. record (situation_of config made (Settled load moment ∷ past)) { held = ks }) (held_from-event config past (event.GiveUp load (record { nanos = moment })))
      ∙ ap (λ us. record s { latest = max moment s.latest; pending = us }) (pending-settled load moment past)

  pub situation-event : (e : Event) → Admitted past e → situation_of config made (happening_of e ∷ past) ≡ after_event e s
  situation-event (event.Open c) a = situation-opened c a
  situation-event (event.Close c) a = situation-closed c a
  situation-event (event.Feed c piece moment) a = situation-fed c a piece moment
  situation-event (event.Answer load outcome moment) a = situation-settled load moment.nanos
  situation-event (event.GiveUp load moment) a = situation-settled load moment.nanos
