-- Connections stay tidy.
use Rattle.std.proofs.Common.{◌≡◌, refl, ap, ◌∙◌, subst, ℕ, suc, ◌<◌, ◌==◌, Bool, true, false, not, ◌&&◌, ◌||◌, List, [], ◌∷◌, ◌++◌, map, Option, Some, None, if◌then◌else◌, max, arith, IsTrue}
use Rattle.std.specs.Prelude.{nat_le}
use Rattle.std.specs.List.{list_all, list_any, filter}
use Rattle.std.specs.Option.{option_map_or}
use Rattle.std.proofs.lemmas.Bool.{and_from, and_parts, cond_both, eqb-true, not-true, or_from}
use Rattle.std.proofs.lemmas.List.Folds.{list_any-append}
use Rattle.std.proofs.lemmas.Bool.Decides.{nat_tests}
use Rattle.audit_model.specs.Changes.{after_step, with_connection_after, connection_after, join_load, join_by}
use Rattle.audit_model.specs.Commands.{quits}
use Rattle.audit_model.specs.Follows.{after_event}
use Rattle.audit_model.specs.History.{Effect}
use Rattle.audit_model.specs.Loads.{key_loaded}
use Rattle.audit_model.specs.Obeys.{is_numbered}
use Rattle.audit_model.specs.Situation.{Situation, Connection, connection_in, with_connection, without_waiting, is_overlong}
use Rattle.audit_model.specs.Steps.{Task, Store, Deliver, RunAgain, RunHeld, RunLines}
use Rattle.audit_model.specs.Stream.{is_waiting}
use Rattle.audit_model.specs.declared.config.Config.{Config}
use Rattle.audit_model.specs.declared.event.Event.{Event}
use Rattle.audit_model.specs.declared.event.Event.TheVariants as event
use Rattle.audit_model.specs.declared.transcript.Step.{Step}
use Rattle.audit_situation.specs.States.{have_numbers_apart}
use Rattle.moka_audit.specs.Records.Tidy.{is_tidy}

abbrev tidy : ℕ → List Connection → Bool
tidy opened cs = have_numbers_apart cs && list_all (λ c. nat_le c.number opened) cs

-- ---- some connections leave

any-filter : (p q : Connection → Bool) (cs : List Connection) → list_any p cs ≡ false → list_any p (filter q cs) ≡ false
any-filter p q [] e = refl
any-filter p q (c ∷ cs) e = let next = any-filter p q cs in grind (arith, e, next)

all-filter : (p q : Connection → Bool) (cs : List Connection) → list_all p cs ≡ true → list_all p (filter q cs) ≡ true
all-filter p q [] e = refl
all-filter p q (c ∷ cs) e = let parts = and_parts (p c) (list_all p cs) e in let next = all-filter p q cs parts.1 in grind (arith, parts, next)

apart-filter : (q : Connection → Bool) (cs : List Connection) → have_numbers_apart cs ≡ true → have_numbers_apart (filter q cs) ≡ true
apart-filter q [] e = refl
apart-filter q (c ∷ cs) e =
    let parts = and_parts (not (list_any (λ d. d.number == c.number) cs)) (have_numbers_apart cs) e in
    let first = any-filter (λ d. d.number == c.number) q cs (not-true _ parts.0) in
    let next = apart-filter q cs parts.1 in
    grind (arith, first, next)

tidy-filter : (opened : ℕ) (q : Connection → Bool) (cs : List Connection) → tidy opened cs ≡ true → tidy opened (filter q cs) ≡ true
tidy-filter opened q cs e =
    let parts = and_parts (have_numbers_apart cs) (list_all (λ c. nat_le c.number opened) cs) e in
    and_from _ _ (apart-filter q cs parts.0) (all-filter (λ c. nat_le c.number opened) q cs parts.1)

-- ---- some connections change

module _ (f : Connection → Connection) (keeps : (c : Connection) → (f c).number ≡ c.number) where
  any-map : (n : ℕ) (cs : List Connection) → list_any (λ d. d.number == n) (map f cs) ≡ list_any (λ d. d.number == n) cs
  any-map n [] = refl
  any-map n (c ∷ cs) = ap (λ m. (m == n) || list_any (λ d. d.number == n) (map f cs)) (keeps c) ∙ ap (λ b. (c.number == n) || b) (any-map n cs)

  apart-map : (cs : List Connection) → have_numbers_apart (map f cs) ≡ have_numbers_apart cs
  apart-map [] = refl
  apart-map (c ∷ cs) =
      ap (λ m. not (list_any (λ d. d.number == m) (map f cs)) && have_numbers_apart (map f cs)) (keeps c)
      ∙ ap (λ b. not b && have_numbers_apart (map f cs)) (any-map c.number cs) ∙ ap (λ b. not (list_any (λ d. d.number == c.number) cs) && b) (apart-map cs)

  all-map : (n : ℕ) (cs : List Connection) → list_all (λ c. nat_le c.number n) (map f cs) ≡ list_all (λ c. nat_le c.number n) cs
  all-map n [] = refl
  all-map n (c ∷ cs) = ap (λ m. nat_le m n && list_all (λ c. nat_le c.number n) (map f cs)) (keeps c) ∙ ap (λ b. nat_le c.number n && b) (all-map n cs)

  tidy-map : (n : ℕ) (cs : List Connection) → tidy n (map f cs) ≡ tidy n cs
  tidy-map n cs = ap (λ b. b && list_all (λ c. nat_le c.number n) (map f cs)) (apart-map cs) ∙ ap (λ b. have_numbers_apart cs && b) (all-map n cs)

swap-keeps : (c d : Connection) → (if d.number == c.number then c else d).number ≡ d.number
swap-keeps c d = grind (arith, nat_tests)

with-tidy : (q : Bool) (c : Connection) (s : Situation) → is_tidy s ≡ true → is_tidy (with_connection q c s) ≡ true
with-tidy q c s e = cond_both (q || is_overlong c) _ _ (λ cs. tidy s.opened cs ≡ true)
    (λ _. tidy-filter s.opened (λ d. not (d.number == c.number)) s.connections e)
    (λ _. tidy-map (λ d. if d.number == c.number then c else d) (swap-keeps c) s.opened s.connections ∙ e)

-- ---- a connection opens

differ : (m n o : ℕ) → nat_le m o ≡ true → n ≡ suc o → (n == m) ≡ false
differ m n o h e = grind (arith, nat_tests)

le-more : (m o : ℕ) → nat_le m o ≡ true → nat_le m (suc o) ≡ true
le-more m o h = grind (arith, nat_tests)

le-same : (n o : ℕ) → n ≡ suc o → nat_le n (suc o) ≡ true
le-same n o e = grind (arith, nat_tests)

any-push : (p : Connection → Bool) (cs : List Connection) (c : Connection) → list_any p cs ≡ false → p c ≡ false → list_any p (cs ++ c ∷ []) ≡ false
any-push p cs c e f = list_any-append p cs (c ∷ []) ∙ or_from _ _ e (or_from _ _ f refl)

tidy-push : (opened : ℕ) (cs : List Connection) (c : Connection) → tidy opened cs ≡ true → c.number ≡ suc opened → tidy (suc opened) (cs ++ c ∷ []) ≡ true
tidy-push opened cs c e n =
    let parts = and_parts (have_numbers_apart cs) (list_all (λ d. nat_le d.number opened) cs) e in
    and_from _ _ (apart cs parts.0 parts.1) (all cs parts.1)
  where
    apart : (ds : List Connection) → have_numbers_apart ds ≡ true → list_all (λ d. nat_le d.number opened) ds ≡ true → have_numbers_apart (ds ++ c ∷ []) ≡ true
    apart [] a b = refl
    apart (d ∷ ds) a b =
        let pa = and_parts (not (list_any (λ k. k.number == d.number) ds)) (have_numbers_apart ds) a in
        let pb = and_parts (nat_le d.number opened) (list_all (λ k. nat_le k.number opened) ds) b in
        and_from _ _ (ap not (any-push (λ k. k.number == d.number) ds c (not-true _ pa.0) (differ d.number c.number opened pb.0 n))) (apart ds pa.1 pb.1)

    all : (ds : List Connection) → list_all (λ d. nat_le d.number opened) ds ≡ true → list_all (λ d. nat_le d.number (suc opened)) (ds ++ c ∷ []) ≡ true
    all [] b = and_from _ _ (le-same c.number opened n) refl
    all (d ∷ ds) b =
        let pb = and_parts (nat_le d.number opened) (list_all (λ k. nat_le k.number opened) ds) b in
        and_from _ _ (le-more d.number opened pb.0) (all ds pb.1)

-- ---- events and steps

pub event-tidy : (e : Event) (s : Situation) → is_numbered s.opened e ≡ true → is_tidy s ≡ true → is_tidy (after_event e s) ≡ true
event-tidy (event.Open conn) s n t = tidy-push s.opened s.connections _ t (eqb-true conn (suc s.opened) n)
event-tidy (event.Close conn) s n t = tidy-filter s.opened (λ d. not (d.number == conn)) s.connections t
event-tidy (event.Feed conn piece moment) s n t = go (connection_in conn s)
  where
    u : Situation
    u = record s { latest = max moment.nanos s.latest }

    go : (o : Option Connection) → is_tidy (option_map_or (λ c. with_connection false (record c { unread = c.unread ++ piece }) u) o u) ≡ true
    go None = t
    go (Some c) = with-tidy false (record c { unread = c.unread ++ piece }) u t
event-tidy (event.Answer load outcome moment) s n t = t
event-tidy (event.GiveUp load moment) s n t = t

join-tidy : (conn : ℕ) (waits : Bool) (key : Option (List ℕ)) (load : Option ℕ) (s : Situation) → is_tidy s ≡ true → is_tidy (join_by conn waits key load s) ≡ true
join-tidy conn waits None load s t = t
join-tidy conn waits (Some key) (Some number) s t = t
join-tidy conn true (Some key) None s t = t
join-tidy conn false (Some key) None s t = t

moved-tidy : (task : Option Task) (step : Step) (effect : Effect) (s : Situation) → is_tidy s ≡ true
    → is_tidy (option_map_or (λ c. with_connection (quits effect) (connection_after task step effect c) (join_load step.conn effect s)) (connection_in step.conn s) s) ≡ true
moved-tidy task step effect s t = go (connection_in step.conn s)
  where
    go : (o : Option Connection) → is_tidy (option_map_or (λ c. with_connection (quits effect) (connection_after task step effect c) (join_load step.conn effect s)) o s) ≡ true
    go None = t
    go (Some c) = with-tidy (quits effect) (connection_after task step effect c) (join_load step.conn effect s) (join-tidy step.conn (is_waiting effect) (key_loaded effect.action) effect.load s t)

passed-tidy : (task : Option Task) (step : Step) (effect : Effect) (s : Situation) → is_tidy s ≡ true → is_tidy (with_connection_after task step effect s) ≡ true
passed-tidy None step effect s t = moved-tidy None step effect s t
passed-tidy (Some (Store key outcome)) step effect s t = t
passed-tidy (Some (Deliver conn outcome)) step effect s t = moved-tidy (Some (Deliver conn outcome)) step effect s t
passed-tidy (Some (RunAgain conn)) step effect s t = moved-tidy (Some (RunAgain conn)) step effect s t
passed-tidy (Some (RunHeld conn)) step effect s t = moved-tidy (Some (RunHeld conn)) step effect s t
passed-tidy (Some (RunLines conn)) step effect s t = moved-tidy (Some (RunLines conn)) step effect s t

pub step-tidy : (config : Config) (s : Situation) (task : Option Task) (step : Step) (effect : Effect) → is_tidy s ≡ true → is_tidy (after_step config s task step effect) ≡ true
step-tidy config s task step effect t = passed-tidy task step effect _ t
