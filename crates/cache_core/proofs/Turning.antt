-- A feed of a namespace, as a record that follows.
use Rattle.std.proofs.Common.{refl, sym, ap, ◌∙◌, arith, subst, inl, inr, ◌≡◌, ◌≢◌, ℕ, zero, suc, ◌+◌, ◌<◌, Bool, true, false, not, ◌||◌, ◌==◌, List, [], ◌∷◌, ◌++◌, length, map, Option, Some, None, if◌then◌else◌, nat_lt, nat_le, is_some, is_none, slice_set, IsTrue}
use Rattle.std.proofs.lemmas.Bool.Decides.{nat_tests}
use Rattle.std.proofs.lemmas.Bool.{and_from, eq-eqb, eqb-true, lt-ltb, le-leb, leb-true}
use Rattle.std.proofs.lemmas.List.{append-nil, length-map, length-set}
use Rattle.std.proofs.lemmas.Option.{get_or_from_slice_get, slice_get_within}
use Rattle.std.specs.List.{find, flat_map, list_all, slice_get}
use Rattle.audit_model.specs.Follows.{known_in}
use Rattle.audit_model.specs.Situation.{HeldValue, Situation, connection_in, is_holding, is_overlong, is_waiting_now, without_connection, without_number, without_waiting}
use Rattle.audit_model.specs.Stream.{behind_lines}
use Rattle.audit_model.specs.declared.command.Closing.{Closing}
use Rattle.audit_model.specs.declared.config.Config.{Config}
use Rattle.audit_model.specs.declared.transcript.Record.{Record}
use Rattle.audit_model.specs.declared.transcript.Step.{Step}
use Rattle.cache_commands.specs.Loads.Standings.{holds_line, waits_for_load}
use Rattle.cache_commands.specs.declared.loads.standing.Standing.{Standing}
use Rattle.cache_core.specs.Connection.Fits.{ClosesFor, FitsStanding}
use Rattle.cache_core.specs.Connection.Parts.{standing_as}
use Rattle.cache_core.specs.Connection.Shown.{put_in, shown_connection}
use Rattle.cache_core.specs.Connections.Presence.{Gone, Here, Out, Presence, closing_of_presence, open_from, reply_text_of}
use Rattle.cache_core.specs.State.{at_number}
use Rattle.cache_core.specs.Turned.{closing_behind, reason_of, replies_to}
use Rattle.cache_lines.specs.Gathered.{reply_in}
use Rattle.cache_lines.specs.Lines.{set_in}
use Rattle.cache_lines.specs.Waiting.{UnderWay, when_left}
use Rattle.cache_lines.specs.Whole.{is_long_line}
use Rattle.audit_model.specs.Situation as model
use Rattle.cache_commands.specs.declared.loads.standing.Standing.TheVariants as now
use Rattle.cache_core.specs.declared.connection.connection.Connection.{Connection}
use Rattle.cache_core.proofs.Sending.{own-all, own-none}
use Rattle.cache_core.proofs.connection.Putting.{not-above}
use Rattle.cache_core.proofs.connections.Getting.{at-replaced}
use Rattle.cache_core.proofs.Spots.{seen-at, seen-other, seen-was}
use Rattle.cache_core.proofs.Table.{dropped-at, found-at, listed_as, listed_of, passed-over, swapped-at}

-- ---- one connection

not-long : (b : Bool) → IsTrue (not b) → (b || false) ≡ false
not-long true h = let no : false ≡ true = h in cc
not-long false h = refl

-- an open connection closes for nothing
pub fits-open : (m : ℕ) (c : Connection) → c.closing ≡ None → is_overlong (shown_connection m c) ≡ false
fits-open m c e = go c.closing c.standing c.waited c.unread.bytes c.fits e
  where
    go : (closing : Option Closing) (standing : Standing) (times : ℕ) (bytes : List ℕ) → FitsStanding standing times closing bytes → closing ≡ None → is_overlong (standing_as m standing times bytes) ≡ false
    go (Some by) standing times bytes f h = let no : Some by ≡ None = h in cc
    go None now.Ready times bytes f h = not-long (is_long_line bytes) f.short
    go None now.Held times bytes f h = refl
    go None now.Waiting times bytes f h = not-above (length (behind_lines 1 bytes)) (leb-true (length (behind_lines 1 bytes)) 8192 f.near)

pub holding-shown : (m : ℕ) (c : Connection) → is_holding (shown_connection m c).standing ≡ holds_line c.standing
holding-shown m c = go c.standing
  where
    go : (standing : Standing) → is_holding (standing_as m standing c.waited c.unread.bytes).standing ≡ holds_line standing
    go now.Ready = refl
    go now.Held = refl
    go now.Waiting = refl

pub waiting-shown : (m : ℕ) (c : Connection) → is_waiting_now (shown_connection m c).standing ≡ waits_for_load c.standing
waiting-shown m c = go c.standing
  where
    go : (standing : Standing) → is_waiting_now (standing_as m standing c.waited c.unread.bytes).standing ≡ waits_for_load standing
    go now.Ready = refl
    go now.Held = refl
    go now.Waiting = refl

-- ---- connections by number

-- the connection at a place is found under its number, where it is open
pub found-is : (m i : ℕ) (c : Presence) (cs : List Presence) → m ≡ suc i → slice_get cs i ≡ Some c → find (λ k. k.number == m) (open_from 1 cs) ≡ listed_of m c
found-is m i c cs e at = found-at m 1 i c cs (omega arith) (slice_get_within cs i c at) (get_or_from_slice_get cs i c c at)

pub found-open : (m i : ℕ) (c : Connection) (cs : List Presence) → m ≡ suc i → slice_get cs i ≡ Some (Here c) → c.closing ≡ None → find (λ k. k.number == m) (open_from 1 cs) ≡ Some (shown_connection m c)
found-open m i c cs e at is_open = found-is m i (Here c) cs e at ∙ ap (λ o. listed_as (is_none o) (shown_connection m c)) is_open

pub none-is : (o : Option Closing) → is_none o ≡ true → o ≡ None
none-is None e = refl
none-is (Some by) e = let no : false ≡ true = e in cc

pub other-number : (n k : ℕ) → k ≢ n → (n == k) ≡ false
other-number n k ne = grind (arith, nat_tests)

-- under other numbers nothing changes
pub found-other : (k n i : ℕ) (new : Presence) (cs : List Presence) → k ≢ n + i → find (λ x. x.number == k) (open_from n (slice_set cs i new)) ≡ find (λ x. x.number == k) (open_from n cs)
found-other k n i new [] ne = refl
found-other k n zero new (d ∷ ds) ne =
    let differs = other-number n k (λ e. ne (omega (arith, e))) in
    passed-over k n new ds differs ∙ sym (passed-over k n d ds differs)
found-other k n (suc i) new (Here d ∷ ds) ne = let next = found-other k (suc n) i new ds (λ e. ne (omega (arith, e))) in grind (arith, next)
found-other k n (suc i) new (Out ∷ ds) ne = found-other k (suc n) i new ds (λ e. ne (omega (arith, e)))
found-other k n (suc i) new (Gone why ∷ ds) ne = found-other k (suc n) i new ds (λ e. ne (omega (arith, e)))

-- ---- situations

abbrev pub sit : ℕ → UnderWay → List Presence → Bool → List HeldValue → Situation
sit latest l cs dropped held =
    record { latest = latest; opened = length (map closing_of_presence cs); sent = l.sent; connections = open_from 1 cs; pending = l.pending; held = held; dropped = dropped }

pub opened-same : (cs : List Presence) (i : ℕ) (new : Presence) → length (map closing_of_presence (slice_set cs i new)) ≡ length (map closing_of_presence cs)
opened-same cs i new = length-map (slice_set cs i new) closing_of_presence ∙ length-set cs i new ∙ sym (length-map cs closing_of_presence)

-- the situation with one connection as it now is
pub put-situation : (latest m i : ℕ) (l : UnderWay) (old new : Connection) (cs : List Presence) (dropped : Bool) (x left : List HeldValue) → m ≡ suc i → slice_get cs i ≡ Some (Here old) → old.closing ≡ None
    → put_in (sit latest l cs dropped x) left m new ≡ sit latest (when_left (is_none new.closing) m l) (slice_set cs i (Here new)) dropped left
put-situation latest m i l old new cs dropped x left e at is_open = go (is_none new.closing) refl
  where
    n : ℕ
    n = length (map closing_of_presence cs)

    go : (b : Bool) → is_none new.closing ≡ b → put_in (sit latest l cs dropped x) left m new ≡ sit latest (when_left (is_none new.closing) m l) (slice_set cs i (Here new)) dropped left
    go true is =
        let fits = fits-open m new (none-is new.closing is) in
        ap (λ b. if b then set_in (sit latest l cs dropped x) left (shown_connection m new) else without_connection m (record (sit latest l cs dropped x) { held = left })) is
        ∙ ap (λ b. record { latest = latest; opened = n; sent = l.sent; connections = if b then without_number m (open_from 1 cs) else map (λ (k : model.Connection). if k.number == m then shown_connection m new else k) (open_from 1 cs); pending = if b then map (without_waiting m) l.pending else l.pending; held = left; dropped = dropped }) fits
        ∙ ap (λ ks. record { latest = latest; opened = n; sent = l.sent; connections = ks; pending = l.pending; held = left; dropped = dropped })
        (swapped-at m 1 i old new cs (omega arith) (slice_get_within cs i (Here old) at) (get_or_from_slice_get cs i (Here old) (Here old) at) (ap is_none is_open) is)
        ∙ ap (λ k. record { latest = latest; opened = k; sent = l.sent; connections = open_from 1 (slice_set cs i (Here new)); pending = l.pending; held = left; dropped = dropped }) (sym (opened-same cs i (Here new)))
        ∙ sym (ap (λ b. sit latest (when_left b m l) (slice_set cs i (Here new)) dropped left) is)
    go false is =
        ap (λ b. if b then set_in (sit latest l cs dropped x) left (shown_connection m new) else without_connection m (record (sit latest l cs dropped x) { held = left })) is
        ∙ ap (λ ks. record { latest = latest; opened = n; sent = l.sent; connections = ks; pending = map (without_waiting m) l.pending; held = left; dropped = dropped }) (dropped-at m 1 i new cs (omega arith) (slice_get_within cs i (Here old) at) is)
        ∙ ap (λ k. record { latest = latest; opened = k; sent = l.sent; connections = open_from 1 (slice_set cs i (Here new)); pending = map (without_waiting m) l.pending; held = left; dropped = dropped }) (sym (opened-same cs i (Here new)))
        ∙ sym (ap (λ b. sit latest (when_left b m l) (slice_set cs i (Here new)) dropped left) is)

-- an open connection is known
pub known-open : (m i : ℕ) (c : Connection) (s : Situation) (cs : List Presence) → s.opened ≡ length (map closing_of_presence cs) → s.connections ≡ open_from 1 cs
    → m ≡ suc i → slice_get cs i ≡ Some (Here c) → c.closing ≡ None → ((known_in s).was_opened m ≡ true) × ((known_in s).is_open m ≡ true)
known-open m i c s cs opened listed e at is_open =
    let within = slice_get_within cs i (Here c) at in
    let count = length-map cs closing_of_presence in (
      and_from (nat_lt 0 m) (nat_le m s.opened) (lt-ltb 0 m (omega arith)) (le-leb m s.opened (omega (arith, opened, count, within, e))),
      ap (λ ks. is_some (find (λ (k : model.Connection). k.number == m) ks)) listed ∙ ap is_some (found-open m i c cs e at is_open),
    )

pub leb-above : (a b : ℕ) → b < a → nat_le a b ≡ false
leb-above a b lt = go (nat_le a b) refl
  where
    go : (t : Bool) → nat_le a b ≡ t → t ≡ false
    go true e = let h = leb-true a b e in absurd (omega arith)
    go false e = refl

-- ---- what is seen of connections behind a feed

none-added : (b : Bool) (xs rs : List ℕ) → rs ≡ [] → xs ≡ xs ++ (if b then [] else rs)
none-added true xs rs e = sym (append-nil xs)
none-added false xs rs e = sym (append-nil xs) ∙ ap (λ r. xs ++ r) (sym e)

-- the outputs
pub outputs-by : (cs : List Presence) (i : ℕ) (old new : Connection) (steps : List Step) (b : Bool) → slice_get cs i ≡ Some (Here old)
    → new.output.text.items ≡ old.output.text.items ++ (if b then [] else flat_map reply_in steps) → list_all (λ step. step.conn == suc i) steps ≡ true
    → (n : ℕ) → at_number [] (map reply_text_of (slice_set cs i (Here new))) n ≡ at_number [] (map reply_text_of cs) n ++ (if b then [] else replies_to n steps)
outputs-by cs i old new steps b at text own n = go (n == suc i) refl
  where
    go : (t : Bool) → (n == suc i) ≡ t → at_number [] (map reply_text_of (slice_set cs i (Here new))) n ≡ at_number [] (map reply_text_of cs) n ++ (if b then [] else replies_to n steps)
    go true e =
        let is : n ≡ suc i = eqb-true n (suc i) e in
        subst (λ k. at_number [] (map reply_text_of (slice_set cs i (Here new))) k ≡ at_number [] (map reply_text_of cs) k ++ (if b then [] else replies_to k steps)) (sym is)
        (seen-at reply_text_of [] cs i (Here new) (slice_get_within cs i (Here old) at) ∙ text
        ∙ ap (λ ss. old.output.text.items ++ (if b then [] else flat_map reply_in ss)) (sym (own-all (suc i) steps own))
        ∙ ap (λ xs. xs ++ (if b then [] else replies_to (suc i) steps)) (sym (seen-was reply_text_of [] cs i (Here old) at)))
    go false e =
        let ne : n ≢ suc i = λ h. let no : false ≡ true = sym e ∙ eq-eqb n (suc i) h in cc in
        seen-other reply_text_of [] cs i n (Here new) ne ∙ none-added b (at_number [] (map reply_text_of cs) n) (replies_to n steps) (ap (flat_map reply_in) (own-none (suc i) n steps own ne))

-- one that was not touched is closed as it was
same-closing : (config : Config) (s next : Situation) (entry : Record) (n : ℕ) (o : Option Closing) → connection_in n next ≡ connection_in n s → o ≡ closing_behind config s entry next o n
same-closing config s next entry n (Some why) e = refl
same-closing config s next entry n None e = sym (ap (λ (c : Option model.Connection). if is_some c || not (is_some (connection_in n s)) then None else Some (reason_of config s n entry.event entry.steps)) e ∙ closed-not)
  where
    closed-not : (if is_some (connection_in n s) || not (is_some (connection_in n s)) then None else Some (reason_of config s n entry.event entry.steps)) ≡ None
    closed-not = grind arith

-- one that was
own-closing : (config : Config) (s next : Situation) (entry : Record) (m : ℕ) (old new : Connection) → connection_in m s ≡ Some (shown_connection m old) → connection_in m next ≡ listed_as (is_none new.closing) (shown_connection m new)
    → ClosesFor (reason_of config s m entry.event entry.steps) new.closing → new.closing ≡ closing_behind config s entry next None m
own-closing config s next entry m old new was is (inl stays) =
    stays ∙ sym (ap (λ (c : Option model.Connection). if is_some c || not (is_some (connection_in m s)) then None else Some (reason_of config s m entry.event entry.steps)) (is ∙ ap (λ o. listed_as (is_none o) (shown_connection m new)) stays))
own-closing config s next entry m old new was is (inr closes) =
    closes
    ∙ sym (ap (λ (c : Option model.Connection). if is_some c || not (is_some (connection_in m s)) then None else Some (reason_of config s m entry.event entry.steps)) (is ∙ ap (λ o. listed_as (is_none o) (shown_connection m new)) closes)
    ∙ ap (λ (c : Option model.Connection). if false || not (is_some c) then None else Some (reason_of config s m entry.event entry.steps)) was)

pub closings-by : (config : Config) (s next : Situation) (entry : Record) (cs : List Presence) (i : ℕ) (old new : Connection) → slice_get cs i ≡ Some (Here old) → old.closing ≡ None
    → s.connections ≡ open_from 1 cs → next.connections ≡ open_from 1 (slice_set cs i (Here new)) → ClosesFor (reason_of config s (suc i) entry.event entry.steps) new.closing
    → (n : ℕ) → at_number None (map closing_of_presence (slice_set cs i (Here new))) n ≡ closing_behind config s entry next (at_number None (map closing_of_presence cs) n) n
closings-by config s next entry cs i old new at is_open listed relisted closes n = go (n == suc i) refl
  where
    go : (t : Bool) → (n == suc i) ≡ t → at_number None (map closing_of_presence (slice_set cs i (Here new))) n ≡ closing_behind config s entry next (at_number None (map closing_of_presence cs) n) n
    go true e =
        let is : n ≡ suc i = eqb-true n (suc i) e in
        let within = slice_get_within cs i (Here old) at in
        subst (λ k. at_number None (map closing_of_presence (slice_set cs i (Here new))) k ≡ closing_behind config s entry next (at_number None (map closing_of_presence cs) k) k) (sym is)
        (seen-at closing_of_presence None cs i (Here new) within
        ∙ own-closing config s next entry (suc i) old new
        (ap (λ ks. find (λ (k : model.Connection). k.number == suc i) ks) listed ∙ found-open (suc i) i old cs refl at is_open)
        (ap (λ ks. find (λ (k : model.Connection). k.number == suc i) ks) relisted ∙ found-is (suc i) i (Here new) (slice_set cs i (Here new)) refl (at-replaced cs i (Here new) within)) closes
        ∙ ap (λ o. closing_behind config s entry next o (suc i)) (sym (seen-was closing_of_presence None cs i (Here old) at ∙ is_open)))
    go false e =
        let ne : n ≢ suc i = λ h. let no : false ≡ true = sym e ∙ eq-eqb n (suc i) h in cc in
        seen-other closing_of_presence None cs i n (Here new) ne
        ∙ same-closing config s next entry n (at_number None (map closing_of_presence cs) n)
        (ap (λ ks. find (λ (k : model.Connection). k.number == n) ks) relisted ∙ found-other n 1 i (Here new) cs (λ h. ne (omega (arith, h))) ∙ sym (ap (λ ks. find (λ (k : model.Connection). k.number == n) ks) listed))
