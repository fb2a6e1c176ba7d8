-- Connections of which one was touched, or none that anybody could see.
use Rattle.std.proofs.Common.{refl, sym, ap, ◌∙◌, subst, arith, ◌≡◌, ◌≢◌, ℕ, zero, suc, ◌+◌, ◌-◌, ◌≤◌, Bool, true, false, ◌==◌, List, [], ◌∷◌, ◌++◌, map, Some, None, if◌then◌else◌, length, vec_len, is_none, slice_set, vec_capacity, cond, get_or, drop, ◌<◌, Option, take}
use Rattle.std.proofs.lemmas.Bool.Decides.{nat_tests}
use Rattle.std.proofs.Math.Seq.{drop-cons, take-suc}
use Rattle.std.proofs.lemmas.Bool.{eqb-true, eq-eqb}
use Rattle.std.proofs.lemmas.List.{length-set}
use Rattle.std.proofs.lemmas.Option.{same_Some, slice_get_within}
use Rattle.std.specs.List.{slice_get, find}
use Rattle.std.specs.Option.{option_map_or}
use Rattle.audit_model.specs.Grammar.{reading}
use Rattle.audit_model.specs.Situation.{Situation, connection_in, is_waiting_now}
use Rattle.audit_model.specs.declared.command.Closing.{Closing}
use Rattle.audit_model.specs.declared.config.Config.{Config}
use Rattle.audit_laws.proofs.waiting.Counts.{one_if}
use Rattle.audit_laws.specs.Waiting.Tidy.{times_in, Tidy}
use Rattle.cache_commands.specs.declared.loads.standing.Standing.{Standing}
use Rattle.cache_lines.proofs.leads.Settling.{counted}
use Rattle.cache_lines.specs.Leads.Waiters.{WaitForLoads}
use Rattle.cache_lines.specs.Waiting.{is_load}
use Rattle.cache_lines.specs.Whole.{held_line}
use Rattle.cache_core.proofs.connections.Getting.{at-other}
use Rattle.cache_core.proofs.connections.Listed.{open-behind}
use Rattle.cache_core.specs.Connection.Fed.{LooksAsBefore}
use Rattle.cache_core.specs.Connection.Parts.{standing_as, stands_before}
use Rattle.cache_core.specs.Connection.Shown.{shown_connection}
use Rattle.cache_core.specs.Connections.Presence.{Gone, Here, Out, Presence, closing_of_presence, open_from, reply_text_of}
use Rattle.cache_core.specs.Fed.{ReplacedAt}
use Rattle.cache_core.specs.Settled.{course_in, course_of}
use Rattle.cache_core.specs.Settling.{AllLookAsBefore, HasReplyRoomAt, HaveReplyRoom, LeavesOthers, LooksLike, AreThere, AreWaiting, IsWaitingAt}
use Rattle.cache_core.specs.declared.connection.connection.Connection.{Connection}
use Rattle.audit_model.specs.Situation as model
use Rattle.cache_commands.specs.declared.loads.standing.Standing.TheVariants as now

-- ---- one was put in the place of another

pub leaves-others : (old new : List Presence) (i : ℕ) → ReplacedAt old new i → LeavesOthers old new i
leaves-others old new i p = record {
  count = ap length p.set ∙ length-set old i (Here p.is);
  others = λ place ne. ap (λ cs. slice_get cs place) p.set ∙ at-other old place i (Here p.is) ne;
}

pub leaves-all : (cs : List Presence) (i : ℕ) → LeavesOthers cs cs i
leaves-all cs i = record { count = refl; others = λ place ne. refl }

pub leaves-on : (old mid new : List Presence) (i : ℕ) → LeavesOthers old mid i → LeavesOthers mid new i → LeavesOthers old new i
leaves-on old mid new i a b = record { count = b.count ∙ a.count; others = λ place ne. b.others place ne ∙ a.others place ne }

-- ---- none that anybody could see

pub looks-itself : (c : Connection) → LooksAsBefore c c
looks-itself c = record { bytes = refl; standing = refl; waited = refl; closing = refl; text = refl }

pub looks-on : (a b c : Connection) → LooksAsBefore a b → LooksAsBefore b c → LooksAsBefore a c
looks-on a b c x y = record { bytes = y.bytes ∙ x.bytes; standing = y.standing ∙ x.standing; waited = y.waited ∙ x.waited; closing = y.closing ∙ x.closing; text = y.text ∙ x.text }

like-itself : (p : Presence) → LooksLike p p
like-itself (Here c) = looks-itself c
like-itself Out = refl
like-itself (Gone why) = refl

like-on : (p q r : Presence) → LooksLike p q → LooksLike q r → LooksLike p r
like-on (Here a) (Here b) (Here c) x y = looks-on a b c x y
like-on (Here a) (Here b) Out x y = y
like-on (Here a) (Here b) (Gone why) x y = y
like-on (Here a) Out r x y = absurd x
like-on (Here a) (Gone why) r x y = absurd x
like-on Out q r x y = subst (λ p. LooksLike p r) x y
like-on (Gone why) q r x y = subst (λ p. LooksLike p r) x y

pub all-itself : (cs : List Presence) → AllLookAsBefore cs cs
all-itself [] = tt
all-itself (c ∷ cs) = (like-itself c, all-itself cs)

pub all-on : (old mid new : List Presence) → AllLookAsBefore old mid → AllLookAsBefore mid new → AllLookAsBefore old new
all-on [] [] [] a b = tt
all-on [] [] (e ∷ es) a b = b
all-on [] (d ∷ ds) new a b = absurd a
all-on (c ∷ cs) [] new a b = absurd a
all-on (c ∷ cs) (d ∷ ds) [] a b = absurd b
all-on (c ∷ cs) (d ∷ ds) (e ∷ es) a b = (like-on c d e a.0 b.0, all-on cs ds es a.1 b.1)

all-set : (cs : List Presence) (i : ℕ) (was is : Connection) → slice_get cs i ≡ Some (Here was) → LooksAsBefore was is → AllLookAsBefore cs (slice_set cs i (Here is))
all-set [] i was is at same = tt
all-set (c ∷ cs) zero was is at same = (subst (λ k. LooksLike k (Here is)) (sym (same_Some c (Here was) at)) same, all-itself cs)
all-set (c ∷ cs) (suc i) was is at same = (like-itself c, all-set cs i was is at same)

pub all-replaced : (old new : List Presence) (i : ℕ) (p : ReplacedAt old new i) → LooksAsBefore p.was p.is → AllLookAsBefore old new
all-replaced old new i p same = subst (AllLookAsBefore old) (sym p.set) (all-set old i p.was p.is p.at same)

shows-same : (k : ℕ) (c d : Connection) → LooksAsBefore c d → shown_connection k d ≡ shown_connection k c
shows-same k c d same = ap (λ st. standing_as k st d.waited d.unread.bytes) same.standing ∙ ap (λ n. standing_as k c.standing n d.unread.bytes) same.waited ∙ ap (standing_as k c.standing c.waited) same.bytes

listed-like : (n : ℕ) (c d : Presence) (cs : List Presence) → LooksLike c d → open_from n (d ∷ cs) ≡ open_from n (c ∷ cs)
listed-like n (Here c) (Here d) cs a =
    ap (λ w. if is_none w then shown_connection n d ∷ open_from (suc n) cs else open_from (suc n) cs) a.closing
    ∙ ap (λ k. if is_none c.closing then k ∷ open_from (suc n) cs else open_from (suc n) cs) (shows-same n c d a)
listed-like n (Here c) Out cs a = absurd a
listed-like n (Here c) (Gone why) cs a = absurd a
listed-like n Out d cs a = ap (λ p. open_from n (p ∷ cs)) a
listed-like n (Gone why) d cs a = ap (λ p. open_from n (p ∷ cs)) a

pub all-listed : (n : ℕ) (old new : List Presence) → AllLookAsBefore old new → open_from n new ≡ open_from n old
all-listed n [] [] a = refl
all-listed n [] (d ∷ ds) a = absurd a
all-listed n (c ∷ cs) [] a = absurd a
all-listed n (c ∷ cs) (d ∷ ds) a = listed-like n c d ds a.0 ∙ open-behind n c ds cs (all-listed (suc n) cs ds a.1)

all-seen : {A : Type 0} (f : Presence → A) → ((c d : Presence) → LooksLike c d → f d ≡ f c) → (old new : List Presence) → AllLookAsBefore old new → map f new ≡ map f old
all-seen f same [] [] a = refl
all-seen f same [] (d ∷ ds) a = absurd a
all-seen f same (c ∷ cs) [] a = absurd a
all-seen f same (c ∷ cs) (d ∷ ds) a = ap (λ x. x ∷ map f ds) (same c d a.0) ∙ ap (λ xs. f c ∷ xs) (all-seen f same cs ds a.1)

closing-like : (c d : Presence) → LooksLike c d → closing_of_presence d ≡ closing_of_presence c
closing-like (Here c) (Here d) a = a.closing
closing-like (Here c) Out a = absurd a
closing-like (Here c) (Gone why) a = absurd a
closing-like Out d a = ap closing_of_presence a
closing-like (Gone why) d a = ap closing_of_presence a

text-like : (c d : Presence) → LooksLike c d → reply_text_of d ≡ reply_text_of c
text-like (Here c) (Here d) a = a.text
text-like (Here c) Out a = absurd a
text-like (Here c) (Gone why) a = absurd a
text-like Out d a = ap reply_text_of a
text-like (Gone why) d a = ap reply_text_of a

course-like : (c d : Presence) → LooksLike c d → course_in d ≡ course_in c
course-like (Here c) (Here d) a = ap (λ o. course_of o d.standing) a.closing ∙ ap (course_of c.closing) a.standing
course-like (Here c) Out a = absurd a
course-like (Here c) (Gone why) a = absurd a
course-like Out d a = ap course_in a
course-like (Gone why) d a = ap course_in a

pub all-closings : (old new : List Presence) → AllLookAsBefore old new → map closing_of_presence new ≡ map closing_of_presence old
all-closings old new a = all-seen closing_of_presence closing-like old new a

pub all-texts : (old new : List Presence) → AllLookAsBefore old new → map reply_text_of new ≡ map reply_text_of old
all-texts old new a = all-seen reply_text_of text-like old new a

pub all-courses : (old new : List Presence) → AllLookAsBefore old new → map course_in new ≡ map course_in old
all-courses old new a = all-seen course_in course-like old new a

like-here : (c : Connection) (p : Presence) → LooksLike (Here c) p → (d : Connection) × (p ≡ Here d) × LooksAsBefore c d
like-here c (Here d) a = (d, refl, a)
like-here c Out a = absurd a
like-here c (Gone why) a = absurd a

pub all-at : (old new : List Presence) (i : ℕ) (c : Connection) → AllLookAsBefore old new → slice_get old i ≡ Some (Here c) → (d : Connection) × (slice_get new i ≡ Some (Here d)) × LooksAsBefore c d
all-at [] new i c a at = let no : None ≡ Some (Here c) = at in cc
all-at (x ∷ xs) [] i c a at = absurd a
all-at (x ∷ xs) (y ∷ ys) zero c a at =
    let d = like-here c y (subst (λ k. LooksLike k y) (same_Some x (Here c) at) a.0) in
    (d.0, ap Some d.1, d.2)
all-at (x ∷ xs) (y ∷ ys) (suc i) c a at = all-at xs ys i c a.1 at

-- ---- numbers in a list

pub times-more : (m n : ℕ) (xs : List ℕ) → times_in m (xs ++ n ∷ []) ≡ times_in m xs + one_if (n == m)
times-more m n [] = omega arith
times-more m n (x ∷ xs) = let next = times-more m n xs in omega arith

no-truth : false ≡ true → ⊥
no-truth e = let no : false ≡ true = e in cc

elsewhere : (a b : ℕ) → (a == b) ≡ false → (a ≡ b) → ⊥
elsewhere a b is same = no-truth (sym is ∙ eq-eqb a b same)

left-among : (m n : ℕ) (gone : List ℕ) → 1 ≤ times_in m (gone ++ n ∷ []) → ((m - 1 ≡ n - 1) → ⊥) → 1 ≤ times_in m gone
left-among m n gone some away = let t = times-more m n gone in grind (arith, nat_tests, t)

-- one more has room
pub room-more : (mid new : List Presence) (size n : ℕ) (gone : List ℕ) → HaveReplyRoom mid size gone → ((place : ℕ) → place ≢ n - 1 → slice_get new place ≡ slice_get mid place)
    → HasReplyRoomAt new size (n - 1) → HaveReplyRoom new size (gone ++ n ∷ [])
room-more mid new size n gone before others room m some c at = go (m - 1 == n - 1) refl
  where
    go : (b : Bool) → (m - 1 == n - 1) ≡ b → vec_len c.output.text + size ≤ vec_capacity c.output.text
    go true is = room c (ap (slice_get new) (sym (eqb-true (m - 1) (n - 1) is)) ∙ at)
    go false is = before m (left-among m n gone some (elsewhere (m - 1) (n - 1) is)) c (sym (others (m - 1) (elsewhere (m - 1) (n - 1) is)) ∙ at)

-- The connections that wait for a load.

-- ---- where a connection is found

-- a connection of that number stands at its place, and is open
record FoundAt (m n : ℕ) (k : model.Connection) (cs : List Presence) : Type 0 where
  index : ℕ
  place : m ≡ n + index
  is : Connection
  at : slice_get cs index ≡ Some (Here is)
  is_open : is.closing ≡ None
  shows : shown_connection m is ≡ k

found-later : (m n : ℕ) (k : model.Connection) (c : Presence) (cs : List Presence) → FoundAt m (suc n) k cs → FoundAt m n k (c ∷ cs)
found-later m n k c cs f = record { index = suc f.index; place = let e = f.place in omega (arith, e); is = f.is; at = f.at; is_open = f.is_open; shows = f.shows }

open-so : (closing : Option Closing) → is_none closing ≡ true → closing ≡ None
open-so None e = refl
open-so (Some by) e = let no : false ≡ true = e in cc

found-first : (m n : ℕ) (k : model.Connection) (c : Connection) (cs : List Presence) (rest : List model.Connection) → (find (λ (x : model.Connection). x.number == m) rest ≡ Some k → FoundAt m (suc n) k cs)
    → (b t : Bool) → is_none c.closing ≡ b → (n == m) ≡ t → (if b then cond t (Some (shown_connection n c)) (find (λ (x : model.Connection). x.number == m) rest) else find (λ (x : model.Connection). x.number == m) rest) ≡ Some k → FoundAt m n k (Here c ∷ cs)
found-first m n k c cs rest next false t is same h = found-later m n k (Here c) cs (next h)
found-first m n k c cs rest next true false is other h = found-later m n k (Here c) cs (next h)
found-first m n k c cs rest next true true is same h =
    let e = eqb-true n m same in
    record { index = 0; place = omega (arith, e); is = c; at = refl; is_open = open-so c.closing is; shows = ap (λ x. shown_connection x c) (sym e) ∙ same_Some (shown_connection n c) k h }

found-back : (m n : ℕ) (k : model.Connection) (cs : List Presence) → find (λ (x : model.Connection). x.number == m) (open_from n cs) ≡ Some k → FoundAt m n k cs
found-back m n k [] e = let no : None ≡ Some k = e in cc
found-back m n k (Here c ∷ cs) e =
    found-first m n k c cs (open_from (suc n) cs) (λ h. found-back m (suc n) k cs h) (is_none c.closing) (n == m) refl refl (grind arith)
found-back m n k (Out ∷ cs) e = found-later m n k Out cs (found-back m (suc n) k cs e)
found-back m n k (Gone why ∷ cs) e = found-later m n k (Gone why) cs (found-back m (suc n) k cs e)

waits-so : (standing : Standing) (line : List ℕ) → is_waiting_now (stands_before standing line) ≡ true → standing ≡ now.Waiting
waits-so now.Ready line e = let no : false ≡ true = e in cc
waits-so now.Held line e = let no : false ≡ true = e in cc
waits-so now.Waiting line e = refl

-- one that waits is counted once
waits-once : (o : Option model.Connection) → option_map_or (λ (k : model.Connection). if is_waiting_now k.standing then 1 else 0) o 0 ≤ 1
waits-once None = omega arith
waits-once (Some k) = grind arith

-- those who are to be told do wait
pub told-wait : (config : Config) (told : List ℕ) (s : Situation) (cs : List Presence) → s.connections ≡ open_from 1 cs → Tidy told s → WaitForLoads config s → AreWaiting config cs told
told-wait config told s cs listed tidy reads = record {
  once = λ n. let once = tidy.once n in let few = waits-once (connection_in n s) in omega arith;
  each = λ n some.
      let once = tidy.once n in
      let c = counted (connection_in n s) (omega arith) in
      let f = found-back n 1 c.0 cs (ap (λ ks. find (λ (x : model.Connection). x.number == n) ks) (sym listed) ∙ c.1) in
      let line = held_line f.is.unread.bytes in
      let waits = waits-so f.is.standing line (ap (λ (k : model.Connection). is_waiting_now k.standing) f.shows ∙ c.2) in
      record {
        index = f.index;
        place = let e = f.place in omega (arith, e);
        is = f.is;
        at = f.at;
        waits = record {
          waits = waits;
          is_open = f.is_open;
          load = reads n c.0 line c.1 (ap (λ (k : model.Connection). k.standing) (sym f.shows) ∙ ap (λ st. stands_before st line) waits);
        };
      };
}

-- ---- one by one

pub front-more : (xs : List ℕ) (i : ℕ) → i < length xs → take (i + 1) xs ≡ take i xs ++ get_or xs i 0 ∷ []
front-more xs i lt = let e : i + 1 ≡ suc i = omega arith in ap (λ k. take k xs) e ∙ take-suc xs i 0 lt

pub rest-next : (xs : List ℕ) (i : ℕ) → i < length xs → drop i xs ≡ get_or xs i 0 ∷ drop (i + 1) xs
rest-next xs i lt = let e : suc i ≡ i + 1 = omega arith in drop-cons xs i 0 lt ∙ ap (λ k. get_or xs i 0 ∷ drop k xs) e

pub once-first : (n : ℕ) (rest : List ℕ) → 1 ≤ times_in n (n ∷ rest)
once-first n rest = let own : one_if (n == n) ≡ 1 = ap one_if (eq-eqb n n refl) in omega arith

no-two : (m n : ℕ) (rest : List ℕ) → m ≡ n → 1 ≤ times_in m rest → times_in n (n ∷ rest) ≤ 1 → ⊥
no-two m n rest same some few =
    let own : one_if (n == n) ≡ 1 = ap one_if (eq-eqb n n refl) in
    let here : times_in m rest ≡ times_in n rest = ap (λ k. times_in k rest) same in omega arith

-- the first of them
pub first-waits : (config : Config) (cs : List Presence) (n : ℕ) (rest : List ℕ) → AreWaiting config cs (n ∷ rest) → IsWaitingAt config cs n
first-waits config cs n rest w = w.each n (once-first n rest)

pub waits-above : (config : Config) (cs : List Presence) (n : ℕ) → IsWaitingAt config cs n → 1 ≤ n
waits-above config cs n w = let e = w.place in omega (arith, e)

pub waits-inside : (config : Config) (cs : List Presence) (n : ℕ) → IsWaitingAt config cs n → n - 1 < length cs
waits-inside config cs n w = let e = w.place in let lt = slice_get_within cs w.index (Here w.is) w.at in omega (arith, e, lt)

pub waits-numbered : (config : Config) (cs : List Presence) (n : ℕ) → IsWaitingAt config cs n → IsWaitingAt config cs (n - 1 + 1)
waits-numbered config cs n w = let e = w.place in let is : n ≡ n - 1 + 1 = omega (arith, e) in subst (IsWaitingAt config cs) is w

-- the first of those that are left
pub next-waits : (config : Config) (cs : List Presence) (ns : List ℕ) (at : ℕ) → at < length ns → AreWaiting config cs (drop at ns) → IsWaitingAt config cs (get_or ns at 0)
next-waits config cs ns at lt waits = first-waits config cs (get_or ns at 0) (drop (at + 1) ns) (subst (AreWaiting config cs) (rest-next ns at lt) waits)

-- those that are left wait as they did
pub left-wait : (config : Config) (n : ℕ) (rest : List ℕ) (mid new : List Presence) → AreWaiting config mid (n ∷ rest) → LeavesOthers mid new (n - 1) → AreWaiting config new rest
left-wait config n rest mid new w o = record {
  once = λ m. let few = w.once m in omega (arith, few);
  each = λ m some.
      let also : 1 ≤ times_in m (n ∷ rest) = omega (arith, some) in
      let here = w.each m also in
      let first = first-waits config mid n rest w in
      let once = w.once n in
      let differs : here.index ≢ n - 1 = λ at. no-two m n rest (omega (arith, at, here.place, first.place)) some once in
      record { index = here.index; place = here.place; is = here.is; at = o.others here.index differs ∙ here.at; waits = here.waits };
}

-- and have the room that they had
pub left-room : (config : Config) (n size : ℕ) (rest : List ℕ) (mid new : List Presence) → AreWaiting config mid (n ∷ rest) → HaveReplyRoom mid size (n ∷ rest) → LeavesOthers mid new (n - 1) → HaveReplyRoom new size rest
left-room config n size rest mid new w room o m some c at =
    let also : 1 ≤ times_in m (n ∷ rest) = omega (arith, some) in
    let here = w.each m also in
    let first = first-waits config mid n rest w in
    let once = w.once n in
    let differs : m - 1 ≢ n - 1 = λ h. no-two m n rest (omega (arith, h, here.place, first.place)) some once in
    room m also c (sym (o.others (m - 1) differs) ∙ at)

-- where nothing changed that is seen
pub same-wait : (config : Config) (numbers : List ℕ) (old new : List Presence) → AllLookAsBefore old new → AreWaiting config old numbers → AreWaiting config new numbers
same-wait config numbers old new same w = record {
  once = w.once;
  each = λ n some.
      let here = w.each n some in
      let d = all-at old new here.index here.is same here.at in
      record {
        index = here.index;
        place = here.place;
        is = d.0;
        at = d.1;
        waits = record {
          waits = d.2.standing ∙ here.waits.waits;
          is_open = d.2.closing ∙ here.waits.is_open;
          load = ap (λ bs. is_load (reading config (held_line bs))) d.2.bytes ∙ here.waits.load;
        };
      };
}

-- they were opened
pub wait-there : (config : Config) (numbers : List ℕ) (old new : List Presence) → AreWaiting config old numbers → length new ≡ length old → AreThere new numbers
wait-there config numbers old new w count n some =
    let here = w.each n some in
    let lt = slice_get_within old here.index (Here here.is) here.at in
    (omega (arith, here.place), omega (arith, here.place, lt, count))
