-- What goes through a record.
use Rattle.std.proofs.Common.{refl, sym, ap, ◌∙◌, subst, arith, ◌≡◌, ℕ, suc, ◌+◌, ◌<◌, ◌≤◌, true, false, List, [], ◌∷◌, ◌++◌, length, map, Option, Some, None, if◌then◌else◌, is_some, MatchOption, drop, get_or, ◌-◌, take}
use Rattle.std.proofs.lemmas.List.{append-nil}
use Rattle.std.proofs.lemmas.Option.{same_Some}
use Rattle.std.specs.List.{flat_map, slice_get}
use Rattle.std.specs.Option.{option_map, option_map_or}
use Rattle.audit_model.specs.Places.{tasks_to_give_up}
use Rattle.audit_model.specs.Situation.{HeldValue}
use Rattle.audit_model.specs.Steps.{Task, RunAgain, RunLines}
use Rattle.audit_model.specs.declared.config.Config.{Config}
use Rattle.audit_model.specs.declared.transcript.Step.{Step}
use Rattle.audit_laws.specs.Waiting.Tidy.{times_in}
use Rattle.cache_commands.specs.Promises.{Frame}
use Rattle.cache_commands.specs.Values.{Values, IsSoundStore}
use Rattle.cache_commands.proofs.Taking.{taken-same}
use Rattle.cache_commands.specs.Loads.Pending.{SameTaken}
use Rattle.cache_commands.specs.Right.{KeepsFrame}
use Rattle.cache_commands.specs.declared.loads.loads.Loads.{Loads}
use Rattle.cache_lines.specs.Bases.{CanRun, Seen}
use Rattle.cache_lines.specs.Ended.{spare_of}
use Rattle.cache_lines.specs.Gathered.{HasNothingOutside, adds, gathered, stage, written_in}
use Rattle.cache_lines.specs.Making.{Making, making_of}
use Rattle.cache_lines.specs.Tape.Taped.{HasSpare, IsBegun, Taped, spends, started}
use Rattle.cache_lines.specs.Waiting.{under_way}
use Rattle.cache_lines.specs.declared.base.Base.{Base}
use Rattle.cache_core.proofs.Spots.{seen-was, replaced-is, same-here, text-is}
use Rattle.cache_core.proofs.Steps.{piece-on, still-kept, piece-none, flat-both, piece-step}
use Rattle.cache_core.proofs.Touched.{front-more, once-first, rest-next, leaves-others}
use Rattle.cache_core.proofs.connections.Getting.{found-at}
use Rattle.cache_core.specs.Connection.Fed.{AwaitsLoad, StepRan, seen_by}
use Rattle.cache_core.specs.Connections.Presence.{Presence, reply_text_of, text_at, Here, is_here}
use Rattle.cache_core.specs.Fed.{seen_at, ReplacedAt}
use Rattle.cache_core.specs.Settled.{HasSpareFor, IsAmid, Parts, Piece}
use Rattle.cache_core.specs.Settling.{AreThere, IsWaitingAt, LeavesOthers}
use Rattle.cache_core.specs.State.{at_number}
use Rattle.cache_core.specs.Turned.{replies_to}
use Rattle.cache_core.specs.declared.connection.connection.Connection.{Connection}

-- room for lines is left
pub room-left : (k lines : ℕ) (a b : Option Taped) → is_some b ≡ is_some a → spare_of a ≤ spare_of b + k → MatchOption a (Unit {0}) (λ t. k + lines ≤ t.spare) → MatchOption b (Unit {0}) (λ t. lines ≤ t.spare)
room-left k lines None None same spare room = tt
room-left k lines None (Some t) same spare room = let no : true ≡ false = same in cc
room-left k lines (Some t) None same spare room = let no : false ≡ true = same in cc
room-left k lines (Some t) (Some u) same spare room = let h : t.spare ≤ u.spare + k = spare in omega (arith, h, room)

pub room-some : (a : Option Taped) → MatchOption a (Unit {0}) (λ t. 1 ≤ t.spare) → HasSpare a
room-some None room = tt
room-some (Some t) room = let h : 1 ≤ t.spare = room in let is : 0 < t.spare = omega (arith, h) in is

-- a step that is held back leaves room for those that had room behind it
pub spares-on : (lines : ℕ) (a b : Option Taped) (step : Step) → b ≡ option_map (spends step) a → HasSpareFor (suc lines) a → HasSpareFor lines b
spares-on lines None b step is room = subst (HasSpareFor lines) (sym is) tt
spares-on lines (Some t) b step is room = let h : suc lines ≤ t.spare = room in let le : lines ≤ t.spare - 1 = omega (arith, h) in subst (HasSpareFor lines) (sym is) le

pub room-least : (a b : ℕ) (t : Option Taped) → b ≤ a → MatchOption t (Unit {0}) (λ x. a ≤ x.spare) → MatchOption t (Unit {0}) (λ x. b ≤ x.spare)
room-least a b None le room = tt
room-least a b (Some x) le room = let h : a ≤ x.spare = room in let is : b ≤ x.spare = omega (arith, h, le) in is

-- a record that is under way stays so
pub written-begun : (steps : List Step) (a b : Option Taped) → option_map written_in b ≡ option_map (adds steps) (option_map written_in a) → IsBegun a → IsBegun b
written-begun steps a None e begun = tt
written-begun steps None (Some u) e begun = let no : Some (written_in u) ≡ None = e in cc
written-begun steps (Some t) (Some u) e begun = let is : written_in u ≡ adds steps (written_in t) = same_Some _ _ e in ap (λ (x : Taped). x.begun) is ∙ begun

pub started-begun : (n : ℕ) (a b : Option Taped) → b ≡ option_map (started n) a → IsBegun b
started-begun n None b e = subst IsBegun (sym e) tt
started-begun n (Some t) b e = subst IsBegun (sym e) refl

module _ {S T : Type 0} (view : S → Values) (tape : T → Option Taped) (now : ℕ) where
  -- one connection may run lines
  pub can-run : (base : Base S T) (cs : List Presence) (i lines : ℕ) → i < length cs → IsAmid view tape now base cs (suc lines) → CanRun now (seen_at view tape base cs i)
  can-run base cs i lines lt amid = record {
    in_time = amid.in_time;
    clear = clear (tape base.tape) refl;
    spare = room-some (tape base.tape) (room-least (suc lines) 1 (tape base.tape) (omega arith) amid.room);
  }
    where
      clear : (t : Option Taped) → tape base.tape ≡ t → HasNothingOutside (gathered (stage (view base.store) (text_at cs i) t))
      clear None e = tt
      clear (Some t) e =
          let h : is_some (tape base.tape) ≡ true = ap is_some e in
          let c = found-at cs i lt in
          (ap (λ o. option_map_or reply_text_of o []) c.1 ∙ sym (seen-was reply_text_of [] cs i c.0 c.1) ∙ amid.outputs h (suc i), amid.untaken h)

  pub amid-least : (base : Base S T) (cs : List Presence) (a b : ℕ) → b ≤ a → IsAmid view tape now base cs a → IsAmid view tape now base cs b
  amid-least base cs a b le amid = record { in_time = amid.in_time; untaken = amid.untaken; outputs = amid.outputs; room = room-least a b (tape base.tape) le amid.room }

  -- behind a part
  pub amid-behind : (was is : Base S T) (old new : List Presence) (tasks : List Task) (held : List HeldValue) (k lines : ℕ) (making : Making) → Piece view tape making now was is old new tasks held → (view is.store).frame.latest ≤ now
      → spare_of (tape was.tape) ≤ spare_of (tape is.tape) + k → IsAmid view tape now was old (k + lines) → IsAmid view tape now is new lines
  amid-behind was is old new tasks held k lines making p latest spare amid =
      let same = still-kept view tape making now was is is old new new tasks [] held p in
      record {
        in_time = (latest, amid.in_time.1);
        untaken = λ e. let h = sym same ∙ e in p.notes ∙ ap (λ b. (view was.store).untaken ++ (if b then [] else flat_map (λ (step : Step). step.notices) p.steps)) h ∙ append-nil (view was.store).untaken ∙ amid.untaken h;
        outputs = λ e n.
            let h = sym same ∙ e in
            p.outputs n ∙ ap (λ b. at_number [] (map reply_text_of old) n ++ (if b then [] else replies_to n p.steps)) h ∙ append-nil (at_number [] (map reply_text_of old) n) ∙ amid.outputs h n;
        room = room-left k lines (tape was.tape) (tape is.tape) same spare amid.room;
      }

  -- ---- part behind part

  frame-on : (a b c : Frame) → KeepsFrame a b now → KeepsFrame b c now → KeepsFrame a c now
  frame-on a b c x y = record { rest = y.rest ∙ ap (λ (f : Frame). record f { dropped = c.dropped; latest = c.latest }) x.rest; latest = y.latest }

  making-same : (a b : Frame) → KeepsFrame a b now → making_of b ≡ making_of a
  making-same a b x = ap making_of x.rest

  pub parts-none : (base : Base S T) (cs : List Presence) → (view base.store).frame.latest ≤ now → Parts view tape now base base cs cs []
  parts-none base cs latest = record { ran = λ held stands. piece-none view tape now base base cs held stands; frame = record { rest = refl; latest = latest } }

  pub parts-on : (was mid is : Base S T) (old between new : List Presence) (tasks more : List Task) → Parts view tape now was mid old between tasks → Parts view tape now mid is between new more → Parts view tape now was is old new (tasks ++ more)
  parts-on was mid is old between new tasks more a b = record {
    ran = λ held stands.
        let p = a.ran held stands in
        let q = subst (λ (making : Making). Piece view tape making now mid is between new more p.left) (making-same (view was.store).frame (view mid.store).frame a.frame) (b.ran p.left p.stands) in
        piece-on view tape (making_of (view was.store).frame) now was mid is old between new tasks more held p q;
    frame = frame-on (view was.store).frame (view mid.store).frame (view is.store).frame a.frame b.frame;
  }

-- Calls on connections, one after another.

map-both : {A B : Type 0} (f : A → B) (xs ys : List A) → map f (xs ++ ys) ≡ map f xs ++ map f ys
map-both f [] ys = refl
map-both f (x ∷ xs) ys = ap (λ zs. f x ∷ zs) (map-both f xs ys)

-- the tasks of one more
pub mapped-more : (f : ℕ → Task) (ns : List ℕ) (at : ℕ) → at < length ns → map f (take (at + 1) ns) ≡ map f (take at ns) ++ f (get_or ns at 0) ∷ []
mapped-more f ns at lt = ap (map f) (front-more ns at lt) ∙ map-both f (take at ns) (get_or ns at 0 ∷ [])

pub give-up-more : (ns : List ℕ) (at : ℕ) → at < length ns → tasks_to_give_up (take (at + 1) ns) ≡ tasks_to_give_up (take at ns) ++ RunAgain (get_or ns at 0) ∷ RunLines (get_or ns at 0) ∷ []
give-up-more ns at lt = ap tasks_to_give_up (front-more ns at lt) ∙ flat-both (λ conn. RunAgain conn ∷ RunLines conn ∷ []) (take at ns) (get_or ns at 0 ∷ [])

-- numbers that are there
pub there-number : (n : ℕ) → 1 ≤ n → n - 1 + 1 ≡ n
there-number n le = omega (arith, le)

pub next-there : (cs : List Presence) (ns : List ℕ) (at : ℕ) → at < length ns → AreThere cs (drop at ns) → (1 ≤ get_or ns at 0) × (get_or ns at 0 ≤ length cs)
next-there cs ns at lt there = (subst (AreThere cs) (rest-next ns at lt) there) (get_or ns at 0) (once-first (get_or ns at 0) (drop (at + 1) ns))

pub first-there : (cs : List Presence) (n : ℕ) → 1 ≤ n → n ≤ length cs → n - 1 < length cs
first-there cs n a b = omega (arith, a, b)

pub left-there : (mid new : List Presence) (n : ℕ) (rest : List ℕ) → AreThere mid (n ∷ rest) → length new ≡ length mid → AreThere new rest
left-there mid new n rest there count m some =
    let also : 1 ≤ times_in m (n ∷ rest) = omega (arith, some) in
    let x = there m also in
    let b = x.1 in (x.0, omega (arith, b, count))

module _ {S T : Type 0} (view : S → Values) (tape : T → Option Taped) (now : ℕ) where
  -- with no line more
  pub amid-all : (was is : Base S T) (old new : List Presence) (a b : ℕ) → ((lines : ℕ) → IsAmid view tape now was old (a + lines) → IsAmid view tape now is new (b + lines)) → IsAmid view tape now was old a → IsAmid view tape now is new b
  amid-all was is old new a b goes amid =
      let x : a ≡ a + 0 = omega arith in
      let y : b + 0 ≡ b = omega arith in
      subst (λ k. IsAmid view tape now is new k) y (goes 0 (subst (λ k. IsAmid view tape now was old k) x amid))

  -- the next one has its line
  pub amid-next : (base : Base S T) (cs : List Presence) (ns : List ℕ) (at : ℕ) → at < length ns → IsAmid view tape now base cs (length (drop at ns)) → IsAmid view tape now base cs 1
  amid-next base cs ns at lt amid = let e = ap length (rest-next ns at lt) in amid-least view tape now base cs (length (drop at ns)) 1 (omega (arith, e)) amid

  pub amid-two : (base : Base S T) (cs : List Presence) (ns : List ℕ) (at : ℕ) → at < length ns → IsAmid view tape now base cs (length (drop at ns) + length (drop at ns)) → IsAmid view tape now base cs 2
  amid-two base cs ns at lt amid = let e = ap length (rest-next ns at lt) in amid-least view tape now base cs (length (drop at ns) + length (drop at ns)) 2 (omega (arith, e)) amid

-- The connection at a place, as the calls on it see it.

-- it waits
pub waits-is : (config : Config) (cs : List Presence) (i : ℕ) (c : Connection) → IsWaitingAt config cs (i + 1) → slice_get cs i ≡ Some (Here c) → AwaitsLoad config c
waits-is config cs i c w at =
    let here : w.index ≡ i = omega (arith, w.place) in
    let is : w.is ≡ c = same-here (slice_get cs i) w.is c (ap (slice_get cs) (sym here) ∙ w.at) at in
    subst (AwaitsLoad config) is w.waits

-- it is here
pub waits-here : (config : Config) (cs : List Presence) (i : ℕ) → IsWaitingAt config cs (i + 1) → is_here (slice_get cs i) ≡ true
waits-here config cs i w =
    let here : w.index ≡ i = omega (arith, w.place) in
    ap is_here (ap (slice_get cs) (sym here) ∙ w.at)

-- it may run lines
pub can-run-of : {S T : Type 0} (view : S → Values) (tape : T → Option Taped) (now : ℕ) (base : Base S T) (cs : List Presence) (i : ℕ) (c : Connection) → slice_get cs i ≡ Some (Here c) → i < length cs → IsAmid view tape now base cs 1 → CanRun now (seen_by view tape base c)
can-run-of view tape now base cs i c at lt amid =
    subst (λ (t : List ℕ). CanRun now (record { stage = stage (view base.store) t (tape base.tape); loads = under_way base.loads })) (text-is cs i c at) (can-run view tape now base cs i 0 lt amid)

-- the same loads were taken, where they are the same
pub taken-stays : (old new : Loads) → new ≡ old → SameTaken old new
taken-stays old new e = subst (SameTaken old) (sym e) (taken-same old)

-- what a call does to the connection at a place
pub record Stepped {S T : Type 0} (view : S → Values) (tape : T → Option Taped) (now : ℕ) (base new_base : Base S T) (cs ds : List Presence) (i : ℕ) (task : Task) : Type 0 where
  pub ran : Parts view tape now base new_base cs ds (task ∷ [])
  pub amid : (lines : ℕ) → IsAmid view tape now base cs (suc lines) → IsAmid view tape now new_base ds lines
  pub others : LeavesOthers cs ds i

-- what a connection's lines run over is what those of its place do
seen-here : {S T : Type 0} (view : S → Values) (tape : T → Option Taped) (base : Base S T) (cs : List Presence) (i : ℕ) (c : Connection) → slice_get cs i ≡ Some (Here c) → seen_by view tape base c ≡ seen_at view tape base cs i
seen-here view tape base cs i c at = ap (λ (t : List ℕ). record { stage = stage (view base.store) t (tape base.tape); loads = under_way base.loads }) (sym (text-is cs i c at))

pub moved-there : {S T : Type 0} (view : S → Values) (tape : T → Option Taped) (R : ℕ → Seen → Seen → Type 0) (base new_base : Base S T) (cs ds : List Presence) (m i : ℕ) (p : ReplacedAt cs ds i) → m ≡ i + 1 → R m (seen_by view tape base p.was) (seen_by view tape new_base p.is)
    → R (i + 1) (seen_at view tape base cs i) (seen_at view tape new_base ds i)
moved-there view tape R base new_base cs ds m i p number r =
    subst (λ (k : ℕ). R k (seen_at view tape base cs i) (seen_at view tape new_base ds i)) number
    (subst (λ (x : Seen). R m x (seen_at view tape new_base ds i)) (seen-here view tape base cs i p.was p.at)
    (subst (λ (x : Seen). R m (seen_by view tape base p.was) x) (seen-here view tape new_base ds i p.is (replaced-is cs ds i p)) r))

pub stepped : {S T : Type 0} (view : S → Values) (tape : T → Option Taped) (now : ℕ) (base new_base : Base S T) (cs ds : List Presence) (m i : ℕ) (p : ReplacedAt cs ds i) (task : ℕ → Task) (config : Config) → m ≡ i + 1 → AwaitsLoad config p.was → IsSoundStore (view base.store)
    → StepRan now m (task m) p.was p.is (seen_by view tape base p.was) (seen_by view tape new_base p.is) → spare_of (tape base.tape) ≤ spare_of (tape new_base.tape) + 1
    → Stepped view tape now base new_base cs ds i (task (i + 1))
stepped view tape now base new_base cs ds m i p task config number w sound r spare =
    let ran = moved-there view tape (λ k x y. StepRan now k (task k) p.was p.is x y) base new_base cs ds m i p number r in
    let e : i + 1 ≡ suc i = omega arith in
    let one = piece-step view tape now base new_base (i + 1) i cs ds p e w.is_open (task (i + 1)) w.waits ran sound.some sound.stands in
    record {
      ran = record { ran = λ held stands. piece-step view tape now base new_base (i + 1) i cs ds p e w.is_open (task (i + 1)) w.waits ran held stands; frame = r.frame };
      amid = λ lines amid.
          let more : suc lines ≡ 1 + lines = omega arith in
          amid-behind view tape now base new_base cs ds (task (i + 1) ∷ []) sound.some 1 lines (making_of (view base.store).frame) one r.frame.latest spare (subst (λ k. IsAmid view tape now base cs k) more amid);
      others = leaves-others cs ds i p;
    }
