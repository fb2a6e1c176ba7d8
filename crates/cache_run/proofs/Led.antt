-- What turns come to, from one situation to another, and what is carried.
use Rattle.std.proofs.Common.{◌≡◌, ℕ, Bool, true, false, List, [], ◌∷◌, ◌++◌, sym, ap, ◌∙◌, subst, Option, None, Some, append_assoc, map, refl}
use Rattle.std.specs.List.{flat_map}
use Rattle.std.specs.Option.{option_and_then}
use Rattle.std.proofs.lemmas.Option.{none-some, same_Some}
use Rattle.std.proofs.lemmas.List.{append-nil, map-append}
use Rattle.std.proofs.lemmas.Grind.{flat_map-append}
use Rattle.audit_model.specs.Follows.{Follows, after_record, after_records}
use Rattle.audit_model.specs.Situation.{Situation}
use Rattle.audit_model.specs.declared.config.Config.{Config}
use Rattle.audit_model.specs.declared.event.Event.TheVariants as event
use Rattle.audit_model.specs.declared.event.Outcome.{Outcome}
use Rattle.audit_model.specs.declared.transcript.Note.{Note}
use Rattle.audit_model.specs.declared.transcript.Record.{Record}
use Rattle.cache_run.specs.Happened.{record_of, HostTurn, AreInPlace, AreRight, AreSent, AskForSent, turn_notes, records_of_turn, IsInPlace, IsRight, asked_in, moment_in, piece_in, replies_in}
use Rattle.cache_spaces.specs.Spaces.{untaken_notes, outgoing_of}
use Rattle.cache_spaces.specs.Services.{BareSpace}
use Rattle.cache_core.specs.Turned.{notes_in}
use Rattle.cache_run.specs.Worlds.{Carried, Left, close_records, open_records, records_of, World, world}
use Rattle.std.specs.Io.KnownBytes.{Appends, Consumes}
use Rattle.audit_laws.specs.Waiting.Keys.{IsKnown}
use Rattle.audit_laws.proofs.waiting.Keys.{keeps}
use Rattle.cache_run.specs.Devices.Sources.{Asking, Askings, Readings}
use Rattle.cache_run.specs.Runs.{Quiet}
use Rattle.cache_run.specs.Loading.{AreKnown}
use Rattle.cache_run.specs.Driver.Drives.{Outside}
use Rattle.cache_run.specs.Driver.Exchanges.{Outs}

split-through : (f g : Situation → Option Situation) (o : Option Situation) (t : Situation) (rest : Option Situation) → ((m : Situation) → f m ≡ Some t → g m ≡ rest) → option_and_then f o ≡ Some t → option_and_then g o ≡ rest
split-through f g None t rest h e = absurd (none-some t e)
split-through f g (Some m) t rest h e = h m e

-- records behind those that lead to a situation lead on from it
pub records-split : (config : Config) (s : Situation) (xs : List Record) (t : Situation) (ys : List Record) → after_records config s xs ≡ Some t → after_records config s (xs ++ ys) ≡ after_records config t ys
records-split config s [] t ys e = ap (λ m. after_records config m ys) (same_Some s t e)
records-split config s (x ∷ xs) t ys e =
    split-through (λ m. after_records config m xs) (λ m. after_records config m (xs ++ ys)) (after_record config s x) t (after_records config t ys) (λ m h. records-split config m xs t ys h) e

-- records behind records
pub records-more : (config : Config) (s : Situation) (xs : List Record) (t : Situation) (ys : List Record) (u : Situation) → after_records config s xs ≡ Some t → after_records config t ys ≡ Some u → after_records config s (xs ++ ys) ≡ Some u
records-more config s xs t ys u e f = records-split config s xs t ys e ∙ f

-- one record
pub record-one : (config : Config) (s : Situation) (x : Record) (t : Situation) → Follows config s x t → after_records config s (x ∷ []) ≡ Some t
record-one config s x t e = ap (option_and_then (λ m. Some m)) e

pub right-more : (config : Config) (xs ys : List HostTurn) → AreRight config xs → AreRight config ys → AreRight config (xs ++ ys)
right-more config [] ys p q = q
right-more config (x ∷ xs) ys p q = (p.0, right-more config xs ys p.1 q)

-- turns behind turns, and what is true of the loads that are left then
pub placed-more : (config : Config) (number : ℕ) (First Second : Outs → Type 0) (outs : Outs) (s : Situation) (xs : List HostTurn) (t : Situation) (ys : List HostTurn)
    → AreInPlace config number First outs s xs → after_records config s (flat_map (records_of_turn number) xs) ≡ Some t → ((left : Outs) → First left → AreInPlace config number Second left t ys) → AreInPlace config number Second outs s (xs ++ ys)
placed-more config number First Second outs s [] t ys p e q = subst (λ m. AreInPlace config number Second outs m ys) (sym (same_Some s t e)) (q outs p)
placed-more config number First Second outs s (x ∷ xs) t ys p e q = (
  p.0,
  p.1,
  λ m f.
      let next = p.2 m f in (
        next.0,
        next.1,
        placed-more config number First Second (p.0 ++ next.0) m xs t ys next.2 (sym (records-split config s (records_of_turn number x) m (flat_map (records_of_turn number) xs) f) ∙ e) q,
      ),
)

placed-so : (config : Config) (number : ℕ) (First Second : Outs → Type 0) (outs : Outs) (s : Situation) (xs : List HostTurn) → AreInPlace config number First outs s xs → ((left : Outs) → First left → Second left) → AreInPlace config number Second outs s xs
placed-so config number First Second outs s [] p f = f outs p
placed-so config number First Second outs s (x ∷ xs) p f = (p.0, p.1, λ m e. let next = p.2 m e in (next.0, next.1, placed-so config number First Second (p.0 ++ next.0) m xs next.2 f))

module _ {C L : Type 0} (config : Config) (number : ℕ) (reads : C → ℕ → C → Type 0) (loads : L → List ℕ → Option Outcome → L → Type 0) where
  -- more records behind what was carried
  carried-on : (a b : World C L) (y : BareSpace) (u : Situation) (opens closes closes' : Bool) (drops drops' more : List Record) (left : Left)
      → ((turns : List HostTurn) → records_of number opens turns closes drops ++ more ≡ records_of number opens turns closes' drops') → ((notes : List Note) → (notes ++ flat_map notes_in drops) ++ flat_map notes_in more ≡ notes ++ flat_map notes_in drops')
      → Carried config number reads loads a b opens closes drops left → after_records config b.situation more ≡ Some u → untaken_notes y ≡ b.notices ++ flat_map notes_in more
      → Carried config number reads loads a (world y u b.outside) opens closes' drops' left
  carried-on a b y u opens closes closes' drops drops' more left same notes c follows notices = record {
    turns = c.turns;
    right = c.right;
    placed = c.placed;
    follows = subst (λ rs. after_records config a.situation rs ≡ Some u) (same c.turns) (records-more config a.situation (records_of number opens c.turns closes drops) b.situation more u c.follows follows);
    notices = notices ∙ ap (λ l. l ++ flat_map notes_in more) c.notices ∙ notes (a.notices ++ flat_map (turn_notes number) c.turns);
    read = c.read;
    sent = c.sent;
    wrote = c.wrote;
    replies = c.replies;
    clock = c.clock;
    loader = c.loader;
  }

  -- a closing behind what was carried
  pub carried-close : (a b : World C L) (y : BareSpace) (u : Situation) (opens : Bool) (left : Left)
      → Carried config number reads loads a b opens false [] left → Follows config b.situation (record_of (event.Close number) []) u → untaken_notes y ≡ b.notices
      → Carried config number reads loads a (world y u b.outside) opens true [] left
  carried-close a b y u opens left c follows notices =
      carried-on a b y u opens false true [] [] (close_records number true) left (λ turns. ap (λ l. l ++ close_records number true) (append-nil (open_records number opens ++ flat_map (records_of_turn number) turns))) (λ notes. append-nil (notes ++ [])) c
      (record-one config b.situation (record_of (event.Close number) []) u follows) (notices ∙ sym (append-nil b.notices))

  -- loads were given up behind what was carried
  pub carried-drops : (a b : World C L) (y : BareSpace) (u : Situation) (opens closes : Bool) (drops more : List Record) (left : Left)
      → Carried config number reads loads a b opens closes drops left → after_records config b.situation more ≡ Some u → untaken_notes y ≡ b.notices ++ flat_map notes_in more
      → Carried config number reads loads a (world y u b.outside) opens closes (drops ++ more) left
  carried-drops a b y u opens closes drops more left =
      let z = close_records number closes in
      carried-on a b y u opens closes closes drops (drops ++ more) more left
      (λ turns. let o = open_records number opens ++ flat_map (records_of_turn number) turns in append_assoc o (z ++ drops) more ∙ ap (λ l. o ++ l) (append_assoc z drops more))
      (λ notes. append_assoc notes (flat_map notes_in drops) (flat_map notes_in more) ∙ ap (λ l. notes ++ l) (sym (flat_map-append notes_in drops more)))

  -- nothing came behind what was carried
  pub carried-still : (a b : World C L) (y : BareSpace) (u : Situation) (opens closes : Bool) (left : Left) → Carried config number reads loads a b opens closes [] left → u ≡ b.situation → untaken_notes y ≡ b.notices
      → Carried config number reads loads a (world y u b.outside) opens closes [] left
  carried-still a b y u opens closes left c same notices = carried-drops a b y u opens closes [] [] left c (ap (λ s. Some s) (sym same)) (notices ∙ sym (append-nil b.notices))

-- Turns came, for which these pieces were fed, the clock told these moments and the loader was asked so, and those are their replies. Of the
-- loads that had gone out, and of those that were sent since, these are left, for which the loader was not asked.
pub record Led (config : Config) (number : ℕ) (s t : Situation) (before after : List Note) (pieces moments : List ℕ) (asks : List Asking) (text : List ℕ) (gone behind : Outs) : Type 0 where
  pub turns : List HostTurn
  pub right : AreRight config turns
  pub placed : AreInPlace config number (λ left. left ≡ behind) gone s turns
  pub follows : after_records config s (flat_map (records_of_turn number) turns) ≡ Some t
  pub notices : after ≡ before ++ flat_map (turn_notes number) turns
  pub fed : flat_map piece_in turns ≡ pieces
  pub told : map moment_in turns ≡ moments
  pub asked : flat_map asked_in turns ≡ asks
  pub replies : flat_map (replies_in number) turns ≡ text

-- what two lists come to, one behind the other
joined : {X A : Type 0} (f : X → List A) (xs ys : List X) (ps qs : List A) → flat_map f xs ≡ ps → flat_map f ys ≡ qs → flat_map f (xs ++ ys) ≡ ps ++ qs
joined f xs ys ps qs p q = flat_map-append f xs ys ∙ ap (λ z. z ++ flat_map f ys) p ∙ ap (λ z. ps ++ z) q

module _ (config : Config) (number : ℕ) where
  -- no turn came
  pub led-none : (s : Situation) (before after : List Note) (text : List ℕ) (gone behind : Outs) → after ≡ before → text ≡ [] → behind ≡ gone → Led config number s s before after [] [] [] text gone behind
  led-none s before after text gone behind notices none same = record {
    turns = [];
    right = tt;
    placed = sym same;
    follows = refl;
    notices = notices ∙ sym (append-nil before);
    fed = refl;
    told = refl;
    asked = refl;
    replies = sym none;
  }

  -- one came
  pub led-turn : (s t : Situation) (before after : List Note) (turn : HostTurn) (text : List ℕ) (gone behind : Outs) → IsRight config turn
      → (left : Outs) → IsInPlace gone s turn left → (more : Outs) → AreSent s t more → left ++ more ≡ behind
      → after_records config s (records_of_turn number turn) ≡ Some t → after ≡ before ++ turn_notes number turn → text ≡ replies_in number turn → Led config number s t before after (piece_in turn) (moment_in turn ∷ []) (asked_in turn) text gone behind
  led-turn s t before after turn text gone behind right left placed more sent whole follows notices replies = record {
    turns = turn ∷ [];
    right = (right, tt);
    placed = (left, placed, λ m e. (more, subst (λ u. AreSent s u more) (same_Some t m (sym follows ∙ e)) sent, whole));
    follows = ap (after_records config s) (append-nil (records_of_turn number turn)) ∙ follows;
    notices = notices ∙ ap (λ z. before ++ z) (sym (append-nil (turn_notes number turn)));
    fed = append-nil (piece_in turn);
    told = refl;
    asked = append-nil (asked_in turn);
    replies = append-nil (replies_in number turn) ∙ sym replies;
  }

  -- one after another
  pub led-more : (s t u : Situation) (before between after : List Note) (pieces more_pieces moments more_moments : List ℕ) (asks more_asks : List Asking) (text more_text : List ℕ) (gone halfway behind : Outs)
      → Led config number s t before between pieces moments asks text gone halfway → Led config number t u between after more_pieces more_moments more_asks more_text halfway behind
      → Led config number s u before after (pieces ++ more_pieces) (moments ++ more_moments) (asks ++ more_asks) (text ++ more_text) gone behind
  led-more s t u before between after pieces more_pieces moments more_moments asks more_asks text more_text gone halfway behind x y =
      let xs = x.turns in
      let ys = y.turns in
      let notes = flat_map (turn_notes number) in
      record {
        turns = xs ++ ys;
        right = right-more config xs ys x.right y.right;
        placed =
            placed-more config number (λ left. left ≡ halfway) (λ left. left ≡ behind) gone s xs t ys x.placed x.follows
            (λ left same. subst (λ outs. AreInPlace config number (λ more. more ≡ behind) outs t ys) (sym same) y.placed);
        follows = ap (after_records config s) (flat_map-append (records_of_turn number) xs ys) ∙ records-more config s (flat_map (records_of_turn number) xs) t (flat_map (records_of_turn number) ys) u x.follows y.follows;
        notices = y.notices ∙ ap (λ z. z ++ notes ys) x.notices ∙ append_assoc before (notes xs) (notes ys) ∙ ap (λ z. before ++ z) (sym (flat_map-append (turn_notes number) xs ys));
        fed = joined piece_in xs ys pieces more_pieces x.fed y.fed;
        told = map-append moment_in xs ys ∙ ap (λ z. z ++ map moment_in ys) x.told ∙ ap (λ z. moments ++ z) y.told;
        asked = joined asked_in xs ys asks more_asks x.asked y.asked;
        replies = joined (replies_in number) xs ys text more_text x.replies y.replies;
      }

-- ---- the keys of loads

known-records : (config : Config) (n : ℕ) (key : List ℕ) (s : Situation) (xs : List Record) (t : Situation) → after_records config s xs ≡ Some t → IsKnown n key s → IsKnown n key t
known-records config n key s [] t e known = subst (λ (u : Situation). IsKnown n key u) (same_Some s t e) known
known-records config n key s (x ∷ xs) t e known = go (λ m h knows. known-records config n key m xs t h knows) (after_record config s x) refl e
  where
    go : ((m : Situation) → after_records config m xs ≡ Some t → IsKnown n key m → IsKnown n key t) → (o : Option Situation) → after_record config s x ≡ o → option_and_then (λ m. after_records config m xs) o ≡ Some t → IsKnown n key t
    go next None is h = absurd (none-some t h)
    go next (Some m) is h = next m h (keeps config s m x n key is known)

-- what was known of them is known behind the turns
pub led-known : (config : Config) (number : ℕ) (s t : Situation) (before after : List Note) (pieces moments : List ℕ) (asks : List Asking) (text : List ℕ) (gone behind outs : Outs)
    → Led config number s t before after pieces moments asks text gone behind → AreKnown outs s → AreKnown outs t
led-known config number s t before after pieces moments asks text gone behind outs l known = λ k d within. known-records config _ _ s (flat_map (records_of_turn number) l.turns) t l.follows (known k d within)

-- ---- what is carried

-- where a connection was opened and turns came, and that was read and written, told and asked
pub carried-led : {C L : Type 0} (reads : C → ℕ → C → Type 0) (loads : L → List ℕ → Option Outcome → L → Type 0) (config : Config) (number : ℕ) (x y z : BareSpace) (s m t : Situation) (a b : Outside C L)
    (pieces moments : List ℕ) (asks : List Asking) (text : List ℕ) (gone behind : Outs) (left : Left) (sent : List ℕ)
    → Quiet config (event.Open number) s m (untaken_notes x) (untaken_notes y) → Led config number m t (untaken_notes y) (untaken_notes z) pieces moments asks text gone behind
    → gone ≡ outgoing_of x → AskForSent left.asked behind
    → Consumes a.remaining b.remaining (pieces ++ left.lost) → Appends a.contents b.contents sent → sent ++ left.unsent ≡ text
    → Readings reads a.clock (moments ++ left.late) b.clock → Askings loads a.loader (asks ++ left.asked) b.loader
    → Carried config number reads loads (world x s a) (world z t b) true false [] left
carried-led reads loads config number x y z s m t a b pieces moments asks text gone behind left sent opened l same asked read wrote replies clock loader =
    let first = record-one config s (record_of (event.Open number) []) m opened.follows in
    let records = flat_map (records_of_turn number) l.turns in
    record {
      turns = l.turns;
      right = l.right;
      placed = λ u e.
          subst (λ k. AreInPlace config number (AskForSent left.asked) (outgoing_of x) k l.turns) (same_Some m u (sym first ∙ e))
          (subst (λ outs. AreInPlace config number (AskForSent left.asked) outs m l.turns) same
          (placed-so config number (λ outs. outs ≡ behind) (AskForSent left.asked) gone m l.turns l.placed (λ outs is. subst (AskForSent left.asked) (sym is) asked)));
      follows = ap (after_records config s) (append-nil (open_records number true ++ records)) ∙ records-more config s (open_records number true) m records t first l.follows;
      notices = l.notices ∙ ap (λ n. n ++ flat_map (turn_notes number) l.turns) opened.notices ∙ sym (append-nil (untaken_notes x ++ flat_map (turn_notes number) l.turns));
      read = subst (λ bytes. Consumes a.remaining b.remaining (bytes ++ left.lost)) (sym l.fed) read;
      sent = sent;
      wrote = wrote;
      replies = replies ∙ sym l.replies;
      clock = subst (λ ts. Readings reads a.clock (ts ++ left.late) b.clock) (sym l.told) clock;
      loader = subst (λ ks. Askings loads a.loader (ks ++ left.asked) b.loader) (sym l.asked) loader;
    }
