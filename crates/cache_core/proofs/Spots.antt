-- What stands at a place of a list, before and after it is replaced.
use Rattle.std.proofs.Common.{refl, sym, ap, ◌∙◌, arith, ◌≡◌, ◌≢◌, ℕ, zero, suc, ◌<◌, true, false, List, [], ◌∷◌, map, Option, Some, None, length, MatchOption, is_some, slice_set}
use Rattle.std.proofs.lemmas.Option.{slice_get_within, same_Some}
use Rattle.std.specs.List.{slice_get}
use Rattle.std.specs.Option.{option_map_or}
use Rattle.cache_core.specs.Connections.Presence.{Gone, Here, Out, Presence, closing_at, closing_of_presence, is_here, reply_text_of, text_at}
use Rattle.cache_core.specs.Fed.{ReplacedAt}
use Rattle.cache_core.specs.State.{at_number}
use Rattle.audit_model.specs.declared.command.Closing.TheVariants as by
use Rattle.cache_core.proofs.connections.Getting.{at-replaced}
use Rattle.cache_core.proofs.connections.Listed.{put-back as put-twice}
use Rattle.cache_core.specs.declared.connection.connection.Connection.{Connection}

pub text-is : (cs : List Presence) (i : ℕ) (c : Connection) → slice_get cs i ≡ Some (Here c) → text_at cs i ≡ c.output.text.items
text-is cs i c at = ap (λ o. option_map_or reply_text_of o []) at

pub closing-is : (cs : List Presence) (i : ℕ) (c : Connection) → slice_get cs i ≡ Some (Here c) → closing_at cs i ≡ c.closing
closing-is cs i c at = ap (λ o. option_map_or closing_of_presence o None) at

-- the connection that was put at a place stands there
pub replaced-is : (old new : List Presence) (i : ℕ) → (p : ReplacedAt old new i) → slice_get new i ≡ Some (Here p.is)
replaced-is old new i p = ap (λ cs. slice_get cs i) p.set ∙ at-replaced old i (Here p.is) (slice_get_within old i (Here p.was) p.at)

-- what is seen under a number, where the connection at a place was replaced
pub seen-at : {A : Type 0} (f : Presence → A) (d : A) (cs : List Presence) (i : ℕ) (new : Presence) → i < length cs → at_number d (map f (slice_set cs i new)) (suc i) ≡ f new
seen-at f d [] i new lt = absurd (omega arith)
seen-at f d (c ∷ cs) zero new lt = refl
seen-at f d (c ∷ cs) (suc i) new lt = seen-at f d cs i new (omega arith)

pub seen-was : {A : Type 0} (f : Presence → A) (d : A) (cs : List Presence) (i : ℕ) (old : Presence) → slice_get cs i ≡ Some old → at_number d (map f cs) (suc i) ≡ f old
seen-was f d [] i old at = let no : None ≡ Some old = at in cc
seen-was f d (c ∷ cs) zero old at = ap f (same_Some c old at)
seen-was f d (c ∷ cs) (suc i) old at = seen-was f d cs i old at

-- under another number
pub seen-other : {A : Type 0} (f : Presence → A) (d : A) (cs : List Presence) (i n : ℕ) (new : Presence) → n ≢ suc i → at_number d (map f (slice_set cs i new)) n ≡ at_number d (map f cs) n
seen-other f d cs i zero new ne = refl
seen-other f d [] i (suc n) new ne = refl
seen-other f d (c ∷ cs) zero (suc zero) new ne = absurd (ne refl)
seen-other f d (c ∷ cs) zero (suc (suc n)) new ne = refl
seen-other f d (c ∷ cs) (suc i) (suc zero) new ne = refl
seen-other f d (c ∷ cs) (suc i) (suc (suc n)) new ne = seen-other f d cs i (suc n) new (λ e. ne (ap suc e))

-- ---- a connection that is here

pub same-Here : (c d : Connection) → Here c ≡ Here d → c ≡ d
same-Here c d e = ap (λ p. connection_in p) e
  where
    connection_in : Presence → Connection
    connection_in (Here x) = x
    connection_in Out = c
    connection_in (Gone why) = c

pub same-here : (o : Option Presence) (c d : Connection) → o ≡ Some (Here c) → o ≡ Some (Here d) → c ≡ d
same-here o c d e f = same-Here c d (same_Some (Here c) (Here d) (sym e ∙ f))

-- an open connection is here
pub here-open : (cs : List Presence) (i : ℕ) → i < length cs → closing_at cs i ≡ None → (c : Connection) × (slice_get cs i ≡ Some (Here c)) × (c.closing ≡ None)
here-open [] i lt is_open = absurd (omega (arith, lt))
here-open (Here c ∷ cs) zero lt is_open = (c, refl, is_open)
here-open (Out ∷ cs) zero lt is_open = let no : Some by.Asked ≡ None = is_open in cc
here-open (Gone why ∷ cs) zero lt is_open = let no : Some why ≡ None = is_open in cc
here-open (c ∷ cs) (suc i) lt is_open = here-open cs i (omega (arith, lt)) is_open

pub is-here : (o : Option Presence) (c : Connection) → o ≡ Some (Here c) → is_here o ≡ true
is-here o c e = ap is_here e

-- ---- one that is taken out and put back

pub out-at : (cs mid : List Presence) (i : ℕ) (c : Connection) → slice_get cs i ≡ Some (Here c) → mid ≡ slice_set cs i Out → slice_get mid i ≡ Some Out
out-at cs mid i c at rest = ap (λ ps. slice_get ps i) rest ∙ at-replaced cs i Out (slice_get_within cs i (Here c) at)

-- another connection is put in its place
pub put-back : (cs mid new : List Presence) (i : ℕ) (is : Connection) → mid ≡ slice_set cs i Out → new ≡ slice_set mid i (Here is) → new ≡ slice_set cs i (Here is)
put-back cs mid new i is rest put = put ∙ ap (λ ps. slice_set ps i (Here is)) rest ∙ put-twice cs i is

-- one was taken out, and another put in its place
abbrev pub replaced : {cs mid new : List Presence} {i : ℕ} {was : Connection} (is : Connection) → slice_get cs i ≡ Some (Here was) → mid ≡ slice_set cs i Out → new ≡ slice_set mid i (Here is) → ReplacedAt cs new i
replaced {cs} {mid} {new} {i} {was} is at rest put = record { was = was; is = is; at = at; set = put-back cs mid new i is rest put }

-- what was looked at, and was there or was not
pub was-none : {X : Type 0} (o : Option X) (Q : Type 0) (P : X → Type 0) → is_some o ≡ false → MatchOption o Q P → Q
was-none None Q P e m = m
was-none (Some x) Q P e m = let no : true ≡ false = e in cc

pub was-some : {X : Type 0} (o : Option X) (Q R : Type 0) (P : X → Type 0) → ((x : X) → P x → R) → is_some o ≡ true → MatchOption o Q P → R
was-some None Q R P f e m = let no : false ≡ true = e in cc
was-some (Some x) Q R P f e m = f x m
