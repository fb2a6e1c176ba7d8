-- What callers list of the connections, where one is put at a place or retired.
use Rattle.std.proofs.Common.{refl, sym, ap, ◌∙◌, ◌≡◌, ℕ, zero, suc, List, [], ◌∷◌, map, Option, Some, None, if◌then◌else◌, is_none, slice_set}
use Rattle.std.proofs.lemmas.List.{map-set, set-set}
use Rattle.std.proofs.lemmas.Option.{same_Some}
use Rattle.std.specs.List.{slice_get}
use Rattle.audit_model.specs.declared.command.Closing.{Closing}
use Rattle.cache_core.specs.Connection.Shown.{shown_connection}
use Rattle.cache_core.specs.Connections.Presence.{Gone, Here, Out, Presence, closing_of_presence, gone_if, open_from, reply_text_of, retired, retired_at}
use Rattle.cache_core.specs.declared.connection.connection.Connection.{Connection}

-- ---- one that is retired

closing-if : (c : Connection) (o : Option Closing) (text : List ℕ) → c.closing ≡ o → closing_of_presence (gone_if o text c) ≡ o
closing-if c None text e = e
closing-if c (Some why) [] e = refl
closing-if c (Some why) (byte ∷ text) e = e

text-if : (c : Connection) (o : Option Closing) (text : List ℕ) → c.output.text.items ≡ text → reply_text_of (gone_if o text c) ≡ text
text-if c None text e = e
text-if c (Some why) [] e = refl
text-if c (Some why) (byte ∷ text) e = e

pub closing-retired : (p : Presence) → closing_of_presence (retired p) ≡ closing_of_presence p
closing-retired (Here c) = closing-if c c.closing c.output.text.items refl
closing-retired Out = refl
closing-retired (Gone why) = refl

pub text-retired : (p : Presence) → reply_text_of (retired p) ≡ reply_text_of p
text-retired (Here c) = text-if c c.closing c.output.text.items refl
text-retired Out = refl
text-retired (Gone why) = refl

-- only a closed one goes
open-if : (n : ℕ) (c : Connection) (o : Option Closing) (text : List ℕ) (ps : List Presence) → c.closing ≡ o → open_from n (gone_if o text c ∷ ps) ≡ open_from n (Here c ∷ ps)
open-if n c None text ps e = refl
open-if n c (Some why) [] ps e = sym (ap (λ o. if is_none o then shown_connection n c ∷ open_from (suc n) ps else open_from (suc n) ps) e)
open-if n c (Some why) (byte ∷ text) ps e = refl

open-one : (n : ℕ) (p : Presence) (ps : List Presence) → open_from n (retired p ∷ ps) ≡ open_from n (p ∷ ps)
open-one n (Here c) ps = open-if n c c.closing c.output.text.items ps refl
open-one n Out ps = refl
open-one n (Gone why) ps = refl

-- the connections behind one that stays
pub open-behind : (n : ℕ) (p : Presence) (ps qs : List Presence) → open_from (suc n) ps ≡ open_from (suc n) qs → open_from n (p ∷ ps) ≡ open_from n (p ∷ qs)
open-behind n (Here c) ps qs e = ap (λ ks. if is_none c.closing then shown_connection n c ∷ ks else ks) e
open-behind n Out ps qs e = e
open-behind n (Gone why) ps qs e = e

-- the same connections are open
pub open-retired : (n : ℕ) (ps : List Presence) (i : ℕ) → open_from n (retired_at ps i) ≡ open_from n ps
open-retired n [] i = refl
open-retired n (p ∷ ps) zero = open-one n p ps
open-retired n (p ∷ ps) (suc i) = open-behind n p (retired_at ps i) ps (open-retired (suc n) ps i)

-- and what is seen of them is the same, where it is of each one
pub map-retired : {A : Type 0} (f : Presence → A) → ((p : Presence) → f (retired p) ≡ f p) → (ps : List Presence) (i : ℕ) → map f (retired_at ps i) ≡ map f ps
map-retired f same [] i = refl
map-retired f same (p ∷ ps) zero = ap (λ x. x ∷ map f ps) (same p)
map-retired f same (p ∷ ps) (suc i) = ap (λ xs. f p ∷ xs) (map-retired f same ps i)

pub closings-retired : (ps : List Presence) (i : ℕ) → map closing_of_presence (retired_at ps i) ≡ map closing_of_presence ps
closings-retired = map-retired closing_of_presence closing-retired

pub texts-retired : (ps : List Presence) (i : ℕ) → map reply_text_of (retired_at ps i) ≡ map reply_text_of ps
texts-retired = map-retired reply_text_of text-retired

pub retired-within : (ps : List Presence) (i : ℕ) (p : Presence) → slice_get ps i ≡ Some p → retired_at ps i ≡ slice_set ps i (retired p)
retired-within [] i p at = refl
retired-within (q ∷ qs) zero p at = ap (λ x. retired x ∷ qs) (same_Some q p at)
retired-within (q ∷ qs) (suc i) p at = ap (λ xs. q ∷ xs) (retired-within qs i p at)

-- nothing changes where it stays
pub retired-same : (ps : List Presence) (i : ℕ) (p : Presence) → slice_get ps i ≡ Some p → retired p ≡ p → retired_at ps i ≡ ps
retired-same [] i p at e = refl
retired-same (q ∷ qs) zero p at e = ap (λ x. retired x ∷ qs) (same_Some q p at) ∙ ap (λ x. x ∷ qs) e ∙ ap (λ x. x ∷ qs) (sym (same_Some q p at))
retired-same (q ∷ qs) (suc i) p at e = ap (λ xs. q ∷ xs) (retired-same qs i p at e)

-- ---- one that is put at a place

-- out and put back is put
pub put-back : (ps : List Presence) (i : ℕ) (c : Connection) → slice_set (slice_set ps i Out) i (Here c) ≡ slice_set ps i (Here c)
put-back ps i c = set-set ps i Out (Here c)

-- the same connections are open where one is put that is shown as the one before it
pub open-same : (n i : ℕ) (old new : Connection) (ps : List Presence) → slice_get ps i ≡ Some (Here old) → new.closing ≡ old.closing → ((k : ℕ) → shown_connection k new ≡ shown_connection k old) → open_from n (slice_set ps i (Here new)) ≡ open_from n ps
open-same n i old new [] at closing shows = refl
open-same n zero old new (p ∷ ps) at closing shows =
    ap (λ x. if is_none x then shown_connection n new ∷ open_from (suc n) ps else open_from (suc n) ps) closing
    ∙ ap (λ k. if is_none old.closing then k ∷ open_from (suc n) ps else open_from (suc n) ps) (shows n)
    ∙ sym (ap (λ q. open_from n (q ∷ ps)) (same_Some p (Here old) at))
open-same n (suc i) old new (p ∷ ps) at closing shows = open-behind n p (slice_set ps i (Here new)) ps (open-same (suc n) i old new ps at closing shows)

pub texts-put : (ps : List Presence) (i : ℕ) (c : Connection) → map reply_text_of (slice_set ps i (Here c)) ≡ slice_set (map reply_text_of ps) i c.output.text.items
texts-put ps i c = map-set reply_text_of ps i (Here c)
