-- Bytes read, moments told and answers given; known bytes over several writes, and failures over several calls.
use Rattle.std.proofs.Common.{ℕ, List, [], ◌∷◌, ◌++◌, refl, sym, ap, ◌∙◌, subst, Option, None, Some, append_assoc, ◌≡◌, ◌≤◌, take, drop, ◌-◌, ◌^◌, ⊎_elim, arith}
use Rattle.std.proofs.lemmas.Bool.{cases_lt}
use Rattle.std.proofs.lemmas.List.{append-nil, take-append-drop}
use Rattle.std.specs.Io.KnownBytes.{Consumes, Appends, Keeps}
use Rattle.audit_model.specs.declared.event.Outcome.{Outcome}
use Rattle.cache_run.specs.Devices.Failures.{HasFailed}
use Rattle.cache_run.specs.Devices.Sent.{SentBut}
use Rattle.cache_run.specs.Devices.Sources.{Asking, Askings, Readings}

-- bytes read one after another
pub consumes_more : (a b c : Option (List ℕ)) (xs ys : List ℕ) → Consumes a b xs → Consumes b c ys → Consumes a c (xs ++ ys)
consumes_more None b c xs ys p q = tt
consumes_more (Some a) None c xs ys p q = absurd p
consumes_more (Some a) (Some b) None xs ys p q = absurd q
consumes_more (Some a) (Some b) (Some c) xs ys p q = p ∙ ap (λ z. xs ++ z) q ∙ sym (append_assoc xs ys c)

-- doing nothing reads none
pub same_consumes : (a : Option (List ℕ)) → Consumes a a []
same_consumes None = tt
same_consumes (Some a) = refl

-- readings behind readings
pub readings_more : {C : Type 0} (reads : C → ℕ → C → Type 0) (c : C) (ts : List ℕ) (d : C) (us : List ℕ) (e : C) → Readings reads c ts d → Readings reads d us e → Readings reads c (ts ++ us) e
readings_more {C} reads c [] d us e p q = let P : C → Type 0 = λ x. Readings reads x us e in subst P p q
readings_more reads c (t ∷ ts) d us e p q = (p.0, p.1, readings_more reads p.0 ts d us e p.2 q)

-- answers behind answers
pub askings_more : {L : Type 0} (loads : L → List ℕ → Option Outcome → L → Type 0) (l : L) (xs : List Asking) (m : L) (ys : List Asking) (n : L) → Askings loads l xs m → Askings loads m ys n → Askings loads l (xs ++ ys) n
askings_more {L} loads l [] m ys n p q = let P : L → Type 0 = λ x. Askings loads x ys n in subst P p q
askings_more loads l (x ∷ xs) m ys n p q = (p.0, p.1, askings_more loads p.0 xs m ys n p.2 q)

-- Known bytes over several writes, and failures over several calls.

-- bytes appended one after another
pub appends_more : (a b c : Option (List ℕ)) (xs ys : List ℕ) → Appends a b xs → Appends b c ys → Appends a c (xs ++ ys)
appends_more None b c xs ys p q = tt
appends_more (Some a) None c xs ys p q = absurd p
appends_more (Some a) (Some b) None xs ys p q = absurd q
appends_more (Some a) (Some b) (Some c) xs ys p q = q ∙ ap (λ z. z ++ ys) p ∙ append_assoc a xs ys

-- what keeps the bytes appends none
pub appends_none : (a b : Option (List ℕ)) → Keeps a b → Appends a b []
appends_none None b k = tt
appends_none (Some a) None k = absurd k
appends_none (Some a) (Some b) k = k ∙ sym (append-nil a)

-- doing nothing appends none
pub same_appends : (a : Option (List ℕ)) → Appends a a []
same_appends None = tt
same_appends (Some a) = sym (append-nil a)

-- n bytes more were sent
pub sent_more : (output rest rest' : List ℕ) (a b c : Option (List ℕ)) (n : ℕ) → SentBut rest output a b → Appends b c (take n rest) → rest' ≡ drop n rest → SentBut rest' output a c
sent_more output rest rest' a b c n s w e =
    record {
      sent = s.sent ++ take n rest;
      whole = ap (λ z. (s.sent ++ take n rest) ++ z) e ∙ append_assoc s.sent (take n rest) (drop n rest) ∙ ap (λ z. s.sent ++ z) (take-append-drop n rest) ∙ s.whole;
      wrote = appends_more a b c s.sent (take n rest) s.wrote w;
    }

-- a write that failed sent nothing
pub sent_kept : (output rest : List ℕ) (a b c : Option (List ℕ)) → SentBut rest output a b → Keeps b c → SentBut rest output a c
sent_kept output rest a b c s k =
    record { sent = s.sent; whole = s.whole; wrote = subst (Appends a c) (append-nil s.sent) (appends_more a b c s.sent [] s.wrote (appends_none b c k)) }

-- a text was sent, and the writer flushed
pub sent_flushed : (a b c : Option (List ℕ)) (text : List ℕ) → Appends a b text → Keeps b c → SentBut [] text a c
sent_flushed a b c text wrote kept = sent_kept text [] a b c (record { sent = text; whole = append-nil text; wrote = wrote }) kept

-- with no rest, all was sent
pub sent_all : (output rest : List ℕ) (a b : Option (List ℕ)) → SentBut rest output a b → rest ≡ [] → Appends a b output
sent_all output rest a b s e = subst (Appends a b) (sym (append-nil s.sent) ∙ ap (λ z. s.sent ++ z) (sym e) ∙ s.whole) s.wrote

-- a failure stays counted
pub failed_before : (a b c : ℕ) → HasFailed a b → b ≤ c → HasFailed a c
failed_before a b c failed later = λ room. let more = failed room in omega arith

-- a later failure is one since then
pub failed_after : (a b c : ℕ) → a ≤ b → b ≤ c → HasFailed b c → HasFailed a c
failed_after a b c earlier later failed = λ room.
    ⊎_elim (λ below. let more = failed below in omega arith) (λ full. omega arith) (cases_lt b (2 ^ 64 - 1))
