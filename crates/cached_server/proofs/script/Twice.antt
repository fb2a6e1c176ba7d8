-- Two texts sent one after the other.
use Rattle.std.proofs.Common.{ℕ, ◌≤◌, List, [], ◌++◌, Option, sym, ap, subst, ◌∙◌, append_assoc}
use Rattle.std.specs.Io.KnownBytes.{Appends}
use Rattle.std.proofs.lemmas.List.{append-nil}
use Rattle.cache_run.specs.Devices.Failures.{HasFailed}
use Rattle.cache_run.specs.Devices.Sent.{SentBut}
use Rattle.cache_run.proofs.devices.Sending.{appends_more, failed_after}
use Rattle.cached_server.specs.Script.Faults.{WritesPrefix}

-- the first was written whole, and of the second a prefix
pub tells-both : (a b : List ℕ) (x y z : Option (List ℕ)) (n m k : ℕ) → Appends x y a → WritesPrefix b y z m k → n ≤ m → m ≤ k → WritesPrefix (a ++ b) x z n k
tells-both a b x y z n m k first t early late = record {
  rest = t.rest;
  sent = record {
    sent = a ++ t.sent.sent;
    whole = append_assoc a t.sent.sent t.rest ∙ ap (λ l. a ++ l) t.sent.whole;
    wrote = appends_more x y z a t.sent.sent first t.sent.wrote;
  };
  cut = λ some. failed_after n m k early late (t.cut some);
}

-- the first was cut
pub tells-first : (a b rest : List ℕ) (x y : Option (List ℕ)) (n m : ℕ) → SentBut rest a x y → HasFailed n m → WritesPrefix (a ++ b) x y n m
tells-first a b rest x y n m s failed = record {
  rest = rest ++ b;
  sent = record { sent = s.sent; whole = sym (append_assoc s.sent rest b) ∙ ap (λ l. l ++ b) s.whole; wrote = s.wrote };
  cut = λ some. failed;
}

-- the second is empty
pub tells-alone : (text : List ℕ) (x y : Option (List ℕ)) (n k : ℕ) → WritesPrefix text x y n k → WritesPrefix (text ++ []) x y n k
tells-alone text x y n k t = subst (λ l. WritesPrefix l x y n k) (sym (append-nil text)) t
