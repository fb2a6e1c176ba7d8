use Rattle.std.proofs.Common.{◌≡◌, ◌<◌, ◌≤◌, ◌∷◌, [], ℕ, List, refl, sym, ap, ◌∙◌, Option, None, Some, true, false, cond, nat_lt, true≢false, arith}
use Rattle.std.specs.Prelude.{is_some}
use Rattle.std.specs.List.{list_all, AllByRecursion}
use Rattle.std.proofs.lemmas.Bool.{eq-eqb, eqb-true, and_from, lt-ltb}
use Rattle.std.proofs.lemmas.Slice.Eq.{bytes_eq-Decides}
use Rattle.audit_model.specs.Situation.{PendingLoad}
use Rattle.audit_model.specs.Bytewise.{same}
use Rattle.audit_model.specs.Underway.{Keys, IsKeyed, KeepsNumbers, has_number, load_of, number_at}
use Rattle.audit_situation.proofs.Listing.{follows}
use Rattle.audit_model.proofs.Waiting.{keyed-of, known, sent, more-joined, same-keys, joins, either-way}
use Rattle.audit_situation.proofs.loads.LoadTable.send.Goals as goal

has-one : (o : Option ℕ) (p : PendingLoad) → has_number o p ≡ true → o ≡ Some p.number
has-one None p e = absurd (true≢false (sym e))
has-one (Some n) p e = ap Some (sym (eqb-true p.number n e))

all-below : (last number : ℕ) (keys : Keys) (loads : List PendingLoad) → ((key : List ℕ) (n : ℕ) → number_at key keys ≡ Some n → n ≤ last) → last < number → AllByRecursion (IsKeyed keys) loads
    → list_all (λ p. nat_lt p.number number) loads ≡ true
all-below last number keys [] past lt k = refl
all-below last number keys (p ∷ ps) past lt k =
    let own : has_number (number_at p.key keys) p ≡ true = sym (k.0 p.key) ∙ (bytes_eq-Decides p.key p.key).1 refl in
    let le = past p.key p.number (has-one (number_at p.key keys) p own) in
    and_from _ _ (lt-ltb p.number number (omega arith)) (all-below last number keys ps past lt k.1)

pub add-requires : goal.add-requires
add-requires c =
    let inside = c.self.inside in
    let own = c.in_ok-load.ensures in
    ap (λ (l : PendingLoad). list_all (λ (p : PendingLoad). nat_lt p.number l.number) inside.table) own
    ∙ all-below inside.last c.args.number inside.keys inside.table inside.keeps.past (omega arith) (keyed-of inside.keeps)

pub invariant_of-self-inside-in-Break-branch-4 : goal.invariant_of-self-inside-in-Break-branch-4
invariant_of-self-inside-in-Break-branch-4 c =
    let inside = c.self.inside in
    let alone : is_some (load_of c.args.conn inside.joined) ≡ false = ap is_some (sym c.load_of.ensures) ∙ sym c.is_some-else-is_some.ensures ∙ c.if-is_some-2.false in
    let k = more-joined inside.last inside.keys inside.joined c.put_waiting.new.joined inside.table (joins c.args.conn c.args.number inside.joined c.put_waiting.new.joined alone c.in_ok-put_waiting.ensures.put) inside.keeps in
    (same-keys inside.last inside.keys c.put_key.new.keys c.put_waiting.new.joined inside.table c.in_err-put_key.ensures.unchanged k, tt)

pub invariant_of-self-inside-2 : goal.invariant_of-self-inside-2
invariant_of-self-inside-2 c =
    let inside = c.self.inside in
    let free : is_some (number_at c.args.key.now inside.keys) ≡ false = ap is_some (sym c.number_at.ensures) ∙ sym c.is_some.ensures ∙ c.if-is_some.false in
    let alone : is_some (load_of c.args.conn inside.joined) ≡ false = ap is_some (sym c.load_of.ensures) ∙ sym c.is_some-else-is_some.ensures ∙ c.if-is_some-2.false in
    let waits = c.in_ok-put_waiting.ensures.put in
    let puts : (q : List ℕ) → number_at q c.put_key.new.keys ≡ cond (same c.args.key.now q) (Some c.args.number) (number_at q inside.keys) = λ q. c.in_ok-put_key.ensures.put q ∙ ap (λ k. cond (same k q) (Some c.args.number) (number_at q inside.keys)) c.in_ok-key.ensures.items in
    let k = more-joined inside.last inside.keys inside.joined c.put_waiting.new.joined inside.table (joins c.args.conn c.args.number inside.joined c.put_waiting.new.joined alone waits) inside.keeps in (
      either-way (KeepsNumbers c.args.number c.put_key.new.keys c.put_waiting.new.joined) c.add.result (record { number = c.args.number; key = c.args.key.now; waiting = c.args.conn ∷ [] } ∷ inside.table) inside.table c.add.new.self
          (follows c.add.result (λ is. is ∙ ap (λ l. l ∷ inside.table) c.in_ok-load.ensures) c.add.ensures.added) c.add.ensures.unchanged
          (sent inside.last inside.keys c.put_key.new.keys c.args.key.now c.args.number (omega arith) free puts inside.keeps.past c.args.conn c.put_waiting.new.joined inside.table (waits c.args.conn ∙ ap (λ b. cond b (Some c.args.number) (load_of c.args.conn inside.joined)) (eq-eqb c.args.conn c.args.conn refl)) k)
          (known inside.last inside.keys c.put_key.new.keys c.args.key.now c.args.number (omega arith) free puts inside.keeps.past c.put_waiting.new.joined inside.table k),
      tt,
    )
