use Rattle.std.proofs.Common.{sym, ap, ◌∙◌, arith, ◌≡◌, List, false, Option, Some, None, MatchOption, ℕ}
use Rattle.std.specs.List.{slice_get}
use Rattle.std.specs.Option.{option_map}
use Rattle.cache_core.specs.Connections.Presence.{Here, Presence, is_here}
use Rattle.cache_core.specs.Connections.Residents.{held_or_out}
use Rattle.cache_core.specs.declared.connection.connection.Connection.{Connection}
use Rattle.cache_core.proofs.connections.Saying.{held-in, resident-in}
use Rattle.cache_core.proofs.connections.connections.Connections.get.Goals as goal

-- what is answered of one that is there, or out
looked : {B : Type 0} (now : B → Connection) (ps : List Presence) (i : ℕ) (o : Option B) → slice_get ps i ≡ Some (held_or_out (option_map now o)) → MatchOption o (is_here (slice_get ps i) ≡ false) (λ c. slice_get ps i ≡ Some (Here (now c)))
looked now ps i None e = ap is_here e
looked now ps i (Some b) e = e

pub index-requires : goal.index-requires
index-requires c =
    let inside = resident-in c.self.inside.residents.items c.self.inside.words c.args.self.now c.self.view_is c.args.index c.find-word.result c.self.invariant c.find-word.ensures c.if-word-ge-FIRST_REASON.false in
    omega (arith, inside, c.self.inside.residents.ok.0)

pub returns : goal.returns
returns c =
    looked (λ b. b.now) _ c.args.index c.as_ref.result
    (held-in c.self.inside.residents.items c.self.inside.words c.args.self.now c.self.view_is c.args.index c.find-word.result c.self.invariant c.index.result.now c.find-word.ensures c.if-word-ge-FIRST_REASON.false c.index.ensures ∙ ap (λ o. Some (held_or_out o)) (sym c.as_ref.ensures.value))
