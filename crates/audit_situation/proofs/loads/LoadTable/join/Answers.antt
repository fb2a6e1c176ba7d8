use Rattle.std.proofs.Common.{◌≡◌, ◌++◌, ◌∷◌, [], sym, ap, ◌∙◌, map, false}
use Rattle.std.specs.Prelude.{is_some}
use Rattle.audit_model.specs.Situation.{with_waiting}
use Rattle.audit_model.specs.Numbered.{changed_numbered}
use Rattle.audit_model.specs.Underway.{KeepsNumbers, load_of}
use Rattle.audit_situation.proofs.Listing.{follows}
use Rattle.audit_model.proofs.Waiting.{joined_is, unjoined_is, joined-keeps, more-joined, joins, either-way}
use Rattle.audit_situation.proofs.loads.LoadTable.join.Goals as goal

pub returns-in_default : goal.returns-in_default
returns-in_default c =
    let inside = c.self.inside in
    sym c.self.view_is ∙ unjoined_is inside.keys c.args.key.now c.args.conn inside.table inside.keeps.keyed (sym c.number_at.ensures ∙ c.in_default.is)
    ∙ ap (map (with_waiting c.args.conn c.args.key.now)) c.self.view_is

pub invariant_of-self-inside-2 : goal.invariant_of-self-inside-2
invariant_of-self-inside-2 c =
    let inside = c.self.inside in
    let free : is_some (load_of c.args.conn inside.joined) ≡ false = ap is_some (sym c.load_of.ensures) ∙ sym c.is_some.ensures ∙ c.if-is_some.false in
    let puts = c.in_ok-put_waiting.ensures.put in (
      either-way (KeepsNumbers inside.last inside.keys c.put_waiting.new.joined) c.join.result (map (changed_numbered (λ p. p.number) c.in-Some.number (λ p. record p { waiting = p.waiting ++ c.args.conn ∷ [] })) inside.table) inside.table c.join.new.self c.join.ensures.joined c.join.ensures.unchanged
          (joined-keeps inside.last c.in-Some.number c.args.conn inside.keys inside.joined c.put_waiting.new.joined inside.table free puts inside.keeps)
          (more-joined inside.last inside.keys inside.joined c.put_waiting.new.joined inside.table (joins c.args.conn c.in-Some.number inside.joined c.put_waiting.new.joined free puts) inside.keeps),
      tt,
    )

pub returns : goal.returns
returns c =
    let inside = c.self.inside in
    follows c.join.result (λ is. is ∙ joined_is inside.keys c.args.key.now c.in-Some.number c.args.conn inside.table inside.keeps.keyed (sym c.number_at.ensures ∙ c.in-Some.is) ∙ ap (map (with_waiting c.args.conn c.args.key.now)) c.self.view_is) c.join.ensures.joined
