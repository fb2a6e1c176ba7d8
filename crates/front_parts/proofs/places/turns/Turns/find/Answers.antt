use Rattle.std.proofs.Common.{[], ◌∷◌, ◌∙◌, refl, sym, ap, subst}
use Rattle.std.proofs.lemmas.Map.Iter.{rest_all, rest_more}
use Rattle.std.specs.Map.Iter.{deref}
use Rattle.front_reference.specs.Fronts.{turn_at}
use Rattle.front_parts.specs.Places.Indexing.{has_hash}
use Rattle.front_parts.proofs.places.Indexed.{rise, Rise}
use Rattle.front_parts.proofs.places.Searching.{Rest, all_rest, found, less_rest, not_found, past}
use Rattle.front_parts.proofs.places.turns.Turns.find.Goals as goal

pub loop-pair-init : goal.loop-pair-init
loop-pair-init g c =
    all_rest g.K.PartialEq.eq c.args.kind (g.Q.Names.named_key c.args.key.now) c.args.hash c.args.self.now c.self.inside.hashes c.into_iter-pair-iterator.result c.range-pair-items.ensures.ordered
    (λ h m. c.self.invariant.hashed h m ∙ ap (λ ts. has_hash h (turn_at ts m)) c.self.view_is) (c.into_iter-pair-iterator.ensures.into_iter_gives ∙ c.range-pair-items.ensures.between tt)

pub returns-then-other-hash : goal.returns-then-other-hash
returns-then-other-hash g c =
    let next = rest_more deref c.loop-pair.pair-iterator c.next.new.self c.next.result c.in-Some.pair c.in-Some.is c.next.ensures.steps in
    let r = subst (Rest g.K.PartialEq.eq c.args.kind (g.Q.Names.named_key c.args.key.now) c.args.hash c.args.self.now) next c.loop-pair.invariant in
    let rises = subst Rise c.self.view_is (rise c.self.inside.turns.entries c.self.invariant.ordered c.self.invariant.own) in
    not_found g.K.PartialEq.eq c.args.kind (g.Q.Names.named_key c.args.key.now) c.args.hash c.args.self.now c.requires rises (deref c.in-Some.pair ∷ c.next.new.self)
    (past g.K.PartialEq.eq c.args.kind (g.Q.Names.named_key c.args.key.now) c.args.hash c.args.self.now c.requires rises (deref c.in-Some.pair) c.next.new.self c.if-other-hash.true r) r

pub returns-then-is_of : goal.returns-then-is_of
returns-then-is_of g c =
    let next = rest_more deref c.loop-pair.pair-iterator c.next.new.self c.next.result c.in-Some.pair c.in-Some.is c.next.ensures.steps in
    let r = subst (Rest g.K.PartialEq.eq c.args.kind (g.Q.Names.named_key c.args.key.now) c.args.hash c.args.self.now) next c.loop-pair.invariant in
    let rises = subst Rise c.self.view_is (rise c.self.inside.turns.entries c.self.invariant.ordered c.self.invariant.own) in
    found g.K.PartialEq.eq c.args.kind (g.Q.Names.named_key c.args.key.now) c.args.hash c.args.self.now c.requires rises (deref c.in-Some.pair) c.next.new.self c.in-Some.pair.now.1 c.if-other-hash.false refl (sym c.is_of.ensures ∙ c.if-is_of.true) r

pub loop-pair-preserved : goal.loop-pair-preserved
loop-pair-preserved g c =
    let next = rest_more deref c.loop-pair.pair-iterator c.next.new.self c.next.result c.in-Some.pair c.in-Some.is c.next.ensures.steps in
    let r = subst (Rest g.K.PartialEq.eq c.args.kind (g.Q.Names.named_key c.args.key.now) c.args.hash c.args.self.now) next c.loop-pair.invariant in
    less_rest g.K.PartialEq.eq c.args.kind (g.Q.Names.named_key c.args.key.now) c.args.hash c.args.self.now c.in-Some.pair.now.1 (deref c.in-Some.pair) c.next.new.self refl (sym c.is_of.ensures ∙ c.if-is_of.false) r

pub returns : goal.returns
returns g c =
    let none = rest_all deref c.loop-pair.pair-iterator c.next.new.self c.next.result c.in-None.is c.next.ensures.steps in
    let r = subst (Rest g.K.PartialEq.eq c.args.kind (g.Q.Names.named_key c.args.key.now) c.args.hash c.args.self.now) none c.loop-pair.invariant in
    let rises = subst Rise c.self.view_is (rise c.self.inside.turns.entries c.self.invariant.ordered c.self.invariant.own) in
    not_found g.K.PartialEq.eq c.args.kind (g.Q.Names.named_key c.args.key.now) c.args.hash c.args.self.now c.requires rises [] (λ m. refl) r
