use Rattle.std.proofs.Common.{◌≡◌, ap, sym, ◌∙◌}
use Rattle.std.proofs.lemmas.Bool.{and_parts}
use Rattle.std.proofs.lemmas.Option.{same_Some}
use Rattle.engine_reference.specs.Records.{held_at}
use Rattle.engine_cells.specs.Kept.{kept_at}
use Rattle.engine_cells.specs.Spotted.{is_match}
use Rattle.engine_cells.proofs.Views.{kept-in}
use Rattle.engine_cells.proofs.Walking.{both-map, none-map, some-of}
use Rattle.engine_cells.proofs.Spotting.{hash-alike}
use Rattle.engine_tables.proofs.tables.Tables.place_of.Goals as goal

pub find_held-requires-clause-hashed : goal.find_held-requires-clause-hashed
find_held-requires-clause-hashed g c i x at m =
    let key = g.Q.Names.named_key c.args.key.now in
    let parts = and_parts _ _ m in
    let hasher : c.self.inside.backlog.hasher ≡ c.args.self.now.state.hasher = ap (λ t. t.state.hasher) c.self.view_is in
    let mine = rw (sym hasher) at c.requires.hashed in
    c.self.invariant.hashed i x at parts.0
    ∙ hash-alike g.S.Hasher.Hasher.finish g.S.Hasher.Hasher.write g.S.BuildHasher.build_hasher g.K.Hash.hash_input c.self.inside.backlog.hasher key x.entry.key (g.met.K.Hash.respects_eq key x.entry.key parts.1)
    ∙ sym mine

pub returns-clause-found : goal.returns-clause-found
returns-clause-found g c =
    let cells = c.self.inside.cells.slots in
    let key = g.Q.Names.named_key c.args.key.now in
    both-map _ _ _ (λ i at there.
    let x = some-of _ there in (
      x.0,
      ap (λ t. kept_at t i) (sym c.self.view_is) ∙ kept-in cells i c.self.invariant.kept.apart ∙ x.1,
      ap (λ t. held_at g.K.PartialEq.eq t.state.records key) (sym c.self.view_is) ∙ at ∙ x.1,
    )) c.find_held.result c.find_held.ensures.found c.find_held.ensures.there

pub returns-clause-none : goal.returns-clause-none
returns-clause-none g c =
    let key = g.Q.Names.named_key c.args.key.now in
    none-map _ _ (λ none. ap (λ t. held_at g.K.PartialEq.eq t.state.records key) (sym c.self.view_is) ∙ none) c.find_held.result c.find_held.ensures.none

pub returns-clause-hash : goal.returns-clause-hash
returns-clause-hash g c =
    let cells = c.self.inside.cells.slots in
    let key = g.Q.Names.named_key c.args.key.now in
    let hasher : c.self.inside.backlog.hasher ≡ c.args.self.now.state.hasher = ap (λ t. t.state.hasher) c.self.view_is in
    let mine = rw (sym hasher) at c.requires.hashed in
    both-map _ _ _ (λ i at there r kept.
    let x = some-of _ there in
    let seen = ap (λ t. kept_at t i) (sym c.self.view_is) ∙ kept-in cells i c.self.invariant.kept.apart ∙ x.1 in
    let same : r ≡ x.0 = same_Some _ _ (sym kept ∙ seen) in
    let parts = and_parts _ _ (ap (λ o. is_match g.K.PartialEq.eq key o) (sym x.1) ∙ at) in
    ap (λ y. y.hash) same
    ∙ c.self.invariant.hashed i x.0 x.1 parts.0
    ∙ hash-alike g.S.Hasher.Hasher.finish g.S.Hasher.Hasher.write g.S.BuildHasher.build_hasher g.K.Hash.hash_input c.self.inside.backlog.hasher key x.0.entry.key (g.met.K.Hash.respects_eq key x.0.entry.key parts.1)
    ∙ sym mine) c.find_held.result c.find_held.ensures.matched c.find_held.ensures.there
