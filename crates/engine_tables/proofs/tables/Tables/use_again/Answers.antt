use Rattle.std.proofs.Common.{◌≡◌, refl, ap, sym, ◌∙◌, ℕ, List, is_some}
use Rattle.policy_queue.specs.Indices.{has_index, index_moved_to_back}
use Rattle.engine_cells.specs.Cells.{has_counts, numbers_in}
use Rattle.engine_reference.specs.Records.{moved_to_back}
use Rattle.engine_cells.specs.Kept.{Kept, kept_at}
use Rattle.engine_cells.proofs.Changes.{gets-itself, listed-moved, list-moved}
use Rattle.engine_cells.proofs.Views.{kept-in}
use Rattle.engine_tables.proofs.tables.Tables.use_again.Goals as goal

abbrev with_access : {K V P S R : Type 0} → Kept K V P S R → List ℕ → Kept K V P S R
with_access t ns = record t { state = record t.state { access = ns } }

-- a change of what is inside, as it is seen
seen-moved : {K V P S R : Type 0} (inside before new : Kept K V P S R) (number : ℕ) (access : List ℕ) → inside ≡ before → new ≡ with_access inside access → access ≡ moved_to_back number inside.state.access
    → new ≡ with_access before (moved_to_back number before.state.access)
seen-moved {K} {V} {P} {S} {R} inside before new number access is changed moved =
    changed
    ∙ ap (with_access inside) moved
    ∙ ap (λ (t : Kept K V P S R). with_access t (moved_to_back number t.state.access)) is

pub index_of-index-requires : goal.index_of-index-requires
index_of-index-requires g c =
    let seen = ap (λ t. kept_at t c.args.place) (sym c.self.view_is) ∙ kept-in c.self.inside.cells.slots c.args.place c.self.invariant.kept.apart in
    ap (λ o. is_some o) (sym seen ∙ c.requires.1)

pub move_to_back-requires : goal.move_to_back-requires
move_to_back-requires g c =
    let seen = ap (λ t. kept_at t c.args.place) (sym c.self.view_is) ∙ kept-in c.self.inside.cells.slots c.args.place c.self.invariant.kept.apart in
    ap (λ k. has_index k c.self.inside.access.indices) c.index_of-index.ensures.is
    ∙ c.self.invariant.used.listed c.args.place
    ∙ ap (λ o. has_counts o) (sym seen ∙ c.requires.1)
    ∙ c.requires.2

pub invariant_of-self : goal.invariant_of-self
invariant_of-self g c =
    let cells = c.self.inside.cells.slots in
    let places = c.self.inside.access.indices in
    let i = c.args.place in
    let seen = ap (λ t. kept_at t i) (sym c.self.view_is) ∙ kept-in cells i c.self.invariant.kept.apart in
    let there = sym seen ∙ c.requires.1 in
    record {
      kept = c.self.invariant.kept;
      used = rw (c.move_to_back.ensures, c.index_of-index.ensures.is) (listed-moved cells cells places i c.requires.0 c.self.invariant.used (gets-itself cells i c.requires.0 there) c.requires.2);
      written = c.self.invariant.written;
      cells = c.self.invariant.cells;
      order = c.self.invariant.order;
      access = rw c.move_to_back.ensures (record { room = c.self.invariant.access.room; taken = c.self.invariant.access.taken; coming = c.self.invariant.access.coming });
      notices = c.self.invariant.notices;
      tallied = c.self.invariant.tallied;
      aimed = c.self.invariant.aimed;
      reserved = c.self.invariant.reserved;
      tickets = c.self.invariant.tickets;
      numbers = c.self.invariant.numbers;
      spotted = c.self.invariant.spotted;
      hashed = c.self.invariant.hashed;
      keys = c.self.invariant.keys;
      awaited = c.self.invariant.awaited;
      live = c.self.invariant.live;
      since = c.self.invariant.since;
    }

pub returns : goal.returns
returns g c =
    let cells = c.self.inside.cells.slots in
    let places = c.self.inside.access.indices in
    let i = c.args.place in
    let x = c.requires.0 in
    let seen = ap (λ t. kept_at t i) (sym c.self.view_is) ∙ kept-in cells i c.self.invariant.kept.apart in
    let there = sym seen ∙ c.requires.1 in
    let moved = list-moved cells cells places i x x c.self.invariant.kept.apart c.self.invariant.used there (gets-itself cells i x there) refl in (
      x,
      c.requires.1,
      λ counts. seen-moved _ c.args.self.now _ x.number (numbers_in cells (index_moved_to_back i places)) c.self.view_is (rw (c.move_to_back.ensures, c.index_of-index.ensures.is) refl) moved,
    )
