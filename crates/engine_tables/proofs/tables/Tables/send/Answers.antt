use Rattle.std.proofs.Common.{◌≡◌, refl, ap, sym, ◌∙◌, ℕ, Option, Some, None, length, is_some}
use Rattle.std.specs.Prelude.{option_map}
use Rattle.std.proofs.lemmas.Bool.{le-leb, lt-leb}
use Rattle.engine_reference.specs.Calls.{unsent_at, is_full}
use Rattle.engine_pending.proofs.Agreeing.{pending_agrees}
use Rattle.engine_pending.specs.Pending.{Pending, ticketed_at, with_sent_of, ticket_sent}
use Rattle.engine_cells.specs.Cells.{records_by_number, numbers_in, numbers_of}
use Rattle.engine_cells.specs.Noting.{read_of, write_of}
use Rattle.engine_cells.proofs.Pointing.{aims-sent, sent-same, kept-sent}
use Rattle.engine_cells.proofs.Walking.{by-result, ok-map, some-mapped}
use Rattle.engine_tables.proofs.tables.Tables.send.Goals as goal

-- beside another count of what is reserved
sent_of-beside : {K V O W P S R : Type 0} (t n : ℕ) (o : Option W) (p : Pending K V O W P S R) → record (with_sent_of t o p) { reserved = n } ≡ with_sent_of t o (record p { reserved = n })
sent_of-beside t n None p = refl
sent_of-beside t n (Some w) p = refl

seen-sent : {K V O W P S R : Type 0} (t n : ℕ) (p q : Pending K V O W P S R) → q ≡ ticket_sent t p → record q { reserved = n } ≡ ticket_sent t (record p { reserved = n })
seen-sent {K} {V} {O} {W} {P} {S} {R} t n p q e = ap (λ (x : Pending K V O W P S R). record x { reserved = n }) e ∙ sent_of-beside t n (ticketed_at p.unsent t) p

pub invariant_of-self : goal.invariant_of-self
invariant_of-self g c =
    by-result _ _ _
    (λ (e : c.send.new.self ≡ ticket_sent c.args.ticket c.self.inside.backlog). rw (e ∙ sent-same c.args.ticket c.self.inside.backlog) (record {
      kept = c.self.invariant.kept;
      used = c.self.invariant.used;
      written = c.self.invariant.written;
      cells = c.self.invariant.cells;
      access = c.self.invariant.access;
      order = c.self.invariant.order;
      notices = c.self.invariant.notices;
      tallied = c.self.invariant.tallied;
      aimed = aims-sent c.self.inside.cells.slots c.self.inside.next_number c.args.ticket c.self.inside.backlog c.self.invariant.aimed;
      reserved = c.self.invariant.reserved;
      tickets = c.self.invariant.tickets;
      numbers = c.self.invariant.numbers;
      spotted = c.self.invariant.spotted;
      hashed = c.self.invariant.hashed;
      keys = c.self.invariant.keys;
      awaited = c.self.invariant.awaited;
      live = c.self.invariant.live;
      since = c.self.invariant.since;
    }))
    (λ (e : c.send.new.self ≡ c.self.inside.backlog). rw e c.self.invariant)
    c.send.result c.send.ensures.ok c.send.ensures.err

pub returns-clause-ok : goal.returns-clause-ok
returns-clause-ok g c =
    let cells = c.self.inside.cells.slots in
    rw (← c.self.view_is)
    (ok-map _ _ (λ (e : c.send.new.self ≡ ticket_sent c.args.ticket c.self.inside.backlog). kept-sent (records_by_number cells) (numbers_in cells c.self.inside.access.indices) (numbers_in cells c.self.inside.order.places.indices) c.self.inside.next_number (numbers_of cells) c.args.ticket (record c.self.inside.backlog { reserved = c.self.inside.reserved }) (record c.send.new.self { reserved = c.self.inside.reserved }) (seen-sent c.args.ticket c.self.inside.reserved c.self.inside.backlog c.send.new.self e)) c.send.result c.send.ensures.ok)

pub returns-clause-known : goal.returns-clause-known
returns-clause-known g c =
    let cells = c.self.inside.cells.slots in
    let agrees = pending_agrees _ _ _ _ _ _ _ read_of write_of (records_by_number cells) (numbers_in cells c.self.inside.access.indices) (numbers_in cells c.self.inside.order.places.indices) c.self.inside.next_number in
    let seen = ap (λ t. unsent_at t.state.unsent c.args.ticket) (sym c.self.view_is) ∙ agrees.unsent c.args.ticket c.self.inside.backlog in
    ok-map _ _ (λ known. ap is_some seen ∙ some-mapped write_of _ ∙ known) c.send.result c.send.ensures.known

pub returns-clause-unknown : goal.returns-clause-unknown
returns-clause-unknown g c refused =
    let cells = c.self.inside.cells.slots in
    let agrees = pending_agrees _ _ _ _ _ _ _ read_of write_of (records_by_number cells) (numbers_in cells c.self.inside.access.indices) (numbers_in cells c.self.inside.order.places.indices) c.self.inside.next_number in
    let seen = ap (λ t. unsent_at t.state.unsent c.args.ticket) (sym c.self.view_is) ∙ agrees.unsent c.args.ticket c.self.inside.backlog in
    seen ∙ ap (λ o. option_map write_of o) (c.send.ensures.unknown refused)

pub returns-clause-full : goal.returns-clause-full
returns-clause-full g c refused =
    let cells = c.self.inside.cells.slots in
    let agrees = pending_agrees _ _ _ _ _ _ _ read_of write_of (records_by_number cells) (numbers_in cells c.self.inside.access.indices) (numbers_in cells c.self.inside.order.places.indices) c.self.inside.next_number in
    let seen = ap (λ t. unsent_at t.state.unsent c.args.ticket) (sym c.self.view_is) ∙ agrees.unsent c.args.ticket c.self.inside.backlog in
    let f = c.send.ensures.full refused in (
      ap is_some seen ∙ some-mapped write_of _ ∙ f.0,
      ap (λ t. is_full t.state) (sym c.self.view_is) ∙ agrees.full c.self.inside.backlog ∙ le-leb 128 (length c.self.inside.backlog.writes) f.1,
    )

pub returns-clause-room : goal.returns-clause-room
returns-clause-room g c =
    let cells = c.self.inside.cells.slots in
    let agrees = pending_agrees _ _ _ _ _ _ _ read_of write_of (records_by_number cells) (numbers_in cells c.self.inside.access.indices) (numbers_in cells c.self.inside.order.places.indices) c.self.inside.next_number in
    ok-map _ _ (λ room. ap (λ t. is_full t.state) (sym c.self.view_is) ∙ agrees.full c.self.inside.backlog ∙ lt-leb 128 (length c.self.inside.backlog.writes) room) c.send.result c.send.ensures.room
