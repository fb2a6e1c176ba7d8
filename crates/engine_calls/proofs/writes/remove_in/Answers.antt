use Rattle.std.proofs.Common.{◌≡◌, ◌≤◌, ◌+◌, Some, ap, sym, ◌∙◌, subst, arith}
use Rattle.engine_reference.specs.Calls.{removal_rooms, removal_told, sent, with_reserved_removal}
use Rattle.engine_reference.specs.declared.data.Record.{Record}
use Rattle.engine_cells.specs.Kept.{kept_at}
use Rattle.engine_calls.specs.Bounds.{AreBounded}
use Rattle.engine_calls.specs.Removing.{reported_parts}
use Rattle.engine_calls.specs.Sending.{SendsAll}
use Rattle.engine_calls.proofs.Refused.{lacks-room}
use Rattle.engine_calls.proofs.Writing.{removal-freed}
use Rattle.engine_calls.proofs.writes.remove_in.Goals as goal

pub remove_and_tell-requires-clause-room : goal.remove_and_tell-requires-clause-room
remove_and_tell-requires-clause-room g c = subst (λ t. removal_rooms t.state.settings ≤ t.state.reserved) (sym c.in_ok-make_removal_room.ensures.ok) (omega arith)

pub remove_and_tell-requires-clause-queue : goal.remove_and_tell-requires-clause-queue
remove_and_tell-requires-clause-queue g c = subst (λ t. SendsAll t.state) (sym c.in_ok-make_removal_room.ensures.ok) (record { sent_all = c.requires.queue.sent_all; room = c.requires.queue.room })

pub remove_and_tell-requires-clause-bounded : goal.remove_and_tell-requires-clause-bounded
remove_and_tell-requires-clause-bounded g c = subst (λ t. AreBounded t.state) (sym c.in_ok-make_removal_room.ensures.ok) c.requires.bounded

pub remove_and_tell-requires-clause-there : goal.remove_and_tell-requires-clause-there
remove_and_tell-requires-clause-there g c = subst (λ t. (r : Record g.row.K.Denot g.row.V.Denot) × (kept_at t c.args.place ≡ Some r)) (sym c.in_ok-make_removal_room.ensures.ok) c.requires.there

pub remove_and_tell-requires-clause-parts : goal.remove_and_tell-requires-clause-parts
remove_and_tell-requires-clause-parts g c =
    subst (λ t. (r : Record g.row.K.Denot g.row.V.Denot) → kept_at t c.args.place ≡ Some r → c.in_ok-parts.parts ≡ reported_parts t.state.settings r) (sym c.in_ok-make_removal_room.ensures.ok) c.in_ok-parts.ensures

pub returns-clause-ok : goal.returns-clause-ok
returns-clause-ok g c = λ r there.
    let a = g.R.Rules.answers in
    let s = c.args.tables.now.state in
    let ok = c.in_ok-make_removal_room.ensures.ok in
    c.remove_and_tell.ensures r (ap (λ t. kept_at t c.args.place) ok ∙ there)
    ∙ ap (λ t. removal_told a r.entry c.args.now (sent t.state.next_ticket (with_reserved_removal (Some r) t.state))) ok
    ∙ ap (λ x. removal_told a r.entry c.args.now (sent s.next_ticket x)) (removal-freed r s)
