use Rattle.std.proofs.Common.{◌≡◌, ◌<◌, Some, ap, sym, ◌∙◌, subst}
use Rattle.engine_reference.specs.Calls.{removal_told, sent, with_reserved_removal}
use Rattle.engine_calls.proofs.Writing.{removal-settings, report-room, reported-is, reported-none, untold}
use Rattle.engine_calls.proofs.writes.remove_and_tell.Goals as goal

pub entry_of-entry-requires-clause-parts : goal.entry_of-entry-requires-clause-parts
entry_of-entry-requires-clause-parts g c = λ r there.
    let p = reported-is c.args.tables.now.state.settings r c.in-Some.key c.in-Some.value (sym c.in-Some.is ∙ c.requires.parts r there) in (p.1, p.2)

pub tell_removed-requires : goal.tell_removed-requires
tell_removed-requires g c = λ tells.
    let s = c.args.tables.now.state in
    let h = c.requires.there in
    let told = (reported-is s.settings h.0 c.in-Some.key c.in-Some.value (sym c.in-Some.is ∙ c.requires.parts h.0 h.1)).0 in
    subst (λ x. 0 < x.reserved) (sym (c.remove_at.ensures h.0 h.1)) (report-room h.0 s told c.requires.room)

pub returns-in-Some : goal.returns-in-Some
returns-in-Some g c = λ r there.
    let a = g.R.Rules.answers in
    c.tell_removed.ensures
    ∙ ap (λ e. removal_told a e c.args.now c.remove_at.new.tables.state) (c.entry_of-entry.ensures r there)
    ∙ ap (λ x. removal_told a r.entry c.args.now x) (c.remove_at.ensures r there)

pub returns-in-None : goal.returns-in-None
returns-in-None g c = λ r there.
    let a = g.R.Rules.answers in
    let s = c.args.tables.now.state in
    c.remove_at-in-None.ensures r there
    ∙ untold a r.entry c.args.now (sent s.next_ticket (with_reserved_removal (Some r) s)) (ap (λ x. x.tells) (removal-settings r s) ∙ reported-none s.settings r (sym c.in-None.is ∙ c.requires.parts r there))
