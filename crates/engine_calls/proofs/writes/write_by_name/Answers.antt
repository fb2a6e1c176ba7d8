use Rattle.std.proofs.Common.{◌≡◌, true, Some, ap, sym, ◌∙◌}
use Rattle.std.proofs.lemmas.Bool.{and_parts}
use Rattle.std.proofs.lemmas.Option.{same_Some}
use Rattle.engine_reference.specs.Calls.{sent, with_room, written}
use Rattle.engine_reference.specs.Records.{held_at}
use Rattle.engine_reference.specs.declared.data.Record.{Record}
use Rattle.engine_cells.specs.Kept.{kept_at}
use Rattle.engine_calls.proofs.Finding.{held-match}
use Rattle.engine_calls.proofs.writes.write_by_name.Goals as goal

pub write_over-requires-clause-held : goal.write_over-requires-clause-held
write_over-requires-clause-held g c =
    let eq = g.K.PartialEq.eq in
    let s = c.args.tables.now.state in
    let named = g.Q.Names.named_key c.args.name in
    let f = c.in-Some.ensures.found in
    let ok = c.in_ok-make_room-in-Some.ensures.ok in
    let alike = (and_parts _ _ (held-match eq s.records named f.0 f.2)).1 in
    let same : c.record_in.result.now ≡ f.0 = same_Some _ _ (sym c.record_in.ensures ∙ f.1) in
    let is : c.in_ok-key-in-Some.key ≡ named =
    c.requires.exact_key c.key.result.now c.in_ok-key-in-Some.key c.in_ok-key-in-Some.ensures.cases ∙ c.key.ensures ∙ ap (λ (r : Record g.row.K.Denot g.row.V.Denot). r.entry.key) same ∙ c.requires.name.1 f.0.entry.key alike in
    (f.0, ap (λ t. kept_at t c.in-Some.place) ok ∙ f.1, ap (λ t. held_at eq t.state.records c.in_ok-key-in-Some.key) ok ∙ ap (λ k. held_at eq s.records k) is ∙ f.2)

pub returns-in_ok-make_room-in-Some-clause-ok : goal.returns-in_ok-make_room-in-Some-clause-ok
returns-in_ok-make_room-in-Some-clause-ok g c =
    let a = g.R.Rules.answers in
    let eq = g.K.PartialEq.eq in
    let s = c.args.tables.now.state in
    let named = g.Q.Names.named_key c.args.name in
    let f = c.in-Some.ensures.found in
    let ok = c.in_ok-make_room-in-Some.ensures.ok in
    let alike = (and_parts _ _ (held-match eq s.records named f.0 f.2)).1 in
    let same : c.record_in.result.now ≡ f.0 = same_Some _ _ (sym c.record_in.ensures ∙ f.1) in
    let is : c.in_ok-key-in-Some.key ≡ named =
    c.requires.exact_key c.key.result.now c.in_ok-key-in-Some.key c.in_ok-key-in-Some.ensures.cases ∙ c.key.ensures ∙ ap (λ (r : Record g.row.K.Denot g.row.V.Denot). r.entry.key) same ∙ c.requires.name.1 f.0.entry.key alike in
    c.write_over.ensures f.0 (ap (λ t. kept_at t c.in-Some.place) ok ∙ f.1)
    ∙ ap (λ t. sent t.state.next_ticket (written a eq t.state c.in_ok-key-in-Some.key f.0.hash c.args.value c.args.now c.args.step)) ok
    ∙ ap (λ k. sent s.next_ticket (written a eq (with_room s) k f.0.hash c.args.value c.args.now c.args.step)) is
    ∙ ap (λ h. sent s.next_ticket (written a eq (with_room s) named h c.args.value c.args.now c.args.step)) (c.in-Some.ensures.hash f.0 f.1)
