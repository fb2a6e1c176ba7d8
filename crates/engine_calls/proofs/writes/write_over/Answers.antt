use Rattle.std.proofs.Common.{◌≡◌, true, Some, ap, sym, ◌∙◌, arith}
use Rattle.std.proofs.lemmas.Bool.{and_parts}
use Rattle.std.proofs.lemmas.Option.{same_Some}
use Rattle.engine_reference.specs.Calls.{with_written}
use Rattle.engine_reference.specs.Visible.{cause_of_write}
use Rattle.engine_reference.specs.declared.data.Record.{Record}
use Rattle.engine_calls.proofs.Finding.{held-match, kept-number}
use Rattle.engine_calls.proofs.Writing.{next_record, over, over-written, put-sent}
use Rattle.engine_calls.specs.Sending.{sent_if}
use Rattle.engine_calls.proofs.writes.write_over.Goals as goal

pub write_over-requires-clause-alike : goal.write_over-requires-clause-alike
write_over-requires-clause-alike g c = λ r there.
    let eq = g.K.PartialEq.eq in
    let h = c.requires.held in
    let same : h.0 ≡ r = same_Some _ _ (sym h.1 ∙ there) in
    let found = (and_parts _ _ (held-match eq c.args.tables.now.state.records c.args.key h.0 h.2)).1 in
    ap (λ k. eq r.entry.key k) (ap (λ e. e.key) (c.next_entry-entry.ensures r there))
    ∙ g.met.K.Eq.laws.symm r.entry.key c.args.key
    ∙ ap (λ (x : Record g.row.K.Denot g.row.V.Denot). eq c.args.key x.entry.key) (sym same)
    ∙ found

pub write_over-requires-clause-fits : goal.write_over-requires-clause-fits
write_over-requires-clause-fits g c = λ r there.
    let h = c.requires.held in
    let same : h.0 ≡ r = same_Some _ _ (sym h.1 ∙ there) in
    let held = (and_parts _ _ (held-match g.K.PartialEq.eq c.args.tables.now.state.records c.args.key h.0 h.2)).0 in
    let few = (c.requires.bounded r.number r (kept-number c.args.tables.now c.args.place r there)).writes in
    let last = c.tickets_last.ensures in
    (ap (λ (x : Record g.row.K.Denot g.row.V.Denot). x.is_held) (sym same) ∙ held, omega (arith, few, last))

pub returns : goal.returns
returns g c = λ r there.
    let a = g.R.Rules.answers in
    let s = c.args.tables.now.state in
    let h = c.requires.held in
    let l = c.write_over.ensures in
    let same : l.0 ≡ r = same_Some _ _ (sym l.1 ∙ there) in
    let found : h.0 ≡ r = same_Some _ _ (sym h.1 ∙ there) in
    let why : s.settings.tells ≡ true → c.cause_of_write-cause.result ≡ cause_of_write a s c.args.now r.entry = λ tells. c.cause_of_write-cause.ensures r there tells ∙ ap (λ n. cause_of_write a s n r.entry) c.as_nanos.ensures.nanos in
    ap (λ t. t.state) l.2
    ∙ put-sent c.args.at_once (next_record c.next_entry-entry.result l.0) _ (λ at_once. (c.requires.queue at_once).sent_all)
    ∙ ap (λ (x : Record g.row.K.Denot g.row.V.Denot). sent_if c.args.at_once s.next_ticket (over s c.next_entry-entry.result c.cause_of_write-cause.result x)) same
    ∙ ap (λ t. sent_if c.args.at_once s.next_ticket t) (over-written a s c.args.key c.args.value c.args.now c.args.step c.next_entry-entry.result c.cause_of_write-cause.result r (c.next_entry-entry.ensures r there) why)
    ∙ ap (λ o. sent_if c.args.at_once s.next_ticket (with_written a o s c.args.key r.hash c.args.value c.args.now c.args.step)) (ap (λ x. Some x) (sym found) ∙ sym h.2)
