use Rattle.std.proofs.Common.{subst, ◌∙◌, false, Ok, Err}
use Rattle.engine_calls.specs.Finding.{WasFound}
use Rattle.engine_reference.specs.Scanning.{NotesLookUp}
use Rattle.engine_reference.specs.State.{State}
use Rattle.engine_reference.specs.Visible.{visible_record, visible_value}
use Rattle.moka_engine.specs.Keeping.{NotesRead}
use Rattle.moka_engine.specs.Showing.{IsShown}
use Rattle.moka_engine.proofs.Keeping.{well-noted}
use Rattle.moka_engine.proofs.Shown.{shown-as, value-of}
use Rattle.moka_engine.proofs.cache.BaseCache.look_up_with_hash.Goals as goal

pub note_read-requires-clause-kept : goal.note_read-requires-clause-kept
note_read-requires-clause-kept g c = c.self.invariant

pub note_read-requires-clause-found : goal.note_read-requires-clause-found
note_read-requires-clause-found g c = (_, c.find-found.ensures)

pub invariant_of-self : goal.invariant_of-self
invariant_of-self g c = well-noted g.R.Rules.answers _ c.args.hash c.args.now _ _ c.self.invariant (c.note_read.ensures _ c.find-found.ensures)

pub returns-in-Ok-clause-shown : goal.returns-in-Ok-clause-shown
returns-in-Ok-clause-shown g c =
    let a = g.R.Rules.answers in
    let s = c.self.inside.tables.state in
    let key = g.Q.Names.named_key c.args.key.now in
    let o = visible_record a g.K.PartialEq.eq s c.args.now key in
    let found = subst (λ m. WasFound c.self.inside.tables c.args.hash c.find-found.result (visible_record a g.K.PartialEq.eq s m key)) c.as_nanos.ensures.nanos c.find-found.ensures in
    let is = c.value_in.ensures c.args.hash o found ∙ value-of o in
    subst (λ (x : State g.row.K.Denot g.row.V.Denot g.row.R-Predicate.Denot g.row.S.Denot g.row.R.Denot). IsShown g.F.FnOnce c.args.see (visible_value a g.K.PartialEq.eq x c.args.now key) c.args.output.now (Ok c.in-Ok.answer) c.show.new.output) c.self.view_is
    (shown-as g.F.FnOnce c.args.see _ (visible_value a g.K.PartialEq.eq s c.args.now key) c.args.output.now _ _ is c.in-Ok.ensures)

pub returns-in-Err-clause-shown : goal.returns-in-Err-clause-shown
returns-in-Err-clause-shown g c =
    let a = g.R.Rules.answers in
    let s = c.self.inside.tables.state in
    let key = g.Q.Names.named_key c.args.key.now in
    let o = visible_record a g.K.PartialEq.eq s c.args.now key in
    let found = subst (λ m. WasFound c.self.inside.tables c.args.hash c.find-found.result (visible_record a g.K.PartialEq.eq s m key)) c.as_nanos.ensures.nanos c.find-found.ensures in
    let is = c.value_in.ensures c.args.hash o found ∙ value-of o in
    subst (λ (x : State g.row.K.Denot g.row.V.Denot g.row.R-Predicate.Denot g.row.S.Denot g.row.R.Denot). IsShown g.F.FnOnce c.args.see (visible_value a g.K.PartialEq.eq x c.args.now key) c.args.output.now (Err c.in-Err.error) c.show.new.output) c.self.view_is
    (shown-as g.F.FnOnce c.args.see _ (visible_value a g.K.PartialEq.eq s c.args.now key) c.args.output.now _ _ is c.in-Err.ensures)

pub returns-in-Ok-clause-used : goal.returns-in-Ok-clause-used
returns-in-Ok-clause-used g c =
    let a = g.R.Rules.answers in
    let s = c.self.inside.tables.state in
    let o = visible_record a g.K.PartialEq.eq s c.args.now (g.Q.Names.named_key c.args.key.now) in
    let found = subst (λ m. WasFound c.self.inside.tables c.args.hash c.find-found.result (visible_record a g.K.PartialEq.eq s m (g.Q.Names.named_key c.args.key.now))) c.as_nanos.ensures.nanos c.find-found.ensures in
    let n : NotesRead a o c.args.hash c.args.now s c.note_read.new.tables.state = c.note_read.ensures o found in
    let whole : NotesLookUp a g.K.PartialEq.eq (g.Q.Names.named_key c.args.key.now) c.args.hash c.args.now false s c.note_read.new.tables.state = record { mid = n.mid; maintains = n.maintains; reads = n.reads } in
    subst (λ (x : State g.row.K.Denot g.row.V.Denot g.row.R-Predicate.Denot g.row.S.Denot g.row.R.Denot). NotesLookUp a g.K.PartialEq.eq (g.Q.Names.named_key c.args.key.now) c.args.hash c.args.now false x c.note_read.new.tables.state) c.self.view_is whole
