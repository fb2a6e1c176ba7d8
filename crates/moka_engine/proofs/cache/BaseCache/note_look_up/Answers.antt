use Rattle.std.proofs.Common.{subst}
use Rattle.engine_calls.specs.Finding.{WasFound}
use Rattle.engine_reference.specs.Scanning.{past, NotesLookUp}
use Rattle.engine_reference.specs.State.{State}
use Rattle.engine_reference.specs.Visible.{visible_record}
use Rattle.moka_engine.specs.Keeping.{NotesRead}
use Rattle.moka_engine.proofs.Keeping.{well-noted}
use Rattle.moka_engine.proofs.cache.BaseCache.note_look_up.Goals as goal

pub note_read-requires-clause-kept : goal.note_read-requires-clause-kept
note_read-requires-clause-kept g c = c.self.invariant

pub note_read-requires-clause-found : goal.note_read-requires-clause-found
note_read-requires-clause-found g c = (_, c.find_unless-found.ensures)

pub invariant_of-self : goal.invariant_of-self
invariant_of-self g c = well-noted g.R.Rules.answers _ c.args.hash c.args.now _ _ c.self.invariant (c.note_read.ensures _ c.find_unless-found.ensures)

pub returns : goal.returns
returns g c =
    let a = g.R.Rules.answers in
    let s = c.self.inside.tables.state in
    let o = past c.args.ignored (visible_record a g.K.PartialEq.eq s c.args.now (g.Q.Names.named_key c.args.key.now)) in
    let found = subst (λ m. WasFound c.self.inside.tables c.args.hash c.find_unless-found.result (past c.args.ignored (visible_record a g.K.PartialEq.eq s m (g.Q.Names.named_key c.args.key.now)))) c.as_nanos.ensures.nanos c.find_unless-found.ensures in
    let n : NotesRead a o c.args.hash c.args.now s c.note_read.new.tables.state = c.note_read.ensures o found in
    let whole : NotesLookUp a g.K.PartialEq.eq (g.Q.Names.named_key c.args.key.now) c.args.hash c.args.now c.args.ignored s c.note_read.new.tables.state = record { mid = n.mid; maintains = n.maintains; reads = n.reads } in
    subst (λ (x : State g.row.K.Denot g.row.V.Denot g.row.R-Predicate.Denot g.row.S.Denot g.row.R.Denot). NotesLookUp a g.K.PartialEq.eq (g.Q.Names.named_key c.args.key.now) c.args.hash c.args.now c.args.ignored x c.note_read.new.tables.state) c.self.view_is whole
