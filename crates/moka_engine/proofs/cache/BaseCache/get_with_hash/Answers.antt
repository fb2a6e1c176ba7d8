use Rattle.std.proofs.Common.{subst}
use Rattle.engine_calls.specs.Finding.{WasFound}
use Rattle.engine_reference.specs.Calls.{LooksUp}
use Rattle.engine_reference.specs.State.{State}
use Rattle.engine_reference.specs.Visible.{visible_record}
use Rattle.moka_engine.specs.Keeping.{NotesRead}
use Rattle.moka_engine.proofs.Keeping.{well-noted}
use Rattle.moka_engine.proofs.cache.BaseCache.get_with_hash.Goals as goal

pub clone_found-requires-clause-found : goal.clone_found-requires-clause-found
clone_found-requires-clause-found g c = (c.args.hash, _, c.find-found.ensures)

pub note_read-requires-clause-kept : goal.note_read-requires-clause-kept
note_read-requires-clause-kept g c = c.self.invariant

pub note_read-requires-clause-found : goal.note_read-requires-clause-found
note_read-requires-clause-found g c = (_, c.find-found.ensures)

pub invariant_of-self : goal.invariant_of-self
invariant_of-self g c = well-noted g.R.Rules.answers _ c.args.hash c.args.now _ _ c.self.invariant (c.note_read.ensures _ c.find-found.ensures)

pub returns-clause-used : goal.returns-clause-used
returns-clause-used g c =
    let a = g.R.Rules.answers in
    let s = c.self.inside.tables.state in
    let o = visible_record a g.K.PartialEq.eq s c.args.now (g.Q.Names.named_key c.args.key.now) in
    let found = subst (λ m. WasFound c.self.inside.tables c.args.hash c.find-found.result (visible_record a g.K.PartialEq.eq s m (g.Q.Names.named_key c.args.key.now))) c.as_nanos.ensures.nanos c.find-found.ensures in
    let n : NotesRead a o c.args.hash c.args.now s c.note_read.new.tables.state = c.note_read.ensures o found in
    let whole : LooksUp a g.K.PartialEq.eq (g.Q.Names.named_key c.args.key.now) c.args.hash c.args.now s c.note_read.new.tables.state = record { mid = n.mid; maintains = n.maintains; reads = n.reads } in
    subst (λ (x : State g.row.K.Denot g.row.V.Denot g.row.R-Predicate.Denot g.row.S.Denot g.row.R.Denot). LooksUp a g.K.PartialEq.eq (g.Q.Names.named_key c.args.key.now) c.args.hash c.args.now x c.note_read.new.tables.state) c.self.view_is whole
