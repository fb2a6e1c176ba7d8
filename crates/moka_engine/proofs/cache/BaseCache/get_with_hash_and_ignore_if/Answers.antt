use Rattle.std.proofs.Common.{subst}
use Rattle.std.specs.Fn.{FnOnceReturnsAt}
use Rattle.engine_calls.specs.Finding.{WasFound, PassesOver}
use Rattle.engine_reference.specs.Scanning.{past, LooksUpPast}
use Rattle.engine_reference.specs.State.{State}
use Rattle.engine_reference.specs.Visible.{visible_record}
use Rattle.moka_engine.specs.Keeping.{NotesRead}
use Rattle.moka_engine.proofs.Keeping.{well-noted}
use Rattle.moka_engine.proofs.cache.BaseCache.get_with_hash_and_ignore_if.Goals as goal

pub clone_found-requires-clause-found : goal.clone_found-requires-clause-found
clone_found-requires-clause-found g c = let p = c.pass_over-found.ensures c.args.hash _ c.find-seen.ensures in (c.args.hash, _, p.found)

pub note_read-requires-clause-kept : goal.note_read-requires-clause-kept
note_read-requires-clause-kept g c = c.self.invariant

pub note_read-requires-clause-found : goal.note_read-requires-clause-found
note_read-requires-clause-found g c = let p = c.pass_over-found.ensures c.args.hash _ c.find-seen.ensures in (_, p.found)

pub invariant_of-self : goal.invariant_of-self
invariant_of-self g c =
    let p = c.pass_over-found.ensures c.args.hash _ c.find-seen.ensures in
    well-noted g.R.Rules.answers _ c.args.hash c.args.now _ _ c.self.invariant (c.note_read.ensures _ p.found)

pub returns-clause-found : goal.returns-clause-found
returns-clause-found g c =
    let a = g.R.Rules.answers in
    let s = c.self.inside.tables.state in
    let t = c.self.inside.tables in
    let ignores = FnOnceReturnsAt g.F.FnOnce c.args.ignore_if in
    let o = visible_record a g.K.PartialEq.eq s c.args.now (g.Q.Names.named_key c.args.key.now) in
    let seen = subst (λ m. WasFound t c.args.hash c.find-seen.result (visible_record a g.K.PartialEq.eq s m (g.Q.Names.named_key c.args.key.now))) c.as_nanos.ensures.nanos c.find-seen.ensures in
    let p : PassesOver ignores t c.args.hash o c.pass_over-found.result = c.pass_over-found.ensures c.args.hash o seen in
    let n : NotesRead a (past p.ignored o) c.args.hash c.args.now s c.note_read.new.tables.state = c.note_read.ensures (past p.ignored o) p.found in
    let whole : LooksUpPast a g.K.PartialEq.eq (g.Q.Names.named_key c.args.key.now) c.args.hash c.args.now ignores s c.note_read.new.tables.state c.in_ok-value.value = record {
      ignored = p.ignored;
      asked = p.asked;
      answer = c.in_ok-value.ensures c.args.hash (past p.ignored o) p.found;
      mid = n.mid;
      maintains = n.maintains;
      reads = n.reads;
    } in
    subst (λ (x : State g.row.K.Denot g.row.V.Denot g.row.R-Predicate.Denot g.row.S.Denot g.row.R.Denot). LooksUpPast a g.K.PartialEq.eq (g.Q.Names.named_key c.args.key.now) c.args.hash c.args.now ignores x c.note_read.new.tables.state c.in_ok-value.value) c.self.view_is whole
