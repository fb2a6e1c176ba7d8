use Rattle.std.proofs.Common.{◌≡◌, ap, sym, ◌∙◌, subst, Option, Some, None, false, is_some}
use Rattle.std.specs.Fn.{FnOnceReturnsAt}
use Rattle.std.proofs.lemmas.Option.{same_Some}
use Rattle.engine_calls.specs.Finding.{IsFoundIn, PassesOver, WasFound}
use Rattle.engine_reference.specs.Scanning.{NotesLookUp, past}
use Rattle.engine_reference.specs.State.{State}
use Rattle.engine_reference.specs.Visible.{visible_record, visible_value}
use Rattle.engine_reference.specs.declared.data.Record.{Record}
use Rattle.moka_engine.specs.Keeping.{NotesRead}
use Rattle.moka_engine.proofs.Keeping.{well-noted}
use Rattle.moka_engine.proofs.Passing.{found-asked, found-unpassed, found-value, none-asked, none-found}
use Rattle.moka_engine.proofs.cache.BaseCache.get_with_hash_unless.Goals as goal

pub pass_over-requires-clause-found : goal.pass_over-requires-clause-found
pass_over-requires-clause-found g c = (c.args.hash, _, c.find-seen.ensures)

pub record_in-requires : goal.record_in-requires
record_in-requires g c =
    let o = visible_record g.R.Rules.answers g.K.PartialEq.eq c.self.inside.tables.state c.as_nanos.result (g.Q.Names.named_key c.args.key.now) in
    let p : PassesOver (FnOnceReturnsAt g.F.FnOnce c.args.ignore_if) c.self.inside.tables c.args.hash o (Some c.in-Some.place) = c.in-Some.ensures c.args.hash o c.find-seen.ensures in
    let f : IsFoundIn c.self.inside.tables c.args.hash (past p.ignored o) c.in-Some.place = p.found in
    ap is_some f.there

pub note_read-requires-clause-kept : goal.note_read-requires-clause-kept
note_read-requires-clause-kept g c = c.self.invariant

pub note_read-requires-clause-found : goal.note_read-requires-clause-found
note_read-requires-clause-found g c = let p = c.in-Some.ensures c.args.hash _ c.find-seen.ensures in (_, p.found)

pub invariant_of-self : goal.invariant_of-self
invariant_of-self g c =
    let p = c.in-Some.ensures c.args.hash _ c.find-seen.ensures in
    well-noted g.R.Rules.answers _ c.args.hash c.args.now _ _ c.self.invariant (c.note_read.ensures _ p.found)

pub returns-in_ok-value-in-Some-clause-asked : goal.returns-in_ok-value-in-Some-clause-asked
returns-in_ok-value-in-Some-clause-asked g c =
    let a = g.R.Rules.answers in
    let s = c.self.inside.tables.state in
    let t = c.self.inside.tables in
    let key = g.Q.Names.named_key c.args.key.now in
    let ignores = FnOnceReturnsAt g.F.FnOnce c.args.ignore_if in
    let o = visible_record a g.K.PartialEq.eq s c.args.now key in
    let seen = subst (λ m. WasFound t c.args.hash c.find-seen.result (visible_record a g.K.PartialEq.eq s m key)) c.as_nanos.ensures.nanos c.find-seen.ensures in
    let p : PassesOver ignores t c.args.hash o (Some c.in-Some.place) = c.in-Some.ensures c.args.hash o seen in
    subst (λ (x : State g.row.K.Denot g.row.V.Denot g.row.R-Predicate.Denot g.row.S.Denot g.row.R.Denot). (v : g.row.V.Denot) → visible_value a g.K.PartialEq.eq x c.args.now key ≡ Some v → ignores v false) c.self.view_is
    (found-asked ignores t c.args.hash o c.in-Some.place p)

pub returns-in_ok-value-in-Some-clause-found : goal.returns-in_ok-value-in-Some-clause-found
returns-in_ok-value-in-Some-clause-found g c =
    let a = g.R.Rules.answers in
    let s = c.self.inside.tables.state in
    let t = c.self.inside.tables in
    let key = g.Q.Names.named_key c.args.key.now in
    let ignores = FnOnceReturnsAt g.F.FnOnce c.args.ignore_if in
    let o = visible_record a g.K.PartialEq.eq s c.args.now key in
    let seen = subst (λ m. WasFound t c.args.hash c.find-seen.result (visible_record a g.K.PartialEq.eq s m key)) c.as_nanos.ensures.nanos c.find-seen.ensures in
    let p : PassesOver ignores t c.args.hash o (Some c.in-Some.place) = c.in-Some.ensures c.args.hash o seen in
    let f : IsFoundIn t c.args.hash (past p.ignored o) c.in-Some.place = p.found in
    let at : o ≡ Some f.found = subst (λ b. past b o ≡ Some f.found) (found-unpassed ignores t c.args.hash o c.in-Some.place p) f.is in
    let same : c.record_in.result.now ≡ f.found = same_Some _ _ (sym c.record_in.ensures ∙ f.there) in
    let is = c.requires.exact c.value.result.now c.in_ok-value-in-Some.value c.in_ok-value-in-Some.ensures.cases ∙ c.value.ensures ∙ ap (λ (r : Record g.row.K.Denot g.row.V.Denot). r.entry.value) same in
    subst (λ (x : State g.row.K.Denot g.row.V.Denot g.row.R-Predicate.Denot g.row.S.Denot g.row.R.Denot). Some c.in_ok-value-in-Some.value ≡ past false (visible_value a g.K.PartialEq.eq x c.args.now key)) c.self.view_is
    (found-value ignores t c.args.hash o c.in-Some.place c.in_ok-value-in-Some.value f.found p at is)

pub returns-in_ok-value-in-Some-clause-used : goal.returns-in_ok-value-in-Some-clause-used
returns-in_ok-value-in-Some-clause-used g c =
    let a = g.R.Rules.answers in
    let s = c.self.inside.tables.state in
    let t = c.self.inside.tables in
    let key = g.Q.Names.named_key c.args.key.now in
    let ignores = FnOnceReturnsAt g.F.FnOnce c.args.ignore_if in
    let o = visible_record a g.K.PartialEq.eq s c.args.now key in
    let seen = subst (λ m. WasFound t c.args.hash c.find-seen.result (visible_record a g.K.PartialEq.eq s m key)) c.as_nanos.ensures.nanos c.find-seen.ensures in
    let p : PassesOver ignores t c.args.hash o (Some c.in-Some.place) = c.in-Some.ensures c.args.hash o seen in
    let found : WasFound t c.args.hash (Some c.in-Some.place) o = subst (λ b. WasFound t c.args.hash (Some c.in-Some.place) (past b o)) (found-unpassed ignores t c.args.hash o c.in-Some.place p) p.found in
    let n : NotesRead a o c.args.hash c.args.now s c.note_read.new.tables.state = c.note_read.ensures o found in
    let whole : NotesLookUp a g.K.PartialEq.eq key c.args.hash c.args.now false s c.note_read.new.tables.state = record { mid = n.mid; maintains = n.maintains; reads = n.reads } in
    subst (λ (x : State g.row.K.Denot g.row.V.Denot g.row.R-Predicate.Denot g.row.S.Denot g.row.R.Denot). NotesLookUp a g.K.PartialEq.eq key c.args.hash c.args.now false x c.note_read.new.tables.state) c.self.view_is whole

pub returns-in-None-clause-asked : goal.returns-in-None-clause-asked
returns-in-None-clause-asked g c =
    let a = g.R.Rules.answers in
    let s = c.self.inside.tables.state in
    let t = c.self.inside.tables in
    let key = g.Q.Names.named_key c.args.key.now in
    let ignores = FnOnceReturnsAt g.F.FnOnce c.args.ignore_if in
    let o = visible_record a g.K.PartialEq.eq s c.args.now key in
    let seen = subst (λ m. WasFound t c.args.hash c.find-seen.result (visible_record a g.K.PartialEq.eq s m key)) c.as_nanos.ensures.nanos c.find-seen.ensures in
    let p : PassesOver ignores t c.args.hash o None = c.in-None.ensures c.args.hash o seen in
    subst (λ b. (v : g.row.V.Denot) → visible_value a g.K.PartialEq.eq c.args.self.now c.args.now key ≡ Some v → ignores v b) (sym c.is_some.ensures)
    (subst (λ (x : State g.row.K.Denot g.row.V.Denot g.row.R-Predicate.Denot g.row.S.Denot g.row.R.Denot). (v : g.row.V.Denot) → visible_value a g.K.PartialEq.eq x c.args.now key ≡ Some v → ignores v (is_some c.find-seen.result)) c.self.view_is
    (none-asked ignores t c.args.hash o c.find-seen.result seen p))

pub returns-in-None-clause-found : goal.returns-in-None-clause-found
returns-in-None-clause-found g c =
    let a = g.R.Rules.answers in
    let s = c.self.inside.tables.state in
    let t = c.self.inside.tables in
    let key = g.Q.Names.named_key c.args.key.now in
    let ignores = FnOnceReturnsAt g.F.FnOnce c.args.ignore_if in
    let o = visible_record a g.K.PartialEq.eq s c.args.now key in
    let seen = subst (λ m. WasFound t c.args.hash c.find-seen.result (visible_record a g.K.PartialEq.eq s m key)) c.as_nanos.ensures.nanos c.find-seen.ensures in
    subst (λ b. ◌≡◌ {A = Option g.row.V.Denot} None (past b (visible_value a g.K.PartialEq.eq c.args.self.now c.args.now key))) (sym c.is_some.ensures)
    (subst (λ (x : State g.row.K.Denot g.row.V.Denot g.row.R-Predicate.Denot g.row.S.Denot g.row.R.Denot). ◌≡◌ {A = Option g.row.V.Denot} None (past (is_some c.find-seen.result) (visible_value a g.K.PartialEq.eq x c.args.now key))) c.self.view_is
    (none-found ignores t c.args.hash o c.find-seen.result seen))
