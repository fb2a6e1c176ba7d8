use Rattle.std.proofs.Common.{◌≡◌, List, [], ◌∷◌, ◌++◌, None, ◌∙◌, inl, inr, refl, sym, ap, subst, rules}
use Rattle.cache_loop.specs.declared.asker.Asked.TheVariants.{Later, Now}
use Rattle.cache_loop.specs.declared.loading.Pending.{Pending}
use Rattle.cache_loop.proofs.LoadsSettled.{settle-later, settle-told-behind}
use Rattle.cache_loop.proofs.loading.Loading.ask.Goals as goal

pub returns-then-is_err-clause-each : goal.returns-then-is_err-clause-each
returns-then-is_err-clause-each g c =
    let self = c.args.self.now in
    let now = c.settle.new in
    let told = c.settle.ensures.told in
    let kept : c.reserve.new.self.items ≡ self.pending.items = search rules in
    settle-told-behind g.H.Host.came g.H.Host.rests self.conn c.args.load.number c.now-moment.result None told.0 c.args.host.now.loads.items now.host.loads.items self.pending.items now.self.pending.items c.args.place.now now.place told.1 told.2 (c.settle.ensures.same.1 ∙ kept)

pub returns-then-is_err-clause-said : goal.returns-then-is_err-clause-said
returns-then-is_err-clause-said g c =
    let told = c.settle.ensures.told in
    (c.now-moment.result, told.0, inr (c.settle.ensures.same.2, told.1))

pub returns-in-Now-clause-each : goal.returns-in-Now-clause-each
returns-in-Now-clause-each g c =
    let self = c.args.self.now in
    let now = c.settle-in-Now.new in
    let told = c.settle-in-Now.ensures.told in
    let kept : c.reserve.new.self.items ≡ self.pending.items = search rules in
    settle-told-behind g.H.Host.came g.H.Host.rests self.conn c.args.load.number c.now-moment.result c.in-Now.said told.0 c.args.host.now.loads.items now.host.loads.items self.pending.items now.self.pending.items c.args.place.now now.place told.1 told.2 (c.settle-in-Now.ensures.same.1 ∙ kept)

pub returns-in-Now-clause-said : goal.returns-in-Now-clause-said
returns-in-Now-clause-said g c =
    let told = c.settle-in-Now.ensures.told in
    let said = c.in-Now.said in
    (c.now-moment.result, told.0, inl (Now said, subst (λ a. g.A.Asker.asks c.args.self.now.asker c.args.load c.args.key (Now said) a) (sym c.settle-in-Now.ensures.same.2) c.in-Now.ensures, told.1))

pub returns-in-Later-clause-each : goal.returns-in-Later-clause-each
returns-in-Later-clause-each g c =
    let self = c.args.self.now in
    let one : Pending = record { number = c.args.load.number; due = c.due_from-due.result } in
    let kept : c.reserve.new.self.items ≡ self.pending.items = search rules in
    settle-later g.H.Host.came g.H.Host.rests self.conn one c.args.host.now.loads.items self.pending.items c.push_reserved.new.self.items c.args.place.now (c.push_reserved.ensures.items ∙ ap (λ (xs : List Pending). xs ++ one ∷ []) kept)

pub returns-in-Later-clause-said : goal.returns-in-Later-clause-said
returns-in-Later-clause-said g c = (c.now-moment.result, [], inl (Later, c.in-Later.ensures, (refl, refl)))
