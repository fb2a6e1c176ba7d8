use Rattle.std.proofs.Common.{List, ℕ, ◌++◌, [], Option, Vec, inl, inr, refl, sym, subst, ◌∙◌}
use Rattle.std.proofs.lemmas.List.{append-nil}
use Rattle.std.specs.declared.alloc.Global.{Global}
use Rattle.audit_model.specs.declared.input.LoadId.{LoadId}
use Rattle.cache_loop.specs.Loads.{SettlesOne, outs_in}
use Rattle.cache_loop.proofs.loading.Loading.settle.Goals as goal

pub returns-in-Ok-Some-clause-told : goal.returns-in-Ok-Some-clause-told
returns-in-Ok-Some-clause-told g c =
    let ok = c.in-Ok-Some in
    let came = c.settle_load.new in
    let one = ok.ensures.settled in
    let settled = subst (λ (left : Option (Vec (LoadId × List ℕ) Global)). SettlesOne g.H.Host.came c.args.self.now.conn c.args.number c.args.moment c.args.said c.args.place.now (one.0 ++ outs_in left) came.place) ok.field-0-is one.1 in
    (one.0, inl (ok.left.items, came.place, settled, c.give_up_all.ensures.each), c.give_up_all.ensures.loads ∙ one.2)

pub returns-in-Ok-None-clause-told : goal.returns-in-Ok-None-clause-told
returns-in-Ok-None-clause-told g c =
    let ok = c.in-Ok-None in
    let came = c.settle_load.new in
    let one = ok.ensures.settled in
    let settled = subst (λ (left : Option (Vec (LoadId × List ℕ) Global)). SettlesOne g.H.Host.came c.args.self.now.conn c.args.number c.args.moment c.args.said c.args.place.now (one.0 ++ outs_in left) came.place) ok.field-0-is one.1 in
    (one.0, inl ([], came.place, settled, refl), one.2)

pub returns-in-Err-clause-told : goal.returns-in-Err-clause-told
returns-in-Err-clause-told g c =
    let refused = c.in-Err.ensures.refused in
    ([], inr (c.settle_load.new.place, refused.0, c.give_up.ensures.told, refl), c.give_up.ensures.loads ∙ refused.1 ∙ sym (append-nil c.args.host.now.loads.items))
