use Rattle.std.proofs.Common.{List, Vec, ap, refl, subst, sym, ◌∙◌}
use Rattle.std.specs.declared.alloc.Global.{Global}
use Rattle.cache_loop.specs.Loads.{SettlesEach, held}
use Rattle.cache_loop.specs.declared.loading.Pending.{Pending}
use Rattle.cache_loop.proofs.lines.LineStewardSteward.ask_loads.Goals as goal

pub returns : goal.returns
returns g c =
    let old = c.args.self.now in
    let asked = c.ask_all in
    let settled = c.take_settled.ensures in (
      subst (λ (items : List Pending). SettlesEach g.H.Host.came g.H.Host.rests old.loading.conn (held old.host.loads.items old.loading.pending.items) old.place.now (held asked.new.host.loads.items items) asked.new.place)
          (sym (ap (λ (kept : Vec Pending Global). kept.items) settled.0)) asked.ensures.each.0,
      settled.1 ∙ asked.ensures.conn,
      refl,
    )
