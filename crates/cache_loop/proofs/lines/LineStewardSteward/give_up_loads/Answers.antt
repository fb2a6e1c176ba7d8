use Rattle.std.proofs.Common.{◌≡◌, refl, subst, rules}
use Rattle.cache_loop.specs.Loads.{GivesUpEach, numbers_pending}
use Rattle.cache_loop.proofs.lines.LineStewardSteward.give_up_loads.Goals as goal

pub returns-clause-each : goal.returns-clause-each
returns-clause-each g c =
    let out = c.give_up_out in
    let gone = c.give_up_pending in
    let old = c.args.self.now.loading in
    let conn : out.new.self.conn ≡ old.conn = search rules in
    let pending : out.new.self.pending.items ≡ old.pending.items = search rules in (
      out.new.place,
      out.ensures.each,
      subst (λ one. GivesUpEach g.H.Host.came g.H.Host.rests one out.new.place (numbers_pending old.pending.items) gone.new.place) conn
          (subst (λ items. GivesUpEach g.H.Host.came g.H.Host.rests out.new.self.conn out.new.place (numbers_pending items) gone.new.place) pending gone.ensures.each),
      refl,
    )
