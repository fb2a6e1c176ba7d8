use Rattle.std.proofs.Common.{◌≤◌, ◌∙◌, map, subst, sym, vec_capacity}
use Rattle.std.proofs.Math.Logic.{∥∥₁_map}
use Rattle.cache_spaces.specs.Calls.{TakesLoads}
use Rattle.cache_spaces.specs.Cursors.{cursor_of}
use Rattle.cache_spaces.proofs.Gaining.{loads-reads, loads-have}
use Rattle.cache_spaces.proofs.Journaling.{step-length, were-loads}
use Rattle.cache_spaces.proofs.journals.RecordedService.take_loads.Goals as goal

pub invariant_of-self : goal.invariant_of-self
invariant_of-self c =
    let inside = c.self.inside in (
      ∥∥₁_map c.self.invariant.0 (were-loads c.args.namespace inside.core c.take_loads.new.self c.take_loads.result (λ loads was is. TakesLoads was is loads.items) (λ loads was is t. t.rest) c.take_loads.ensures.taken c.take_loads.ensures.unchanged),
      c.self.invariant.1,
      subst (λ n. n ≤ vec_capacity inside.room) (sym (step-length c.args.namespace inside.core c.take_loads.new.self c.take_loads.result (λ loads was is. TakesLoads was is loads.items) c.take_loads.ensures.taken c.take_loads.ensures.unchanged)) c.self.invariant.2,
      c.self.invariant.3 ∙ sym (step-length c.args.namespace inside.core c.take_loads.new.self c.take_loads.result (λ loads was is. TakesLoads was is loads.items) c.take_loads.ensures.taken c.take_loads.ensures.unchanged),
      loads-reads c.args.namespace inside.core c.take_loads.new.self (map cursor_of inside.read.items) c.take_loads.result (λ loads was is. TakesLoads was is loads.items) (λ loads was is t. t.rest) c.take_loads.ensures.taken c.take_loads.ensures.unchanged c.self.invariant.4,
      loads-have c.args.namespace inside.core c.take_loads.new.self inside.read.items c.take_loads.result (λ loads was is. TakesLoads was is loads.items) (λ loads was is t. t.rest) c.take_loads.ensures.taken c.take_loads.ensures.unchanged c.self.invariant.5,
    )
