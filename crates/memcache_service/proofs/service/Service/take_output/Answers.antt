use Rattle.std.proofs.Common.{◌≡◌, ◌∙◌, ℕ, Some, is_some, ap, sym}
use Rattle.slab.proofs.SlabLemmas.{Updates-with_value}
use Rattle.slab.specs.Slab.{get}
use Rattle.memcache_model.specs.Counts.{added}
use Rattle.memcache_service.proofs.service.Service.take_output.Goals as goal

pub returns-in-Some-clause-takes : goal.returns-in-Some-clause-takes
returns-in-Some-clause-takes g c = λ _.
    let was : get c.args.self.now.connections c.args.conn ≡ Some c.in-Some.connection.now = sym c.in-Some.ensures.value in
    record {
      before = c.in-Some.connection.now;
      after = c.take_output.new.self;
      was = was;
      is = Updates-with_value c.args.self.now.connections c.args.conn c.take_output.new.self (ap is_some was);
      done = (c.take_output.ensures.taken, c.take_output.ensures.left, ap (λ (n : ℕ). record c.args.self.now.stock { counters = record c.args.self.now.stock.counters { bytes_written = n } }) (c.add.ensures ∙ ap (added c.args.self.now.stock.counters.bytes_written) (c.len.ensures ∙ c.take_output.new.into.ok.0)));
    }
