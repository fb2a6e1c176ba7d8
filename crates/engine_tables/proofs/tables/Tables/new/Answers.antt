use Rattle.std.proofs.Common.{◌≡◌, refl, sym, ◌∙◌, ap, arith, [], length}
use Rattle.std.specs.Prelude.{count_by, is_some}
use Rattle.slab.specs.Slab.{slab_len}
use Rattle.engine_cells.specs.Cells.{AreNumberedBelow, AreListed}
use Rattle.engine_cells.specs.Tallying.{IsTallied}
use Rattle.engine_cells.proofs.Spotting.{none-spotted}
use Rattle.engine_tables.proofs.tables.Tables.new.Goals as goal

-- no cells and an empty queue fit together
none-numbered : {K V : Type 0} → AreNumberedBelow {K = K} {V = V} [] 0
none-numbered = record { apart = λ i j c d e f same. absurd (cc); below = λ i c e. absurd (cc) }

none-listed : {K V : Type 0} → AreListed {K = K} {V = V} [] []
none-listed = record { once = tt; listed = λ i. refl }

none-tallied : {K V : Type 0} → IsTallied {K = K} {V = V} [] (record { held = 0; weight = 0; number = 0 })
none-tallied = record { held = refl; weight = refl; number = refl; light = λ i c e. absurd (cc) }

pub invariant_of-result : goal.invariant_of-result
invariant_of-result g c =
    let none : slab_len c.new-2.result ≡ 0 = ap (λ l. count_by is_some l) c.new-2.ensures in
    let long : length c.new-2.result.slots ≡ 0 = ap length c.new-2.ensures in
    let u = c.in_ok-backlog.ensures in
    let reserved = u.reserved in
    let ticket = u.next_ticket in
    record {
      kept = rw c.new-2.ensures none-numbered;
      used = rw (c.new-2.ensures, c.new-3.ensures.indices) none-listed;
      written = rw (c.new-2.ensures, c.new-4.ensures.indices) none-listed;
      cells = omega (arith, none, reserved);
      access = record { room = omega (arith, none, reserved); taken = omega (arith, long); coming = omega (arith, none, reserved) };
      order = record { room = omega (arith, none, reserved); taken = omega (arith, long); coming = omega (arith, none, reserved) };
      notices = λ tells. omega (arith, none, reserved);
      tallied = rw c.new-2.ensures none-tallied;
      aimed = rw (u.reads, u.writes, u.unsent) (record { reads_are = tt; writes_are = tt; unsent_are = tt });
      reserved = omega arith;
      tickets = omega (arith, reserved, ticket);
      numbers = omega arith;
      spotted = rw c.new-2.ensures (none-spotted g.K.PartialEq.eq c.new-5.result c.new-5.ensures);
      hashed = rw c.new-2.ensures (λ i c at held. absurd (cc));
      keys = omega (arith, reserved);
      awaited = rw c.new-2.ensures (∣ (λ i c at held. absurd (cc)) ∣₁);
      live = λ live. c.new-4.ensures.kept ∙ c.is_some.ensures ∙ ap (λ t. is_some t.live) (sym u.settings_are) ∙ live;
      since = rw c.new-2.ensures (λ i c at held. absurd (cc));
    }
