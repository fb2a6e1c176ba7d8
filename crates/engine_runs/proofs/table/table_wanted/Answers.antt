use Rattle.std.proofs.Common.{◌≡◌, ap, sym, ◌∙◌, Some}
use Rattle.engine_reference.specs.Admission.{sketch_room, wants_table}
use Rattle.engine_reference.specs.Records.{admitted_number, admitted_weight}
use Rattle.engine_runs.proofs.table.table_wanted.Goals as goal

pub returns-then-wants_table-clause-some : goal.returns-then-wants_table-clause-some
returns-then-wants_table-clause-some g c =
    let s = c.args.tables.now.state in
    let capacity = c.in_ok-capacity.capacity in
    let is_set : s.settings.capacity ≡ Some capacity = ap (λ x. x.capacity) (sym c.settings.ensures) ∙ c.in_ok-capacity.was in
    let weight : c.admitted_weight-weight.result ≡ admitted_weight s.records = c.admitted_weight-weight.ensures.is in
    record {
      capacity = capacity;
      is_set = is_set;
      lacks = ap (λ o. wants_table o s.sketch (admitted_weight s.records)) is_set
          ∙ sym (c.wants_table.ensures ∙ ap (λ k. wants_table (Some capacity) k c.admitted_weight-weight.result) c.sketch.ensures ∙ ap (λ w. wants_table (Some capacity) s.sketch w) weight)
          ∙ c.if-wants_table.true;
      room = c.sketch_room.ensures ∙ ap (λ n. sketch_room capacity n c.admitted_weight-weight.result) c.admitted_number-number.ensures ∙ ap (λ w. sketch_room capacity (admitted_number s.records) w) weight;
    }
