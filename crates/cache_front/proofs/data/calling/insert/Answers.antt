use Rattle.std.proofs.Common.{arith, ap, ◌∙◌, sym}
use Rattle.audit_model.specs.Bytewise.{same}
use Rattle.front_reference.specs.Fronts.{part_of}
use Rattle.cache_front.specs.Parts.{service_answers}
use Rattle.cache_front.specs.Data.{hash_with}
use Rattle.cache_front.proofs.data.Calls.{tickets_from}
use Rattle.cache_commands.proofs.SameKeys.{equal_from_same}
use Rattle.cache_front.proofs.data.calling.insert.Goals as goal

pub returns-in-Err-clause-used_up : goal.returns-in-Err-clause-used_up
returns-in-Err-clause-used_up g c = λ used.
    let f = c.args.front.now in
    let hash = hash_with g.S.BuildHasher g.S.Hasher.Hasher in
    tickets_from (record { answers = service_answers; eq = same; hash = hash }) (λ _. 1) (λ s. omega arith) f.parts (part_of f.bits (hash f.common.hasher c.args.key.now)) c.in-Err.error c.in-Err.ensures.cause (c.refusal_of.ensures cc)

pub returns-in-Ok-clause-part : goal.returns-in-Ok-clause-part
returns-in-Ok-clause-part g c = c.part_with_hash-part.ensures.part ∙ ap (λ n. part_of c.args.front.now.bits n) c.hash-hash.ensures

pub insert_named-requires-clause-name : goal.insert_named-requires-clause-name
insert_named-requires-clause-name g c = (λ x y is. is, λ other is. sym (equal_from_same c.args.key.now other is))
