-- Each row by computation.
use Rattle.std.proofs.Common.{◌≡◌, refl, [], ◌∷◌, inl, inr}
use Rattle.audit_model.specs.BelongsIn.{BelongsIn}
use Rattle.audit_model.specs.Situation.{empty_situation}
use Rattle.audit_model.specs.declared.input.Input.TheVariants as input
use Rattle.moka_audit_tests.specs.Model.Belonging.{inputs_of_both, first_records, first_last, inputs_of_feeds, second_records, second_last, NeverBelong}
use Rattle.moka_audit_tests.specs.Model.Making.{opened, closed, plain_config}
use Rattle.moka_audit_tests.proofs.model.rows_of_belonging.Goals as goal

first_belongs : BelongsIn plain_config 1 (empty_situation 0) inputs_of_both first_records first_last
first_belongs = inl (record { event = refl; next = _; follows = refl; rest = inl (record { event = refl; next = _; follows = refl; rest = (refl, refl) }) })

feed_left_out : BelongsIn plain_config 1 (empty_situation 0) inputs_of_feeds second_records second_last
feed_left_out = inl (record { event = refl; next = _; follows = refl; rest = inr (inl (record { event = refl; next = _; follows = refl; rest = (refl, refl) })) })

record_of_nothing : NeverBelong 1 [] (opened 1 ∷ [])
record_of_nothing last h = let e : opened 1 ∷ [] ≡ [] = h.0 in cc

record_of_other : NeverBelong 1 (input.Open 2 ∷ []) (opened 1 ∷ [])
record_of_other last h = let e : opened 1 ∷ [] ≡ [] = h.0 in cc

record_of_refused : NeverBelong 1 (input.Close (record { namespace = 1; number = 1 }) ∷ []) (closed 1 ∷ [])
record_of_refused last h = let e : closed 1 ∷ [] ≡ [] = h.0 in cc

record_that_follows_not : NeverBelong 1 (input.Open 1 ∷ []) (opened 2 ∷ [])
record_that_follows_not last (inl taken) = let e = taken.follows in cc
record_that_follows_not last (inr h) = let e : opened 2 ∷ [] ≡ [] = h.0 in cc

pub returns-clause-good : goal.returns-clause-good
returns-clause-good c = record { first_belongs = first_belongs; other_left_out = (refl, refl); feed_left_out = feed_left_out }

pub returns-clause-broken : goal.returns-clause-broken
returns-clause-broken c = record { record_of_nothing = record_of_nothing; record_of_other = record_of_other; record_of_refused = record_of_refused; record_that_follows_not = record_that_follows_not }
