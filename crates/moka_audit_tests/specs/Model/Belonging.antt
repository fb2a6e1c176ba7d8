-- Rows of inputs and the records that belong to them, step by step.
use Rattle.std.specs.Prelude.{ℕ, List, [], ◌∷◌}
use Rattle.audit_model.specs.BelongsIn.{BelongsIn}
use Rattle.audit_model.specs.Situation.{Situation, Ready, empty_situation}
use Rattle.audit_model.specs.declared.input.Input.{Input}
use Rattle.audit_model.specs.declared.input.Input.TheVariants as input
use Rattle.audit_model.specs.declared.transcript.Record.{Record}
use Rattle.moka_audit_tests.specs.Model.Making.{text, at, opened, closed, made_feed, says, plain_config}

-- ---- good

-- of the first namespace: an opening; a feed; a close of a connection that was never opened, which is refused; an opening that found no memory
abbrev pub inputs_of_both : List Input
inputs_of_both = input.Open 1
    ∷ input.Open 2
    ∷ input.Feed (record { namespace = 1; number = 1 }) (text "GET a") (at 5)
    ∷ input.Close (record { namespace = 1; number = 7 })
    ∷ input.Close (record { namespace = 2; number = 1 })
    ∷ input.Open 1 ∷ []

abbrev pub first_records : List Record
first_records = opened 1 ∷ made_feed 1 5 (text "GET a") (says 1 "GET a" (text "NONE") ∷ []) ∷ []

abbrev pub first_last : Situation
first_last =
    record (empty_situation 0) {
      latest = 5;
      opened = 1;
      connections = record { number = 1; unread = []; standing = Ready; waited = 0 } ∷ [];
    }

-- the first of two feeds found no memory
abbrev pub inputs_of_feeds : List Input
inputs_of_feeds = input.Open 1
    ∷ input.Feed (record { namespace = 1; number = 1 }) (text "GET a") (at 5)
    ∷ input.Feed (record { namespace = 1; number = 1 }) (text "GET b") (at 6) ∷ []

abbrev pub second_records : List Record
second_records = opened 1 ∷ made_feed 1 6 (text "GET b") (says 1 "GET b" (text "NONE") ∷ []) ∷ []

abbrev pub second_last : Situation
second_last = record first_last { latest = 6 }

pub record GoodBelonging : Type 0 where
  pub first_belongs : BelongsIn plain_config 1 (empty_situation 0) inputs_of_both first_records
      first_last
  pub other_left_out : BelongsIn plain_config 2 (empty_situation 0) inputs_of_both []
      (empty_situation 0)
  pub feed_left_out : BelongsIn plain_config 1 (empty_situation 0) inputs_of_feeds second_records
      second_last

-- ---- broken

-- records that belong to no such inputs, wherever they would lead
abbrev pub NeverBelong : ℕ → List Input → List Record → Type 0
NeverBelong namespace inputs records =
    (last : Situation) → ¬ BelongsIn plain_config namespace (empty_situation 0) inputs records last

pub record BrokenBelonging : Type 0 where
  pub record_of_nothing : NeverBelong 1 [] (opened 1 ∷ [])
  pub record_of_other : NeverBelong 1 (input.Open 2 ∷ []) (opened 1 ∷ [])
  pub record_of_refused : NeverBelong 1 (input.Close (record {
    namespace = 1;
    number = 1;
  }) ∷ []) (closed 1 ∷ [])
  pub record_that_follows_not : NeverBelong 1 (input.Open 1 ∷ []) (opened 2 ∷ [])
