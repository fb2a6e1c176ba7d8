-- A feed cut in two.
use Rattle.std.specs.Prelude.{◌≡◌, ℕ, Bool, true, false, not, List, [], ◌∷◌, ◌++◌, Some, None, ◌⊎◌}
use Rattle.std.specs.List.{list_all}
use Rattle.audit_model.specs.Follows.{Follows, after_records}
use Rattle.audit_model.specs.Obeys.{Obeys}
use Rattle.audit_model.specs.Places.{history_after}
use Rattle.audit_model.specs.Situation.{Situation, connection_in}
use Rattle.audit_model.specs.Stream.{is_open}
use Rattle.audit_model.specs.declared.config.Config.{Config}
use Rattle.audit_model.specs.declared.event.Event.TheVariants as event
use Rattle.audit_model.specs.declared.event.Instant.{Instant}
use Rattle.audit_model.specs.declared.transcript.Record.{Record}
use Rattle.audit_model.specs.declared.transcript.Step.{Step}
use Rattle.audit_model.specs.declared.transcript.Transcript.{Transcript}
use Rattle.audit_laws.specs.Breaking.{IsFaultless}

-- the record of a feed
abbrev pub feed_record : ℕ → Instant → List ℕ → List Step → Record
feed_record conn moment piece steps =
    record { event = event.Feed conn piece moment; own = None; notices = []; steps = steps }

abbrev pub none_held : List Step → Bool
none_held steps = list_all (λ step. not step.held) steps

-- the two feeds, one after the other, lead there; or the first alone does, and closes the connection
abbrev pub LeadsInTwo : Config → Situation → ℕ → Instant → List ℕ → List ℕ → List Step → List Step
    → Situation → Type 0
LeadsInTwo config s conn moment front rest first second t =
    (after_records config s
    (feed_record conn moment front first ∷ feed_record conn moment rest second ∷ []) ≡ Some t)
    ⊎ (Follows config s (feed_record conn moment front first) t × (connection_in conn t ≡ None)
    × (second ≡ []))

-- the steps of a feed cut in two, with which the two feeds lead there
pub record FollowsInTwo (config : Config) (s : Situation) (conn : ℕ) (moment : Instant)
    (front rest : List ℕ) (steps : List Step) (t : Situation) : Type 0 where
  pub first : List Step
  pub second : List Step
  pub in_parts : steps ≡ first ++ second
  pub leads : LeadsInTwo config s conn moment front rest first second t

-- the transcript with the two feeds in the middle is faultless; or the one with the first feed alone is, which closes the connection
abbrev pub FaultlessInTwo : Config → Instant → List Record → List Record → ℕ → Instant → List ℕ
    → List ℕ → List Step → List Step → Type 0
FaultlessInTwo config made before after conn moment front rest first second =
    IsFaultless config (record {
      made = made;
      records = before ++ feed_record conn moment front first ∷ feed_record conn moment rest second ∷ after;
    })
    ⊎ (IsFaultless config (record {
      made = made;
      records = before ++ feed_record conn moment front first ∷ after;
    })
    × (is_open conn (history_after config made.nanos []
    (before ++ feed_record conn moment front first ∷ [])) ≡ false)
    × (second ≡ []))

-- the steps of a feed cut in two, with which the transcript stays faultless
pub record FaultlessParts (config : Config) (made : Instant) (before after : List Record) (conn : ℕ)
    (moment : Instant) (front rest : List ℕ) (steps : List Step) : Type 0 where
  pub first : List Step
  pub second : List Step
  pub in_parts : steps ≡ first ++ second
  pub stays : FaultlessInTwo config made before after conn moment front rest first second

-- the feed after these records closes its connection
pub record ClosesItsConnection (config : Config) (made : Instant) (before : List Record) (conn : ℕ)
    (moment : Instant) (front : List ℕ) (first : List Step) : Type 0 where
  pub open_before : is_open conn (history_after config made.nanos [] before) ≡ true
  pub shut_after : is_open conn
      (history_after config made.nanos [] (before ++ feed_record conn moment front first ∷ []))
      ≡ false

-- the transcript with the two feeds in the middle
abbrev pub in_two : Instant → List Record → List Record → ℕ → Instant → List ℕ → List ℕ → List Step
    → List Step → Transcript
in_two made before after conn moment front rest first second =
    record {
      made = made;
      records = before ++ feed_record conn moment front first ∷ feed_record conn moment rest second ∷ after;
    }

-- the transcript with one feed in the middle
abbrev pub in_one : Instant → List Record → List Record → ℕ → Instant → List ℕ → List Step
    → Transcript
in_one made before after conn moment piece steps =
    record { made = made; records = before ++ feed_record conn moment piece steps ∷ after }

-- the steps of a feed cut in two, with which the transcript still obeys; and if the first feed closes the connection, it obeys without the
-- second, which has no step
pub record ObeyingParts (config : Config) (made : Instant) (before after : List Record) (conn : ℕ)
    (moment : Instant) (front rest : List ℕ) (steps : List Step) : Type 0 where
  pub first : List Step
  pub second : List Step
  pub in_parts : steps ≡ first ++ second
  pub both : Obeys config (in_two made before after conn moment front rest first second)
  pub alone : ClosesItsConnection config made before conn moment front first
      → (second ≡ []) × Obeys config (in_one made before after conn moment front first)
