-- Two transcripts of the same events.
use Rattle.std.specs.Prelude.{◌≡◌, ℕ, Bool, true, false, List, [], ◌∷◌, Option, Some, is_some, codes}
use Rattle.std.specs.Option.{option_eq}
use Rattle.audit_model.specs.Bytewise.{same, text_line}
use Rattle.audit_model.specs.Commands.{is_sync}
use Rattle.audit_model.specs.Grammar.{reading}
use Rattle.audit_model.specs.Steps.{action_by}
use Rattle.audit_model.specs.declared.config.Config.{Config}
use Rattle.audit_model.specs.declared.config.EvictionPolicy.{EvictionPolicy}
use Rattle.audit_model.specs.declared.transcript.Record.{Record}
use Rattle.audit_model.specs.declared.transcript.Step.{Step}
use Rattle.audit_laws.specs.Telling.{notes_of, none_with_size}

-- the configuration with another capacity, eviction policy and number of parts
abbrev pub otherwise : Config → Option ℕ → EvictionPolicy → ℕ → Config
otherwise config capacity policy parts =
    record config { capacity = capacity; policy = policy; parts = parts }

-- a `DROPIF` that is not accepted
abbrev pub is_refused : Step → Bool
is_refused step = option_eq same step.reply (Some (text_line (codes "ERR id")))

-- as far as both have steps, the same ones are held back, and the same ones are a `DROPIF` that is not accepted
abbrev pub TakenAlike : List Step → List Step → Type 0
TakenAlike [] ys = Unit {0}
TakenAlike (x ∷ xs) [] = Unit {0}
TakenAlike (x ∷ xs) (y ∷ ys) = (x.held ≡ y.held) × (is_refused x ≡ is_refused y) × TakenAlike xs ys

-- the line is a `SYNC`
abbrev pub reads_sync : Config → Step → Bool
reads_sync config step = is_sync (action_by (reading config step.line))

-- both run the same line of the same connection, send the same load, accept a value or none, and reply the same, unless the line is a `SYNC`
pub record AnswersAlike (config : Config) (x y : Step) : Type 0 where
  pub conn : x.conn ≡ y.conn
  pub line : x.line ≡ y.line
  pub load : x.load ≡ y.load
  pub accepted : is_some x.accepted ≡ is_some y.accepted
  pub reply : reads_sync config x ≡ false → x.reply ≡ y.reply

-- as many steps, each pair alike
abbrev pub AnswerAlike : Config → List Step → List Step → Type 0
AnswerAlike config [] [] = Unit {0}
AnswerAlike config [] (y ∷ ys) = ⊥
AnswerAlike config (x ∷ xs) [] = ⊥
AnswerAlike config (x ∷ xs) (y ∷ ys) = AnswersAlike config x y × AnswerAlike config xs ys

-- the same event, and the same steps held back or refused; and nothing is reported as `Size`
pub record HappensAlike (x y : Record) : Type 0 where
  pub event : x.event ≡ y.event
  pub taken : TakenAlike x.steps y.steps
  pub sizeless : none_with_size (notes_of x) ≡ true
  pub sizeless_too : none_with_size (notes_of y) ≡ true

-- as many records, with this true of each pair
abbrev pub HappenAlike : List Record → List Record → Type 0
HappenAlike [] [] = Unit {0}
HappenAlike [] (y ∷ ys) = ⊥
HappenAlike (x ∷ xs) [] = ⊥
HappenAlike (x ∷ xs) (y ∷ ys) = HappensAlike x y × HappenAlike xs ys

-- as many records, whose steps have the same replies
abbrev pub ReplyAlike : Config → List Record → List Record → Type 0
ReplyAlike config [] [] = Unit {0}
ReplyAlike config [] (y ∷ ys) = ⊥
ReplyAlike config (x ∷ xs) [] = ⊥
ReplyAlike config (x ∷ xs) (y ∷ ys) = AnswerAlike config x.steps y.steps × ReplyAlike config xs ys
