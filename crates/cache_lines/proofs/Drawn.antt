-- Identifiers drawn by one step after another.
use Rattle.std.proofs.Common.{zero, ap, ◌∙◌, arith, ◌≡◌, ℕ, suc, ◌+◌, true, false, List, [], ◌∷◌, ◌++◌, Option, codes}
use Rattle.std.proofs.lemmas.Bool.{and_parts}
use Rattle.audit_model.specs.Bytewise.{same}
use Rattle.audit_model.specs.Grammar.{reading}
use Rattle.audit_model.specs.History.{part_count}
use Rattle.audit_model.specs.declared.config.Config.{Config}
use Rattle.audit_model.specs.declared.transcript.Accepted.{Accepted}
use Rattle.audit_model.specs.declared.transcript.Note.{Note}
use Rattle.audit_model.specs.declared.transcript.Step.{Step}
use Rattle.cache_commands.proofs.Drawn.{draws-none, spends-none}
use Rattle.cache_commands.specs.Answered.{says_drop}
use Rattle.cache_commands.specs.Drawing.{DrawsForParts}
use Rattle.cache_commands.specs.Right.{step_saying}
use Rattle.cache_lines.specs.Drawing.{Identifiers, Spends, StepDraws, StepsDraw}
use Rattle.cache_lines.specs.Tape.Taped.{step_held}
use Rattle.std.proofs.lemmas.Slice.Eq.{bytes_eq-Decides}
use Rattle.rand_core.specs.Stream.{Stream}
use Rattle.cache_commands.specs.Identifiers.{next_drawn, stream_left, Register, KeepsIdentifiers, AreUsedUp}

pub keeps-more : (a b c : Stream) (x y z : Register) → KeepsIdentifiers a b x y → KeepsIdentifiers b c y z → KeepsIdentifiers a c x z
keeps-more a b c x y z k l = record { stream = l.stream ∙ k.stream; registered = λ part id h. k.registered part id (l.registered part id h) }

-- none is drawn
pub spends-same : (a : Identifiers) → Spends a a
spends-same a = spends-none a.stream a.registered

stream_left-more : (m n : ℕ) (stream : Stream) → stream_left m (stream_left n stream) ≡ stream_left (m + n) stream
stream_left-more zero n stream = let e : n ≡ 0 + n = omega arith in ap (λ k. stream_left k stream) e
stream_left-more (suc m) n stream =
    let e : suc (m + n) ≡ suc m + n = omega arith in ap (λ s. (next_drawn s).1) (stream_left-more m n stream) ∙ ap (λ k. stream_left k stream) e

-- some are drawn, and more
pub spends-more : (a b c : Identifiers) → Spends a b → Spends b c → Spends a c
spends-more a b c s t = record {
  number = t.number + s.number;
  stream = t.stream ∙ ap (stream_left t.number) s.stream ∙ stream_left-more t.number s.number a.stream;
  registered = λ part id h. s.registered part id (t.registered part id h);
}

-- what is registered no more makes no difference
pub step-kept : (config : Config) (step : Step) (a b c : Identifiers) → StepDraws config step a b → KeepsIdentifiers b.stream c.stream b.registered c.registered → StepDraws config step a c
step-kept config step a b c s k = record {
  draws = record {
    number = s.draws.number;
    stream = k.stream ∙ s.draws.stream;
    registered = λ part. let at = s.draws.registered part in (at.0, λ id h. at.1 id (k.registered part id h));
  };
  used_up = λ e. let u = s.used_up e in record { part = u.part; is_part = u.is_part; first = u.first; number = u.number; thousand = u.thousand; stream = k.stream ∙ u.stream; each = u.each };
}

-- some are drawn before such steps
pub draws-kept : (config : Config) (steps : List Step) (a b c : Identifiers) → Spends a b → StepsDraw config steps b c → StepsDraw config steps a c
draws-kept config [] a b c s t = spends-more a b c s t
draws-kept config (step ∷ steps) a b c s t = (t.0, t.1, spends-more a b t.0 s t.2, t.3, t.4)

-- a line that is held back draws none
pub held-draws : (config : Config) (number : ℕ) (line : List ℕ) (a : Identifiers) → StepDraws config (step_held number line) a a
held-draws config number line a = record {
  draws = draws-none a.stream a.registered;
  used_up = λ e. let no : false ≡ true = (and_parts (says_drop (reading config line)) false e).1 in cc;
}

-- a line's step, by what it wrote
pub step-drawn : (config : Config) (number : ℕ) (line reply old new : List ℕ) (accepted : Option Accepted) (told : List Note) (a b : Identifiers)
    → DrawsForParts a.stream b.stream a.registered b.registered
    → (says_drop (reading config line) ≡ true → new ≡ old ++ codes "ERR id\n" → AreUsedUp (part_count config) a.stream b.stream a.registered)
    → new ≡ old ++ reply → StepDraws config (step_saying number line reply accepted told) a b
step-drawn config number line reply old new accepted told a b d used w = record {
  draws = d;
  used_up = λ e.
      let both = and_parts (says_drop (reading config line)) (same reply (codes "ERR id\n")) e in
      used both.0 (w ∙ ap (λ r. old ++ r) ((bytes_eq-Decides reply (codes "ERR id\n")).0 both.1));
}
