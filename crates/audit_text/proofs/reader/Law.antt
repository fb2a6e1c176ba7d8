-- What is read in a text of the form.
use Rattle.std.proofs.Common.{◌≡◌, ℕ, List, Option, Some, None, sym, ap, ◌∙◌}
use Rattle.std.specs.Option.{option_map_or}
use Rattle.std.specs.Prelude.{Result, Ok, Err}
use Rattle.audit_model.specs.declared.config.Config.{Config}
use Rattle.audit_model.specs.declared.transcript.Transcript.{Transcript}
use Rattle.audit_text.specs.Text.{transcript_text}
use Rattle.audit_text.specs.Reader.Fields.{◌>>=◌}
use Rattle.audit_text.specs.Reader.Fits.{FitsConfig, FitsTranscript}
use Rattle.audit_text.specs.Reader.Gathering.{IsGiven, IsReadText, none_gathered, add_lines, finished, transcript_in_words}
use Rattle.audit_text.specs.Reader.Lines.{kept, said_lines}
use Rattle.audit_text.specs.declared.reader.fields.TextError.{TextError}
use Rattle.audit_text.specs.declared.reader.fields.TextError.TheVariants as error
use Rattle.audit_text.proofs.reader.Items.{items, fits-items, text-items, lines-items, run-items}
use Rattle.audit_text.proofs.reader.Joined.{said_lines-kept}

-- of the form's own text
said-text : (config : Config) (transcript : Transcript) → FitsConfig config → FitsTranscript transcript → (add_lines none_gathered (said_lines (transcript_text config transcript)) >>= finished) ≡ Some (config, transcript)
said-text config transcript fits_config fits_transcript =
    ap (λ t. add_lines none_gathered (said_lines t) >>= finished) (sym (text-items config transcript))
    ∙ ap (λ o. o >>= finished) (lines-items none_gathered (items config transcript) (fits-items config transcript fits_config fits_transcript))
    ∙ run-items config transcript

pub reading-text : (text : List ℕ) (config : Config) (transcript : Transcript) → FitsConfig config → FitsTranscript transcript → transcript_text config transcript ≡ kept text → transcript_in_words text ≡ Some (config, transcript)
unfolding transcript_in_words
reading-text text config transcript fits_config fits_transcript e =
    ap (λ ls. add_lines none_gathered ls >>= finished) (sym (said_lines-kept text) ∙ ap said_lines (sym e))
    ∙ said-text config transcript fits_config fits_transcript

-- two transcripts with one text are one
pub one-text : (config : Config) (transcript : Transcript) → FitsConfig config → FitsTranscript transcript → (other_config : Config) (other : Transcript) → FitsConfig other_config → FitsTranscript other
    → transcript_text config transcript ≡ transcript_text other_config other → (config ≡ other_config) × (transcript ≡ other)
one-text config transcript c t other_config other oc ot e =
    let same = sym (said-text config transcript c t) ∙ ap (λ text. add_lines none_gathered (said_lines text) >>= finished) e ∙ said-text other_config other oc ot in (
      ap (λ (o : Option (Config × Transcript)). option_map_or (λ p. p.0) o config) same,
      ap (λ (o : Option (Config × Transcript)). option_map_or (λ p. p.1) o transcript) same,
    )

-- so that is what was read
pub given : (text : List ℕ) (config : Config) (transcript : Transcript) (read : Result (Config × Transcript) TextError) → IsReadText (transcript_in_words text) read → transcript_in_words text ≡ Some (config, transcript) → IsGiven read config transcript
given text config transcript (Ok r) said law = let e = sym said ∙ law in cc
given text config transcript (Err (error.Line number)) said law = let e : None ≡ Some (config, transcript) = sym said ∙ law in cc
given text config transcript (Err error.OutOfMemory) said law = tt
