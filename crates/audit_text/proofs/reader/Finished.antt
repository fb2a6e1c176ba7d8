-- What was gathered is finished when its last step and record are closed.
use Rattle.std.proofs.Common.{◌≡◌, refl, sym, ap, ◌∙◌, Option, Some, None}
use Rattle.std.specs.Prelude.{option_map}
use Rattle.audit_text.specs.Reader.Fields.{◌>>=◌, IsFault}
use Rattle.audit_text.specs.declared.reader.fields.LineFault.{LineFault}
use Rattle.audit_text.specs.declared.reader.fields.LineFault.TheVariants as fault
use Rattle.audit_text.specs.Reader.Gathered.{gathered_text}
use Rattle.audit_text.specs.Reader.Gathering.{closed_step, closed_record, finished}
use Rattle.audit_text.specs.declared.reader.gathering.Gathered.{Gathered}
use Rattle.audit_model.specs.declared.config.Config.{Config}
use Rattle.audit_model.specs.declared.transcript.Record.{Record}
use Rattle.audit_model.specs.declared.transcript.Transcript.{Transcript}

-- nothing is open there
abbrev pub bare : Gathered → Gathered
bare g = record g { last = None; step = None }

abbrev ended : Gathered → Option (Config × Transcript)
ended g = g.config >>= (λ config. g.made >>= (λ made. Some (config, record { made = made; records = (closed_record g).records })))

abbrev whole : Gathered → Option (Config × Transcript)
whole g = g.config >>= (λ config. g.made >>= (λ made. Some (config, record { made = made; records = g.records })))

of_closed : (g : Gathered) → ended g ≡ whole (closed_record g)
of_closed g = go g.last
  where
    go : (r : Option Record) → ended (record g { last = r }) ≡ whole (closed_record (record g { last = r }))
    go None = refl
    go (Some r) = refl

of_some : (o : Option Gathered) (m : Gathered) → option_map closed_record o ≡ Some m → (o >>= ended) ≡ whole m
of_some None m e = let no : None ≡ Some m = e in cc
of_some (Some k) m e = let is : closed_record k ≡ m = cc in of_closed k ∙ ap whole is

pub finished-bare : (g m : Gathered) → option_map closed_record (closed_step g) ≡ Some m → finished g ≡ finished (bare m)
unfolding finished
finished-bare g m e = of_some (closed_step g) m e

pub bare-text : (m : Gathered) → m.last ≡ None → m.step ≡ None → gathered_text (bare m) ≡ gathered_text m
bare-text m r s = ap (λ o. gathered_text (record m { last = o; step = None })) (sym r) ∙ ap (λ o. gathered_text (record m { step = o })) (sym s)

pub fault-step : (g : Gathered) (f : LineFault) → IsFault (closed_step g) f → IsFault (option_map closed_record (closed_step g)) f
fault-step g fault.Form h = ap (option_map closed_record) h
fault-step g fault.OutOfMemory h = tt
