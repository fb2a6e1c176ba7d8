use Rattle.std.proofs.Common.{Some, None, ap, ◌∙◌}
use Rattle.std.proofs.lemmas.Bool.Decides.{Decides-eqb}
use Rattle.std.proofs.lemmas.Slice.Eq.{strip_prefix_is}
use Rattle.audit_text.specs.Reader.Fields.{behind_prefix}
use Rattle.audit_text.proofs.reader.Wording.{behind_prefix-append, behind_prefix-none}
use Rattle.audit_text.proofs.reader.fields.read_setting.Goals as goal

pub returns-in-Some : goal.returns-in-Some
returns-in-Some c =
    let name = c.args.name.now in
    ap (behind_prefix name) (strip_prefix_is Decides-eqb c.args.word.now name (Some c.in-Some.rest) c.in-Some.ensures.cases) ∙ behind_prefix-append name c.in-Some.rest.now

pub returns-in-None : goal.returns-in-None
returns-in-None c = behind_prefix-none c.args.name.now c.args.word.now (strip_prefix_is Decides-eqb c.args.word.now c.args.name.now None c.in-None.ensures.cases)
