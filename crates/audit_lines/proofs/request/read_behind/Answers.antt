use Rattle.std.proofs.Common.{sym, ap, ◌∙◌}
use Rattle.audit_model.specs.Grammar.{read_words}
use Rattle.audit_lines.specs.Request.{verb_of}
use Rattle.audit_lines.proofs.Words.{words_behind-key, read_words-unkeyed}
use Rattle.audit_lines.proofs.request.read_behind.Goals as goal

pub returns-in-Add-clause-fit : goal.returns-in-Add-clause-fit
returns-in-Add-clause-fit c = c.read_add.ensures.fit c.args.rest.now

pub returns-then-key_fits : goal.returns-then-key_fits
returns-then-key_fits c =
    let config = c.args.config.now in
    let one = words_behind-key c.args.word c.args.rest.now c.in_default.not-Set (sym c.if-key_fits.ensures) in
    record {
      said = c.with_key.ensures.said config ∙ ap (read_words config (verb_of c.args.word)) (sym one);
      fit = c.with_key.ensures.fit config c.args.rest.now;
    }

pub returns-else-key_fits : goal.returns-else-key_fits
returns-else-key_fits c = record {
  said = sym (read_words-unkeyed c.args.config.now c.args.word c.args.rest.now c.in_default.not-Set c.in_default.not-Add (sym c.if-key_fits.ensures));
  fit = tt;
}
