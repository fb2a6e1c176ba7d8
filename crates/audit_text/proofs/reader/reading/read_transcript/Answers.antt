use Rattle.audit_text.proofs.reader.Law.{given, reading-text}
use Rattle.audit_text.proofs.reader.reading.read_transcript.Goals as goal

pub returns-clause-exact : goal.returns-clause-exact
returns-clause-exact c = λ config transcript fits_config fits_transcript e.
    given c.args.text.now config transcript c.read_lines.result c.read_lines.ensures.said (reading-text c.args.text.now config transcript fits_config fits_transcript e)
