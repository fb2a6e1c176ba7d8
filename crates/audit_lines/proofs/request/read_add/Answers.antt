use Rattle.std.proofs.Common.{◌≡◌, List, ℕ, Bool, false, Option, Some, None, if◌then◌else◌, refl, sym, ap, ◌∙◌}
use Rattle.std.specs.Prelude.{option_map, is_some, Err}
use Rattle.audit_model.specs.Grammar.{Reading, read_add, deadline_in, number_in}
use Rattle.audit_model.specs.declared.config.Config.{Config}
use Rattle.audit_model.specs.declared.command.LineError.TheVariants as fault
use Rattle.audit_lines.proofs.Words.{read_words-add, read_words-add-lacking, read_words-add-short}
use Rattle.audit_lines.proofs.request.read_add.Goals as goal

pub returns-in_default-clause-said : goal.returns-in_default-clause-said
returns-in_default-clause-said c = sym (read_words-add-lacking c.args.config.now c.args.rest.now c.in_default.ensures)

pub returns-in_default-rest-clause-said : goal.returns-in_default-rest-clause-said
returns-in_default-rest-clause-said c =
    sym (read_words-add-short c.args.config.now c.args.rest.now c.in-Some.key.now c.in-Some.rest.now c.cut.result.0.now c.in-Some.ensures.0
    (sym c.cut.ensures ∙ ap (λ o. (c.cut.result.0.now, option_map (λ r. r.now) o)) c.in_default-rest.is))

is_some-mapped : {A B : Type 0} (f : A → B) (o : Option A) → is_some (option_map f o) ≡ is_some o
is_some-mapped f None = refl
is_some-mapped f (Some x) = refl

-- the words that were cut out say this
abbrev says-add : Config → Bool → List ℕ → Option (Option ℕ) → Option ℕ → Reading
says-add config more key deadline number = if more then Err fault.Syntax else read_add key deadline number

pub returns-then-is_some-clause-said : goal.returns-then-is_some-clause-said
returns-then-is_some-clause-said c =
    let config = c.args.config.now in
    let key = c.in-Some.key.now in
    let deadline = c.cut.result.0.now in
    let digits = c.cut-2.result.0.now in
    let second = sym c.cut.ensures ∙ ap (λ o. (c.cut.result.0.now, option_map (λ r. r.now) o)) c.in-Some-rest.is in
    let whole = read_words-add config c.args.rest.now key c.in-Some.rest.now deadline c.in-Some-rest.rest.now digits _ c.in-Some.ensures.0 second (sym c.cut-2.ensures) c.in-Some.ensures.1 in
    let more = is_some-mapped (λ r. r.now) c.cut-2.result.1 ∙ sym c.is_some.ensures in
    sym (whole ∙ ap (λ b. says-add config b key (deadline_in config deadline) (number_in digits)) (more ∙ c.if-is_some.true))

pub returns-in_default-read_deadline-clause-said : goal.returns-in_default-read_deadline-clause-said
returns-in_default-read_deadline-clause-said c =
    let config = c.args.config.now in
    let key = c.in-Some.key.now in
    let deadline = c.cut.result.0.now in
    let digits = c.cut-2.result.0.now in
    let second = sym c.cut.ensures ∙ ap (λ o. (c.cut.result.0.now, option_map (λ r. r.now) o)) c.in-Some-rest.is in
    let whole = read_words-add config c.args.rest.now key c.in-Some.rest.now deadline c.in-Some-rest.rest.now digits _ c.in-Some.ensures.0 second (sym c.cut-2.ensures) c.in-Some.ensures.1 in
    let more = is_some-mapped (λ r. r.now) c.cut-2.result.1 ∙ sym c.is_some.ensures in
    sym (whole ∙ ap (λ b. says-add config b key (deadline_in config deadline) (number_in digits)) (more ∙ c.if-is_some.false)
    ∙ ap (λ d. says-add config false key d (number_in digits)) (sym c.in_default-read_deadline.ensures.said))

pub returns-in-Some-number-clause-said : goal.returns-in-Some-number-clause-said
returns-in-Some-number-clause-said c =
    let config = c.args.config.now in
    let key = c.in-Some.key.now in
    let deadline = c.cut.result.0.now in
    let digits = c.cut-2.result.0.now in
    let second = sym c.cut.ensures ∙ ap (λ o. (c.cut.result.0.now, option_map (λ r. r.now) o)) c.in-Some-rest.is in
    let whole = read_words-add config c.args.rest.now key c.in-Some.rest.now deadline c.in-Some-rest.rest.now digits _ c.in-Some.ensures.0 second (sym c.cut-2.ensures) c.in-Some.ensures.1 in
    let more = is_some-mapped (λ r. r.now) c.cut-2.result.1 ∙ sym c.is_some.ensures in
    sym (whole ∙ ap (λ b. says-add config b key (deadline_in config deadline) (number_in digits)) (more ∙ c.if-is_some.false)
    ∙ ap (λ d. says-add config false key d (number_in digits)) (sym c.in-Some-read_deadline.ensures.said)
    ∙ ap (λ n. says-add config false key (Some c.in-Some-read_deadline.deadline) n) (sym c.in-Some-number.ensures))

pub returns-in-None-clause-said : goal.returns-in-None-clause-said
returns-in-None-clause-said c =
    let config = c.args.config.now in
    let key = c.in-Some.key.now in
    let deadline = c.cut.result.0.now in
    let digits = c.cut-2.result.0.now in
    let second = sym c.cut.ensures ∙ ap (λ o. (c.cut.result.0.now, option_map (λ r. r.now) o)) c.in-Some-rest.is in
    let whole = read_words-add config c.args.rest.now key c.in-Some.rest.now deadline c.in-Some-rest.rest.now digits _ c.in-Some.ensures.0 second (sym c.cut-2.ensures) c.in-Some.ensures.1 in
    let more = is_some-mapped (λ r. r.now) c.cut-2.result.1 ∙ sym c.is_some.ensures in
    sym (whole ∙ ap (λ b. says-add config b key (deadline_in config deadline) (number_in digits)) (more ∙ c.if-is_some.false)
    ∙ ap (λ d. says-add config false key d (number_in digits)) (sym c.in-Some-read_deadline.ensures.said)
    ∙ ap (λ n. says-add config false key (Some c.in-Some-read_deadline.deadline) n) (sym c.in-None.ensures))
