use Rattle.std.proofs.Common.{◌≡◌, ◌∙◌, ap, arith, ◌++◌, length}
use Rattle.uuid.proofs.TextLemmas.{by_index_length}
use Rattle.uuid.specs.Text.{hyphenated_text, lower}
use Rattle.front_parts.specs.Wholes.Covering.{id_text}
use Rattle.front_parts.proofs.wholes.clones.write_id.Goals as goal

pub unreachable-requires : goal.unreachable-requires
unreachable-requires c =
    let long : length c.encode_lower-shown.result.now ≡ 36 = ap length c.encode_lower-shown.ensures.text ∙ by_index_length 36 _ in
    let room = c.requires.room in
    let none = c.requires.none in
    let full = c.in-Err.ensures.full in
    absurd (omega arith)

pub returns : goal.returns
unfolding id_text
returns c =
    c.in-Ok.ensures.bytes ∙ ap (λ xs. xs ++ c.encode_lower-shown.result.now) c.requires.empty ∙ c.encode_lower-shown.ensures.text
    ∙ ap (λ xs. hyphenated_text lower xs) (c.hyphenated-hyphenated.ensures ∙ c.from_u128-drawn.ensures)
