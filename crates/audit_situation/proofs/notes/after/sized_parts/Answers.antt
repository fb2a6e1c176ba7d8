use Rattle.std.proofs.Common.{arith, ◌≡◌, sym, ap, ◌∙◌, ℕ, ◌+◌, ◌<◌, Bool, false, ◌||◌, ◌&&◌, ◌==◌, List, [], ◌∷◌, ◌++◌, length, take, get_or, Option, Some, None, option_map}
use Rattle.std.specs.List.{list_any, find}
use Rattle.std.specs.Option.{option_map_or, option_to_list}
use Rattle.std.proofs.lemmas.List.{append-nil, take_more}
use Rattle.std.proofs.lemmas.List.Folds.{list_any-append}
use Rattle.audit_model.specs.Bytewise.{same}
use Rattle.audit_model.specs.History.{Value}
use Rattle.audit_model.specs.Notes.{tells_size, same_cause}
use Rattle.audit_model.specs.declared.transcript.Note.{Note}
use Rattle.audit_model.specs.declared.transcript.RemovalCause.TheVariants.{Size}
use Rattle.audit_situation.specs.Notes.After.{is_among, values_to_tell, sized_part}
use Rattle.audit_situation.proofs.notes.after.sized_parts.Goals as goal
use Rattle.audit_situation.proofs.notes.after.sized_parts.Goals.{in-Some+in_ok-push, in_default}

abbrev hits : List Value → ℕ → Note → Bool
hits values part n = same_cause n.cause Size && option_map_or (λ v. v.part == part) (find (λ v. same n.key v.key) values) false

hit-is : (values : List Value) (part : ℕ) (n : Note) → list_any (λ p. p == part) (option_to_list (sized_part values n)) ≡ (hits values part n || false)
hit-is values part n = grind arith

sized-more : (values : List Value) (notes : List Note) (i : ℕ) (note : Note) (ps : List ℕ) (o : Option ℕ) (part : ℕ) → i < length notes → note ≡ get_or notes i note → o ≡ sized_part values note
    → is_among ps part ≡ tells_size part values (take i notes) → is_among (ps ++ option_to_list o) part ≡ tells_size part values (take (i + 1) notes)
sized-more values notes i note ps o part lt is e h =
    list_any-append (λ p. p == part) ps (option_to_list o) ∙ ap (λ b. b || list_any (λ p. p == part) (option_to_list o)) h
    ∙ ap (λ b. tells_size part values (take i notes) || b) (ap (λ o. list_any (λ p. p == part) (option_to_list o)) e ∙ hit-is values part note)
    ∙ sym (ap (tells_size part values) (take_more notes i note lt ∙ ap (λ n. take i notes ++ n ∷ []) (sym is)) ∙ list_any-append (hits values part) (take i notes) (note ∷ []))

pub loop-note-preserved : goal.loop-note-preserved
loop-note-preserved c part =
    let values = values_to_tell c.args.held.now (option_map (λ h. h.now) c.args.newcomer) in
    let more = λ (o : Option ℕ). sized-more values c.args.notes.now c.loop-note.note-index c.note-item.result c.loop-note.parts.items o part c.loop-note-test.true c.note-item.is in
    elim c.match-sized_part.branch [
      | in-Some+in_ok-push w ↦
          ap (λ v. is_among v.items part) w.parts-is ∙ ap (λ ps. is_among ps part) w.in_ok-push.ensures.items
          ∙ more (Some w.in-Some.part) (sym w.in-Some.is ∙ c.sized_part.ensures) (c.loop-note.invariant part)
      | in_default w ↦
          ap (λ v. is_among v.items part) w.parts-is ∙ ap (λ ps. is_among ps part) (sym (append-nil c.loop-note.parts.items))
          ∙ more None (sym w.in_default.is ∙ c.sized_part.ensures) (c.loop-note.invariant part)
    ]
