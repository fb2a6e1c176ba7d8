-- A call tells no more notes than there are values, and one more.
use Rattle.std.proofs.Common.{◌≡◌, ap, ◌∙◌, ℕ, suc, ◌+◌, ◌≤◌, arith, true, true≢false, List, [], ◌∷◌, length, Option, option_map, Some, None, option_to_list}
use Rattle.std.proofs.lemmas.Bool.{and_parts}
use Rattle.std.proofs.lemmas.List.{length-append, length-map}
use Rattle.std.proofs.lemmas.Option.{none-some}
use Rattle.audit_model.specs.Bytewise.{same}
use Rattle.audit_model.specs.Commands.{Covering, Deed, Everything, Nothing, Prefixed}
use Rattle.audit_model.specs.History.{Value}
use Rattle.audit_model.specs.Notes.{are_true_notes, candidates_of, first_with_key, newcomer}
use Rattle.audit_model.specs.Situation.{candidate_at}
use Rattle.audit_model.specs.Values.{without_key}
use Rattle.audit_model.specs.View.{Candidate}
use Rattle.audit_model.specs.declared.config.Config.{Config}
use Rattle.audit_model.specs.declared.transcript.Note.{Note}
use Rattle.cache_commands.specs.Values.{Does, HandsBy, IsSoundStore, Values}

-- ---- each note tells one of the values

shorter : (key : List ℕ) (cs : List Candidate) (c : Candidate) → first_with_key key cs ≡ Some c → suc (length (without_key (λ (c : Candidate). c.value.key) key cs)) ≡ length cs
shorter key [] c found = absurd (none-some c found)
shorter key (x ∷ cs) c found = grind (arith, shorter key cs c)

notes-few : (config : Config) (held : List Candidate) (deed : Deed) (cs : List Candidate) (notes : List Note) → are_true_notes config held deed cs notes ≡ true → length notes ≤ length cs
notes-few config held deed cs [] h = omega arith
notes-few config held deed cs (note ∷ notes) h = grind (arith, and_parts, notes-few config held deed (without_key (λ (c : Candidate). c.value.key) note.key cs) notes, true≢false, shorter note.key cs)

one-more : (config : Config) (o : Option Value) → length (option_to_list (option_map (newcomer config) o)) ≤ 1
one-more config None = omega arith
one-more config (Some v) = omega arith

candidates-few : (config : Config) (cs : List Candidate) (deed : Deed) → length (candidates_of config cs deed) ≤ length cs + 1
candidates-few config cs deed = let e = length-append cs (option_to_list (option_map (newcomer config) deed.value)) in let l = one-more config deed.value in omega (arith, e, l)

-- what waits then is what waited and no more than was told
handed-few : (covers : Covering) (old new told : List Note) → HandsBy covers old new told → length new ≤ length old + length told
handed-few Nothing old new told h = let e = ap length h.added ∙ length-append old told in omega (arith, e)
handed-few Everything old new told h = let e = ap length h.same in omega (arith, e)
handed-few (Prefixed prefix) old new told h = let e = ap length h.same in omega (arith, e)

-- NO MORE NOTES THAN VALUES
pub few : (now : ℕ) (deed : Deed) (was is : Values) → IsSoundStore was → Does now deed was is → length is.untaken ≤ length was.untaken + was.count + 1
few now deed was is sound does = grind (arith, notes-few was.frame.config, candidates-few was.frame.config, length-map sound.some (candidate_at was.frame.config now), handed-few deed.covers was.untaken is.untaken)
