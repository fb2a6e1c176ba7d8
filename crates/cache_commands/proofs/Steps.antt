-- What a step leaves, and that its notes are true.
use Rattle.audit_model.specs.Changes.{held_after, use_after}
use Rattle.audit_model.specs.Commands.{Deed, Covering, Nothing}
use Rattle.audit_model.specs.History.{Value}
use Rattle.audit_model.specs.Notes.{are_true_notes, candidates_of, is_succeeded}
use Rattle.audit_model.specs.Situation.{HeldValue, candidate_at}
use Rattle.audit_model.specs.declared.config.Config.{Config}
use Rattle.audit_model.specs.declared.transcript.Note.{Note}
use Rattle.cache_commands.specs.Promises.{no_deed}
use Rattle.cache_commands.proofs.Held.{value_at-map, apart-map}
use Rattle.cache_commands.specs.Held.{plain, Corresponds, value_at}
use Rattle.std.proofs.Common.{◌≡◌, ℕ, Bool, true, not, List, [], ◌∷◌, map, Option, option_map, Some, None, refl, ap, ◌∙◌, arith}
use Rattle.std.proofs.Math.Bool.{or-false}
use Rattle.std.proofs.lemmas.List.{append-nil, length-map}
use Rattle.std.specs.List.{list_all}

-- ---- tests of all values held

module _ (config : Config) (now : ℕ) (held : List HeldValue) (deed : Deed) (notes : List Note) where
  -- a value that is neither used nor covered stays as it is
  pub after_plain : (values : List Value) → deed.covers ≡ Nothing → (h : HeldValue) → use_after config now deed h ≡ h.last_use → plain (held_after config now held deed notes values h) ≡ plain h
  after_plain values none h used = grind (arith, or-false h.covered)

same-none : (f : HeldValue → HeldValue) (o : Option HeldValue) → ((h : HeldValue) → o ≡ Some h → plain (f h) ≡ plain h) → option_map plain (option_map f o) ≡ option_map plain o
same-none f None e = refl
same-none f (Some h) e = ap (λ x. Some x) (e h refl)

-- values that change in nothing that the items know
pub corresponds-as : (f : HeldValue → HeldValue) (items held : List HeldValue) → ((h : HeldValue) → (f h).value.key ≡ h.value.key)
    → ((key : List ℕ) (h : HeldValue) → value_at held key ≡ Some h → plain (f h) ≡ plain h) → Corresponds items held → Corresponds items (map f held)
corresponds-as f items held same_key e c = record {
  found = λ q. ap (option_map plain) (value_at-map f held q same_key) ∙ same-none f (value_at held q) (e q) ∙ c.found q;
  number = length-map held f ∙ c.number;
  apart = apart-map f held same_key ∙ c.apart;
}

-- ---- steps that write and delete nothing

pub none_succeeded : (config : Config) (now : ℕ) (used : Option (List ℕ)) (covers : Covering) (synced : Bool) (held : List HeldValue)
    → list_all (λ c. not (is_succeeded (record no_deed { uses = used; covers = covers; syncs = synced }) c)) (map (candidate_at config now) held) ≡ true
none_succeeded config now used covers synced [] = refl
none_succeeded config now used covers synced (h ∷ held) = none_succeeded config now used covers synced held

-- telling nothing is right
pub right_to_tell_none : (config : Config) (now : ℕ) (used : Option (List ℕ)) (covers : Covering) (synced : Bool) (held : List HeldValue)
    → let deed = record no_deed { uses = used; covers = covers; syncs = synced } in
    are_true_notes config (map (candidate_at config now) held) deed (candidates_of config (map (candidate_at config now) held) deed) [] ≡ true
right_to_tell_none config now used covers synced held = grind (arith, append-nil (map (candidate_at config now) held), none_succeeded config now used covers synced held)
