-- What a call on the part of a key finds there.
use Rattle.std.proofs.Common.{◌≡◌, refl, ap, sym, ◌∙◌, ℕ, Option, Some, None, is_some, option_map}
use Rattle.engine_reference.specs.Records.{held_at}
use Rattle.engine_reference.specs.State.{State}
use Rattle.engine_reference.specs.Visible.{visible_record, visible_value}
use Rattle.engine_reference.specs.declared.data.Entry.{Entry}
use Rattle.engine_reference.specs.declared.data.Record.{Record}
use Rattle.engine_reference.specs.declared.data.Settings.{Settings}
use Rattle.front_parts.proofs.places.Found.{caused}
use Rattle.front_parts.specs.Places.Calls.{IsCauseIn, Ways, hash_in, held_key_in, held_key_of, held_in_part, held_value_in, visible_in, visible_of}
use Rattle.front_reference.specs.Fronts.{Front, part_by_hash}
use Rattle.front_reference.specs.Parts.{IsCause, held_value}
use Rattle.front_reference.specs.declared.errors.CacheError.{CacheError}
use Rattle.front_state.proofs.Steady.{part_of_key}

some-shown : {A B C : Type 0} (f : A → B) (g : B → C) (o : Option A) → is_some o ≡ is_some (option_map g (option_map f o))
some-shown f g None = refl
some-shown f g (Some a) = refl

module _ {K V P S R : Type 0} (ways : Ways K V P S R) (f g : Front K V P S R) (h : ℕ) (key : K) (s : State K V P S R) (same : f ≡ g) (is : h ≡ hash_in ways f key) (there : part_by_hash f h ≡ Some s) where
  pub sees_visible : (now : ℕ) → visible_value ways.answers ways.eq s now key ≡ visible_in ways g now key
  sees_visible now = ap (λ o. visible_of ways o now key) (sym (part_of_key ways f g h key s same is there))

  pub sees_some : (now : ℕ) → is_some (visible_record ways.answers ways.eq s now key) ≡ is_some (visible_in ways g now key)
  sees_some now = some-shown (λ (r : Record K V). r.entry) (λ (e : Entry K V). e.value) (visible_record ways.answers ways.eq s now key) ∙ ap is_some (sees_visible now)

  pub sees_held : held_value ways.eq s key ≡ held_value_in ways g key
  sees_held = ap (λ o. held_in_part ways o key) (sym (part_of_key ways f g h key s same is there))

  pub sees_key : option_map (λ r. r.entry.key) (held_at ways.eq s.records key) ≡ held_key_in ways g key
  sees_key = ap (λ o. held_key_of ways o key) (sym (part_of_key ways f g h key s same is there))

  pub cause_of_key : (rooms : Settings → ℕ) (e : CacheError) → IsCause (rooms s.settings) s e → IsCauseIn ways rooms g key e
  cause_of_key rooms e cause = caused ways rooms _ s e (part_of_key ways f g h key s same is there) cause
