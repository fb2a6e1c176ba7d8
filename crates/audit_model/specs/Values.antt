-- Values: accepted, used, covered, reported, held, live.
use Rattle.std.specs.Prelude.{ℕ, ◌+◌, ◌-◌, ◌*◌, ◌%◌, min, Bool, false, not, ◌&&◌, ◌||◌, nat_le, List, [], ◌∷◌, ◌++◌, Option, Some, None, if◌then◌else◌, is_some}
use Rattle.std.specs.List.{list_any, filter_map}
use Rattle.std.specs.Option.{option_map, option_map_or, option_to_list}
use Rattle.audit_model.specs.Commands.{is_step_that, looks_up, covers, deletes}
use Rattle.audit_model.specs.Bytewise.{same, is_before}
use Rattle.audit_model.specs.History.{History, Happening, Effect, Value, value_of, effect_of}
use Rattle.audit_model.specs.declared.config.Config.{Config}
use Rattle.audit_model.specs.declared.transcript.Note.{Note}

-- an own deadline is rounded down to a multiple of 4096 nanoseconds
abbrev pub rounded : ℕ → ℕ
rounded moment = moment - moment % 4096

-- the moment this many milliseconds later
abbrev pub after_ms : ℕ → ℕ → ℕ
after_ms moment ms = moment + ms * 1000000

-- a value that is accepted at a moment and lives this many milliseconds
abbrev pub own_deadline_from : ℕ → Option ℕ → Option ℕ
own_deadline_from moment ms = option_map (λ n. rounded (after_ms moment n)) ms

-- the earlier one, of those that exist
abbrev pub earlier_deadline : Option ℕ → Option ℕ → Option ℕ
earlier_deadline None b = b
earlier_deadline (Some a) None = Some a
earlier_deadline (Some a) (Some b) = Some (min a b)

-- the earliest of the value's own deadline, its acceptance plus the live time, and its last use plus the idle time, of those that exist
abbrev pub deadline : Config → Value → ℕ → Option ℕ
deadline config value last_use =
    earlier_deadline value.own_deadline
    (earlier_deadline (option_map (after_ms value.accepted_at) config.live_ms)
    (option_map (after_ms last_use) config.idle_ms))

-- there is a deadline, and it is at or before this moment
abbrev pub deadline_has_come : Option ℕ → ℕ → Bool
deadline_has_come None now = false
deadline_has_come (Some moment) now = nat_le moment now

-- there is a value, and it is of this key
abbrev pub is_value_of : List ℕ → Option Value → Bool
is_value_of key None = false
is_value_of key (Some value) = same key value.key

-- a value of the key was accepted
abbrev pub accepts : List ℕ → Happening → Bool
accepts key h = is_value_of key (value_of h)

-- the last accepted value of the key
abbrev pub last_accepted : List ℕ → History → Option Value
last_accepted key [] = None
last_accepted key (h ∷ past) = if accepts key h then value_of h else last_accepted key past

-- since the key's last acceptance there was a `CLEAR`, or an accepted `DROPIF` of a prefix of it
abbrev pub is_key_covered : List ℕ → History → Bool
is_key_covered key [] = false
is_key_covered key (h ∷ past) =
    if accepts key h then false else (is_step_that (covers key) h || is_key_covered key past)

-- since the key's last acceptance there was a `DEL` of it
abbrev pub is_deleted : List ℕ → History → Bool
is_deleted key [] = false
is_deleted key (h ∷ past) =
    if accepts key h then false else (is_step_that (deletes key) h || is_deleted key past)

-- the list without the first value of the key
abbrev pub without_key : {A : Type 0} → (A → List ℕ) → List ℕ → List A → List A
without_key key_of key [] = []
without_key key_of key (x ∷ xs) = if same key (key_of x) then xs else x ∷ without_key key_of key xs

-- what is left after each note has reported the first value of its key
abbrev pub untold : {A : Type 0} → (A → List ℕ) → List Note → List A → List A
untold key_of [] xs = xs
untold key_of (note ∷ notes) xs = untold key_of notes (without_key key_of note.key xs)

-- the values held after what happened: a step's own value is added, and those that it reports leave
abbrev pub untold_after : Option Effect → List Value → List Value
untold_after None values = values
untold_after (Some effect) values =
    untold (λ v. v.key) effect.notes (values ++ option_to_list effect.value)

-- the values held, oldest first: accepted, and not reported
abbrev pub held_values : History → List Value
held_values [] = []
held_values (h ∷ past) = untold_after (effect_of h) (held_values past)

-- no value of the key is held: its last accepted one, if there is one, was reported
abbrev pub is_told : List ℕ → History → Bool
is_told key past = not (list_any (λ v. same key v.key) (held_values past))

-- the value was not covered, deleted or reported before, and its deadline has not come
abbrev pub lives : Config → List ℕ → History → ℕ → ℕ → Value → Bool
lives config key past last_use now value =
    not (is_deleted key past) && not (is_key_covered key past) && not (is_told key past)
    && not (deadline_has_come (deadline config value last_use) now)

-- the value, if it is live
abbrev pub if_lives : Config → List ℕ → History → ℕ → ℕ → Option Value → Option Value
if_lives config key past last_use now None = None
if_lives config key past last_use now (Some value) =
    if lives config key past last_use now value then Some value else None

-- the step's moment
abbrev pub moment_of : Happening → ℕ
moment_of h = option_map_or (λ effect. effect.at) (effect_of h) 0

-- the last use of the key's last accepted value: its acceptance, or a later `GET`, `LOAD` or `ADD` that found it live
abbrev pub last_use : Config → List ℕ → History → ℕ
last_use config key [] = 0
last_use config key (h ∷ past) =
    let used = last_use config key past in
    if accepts key h then moment_of h
    else (if is_step_that (looks_up key) h && is_some (if_lives config key past used (moment_of h)
    (last_accepted key past)) then moment_of h else used)

-- the live value of the key at a moment, after all that happened
abbrev pub live_value : Config → List ℕ → History → ℕ → Option Value
live_value config key past now =
    if_lives config key past (last_use config key past) now (last_accepted key past)

-- the sorted keys with one more, in its place
abbrev pub put_sorted : List ℕ → List (List ℕ) → List (List ℕ)
put_sorted key [] = key ∷ []
put_sorted key (k ∷ ks) = if is_before key k then key ∷ k ∷ ks else k ∷ put_sorted key ks

-- the keys in byte order
abbrev pub sorted : List (List ℕ) → List (List ℕ)
sorted [] = []
sorted (k ∷ ks) = put_sorted k (sorted ks)

-- the held keys that have a live value, in byte order
abbrev pub live_keys : Config → History → ℕ → List (List ℕ)
live_keys config past now =
    sorted (filter_map (λ v. option_map (λ w. w.key) (live_value config v.key past now))
    (held_values past))
