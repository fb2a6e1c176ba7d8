-- What a store's clauses say, in the words of the definition of steps.
use Rattle.std.proofs.Common.{arith, refl, sym, ap, ◌∙◌, subst, append_assoc, ◌<◌, ◌≡◌, ℕ, Bool, true, false, not, ◌&&◌, ◌||◌, List, [], ◌∷◌, ◌++◌, map, Option, Some, None, if◌then◌else◌, codes, nat_lt, length, decimal, IsTrue, ◌+◌, is_some, nat_eq}
use Rattle.std.proofs.Math.Bool.{and-false, or-false}
use Rattle.std.proofs.lemmas.Bool.{eq-eqb, lt-ltb}
use Rattle.std.proofs.lemmas.List.{length-map, append-nil}
use Rattle.std.specs.List.{sum_by, list_all, concat, fold, find}
use Rattle.std.specs.Option.{option_map, option_eq}
use Rattle.audit_model.specs.Bytewise.{same, text_line, is_empty}
use Rattle.audit_model.specs.Changes.{all_held_after, held_after, left_held}
use Rattle.audit_model.specs.Commands.{Deed}
use Rattle.audit_model.specs.History.{Running, Value, accepts_values, part_count, Delivering, Abandoning, Storing}
use Rattle.audit_model.specs.Notes.{is_within, is_succeeded, are_true_notes, candidates_of}
use Rattle.audit_model.specs.Replies.{value_or_none, yes_or_no, keys_listed, ok_or_off, count_and_weight, offer_of, taken_where, value_from, value_reply, load_sent_by, offered, outcome_text}
use Rattle.audit_model.specs.Situation.{Situation, HeldValue, live_at, candidate_at, view_in, is_live_at, load_in}
use Rattle.audit_model.specs.View.{Candidate}
use Rattle.audit_model.specs.declared.config.Config.{Config}
use Rattle.audit_model.specs.declared.event.Outcome.{Outcome}
use Rattle.audit_model.specs.declared.transcript.Note.{Note}
use Rattle.cache_commands.proofs.SameKeys.{same_from_equal}
pub use Rattle.cache_commands.proofs.SameKeys.{same-refl}
use Rattle.cache_commands.specs.Handing.{AppendsNotes}
use Rattle.cache_commands.specs.Promises.{Frame, no_deed, accepting, syncing, value_for, Done, using}
use Rattle.cache_commands.specs.Loading.{SaysRightly, Stores, Waits}
use Rattle.cache_commands.specs.Right.{RepliesRightly}
use Rattle.audit_model.specs.declared.command.Command.TheVariants as says
use Rattle.audit_model.specs.declared.event.Outcome.TheVariants as came

-- a reply that is the one owed
pub said : (a b : List ℕ) (other : Bool) → a ≡ b → (same a b || other) ≡ true
said a b other e = ap (λ t. t || other) (same_from_equal a b e)

-- a step that accepts no `DROPIF`
pub undropped : (s : Situation) (dropped : Bool) → dropped ≡ s.dropped → dropped ≡ (s.dropped || false)
undropped s dropped same = same ∙ sym (or-false s.dropped)

-- a step that neither writes nor deletes has no older value to tell
pub none_succeeded : (cs : List Candidate) → list_all (λ c. not (is_succeeded no_deed c)) cs ≡ true
none_succeeded [] = refl
none_succeeded (c ∷ cs) = ap (λ b. not (b || false) && list_all (λ d. not (is_succeeded no_deed d)) cs) (and-false (not c.new)) ∙ none_succeeded cs

pub answers-get : (config : Config) (s : Situation) (key reply old new : List ℕ) (Stands : List HeldValue → Type 0) (dropped : Bool) (Handed : List Note → Type 0)
    → new ≡ old ++ reply → reply ≡ value_or_none (live_at config s.latest s.held key) → Done config s.latest (using key) s.held Stands Handed → dropped ≡ s.dropped
    → RepliesRightly config s (Running (says.Get key)) None Stands dropped Handed old new
answers-get config s key reply old new Stands dropped Handed w r d kept = record {
  told = d.told;
  reply = reply;
  written = w;
  right = record { replies = said reply (value_or_none (live_at config s.latest s.held key)) _ r; loads = refl; accepts = refl; tells = d.right; silent = refl; within = refl };
  left = d.left;
  dropped_is = undropped s dropped kept;
  handed = d.handed;
}

-- ---- a `SET`

-- all that a step does is to accept a value, or none
abbrev pub writing : Option Value → Deed
writing value = record no_deed { value = value }

-- the value that the step of a `SET` accepts
abbrev value_set : Config → Situation → List ℕ → Option ℕ → List ℕ → Option ℕ → Option Value
value_set config s key ms bytes part = value_from config s.latest (offer_of config (view_in config s) (Running (says.Set key ms bytes))) part

value_set-some : (frame : Frame) (s : Situation) (key bytes : List ℕ) (ms : Option ℕ) (part : ℕ) → accepts_values frame.config.capacity ≡ true → part ≡ frame.part_of key
    → value_set frame.config s key ms bytes (Some part) ≡ Some (value_for frame s.latest key bytes ms)
value_set-some frame s key bytes ms part a p =
    ap (λ b. value_from frame.config s.latest (taken_where b (Some (record { key = key; bytes = bytes; ms = ms }))) (Some part)) a
    ∙ ap (λ n. Some (record (value_for frame s.latest key bytes ms) { part = n })) p

-- a `SET` whose value is accepted
pub answers-set : (frame : Frame) (s : Situation) (now : ℕ) (key bytes : List ℕ) (ms : Option ℕ) (part : ℕ) (old new : List ℕ) (Stands : List HeldValue → Type 0) (dropped : Bool) (Handed : List Note → Type 0)
    → s.latest ≡ now → accepts_values frame.config.capacity ≡ true → part ≡ frame.part_of key → frame.part_of key < part_count frame.config → new ≡ old ++ codes "OK\n"
    → Done frame.config now (accepting None (value_for frame now key bytes ms)) s.held Stands Handed → dropped ≡ s.dropped
    → RepliesRightly frame.config s (Running (says.Set key ms bytes)) (Some (record { part = part })) Stands dropped Handed old new
answers-set frame s now key bytes ms part old new Stands dropped Handed at a p in_range w d kept =
    let config = frame.config in
    let done : Done config s.latest (accepting None (value_for frame s.latest key bytes ms)) s.held Stands Handed =
    subst (λ n. Done config n (accepting None (value_for frame n key bytes ms)) s.held Stands Handed) (sym at) d in
    let is = value_set-some frame s key bytes ms part a p in
    let cs = map (candidate_at config s.latest) s.held in
    record {
      told = done.told;
      reply = codes "OK\n";
      written = w;
      right = record {
        replies = said (codes "OK\n") (ok_or_off config) _ (sym (ap (λ b. if b then text_line (codes "OK") else text_line (codes "OFF")) a));
        loads = refl;
        accepts = ap (λ b. is_some (taken_where b (Some (record { key = key; bytes = bytes; ms = ms }))) && nat_lt part (part_count config)) a ∙ lt-ltb part (part_count config) (subst (λ n. n < part_count config) (sym p) in_range);
        tells = ap (λ v. are_true_notes config cs (writing v) (candidates_of config cs (writing v)) done.told) is ∙ done.right;
        silent = refl;
        within = refl;
      };
      left = subst Stands (sym (ap (λ v. all_held_after config s.latest s.held (writing v) done.told) is)) done.left;
      dropped_is = undropped s dropped kept;
      handed = done.handed;
    }

-- ---- a `SYNC`

values-after : (config : Config) (now : ℕ) (held : List HeldValue) (deed : Deed) (notes : List Note) (values : List Value) (left : List HeldValue)
    → map (λ (h : HeldValue). h.value) (map (held_after config now held deed notes values) left) ≡ map (λ (h : HeldValue). h.value) left
values-after config now held deed notes values [] = refl
values-after config now held deed notes values (h ∷ hs) = ap (λ vs. h.value ∷ vs) (values-after config now held deed notes values hs)

length-values : (hs : List HeldValue) → length (map (λ (h : HeldValue). h.value) hs) ≡ length hs
length-values hs = length-map hs (λ (h : HeldValue). h.value)

weigh-from : (n : ℕ) (hs : List HeldValue) → fold (λ a (v : Value). a + v.weight) n (map (λ (h : HeldValue). h.value) hs) ≡ fold (λ a (h : HeldValue). a + h.value.weight) n hs
weigh-from n [] = refl
weigh-from n (h ∷ hs) = weigh-from (n + h.value.weight) hs

weigh-values : (hs : List HeldValue) → sum_by (λ (v : Value). v.weight) (map (λ (h : HeldValue). h.value) hs) ≡ sum_by (λ (h : HeldValue). h.value.weight) hs
weigh-values hs = weigh-from 0 hs

abbrev counts_text : ℕ → ℕ → List ℕ
counts_text number weight = codes "SYNC " ++ decimal number ++ codes " " ++ decimal weight ++ codes "\n"

pub answers-sync : (config : Config) (s : Situation) (now number weight : ℕ) (old new : List ℕ) (Stands : List HeldValue → Type 0) (dropped : Bool) (Handed : List Note → Type 0)
    → s.latest ≡ now → new ≡ old ++ counts_text number weight
    → Done config now syncing s.held (λ left. Stands left × IsTrue (is_within config (map (λ (h : HeldValue). h.value) left)) × (number ≡ length left) × (weight ≡ sum_by (λ (h : HeldValue). h.value.weight) left)) Handed → dropped ≡ s.dropped
    → RepliesRightly config s (Running says.Sync) None Stands dropped Handed old new
answers-sync config s now number weight old new Stands dropped Handed at w d0 kept =
    let d = subst (λ n. Done config n syncing s.held (λ left. Stands left × IsTrue (is_within config (map (λ (h : HeldValue). h.value) left)) × (number ≡ length left) × (weight ≡ sum_by (λ (h : HeldValue). h.value.weight) left)) Handed) (sym at) d0 in
    let left = left_held s.held syncing d.told in
    let after = all_held_after config s.latest s.held syncing d.told in
    let values = values-after config s.latest s.held syncing d.told (map (λ (h : HeldValue). h.value) left) left in
    let number_is : number ≡ length (map (λ (h : HeldValue). h.value) left) = d.left.2 ∙ sym (length-values after) ∙ ap length values in
    let weight_is : weight ≡ sum_by (λ (v : Value). v.weight) (map (λ (h : HeldValue). h.value) left) = d.left.3 ∙ sym (weigh-values after) ∙ ap (sum_by (λ (v : Value). v.weight)) values in
    let text : counts_text number weight ≡ count_and_weight (map (λ (h : HeldValue). h.value) left) = ap (λ n. counts_text n weight) number_is ∙ ap (counts_text (length (map (λ (h : HeldValue). h.value) left))) weight_is in
    record {
      told = d.told;
      reply = counts_text number weight;
      written = w;
      right = record {
        replies = said (counts_text number weight) (count_and_weight (map (λ (h : HeldValue). h.value) left)) _ text;
        loads = refl;
        accepts = refl;
        tells = d.right;
        silent = refl;
        within = subst (λ vs. is_within config vs ≡ true) values d.left.1;
      };
      left = d.left.0;
      dropped_is = undropped s dropped kept;
      handed = d.handed;
    }

-- ---- commands that ask

-- what a look-up without a use found, as an answer of yes or no
pub yes-found : (config : Config) (now : ℕ) (held : List HeldValue) (key : List ℕ) (bytes : List ℕ) → Some bytes ≡ option_map (λ (v : Value). v.bytes) (live_at config now held key) → codes "YES\n" ≡ yes_or_no (live_at config now held key)
yes-found config now held key bytes found = go (live_at config now held key) found
  where
    go : (o : Option Value) → Some bytes ≡ option_map (λ (v : Value). v.bytes) o → codes "YES\n" ≡ yes_or_no o
    go None e = cc
    go (Some v) e = refl

pub no-found : (config : Config) (now : ℕ) (held : List HeldValue) (key : List ℕ) → None ≡ option_map (λ (v : Value). v.bytes) (live_at config now held key) → codes "NO\n" ≡ yes_or_no (live_at config now held key)
no-found config now held key found = go (live_at config now held key) found
  where
    go : (o : Option Value) → None ≡ option_map (λ (v : Value). v.bytes) o → codes "NO\n" ≡ yes_or_no o
    go None e = refl
    go (Some v) e = cc

-- the number of the keys and their lines
pub keys-written : (keys : List (List ℕ)) (number : ℕ) (old before new : List ℕ) → number ≡ length keys → before ≡ old ++ (codes "KEYS " ++ decimal number ++ codes "\n") → new ≡ before ++ concat (map text_line keys)
    → new ≡ old ++ keys_listed keys
keys-written keys number old before new n b w =
    w ∙ ap (λ k. k ++ concat (map text_line keys)) (b ∙ ap (λ m. old ++ (codes "KEYS " ++ decimal m ++ codes "\n")) n)
    ∙ append_assoc old (codes "KEYS " ++ decimal (length keys) ++ codes "\n") (concat (map text_line keys))
    ∙ ap (λ k. old ++ (k ++ concat (map text_line keys))) (sym (append_assoc (codes "KEYS ") (decimal (length keys)) (codes "\n")))

-- ---- a `DROPIF` that is refused

-- where one was accepted before, it covers nothing
pub answers-refused : (config : Config) (s : Situation) (prefix old new : List ℕ) (waited untaken : List Note) (Stands : List HeldValue → Type 0) (dropped : Bool)
    → s.dropped ≡ true → new ≡ old ++ codes "ERR id\n" → Stands (all_held_after config s.latest s.held no_deed []) → dropped ≡ s.dropped → untaken ≡ waited
    → RepliesRightly config s (Running (says.DropIf prefix)) None Stands dropped (AppendsNotes waited untaken) old new
answers-refused config s prefix old new waited untaken Stands dropped before w m kept same =
    record {
      told = [];
      reply = codes "ERR id\n";
      written = w;
      right = record { replies = ap (λ b. b && true) before; loads = refl; accepts = refl; tells = none_succeeded (map (candidate_at config s.latest) s.held ++ []); silent = refl; within = refl };
      left = m;
      dropped_is = undropped s dropped kept;
      handed = record { added = same ∙ sym (append-nil waited) };
    }

-- `LOAD`s, and what a load's outcome does, in the words of the definition of steps.

-- ---- a `LOAD` that finds a value

-- a `GET` that finds a value answers as a `LOAD` does
pub load-as-get : (config : Config) (s : Situation) (key : List ℕ) (v : Value) (old new : List ℕ) (Stands : List HeldValue → Type 0) (dropped : Bool) (Handed : List Note → Type 0)
    → live_at config s.latest s.held key ≡ Some v → RepliesRightly config s (Running (says.Get key)) None Stands dropped Handed old new → RepliesRightly config s (Running (says.Load key)) None Stands dropped Handed old new
load-as-get config s key v old new Stands dropped Handed live a = record {
  told = a.told;
  reply = a.reply;
  written = a.written;
  right = record {
    replies =
        ap (λ o. option_eq same (Some a.reply) (option_map (λ (value : Value). value_reply value.bytes) o) || (false && option_eq same (Some a.reply) (Some (codes "ERR id\n")))) live
        ∙ sym (ap (λ o. same a.reply (value_or_none o) || (false && option_eq same (Some a.reply) (Some (codes "ERR id\n")))) live) ∙ a.right.replies;
    loads = ap (λ o. option_eq nat_eq None (if is_some o || is_some (load_in s key) then None else Some (view_in config s).next_load)) live;
    accepts = refl;
    tells = a.right.tells;
    silent = refl;
    within = refl;
  };
  left = a.left;
  dropped_is = a.dropped_is;
  handed = a.handed;
}

-- a value was found by its bytes, so there is one
found-live : (bytes : List ℕ) (o : Option Value) → Some bytes ≡ option_map (λ (value : Value). value.bytes) o → is_some o ≡ true
found-live bytes None e = let no : Some bytes ≡ None = e in cc
found-live bytes (Some v) e = refl

pub found-load : (config : Config) (s : Situation) (now : ℕ) (key bytes : List ℕ) (old new : List ℕ) (Stands : List HeldValue → Type 0) (dropped : Bool) (Handed : List Note → Type 0)
    → s.latest ≡ now → Some bytes ≡ option_map (λ (value : Value). value.bytes) (live_at config now s.held key)
    → RepliesRightly config s (Running (says.Get key)) None Stands dropped Handed old new → RepliesRightly config s (Running (says.Load key)) None Stands dropped Handed old new
found-load config s now key bytes old new Stands dropped Handed at found a = go (live_at config s.latest s.held key) refl (found-live bytes (live_at config s.latest s.held key) (found ∙ ap (λ n. option_map (λ (value : Value). value.bytes) (live_at config n s.held key)) (sym at)))
  where
    go : (o : Option Value) → live_at config s.latest s.held key ≡ o → is_some o ≡ true → RepliesRightly config s (Running (says.Load key)) None Stands dropped Handed old new
    go None e some = let no : false ≡ true = some in cc
    go (Some v) e some = load-as-get config s key v old new Stands dropped Handed e a

-- ---- a `LOAD` that finds none

-- where a key has no live value, to look it up does nothing
unused-after : (config : Config) (now : ℕ) (held : List HeldValue) (key : List ℕ) (values : List Value) (hs : List HeldValue)
    → find (λ h. same key h.value.key && is_live_at config now h) hs ≡ None
    → map (held_after config now held (using key) [] values) hs ≡ map (held_after config now held no_deed [] values) hs
unused-after config now held key values [] none = refl
unused-after config now held key values (h ∷ hs) none =
    let next = unused-after config now held key values hs in
    grind (arith, next)

live-none : (o : Option HeldValue) → option_map (λ (h : HeldValue). h.value) o ≡ None → o ≡ None
live-none None e = refl
live-none (Some h) e = let no : Some h.value ≡ None = e in cc

pub unused : (config : Config) (now : ℕ) (held : List HeldValue) (key : List ℕ) → live_at config now held key ≡ None
    → all_held_after config now held (using key) [] ≡ all_held_after config now held no_deed []
unused config now held key none =
    let hs = held ++ [] in
    let test = λ (h : HeldValue). same key h.value.key && is_live_at config now h in
    unused-after config now held key (map (λ (h : HeldValue). h.value) hs) hs (ap (find test) (append-nil held) ∙ live-none (find test held) none)

option-same : (o : Option ℕ) → option_eq nat_eq o o ≡ true
option-same None = refl
option-same (Some n) = eq-eqb n n refl

-- a `LOAD` that begins to wait
pub waits : (config : Config) (s : Situation) (key : List ℕ) (Stands : List HeldValue → Type 0) → live_at config s.latest s.held key ≡ None → Stands (all_held_after config s.latest s.held no_deed []) → Waits config s key Stands
waits config s key Stands none stands = record {
  right = record {
    replies = ap (λ o. option_eq same None (option_map (λ (value : Value). value_reply value.bytes) o) || (false && false)) none;
    loads = option-same (load_sent_by (view_in config s) (Running (says.Load key)));
    accepts = refl;
    tells = none_succeeded (map (candidate_at config s.latest) s.held ++ []);
    silent = refl;
    within = refl;
  };
  left = subst Stands (sym (unused config s.latest s.held key none)) stands;
  undropped = or-false s.dropped;
}

-- ---- what is said to a waiting `LOAD`

pub delivers : (config : Config) (s : Situation) (outcome : Outcome) (Stands : List HeldValue → Type 0) → Stands (all_held_after config s.latest s.held no_deed []) → SaysRightly config s (Delivering outcome) (outcome_text outcome) Stands
delivers config s outcome Stands stands = record {
  right = record { replies = said (outcome_text outcome) (outcome_text outcome) _ refl; loads = refl; accepts = refl; tells = none_succeeded (map (candidate_at config s.latest) s.held ++ []); silent = refl; within = refl };
  left = stands;
  undropped = or-false s.dropped;
}

pub abandons : (config : Config) (s : Situation) (Stands : List HeldValue → Type 0) → Stands (all_held_after config s.latest s.held no_deed []) → SaysRightly config s Abandoning (codes "ERR abandoned\n") Stands
abandons config s Stands stands = record {
  right = record { replies = refl; loads = refl; accepts = refl; tells = none_succeeded (map (candidate_at config s.latest) s.held ++ []); silent = refl; within = refl };
  left = stands;
  undropped = or-false s.dropped;
}

-- ---- what is stored

-- nothing is stored, and nothing told
pub stores-nothing : (config : Config) (s : Situation) (key : List ℕ) (outcome : Outcome) (untaken : List Note) (Stands : List HeldValue → Type 0)
    → taken_where (accepts_values config.capacity) (offered (view_in config s) (Storing (Some key) outcome)) ≡ None → Stands (all_held_after config s.latest s.held no_deed [])
    → (x : Stores config s key outcome None Stands (AppendsNotes untaken untaken)) × ((false || is_empty x.told) ≡ true)
stores-nothing config s key outcome untaken Stands none stands = (
  record {
    told = [];
    right = record { replies = refl; loads = refl; accepts = ap (λ o. not (is_some o)) none; tells = none_succeeded (map (candidate_at config s.latest) s.held ++ []); silent = refl; within = refl };
    left = stands;
    undropped = or-false s.dropped;
    handed = record { added = sym (append-nil untaken) };
  },
  refl,
)

-- at capacity 0
pub stores-off : (config : Config) (s : Situation) (key : List ℕ) (outcome : Outcome) → accepts_values config.capacity ≡ false → taken_where (accepts_values config.capacity) (offered (view_in config s) (Storing (Some key) outcome)) ≡ None
stores-off config s key outcome off = ap (λ b. taken_where b (offered (view_in config s) (Storing (Some key) outcome))) off ∙ go (offered (view_in config s) (Storing (Some key) outcome))
  where
    go : (o : Option _) → taken_where false o ≡ None
    go None = refl
    go (Some offer) = refl

-- a value is stored
pub stores-value : (frame : Frame) (s : Situation) (now : ℕ) (key bytes : List ℕ) (ms : Option ℕ) (part : ℕ) (Stands : List HeldValue → Type 0) (Handed : List Note → Type 0)
    → s.latest ≡ now → accepts_values frame.config.capacity ≡ true → part ≡ frame.part_of key → frame.part_of key < part_count frame.config
    → Done frame.config now (accepting None (value_for frame now key bytes ms)) s.held Stands Handed
    → Stores frame.config s key (came.Value bytes ms) (Some (record { part = part })) Stands Handed
stores-value frame s now key bytes ms part Stands Handed at a p in_range d =
    let config = frame.config in
    let done : Done config s.latest (accepting None (value_for frame s.latest key bytes ms)) s.held Stands Handed =
    subst (λ n. Done config n (accepting None (value_for frame n key bytes ms)) s.held Stands Handed) (sym at) d in
    let is : value_from config s.latest (offer_of config (view_in config s) (Storing (Some key) (came.Value bytes ms))) (Some part) ≡ Some (value_for frame s.latest key bytes ms) =
    ap (λ b. value_from config s.latest (taken_where b (Some (record { key = key; bytes = bytes; ms = ms }))) (Some part)) a
    ∙ ap (λ n. Some (record (value_for frame s.latest key bytes ms) { part = n })) p in
    let cs = map (candidate_at config s.latest) s.held in
    record {
      told = done.told;
      right = record {
        replies = refl;
        loads = refl;
        accepts = ap (λ b. is_some (taken_where b (Some (record { key = key; bytes = bytes; ms = ms }))) && nat_lt part (part_count config)) a ∙ lt-ltb part (part_count config) (subst (λ n. n < part_count config) (sym p) in_range);
        tells = ap (λ v. are_true_notes config cs (writing v) (candidates_of config cs (writing v)) done.told) is ∙ done.right;
        silent = refl;
        within = refl;
      };
      left = subst Stands (sym (ap (λ v. all_held_after config s.latest s.held (writing v) done.told) is)) done.left;
      undropped = or-false s.dropped;
      handed = done.handed;
    }
