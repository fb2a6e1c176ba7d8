-- The steps of an `ADD`.
use Rattle.std.proofs.Common.{◌<◌, refl, sym, ap, ◌∙◌, subst, Result, Err, OnOk, OnErr, ◌≡◌, ℕ, Bool, true, false, not, ◌&&◌, List, ◌++◌, map, Option, Some, None, if◌then◌else◌, codes, decimal, is_some, nat_lt, Ok}
use Rattle.std.proofs.lemmas.Bool.{lt-ltb}
use Rattle.std.specs.Option.{option_map}
use Rattle.audit_model.specs.Bytewise.{text_line}
use Rattle.audit_model.specs.Changes.{all_held_after}
use Rattle.audit_model.specs.Commands.{Deed}
use Rattle.audit_model.specs.History.{Running, Value, accepts_values, part_count}
use Rattle.audit_model.specs.Notes.{are_true_notes, candidates_of}
use Rattle.audit_model.specs.Replies.{Offer, offer_of, taken_where, value_from, sum_with, sum_or_error}
use Rattle.audit_model.specs.Situation.{Situation, HeldValue, live_at, candidate_at, view_in}
use Rattle.audit_model.specs.declared.config.Config.{Config}
use Rattle.audit_model.specs.declared.transcript.Note.{Note}
use Rattle.cache_commands.specs.Right.{RepliesRightly}
use Rattle.cache_commands.specs.Sums.{sum_of_bytes}
use Rattle.cache_commands.specs.Promises.{Frame, Done, no_deed, using, accepting, value_for}
use Rattle.audit_model.specs.declared.command.Command.TheVariants as says
use Rattle.cache_commands.proofs.Answering.{said, undropped}

-- ---- what is known of a result

-- where a call went well, what follows from what it left
pub follows : {A E P Q : Type 0} (r : Result A E) → (P → Q) → OnOk r P → OnOk r Q
follows (Ok x) f p = f p
follows (Err e) f p = tt

-- where it failed, the same
pub fails : {A E P Q : Type 0} (r : Result A E) → (P → Q) → OnErr r P → OnErr r Q
fails (Ok x) f p = tt
fails (Err e) f p = f p

pub on-both : {T E : Type 0} (r : Result T E) (A B C : Type 0) → OnOk r A → OnOk r B → (A → B → C) → OnOk r C
on-both (Ok x) A B C a b f = f a b
on-both (Err e) A B C a b f = tt

-- ---- the steps

-- a sum with a value is the sum with its bytes
sum-of-found : (o : Option Value) (number : ℕ) → sum_with o number ≡ sum_of_bytes (option_map (λ (v : Value). v.bytes) o) number
sum-of-found None number = refl
sum-of-found (Some v) number = refl

-- the sum with what a look-up found
pub sum-found : (config : Config) (s : Situation) (now : ℕ) (key : List ℕ) (number : ℕ) (found : Option (List ℕ)) (sum : Option ℕ) → s.latest ≡ now
    → found ≡ option_map (λ (v : Value). v.bytes) (live_at config now s.held key) → sum ≡ sum_of_bytes found number
    → sum_with (live_at config s.latest s.held key) number ≡ sum
sum-found config s now key number found sum at f e =
    ap (λ n. sum_with (live_at config n s.held key) number) at ∙ sum-of-found (live_at config now s.held key) number ∙ ap (λ o. sum_of_bytes o number) (sym f) ∙ sym e

-- the offer of a sum
abbrev offer_sum : List ℕ → Option ℕ → ℕ → Offer
offer_sum key ms sum = record { key = key; bytes = decimal sum; ms = ms }

-- the reply to an `ADD`
abbrev sum_reply : Bool → Option ℕ → List ℕ
sum_reply accepts sum = if accepts then sum_or_error sum else text_line (codes "OFF")

-- at capacity 0 nothing is taken
taken-nowhere : (o : Option Offer) → not (is_some (taken_where false o)) ≡ true
taken-nowhere None = refl
taken-nowhere (Some offer) = refl

-- at capacity 0: the look-up is a use all the same
pub answers-add-off : (config : Config) (s : Situation) (now : ℕ) (key : List ℕ) (ms : Option ℕ) (number : ℕ) (old new : List ℕ) (Stands : List HeldValue → Type 0) (dropped : Bool) (Handed : List Note → Type 0)
    → s.latest ≡ now → accepts_values config.capacity ≡ false → new ≡ old ++ codes "OFF\n" → Done config now (using key) s.held Stands Handed → dropped ≡ s.dropped
    → RepliesRightly config s (Running (says.Add key ms number)) None Stands dropped Handed old new
answers-add-off config s now key ms number old new Stands dropped Handed at a w d0 kept =
    let d = subst (λ n. Done config n (using key) s.held Stands Handed) (sym at) d0 in
    let sum = sum_with (live_at config s.latest s.held key) number in
    record {
      told = d.told;
      reply = codes "OFF\n";
      written = w;
      right = record {
        replies = said (codes "OFF\n") (sum_reply (accepts_values config.capacity) sum) _ (sym (ap (λ b. sum_reply b sum) a));
        loads = refl;
        accepts = ap (λ b. not (is_some (taken_where b (option_map (offer_sum key ms) sum)))) a ∙ taken-nowhere (option_map (offer_sum key ms) sum);
        tells = d.right;
        silent = refl;
        within = refl;
      };
      left = d.left;
      dropped_is = undropped s dropped kept;
      handed = d.handed;
    }

-- where there is no sum
pub answers-add-error : (config : Config) (s : Situation) (now : ℕ) (key : List ℕ) (ms : Option ℕ) (number : ℕ) (old new : List ℕ) (Stands : List HeldValue → Type 0) (dropped : Bool) (Handed : List Note → Type 0)
    → s.latest ≡ now → accepts_values config.capacity ≡ true → sum_with (live_at config s.latest s.held key) number ≡ None → new ≡ old ++ codes "ERR number\n" → Done config now (using key) s.held Stands Handed → dropped ≡ s.dropped
    → RepliesRightly config s (Running (says.Add key ms number)) None Stands dropped Handed old new
answers-add-error config s now key ms number old new Stands dropped Handed at a none w d0 kept =
    let d = subst (λ n. Done config n (using key) s.held Stands Handed) (sym at) d0 in
    let sum = sum_with (live_at config s.latest s.held key) number in
    record {
      told = d.told;
      reply = codes "ERR number\n";
      written = w;
      right = record {
        replies = said (codes "ERR number\n") (sum_reply (accepts_values config.capacity) sum) _ (sym (ap (λ b. sum_reply b sum) a ∙ ap (sum_reply true) none));
        loads = refl;
        accepts = ap (λ o. not (is_some (taken_where (accepts_values config.capacity) (option_map (offer_sum key ms) o)))) none;
        tells = d.right;
        silent = refl;
        within = refl;
      };
      left = d.left;
      dropped_is = undropped s dropped kept;
      handed = d.handed;
    }

-- all that a step does is to look a key up and to accept a value, or none
abbrev adding : List ℕ → Option Value → Deed
adding key value = record no_deed { uses = Some key; value = value }

-- the value that the step of an `ADD` accepts
abbrev value_added : Config → Situation → List ℕ → Option ℕ → ℕ → Option ℕ → Option Value
value_added config s key ms number part = value_from config s.latest (offer_of config (view_in config s) (Running (says.Add key ms number))) part

value_added-some : (frame : Frame) (s : Situation) (key : List ℕ) (ms : Option ℕ) (number sum part : ℕ) → accepts_values frame.config.capacity ≡ true → sum_with (live_at frame.config s.latest s.held key) number ≡ Some sum → part ≡ frame.part_of key
    → value_added frame.config s key ms number (Some part) ≡ Some (value_for frame s.latest key (decimal sum) ms)
value_added-some frame s key ms number sum part a is p =
    ap (λ b. value_from frame.config s.latest (taken_where b (option_map (offer_sum key ms) (sum_with (live_at frame.config s.latest s.held key) number))) (Some part)) a
    ∙ ap (λ o. value_from frame.config s.latest (taken_where true (option_map (offer_sum key ms) o)) (Some part)) is
    ∙ ap (λ n. Some (record (value_for frame s.latest key (decimal sum) ms) { part = n })) p

-- a sum that is accepted
pub answers-add : (frame : Frame) (s : Situation) (now : ℕ) (key : List ℕ) (ms : Option ℕ) (number sum part : ℕ) (old new : List ℕ) (Stands : List HeldValue → Type 0) (dropped : Bool) (Handed : List Note → Type 0)
    → s.latest ≡ now → accepts_values frame.config.capacity ≡ true → sum_with (live_at frame.config s.latest s.held key) number ≡ Some sum → part ≡ frame.part_of key → frame.part_of key < part_count frame.config
    → new ≡ old ++ (codes "VAL " ++ decimal sum ++ codes "\n") → Done frame.config now (accepting (Some key) (value_for frame now key (decimal sum) ms)) s.held Stands Handed → dropped ≡ s.dropped
    → RepliesRightly frame.config s (Running (says.Add key ms number)) (Some (record { part = part })) Stands dropped Handed old new
answers-add frame s now key ms number sum part old new Stands dropped Handed at a is p in_range w d0 kept =
    let config = frame.config in
    let d : Done config s.latest (accepting (Some key) (value_for frame s.latest key (decimal sum) ms)) s.held Stands Handed =
    subst (λ n. Done config n (accepting (Some key) (value_for frame n key (decimal sum) ms)) s.held Stands Handed) (sym at) d0 in
    let value = value_added-some frame s key ms number sum part a is p in
    let cs = map (candidate_at config s.latest) s.held in
    let found = sum_with (live_at config s.latest s.held key) number in
    record {
      told = d.told;
      reply = codes "VAL " ++ decimal sum ++ codes "\n";
      written = w;
      right = record {
        replies = said (codes "VAL " ++ decimal sum ++ codes "\n") (sum_reply (accepts_values config.capacity) found) _ (sym (ap (λ b. sum_reply b found) a ∙ ap (sum_reply true) is));
        loads = refl;
        accepts = ap (λ b. is_some (taken_where b (option_map (offer_sum key ms) found)) && nat_lt part (part_count config)) a
            ∙ ap (λ o. is_some (taken_where true (option_map (offer_sum key ms) o)) && nat_lt part (part_count config)) is
            ∙ lt-ltb part (part_count config) (subst (λ n. n < part_count config) (sym p) in_range);
        tells = ap (λ v. are_true_notes config cs (adding key v) (candidates_of config cs (adding key v)) d.told) value ∙ d.right;
        silent = refl;
        within = refl;
      };
      left = subst Stands (sym (ap (λ v. all_held_after config s.latest s.held (adding key v) d.told) value)) d.left;
      dropped_is = undropped s dropped kept;
      handed = d.handed;
    }
