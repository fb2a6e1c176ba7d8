-- What is gathered of a step, where a record is made or none.
use Rattle.std.proofs.Common.{arith, refl, sym, ap, ◌∙◌, ◌≡◌, ℕ, ◌<◌, List, [], ◌∷◌, ◌++◌, Option, Some, None}
use Rattle.std.proofs.lemmas.List.{append-nil}
use Rattle.std.specs.Option.{option_map}
use Rattle.cache_commands.specs.Loading.{step_silent}
use Rattle.cache_commands.specs.Loads.Pending.{SameLoads}
use Rattle.cache_lines.specs.Gathered.{Gathered, gather, gathered, spare_in, stage}
use Rattle.cache_lines.specs.Tape.Taped.{HasSpare, Taped, drafts, ends, spends, step_held}
use Rattle.cache_lines.specs.Waiting.{under_way}
use Rattle.cache_commands.specs.Values.{Values}
use Rattle.cache_commands.specs.declared.loads.loads.Loads.{Loads}

-- a line that was held back
pub held-gathered : (g : Gathered) (v : Values) (text line : List ℕ) (n : ℕ) (t : Option Taped) → gathered (stage v text t) ≡ g → gathered (stage v text (option_map (spends (step_held n line)) t)) ≡ gather g (step_held n line ∷ [])
held-gathered g v text line n None e =
    ap (λ x. record { text = x; kept = None; waiting = v.untaken }) (sym (append-nil text)) ∙ ap (λ w. record { text = text ++ []; kept = None; waiting = w }) (sym (append-nil v.untaken)) ∙ ap (λ k. gather k (step_held n line ∷ [])) e
held-gathered g v text line n (Some t) e = ap (λ k. gather k (step_held n line ∷ [])) e

-- a `LOAD` that waits
pub silent-gathered : (v : Values) (text line : List ℕ) (n : ℕ) (load : Option ℕ) (t : Option Taped)
    → gathered (stage v text (option_map (ends (λ l. step_silent n l load None [])) (option_map (drafts line) t))) ≡ gather (gathered (stage v text t)) (step_silent n line load None [] ∷ [])
silent-gathered v text line n load None =
    ap (λ x. record { text = x; kept = None; waiting = v.untaken }) (sym (append-nil text)) ∙ ap (λ w. record { text = text ++ []; kept = None; waiting = w }) (sym (append-nil v.untaken))
silent-gathered v text line n load (Some t) = refl

-- ---- room for lines

-- as many lines can be added as before
pub has-spare : (old new : Option Taped) → spare_in new ≡ spare_in old → HasSpare old → HasSpare new
has-spare old None e h = tt
has-spare None (Some u) e h = let no : Some u.spare ≡ None = e in cc
has-spare (Some t) (Some u) e h =
    let same : u.spare ≡ t.spare = cc in
    let some : 0 < t.spare = h in
    omega arith

-- ---- loads

-- the same loads are under way
pub same-under : (loads after : Loads) → SameLoads loads after → under_way after ≡ under_way loads
same-under loads after same = ap (λ n. record { sent = n; pending = (under_way after).pending }) same.sent ∙ ap (λ ps. record { sent = (under_way loads).sent; pending = ps }) same.pending
