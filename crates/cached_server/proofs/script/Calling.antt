-- What the words ask for, as the parse finds it.
use Rattle.std.proofs.Common.{codes, ◌≡◌, ◌≢◌, ◌∙◌, ap, ap₂, refl, subst, sym, true, ℕ, List, [], Option, Some, None, option_map}
use Rattle.std.specs.Prelude.{Result, IfOk, IfErr}
use Rattle.std.specs.Option.{ok_or}
use Rattle.clap.specs.Words.{App, HasMatchesOf, fault_of, first_of, first_value, found_of, is_simple, is_simple_and_free, matches_of}
use Rattle.clap.specs.declared.parser.matches.ArgMatches.{ArgMatches}
use Rattle.clap.proofs.OnLiterals.{clap_on_literals}
use Rattle.clap.proofs.WalkLemmas.{first_value-rows}
use Rattle.cached_server.specs.Script.Called.{arguments, call_of, chosen, path_of}
use Rattle.cached_server.specs.declared.script.words.Chosen.{Chosen}

simple : is_simple arguments ≡ true
unfolding clap_on_literals
simple = refl

free : is_simple_and_free arguments ≡ true
unfolding clap_on_literals
free = refl

asked-first : (words : List (List ℕ)) → fault_of arguments words ≡ [] → call_of words ≡ chosen (first_of (codes "script") (matches_of arguments words)) (first_of (codes "config") (matches_of arguments words))
asked-first words none = rw none

-- words without a fault ask for what was found
pub call-found : (app : App) (words : List (List ℕ)) (m : ArgMatches) → app ≡ arguments → HasMatchesOf app words m → (is_simple_and_free app ≡ true → fault_of app words ≡ [])
    → call_of words ≡ chosen (first_value (found_of m) (codes "script")) (first_value (found_of m) (codes "config"))
call-found app words m is has none =
    let rows = (subst (λ a. HasMatchesOf a words m) is has simple).0 in
    let here : fault_of arguments words ≡ [] = subst (λ a. fault_of a words ≡ []) is (none (subst (λ a. is_simple_and_free a ≡ true) (sym is) free)) in
    asked-first words here
    ∙ ap₂ chosen (ap (first_of (codes "script")) (sym rows) ∙ sym (first_value-rows (found_of m) (codes "script"))) (ap (first_of (codes "config")) (sym rows) ∙ sym (first_value-rows (found_of m) (codes "config")))

-- and that is what is answered, or there is no such thing
pub asked-ok : {E : Type 0} (o : Option Chosen) (e : E) (r : Result Chosen E) (call : Option (Option (List ℕ))) → r ≡ ok_or o e → call ≡ option_map path_of o → IfOk r (λ asked. call ≡ Some (path_of asked))
asked-ok None e r call is same = subst (λ r. IfOk r (λ asked. call ≡ Some (path_of asked))) (sym is) tt
asked-ok (Some asked) e r call is same = subst (λ r. IfOk r (λ asked. call ≡ Some (path_of asked))) (sym is) same

pub asked-none : {E : Type 0} (o : Option Chosen) (e out : E) (r : Result Chosen E) (call : Option (Option (List ℕ))) → r ≡ ok_or o e → call ≡ option_map path_of o → IfErr r (λ k. k ≢ out → call ≡ None)
asked-none None e out r call is same = subst (λ r. IfErr r (λ k. k ≢ out → call ≡ None)) (sym is) (λ other. same)
asked-none (Some asked) e out r call is same = subst (λ r. IfErr r (λ k. k ≢ out → call ≡ None)) (sym is) tt
