-- A step sees the same of the history and of the situation that the history leaves.
use Rattle.std.proofs.Common.{inr, inl, ◌≡◌, refl, ap, ◌∙◌, sym, ℕ, Bool, true, false, true≢false, not, ◌&&◌, ◌||◌, cond, List, [], ◌∷◌, map, Option, Some, None}
use Rattle.std.specs.Prelude.{◌==◌}
use Rattle.std.specs.List.{filter, filter_map, find, list_any, cons_option}
use Rattle.std.specs.Option.{option_map, option_and_then}
use Rattle.std.proofs.Math.Path.{fun_ext}
use Rattle.std.proofs.lemmas.Simd.{map-map}
use Rattle.std.proofs.lemmas.Slice.Eq.{bytes_eq-Decides}
use Rattle.std.proofs.Math.Bool.{and-true, and-false}
use Rattle.std.proofs.lemmas.Iterator.Adapters.{option_map_id}
use Rattle.audit_model.specs.Bytewise.{same}
use Rattle.audit_model.specs.History.{Value, History, latest_moment}
use Rattle.audit_model.specs.Loads.{loads_under_way, load_of_key, key_of_load, next_load}
use Rattle.audit_model.specs.Seen.{candidate_of, has_dropped, view_of}
use Rattle.audit_model.specs.Situation.{Situation, load_in, pending_key, is_live_at, live_at, live_keys_at, view_in}
use Rattle.audit_model.specs.Summary.{pending_from, held_from, situation_of}
use Rattle.audit_model.specs.Values.{deadline, deadline_has_come, last_accepted, is_key_covered, is_deleted, held_values, is_told, if_lives, last_use, live_value, sorted, live_keys}
use Rattle.audit_model.specs.declared.config.Config.{Config}
use Rattle.audit_laws.proofs.Told.{Each, each-more, each-both}
use Rattle.audit_laws.proofs.HeldStep.{Stands, find-map}
use Rattle.audit_laws.proofs.HeldAll.{none_told}
use Rattle.std.proofs.lemmas.Bool.{cases_Bool}

pub same-true : (a b : List ℕ) → same a b ≡ true → a ≡ b
same-true a b e = (bytes_eq-Decides a b).0 e

pub option_map-both : {X Y Z : Type 0} (g : Y → Z) (f : X → Y) (o : Option X) → option_map g (option_map f o) ≡ option_map (λ x. g (f x)) o
option_map-both g f None = refl
option_map-both g f (Some x) = refl

-- what a test of one key finds among values of which the key's one is known
module _ (key : List ℕ) (A : Option Value) (test : Value → Bool) where
  abbrev found : Option Value
  found = option_and_then (λ w. cond (test w) (Some w) None) A

  abbrev Fits : Value → Type 0
  Fits w = same key w.key ≡ true → A ≡ Some w

  at_one : (w : Value) (same_key live : Bool) (rest : Option Value) (any : Bool) → (same_key ≡ true → A ≡ Some w) → live ≡ test w → rest ≡ cond any found None
      → cond (same_key && live) (Some w) rest ≡ cond (same_key || any) found None
  at_one w false live rest any fits e r = r
  at_one w true true rest any fits e r = sym (ap (option_and_then (λ x. cond (test x) (Some x) None)) (fits refl) ∙ ap (λ b. cond b (Some w) None) (sym e))
  at_one w true false rest true fits e r = r
  at_one w true false rest false fits e r = r ∙ sym (ap (option_and_then (λ x. cond (test x) (Some x) None)) (fits refl) ∙ ap (λ b. cond b (Some w) None) (sym e))

  find-found : (vs : List Value) → Each Fits vs → find (λ w. same key w.key && test w) vs ≡ cond (list_any (λ w. same key w.key) vs) found None
  find-found [] h = refl
  find-found (w ∷ ws) (f, h) =
      at_one w (same key w.key) (test w) (find (λ x. same key x.key && test x) ws) (list_any (λ x. same key x.key) ws) f refl (find-found ws h)

first_or : (b c : Bool) (P : Type 0) → (b ≡ true → P) → (c ≡ true → P) → (b || c) ≡ true → P
first_or true c P f g e = f refl
first_or false c P f g e = g e

any-each : {X : Type 0} (p : X → Bool) (P : Type 0) (xs : List X) → Each (λ x. p x ≡ true → P) xs → list_any p xs ≡ true → P
any-each p P [] h e = absurd (true≢false (sym e))
any-each p P (x ∷ xs) (f, h) e = first_or (p x) (list_any p xs) P f (any-each p P xs h) e

-- the test of a live value, with what stands first taken away
pick : (D C B : Bool) (X : Value → Bool) (A : Option Value) → (B ≡ true → D ≡ false)
    → option_and_then (λ w. cond (not D && not C && not (not B) && not (X w)) (Some w) None) A ≡ cond B (option_and_then (λ w. cond (not C && not (X w)) (Some w) None) A) None
pick D C true X None f = refl
pick D C false X None f = refl
pick D C true X (Some w) f = ap (λ d. cond (not d && not C && true && not (X w)) (Some w) None) (f refl) ∙ ap (λ b. cond (b && not (X w)) (Some w) None) (and-true (not C))
pick D C false X (Some w) f = ap (λ b. cond (b && not (X w)) (Some w) None) (and-false (not D && not C))

module _ (config : Config) (made : ℕ) (past : History) (stand : Each (Stands past) (held_values past)) where
  abbrev now : ℕ
  now = latest_moment made past

  abbrev s : Situation
  s = situation_of config made past

  abbrev dead_at : List ℕ → Value → Bool
  dead_at key w = deadline_has_come (deadline config w (last_use config key past)) now

  if_lives-chosen : (key : List ℕ) (A : Option Value)
      → if_lives config key past (last_use config key past) now A ≡ option_and_then (λ w. cond (not (is_deleted key past) && not (is_key_covered key past) && not (is_told key past) && not (dead_at key w)) (Some w) None) A
  if_lives-chosen key None = refl
  if_lives-chosen key (Some w) = refl

  fits : (key : List ℕ) → Each (λ w. same key w.key ≡ true → last_accepted key past ≡ Some w) (held_values past)
  fits key = each-more _ _ (held_values past) (λ w st e. ap (λ k. last_accepted k past) (same-true key w.key e) ∙ st.last) stand

  spared : (key : List ℕ) → list_any (λ w. same key w.key) (held_values past) ≡ true → is_deleted key past ≡ false
  spared key =
      any-each (λ w. same key w.key) (is_deleted key past ≡ false) (held_values past)
      (each-more _ _ (held_values past) (λ w st e. ap (λ k. is_deleted k past) (same-true key w.key e) ∙ st.kept) stand)

  abbrev live_by : List ℕ → Value → Bool
  live_by key w = not (is_key_covered key past) && not (dead_at key w)

  -- where the keys agree, the test by the key asked for and by the value's own key agree
  by_key : (key : List ℕ) (w : Value) → (same key w.key && is_live_at config now (held_from config past w)) ≡ (same key w.key && live_by key w)
  by_key key w = elim (cases_Bool (same key w.key)) [ inl e ↦ rw e (ap (λ k. live_by k w) (sym (same-true key w.key e))) | inr e ↦ rw e ]

  live-same : (key : List ℕ) → live_value config key past now ≡ live_at config now s.held key
  live-same key =
      if_lives-chosen key (last_accepted key past)
      ∙ pick (is_deleted key past) (is_key_covered key past) (list_any (λ w. same key w.key) (held_values past)) (dead_at key) (last_accepted key past) (spared key)
      ∙ sym (find-found key (last_accepted key past) (live_by key) (held_values past) (fits key))
      ∙ sym (ap (option_map (λ k. k.value)) (find-map (held_from config past) (λ k. same key k.value.key && is_live_at config now k) (held_values past))
      ∙ option_map-both (λ k. k.value) (held_from config past) (find (λ w. same key w.key && is_live_at config now (held_from config past w)) (held_values past))
      ∙ option_map_id (find (λ w. same key w.key && is_live_at config now (held_from config past w)) (held_values past))
      ∙ ap (λ p. find p (held_values past)) (fun_ext (by_key key)))

  -- a value that is held is found under its key exactly where it is live
  live-own : (v : Value) → Stands past v → is_told v.key past ≡ false → live_value config v.key past now ≡ cond (is_live_at config now (held_from config past v)) (Some v) None
  live-own v st there =
      if_lives-chosen v.key (last_accepted v.key past)
      ∙ ap (option_and_then (λ w. cond (not (is_deleted v.key past) && not (is_key_covered v.key past) && not (is_told v.key past) && not (dead_at v.key w)) (Some w) None)) st.last
      ∙ ap (λ d. cond (not d && not (is_key_covered v.key past) && not (is_told v.key past) && not (dead_at v.key v)) (Some v) None) st.kept
      ∙ ap (λ t. cond (true && not (is_key_covered v.key past) && not t && not (dead_at v.key v)) (Some v) None) there
      ∙ ap (λ b. cond (b && not (dead_at v.key v)) (Some v) None) (and-true (not (is_key_covered v.key past)))

  keys-same : (vs : List Value) → Each (λ v. Stands past v × (is_told v.key past ≡ false)) vs
      → filter_map (λ v. option_map (λ w. w.key) (live_value config v.key past now)) vs ≡ map (λ k. k.value.key) (filter (is_live_at config now) (map (held_from config past) vs))
  keys-same [] h = refl
  keys-same (v ∷ vs) (p, h) =
      ap (λ o. cons_option (option_map (λ w. w.key) o) (filter_map (λ x. option_map (λ w. w.key) (live_value config x.key past now)) vs)) (live-own v p.0 p.1)
      ∙ ap (cons_option (option_map (λ w. w.key) (cond (is_live_at config now (held_from config past v)) (Some v) None))) (keys-same vs h)
      ∙ (elim (cases_Bool (is_live_at config now (held_from config past v))) [ inl e ↦ rw e | inr e ↦ rw e ])

  load-same : (key : List ℕ) → load_of_key key past ≡ load_in s key
  load-same key =
      sym (ap (option_map (λ u. u.number)) (find-map (pending_from past) (λ u. same u.key key) (loads_under_way past))
      ∙ option_map-both (λ u. u.number) (pending_from past) (find (λ u. same u.key key) (loads_under_way past)))

  pub views-agree : view_of config past now ≡ view_in config s
  views-agree =
      ap (λ f. record { now = now; live = f; live_keys = live_keys config past now; load_of_key = λ key. load_of_key key past; next_load = next_load past; dropped = has_dropped past; held = map (candidate_of config past now) (held_values past) }) (fun_ext live-same)
      ∙ ap (λ ks. record { now = now; live = live_at config now s.held; live_keys = sorted ks; load_of_key = λ key. load_of_key key past; next_load = next_load past; dropped = has_dropped past; held = map (candidate_of config past now) (held_values past) })
      (keys-same (held_values past) (each-both _ _ (held_values past) stand (none_told past)))
      ∙ ap (λ f. record { now = now; live = live_at config now s.held; live_keys = live_keys_at config now s.held; load_of_key = f; next_load = next_load past; dropped = has_dropped past; held = map (candidate_of config past now) (held_values past) }) (fun_ext load-same)
      ∙ ap (λ cs. record { now = now; live = live_at config now s.held; live_keys = live_keys_at config now s.held; load_of_key = load_in s; next_load = next_load past; dropped = has_dropped past; held = cs })
      (sym (map-map (λ k. record { value = k.value; dead = deadline_has_come (deadline config k.value k.last_use) now; covered = k.covered; evictable = k.evictable; new = false }) (held_from config past) (held_values past)))

  pub key-same : (load : ℕ) → key_of_load load past ≡ pending_key load s
  key-same load =
      sym (ap (option_map (λ u. u.key)) (find-map (pending_from past) (λ u. u.number == load) (loads_under_way past))
      ∙ option_map-both (λ u. u.key) (pending_from past) (find (λ u. u.number == load) (loads_under_way past)))
