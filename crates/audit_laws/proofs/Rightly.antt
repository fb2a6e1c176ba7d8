-- What a right step is like.
use Rattle.std.proofs.Common.{inr, inl, ◌≡◌, refl, ap, ◌∙◌, sym, subst, ℕ, suc, ◌<◌, Bool, true, false, true≢false, ◌&&◌, ◌||◌, cond, List, [], ◌∷◌, Option, Some, None, length, is_some, is_none, arith}
use Rattle.std.specs.Prelude.{nat_eq}
use Rattle.std.specs.List.{find}
use Rattle.std.specs.Option.{option_map, option_map_or, option_eq}
use Rattle.std.proofs.lemmas.Bool.{cases_Bool, eqb-true}
use Rattle.audit_model.specs.Bytewise.{same}
use Rattle.audit_model.specs.Commands.{covers}
use Rattle.audit_model.specs.History.{Value, Action, Effect, History, Running, Holding}
use Rattle.audit_model.specs.Loads.{key_loaded, loads_sent, is_load_settled, loads_under_way, load_of_key}
use Rattle.audit_model.specs.Replies.{value_reply, is_reply, load_sent_by, offer_of, value_from, Offer}
use Rattle.audit_model.specs.Stream.{is_held, is_waiting}
use Rattle.audit_model.specs.View.{View}
use Rattle.audit_model.specs.declared.config.Config.{Config}
use Rattle.audit_model.specs.declared.command.Command.TheVariants as says
use Rattle.audit_laws.proofs.Told.{Each}
use Rattle.audit_laws.proofs.Views.{same-true}
use Rattle.audit_laws.proofs.Changes.{NumbersRightly}
use Rattle.audit_laws.proofs.PendingLoads.{SendsRightly}

-- a held step has no reply
held_by : (config : Config) (seen : View) (held : List Value) (effect : Effect) (action : Action) (reply : Option (List ℕ))
    → is_held (record effect { action = action; reply = reply }) ≡ true → is_reply config seen (record effect { action = action; reply = reply }) held ≡ true → is_none reply ≡ true
held_by config seen held effect Holding None e r = refl
held_by config seen held effect Holding (Some reply) e r = absurd (true≢false (sym r))
held_by config seen held effect action reply e r = absurd (true≢false (sym e))

pub held-silent : (config : Config) (seen : View) (held : List Value) (effect : Effect) → is_reply config seen effect held ≡ true → is_held effect ≡ true → is_none effect.reply ≡ true
held-silent config seen held effect r e = held_by config seen held effect effect.action effect.reply e r

-- a step that covers values accepts none
pub no_value : (config : Config) (now : ℕ) (part : Option ℕ) (v : Value) (P : Type 0) → value_from config now None part ≡ Some v → P
no_value config now None v P e = absurd (true≢false (sym (ap is_some e)))
no_value config now (Some part) v P e = absurd (true≢false (sym (ap is_some e)))

uncovering_by : (config : Config) (seen : View) (part : Option ℕ) (effect : Effect) (action : Action) (v : Value)
    → value_from config seen.now (offer_of config seen action) part ≡ Some v → covers v.key (record effect { action = action }) ≡ false
uncovering_by config seen part effect (Running says.Clear) v e = no_value config seen.now part v _ e
uncovering_by config seen part effect (Running (says.DropIf prefix)) v e = no_value config seen.now part v _ e
uncovering_by config seen part effect (Running command) v e = refl
uncovering_by config seen part effect action v e = refl

pub uncovering : (config : Config) (seen : View) (part : Option ℕ) (effect : Effect) (v : Value)
    → value_from config seen.now (offer_of config seen effect.action) part ≡ Some v → covers v.key effect ≡ false
uncovering config seen part effect v e = uncovering_by config seen part effect effect.action v e

-- what a step accepts is accepted at its moment
pub dated : (config : Config) (now : ℕ) (offer : Option Offer) (part : Option ℕ) (v : Value) → value_from config now offer part ≡ Some v → v.accepted_at ≡ now
dated config now (Some offer) (Some part) v e = ap (λ o. option_map_or (λ w. w.accepted_at) o now) (sym e)
dated config now None (Some part) v e = ap (λ o. option_map_or (λ w. w.accepted_at) o now) (sym e)
dated config now offer None v e = ap (λ o. option_map_or (λ w. w.accepted_at) o now) (sym e)

-- a load that is sent
pub record SentNow (reply : Option (List ℕ)) (load : Option ℕ) (n next : ℕ) : Type 0 where
  pub waits : is_none reply ≡ true
  pub alone : load ≡ None
  pub number : n ≡ next

sent_now : (reply : Option (List ℕ)) (n next : ℕ) (live : Option Value) (load : Option ℕ)
    → option_eq nat_eq (Some n) (cond (is_some live || is_some load) None (Some next)) ≡ true
    → (option_eq same reply (option_map (λ value. value_reply value.bytes) live) || false) ≡ true → SentNow reply load n next
sent_now reply n next (Some v) load e r = absurd (true≢false (sym e))
sent_now reply n next None (Some m) e r = absurd (true≢false (sym e))
sent_now None n next None None e r = record { waits = refl; alone = refl; number = eqb-true n next e }
sent_now (Some reply) n next None None e r = absurd (true≢false (sym r))

not_found : {X : Type 0} (p : X → Bool) (f : X → ℕ) (xs : List X) → option_map f (find p xs) ≡ None → Each (λ x. p x ≡ false) xs
not_found p f [] e = tt
not_found p f (x ∷ xs) e =
    ((elim (cases_Bool (p x)) [ inl is ↦ rw is (absurd (true≢false (ap is_some (rw is at e)))) | inr is ↦ rw is ]), not_found p f xs ((elim (cases_Bool (p x)) [ inl t ↦ absurd (true≢false (ap is_some (rw t at e))) | inr t ↦ rw t at e ])))

module _ (config : Config) (past : History) (seen : View) (sees : (key : List ℕ) → seen.load_of_key key ≡ load_of_key key past) (next : seen.next_load ≡ suc (length (loads_sent past)))
    (unsettled : (n : ℕ) → length (loads_sent past) < n → is_load_settled n past ≡ false) (held : List Value) (c : ℕ) (runs : ℕ → Bool) (running : runs c ≡ true) where
  sends_by : (effect : Effect) (action : Action) (reply : Option (List ℕ)) (load : Option ℕ)
      → option_eq nat_eq load (load_sent_by seen action) ≡ true → is_reply config seen (record effect { action = action; reply = reply }) held ≡ true
      → SendsRightly past c runs running (is_waiting (record effect { action = action; reply = reply })) (key_loaded action) load × NumbersRightly past (key_loaded action) load
  sends_by effect (Running (says.Load key)) reply (Some n) e r =
      let is : SentNow reply (seen.load_of_key key) n seen.next_load = sent_now reply n seen.next_load (seen.live key) (seen.load_of_key key) e r in
      ((ap (λ b. b && true) is.waits, unsettled n (subst (λ m. length (loads_sent past) < m) (sym (is.number ∙ next)) (omega arith)), not_found _ (λ sent. sent.number) (loads_under_way past) (sym (sees key) ∙ is.alone)), is.number ∙ next)
  sends_by effect (Running (says.Load key)) reply None e r = (tt, tt)
  sends_by effect (Running command) reply load e r = (tt, tt)
  sends_by effect action reply load e r = (tt, tt)

  pub sends-rightly : (effect : Effect) → option_eq nat_eq effect.load (load_sent_by seen effect.action) ≡ true → is_reply config seen effect held ≡ true
      → SendsRightly past c runs running (is_waiting effect) (key_loaded effect.action) effect.load × NumbersRightly past (key_loaded effect.action) effect.load
  sends-rightly effect e r = sends_by effect effect.action effect.reply effect.load e r

pub line-due : (o : Option (List ℕ)) (line : List ℕ) → option_eq same o (Some line) ≡ true → o ≡ Some line
line-due None line e = absurd (true≢false (sym e))
line-due (Some l) line e = ap (λ x. Some x) (same-true l line e)
