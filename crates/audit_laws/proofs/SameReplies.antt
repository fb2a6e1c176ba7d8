-- What a step answers, where the same is live: with another capacity, eviction policy and number of parts.
use Rattle.std.proofs.Common.{inr, inl, arith, ◌≡◌, refl, ap, ◌∙◌, sym, ℕ, ◌+◌, ◌^◌, Bool, true, false, true≢false, not, ◌&&◌, ◌||◌, cond, List, [], ◌∷◌, Option, Some, None, is_some, nat_lt}
use Rattle.std.specs.Prelude.{codes}
use Rattle.std.specs.List.{filter}
use Rattle.std.specs.Option.{option_map, option_and_then, option_eq}
use Rattle.std.specs.Fmt.{decimal}
use Rattle.std.proofs.Math.Bool.{or-false}
use Rattle.audit_model.specs.Bytewise.{same, text_line}
use Rattle.audit_model.specs.Commands.{deed_of, key_deleted, is_this, is_sync}
use Rattle.audit_model.specs.Grammar.{number_in}
use Rattle.audit_model.specs.History.{Effect, Action, Running, Faulting, Holding, Delivering, Abandoning, Storing, Value, accepts_values}
use Rattle.audit_model.specs.Replies.{value_reply, value_or_none, yes_or_no, sum_with, sum_or_error, keys_listed, reply_of, may_refuse, is_reply, load_sent_by, Offer, offered, taken_where, offer_of, value_from}
use Rattle.audit_model.specs.Situation.{HeldValue, is_live_at, live_at}
use Rattle.audit_model.specs.View.{View}
use Rattle.audit_model.specs.declared.command.Command.TheVariants as says
use Rattle.audit_model.specs.declared.config.Config.{Config}
use Rattle.audit_model.specs.declared.config.EvictionPolicy.{EvictionPolicy}
use Rattle.audit_model.specs.declared.event.Outcome.TheVariants as came
use Rattle.audit_laws.specs.Comparing.{otherwise}
use Rattle.audit_laws.proofs.Lasting.{Living, living_of, alive, of_key, lasting, accepted_by, IsFresh, AtMostOne, Nobody, Lone, one-of_key, first, find-first}
use Rattle.audit_laws.proofs.Pairs.{Pairs, Differ}
use Rattle.audit_laws.proofs.Rightly.{uncovering, dated, no_value}
use Rattle.audit_laws.proofs.Views.{same-true}
use Rattle.std.proofs.lemmas.Bool.Decides.{nat_tests}
use Rattle.std.proofs.lemmas.Bool.{cases_Bool}

-- ---- the live value's bytes

filter-both : {X : Type 0} (p q : X → Bool) (xs : List X) → filter (λ x. p x && q x) xs ≡ filter q (filter p xs)
filter-both p q [] = refl
filter-both p q (x ∷ xs) = let next = filter-both p q xs in grind (arith, nat_tests, next)

-- a value's bytes
abbrev pub bytes_in : Option Value → Option (List ℕ)
bytes_in o = option_map (λ v. v.bytes) o

-- the bytes of what is live
abbrev pub living_bytes : Option Living → Option (List ℕ)
living_bytes o = option_map (λ l. l.bytes) o

one_live : (config : Config) (now : ℕ) (h : HeldValue) (c d : Bool)
    → bytes_in (option_map (λ h. h.value) (first (cond (not c && not d) (h ∷ []) []))) ≡ living_bytes (cond c None (cond d None (Some (living_of h))))
one_live config now h true d = refl
one_live config now h false true = refl
one_live config now h false false = refl

-- the live value has the bytes of what is live
pub live-bytes : (config : Config) (now : ℕ) (held : List HeldValue) (key : List ℕ) → Pairs (λ g h. Differ g.value.key h.value.key) held
    → bytes_in (live_at config now held key) ≡ living_bytes (lasting config now held key)
live-bytes config now held key distinct =
    ap (λ o. bytes_in (option_map (λ h. h.value) o)) (find-first (λ h. same key h.value.key && is_live_at config now h) held)
    ∙ ap (λ xs. bytes_in (option_map (λ h. h.value) (first xs))) (filter-both (λ h. same key h.value.key) (is_live_at config now) held)
    ∙ go (one-of_key key held distinct)
  where
    go : AtMostOne (of_key key held) → bytes_in (option_map (λ h. h.value) (first (filter (is_live_at config now) (of_key key held)))) ≡ living_bytes (lasting config now held key)
    go (Nobody n) = ap (λ xs. bytes_in (option_map (λ h. h.value) (first (filter (is_live_at config now) xs)))) n ∙ sym (ap (λ xs. living_bytes (alive config now (first xs))) n)
    go (Lone h n) =
        ap (λ xs. bytes_in (option_map (λ h. h.value) (first (filter (is_live_at config now) xs)))) n
        ∙ one_live config now h h.covered _
        ∙ sym (ap (λ xs. living_bytes (alive config now (first xs))) n)

-- there is a value where there are bytes
pub some-bytes : (o : Option Value) → is_some o ≡ is_some (bytes_in o)
some-bytes None = refl
some-bytes (Some v) = refl

-- ---- what two views have in common

-- of each key the same bytes are live, and all else but what is held is the same
pub record SeenAlike (a b : View) : Type 0 where
  pub live : (key : List ℕ) → bytes_in (a.live key) ≡ bytes_in (b.live key)
  pub live_keys : a.live_keys ≡ b.live_keys
  pub load_of_key : (key : List ℕ) → a.load_of_key key ≡ b.load_of_key key
  pub next_load : a.next_load ≡ b.next_load
  pub dropped : a.dropped ≡ b.dropped

-- what is read of a live value is read of its bytes
by_bytes : {X : Type 0} (f : Option Value → X) (g : Option (List ℕ) → X) → ((o : Option Value) → f o ≡ g (bytes_in o)) → (o p : Option Value) → bytes_in o ≡ bytes_in p → f o ≡ f p
by_bytes f g e o p k = e o ∙ ap g k ∙ sym (e p)

abbrev value_or_none_in : Option (List ℕ) → List ℕ
value_or_none_in None = text_line (codes "NONE")
value_or_none_in (Some bytes) = value_reply bytes

-- the reply of a `GET`
pub value_or_none-same : (o p : Option Value) → bytes_in o ≡ bytes_in p → value_or_none o ≡ value_or_none p
value_or_none-same o p k = by_bytes value_or_none value_or_none_in go o p k
  where
    go : (o : Option Value) → value_or_none o ≡ value_or_none_in (bytes_in o)
    go None = refl
    go (Some v) = refl

abbrev yes_or_no_in : Option (List ℕ) → List ℕ
yes_or_no_in None = text_line (codes "NO")
yes_or_no_in (Some bytes) = text_line (codes "YES")

-- the reply of a `HAS`
pub yes_or_no-same : (o p : Option Value) → bytes_in o ≡ bytes_in p → yes_or_no o ≡ yes_or_no p
yes_or_no-same o p k = by_bytes yes_or_no yes_or_no_in go o p k
  where
    go : (o : Option Value) → yes_or_no o ≡ yes_or_no_in (bytes_in o)
    go None = refl
    go (Some v) = refl

-- the reply of a `LOAD`
pub loaded-same : (o p : Option Value) → bytes_in o ≡ bytes_in p → option_map (λ value. value_reply value.bytes) o ≡ option_map (λ value. value_reply value.bytes) p
loaded-same o p k = by_bytes (option_map (λ value. value_reply value.bytes)) (option_map value_reply) go o p k
  where
    go : (o : Option Value) → option_map (λ value. value_reply value.bytes) o ≡ option_map value_reply (bytes_in o)
    go None = refl
    go (Some v) = refl

abbrev sum_in : ℕ → Option (List ℕ) → Option ℕ
sum_in number None = Some number
sum_in number (Some bytes) = option_and_then (λ n. cond (nat_lt (n + number) (2 ^ 64)) (Some (n + number)) None) (number_in bytes)

-- the sum of an `ADD`
pub sum-same : (number : ℕ) (o p : Option Value) → bytes_in o ≡ bytes_in p → sum_with o number ≡ sum_with p number
sum-same number o p k = by_bytes (λ o. sum_with o number) (sum_in number) go o p k
  where
    go : (o : Option Value) → sum_with o number ≡ sum_in number (bytes_in o)
    go None = refl
    go (Some v) = refl

module _ (config : Config) (capacity : Option ℕ) (policy : EvictionPolicy) (parts : ℕ) (accepts : accepts_values config.capacity ≡ accepts_values capacity) where
  -- the other configuration
  abbrev pub other : Config
  other = otherwise config capacity policy parts

  -- ---- replies, loads and offers

  -- each reply but a `SYNC`'s is the same
  pub replies-same : (a b : View) (held more : List Value) (action : Action) → SeenAlike a b → is_sync action ≡ false → reply_of config a held action ≡ reply_of other b more action
  replies-same a b held more (Running (says.Set key ms value)) s e = ap (λ x. Some (cond x (text_line (codes "OK")) (text_line (codes "OFF")))) accepts
  replies-same a b held more (Running (says.Get key)) s e = ap Some (value_or_none-same (a.live key) (b.live key) (s.live key))
  replies-same a b held more (Running (says.Has key)) s e = ap Some (yes_or_no-same (a.live key) (b.live key) (s.live key))
  replies-same a b held more (Running (says.Load key)) s e = loaded-same (a.live key) (b.live key) (s.live key)
  replies-same a b held more (Running (says.Del key)) s e = refl
  replies-same a b held more (Running (says.Add key ms number)) s e =
      ap (λ x. Some (cond x (sum_or_error (sum_with (a.live key) number)) (text_line (codes "OFF")))) accepts
      ∙ ap (λ x. Some (cond (accepts_values capacity) (sum_or_error x) (text_line (codes "OFF")))) (sum-same number (a.live key) (b.live key) (s.live key))
  replies-same a b held more (Running says.Clear) s e = refl
  replies-same a b held more (Running (says.DropIf prefix)) s e = refl
  replies-same a b held more (Running says.Keys) s e = ap (λ ks. Some (keys_listed ks)) s.live_keys
  replies-same a b held more (Running says.Sync) s e = absurd (true≢false e)
  replies-same a b held more (Running says.Quit) s e = refl
  replies-same a b held more (Faulting error) s e = refl
  replies-same a b held more Holding s e = refl
  replies-same a b held more (Delivering outcome) s e = refl
  replies-same a b held more Abandoning s e = refl
  replies-same a b held more (Storing key outcome) s e = refl

  sync_says : (a : View) (held : List Value) (action : Action) → is_sync action ≡ true → (c : Config) → is_some (reply_of c a held action) ≡ true
  sync_says a held (Running says.Sync) e c = refl
  sync_says a held (Running command) e c = absurd (true≢false (sym e))
  sync_says a held action e c = absurd (true≢false (sym e))

  sync_unrefused : (a : View) (action : Action) → is_sync action ≡ true → may_refuse a action ≡ false
  sync_unrefused a (Running says.Sync) e = refl
  sync_unrefused a (Running command) e = absurd (true≢false (sym e))
  sync_unrefused a action e = absurd (true≢false (sym e))

  option-same : (o p : Option (List ℕ)) → option_eq same o p ≡ true → o ≡ p
  option-same None None e = refl
  option-same None (Some b) e = absurd (true≢false (sym e))
  option-same (Some a) None e = absurd (true≢false (sym e))
  option-same (Some a) (Some b) e = ap Some (same-true a b e)

  abbrev refusal : Option (List ℕ)
  refusal = Some (text_line (codes "ERR id"))

  unrefused-reply : (c : Config) (a : View) (effect : Effect) (held : List Value) → option_eq same effect.reply refusal ≡ false → is_reply c a effect held ≡ true → effect.reply ≡ reply_of c a held effect.action
  unrefused-reply c a effect held n e =
      option-same effect.reply (reply_of c a held effect.action)
      (sym (ap (λ b. option_eq same effect.reply (reply_of c a held effect.action) || (may_refuse a effect.action && b)) n
      ∙ ap (λ b. option_eq same effect.reply (reply_of c a held effect.action) || b) ((elim (cases_Bool (may_refuse a effect.action)) [ inl is ↦ rw is | inr is ↦ rw is ])) ∙ or-false _) ∙ e)

  -- a reply, with another one, in which the same is refused
  pub reply-same : (a b : View) (held more : List Value) (x y : Effect) → SeenAlike a b → x.action ≡ y.action → is_sync x.action ≡ false
      → option_eq same x.reply refusal ≡ option_eq same y.reply refusal
      → is_reply config a x held ≡ true → is_reply other b y more ≡ true → x.reply ≡ y.reply
  reply-same a b held more x y s k n refused r q = go (option_eq same x.reply refusal) refl
    where
      go : (t : Bool) → option_eq same x.reply refusal ≡ t → x.reply ≡ y.reply
      go true e = option-same x.reply refusal e ∙ sym (option-same y.reply refusal (sym refused ∙ e))
      go false e =
          unrefused-reply config a x held e r
          ∙ replies-same a b held more x.action s n ∙ ap (reply_of other b more) k
          ∙ sym (unrefused-reply other b y more (sym refused ∙ e) q)

  -- a `SYNC` replies
  pub sync-replies : (c : Config) (a : View) (held : List Value) (x : Effect) → is_sync x.action ≡ true → is_reply c a x held ≡ true → is_some x.reply ≡ true
  sync-replies c a held x e r =
      ap is_some (option-same x.reply (reply_of c a held x.action)
      (sym (ap (λ b. option_eq same x.reply (reply_of c a held x.action) || (b && option_eq same x.reply refusal)) (sync_unrefused a x.action e) ∙ or-false _) ∙ r))
      ∙ sync_says a held x.action e c

  -- the same load is sent
  pub loads-same : (a b : View) (action : Action) → SeenAlike a b → load_sent_by a action ≡ load_sent_by b action
  loads-same a b (Running (says.Load key)) s =
      ap (λ x. cond (x || is_some (a.load_of_key key)) None (Some a.next_load)) (some-bytes (a.live key) ∙ ap is_some (s.live key) ∙ sym (some-bytes (b.live key)))
      ∙ ap (λ x. cond (is_some (b.live key) || is_some x) None (Some a.next_load)) (s.load_of_key key)
      ∙ ap (λ x. cond (is_some (b.live key) || is_some (b.load_of_key key)) None (Some x)) s.next_load
  loads-same a b (Running command) s = refl
  loads-same a b action s = refl

  offered-same : (a b : View) (action : Action) → SeenAlike a b → offered a action ≡ offered b action
  offered-same a b (Running (says.Set key ms value)) s = refl
  offered-same a b (Running (says.Add key ms number)) s =
      ap (option_map (λ sum. record { key = key; bytes = decimal sum; ms = ms })) (sum-same number (a.live key) (b.live key) (s.live key))
  offered-same a b (Storing (Some key) (came.Value bytes ms)) s = refl
  offered-same a b (Running command) s = refl
  offered-same a b action s = refl

  -- the same value is offered
  pub offers-same : (a b : View) (action : Action) → SeenAlike a b → offer_of config a action ≡ offer_of other b action
  offers-same a b action s = ap (λ x. taken_where x (offered a action)) accepts ∙ ap (taken_where (accepts_values capacity)) (offered-same a b action s)

  -- ---- what is accepted

  -- of an accepted value the same is live, whatever its part
  pub living-accepted : (now : ℕ) (key : List ℕ) (offer : Option Offer) (p q : Option ℕ) (rest : Option Living) → is_some p ≡ is_some q
      → accepted_by config now key (value_from config now offer p) rest ≡ accepted_by config now key (value_from other now offer q) rest
  living-accepted now key offer None None rest e = refl
  living-accepted now key offer None (Some q) rest e = absurd (true≢false (sym e))
  living-accepted now key offer (Some p) None rest e = absurd (true≢false e)
  living-accepted now key None (Some p) (Some q) rest e = refl
  living-accepted now key (Some offer) (Some p) (Some q) rest e = refl

-- ---- a value is accepted now, by a step that neither deletes nor covers its key

undeleted_by : (config : Config) (seen : View) (part : Option ℕ) (action : Action) (v : Value) → value_from config seen.now (offer_of config seen action) part ≡ Some v → is_this v.key (key_deleted action) ≡ false
undeleted_by config seen part (Running (says.Del key)) v e = no_value config seen.now part v _ e
undeleted_by config seen part (Running command) v e = refl
undeleted_by config seen part action v e = refl

-- a step's deed accepts its value now, and neither deletes nor covers it
pub fresh-deed : (config : Config) (seen : View) (part : Option ℕ) (effect : Effect) → effect.value ≡ value_from config seen.now (offer_of config seen effect.action) part → IsFresh seen.now (deed_of effect)
fresh-deed config seen part effect is v e =
    (uncovering config seen part effect v (sym is ∙ e), undeleted_by config seen part effect.action v (sym is ∙ e), dated config seen.now (offer_of config seen effect.action) part v (sym is ∙ e))
