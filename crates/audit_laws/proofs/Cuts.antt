-- A feed may be cut in two, and two joined.
use Rattle.std.proofs.Common.{◌≡◌, refl, ap, ◌∙◌, sym, subst, ℕ, Bool, true, false, true≢false, not, ◌&&◌, cond, List, [], ◌∷◌, ◌++◌, append_assoc, Option, Some, None, is_some, is_none, nat_lt, nat_le, max, arith, ◌⊎◌, inl, inr}
use Rattle.std.specs.Prelude.{◌==◌}
use Rattle.std.specs.List.{find}
use Rattle.std.specs.Option.{option_map_or, option_and_then, option_or}
use Rattle.std.proofs.lemmas.Bool.{and_parts}
use Rattle.audit_model.specs.Belongs.{refusal_where, refusal_of_moment, refusal_of}
use Rattle.audit_model.specs.Follows.{Follows, after_event, after_steps, after_record, after_records, known_in, tasks_in}
use Rattle.audit_model.specs.Places.{tasks_to_feed}
use Rattle.audit_model.specs.Situation.{Situation, Connection, Standing, Ready, Held, Waiting, connection_in, is_holding, with_connection}
use Rattle.audit_model.specs.declared.config.Config.{Config}
use Rattle.audit_model.specs.declared.event.Event.TheVariants as event
use Rattle.audit_model.specs.declared.event.Instant.{Instant}
use Rattle.audit_model.specs.declared.input.ServiceError.{ServiceError}
use Rattle.audit_model.specs.declared.input.ServiceError.TheVariants as error
use Rattle.audit_model.specs.declared.transcript.Record.{Record}
use Rattle.audit_model.specs.declared.transcript.Step.{Step}
use Rattle.audit_laws.specs.Cutting.{feed_record, none_held, LeadsInTwo, FollowsInTwo}
use Rattle.audit_laws.specs.Laws.{FeedsMayBeCut}
use Rattle.audit_laws.specs.Placing.{placed_steps_in, placed_in}
use Rattle.audit_laws.proofs.Following.{Passed, passed}
use Rattle.audit_laws.proofs.FedMore.{Body, own-is, sit, more, IsDue}
use Rattle.audit_laws.proofs.FedTwice.{Ground, InTwo, InOne, cut-lines, cut-held, join-lines, join-held}
use Rattle.std.proofs.lemmas.Bool.Decides.{nat_tests}

-- ---- what a feed asks for

found : (p : Connection → Bool) (cs : List Connection) (c : Connection) → find p cs ≡ Some c → p c ≡ true
found p [] c e = absurd (true≢false (sym (ap is_some e)))
found p (x ∷ cs) c e = let next = found p cs c in grind (arith, nat_tests, next, e)

refused_by : (w o : Bool) (r : Option ServiceError) → is_none (option_or (option_or (refusal_where (not w) error.NoConnection) (refusal_where (not o) error.Closed)) r) ≡ true
    → (w ≡ true) × (o ≡ true) × (is_none r ≡ true)
refused_by true true r e = (refl, refl, e)
refused_by true false r e = absurd (true≢false (sym e))
refused_by false o r e = absurd (true≢false (sym e))

taken_by : (w o : Bool) (r : Option ServiceError) → w ≡ true → o ≡ true → is_none r ≡ true
    → is_none (option_or (option_or (refusal_where (not w) error.NoConnection) (refusal_where (not o) error.Closed)) r) ≡ true
taken_by true true r e f g = g
taken_by true false r e f g = absurd (true≢false (sym f))
taken_by false o r e f g = absurd (true≢false (sym e))

module _ (config : Config) (conn : ℕ) (moment : Instant) where
  abbrev steps_in : Situation → List ℕ → List Step → Option Situation
  steps_in s piece steps = after_steps config (after_event (event.Feed conn piece moment) s) (tasks_in s (event.Feed conn piece moment)) steps

  -- a feed that follows: its connection was opened and is open, its moment is no too late one, and its steps lead there
  record Fed (s : Situation) (piece : List ℕ) (steps : List Step) (t : Situation) : Type 0 where
    counted : (nat_lt 0 conn && nat_le conn s.opened) ≡ true
    stands_open : is_some (connection_in conn s) ≡ true
    timely : is_none (refusal_of_moment moment) ≡ true
    leads : steps_in s piece steps ≡ Some t

  fed-of : (s : Situation) (piece : List ℕ) (steps : List Step) (t : Situation) → Follows config s (feed_record conn moment piece steps) t → Fed s piece steps t
  fed-of s piece steps t e =
      let unrefused = is_none (refusal_of config (known_in s) (event.Feed conn piece moment)) in
      let on : Passed (unrefused && true && true) (steps_in s piece steps) t = passed (unrefused && true && true) (steps_in s piece steps) t e in
      let admitted = refused_by (nat_lt 0 conn && nat_le conn s.opened) (is_some (connection_in conn s)) (refusal_of_moment moment) (and_parts unrefused true (and_parts (unrefused && true) true on.test).0).0 in
      record { counted = admitted.0; stands_open = admitted.1; timely = admitted.2; leads = on.rest }

  fed-from : (s : Situation) (piece : List ℕ) (steps : List Step) (t : Situation) → Fed s piece steps t → Follows config s (feed_record conn moment piece steps) t
  fed-from s piece steps t f =
      ap (λ b. cond (b && true && true) (steps_in s piece steps) None) (taken_by (nat_lt 0 conn && nat_le conn s.opened) (is_some (connection_in conn s)) (refusal_of_moment moment) f.counted f.stands_open f.timely)
      ∙ f.leads

  -- ---- how a feed begins

  module _ (s : Situation) (c : Connection) (is : connection_in conn s ≡ Some c) where
    abbrev body : List ℕ → Body
    body piece = record { unread = c.unread ++ piece; standing = c.standing; waited = c.waited }

    abbrev later : Situation
    later = record s { latest = max moment.nanos s.latest }

    begins : (piece : List ℕ) → after_event (event.Feed conn piece moment) s ≡ sit conn false (body piece) later
    begins piece =
        ap (λ o. option_map_or (λ x. with_connection false (record x { unread = x.unread ++ piece }) later) o later) is
        ∙ ap (λ (x : Connection). with_connection false (record x { unread = c.unread ++ piece }) later) (own-is conn c (found (λ x. x.number == conn) s.connections c is))

    tasks-begin : (piece : List ℕ) → tasks_in s (event.Feed conn piece moment) ≡ tasks_to_feed conn (is_holding c.standing)
    tasks-begin piece = ap (λ o. tasks_to_feed conn (option_map_or (λ x. is_holding x.standing) o false)) is

    steps-begin : (piece : List ℕ) (steps : List Step) → steps_in s piece steps ≡ after_steps config (sit conn false (body piece) later) (tasks_to_feed conn (is_holding c.standing)) steps
    steps-begin piece steps = ap (λ x. after_steps config x (tasks_in s (event.Feed conn piece moment)) steps) (begins piece) ∙ ap (λ ts. after_steps config (sit conn false (body piece) later) ts steps) (tasks-begin piece)

    places-begin : (piece : List ℕ) (steps : List Step)
        → placed_in config s (feed_record conn moment piece steps) ≡ placed_steps_in config (sit conn false (body piece) later) (tasks_to_feed conn (is_holding c.standing)) steps
    places-begin piece steps =
        ap (λ x. placed_steps_in config x (tasks_in s (event.Feed conn piece moment)) steps) (begins piece)
        ∙ ap (λ ts. placed_steps_in config (sit conn false (body piece) later) ts steps) (tasks-begin piece)

    module _ (front rest : List ℕ) where
      ground : Ground config conn moment rest later
      ground = record { there = ap is_some is; latest = omega arith }

      longer : sit conn false (more conn rest (body front)) later ≡ sit conn false (body (front ++ rest)) later
      longer = ap (λ bs. sit conn false (record { unread = bs; standing = c.standing; waited = c.waited }) later) (append_assoc c.unread front rest)

      holds-due : (standing : Standing) → is_holding standing ≡ true → IsDue conn rest true standing (c.unread ++ front)
      holds-due (Held line) e = tt
      holds-due Ready e = true≢false (sym e)
      holds-due (Waiting line) e = true≢false (sym e)

      abbrev Two : List Step → Situation → Type 0
      Two steps t = InTwo config conn moment rest (is_holding c.standing) false (body front) later steps t

      in_two : (steps : List Step) (t : Situation) → none_held steps ≡ true → steps_in s (front ++ rest) steps ≡ Some t → Two steps t
      in_two steps t none e = go (is_holding c.standing) refl (ap (λ x. after_steps config x (tasks_to_feed conn (is_holding c.standing)) steps) longer ∙ sym (steps-begin (front ++ rest) steps) ∙ e)
        where
          go : (held : Bool) → is_holding c.standing ≡ held → after_steps config (sit conn false (more conn rest (body front)) later) (tasks_to_feed conn held) steps ≡ Some t
              → InTwo config conn moment rest held false (body front) later steps t
          go true h k = cut-held config conn moment rest steps (body front) later t ground (holds-due c.standing h) none k
          go false h k = cut-lines config conn moment rest steps false (body front) later t ground h none k

      abbrev Ending : Situation → List Step → Situation → Type 0
      Ending middle second t =
          ((connection_in conn middle ≡ None) × (second ≡ []) × (middle ≡ t))
          ⊎ ((is_some (connection_in conn middle) ≡ true) × (steps_in middle rest second ≡ Some t))

      in_one : (first second : List Step) (middle t : Situation) → none_held first ≡ true → steps_in s front first ≡ Some middle → Ending middle second t
          → InOne config conn moment rest (is_holding c.standing) false (body front) later first second middle t
      in_one first second middle t none e ends = go (is_holding c.standing) refl (sym (steps-begin front first) ∙ e)
        where
          go : (held : Bool) → is_holding c.standing ≡ held → after_steps config (sit conn false (body front) later) (tasks_to_feed conn held) first ≡ Some middle
              → InOne config conn moment rest held false (body front) later first second middle t
          go true h k = join-held config conn moment rest first (body front) later second middle t ground (holds-due c.standing h) none k ends
          go false h k = join-lines config conn moment rest first false (body front) later second middle t ground h none k ends

      -- the whole feed, from the two
      pub record Whole (first second : List Step) (middle t : Situation) : Type 0 where
        pub leads : steps_in s (front ++ rest) (first ++ second) ≡ Some t
        pub places : placed_in config s (feed_record conn moment (front ++ rest) (first ++ second)) ≡ placed_in config s (feed_record conn moment front first) ++ placed_in config middle (feed_record conn moment rest second)

      whole : (first second : List Step) (middle t : Situation) → none_held first ≡ true → steps_in s front first ≡ Some middle → Ending middle second t → Whole first second middle t
      whole first second middle t none e ends =
          let one = in_one first second middle t none e ends in
          record {
            leads =
                steps-begin (front ++ rest) (first ++ second)
                ∙ ap (λ x. after_steps config x (tasks_to_feed conn (is_holding c.standing)) (first ++ second)) (sym longer) ∙ one.leads;
            places =
                places-begin (front ++ rest) (first ++ second)
                ∙ ap (λ x. placed_steps_in config x (tasks_to_feed conn (is_holding c.standing)) (first ++ second)) (sym longer)
                ∙ one.places
                ∙ ap (λ ps. ps ++ placed_in config middle (feed_record conn moment rest second)) (sym (places-begin front first));
          }

-- ---- one feed and two

with_some : {X R : Type 0} (o : Option X) → is_some o ≡ true → ((x : X) → o ≡ Some x → R) → R
with_some None e f = absurd (true≢false (sym e))
with_some (Some x) e f = f x refl

-- two records that follow
pub record Both (config : Config) (s : Situation) (x y : Record) (t : Situation) : Type 0 where
  pub middle : Situation
  pub front : Follows config s x middle
  pub back : Follows config middle y t

-- two records that lead there
pub both-follow : (config : Config) (s : Situation) (x y : Record) (t : Situation) → after_records config s (x ∷ y ∷ []) ≡ Some t → Both config s x y t
both-follow config s x y t e = go (after_record config s x) refl e
  where
    last : (o : Option Situation) → option_and_then (λ u. Some u) o ≡ o
    last None = refl
    last (Some u) = refl

    go : (o : Option Situation) → after_record config s x ≡ o → option_and_then (λ u. after_records config u (y ∷ [])) o ≡ Some t → Both config s x y t
    go None k e = absurd (true≢false (sym (ap is_some e)))
    go (Some u) k e = record { middle = u; front = k; back = sym (last (after_record config u y)) ∙ e }

-- and the other way round
pub follow-both : (config : Config) (s middle t : Situation) (x y : Record) → Follows config s x middle → Follows config middle y t → after_records config s (x ∷ y ∷ []) ≡ Some t
follow-both config s middle t x y f g =
    ap (option_and_then (λ u. after_records config u (y ∷ []))) f ∙ ap (option_and_then (λ u. Some u)) g

module _ (config : Config) (s t : Situation) (conn : ℕ) (moment : Instant) (front rest : List ℕ) where
  feed-cut : (steps : List Step) → none_held steps ≡ true → Follows config s (feed_record conn moment (front ++ rest) steps) t → FollowsInTwo config s conn moment front rest steps t
  feed-cut steps none e =
      let f : Fed config conn moment s (front ++ rest) steps t = fed-of config conn moment s (front ++ rest) steps t e in
      with_some (connection_in conn s) f.stands_open
      (λ c is.
      let two : InTwo config conn moment rest (is_holding c.standing) false (body config conn moment s c is front) (later config conn moment s c is) steps t =
      in_two config conn moment s c is front rest steps t none f.leads in
      let leads-first : Follows config s (feed_record conn moment front two.first) two.middle =
      fed-from config conn moment s front two.first two.middle
      (record { counted = f.counted; stands_open = f.stands_open; timely = f.timely; leads = steps-begin config conn moment s c is front two.first ∙ two.leads }) in
      record { first = two.first; second = two.second; in_parts = two.in_parts; leads = ended f two.first two.second two.middle leads-first two.count two.ends })
    where
      ended : Fed config conn moment s (front ++ rest) steps t → (first second : List Step) (middle : Situation) → Follows config s (feed_record conn moment front first) middle → middle.opened ≡ s.opened
          → ((connection_in conn middle ≡ None) × (second ≡ []) × (middle ≡ t)) ⊎ ((is_some (connection_in conn middle) ≡ true) × (steps_in config conn moment middle rest second ≡ Some t))
          → LeadsInTwo config s conn moment front rest first second t
      ended f first second middle leads-first count (inl h) =
          inr (leads-first ∙ ap Some h.2, ap (connection_in conn) (sym h.2) ∙ h.0, h.1)
      ended f first second middle leads-first count (inr h) =
          inl (follow-both config s middle t (feed_record conn moment front first) (feed_record conn moment rest second) leads-first
          (fed-from config conn moment middle rest second t (record { counted = ap (λ n. nat_lt 0 conn && nat_le conn n) count ∙ f.counted; stands_open = h.0; timely = f.timely; leads = h.1 })))

  -- the two feeds in one, with its places
  pub record Joined (first second : List Step) (middle : Situation) : Type 0 where
    pub follows : Follows config s (feed_record conn moment (front ++ rest) (first ++ second)) t
    pub places : placed_in config s (feed_record conn moment (front ++ rest) (first ++ second)) ≡ placed_in config s (feed_record conn moment front first) ++ placed_in config middle (feed_record conn moment rest second)

  joined-by : (first second : List Step) (middle : Situation) → none_held first ≡ true → Fed config conn moment s front first middle
      → ((connection_in conn middle ≡ None) × (second ≡ []) × (middle ≡ t)) ⊎ ((is_some (connection_in conn middle) ≡ true) × (steps_in config conn moment middle rest second ≡ Some t))
      → Joined first second middle
  joined-by first second middle none f ends =
      with_some (connection_in conn s) f.stands_open
      (λ c is.
      let one : Whole config conn moment s c is front rest first second middle t = whole config conn moment s c is front rest first second middle t none f.leads ends in
      record {
        follows = fed-from config conn moment s (front ++ rest) (first ++ second) t (record { counted = f.counted; stands_open = f.stands_open; timely = f.timely; leads = one.leads });
        places = one.places;
      })

  -- two feeds that follow one another, in one
  pub joined-two : (first second : List Step) (middle : Situation) → none_held first ≡ true → Follows config s (feed_record conn moment front first) middle → Follows config middle (feed_record conn moment rest second) t
      → Joined first second middle
  joined-two first second middle none e k =
      let back : Fed config conn moment middle rest second t = fed-of config conn moment middle rest second t k in
      joined-by first second middle none (fed-of config conn moment s front first middle e) (inr (back.stands_open, back.leads))

  -- a feed that closes the connection, with more bytes behind
  pub joined-one : (first : List Step) → none_held first ≡ true → Follows config s (feed_record conn moment front first) t → connection_in conn t ≡ None → Joined first [] t
  joined-one first none e k = joined-by first [] t none (fed-of config conn moment s front first t e) (inl (k, refl, refl))

  feeds-joined : (first second : List Step) → none_held first ≡ true → LeadsInTwo config s conn moment front rest first second t → Follows config s (feed_record conn moment (front ++ rest) (first ++ second)) t
  feeds-joined first second none (inl e) =
      let two : Both config s (feed_record conn moment front first) (feed_record conn moment rest second) t = both-follow config s (feed_record conn moment front first) (feed_record conn moment rest second) t e in
      (joined-two first second two.middle none two.front two.back).follows
  feeds-joined first second none (inr h) =
      subst (λ xs. Follows config s (feed_record conn moment (front ++ rest) (first ++ xs)) t) (sym h.2) (joined-one first none h.0 h.1).follows

pub feeds_may_be_cut : FeedsMayBeCut
feeds_may_be_cut =
    record {
      cut = λ config s t conn moment front rest steps none e. feed-cut config s t conn moment front rest steps none e;
      joined = λ config s t conn moment front rest first second none e. feeds-joined config s t conn moment front rest first second none e;
    }
