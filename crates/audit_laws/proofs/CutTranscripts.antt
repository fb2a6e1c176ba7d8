-- A transcript with a feed cut in two, or two joined.
use Rattle.std.proofs.Common.{◌≡◌, refl, ap, ◌∙◌, sym, subst, true, false, true≢false, not, cond, ℕ, List, [], ◌∷◌, ◌++◌, Option, Some, None, is_some, inl, inr}
use Rattle.std.specs.Option.{option_and_then, option_map_or}
use Rattle.std.proofs.lemmas.Bool.{and_parts}
use Rattle.std.proofs.lemmas.List.{append-nil}
use Rattle.std.proofs.lemmas.List.Folds.{list_all-append}
use Rattle.audit_model.specs.Follows.{Follows, after_record, after_records}
use Rattle.audit_model.specs.History.{History}
use Rattle.audit_model.specs.Obeys.{accepted_values, agree_on_parts}
use Rattle.audit_model.specs.Places.{history_after, placed_steps}
use Rattle.audit_model.specs.Situation.{Situation, empty_situation, connection_in}
use Rattle.audit_model.specs.Stream.{is_open}
use Rattle.audit_model.specs.Summary.{connection_from, situation_of}
use Rattle.audit_model.specs.declared.config.Config.{Config}
use Rattle.audit_model.specs.declared.event.Instant.{Instant}
use Rattle.audit_model.specs.declared.transcript.Record.{Record}
use Rattle.audit_model.specs.declared.transcript.Step.{Step}
use Rattle.audit_model.specs.declared.transcript.Transcript.{Transcript}
use Rattle.audit_laws.specs.Breaking.{IsFaultless}
use Rattle.audit_laws.specs.Cutting.{feed_record, none_held, LeadsInTwo, FollowsInTwo, FaultlessInTwo, FaultlessParts}
use Rattle.audit_laws.specs.Laws.{TranscriptsMayBeCut}
use Rattle.audit_laws.specs.Placing.{placed_in, all_placed_in}
use Rattle.audit_laws.proofs.Connections.{connection-of, open-same}
use Rattle.audit_laws.proofs.Cuts.{Both, both-follow, Joined, joined-two, joined-one, feeds_may_be_cut}
use Rattle.audit_laws.proofs.FedTwice.{some_same}
use Rattle.audit_laws.proofs.Following.{after_records-append}
use Rattle.audit_laws.proofs.Journals.{places_agree, all_placed_in-append}
use Rattle.audit_laws.proofs.RecordsAgree.{leads-to_summary}
use Rattle.audit_laws.proofs.TranscriptsAgree.{agrees}

-- ---- records in the middle

record Bound (o : Option Situation) (f : Situation → Option Situation) : Type 0 where
  reached : Situation
  is : o ≡ Some reached
  then_some : is_some (f reached) ≡ true

bound : (o : Option Situation) (f : Situation → Option Situation) → is_some (option_and_then f o) ≡ true → Bound o f
bound None f e = absurd (true≢false (sym e))
bound (Some s) f e = record { reached = s; is = refl; then_some = e }

module _ (config : Config) (made : Instant) (before after : List Record) where
  abbrev start : Situation
  start = empty_situation made.nanos

  abbrev whole : List Record → Transcript
  whole xs = record { made = made; records = before ++ (xs ++ after) }

  -- the situations before and after the records in the middle
  pub record Amid (xs : List Record) : Type 0 where
    pub s : Situation
    pub t : Situation
    pub to : after_records config start before ≡ Some s
    pub through : after_records config s xs ≡ Some t
    pub on : is_some (after_records config t after) ≡ true

  amid : (xs : List Record) → is_some (after_records config start (whole xs).records) ≡ true → Amid xs
  amid xs e =
      let one : Bound (after_records config start before) (λ s. after_records config s (xs ++ after)) =
      bound _ _ (sym (ap is_some (after_records-append config start before (xs ++ after))) ∙ e) in
      let two : Bound (after_records config one.reached xs) (λ t. after_records config t after) =
      bound _ _ (sym (ap is_some (after_records-append config one.reached xs after)) ∙ one.then_some) in
      record { s = one.reached; t = two.reached; to = one.is; through = two.is; on = two.then_some }

  -- other records in the middle, which lead there by the same steps
  record Instead (xs ys : List Record) (m : Amid xs) : Type 0 where
    through : after_records config m.s ys ≡ Some m.t
    places : all_placed_in config m.s ys ≡ all_placed_in config m.s xs

  follow-amid : (xs : List Record) (s t : Situation) → after_records config start before ≡ Some s → after_records config s xs ≡ Some t
      → after_records config start (whole xs).records ≡ after_records config t after
  follow-amid xs s t e f =
      after_records-append config start before (xs ++ after) ∙ ap (option_and_then (λ u. after_records config u (xs ++ after))) e
      ∙ after_records-append config s xs after ∙ ap (option_and_then (λ u. after_records config u after)) f

  placed-amid : (xs : List Record) (s t : Situation) → after_records config start before ≡ Some s → after_records config s xs ≡ Some t
      → all_placed_in config start (whole xs).records ≡ all_placed_in config start before ++ (all_placed_in config s xs ++ all_placed_in config t after)
  placed-amid xs s t e f =
      all_placed_in-append config before (xs ++ after) start s e
      ∙ ap (λ ps. all_placed_in config start before ++ ps) (all_placed_in-append config xs after s t f)

  instead : (xs ys : List Record) (m : Amid xs) → Instead xs ys m → IsFaultless config (whole xs) → IsFaultless config (whole ys)
  instead xs ys m o faultless =
      let was = (agrees config (whole xs)).0 faultless in
      let follows : is_some (after_records config start (whole ys).records) ≡ true = ap is_some (follow-amid ys m.s m.t m.to o.through) ∙ m.on in
      let same_places : placed_steps config (whole ys) ≡ placed_steps config (whole xs) =
      places_agree config (whole ys) follows ∙ placed-amid ys m.s m.t m.to o.through
      ∙ ap (λ ps. all_placed_in config start before ++ (ps ++ all_placed_in config m.t after)) o.places
      ∙ sym (placed-amid xs m.s m.t m.to m.through) ∙ sym (places_agree config (whole xs) was.1) in
      (agrees config (whole ys)).1 (ap (λ ps. agree_on_parts (accepted_values ps)) same_places ∙ was.0, follows)

  -- the connection is closed then
  module _ (conn : ℕ) (xs : List Record) (s t : Situation) (to : after_records config start before ≡ Some s) (through : after_records config s xs ≡ Some t) where
    abbrev past : History
    past = history_after config made.nanos [] (before ++ xs)

    there : t ≡ situation_of config made.nanos past
    there =
        let led : after_records config start (before ++ xs) ≡ Some t = after_records-append config start before xs ∙ ap (option_and_then (λ u. after_records config u xs)) to ∙ through in
        some_same t (situation_of config made.nanos past) (sym led ∙ leads-to_summary config made.nanos (before ++ xs) (ap is_some led))

    closed-in : is_open conn past ≡ false → connection_in conn t ≡ None
    closed-in e = ap (connection_in conn) there ∙ connection-of config made.nanos past conn ∙ ap (λ b. cond b (Some (connection_from past conn)) None) e

    closed-from : connection_in conn t ≡ None → is_open conn past ≡ false
    closed-from e = open-same config made.nanos past conn ∙ ap (λ u. is_some (connection_in conn u)) (sym there) ∙ ap is_some e

-- ---- feeds

lone : (config : Config) (s t : Situation) (x : Record) → Follows config s x t → after_records config s (x ∷ []) ≡ Some t
lone config s t x f = ap (option_and_then (λ u. Some u)) f

from_lone : (config : Config) (s t : Situation) (x : Record) → after_records config s (x ∷ []) ≡ Some t → Follows config s x t
from_lone config s t x e = sym (last (after_record config s x)) ∙ e
  where
    last : (o : Option Situation) → option_and_then (λ u. Some u) o ≡ o
    last None = refl
    last (Some u) = refl

lone-places : (config : Config) (s t : Situation) (x : Record) → Follows config s x t → all_placed_in config s (x ∷ []) ≡ placed_in config s x
lone-places config s t x f = ap (λ o. placed_in config s x ++ option_map_or (λ u. all_placed_in config u []) o []) f ∙ append-nil (placed_in config s x)

both-places : (config : Config) (s t u : Situation) (x y : Record) → Follows config s x t → Follows config t y u → all_placed_in config s (x ∷ y ∷ []) ≡ placed_in config s x ++ placed_in config t y
both-places config s t u x y f g =
    ap (λ o. placed_in config s x ++ option_map_or (λ v. all_placed_in config v (y ∷ [])) o []) f
    ∙ ap (λ ps. placed_in config s x ++ ps) (lone-places config t u y g)

none-front : (xs ys : List Step) → none_held (xs ++ ys) ≡ true → none_held xs ≡ true
none-front xs ys e = (and_parts (none_held xs) (none_held ys) (sym (list_all-append (λ step. not step.held) xs ys) ∙ e)).0

module _ (config : Config) (made : Instant) (before after : List Record) (conn : ℕ) (moment : Instant) (front rest : List ℕ) where
  abbrev one : List Step → Record
  one steps = feed_record conn moment (front ++ rest) steps

  abbrev fore : List Step → Record
  fore steps = feed_record conn moment front steps

  abbrev aft : List Step → Record
  aft steps = feed_record conn moment rest steps

  follows-of : (xs : List Record) → IsFaultless config (whole config made before after xs) → Amid config made before after xs
  follows-of xs faultless = amid config made before after xs ((agrees config (whole config made before after xs)).0 faultless).1

  join-both : (first second : List Step) → none_held first ≡ true → IsFaultless config (whole config made before after (fore first ∷ aft second ∷ [])) → IsFaultless config (whole config made before after (one (first ++ second) ∷ []))
  join-both first second none faultless =
      let xs = fore first ∷ aft second ∷ [] in
      let m : Amid config made before after xs = follows-of xs faultless in
      let both : Both config m.s (fore first) (aft second) m.t = both-follow config m.s (fore first) (aft second) m.t m.through in
      let joined : Joined config m.s m.t conn moment front rest first second both.middle = joined-two config m.s m.t conn moment front rest first second both.middle none both.front both.back in
      instead config made before after xs (one (first ++ second) ∷ []) m
      (record {
        through = lone config m.s m.t (one (first ++ second)) joined.follows;
        places =
            lone-places config m.s m.t (one (first ++ second)) joined.follows ∙ joined.places
            ∙ sym (both-places config m.s both.middle m.t (fore first) (aft second) both.front both.back);
      }) faultless

  join-closed : (first : List Step) → none_held first ≡ true → IsFaultless config (whole config made before after (fore first ∷ [])) → is_open conn (history_after config made.nanos [] (before ++ fore first ∷ [])) ≡ false
      → IsFaultless config (whole config made before after (one (first ++ []) ∷ []))
  join-closed first none faultless shut =
      let xs = fore first ∷ [] in
      let m : Amid config made before after xs = follows-of xs faultless in
      let f : Follows config m.s (fore first) m.t = from_lone config m.s m.t (fore first) m.through in
      let joined : Joined config m.s m.t conn moment front rest first [] m.t = joined-one config m.s m.t conn moment front rest first none f (closed-in config made before after conn xs m.s m.t m.to m.through shut) in
      instead config made before after xs (one (first ++ []) ∷ []) m
      (record {
        through = lone config m.s m.t (one (first ++ [])) joined.follows;
        places =
            lone-places config m.s m.t (one (first ++ [])) joined.follows ∙ joined.places ∙ append-nil (placed_in config m.s (fore first))
            ∙ sym (lone-places config m.s m.t (fore first) f);
      }) faultless

  join : (first second : List Step) → none_held first ≡ true → FaultlessInTwo config made before after conn moment front rest first second → IsFaultless config (whole config made before after (one (first ++ second) ∷ []))
  join first second none (inl h) = join-both first second none h
  join first second none (inr h) = subst (λ xs. IsFaultless config (whole config made before after (one (first ++ xs) ∷ []))) (sym h.2) (join-closed first none h.0 h.1)

  cut-by : (first second : List Step) → none_held (first ++ second) ≡ true → IsFaultless config (whole config made before after (one (first ++ second) ∷ []))
      → (m : Amid config made before after (one (first ++ second) ∷ [])) → LeadsInTwo config m.s conn moment front rest first second m.t → FaultlessInTwo config made before after conn moment front rest first second
  cut-by first second none faultless m (inl e) =
      let both : Both config m.s (fore first) (aft second) m.t = both-follow config m.s (fore first) (aft second) m.t e in
      let joined : Joined config m.s m.t conn moment front rest first second both.middle =
      joined-two config m.s m.t conn moment front rest first second both.middle (none-front first second none) both.front both.back in
      inl (instead config made before after (one (first ++ second) ∷ []) (fore first ∷ aft second ∷ []) m
      (record {
        through = e;
        places =
            both-places config m.s both.middle m.t (fore first) (aft second) both.front both.back ∙ sym joined.places
            ∙ sym (lone-places config m.s m.t (one (first ++ second)) joined.follows);
      }) faultless)
  cut-by first second none faultless m (inr h) =
      let joined : Joined config m.s m.t conn moment front rest first [] m.t = joined-one config m.s m.t conn moment front rest first (none-front first second none) h.0 h.1 in
      let whole_one : Follows config m.s (one (first ++ second)) m.t = from_lone config m.s m.t (one (first ++ second)) m.through in
      inr (
        instead config made before after (one (first ++ second) ∷ []) (fore first ∷ []) m
            (record {
              through = lone config m.s m.t (fore first) h.0;
              places =
                  lone-places config m.s m.t (fore first) h.0 ∙ sym (append-nil (placed_in config m.s (fore first))) ∙ sym joined.places
                  ∙ ap (λ xs. placed_in config m.s (one (first ++ xs))) (sym h.2) ∙ sym (lone-places config m.s m.t (one (first ++ second)) whole_one);
            }) faultless,
        closed-from config made before after conn (fore first ∷ []) m.s m.t m.to (lone config m.s m.t (fore first) h.0) h.1,
        h.2,
      )

  cut : (steps : List Step) → none_held steps ≡ true → IsFaultless config (whole config made before after (one steps ∷ [])) → FaultlessParts config made before after conn moment front rest steps
  cut steps none faultless =
      let m : Amid config made before after (one steps ∷ []) = follows-of (one steps ∷ []) faultless in
      let parts : FollowsInTwo config m.s conn moment front rest steps m.t = feeds_may_be_cut.cut config m.s m.t conn moment front rest steps none (from_lone config m.s m.t (one steps) m.through) in
      record {
        first = parts.first;
        second = parts.second;
        in_parts = parts.in_parts;
        stays = by steps parts.first parts.second parts.in_parts none faultless m parts.leads;
      }
    where
      by : (steps first second : List Step) → steps ≡ first ++ second → none_held steps ≡ true → IsFaultless config (whole config made before after (one steps ∷ []))
          → (m : Amid config made before after (one steps ∷ [])) → LeadsInTwo config m.s conn moment front rest first second m.t → FaultlessInTwo config made before after conn moment front rest first second
      by steps first second e none faultless m leads =
          cut-by first second (sym (ap none_held e) ∙ none) (subst (λ xs. IsFaultless config (whole config made before after (one xs ∷ []))) e faultless)
          (record { s = m.s; t = m.t; to = m.to; through = subst (λ xs. after_records config m.s (one xs ∷ []) ≡ Some m.t) e m.through; on = m.on }) leads

pub transcripts_may_be_cut : TranscriptsMayBeCut
transcripts_may_be_cut =
    record {
      cut = λ config made before after conn moment front rest steps none faultless. cut config made before after conn moment front rest steps none faultless;
      joined = λ config made before after conn moment front rest first second none faultless. join config made before after conn moment front rest first second none faultless;
    }
