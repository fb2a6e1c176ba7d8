-- A script from its new service to its end.
use Rattle.std.proofs.Common.{◌≡◌, ℕ, ◌+◌, nat_le, Bool, true, false, List, [], ◌∷◌, ◌++◌, map, length, Option, None, Some, is_some, refl, sym, ap, ◌∙◌, subst, arith, inl, inr}
use Rattle.std.specs.Io.KnownBytes.{Appends, Consumes}
use Rattle.std.specs.Prelude.{◌&&◌, ◌==◌, is_none, unwrap_or, Result, Ok, Err, IsOk, OnOk}
use Rattle.std.specs.List.{flat_map, list_all, slice_get}
use Rattle.std.specs.Option.{option_map_or}
use Rattle.std.specs.Result.{result_and}
use Rattle.std.proofs.lemmas.Bool.{eq-eqb, le-leb}
use Rattle.std.proofs.lemmas.List.{append-nil}
use Rattle.std.proofs.lemmas.Option.{none-some, same_Some}
use Rattle.audit_laws.proofs.OnePart.{one-part-obeys}
use Rattle.audit_model.specs.Follows.{after_records}
use Rattle.audit_model.specs.Situation.{Connection, Situation, connection_in, empty_situation}
use Rattle.audit_model.specs.declared.command.Closing.{Closing}
use Rattle.audit_model.specs.declared.command.Closing.TheVariants as by
use Rattle.cache_run.specs.Devices.Sources.{Readings}
use Rattle.cache_run.specs.Worlds.{Carried, nothing_left, records_of, outside, world}
use Rattle.cache_run.specs.Connected.{IsEnded}
use Rattle.cache_run.specs.Happened.{HostTurn, moment_in, turn_notes, piece_in, replies_in}
use Rattle.audit_model.specs.declared.event.Outcome.{Outcome}
use Rattle.cache_run.specs.Runs.{EndsConnection, ServesWhole}
use Rattle.cache_run.proofs.Happening.{IsSoundAt, listed-is}
use Rattle.cache_spaces.proofs.Placing.{at-is}
use Rattle.cache_spaces.specs.Services.{BareSpace, bare_tape, AreNewSpaces, IsSoundSpace}
use Rattle.cache_spaces.specs.Calls.{At}
use Rattle.cache_spaces.specs.Spaces.{StandsFor, closing_of, config_of, untaken_notes}
use Rattle.cached_server.specs.Script.Notes.{notes_text, notices_at}
use Rattle.cached_server.specs.Script.Scripts.{EndsScript, ServesScript, script_config, script_transcript}

-- a clock that stands at 0
abbrev pub stands_still : {C : Type 0} → C → ℕ → C → Type 0
stands_still c t d = t ≡ 0

all-still : {C : Type 0} (c d : C) (turns : List HostTurn) → Readings stands_still c (map moment_in turns ++ []) d → list_all (λ (turn : HostTurn). moment_in turn == 0) turns ≡ true
all-still c d [] told = refl
all-still c d (turn ∷ turns) told =
    ap (λ b. b && list_all (λ (f : HostTurn). moment_in f == 0) turns) (eq-eqb (moment_in turn) 0 told.1) ∙ all-still told.0 d turns told.2

-- what stands where it went well
pub where-ok : {T E P : Type 0} (r : Result T E) → IsOk r → OnOk r P → P
where-ok (Ok u) ok p = p
where-ok (Err e) ok p = cc

-- both went well
pub both-ok : {E : Type 0} (r s both : Result (Unit {0}) E) (u : Unit {0}) → both ≡ result_and r s → both ≡ Ok u → IsOk r × IsOk s
both-ok (Ok x) (Ok y) both u is ok = (refl, refl)
both-ok (Ok x) (Err e) both u is ok = absurd (let no : Err e ≡ Ok u = sym is ∙ ok in cc)
both-ok (Err e) s both u is ok = absurd (let no : Err e ≡ Ok u = sym is ∙ ok in cc)

-- a connection of which it is known why it closed was opened
opened-closed : (closings : List (Option Closing)) (why : Closing) → unwrap_or (slice_get closings 0) None ≡ Some why → nat_le 1 (length closings) ≡ true
opened-closed [] why e = absurd (none-some why e)
opened-closed (c ∷ cs) why e = le-leb 1 (length (c ∷ cs)) (omega arith)

-- and is not listed
unlisted : (space : BareSpace) (s : Situation) (why : Closing) → IsSoundSpace bare_tape space → StandsFor space s → closing_of space 1 ≡ Some why → connection_in 1 s ≡ None
unlisted space s why sound stands closed = go (connection_in 1 s) (listed-is space s 1 sound stands (opened-closed space.closings why closed) ∙ ap is_none closed)
  where
    go : (o : Option Connection) → is_some o ≡ false → o ≡ None
    go None e = refl
    go (Some c) e = let no : true ≡ false = e in cc

ended-why : (closing : Option Closing) → IsEnded closing → (why : Closing) × (closing ≡ Some why)
ended-why closing (inl long) = (by.Long, long)
ended-why closing (inr (inl quit)) = (by.Quit, quit)
ended-why closing (inr (inr behind)) = (by.Behind, behind)

-- the script came to its end
ends-so : (space : BareSpace) (s : Situation) (turns : List HostTurn) (closes : Bool) (rest : Option (List ℕ)) → IsSoundSpace bare_tape space → StandsFor space s
    → after_records script_config (empty_situation 0) (records_of 1 true turns closes []) ≡ Some s → EndsConnection closes (closing_of space 1) rest → EndsScript closes turns rest
ends-so space s turns true rest sound stands leads ends = ends.1
ends-so space s turns false rest sound stands leads ends = λ t other.
    let why = ended-why (closing_of space 1) ends in
    subst (λ u. connection_in 1 u ≡ None) (same_Some s t (sym leads ∙ other)) (unlisted space s why.0 sound stands why.1)

module _ {C L : Type 0} (loads : L → List ℕ → Option Outcome → L → Type 0) (input rest output written errors told : Option (List ℕ)) (clock after : C) (loader later : L) where
  carried-script : (was is : BareSpace) (number : ℕ) (closes : Bool) (s : Situation) → number ≡ 1 → config_of was ≡ script_config → untaken_notes was ≡ []
      → Carried (config_of was) number stands_still loads (world was (empty_situation 0) (outside input output clock loader)) (world is s (outside rest written after later)) true closes [] nothing_left
      → IsSoundSpace bare_tape is → StandsFor is s → EndsConnection closes (closing_of is number) rest → Appends errors told (notes_text (untaken_notes is))
      → ServesScript input rest output written errors told
  carried-script was is number closes s first configured none c sound stands ends notes =
      let leads : after_records script_config (empty_situation 0) (records_of 1 true c.turns closes []) ≡ Some s =
      subst (λ n. after_records script_config (empty_situation 0) (records_of n true c.turns closes []) ≡ Some s) first
      (subst (λ k. after_records k (empty_situation 0) (records_of number true c.turns closes []) ≡ Some s) configured c.follows) in
      let o = one-part-obeys script_config (script_transcript c.turns closes) s refl leads in
      record {
        turns = c.turns;
        closes = closes;
        obeys = o.0;
        admitted = o.1;
        still = all-still clock after c.turns (subst (λ ms. Readings stands_still clock ms after) refl c.clock);
        read = subst (Consumes input rest) (append-nil (flat_map piece_in c.turns)) c.read;
        ends = ends-so is s c.turns closes rest sound stands leads (subst (λ n. EndsConnection closes (closing_of is n) rest) first ends);
        wrote = subst (Appends output written) (sym (append-nil c.sent) ∙ c.replies ∙ ap (λ n. flat_map (replies_in n) c.turns) first) c.wrote;
        notes = subst (λ l. Appends errors told (notes_text l)) (c.notices ∙ append-nil (untaken_notes was ++ flat_map (turn_notes number) c.turns) ∙ ap (λ l. l ++ flat_map (turn_notes number) c.turns) none ∙ ap (λ n. flat_map (turn_notes n) c.turns) first) notes;
      }

  pub script-served : (old new : List BareSpace) (generator : List ℕ) → AreNewSpaces bare_tape None old (script_config ∷ []) generator 0 → IsSoundAt new 0
      → At old new 0 (λ was is. ServesWhole stands_still loads was is (outside input output clock loader) (outside rest written after later))
      → Appends errors told (notes_text (notices_at new 0)) → ServesScript input rest output written errors told
  script-served old new generator made sound a notes =
      let begun = made.each 0 script_config a.was refl a.at in
      let w = a.fact in
      let s = w.goes.each (empty_situation 0) begun.stands tt in
      let here = at-is (λ was is. ServesWhole stands_still loads was is (outside input output clock loader) (outside rest written after later)) old new 0 a in
      carried-script a.was a.is w.number w.closes s.next (w.next ∙ ap (λ (x : BareSpace). length x.closings + 1) begun.state_is) begun.configured begun.notices s.fact (sound a.is here) s.stands w.ends
      (subst (λ l. Appends errors told (notes_text l)) (ap (λ o. option_map_or untaken_notes o []) here) notes)
