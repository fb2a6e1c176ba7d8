-- What a line did, by how it is read.
use Rattle.std.proofs.Common.{refl, ◌≡◌, ℕ, Bool, true, false, not, ◌||◌, List, Option, Some, None, Ok, Err, IfSome, decimal, sym, ap, ◌∙◌, subst, suc, [], ◌∷◌, ◌++◌, if◌then◌else◌, IsTrue, is_some}
use Rattle.std.proofs.lemmas.Bool.{eq-eqb}
use Rattle.std.proofs.lemmas.List.{append-nil}
use Rattle.std.specs.List.{list_all}
use Rattle.std.specs.Option.{option_map, option_map_or}
use Rattle.audit_model.specs.Commands.{is_sync}
use Rattle.audit_model.specs.Grammar.{Reading, reading}
use Rattle.audit_model.specs.History.{accepts_values, Value}
use Rattle.audit_model.specs.Replies.{Offer, offer_of, sum_with, taken_where, value_from}
use Rattle.audit_model.specs.Situation.{HeldValue, Situation, view_in, live_at}
use Rattle.audit_model.specs.Steps.{action_by, effect_in}
use Rattle.audit_model.specs.declared.config.Config.{Config}
use Rattle.audit_model.specs.declared.transcript.Accepted.{Accepted}
use Rattle.audit_model.specs.declared.transcript.Note.{Note}
use Rattle.audit_model.specs.declared.transcript.Step.{Step}
use Rattle.audit_laws.specs.Leading.{is_parted}
use Rattle.cache_commands.specs.Promises.{Frame}
use Rattle.cache_commands.specs.Recency.{AreKeysOf}
use Rattle.cache_commands.specs.Running.{is_timely}
use Rattle.cache_commands.specs.Values.{GivesNote, IsSoundStore, Values}
use Rattle.cache_commands.proofs.Ordering.{agrees-kept}
use Rattle.cache_commands.specs.Answered.{key_written, IsAnswered}
use Rattle.cache_commands.specs.Loading.{step_silent}
use Rattle.cache_commands.specs.Order.{AgreesWith, Order, Settled, Unknown, Used, order_by}
use Rattle.cache_commands.specs.Ran.{MissesLive}
use Rattle.cache_commands.specs.Right.{step_saying, KeepsFrame, held_when_run}
use Rattle.cache_lines.proofs.Drawn.{step-drawn, step-kept}
use Rattle.cache_lines.proofs.Gathering.{silent-gathered}
use Rattle.cache_lines.specs.Drawing.{identifiers_in}
use Rattle.cache_lines.specs.Gathered.{HasNothingOutside, gather, gathered, stage}
use Rattle.cache_lines.specs.Lines.{TouchesOnlyValues, says_quit}
use Rattle.cache_lines.specs.Ordered.{HasKeys}
use Rattle.cache_lines.specs.Ran.{RanLine, WaitsLine}
use Rattle.cache_lines.specs.Tape.Taped.{Taped, drafts, ends, text_left}
use Rattle.cache_lines.specs.Waiting.{UnderWay, load_sent_for, when_waiting}
use Rattle.audit_model.specs.declared.command.Command.TheVariants as says

-- a step with a reply does nothing but to values, and closes its connection where it is a `QUIT`
pub plain-reading : (config : Config) (s : Situation) (r : Reading) (conn : ℕ) (line reply : List ℕ) (accepted : Option Accepted) (told : List Note) → TouchesOnlyValues (effect_in config (view_in config s) (action_by r) (step_saying conn line reply accepted told)) (says_quit r)
plain-reading config s (Ok (says.Set key ms value)) conn line reply accepted told = record { stays = refl; quits = refl; loads = λ conn s. refl }
plain-reading config s (Ok (says.Get key)) conn line reply accepted told = record { stays = refl; quits = refl; loads = λ conn s. refl }
plain-reading config s (Ok (says.Has key)) conn line reply accepted told = record { stays = refl; quits = refl; loads = λ conn s. refl }
plain-reading config s (Ok (says.Load key)) conn line reply accepted told = record { stays = refl; quits = refl; loads = λ conn s. refl }
plain-reading config s (Ok (says.Del key)) conn line reply accepted told = record { stays = refl; quits = refl; loads = λ conn s. refl }
plain-reading config s (Ok (says.Add key ms number)) conn line reply accepted told = record { stays = refl; quits = refl; loads = λ conn s. refl }
plain-reading config s (Ok says.Clear) conn line reply accepted told = record { stays = refl; quits = refl; loads = λ conn s. refl }
plain-reading config s (Ok (says.DropIf prefix)) conn line reply accepted told = record { stays = refl; quits = refl; loads = λ conn s. refl }
plain-reading config s (Ok says.Keys) conn line reply accepted told = record { stays = refl; quits = refl; loads = λ conn s. refl }
plain-reading config s (Ok says.Sync) conn line reply accepted told = record { stays = refl; quits = refl; loads = λ conn s. refl }
plain-reading config s (Ok says.Quit) conn line reply accepted told = record { stays = refl; quits = refl; loads = λ conn s. refl }
plain-reading config s (Err error) conn line reply accepted told = record { stays = refl; quits = refl; loads = λ conn s. refl }

-- the part that took a value is its key's
module _ (config : Config) (part_of : List ℕ → ℕ) (now : ℕ) where
  abbrev Parted : Option Offer → ℕ → Type 0
  Parted offer part = option_map_or (is_parted part_of) (value_from config now offer (Some part)) true ≡ true

  one-parted : (takes : Bool) (key bytes : List ℕ) (ms : Option ℕ) (part : ℕ) → part ≡ part_of key → Parted (taken_where takes (Some (record { key = key; bytes = bytes; ms = ms }))) part
  one-parted true key bytes ms part e = eq-eqb part (part_of key) e
  one-parted false key bytes ms part e = refl

  sum-parted : (takes : Bool) (key : List ℕ) (ms sum : Option ℕ) (part : ℕ) → part ≡ part_of key → Parted (taken_where takes (option_map (λ n. record { key = key; bytes = decimal n; ms = ms }) sum)) part
  sum-parted takes key ms None part e = refl
  sum-parted takes key ms (Some n) part e = one-parted takes key (decimal n) ms part e

pub parted-reading : (config : Config) (part_of : List ℕ → ℕ) (s : Situation) (r : Reading) (accepted : Option Accepted) → IfSome accepted (λ a. IfSome (key_written r) (λ key. a.part ≡ part_of key))
    → option_map_or (is_parted part_of) (value_from config (view_in config s).now (offer_of config (view_in config s) (action_by r)) (option_map (λ (x : Accepted). x.part) accepted)) true ≡ true
parted-reading config part_of s r None h = refl
parted-reading config part_of s (Ok (says.Set key ms value)) (Some a) h = one-parted config part_of (view_in config s).now (accepts_values config.capacity) key value ms a.part h
parted-reading config part_of s (Ok (says.Add key ms number)) (Some a) h = sum-parted config part_of (view_in config s).now (accepts_values config.capacity) key ms (sum_with ((view_in config s).live key) number) a.part h
parted-reading config part_of s (Ok (says.Get key)) (Some a) h = refl
parted-reading config part_of s (Ok (says.Has key)) (Some a) h = refl
parted-reading config part_of s (Ok (says.Load key)) (Some a) h = refl
parted-reading config part_of s (Ok (says.Del key)) (Some a) h = refl
parted-reading config part_of s (Ok says.Clear) (Some a) h = refl
parted-reading config part_of s (Ok (says.DropIf prefix)) (Some a) h = refl
parted-reading config part_of s (Ok says.Keys) (Some a) h = refl
parted-reading config part_of s (Ok says.Sync) (Some a) h = refl
parted-reading config part_of s (Ok says.Quit) (Some a) h = refl
parted-reading config part_of s (Err error) (Some a) h = refl

-- a `SYNC` leaves timely values
pub synced-where : (b x : Bool) → (b ≡ true → x ≡ true) → (not b || x) ≡ true
synced-where true x h = h refl
synced-where false x h = refl

-- a store's keys in their order of use are those held
keys-known : (Recency : Bool → List (List ℕ) → Type 0) (Stands : List HeldValue → Type 0) (places : ℕ) (order : Order) (held : List HeldValue)
    → ((values : List HeldValue) (keys : List (List ℕ)) → Stands values → Recency true keys → AreKeysOf values keys)
    → AgreesWith Recency places order → Stands held → AgreesWith Recency places order × HasKeys order held
keys-known Recency Stands places (Settled keys) held law agrees stands = (agrees, law held keys stands agrees.0)
keys-known Recency Stands places (Used keys) held law agrees stands = (agrees, tt)
keys-known Recency Stands places Unknown held law agrees stands = (agrees, tt)

-- A line that was answered, and what was gathered of it.

-- what waits when the notes were taken into a step, or not
abbrev pub waiting_left : Option Taped → List Note → List Note
waiting_left tape waiting = if is_some tape then [] else waiting

-- a reply and notes were gathered
pub gathered-one : (was is : Values) (number : ℕ) (line old_text reply text : List ℕ) (accepted : Option Accepted) (told waiting : List Note) (tape : Option Taped)
    → HasNothingOutside (gathered (stage was old_text tape)) → text ≡ old_text ++ reply → waiting ≡ was.untaken ++ told → is.untaken ≡ waiting_left tape waiting
    → gathered (stage is (text_left tape text) (option_map (ends (λ l. step_saying number l text accepted waiting)) (option_map (drafts line) tape)))
    ≡ gather (gathered (stage was old_text tape)) (step_saying number line reply accepted told ∷ [])
gathered-one was is number line old_text reply text accepted told waiting None fresh wrote noted left =
    ap (λ t. record { text = t; kept = None; waiting = is.untaken }) (wrote ∙ ap (λ r. old_text ++ r) (sym (append-nil reply)))
    ∙ ap (λ w. record { text = old_text ++ (reply ++ []); kept = None; waiting = w }) (left ∙ noted ∙ ap (λ n. was.untaken ++ n) (sym (append-nil told)))
gathered-one was is number line old_text reply text accepted told waiting (Some t) fresh wrote noted left =
    let said : text ≡ reply = wrote ∙ ap (λ o. o ++ reply) fresh.0 in
    let notes : waiting ≡ told = noted ∙ ap (λ o. o ++ told) fresh.1 in
    let kept : List ℕ → List Note → Option Taped = λ r ns. Some (record { journal = t.journal; begun = t.begun; steps = t.steps ++ step_saying number line r accepted ns ∷ []; spare = 0; drafted = None }) in
    ap (λ o. record { text = o; kept = kept text waiting; waiting = is.untaken }) (sym fresh.0)
    ∙ ap (λ w. record { text = old_text; kept = kept text waiting; waiting = w }) (left ∙ sym fresh.1)
    ∙ ap (λ r. record { text = old_text; kept = kept r waiting; waiting = was.untaken }) said
    ∙ ap (λ ns. record { text = old_text; kept = kept reply ns; waiting = was.untaken }) notes

-- nothing waits beside a record
pub fresh-ended : (is : Values) (new_text text : List ℕ) (waiting : List Note) (tape : Option Taped) (step : List ℕ → Step) (line : List ℕ) → is.untaken ≡ waiting_left tape waiting → new_text ≡ text_left tape text
    → HasNothingOutside (gathered (stage is new_text (option_map (ends step) (option_map (drafts line) tape))))
fresh-ended is new_text text waiting None step line left texted = tt
fresh-ended is new_text text waiting (Some t) step line left texted = (texted, left)

-- the line was answered, and its notes were taken
pub ran-answered : (now number : ℕ) (line : List ℕ) (quit : Bool) (was mid is : Values) (old_text mid_text new_text : List ℕ) (accepted : Option Accepted) (tape new_tape : Option Taped)
    → says_quit (reading was.frame.config line) ≡ quit → IsAnswered now (reading was.frame.config line) accepted was mid old_text mid_text → GivesNote mid is → IsSoundStore is
    → HasNothingOutside (gathered (stage was old_text tape)) → is.untaken ≡ waiting_left tape mid.untaken
    → new_tape ≡ option_map (ends (λ l. step_saying number l mid_text accepted mid.untaken)) (option_map (drafts line) tape) → new_text ≡ text_left tape mid_text
    → RanLine now number line quit (stage was old_text tape) (stage is new_text new_tape)
ran-answered now number line quit was mid is old_text mid_text new_text accepted tape new_tape says a gives sound fresh left stepped texted =
    let config = was.frame.config in
    let r = reading config line in
    record {
      frame = subst (λ (f : Frame). KeepsFrame was.frame f now) (sym gives.frame) a.frame;
      fresh = subst (λ (t : Option Taped). HasNothingOutside (gathered (stage is new_text t))) (sym stepped) (fresh-ended is new_text mid_text mid.untaken tape (λ l. step_saying number l mid_text accepted mid.untaken) line left texted);
      ran = λ s agrees.
          let b = a.right s agrees in
          record {
            reply = b.reply;
            accepted = accepted;
            told = b.told;
            right = b.right;
            plain = subst (λ q. TouchesOnlyValues (effect_in config (view_in config s) (action_by r) (step_saying number line b.reply accepted b.told)) q) says (plain-reading config s r number line b.reply accepted b.told);
            says = says;
            parted = parted-reading config was.frame.part_of s r accepted a.part;
            left = gives.stands _ b.left;
            timely =
                subst (λ n. IsTrue (not (is_sync (action_by r)) || list_all (is_timely config was.frame.made n) (held_when_run config s (action_by r) (step_saying 0 [] b.reply accepted b.told)))) (sym agrees.at)
                (synced-where _ _ (λ sync. a.timely sync _ b.left));
            dropped_is = ap (λ (f : Frame). f.dropped) gives.frame ∙ b.dropped_is;
            draws =
                step-kept config _ (identifiers_in was) (identifiers_in mid) (identifiers_in is)
                (step-drawn config number line b.reply old_text mid_text accepted b.told (identifiers_in was) (identifiers_in mid) a.draws a.used_up b.written) gives.identifiers;
            ordered = λ places order plain agreed.
                keys-known is.Used is.Stands places (order_by (suc places) r order) _ sound.ordered
                (agrees-kept mid.Used is.Used places (order_by (suc places) r order) gives.used (a.order.moves places order plain agreed)) (gives.stands _ b.left);
            gathered_is =
                ap (λ o. gathered (stage is o new_tape)) texted
                ∙ ap (λ t. gathered (stage is (text_left tape mid_text) t)) stepped
                ∙ gathered-one was is number line old_text b.reply mid_text accepted b.told mid.untaken tape fresh b.written b.handed.added left;
          };
    }

kept-where : (line : List ℕ) (tape : Option Taped) → is_some (option_map (drafts line) tape) ≡ is_some tape
kept-where line None = refl
kept-where line (Some t) = refl

-- the same, with the tape as it was in between
pub ran-drafted : (now number : ℕ) (line : List ℕ) (quit : Bool) (was mid is : Values) (old_text mid_text new_text : List ℕ) (accepted : Option Accepted) (tape mid_tape new_tape : Option Taped)
    → mid_tape ≡ option_map (drafts line) tape
    → says_quit (reading was.frame.config line) ≡ quit → IsAnswered now (reading was.frame.config line) accepted was mid old_text mid_text → GivesNote mid is → IsSoundStore is
    → HasNothingOutside (gathered (stage was old_text tape)) → is.untaken ≡ waiting_left mid_tape mid.untaken
    → new_tape ≡ option_map (ends (λ l. step_saying number l mid_text accepted mid.untaken)) mid_tape → new_text ≡ text_left mid_tape mid_text
    → RanLine now number line quit (stage was old_text tape) (stage is new_text new_tape)
ran-drafted now number line quit was mid is old_text mid_text new_text accepted tape mid_tape new_tape drafted says a gives sound fresh left stepped texted =
    let same : is_some mid_tape ≡ is_some tape = ap is_some drafted ∙ kept-where line tape in
    ran-answered now number line quit was mid is old_text mid_text new_text accepted tape new_tape says a gives sound fresh
    (left ∙ ap (λ b. if b then [] else mid.untaken) same)
    (stepped ∙ ap (option_map (ends (λ l. step_saying number l mid_text accepted mid.untaken))) drafted)
    (texted ∙ ap (λ b. if b then [] else mid_text) same)

none-from : (o : Option Value) → None ≡ option_map (λ (value : Value). value.bytes) o → o ≡ None
none-from None e = refl
none-from (Some v) e = let no : None ≡ Some v.bytes = e in cc

-- the line is a `LOAD` of a key that has no live value, and joined its load
pub waits-drafted : (now number : ℕ) (line key : List ℕ) (was is : Values) (old_text mid_text new_text : List ℕ) (tape mid_tape new_tape : Option Taped) (loads after : UnderWay)
    → reading was.frame.config line ≡ Ok (says.Load key) → MissesLive now (reading was.frame.config line) was is old_text mid_text → is ≡ was
    → mid_tape ≡ option_map (drafts line) tape → new_tape ≡ option_map (ends (λ l. step_silent number l (load_sent_for key loads) None [])) mid_tape
    → new_text ≡ mid_text → after ≡ when_waiting number key loads
    → WaitsLine now number line (record { stage = stage was old_text tape; loads = loads }) (record { stage = stage is new_text new_tape; loads = after })
waits-drafted now number line key was is old_text mid_text new_text tape mid_tape new_tape loads after reads m same drafted stepped left joined =
    let keyed : m.key ≡ key = cc (sym m.reads ∙ reads) in
    record {
      is_miss = record {
        key = key;
        reads = reads;
        none = λ held stands. none-from _ (subst (λ k. None ≡ option_map (λ (value : Value). value.bytes) (live_at was.frame.config now held k)) keyed (m.none held stands));
      };
      gathered_is =
          ap (λ (v : Values). gathered (stage v new_text new_tape)) same
          ∙ ap (λ t. gathered (stage was t new_tape)) (left ∙ m.unwritten)
          ∙ ap (λ t. gathered (stage was old_text t)) (stepped ∙ ap (option_map (ends (λ l. step_silent number l (load_sent_for key loads) None []))) drafted)
          ∙ silent-gathered was old_text line number (load_sent_for key loads) tape;
      loads_are = joined;
    }
