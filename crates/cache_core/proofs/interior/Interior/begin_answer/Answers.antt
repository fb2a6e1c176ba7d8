use Rattle.std.proofs.Common.{refl, ap, sym, subst, arith, ◌∙◌, ◌+◌, ℕ, List, Some, length}
use Rattle.std.specs.Option.{option_map}
use Rattle.audit_model.specs.Situation.{PendingLoad}
use Rattle.cache_core.specs.Settling.{BeginsAnswer, HaveReplyRoom, waiting_on}
use Rattle.cache_lines.specs.Waiting.{under_way}
use Rattle.cache_core.proofs.Admitted.{few-replied, forgot-started, begins-answer, waiting-is}
use Rattle.cache_core.proofs.interior.Interior.begin_answer.Goals as goal

pub reply_len-requires : goal.reply_len-requires
reply_len-requires g c = few-replied (g.S.Store.view c.args.self.now.base.store).frame.config c.args.outcome.now c.requires.fit

pub store_noted-requires-clause-room : goal.store_noted-requires-clause-room
store_noted-requires-clause-room g c = λ e.
    let none = ap length (c.requires.can_settle.untaken (sym c.keeps-keeps.ensures ∙ e)) in
    let room = c.in_ok-notes.ensures.room e in
    (omega (arith, none, room), c.in_ok-notes.ensures.empty)

pub returns-in-Ok-clause-begins : goal.returns-in-Ok-clause-begins
returns-in-Ok-clause-begins g c =
    let view = g.S.Store.view in
    let tape = g.T.Tape.view in
    let base = c.args.self.now.base in
    let is = c.as_slice-waiting.ensures.value ∙ waiting-is c.args.load (under_way base.loads) _ c.in-Some.ensures in
    let keyed = sym (ap (option_map (λ (l : PendingLoad). l.key)) c.in-Some.ensures) ∙ ap Some (sym c.as_slice.ensures) in
    subst (λ (k : ℕ). BeginsAnswer view tape c.args.now c.args.load c.args.outcome.now c.in-Ok.accepted c.store_noted.new.notes.items (k + k) base (record { store = c.store_noted.new.store; loads = base.loads; tape = c.start.new.self })) (ap length is)
    (begins-answer view tape c.args.now c.args.load _ c.args.outcome.now c.in-Ok.accepted c.store_noted.new.notes.items base c.store_noted.new.store c.start.new.self c.as_slice.result.now c.keeps-keeps.result keyed c.keeps-keeps.ensures c.in_ok-start.ensures.started c.in-Ok.ensures.stored)

pub returns-in-Ok-clause-room : goal.returns-in-Ok-clause-room
returns-in-Ok-clause-room g c =
    let is = c.as_slice-waiting.ensures.value ∙ waiting-is c.args.load (under_way c.args.self.now.base.loads) _ c.in-Some.ensures in
    subst (λ (k : ℕ). HaveReplyRoom c.reserve_all.new.connections k (waiting_on c.args.load (under_way c.args.self.now.base.loads))) c.reply_len.ensures (subst (λ (ns : List ℕ). HaveReplyRoom c.reserve_all.new.connections c.reply_len.result ns) is c.in_ok-reserve_all.ensures.room)

pub returns-in-Err-clause-unchanged : goal.returns-in-Err-clause-unchanged
returns-in-Err-clause-unchanged g c =
    record {
      store_is = c.in-Err.ensures.unchanged;
      tape_is = c.abandon.ensures c.args.self.now.base.tape (forgot-started _ (g.T.Tape.view c.args.self.now.base.tape) c.requires.can_settle.rests ∙ ap (option_map _) (sym c.in_ok-start.ensures.started));
      loads_are = record { pending = refl; sent = refl; outgoing = refl; namespace = refl };
    }
