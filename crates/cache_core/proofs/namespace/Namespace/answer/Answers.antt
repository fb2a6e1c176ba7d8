use Rattle.std.proofs.Common.{refl, ap, sym, subst, arith, ◌∙◌, ◌+◌, ℕ, [], false, length, is_some}
use Rattle.std.specs.Option.{option_map}
use Rattle.audit_model.specs.Replies.{outcome_text}
use Rattle.cache_commands.specs.Loads.Pending.{load_numbered, loads_pending}
use Rattle.cache_core.specs.Settled.{IsAmid}
use Rattle.cache_core.specs.Settling.{Happens, HaveReplyRoom, answering, waiting_on}
use Rattle.cache_core.specs.State.{IsBetweenEvents, NamespaceState, state_of}
use Rattle.cache_core.specs.Turned.{RefusesBy}
use Rattle.cache_lines.specs.Tape.Taped.{finishes}
use Rattle.cache_lines.specs.Waiting.{under_way}
use Rattle.audit_model.specs.declared.input.ServiceError.TheVariants as error
use Rattle.cache_core.proofs.Admitted.{amid-answered, answer-admitted, can-settle, waiting-answered}
use Rattle.cache_core.proofs.Amid.{started-begun, written-begun}
use Rattle.cache_core.proofs.Answered.{happens-answered, state-looks}
use Rattle.cache_core.proofs.Happening.{refuses-known, refuses-wanting}
use Rattle.cache_core.proofs.namespace.Namespace.answer.Goals as goal

pub returns-in-Some-clause-refused : goal.returns-in-Some-clause-refused
returns-in-Some-clause-refused g c =
    let inside = c.self.inside in
    let view = g.S.Store.view in
    let moment = c.args.moment.nanos in
    let outcome = c.args.outcome in
    let is = sym c.in-Some.ensures in
    subst (λ (n : NamespaceState _ _). RefusesBy view n (answering c.args.load outcome moment) false c.in-Some.error) c.self.view_is (refuses-known view (state_of inside.interior.base inside.latest inside.interior.connections) (answering c.args.load outcome moment) c.in-Some.error is)

pub begin_answer-requires : goal.begin_answer-requires
begin_answer-requires g c =
    let inside = c.self.inside in
    let base = inside.interior.base in
    let a = answer-admitted (g.S.Store.view base.store).frame.config (loads_pending base.loads) c.args.load c.args.moment.nanos c.args.outcome (sym c.in_default.ensures) in
    record {
      can_settle = can-settle g.S.Store.view g.T.Tape.view base inside.latest inside.interior.connections c.self.invariant c.max-now.result c.args.moment.nanos c.max-now.ensures a.1;
      fit = a.2;
      under = a.0;
    }

pub returns-in-Err-clause-refused : goal.returns-in-Err-clause-refused
returns-in-Err-clause-refused g c =
    let inside = c.self.inside in
    let load = c.args.load in
    let moment = c.args.moment.nanos in
    let outcome = c.args.outcome in
    let admitted = sym c.in_default.ensures in
    subst (λ (n : NamespaceState _ _). RefusesBy g.S.Store.view n (answering load outcome moment) false error.OutOfMemory) c.self.view_is (refuses-wanting g.S.Store.view (state_of inside.interior.base inside.latest inside.interior.connections) (answering load outcome moment) admitted)

pub returns-in-Err-clause-unchanged : goal.returns-in-Err-clause-unchanged
returns-in-Err-clause-unchanged g c =
    state-looks c.self.inside.interior.base c.begin_answer.new.self.base c.self.inside.latest c.self.inside.interior.connections c.begin_answer.new.self.connections c.in-Err.ensures.unchanged c.begin_answer.ensures.same ∙ c.self.view_is

pub invariant_of-self-in-Err : goal.invariant_of-self-in-Err
invariant_of-self-in-Err g c =
    subst (λ n. IsBetweenEvents g.S.Store.view g.T.Tape.view n) (sym (state-looks c.self.inside.interior.base c.begin_answer.new.self.base c.self.inside.latest c.self.inside.interior.connections c.begin_answer.new.self.connections c.in-Err.ensures.unchanged c.begin_answer.ensures.same)) c.self.invariant

pub hand_out-requires : goal.hand_out-requires
hand_out-requires g c =
    let inside = c.self.inside in
    let view = g.S.Store.view in
    let tape = g.T.Tape.view in
    let base = inside.interior.base in
    let cs = inside.interior.connections in
    let load = c.args.load in
    let moment = c.args.moment.nanos in
    let outcome = c.args.outcome in
    let a = answer-admitted (view base.store).frame.config (loads_pending base.loads) load moment outcome (sym c.in_default.ensures) in
    let begun = c.begin_answer.new.self.base in
    let ds = c.begin_answer.new.self.connections in
    let room = length (waiting_on load (under_way base.loads)) + length (waiting_on load (under_way base.loads)) in
    let starts = c.in-Ok.ensures.begins in
    let looks = c.begin_answer.ensures.same in
    let now = c.max-now.result in
    let same = ap (λ ls. length (waiting_on load (under_way ls))) starts.loads_are in
    record {
      amid = subst (λ (k : ℕ). IsAmid view tape now begun ds k) (omega (arith, same)) (amid-answered view tape base inside.latest cs c.self.invariant begun ds now load moment room outcome c.in-Ok.field-0.accepted c.in-Ok.field-0.notes.items starts looks c.max-now.ensures a.1);
      under = ap (λ ls. is_some (load_numbered load (loads_pending ls))) starts.loads_are ∙ a.0;
      waits = waiting-answered view tape base inside.latest cs c.self.invariant begun ds now load moment room outcome c.in-Ok.field-0.accepted c.in-Ok.field-0.notes.items starts looks;
      room = subst (λ ls. HaveReplyRoom ds (length (outcome_text outcome)) (waiting_on load (under_way ls))) (sym starts.loads_are) c.in-Ok.ensures.room;
    }

pub finish-requires : goal.finish-requires
finish-requires g c =
    let tape = g.T.Tape.view in
    let room = length (waiting_on c.args.load (under_way c.self.inside.interior.base.loads)) + length (waiting_on c.args.load (under_way c.self.inside.interior.base.loads)) in
    let x = c.in-Ok.ensures.begins.stored.right (record { latest = c.max-now.result; opened = 0; sent = 0; connections = []; pending = []; held = c.sound.ensures.some; dropped = false }) refl c.sound.ensures.stands in
    let p = c.hand_out.ensures.out.parts.ran _ (c.in-Ok.ensures.begins.drains.stands _ x.0.left) in
    written-begun p.steps (tape c.begin_answer.new.self.base.tape) (tape c.hand_out.new.self.base.tape) p.kept (started-begun room (tape c.self.inside.interior.base.tape) (tape c.begin_answer.new.self.base.tape) c.in-Ok.ensures.begins.begun)

pub returns-in-Ok-clause-turned : goal.returns-in-Ok-clause-turned
returns-in-Ok-clause-turned g c =
    let inside = c.self.inside in
    let view = g.S.Store.view in
    let tape = g.T.Tape.view in
    let base = inside.interior.base in
    let cs = inside.interior.connections in
    let load = c.args.load in
    let moment = c.args.moment.nanos in
    let outcome = c.args.outcome in
    let admitted = sym c.in_default.ensures in
    let a = answer-admitted (view base.store).frame.config (loads_pending base.loads) load moment outcome admitted in
    let begun = c.begin_answer.new.self.base in
    let ds = c.begin_answer.new.self.connections in
    let room = length (waiting_on load (under_way base.loads)) + length (waiting_on load (under_way base.loads)) in
    let starts = c.in-Ok.ensures.begins in
    let looks = c.begin_answer.ensures.same in
    let now = c.max-now.result in
    let new_base = c.hand_out.new.self.base in
    let x = happens-answered view tape base begun new_base c.finish.new.self inside.latest now load moment room outcome c.in-Ok.field-0.accepted c.in-Ok.field-0.notes.items cs ds c.hand_out.new.self.connections c.max-now.ensures starts looks c.hand_out.ensures.out
    (c.finish.ensures ∙ ap (λ ns. option_map (finishes (answering load outcome moment) c.in-Ok.field-0.accepted ns) (tape new_base.tape)) c.from_vec.ensures)
    c.self.invariant c.sound.ensures c.sound-in-Ok.ensures admitted (omega (arith, c.max-now.ensures, a.1, c.self.invariant.moment)) c.hand_out.ensures.goes in
    subst (λ (n : NamespaceState _ _). Happens view tape n (state_of (record new_base { tape = c.finish.new.self }) now c.hand_out.new.self.connections) (answering load outcome moment)) c.self.view_is x.0

pub invariant_of-self : goal.invariant_of-self
invariant_of-self g c =
    let inside = c.self.inside in
    let view = g.S.Store.view in
    let base = inside.interior.base in
    let cs = inside.interior.connections in
    let load = c.args.load in
    let moment = c.args.moment.nanos in
    let outcome = c.args.outcome in
    let admitted = sym c.in_default.ensures in
    let a = answer-admitted (view base.store).frame.config (loads_pending base.loads) load moment outcome admitted in
    let begun = c.begin_answer.new.self.base in
    let ds = c.begin_answer.new.self.connections in
    let room = length (waiting_on load (under_way base.loads)) + length (waiting_on load (under_way base.loads)) in
    let starts = c.in-Ok.ensures.begins in
    let looks = c.begin_answer.ensures.same in
    let now = c.max-now.result in
    let new_base = c.hand_out.new.self.base in
    let at_now = c.max-now.ensures in
    let x = happens-answered view g.T.Tape.view base begun new_base c.finish.new.self inside.latest now load moment room outcome c.in-Ok.field-0.accepted c.in-Ok.field-0.notes.items cs ds c.hand_out.new.self.connections at_now starts looks c.hand_out.ensures.out
    (c.finish.ensures ∙ ap (λ ns. option_map (finishes (answering load outcome moment) c.in-Ok.field-0.accepted ns) (g.T.Tape.view new_base.tape)) c.from_vec.ensures)
    c.self.invariant c.sound.ensures c.sound-in-Ok.ensures admitted (omega (arith, at_now, a.1, c.self.invariant.moment)) c.hand_out.ensures.goes in
    x.1
