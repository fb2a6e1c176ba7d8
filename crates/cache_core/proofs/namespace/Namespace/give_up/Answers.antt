use Rattle.std.proofs.Common.{ap, sym, subst, arith, ◌∙◌, ◌≡◌, ◌+◌, None, Some, false, true, length, is_some}
use Rattle.std.specs.Option.{option_map}
use Rattle.audit_model.specs.Belongs.{refusal_of}
use Rattle.audit_model.specs.Places.{tasks_to_give_up}
use Rattle.cache_commands.specs.Loads.Pending.{SameTaken, load_numbered, loads_pending}
use Rattle.cache_core.specs.Settled.{IsAmid}
use Rattle.cache_core.specs.Settling.{AreWaiting, Happens, HandsOut, giving_up, waiting_on}
use Rattle.cache_core.specs.State.{NamespaceState, known_of_state, state_of}
use Rattle.cache_core.specs.Turned.{RefusesBy}
use Rattle.cache_lines.specs.Tape.Taped.{finishes}
use Rattle.cache_lines.specs.Waiting.{under_way}
use Rattle.cache_lines.specs.declared.base.Base.{Base}
use Rattle.cache_commands.specs.Values.{IsSoundStore}
use Rattle.audit_model.specs.declared.input.ServiceError.TheVariants as error
use Rattle.cache_core.proofs.Admitted.{amid-begun, given-admitted, waiting-now}
use Rattle.cache_core.proofs.Amid.{started-begun, written-begun}
use Rattle.cache_core.proofs.Happening.{happens-given, refuses-known, refuses-wanting}
use Rattle.cache_core.proofs.namespace.Namespace.give_up.Goals as goal

pub returns-in-Some-clause-refused : goal.returns-in-Some-clause-refused
returns-in-Some-clause-refused g c =
    let inside = c.self.inside in
    let load = c.args.load in
    let moment = c.args.moment.nanos in
    let is = sym c.in-Some.ensures in
    subst (λ (n : NamespaceState _ _). RefusesBy g.S.Store.view n (giving_up load moment) false c.in-Some.error) c.self.view_is (refuses-known g.S.Store.view (state_of inside.interior.base inside.latest inside.interior.connections) (giving_up load moment) c.in-Some.error is)

pub returns-in-Some-clause-spare : goal.returns-in-Some-clause-spare
returns-in-Some-clause-spare g c = λ bare.
    let is = sym c.in-Some.ensures in
    subst (λ (n : NamespaceState _ _). refusal_of (g.S.Store.view n.store).frame.config (known_of_state g.S.Store.view n) (giving_up c.args.load c.args.moment.nanos) ≡ Some c.in-Some.error) c.self.view_is is

pub begin_give_up-requires-clause-under : goal.begin_give_up-requires-clause-under
begin_give_up-requires-clause-under g c =
    let base = c.self.inside.interior.base in
    (given-admitted (g.S.Store.view base.store).frame.config (loads_pending base.loads) c.args.load c.args.moment.nanos (sym c.in_default.ensures)).0

pub returns-in_default-begin_give_up-clause-refused : goal.returns-in_default-begin_give_up-clause-refused
returns-in_default-begin_give_up-clause-refused g c =
    let inside = c.self.inside in
    let moment = c.args.moment.nanos in
    let admitted = sym c.in_default.ensures in
    subst (λ (n : NamespaceState _ _). RefusesBy g.S.Store.view n (giving_up c.args.load moment) false error.OutOfMemory) c.self.view_is (refuses-wanting g.S.Store.view (state_of inside.interior.base inside.latest inside.interior.connections) (giving_up c.args.load moment) admitted)

pub settle_give_up-requires : goal.settle_give_up-requires
settle_give_up-requires g c =
    let inside = c.self.inside in
    let view = g.S.Store.view in
    let base = inside.interior.base in
    let cs = inside.interior.connections in
    let load = c.args.load in
    let back = sym c.begin_give_up.ensures.rest in
    let a = given-admitted (view base.store).frame.config (loads_pending base.loads) load c.args.moment.nanos (sym c.in_default.ensures) in
    let room = length (waiting_on load (under_way base.loads)) + length (waiting_on load (under_way base.loads)) in
    record {
      amid = subst (λ (b : Base _ _). IsAmid view g.T.Tape.view c.max-now.result b cs (length (waiting_on load (under_way b.loads)) + length (waiting_on load (under_way b.loads)))) back
          (amid-begun view g.T.Tape.view base inside.latest cs c.self.invariant c.begin_give_up.new.base.tape c.max-now.result c.args.moment.nanos room c.max-now.ensures a.1 c.in-Ok.ensures.begun);
      under = subst (λ (b : Base _ _). is_some (load_numbered load (loads_pending b.loads)) ≡ true) back a.0;
      waits = subst (λ (b : Base _ _). AreWaiting (view b.store).frame.config cs (waiting_on load (under_way b.loads))) back (waiting-now view g.T.Tape.view base inside.latest cs c.self.invariant load);
    }

pub finish-requires : goal.finish-requires
finish-requires g c =
    let tape = g.T.Tape.view in
    let room = length (waiting_on c.args.load (under_way c.self.inside.interior.base.loads)) + length (waiting_on c.args.load (under_way c.self.inside.interior.base.loads)) in
    let sound = subst (λ (b : Base _ _). IsSoundStore (g.S.Store.view b.store)) (sym c.begin_give_up.ensures.rest) c.sound.ensures in
    let p = c.settle_give_up.ensures.ran.parts.ran sound.some sound.stands in
    written-begun p.steps (tape c.begin_give_up.new.base.tape) (tape c.settle_give_up.new.self.base.tape) p.kept (started-begun room (tape c.self.inside.interior.base.tape) (tape c.begin_give_up.new.base.tape) c.in-Ok.ensures.begun)

pub returns-clause-turned : goal.returns-clause-turned
returns-clause-turned g c =
    let inside = c.self.inside in
    let view = g.S.Store.view in
    let tape = g.T.Tape.view in
    let base = inside.interior.base in
    let load = c.args.load in
    let moment = c.args.moment.nanos in
    let admitted = sym c.in_default.ensures in
    let a = given-admitted (view base.store).frame.config (loads_pending base.loads) load moment admitted in
    let room = length (waiting_on load (under_way base.loads)) + length (waiting_on load (under_way base.loads)) in
    let now = c.max-now.result in
    let new_base = c.settle_give_up.new.self.base in
    let r = subst (λ (b : Base _ _). HandsOut view tape now load b new_base inside.interior.connections c.settle_give_up.new.self.connections tasks_to_give_up) c.begin_give_up.ensures.rest c.settle_give_up.ensures.ran in
    let goes = subst (λ (b : Base _ _). SameTaken b.loads new_base.loads) c.begin_give_up.ensures.rest c.settle_give_up.ensures.goes in
    let x = happens-given view tape base new_base r.left c.begin_give_up.new.base.tape c.finish.new.self inside.latest now load moment room inside.interior.connections c.settle_give_up.new.self.connections c.max-now.ensures c.in-Ok.ensures.begun r.left_is r.parts
    (c.finish.ensures ∙ ap (λ ns. option_map (finishes (giving_up load moment) None ns) (tape new_base.tape)) c.new.ensures)
    c.self.invariant c.sound.ensures c.sound-2.ensures admitted (omega (arith, c.max-now.ensures, a.1, c.self.invariant.moment)) goes in
    subst (λ (n : NamespaceState _ _). Happens view tape n (state_of (record new_base { tape = c.finish.new.self }) now c.settle_give_up.new.self.connections) (giving_up load moment)) c.self.view_is x.0

pub invariant_of-self-2 : goal.invariant_of-self-2
invariant_of-self-2 g c =
    let inside = c.self.inside in
    let view = g.S.Store.view in
    let base = inside.interior.base in
    let load = c.args.load in
    let moment = c.args.moment.nanos in
    let admitted = sym c.in_default.ensures in
    let a = given-admitted (view base.store).frame.config (loads_pending base.loads) load moment admitted in
    let room = length (waiting_on load (under_way base.loads)) + length (waiting_on load (under_way base.loads)) in
    let new_base = c.settle_give_up.new.self.base in
    let r = subst (λ (b : Base _ _). HandsOut view g.T.Tape.view c.max-now.result load b new_base inside.interior.connections c.settle_give_up.new.self.connections tasks_to_give_up) c.begin_give_up.ensures.rest c.settle_give_up.ensures.ran in
    let goes = subst (λ (b : Base _ _). SameTaken b.loads new_base.loads) c.begin_give_up.ensures.rest c.settle_give_up.ensures.goes in
    let at_now = c.max-now.ensures in
    let x = happens-given view g.T.Tape.view base new_base r.left c.begin_give_up.new.base.tape c.finish.new.self inside.latest c.max-now.result load moment room inside.interior.connections c.settle_give_up.new.self.connections at_now c.in-Ok.ensures.begun r.left_is r.parts
    (c.finish.ensures ∙ ap (λ ns. option_map (finishes (giving_up load moment) None ns) (g.T.Tape.view new_base.tape)) c.new.ensures)
    c.self.invariant c.sound.ensures c.sound-2.ensures admitted (omega (arith, at_now, a.1, c.self.invariant.moment)) goes in
    x.1
