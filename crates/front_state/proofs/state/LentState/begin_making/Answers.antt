use Rattle.std.proofs.Common.{◌∙◌, ◌≡◌, sym, subst}
use Rattle.engine_reference.specs.Scanning.{NotesLookUp}
use Rattle.front_reference.specs.Fronts.{CallsPart}
use Rattle.front_reference.specs.declared.data.At.{At}
use Rattle.front_parts.proofs.Options.{where-none, where-some}
use Rattle.front_parts.specs.Places.Calls.{ways_by}
use Rattle.front_parts.specs.Places.Turning.{WaitsOrLeads}
use Rattle.front_state.proofs.Steady.{begun_else, begun_found, if_ok-map}
use Rattle.front_state.proofs.state.LentState.begin_making.Goals as goal

pub returns-in-Some-clause-begins : goal.returns-in-Some-clause-begins
returns-in-Some-clause-begins g c =
    begun_found (ways_by g.R.Rules g.K.PartialEq.eq g.K.Hash.hash_input g.S.BuildHasher g.S.Hasher.Hasher) _ _ c.args.kind (g.Q.Names.named_key c.args.name) c.args.hash c.args.at.now c.args.at.step _ c.in_ok-ignored.ignored c.in-Some.value c.in_ok-ignored.ensures.asked (sym c.in-Some.is ∙ c.in_ok-ignored.ensures.found) (where-some _ _ _ _ c.in-Some.is c.in_ok-ignored.ensures.used)

pub returns-in-None-clause-begins : goal.returns-in-None-clause-begins
returns-in-None-clause-begins g c =
    let ways = ways_by g.R.Rules g.K.PartialEq.eq g.K.Hash.hash_input g.S.BuildHasher g.S.Hasher.Hasher in
    let key = g.Q.Names.named_key c.args.name in
    let at : At = record { now = c.args.at.now; step = c.args.at.step } in
    let looked = c.get_unless.new.self in
    let ignored = c.in_ok-ignored.ignored in
    let stays = where-none (looked ≡ c.args.self.now) (λ value. CallsPart c.args.hash c.args.at.now c.args.at.step (NotesLookUp g.R.Rules.answers g.K.PartialEq.eq key c.args.hash c.args.at.now ignored) c.args.self.now looked) c.in_ok-ignored.found c.in-None.is c.in_ok-ignored.ensures.used in
    if_ok-map _ _ _ (λ start w. begun_else ways _ _ c.args.kind key c.args.hash at _ ignored start c.in_ok-ignored.ensures.asked (sym c.in-None.is ∙ c.in_ok-ignored.ensures.found)
    (subst (λ f. WaitsOrLeads ways c.args.kind key c.args.hash at ignored f c.wait_or_lead.new.self start) stays w)) c.wait_or_lead.ensures.starts
