use Rattle.std.proofs.Common.{◌≡◌, ◌∙◌, ap, sym}
use Rattle.std.specs.Fn.{FnOnceReturnsAt}
use Rattle.engine_reference.specs.Scanning.{NotesLookUp}
use Rattle.front_parts.proofs.Options.{where-none, where-some}
use Rattle.front_parts.specs.Places.Calls.{ways_by}
use Rattle.front_reference.specs.Fronts.{CallsPart}
use Rattle.front_state.specs.Calls.{hash_in}
use Rattle.sync_desk.proofs.Computing.{found-drawn, missed-drawn}
use Rattle.sync_desk.proofs.desk.Desk.begin.Goals as goal

pub returns-in-Some-found-clause-begins : goal.returns-in-Some-found-clause-begins
returns-in-Some-found-clause-begins g c =
    let ways = ways_by g.R.Rules g.K.PartialEq.eq g.K.Hash.hash_input g.S.BuildHasher g.S.Hasher.Hasher in
    let key = g.A.Names.named_key c.args.asked in
    let old = c.args.self.now.state in
    let hashed = c.hash-hash.ensures ∙ ap (λ k. hash_in ways old k) c.key.ensures in
    found-drawn ways c.args.self.now.moment key c.hash-hash.result c.in-Some.at (FnOnceReturnsAt g.P.FnOnce c.args.replace_if) old c.get_unless.new.self c.in-Some.ensures.drawn hashed c.args.kind c.in-Ok.ignored c.in-Some-found.value
    (sym c.is_same.ensures.value ∙ c.if-is_same.false) c.in-Ok.ensures.asked (sym c.in-Some-found.is ∙ c.in-Ok.ensures.found) (where-some _ _ _ _ c.in-Some-found.is c.in-Ok.ensures.used)

pub returns-in-None-clause-begins : goal.returns-in-None-clause-begins
returns-in-None-clause-begins g c =
    let ways = ways_by g.R.Rules g.K.PartialEq.eq g.K.Hash.hash_input g.S.BuildHasher g.S.Hasher.Hasher in
    let key = g.A.Names.named_key c.args.asked in
    let old = c.args.self.now.state in
    let looked = c.get_unless.new.self in
    let hash = c.hash-hash.result in
    let at = c.in-Some.at in
    let ignored = c.in-Ok.ignored in
    let hashed = c.hash-hash.ensures ∙ ap (λ k. hash_in ways old k) c.key.ensures in
    let stays = where-none (looked ≡ old) (λ value. CallsPart hash at.now at.step (NotesLookUp g.R.Rules.answers g.K.PartialEq.eq key hash at.now ignored) old looked) c.in-Ok.found c.in-None.is c.in-Ok.ensures.used in
    missed-drawn ways c.args.self.now.moment key hash at (FnOnceReturnsAt g.P.FnOnce c.args.replace_if) old c.wait_or_lead-in-None.new.self.state c.in-Some.ensures.drawn hashed c.args.kind ignored looked c.wait_or_lead-in-None.result
    stays (sym c.is_same.ensures.value ∙ c.if-is_same.false) c.in-Ok.ensures.asked (sym c.in-None.is ∙ c.in-Ok.ensures.found) c.wait_or_lead-in-None.ensures.starts
