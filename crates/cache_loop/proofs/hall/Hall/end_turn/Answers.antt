use Rattle.std.proofs.Common.{◌≡◌, Option, MatchOption, Result, refl, subst}
use Rattle.cache_run.specs.declared.devices.errors.RunError.{RunError}
use Rattle.cache_loop.specs.Turns.{ClosesAtKey, SamePairs}
use Rattle.cache_loop.specs.declared.doorway.Stream.{Stream}
use Rattle.cache_loop.proofs.hall.Hall.end_turn.Goals as goal

pub returns-in-Some : goal.returns-in-Some
returns-in-Some g c =
    let p = c.args.self.now.served in
    let q = c.end.new.self.served in
    subst (λ (o : Option (Result (Unit {0}) RunError)). MatchOption o (SamePairs p q × (c.end.new.steward ≡ c.args.steward.now)) (λ one. (given : Option Stream) × ClosesAtKey g.S.Steward c.args.key one p c.args.steward.now given q c.end.new.steward)) c.in-Some.ensures c.end.ensures

pub returns-in-None : goal.returns-in-None
returns-in-None g c =
    let p = c.args.self.now.served in
    let q = c.note_given.new.self.served in
    let s = c.args.steward.now in
    subst (λ (o : Option (Result (Unit {0}) RunError)). MatchOption o (SamePairs p q × (s ≡ s)) (λ one. (given : Option Stream) × ClosesAtKey g.S.Steward c.args.key one p s given q s)) c.in-None.ensures (c.note_given.ensures, refl)
