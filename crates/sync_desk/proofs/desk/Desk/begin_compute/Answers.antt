use Rattle.std.proofs.Common.{ap, subst}
use Rattle.front_parts.specs.Places.Calls.{hash_in, ways_by}
use Rattle.front_reference.specs.declared.data.TurnKind.TheVariants as kinds
use Rattle.sync_desk.specs.Drawing.{HasStarted, StartsAsDrawn, state_start}
use Rattle.sync_desk.proofs.Computing.{led, unled}
use Rattle.sync_desk.proofs.desk.Desk.begin_compute.Goals as goal

pub returns-in-Ok-Lead-clause-begins : goal.returns-in-Ok-Lead-clause-begins
returns-in-Ok-Lead-clause-begins g c =
    let ways = ways_by g.R.Rules g.K.PartialEq.eq g.K.Hash.hash_input g.S.BuildHasher g.S.Hasher.Hasher in
    let old = c.args.self.now.state in
    let mid = c.begin.new.self.state in
    let starts = subst (λ start. StartsAsDrawn ways c.args.self.now.moment c.args.key.now old mid (state_start start)) c.in-Ok-Lead.field-0-is c.in-Ok-Lead.ensures.begins in
    let same = ap (λ desk. desk.moment) c.begin.ensures.rest in
    led ways c.args.self.now.moment c.begin.new.self.moment same c.args.key.now c.in-Ok-Lead.number old mid c.show_visible.new.self.state starts c.show_visible.result c.show_visible.ensures.leads

pub returns-in-Ok-Lead-clause-err : goal.returns-in-Ok-Lead-clause-err
returns-in-Ok-Lead-clause-err g c =
    let ways = ways_by g.R.Rules g.K.PartialEq.eq g.K.Hash.hash_input g.S.BuildHasher g.S.Hasher.Hasher in
    let key = c.args.key.now in
    let old = c.args.self.now in
    let mid = c.begin.new.self in
    let new = c.show_visible.new.self in
    let hash = hash_in ways old.state key in
    let starts = subst (λ start. StartsAsDrawn ways old.moment key old.state mid.state (state_start start)) c.in-Ok-Lead.field-0-is c.in-Ok-Lead.ensures.begins in
    let opens = subst (λ start. HasStarted kinds.Compute hash old.slots.slots mid.slots.slots (state_start start)) c.in-Ok-Lead.field-0-is c.in-Ok-Lead.ensures.turns.0 in
    let same = ap (λ desk. desk.moment) c.begin.ensures.rest in
    unled ways old.moment mid.moment same key c.in-Ok-Lead.number old.state mid.state new.state starts hash old.slots.slots mid.slots.slots new.slots.slots c.show_visible.result opens c.show_visible.ensures.gives_up c.show_visible.ensures.told
