use Rattle.std.proofs.Common.{ap, ◌∙◌, subst, None}
use Rattle.std.specs.Option.{option_map}
use Rattle.cache_lines.specs.Bases.{seen_on}
use Rattle.cache_lines.specs.Tape.Taped.{finishes}
use Rattle.cache_lines.specs.declared.base.Base.{Base}
use Rattle.cache_commands.specs.Values.{IsSoundStore}
use Rattle.audit_model.specs.declared.event.Event.TheVariants as event
use Rattle.cache_core.proofs.Follows.{fed-begun, fed-started, finish-same}
use Rattle.cache_core.proofs.recording.feed_recorded.Goals as goal

pub finish-requires : goal.finish-requires
finish-requires g c =
    let view = g.S.Store.view in
    let tape = g.T.Tape.view in
    let base = c.args.base.now in
    let rest = c.begin_feed.ensures.rest in
    let is = seen_on view tape c.feed_connection.new.base c.feed_connection.new.connection.output in
    (fed-begun c.args.now c.args.number c.args.connection.now c.feed_connection.new.connection c.args.piece.now c.in-Ok-feed_connection.is_held (seen_on view tape base c.args.connection.now.output) is (tape base.tape)
    (fed-started view tape c.args.now c.args.number base c.begin_feed.new.base c.args.connection.now c.begin_feed.new.connection c.feed_connection.new.connection c.args.piece.now c.in-Ok-feed_connection.is_held is rest c.in-Ok.ensures.tape c.begin_feed.ensures.connection c.in-Ok-feed_connection.ensures.ran)
    (subst (λ (b : Base _ _). IsSoundStore (view b.store)) rest c.sound.ensures)).0

pub returns-in-Ok-feed_connection-clause-turned : goal.returns-in-Ok-feed_connection-clause-turned
returns-in-Ok-feed_connection-clause-turned g c =
    let view = g.S.Store.view in
    let tape = g.T.Tape.view in
    let base = c.args.base.now in
    let rest = c.begin_feed.ensures.rest in
    let is = seen_on view tape c.feed_connection.new.base c.feed_connection.new.connection.output in
    let ran = fed-started view tape c.args.now c.args.number base c.begin_feed.new.base c.args.connection.now c.begin_feed.new.connection c.feed_connection.new.connection c.args.piece.now c.in-Ok-feed_connection.is_held is rest c.in-Ok.ensures.tape c.begin_feed.ensures.connection c.in-Ok-feed_connection.ensures.ran in
    let begun = fed-begun c.args.now c.args.number c.args.connection.now c.feed_connection.new.connection c.args.piece.now c.in-Ok-feed_connection.is_held (seen_on view tape base c.args.connection.now.output) is (tape base.tape) ran
    (subst (λ (b : Base _ _). IsSoundStore (view b.store)) rest c.sound.ensures) in
    record {
      middle = tape c.feed_connection.new.base.tape;
      ran = ran;
      ended =
          c.finish.ensures
          ∙ ap (λ ns. option_map (finishes c.in-Ok.event None ns) (tape c.feed_connection.new.base.tape)) c.new.ensures
          ∙ finish-same (tape base.tape) (tape c.feed_connection.new.base.tape) c.in-Ok.event (event.Feed c.args.number c.args.piece.now c.args.moment) begun.1 c.in-Ok.ensures.event;
    }
