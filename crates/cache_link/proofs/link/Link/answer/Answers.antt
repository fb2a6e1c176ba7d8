use Rattle.std.proofs.Common.{Some, rules}
use Rattle.cache_link.proofs.Dialogues.{sentinel}
use Rattle.cache_link.proofs.Serving.{answer-because, answered-broken, answered-on, begun}
use Rattle.cache_link.proofs.link.Link.answer.Goals as goal

pub returns-in-Ok-clause-goes : goal.returns-in-Ok-clause-goes
returns-in-Ok-clause-goes g c =
    let done = c.in-Ok.ensures in
    let on = c.has_ended-self.ensures in
    λ start a b x.
    let being = x.going c.requires.going.0 in
    answered-on g.H.Host g.K.Clock.reads g.D.Loader.loads c.requires.shared start a c.args.self.now _ _ _ b done.known.1 x c.requires.going.0 c.requires.going.1 _ _ (search rules) (search rules)
    c.in-Ok.progress done.settled on.going on.over (done.goes (Some sentinel) _ _ (begun g.H.Host g.K.Clock.reads g.D.Loader.loads c.requires.shared c.args.self.now.session _ _ _ _ being.idle being.opened))

pub returns-in-Err-clause-goes : goal.returns-in-Err-clause-goes
returns-in-Err-clause-goes g c =
    let done = c.in-Err.ensures in
    λ start a b x.
    let being = x.going c.requires.going.0 in
    answered-broken g.H.Host g.K.Clock.reads g.D.Loader.loads c.requires.shared start a c.args.self.now _ _ _ b done.known.1 x c.requires.going.0 c.requires.going.1 _ _ (search rules) (search rules) _
    (done.goes (Some sentinel) _ _ (begun g.H.Host g.K.Clock.reads g.D.Loader.loads c.requires.shared c.args.self.now.session _ _ _ _ being.idle being.opened))

pub returns-in-Err-clause-why : goal.returns-in-Err-clause-why
returns-in-Err-clause-why g c = answer-because _ _ _ c.error_of_answer.ensures.kept c.error_of_answer.ensures.none c.in-Err.ensures.why

pub returns-in-Ok-clause-among : goal.returns-in-Ok-clause-among
returns-in-Ok-clause-among g c = c.in-Ok.ensures.among

pub returns-in-Err-clause-among : goal.returns-in-Err-clause-among
returns-in-Err-clause-among g c = c.in-Err.ensures.among
