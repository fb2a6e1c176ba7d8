use Rattle.std.specs.Prelude.{Option}
use Rattle.audit_model.specs.declared.transcript.Note.{Note}
use Rattle.cache_shared.proofs.Stepping.{happened}
use Rattle.cache_shared.specs.Taken.{MovesNote}
use Rattle.cache_shared.proofs.shared.SharedService.next_notice.Goals as goal

pub returns-clause-all : goal.returns-clause-all
returns-clause-all g c =
    happened _ _ (λ (note : Option Note) old new. MovesNote g.C.Shareable.spaces g.C.Shareable.untaken g.C.Shareable.untold old new c.args.namespace note) c.next_notice.result _ _ _ c.deref_mut.result.now.booked.stands.reached c.next_notice.ensures.all
