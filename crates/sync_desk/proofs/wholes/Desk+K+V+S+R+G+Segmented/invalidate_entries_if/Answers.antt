use Rattle.sync_desk.proofs.Refusing.{refused_to_cover}
use Rattle.sync_desk.proofs.wholes.«Desk+K+V+S+R+G+Segmented».invalidate_entries_if.Goals as goal

pub returns-in-Ok-clause-cause : goal.returns-in-Ok-clause-cause
returns-in-Ok-clause-cause g c =
    refused_to_cover c.args.self.now.state _ _ c.invalidate_entries_if.result c.invalidate_entries_if.ensures.cause
