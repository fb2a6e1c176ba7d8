use Rattle.std.proofs.Common.{refl}
use Rattle.std.specs.List.{slice_get}
use Rattle.cache_service.specs.Words.{KeepsList}
use Rattle.cache_service_tests.specs.declared.uses.TheConstants.{PAIR}
use Rattle.cache_service_tests.proofs.Choosing.{if-there}
use Rattle.cache_service_tests.proofs.uses.play_pair.Goals as goal

pub returns-in-Ok : goal.returns-in-Ok
returns-in-Ok c =
    if-there (λ played. KeepsList PAIR 1 played) (slice_get c.in-Ok.transcripts.items 0) (λ played at.
    (c.in-Ok.ensures.played.each 0 PAIR played refl at).recent 1 (record { policy = refl; parts = refl; weight = refl; capacity = refl; live = refl; idle = refl; own = refl }))
