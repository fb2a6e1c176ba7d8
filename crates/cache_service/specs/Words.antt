-- The words of the contracts of `Service`, `RecordedService`, `play`, `run` and `SharedService`, for callers.
pub use Rattle.audit_laws.specs.Receipts.Receipts.{AreOf, StandFrom}
pub use Rattle.cache_run.specs.Runs.{ServesWhole, ServesPartly}
pub use Rattle.cache_run.specs.Loading.{AddsNoLoads, loads_under_way_in}
pub use Rattle.cache_spaces.specs.Services.{BareSpace, bare_tape, AreNewSpaces, blank_tape}
pub use Rattle.cache_shared.specs.Intakes.{input_in}
pub use Rattle.cache_shared.specs.Looked.{RefusesCopy}
pub use Rattle.cache_spaces.specs.Calls.{At, InSpace, IsOpened, IsUnknown, RefusedFor, Refuses, ServesEvent, Settled, TakesLoads, TakesNotice, TakesOutput, Performs, RefusedInput}
pub use Rattle.cache_spaces.specs.Journals.{IsJournalOf, IsSoOfEach, LeadsSo, journals_of, kept_by}
pub use Rattle.cache_spaces.specs.Cursors.{lent_replies}
pub use Rattle.cache_spaces.specs.Played.{Plays, ArePlayed, WerePlayed, journal_of, AreSynced, KeepsList}
pub use Rattle.cache_spaces.specs.Recorded.{GainsRecord, Recorded, TakesNote, TakesReplies, gained_in, records_in, untaken_in, untold_in}
pub use Rattle.cache_spaces.specs.Spaces.{Space, StandsFor, config_of, identifiers_of, untaken_notes, untaken_output, closing_of, known_of}
pub use Rattle.cache_spaces.specs.Throughout.{HasExactKeys, is_bounded_throughout, is_timely_throughout}
pub use Rattle.cache_shared.specs.Seats.{Agree, AgreeAll, Counts, SameReceipts, receipt_for, receipts_at}
