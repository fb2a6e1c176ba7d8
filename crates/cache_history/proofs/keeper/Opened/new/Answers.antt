use Rattle.cache_history.proofs.Moves.{begins}
use Rattle.cache_history.proofs.keeper.Opened.new.Goals as goal

pub of_words-requires : goal.of_words-requires
of_words-requires g c = begins _ _ _ _ c.requires
