-- What is left of the input of a connection, and what was written to it, by its reader and its writer.
use Rattle.std.specs.Prelude.{ℕ, List, Option}
use Rattle.cache_link.specs.Dialogues.{Wire}

-- a reader and a writer
abbrev pub wire_of : {R W : Type 0} → (R → Option (List ℕ)) → (W → Option (List ℕ)) → R → W → Wire
wire_of remaining contents reader writer =
    record { remaining = remaining reader; contents = contents writer }
