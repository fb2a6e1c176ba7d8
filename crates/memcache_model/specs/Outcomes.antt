-- What a request replies and leaves.
use Rattle.std.specs.Prelude.{ℕ, ◌+◌, ◌-◌, ◌^◌, ◌%◌, false, List, Option, Some}
use Rattle.memcache_model.specs.Items.{Item, Stock, with_item}
use Rattle.memcache_model.specs.declared.command.Direction.{Direction}
use Rattle.memcache_model.specs.declared.command.Direction.TheVariants.{Up, Down}

-- the reply, and what is there then
pub record Outcome : Type 0 where
  pub reply : List ℕ
  pub stock : Stock

-- a text, and nothing changes
abbrev pub says_text : List ℕ → Stock → Outcome
says_text text stock = record { reply = text; stock = stock }

-- a text, and a key has another item or none
abbrev pub changes : List ℕ → List ℕ → Option Item → Stock → Outcome
changes text key item stock =
    record { reply = text; stock = record stock { items = with_item key item stock.items } }

-- a text, and a key has an item with the next unique
abbrev pub stores_item : List ℕ → List ℕ → Item → Stock → Outcome
stores_item text key item stock = record {
  reply = text;
  stock = record stock {
    items = with_item key (Some (record item { unique = stock.uniques + 1 })) stock.items;
    uniques = stock.uniques + 1;
  };
}

-- an item that nobody has leased; it gets its unique as it is stored
abbrev pub new_item : (bytes : List ℕ) → (flags : ℕ) → Option ℕ → Item
new_item bytes flags deadline = record {
  bytes = bytes;
  flags = flags;
  unique = 0;
  deadline = deadline;
  stale = false;
  leased = false;
}

-- up goes on at 0 behind 2 ^ 64 - 1, and down stops at 0
abbrev pub counted : Direction → ℕ → ℕ → ℕ
counted Up number delta = (number + delta) % 2 ^ 64
counted Down number delta = number - delta
