-- The rules of a cache of items.
use Rattle.std.specs.Prelude.{ℕ, ◌+◌, ◌-◌, ◌*◌, ◌^◌, min, false, List, length, Option, Some, None, option_map}
use Rattle.engine_reference.specs.State.{Answers}
use Rattle.memcache_model.specs.Items.{Item}
use Rattle.memcache_cache.specs.declared.rules.ItemRules.{ItemRules}

-- how many nanoseconds are left until a moment of milliseconds
abbrev pub left_until : (now : ℕ) → (milliseconds : ℕ) → ℕ
left_until now milliseconds = min (milliseconds * 1000000) (2 ^ 64 - 1) - now

-- how long an item is to live from a moment on
abbrev pub left_of : Item → (now : ℕ) → Option ℕ
left_of item now = option_map (left_until now) item.deadline

-- what an item weighs under a key: the bytes of both, and what it costs beside
abbrev pub item_weight : List ℕ → Item → ℕ
item_weight key item = min (length key + length item.bytes + 230) (2 ^ 32 - 1)

-- the rules: what an item weighs, and when it expires
abbrev pub item_answers : Answers (List ℕ) Item (Unit {0}) ItemRules
item_answers = record {
  weight_of = λ rules. item_weight;
  created = λ rules key item now. left_of item now;
  found = λ rules key item now left written. None;
  updated = λ rules key item now left. Some (left_of item now);
  covers = λ rules predicate key item. false;
}
