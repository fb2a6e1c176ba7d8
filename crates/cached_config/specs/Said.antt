-- What a configuration file says of its namespaces, over the table that TOML gives.
use Rattle.std.specs.Prelude.{codes, ◌≡◌, ℕ, pos, false, List, [], ◌∷◌, Some, option_map, unwrap_or}
use Rattle.audit_model.specs.declared.config.Config.{Config}
use Rattle.audit_model.specs.declared.config.EvictionPolicy.{EvictionPolicy}
use Rattle.audit_model.specs.declared.config.EvictionPolicy.TheVariants.{TinyLfu, Lru}
use Rattle.audit_model.specs.declared.config.Weight.{Weight}
use Rattle.audit_model.specs.declared.config.Weight.TheVariants.{One, Bytes as ByBytes}
use Rattle.cached_config.specs.declared.listed.HostedNamespace.{HostedNamespace}
use Rattle.cached_config.specs.declared.listed.Listed.{Listed}
use Rattle.toml.specs.Data.{Data, string, integer, boolean, array, table, Items, no_items, item, Members, no_members, member, get_member}
use Rattle.toml.specs.Parse.{parse_document}

-- what a key says in a table, or what is said where it is not there
abbrev pub said_or : List ℕ → Data → Members → Data
said_or key otherwise members = unwrap_or (get_member key members) otherwise

abbrev pub whole_number : ℕ → Data
whole_number n = integer (pos n)

abbrev pub policy_text : EvictionPolicy → Data
policy_text TinyLfu = string (codes "tinylfu")
policy_text Lru = string (codes "lru")

abbrev pub weight_text : Weight → Data
weight_text One = string (codes "one")
weight_text ByBytes = string (codes "bytes")

-- the table of what loads find
abbrev pub loads_table : List Listed → Members
loads_table [] = no_members
loads_table (listed ∷ loads) = member listed.key (string listed.value) (loads_table loads)

-- each limit is what its key says; none, or what is usual, if the key is not there
pub record SaysLimits (members : Members) (config : Config) : Type 0 where
  pub capacity : get_member (codes "capacity") members ≡ option_map whole_number config.capacity
  pub policy : said_or (codes "policy") (policy_text TinyLfu) members ≡ policy_text config.policy
  pub parts : said_or (codes "parts") (whole_number 1) members ≡ whole_number config.parts
  pub weight : said_or (codes "weight") (weight_text One) members ≡ weight_text config.weight
  pub live : get_member (codes "live_ms") members ≡ option_map whole_number config.live_ms
  pub idle : get_member (codes "idle_ms") members ≡ option_map whole_number config.idle_ms
  pub deadlines : said_or (codes "deadlines") (boolean false) members
      ≡ boolean config.own_deadlines

-- a table says a namespace: its name, its port, its limits, and all that its loads find
pub record Says (members : Members) (space : HostedNamespace) : Type 0 where
  pub name : get_member (codes "name") members ≡ Some (string space.name)
  pub port : get_member (codes "port") members ≡ Some (whole_number space.port)
  pub limits : SaysLimits members space.config
  pub loads : said_or (codes "loads") (table no_members) members
      ≡ table (loads_table space.loads.items)

-- a value is a table that says a namespace
abbrev pub SaysSpace : Data → HostedNamespace → Type 0
SaysSpace (table members) space = Says members space
SaysSpace _ space = ⊥

-- values say namespaces, one each, in order
abbrev pub SayEach : Items → List HostedNamespace → Type 0
SayEach no_items [] = Unit {0}
SayEach no_items (space ∷ spaces) = ⊥
SayEach (item value items) [] = ⊥
SayEach (item value items) (space ∷ spaces) = SaysSpace value space × SayEach items spaces

-- a value is an array that says these namespaces
abbrev pub SaysSpaces : Data → List HostedNamespace → Type 0
SaysSpaces (array items) spaces = SayEach items spaces
SaysSpaces _ spaces = ⊥

-- a document says these namespaces: they are those of its tables `[[namespace]]`
pub record SaysAll (document : Members) (spaces : List HostedNamespace) : Type 0 where
  pub namespaces : Data
  pub there : get_member (codes "namespace") document ≡ Some namespaces
  pub each : SaysSpaces namespaces spaces

-- a text is TOML, and its document says these namespaces
pub record IsConfigOf (text : List ℕ) (spaces : List HostedNamespace) : Type 0 where
  pub document : Members
  pub parsed : parse_document text ≡ Some document
  pub says : SaysAll document spaces
