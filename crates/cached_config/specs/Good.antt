-- What a configuration file may say.
use Rattle.std.specs.Prelude.{ℕ, Bool, true, not, ◌&&◌, ◌||◌, ◌==◌, nat_le, List, [], ◌∷◌, length}
use Rattle.std.specs.List.{list_all}
use Rattle.audit_model.specs.Bytewise.{same}
use Rattle.audit_model.specs.Configs.{is_valid}
use Rattle.audit_model.specs.Grammar.{is_value}
use Rattle.cached_config.specs.declared.listed.HostedNamespace.{HostedNamespace}
use Rattle.cached_config.specs.declared.listed.Listed.{Listed}

-- one of `a` to `z`, `0` to `9`, `-` and `_`
abbrev pub is_name_byte : ℕ → Bool
is_name_byte b = (nat_le 97 b && nat_le b 122) || (nat_le 48 b && nat_le b 57) || b == 45 || b == 95

-- 1 to 32 such bytes
abbrev pub is_name : List ℕ → Bool
is_name name = nat_le 1 (length name) && nat_le (length name) 32 && list_all is_name_byte name

-- a value that is loaded has at most 8192 bytes, and no line end
abbrev pub is_loadable : Listed → Bool
is_loadable listed = nat_le (length listed.value) 8192 && is_value listed.value

-- a namespace has a name, a port from 1 on, limits in range and values that may be loaded
abbrev pub is_good_namespace : HostedNamespace → Bool
is_good_namespace space =
    is_name space.name && nat_le 1 space.port && is_valid space.config
    && list_all is_loadable space.loads.items

-- neither its name nor its port is the other's
abbrev pub is_apart : HostedNamespace → HostedNamespace → Bool
is_apart space other = not (same other.name space.name || other.port == space.port)

-- no two have the same name or the same port
abbrev pub are_all_apart : List HostedNamespace → Bool
are_all_apart [] = true
are_all_apart (space ∷ spaces) = list_all (is_apart space) spaces && are_all_apart spaces

-- 1 to 16 namespaces, each valid, all names and all ports different
abbrev pub are_good : List HostedNamespace → Bool
are_good spaces =
    nat_le 1 (length spaces) && nat_le (length spaces) 16 && list_all is_good_namespace spaces
    && are_all_apart spaces
