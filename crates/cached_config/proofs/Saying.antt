-- Namespaces and loads that are read one after another.
use Rattle.std.proofs.Common.{◌≡◌, ℕ, ◌+◌, ◌<◌, List, [], ◌∷◌, ◌++◌, length, take, get_or, string_bytes, Bor, Option, Some, None, IfSome, IfNone, option_map, refl, ap, sym, subst, ◌∙◌}
use Rattle.std.specs.Prelude.{Result, Ok, Err, IfOk, IsSomeAnd}
use Rattle.std.proofs.lemmas.List.{take_more}
use Rattle.toml.specs.Data.{Data, string, Items, no_items, item, member, push_item}
use Rattle.toml.specs.View.{view, items_view, members_view}
use Rattle.toml.proofs.Views.{Entry, with_last, members_view-last, items_view-push}
use Rattle.toml.specs.declared.value.Value.{Value}
use Rattle.cached_config.specs.Said.{SayEach, SaysSpace, loads_table}
use Rattle.cached_config.specs.declared.listed.HostedNamespace.{HostedNamespace}
use Rattle.cached_config.specs.declared.listed.Listed.{Listed}

-- one more value says one more namespace
pub say-more : (items : Items) (spaces : List HostedNamespace) (value : Data) (space : HostedNamespace)
    → SayEach items spaces → SaysSpace value space → SayEach (push_item items value) (spaces ++ space ∷ [])
say-more no_items [] value space each says = (says, tt)
say-more no_items (s ∷ spaces) value space each says = absurd each
say-more (item d items) [] value space each says = absurd each
say-more (item d items) (s ∷ spaces) value space each says = (each.0, say-more items spaces value space each.1 says)

-- one more load
pub loads_table-last : (loads : List Listed) (listed : Listed)
    → loads_table (loads ++ listed ∷ []) ≡ with_last (loads_table loads) listed.key (string listed.value)
loads_table-last [] listed = refl
loads_table-last (l ∷ loads) listed = ap (member l.key (string l.value)) (loads_table-last loads listed)

pub load-more : (done : List Entry) (e : Entry) (loads : List Listed) (listed : Listed) → members_view done ≡ loads_table loads → string_bytes e.0 ≡ listed.key → view e.1 ≡ string listed.value
    → members_view (done ++ e ∷ []) ≡ loads_table (loads ++ listed ∷ [])
load-more done e loads listed same key value =
    members_view-last done e.0 e.1 ∙ ap (λ ms. with_last ms (string_bytes e.0) (view e.1)) same ∙ ap (λ k. with_last (loads_table loads) k (view e.1)) key ∙ ap (with_last (loads_table loads) listed.key) value
    ∙ sym (loads_table-last loads listed)

-- what holds of a result
pub if-ok : {T E : Type 0} (P Q : T → Type 0) (r : Result T E) → ((x : T) → P x → Q x) → IfOk r P → IfOk r Q
if-ok P Q (Ok x) so p = so x p
if-ok P Q (Err e) so p = tt

-- one more value of a list says one more namespace
pub say-next : (values : List Value) (i : ℕ) (d : Value) (spaces : List HostedNamespace) (space : HostedNamespace) → i < length values → SayEach (items_view (take i values)) spaces → SaysSpace (view (get_or values i d)) space
    → SayEach (items_view (take (i + 1) values)) (spaces ++ space ∷ [])
say-next values i d spaces space within each says =
    rw (take_more values i d within, items_view-push (take i values) (get_or values i d)) (say-more (items_view (take i values)) spaces (view (get_or values i d)) space each says)

pub some-so : {T : Type 0} (P : T → Type 0) (o : Option T) (x : T) → o ≡ Some x → IsSomeAnd o P → P x
some-so P o x is so = subst (λ (p : Option _). IsSomeAnd p P) is so

pub never-none : {T : Type 0} (P : T → Type 0) (o : Option T) → o ≡ None → IsSomeAnd o P → ⊥
never-none P o is so = subst (λ (p : Option _). IsSomeAnd p P) is so

-- a value that is found is what the members have at its key
pub found-some : (r : Option (Bor Value)) (d : Option Data) → option_map (λ x. view x.now) r ≡ d → IfSome r (λ value. d ≡ Some (view value.now))
found-some None d e = tt
found-some (Some value) d e = sym e

pub found-none : (r : Option (Bor Value)) (d : Option Data) → option_map (λ x. view x.now) r ≡ d → IfNone r (d ≡ None)
found-none None d e = sym e
found-none (Some value) d e = tt
