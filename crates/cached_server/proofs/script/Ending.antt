-- Why the program ends with status 1.
use Rattle.std.proofs.Common.{◌≡◌, ◌≢◌, ◌⊎◌, ◌++◌, ◌≤◌, ℕ, List, [], Option, Some, None, refl, sym, subst, inl, inr, arith}
use Rattle.std.specs.declared.io.ErrorKind.{ErrorKind}
use Rattle.std.specs.declared.io.ErrorKind.TheVariants as kind
use Rattle.cache_run.specs.declared.devices.watched.Watched.{Watched}
use Rattle.cache_run.specs.Devices.Watched.{device, failures}
use Rattle.cached_server.proofs.script.Twice.{tells-alone}
use Rattle.cached_server.specs.Script.Faults.{EndsByFault, EndsCallBy, EndsScriptBy, EndsTelling, HasCause, MayEnd, WritesPrefix, fault_message}
use Rattle.cached_server.specs.declared.script.faults.Fault.{Fault}
use Rattle.cached_server.specs.declared.script.faults.Fault.TheVariants as fault

-- a fault whose text alone was written
pub ends-alone : (read write used_up serves : Type 0) (f : Fault) (behind told : Option (List ℕ)) (before failed : ℕ) → HasCause read write used_up serves f → WritesPrefix (fault_message f) behind told before failed
    → EndsByFault read write used_up serves told failed
ends-alone read write used_up serves f behind told before failed cause tells = record {
  fault = f;
  cause = cause;
  more = [];
  alone = λ some. absurd (some refl);
  behind = behind;
  before = before;
  tells = tells-alone (fault_message f) behind told before failed tells;
}

-- a server's fault, which is not of its input
caused : (f : Fault) → f ≢ fault.Read → HasCause ⊥ (Unit {0}) (Unit {0}) (Unit {0}) f
caused fault.Read other = absurd (other refl)
caused fault.Write other = tt
caused fault.OutOfMemory other = tt
caused fault.UsedUp other = tt
caused fault.BadConfiguration other = tt
caused fault.CannotListen other = tt

ends-server : (behind told : Option (List ℕ)) (before failed : ℕ) → ((f : Fault) × (more : List ℕ) × (f ≢ fault.Read) × WritesPrefix (fault_message f ++ more) behind told before failed)
    → EndsByFault ⊥ (Unit {0}) (Unit {0}) (Unit {0}) told failed
ends-server behind told before failed t = record { fault = t.0; cause = caused t.0 t.2; more = t.1; alone = λ some. tt; behind = behind; before = before; tells = t.3 }

-- ---- words that cannot be had

is-memory : (k : ErrorKind) → (k ≡ kind.OutOfMemory) ⊎ (k ≢ kind.OutOfMemory)
is-memory kind.OutOfMemory = inl refl
is-memory k = inr (λ e. cc)

one-ends : (call : Option (Option (List ℕ))) (status : ℕ) → status ≡ 1 → MayEnd call status
one-ends None status one = inl one
one-ends (Some None) status one = omega (arith, one)
one-ends (Some (Some path)) status one = one

pub script-ends : (call : Option (Option (List ℕ))) (status : ℕ) → call ≡ Some None → status ≤ 1 → MayEnd call status
script-ends call status is low = subst (λ call. MayEnd call status) (sym is) low

pub server-ends : (call : Option (Option (List ℕ))) (path : List ℕ) (status : ℕ) → call ≡ Some (Some path) → status ≡ 1 → MayEnd call status
server-ends call path status is one = subst (λ call. MayEnd call status) (sym is) one

pub wordless-ends : (call : Option (Option (List ℕ))) (k : ErrorKind) (status : ℕ) → (k ≢ kind.OutOfMemory → call ≡ None) → (k ≡ kind.OutOfMemory → status ≡ 1) → (k ≢ kind.OutOfMemory → status ≡ 2) → MayEnd call status
wordless-ends call k status none memory other = elim (is-memory k) [
  | inl same ↦ one-ends call status (memory same)
  | inr apart ↦ subst (λ call. MayEnd call status) (sym (none apart)) (inr (other apart))
]

module _ {R W E : Type 0} (contents : E → Option (List ℕ)) (reader reader' : Watched R) (writer writer' : Watched W) (errors errors' : Watched E) where
  memory-ends : (call : Option (Option (List ℕ))) → WritesPrefix (fault_message fault.OutOfMemory) (contents (device errors)) (contents (device errors')) (failures errors) (failures errors')
      → EndsCallBy call contents reader reader' writer writer' errors errors'
  memory-ends None tells = ends-alone _ _ _ _ fault.OutOfMemory _ _ _ _ tt tells
  memory-ends (Some None) tells = ends-alone _ _ _ _ fault.OutOfMemory _ _ _ _ tt tells
  memory-ends (Some (Some path)) tells = ends-alone _ _ _ _ fault.OutOfMemory _ _ _ _ tt tells

  pub wordless-stops : (call : Option (Option (List ℕ))) (k : ErrorKind) (status : ℕ) (usage : List ℕ)
      → (k ≡ kind.OutOfMemory → EndsTelling contents status 1 (fault_message fault.OutOfMemory) errors errors') → (k ≢ kind.OutOfMemory → EndsTelling contents status 2 usage errors errors')
      → status ≡ 1 → EndsCallBy call contents reader reader' writer writer' errors errors'
  wordless-stops call k status usage memory other one = elim (is-memory k) [
    | inl same ↦ memory-ends call (memory same).1
    | inr apart ↦ absurd (let two = (other apart).0 in omega (arith, one, two))
  ]

  pub script-stops : (call : Option (Option (List ℕ))) → call ≡ Some None → EndsScriptBy contents reader reader' writer writer' errors errors' → EndsCallBy call contents reader reader' writer writer' errors errors'
  script-stops call is stopped = subst (λ call. EndsCallBy call contents reader reader' writer writer' errors errors') (sym is) stopped

  pub server-stops : (call : Option (Option (List ℕ))) (path : List ℕ) → call ≡ Some (Some path)
      → ((f : Fault) × (more : List ℕ) × (f ≢ fault.Read) × WritesPrefix (fault_message f ++ more) (contents (device errors)) (contents (device errors')) (failures errors) (failures errors'))
      → EndsCallBy call contents reader reader' writer writer' errors errors'
  server-stops call path is told = subst (λ call. EndsCallBy call contents reader reader' writer writer' errors errors') (sym is) (ends-server _ _ _ _ told)
