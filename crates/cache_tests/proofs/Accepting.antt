-- What an accepting leaves of a store, whether it is refused or not.
use Rattle.std.proofs.Common.{◌≡◌, ◌≤◌, ap, arith, ℕ, Bool, false, List, Option, Result, Ok, Err, IfOk, OnErr}
use Rattle.cache_commands.specs.Promises.{Frame}
use Rattle.cache_commands.specs.Values.{AcceptsValue, Values}

-- the configuration stays
pub accepted-config : {S E : Type 0} (view : S → Values) (now : ℕ) (key bytes : List ℕ) (ms : Option ℕ) (was is : S) (r : Result ℕ E) → IfOk r (λ part. (looked_up : Bool) → AcceptsValue now key bytes ms looked_up part (view was) (view is)) → OnErr r (is ≡ was) → (view is).frame.config ≡ (view was).frame.config
accepted-config view now key bytes ms was is (Ok part) does same = ap (λ (f : Frame). f.config) (does false).1.frame
accepted-config view now key bytes ms was is (Err e) does same = ap (λ s. (view s).frame.config) same

-- the moment is the last
pub accepted-latest : {S E : Type 0} (view : S → Values) (now : ℕ) (key bytes : List ℕ) (ms : Option ℕ) (was is : S) (r : Result ℕ E) → IfOk r (λ part. (looked_up : Bool) → AcceptsValue now key bytes ms looked_up part (view was) (view is)) → OnErr r (is ≡ was) → (view was).frame.latest ≤ now → (view is).frame.latest ≤ now
accepted-latest view now key bytes ms was is (Ok part) does same le = let e = ap (λ (f : Frame). f.latest) (does false).1.frame in omega (arith, e)
accepted-latest view now key bytes ms was is (Err e) does same le = let e = ap (λ s. (view s).frame.latest) same in omega (arith, e, le)
