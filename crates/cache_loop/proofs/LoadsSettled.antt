-- How loads are settled one after another.
use Rattle.std.proofs.Common.{◌≡◌, ℕ, ◌+◌, Bool, false, List, [], ◌∷◌, ◌++◌, Option, None, inl, inr, refl, sym, ap, subst, ◌∙◌, arith}
use Rattle.std.specs.Prelude.{Result, Ok, Err, IfOk, OnErr, map, reverse}
use Rattle.std.proofs.lemmas.List.{append-nil, append_assoc, map-append, reverse-append}
use Rattle.std.proofs.lemmas.Grind.{flat_map-append}
use Rattle.std.proofs.lemmas.List.Sums.{sum_by-append, sum_by-cons}
use Rattle.audit_model.specs.declared.event.Outcome.{Outcome}
use Rattle.audit_model.specs.declared.input.Conn.{Conn}
use Rattle.audit_model.specs.declared.input.LoadId.{LoadId}
use Rattle.cache_run.specs.Driver.Exchanges.{Doing, Exchange, Outs}
use Rattle.cache_run.specs.Driver.Hosting.{SettlesBy, SuitsRequest, exchange_of}
use Rattle.cache_run.specs.declared.devices.errors.RunError.{RunError}
use Rattle.cache_run.specs.declared.driver.host.Given.{Given}
use Rattle.cache_loop.specs.declared.loading.Pending.{Pending}
use Rattle.cache_loop.specs.Loads.{GivesUpOne, ResolveEach, Resolves, SettlesBehind, SettlesEach, SettlesOne, held, held_one, kept_among, numbers_pending, once, outs_in, times_out, times_pending}

pub out-on : (first second : Outs) (load : ℕ) → times_out (first ++ second) load ≡ times_out first load + times_out second load
out-on first second load = sum_by-append (λ (out : LoadId × List ℕ). once out.0.number load) first second

-- one more that went out
pub out-first : (out : LoadId × List ℕ) (outs : Outs) (load : ℕ) → times_out (out ∷ outs) load ≡ once out.0.number load + times_out outs load
out-first out outs load = sum_by-cons (λ (out : LoadId × List ℕ). once out.0.number load) out outs

-- one more that is pending
pub numbers-last : (pending : List Pending) (one : Pending) → numbers_pending (pending ++ one ∷ []) ≡ one.number ∷ numbers_pending pending
numbers-last pending one = ap reverse (map-append (λ one. one.number) pending (one ∷ [])) ∙ reverse-append (map (λ one. one.number) pending) (one.number ∷ [])

pending-put : (was now : List Pending) (one : Pending) (outs : Outs) (load : ℕ) → now ≡ was ++ one ∷ [] → held_one one.number outs was load ≡ held outs now load
pending-put was now one outs load put =
    let more = ap (λ (xs : List Pending). times_pending xs load) put in
    let last = sum_by-append (λ (x : Pending). once x.number load) was (one ∷ []) in
    let alone = sum_by-cons (λ (x : Pending). once x.number load) one [] in
    omega (arith, more, last, alone)

module _ {H : Type 0} (Came : Conn → H → Exchange → H → Type 0) (Rests : H → H → Type 0) (conn : Conn) where
  resolve-on : (p m q : H) (first second : List (ℕ × Outs)) → ResolveEach Came Rests conn p first m → ResolveEach Came Rests conn m second q
      → ResolveEach Came Rests conn p (first ++ second) q
  resolve-on p m q [] second there on = subst (λ h. ResolveEach Came Rests conn h second q) there on
  resolve-on p m q (step ∷ steps) second there on = (there.0, there.1, resolve-on there.0 m q steps second there.2 on)

  -- nothing was settled
  pub settle-none : (had has : ℕ → ℕ) (p : H) → ((load : ℕ) → had load ≡ has load) → SettlesEach Came Rests conn had p has p
  settle-none had has p same = record { steps = []; done = refl; balance = λ load. let s = same load in omega (arith, s) }

  -- one was
  pub settle-one : (number moment : ℕ) (said : Option Outcome) (outs : Outs) (had has : ℕ → ℕ) (p q : H) → Resolves Came Rests conn number moment said p outs q
      → ((load : ℕ) → had load + times_out outs load ≡ has load + once number load) → SettlesEach Came Rests conn had p has q
  settle-one number moment said outs had has p q one sums = record {
    steps = (number, outs) ∷ [];
    done = (q, (moment, said, one), refl);
    balance = λ load. let s = sums load in rw (sum_by-cons (λ (step : ℕ × Outs). times_out step.1 load) (number, outs) [], sum_by-cons (λ (step : ℕ × Outs). once step.0 load) (number, outs) []) (omega (arith, s));
  }

  -- and then others
  pub settle-on : (a b c d had has : ℕ → ℕ) (p m q : H) → SettlesEach Came Rests conn a p b m → SettlesEach Came Rests conn c m d q
      → ((load : ℕ) → had load + b load + d load ≡ has load + a load + c load) → SettlesEach Came Rests conn had p has q
  settle-on a b c d had has p m q first second sums = record {
    steps = first.steps ++ second.steps;
    done = resolve-on p m q first.steps second.steps first.done second.done;
    balance = λ load.
        let s = sums load in
        let x = first.balance load in
        let y = second.balance load in
        rw (sum_by-append (λ (step : ℕ × Outs). times_out step.1 load) first.steps second.steps, sum_by-append (λ (step : ℕ × Outs). once step.0 load) first.steps second.steps) (omega (arith, s, x, y));
  }

  -- what is held may be counted otherwise
  pub settle-as : (a b had has : ℕ → ℕ) (p q : H) → SettlesEach Came Rests conn a p b q → ((load : ℕ) → had load + b load ≡ has load + a load) → SettlesEach Came Rests conn had p has q
  settle-as a b had has p q each sums = record {
    steps = each.steps;
    done = each.done;
    balance = λ load. let s = sums load in let x = each.balance load in omega (arith, s, x);
  }

  -- the same connection went on
  pub settle-then : (a b c : ℕ → ℕ) (p m q : H) (later : Conn) → later ≡ conn → SettlesEach Came Rests conn a p b m → SettlesEach Came Rests later b m c q → SettlesEach Came Rests conn a p c q
  settle-then a b c p m q later same first second = settle-on a b b c a c p m q first (subst (λ k. SettlesEach Came Rests k b m c q) same second) (λ load. omega arith)

  -- one that was in hand was, and what went out then came behind those that were there
  pub settle-told : (number moment : ℕ) (said : Option Outcome) (kept old new : Outs) (was is : List Pending) (p q : H) → Resolves Came Rests conn number moment said p kept q → new ≡ old ++ kept → is ≡ was
      → SettlesEach Came Rests conn (held_one number old was) p (held new is) q
  settle-told number moment said kept old new was is p q told behind same =
      settle-one number moment said kept (held_one number old was) (held new is) p q told
      (λ load. let out = ap (λ xs. times_out xs load) behind ∙ out-on old kept load in let pend = ap (λ xs. times_pending xs load) same in omega (arith, out, pend))

  -- and those that went out came behind those that were there
  pub settle-told-behind : (number moment : ℕ) (said : Option Outcome) (kept old new : Outs) (was is : List Pending) (p q : H) → Resolves Came Rests conn number moment said p kept q → new ≡ old ++ kept → is ≡ was
      → SettlesBehind Came Rests conn (held_one number old was) p (held new is) q old new
  unfolding settle-told settle-one
  settle-told-behind number moment said kept old new was is p q told behind same =
      (settle-told number moment said kept old new was is p q told behind same, behind ∙ ap (λ outs. old ++ outs) (sym (append-nil kept)))

  -- none went out
  pub settle-none-behind : (had has : ℕ → ℕ) (p : H) (old new : Outs) → ((load : ℕ) → had load ≡ has load) → new ≡ old → SettlesBehind Came Rests conn had p has p old new
  unfolding settle-none
  settle-none-behind had has p old new same kept = (settle-none had has p same, kept ∙ sym (append-nil old))

  -- one more is pending
  pub settle-later : (one : Pending) (outs : Outs) (was now : List Pending) (p : H) → now ≡ was ++ one ∷ [] → SettlesBehind Came Rests conn (held_one one.number outs was) p (held outs now) p outs outs
  settle-later one outs was now p put = settle-none-behind (held_one one.number outs was) (held outs now) p outs outs (λ load. pending-put was now one outs load put) refl

  -- and then others
  pub settle-on-behind : (a b c d had has : ℕ → ℕ) (p m q : H) (old mid new : Outs) → SettlesBehind Came Rests conn a p b m old mid → SettlesBehind Came Rests conn c m d q mid new
      → ((load : ℕ) → had load + b load + d load ≡ has load + a load + c load) → SettlesBehind Came Rests conn had p has q old new
  unfolding settle-on
  settle-on-behind a b c d had has p m q old mid new first second sums = (
    settle-on a b c d had has p m q first.0 second.0 sums,
    second.1 ∙ ap (λ outs. outs ++ kept_among second.0.steps) first.1 ∙ append_assoc old (kept_among first.0.steps) (kept_among second.0.steps)
        ∙ ap (λ outs. old ++ outs) (sym (flat_map-append (λ (step : ℕ × Outs). step.1) first.0.steps second.0.steps)),
  )

  -- what is held may be counted otherwise
  pub settle-as-behind : (a b had has : ℕ → ℕ) (p q : H) (old new : Outs) → SettlesBehind Came Rests conn a p b q old new → ((load : ℕ) → had load + b load ≡ has load + a load) → SettlesBehind Came Rests conn had p has q old new
  unfolding settle-as
  settle-as-behind a b had has p q old new each sums = (settle-as a b had has p q each.0 sums, each.1)

  -- a host settled a load, and gave this
  pub given-settles : (load moment : ℕ) (said : Option Outcome) (given : Given) (p q : H) (outs : Outs) → outs_in given.owed.loads ≡ outs
      → ((key : List ℕ) → (doing : Doing) × SettlesBy load moment (record { key = key; answer = said }) doing × Came conn p (exchange_of doing given) q)
      → SettlesOne Came conn load moment said p outs q
  given-settles load moment said given p q outs went came =
      let one = came [] in
      record {
        exchange = exchange_of one.0 given;
        settling = one.1.settling;
        numbered = one.1.numbered;
        by = ap (λ asking. asking.answer) one.1.of;
        done = one.1.done;
        went = went;
        came = one.2;
      }

  -- it was told to give a load up, and no loads were requested
  pub told-unwanted : (lent : Bool) (load : ℕ) (result : Result Given RunError) (p q : H)
      → IfOk result (λ given. (key : List ℕ) → (doing : Doing) × SettlesBy load 0 (record { key = key; answer = None }) doing × Came conn p (exchange_of doing given) q)
      → IfOk result (SuitsRequest lent false) → OnErr result (Rests p q) → GivesUpOne Came Rests conn load p q
  told-unwanted lent load (Ok given) p q came suits rests = inl (given-settles load 0 None given p q [] (ap outs_in (suits.unwanted refl)) came)
  told-unwanted lent load (Err e) p q came suits rests = inr rests
