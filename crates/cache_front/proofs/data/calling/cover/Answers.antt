use Rattle.std.proofs.Common.{◌≡◌, true, false, inl}
use Rattle.cache_commands.specs.declared.error.StoreError.TheVariants as refusals
use Rattle.cache_front.proofs.data.Calls.{draws_in_vain, tickets_for_all}
use Rattle.cache_front.proofs.data.calling.cover.Goals as goal

pub returns-in-IdsInUse : goal.returns-in-IdsInUse
returns-in-IdsInUse g c =
    let e = c.in-Err.ensures in record {
      covers = λ is. let no : false ≡ true = is in cc;
      lacks = λ is. (draws_in_vain c.args.front.now _ _ _ e.cause c.in-IdsInUse.is, e.err);
      used_up = λ used. let no : ⊥ = cc in absurd no;
      err = tt;
    }

pub returns-in_default : goal.returns-in_default
returns-in_default g c =
    let e = c.in-Err.ensures in record {
      covers = tt;
      lacks = tt;
      used_up = λ used. let same : c.refusal_of.result ≡ refusals.UsedUp = cc in inl (tickets_for_all c.args.front.now _ _ c.in-Err.error e.cause (c.refusal_of.ensures same));
      err = (e.err, e.undrawn c.in_default.not-IdsInUse);
    }
