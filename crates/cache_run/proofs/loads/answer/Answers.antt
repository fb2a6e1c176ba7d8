use Rattle.std.proofs.Common.{◌≡◌, true, false, refl, inl, inr}
use Rattle.audit_model.specs.declared.input.ServiceError.TheVariants as error
use Rattle.cache_core.specs.Settling.{answering}
use Rattle.cache_spaces.specs.Services.{bare_tape}
use Rattle.cache_spaces.specs.Calls.{Settled}
use Rattle.cache_spaces.proofs.Placing.{refused-here, at-map, at-same, at-unmoved}
use Rattle.cache_run.proofs.Happening.{answer-late, answer-refused, answer-unknown}
use Rattle.cache_run.specs.Lent.{AnswersOr}
use Rattle.cache_run.proofs.Driving.{known-settled, known-unmoved}
use Rattle.cache_run.proofs.loads.answer.Goals as goal

pub returns-in-Ok : goal.returns-in-Ok
returns-in-Ok c = record {
  settled = λ yes. at-map (λ was is. Settled bare_tape was is (answering c.args.load c.args.outcome c.args.moment)) (AnswersOr c.args.load c.args.outcome c.args.moment) _ _ _ c.in-Ok.ensures.taken (λ x y h. inl h);
  refused = λ no. let h : true ≡ false = no in cc;
  known = known-settled _ _ _ _ (answering c.args.load c.args.outcome c.args.moment) c.sound.ensures c.in-Ok.ensures.taken c.requires.known;
  unchanged = tt;
  why = tt;
}

pub returns-in-Moment : goal.returns-in-Moment
returns-in-Moment c =
    let r = c.requires.known in record {
      settled = tt;
      refused = tt;
      known = known-unmoved _ _ _ _ c.in-Err.ensures.unchanged r;
      unchanged = c.in-Err.ensures.unchanged;
      why = answer-late r.space c.args.load c.args.outcome c.args.moment (refused-here _ _ error.Moment _ r.space r.at (rw c.in-Moment.is at c.in-Err.ensures.refused));
    }

pub returns-in-OutOfMemory : goal.returns-in-OutOfMemory
returns-in-OutOfMemory c = record {
  settled = tt;
  refused = tt;
  known = known-unmoved _ _ _ _ c.in-Err.ensures.unchanged c.requires.known;
  unchanged = c.in-Err.ensures.unchanged;
  why = tt;
}

pub returns-in-NoLoad : goal.returns-in-NoLoad
returns-in-NoLoad c =
    let r = c.requires.known in
    let unknown = answer-unknown r.space c.args.load c.args.outcome c.args.moment (refused-here _ _ error.NoLoad _ r.space r.at (rw c.in-NoLoad.is at c.in-Err.ensures.refused)) in record {
      settled = λ yes. at-unmoved _ _ c.in-Err.ensures.unchanged (at-same (AnswersOr c.args.load c.args.outcome c.args.moment) _ _ r.space r.at (inr (refl, unknown)));
      refused = λ no. let h : true ≡ false = no in cc;
      known = known-unmoved _ _ _ _ c.in-Err.ensures.unchanged r;
      unchanged = tt;
      why = tt;
    }

pub returns-in_default : goal.returns-in_default
returns-in_default c =
    let r = c.requires.known in record {
      settled = λ yes. let h : false ≡ true = yes in cc;
      refused = λ no. (
        c.in-Err.ensures.unchanged,
        record { space = r.space; at = r.at; fact = answer-refused r.space c.args.load c.args.outcome c.args.moment _ (refused-here _ _ _ _ r.space r.at c.in-Err.ensures.refused) c.in_default.not-NoLoad c.in_default.not-Moment c.in_default.not-OutOfMemory },
      );
      known = known-unmoved _ _ _ _ c.in-Err.ensures.unchanged r;
      unchanged = tt;
      why = tt;
    }
