use Rattle.std.proofs.Common.{◌≡◌, ◌++◌, [], refl, sym, ap, inl, inr, rules}
use Rattle.std.proofs.lemmas.List.{append-nil}
use Rattle.cache_run.proofs.devices.Sending.{same_consumes}
use Rattle.cache_link.proofs.Hearing.{hears-read, hears-same}
use Rattle.cache_link.proofs.Patience.{obtains-consumes, obtains-end}
use Rattle.cache_link.proofs.Serving.{no-both}
use Rattle.cache_link.proofs.link.Link.read.Goals as goal

pub returns-then-not-is_fed-clause-fetched : goal.returns-then-not-is_fed-clause-fetched
returns-then-not-is_fed-clause-fetched g c = record {
  conn = refl;
  taken = refl;
  footing = refl;
  backlog = refl;
  piece = [];
  whole = sym (append-nil c.args.self.now.session.inbox);
  bytes = same_consumes _;
  over = λ done. absurd (no-both _ done c.requires);
}

pub returns-then-self-clause-fetched : goal.returns-then-self-clause-fetched
returns-then-self-clause-fetched g c = record {
  conn = refl;
  taken = refl;
  footing = refl;
  backlog = refl;
  piece = [];
  whole = sym (append-nil c.args.self.now.session.inbox);
  bytes = same_consumes _;
  over = λ done. (search rules, inr (search rules));
}

pub returns-then-eq-clause-fetched : goal.returns-then-eq-clause-fetched
returns-then-eq-clause-fetched g c = record {
  conn = refl;
  taken = refl;
  footing = refl;
  backlog = refl;
  piece = [];
  whole = sym (append-nil c.args.self.now.session.inbox);
  bytes = same_consumes _;
  over = λ done. absurd (no-both _ done c.requires);
}

pub returns-in_default-clause-fetched : goal.returns-in_default-clause-fetched
returns-in_default-clause-fetched g c = record {
  conn = refl;
  taken = refl;
  footing = refl;
  backlog = refl;
  piece = [];
  whole = sym (append-nil c.args.self.now.session.inbox);
  bytes = same_consumes _;
  over = λ done. absurd (no-both _ done c.requires);
}

pub returns-in_err-self-clause-fetched : goal.returns-in_err-self-clause-fetched
returns-in_err-self-clause-fetched g c =
    let none : c.args.self.now.session.inbox ≡ [] = search rules in
    record {
      conn = refl;
      taken = refl;
      footing = refl;
      backlog = refl;
      piece = c.fill-filled.new.inbox;
      whole = ap (λ z. z ++ c.fill-filled.new.inbox) (sym none);
      bytes = obtains-consumes _ _ _ c.fill-filled.result c.fill-filled.ensures.bytes;
      over = λ done. absurd (no-both _ done c.requires);
    }

pub returns-clause-fetched : goal.returns-clause-fetched
returns-clause-fetched g c =
    let none : c.args.self.now.session.inbox ≡ [] = search rules in
    record {
      conn = refl;
      taken = refl;
      footing = refl;
      backlog = refl;
      piece = c.fill-filled.new.inbox;
      whole = ap (λ z. z ++ c.fill-filled.new.inbox) (sym none);
      bytes = obtains-consumes _ _ _ c.fill-filled.result c.fill-filled.ensures.bytes;
      over = λ done.
          let end = obtains-end _ _ _ c.fill-filled.result c.fill-filled.ensures.bytes (c.in_ok-self.ensures.ends.0 done) in (end.0, inl end.1);
    }

pub returns-then-not-is_fed-clause-hears : goal.returns-then-not-is_fed-clause-hears
returns-then-not-is_fed-clause-hears g c = hears-same _ _ _ _ _ refl

pub returns-then-self-clause-hears : goal.returns-then-self-clause-hears
returns-then-self-clause-hears g c = hears-same _ _ _ _ _ refl

pub returns-then-eq-clause-hears : goal.returns-then-eq-clause-hears
returns-then-eq-clause-hears g c = hears-same _ _ _ _ _ refl

pub returns-in_default-clause-hears : goal.returns-in_default-clause-hears
returns-in_default-clause-hears g c = hears-same _ _ _ _ _ refl

pub returns-in_err-self-clause-hears : goal.returns-in_err-self-clause-hears
returns-in_err-self-clause-hears g c = hears-read _ _ _ _ _ c.fill-filled.result c.fill-filled.new.inbox c.note_read.ensures.hears c.fill-filled.ensures.waits c.fill-filled.ensures.bytes

pub returns-clause-hears : goal.returns-clause-hears
returns-clause-hears g c = hears-read _ _ _ _ _ c.fill-filled.result c.fill-filled.new.inbox c.note_read.ensures.hears c.fill-filled.ensures.waits c.fill-filled.ensures.bytes
