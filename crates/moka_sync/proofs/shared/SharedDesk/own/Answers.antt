use Rattle.moka_sync.proofs.shared.SharedDesk.own.Goals as goal

pub returns : goal.returns
returns g c = absurd c.wait_forever.ensures
