use Rattle.front_parts.specs.Access.Entries.{seen_entry}
use Rattle.moka_sync.proofs.Keyed.{put-of_key}
use Rattle.moka_sync.proofs.Resting.{does-of}
use Rattle.front_parts.specs.Places.Calls.{ways_by}
use Rattle.moka_sync.proofs.selecting.SharedSelector.and_upsert_with.Goals as goal

pub returns-in-Ok-clause-puts : goal.returns-in-Ok-clause-puts
returns-in-Ok-clause-puts g c =
    let ways = ways_by g.R.Rules g.K.PartialEq.eq g.K.Hash.hash_input g.S.BuildHasher g.S.Hasher.Hasher in
    let owner = c.entry.ensures.owner in
    let key = c.entry.ensures.key in
    put-of_key ways _ _ _ _ _ c.args.self.key key (λ does done h. does-of ways (cc (owner, key, c.in_ok-attached.ensures.same)) key does done h) (λ key seen value. g.M.FnOnce.post c.args.make (seen_entry key seen, tt) value) _ c.in-Ok.ensures.puts
