use Rattle.std.proofs.Common.{◌∙◌, sym}
use Rattle.moka_sync.proofs.Numbering.{desk_alike}
use Rattle.moka_sync.proofs.sharded.«SharedCache+K+V+S+R+E+Sharded».shard.Goals as goal

pub returns-clause-alike : goal.returns-clause-alike
returns-clause-alike g c = λ other same.
    let alike = sym (desk_alike g.S.Hasher.Hasher.finish g.S.Hasher.Hasher.write g.S.BuildHasher.build_hasher g.K.Hash.hash_input c.deref.result.now.spread c.args.key.now other (g.met.K.Hash.respects_eq c.args.key.now other same)) ∙ sym c.number_of.ensures.number in
    cc (alike, c.deref.ensures)
