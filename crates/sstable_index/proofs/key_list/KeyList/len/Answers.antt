use Rattle.std.proofs.Common.{subst, arith}
use Rattle.sstable_index.specs.Loaded.{AreKept}
use Rattle.sstable_index.proofs.KeysKept.{kept-count}
use Rattle.sstable_index.proofs.key_list.KeyList.len.Goals as goal

pub returns : goal.returns
returns c =
    let is = subst (λ ks. AreKept c.self.inside.bytes.items c.self.inside.starts.items ks) c.self.view_is c.self.invariant in
    omega (arith, c.len.ensures, kept-count _ _ _ is)
