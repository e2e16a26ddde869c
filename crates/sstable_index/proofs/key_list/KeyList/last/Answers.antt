use Rattle.std.proofs.Common.{◌≡◌, ◌-◌, ◌≤◌, length, take, drop, ap, subst, ◌∙◌, arith}
use Rattle.owned_bytes.proofs.Pieces.{rest_is}
use Rattle.sstable_index.specs.Loaded.{AreKept}
use Rattle.sstable_index.proofs.KeysKept.{last-is}
use Rattle.sstable_index.proofs.key_list.KeyList.last.Goals as goal

pub cut-requires-clause-ordered : goal.cut-requires-clause-ordered
cut-requires-clause-ordered c =
    let is = subst (λ ks. AreKept c.self.inside.bytes.items c.self.inside.starts.items ks) c.self.view_is c.self.invariant in
    let size : c.len-len.result ≡ length c.self.inside.bytes.items = omega (arith, c.len-len.ensures, c.self.inside.bytes.ok.0) in
    let last = last-is _ _ _ _ _ _ is c.as_slice.ensures.value size c.last_start-start.ensures in
    omega (arith, last.0, size)

pub returns : goal.returns
returns c =
    let is = subst (λ ks. AreKept c.self.inside.bytes.items c.self.inside.starts.items ks) c.self.view_is c.self.invariant in
    let size : c.len-len.result ≡ length c.self.inside.bytes.items = omega (arith, c.len-len.ensures, c.self.inside.bytes.ok.0) in
    let last = last-is _ _ _ _ _ _ is c.as_slice.ensures.value size c.last_start-start.ensures in
    c.cut.ensures ∙ ap (λ bytes. take (c.len-len.result - c.last_start-start.result) (drop c.last_start-start.result bytes)) c.as_slice-2.ensures.value
    ∙ ap (λ n. take (n - c.last_start-start.result) (drop c.last_start-start.result c.self.inside.bytes.items)) size ∙ rest_is c.last_start-start.result c.self.inside.bytes.items ∙ last.1
