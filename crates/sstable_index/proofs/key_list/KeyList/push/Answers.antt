use Rattle.std.proofs.Common.{◌≡◌, length, subst, arith}
use Rattle.sstable_index.specs.Loaded.{AreKept}
use Rattle.sstable_index.proofs.KeysKept.{last-is, keep-fits, kept-pushed, kept-again, kept-seen}
use Rattle.sstable_index.proofs.key_list.KeyList.push.Goals as goal

pub push_bytes-requires : goal.push_bytes-requires
push_bytes-requires c =
    let is = subst (λ ks. AreKept c.self.inside.bytes.items c.self.inside.starts.items ks) c.self.view_is c.self.invariant in
    keep-fits c.self.inside.bytes.items c.args.self.now _ _ (last-is _ _ _ _ _ _ is c.as_slice.ensures.value (omega (arith, c.len-len.ensures, c.self.inside.bytes.ok.0)) c.last_start-start.ensures) c.requires

pub invariant_of-self-in-Ok : goal.invariant_of-self-in-Ok
invariant_of-self-in-Ok c =
    let is = subst (λ ks. AreKept c.self.inside.bytes.items c.self.inside.starts.items ks) c.self.view_is c.self.invariant in
    let size : c.len-len.result ≡ length c.self.inside.bytes.items = omega (arith, c.len-len.ensures, c.self.inside.bytes.ok.0) in
    kept-again _ _ _ (kept-pushed _ _ _ _ c.args.suffix.now _ _ _ c.args.keep is (last-is _ _ _ _ _ _ is c.as_slice.ensures.value size c.last_start-start.ensures) size c.in_ok-push_bytes.ensures.ok c.in-Ok.ensures.items)

pub returns-in-Ok : goal.returns-in-Ok
returns-in-Ok c =
    let is = subst (λ ks. AreKept c.self.inside.bytes.items c.self.inside.starts.items ks) c.self.view_is c.self.invariant in
    let size : c.len-len.result ≡ length c.self.inside.bytes.items = omega (arith, c.len-len.ensures, c.self.inside.bytes.ok.0) in
    kept-seen _ _ _ (kept-pushed _ _ _ _ c.args.suffix.now _ _ _ c.args.keep is (last-is _ _ _ _ _ _ is c.as_slice.ensures.value size c.last_start-start.ensures) size c.in_ok-push_bytes.ensures.ok c.in-Ok.ensures.items)
