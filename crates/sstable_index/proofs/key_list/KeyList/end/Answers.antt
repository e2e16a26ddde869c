use Rattle.std.proofs.Common.{◌+◌, ◌<◌, length, subst, arith}
use Rattle.std.proofs.lemmas.List.{get_or_read}
use Rattle.sstable_index.specs.Loaded.{AreKept}
use Rattle.sstable_index.proofs.KeysKept.{kept-count, end-is, last_end-is}
use Rattle.sstable_index.proofs.key_list.KeyList.end.Goals as goal

pub overflow_add-i : goal.overflow_add-i
overflow_add-i c =
    let is = subst (λ ks. AreKept c.self.inside.bytes.items c.self.inside.starts.items ks) c.self.view_is c.self.invariant in
    omega (arith, c.requires, kept-count _ _ _ is, c.len-len.ensures, c.self.inside.starts.ok.0, c.len-len.type_inv)

pub returns-then-i-len : goal.returns-then-i-len
returns-then-i-len c =
    let is = subst (λ ks. AreKept c.self.inside.bytes.items c.self.inside.starts.items ks) c.self.view_is c.self.invariant in
    let within : c.args.i + 1 < length c.self.inside.starts.items = omega (arith, c.len-len.ensures, c.self.inside.starts.ok.0, c.if-i-len.true) in
    end-is _ _ _ c.args.i _ is within (get_or_read c.self.inside.starts.items _ _ within c.index.ensures 0)

pub returns-else-i-len : goal.returns-else-i-len
returns-else-i-len c =
    let is = subst (λ ks. AreKept c.self.inside.bytes.items c.self.inside.starts.items ks) c.self.view_is c.self.invariant in
    last_end-is _ _ _ c.args.i _ is (omega (arith, c.len-len.ensures, c.self.inside.starts.ok.0, c.if-i-len.false))
    (omega (arith, c.len.ensures, c.self.inside.bytes.ok.0))
