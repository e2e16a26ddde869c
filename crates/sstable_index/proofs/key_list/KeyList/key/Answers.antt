use Rattle.std.proofs.Common.{◌-◌, ◌<◌, length, take, drop, ap, subst, ◌∙◌, arith}
use Rattle.std.proofs.lemmas.List.{get_or_read}
use Rattle.sstable_index.specs.Loaded.{AreKept}
use Rattle.sstable_index.proofs.KeysKept.{kept-count, start-is, ordered-is, inside-is, key-is}
use Rattle.sstable_index.proofs.key_list.KeyList.key.Goals as goal

pub index-requires : goal.index-requires
index-requires c =
    let is = subst (λ ks. AreKept c.self.inside.bytes.items c.self.inside.starts.items ks) c.self.view_is c.self.invariant in
    omega (arith, kept-count _ _ _ is, c.requires, c.self.inside.starts.ok.0)

pub cut-requires-clause-ordered : goal.cut-requires-clause-ordered
cut-requires-clause-ordered c =
    let is = subst (λ ks. AreKept c.self.inside.bytes.items c.self.inside.starts.items ks) c.self.view_is c.self.invariant in
    let within : c.args.i < length c.self.inside.starts.items = omega (arith, kept-count _ _ _ is, c.requires) in
    ordered-is c.args.self.now c.args.i _ _ c.requires (start-is _ _ _ c.args.i _ is c.requires (get_or_read c.self.inside.starts.items _ _ within c.index.ensures 0)) c.end.ensures

pub cut-requires-clause-within : goal.cut-requires-clause-within
cut-requires-clause-within c =
    let is = subst (λ ks. AreKept c.self.inside.bytes.items c.self.inside.starts.items ks) c.self.view_is c.self.invariant in
    let within = inside-is _ _ _ c.args.i _ is c.end.ensures in
    omega (arith, within, ap length c.as_slice.ensures.value)

pub returns : goal.returns
returns c =
    let is = subst (λ ks. AreKept c.self.inside.bytes.items c.self.inside.starts.items ks) c.self.view_is c.self.invariant in
    let within : c.args.i < length c.self.inside.starts.items = omega (arith, kept-count _ _ _ is, c.requires) in
    c.cut.ensures ∙ ap (λ bytes. take (c.end.result - c.index.result.now) (drop c.index.result.now bytes)) c.as_slice.ensures.value
    ∙ key-is _ _ _ c.args.i _ _ is c.requires (start-is _ _ _ c.args.i _ is c.requires (get_or_read c.self.inside.starts.items _ _ within c.index.ensures 0)) c.end.ensures
