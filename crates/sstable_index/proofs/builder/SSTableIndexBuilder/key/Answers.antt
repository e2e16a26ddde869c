use Rattle.std.proofs.Common.{◌-◌, ◌<◌, length, take, drop, ap, subst, ◌∙◌, arith}
use Rattle.std.proofs.lemmas.List.{get_or_read}
use Rattle.sstable_index.specs.Built.{IsBuilt}
use Rattle.sstable_index.proofs.Builds.{same-count}
use Rattle.sstable_index.proofs.KeyPlaces.{start-kept, ordered, inside, key-kept}
use Rattle.sstable_index.proofs.builder.SSTableIndexBuilder.key.Goals as goal

pub index-requires : goal.index-requires
index-requires c =
    let is = subst (λ es. IsBuilt c.self.inside.keys.items c.self.inside.key_starts.items c.self.inside.starts.items c.self.inside.ordinals.items es) c.self.view_is c.self.invariant in
    let count = same-count _ _ _ _ _ is in
    omega (arith, count.0, c.requires, c.self.inside.key_starts.ok.0)

pub cut-requires-clause-ordered : goal.cut-requires-clause-ordered
cut-requires-clause-ordered c =
    let is = subst (λ es. IsBuilt c.self.inside.keys.items c.self.inside.key_starts.items c.self.inside.starts.items c.self.inside.ordinals.items es) c.self.view_is c.self.invariant in
    let count = same-count _ _ _ _ _ is in
    let within : c.args.i < length c.self.inside.key_starts.items = omega (arith, count.0, c.requires) in
    ordered c.args.self.now c.args.i _ _ c.requires (start-kept _ _ _ _ _ c.args.i _ is c.requires (get_or_read c.self.inside.key_starts.items _ _ within c.index.ensures 0)) c.key_end.ensures

pub cut-requires-clause-within : goal.cut-requires-clause-within
cut-requires-clause-within c =
    let is = subst (λ es. IsBuilt c.self.inside.keys.items c.self.inside.key_starts.items c.self.inside.starts.items c.self.inside.ordinals.items es) c.self.view_is c.self.invariant in
    let within = inside _ _ _ _ _ c.args.i _ is c.key_end.ensures in
    omega (arith, within, ap length c.as_slice.ensures.value)

pub returns : goal.returns
returns c =
    let is = subst (λ es. IsBuilt c.self.inside.keys.items c.self.inside.key_starts.items c.self.inside.starts.items c.self.inside.ordinals.items es) c.self.view_is c.self.invariant in
    let count = same-count _ _ _ _ _ is in
    let within : c.args.i < length c.self.inside.key_starts.items = omega (arith, count.0, c.requires) in
    c.cut.ensures ∙ ap (λ bytes. take (c.key_end.result - c.index.result.now) (drop c.index.result.now bytes)) c.as_slice.ensures.value
    ∙ key-kept _ _ _ _ _ c.args.i _ _ is c.requires (start-kept _ _ _ _ _ c.args.i _ is c.requires (get_or_read c.self.inside.key_starts.items _ _ within c.index.ensures 0)) c.key_end.ensures
