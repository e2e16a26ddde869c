use Rattle.std.proofs.Common.{◌+◌, ◌<◌, length, subst, arith}
use Rattle.std.proofs.lemmas.List.{get_or_read}
use Rattle.sstable_index.specs.Built.{IsBuilt}
use Rattle.sstable_index.proofs.KeyPlaces.{end-kept, last-kept}
use Rattle.sstable_index.proofs.builder.SSTableIndexBuilder.key_end.Goals as goal

pub returns-then-i-len : goal.returns-then-i-len
returns-then-i-len c =
    let places = c.self.inside.key_starts.items in
    let is = subst (λ es. IsBuilt c.self.inside.keys.items c.self.inside.key_starts.items c.self.inside.starts.items c.self.inside.ordinals.items es) c.self.view_is c.self.invariant in
    let within : c.args.i + 1 < length places = omega (arith, c.len-len.ensures, c.self.inside.key_starts.ok.0, c.if-i-len.true) in
    end-kept _ _ _ _ _ c.args.i _ is within (get_or_read places _ _ within c.index.ensures 0)

pub returns-else-i-len : goal.returns-else-i-len
returns-else-i-len c =
    let is = subst (λ es. IsBuilt c.self.inside.keys.items c.self.inside.key_starts.items c.self.inside.starts.items c.self.inside.ordinals.items es) c.self.view_is c.self.invariant in
    last-kept _ _ _ _ _ c.args.i _ is (omega (arith, c.len-len.ensures, c.self.inside.key_starts.ok.0, c.if-i-len.false))
    (omega (arith, c.len.ensures, c.self.inside.keys.ok.0))
