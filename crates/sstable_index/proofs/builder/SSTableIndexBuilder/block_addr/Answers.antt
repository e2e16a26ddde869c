use Rattle.std.proofs.Common.{◌≡◌, ◌+◌, length, ap, subst, ◌∙◌, arith}
use Rattle.std.proofs.lemmas.List.{get_or_read, length-map}
use Rattle.sstable_format.specs.Index.{IndexEntry}
use Rattle.sstable_index.specs.Building.{addresses_in}
use Rattle.sstable_index.specs.Built.{IsBuilt}
use Rattle.sstable_index.proofs.Builds.{same-count}
use Rattle.sstable_index.proofs.Storing.{starts-count}
use Rattle.sstable_index.proofs.Placing.{kept-is}
use Rattle.sstable_index.proofs.builder.SSTableIndexBuilder.block_addr.Goals as goal

pub returns-clause-place : goal.returns-clause-place
returns-clause-place c =
    let is = subst (λ es. IsBuilt c.self.inside.keys.items c.self.inside.key_starts.items c.self.inside.starts.items c.self.inside.ordinals.items es) c.self.view_is c.self.invariant in
    let addresses = addresses_in c.args.self.now in
    let count : length addresses ≡ length c.args.self.now = length-map c.args.self.now (λ (e : IndexEntry). e.1) in
    let counts = same-count _ _ _ _ _ is in
    let starts : length c.self.inside.starts.items ≡ length addresses + 1 = ap length is.ranges ∙ starts-count addresses (omega (arith, count, c.requires)) in
    kept-is addresses c.self.inside.starts.items c.self.inside.ordinals.items c.args.i _ _ _ is.ranges is.positions is.adjoining (omega (arith, count, c.requires))
    (get_or_read c.self.inside.starts.items _ _ (omega (arith, starts, count, c.requires)) c.index-2.ensures 0)
    (get_or_read c.self.inside.starts.items _ _ (omega (arith, starts, count, c.requires)) c.index-3.ensures 0)
    (get_or_read c.self.inside.ordinals.items _ _ (omega (arith, counts.1, c.requires)) c.index.ensures 0)
