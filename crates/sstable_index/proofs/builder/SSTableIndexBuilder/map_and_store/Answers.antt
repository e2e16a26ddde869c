use Rattle.std.proofs.Common.{subst, ◌∙◌, arith}
use Rattle.std.proofs.lemmas.List.{length-map}
use Rattle.sstable_format.specs.Index.{IndexEntry}
use Rattle.sstable_index.specs.Building.{addresses_in}
use Rattle.sstable_index.specs.Built.{IsBuilt}
use Rattle.sstable_index.proofs.Storing.{same-blocks, storable, stored-again}
use Rattle.sstable_index.proofs.builder.SSTableIndexBuilder.map_and_store.Goals as goal

pub write_store-requires : goal.write_store-requires
write_store-requires c =
    let is = subst (λ es. IsBuilt c.self.inside.keys.items c.self.inside.key_starts.items c.self.inside.starts.items c.self.inside.ordinals.items es) c.self.view_is c.self.invariant in
    let starts = c.as_slice.ensures.value ∙ is.ranges in
    let ordinals = c.as_slice-2.ensures.value ∙ is.positions in
    let same = same-blocks (addresses_in c.args.self.now) _ _ starts ordinals in
    storable _ (addresses_in c.args.self.now)
    same
    (omega (arith, c.requires, length-map c.args.self.now (λ (e : IndexEntry). e.1))) is.adjoining

pub returns-clause-again : goal.returns-clause-again
returns-clause-again c =
    let is = subst (λ es. IsBuilt c.self.inside.keys.items c.self.inside.key_starts.items c.self.inside.starts.items c.self.inside.ordinals.items es) c.self.view_is c.self.invariant in
    let starts = c.as_slice.ensures.value ∙ is.ranges in
    let ordinals = c.as_slice-2.ensures.value ∙ is.positions in
    let same = same-blocks (addresses_in c.args.self.now) _ _ starts ordinals in
    stored-again _ (addresses_in c.args.self.now)
    same is.adjoining c.in_ok-write_store.ensures.again
