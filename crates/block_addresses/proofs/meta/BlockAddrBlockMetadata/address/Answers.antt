use Rattle.std.proofs.Common.{◌+◌, ℕ, List, Option, Some, ap, sym, ◌∙◌}
use Rattle.sstable_format.specs.Meta.{Meta}
use Rattle.sstable_format.specs.Store.{start_of, ordinal_of}
use Rattle.block_addresses.specs.Opened.{passing, fits_u64}
use Rattle.block_addresses.proofs.Passing.{address_from, address-passing}
use Rattle.block_addresses.proofs.meta.BlockAddrBlockMetadata.address.Goals as goal

pub returns : goal.returns
returns c =
    let m : Meta = c.args.self.now in
    let part : List ℕ = c.args.part.now in
    let j = c.args.j in
    let b : Option ℕ = Some c.in_ok-end.end in
    let n : Option ℕ = Some c.in_ok-first_ordinal.first_ordinal in
    let start : Option ℕ = passing fits_u64 (start_of m part j) in
    let end : Option ℕ = passing fits_u64 (start_of m part (j + 1)) in
    ap (λ o. address_from o b n) c.in_ok-start.ensures ∙ ap (λ o. address_from start o n) c.in_ok-end.ensures ∙ ap (λ o. address_from start end o) c.in_ok-first_ordinal.ensures
    ∙ sym (address-passing (start_of m part j) (start_of m part (j + 1)) (ordinal_of m part j))
