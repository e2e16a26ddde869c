use Rattle.std.proofs.Common.{◌≡◌, ◌+◌, ℕ, List, Some, ap, sym, ◌∙◌, arith}
use Rattle.sstable_format.specs.Meta.{Meta}
use Rattle.sstable_format.specs.Store.{ordinal_of, stored_place}
use Rattle.block_addresses.specs.Found.{number_of}
use Rattle.block_addresses.specs.Opened.{passing, fits_u64}
use Rattle.block_addresses.proofs.Passing.{passing-found, ordinal-first, ordinal-later}
use Rattle.block_addresses.proofs.meta.BlockAddrBlockMetadata.ordinal.Goals as goal

pub returns-then-j-eq0 : goal.returns-then-j-eq0
returns-then-j-eq0 c =
    c.found.ensures
    ∙ ap (passing fits_u64) (ap (λ (m : Meta). Some m.first_ordinal) c.self.view_is ∙ sym (ordinal-first c.args.self.now c.args.part.now c.args.j c.if-j-eq0.true))

pub returns : goal.returns
returns c =
    let m : Meta = c.args.self.now in
    let part : List ℕ = c.args.part.now in
    let j = c.args.j in
    let i = c.self.inside in
    let is : number_of i.ordinal.slope i.ordinal.bits i.first_ordinal j (c.place.result + i.range.bits) part ≡ ordinal_of m part j =
    ap (λ (n : Meta). number_of n.ordinal_slope n.ordinal_bits n.first_ordinal j (c.place.result + i.range.bits) part) c.self.view_is
    ∙ ap (λ place. number_of m.ordinal_slope m.ordinal_bits m.first_ordinal j place part) (ap (λ p. p + i.range.bits) c.place.ensures.exact ∙ ap (λ (n : Meta). stored_place m j + n.range_bits) c.self.view_is) ∙ ordinal-later m part j (omega arith) in
    passing-found (number_of i.ordinal.slope i.ordinal.bits i.first_ordinal j (c.place.result + i.range.bits) part) c.number_at.result c.number_at.ensures.fits c.number_at.ensures.some c.number_at.ensures.none
    ∙ ap (passing fits_u64) is
