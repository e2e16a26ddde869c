use Rattle.std.proofs.Common.{◌≡◌, ℕ, List, Some, ap, sym, ◌∙◌, arith}
use Rattle.sstable_format.specs.Meta.{Meta}
use Rattle.sstable_format.specs.Store.{start_of}
use Rattle.block_addresses.specs.Found.{number_of}
use Rattle.block_addresses.specs.Opened.{passing, fits_u64}
use Rattle.block_addresses.proofs.Passing.{passing-found, start-first, start-later}
use Rattle.block_addresses.proofs.meta.BlockAddrBlockMetadata.start.Goals as goal

pub returns-then-j-eq0 : goal.returns-then-j-eq0
returns-then-j-eq0 c =
    c.found.ensures
    ∙ ap (passing fits_u64) (ap (λ (m : Meta). Some m.range_start) c.self.view_is ∙ sym (start-first c.args.self.now c.args.part.now c.args.j c.if-j-eq0.true))

pub returns : goal.returns
returns c =
    let m : Meta = c.args.self.now in
    let part : List ℕ = c.args.part.now in
    let j = c.args.j in
    let i = c.self.inside in
    let is : number_of i.range.slope i.range.bits i.range_start j c.place.result part ≡ start_of m part j =
    ap (λ (n : Meta). number_of n.range_slope n.range_bits n.range_start j c.place.result part) c.self.view_is
    ∙ ap (λ place. number_of m.range_slope m.range_bits m.range_start j place part) c.place.ensures.exact ∙ start-later m part j (omega arith) in
    passing-found (number_of i.range.slope i.range.bits i.range_start j c.place.result part) c.number_at.result c.number_at.ensures.fits c.number_at.ensures.some c.number_at.ensures.none
    ∙ ap (passing fits_u64) is
