use Rattle.std.proofs.Common.{ap, sym, ◌∙◌, arith}
use Rattle.owned_bytes.proofs.Pieces.{rest_is}
use Rattle.block_addresses.specs.Opened.{tells_after}
use Rattle.block_addresses.proofs.Opening.{tells-end}
use Rattle.block_addresses.proofs.store.tells_addresses.Goals as goal

pub metas-preserved : goal.metas-preserved
metas-preserved c =
    ap (λ bytes. tells_after c.in-Some.last bytes c.args.packed.now) (rest_is 36 c.metas.rest.now) ∙ sym c.in-Some.ensures.next ∙ c.metas.invariant

pub returns : goal.returns
returns c = sym (tells-end c.metas.ordinal c.metas.rest.now c.args.packed.now (grind arith)) ∙ c.metas.invariant
