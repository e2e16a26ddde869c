use Rattle.std.proofs.Common.{refl}
use Rattle.block_addresses.proofs.Metas.{meta_at-read}
use Rattle.block_addresses.proofs.meta.BlockAddrBlockMetadata.read.Goals as goal

pub returns : goal.returns
returns c =
    meta_at-read c.args.bytes.now c.u64_at.result c.u64_at-2.result c.u64_at-3.result c.u32_at.result c.u32_at-2.result _ _ c.u16_at.result c.requires
    c.u64_at.ensures c.u64_at-2.ensures c.u64_at-3.ensures c.u32_at.ensures c.u32_at-2.ensures refl refl c.u16_at.ensures
