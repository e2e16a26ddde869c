-- How many bytes a reader before the first entry has left.
use Rattle.std.proofs.Common.{◌≡◌, ℕ, List, length, ap, arith}
use Rattle.sstable_values.specs.Codec.{Codec}
use Rattle.sstable_blocks.specs.BlockReader.{before_bytes, bytes_in}
use Rattle.sstable_blocks.specs.Slices.{Sliced, Begins, bytes_left}

pub bytes_left-begin : {V : Type 0} (codec : Codec V) (stands : Sliced V) (bytes : List ℕ) (start : ℕ) → Begins codec stands (before_bytes bytes start) → bytes_left stands ≡ length bytes
bytes_left-begin codec stands bytes start b =
    let deltas : length stands.walk.deltas ≡ 0 = ap length b.fresh.no_delta in
    let rest : length stands.walk.rest ≡ length bytes = ap length b.fresh.bytes in
    let more : bytes_in stands.more ≡ 0 = ap bytes_in b.slices in
    omega (arith, deltas, rest, more)
