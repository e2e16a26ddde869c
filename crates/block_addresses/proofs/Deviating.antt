-- A number near a line is stored as its deviation, and read again.
use Rattle.std.proofs.Common.{◌≡◌, ℕ, ◌+◌, ◌-◌, ◌*◌, ◌^◌, ◌<◌, ◌≤◌, Some, ap, ◌∙◌, arith}
use Rattle.std.proofs.lemmas.Bool.{le-leb}
use Rattle.std.proofs.lemmas.Nat.{pow-add}
use Rattle.owned_bytes.specs.Front.{◌>>=◌, provided}
use Rattle.sstable_format.specs.Store.{deviated}
use Rattle.block_addresses.specs.Lines.{Pair, Line, IsNear, stored}

-- the number that is stored has so many bits
pub stored-fits : (line : Line) (pair : Pair) → IsNear line pair → stored line pair < 2 ^ line.bits
stored-fits line pair near =
    let half : ℕ = 2 ^ (line.bits - 1) in
    let twice : 2 ^ (line.bits - 1 + 1) ≡ half * 2 = pow-add 2 (line.bits - 1) 1 in
    let whole : line.bits - 1 + 1 ≡ line.bits = omega (arith, near.some) in
    let bound : stored line pair < 2 ^ (line.bits - 1 + 1) = omega (arith, near.near, twice) in
    rw whole at bound

-- what is stored stands for the number, counted from a base on
pub deviated-stored : (line : Line) (pair : Pair) (base : ℕ) → IsNear line pair → deviated (base + line.slope * pair.0) line.bits (stored line pair) ≡ Some (base + pair.1)
deviated-stored line pair base near =
    let half : ℕ = 2 ^ (line.bits - 1) in
    let point : ℕ = base + line.slope * pair.0 in
    let enough : half ≤ point + stored line pair = omega (arith, near.near) in
    ap (λ t. provided t >>= (λ _. Some (point + stored line pair - half))) (le-leb half (point + stored line pair) enough) ∙ ap (λ n. Some n) (omega (arith, near.near))
