-- A reader of contracts may skip this file: a part of told bytes is as long as it should be.
use Rattle.std.proofs.Common.{ℕ, ◌-◌, ◌≤◌, List, drop, Option, Some, None, arith, length-take-le, length-drop}
use Rattle.owned_bytes.specs.Outside.{HasLength}
use Rattle.common_wire.specs.Slices.{part_told}

pub part_told-length : (start end size : ℕ) (told : Option (List ℕ)) → start ≤ end → end ≤ size → HasLength told size → HasLength (part_told start end told) (end - start)
part_told-length start end size None ordered within long = tt
part_told-length start end size (Some bytes) ordered within long =
    length-take-le (end - start) (drop start bytes) (omega (arith, length-drop start bytes, long))
