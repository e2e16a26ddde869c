use Rattle.std.proofs.Common.{◌-◌, ◌≡◌, length, take}
use Rattle.tantivy_stacker.proofs.fastcmp.fast_nbyte_slice_compare.Given as goal

abbrev pub invariant-loop-i : goal.invariant-loop-i
invariant-loop-i g l = take l.i l.left ≡ take l.i l.right

abbrev pub decreases-loop-i : goal.decreases-loop-i
decreases-loop-i g l = length l.left - l.i
