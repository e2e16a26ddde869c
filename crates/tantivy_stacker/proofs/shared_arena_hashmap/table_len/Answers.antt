use Rattle.std.proofs.Common.{◌≡◌, ◌+◌, ◌*◌, ◌^◌, ap, ◌∙◌, sym, inl, arith}
use Rattle.std.proofs.Math.Nat.{pow-suc}
use Rattle.std.proofs.Math.Numerals.{add-one}
use Rattle.tantivy_stacker.proofs.shared_arena_hashmap.table_len.Goals as goal

pub loop-len-preserved : goal.loop-len-preserved
loop-len-preserved c =
    let i = c.loop-len.invariant in
    let k = i.0.0 in
    let big = i.2 in
    let is : c.loop-len.len * 2 ≡ 2 ^ (k + 1) = rw add-one (ap (λ n. n * 2) i.0.1 ∙ sym (pow-suc 2 k)) in
    ((k + 1, is, omega arith), inl (omega (arith, c.loop-len-test.true)), omega arith)
