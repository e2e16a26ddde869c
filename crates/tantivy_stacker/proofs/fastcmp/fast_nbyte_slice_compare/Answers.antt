use Rattle.std.proofs.Common.{◌≡◌, ◌+◌, length, take, drop, ap, ◌-◌, arith}
use Rattle.tantivy_stacker.proofs.Halves.{same_end, front_more}
use Rattle.tantivy_stacker.proofs.fastcmp.fast_nbyte_slice_compare.Goals as goal

pub loop-i-preserved : goal.loop-i-preserved
loop-i-preserved g c =
    let xs = c.args.left.now in
    let ys = c.args.right.now in
    let i = c.loop-i.i in
    let cut : i + g.row.SIZE - i ≡ g.row.SIZE = omega arith in
    let part = c.is_same.ensures.0 c.if-not-is_same.false in
    front_more xs ys i g.row.SIZE c.loop-i.invariant (rw cut at part)

pub returns : goal.returns
returns g c =
    let xs = c.args.left.now in
    let ys = c.args.right.now in
    let last = length xs - g.row.SIZE in
    let e = c.is_same-2.ensures in (
      λ t. same_end xs ys c.loop-i.i last c.loop-i-test.false c.loop-i.invariant (e.0 t),
      λ same. e.1 (ap (λ zs. take (length zs - last) (drop last zs)) same),
    )
