use Rattle.std.proofs.Common.{length, take, drop, ap, ◌-◌}
use Rattle.tantivy_stacker.proofs.Halves.{same_ends}
use Rattle.tantivy_stacker.proofs.fastcmp.double_check_trick.Goals as goal

pub returns-then-is_same : goal.returns-then-is_same
returns-then-is_same g c =
    let xs = c.args.left.now in
    let ys = c.args.right.now in
    let last = length xs - g.row.SIZE in
    let e = c.is_same-then-is_same.ensures in (
      λ t. same_ends xs ys g.row.SIZE c.requires.same_len c.requires.at_least c.requires.at_most (c.is_same.ensures.0 c.if-is_same.true) (e.0 t),
      λ same. e.1 (ap (λ zs. take (length zs - last) (drop last zs)) same),
    )
