use Rattle.std.proofs.Common.{◌∙◌, sym}
use Rattle.query_tree.proofs.Equality.{same_tree-Decides}
use Rattle.query_tree.proofs.Derived.{tree_eq}
use Rattle.tantivy_query_grammar.proofs.equality.are_equal.Goals as goal

pub returns : goal.returns
returns c = (
  λ h. (same_tree-Decides c.args.left.now c.args.right.now).0 (sym (tree_eq c.args.left.now c.args.right.now) ∙ sym c.eq.ensures ∙ h),
  λ e. c.eq.ensures ∙ tree_eq c.args.left.now c.args.right.now ∙ (same_tree-Decides c.args.left.now c.args.right.now).1 e,
)
