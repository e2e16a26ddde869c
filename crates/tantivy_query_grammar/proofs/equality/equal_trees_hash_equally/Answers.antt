use Rattle.std.proofs.Common.{◌∙◌, sym, ap}
use Rattle.query_tree.specs.contracts.tree.UserInputAstHash.TheImpl as hashes
use Rattle.query_tree.proofs.Equality.{same_tree-Decides}
use Rattle.query_tree.proofs.Derived.{tree_eq}
use Rattle.tantivy_query_grammar.proofs.equality.equal_trees_hash_equally.Goals as goal

pub returns : goal.returns
returns c = λ h. ap hashes.ghosts.hash_input ((same_tree-Decides c.args._left.now c.args._right.now).0 (sym (tree_eq c.args._left.now c.args._right.now) ∙ h))
