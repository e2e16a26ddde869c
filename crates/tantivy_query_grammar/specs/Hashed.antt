-- What two trees feed a hasher.
use Rattle.std.specs.Prelude.{◌≡◌}
use Rattle.query_tree.specs.declared.tree.UserInputAst.{UserInputAst}
use Rattle.query_tree.specs.contracts.tree.UserInputAstHash.TheImpl as hashes

abbrev pub AreHashedAlike : UserInputAst → UserInputAst → Type 0
AreHashedAlike left right = hashes.ghosts.hash_input left ≡ hashes.ghosts.hash_input right
