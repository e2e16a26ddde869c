-- What each sign makes of the bound behind it.
use Rattle.std.specs.Prelude.{ℕ, List}
use Rattle.query_tree.specs.declared.tree.UserInputLeaf.{UserInputLeaf}
use Rattle.query_tree.specs.Grammar.{at_least, at_most, below, above}
use Rattle.tantivy_query_grammar.specs.declared.leaves.Comparison.{Comparison}
use Rattle.tantivy_query_grammar.specs.declared.leaves.Comparison.TheVariants.{AtLeast, AtMost, Below, Above}

abbrev pub compared : Comparison → List ℕ → UserInputLeaf
compared AtLeast = at_least
compared AtMost = at_most
compared Below = below
compared Above = above
