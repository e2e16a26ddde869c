-- What a query is: a tree, refused, or too deep.
use Rattle.std.specs.Prelude.{◌≡◌, ℕ, List, Result, Ok, Err}
use Rattle.query_tree.specs.declared.answer.ParseError.{ParseError}
use Rattle.query_tree.specs.declared.answer.ParseError.TheVariants as errors
use Rattle.std.specs.Str.{chars}
use Rattle.query_tree.specs.declared.tree.UserInputAst.{UserInputAst}
use Rattle.query_tree.specs.Reader.{Outcome, Found, Failed, Deep}
use Rattle.query_tree.specs.Grammar.{query}
use Rattle.query_tree.specs.Rewriting.{rewritten}

pub data Answer : Type 0 where
  Tree : UserInputAst → Answer
  Refused : Answer
  TooDeep : Answer

abbrev pub answer : Outcome UserInputAst → Answer
answer (Found tree rest) = Tree (rewritten tree)
answer Failed = Refused
answer Deep = TooDeep

-- of the bytes of a text
unfoldable pub tree_of : List ℕ → Answer
tree_of text = answer (query (chars text))

-- What a function returned is this answer, unless memory ran out.
abbrev pub Answers : Result UserInputAst ParseError → Answer → Type 0
Answers (Ok tree) expected = expected ≡ Tree tree
Answers (Err errors.Memory) expected = Unit {0}
Answers (Err (errors.Refused e)) expected = expected ≡ Refused
Answers (Err errors.TooDeep) expected = expected ≡ TooDeep
