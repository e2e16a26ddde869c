-- What is printed.
use Rattle.std.specs.Prelude.{ℕ, List, [], ◌∷◌, ◌++◌, decimal, Option, codes}
use Rattle.std.specs.Io.KnownBytes.{Appends}
use Rattle.owned_bytes.specs.Outside.{AppendsPrefix}
use Rattle.query_tree.specs.declared.tree.UserInputAst.{UserInputAst}
use Rattle.query_tree.specs.Json.{json_text}
use Rattle.term_index.specs.declared.outcome.Outcome.{Outcome}
use Rattle.term_index.specs.declared.outcome.Outcome.TheVariants.{Done, OutFault, Memory}

-- each number in decimal, with a line feed
abbrev pub lines : List ℕ → List ℕ
lines [] = []
lines (n ∷ ns) = decimal n ++ 10 ∷ lines ns

-- the JSON of a tree, with a line feed
abbrev pub tree_line : UserInputAst → List ℕ
tree_line tree = json_text tree ++ codes "\n"

-- The text was appended, or at a fault of the output and for want of memory a prefix of it. No other outcome comes.
abbrev pub PrintsText : Outcome → List ℕ → Option (List ℕ) → Option (List ℕ) → Type 0
PrintsText Done text old new = Appends old new text
PrintsText OutFault text old new = AppendsPrefix old new text
PrintsText Memory text old new = AppendsPrefix old new text
PrintsText _ text old new = ⊥
