-- The command `tree`: how it ends, and what it prints.
use Rattle.std.specs.Prelude.{◌≡◌, ℕ, List, [], ◌∷◌, Option}
use Rattle.query_tree.specs.declared.tree.UserInputAst.{UserInputAst}
use Rattle.query_tree.specs.Answer as grammar
use Rattle.query_tree.specs.Answer.{tree_of}
use Rattle.term_index.specs.declared.outcome.Outcome.{Outcome}
use Rattle.term_index.specs.declared.outcome.Outcome.TheVariants.{Done, Query, TooDeep, OutFault, Memory}
use Rattle.term_index.specs.Outcomes.{IsAmong}
use Rattle.term_index.specs.Giving.{Gives}
use Rattle.term_index.specs.Printing.{tree_line}

abbrev pub shown_end : grammar.Answer → Outcome
shown_end (grammar.Tree tree) = Done
shown_end grammar.Refused = Query
shown_end grammar.TooDeep = TooDeep

-- It ends by the query, but for a fault or want of memory.
abbrev pub TreeEnds : List ℕ → Outcome → Type 0
TreeEnds query outcome = IsAmong (shown_end (tree_of query) ∷ OutFault ∷ Memory ∷ []) outcome

-- the text is the line of the query's tree
pub record IsTreeLine (query text : List ℕ) : Type 0 where
  pub tree : UserInputAst
  pub tree_is : tree_of query ≡ grammar.Tree tree
  pub text_is : text ≡ tree_line tree

abbrev pub PrintsTree : List ℕ → Outcome → Option (List ℕ) → Option (List ℕ) → Type 0
PrintsTree query outcome old new = Gives (IsTreeLine query) OutFault outcome old new
