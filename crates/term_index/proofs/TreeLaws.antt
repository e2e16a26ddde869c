-- How `tree` ends, and what it prints.
use Rattle.std.proofs.Common.{◌≡◌, inl, inr, ℕ, List, Option, refl, sym, ap}
use Rattle.query_tree.specs.declared.tree.UserInputAst.{UserInputAst}
use Rattle.query_tree.specs.Answer as grammar
use Rattle.query_tree.specs.Answer.{tree_of}
use Rattle.term_index.specs.declared.outcome.Outcome.{Outcome}
use Rattle.term_index.specs.declared.outcome.Outcome.TheVariants.{Done, OutFault, Memory}
use Rattle.term_index.specs.Printing.{tree_line, PrintsText}
use Rattle.term_index.specs.Tree.{shown_end, TreeEnds, IsTreeLine, PrintsTree}
use Rattle.term_index.proofs.GivingLaws.{gives_text}

module _ (query : List ℕ) (tree : UserInputAst) (is : tree_of query ≡ grammar.Tree tree) (old new : Option (List ℕ)) where
  pub printed_ends : (outcome : Outcome) → PrintsText outcome (tree_line tree) old new → TreeEnds query outcome
  printed_ends Done prints = inl (sym (ap shown_end is))
  printed_ends OutFault prints = inr (inl refl)
  printed_ends Memory prints = inr (inr (inl refl))
  printed_ends _ prints = absurd prints

  pub printed_tree : (outcome : Outcome) → PrintsText outcome (tree_line tree) old new → PrintsTree query outcome old new
  printed_tree outcome prints = gives_text (IsTreeLine query) outcome (tree_line tree) old new (record { tree = tree; tree_is = is; text_is = refl }) prints
