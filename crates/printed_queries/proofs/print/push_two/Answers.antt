use Rattle.std.specs.Prelude.{◌∷◌, []}
use Rattle.printed_queries.proofs.Pushed.{then_piece}
use Rattle.printed_queries.proofs.print.push_two.Goals as goal

pub returns : goal.returns
returns c = then_piece _ _ _ (c.args.first ∷ []) (c.args.second ∷ []) c.in_ok-push_char.ensures c.in_ok-push_char-2.ensures
