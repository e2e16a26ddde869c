use Rattle.std.specs.Prelude.{◌∷◌, []}
use Rattle.std.specs.Str.{chars}
use Rattle.printed_queries.proofs.Pushed.{then_piece}
use Rattle.printed_queries.proofs.print.push_behind.Goals as goal

pub returns : goal.returns
returns c = then_piece _ _ _ (chars c.args.text.now) (c.args.c ∷ []) c.in_ok-push_plain.ensures c.in_ok-push_char.ensures
