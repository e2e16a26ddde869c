use Rattle.std.specs.Prelude.{◌∷◌, []}
use Rattle.std.specs.Str.{chars}
use Rattle.printed_queries.specs.Escapes.{escapes}
use Rattle.printed_queries.specs.declared.print.Place.TheVariants.{Field}
use Rattle.printed_queries.proofs.Pushed.{then_piece}
use Rattle.printed_queries.proofs.print.push_field_str.Goals as goal

pub returns : goal.returns
returns c = then_piece _ _ _ (escapes Field (chars c.args.field.now)) (58 ∷ []) c.in_ok-push_escaped.ensures c.in_ok-push_char.ensures
