use Rattle.std.specs.Prelude.{◌∷◌, []}
use Rattle.std.specs.Str.{chars}
use Rattle.printed_queries.specs.Escapes.{escapes}
use Rattle.printed_queries.specs.declared.print.Place.TheVariants.{Quotes}
use Rattle.printed_queries.proofs.Pushed.{then_piece}
use Rattle.printed_queries.proofs.print.push_text_str.Goals as goal

pub returns : goal.returns
returns c =
    then_piece _ _ _ (34 ∷ escapes Quotes (chars c.args.text.now)) (34 ∷ [])
    (then_piece _ _ _ (34 ∷ []) (escapes Quotes (chars c.args.text.now)) c.in_ok-push_char.ensures c.in_ok-push_escaped.ensures) c.in_ok-push_char-2.ensures
