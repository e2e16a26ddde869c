-- How a text is printed: which of its characters have a backslash in front, and what was written.
use Rattle.std.specs.Prelude.{◌≡◌, ℕ, Bool, List, ◌++◌, encode_utf8_all}
use Rattle.std.specs.List.{flat_map}
use Rattle.query_tree.specs.Characters.{is_special}
use Rattle.query_tree.specs.Printing.{Expression, escaped, needs_backslash, under_and, under_not, printed}
use Rattle.printed_queries.specs.declared.print.Place.{Place}
use Rattle.printed_queries.specs.declared.print.Place.TheVariants.{Field, Quotes}

abbrev pub is_escaped_in : Place → ℕ → Bool
is_escaped_in Field = is_special
is_escaped_in Quotes = needs_backslash

abbrev pub escapes : Place → List ℕ → List ℕ
escapes place text = flat_map (λ c. escaped (is_escaped_in place c) c) text

-- the characters were written behind the bytes that stood there
abbrev pub Writes : List ℕ → List ℕ → List ℕ → Type 0
Writes old new characters = new ≡ old ++ encode_utf8_all characters

-- the text of what stands under an And, and under a Not
abbrev pub printed_under_and : Expression → List ℕ
printed_under_and e = under_and e (printed e)

abbrev pub printed_under_not : Expression → List ℕ
printed_under_not e = under_not e (printed e)

-- the expression's text was written behind them
abbrev pub Prints : List ℕ → List ℕ → Expression → Type 0
Prints old new e = Writes old new (printed e)
