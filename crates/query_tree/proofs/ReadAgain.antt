-- What was printed is read again.
use Rattle.std.proofs.Common.{◌≡◌, refl, ℕ, Bool, true, false, ◌||◌, ◌==◌, zero, suc, ◌≤◌, List, [], ◌∷◌, ◌++◌, length, arith, append_assoc}
use Rattle.std.specs.Prelude.{encode_utf8, encode_utf8_all}
use Rattle.query_tree.specs.Characters.{double_quote, backslash}
use Rattle.query_tree.specs.Reader.{Found, one, joined_up_to}
use Rattle.query_tree.specs.Grammar.{quoted_piece}
use Rattle.query_tree.specs.Printing.{needs_backslash, inside_quotes, escaped}

-- one character, printed, is one piece
piece_again : (c : ℕ) (rest : List ℕ) → quoted_piece double_quote (escaped (needs_backslash c) c ++ rest) ≡ Found (encode_utf8 c) rest
unfolding one
piece_again c rest =
    let by_quote : (q b : Bool) → c == double_quote ≡ q → c == backslash ≡ b → quoted_piece double_quote (escaped (q || b) c ++ rest) ≡ Found (encode_utf8 c) rest =
    λ q b. elim q as (λ v. c == double_quote ≡ v → c == backslash ≡ b → quoted_piece double_quote (escaped (v || b) c ++ rest) ≡ Found (encode_utf8 c) rest) [
      | true ↦ λ e f. refl
      | false ↦ elim b as (λ w. c == double_quote ≡ false → c == backslash ≡ w → quoted_piece double_quote (escaped w c ++ rest) ≡ Found (encode_utf8 c) rest) [
        | true ↦ λ e f. refl
        | false ↦ λ e f. rw (f, e)
      ]
    ]
    in by_quote (c == double_quote) (c == backslash) refl refl

-- a text in quotes, whatever follows the second quote
pub quoted_again : (n : ℕ) (text rest : List ℕ) → length text ≤ n → joined_up_to n (quoted_piece double_quote) (inside_quotes text ++ double_quote ∷ rest) ≡ Found (encode_utf8_all text) (double_quote ∷ rest)
unfolding joined_up_to one
quoted_again zero [] rest h = refl
quoted_again (suc n) [] rest h = refl
quoted_again zero (c ∷ cs) rest h = absurd (omega arith)
quoted_again (suc n) (c ∷ cs) rest h =
    let again : joined_up_to n (quoted_piece double_quote) (inside_quotes cs ++ double_quote ∷ rest) ≡ Found (encode_utf8_all cs) (double_quote ∷ rest) = quoted_again n cs rest (omega arith) in
    let first = piece_again c (inside_quotes cs ++ double_quote ∷ rest) in
    rw (append_assoc (escaped (needs_backslash c) c) (inside_quotes cs) (double_quote ∷ rest), first, again)
