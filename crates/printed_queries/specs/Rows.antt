-- Worked rows: expressions and their texts, and which of them are plain.
use Rattle.std.specs.Prelude.{◌≡◌, true, false, [], ◌∷◌, codes}
use Rattle.query_tree.specs.Printing.{Expression, Term, Prefix, Range, Set, Exists, Not, And, Or, Exclusive, Unbounded, printed, depth}
use Rattle.printed_queries.specs.Meaning.{is_plain, is_plain_word}

-- a or b, but no word that begins with c
abbrev pub without_c : Expression
without_c = And (Or (Term (codes "f") (codes "a")) (Term (codes "f") (codes "b"))) (Not (Prefix (codes "f") (codes "c")))

-- no document that has a, a field g, and more
abbrev pub not_nested : Expression
not_nested = Not (And (Term (codes "f") (codes "a")) (And (Exists (codes "g")) (Not (Not (Term (codes "f") [])))))

pub record PrintedRows : Type 0 where
  pub joined : printed without_c ≡ codes "(f:\"a\" OR f:\"b\") AND NOT f:\"c\"*"
  pub nested : printed not_nested ≡ codes "NOT (f:\"a\" AND g:* AND NOT NOT f:\"\")"
  pub escapes : printed (Term (codes "a b") (codes "x\"y")) ≡ codes "a\\ b:\"x\\\"y\""
  pub range : printed (Range (codes "f") (Exclusive (codes "a")) Unbounded) ≡ codes "f:{a TO *]"
  pub set : printed (Set (codes "f") (codes "a" ∷ codes "b" ∷ [])) ≡ codes "f:IN [\"a\" \"b\"]"

pub record DepthRows : Type 0 where
  pub joined : depth without_c ≡ 1
  pub nots : depth (Not (Or (Term (codes "f") []) (Not (Term (codes "f") [])))) ≡ 3

-- `NOT` may be a field; `*` may not be a bound, nor what begins with a minus and a digit and is no number
pub record PlainRows : Type 0 where
  pub no_field : is_plain (Exists []) ≡ false
  pub minus_field : is_plain (Exists (codes "-f")) ≡ false
  pub tab_field : is_plain (Exists (codes "f\tg")) ≡ false
  pub not_field : is_plain (Exists (codes "NOT")) ≡ true
  pub star_bound : is_plain_word (codes "*") ≡ false
  pub number_and_letter : is_plain_word (codes "-5a") ≡ false
  pub number_and_dot : is_plain_word (codes "-5.") ≡ false
  pub decimal_bound : is_plain_word (codes "-5.5") ≡ true
  pub minus_bound : is_plain_word (codes "-") ≡ true
  pub backquote_inside : is_plain_word (codes "a`b") ≡ true
