-- Expressions, their printed text and how deep it nests. Texts are lists of characters here, and the printed bytes are their UTF-8.
use Rattle.std.specs.Prelude.{ℕ, suc, max, Bool, ◌||◌, ◌==◌, if◌then◌else◌, List, [], ◌∷◌, ◌++◌, codes, encode_utf8_all}
use Rattle.std.specs.List.{flat_map}
use Rattle.query_tree.specs.Characters.{backslash, double_quote, is_special}

pub data Bound : Type 0 where
  Inclusive : List ℕ → Bound
  Exclusive : List ℕ → Bound
  Unbounded : Bound

-- the first text of a leaf is its field
pub data Expression : Type 0 where
  Term : List ℕ → List ℕ → Expression
  Prefix : List ℕ → List ℕ → Expression
  Range : List ℕ → Bound → Bound → Expression
  Set : List ℕ → List (List ℕ) → Expression
  Exists : List ℕ → Expression
  Not : Expression → Expression
  And : Expression → Expression → Expression
  Or : Expression → Expression → Expression

abbrev pub escaped : Bool → ℕ → List ℕ
escaped needed c = if needed then backslash ∷ c ∷ [] else c ∷ []

abbrev pub printed_field : List ℕ → List ℕ
printed_field field = flat_map (λ c. escaped (is_special c) c) field ++ codes ":"

abbrev pub needs_backslash : ℕ → Bool
needs_backslash c = c == double_quote || c == backslash

abbrev pub inside_quotes : List ℕ → List ℕ
inside_quotes text = flat_map (λ c. escaped (needs_backslash c) c) text

abbrev pub printed_text : List ℕ → List ℕ
printed_text text = double_quote ∷ (inside_quotes text ++ double_quote ∷ [])

abbrev pub printed_lower : Bound → List ℕ
printed_lower (Inclusive text) = codes "[" ++ text
printed_lower (Exclusive text) = codes "{" ++ text
printed_lower Unbounded = codes "[*"

abbrev pub printed_upper : Bound → List ℕ
printed_upper (Inclusive text) = text ++ codes "]"
printed_upper (Exclusive text) = text ++ codes "}"
printed_upper Unbounded = codes "*]"

abbrev pub more_elements : List (List ℕ) → List ℕ
more_elements [] = []
more_elements (text ∷ texts) = codes " " ++ printed_text text ++ more_elements texts

abbrev pub printed_elements : List (List ℕ) → List ℕ
printed_elements [] = []
printed_elements (text ∷ texts) = printed_text text ++ more_elements texts

abbrev pub in_parentheses : List ℕ → List ℕ
in_parentheses text = codes "(" ++ text ++ codes ")"

-- what stands under an And or a Not, and where parentheses stand round it
abbrev pub under_and : Expression → List ℕ → List ℕ
under_and (Or a b) text = in_parentheses text
under_and e text = text

abbrev pub under_not : Expression → List ℕ → List ℕ
under_not (Or a b) text = in_parentheses text
under_not (And a b) text = in_parentheses text
under_not e text = text

unfoldable pub printed : Expression → List ℕ
printed (Term field text) = printed_field field ++ printed_text text
printed (Prefix field text) = printed_field field ++ (printed_text text ++ codes "*")
printed (Range field lower upper) = printed_field field ++ (printed_lower lower ++ (codes " TO " ++ printed_upper upper))
printed (Set field texts) = printed_field field ++ (codes "IN [" ++ (printed_elements texts ++ codes "]"))
printed (Exists field) = printed_field field ++ codes "*"
printed (Not e) = codes "NOT " ++ under_not e (printed e)
printed (And a b) = under_and a (printed a) ++ (codes " AND " ++ under_and b (printed b))
printed (Or a b) = printed a ++ (codes " OR " ++ printed b)

abbrev pub depth_under_and : Expression → ℕ → ℕ
depth_under_and (Or a b) depth = suc depth
depth_under_and e depth = depth

abbrev pub depth_under_not : Expression → ℕ → ℕ
depth_under_not (Or a b) depth = suc depth
depth_under_not (And a b) depth = suc depth
depth_under_not e depth = depth

-- the greatest number of parentheses and NOT inside one another
unfoldable pub depth : Expression → ℕ
depth (Not e) = suc (depth_under_not e (depth e))
depth (And a b) = max (depth_under_and a (depth a)) (depth_under_and b (depth b))
depth (Or a b) = max (depth a) (depth b)
depth _ = 0

unfoldable pub print : Expression → List ℕ
print e = encode_utf8_all (printed e)
