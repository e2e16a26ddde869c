-- Where a field with its colon stands, found in one pass from the end of a text.
use Rattle.std.specs.Prelude.{ℕ, Bool, false, ◌&&◌, ◌==◌, if◌then◌else◌, List, [], ◌∷◌}
use Rattle.query_tree.specs.Characters.{minus, colon, backslash, is_other_than, is_space, is_special, is_field_character}

-- whether a colon stands behind spaces
abbrev pub has_colon : List ℕ → Bool
has_colon [] = false
has_colon (c ∷ rest) = if is_space c then has_colon rest else (c == colon)

-- whether the text begins with what a backslash may stand in front of, in a field
abbrev pub begins_special : List ℕ → Bool
begins_special [] = false
begins_special (c ∷ rest) = is_special c

-- whether the rest of a field, and its colon, stand here
abbrev pub closes : List ℕ → Bool
closes [] = false
closes (c ∷ []) = if is_field_character c then false else (if c == backslash then false else has_colon (c ∷ []))
closes (c ∷ d ∷ rest) =
    if is_field_character c then closes (d ∷ rest)
    else (if c == backslash then (if is_special d then closes rest else closes (d ∷ rest)) else has_colon (c ∷ d ∷ rest))

abbrev pub after_first : List ℕ → List ℕ
after_first [] = []
after_first (c ∷ rest) = rest

-- whether a field and its colon stand here
unfoldable pub opens : ℕ → List ℕ → Bool
opens c rest = if (is_field_character c && is_other_than minus c) then closes rest else ((c == backslash && begins_special rest) && closes (after_first rest))

abbrev pub field_starts : List ℕ → List Bool
field_starts [] = []
field_starts (c ∷ rest) = opens c rest ∷ field_starts rest
