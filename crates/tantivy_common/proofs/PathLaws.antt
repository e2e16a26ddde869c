-- A path that is pushed is its segments joined by the separator.
use Rattle.std.proofs.Common.{◌≡◌, ℕ, Bool, List, [], ◌∷◌, ◌++◌, map, refl, sym, ap, ◌∙◌, append_assoc, append-nil}
use Rattle.std.specs.List.{join_with_byte}
use Rattle.tantivy_common.specs.Path.{segment_bytes, all_pushed, empty_path}

-- the bytes of each segment, a separator before each
separated : Bool → List (List ℕ) → List ℕ
separated expand_dots [] = []
separated expand_dots (s ∷ ss) = 1 ∷ (segment_bytes expand_dots s ++ separated expand_dots ss)

joined_separated : (expand_dots : Bool) (s : List ℕ) (ss : List (List ℕ))
    → join_with_byte 1 (map (segment_bytes expand_dots) (s ∷ ss)) ≡ segment_bytes expand_dots s ++ separated expand_dots ss
unfolding separated
joined_separated expand_dots s [] = sym (append-nil (segment_bytes expand_dots s))
joined_separated expand_dots s (t ∷ ss) = ap (λ xs. segment_bytes expand_dots s ++ (1 ∷ xs)) (joined_separated expand_dots t ss)

text_after : (text : List ℕ) (before : List (List ℕ)) (t : List ℕ) (expand_dots : Bool) (ss : List (List ℕ))
    → (all_pushed (record { text = text; before = t ∷ before; expand_dots = expand_dots }) ss).text ≡ text ++ separated expand_dots ss
unfolding separated
text_after text before t expand_dots [] = sym (append-nil text)
text_after text before t expand_dots (s ∷ ss) =
    text_after (text ++ (1 ∷ []) ++ segment_bytes expand_dots s) (t ∷ before) text expand_dots ss
    ∙ append_assoc (text ++ (1 ∷ [])) (segment_bytes expand_dots s) (separated expand_dots ss)
    ∙ append_assoc text (1 ∷ []) (segment_bytes expand_dots s ++ separated expand_dots ss)

-- a path is its segments joined by the separator
pub text-all_pushed : (expand_dots : Bool) (segments : List (List ℕ)) → (all_pushed (empty_path expand_dots) segments).text ≡ join_with_byte 1 (map (segment_bytes expand_dots) segments)
text-all_pushed expand_dots [] = refl
text-all_pushed expand_dots (s ∷ ss) = text_after (segment_bytes expand_dots s) [] [] expand_dots ss ∙ sym (joined_separated expand_dots s ss)
