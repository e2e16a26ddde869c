-- JSON paths: segments joined by the byte 1, and a stack of what the path was before each push.
use Rattle.std.specs.Prelude.{◌≡◌, ℕ, ◌&&◌, Bool, List, [], ◌∷◌, ◌++◌, length, take, map, nat_le, ◌==◌, if◌then◌else◌, fold, refl}
use Rattle.std.specs.List.{join_with_byte}
use Rattle.std.specs.Str.{is_utf8}
use Rattle.std.specs.Coded.{Coded, code_by, coded×, coded_ℕ, coded_list, coded_bool}

-- a path being written: its bytes, what they were before each push that is not undone (the last first), and whether dots become separators
pub record JsonPath : Type 0 where
  pub text : List ℕ
  pub before : List (List ℕ)
  pub expand_dots : Bool

abbrev pub path_code : Coded JsonPath
path_code =
    code_by (List ℕ × (List (List ℕ) × Bool)) (coded× (coded_list coded_ℕ) (coded× (coded_list (coded_list coded_ℕ)) coded_bool))
    (λ p. (p.text, (p.before, p.expand_dots))) (λ p. record { text = p.0; before = p.1.0; expand_dots = p.1.1 }) (λ _. refl)

-- dots become separators
abbrev pub expanded : List ℕ → List ℕ
expanded segment = map (λ b. if b == 46 then 1 else b) segment

-- the bytes of a segment
abbrev pub segment_bytes : Bool → List ℕ → List ℕ
segment_bytes expand_dots segment = if expand_dots then expanded segment else segment

-- a text, a separator where one is due, and the bytes of a segment
abbrev pub with_segment : List ℕ → Bool → Bool → List ℕ → List ℕ
with_segment text separated expand_dots segment = text ++ (if separated then 1 ∷ [] else []) ++ segment_bytes expand_dots segment

-- a separator, but at the first segment
abbrev pub separator : List (List ℕ) → List ℕ
separator [] = []
separator (t ∷ ts) = 1 ∷ []

abbrev pub pushed : JsonPath → List ℕ → JsonPath
pushed p segment = record {
  text = p.text ++ separator p.before ++ segment_bytes p.expand_dots segment;
  before = p.text ∷ p.before;
  expand_dots = p.expand_dots;
}

abbrev pub back_to : List (List ℕ) → JsonPath → JsonPath
back_to [] p = p
back_to (t ∷ ts) p = record { text = t; before = ts; expand_dots = p.expand_dots }

-- back to where the last push began
abbrev pub popped : JsonPath → JsonPath
popped p = back_to p.before p

-- with the end mark
abbrev pub ended : JsonPath → JsonPath
ended p = record p { text = p.text ++ 0 ∷ [] }

-- no segment
abbrev pub empty_path : Bool → JsonPath
empty_path expand_dots = record { text = []; before = []; expand_dots = expand_dots }

-- ---- in one vector, with the places where the pushes began (the last first)

-- what the path was before each push
abbrev pub texts_before : List ℕ → List ℕ → List (List ℕ)
texts_before text [] = []
texts_before text (n ∷ ns) = take n text ∷ texts_before (take n text) ns

-- each place is within the path as it was before the next push, and the path was text there
abbrev pub is_stack : List ℕ → List ℕ → Bool
is_stack text [] = is_utf8 text
is_stack text (n ∷ ns) = is_utf8 text && (nat_le n (length text) && is_stack (take n text) ns)

-- segments pushed one after another
abbrev pub all_pushed : JsonPath → List (List ℕ) → JsonPath
all_pushed p segments = fold pushed p segments

-- a path that segments are pushed to is the segments joined by the separator
abbrev pub PushedAreJoined : Type 0
PushedAreJoined = (expand_dots : Bool) (segments : List (List ℕ))
    → (all_pushed (empty_path expand_dots) segments).text ≡ join_with_byte 1 (map (segment_bytes expand_dots) segments)
