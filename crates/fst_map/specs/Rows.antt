-- Worked rows, which a reader of contracts may skip: bytes that are a map and that are none, a key that is sought, and
-- what a machine may take between two keys. 97, 98 and 99 are a, b and c.
use Rattle.std.specs.Prelude.{◌≡◌, ℕ, List, [], ◌∷◌, ◌++◌, Bool, true, false, Some, None, refl, codes}
use Rattle.std.specs.Int.{w64, to_le_bytes}
use Rattle.std.specs.List.{flat_map}
use Rattle.owned_bytes.specs.Keys.{Key}
use Rattle.fst_map.specs.Automaton.{Machine, always, exact, prefixed, joint}
use Rattle.fst_map.specs.Map.{map_of, first_at_or_above}
unfoldable use Rattle.fst_map.specs.Map.{computes}
use Rattle.fst_map.specs.Within.{may_take_within}
unfoldable use Rattle.fst_map.specs.Within.{within_computes}

-- how many keys, and the end and the value of each
abbrev pub table : List ℕ → List ℕ
table numbers = flat_map (to_le_bytes w64) numbers

-- two keys, a with the value 5 and b with the value 6
a_map : map_of (table (2 ∷ 1 ∷ 5 ∷ 2 ∷ 6 ∷ []) ++ codes "ab") ≡ Some ((codes "a", 5) ∷ (codes "b", 6) ∷ [])
unfolding computes
a_map = refl

-- the ends fall
falling_ends : map_of (table (2 ∷ 2 ∷ 5 ∷ 1 ∷ 6 ∷ []) ++ codes "ab") ≡ None
unfolding computes
falling_ends = refl

-- the keys are equal
equal_keys : map_of (table (2 ∷ 1 ∷ 5 ∷ 2 ∷ 6 ∷ []) ++ codes "aa") ≡ None
unfolding computes
equal_keys = refl

-- a byte follows the last key
one_byte_more : map_of (table (2 ∷ 1 ∷ 5 ∷ 2 ∷ 6 ∷ []) ++ codes "abc") ≡ None
unfolding computes
one_byte_more = refl

-- a byte of the last key is missing
one_byte_less : map_of (table (2 ∷ 1 ∷ 5 ∷ 2 ∷ 6 ∷ []) ++ codes "a") ≡ None
unfolding computes
one_byte_less = refl

abbrev pub four_keys : List (Key × ℕ)
four_keys = (codes "aaa", 0) ∷ (codes "bbbbbbb", 1) ∷ (codes "ccc", 2) ∷ (codes "dddd", 3) ∷ []

between_keys : first_at_or_above (codes "bbbde") four_keys ≡ Some 2
between_keys = refl

at_a_key : first_at_or_above (codes "bbbbbbb") four_keys ≡ Some 1
at_a_key = refl

past_all : first_at_or_above (codes "e") four_keys ≡ None
past_all = refl

before_all : first_at_or_above [] four_keys ≡ Some 0
before_all = refl

-- what a machine may take in blocks up to 0 1 2, 0 2 2 and 0 3 2
abbrev pub in_blocks : {S : Type 0} → Machine S → List Bool
in_blocks machine =
    may_take_within machine None (0 ∷ 1 ∷ 2 ∷ [])
    ∷ may_take_within machine (Some (0 ∷ 1 ∷ 2 ∷ [])) (0 ∷ 2 ∷ 2 ∷ [])
    ∷ may_take_within machine (Some (0 ∷ 2 ∷ 2 ∷ [])) (0 ∷ 3 ∷ 2 ∷ [])
    ∷ []

second_alone : in_blocks (exact (0 ∷ 2 ∷ 1 ∷ [])) ≡ false ∷ true ∷ false ∷ []
unfolding within_computes
second_alone = refl

in_none : in_blocks (exact (0 ∷ 4 ∷ 1 ∷ [])) ≡ false ∷ false ∷ false ∷ []
unfolding within_computes
in_none = refl

first_and_third : in_blocks (joint (exact (0 ∷ 1 ∷ 1 ∷ [])) (exact (0 ∷ 3 ∷ 1 ∷ []))) ≡ true ∷ false ∷ true ∷ []
unfolding within_computes
first_and_third = refl

-- the empty key is in the first block alone
empty_key : in_blocks (exact []) ≡ true ∷ false ∷ false ∷ []
unfolding within_computes
empty_key = refl

-- the first block may hold the empty key, a later one may not
empty_first : may_take_within (exact []) None (97 ∷ []) ≡ true
unfolding within_computes
empty_first = refl

empty_later : may_take_within (exact []) (Some []) (97 ∷ []) ≡ false
unfolding within_computes
empty_later = refl

-- the lower key is left out, the upper one is not
lower_out : may_take_within (exact (97 ∷ 98 ∷ [])) (Some (97 ∷ 98 ∷ [])) (97 ∷ 99 ∷ []) ≡ false
unfolding within_computes
lower_out = refl

upper_in : may_take_within (exact (97 ∷ 98 ∷ [])) (Some (97 ∷ [])) (97 ∷ 98 ∷ []) ≡ true
unfolding within_computes
upper_in = refl

-- above b, 255 and up to c there are keys that begin with b, above c and up to d none
still_b : may_take_within (prefixed (98 ∷ [])) (Some (98 ∷ 255 ∷ [])) (99 ∷ []) ≡ true
unfolding within_computes
still_b = refl

past_b : may_take_within (prefixed (98 ∷ [])) (Some (99 ∷ [])) (100 ∷ []) ≡ false
unfolding within_computes
past_b = refl

-- above a key and up to the same key with a byte 0 after it there is that one key
one_key : may_take_within always (Some (255 ∷ [])) (255 ∷ 0 ∷ []) ≡ true
unfolding within_computes
one_key = refl

no_prefix : may_take_within (prefixed (255 ∷ 1 ∷ [])) (Some (255 ∷ [])) (255 ∷ 0 ∷ []) ≡ false
unfolding within_computes
no_prefix = refl

-- between a key and itself, and between keys in the wrong order, there is none
same_keys : may_take_within always (Some (97 ∷ [])) (97 ∷ []) ≡ false
unfolding within_computes
same_keys = refl

crossed_keys : may_take_within always (Some (98 ∷ [])) (97 ∷ 255 ∷ []) ≡ false
unfolding within_computes
crossed_keys = refl

two_machines : may_take_within (joint (exact (97 ∷ [])) (prefixed (99 ∷ []))) (Some (97 ∷ [])) (99 ∷ 0 ∷ []) ≡ true
unfolding within_computes
two_machines = refl
