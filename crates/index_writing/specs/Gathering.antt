-- How documents are gathered: a map of keys with numbers, one document after the other.
use Rattle.std.specs.Prelude.{◌≡◌, ℕ, ◌-◌, List, [], ◌∷◌, ◌++◌, length, slice_get, unwrap_or, Option, Some, None, Bool, false, ◌==◌, if◌then◌else◌}
use Rattle.std.specs.BTreeMap.{BTreeMap, get}
use Rattle.std.specs.Cmp.Lexicographic.{slice_cmp}
use Rattle.std.specs.Map.{update}
use Rattle.std.specs.Ordering.{nat_cmp, eq_by_cmp}
use Rattle.owned_bytes.specs.Keys.{Key}
use Rattle.documents.specs.declared.documents.Doc.{Doc}
use Rattle.documents.specs.Postings.{numbers_of}

-- numbers, where there are any
abbrev pub listed : List ℕ → Option (List ℕ)
listed [] = None
listed (n ∷ ns) = Some (n ∷ ns)

-- the number is the last of these
abbrev pub ends_with : ℕ → List ℕ → Bool
ends_with number numbers = elim (slice_get numbers (length numbers - 1)) [ Some last ↦ last == number | None ↦ false ]

-- the numbers and then this one, where it isn't the last
abbrev pub with_number : ℕ → List ℕ → List ℕ
with_number number numbers = if ends_with number numbers then numbers else numbers ++ number ∷ []

-- the numbers that the map has at a key
abbrev pub numbers_at : BTreeMap Key (List ℕ) → Key → Option (List ℕ)
numbers_at gathered key = get (slice_cmp nat_cmp) gathered key

-- the map has the numbers of the documents at each key of theirs, and nothing else
abbrev pub Tells : BTreeMap Key (List ℕ) → List Doc → Type 0
Tells gathered docs = (key : Key) → numbers_at gathered key ≡ listed (numbers_of key docs)

-- at this key the map has the number too, and at each other what it had
abbrev pub AddsNumber : Key → ℕ → BTreeMap Key (List ℕ) → BTreeMap Key (List ℕ) → Type 0
AddsNumber key number old new = (other : Key) → numbers_at new other
    ≡ update (eq_by_cmp (slice_cmp nat_cmp)) (numbers_at old) key (Some (with_number number (unwrap_or (numbers_at old key) []))) other

-- the map tells this document too, whose number is how many it told before
abbrev pub AddsDocument : ℕ → Doc → BTreeMap Key (List ℕ) → BTreeMap Key (List ℕ) → Type 0
AddsDocument number doc old new = (docs : List Doc) → length docs ≡ number → Tells old docs → Tells new (docs ++ doc ∷ [])
