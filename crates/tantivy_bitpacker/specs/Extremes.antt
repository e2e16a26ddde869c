-- The least and the greatest of some items.
use Rattle.std.specs.Prelude.{◌≡◌, false, List, [], Option, None, Some, All, Contains, if◌then◌else◌}
use Rattle.std.specs.declared.cmp.Ordering.{Ordering}
use Rattle.std.specs.Ordering.{is_lt}

-- There are no items, or these two are among them, and none is less than the first or greater than the second.
abbrev pub AreExtremes : {T : Type 0} → (T → T → Ordering) → List T → Option (T × T) → Type 0
AreExtremes cmp items None = items ≡ []
AreExtremes cmp items (Some found) = Contains items found.0 × Contains items found.1 × All (λ x. is_lt (cmp x found.0) ≡ false) items × All (λ x. is_lt (cmp found.1 x) ≡ false) items

-- The two with one more item.
abbrev pub widened : {T : Type 0} → (T → T → Ordering) → Option (T × T) → T → T × T
widened cmp None x = (x, x)
widened cmp (Some found) x = (if is_lt (cmp x found.0) then x else found.0, if is_lt (cmp found.1 x) then x else found.1)
