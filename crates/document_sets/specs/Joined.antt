-- What the sets of a clause come to.
use Rattle.std.specs.Prelude.{◌≡◌, ℕ, Option, Some, None, option_map, is_some, unwrap_or, refl, if◌then◌else◌}
use Rattle.std.specs.Coded.{Coded, code_by, coded×, coded_ℕ, coded_option}
use Rattle.std.specs.FinSet.{code, empty, union, intersection, difference}
use Rattle.common_bitset.specs.Numbers.{Numbers, below}
use Rattle.common_bitset.specs.Subset.{Subset}

-- the documents in each set that is required, those in some set that is excluded, and those in some set that is offered;
-- None where there is no such set
pub record Joined : Type 0 where
  pub documents : ℕ
  pub required : Option Numbers
  pub excluded : Option Numbers
  pub offered : Option Numbers

abbrev coded_set : Coded (Option Numbers)
coded_set = coded_option (code coded_ℕ)

abbrev pub joined_code : Coded Joined
joined_code = code_by (ℕ × (Option Numbers × (Option Numbers × Option Numbers))) (coded× coded_ℕ (coded× coded_set (coded× coded_set coded_set)))
    (λ j. (j.documents, (j.required, (j.excluded, j.offered)))) (λ p. record { documents = p.0; required = p.1.0; excluded = p.1.1.0; offered = p.1.1.1 }) (λ _. refl)

-- the elements of a set, where there is one
abbrev pub elements_in : Option Subset → Option Numbers
elements_in = option_map (λ s. s.elements)

-- the set, where there is one, is of so many documents
abbrev pub IsOver : ℕ → Option Subset → Type 0
IsOver documents None = Unit {0}
IsOver documents (Some s) = s.max_value ≡ documents

-- what is in both, or in the second where there is no first
abbrev pub met : Option Numbers → Numbers → Numbers
met None second = second
met (Some first) second = intersection first second

-- what is in either, or in the second where there is no first
abbrev pub united : Option Numbers → Numbers → Numbers
united None second = second
united (Some first) second = union first second

-- Those in each required set; where none is required, in some offered set; where there is neither, all where a set is
-- excluded, and else none.
abbrev pub chosen : Joined → Numbers
chosen j =
    unwrap_or j.required (unwrap_or j.offered (if is_some j.excluded then below j.documents else empty))

-- those chosen that are in no excluded set
abbrev pub joined_elements : Joined → Numbers
joined_elements j = difference (chosen j) (unwrap_or j.excluded empty)

-- a clause with no required and no offered set
abbrev pub only_excluded : ℕ → Option Numbers → Joined
only_excluded documents excluded = record { documents = documents; required = None; excluded = excluded; offered = None }
