-- A set of documents by the kind of its members.
use Rattle.std.proofs.Common.{◌≡◌, ℕ, ◌^◌, ◌<◌, List, All, sym, ap, ◌∙◌, subst}
use Rattle.std.specs.FinSet.{empty, union, intersection, difference}
use Rattle.common_bitset.specs.Numbers.{Numbers, below, IsBelow, rising}
use Rattle.common_bitset.specs.Subset.{Subset, IsProper}
use Rattle.document_sets.specs.declared.document_set.Members.{Members}
use Rattle.document_sets.specs.declared.document_set.Members.TheVariants.{Nothing, Everything, Listed}
use Rattle.document_sets.specs.Members.{elements_of, AreWithin, with_numbers}
use Rattle.document_sets.specs.declared.found.Found.{Found}
use Rattle.document_sets.specs.declared.found.Found.TheVariants as found
use Rattle.document_sets.specs.Found.{elements_found, AreFound}
use Rattle.document_sets.proofs.Lists.{rising-list}
use Rattle.document_sets.proofs.Sets.{IsBelow-from_list, IsBelow-none, IsBelow-full, IsBelow-complement, IsBelow-union, IsBelow-intersection, IsBelow-with, none-union, full-union, none-intersection, full-intersection}

-- the set that members show
abbrev pub shown : ℕ → Members → Subset
shown n m = record { elements = elements_of n m; max_value = n }

pub nothing-is : (n : ℕ) (m : Members) (s : Subset) → m ≡ Nothing → shown n m ≡ s → empty ≡ s.elements
nothing-is n m s is seen = sym (ap (elements_of n) is) ∙ ap (λ t. t.elements) seen

pub everything-is : (n : ℕ) (m : Members) (s : Subset) → m ≡ Everything → shown n m ≡ s → below s.max_value ≡ s.elements
everything-is n m s is seen = ap below (sym (ap (λ t. t.max_value) seen)) ∙ sym (ap (elements_of n) is) ∙ ap (λ t. t.elements) seen

proper_shown : (n : ℕ) (m : Members) → AreWithin n m → IsProper (shown n m)
proper_shown n Nothing within = record { within = IsBelow-none n; small = within }
proper_shown n Everything within = record { within = IsBelow-full n; small = within }
proper_shown n (Listed bits) within = record { within = within.2; small = within.0 }

pub proper : (n : ℕ) (m : Members) (s : Subset) → AreWithin n m → shown n m ≡ s → IsProper s
proper n m s within seen = subst IsProper seen (proper_shown n m within)

pub complement-proper : (bits new : Subset) → IsProper bits → new.max_value ≡ bits.max_value → new.elements ≡ difference (below bits.max_value) bits.elements → IsProper new
complement-proper bits new proper bound elements = record {
  within = subst (λ k. IsBelow k new.elements) (sym bound) (subst (IsBelow bits.max_value) (sym elements) (IsBelow-complement bits.max_value bits.elements));
  small = subst (λ k. k < 2 ^ 32) (sym bound) proper.small;
}

-- ---- what is made of the set

pub nothing-union : (n : ℕ) (m : Members) (s : Subset) (t : Numbers) → m ≡ Nothing → shown n m ≡ s → t ≡ union s.elements t
nothing-union n m s t is seen = sym (none-union t) ∙ ap (λ u. union u t) (nothing-is n m s is seen)

pub everything-union : (n : ℕ) (m : Members) (s : Subset) (t : Numbers) → m ≡ Everything → shown n m ≡ s → IsBelow s.max_value t → s.elements ≡ union s.elements t
everything-union n m s t is seen low =
    sym (everything-is n m s is seen) ∙ sym (full-union s.max_value t low) ∙ ap (λ u. union u t) (everything-is n m s is seen)

pub nothing-intersection : (n : ℕ) (m : Members) (s : Subset) (t : Numbers) → m ≡ Nothing → shown n m ≡ s → s.elements ≡ intersection s.elements t
nothing-intersection n m s t is seen =
    sym (nothing-is n m s is seen) ∙ sym (none-intersection t) ∙ ap (λ u. intersection u t) (nothing-is n m s is seen)

pub everything-intersection : (n : ℕ) (m : Members) (s : Subset) (t : Numbers) → m ≡ Everything → shown n m ≡ s → IsBelow s.max_value t → t ≡ intersection s.elements t
everything-intersection n m s t is seen low =
    sym (full-intersection s.max_value t low) ∙ ap (λ u. intersection u t) (everything-is n m s is seen)

pub same_parts : (s : Subset) (elements : Numbers) (bound : ℕ) → s.elements ≡ elements → s.max_value ≡ bound → s ≡ record { elements = elements; max_value = bound }
same_parts s elements bound e b = λ i. record { elements = e i; max_value = b i }

-- a fact below one bound is below the same bound
pub below-same : (n k : ℕ) (t : Numbers) → k ≡ n → IsBelow k t → IsBelow n t
below-same n k t same low = subst (λ b. IsBelow b t) same low

-- ---- members that were changed stay within

pub listed-within : (n : ℕ) (m : Members) (bits : Subset) → AreWithin n m → m ≡ Listed bits → (n < 2 ^ 32) × (bits.max_value ≡ n) × IsBelow n bits.elements
listed-within n m bits within is = subst (AreWithin n) is within

pub changed-within : (n : ℕ) (m : Members) (bits new : Subset) → AreWithin n m → m ≡ Listed bits → new.max_value ≡ bits.max_value
    → (IsBelow n bits.elements → IsBelow n new.elements) → (n < 2 ^ 32) × (new.max_value ≡ n) × IsBelow n new.elements
changed-within n m bits new within is bound kept =
    let w = listed-within n m bits within is in (w.0, bound ∙ w.1, kept w.2)

pub complement-within : (n : ℕ) (m : Members) (bits new : Subset) → AreWithin n m → m ≡ Listed bits → new.max_value ≡ bits.max_value
    → new.elements ≡ difference (below bits.max_value) bits.elements → (n < 2 ^ 32) × (new.max_value ≡ n) × IsBelow n new.elements
complement-within n m bits new within is bound elements =
    let w = listed-within n m bits within is in
    (w.0, bound ∙ w.1, subst (IsBelow n) (sym (elements ∙ ap (λ k. difference (below k) bits.elements) w.1)) (IsBelow-complement n bits.elements))

pub union-within : (n : ℕ) (m : Members) (bits other new : Subset) → AreWithin n m → m ≡ Listed bits → IsBelow n other.elements → new.max_value ≡ bits.max_value
    → new.elements ≡ union bits.elements other.elements → (n < 2 ^ 32) × (new.max_value ≡ n) × IsBelow n new.elements
union-within n m bits other new within is low bound elements =
    changed-within n m bits new within is bound (λ h. subst (IsBelow n) (sym elements) (IsBelow-union n bits.elements other.elements h low))

pub intersection-within : (n : ℕ) (m : Members) (bits other new : Subset) → AreWithin n m → m ≡ Listed bits → new.max_value ≡ bits.max_value
    → new.elements ≡ intersection bits.elements other.elements → (n < 2 ^ 32) × (new.max_value ≡ n) × IsBelow n new.elements
intersection-within n m bits other new within is bound elements =
    changed-within n m bits new within is bound (λ h. subst (IsBelow n) (sym elements) (IsBelow-intersection n bits.elements other.elements h))

pub with-within : (n : ℕ) (m : Members) (bits new : Subset) (numbers : List ℕ) → AreWithin n m → m ≡ Listed bits → All (λ number. number < n) numbers → new.max_value ≡ bits.max_value
    → new.elements ≡ with_numbers bits.elements numbers → (n < 2 ^ 32) × (new.max_value ≡ n) × IsBelow n new.elements
with-within n m bits new numbers within is low bound elements =
    changed-within n m bits new within is bound (λ h. subst (IsBelow n) (sym elements) (IsBelow-with n bits.elements numbers h low))

pub fresh-within : (n : ℕ) (bits new : Subset) (numbers : List ℕ) → n < 2 ^ 32 → bits ≡ record { elements = empty; max_value = n } → All (λ number. number < n) numbers → new.max_value ≡ bits.max_value
    → new.elements ≡ with_numbers bits.elements numbers → (n < 2 ^ 32) × (new.max_value ≡ n) × IsBelow n new.elements
fresh-within n bits new numbers small fresh low bound elements = (
  small,
  bound ∙ ap (λ t. t.max_value) fresh,
  subst (IsBelow n) (sym (elements ∙ ap (λ t. with_numbers t.elements numbers) fresh)) (IsBelow-with n empty numbers (IsBelow-none n) low),
)

pub nothing-small : (n : ℕ) (m : Members) → AreWithin n m → n < 2 ^ 32
nothing-small n Nothing within = within
nothing-small n Everything within = within
nothing-small n (Listed bits) within = within.0

-- ---- documents that were found

found_shown : (n : ℕ) (f : Found) → AreFound n f → IsProper (record { elements = elements_found f; max_value = n })
found_shown n (found.Listed numbers) is = record { within = IsBelow-from_list n numbers is.2; small = is.0 }
found_shown n (found.Gathered s) is = record { within = subst (λ k. IsBelow k s.elements) is.0 is.1.within; small = subst (λ k. k < 2 ^ 32) is.0 is.1.small }

pub found-proper : (n : ℕ) (f : Found) (s : Subset) → AreFound n f → record { elements = elements_found f; max_value = n } ≡ s → IsProper s
found-proper n f s is seen = subst IsProper seen (found_shown n f is)

-- the numbers of a list are those of the set that it shows, ascending
pub listed-ids : (n : ℕ) (f : Found) (numbers : List ℕ) (s : Subset) → AreFound n f → f ≡ found.Listed numbers → record { elements = elements_found f; max_value = n } ≡ s
    → numbers ≡ rising s.max_value s.elements
listed-ids n f numbers s within is seen =
    let are = subst (AreFound n) is within in
    rising-list n numbers are.1 are.2 ∙ ap (λ g. rising n (elements_found g)) (sym is) ∙ ap (λ t. rising t.max_value t.elements) seen
