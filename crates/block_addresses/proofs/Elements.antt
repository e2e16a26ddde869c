-- One address of a store is that of the whole list.
use Rattle.std.proofs.Common.{◌≡◌, ℕ, zero, suc, ◌+◌, ◌-◌, ◌/◌, ◌%◌, ◌<◌, ◌≤◌, List, [], ◌∷◌, ◌++◌, length, drop, Option, Some, None, true, refl, ap, sym, ◌∙◌, inl, inr, arith}
use Rattle.std.specs.Prelude.{nat_le, ◌&&◌, ◌==◌}
use Rattle.std.proofs.lemmas.Bool.{le-leb, lt-leb, leb-true, eqb-true, cases_lt}
use Rattle.owned_bytes.specs.Front.{◌>>=◌, provided}
unfoldable use Rattle.owned_bytes.specs.Front.{each}
use Rattle.sstable_values.specs.Codec.{Address}
use Rattle.sstable_format.specs.Meta.{Meta}
use Rattle.sstable_format.specs.Store.{address_of, addresses_of_meta, are_bits}
unfoldable use Rattle.sstable_format.specs.Store.{numbers_from, are_filled, joined}
use Rattle.block_addresses.specs.Found.{element_at, address_in}
use Rattle.owned_bytes.proofs.Pieces.{bind_some, some_is}
use Rattle.block_addresses.proofs.Passing.{both_true}

element_at-short : {A : Type 0} (xs : List A) (i : ℕ) → length xs ≤ i → element_at xs i ≡ None
element_at-short [] i short = refl
element_at-short (x ∷ xs) zero short = absurd (omega arith)
element_at-short (x ∷ xs) (suc i) short = element_at-short xs i (omega arith)

element_at-left : {A : Type 0} (xs ys : List A) (i : ℕ) → i < length xs → element_at (xs ++ ys) i ≡ element_at xs i
element_at-left [] ys i below = absurd (omega arith)
element_at-left (x ∷ xs) ys zero below = refl
element_at-left (x ∷ xs) ys (suc i) below = element_at-left xs ys i (omega arith)

element_at-right : {A : Type 0} (xs ys : List A) (i : ℕ) → length xs ≤ i → element_at (xs ++ ys) i ≡ element_at ys (i - length xs)
element_at-right [] ys i past = ap (element_at ys) (omega arith)
element_at-right (x ∷ xs) ys zero past = absurd (omega arith)
element_at-right (x ∷ xs) ys (suc i) past = element_at-right xs ys i (omega arith) ∙ ap (element_at ys) (omega arith)

-- the first of the values, and the others
pub record Parts {A B : Type 0} (f : A → Option B) (x : A) (xs : List A) (ys : List B) : Type 0 where
  pub first : B
  pub others : List B
  pub is : first ∷ others ≡ ys
  pub of_first : f x ≡ Some first
  pub of_others : each f xs ≡ Some others

pub parts-of : {A B : Type 0} (f : A → Option B) (x : A) (xs : List A) (ys : List B) → each f (x ∷ xs) ≡ Some ys → Parts f x xs ys
unfolding each
parts-of f x xs ys e =
    let one = bind_some (f x) (λ first. each f xs >>= (λ others. Some (first ∷ others))) ys e in
    let two = bind_some (each f xs) (λ others. Some (one.0 ∷ others)) ys one.2 in
    record { first = one.0; others = two.0; is = some_is _ _ two.2; of_first = one.1; of_others = two.1 }

pub none-of : {A B : Type 0} (f : A → Option B) (ys : List B) → each f [] ≡ Some ys → [] ≡ ys
unfolding each
none-of f ys e = some_is _ _ e

each-element : {B : Type 0} (f : ℕ → Option B) (k n : ℕ) (ys : List B) (i : ℕ) → each f (numbers_from k n) ≡ Some ys → i < n → element_at ys i ≡ f (k + i)
unfolding numbers_from
each-element f k zero ys i e below = absurd (omega arith)
each-element f k (suc n) ys zero e below =
    let parts = parts-of f k (numbers_from (k + 1) n) ys e in
    ap (λ zs. element_at zs 0) (sym parts.is) ∙ sym parts.of_first ∙ ap f (omega arith)
each-element f k (suc n) ys (suc i) e below =
    let parts = parts-of f k (numbers_from (k + 1) n) ys e in
    ap (λ zs. element_at zs (suc i)) (sym parts.is) ∙ each-element f (k + 1) n parts.others i parts.of_others (omega arith) ∙ ap f (omega arith)

pub each-length : {B : Type 0} (f : ℕ → Option B) (k n : ℕ) (ys : List B) → each f (numbers_from k n) ≡ Some ys → length ys ≡ n
unfolding numbers_from
each-length f k zero ys e = ap length (sym (none-of f ys e))
each-length f k (suc n) ys e =
    let parts = parts-of f k (numbers_from (k + 1) n) ys e in
    ap length (sym parts.is) ∙ ap (λ m. suc m) (each-length f (k + 1) n parts.others parts.of_others)

-- the addresses of a meta, one by one
pub list-of : (m : Meta) (packed : List ℕ) (xs : List Address) → addresses_of_meta packed m ≡ Some xs → each (address_of m (drop m.data_offset packed)) (numbers_from 0 m.block_count) ≡ Some xs
list-of m packed xs e = (bind_some (provided (are_bits m.range_bits && are_bits m.ordinal_bits)) (λ _. each (address_of m (drop m.data_offset packed)) (numbers_from 0 m.block_count)) xs e).2

-- the address in a meta, by its place there
abbrev within : List ℕ → ℕ → Meta → Option Address
within packed j m = provided (nat_le (j + 1) m.block_count) >>= (λ _. address_of m (drop m.data_offset packed) j)

address_in-here : (m : Meta) (metas : List Meta) (packed : List ℕ) (i : ℕ) → i < 128 → address_in (m ∷ metas) packed i ≡ within packed i m
address_in-here m metas packed i near =
    let first : i / 128 ≡ 0 = omega arith in
    let same : i % 128 ≡ i = omega arith in
    ap (λ q. element_at (m ∷ metas) q >>= within packed (i % 128)) first ∙ ap (λ r. within packed r m) same

address_in-next : (m : Meta) (metas : List Meta) (packed : List ℕ) (i : ℕ) → 128 ≤ i → address_in (m ∷ metas) packed i ≡ address_in metas packed (i - 128)
address_in-next m metas packed i far =
    let next : i / 128 ≡ suc ((i - 128) / 128) = omega arith in
    let same : i % 128 ≡ (i - 128) % 128 = omega arith in
    ap (λ q. element_at (m ∷ metas) q >>= within packed (i % 128)) next ∙ ap (λ r. element_at metas ((i - 128) / 128) >>= within packed r) same

-- within a meta, and past its blocks
element-here : (m : Meta) (packed : List ℕ) (xs rest : List Address) (i : ℕ) → addresses_of_meta packed m ≡ Some xs → i < m.block_count → element_at (xs ++ rest) i ≡ within packed i m
element-here m packed xs rest i e below =
    let list = list-of m packed xs e in
    let long : length xs ≡ m.block_count = each-length (address_of m (drop m.data_offset packed)) 0 m.block_count xs list in
    element_at-left xs rest i (omega (arith, long, below)) ∙ each-element (address_of m (drop m.data_offset packed)) 0 m.block_count xs i list below ∙ ap (address_of m (drop m.data_offset packed)) (omega arith)
    ∙ sym (ap (λ t. provided t >>= (λ _. address_of m (drop m.data_offset packed) i)) (le-leb (i + 1) m.block_count (omega (arith, below))))

no-element : (m : Meta) (packed : List ℕ) (i : ℕ) → m.block_count ≤ i → within packed i m ≡ None
no-element m packed i past = ap (λ t. provided t >>= (λ _. address_of m (drop m.data_offset packed) i)) (lt-leb (i + 1) m.block_count (omega (arith, past)))

-- An address is found in its meta alone.
pub element_at-store : (packed : List ℕ) (metas : List Meta) (lists : List (List Address)) (i : ℕ) → are_filled metas ≡ true → each (addresses_of_meta packed) metas ≡ Some lists → element_at (joined lists) i ≡ address_in metas packed i
unfolding are_filled joined
element_at-store packed [] lists i filled e = ap (λ ls. element_at (joined ls) i) (sym (none-of (addresses_of_meta packed) lists e))
element_at-store packed (m ∷ []) lists i filled e =
    let parts = parts-of (addresses_of_meta packed) m [] lists e in
    let few : m.block_count ≤ 128 = leb-true m.block_count 128 filled in
    let whole : joined lists ≡ parts.first ++ [] = ap joined (sym parts.is) ∙ ap (λ ls. parts.first ++ joined ls) (sym (none-of (addresses_of_meta packed) parts.others parts.of_others)) in
    let long : length parts.first ≡ m.block_count = each-length (address_of m (drop m.data_offset packed)) 0 m.block_count parts.first (list-of m packed parts.first parts.of_first) in
    ap (λ xs. element_at xs i) whole
    ∙ elim (cases_lt i m.block_count) [
      | inl here ↦ element-here m packed parts.first [] i parts.of_first here ∙ sym (address_in-here m [] packed i (omega (arith, here, few)))
      | inr past ↦ element_at-right parts.first [] i (omega (arith, past, long)) ∙ elim (cases_lt i 128) [
        | inl near ↦ sym (address_in-here m [] packed i near ∙ no-element m packed i past)
        | inr far ↦ sym (address_in-next m [] packed i far)
      ]
    ]
element_at-store packed (m ∷ next ∷ metas) lists i filled e =
    let parts = parts-of (addresses_of_meta packed) m (next ∷ metas) lists e in
    let both = both_true (m.block_count == 128) (are_filled (next ∷ metas)) filled in
    let full : m.block_count ≡ 128 = eqb-true m.block_count 128 both.0 in
    let long : length parts.first ≡ m.block_count = each-length (address_of m (drop m.data_offset packed)) 0 m.block_count parts.first (list-of m packed parts.first parts.of_first) in
    ap (λ ls. element_at (joined ls) i) (sym parts.is)
    ∙ elim (cases_lt i 128) [
      | inl near ↦ element-here m packed parts.first (joined parts.others) i parts.of_first (omega (arith, near, full)) ∙ sym (address_in-here m (next ∷ metas) packed i near)
      | inr far ↦ element_at-right parts.first (joined parts.others) i (omega (arith, far, full, long))
          ∙ ap (element_at (joined parts.others)) (omega (arith, full, long)) ∙ element_at-store packed (next ∷ metas) parts.others (i - 128) both.1 parts.of_others
          ∙ sym (address_in-next m (next ∷ metas) packed i far)
    ]
