-- What passes a test, number by number and address by address.
use Rattle.std.proofs.Common.{◌≡◌, ℕ, zero, suc, ◌+◌, ◌-◌, ◌^◌, ◌<◌, ◌≤◌, List, ◌∷◌, drop, Option, Some, None, Bool, true, false, refl, ap, sym, ◌∙◌, inl, inr, arith}
use Rattle.std.specs.Prelude.{nat_le, ◌&&◌, IfSome, IfNone}
use Rattle.std.specs.Option.{SomeIff}
use Rattle.std.proofs.lemmas.Bool.{lt-ltb, le-ltb, leb-true, false≢true, cases_lt}
use Rattle.owned_bytes.specs.Front.{◌>>=◌, provided}
unfoldable use Rattle.owned_bytes.specs.Front.{each}
use Rattle.sstable_values.specs.Codec.{Address}
use Rattle.sstable_format.specs.Meta.{Meta}
use Rattle.sstable_format.specs.Store.{stored_place, are_bits, address_of, addresses_of_meta}
unfoldable use Rattle.sstable_format.specs.Store.{start_of, ordinal_of, numbers_from}
use Rattle.block_addresses.specs.Found.{number_of}
use Rattle.block_addresses.specs.Opened.{passing, fits_u64, fits_address, rises_from, may_follow, ordinal_after, last_ordinal, HasBits}
unfoldable use Rattle.block_addresses.specs.Opened.{can_follow}

pub both_true : (s t : Bool) → (s && t) ≡ true → (s ≡ true) × (t ≡ true)
both_true true t e = (refl, e)
both_true false t e = absurd (false≢true e)

-- a number that has 64 bits passes
pub passing-fits : (n : ℕ) → n < 2 ^ 64 → Some n ≡ passing fits_u64 (Some n)
passing-fits n fits = ap (λ t. provided t >>= (λ _. Some n)) (sym (lt-ltb n (2 ^ 64) fits))

-- one that hasn't doesn't
pub passing-past : (n : ℕ) → 2 ^ 64 ≤ n → None ≡ passing fits_u64 (Some n)
passing-past n past = ap (λ t. provided t >>= (λ _. Some n)) (sym (le-ltb n (2 ^ 64) past))

-- a sum that has 64 bits, or none
pub passing-sum : (result : Option ℕ) (n : ℕ) → SomeIff result (n < 2 ^ 64) n → result ≡ passing fits_u64 (Some n)
passing-sum (Some x) n is = ap (λ (y : ℕ). Some y) is.1 ∙ passing-fits n is.0
passing-sum None n not = passing-past n (elim (cases_lt n (2 ^ 64)) [ inl fits ↦ absurd (not fits) | inr past ↦ past ])

-- what is found, by what is known of it
pub passing-found : (found result : Option ℕ) → IfSome result (λ n. n < 2 ^ 64) → IfSome result (λ n. found ≡ Some n) → IfNone result ((n : ℕ) → found ≡ Some n → 2 ^ 64 ≤ n) → result ≡ passing fits_u64 found
passing-found found (Some n) fits is none = passing-fits n fits ∙ ap (passing fits_u64) (sym is)
passing-found None None fits is none = refl
passing-found (Some n) None fits is none = sym (ap (λ t. provided t >>= (λ _. Some n)) (le-ltb n (2 ^ 64) (none n refl)))

pub start-first : (m : Meta) (part : List ℕ) (j : ℕ) → j ≡ 0 → start_of m part j ≡ Some m.range_start
unfolding start_of
start-first m part zero is = refl
start-first m part (suc i) is = absurd (omega arith)

pub start-later : (m : Meta) (part : List ℕ) (j : ℕ) → 0 < j → number_of m.range_slope m.range_bits m.range_start j (stored_place m j) part ≡ start_of m part j
unfolding start_of
start-later m part zero some = absurd (omega arith)
start-later m part (suc i) some = refl

pub ordinal-first : (m : Meta) (part : List ℕ) (j : ℕ) → j ≡ 0 → ordinal_of m part j ≡ Some m.first_ordinal
unfolding ordinal_of
ordinal-first m part zero is = refl
ordinal-first m part (suc i) is = absurd (omega arith)

pub ordinal-later : (m : Meta) (part : List ℕ) (j : ℕ) → 0 < j → number_of m.ordinal_slope m.ordinal_bits m.first_ordinal j (stored_place m j + m.range_bits) part ≡ ordinal_of m part j
unfolding ordinal_of
ordinal-later m part zero some = absurd (omega arith)
ordinal-later m part (suc i) some = refl

-- three numbers as an address, where each is found
abbrev pub address_from : Option ℕ → Option ℕ → Option ℕ → Option Address
address_from start end ordinal = start >>= (λ a. end >>= (λ b. ordinal >>= (λ n. Some (record { start = a; end = b; first_ordinal = n }))))

-- an address passes where its three numbers do
three : (s t u : Bool) (a b n : ℕ) → (provided (s && (t && u)) >>= (λ _. Some (record { start = a; end = b; first_ordinal = n })))
    ≡ address_from (provided s >>= (λ _. Some a)) (provided t >>= (λ _. Some b)) (provided u >>= (λ _. Some n))
three true true true a b n = refl
three true true false a b n = refl
three true false u a b n = refl
three false t u a b n = refl

short-ordinal : (s t : Bool) (a b : ℕ) → None ≡ address_from (provided s >>= (λ _. Some a)) (provided t >>= (λ _. Some b)) None
short-ordinal true true a b = refl
short-ordinal true false a b = refl
short-ordinal false t a b = refl

short-end : (s : Bool) (a : ℕ) (ordinal : Option ℕ) → None ≡ address_from (provided s >>= (λ _. Some a)) None ordinal
short-end true a ordinal = refl
short-end false a ordinal = refl

pub address-passing : (start end ordinal : Option ℕ) → passing fits_address (address_from start end ordinal) ≡ address_from (passing fits_u64 start) (passing fits_u64 end) (passing fits_u64 ordinal)
address-passing None end ordinal = refl
address-passing (Some a) None ordinal = short-end (fits_u64 a) a (passing fits_u64 ordinal)
address-passing (Some a) (Some b) None = short-ordinal (fits_u64 a) (fits_u64 b) a b
address-passing (Some a) (Some b) (Some n) = three (fits_u64 a) (fits_u64 b) (fits_u64 n) a b n

no-follower : (b : Bool) (x : Address) → (provided b >>= (λ _. Some x)) ≡ None → b ≡ false
no-follower true x e = absurd cc
no-follower false x e = refl

-- what doesn't fit can't follow
pub follow-none : (ordinal : ℕ) (found : Option Address) → passing fits_address found ≡ None → passing (may_follow ordinal) found ≡ None
follow-none ordinal None e = refl
follow-none ordinal (Some a) e = ap (λ t. provided (t && rises_from ordinal a) >>= (λ _. Some a)) (no-follower (fits_address a) a e)

passes : (b : Bool) (x y : Address) → (provided b >>= (λ _. Some x)) ≡ Some y → (b ≡ true) × (x ≡ y)
passes true x y e = (refl, cc)
passes false x y e = absurd cc

-- what fits can follow where it rises
pub follow-some : (ordinal : ℕ) (found : Option Address) (a : Address) (rises : Bool) → passing fits_address found ≡ Some a → rises ≡ rises_from ordinal a
    → passing (may_follow ordinal) found ≡ (provided rises >>= (λ _. Some a))
follow-some ordinal None a rises e is = absurd cc
follow-some ordinal (Some b) a rises e is =
    let has = passes (fits_address b) b a e in
    ap (λ t. provided (t && rises_from ordinal b) >>= (λ _. Some b)) has.0 ∙ ap (λ (x : Address). provided (rises_from ordinal x) >>= (λ _. Some x)) has.1
    ∙ ap (λ t. provided t >>= (λ _. Some a)) (sym is)

-- what is left to do with the first address
abbrev pub then_others : Option (List Address) → Option Address → Option ℕ
then_others others None = None
then_others others (Some a) = ordinal_after others a.first_ordinal

-- the ordinal after some addresses is that after the others, after the first
pub ordinal_after-first : (ordinal : ℕ) (first : Option Address) (others : Option (List Address)) → ordinal_after (first >>= (λ x. others >>= (λ xs. Some (x ∷ xs)))) ordinal ≡ then_others others (passing (may_follow ordinal) first)
unfolding can_follow
ordinal_after-first ordinal None others = refl
ordinal_after-first ordinal (Some a) None = by (may_follow ordinal a)
  where
    by : (b : Bool) → None ≡ then_others None (provided b >>= (λ _. Some a))
    by true = refl
    by false = refl
ordinal_after-first ordinal (Some a) (Some xs) = by (may_follow ordinal a)
  where
    by : (b : Bool) → ((provided (b && can_follow a.first_ordinal xs) >>= (λ _. Some (a ∷ xs))) >>= (λ addresses. Some (last_ordinal ordinal addresses))) ≡ then_others (Some xs) (provided b >>= (λ _. Some a))
    by true = again (can_follow a.first_ordinal xs)
      where
        again : (b : Bool) → ((provided b >>= (λ _. Some (a ∷ xs))) >>= (λ addresses. Some (last_ordinal ordinal addresses))) ≡ ((provided b >>= (λ _. Some xs)) >>= (λ addresses. Some (last_ordinal a.first_ordinal addresses)))
        again true = refl
        again false = refl
    by false = refl

-- the addresses of a meta whose bits can be read
pub addresses_of_meta-read : (m : Meta) (packed : List ℕ) → (are_bits m.range_bits && are_bits m.ordinal_bits) ≡ true → addresses_of_meta packed m ≡ each (address_of m (drop m.data_offset packed)) (numbers_from 0 m.block_count)
addresses_of_meta-read m packed bits = ap (λ t. provided t >>= (λ _. each (address_of m (drop m.data_offset packed)) (numbers_from 0 m.block_count))) bits

pub addresses_of_meta-none : (m : Meta) (packed : List ℕ) → (are_bits m.range_bits && are_bits m.ordinal_bits) ≡ false → addresses_of_meta packed m ≡ None
addresses_of_meta-none m packed bits = ap (λ t. provided t >>= (λ _. each (address_of m (drop m.data_offset packed)) (numbers_from 0 m.block_count))) bits

-- one block more
pub walk-more : (f : ℕ → Option Address) (j n ordinal : ℕ) → j < n
    → ordinal_after (each f (numbers_from j (n - j))) ordinal ≡ then_others (each f (numbers_from (j + 1) (n - (j + 1)))) (passing (may_follow ordinal) (f j))
unfolding each numbers_from
walk-more f j n ordinal below =
    let left : n - j ≡ suc (n - (j + 1)) = omega arith in
    ap (λ k. ordinal_after (each f (numbers_from j k)) ordinal) left ∙ ordinal_after-first ordinal (f j) (each f (numbers_from (j + 1) (n - (j + 1))))

pub walk-end : (f : ℕ → Option Address) (j n ordinal : ℕ) → n ≤ j → ordinal_after (each f (numbers_from j (n - j))) ordinal ≡ Some ordinal
unfolding each numbers_from can_follow
walk-end f j n ordinal past =
    let none : n - j ≡ 0 = omega arith in
    ap (λ k. ordinal_after (each f (numbers_from j k)) ordinal) none

-- the bits of a meta that can be read
pub HasBits-from : (m : Meta) → (are_bits m.range_bits && are_bits m.ordinal_bits) ≡ true → HasBits m
HasBits-from m bits =
    let both = both_true (are_bits m.range_bits) (are_bits m.ordinal_bits) bits in
    let range = both_true (nat_le 1 m.range_bits) (nat_le m.range_bits 56) both.0 in
    let ordinal = both_true (nat_le 1 m.ordinal_bits) (nat_le m.ordinal_bits 56) both.1 in
    record { range_some = leb-true 1 m.range_bits range.0; range_few = leb-true m.range_bits 56 range.1; ordinal_some = leb-true 1 m.ordinal_bits ordinal.0; ordinal_few = leb-true m.ordinal_bits 56 ordinal.1 }
