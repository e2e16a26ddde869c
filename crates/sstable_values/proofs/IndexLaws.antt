-- Laws of stored places of blocks.
use Rattle.std.proofs.Common.{◌≡◌, ℕ, zero, suc, ◌+◌, ◌-◌, ◌^◌, ◌<◌, ◌≤◌, List, [], ◌∷◌, ◌++◌, length, drop, get_or, Bool, true, false, cond, Option, Some, None, refl, ap, sym, ◌∙◌, arith, append_assoc, append-nil, length-drop, drop-drop, subst}
use Rattle.std.specs.Prelude.{nat_lt, nat_le, nat_eq, ◌&&◌}
use Rattle.std.proofs.lemmas.Bool.{lt-ltb, le-ltb, ltb-true, ltb-false, leb-true, le-leb, eqb-true, eq-eqb}
use Rattle.std.proofs.lemmas.List.{drop_all, drop_more, get_or_past}
use borrow.Author.Count.{below_more}
use Rattle.owned_bytes.specs.Front.{◌>>=◌, provided}
use Rattle.sstable_values.specs.Vint.{vint, vint_at}
use Rattle.sstable_values.specs.Values.{Values, Listed}
use Rattle.sstable_values.specs.Codec.{index, Address, addresses_at, addresses, adjoin_from, are_in_turn, first_start, comes_after, last_is}
use Rattle.sstable_values.proofs.VintLaws.{vint-again}
use Rattle.sstable_values.proofs.RisingLaws.{both-true}
use Rattle.sstable_values.proofs.MonotonicLaws.{last_is-at}

-- what is left to do once a length and a difference were read
abbrev pub next_address : ℕ → ℕ → ℕ → ℕ → List ℕ → Bool → Bool → Option (List Address × List ℕ)
next_address left start end ordinal rest near low =
    provided near >>= (λ _. provided low >>= (λ _. addresses_at left end ordinal rest >>= (λ others. Some (record { start = start; end = end; first_ordinal = ordinal } ∷ others.0, others.1))))

abbrev pub next_tested : ℕ → ℕ → ℕ → ℕ → List ℕ → Option (List Address × List ℕ)
next_tested left start end ordinal rest = next_address left start end ordinal rest (nat_lt end (2 ^ 64)) (nat_lt ordinal (2 ^ 64))

addresses_at-more : (left start ordinal len difference : ℕ) (bytes middle rest : List ℕ) → vint_at bytes ≡ Some (len, middle) → vint_at middle ≡ Some (difference, rest)
    → addresses_at (suc left) start ordinal bytes ≡ next_tested left start (start + len) (ordinal + difference) rest
unfolding addresses_at
addresses_at-more left start ordinal len difference bytes middle rest e f =
    ap (λ o. o >>= (λ l. vint_at l.1 >>= (λ d. next_tested left start (start + l.0) (ordinal + d.0) d.1))) e
    ∙ ap (λ o. o >>= (λ d. next_tested left start (start + len) (ordinal + d.0) d.1)) f

addresses_at-no_length : (left start ordinal : ℕ) (bytes : List ℕ) → vint_at bytes ≡ None → addresses_at (suc left) start ordinal bytes ≡ None
unfolding addresses_at
addresses_at-no_length left start ordinal bytes e = ap (λ o. o >>= (λ l. vint_at l.1 >>= (λ d. next_tested left start (start + l.0) (ordinal + d.0) d.1))) e

addresses_at-no_difference : (left start ordinal len : ℕ) (bytes middle : List ℕ) → vint_at bytes ≡ Some (len, middle) → vint_at middle ≡ None → addresses_at (suc left) start ordinal bytes ≡ None
unfolding addresses_at
addresses_at-no_difference left start ordinal len bytes middle e none =
    ap (λ o. o >>= (λ l. vint_at l.1 >>= (λ d. next_tested left start (start + l.0) (ordinal + d.0) d.1))) e
    ∙ ap (λ o. o >>= (λ d. next_tested left start (start + len) (ordinal + d.0) d.1)) none

addresses_at-none : (start ordinal : ℕ) (bytes : List ℕ) → addresses_at 0 start ordinal bytes ≡ Some ([], bytes)
unfolding addresses_at
addresses_at-none start ordinal bytes = refl

-- places, and then further ones
abbrev pub with_blocks : List Address → Option (List Address × List ℕ) → Option (Values Address × List ℕ)
with_blocks blocks found = found >>= (λ more. Some (Listed (blocks ++ more.0), more.1))

-- a loop that reads: the places so far, and so many more, the next of which starts at start and follows ordinal
pub record BlocksOn (left start ordinal taken : ℕ) (blocks : List Address) (content : List ℕ) : Type 0 where
  pub within : taken ≤ length content
  pub found : index.values_of content ≡ with_blocks blocks (addresses_at left start ordinal (drop taken content))

abbrev pub after_start : ℕ → ℕ × List ℕ → Option (Values Address × List ℕ)
after_start count start = addresses_at count start.0 0 start.1 >>= (λ found. Some (Listed found.0, found.1))

abbrev pub after_count : ℕ × List ℕ → Option (Values Address × List ℕ)
after_count count = vint_at count.1 >>= after_start count.0

pub Blocks-no_count : (content : List ℕ) → vint_at content ≡ None → index.values_of content ≡ None
unfolding index
Blocks-no_count content e = ap (λ o. o >>= after_count) e

pub Blocks-no_start : (count : ℕ) (content rest : List ℕ) → vint_at content ≡ Some (count, rest) → vint_at rest ≡ None → index.values_of content ≡ None
unfolding index
Blocks-no_start count content rest e none = ap (λ o. o >>= after_count) e ∙ ap (λ o. o >>= after_start count) none

none_before : (found : Option (List Address × List ℕ)) → (found >>= (λ more. Some (Listed more.0, more.1))) ≡ with_blocks [] found
none_before None = refl
none_before (Some more) = refl

pub Blocks-begin : (count left start a b : ℕ) (content : List ℕ) → vint_at content ≡ Some (count, drop a content) → left ≡ count
    → vint_at (drop a content) ≡ Some (start, drop b (drop a content)) → a ≤ length content → b ≤ length (drop a content) → BlocksOn left start 0 (a + b) [] content
unfolding index
Blocks-begin count left start a b content e same f within_a within_b = record {
  within = (let at_rest : b ≤ length content - a = simp length-drop at within_b in omega (arith, at_rest, within_a));
  found = ap (λ o. o >>= after_count) e ∙ ap (λ o. o >>= after_start count) f
      ∙ ap (λ n. after_start n (start, drop b (drop a content))) (sym same)
      ∙ none_before (addresses_at left start 0 (drop b (drop a content)))
      ∙ ap (λ bytes. with_blocks [] (addresses_at left start 0 bytes)) (drop-drop b a content);
}

pub Blocks-no_length : (left start ordinal taken : ℕ) (blocks : List Address) (content : List ℕ) → BlocksOn left start ordinal taken blocks content → 0 < left
    → vint_at (drop taken content) ≡ None → index.values_of content ≡ None
Blocks-no_length zero start ordinal taken blocks content r h e = absurd (omega arith)
Blocks-no_length (suc left) start ordinal taken blocks content r h e = r.found ∙ ap (with_blocks blocks) (addresses_at-no_length left start ordinal (drop taken content) e)

pub Blocks-no_difference : (left start ordinal taken a len : ℕ) (blocks : List Address) (content : List ℕ) → BlocksOn left start ordinal taken blocks content → 0 < left
    → vint_at (drop taken content) ≡ Some (len, drop a (drop taken content)) → vint_at (drop (taken + a) content) ≡ None → index.values_of content ≡ None
Blocks-no_difference zero start ordinal taken a len blocks content r h e none = absurd (omega arith)
Blocks-no_difference (suc left) start ordinal taken a len blocks content r h e none =
    r.found ∙ ap (with_blocks blocks) (addresses_at-no_difference left start ordinal len (drop taken content) (drop (taken + a) content) (e ∙ ap (λ bytes. Some (len, bytes)) (drop-drop a taken content)) none)

-- the length and the difference that are read next
pub record PairRead (taken a b len difference : ℕ) (content : List ℕ) : Type 0 where
  pub within : taken + a + b ≤ length content
  pub first : vint_at (drop taken content) ≡ Some (len, drop (taken + a) content)
  pub second : vint_at (drop (taken + a) content) ≡ Some (difference, drop (taken + a + b) content)

pub pair_read : (taken a b len difference : ℕ) (content : List ℕ) → taken ≤ length content → a ≤ length (drop taken content) → b ≤ length (drop (taken + a) content)
    → vint_at (drop taken content) ≡ Some (len, drop a (drop taken content)) → vint_at (drop (taken + a) content) ≡ Some (difference, drop b (drop (taken + a) content))
    → PairRead taken a b len difference content
pair_read taken a b len difference content h within_a within_b e f = record {
  within = (let in_a : a ≤ length content - taken = simp length-drop at within_a in let in_b : b ≤ length content - (taken + a) = simp length-drop at within_b in omega (arith, in_a, in_b, h));
  first = e ∙ ap (λ bytes. Some (len, bytes)) (drop-drop a taken content);
  second = f ∙ ap (λ bytes. Some (difference, bytes)) (drop-drop b (taken + a) content);
}

next_address-low : (left start end ordinal : ℕ) (rest : List ℕ) (near low : Bool) → low ≡ false → next_address left start end ordinal rest near low ≡ None
next_address-low left start end ordinal rest true low e = ap (λ b. next_address left start end ordinal rest true b) e
next_address-low left start end ordinal rest false low e = refl

-- an end that doesn't fit 64 bits
pub Blocks-far : (left start ordinal taken a b len difference : ℕ) (blocks : List Address) (content : List ℕ) → BlocksOn left start ordinal taken blocks content → 0 < left
    → PairRead taken a b len difference content → 2 ^ 64 ≤ start + len → index.values_of content ≡ None
Blocks-far zero start ordinal taken a b len difference blocks content r h p far = absurd (omega arith)
Blocks-far (suc left) start ordinal taken a b len difference blocks content r h p far =
    r.found ∙ ap (with_blocks blocks) (addresses_at-more left start ordinal len difference _ _ _ p.first p.second
    ∙ ap (λ near. next_address left start (start + len) (ordinal + difference) (drop (taken + a + b) content) near (nat_lt (ordinal + difference) (2 ^ 64))) (le-ltb (start + len) (2 ^ 64) far))

-- an ordinal that doesn't fit 64 bits
pub Blocks-high : (left start ordinal taken a b len difference : ℕ) (blocks : List Address) (content : List ℕ) → BlocksOn left start ordinal taken blocks content → 0 < left
    → PairRead taken a b len difference content → 2 ^ 64 ≤ ordinal + difference → index.values_of content ≡ None
Blocks-high zero start ordinal taken a b len difference blocks content r h p high = absurd (omega arith)
Blocks-high (suc left) start ordinal taken a b len difference blocks content r h p high =
    r.found ∙ ap (with_blocks blocks) (addresses_at-more left start ordinal len difference _ _ _ p.first p.second
    ∙ next_address-low left start (start + len) (ordinal + difference) (drop (taken + a + b) content) (nat_lt (start + len) (2 ^ 64)) (nat_lt (ordinal + difference) (2 ^ 64)) (le-ltb (ordinal + difference) (2 ^ 64) high))

blocks-onward : (blocks : List Address) (next : Address) (found : Option (List Address × List ℕ))
    → with_blocks blocks (found >>= (λ others. Some (next ∷ others.0, others.1))) ≡ with_blocks (blocks ++ next ∷ []) found
blocks-onward blocks next None = refl
blocks-onward blocks next (Some others) = ap (λ bs. Some (Listed bs, others.1)) (sym (append_assoc blocks (next ∷ []) others.0))

next_address-fits : (left start end ordinal : ℕ) (rest : List ℕ) → end < 2 ^ 64 → ordinal < 2 ^ 64
    → next_tested left start end ordinal rest ≡ (addresses_at left end ordinal rest >>= (λ others. Some (record { start = start; end = end; first_ordinal = ordinal } ∷ others.0, others.1)))
next_address-fits left start end ordinal rest near low =
    ap (λ b. next_address left start end ordinal rest b (nat_lt ordinal (2 ^ 64))) (lt-ltb end (2 ^ 64) near)
    ∙ ap (λ b. next_address left start end ordinal rest true b) (lt-ltb ordinal (2 ^ 64) low)

-- one more place
pub Blocks-more : (left more start ordinal taken a b len difference : ℕ) (blocks : List Address) (content : List ℕ) → BlocksOn left start ordinal taken blocks content → left ≡ suc more
    → PairRead taken a b len difference content → start + len < 2 ^ 64 → ordinal + difference < 2 ^ 64
    → BlocksOn more (start + len) (ordinal + difference) (taken + a + b) (blocks ++ record { start = start; end = start + len; first_ordinal = ordinal + difference } ∷ []) content
Blocks-more left more start ordinal taken a b len difference blocks content r same p near low =
    let found : index.values_of content ≡ with_blocks blocks (addresses_at (suc more) start ordinal (drop taken content)) = rw same at r.found in
    record {
      within = p.within;
      found = found ∙ ap (with_blocks blocks) (addresses_at-more more start ordinal len difference _ _ _ p.first p.second
          ∙ next_address-fits more start (start + len) (ordinal + difference) (drop (taken + a + b) content) near low)
          ∙ blocks-onward blocks (record { start = start; end = start + len; first_ordinal = ordinal + difference }) (addresses_at more (start + len) (ordinal + difference) (drop (taken + a + b) content));
    }

pub Blocks-end : (start ordinal taken : ℕ) (blocks : List Address) (content : List ℕ) → BlocksOn 0 start ordinal taken blocks content → index.values_of content ≡ Some (Listed blocks, drop taken content)
Blocks-end start ordinal taken blocks content r =
    r.found ∙ ap (with_blocks blocks) (addresses_at-none start ordinal (drop taken content)) ∙ ap (λ bs. Some (Listed bs, drop taken content)) (append-nil blocks)

-- a place is accepted that comes after the last one
pub accepts-then : (items : List Address) (last address d : Address) → 0 < length items → last ≡ get_or items (length items - 1) d
    → address.start ≤ address.end → last.end ≡ address.start → nat_le last.first_ordinal address.first_ordinal ≡ index.accepts (Listed items) address
unfolding index
accepts-then items last address d some is up same =
    sym (rw (le-leb address.start address.end up, last_is-at (comes_after address) items d some, ← is, eq-eqb last.end address.start same) refl)

pub accepts-else : (items : List Address) (last address d : Address) → 0 < length items → last ≡ get_or items (length items - 1) d
    → address.start ≤ address.end → nat_eq last.end address.start ≡ false → false ≡ index.accepts (Listed items) address
unfolding index
accepts-else items last address d some is up apart =
    sym (rw (le-leb address.start address.end up, last_is-at (comes_after address) items d some, ← is, apart) refl)

adjoin_from-more : (start ordinal : ℕ) (a : Address) (blocks : List Address) (b : Address) → adjoin_from start ordinal (a ∷ blocks) ≡ true → nat_le b.start b.end ≡ true
    → last_is (comes_after b) (a ∷ blocks) ≡ true → adjoin_from start ordinal (a ∷ blocks ++ b ∷ []) ≡ true
adjoin_from-more start ordinal a [] b e up after =
    let parts = both-true (nat_le a.start a.end && (nat_eq start a.start && nat_le ordinal a.first_ordinal)) true e in rw (parts.0, up, after) refl
adjoin_from-more start ordinal a (c ∷ blocks) b e up after =
    let parts = both-true (nat_le a.start a.end && (nat_eq start a.start && nat_le ordinal a.first_ordinal)) (adjoin_from a.end a.first_ordinal (c ∷ blocks)) e in
    rw parts.0 (adjoin_from-more a.end a.first_ordinal c blocks b parts.1 up after)

-- places in turn stay so, whether one more was added or not
pub in_turn-kept : (added : Bool) (blocks : List Address) (b : Address) → are_in_turn blocks ≡ true → index.accepts (Listed blocks) b ≡ true → are_in_turn (cond added (blocks ++ b ∷ []) blocks) ≡ true
unfolding index
in_turn-kept false blocks b e may = e
in_turn-kept true [] b e may =
    let up = both-true (nat_le b.start b.end) true may in rw (up.0, eq-eqb b.start b.start refl, le-leb 0 b.first_ordinal (omega arith)) refl
in_turn-kept true (a ∷ blocks) b e may =
    let parts = both-true (nat_le b.start b.end) (last_is (comes_after b) (a ∷ blocks)) may in adjoin_from-more a.start 0 a blocks b e parts.0 parts.1

-- its end and its ordinal fit 64 bits
abbrev pub FitsWords : Address → Type 0
FitsWords address = (address.end < 2 ^ 64) × (address.first_ordinal < 2 ^ 64)

abbrev pub nowhere : Address
nowhere = record { start = 0; end = 0; first_ordinal = 0 }

-- what is so where the first of some places adjoins from a start and an ordinal
pub record Adjoins (start ordinal : ℕ) (a : Address) (blocks : List Address) : Type 0 where
  pub up : a.start ≤ a.end
  pub same : start ≡ a.start
  pub high : ordinal ≤ a.first_ordinal
  pub others : adjoin_from a.end a.first_ordinal blocks ≡ true

adjoin_from-parts : (start ordinal : ℕ) (a : Address) (blocks : List Address) → adjoin_from start ordinal (a ∷ blocks) ≡ true → Adjoins start ordinal a blocks
adjoin_from-parts start ordinal a blocks e =
    let outer = both-true (nat_le a.start a.end && (nat_eq start a.start && nat_le ordinal a.first_ordinal)) (adjoin_from a.end a.first_ordinal blocks) e in
    let inner = both-true (nat_le a.start a.end) (nat_eq start a.start && nat_le ordinal a.first_ordinal) outer.0 in
    let last = both-true (nat_eq start a.start) (nat_le ordinal a.first_ordinal) inner.1 in
    record { up = leb-true _ _ inner.0; same = eqb-true _ _ last.0; high = leb-true _ _ last.1; others = outer.1 }

addresses-again : (blocks : List Address) (start ordinal : ℕ) (rest : List ℕ) → adjoin_from start ordinal blocks ≡ true → ((i : ℕ) → FitsWords (get_or blocks i nowhere))
    → addresses_at (length blocks) start ordinal (addresses ordinal blocks ++ rest) ≡ Some (blocks, rest)
unfolding addresses
addresses-again [] start ordinal rest e fits = addresses_at-none start ordinal rest
addresses-again (a ∷ blocks) start ordinal rest e fits =
    let f = adjoin_from-parts start ordinal a blocks e in
    let more : List ℕ = addresses a.first_ordinal blocks ++ rest in
    let here : FitsWords a = fits 0 in
    let len : vint_at (vint (a.end - a.start) ++ vint (a.first_ordinal - ordinal) ++ addresses a.first_ordinal blocks ++ rest) ≡ Some (a.end - a.start, vint (a.first_ordinal - ordinal) ++ more) =
    simp append_assoc (vint-again (a.end - a.start) (vint (a.first_ordinal - ordinal) ++ more) (omega (arith, here.0))) in
    let difference : vint_at (vint (a.first_ordinal - ordinal) ++ more) ≡ Some (a.first_ordinal - ordinal, more) = vint-again (a.first_ordinal - ordinal) more (omega (arith, here.1)) in
    let end_is : start + (a.end - a.start) ≡ a.end = omega (arith, f.up, f.same) in
    let ordinal_is : ordinal + (a.first_ordinal - ordinal) ≡ a.first_ordinal = omega (arith, f.high) in
    addresses_at-more (length blocks) start ordinal (a.end - a.start) (a.first_ordinal - ordinal) _ _ _ len difference
    ∙ ap (λ end. next_tested (length blocks) start end (ordinal + (a.first_ordinal - ordinal)) more) end_is
    ∙ ap (λ n. next_tested (length blocks) start a.end n more) ordinal_is
    ∙ next_address-fits (length blocks) start a.end a.first_ordinal more here.0 here.1
    ∙ ap (λ o. o >>= (λ others. Some (record { start = start; end = a.end; first_ordinal = a.first_ordinal } ∷ others.0, others.1))) (addresses-again blocks a.end a.first_ordinal rest f.others (λ i. fits (suc i)))
    ∙ ap (λ s. Some (record { start = s; end = a.end; first_ordinal = a.first_ordinal } ∷ blocks, rest)) f.same

-- a loop that writes: the places from i on are left
pub record WritingBlocks (before i : ℕ) (blocks : List Address) (output whole : List ℕ) : Type 0 where
  pub start : ℕ
  pub written : output ++ addresses before (drop i blocks) ≡ whole
  pub in_turn : adjoin_from start before (drop i blocks) ≡ true
  pub fits : (k : ℕ) → k < i → FitsWords (get_or blocks k nowhere)

pub WritingBlocks-begin : (blocks : List Address) (output : List ℕ) → are_in_turn blocks ≡ true
    → WritingBlocks 0 0 blocks (output ++ vint (length blocks) ++ vint (first_start blocks)) (output ++ index.spelled (Listed blocks))
unfolding index
WritingBlocks-begin blocks output e = record {
  start = first_start blocks;
  written = simp append_assoc;
  in_turn = e;
  fits = λ k below. absurd (omega arith);
}

regroup : (o x y z : List ℕ) → o ++ x ++ y ++ z ≡ o ++ (x ++ y ++ z)
regroup o x y z = simp append_assoc

-- what the next place is, and the loop after it
pub record WritesBlock (before i : ℕ) (blocks : List Address) (output whole : List ℕ) (a : Address) : Type 0 where
  pub up : a.start ≤ a.end
  pub high : before ≤ a.first_ordinal
  pub onward : a.end < 2 ^ 64 → a.first_ordinal < 2 ^ 64 → WritingBlocks a.first_ordinal (i + 1) blocks (output ++ vint (a.end - a.start) ++ vint (a.first_ordinal - before)) whole

pub WritingBlocks-more : (before i : ℕ) (blocks : List Address) (output whole : List ℕ) (a : Address) → WritingBlocks before i blocks output whole → i < length blocks
    → a ≡ get_or blocks i nowhere → WritesBlock before i blocks output whole a
unfolding addresses
WritingBlocks-more before i blocks output whole a w h is =
    let others = drop (i + 1) blocks in
    let e : drop i blocks ≡ a ∷ others = drop_more blocks i nowhere h ∙ ap (λ b. b ∷ others) (sym is) in
    let f : Adjoins w.start before a others = adjoin_from-parts w.start before a others (ap (adjoin_from w.start before) (sym e) ∙ w.in_turn) in
    record {
      up = f.up;
      high = f.high;
      onward = λ near low. record {
        start = a.end;
        written = regroup output (vint (a.end - a.start)) (vint (a.first_ordinal - before)) (addresses a.first_ordinal others)
            ∙ ap (λ bs. output ++ addresses before bs) (sym e) ∙ w.written;
        in_turn = f.others;
        fits = below_more (λ k. FitsWords (get_or blocks k nowhere)) i w.fits (subst FitsWords is (near, low));
      };
    }

pub WritingBlocks-end : (before i : ℕ) (blocks : List Address) (output whole : List ℕ) → WritingBlocks before i blocks output whole → length blocks ≤ i → output ≡ whole
unfolding addresses
WritingBlocks-end before i blocks output whole w h = sym (append-nil output) ∙ ap (λ bs. output ++ addresses before bs) (sym (drop_all i blocks h)) ∙ w.written

-- the places that were written fit, and there is none past them
pub all_fit : (blocks : List Address) (n : ℕ) → ((k : ℕ) → k < n → FitsWords (get_or blocks k nowhere)) → length blocks ≤ n → (i : ℕ) → FitsWords (get_or blocks i nowhere)
all_fit blocks n fits h i = by (nat_lt i (length blocks)) refl
  where
    by : (b : Bool) → nat_lt i (length blocks) ≡ b → FitsWords (get_or blocks i nowhere)
    by true e = fits i (omega (arith, ltb-true i (length blocks) e))
    by false e = rw (get_or_past blocks i nowhere (ltb-false i (length blocks) e)) (omega arith, omega arith)

first_fits : (blocks : List Address) → are_in_turn blocks ≡ true → ((i : ℕ) → FitsWords (get_or blocks i nowhere)) → first_start blocks < 2 ^ 64
first_fits [] e fits = omega arith
first_fits (a ∷ blocks) e fits = omega (arith, (adjoin_from-parts a.start 0 a blocks e).up, (fits 0).0)

-- places that were written are read again
pub index-again : (blocks : List Address) (rest : List ℕ) → length blocks < 2 ^ 64 → are_in_turn blocks ≡ true → ((i : ℕ) → FitsWords (get_or blocks i nowhere))
    → index.values_of (index.spelled (Listed blocks) ++ rest) ≡ Some (Listed blocks, rest)
unfolding index
index-again blocks rest short e fits =
    let more : List ℕ = addresses 0 blocks ++ rest in
    let count : vint_at (vint (length blocks) ++ vint (first_start blocks) ++ addresses 0 blocks ++ rest) ≡ Some (length blocks, vint (first_start blocks) ++ more) =
    simp append_assoc (vint-again (length blocks) (vint (first_start blocks) ++ more) short) in
    ap (λ o. o >>= after_count) count
    ∙ ap (λ o. o >>= after_start (length blocks)) (vint-again (first_start blocks) more (first_fits blocks e fits))
    ∙ ap (λ o. o >>= (λ found. Some (Listed found.0, found.1))) (addresses-again blocks (first_start blocks) 0 rest e fits)
