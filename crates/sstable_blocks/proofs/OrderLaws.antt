-- Laws of the order of keys, and of what they have in common.
use Rattle.std.proofs.Common.{◌≡◌, ◌≢◌, ◌⊎◌, ⊎_elim, inl, inr, ℕ, zero, suc, ◌+◌, ◌<◌, ◌≤◌, [], ◌∷◌, ◌++◌, length, take, drop, Bool, true, false, cond, refl, ap, sym, ◌∙◌, arith, length-take}
use Rattle.std.specs.Prelude.{nat_eq, min}
use Rattle.std.specs.Ordering.{nat_cmp, ordering_then}
use Rattle.std.specs.declared.cmp.Ordering.TheVariants.{Less, Equal, Greater}
use Rattle.std.proofs.lemmas.Bool.{eq-eqb, eqb-true}
use Rattle.std.proofs.lemmas.Bool.Decides.{nat_tests}
use Rattle.std.proofs.lemmas.Cmp.{ranked, by_ranked}
use Rattle.std.proofs.lemmas.List.{take-append-drop}
use Rattle.std.proofs.lemmas.List.Sums.{common_prefix_len-le}
use Rattle.owned_bytes.specs.Keys.{Key, is_below, is_less, shared}
use Rattle.sstable_blocks.specs.Comparing.{order}

less-is : (a b : ℕ) → a < b → nat_cmp a b ≡ Less
less-is a b h = grind (arith, nat_tests)

greater-is : (a b : ℕ) → b < a → nat_cmp a b ≡ Greater
greater-is a b h = grind (arith, nat_tests)

equal-is : (a b : ℕ) → a ≡ b → nat_cmp a b ≡ Equal
equal-is a b h = grind (arith, nat_tests)

other-is : (a b : ℕ) → a ≢ b → nat_eq a b ≡ false
other-is a b h = grind (arith, nat_tests, h)

pub order-same : (a b : ℕ) (xs ys : Key) → a ≡ b → order (a ∷ xs) (b ∷ ys) ≡ order xs ys
order-same a b xs ys e = ap (λ o. ordering_then o (order xs ys)) (equal-is a b e)

pub order-less : (a b : ℕ) (xs ys : Key) → a < b → order (a ∷ xs) (b ∷ ys) ≡ Less
order-less a b xs ys h = ap (λ o. ordering_then o (order xs ys)) (less-is a b h)

pub order-greater : (a b : ℕ) (xs ys : Key) → b < a → order (a ∷ xs) (b ∷ ys) ≡ Greater
order-greater a b xs ys h = ap (λ o. ordering_then o (order xs ys)) (greater-is a b h)

pub shared-same : (a b : ℕ) (xs ys : Key) → a ≡ b → shared (a ∷ xs) (b ∷ ys) ≡ 1 + shared xs ys
shared-same a b xs ys e = ap (λ t. cond t (1 + shared xs ys) 0) (eq-eqb a b e)

pub shared-other : (a b : ℕ) (xs ys : Key) → a ≢ b → shared (a ∷ xs) (b ∷ ys) ≡ 0
shared-other a b xs ys n = ap (λ t. cond t (1 + shared xs ys) 0) (other-is a b n)

-- the same bytes before both change neither their order nor what they share behind them
pub order-append : (front xs ys : Key) → order (front ++ xs) (front ++ ys) ≡ order xs ys
order-append [] xs ys = refl
order-append (x ∷ front) xs ys = order-same x x (front ++ xs) (front ++ ys) refl ∙ order-append front xs ys

pub shared-append : (front xs ys : Key) → shared (front ++ xs) (front ++ ys) ≡ length front + shared xs ys
shared-append [] xs ys = omega arith
shared-append (x ∷ front) xs ys =
    let here = shared-same x x (front ++ xs) (front ++ ys) refl in
    let there = shared-append front xs ys in
    omega (arith, here, there)

-- A key between: what the last key has in common with the next one and with the target decides.
pub record Decided (last key target : Key) : Type 0 where
  pub longer : shared last target < shared last key → (order key target ≡ Less) × (shared key target ≡ shared last target)
  pub shorter : shared last key < shared last target → order key target ≡ Greater

-- where one key is used up, the lengths decide
pub at-end : (i : ℕ) (left right : Key) → i ≤ length left → i ≤ length right → (length left ≤ i) ⊎ (length right ≤ i)
    → (shared (drop i left) (drop i right) ≡ 0) × (order (drop i left) (drop i right) ≡ nat_cmp (length left) (length right))
at-end zero [] [] h k e = (refl, refl)
at-end zero [] (b ∷ right) h k e = (refl, sym (less-is 0 (length (b ∷ right)) (omega arith)))
at-end zero (a ∷ left) [] h k e = (refl, sym (greater-is (length (a ∷ left)) 0 (omega arith)))
at-end zero (a ∷ left) (b ∷ right) h k e = absurd (⊎_elim (λ (x : length (a ∷ left) ≤ 0). omega arith) (λ (x : length (b ∷ right) ≤ 0). omega arith) e)
at-end (suc i) [] right h k e = absurd (omega arith)
at-end (suc i) (a ∷ left) [] h k e = absurd (omega arith)
at-end (suc i) (a ∷ left) (b ∷ right) h k e =
    let behind = at-end i left right (omega arith) (omega arith) (⊎_elim (λ (x : length (a ∷ left) ≤ suc i). inl (omega arith)) (λ (x : length (b ∷ right) ≤ suc i). inr (omega arith)) e) in
    (behind.0, behind.1 ∙ one-more (length left) (length right))
  where
    one-more : (m n : ℕ) → nat_cmp m n ≡ nat_cmp (suc m) (suc n)
    one-more m n = by_ranked (m < n) (m ≡ n) (n < m) (nat_cmp m n) (ranked m n (nat_cmp m n) refl) (λ e h. e ∙ sym (less-is (suc m) (suc n) (omega arith)))
        (λ e h. e ∙ sym (equal-is (suc m) (suc n) (omega arith))) (λ e h. e ∙ sym (greater-is (suc m) (suc n) (omega arith)))

-- What the last key has in common with the next one and with the target decides, unless it is as much.
pub decided : (last key target : Key) → is_below last key ≡ true → order last target ≢ Greater → Decided last key target
decided [] key target below under = record { longer = λ h. absurd (omega arith); shorter = λ h. absurd (omega arith) }
decided (a ∷ last) [] target below under = absurd cc
decided (a ∷ last) (k ∷ key) [] below under = absurd (under refl)
decided (a ∷ last) (k ∷ key) (t ∷ target) below under =
    by_ranked (a < k) (a ≡ k) (k < a) (nat_cmp a k) (ranked a k (nat_cmp a k) refl)
    (λ e less.
    by_ranked (a < t) (a ≡ t) (t < a) (nat_cmp a t) (ranked a t (nat_cmp a t) refl)
    (λ f h. let none = shared-other a t last target (λ same. omega arith) in let none' = shared-other a k last key (λ same. omega arith) in
    record { longer = λ x. absurd (omega (arith, none')); shorter = λ x. absurd (omega (arith, none)) })
    (λ f same. let none' = shared-other a k last key (λ same. omega arith) in
    record { longer = λ x. absurd (omega (arith, none')); shorter = λ x. order-greater k t key target (omega arith) })
    (λ f h. absurd (under (order-greater a t last target h))))
    (λ e same.
    by_ranked (a < t) (a ≡ t) (t < a) (nat_cmp a t) (ranked a t (nat_cmp a t) refl)
    (λ f h. let none = shared-other a t last target (λ same. omega arith) in
    record { longer = λ x. (order-less k t key target (omega arith), shared-other k t key target (λ alike. omega arith) ∙ sym none); shorter = λ x. absurd (omega (arith, none)) })
    (λ f same'.
    let behind = decided last key target (ap is_less (sym (order-same a k last key same)) ∙ below) (λ x. under (order-same a t last target same' ∙ x)) in
    let with_key = shared-same a k last key same in
    let with_target = shared-same a t last target same' in
    let both : k ≡ t = omega arith in
    record {
      longer = λ x. let is = behind.longer (omega (arith, with_key, with_target)) in (order-same k t key target both ∙ is.0, shared-same k t key target both ∙ ap (λ n. 1 + n) is.1 ∙ sym with_target);
      shorter = λ x. order-same k t key target both ∙ behind.shorter (omega (arith, with_key, with_target));
    })
    (λ f h. absurd (under (order-greater a t last target h))))
    (λ e h. absurd (let above = ap is_less (order-greater a k last key h) in let wrong : false ≡ true = sym above ∙ below in cc))

one-more-taken : (n z : ℕ) (zs : Key) → take (1 + n) (z ∷ zs) ≡ z ∷ take n zs
one-more-taken n z zs = let more : 1 + n ≡ suc n = omega arith in ap (λ m. take m (z ∷ zs)) more

-- the bytes that two keys have in common
pub shared-front : (a b : Key) → take (shared a b) a ≡ take (shared a b) b
shared-front [] b = refl
shared-front (x ∷ a) [] = refl
shared-front (x ∷ a) (y ∷ b) = by_byte (nat_eq x y) refl (shared-front a b)
  where
    by_byte : (t : Bool) → nat_eq x y ≡ t → take (shared a b) a ≡ take (shared a b) b → take (cond t (1 + shared a b) 0) (x ∷ a) ≡ take (cond t (1 + shared a b) 0) (y ∷ b)
    by_byte false e front = refl
    by_byte true e front = one-more-taken (shared a b) x a ∙ ap (λ z. z ∷ take (shared a b) a) (eqb-true x y e) ∙ ap (λ zs. y ∷ zs) front ∙ sym (one-more-taken (shared a b) y b)

-- keys that were looked at up to the end of one of them
pub ends : (i most : ℕ) (left right : Key) → i ≡ most → most ≡ min (length left) (length right)
    → (i + shared (drop i left) (drop i right) ≡ most) × (order (drop i left) (drop i right) ≡ nat_cmp (length left) (length right))
ends i most left right same least =
    let used : (length left ≤ i) ⊎ (length right ≤ i) = elim (le_total' (length left) (length right)) [ inl h ↦ inl (omega (arith, least)) | inr h ↦ inr (omega (arith, least)) ] in
    let behind = at-end i left right (omega (arith, least)) (omega (arith, least)) used in
    (omega (arith, behind.0), behind.1)
  where
    le_total' : (m n : ℕ) → (m ≤ n) ⊎ (n ≤ m)
    le_total' m n = by_ranked (m < n) (m ≡ n) (n < m) (nat_cmp m n) (ranked m n (nat_cmp m n) refl) (λ e h. inl (omega arith)) (λ e h. inl (omega arith)) (λ e h. inr (omega arith))

-- A key whose first bytes are those that another key shares with the target.
pub compared-behind : (target last suffix : Key) → (order (take (shared last target) last ++ suffix) target ≡ order suffix (drop (shared last target) target))
    × (shared (take (shared last target) last ++ suffix) target ≡ shared last target + shared suffix (drop (shared last target) target))
compared-behind target last suffix =
    let n = shared last target in
    let within : n ≤ length target = (common_prefix_len-le nat_eq last target).1 in
    let parts : target ≡ take n target ++ drop n target = sym (take-append-drop n target) in
    let front : take n last ≡ take n target = shared-front last target in
    let long : length (take n target) ≡ n = simp length-take (omega (arith, within)) in (
      ap (λ f. order (f ++ suffix) target) front ∙ ap (order (take n target ++ suffix)) parts ∙ order-append (take n target) suffix (drop n target),
      ap (λ f. shared (f ++ suffix) target) front ∙ ap (shared (take n target ++ suffix)) parts ∙ shared-append (take n target) suffix (drop n target) ∙ ap (λ m. m + shared suffix (drop n target)) long,
    )
