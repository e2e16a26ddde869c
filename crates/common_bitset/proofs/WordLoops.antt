-- A loop that applies an operation to each word, and counts.
use Rattle.std.proofs.Common.{◌≡◌, ℕ, zero, suc, ◌+◌, ◌*◌, ◌<◌, ◌≤◌, ◌++◌, List, length, set, get_or, take, drop, refl, sym, ap, ◌∙◌, arith, inl, inr, add-one, get_or-set_same, get_or-set_other, append-nil}
use Rattle.std.specs.FinSet.{empty, len}
use Rattle.std.proofs.lemmas.Bool.{cases_eq, cases_lt}
use Rattle.std.proofs.lemmas.List.{get_or_default, get_or_past, take_all, drop_all}
use Rattle.common_bitset.specs.Numbers.{Numbers}
use Rattle.common_bitset.specs.Subset.{word_at}
use Rattle.common_bitset.specs.Counts.{total}

-- the first k words are done, and have count elements
pub record Applied (op : Numbers → Numbers → Numbers) (old : List Numbers) (right : ℕ → Numbers) (left : List Numbers) (k count : ℕ) : Type 0 where
  pub done : (j : ℕ) → j < k → word_at left j ≡ op (word_at old j) (right j)
  pub to_do : (j : ℕ) → k ≤ j → word_at left j ≡ word_at old j
  pub counted : count ≡ total k (word_at left)
  pub few : count ≤ 64 * k

total_same : (k : ℕ) (word word' : ℕ → Numbers) → ((j : ℕ) → j < k → word j ≡ word' j) → total k word ≡ total k word'
total_same zero word word' agree = refl
total_same (suc k) word word' agree = λ i. total_same k word word' (λ j h. agree j (omega arith)) i + len (agree k (omega arith) i)

pub Applied-more : {op : Numbers → Numbers → Numbers} {old : List Numbers} {right : ℕ → Numbers} {left : List Numbers} {k count : ℕ} (x y w : Numbers) (n : ℕ)
    → Applied op old right left k count → k < length left → x ≡ get_or left k x → y ≡ right k
    → w ≡ op x y → n ≡ len w → n ≤ 64 → Applied op old right (set left k w) (k + 1) (count + n)
Applied-more {op} {old} {right} {left} {k} {count} x y w n so_far within read_x read_y is counts small = record {
  done = λ j h. done j (omega arith);
  to_do = λ j h. get_or-set_other left k j w empty (λ e. omega arith) ∙ so_far.to_do j (omega arith);
  counted = (λ i. so_far.counted i + counts i) ∙ (λ i. total_same k (word_at left) (word_at (set left k w)) (λ j h. sym (get_or-set_other left k j w empty (λ e. omega arith))) i + len (sym here i))
      ∙ ap (λ m. total m (word_at (set left k w))) (sym (add-one k));
  few = let before = so_far.few in omega (arith, before);
}
  where
    here : word_at (set left k w) k ≡ w
    here = get_or-set_same left k w empty within

    old_word : x ≡ word_at old k
    old_word = read_x ∙ get_or_default left k x empty within ∙ so_far.to_do k (omega arith)

    done : (j : ℕ) → j ≤ k → word_at (set left k w) j ≡ op (word_at old j) (right j)
    done j h = elim (cases_eq j k) as (λ _. word_at (set left k w) j ≡ op (word_at old j) (right j)) [
      | inl e ↦ ap (word_at (set left k w)) e ∙ here ∙ is ∙ (λ i. op (old_word i) (read_y i)) ∙ (λ i. op (word_at old (sym e i)) (right (sym e i)))
      | inr ne ↦ get_or-set_other left k j w empty ne ∙ so_far.done j (omega arith)
    ]

pub Applied-all : {op : Numbers → Numbers → Numbers} {old : List Numbers} {right : ℕ → Numbers} {left : List Numbers} {k count : ℕ} → Applied op old right left k count
    → length left ≤ k → length old ≡ length left → ((j : ℕ) → length left ≤ j → right j ≡ empty) → op empty empty ≡ empty → (j : ℕ) → word_at left j ≡ op (word_at old j) (right j)
Applied-all {op} {old} {right} {left} {k} {count} all long same_old past nothing j =
    elim (cases_lt j k) as (λ _. word_at left j ≡ op (word_at old j) (right j)) [
      | inl h ↦ all.done j h
      | inr h ↦ get_or_past left j empty (omega arith) ∙ sym nothing ∙ (λ i. op (sym (get_or_past old j empty (omega arith)) i) (sym (past j (omega arith)) i))
    ]

-- what a whole slice that was lent leaves in its vector
pub lent_whole : (items new : List Numbers) (n : ℕ) → length new ≡ length items → n ≡ length items → take n (new ++ drop (length new) items) ≡ new
lent_whole items new n same whole =
    ap (λ rest. take n (new ++ rest)) (drop_all (length new) items (omega arith)) ∙ ap (take n) (append-nil new) ∙ take_all n new (omega arith)

-- the first k words are done
pub record Mapped (op : Numbers → Numbers) (old words : List Numbers) (k : ℕ) : Type 0 where
  pub done : (j : ℕ) → j < k → word_at words j ≡ op (word_at old j)
  pub to_do : (j : ℕ) → k ≤ j → word_at words j ≡ word_at old j
