use Rattle.std.proofs.Common.{◌≡◌, ◌+◌, ◌-◌, ◌<◌, ◌≤◌, ℕ, List, length, drop, get_or, false, ap, sym, ◌∙◌, arith}
use Rattle.std.specs.Prelude.{nat_le, ◌&&◌}
use Rattle.std.proofs.lemmas.Bool.{le-leb, lt-leb}
use Rattle.block_addresses.specs.Written.{steps_upto}
use Rattle.block_addresses.proofs.WriteSteps.{steps-more, steps-end}
use Rattle.block_addresses.proofs.writing.steps_upto.Goals as goal
use Rattle.block_addresses.proofs.writing.steps_upto.Goals.{then-number-before-via-then-number-before, then-number-before-via-else-number-before+then-number-before-2}

-- a step down
falls : (most : ℕ) (numbers : List ℕ) (i : ℕ) → 0 < i → i < length numbers → get_or numbers i 0 < get_or numbers (i - 1) 0 → steps_upto most (drop (i - 1) numbers) ≡ false
falls most numbers i some below low =
    steps-more most numbers i some below ∙ ap (λ t. t && (nat_le (get_or numbers i 0) (get_or numbers (i - 1) 0 + most) && steps_upto most (drop i numbers))) (lt-leb (get_or numbers (i - 1) 0) (get_or numbers i 0) low)

-- a step that is too high
jumps : (most : ℕ) (numbers : List ℕ) (i : ℕ) → 0 < i → i < length numbers → get_or numbers (i - 1) 0 ≤ get_or numbers i 0 → get_or numbers (i - 1) 0 + most < get_or numbers i 0 → steps_upto most (drop (i - 1) numbers) ≡ false
jumps most numbers i some below high far =
    steps-more most numbers i some below ∙ ap (λ t. t && (nat_le (get_or numbers i 0) (get_or numbers (i - 1) 0 + most) && steps_upto most (drop i numbers))) (le-leb (get_or numbers (i - 1) 0) (get_or numbers i 0) high)
    ∙ ap (λ t. t && steps_upto most (drop i numbers)) (lt-leb (get_or numbers i 0) (get_or numbers (i - 1) 0 + most) far)

-- a step as it may be
goes_on : (most : ℕ) (numbers : List ℕ) (i : ℕ) → 0 < i → i < length numbers → get_or numbers (i - 1) 0 ≤ get_or numbers i 0 → get_or numbers i 0 ≤ get_or numbers (i - 1) 0 + most
    → steps_upto most (drop (i - 1) numbers) ≡ steps_upto most (drop i numbers)
goes_on most numbers i some below high near =
    steps-more most numbers i some below ∙ ap (λ t. t && (nat_le (get_or numbers i 0) (get_or numbers (i - 1) 0 + most) && steps_upto most (drop i numbers))) (le-leb (get_or numbers (i - 1) 0) (get_or numbers i 0) high)
    ∙ ap (λ t. t && steps_upto most (drop i numbers)) (le-leb (get_or numbers i 0) (get_or numbers (i - 1) 0 + most) near)

pub returns-then-number-before : goal.returns-then-number-before
returns-then-number-before c =
    elim c.then-number-before.branch [
      | then-number-before-via-then-number-before w ↦ sym (falls c.args.most c.args.numbers.now c.loop-i.i (omega arith) (omega arith) (omega (arith, w.if-number-before.true))) ∙ c.loop-i.invariant
      | then-number-before-via-else-number-before+then-number-before-2 w ↦
          sym (jumps c.args.most c.args.numbers.now c.loop-i.i (omega arith) (omega arith) (omega (arith, w.if-number-before.false)) (omega (arith, w.if-number-before.false, w.if-number-before-2.true))) ∙ c.loop-i.invariant
    ]

pub loop-i-preserved : goal.loop-i-preserved
loop-i-preserved c =
    let next : c.loop-i.i + 1 - 1 ≡ c.loop-i.i = omega arith in
    ap (λ n. steps_upto c.args.most (drop n c.args.numbers.now)) next
    ∙ sym (goes_on c.args.most c.args.numbers.now c.loop-i.i (omega arith) (omega arith) (omega (arith, c.if-number-before.false)) (omega (arith, c.if-number-before.false, c.if-number-before-2.false))) ∙ c.loop-i.invariant

pub returns : goal.returns
returns c = sym (steps-end c.args.most c.args.numbers.now c.loop-i.i (omega arith)) ∙ c.loop-i.invariant
