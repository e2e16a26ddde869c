use Rattle.std.specs.Prelude.{◌==◌, if◌then◌else◌}
use Rattle.std.proofs.Common.{sym, ◌≡◌, ℕ, zero, suc, ◌<◌, List, [], ◌∷◌, ◌++◌, length, take, drop, map, get_or, refl, ap, ◌∙◌, add-one, arith}
use Rattle.std.proofs.Math.ListN.{set}
use Rattle.common_wire.proofs.numbers.replace_in_place.Goals as goal

-- one more element of a list was changed
mapped_more : (f : ℕ → ℕ) (all : List ℕ) (i : ℕ) → i < length all → set (map f (take i all) ++ drop i all) i (f (get_or all i 0)) ≡ map f (take (suc i) all) ++ drop (suc i) all
mapped_more f [] i h = absurd (omega arith)
mapped_more f (a ∷ all) zero h = refl
mapped_more f (a ∷ all) (suc i) h = ap (λ l. f a ∷ l) (mapped_more f all i (omega arith))

mapped_next : (f : ℕ → ℕ) (all : List ℕ) (i : ℕ) → i < length all → get_or (map f (take i all) ++ drop i all) i 0 ≡ get_or all i 0
mapped_next f [] i h = absurd (omega arith)
mapped_next f (a ∷ all) zero h = refl
mapped_next f (a ∷ all) (suc i) h = mapped_next f all i (omega arith)

pub loop-b-preserved : goal.loop-b-preserved
loop-b-preserved c =
    let f : ℕ → ℕ = λ b. if b == c.args.needle then c.args.replacement else b in
    let all = c.args.bytes.now in
    let i = c.loop-b.b-index in
    let same : get_or c.loop-b.bytes i 0 ≡ get_or all i 0 = ap (λ (l : List ℕ). get_or l i 0) c.loop-b.invariant ∙ mapped_next f all i c.loop-b-test.true in
    let value : c.replace.result ≡ f (get_or all i 0) = c.replace.ensures ∙ ap f same in
    ap (λ (l : List ℕ). set l i c.replace.result) c.loop-b.invariant ∙ ap (λ (v : ℕ). set (map f (take i all) ++ drop i all) i v) value
    ∙ mapped_more f all i c.loop-b-test.true ∙ ap (λ (n : ℕ). map f (take n all) ++ drop n all) (sym (add-one i))
