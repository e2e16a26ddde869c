-- Depths that stop at the greatest number.
use Rattle.std.proofs.Common.{◌≡◌, ◌∙◌, ap, ℕ, min, max, arith}
use Rattle.query_tree.specs.Printing.{Expression, Term, Prefix, Range, Set, Exists, Not, And, Or, depth, depth_under_and}

capped : (e : Expression) (n top : ℕ) → min (depth_under_and e (min n top)) top ≡ min (depth_under_and e n) top
capped (Or a b) n top = omega arith
capped (And a b) n top = omega arith
capped (Not a) n top = omega arith
capped (Term f t) n top = omega arith
capped (Prefix f t) n top = omega arith
capped (Range f l u) n top = omega arith
capped (Set f ts) n top = omega arith
capped (Exists f) n top = omega arith

pub both_capped : (a b : Expression) (result left right under_left under_right top : ℕ) → left ≡ min (depth a) top → right ≡ min (depth b) top
    → under_left ≡ min (depth_under_and a left) top → under_right ≡ min (depth_under_and b right) top → result ≡ max under_left under_right
    → result ≡ min (max (depth_under_and a (depth a)) (depth_under_and b (depth b))) top
both_capped a b result left right under_left under_right top h k p q r =
    let l : under_left ≡ min (depth_under_and a (depth a)) top = p ∙ ap (λ x. min (depth_under_and a x) top) h ∙ capped a (depth a) top in
    let s : under_right ≡ min (depth_under_and b (depth b)) top = q ∙ ap (λ x. min (depth_under_and b x) top) k ∙ capped b (depth b) top in
    omega (arith, r, l, s)
