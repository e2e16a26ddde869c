use Rattle.std.specs.Prelude.{ℤ, pos, negsuc, ◌<ℤ◌, FitsSigned, ◌↔◌}
use Rattle.std.specs.Int.{w64}
use Rattle.std.proofs.Common.{◌≡◌, ◌<◌, ap, arith}
use Rattle.std.proofs.lemmas.Int.{ints}
use Rattle.common_wire.specs.Numbers.{shifted_up}
use Rattle.common_wire.proofs.laws.signed_numbers_keep_their_order.Goals as goal

apart : (a b : ℤ) → FitsSigned w64 a → FitsSigned w64 b → shifted_up a ≡ shifted_up b → a ≡ b
apart (pos n) (pos m) fa fb e = let same : n ≡ m = omega (arith, e) in ap pos same
apart (pos n) (negsuc m) fa fb e = absurd (omega (arith, e, fb.sfits))
apart (negsuc n) (pos m) fa fb e = absurd (omega (arith, e, fa.sfits))
apart (negsuc n) (negsuc m) fa fb e = let same : n ≡ m = omega (arith, e, fa.sfits, fb.sfits) in ap negsuc same

order : (a b : ℤ) → FitsSigned w64 a → FitsSigned w64 b → (a <ℤ b) ↔ (shifted_up a < shifted_up b)
order (pos n) (pos m) fa fb = (λ h. omega (arith, ints, h), λ h. omega (arith, ints, h))
order (pos n) (negsuc m) fa fb = (λ h. omega (arith, ints, h), λ h. absurd (omega (arith, h, fb.sfits)))
order (negsuc n) (pos m) fa fb = (λ h. omega (arith, fa.sfits), λ h. omega (arith, ints))
order (negsuc n) (negsuc m) fa fb = (λ h. omega (arith, ints, h, fa.sfits, fb.sfits), λ h. omega (arith, ints, h, fa.sfits, fb.sfits))

pub returns-clause-apart : goal.returns-clause-apart
returns-clause-apart c = apart

pub returns-clause-order : goal.returns-clause-order
returns-clause-order c = order
