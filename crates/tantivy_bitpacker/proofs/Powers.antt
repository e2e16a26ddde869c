-- Fields of numbers, cut at powers of two.
use Rattle.std.proofs.Common.{◌≡◌, ℕ, ◌+◌, ◌-◌, ◌*◌, ◌/◌, ◌%◌, ◌^◌, ◌<◌, ◌≤◌, ap, sym, ◌∙◌, arith}
use Rattle.std.proofs.lemmas.Nat.{pow_pos, mod-pow-add, field_of, mod_low}
use Rattle.std.proofs.Math.Nat.{add-mul-mod_self_left, add-mul-div_left, mod-lt}

pub mod_pow-lt : (x n : ℕ) → x % 2 ^ n < 2 ^ n
mod_pow-lt x n = mod-lt x (pow_pos n)

-- a number modulo a power, and then modulo a lower one
pub mod-mod_pow : (x n w : ℕ) → w ≤ n → x % 2 ^ n % 2 ^ w ≡ x % 2 ^ w
mod-mod_pow x n w le =
    let split : n ≡ (n - w) + w = omega arith in
    ap (λ m. x % 2 ^ m % 2 ^ w) split ∙ ap (λ m. m % 2 ^ w) (mod-pow-add x (n - w) w) ∙ mod_low (x / 2 ^ w % 2 ^ (n - w)) w (x % 2 ^ w) (mod_pow-lt x w)

-- a field within the low bits of a number
pub field_within : (x n s w : ℕ) → s + w ≤ n → x % 2 ^ n / 2 ^ s % 2 ^ w ≡ x / 2 ^ s % 2 ^ w
field_within x n s w le =
    let split : n ≡ (n - s) + s = omega arith in
    ap (λ m. x % 2 ^ m / 2 ^ s % 2 ^ w) split ∙ ap (λ m. m % 2 ^ w) (field_of x (n - s) s) ∙ mod-mod_pow (x / 2 ^ s) (n - s) w (omega arith)

-- what is added above a power leaves the low bits
pub mod-add_high : (x n y : ℕ) → (x + 2 ^ n * y) % 2 ^ n ≡ x % 2 ^ n
mod-add_high x n y = add-mul-mod_self_left x (2 ^ n) y

-- what is added above a power is added to the quotient
pub div-add_high : (x n y : ℕ) → (x + 2 ^ n * y) / 2 ^ n ≡ x / 2 ^ n + y
div-add_high x n y = add-mul-div_left x y (pow_pos n)

-- what is added above a field leaves it
pub field-add_high : (x n y s w : ℕ) → s + w ≤ n → (x + 2 ^ n * y) / 2 ^ s % 2 ^ w ≡ x / 2 ^ s % 2 ^ w
field-add_high x n y s w le =
    sym (field_within (x + 2 ^ n * y) n s w le) ∙ ap (λ m. m / 2 ^ s % 2 ^ w) (mod-add_high x n y) ∙ field_within x n s w le
