-- How keys stand against a bound.
use Rattle.std.proofs.Common.{◌≡◌, ℕ, [], ◌∷◌, unwrap_or, Bool, true, Option, Some, None, refl, ap, sym, ◌∙◌, subst}
use Rattle.std.specs.Prelude.{nat_eq, not, IfSome}
use Rattle.std.specs.Ordering.{ordering_index, ordering_reverse}
use Rattle.std.proofs.lemmas.Cmp.{nat_list_cmp_total}
use Rattle.std.specs.declared.cmp.Ordering.{Ordering}
use Rattle.std.specs.declared.cmp.Ordering.TheVariants.{Less, Equal, Greater}
use Rattle.std.specs.declared.ops.Bound.{Bound}
use Rattle.std.specs.declared.ops.Bound.TheVariants.{Included, Excluded}
use Rattle.owned_bytes.specs.Keys.{Key, is_less, is_below}
use Rattle.sstable_blocks.specs.Comparing.{order, Compares}
use Rattle.sstable_streams.specs.Between.{is_above_lower, is_below_upper, target_of}
use Rattle.sstable_streams.specs.Knowing.{ComesBehind, next_key}

greater-reversed : (o : Ordering) → nat_eq (ordering_index o) 2 ≡ is_less (ordering_reverse o)
greater-reversed Less = refl
greater-reversed Equal = refl
greater-reversed Greater = refl

-- whether a key lies above a target, by the order of the key against that
is-above : (target key : Key) (o : Ordering) (matched : ℕ) → Compares target key o matched → nat_eq (ordering_index o) 2 ≡ is_below target key
is-above target key o matched compared =
    greater-reversed o ∙ ap (λ p. is_less (ordering_reverse p)) compared.right ∙ ap is_less (sym (nat_list_cmp_total.antisymm target key))

pub above-excluded : (bound : Bound Key) (target key : Key) (o : Ordering) (matched : ℕ) (answer : Bool) → bound ≡ Excluded target → IfSome (target_of bound) (λ t. Compares t key o matched)
    → answer ≡ nat_eq (ordering_index o) 2 → answer ≡ is_above_lower bound key
above-excluded bound target key o matched answer is compared test =
    test ∙ is-above target key o matched (subst (λ b. IfSome (target_of b) (λ t. Compares t key o matched)) is compared) ∙ ap (λ b. is_above_lower b key) (sym is)

pub below-included : (bound : Bound Key) (target key : Key) (o : Ordering) (matched : ℕ) (answer : Bool) → bound ≡ Included target → IfSome (target_of bound) (λ t. Compares t key o matched)
    → answer ≡ not (nat_eq (ordering_index o) 2) → answer ≡ is_below_upper bound key
below-included bound target key o matched answer is compared test =
    test ∙ ap not (is-above target key o matched (subst (λ b. IfSome (target_of b) (λ t. Compares t key o matched)) is compared)) ∙ ap (λ b. is_below_upper b key) (sym is)

less-is : (o : Ordering) → is_less o ≡ true → o ≡ Less
less-is Less e = refl
less-is Equal e = absurd cc
less-is Greater e = absurd cc

pub is-greater : (o : Ordering) → nat_eq (ordering_index o) 2 ≡ true → o ≡ Greater
is-greater Less e = absurd cc
is-greater Equal e = absurd cc
is-greater Greater e = refl

none-above : (target : Key) → order [] target ≡ Greater → ⊥
none-above [] e = cc
none-above (t ∷ target) e = cc

-- what lies behind a key above the target lies above it too
still-above : (last key target : Key) → order last target ≡ Greater → is_below last key ≡ true → order key target ≡ Greater
still-above last key target above behind =
    let under : order target last ≡ Less = nat_list_cmp_total.antisymm target last ∙ ap ordering_reverse above in
    nat_list_cmp_total.antisymm key target ∙ ap ordering_reverse (nat_list_cmp_total.trans target last key under (less-is (order last key) behind))

pub stays-above : (found : Option Key) (last : Option Key) (keep : ℕ) (suffix : Key) (o : Ordering) (matched after : ℕ) → o ≡ Greater
    → IfSome found (λ target. Compares target (unwrap_or last []) o matched) → ComesBehind last keep suffix → IfSome found (λ target. Compares target (next_key last keep suffix) o after)
stays-above None last keep suffix o matched after is compared comes = tt
stays-above (Some target) None keep suffix o matched after is compared comes = absurd (none-above target (sym compared.right ∙ is))
stays-above (Some target) (Some last) keep suffix o matched after is compared comes = record {
  right = is ∙ sym (still-above last (next_key (Some last) keep suffix) target (sym compared.right ∙ is) comes.above);
  follows = λ not_above. absurd (not_above is);
}
