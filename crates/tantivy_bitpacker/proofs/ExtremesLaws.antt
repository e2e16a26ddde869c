-- The least and the greatest of some items, one item at a time.
use Rattle.std.proofs.Common.{◌≡◌, List, [], ◌∷◌, ◌++◌, length, get_or, Bool, true, false, cond, Option, None, Some, All, Contains, refl, sym, ◌∙◌, subst, arith, length-append, append_assoc, append-nil}
use Rattle.std.specs.List.{fold}
use Rattle.std.specs.Cmp.{IsTotalOrder}
use Rattle.std.specs.declared.cmp.Ordering.{Ordering}
use Rattle.std.specs.declared.cmp.Ordering.TheVariants.{Less, Equal, Greater}
use Rattle.std.specs.Ordering.{is_lt, ordering_reverse}
use Rattle.std.proofs.lemmas.List.{get_or_at, get_or_append_left}
use Rattle.std.proofs.lemmas.List.Elements.{All-push, All-nil}
use Rattle.tantivy_bitpacker.specs.Extremes.{AreExtremes, widened}

is_less : (o : Ordering) → is_lt o ≡ true → o ≡ Less
is_less Less e = refl
is_less Equal e = cc
is_less Greater e = cc

not_less : (o : Ordering) → (o ≡ Less → ⊥) → is_lt o ≡ false
not_less Less n = absurd (n refl)
not_less Equal n = refl
not_less Greater n = refl

itself : (o : Ordering) → o ≡ ordering_reverse o → is_lt o ≡ false
itself Less e = cc
itself Equal e = refl
itself Greater e = refl

contains_last : {T : Type 0} → (xs : List T) (x : T) → Contains (xs ++ x ∷ []) x
contains_last xs x = (length xs, omega (arith, length-append xs (x ∷ [])), get_or_at xs x [] x (length xs) refl)

contains_push : {T : Type 0} → (xs : List T) (x y : T) → Contains xs y → Contains (xs ++ x ∷ []) y
contains_push xs x y (k, below, is) = (k, omega (arith, length-append xs (x ∷ [])), get_or_append_left xs (x ∷ []) y k below ∙ is)

module _ {T : Type 0} (cmp : T → T → Ordering) (total : IsTotalOrder cmp) where
  below_itself : (x : T) → is_lt (cmp x x) ≡ false
  below_itself x = itself (cmp x x) (total.antisymm x x)

  -- a new least
  least_falls : (seen : List T) (a x : T) → All (λ y. is_lt (cmp y a) ≡ false) seen → is_lt (cmp x a) ≡ true → All (λ y. is_lt (cmp y x) ≡ false) seen
  least_falls seen a x above less = λ k d below.
      not_less (cmp (get_or seen k d) x) (λ e. let further : cmp (get_or seen k d) a ≡ Less = total.trans (get_or seen k d) x a e (is_less (cmp x a) less) in
      let kept : is_lt (cmp (get_or seen k d) a) ≡ false = above k d below in cc)

  -- a new greatest
  greatest_rises : (seen : List T) (b x : T) → All (λ y. is_lt (cmp b y) ≡ false) seen → is_lt (cmp b x) ≡ true → All (λ y. is_lt (cmp x y) ≡ false) seen
  greatest_rises seen b x under less = λ k d below.
      not_less (cmp x (get_or seen k d)) (λ e. let further : cmp b (get_or seen k d) ≡ Less = total.trans b x (get_or seen k d) (is_less (cmp b x) less) e in
      let kept : is_lt (cmp b (get_or seen k d)) ≡ false = under k d below in cc)

  least_step : (seen : List T) (a x : T) (test : Bool) → is_lt (cmp x a) ≡ test → Contains seen a → All (λ y. is_lt (cmp y a) ≡ false) seen
      → Contains (seen ++ x ∷ []) (cond test x a) × All (λ y. is_lt (cmp y (cond test x a)) ≡ false) (seen ++ x ∷ [])
  least_step seen a x true e inside above = (contains_last seen x, All-push (λ y. is_lt (cmp y x) ≡ false) seen x (least_falls seen a x above e) (below_itself x))
  least_step seen a x false e inside above = (contains_push seen x a inside, All-push (λ y. is_lt (cmp y a) ≡ false) seen x above e)

  greatest_step : (seen : List T) (b x : T) (test : Bool) → is_lt (cmp b x) ≡ test → Contains seen b → All (λ y. is_lt (cmp b y) ≡ false) seen
      → Contains (seen ++ x ∷ []) (cond test x b) × All (λ y. is_lt (cmp (cond test x b) y) ≡ false) (seen ++ x ∷ [])
  greatest_step seen b x true e inside under = (contains_last seen x, All-push (λ y. is_lt (cmp x y) ≡ false) seen x (greatest_rises seen b x under e) (below_itself x))
  greatest_step seen b x false e inside under = (contains_push seen x b inside, All-push (λ y. is_lt (cmp b y) ≡ false) seen x under e)

  extremes_step : (seen : List T) (found : Option (T × T)) (x : T) → AreExtremes cmp seen found → AreExtremes cmp (seen ++ x ∷ []) (Some (widened cmp found x))
  extremes_step seen None x none =
      subst (λ l. AreExtremes cmp (l ++ x ∷ []) (Some (x, x))) (sym none)
      (contains_last [] x, contains_last [] x, All-push (λ y. is_lt (cmp y x) ≡ false) [] x (All-nil (λ y. is_lt (cmp y x) ≡ false)) (below_itself x), All-push (λ y. is_lt (cmp x y) ≡ false) [] x (All-nil (λ y. is_lt (cmp x y) ≡ false)) (below_itself x))
  extremes_step seen (Some found) x are =
      let low = least_step seen found.0 x (is_lt (cmp x found.0)) refl are.0 are.2 in
      let high = greatest_step seen found.1 x (is_lt (cmp found.1 x)) refl are.1 are.3 in
      (low.0, high.0, low.1, high.1)

  extremes_from : (items seen : List T) (found : Option (T × T)) → AreExtremes cmp seen found → AreExtremes cmp (seen ++ items) (fold (λ f x. Some (widened cmp f x)) found items)
  extremes_from [] seen found are = subst (λ l. AreExtremes cmp l found) (sym (append-nil seen)) are
  extremes_from (x ∷ items) seen found are =
      subst (λ l. AreExtremes cmp l (fold (λ f y. Some (widened cmp f y)) (Some (widened cmp found x)) items)) (append_assoc seen (x ∷ []) items)
      (extremes_from items (seen ++ x ∷ []) (Some (widened cmp found x)) (extremes_step seen found x are))

  pub extremes_of : (items : List T) → AreExtremes cmp items (fold (λ f x. Some (widened cmp f x)) None items)
  extremes_of items = extremes_from items [] None refl
