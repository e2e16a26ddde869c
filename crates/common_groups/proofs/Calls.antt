-- What calls on groups take from their source.
use Rattle.std.proofs.Common.{◌≡◌, Bool, true, false, [], ◌∷◌, Option, None, Some, refl, sym, ap, ◌∙◌, append-nil, subst}
use Rattle.std.specs.Iterator.{ActsAsAt}
use Rattle.std.specs.Fn.{CalledAt}
use denote.Param.Members.{Mut}
use Rattle.std.specs.Borrow.{Bor}
use Rattle.common_groups.specs.declared.groups.GroupByIterator.{GroupByIterator}
use Rattle.std.proofs.Common.{◌<◌, ◌≤◌, arith, MatchOption}
use Rattle.std.specs.Prelude.{⊤, option_to_list}
use Rattle.std.specs.Option.{option_len}
use Rattle.std.proofs.lemmas.Bool.{false≢true}
use Rattle.std.specs.Option.{option_map}
use Rattle.std.specs.Iterator.{Count, size, MakesProgress}
use Rattle.common_groups.specs.Groups.{source, has_ended, held, held_key, held_items, IsReady, GroupIsOver, KeysAre, ReadFrom, Gives, CanRead, Fills, KeepsLeft, items_left, without_held}
use Rattle.common_groups.specs.Steps.{CallsGroup}

pub ReadFrom-none : {I A : Type 0} (steps : I → Option A → I → Type 0) (ended : Bool) (i : I) → ReadFrom steps ended i [] ended i
ReadFrom-none steps true i = (refl, refl, refl)
ReadFrom-none steps false i = (i, refl, refl)

module _ {I F K A : Type 0} (steps : I → Option A → I → Type 0) (s : GroupByIterator I F K A) where
  pub Gives-none : Gives steps s [] s
  Gives-none = record { read = []; reads = ReadFrom-none steps (has_ended s) (source s); given = append-nil (held_items s) }

  -- an item was read, and is held
  pub Gives-item : (t : GroupByIterator I F K A) (x : A) → held s ≡ None → has_ended s ≡ false → has_ended t ≡ false → held_items t ≡ x ∷ []
      → steps (source s) (Some x) (source t) → Gives steps s [] t
  Gives-item t x none goes_on goes_on_too now step = record {
    read = x ∷ [];
    reads = rw (goes_on, goes_on_too) (source t, (source t, step, refl), refl);
    given = rw (none, now) refl;
  }

  -- the source ended
  pub Gives-end : (t : GroupByIterator I F K A) → held s ≡ None → has_ended s ≡ false → has_ended t ≡ true → held t ≡ None
      → steps (source s) None (source t) → Gives steps s [] t
  Gives-end t none goes_on over none_too step = record {
    read = [];
    reads = rw (goes_on, over) (source s, refl, step);
    given = rw (none, none_too) refl;
  }

module _ {F A K : Type 0} (g : Mut F (Bor A × Unit {0}) K) (f : F) (h : A → K) (acts : ActsAsAt g f h) where
  pub acts_again : (x : A) (r : K) (f' : F) → CalledAt g f x r f' → ActsAsAt g f' h
  acts_again x r f' called = subst (λ k. ActsAsAt g k h) (sym (acts x r f' called).0) acts

  pub acts_as : (x : A) (r : K) (f' : F) → CalledAt g f x r f' → r ≡ h x
  acts_as x r f' called = (acts x r f' called).1

pub Fills-of : {I F K A : Type 0} {can : I → Type 0} {callable : F → Type 0} {left : I → Count} {steps : I → Option A → I → Type 0} {g : Mut F (Bor A × Unit {0}) K}
    {s : GroupByIterator I F K A} {r : Option K} {t : GroupByIterator I F K A} → CanRead can callable t → Gives steps s [] t → ((h : A → K) → KeysAre g h s → KeysAre g h t) → held_key t ≡ r → IsReady t
    → (IsReady s → t ≡ s) → KeepsLeft left s t → Fills can callable left steps g s r t
Fills-of can_read gives keys key ready stays kept = record { can_read = can_read; gives = gives; keys = keys; key = key; ready = ready; stays = stays; kept = kept }

pub held_of : {K A : Type 0} (o : Option (K × A)) (k : K) → option_map (λ p. p.0) o ≡ Some k → (x : A) × (o ≡ Some (k, x))
held_of None k e = absurd cc
held_of (Some p) k e = let same : p.0 ≡ k = cc in (p.1, ap (λ j. Some (j, p.1)) same)

pub over_is_ready : {I F K A : Type 0} (eq : K → K → Bool) (k : K) (s : GroupByIterator I F K A) → GroupIsOver eq k s → IsReady s
over_is_ready {I} {F} {K} {A} eq k s over = by (held s) over
  where
    by : (o : Option (K × A)) → MatchOption o (has_ended s ≡ true) (λ p. eq k p.0 ≡ false) → MatchOption o (has_ended s ≡ true) (λ p. ⊤)
    by None e = e
    by (Some p) e = tt

-- the held item is taken, where its key is the group's
module _ {I F K A : Type 0} {can : I → Type 0} {callable : F → Type 0} {left : I → Count} {steps : I → Option A → I → Type 0} {g : Mut F (Bor A × Unit {0}) K} (eq : K → K → Bool)
    (k key : K) (s u t : GroupByIterator I F K A) (r : Option A) (filled : Fills can callable left steps g s (Some key) u) (same : eq k key ≡ true)
    (item : r ≡ option_map (λ p. p.1) (held u)) (rest : t ≡ without_held u) where
  next_item : (x : A) × (held u ≡ Some (key, x))
  next_item = held_of (held u) key filled.key

  r_is : r ≡ Some next_item.0
  r_is = item ∙ ap (option_map (λ p. p.1)) next_item.1

  call_of_item : CallsGroup steps g eq k s (Some next_item.0) (without_held u)
  call_of_item = record {
    gives = record { read = filled.gives.read; reads = filled.gives.reads; given = filled.gives.given ∙ ap (λ o. option_to_list (option_map (λ p. p.1) o)) next_item.1 };
    keys = λ h known. record { acts = (filled.keys h known).acts; held_is = tt };
    of_group = λ h known. let is : MatchOption {T = K × A} (Some (key, next_item.0)) ⊤ (λ p. p.0 ≡ h p.1) = subst (λ (o : Option (K × A)). MatchOption o ⊤ (λ p. p.0 ≡ h p.1)) next_item.1 (filled.keys h known).held_is in ap (eq k) (sym is) ∙ same;
    over = tt;
    stays = λ over. absurd (differ over);
  }
    where
      differ : GroupIsOver eq k s → ⊥
      differ over =
          let is : held s ≡ Some (key, next_item.0) = ap held (sym (filled.stays (over_is_ready eq k s over))) ∙ next_item.1 in
          let other : eq k key ≡ false = subst (λ (o : Option (K × A)). MatchOption o (has_ended s ≡ true) (λ p. eq k p.0 ≡ false)) is over in
          false≢true (sym other ∙ same)

  pub taken_call : CallsGroup steps g eq k s r t
  taken_call = subst (λ o. CallsGroup steps g eq k s o t) (sym r_is) (subst (λ z. CallsGroup steps g eq k s (Some next_item.0) z) (sym rest) call_of_item)

  progress_of_item : MakesProgress (CanRead can callable) (items_left left) s (Some next_item.0) (without_held u)
  progress_of_item = record {
    on = λ finite. let kept = filled.kept finite in (record { next = filled.can_read.next; key = filled.can_read.key }, kept.0, fewer kept.1);
    keeps = record { next = filled.can_read.next; key = filled.can_read.key };
    rests = λ finite. tt;
  }
    where
      fewer : size (items_left left u) ≤ size (items_left left s) → size (items_left left (without_held u)) < size (items_left left s)
      fewer few = let one : option_len (held u) ≡ 1 = ap option_len next_item.1 in omega (arith, few, one)

  pub taken_progress : MakesProgress (CanRead can callable) (items_left left) s r t
  taken_progress = subst (λ o. MakesProgress (CanRead can callable) (items_left left) s o t) (sym r_is)
      (subst (λ z. MakesProgress (CanRead can callable) (items_left left) s (Some next_item.0) z) (sym rest) progress_of_item)
