-- What keeps a search from leaves, and then from other leaves.
use Rattle.std.proofs.Common.{◌≡◌, ◌∙◌, sym, ap, refl, List, [], ◌∷◌, ◌++◌, Bool, ◌||◌, Option, slice_get, filter_map}
use Rattle.std.proofs.lemmas.List.Folds.{list_any-append}
use Rattle.std.proofs.lemmas.List.Elements.{filter_map-append}
use Rattle.query_tree.specs.declared.tree.UserInputLeaf.{UserInputLeaf}
use Rattle.term_search.specs.declared.answer.Kind.{Kind}
use Rattle.term_search.specs.declared.obstacles.Obstacles.{Obstacles}
use Rattle.term_search.specs.Leaves.{Sees, first_among, first_of, is_waiting_leaf, unsupported_in}

first-append : (xs ys : List Kind) → slice_get (xs ++ ys) 0 ≡ first_of (slice_get xs 0) (slice_get ys 0)
first-append [] ys = refl
first-append (x ∷ xs) ys = refl

first_among-append : (before after : List UserInputLeaf) → first_among (before ++ after) ≡ first_of (first_among before) (first_among after)
first_among-append before after =
    ap (λ (kinds : List Kind). slice_get kinds 0) (filter_map-append unsupported_in before after) ∙ first-append (filter_map unsupported_in before) (filter_map unsupported_in after)

both_same : (a b c d : Bool) → a ≡ b → c ≡ d → (a || c) ≡ (b || d)
both_same a b c d e f = ap (λ x. x || c) e ∙ ap (λ x. b || x) f

both_first : (a b c d : Option Kind) → a ≡ b → c ≡ d → first_of a c ≡ first_of b d
both_first a b c d e f = ap (λ x. first_of x c) e ∙ ap (λ x. first_of b x) f

pub sees_both : (a b c : Obstacles) → c.unsupported ≡ first_of a.unsupported b.unsupported → c.waiting ≡ (a.waiting || b.waiting)
    → (before after : List UserInputLeaf) → Sees before a → Sees after b → Sees (before ++ after) c
sees_both a b c first any before after left right = record {
  unsupported = first ∙ both_first _ _ _ _ left.unsupported right.unsupported ∙ sym (first_among-append before after);
  waiting = any ∙ both_same _ _ _ _ left.waiting right.waiting ∙ sym (list_any-append is_waiting_leaf before after);
}
