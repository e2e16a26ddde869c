-- Trees on which the recursions over trees compute, for rows.
use Rattle.std.proofs.Common.{◌≡◌, ◌∙◌, sym, ap, refl, ℕ, Bool, true, false, not, ◌&&◌, List, [], ◌∷◌, map, filter, Option, Some, None}
use Rattle.std.specs.Prelude.{if◌then◌else◌}
use Rattle.query_tree.specs.declared.tree.Occur.{Occur}
use Rattle.query_tree.specs.Decimals.{Digits}
use Rattle.query_tree.specs.declared.tree.UserInputLeaf.{UserInputLeaf}
use Rattle.query_tree.specs.declared.tree.UserInputAst.{UserInputAst, fold-roll-UserInputAst, out-UserInputAst}
use Rattle.query_tree.specs.declared.tree.UserInputAst.TheVariants as tree
use Rattle.query_tree.specs.declared.tree.UserInputAst.TheVariants.{rolls-Clause, rolls-Boost, rolls-Leaf, outs-Leaf, outs-Clause, outs-Boost}
use Rattle.query_tree.specs.declared.tree.UserInputAst.TheOpen as layer
use Rattle.query_tree.specs.Rewriting.{leaf_under_field, under_field, same_leaf, same_tree, same_layer, same_pair, same_occur, same_decimal, same_pairs, without_repeats, unwrapped, rewritten, rewritten_clause, only_pair}
use Rattle.query_tree.specs.Texts.{debug_text, layer_text, leaf_text}
use Rattle.query_tree.specs.Json.{json_text, layer_json, leaf_json}
use Rattle.query_tree.proofs.Equations.{under_field-Clause, under_field-Boost, under_field-Leaf, rewritten-Clause, rewritten-Boost, rewritten-Leaf}

mutual
  pub data Plain : Type 0 where
    clause : Plains → Plain
    boost : Plain → Digits → Plain
    leaf : UserInputLeaf → Plain

  pub data Plains : Type 0 where
    end : Plains
    next : Option Occur → Plain → Plains → Plains

abbrev mutual
  pub tree_of : Plain → UserInputAst
  tree_of (clause ps) = tree.Clause (pairs_of ps)
  tree_of (boost t d) = tree.Boost (tree_of t) d
  tree_of (leaf l) = tree.Leaf l

  pub pairs_of : Plains → List (Option Occur × UserInputAst)
  pairs_of end = []
  pairs_of (next m t ps) = (m, tree_of t) ∷ pairs_of ps

-- ---- the default field

abbrev mutual
  pub under : Plain → List ℕ → Plain
  under (clause ps) f = clause (all_under ps f)
  under (boost t d) f = boost (under t f) d
  under (leaf l) f = leaf (leaf_under_field f l)

  pub all_under : Plains → List ℕ → Plains
  all_under end f = end
  all_under (next m t ps) f = next m (under t f) (all_under ps f)

pub cons2 : {m : Option Occur} {a b : UserInputAst} {as' bs : List (Option Occur × UserInputAst)} → a ≡ b → as' ≡ bs → (m, a) ∷ as' ≡ (m, b) ∷ bs
cons2 {m = m} {a = a} {b = b} {as' = as'} {bs = bs} p q = ap (λ x. (m, x) ∷ as') p ∙ ap (λ xs. (m, b) ∷ xs) q

mutual
  pub under_is : (t : Plain) (f : List ℕ) → under_field f (tree_of t) ≡ tree_of (under t f)
  under_is (clause ps) f = under_field-Clause f (pairs_of ps) ∙ ap tree.Clause (all_under_is ps f)
  under_is (boost t d) f = under_field-Boost f (tree_of t) d ∙ ap (λ x. tree.Boost x d) (under_is t f)
  under_is (leaf l) f = under_field-Leaf f l

  pub all_under_is : (ps : Plains) (f : List ℕ) → map (λ p. (p.0, under_field f p.1)) (pairs_of ps) ≡ pairs_of (all_under ps f)
  all_under_is end f = refl
  all_under_is (next m t ps) f = cons2 (under_is t f) (all_under_is ps f)

-- ---- texts

abbrev mutual
  pub debug_of : Plain → List ℕ
  debug_of (clause ps) = layer_text (layer.Clause (debugs_of ps))
  debug_of (boost t d) = layer_text (layer.Boost (debug_of t) d)
  debug_of (leaf l) = leaf_text l

  pub debugs_of : Plains → List (Option Occur × List ℕ)
  debugs_of end = []
  debugs_of (next m t ps) = (m, debug_of t) ∷ debugs_of ps

abbrev mutual
  pub json_of : Plain → List ℕ
  json_of (clause ps) = layer_json (layer.Clause (jsons_of ps))
  json_of (boost t d) = layer_json (layer.Boost (json_of t) d)
  json_of (leaf l) = leaf_json l

  pub jsons_of : Plains → List (Option Occur × List ℕ)
  jsons_of end = []
  jsons_of (next m t ps) = (m, json_of t) ∷ jsons_of ps

pub debug-Clause : (pairs : List (Option Occur × UserInputAst)) → debug_text (tree.Clause pairs) ≡ layer_text (layer.Clause (map (λ p. (p.0, debug_text p.1)) pairs))
unfolding debug_text
debug-Clause pairs = ap debug_text (sym (rolls-Clause pairs)) ∙ fold-roll-UserInputAst _ _ (layer.Clause pairs)

pub debug-Boost : (t : UserInputAst) (d : Digits) → debug_text (tree.Boost t d) ≡ layer_text (layer.Boost (debug_text t) d)
unfolding debug_text
debug-Boost t d = ap debug_text (sym (rolls-Boost t d)) ∙ fold-roll-UserInputAst _ _ (layer.Boost t d)

pub debug-Leaf : (l : UserInputLeaf) → debug_text (tree.Leaf l) ≡ leaf_text l
unfolding debug_text
debug-Leaf l = ap debug_text (sym (rolls-Leaf l)) ∙ fold-roll-UserInputAst _ _ (layer.Leaf l)

pub ruleset trees_shown = (debug-Clause, debug-Boost, debug-Leaf)

pub json-Clause : (pairs : List (Option Occur × UserInputAst)) → json_text (tree.Clause pairs) ≡ layer_json (layer.Clause (map (λ p. (p.0, json_text p.1)) pairs))
unfolding json_text
json-Clause pairs = ap json_text (sym (rolls-Clause pairs)) ∙ fold-roll-UserInputAst _ _ (layer.Clause pairs)

pub json-Boost : (t : UserInputAst) (d : Digits) → json_text (tree.Boost t d) ≡ layer_json (layer.Boost (json_text t) d)
unfolding json_text
json-Boost t d = ap json_text (sym (rolls-Boost t d)) ∙ fold-roll-UserInputAst _ _ (layer.Boost t d)

pub json-Leaf : (l : UserInputLeaf) → json_text (tree.Leaf l) ≡ leaf_json l
unfolding json_text
json-Leaf l = ap json_text (sym (rolls-Leaf l)) ∙ fold-roll-UserInputAst _ _ (layer.Leaf l)

text2 : {m : Option Occur} {a b : List ℕ} {as' bs : List (Option Occur × List ℕ)} → a ≡ b → as' ≡ bs → (m, a) ∷ as' ≡ (m, b) ∷ bs
text2 {m = m} {a = a} {b = b} {as' = as'} {bs = bs} p q = ap (λ x. (m, x) ∷ as') p ∙ ap (λ xs. (m, b) ∷ xs) q

mutual
  pub debug_is : (t : Plain) → debug_text (tree_of t) ≡ debug_of t
  debug_is (clause ps) = debug-Clause (pairs_of ps) ∙ ap (λ x. layer_text (layer.Clause x)) (debugs_are ps)
  debug_is (boost t d) = debug-Boost (tree_of t) d ∙ ap (λ x. layer_text (layer.Boost x d)) (debug_is t)
  debug_is (leaf l) = debug-Leaf l

  pub debugs_are : (ps : Plains) → map (λ p. (p.0, debug_text p.1)) (pairs_of ps) ≡ debugs_of ps
  debugs_are end = refl
  debugs_are (next m t ps) = text2 (debug_is t) (debugs_are ps)

mutual
  pub json_is : (t : Plain) → json_text (tree_of t) ≡ json_of t
  json_is (clause ps) = json-Clause (pairs_of ps) ∙ ap (λ x. layer_json (layer.Clause x)) (jsons_are ps)
  json_is (boost t d) = json-Boost (tree_of t) d ∙ ap (λ x. layer_json (layer.Boost x d)) (json_is t)
  json_is (leaf l) = json-Leaf l

  pub jsons_are : (ps : Plains) → map (λ p. (p.0, json_text p.1)) (pairs_of ps) ≡ jsons_of ps
  jsons_are end = refl
  jsons_are (next m t ps) = text2 (json_is t) (jsons_are ps)

-- ---- equality

abbrev mutual
  pub same : Plain → Plain → Bool
  same (clause ps) (clause qs) = all_same ps qs
  same (boost t d) (boost u e) = same t u && same_decimal d e
  same (leaf a) (leaf b) = same_leaf a b
  same _ _ = false

  pub all_same : Plains → Plains → Bool
  all_same end end = true
  all_same (next m t ps) (next n u qs) = (same_occur m n && same t u) && all_same ps qs
  all_same _ _ = false

same_tree-Clause : (pairs : List (Option Occur × UserInputAst)) (t : UserInputAst) → same_tree (tree.Clause pairs) t ≡ same_layer (layer.Clause (map (λ p. (p.0, same_tree p.1)) pairs)) (out-UserInputAst t)
unfolding same_tree
same_tree-Clause pairs t = ap (λ f. f t) (ap same_tree (sym (rolls-Clause pairs)) ∙ fold-roll-UserInputAst _ _ (layer.Clause pairs))

same_tree-Boost : (inner : UserInputAst) (d : Digits) (t : UserInputAst) → same_tree (tree.Boost inner d) t ≡ same_layer (layer.Boost (same_tree inner) d) (out-UserInputAst t)
unfolding same_tree
same_tree-Boost inner d t = ap (λ f. f t) (ap same_tree (sym (rolls-Boost inner d)) ∙ fold-roll-UserInputAst _ _ (layer.Boost inner d))

same_tree-Leaf : (l : UserInputLeaf) (t : UserInputAst) → same_tree (tree.Leaf l) t ≡ same_layer (layer.Leaf l) (out-UserInputAst t)
unfolding same_tree
same_tree-Leaf l t = ap (λ f. f t) (ap same_tree (sym (rolls-Leaf l)) ∙ fold-roll-UserInputAst _ _ (layer.Leaf l))

mutual
  pub same_is : (t u : Plain) → same_tree (tree_of t) (tree_of u) ≡ same t u
  same_is (clause ps) (clause qs) = same_tree-Clause (pairs_of ps) _ ∙ ap (same_layer (layer.Clause (map (λ p. (p.0, same_tree p.1)) (pairs_of ps)))) (outs-Clause (pairs_of qs)) ∙ all_same_is ps qs
  same_is (clause ps) (boost u e) = same_tree-Clause (pairs_of ps) _ ∙ ap (same_layer (layer.Clause (map (λ p. (p.0, same_tree p.1)) (pairs_of ps)))) (outs-Boost (tree_of u) e)
  same_is (clause ps) (leaf m) = same_tree-Clause (pairs_of ps) _ ∙ ap (same_layer (layer.Clause (map (λ p. (p.0, same_tree p.1)) (pairs_of ps)))) (outs-Leaf m)
  same_is (boost t d) (clause qs) = same_tree-Boost (tree_of t) d _ ∙ ap (same_layer (layer.Boost (same_tree (tree_of t)) d)) (outs-Clause (pairs_of qs))
  same_is (boost t d) (boost u e) = same_tree-Boost (tree_of t) d _ ∙ ap (same_layer (layer.Boost (same_tree (tree_of t)) d)) (outs-Boost (tree_of u) e) ∙ ap (λ b. b && same_decimal d e) (same_is t u)
  same_is (boost t d) (leaf m) = same_tree-Boost (tree_of t) d _ ∙ ap (same_layer (layer.Boost (same_tree (tree_of t)) d)) (outs-Leaf m)
  same_is (leaf l) (clause qs) = same_tree-Leaf l _ ∙ ap (same_layer (layer.Leaf l)) (outs-Clause (pairs_of qs))
  same_is (leaf l) (boost u e) = same_tree-Leaf l _ ∙ ap (same_layer (layer.Leaf l)) (outs-Boost (tree_of u) e)
  same_is (leaf l) (leaf m) = same_tree-Leaf l _ ∙ ap (same_layer (layer.Leaf l)) (outs-Leaf m)

  pub all_same_is : (ps qs : Plains) → same_pairs (map (λ p. (p.0, same_tree p.1)) (pairs_of ps)) (pairs_of qs) ≡ all_same ps qs
  all_same_is end end = refl
  all_same_is end (next n u qs) = refl
  all_same_is (next m t ps) end = refl
  all_same_is (next m t ps) (next n u qs) = ap (λ b. (same_occur m n && b) && same_pairs (map (λ p. (p.0, same_tree p.1)) (pairs_of ps)) (pairs_of qs)) (same_is t u) ∙ ap (λ b. (same_occur m n && same t u) && b) (all_same_is ps qs)

-- ---- rewriting

-- without the pairs that equal this one
abbrev pub others : Plains → Option Occur → Plain → Plains
others end m t = end
others (next n u ps) m t = if same_occur m n && same t u then others ps m t else next n u (others ps m t)

abbrev pub once : Plains → Plains
once end = end
once (next m t ps) = next m t (others (once ps) m t)

abbrev pub unwrapped_next : Option Occur → Plain → Plains → Plains
unwrapped_next None (clause (next n u end)) ps = next n u ps
unwrapped_next m t ps = next m t ps

abbrev pub all_unwrapped : Plains → Plains
all_unwrapped end = end
all_unwrapped (next m t ps) = unwrapped_next m t (all_unwrapped ps)

abbrev mutual
  pub rewrite : Plain → Plain
  rewrite (clause ps) = clause (all_unwrapped (once (rewrite_all ps)))
  rewrite (boost t d) = boost t d
  rewrite (leaf l) = leaf l

  pub rewrite_all : Plains → Plains
  rewrite_all end = end
  rewrite_all (next m t ps) = next m (rewrite t) (rewrite_all ps)

kept : Bool → Option Occur × UserInputAst → List (Option Occur × UserInputAst) → List (Option Occur × UserInputAst)
kept b pair pairs = if not b then pair ∷ pairs else pairs

kept_is : (b : Bool) (n : Option Occur) (u : Plain) (ps : Plains) (xs : List (Option Occur × UserInputAst)) → xs ≡ pairs_of ps → kept b (n, tree_of u) xs ≡ pairs_of (if b then ps else next n u ps)
unfolding kept
kept_is true n u ps xs h = h
kept_is false n u ps xs h = ap (λ ys. (n, tree_of u) ∷ ys) h

others_are : (ps : Plains) (m : Option Occur) (t : Plain) → filter (λ o. not (same_pair (m, tree_of t) o)) (pairs_of ps) ≡ pairs_of (others ps m t)
unfolding kept
others_are end m t = refl
others_are (next n u ps) m t =
    ap (λ b. kept (same_occur m n && b) (n, tree_of u) (filter (λ o. not (same_pair (m, tree_of t) o)) (pairs_of ps))) (same_is t u)
    ∙ kept_is (same_occur m n && same t u) n u (others ps m t) _ (others_are ps m t)

once_is : (ps : Plains) → without_repeats (pairs_of ps) ≡ pairs_of (once ps)
unfolding without_repeats
once_is end = refl
once_is (next m t ps) = ap (λ xs. (m, tree_of t) ∷ filter (λ o. not (same_pair (m, tree_of t) o)) xs) (once_is ps) ∙ ap (λ xs. (m, tree_of t) ∷ xs) (others_are (once ps) m t)

unwrapped_is : (m : Option Occur) (t : Plain) (ps : Plains) → unwrapped (m, tree_of t) ∷ pairs_of ps ≡ pairs_of (unwrapped_next m t ps)
unwrapped_is (Some m) t ps = refl
unwrapped_is None (clause end) ps = ap (λ l. only_pair (None, tree.Clause []) l ∷ pairs_of ps) (outs-Clause [])
unwrapped_is None (clause (next n u end)) ps = ap (λ l. only_pair (None, tree.Clause ((n, tree_of u) ∷ [])) l ∷ pairs_of ps) (outs-Clause ((n, tree_of u) ∷ []))
unwrapped_is None (clause (next n u (next o v qs))) ps = ap (λ l. only_pair (None, tree.Clause ((n, tree_of u) ∷ (o, tree_of v) ∷ pairs_of qs)) l ∷ pairs_of ps) (outs-Clause ((n, tree_of u) ∷ (o, tree_of v) ∷ pairs_of qs))
unwrapped_is None (boost u d) ps = ap (λ l. only_pair (None, tree.Boost (tree_of u) d) l ∷ pairs_of ps) (outs-Boost (tree_of u) d)
unwrapped_is None (leaf l) ps = ap (λ k. only_pair (None, tree.Leaf l) k ∷ pairs_of ps) (outs-Leaf l)

all_unwrapped_is : (ps : Plains) → map unwrapped (pairs_of ps) ≡ pairs_of (all_unwrapped ps)
all_unwrapped_is end = refl
all_unwrapped_is (next m t ps) = ap (λ xs. unwrapped (m, tree_of t) ∷ xs) (all_unwrapped_is ps) ∙ unwrapped_is m t (all_unwrapped ps)

mutual
  pub rewrite_is : (t : Plain) → rewritten (tree_of t) ≡ tree_of (rewrite t)
  rewrite_is (clause ps) = rewritten-Clause (pairs_of ps) ∙ ap rewritten_clause (rewrites_are ps) ∙ ap (λ xs. tree.Clause (map unwrapped xs)) (once_is (rewrite_all ps)) ∙ ap tree.Clause (all_unwrapped_is (once (rewrite_all ps)))
  rewrite_is (boost t d) = rewritten-Boost (tree_of t) d
  rewrite_is (leaf l) = rewritten-Leaf l

  pub rewrites_are : (ps : Plains) → map (λ p. (p.0, rewritten p.1)) (pairs_of ps) ≡ pairs_of (rewrite_all ps)
  rewrites_are end = refl
  rewrites_are (next m t ps) = cons2 (rewrite_is t) (rewrites_are ps)
