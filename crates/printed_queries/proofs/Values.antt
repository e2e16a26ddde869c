-- A document satisfies the tree of an expression exactly where it means the expression, before the rewriting and after it.
use Rattle.std.proofs.Common.{◌≡◌, ◌∙◌, sym, ap, refl, ℕ, Bool, true, false, not, ◌&&◌, ◌||◌, ◌==◌, cond, List, [], ◌∷◌, ◌++◌, map, filter, length, Option, Some}
use Rattle.std.specs.Prelude.{encode_utf8_all, nat_eq, bytes_eq}
use Rattle.std.specs.List.{list_all, list_any, starts_with}
use Rattle.std.proofs.Math.Bool.{and-true, or-false}
use Rattle.std.proofs.Math.Dec.{eqb-suc-zero}
use Rattle.std.proofs.lemmas.List.Folds.{list_any-append, list_all-append}
use Rattle.query_tree.specs.Aggregation.{negated}
use Rattle.query_tree.specs.declared.tree.Occur.{Occur}
use Rattle.query_tree.specs.declared.tree.Occur.TheVariants.{Should, Must, MustNot}
use Rattle.query_tree.specs.declared.tree.UserInputLeaf.{UserInputLeaf}
use Rattle.query_tree.specs.declared.tree.UserInputAst.{UserInputAst, fold-roll-UserInputAst}
use Rattle.query_tree.specs.declared.tree.UserInputAst.TheVariants as tree
use Rattle.query_tree.specs.declared.tree.UserInputAst.TheVariants.{rolls-Clause, rolls-Leaf}
use Rattle.query_tree.specs.declared.tree.UserInputAst.TheOpen.{Clause, Leaf}
use Rattle.query_tree.specs.Printing.{Expression, Term, Prefix, Range, Set, Exists, Not, And, Or}
use Rattle.query_tree.specs.Rewriting.{leaf_under_field, rewritten, rewritten_clause, without_repeats, unwrapped, same_pair, same_occur, same_tree}
use Rattle.query_tree.proofs.Equations.{rewritten-Clause, rewritten-Leaf}
use Rattle.query_tree.proofs.Equality.{same_tree-Decides}
use Rattle.printed_queries.specs.Satisfies.{is_above, is_below, satisfies, satisfies_clause, satisfies_mixed, satisfies_leaf, answers, is_must, is_must_not, is_optional, all, any}
use Rattle.printed_queries.specs.Meaning.{means, bytes_of}
use Rattle.documents.specs.declared.documents.Doc.{Doc}
use Rattle.documents.specs.Documents.{holds, holds_where}
use Rattle.printed_queries.proofs.Joined.{Conjunction, Disjunction, with, joined, disjunct, must}
use Rattle.printed_queries.proofs.Fields.{split_and}
use Rattle.printed_queries.proofs.Trees.{one_tree, conjunction, disjunction, tree_of_expression}

-- ---- a clause whose trees all have one mark

abbrev pub marked : {A : Type 0} → Occur → List A → List (Option Occur × A)
marked m [] = []
marked m (x ∷ xs) = (Some m, x) ∷ marked m xs

abbrev pub joins : Occur → List Bool → Bool
joins Must bs = all bs
joins Should bs = any bs
joins MustNot bs = not (any bs)

musts_must : (bs : List Bool) → answers is_must (marked Must bs) ≡ bs
musts_must [] = refl
musts_must (b ∷ bs) = ap (λ (x : List Bool). b ∷ x) (musts_must bs)

musts_not : (bs : List Bool) → answers is_must_not (marked Must bs) ≡ []
musts_not [] = refl
musts_not (b ∷ bs) = musts_not bs

shoulds_must : (bs : List Bool) → answers is_must (marked Should bs) ≡ []
shoulds_must [] = refl
shoulds_must (b ∷ bs) = shoulds_must bs

shoulds_not : (bs : List Bool) → answers is_must_not (marked Should bs) ≡ []
shoulds_not [] = refl
shoulds_not (b ∷ bs) = shoulds_not bs

shoulds_optional : (bs : List Bool) → answers is_optional (marked Should bs) ≡ bs
shoulds_optional [] = refl
shoulds_optional (b ∷ bs) = ap (λ (x : List Bool). b ∷ x) (shoulds_optional bs)

nots_not : (bs : List Bool) → answers is_must_not (marked MustNot bs) ≡ bs
nots_not [] = refl
nots_not (b ∷ bs) = ap (λ (x : List Bool). b ∷ x) (nots_not bs)

nots_all : (bs : List Bool) → list_all (λ (one : Option Occur × Bool). is_must_not one.0) (marked MustNot bs) ≡ true
nots_all [] = refl
nots_all (b ∷ bs) = nots_all bs

mixed : List Bool → List Bool → List Bool → Bool
mixed musts nots optionals = all musts && not (any nots) && (not (length musts == 0) || any optionals)

one_mark : (m : Occur) (b : Bool) (bs : List Bool) → satisfies_clause (marked m (b ∷ bs)) ≡ joins m (b ∷ bs)
unfolding satisfies_clause mixed
one_mark Must b bs =
    ap (λ (x : List Bool). mixed (b ∷ x) (answers is_must_not (marked Must bs)) (answers is_optional (marked Must bs))) (musts_must bs)
    ∙ ap (λ (x : List Bool). mixed (b ∷ bs) x (answers is_optional (marked Must bs))) (musts_not bs)
    ∙ ap (λ v. (all (b ∷ bs) && true) && (not v || any (answers is_optional (marked Must bs)))) (eqb-suc-zero (length bs))
    ∙ ap (λ x. x && true) (and-true (all (b ∷ bs))) ∙ and-true (all (b ∷ bs))
one_mark Should b bs =
    ap (λ (x : List Bool). mixed x (answers is_must_not (marked Should bs)) (b ∷ answers is_optional (marked Should bs))) (shoulds_must bs)
    ∙ ap (λ (x : List Bool). mixed [] x (b ∷ answers is_optional (marked Should bs))) (shoulds_not bs)
    ∙ ap (λ (x : List Bool). mixed [] [] (b ∷ x)) (shoulds_optional bs)
one_mark MustNot b bs =
    ap (λ v. cond v (not (any (b ∷ answers is_must_not (marked MustNot bs)))) (satisfies_mixed (marked MustNot (b ∷ bs)))) (nots_all bs)
    ∙ ap (λ (x : List Bool). not (any (b ∷ x))) (nots_not bs)

-- ---- one document

module _ (d : Doc) (default : List ℕ) where
  abbrev pub value : UserInputAst → Bool
  value t = satisfies d t default

  value-Clause : (pairs : List (Option Occur × UserInputAst)) → value (tree.Clause pairs) ≡ satisfies_clause (map (λ p. (p.0, value p.1)) pairs)
  unfolding satisfies
  value-Clause pairs = ap value (sym (rolls-Clause pairs)) ∙ fold-roll-UserInputAst _ _ (Clause pairs)

  value-Leaf : (l : UserInputLeaf) → value (tree.Leaf l) ≡ satisfies_leaf d default l
  unfolding satisfies
  value-Leaf l = ap value (sym (rolls-Leaf l)) ∙ fold-roll-UserInputAst _ _ (Leaf l)

  values_marked : (m : Occur) (ts : List UserInputAst) → map (λ (p : Option Occur × UserInputAst). (p.0, value p.1)) (marked m ts) ≡ marked m (map value ts)
  values_marked m [] = refl
  values_marked m (t ∷ ts) = ap (λ (x : List (Option Occur × Bool)). (Some m, value t) ∷ x) (values_marked m ts)

  pub value_marked : (m : Occur) (t : UserInputAst) (ts : List UserInputAst) → value (tree.Clause (marked m (t ∷ ts))) ≡ joins m (value t ∷ map value ts)
  value_marked m t ts = value-Clause (marked m (t ∷ ts)) ∙ ap satisfies_clause (values_marked m (t ∷ ts)) ∙ one_mark m (value t) (map value ts)

  -- ---- groups

  abbrev pub value_and : Conjunction → Bool
  value_and c = list_all value (c.0 ∷ c.1)

  abbrev pub value_or : Disjunction → Bool
  value_or e = list_any value_and (e.0 ∷ e.1)

  all_values : (ts : List UserInputAst) → all (map value ts) ≡ list_all value ts
  all_values [] = refl
  all_values (t ∷ ts) = ap (λ b. value t && b) (all_values ts)

  any_values : (ts : List UserInputAst) → any (map value ts) ≡ list_any value ts
  any_values [] = refl
  any_values (t ∷ ts) = ap (λ b. value t || b) (any_values ts)

  -- the tree of one group of several
  abbrev pub tree_and : Conjunction → UserInputAst
  tree_and (t, []) = t
  tree_and (t, u ∷ us) = tree.Clause (must t ∷ must u ∷ map must us)

  musts_marked : (ts : List UserInputAst) → map must ts ≡ marked Must ts
  musts_marked [] = refl
  musts_marked (t ∷ ts) = ap (λ (x : List (Option Occur × UserInputAst)). must t ∷ x) (musts_marked ts)

  value_tree_and : (c : Conjunction) → value (tree_and c) ≡ value_and c
  value_tree_and (t, []) = sym (and-true (value t))
  value_tree_and (t, u ∷ us) =
      ap (λ (x : List (Option Occur × UserInputAst)). value (tree.Clause (must t ∷ must u ∷ x))) (musts_marked us)
      ∙ value_marked Must t (u ∷ us) ∙ ap (λ b. value t && (value u && b)) (all_values us)

  disjuncts_marked : (cs : List Conjunction) → map disjunct cs ≡ marked Should (map tree_and cs)
  disjuncts_marked [] = refl
  disjuncts_marked ((t, []) ∷ cs) = ap (λ (x : List (Option Occur × UserInputAst)). (Some Should, t) ∷ x) (disjuncts_marked cs)
  disjuncts_marked ((t, u ∷ us) ∷ cs) = ap (λ (x : List (Option Occur × UserInputAst)). disjunct (t, u ∷ us) ∷ x) (disjuncts_marked cs)

  any_ands : (cs : List Conjunction) → any (map value (map tree_and cs)) ≡ list_any value_and cs
  any_ands [] = refl
  any_ands (c ∷ cs) = ap (λ b. b || any (map value (map tree_and cs))) (value_tree_and c) ∙ ap (λ b. value_and c || b) (any_ands cs)

  -- the tree of several groups
  joined_marked : (c e : Conjunction) (es : List Conjunction) → joined (c, e ∷ es) ≡ tree.Clause (marked Should (tree_and c ∷ map tree_and (e ∷ es)))
  joined_marked (t, []) e es = ap (λ (x : List (Option Occur × UserInputAst)). tree.Clause (disjunct (t, []) ∷ x)) (disjuncts_marked (e ∷ es))
  joined_marked (t, u ∷ us) e es = ap (λ (x : List (Option Occur × UserInputAst)). tree.Clause (disjunct (t, u ∷ us) ∷ x)) (disjuncts_marked (e ∷ es))

  pub value_joined : (e : Disjunction) → value (joined e) ≡ value_or e
  value_joined ((t, []), []) = value_tree_and (t, []) ∙ sym (or-false (value_and (t, [])))
  value_joined ((t, u ∷ us), []) = value_tree_and (t, u ∷ us) ∙ sym (or-false (value_and (t, u ∷ us)))
  value_joined (c, e ∷ es) =
      ap value (joined_marked c e es) ∙ value_marked Should (tree_and c) (map tree_and (e ∷ es)) ∙ any_ands (c ∷ e ∷ es)

  -- ---- expressions

  set_value : (field : List ℕ) (texts : List (List ℕ))
      → list_any (λ element. holds d (encode_utf8_all field) element) (map encode_utf8_all texts)
      ≡ list_any (λ text. holds d (encode_utf8_all field) (encode_utf8_all text)) texts
  set_value field [] = refl
  set_value field (text ∷ texts) = ap (λ b. holds d (encode_utf8_all field) (encode_utf8_all text) || b) (set_value field texts)

  alone_value : (l : UserInputLeaf) (b : Bool) → satisfies_leaf d default l ≡ b → value_or (one_tree (tree.Leaf l)) ≡ b
  alone_value l b h = or-false (value (tree.Leaf l) && true) ∙ and-true (value (tree.Leaf l)) ∙ value-Leaf l ∙ h

  value_conjunction : (e : Expression) → value_and (conjunction e (disjunction e)) ≡ value_or (disjunction e)
  value_conjunction (Or a b) = and-true (value (joined (disjunction (Or a b)))) ∙ value_joined (disjunction (Or a b))
  value_conjunction (And a b) = sym (or-false (value_and (conjunction (And a b) (disjunction (And a b)))))
  value_conjunction (Term f t) = sym (or-false (value_and (conjunction (Term f t) (disjunction (Term f t)))))
  value_conjunction (Prefix f t) = sym (or-false (value_and (conjunction (Prefix f t) (disjunction (Prefix f t)))))
  value_conjunction (Range f l u) = sym (or-false (value_and (conjunction (Range f l u) (disjunction (Range f l u)))))
  value_conjunction (Set f ts) = sym (or-false (value_and (conjunction (Set f ts) (disjunction (Set f ts)))))
  value_conjunction (Exists f) = sym (or-false (value_and (conjunction (Exists f) (disjunction (Exists f)))))
  value_conjunction (Not e) = sym (or-false (value_and (conjunction (Not e) (disjunction (Not e)))))

  pub value_is : (e : Expression) → value_or (disjunction e) ≡ means d e
  unfolding means satisfies_leaf leaf_under_field
  value_is (Term f t) = alone_value _ _ refl
  value_is (Prefix f t) = alone_value _ _ refl
  value_is (Range f l u) = alone_value _ _ refl
  value_is (Set f ts) = alone_value _ _ (set_value f ts)
  value_is (Exists f) = alone_value _ _ refl
  value_is (Not e) =
      or-false (value (negated (joined (disjunction e))) && true) ∙ and-true (value (negated (joined (disjunction e))))
      ∙ value_marked MustNot (joined (disjunction e)) [] ∙ ap not (or-false (value (joined (disjunction e))) ∙ value_joined (disjunction e) ∙ value_is e)
  value_is (And a b) =
      let c : Conjunction = conjunction a (disjunction a) in
      let e : Conjunction = conjunction b (disjunction b) in
      or-false (value_and (with c e)) ∙ list_all-append value (c.0 ∷ c.1) (e.0 ∷ e.1)
      ∙ ap (λ x. x && value_and e) (value_conjunction a ∙ value_is a) ∙ ap (λ x. means d a && x) (value_conjunction b ∙ value_is b)
  value_is (Or a b) =
      let c : Disjunction = disjunction a in
      let e : Disjunction = disjunction b in
      list_any-append value_and (c.0 ∷ c.1) (e.0 ∷ e.1)
      ∙ ap (λ x. x || value_or e) (value_is a) ∙ ap (λ x. means d a || x) (value_is b)

  pub satisfies_is : (e : Expression) → satisfies d (tree_of_expression e) default ≡ means d e
  satisfies_is e = value_joined (disjunction e) ∙ value_is e

  -- ---- the rewriting keeps what is satisfied

  -- the rewriting of this tree does
  abbrev pub Keeps : UserInputAst → Type 0
  Keeps t = value (rewritten t) ≡ value t

  abbrev pub AllKeep : List UserInputAst → Type 0
  AllKeep [] = Unit {0}
  AllKeep (t ∷ ts) = Keeps t × AllKeep ts

  -- not the same pair as this one
  abbrev is_new : Occur → UserInputAst → UserInputAst → Bool
  is_new m t u = not (same_pair (Some m, t) (Some m, u))

  abbrev once : Occur → List UserInputAst → List UserInputAst
  once m [] = []
  once m (t ∷ ts) = t ∷ filter (is_new m t) (once m ts)

  filter_step : (b : Bool) (m : Occur) (u : UserInputAst) (xs : List (Option Occur × UserInputAst)) (ts : List UserInputAst) → xs ≡ marked m ts
      → cond b ((Some m, u) ∷ xs) xs ≡ marked m (cond b (u ∷ ts) ts)
  filter_step true m u xs ts h = ap (λ (x : List (Option Occur × UserInputAst)). (Some m, u) ∷ x) h
  filter_step false m u xs ts h = h

  filter_marked : (m : Occur) (t : UserInputAst) (ts : List UserInputAst) → filter (λ other. not (same_pair (Some m, t) other)) (marked m ts) ≡ marked m (filter (is_new m t) ts)
  filter_marked m t [] = refl
  filter_marked m t (u ∷ us) = filter_step (is_new m t u) m u _ _ (filter_marked m t us)

  once_marked : (m : Occur) (ts : List UserInputAst) → without_repeats (marked m ts) ≡ marked m (once m ts)
  unfolding without_repeats
  once_marked m [] = refl
  once_marked m (t ∷ ts) =
      ap (λ (x : List (Option Occur × UserInputAst)). (Some m, t) ∷ filter (λ other. not (same_pair (Some m, t) other)) x) (once_marked m ts)
      ∙ ap (λ (x : List (Option Occur × UserInputAst)). (Some m, t) ∷ x) (filter_marked m t (once m ts))

  unwrapped_marked : (m : Occur) (ts : List UserInputAst) → map unwrapped (marked m ts) ≡ marked m ts
  unwrapped_marked m [] = refl
  unwrapped_marked m (t ∷ ts) = ap (λ (x : List (Option Occur × UserInputAst)). (Some m, t) ∷ x) (unwrapped_marked m ts)

  rewritten_each : (m : Occur) (ts : List UserInputAst) → map (λ (p : Option Occur × UserInputAst). (p.0, rewritten p.1)) (marked m ts) ≡ marked m (map rewritten ts)
  rewritten_each m [] = refl
  rewritten_each m (t ∷ ts) = ap (λ (x : List (Option Occur × UserInputAst)). (Some m, rewritten t) ∷ x) (rewritten_each m ts)

  rewritten_marked : (m : Occur) (ts : List UserInputAst) → rewritten (tree.Clause (marked m ts)) ≡ tree.Clause (marked m (once m (map rewritten ts)))
  rewritten_marked m ts =
      rewritten-Clause (marked m ts) ∙ ap rewritten_clause (rewritten_each m ts)
      ∙ ap (λ (x : List (Option Occur × UserInputAst)). tree.Clause (map unwrapped x)) (once_marked m (map rewritten ts))
      ∙ ap tree.Clause (unwrapped_marked m (once m (map rewritten ts)))

  same_value : (m : Occur) (t u : UserInputAst) → is_new m t u ≡ false → value u ≡ value t
  same_value m t u h =
      let same = split_and (same_occur (Some m) (Some m)) (same_tree t u) (twice (same_pair (Some m, t) (Some m, u)) h) in
      ap value (sym ((same_tree-Decides t u).0 same.1))
    where
      twice : (b : Bool) → not b ≡ false → b ≡ true
      twice true h = refl
      twice false h = sym h

  -- a repeated answer is left out
  and_step : (b x y r s : Bool) → (b ≡ false → y ≡ x) → (x && r) ≡ (x && s) → (x && cond b (y && r) r) ≡ (x && (y && s))
  and_step b false y r s same h = refl
  and_step true true true r s same h = h
  and_step true true false r s same h = refl
  and_step false true y r s same h = rw (same refl) h

  or_step : (b x y r s : Bool) → (b ≡ false → y ≡ x) → (x || r) ≡ (x || s) → (x || cond b (y || r) r) ≡ (x || (y || s))
  or_step b true y r s same h = refl
  or_step true false true r s same h = refl
  or_step true false false r s same h = h
  or_step false false y r s same h = rw (same refl) h

  all_new : (m : Occur) (t : UserInputAst) (ts : List UserInputAst) → (value t && list_all value (filter (is_new m t) ts)) ≡ (value t && list_all value ts)
  all_new m t [] = refl
  all_new m t (u ∷ us) = cond_all (is_new m t u) ∙ and_step (is_new m t u) (value t) (value u) _ _ (same_value m t u) (all_new m t us)
    where
      cond_all : (b : Bool) → (value t && list_all value (cond b (u ∷ filter (is_new m t) us) (filter (is_new m t) us))) ≡ (value t && cond b (value u && list_all value (filter (is_new m t) us)) (list_all value (filter (is_new m t) us)))
      cond_all true = refl
      cond_all false = refl

  any_new : (m : Occur) (t : UserInputAst) (ts : List UserInputAst) → (value t || list_any value (filter (is_new m t) ts)) ≡ (value t || list_any value ts)
  any_new m t [] = refl
  any_new m t (u ∷ us) = cond_any (is_new m t u) ∙ or_step (is_new m t u) (value t) (value u) _ _ (same_value m t u) (any_new m t us)
    where
      cond_any : (b : Bool) → (value t || list_any value (cond b (u ∷ filter (is_new m t) us) (filter (is_new m t) us))) ≡ (value t || cond b (value u || list_any value (filter (is_new m t) us)) (list_any value (filter (is_new m t) us)))
      cond_any true = refl
      cond_any false = refl

  all_once : (m : Occur) (ts : List UserInputAst) → list_all value (once m ts) ≡ list_all value ts
  all_once m [] = refl
  all_once m (t ∷ ts) = all_new m t (once m ts) ∙ ap (λ b. value t && b) (all_once m ts)

  any_once : (m : Occur) (ts : List UserInputAst) → list_any value (once m ts) ≡ list_any value ts
  any_once m [] = refl
  any_once m (t ∷ ts) = any_new m t (once m ts) ∙ ap (λ b. value t || b) (any_once m ts)

  all_kept : (ts : List UserInputAst) → AllKeep ts → list_all value (map rewritten ts) ≡ list_all value ts
  all_kept [] h = refl
  all_kept (t ∷ ts) h = ap (λ b. b && list_all value (map rewritten ts)) h.0 ∙ ap (λ b. value t && b) (all_kept ts h.1)

  any_kept : (ts : List UserInputAst) → AllKeep ts → list_any value (map rewritten ts) ≡ list_any value ts
  any_kept [] h = refl
  any_kept (t ∷ ts) h = ap (λ b. b || list_any value (map rewritten ts)) h.0 ∙ ap (λ b. value t || b) (any_kept ts h.1)

  joins_once : (m : Occur) (ts : List UserInputAst) → AllKeep ts → joins m (map value (once m (map rewritten ts))) ≡ joins m (map value ts)
  joins_once Must ts h = all_values (once Must (map rewritten ts)) ∙ all_once Must (map rewritten ts) ∙ all_kept ts h ∙ sym (all_values ts)
  joins_once Should ts h = any_values (once Should (map rewritten ts)) ∙ any_once Should (map rewritten ts) ∙ any_kept ts h ∙ sym (any_values ts)
  joins_once MustNot ts h = ap not (any_values (once MustNot (map rewritten ts)) ∙ any_once MustNot (map rewritten ts) ∙ any_kept ts h ∙ sym (any_values ts))

  clause_keeps : (m : Occur) (t : UserInputAst) (ts : List UserInputAst) → AllKeep (t ∷ ts) → Keeps (tree.Clause (marked m (t ∷ ts)))
  clause_keeps m t ts h =
      ap value (rewritten_marked m (t ∷ ts)) ∙ value_marked m (rewritten t) (filter (is_new m (rewritten t)) (once m (map rewritten ts)))
      ∙ joins_once m (t ∷ ts) h ∙ sym (value_marked m t ts)

  leaf_keeps : (l : UserInputLeaf) → Keeps (tree.Leaf l)
  leaf_keeps l = ap value (rewritten-Leaf l)

  -- ---- expressions, rewritten

  abbrev AndKeeps : Conjunction → Type 0
  AndKeeps c = AllKeep (c.0 ∷ c.1)

  abbrev AllAndKeep : List Conjunction → Type 0
  AllAndKeep [] = Unit {0}
  AllAndKeep (c ∷ cs) = AndKeeps c × AllAndKeep cs

  abbrev OrKeeps : Disjunction → Type 0
  OrKeeps e = AllAndKeep (e.0 ∷ e.1)

  all_keep_append : (ts us : List UserInputAst) → AllKeep ts → AllKeep us → AllKeep (ts ++ us)
  all_keep_append [] us h k = k
  all_keep_append (t ∷ ts) us h k = (h.0, all_keep_append ts us h.1 k)

  all_and_keep_append : (cs es : List Conjunction) → AllAndKeep cs → AllAndKeep es → AllAndKeep (cs ++ es)
  all_and_keep_append [] es h k = k
  all_and_keep_append (c ∷ cs) es h k = (h.0, all_and_keep_append cs es h.1 k)

  tree_and_keeps : (c : Conjunction) → AndKeeps c → Keeps (tree_and c)
  tree_and_keeps (t, []) h = h.0
  tree_and_keeps (t, u ∷ us) h = subst' (musts_marked us)
    where
      subst' : map must us ≡ marked Must us → Keeps (tree.Clause (must t ∷ must u ∷ map must us))
      subst' e = rw e (clause_keeps Must t (u ∷ us) h)

  trees_and_keep : (cs : List Conjunction) → AllAndKeep cs → AllKeep (map tree_and cs)
  trees_and_keep [] h = tt
  trees_and_keep (c ∷ cs) h = (tree_and_keeps c h.0, trees_and_keep cs h.1)

  joined_keeps : (e : Disjunction) → OrKeeps e → Keeps (joined e)
  joined_keeps ((t, []), []) h = tree_and_keeps (t, []) h.0
  joined_keeps ((t, u ∷ us), []) h = tree_and_keeps (t, u ∷ us) h.0
  joined_keeps (c, e ∷ es) h =
      ap (λ t. value (rewritten t)) (joined_marked c e es) ∙ clause_keeps Should (tree_and c) (map tree_and (e ∷ es)) (trees_and_keep (c ∷ e ∷ es) h) ∙ sym (ap value (joined_marked c e es))

  conjunction_keeps : (e : Expression) → OrKeeps (disjunction e) → AndKeeps (conjunction e (disjunction e))
  conjunction_keeps (Or a b) h = (joined_keeps (disjunction (Or a b)) h, tt)
  conjunction_keeps (And a b) h = h.0
  conjunction_keeps (Term f t) h = h.0
  conjunction_keeps (Prefix f t) h = h.0
  conjunction_keeps (Range f l u) h = h.0
  conjunction_keeps (Set f ts) h = h.0
  conjunction_keeps (Exists f) h = h.0
  conjunction_keeps (Not e) h = h.0

  expression_keeps : (e : Expression) → OrKeeps (disjunction e)
  expression_keeps (Term f t) = ((leaf_keeps _, tt), tt)
  expression_keeps (Prefix f t) = ((leaf_keeps _, tt), tt)
  expression_keeps (Range f l u) = ((leaf_keeps _, tt), tt)
  expression_keeps (Set f ts) = ((leaf_keeps _, tt), tt)
  expression_keeps (Exists f) = ((leaf_keeps _, tt), tt)
  expression_keeps (Not e) = ((clause_keeps MustNot (joined (disjunction e)) [] (joined_keeps (disjunction e) (expression_keeps e), tt), tt), tt)
  expression_keeps (And a b) =
      let c : Conjunction = conjunction a (disjunction a) in
      let e : Conjunction = conjunction b (disjunction b) in
      (all_keep_append (c.0 ∷ c.1) (e.0 ∷ e.1) (conjunction_keeps a (expression_keeps a)) (conjunction_keeps b (expression_keeps b)), tt)
  expression_keeps (Or a b) =
      let c : Disjunction = disjunction a in
      let e : Disjunction = disjunction b in
      all_and_keep_append (c.0 ∷ c.1) (e.0 ∷ e.1) (expression_keeps a) (expression_keeps b)

  pub rewritten_means : (e : Expression) → satisfies d (rewritten (tree_of_expression e)) default ≡ means d e
  rewritten_means e = joined_keeps (disjunction e) (expression_keeps e) ∙ satisfies_is e
