-- A printed expression is of characters where its texts are.
use Rattle.std.proofs.Common.{◌≡◌, refl, ℕ, Bool, true, false, ◌&&◌, List, [], ◌∷◌, ◌++◌}
use lib.Utf8.{scalar, scalars}
use Rattle.std.specs.Prelude.{codes}
use Rattle.std.specs.List.{flat_map}
use Rattle.query_tree.specs.Characters.{is_special}
use Rattle.query_tree.specs.Printing.{Bound, Inclusive, Exclusive, Unbounded, Expression, Term, Prefix, Range, Set, Exists, Not, And, Or, printed, printed_field, printed_text, inside_quotes, needs_backslash, printed_lower, printed_upper, more_elements, printed_elements, under_and, under_not, escaped}
use Rattle.printed_queries.specs.Law.{of_characters, all_of_characters, bound_of_characters}
use Rattle.printed_queries.proofs.Fields.{split_and}

-- both, one after the other
both : (a b : List ℕ) → scalars a ≡ true → scalars b ≡ true → scalars (a ++ b) ≡ true
both [] b h k = k
both (c ∷ cs) b h k =
    let parts = split_and (scalar c) (scalars cs) h in
    let again = both cs b parts.1 k in
    let first : scalar c ≡ true = parts.0 in
    rw (first, again)

escaped_once : (b : Bool) (c : ℕ) → scalar c ≡ true → scalars (escaped b c) ≡ true
escaped_once true c h = rw h
escaped_once false c h = rw h

escaped_all : (test : ℕ → Bool) (cs : List ℕ) → scalars cs ≡ true → scalars (flat_map (λ c. escaped (test c) c) cs) ≡ true
escaped_all test [] h = refl
escaped_all test (c ∷ cs) h =
    let parts = split_and (scalar c) (scalars cs) h in
    both (escaped (test c) c) (flat_map (λ x. escaped (test x) x) cs) (escaped_once (test c) c parts.0) (escaped_all test cs parts.1)

of_field : (field : List ℕ) → scalars field ≡ true → scalars (printed_field field) ≡ true
of_field field h = both (flat_map (λ c. escaped (is_special c) c) field) (codes ":") (escaped_all is_special field h) refl

of_text : (text : List ℕ) → scalars text ≡ true → scalars (printed_text text) ≡ true
of_text text h = both (inside_quotes text) (34 ∷ []) (escaped_all needs_backslash text h) refl

of_lower : (b : Bound) → bound_of_characters b ≡ true → scalars (printed_lower b) ≡ true
of_lower (Inclusive text) h = h
of_lower (Exclusive text) h = h
of_lower Unbounded h = refl

of_upper : (b : Bound) → bound_of_characters b ≡ true → scalars (printed_upper b) ≡ true
of_upper (Inclusive text) h = both text (codes "]") h refl
of_upper (Exclusive text) h = both text (codes "}") h refl
of_upper Unbounded h = refl

of_more : (texts : List (List ℕ)) → all_of_characters texts ≡ true → scalars (more_elements texts) ≡ true
of_more [] h = refl
of_more (text ∷ texts) h =
    let parts = split_and (scalars text) (all_of_characters texts) h in
    both (printed_text text) (more_elements texts) (of_text text parts.0) (of_more texts parts.1)

of_elements : (texts : List (List ℕ)) → all_of_characters texts ≡ true → scalars (printed_elements texts) ≡ true
of_elements [] h = refl
of_elements (text ∷ texts) h =
    let parts = split_and (scalars text) (all_of_characters texts) h in
    both (printed_text text) (more_elements texts) (of_text text parts.0) (of_more texts parts.1)

of_under_and : (e : Expression) (text : List ℕ) → scalars text ≡ true → scalars (under_and e text) ≡ true
of_under_and (Or a b) text h = both text (codes ")") h refl
of_under_and (And a b) text h = h
of_under_and (Not a) text h = h
of_under_and (Term f t) text h = h
of_under_and (Prefix f t) text h = h
of_under_and (Range f l u) text h = h
of_under_and (Set f ts) text h = h
of_under_and (Exists f) text h = h

of_under_not : (e : Expression) (text : List ℕ) → scalars text ≡ true → scalars (under_not e text) ≡ true
of_under_not (Or a b) text h = both text (codes ")") h refl
of_under_not (And a b) text h = both text (codes ")") h refl
of_under_not (Not a) text h = h
of_under_not (Term f t) text h = h
of_under_not (Prefix f t) text h = h
of_under_not (Range f l u) text h = h
of_under_not (Set f ts) text h = h
of_under_not (Exists f) text h = h

pub printed_of_characters : (e : Expression) → of_characters e ≡ true → scalars (printed e) ≡ true
unfolding of_characters printed
printed_of_characters (Term f t) h =
    let parts = split_and (scalars f) (scalars t) h in both (printed_field f) (printed_text t) (of_field f parts.0) (of_text t parts.1)
printed_of_characters (Prefix f t) h =
    let parts = split_and (scalars f) (scalars t) h in both (printed_field f) (printed_text t ++ codes "*") (of_field f parts.0) (both (printed_text t) (codes "*") (of_text t parts.1) refl)
printed_of_characters (Range f l u) h =
    let parts = split_and (scalars f) (bound_of_characters l && bound_of_characters u) h in
    let bounds = split_and (bound_of_characters l) (bound_of_characters u) parts.1 in
    both (printed_field f) (printed_lower l ++ (codes " TO " ++ printed_upper u)) (of_field f parts.0)
    (both (printed_lower l) (codes " TO " ++ printed_upper u) (of_lower l bounds.0) (of_upper u bounds.1))
printed_of_characters (Set f ts) h =
    let parts = split_and (scalars f) (all_of_characters ts) h in
    both (printed_field f) (codes "IN [" ++ (printed_elements ts ++ codes "]")) (of_field f parts.0) (both (printed_elements ts) (codes "]") (of_elements ts parts.1) refl)
printed_of_characters (Exists f) h = both (printed_field f) (codes "*") (of_field f h) refl
printed_of_characters (Not e) h = of_under_not e (printed e) (printed_of_characters e h)
printed_of_characters (And a b) h =
    let parts = split_and (of_characters a) (of_characters b) h in
    both (under_and a (printed a)) (codes " AND " ++ under_and b (printed b)) (of_under_and a (printed a) (printed_of_characters a parts.0)) (of_under_and b (printed b) (printed_of_characters b parts.1))
printed_of_characters (Or a b) h =
    let parts = split_and (of_characters a) (of_characters b) h in
    both (printed a) (codes " OR " ++ printed b) (printed_of_characters a parts.0) (printed_of_characters b parts.1)
