-- A leaf is satisfied by a pair that is looked for in it.
use Rattle.std.proofs.Common.{◌≡◌, ◌≢◌, ◌∙◌, sym, ap, refl, ℕ, Bool, true, false, ◌&&◌, ◌||◌, ◌==◌, List, [], ◌∷◌, map, Option}
use Rattle.std.specs.Prelude.{if◌then◌else◌, unwrap_or, nat_eq, bytes_eq}
use Rattle.std.specs.List.{list_any, starts_with}
use Rattle.query_tree.specs.declared.tree.UserInputLiteral.{UserInputLiteral}
use Rattle.query_tree.specs.declared.tree.UserInputLeaf.{UserInputLeaf}
use Rattle.query_tree.specs.declared.tree.UserInputLeaf.TheVariants as leaf
use Rattle.documents.specs.declared.documents.Pair.{Pair}
use Rattle.documents.specs.declared.documents.Doc.{Doc}
use Rattle.documents.specs.Documents.{holds, holds_where}
use Rattle.printed_queries.specs.Satisfies.{satisfies_leaf, satisfies_literal}
use Rattle.printed_queries.specs.Lookups.{Lookup, takes_literal, lookups_of_leaf, is_found, LeafIsLookedUp}

or_false : (b : Bool) → (b || false) ≡ b
or_false true = refl
or_false false = refl

and_false : (b : Bool) → (b && false) ≡ false
and_false true = refl
and_false false = refl

-- nothing passes a test that is never passed
never_held : (field : List ℕ) (pairs : List Pair) → list_any (λ (pair : Pair). bytes_eq pair.field field && false) pairs ≡ false
never_held field [] = refl
never_held field (p ∷ pairs) = ap (λ b. b || list_any (λ (pair : Pair). bytes_eq pair.field field && false) pairs) (and_false (bytes_eq p.field field)) ∙ never_held field pairs

literal_looked_up : (doc : Doc) (field phrase : List ℕ) (no_slop prefix : Bool)
    → (no_slop && (if prefix then holds_where doc field (λ term. starts_with nat_eq term phrase) else holds doc field phrase))
    ≡ holds_where doc field (λ term. no_slop && (if prefix then starts_with nat_eq term phrase else bytes_eq term phrase))
literal_looked_up doc field phrase true true = refl
literal_looked_up doc field phrase true false = refl
literal_looked_up doc field phrase false prefix = sym (never_held field doc.pairs)

any-map : {A B : Type 0} (test : B → Bool) (f : A → B) (xs : List A) → list_any test (map f xs) ≡ list_any (λ x. test (f x)) xs
any-map test f [] = refl
any-map test f (x ∷ xs) = ap (λ b. test (f x) || b) (any-map test f xs)

pub leaf_looked_up : LeafIsLookedUp
unfolding satisfies_leaf lookups_of_leaf
leaf_looked_up doc default (leaf.Literal l) other =
    literal_looked_up doc (unwrap_or l.field_name default) l.phrase (l.slop == 0) l.prefix
    ∙ sym (or_false (holds_where doc (unwrap_or l.field_name default) (takes_literal l)))
leaf_looked_up doc default leaf.All other = absurd (other refl)
leaf_looked_up doc default (leaf.Range field lower upper) other = sym (or_false _)
leaf_looked_up doc default (leaf.Set field elements) other =
    sym (any-map (λ (wanted : Lookup). holds_where doc wanted.field wanted.takes) (λ element. record { field = unwrap_or field default; takes = λ term. bytes_eq term element }) elements)
leaf_looked_up doc default (leaf.Exists field) other = sym (or_false _)
leaf_looked_up doc default (leaf.Regex field pattern) other = refl
