-- The texts that are written, piece by piece, are the definition's objects.
use Rattle.std.proofs.Common.{◌≡◌, ◌∙◌, sym, ap, refl, ℕ, zero, suc, ◌+◌, ◌<◌, List, [], ◌∷◌, ◌++◌, length, map, take, get_or, Option, append_assoc, arith, add-one}
use Rattle.std.proofs.Math.Seq.{take-suc}
use Rattle.std.proofs.lemmas.Simd.{map-map}
use Rattle.std.specs.Prelude.{codes}
use Rattle.std.specs.Fmt.{decimal}
use Rattle.json.specs.Print.{quoted, escape_byte}
use Rattle.query_tree.specs.declared.tree.Occur.{Occur}
use Rattle.query_tree.specs.Decimals.{Digits}
use Rattle.query_tree.specs.declared.tree.UserInputBound.TheVariants as bound
use Rattle.query_tree.specs.declared.tree.UserInputBound.{UserInputBound}
use Rattle.query_tree.specs.declared.tree.UserInputLiteral.{UserInputLiteral}
use Rattle.query_tree.specs.declared.tree.UserInputLeaf.{UserInputLeaf}
use Rattle.query_tree.specs.declared.tree.UserInputLeaf.TheVariants as leaf
use Rattle.query_tree.specs.declared.tree.UserInputAst.{UserInputAst}
use Rattle.query_tree.specs.declared.tree.UserInputAst.TheVariants as tree
use Rattle.query_tree.specs.Json.{object, member, array, commas, field_json, bound_json, literal_json, leaf_json, delimiter_json, bool_json, number_json, mark_json, json_text}
use Rattle.query_tree.proofs.Plain.{json-Clause, json-Boost, json-Leaf}
use Rattle.query_json.specs.Pieces.{pair_json, comma, literal_end}

pub inclusive_shape : (old text : List ℕ) → ((old ++ codes "{\"type\":\"inclusive\",\"value\":") ++ quoted text) ++ codes "}" ≡ old ++ bound_json (bound.Inclusive text)
unfolding escape_byte
inclusive_shape old text = simp append_assoc

pub exclusive_shape : (old text : List ℕ) → ((old ++ codes "{\"type\":\"exclusive\",\"value\":") ++ quoted text) ++ codes "}" ≡ old ++ bound_json (bound.Exclusive text)
unfolding escape_byte
exclusive_shape old text = simp append_assoc

pub unbounded_shape : codes "{\"type\":\"unbounded\"}" ≡ bound_json bound.Unbounded
unfolding escape_byte
unbounded_shape = refl

-- ---- lists one after another, grouped as they are written and as they are defined

one : (o a f b : List ℕ) → ((o ++ a) ++ f) ++ b ≡ o ++ (a ++ (f ++ b))
one o a f b = simp append_assoc

two : (o a f b g c : List ℕ) → ((((o ++ a) ++ f) ++ b) ++ g) ++ c ≡ o ++ (a ++ ((f ++ (b ++ g)) ++ c))
two o a f b g c = simp append_assoc

three : (o a f b g c h d : List ℕ) → ((((((o ++ a) ++ f) ++ b) ++ g) ++ c) ++ h) ++ d ≡ o ++ (a ++ ((f ++ (b ++ (g ++ (c ++ h)))) ++ d))
three o a f b g c h d = simp append_assoc

five : (o a f b g c h d i e j k : List ℕ) → ((((o ++ a) ++ f) ++ b) ++ g) ++ ((((((c ++ h) ++ d) ++ i) ++ e) ++ j) ++ k) ≡ o ++ (a ++ ((f ++ (b ++ (g ++ (c ++ (h ++ (d ++ (i ++ (e ++ j)))))))) ++ k))
five o a f b g c h d i e j k = simp append_assoc

in_list : (o a f b g c d : List ℕ) → ((((o ++ a) ++ f) ++ b) ++ g) ++ (c ++ d) ≡ o ++ (a ++ ((f ++ (b ++ (g ++ c))) ++ d))
in_list o a f b g c d = simp append_assoc

-- ---- leaves

pub literal_shape : (l : UserInputLiteral) (old : List ℕ)
    → ((((old ++ codes "{\"type\":\"literal\",\"field_name\":") ++ field_json l.field_name) ++ codes ",\"phrase\":") ++ quoted l.phrase) ++ literal_end l ≡ old ++ literal_json l
unfolding escape_byte
literal_shape l old =
    five old (codes "{\"type\":\"literal\",\"field_name\":") (field_json l.field_name) (codes ",\"phrase\":") (quoted l.phrase)
    (codes ",\"delimiter\":") (delimiter_json l.delimiter) (codes ",\"slop\":") (decimal l.slop) (codes ",\"prefix\":") (bool_json l.prefix) (codes "}")

pub range_shape : (field : Option (List ℕ)) (lower upper : UserInputBound) (old : List ℕ)
    → ((((((old ++ codes "{\"type\":\"range\",\"field\":") ++ field_json field) ++ codes ",\"lower\":") ++ bound_json lower) ++ codes ",\"upper\":") ++ bound_json upper) ++ codes "}"
    ≡ old ++ leaf_json (leaf.Range field lower upper)
unfolding escape_byte leaf_json
range_shape field lower upper old = three old (codes "{\"type\":\"range\",\"field\":") (field_json field) (codes ",\"lower\":") (bound_json lower) (codes ",\"upper\":") (bound_json upper) (codes "}")

pub set_shape : (field : Option (List ℕ)) (elements : List (List ℕ)) (old : List ℕ)
    → ((((old ++ codes "{\"type\":\"set\",\"field\":") ++ field_json field) ++ codes ",\"elements\":[") ++ commas (map quoted elements)) ++ codes "]}" ≡ old ++ leaf_json (leaf.Set field elements)
unfolding escape_byte leaf_json
set_shape field elements old = in_list old (codes "{\"type\":\"set\",\"field\":") (field_json field) (codes ",\"elements\":[") (commas (map quoted elements)) (codes "]") (codes "}")

pub regex_shape : (field : Option (List ℕ)) (pattern old : List ℕ)
    → ((((old ++ codes "{\"type\":\"regex\",\"field\":") ++ field_json field) ++ codes ",\"pattern\":") ++ quoted pattern) ++ codes "}" ≡ old ++ leaf_json (leaf.Regex field pattern)
unfolding escape_byte leaf_json
regex_shape field pattern old = two old (codes "{\"type\":\"regex\",\"field\":") (field_json field) (codes ",\"pattern\":") (quoted pattern) (codes "}")

pub exists_shape : (field old : List ℕ) → ((old ++ codes "{\"type\":\"exists\",\"field\":") ++ quoted field) ++ codes "}" ≡ old ++ leaf_json (leaf.Exists field)
unfolding escape_byte leaf_json
exists_shape field old = one old (codes "{\"type\":\"exists\",\"field\":") (quoted field) (codes "}")

pub all_shape : codes "{\"type\":\"all\"}" ≡ object (codes "all") []
unfolding escape_byte
all_shape = refl

pub end_written : (l : UserInputLiteral) (old w v a b c d e f g : List ℕ) → w ≡ delimiter_json l.delimiter → v ≡ bool_json l.prefix
    → a ≡ old ++ codes ",\"delimiter\":" → b ≡ a ++ w → c ≡ b ++ codes ",\"slop\":" → d ≡ c ++ decimal l.slop → e ≡ d ++ codes ",\"prefix\":" → f ≡ e ++ v → g ≡ f ++ codes "}"
    → g ≡ old ++ literal_end l
end_written l old w v a b c d e f g hw hv ha hb hc hd he hf hg =
    hg ∙ ap (λ x. x ++ codes "}") (hf ∙ ap (λ x. e ++ x) hv ∙ ap (λ x. x ++ bool_json l.prefix) (he ∙ ap (λ x. x ++ codes ",\"prefix\":")
    (hd ∙ ap (λ x. x ++ decimal l.slop) (hc ∙ ap (λ x. x ++ codes ",\"slop\":") (hb ∙ ap (λ x. a ++ x) hw ∙ ap (λ x. x ++ delimiter_json l.delimiter) ha)))))
    ∙ seven old (codes ",\"delimiter\":") (delimiter_json l.delimiter) (codes ",\"slop\":") (decimal l.slop) (codes ",\"prefix\":") (bool_json l.prefix) (codes "}")
  where
    seven : (o a b c d e f g : List ℕ) → ((((((o ++ a) ++ b) ++ c) ++ d) ++ e) ++ f) ++ g ≡ o ++ ((((((a ++ b) ++ c) ++ d) ++ e) ++ f) ++ g)
    seven o a b c d e f g = simp append_assoc

pub literal_written : (l : UserInputLiteral) (old p a b d : List ℕ) → p ≡ l.phrase → a ≡ (old ++ codes "{\"type\":\"literal\",\"field_name\":") ++ field_json l.field_name
    → b ≡ (a ++ codes ",\"phrase\":") ++ quoted p → d ≡ b ++ literal_end l → d ≡ old ++ literal_json l
literal_written l old p a b d hp ha hb hd =
    hd ∙ ap (λ x. x ++ literal_end l) (hb ∙ ap (λ x. (a ++ codes ",\"phrase\":") ++ quoted x) hp ∙ ap (λ x. (x ++ codes ",\"phrase\":") ++ quoted l.phrase) ha) ∙ literal_shape l old

pub range_written : (field : Option (List ℕ)) (lower upper : UserInputBound) (old a b c d e f : List ℕ) → a ≡ (old ++ codes "{\"type\":\"range\",\"field\":") ++ field_json field
    → b ≡ a ++ codes ",\"lower\":" → c ≡ b ++ bound_json lower → d ≡ c ++ codes ",\"upper\":" → e ≡ d ++ bound_json upper → f ≡ e ++ codes "}" → f ≡ old ++ leaf_json (leaf.Range field lower upper)
range_written field lower upper old a b c d e f ha hb hc hd he hf =
    hf ∙ ap (λ x. x ++ codes "}") (he ∙ ap (λ x. x ++ bound_json upper) (hd ∙ ap (λ x. x ++ codes ",\"upper\":") (hc ∙ ap (λ x. x ++ bound_json lower) (hb ∙ ap (λ x. x ++ codes ",\"lower\":") ha))))
    ∙ range_shape field lower upper old

pub set_written : (field : Option (List ℕ)) (elements : List (List ℕ)) (old a b c d : List ℕ) → a ≡ (old ++ codes "{\"type\":\"set\",\"field\":") ++ field_json field
    → b ≡ a ++ codes ",\"elements\":[" → c ≡ b ++ commas (map quoted elements) → d ≡ c ++ codes "]}" → d ≡ old ++ leaf_json (leaf.Set field elements)
set_written field elements old a b c d ha hb hc hd =
    hd ∙ ap (λ x. x ++ codes "]}") (hc ∙ ap (λ x. x ++ commas (map quoted elements)) (hb ∙ ap (λ x. x ++ codes ",\"elements\":[") ha)) ∙ set_shape field elements old

pub exists_written : (field p old a d : List ℕ) → p ≡ field → a ≡ (old ++ codes "{\"type\":\"exists\",\"field\":") ++ quoted p → d ≡ a ++ codes "}" → d ≡ old ++ leaf_json (leaf.Exists field)
exists_written field p old a d hp ha hd =
    hd ∙ ap (λ x. x ++ codes "}") (ha ∙ ap (λ x. (old ++ codes "{\"type\":\"exists\",\"field\":") ++ quoted x) hp) ∙ exists_shape field old

pub all_written : (l : UserInputLeaf) (old d : List ℕ) → l ≡ leaf.All → d ≡ old ++ codes "{\"type\":\"all\"}" → d ≡ old ++ leaf_json l
unfolding leaf_json
all_written l old d h hd = hd ∙ ap (λ x. old ++ x) all_shape ∙ ap (λ x. old ++ leaf_json x) (sym h)

-- ---- trees, behind what was written before

clause_shape : (old pairs : List ℕ) → ((old ++ codes "{\"type\":\"bool\",\"clauses\":[") ++ pairs) ++ codes "]}"
    ≡ old ++ object (codes "bool") (member (codes "clauses") (codes "[" ++ pairs ++ codes "]") ∷ [])
unfolding escape_byte
clause_shape old pairs = simp append_assoc

boost_shape : (old text number : List ℕ) → ((((old ++ codes "{\"type\":\"boost\",\"underlying\":") ++ text) ++ codes ",\"boost\":") ++ number) ++ codes "}"
    ≡ old ++ object (codes "boost") (member (codes "underlying") text ∷ member (codes "boost") number ∷ [])
unfolding escape_byte
boost_shape old text number = two old (codes "{\"type\":\"boost\",\"underlying\":") text (codes ",\"boost\":") number (codes "}")

pub clause_written : (t : UserInputAst) (pairs : List (Option Occur × UserInputAst)) (old a b d : List ℕ) → t ≡ tree.Clause pairs → a ≡ old ++ codes "{\"type\":\"bool\",\"clauses\":["
    → b ≡ a ++ commas (map pair_json pairs) → d ≡ b ++ codes "]}" → d ≡ old ++ json_text t
clause_written t pairs old a b d h ha hb hd =
    hd ∙ ap (λ x. x ++ codes "]}") (hb ∙ ap (λ x. x ++ commas (map pair_json pairs)) ha)
    ∙ clause_shape old (commas (map pair_json pairs))
    ∙ ap (λ ps. old ++ object (codes "bool") (member (codes "clauses") (codes "[" ++ commas ps ++ codes "]") ∷ []))
    (sym (map-map (λ (p : Option Occur × List ℕ). array (mark_json p.0 ∷ p.1 ∷ [])) (λ (p : Option Occur × UserInputAst). (p.0, json_text p.1)) pairs))
    ∙ ap (λ x. old ++ x) (sym (ap json_text h ∙ json-Clause pairs))

pub boost_written : (t u v : UserInputAst) (n : Digits) (old a b c d e : List ℕ) → t ≡ tree.Boost u n → v ≡ u → a ≡ old ++ codes "{\"type\":\"boost\",\"underlying\":"
    → b ≡ a ++ json_text v → c ≡ b ++ codes ",\"boost\":" → d ≡ c ++ number_json n.whole n.fraction → e ≡ d ++ codes "}" → e ≡ old ++ json_text t
boost_written t u v n old a b c d e h hv ha hb hc hd he =
    he ∙ ap (λ x. x ++ codes "}") (hd ∙ ap (λ x. x ++ number_json n.whole n.fraction) (hc ∙ ap (λ x. x ++ codes ",\"boost\":") (hb ∙ ap (λ x. x ++ json_text v) ha)))
    ∙ boost_shape old (json_text v) (number_json n.whole n.fraction)
    ∙ ap (λ x. old ++ object (codes "boost") (member (codes "underlying") (json_text x) ∷ member (codes "boost") (number_json n.whole n.fraction) ∷ [])) hv
    ∙ ap (λ x. old ++ x) (sym (ap json_text h ∙ json-Boost u n))

pub leaf_written : (t : UserInputAst) (l k : UserInputLeaf) (old d : List ℕ) → t ≡ tree.Leaf l → k ≡ l → d ≡ old ++ leaf_json k → d ≡ old ++ json_text t
leaf_written t l k old d h hk hd = hd ∙ ap (λ x. old ++ x) (ap leaf_json hk ∙ sym (ap json_text h ∙ json-Leaf l))

-- ---- one more in an array

between : {A : Type 0} → List A → List ℕ
between [] = []
between (x ∷ xs) = 44 ∷ []

joined : {A : Type 0} (text : A → List ℕ) (xs : List A) (y : A) → commas (map text (xs ++ y ∷ [])) ≡ (commas (map text xs) ++ between xs) ++ text y
unfolding between
joined text [] y = refl
joined text (x ∷ []) y = sym (append_assoc (text x) (44 ∷ []) (text y))
joined text (x ∷ z ∷ xs) y =
    let more : commas (map text ((z ∷ xs) ++ y ∷ [])) ≡ (commas (map text (z ∷ xs)) ++ 44 ∷ []) ++ text y = joined text (z ∷ xs) y in
    ap (λ s. text x ++ 44 ∷ s) more
    ∙ sym (ap (λ s. s ++ text y) (append_assoc (text x) (44 ∷ commas (map text (z ∷ xs))) (44 ∷ [])) ∙ append_assoc (text x) (44 ∷ (commas (map text (z ∷ xs)) ++ 44 ∷ [])) (text y))

comma_between : {A : Type 0} (i : ℕ) (xs : List A) → i < length xs → comma i ≡ between (take i xs)
unfolding between
comma_between i [] h = absurd (omega arith)
comma_between zero (x ∷ xs) h = refl
comma_between (suc i) (x ∷ xs) h = refl

pub array_turn : {A : Type 0} (text : A → List ℕ) (xs : List A) (i : ℕ) (x : A) → i < length xs → x ≡ get_or xs i x
    → (commas (map text (take i xs)) ++ comma i) ++ text x ≡ commas (map text (take (i + 1) xs))
array_turn text xs i x h e =
    ap (λ g. (commas (map text (take i xs)) ++ g) ++ text x) (comma_between i xs h)
    ∙ sym (joined text (take i xs) x)
    ∙ ap (λ ys. commas (map text ys)) (ap (λ y. take i xs ++ y ∷ []) e ∙ sym (take-suc xs i x h) ∙ ap (λ n. take n xs) (sym (add-one i)))

pub element_turn : (xs : List (List ℕ)) (i : ℕ) (x y start out a b : List ℕ) → i < length xs → x ≡ get_or xs i x → y ≡ x → out ≡ start ++ commas (map quoted (take i xs)) → a ≡ out ++ comma i → b ≡ a ++ quoted y
    → b ≡ start ++ commas (map quoted (take (i + 1) xs))
element_turn xs i x y start out a b lt e same o ha hb =
    hb ∙ ap (λ v. a ++ quoted v) same ∙ ap (λ v. v ++ quoted x) (ha ∙ ap (λ v. v ++ comma i) o)
    ∙ ap (λ v. v ++ quoted x) (append_assoc start (commas (map quoted (take i xs))) (comma i))
    ∙ append_assoc start (commas (map quoted (take i xs)) ++ comma i) (quoted x)
    ∙ ap (λ v. start ++ v) (array_turn quoted xs i x lt e)

pair_shape : (old gap mark text : List ℕ) → (((((old ++ gap) ++ codes "[") ++ mark) ++ codes ",") ++ text) ++ codes "]" ≡ (old ++ gap) ++ array (mark ∷ text ∷ [])
pair_shape old gap mark text = by (old ++ gap) (codes "[") mark (codes ",") text (codes "]")
  where
    by : (o a m b u c : List ℕ) → ((((o ++ a) ++ m) ++ b) ++ u) ++ c ≡ o ++ (a ++ ((m ++ (b ++ u)) ++ c))
    by o a m b u c = simp append_assoc

pub pair_turn : (xs : List (Option Occur × UserInputAst)) (i : ℕ) (x : Option Occur × UserInputAst) (start out a b c d e f : List ℕ) → i < length xs → x ≡ get_or xs i x
    → out ≡ start ++ commas (map pair_json (take i xs)) → a ≡ out ++ comma i → b ≡ a ++ codes "[" → c ≡ b ++ mark_json x.0 → d ≡ c ++ codes "," → e ≡ d ++ json_text x.1 → f ≡ e ++ codes "]"
    → f ≡ start ++ commas (map pair_json (take (i + 1) xs))
pair_turn xs i x start out a b c d e f lt is o ha hb hc hd he hf =
    hf ∙ ap (λ v. v ++ codes "]") (he ∙ ap (λ v. v ++ json_text x.1) (hd ∙ ap (λ v. v ++ codes ",") (hc ∙ ap (λ v. v ++ mark_json x.0) (hb ∙ ap (λ v. v ++ codes "[") (ha ∙ ap (λ v. v ++ comma i) o)))))
    ∙ pair_shape (start ++ commas (map pair_json (take i xs))) (comma i) (mark_json x.0) (json_text x.1)
    ∙ ap (λ v. v ++ pair_json x) (append_assoc start (commas (map pair_json (take i xs))) (comma i))
    ∙ append_assoc start (commas (map pair_json (take i xs)) ++ comma i) (pair_json x)
    ∙ ap (λ v. start ++ v) (array_turn pair_json xs i x lt is)
