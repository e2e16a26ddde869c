-- The law of printed expressions.
use Rattle.std.proofs.Common.{◌≡◌, ◌∙◌, sym, ap, subst, ℕ, ◌≤◌, ◌<◌, Bool, true, List, Result, Ok, Err, ◌⊎◌, inl, inr}
use Rattle.std.proofs.lemmas.Bool.{cases_lt}
use Rattle.std.specs.Str.{chars, IsUtf8}
use Rattle.std.proofs.lemmas.Str.{chars-encodes, chars_from_encodes}
use Rattle.query_tree.specs.Grammar.{query, max_levels}
use Rattle.query_tree.specs.Rewriting.{rewritten}
use Rattle.query_tree.specs.Answer.{Answer, Tree, Refused, TooDeep, answer, tree_of, Answers}
use Rattle.query_tree.specs.Printing.{Expression, print, printed, depth}
use Rattle.printed_queries.specs.Meaning.{is_plain, means}
use Rattle.printed_queries.specs.Law.{of_characters, MeansAs, PrintedMeansTheSame, PrintedTooDeep, IsPrinted, PrintedIsRead, satisfying, AnswersPrinted}
use Rattle.printed_queries.specs.Satisfies.{satisfies}
use Rattle.documents.specs.declared.documents.Doc.{Doc}
use Rattle.documents.specs.Documents.{numbers_where}
use Rattle.query_tree.specs.declared.answer.ParseError.{ParseError}
use Rattle.query_tree.specs.declared.answer.ParseError.TheVariants as errors
use Rattle.query_tree.specs.declared.tree.UserInputAst.{UserInputAst}
use Rattle.printed_queries.proofs.Trees.{tree_of_expression, query_again}
use Rattle.printed_queries.proofs.DeepTrees.{query_too_deep}
use Rattle.printed_queries.proofs.Values.{rewritten_means}
use Rattle.printed_queries.proofs.Characters.{printed_of_characters}

pub tree_of_printed : (e : Expression) → of_characters e ≡ true → is_plain e ≡ true → depth e ≤ max_levels → tree_of (print e) ≡ Tree (rewritten (tree_of_expression e))
unfolding tree_of print
tree_of_printed e characters plain h =
    ap (λ t. answer (query t)) (chars-encodes (printed e) (printed_of_characters e characters)) ∙ ap answer (query_again e plain h)

pub printed_means_the_same : PrintedMeansTheSame
printed_means_the_same e characters plain h =
    subst (MeansAs e) (sym (tree_of_printed e characters plain h)) (λ document default. rewritten_means document default e)

pub printed_too_deep : PrintedTooDeep
unfolding tree_of print
printed_too_deep e characters plain h =
    ap (λ t. answer (query t)) (chars-encodes (printed e) (printed_of_characters e characters)) ∙ ap answer (query_too_deep e plain h)

-- ---- of a text

-- where the depth allows it, the tree, else that it is too deep
abbrev Reads : Expression → Answer → Type 0
Reads e a = ((max_levels < depth e) × (a ≡ TooDeep)) ⊎ ((depth e ≤ max_levels) × (a ≡ Tree (rewritten (tree_of_expression e))))

text_read : (text : List ℕ) (e : Expression) → IsUtf8 text → IsPrinted text e → Reads e (tree_of text)
unfolding tree_of print
text_read text e utf8 is =
    let characters : chars text ≡ printed e = sym (chars_from_encodes (printed e) text utf8 (sym is.1)) in
    either characters (cases_lt max_levels (depth e))
  where
    either : chars text ≡ printed e → (max_levels < depth e) ⊎ (depth e ≤ max_levels) → Reads e (tree_of text)
    either same (inl deep) = inl (deep, ap (λ t. answer (query t)) same ∙ ap answer (query_too_deep e is.0 deep))
    either same (inr fits) = inr (fits, ap (λ t. answer (query t)) same ∙ ap answer (query_again e is.0 fits))

abbrev tree_or : UserInputAst → Answer → UserInputAst
tree_or other (Tree t) = t
tree_or other _ = other

is_read : (e : Expression) (t : UserInputAst) (a : Answer) → Reads e a → a ≡ Tree t → (depth e ≤ max_levels) × ((document : Doc) (default : List ℕ) → satisfies document t default ≡ means document e)
is_read e t a (inl deep) h = (let apart : TooDeep ≡ Tree t = sym deep.1 ∙ h in cc)
is_read e t a (inr fits) h =
    let same : rewritten (tree_of_expression e) ≡ t = ap (tree_or t) (sym fits.1 ∙ h) in
    (fits.0, λ document default. ap (λ u. satisfies document u default) (sym same) ∙ rewritten_means document default e)

is_refused : (e : Expression) (a : Answer) → Reads e a → a ≡ Refused → ⊥
is_refused e a (inl deep) h = (let apart : TooDeep ≡ Refused = sym deep.1 ∙ h in cc)
is_refused e a (inr fits) h = (let apart : Tree (rewritten (tree_of_expression e)) ≡ Refused = sym fits.1 ∙ h in cc)

is_too_deep : (e : Expression) (a : Answer) → Reads e a → a ≡ TooDeep → max_levels < depth e
is_too_deep e a (inl deep) h = deep.0
is_too_deep e a (inr fits) h = (let apart : Tree (rewritten (tree_of_expression e)) ≡ TooDeep = sym fits.1 ∙ h in cc)

pub printed_is_read : (text : List ℕ) (result : Result UserInputAst ParseError) → IsUtf8 text → Answers result (tree_of text) → PrintedIsRead text result
printed_is_read text (Ok t) utf8 h = λ e is. is_read e t (tree_of text) (text_read text e utf8 is) h
printed_is_read text (Err errors.Memory) utf8 h = tt
printed_is_read text (Err (errors.Refused r)) utf8 h = λ e is. is_refused e (tree_of text) (text_read text e utf8 is) h
printed_is_read text (Err errors.TooDeep) utf8 h = λ e is. is_too_deep e (tree_of text) (text_read text e utf8 is) h

same_numbers : (documents : List Doc) (p q : Doc → Bool) → ((d : Doc) → p d ≡ q d) → numbers_where p documents ≡ numbers_where q documents
same_numbers documents p q same = ap (λ test. numbers_where test documents) (λ i d. same d i)

-- what `search_index` shows for its numbers, from its clause on the tree that it answers
pub numbers_mean : (documents : List Doc) (query default ids : List ℕ) (t : UserInputAst) → IsUtf8 query → tree_of query ≡ Tree t → ids ≡ satisfying documents t default
    → AnswersPrinted documents query ids
numbers_mean documents query default ids t utf8 reads are e is =
    let read = is_read e t (tree_of query) (text_read query e utf8 is) reads in
    are ∙ same_numbers documents (λ d. satisfies d t default) (λ d. means d e) (λ d. read.1 d default)
