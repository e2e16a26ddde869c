-- The forms of commands, by their first word.
use Rattle.std.proofs.Common.{◌≡◌, ◌<◌, ◌^◌, ℕ, List, [], ◌∷◌, codes, sym, get_or, ◌∙◌, ap}
use Rattle.std.specs.Prelude.{Bool, true, false, ◌&&◌, ◌==◌, decimal}
use Rattle.std.proofs.lemmas.Bool.{true≢false}
use Rattle.std.proofs.lemmas.Fmt.{decimal_is_IsNumeral}
use Rattle.std.specs.Str.Parse.{digits_value}
use Rattle.term_index.specs.Commands.{build, search, ask, tree, generate, IsAllowed, IsNoCommand}

-- two words are equal, as a test that computes on literals
abbrev pub is_word : List ℕ → List ℕ → Bool
is_word [] [] = true
is_word (x ∷ xs) (y ∷ ys) = (x == y) && is_word xs ys
is_word _ _ = false

-- the first word is this one
abbrev pub has_name : List ℕ → List (List ℕ) → Bool
has_name name words = is_word name (get_or words 0 [])

tail_is : (x y : List ℕ) (xs ys : List (List ℕ)) → x ∷ xs ≡ y ∷ ys → xs ≡ ys
tail_is x y xs ys e = cc

head_is : (x y : List ℕ) (xs ys : List (List ℕ)) → x ∷ xs ≡ y ∷ ys → x ≡ y
head_is x y xs ys e = cc

pub no_build : (rest : List (List ℕ)) → ((path : List ℕ) (pages : ℕ) → rest ≡ path ∷ decimal pages ∷ [] → IsAllowed (build path pages) → ⊥) → IsNoCommand (codes "build" ∷ rest)
no_build rest none (build path pages) is = none path pages (tail_is _ _ _ _ is.spelled) is.allowed
no_build rest none _ is = absurd (true≢false (ap (has_name (codes "build")) is.spelled))

pub no_search : (rest : List (List ℕ)) → ((path field query : List ℕ) → rest ≡ path ∷ field ∷ query ∷ [] → IsAllowed (search path field query) → ⊥) → IsNoCommand (codes "search" ∷ rest)
no_search rest none (search path field query) is = none path field query (tail_is _ _ _ _ is.spelled) is.allowed
no_search rest none _ is = absurd (true≢false (ap (has_name (codes "search")) is.spelled))

pub no_ask : (rest : List (List ℕ)) → ((field query : List ℕ) → rest ≡ field ∷ query ∷ [] → ⊥) → IsNoCommand (codes "ask" ∷ rest)
no_ask rest none (ask field query) is = none field query (tail_is _ _ _ _ is.spelled)
no_ask rest none _ is = absurd (true≢false (ap (has_name (codes "ask")) is.spelled))

pub no_tree : (rest : List (List ℕ)) → ((query : List ℕ) → rest ≡ query ∷ [] → ⊥) → IsNoCommand (codes "tree" ∷ rest)
no_tree rest none (tree query) is = none query (tail_is _ _ _ _ is.spelled)
no_tree rest none _ is = absurd (true≢false (ap (has_name (codes "tree")) is.spelled))

pub no_generate : (rest : List (List ℕ)) → ((seed count : ℕ) → rest ≡ decimal seed ∷ decimal count ∷ [] → IsAllowed (generate seed count) → ⊥) → IsNoCommand (codes "gen" ∷ rest)
no_generate rest none (generate seed count) is = none seed count (tail_is _ _ _ _ is.spelled) is.allowed
no_generate rest none _ is = absurd (true≢false (ap (has_name (codes "gen")) is.spelled))

-- a decimal text tells its number
pub decimal_back : (n : ℕ) → n < 2 ^ 64 → digits_value 10 (decimal n) ≡ n
decimal_back n small = (decimal_is_IsNumeral n small).1

-- so it is that of one number
pub decimal_once : (n m : ℕ) (text : List ℕ) → n < 2 ^ 64 → m < 2 ^ 64 → text ≡ decimal n → text ≡ decimal m → n ≡ m
decimal_once n m text small_n small_m is_n is_m =
    sym (decimal_back n small_n) ∙ ap (digits_value 10) (sym is_n ∙ is_m) ∙ decimal_back m small_m

pub first_of_two : (a b c d : List ℕ) → a ∷ b ∷ [] ≡ c ∷ d ∷ [] → a ≡ c
first_of_two a b c d e = cc

pub second_of_two : (a b c d : List ℕ) → a ∷ b ∷ [] ≡ c ∷ d ∷ [] → b ≡ d
second_of_two a b c d e = cc
