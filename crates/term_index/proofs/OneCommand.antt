-- Words are one command.
use Rattle.std.proofs.Common.{◌≡◌, ◌∙◌, ℕ, List, [], get_or, refl, sym, ap, subst, arith}
use Rattle.std.specs.Prelude.{Bool, true, false, codes, decimal, if◌then◌else◌}
use Rattle.std.specs.Str.Parse.{digits_value}
use Rattle.term_index.specs.Commands.{Command, build, search, ask, tree, generate, words_of, IsAllowed, IsCommand, IfCommand}
use Rattle.term_index.proofs.Forms.{has_name, decimal_back}

word : ℕ → List (List ℕ) → List ℕ
word place words = get_or words place []

number : ℕ → List (List ℕ) → ℕ
number place words = digits_value 10 (get_or words place [])

-- the command of which the words are those
read_back : List (List ℕ) → Command
read_back words =
    if has_name (codes "build") words then build (word 1 words) (number 2 words)
    else (if has_name (codes "search") words then search (word 1 words) (word 2 words) (word 3 words)
    else (if has_name (codes "ask") words then ask (word 1 words) (word 2 words)
    else (if has_name (codes "tree") words then tree (word 1 words)
    else generate (number 1 words) (number 2 words))))

back : (command : Command) → IsAllowed command → read_back (words_of command) ≡ command
unfolding read_back word number
back (build path pages) allowed = ap (build path) (decimal_back pages (omega (arith, allowed.2)))
back (search path field query) allowed = refl
back (ask field query) allowed = refl
back (tree query) allowed = refl
back (generate seed count) allowed =
    ap (λ n. generate n (digits_value 10 (decimal count))) (decimal_back seed allowed.0) ∙ ap (generate seed) (decimal_back count (omega (arith, allowed.1)))

pub one_command : (words : List (List ℕ)) (a b : Command) → IsCommand words a → IsCommand words b → a ≡ b
one_command words a b is_a is_b =
    sym (back a is_a.allowed) ∙ ap read_back (sym is_a.spelled ∙ is_b.spelled) ∙ back b is_b.allowed

-- what holds of the command that was read holds of the command that the words are
pub of_words : (words : List (List ℕ)) (read : Command) (P : Command → Type 0) → IsCommand words read → P read → IfCommand words P
of_words words read P is holds command other = subst P (one_command words read command is other) holds

-- a test that fails, where it does not hold
pub unless : (test : Bool) (P : Type 0) → (test ≡ false → P) → ¬ (test ≡ true) → P
unless true P holds none = absurd (none refl)
unless false P holds none = holds refl
