-- What a function of the parser returned is what the grammar's name reads, unless memory ran out.
use Rattle.std.specs.Prelude.{◌≡◌, ℕ, List, [], ◌++◌, Option, Some, None, Result, Ok, Err}
use Rattle.tantivy_query_grammar.specs.declared.stop.Stop.{Stop}
use Rattle.tantivy_query_grammar.specs.declared.stop.Stop.TheVariants as stop
use Rattle.tantivy_query_grammar.specs.declared.cursor.Cursor.{Cursor}
use Rattle.query_tree.specs.Reader.{Outcome, Found, Failed, Deep, and_then, pure}

-- what a value of the code is read as: a result and the text left
abbrev pub View : Type 0 → Type 0 → Type 0
View X A = X → A × List ℕ

abbrev pub Stops : {A : Type 0} → Stop → Outcome A → Type 0
Stops stop.Memory outcome = Unit {0}
Stops stop.Failed outcome = outcome ≡ Failed
Stops stop.Deep outcome = outcome ≡ Deep

abbrev pub Gives : {X A : Type 0} → View X A → Result X Stop → Outcome A → Type 0
Gives view (Ok x) outcome = outcome ≡ Found (view x).0 (view x).1
Gives view (Err e) outcome = Stops e outcome

-- the same for a function that takes no memory and opens no level
abbrev pub Gets : {X A : Type 0} → View X A → Option X → Outcome A → Type 0
Gets view (Some x) outcome = outcome ≡ Found (view x).0 (view x).1
Gets view None outcome = outcome ≡ Failed

-- the same for what gives a value and what is left behind it
abbrev pub Reads : {A : Type 0} → Result (A × Cursor) Stop → Outcome A → Type 0
Reads result outcome = Gives (λ x. (x.0, x.1.text.now)) result outcome

-- with a text in front of the one that is read
unfoldable pub with_front : List ℕ → Outcome (List ℕ) → Outcome (List ℕ)
with_front front outcome = and_then outcome (λ text. pure (front ++ text))

-- with a list in front of the one that is read
unfoldable pub with_list : {A : Type 0} → List A → Outcome (List A) → Outcome (List A)
with_list front outcome = and_then outcome (λ found. pure (front ++ found))

-- the same for what reads a whole text
abbrev pub GivesWhole : {A : Type 0} → Result A Stop → Outcome A → Type 0
GivesWhole (Ok x) outcome = outcome ≡ Found x []
GivesWhole (Err e) outcome = Stops e outcome
