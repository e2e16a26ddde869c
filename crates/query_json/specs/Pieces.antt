-- The JSON of a tree's parts, as they are written one after another.
use Rattle.std.specs.Prelude.{ℕ, zero, suc, List, [], ◌∷◌, ◌++◌, codes, Option}
use Rattle.std.specs.Fmt.{decimal}
use Rattle.query_tree.specs.declared.tree.Occur.{Occur}
use Rattle.query_tree.specs.declared.tree.UserInputLiteral.{UserInputLiteral}
use Rattle.query_tree.specs.declared.tree.UserInputAst.{UserInputAst}
use Rattle.query_tree.specs.Json.{array, mark_json, delimiter_json, bool_json, json_text}

-- a pair as an array of its mark and its tree
abbrev pub pair_json : Option Occur × UserInputAst → List ℕ
pair_json pair = array (mark_json pair.0 ∷ json_text pair.1 ∷ [])

-- what stands in front of one more, behind so many
abbrev pub comma : ℕ → List ℕ
comma zero = []
comma (suc n) = codes ","

-- what stands behind the phrase of a literal
abbrev pub literal_end : UserInputLiteral → List ℕ
literal_end l =
    codes ",\"delimiter\":" ++ delimiter_json l.delimiter ++ codes ",\"slop\":" ++ decimal l.slop ++ codes ",\"prefix\":" ++ bool_json l.prefix ++ codes "}"
