use Rattle.std.proofs.Common.{lit<}
use Rattle.std.proofs.lemmas.Str.Pattern.{strip_prefix_char}
use Rattle.query_tree.proofs.Digits.{none_of, some_of}
use Rattle.query_tree.proofs.decimal.behind_zero.Goals as goal

pub returns : goal.returns
returns c =
    let both = strip_prefix_char 48 c.args.digits.now c.strip_prefix.result c.strip_prefix.ensures.cases (lit< tt) in
    record { none = none_of _ _ c.strip_prefix.result both; some = some_of _ _ c.strip_prefix.result both }
