use Rattle.std.proofs.Common.{lit<}
use Rattle.std.proofs.lemmas.Str.Pattern.{strip_suffix_char}
use Rattle.query_tree.proofs.Digits.{none_of, some_of}
use Rattle.query_tree.proofs.decimal.before_zero.Goals as goal

pub returns : goal.returns
returns c =
    let both = strip_suffix_char 48 c.args.digits.now c.strip_suffix.result c.strip_suffix.ensures.cases (lit< tt) in
    record { none = none_of _ _ c.strip_suffix.result both; some = some_of _ _ c.strip_suffix.result both }
