use Rattle.std.proofs.Common.{sym, arith, rules}
use Rattle.std.proofs.lemmas.List.{take_all, length-take-le}
use Rattle.tantivy_stacker.specs.Maps.{cut_key}
use Rattle.tantivy_stacker.proofs.shared_arena_hashmap.cut.Goals as goal

pub slice_bounds-result-end : goal.slice_bounds-result-end
slice_bounds-result-end c = sym (length-take-le 65535 c.args.key.now (omega arith))

pub returns-then-key-gt-LONGEST_KEY-clause-short : goal.returns-then-key-gt-LONGEST_KEY-clause-short
returns-then-key-gt-LONGEST_KEY-clause-short c = omega (arith, length-take-le 65535 c.args.key.now (omega arith))

pub returns-then-key-gt-LONGEST_KEY-clause-value : goal.returns-then-key-gt-LONGEST_KEY-clause-value
unfolding cut_key
returns-then-key-gt-LONGEST_KEY-clause-value c = search rules

pub returns-else-key-gt-LONGEST_KEY-clause-value : goal.returns-else-key-gt-LONGEST_KEY-clause-value
unfolding cut_key
returns-else-key-gt-LONGEST_KEY-clause-value c = sym (take_all 65535 c.args.key.now c.if-key-gt-LONGEST_KEY.false)
