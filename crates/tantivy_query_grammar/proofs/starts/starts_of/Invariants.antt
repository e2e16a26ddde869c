use Rattle.std.proofs.Common.{◌≡◌, ◌≤◌, length, drop}
use Rattle.tantivy_query_grammar.specs.FieldStarts.{field_starts}
use Rattle.tantivy_query_grammar.specs.Ahead.{ahead_of}
use Rattle.tantivy_query_grammar.proofs.starts.starts_of.Given as goal

abbrev pub invariant-loop-at : goal.invariant-loop-at
invariant-loop-at l = record {
  within : l.at ≤ length l.text;
  as_long : length l.starts.items ≡ length l.text;
  known : drop l.at l.starts.items ≡ field_starts (drop l.at l.text);
  ahead : l.ahead ≡ ahead_of (drop l.at l.text);
}

abbrev pub decreases-loop-at : goal.decreases-loop-at
decreases-loop-at l = l.at
