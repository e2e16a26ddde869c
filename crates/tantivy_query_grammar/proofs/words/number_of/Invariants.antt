use Rattle.std.proofs.Common.{◌≡◌, ◌<◌, ◌^◌, drop, fold}
use Rattle.query_tree.specs.Grammar.{next_number, number}
use Rattle.tantivy_query_grammar.proofs.words.number_of.Given as goal

abbrev pub invariant-loop-digit : goal.invariant-loop-digit
invariant-loop-digit l = record {
  small : l.number < 2 ^ 32;
  rest : fold next_number l.number (drop l.digit-index l.digits) ≡ number l.digits;
}
