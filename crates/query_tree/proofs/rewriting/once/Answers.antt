use Rattle.std.proofs.Common.{◌∙◌, ap, []}
use Rattle.indexmap.specs.IndexSet.{insert_all}
use Rattle.query_tree.proofs.Derived.{inserted, pair_eq}
use Rattle.query_tree.proofs.rewriting.once.Goals as goal

pub returns : goal.returns
returns c = c.from_vec.ensures ∙ c.in_ok-kept.ensures ∙ ap (insert_all pair_eq []) c.into_vec.ensures ∙ inserted c.args.pairs
