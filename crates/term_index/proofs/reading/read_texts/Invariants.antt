-- The pairs so far, and then those of the texts that are left, are those of all.
use Rattle.std.proofs.Common.{◌≡◌, Some}
use Rattle.std.specs.Prelude.{map}
use Rattle.std.specs.Vec.Iter.{into_iter_items}
use Rattle.serde_json.specs.View.{view}
use Rattle.term_index.specs.Reading.{both, gathered, pair_of_text}
use Rattle.term_index.proofs.reading.read_texts.Given as goal

abbrev pub invariant-loop-text : goal.invariant-loop-text
invariant-loop-text l =
    both (Some l.pairs) (gathered (pair_of_text l.name) (map view (into_iter_items l.text-iterator))) ≡ both (Some l.initial.pairs) (gathered (pair_of_text l.name) (map view l.fn.texts.items))
