-- The documents so far, and then those of the objects that are left, are those of all.
use Rattle.std.proofs.Common.{◌≡◌, Some}
use Rattle.std.specs.Prelude.{map}
use Rattle.std.specs.Vec.Iter.{into_iter_items}
use Rattle.serde_json.specs.View.{view}
use Rattle.term_index.specs.Reading.{both, gathered, doc_of}
use Rattle.term_index.proofs.reading.read_docs.Given as goal

abbrev pub invariant-loop-object : goal.invariant-loop-object
invariant-loop-object l =
    both (Some l.docs.items) (gathered doc_of (map view (into_iter_items l.object-iterator))) ≡ gathered doc_of (map view l.fn.objects.items)
