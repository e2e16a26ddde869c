use Rattle.std.proofs.Common.{◌≡◌, ◌++◌, ◌∷◌, [], List, length, take}
use Rattle.documents.specs.declared.documents.Doc.{Doc}
use Rattle.index_writing.specs.Gathering.{Tells}
use Rattle.index_writing.proofs.gather.add_doc.Given as goal

abbrev pub invariant-loop-pair : goal.invariant-loop-pair
invariant-loop-pair l = (docs : List Doc) → length docs ≡ l.number → Tells l.initial.gathered docs → Tells l.gathered (docs ++ record { pairs = take l.pair-index l.pair-items } ∷ [])
