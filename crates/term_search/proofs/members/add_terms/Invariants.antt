use Rattle.std.proofs.Common.{◌≡◌, map, take}
use Rattle.term_search.specs.Members.{Adds, IsAsked, holds_any, lookup_of}
use Rattle.term_search.proofs.members.add_terms.Given as goal

abbrev pub invariant-loop-term : goal.invariant-loop-term
invariant-loop-term g l = record {
  adds : Adds l.index (g.H.FileHandle.state l.initial.file) (holds_any l.field (take l.term-index l.terms)) l.initial.members l.members;
  over : l.members.max_value ≡ l.index.documents;
  asks : IsAsked l.index (map (lookup_of l.field) (take l.term-index l.terms)) (g.H.FileHandle.state l.initial.file) (g.H.FileHandle.state l.file) ⊥;
}
