use Rattle.std.proofs.Common.{◌≡◌, take}
use Rattle.term_search.specs.Members.{Joins, IsAsked, clause_lookups}
use Rattle.term_search.proofs.members.+members.Given as goal

abbrev pub invariant-clause_members-loop-pair : goal.invariant-clause_members-loop-pair
invariant-clause_members-loop-pair g l = record {
  joins : Joins l.index (g.H.FileHandle.state l.initial.file) l.default (take l.pair-index l.pairs) l.joined;
  over : l.joined.documents ≡ l.index.documents;
  asks : IsAsked l.index (clause_lookups l.default (take l.pair-index l.pairs)) (g.H.FileHandle.state l.initial.file) (g.H.FileHandle.state l.file) ⊥;
}
