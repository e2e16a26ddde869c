use Rattle.std.proofs.Common.{ℕ, List, [], ap, ◌∙◌, subst, sym}
use Rattle.fst_map.specs.Built.{built, IsBuilt}
use Rattle.fst_map.proofs.Building.{IsBuilt-none, built-none}
use Rattle.fst_map.proofs.map.MapBuilder.new.Goals as goal

pub invariant_of-result : goal.invariant_of-result
invariant_of-result c =
    subst (λ (k : List ℕ). IsBuilt 0 0 c.new.result.items k) (sym c.new-2.ensures.items) (subst (λ (t : List ℕ). IsBuilt 0 0 t []) (sym c.new.ensures.items) IsBuilt-none)

pub returns : goal.returns
returns c = ap (λ (t : List ℕ). built 0 t c.new-2.result.items) c.new.ensures.items ∙ ap (λ (k : List ℕ). built 0 [] k) c.new-2.ensures.items ∙ built-none
