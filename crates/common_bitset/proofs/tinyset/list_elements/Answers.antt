use Rattle.std.proofs.Common.{◌<◌, ◌+◌, ◌++◌, [], ◌∷◌, length, take, ap, sym, ◌∙◌, arith, append_assoc, rules}
use Rattle.std.proofs.lemmas.List.{take_more_set}
use Rattle.common_bitset.proofs.Listed.{few_rising}
use Rattle.common_bitset.proofs.tinyset.list_elements.Goals as goal

pub loop-element-init : goal.loop-element-init
loop-element-init c = record {
  so_far = c.into_iter-element-iterator.ensures;
  few = omega (arith, ap length c.into_iter-element-iterator.ensures, few_rising 64 c.args.set);
  long = c.requires;
}

pub bounds-elements-count : goal.bounds-elements-count
bounds-elements-count c =
    let more = ap length c.in-Some.ensures.steps in
    omega (arith, c.loop-element.invariant.few, c.loop-element.invariant.long, more)

pub loop-element-preserved : goal.loop-element-preserved
loop-element-preserved c =
    let more = ap length c.in-Some.ensures.steps in
    let room : c.loop-element.count < length c.loop-element.elements = omega (arith, c.loop-element.invariant.few, c.loop-element.invariant.long, more) in
    let before = take c.loop-element.count c.loop-element.elements in
    record {
      so_far =
          ap (λ xs. xs ++ c.next.new.self) (take_more_set c.loop-element.elements c.loop-element.count c.in-Some.element room)
          ∙ append_assoc before (c.in-Some.element ∷ []) c.next.new.self
          ∙ ap (λ xs. before ++ xs) (sym c.in-Some.ensures.steps)
          ∙ c.loop-element.invariant.so_far;
      few = omega (arith, c.loop-element.invariant.few, more);
      long = search rules;
    }
