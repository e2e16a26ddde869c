use Rattle.std.proofs.Common.{rules, ap, sym, ◌∙◌, take, slice_index}
use Rattle.std.proofs.lemmas.List.{take_more}
use Rattle.std.specs.FinSet.{insert}
use Rattle.document_sets.specs.Members.{with_numbers}
use Rattle.document_sets.proofs.Sets.{with-none, with-more}
use Rattle.document_sets.proofs.document_set.insert_all.Goals as goal

pub loop-number-init : goal.loop-number-init
loop-number-init c = record { elements = sym (with-none c.args.bits.now.elements); max_value = search rules }

pub loop-number-preserved : goal.loop-number-preserved
loop-number-preserved c =
    let numbers = c.args.numbers.now in
    let i = c.loop-number.number-index in
    record {
      elements =
          c.insert.ensures.elements
          ∙ ap (λ s. insert s (slice_index numbers i)) c.loop-number.invariant.elements
          ∙ sym (with-more c.args.bits.now.elements (take i numbers) (slice_index numbers i))
          ∙ ap (λ xs. with_numbers c.args.bits.now.elements xs) (sym (take_more numbers i 0 c.loop-number-test.true));
      max_value = c.insert.ensures.max_value ∙ c.loop-number.invariant.max_value;
    }
