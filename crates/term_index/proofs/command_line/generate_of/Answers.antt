use Rattle.std.proofs.Common.{◌∙◌, ◌<◌, ◌^◌, sym, arith}
use Rattle.term_index.proofs.Forms.{no_generate, decimal_once, second_of_two}
use Rattle.term_index.proofs.command_line.generate_of.Goals as goal

pub returns-then-count-gt-MAX_COUNT : goal.returns-then-count-gt-MAX_COUNT
returns-then-count-gt-MAX_COUNT c = no_generate c.args.rest.now (λ seed count is allowed.
    let fits : count < 2 ^ 64 = omega (arith, allowed.1) in
    let same = decimal_once count c.in-Some-number_of-2.count c.in-Some.count.now fits c.in-Some-number_of-2.ensures.1 (sym (second_of_two _ _ _ _ (sym is ∙ c.in-Some.ensures.some))) c.in-Some-number_of-2.ensures.0 in
    absurd (omega (arith, same, allowed.1, c.if-count-gt-MAX_COUNT.true)))
