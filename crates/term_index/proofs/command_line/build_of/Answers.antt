use Rattle.std.proofs.Common.{◌≡◌, ◌∙◌, ◌<◌, ◌^◌, sym, ap, length, rules, arith}
use Rattle.term_index.proofs.Forms.{no_build, decimal_once, first_of_two, second_of_two}
use Rattle.term_index.proofs.command_line.build_of.Goals as goal

pub returns-then-is_empty : goal.returns-then-is_empty
returns-then-is_empty c = no_build c.args.rest.now (λ path pages is allowed.
    let same : path ≡ c.in-Some.path.now = first_of_two _ _ _ _ (sym is ∙ c.in-Some.ensures.some) in
    let none : length c.in-Some.path.now ≡ 0 = search rules in
    absurd (omega (arith, ap length same, none, allowed.0)))

pub returns-then-pages-eq0 : goal.returns-then-pages-eq0
returns-then-pages-eq0 c = no_build c.args.rest.now (λ path pages is allowed.
    let small : pages < 2 ^ 64 = omega (arith, allowed.2) in
    let same = decimal_once pages c.in-Some-number_of.pages c.in-Some.pages.now small c.in-Some-number_of.ensures.1 (sym (second_of_two _ _ _ _ (sym is ∙ c.in-Some.ensures.some))) c.in-Some-number_of.ensures.0 in
    absurd (omega (arith, same, allowed.1, c.if-pages-eq0.true)))

pub returns-then-pages : goal.returns-then-pages
returns-then-pages c = no_build c.args.rest.now (λ path pages is allowed.
    let small : pages < 2 ^ 64 = omega (arith, allowed.2) in
    let same = decimal_once pages c.in-Some-number_of.pages c.in-Some.pages.now small c.in-Some-number_of.ensures.1 (sym (second_of_two _ _ _ _ (sym is ∙ c.in-Some.ensures.some))) c.in-Some-number_of.ensures.0 in
    absurd (omega (arith, same, allowed.2, c.if-pages.true)))
