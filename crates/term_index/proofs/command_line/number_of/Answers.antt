use Rattle.std.proofs.Common.{◌≡◌, ◌∙◌, sym, ap, Ok, true}
use Rattle.std.specs.Prelude.{decimal}
use Rattle.std.proofs.lemmas.Fmt.{parse-decimal}
use Rattle.term_index.proofs.command_line.number_of.Goals as goal

pub returns-in-Err : goal.returns-in-Err
returns-in-Err c = λ n small is. let r : c.parse.result ≡ Ok n = parse-decimal 64 n _ c.parse.result small small is c.parse.ensures.value.0 in cc

pub returns-else-is_text_of : goal.returns-else-is_text_of
returns-else-is_text_of c = λ n small is.
    let r : c.parse.result ≡ Ok n = parse-decimal 64 n _ c.parse.result small small is c.parse.ensures.value.0 in
    let same : c.in-Ok.number ≡ n = cc in
    let holds : c.is_text_of.result ≡ true = c.is_text_of.ensures.1 (is ∙ ap decimal (sym same)) in
    let fails = c.if-is_text_of.false in
    cc
