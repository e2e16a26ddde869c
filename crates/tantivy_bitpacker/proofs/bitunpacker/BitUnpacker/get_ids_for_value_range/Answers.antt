use Rattle.std.proofs.Common.{◌≡◌, ◌+◌, ◌-◌, ◌<◌, ◌≤◌, ◌^◌, ◌++◌, min, ap, sym, ◌∙◌, arith}
use Rattle.std.proofs.lemmas.Result.{on_ok_weaker}
use Rattle.std.specs.Range.{range_inclusive_start, range_inclusive_end}
use Rattle.tantivy_bitpacker.specs.Within.{ids_within}
use Rattle.tantivy_bitpacker.proofs.Places.{ids_within-reversed, ids_within-narrow}
use Rattle.tantivy_bitpacker.proofs.bitunpacker.BitUnpacker.get_ids_for_value_range.Goals as goal

pub returns-then-high-low : goal.returns-then-high-low
returns-then-high-low c =
    let low = range_inclusive_start c.args.range in
    let high = range_inclusive_end c.args.range in
    let narrow : c.args.self.now ≤ 32 = rw (← c.self.view_is) c.if-self-gt32.false in
    let top : c.min-high.result ≡ min high (2 ^ 32 - 1) = c.min-high.ensures ∙ ap (λ h. min h (2 ^ 32 - 1)) c.end.ensures in
    let reversed : min high (2 ^ 32 - 1) < low = omega (arith, top, c.start-low.ensures, c.if-high-low.true) in
    c.clear.ensures.items ∙ sym (ids_within-reversed low high c.args.id_range.start c.args.id_range.end c.args.self.now c.args.bytes.now narrow reversed)

pub returns : goal.returns
returns c =
    let low = range_inclusive_start c.args.range in
    let high = range_inclusive_end c.args.range in
    let narrow : c.args.self.now ≤ 32 = rw (← c.self.view_is) c.if-self-gt32.false in
    let top : c.min-high.result ≡ min high (2 ^ 32 - 1) = c.min-high.ensures ∙ ap (λ h. min h (2 ^ 32 - 1)) c.end.ensures in
    let ordered : low ≤ min high (2 ^ 32 - 1) = omega (arith, top, c.start-low.ensures, c.if-high-low.false) in
    let found = ids_within c.start-low.result.now (c.start-low.result.now + (c.min-high.result - c.start-low.result.now)) c.args.id_range.start c.args.id_range.end c.args.self.now c.args.bytes.now in
    let bounds : found
    ≡ ids_within low (low + (min high (2 ^ 32 - 1) - low)) c.args.id_range.start c.args.id_range.end c.args.self.now c.args.bytes.now =
    ap (λ l. ids_within l (l + (c.min-high.result - l)) c.args.id_range.start c.args.id_range.end c.args.self.now c.args.bytes.now) c.start-low.ensures
    ∙ ap (λ h. ids_within low (low + (h - low)) c.args.id_range.start c.args.id_range.end c.args.self.now c.args.bytes.now) top in
    on_ok_weaker c.push_ids.result
    (λ is. ids_within-narrow c.push_ids.new.positions.items low high c.args.id_range.start c.args.id_range.end c.args.self.now c.args.bytes.now narrow ordered (is ∙ ap (λ l. l ++ found) c.clear.ensures.items ∙ bounds))
    c.push_ids.ensures
