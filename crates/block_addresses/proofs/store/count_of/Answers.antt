use Rattle.std.proofs.Common.{◌≡◌, ◌+◌, ◌-◌, ◌*◌, ◌/◌, length, Some, ap, sym, ◌∙◌, arith}
use Rattle.block_addresses.specs.Opened.{passing, fits_u64}
use Rattle.block_addresses.proofs.Passing.{passing-fits, passing-past, passing-sum}
use Rattle.block_addresses.proofs.Stored.{decoded, count-none, count-some, count-found, count-least}
use Rattle.block_addresses.proofs.store.count_of.Goals as goal

pub returns-then-groups-eq0 : goal.returns-then-groups-eq0
returns-then-groups-eq0 c = λ packed found told.
    let none : length found ≡ 0 = count-none c.args.metas.now packed found (decoded c.args.metas.now packed found told) c.if-groups-eq0.true in
    passing-fits 0 (omega arith) ∙ ap (λ n. passing fits_u64 (Some n)) (sym none)

pub returns-then-groups-gt-MOST_GROUPS : goal.returns-then-groups-gt-MOST_GROUPS
returns-then-groups-gt-MOST_GROUPS c = λ packed found told.
    passing-past (length found) (omega (arith, count-least c.args.metas.now packed found (decoded c.args.metas.now packed found told) (omega arith), c.if-groups-gt-MOST_GROUPS.true))

pub returns-in_err-last : goal.returns-in_err-last
returns-in_err-last c = λ packed found told. absurd (count-found c.args.metas.now packed found (decoded c.args.metas.now packed found told) (omega arith) (sym c.in_err-last.ensures))

pub returns : goal.returns
returns c = λ packed found told.
    let all = count-some c.args.metas.now packed found c.in_ok-last.last (decoded c.args.metas.now packed found told) (omega arith) (sym c.in_ok-last.ensures) in
    let count : (length c.args.metas.now / 36 - 1) * 128 + c.block_count.result ≡ length found = ap (λ n. (length c.args.metas.now / 36 - 1) * 128 + n) c.block_count.ensures.count ∙ sym all.0 in
    passing-sum c.checked_add.result ((length c.args.metas.now / 36 - 1) * 128 + c.block_count.result) c.checked_add.ensures ∙ ap (λ n. passing fits_u64 (Some n)) count
