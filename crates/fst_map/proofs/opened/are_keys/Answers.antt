use Rattle.std.proofs.Common.{◌+◌, ◌*◌, ℕ, List, length, eqb, ap, sym, ◌∙◌, subst, arith}
use Rattle.std.specs.Prelude.{slice_range}
use Rattle.owned_bytes.proofs.Pieces.{rest_is}
use Rattle.fst_map.specs.Opened.{area_in}
use Rattle.fst_map.proofs.Opening.{AreKeysSo, so-begin, so-falls, so-past, so-stops, so-next, so-end, follows-is}
use Rattle.fst_map.proofs.opened.are_keys.Goals as goal
use Rattle.fst_map.proofs.opened.are_keys.Goals.{then-end-start-via-then-end-start, then-end-start-via-else-end-start+then-keys-end}

pub loop-i-init : goal.loop-i-init
loop-i-init c = so-begin c.args.len c.args.bytes.now c.requires

pub returns-then-end-start : goal.returns-then-end-start
returns-then-end-start c =
    let bytes = c.args.bytes.now in
    let area = rest_is (8 + 16 * c.args.len) bytes in
    elim c.then-end-start.branch [
      | then-end-start-via-then-end-start w ↦ sym (so-falls c.args.len c.loop-i.i bytes c.loop-i.start c.loop-i.before.now c.loop-i-test.true c.loop-i.invariant (omega (arith, w.if-end-start.true, c.end_at-end.ensures)))
      | then-end-start-via-else-end-start+then-keys-end w ↦ sym (so-past c.args.len c.loop-i.i bytes c.loop-i.start c.loop-i.before.now c.loop-i-test.true c.loop-i.invariant (omega (arith, w.if-keys-end.true, ap length area, c.end_at-end.ensures)))
    ]

pub returns-then-not-may_follow : goal.returns-then-not-may_follow
returns-then-not-may_follow c =
    let bytes = c.args.bytes.now in
    let area = rest_is (8 + 16 * c.args.len) bytes in
    sym (so-stops c.args.len c.loop-i.i bytes c.loop-i.start c.loop-i.before.now c.loop-i-test.true c.loop-i.invariant (omega (arith, c.if-end-start.false, c.end_at-end.ensures))
    (omega (arith, c.if-keys-end.false, ap length area, c.end_at-end.ensures)) (sym (follows-is c.args.len c.loop-i.i bytes c.loop-i.start c.end_at-end.result c.loop-i.before.now c.may_follow.result c.may_follow.ensures c.end_at-end.ensures) ∙ c.if-not-may_follow.true))

pub loop-i-preserved : goal.loop-i-preserved
loop-i-preserved c =
    let bytes = c.args.bytes.now in
    let area = rest_is (8 + 16 * c.args.len) bytes in
    let next = so-next c.args.len c.loop-i.i bytes c.loop-i.start c.loop-i.before.now c.loop-i-test.true c.loop-i.invariant (omega (arith, c.if-end-start.false, c.end_at-end.ensures))
    (omega (arith, c.if-keys-end.false, ap length area, c.end_at-end.ensures)) (sym (follows-is c.args.len c.loop-i.i bytes c.loop-i.start c.end_at-end.result c.loop-i.before.now c.may_follow.result c.may_follow.ensures c.end_at-end.ensures) ∙ c.if-not-may_follow.false) in
    subst (λ (area : List ℕ). AreKeysSo c.args.len (c.loop-i.i + 1) bytes c.end_at-end.result (slice_range area c.loop-i.start c.end_at-end.result)) (sym area)
    (subst (λ e. AreKeysSo c.args.len (c.loop-i.i + 1) bytes e (slice_range (area_in c.args.len bytes) c.loop-i.start e)) (sym c.end_at-end.ensures) next)

pub returns : goal.returns
returns c =
    let bytes = c.args.bytes.now in
    ap (λ (area : List ℕ). eqb c.loop-i.start (length area)) (rest_is (8 + 16 * c.args.len) bytes)
    ∙ so-end c.args.len c.loop-i.i bytes c.loop-i.start c.loop-i.before.now (omega (arith, c.loop-i-test.false, c.loop-i.auto.i-end)) c.loop-i.invariant
