use Rattle.std.proofs.Common.{◌<◌, length, arith, sym, ◌∙◌, subst}
use Rattle.tantivy_stacker.specs.Maps.{IsTaken, home}
use Rattle.tantivy_stacker.proofs.Tables.{turn-first, search_more, all_taken, read_taken}
use Rattle.tantivy_stacker.proofs.table.free_place.Goals as goal

pub loop-step-init : goal.loop-step-init
loop-step-init c =
    let n = length c.args.places.now in
    let below : home n c.args.hash < n = subst (λ k. k < n) c.home-bucket.ensures.value c.home-bucket.ensures.bound in
    (c.home-bucket.ensures.value ∙ sym (turn-first n (home n c.args.hash) below), c.home-bucket.ensures.bound, λ d h. absurd (omega arith))

pub loop-step-preserved : goal.loop-step-preserved
loop-step-preserved c =
    let ps = c.args.places.now in
    let n = length ps in
    let below : home n c.args.hash < n = subst (λ k. k < n) c.home-bucket.ensures.value c.home-bucket.ensures.bound in
    let i = c.loop-step.invariant in
    let taken : IsTaken ps c.loop-step.bucket = read_taken ps c.loop-step.bucket c.index-places-bucket.result c.is_free.result i.1 c.index-places-bucket.is c.is_free.ensures c.if-is_free.false in
    search_more ps (home n c.args.hash) c.loop-step._step c.loop-step.bucket c.next_bucket-bucket.result below c.loop-step-test.true i.0 c.next_bucket-bucket.ensures taken i.2

pub unreachable-requires : goal.unreachable-requires
unreachable-requires c =
    let ps = c.args.places.now in
    let n = length ps in
    let below : home n c.args.hash < n = subst (λ k. k < n) c.home-bucket.ensures.value c.home-bucket.ensures.bound in
    all_taken ps (home n c.args.hash) below c.requires (λ d h. c.loop-step.invariant.2 d (omega (arith, c.loop-step-test.false)))
