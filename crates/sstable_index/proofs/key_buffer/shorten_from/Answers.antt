use Rattle.std.proofs.Common.{◌≡◌, ◌+◌, ◌-◌, ◌<◌, [], ◌∷◌, ◌++◌, length, take, drop, get_or, ap, sym, ◌∙◌, arith}
use Rattle.std.proofs.lemmas.List.{get_or_read, take_more_set}
use Rattle.owned_bytes.specs.Keys.{shared}
use Rattle.owned_bytes.proofs.Pieces.{rest_is}
use Rattle.sstable_index.proofs.Shortening.{kept_from-begun, kept_from-high, kept_from-low, kept_from-end}
use Rattle.sstable_index.proofs.key_buffer.shorten_from.Goals as goal
use Rattle.sstable_index.proofs.key_buffer.shorten_from.Goals.{then-high-test+else-index, else-high-test}

pub high-init : goal.high-init
high-init c =
    let keys = c.args.keys.now.items in
    let right = c.args.right.now in
    let key : c.deref.result.now ≡ keys = c.deref.ensures.value in (
      kept_from-begun c.args.start _ keys right
          (ap (λ n. c.args.start + n + 1) (c.common_prefix_len.ensures.count ∙ ap (λ bytes. shared (take (length bytes - c.args.start) (drop c.args.start bytes)) right) key ∙ ap (λ k. shared k right) (rest_is c.args.start keys))),
      omega arith,
    )

pub high-preserved : goal.high-preserved
high-preserved c =
    let keys = c.args.keys.now.items in
    let below : c.high.place < length keys = omega (arith, c.args.keys.now.ok.0, c.len.ensures, c.high-test.true) in
    let read : c.index.result.now ≡ get_or keys c.high.place 0 = get_or_read keys _ _ below c.index.ensures 0 in
    (kept_from-high c.args.start c.high.place keys c.high.invariant.1 below (sym read ∙ c.if-index.true) ∙ c.high.invariant.0, omega (arith, c.high.invariant.1))

pub returns-then-place-len : goal.returns-then-place-len
returns-then-place-len c =
    let keys = c.args.keys.now.items in
    let place = c.high.place in
    let below : place < length keys = omega (arith, c.args.keys.now.ok.0, c.len-2.ensures, c.if-place-len.true) in
    elim c.high-test.branch [
      | then-high-test+else-index w ↦
          let read : w.index.result.now ≡ get_or keys place 0 = get_or_read keys _ _ below w.index.ensures 0 in
          let taken : c.index_mut.result.now ≡ get_or keys place 0 = get_or_read keys _ _ below c.index_mut.ensures.value 0 in
          c.truncate.ensures.items ∙ take_more_set keys place (c.index_mut.result.now + 1) below
          ∙ ap (λ x. take place keys ++ (x + 1) ∷ []) taken
          ∙ sym (kept_from-low c.args.start place keys c.high.invariant.1 below (λ high. w.if-index.false (read ∙ high))) ∙ c.high.invariant.0
      | else-high-test w ↦ absurd (omega (arith, w.high-test.false, c.len.ensures, c.len-2.ensures, c.if-place-len.true))
    ]

pub returns-else-place-len : goal.returns-else-place-len
returns-else-place-len c =
    sym (kept_from-end c.args.start c.high.place c.args.keys.now.items c.high.invariant.1 (omega (arith, c.args.keys.now.ok.0, c.len-2.ensures, c.if-place-len.false))) ∙ c.high.invariant.0
