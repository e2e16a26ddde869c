use Rattle.std.proofs.Common.{◌≡◌, ◌+◌, ◌<◌, [], ◌∷◌, ◌++◌, length, take, get_or, ℕ, List, true, ap, sym, subst, ◌∙◌, arith}
use Rattle.std.proofs.lemmas.List.{get_or_read, take_more_set}
use Rattle.owned_bytes.specs.Keys.{is_below, shared}
use Rattle.block_addresses.specs.Laws.{IsBetween}
use Rattle.block_addresses.specs.Shortened.{shortened}
use Rattle.block_addresses.proofs.Shortening.{kept_to, kept_to-high, kept_to-low, kept_to-end, shortened-is, shortened-between}
use Rattle.block_addresses.proofs.shortened.shorten.Goals as goal
use Rattle.block_addresses.proofs.shortened.shorten.Goals.{then-high-test+else-index, else-high-test}

pub high-init : goal.high-init
high-init c =
    let left = c.args.left.now.items in
    let right = c.args.right.now in
    ap (λ k. kept_to (k + 1) left) (c.shared-place.ensures.count ∙ ap (λ xs. shared xs right) c.deref.ensures.value) ∙ sym (shortened-is left right)

pub high-preserved : goal.high-preserved
high-preserved c =
    let left = c.args.left.now.items in
    let below : c.high.place < length left = omega (arith, c.args.left.now.ok.0, c.len.ensures, c.high-test.true) in
    let read : c.index.result.now ≡ get_or left c.high.place 0 = get_or_read left _ _ below c.index.ensures 0 in
    kept_to-high left c.high.place below (sym read ∙ c.if-index.true) ∙ c.high.invariant

pub returns-then-place-len-clause-exact : goal.returns-then-place-len-clause-exact
returns-then-place-len-clause-exact c =
    let left = c.args.left.now.items in
    let place = c.high.place in
    let below : place < length left = omega (arith, c.args.left.now.ok.0, c.len-2.ensures, c.if-place-len.true) in
    elim c.high-test.branch [
      | then-high-test+else-index w ↦
          let read : w.index.result.now ≡ get_or left place 0 = get_or_read left _ _ below w.index.ensures 0 in
          let taken : c.index_mut.result.now ≡ get_or left place 0 = get_or_read left _ _ below c.index_mut.ensures.value 0 in
          c.truncate.ensures.items ∙ take_more_set left place (c.index_mut.result.now + 1) below
          ∙ ap (λ x. take place left ++ (x + 1) ∷ []) taken
          ∙ sym (kept_to-low left place below (λ high. w.if-index.false (read ∙ high))) ∙ c.high.invariant
      | else-high-test w ↦ absurd (omega (arith, w.high-test.false, c.len.ensures, c.len-2.ensures, c.if-place-len.true))
    ]

pub returns-else-place-len-clause-exact : goal.returns-else-place-len-clause-exact
returns-else-place-len-clause-exact c =
    sym (kept_to-end c.args.left.now.items c.high.place (omega (arith, c.args.left.now.ok.0, c.len-2.ensures, c.if-place-len.false))) ∙ c.high.invariant

between : (left right key : List ℕ) → key ≡ shortened left right → is_below left right ≡ true → IsBetween left right key
between left right key is below = let P : List ℕ → Type 0 = λ xs. IsBetween left right xs in subst P (sym is) (shortened-between left right below)

pub returns-then-place-len-clause-between : goal.returns-then-place-len-clause-between
returns-then-place-len-clause-between c = between c.args.left.now.items c.args.right.now c.truncate.new.self.items (returns-then-place-len-clause-exact c)

pub returns-else-place-len-clause-between : goal.returns-else-place-len-clause-between
returns-else-place-len-clause-between c = between c.args.left.now.items c.args.right.now c.args.left.now.items (returns-else-place-len-clause-exact c)
