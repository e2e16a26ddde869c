use Rattle.std.proofs.Common.{◌≡◌, ◌-◌, ◌<◌, length, get_or, arith, refl, ap, sym, ◌∙◌}
use Rattle.std.proofs.lemmas.List.{get_or_read}
use Rattle.sstable_index.specs.Building.{with_last_key_shortened}
use Rattle.sstable_index.proofs.Builds.{built-is, built-again, built-shorter, none-built}
use Rattle.sstable_index.proofs.builder.SSTableIndexBuilder.shorten_last_block_key_given_next_key.Goals as goal

pub shorten_from-requires : goal.shorten_from-requires
shorten_from-requires c =
    let places = c.self.inside.key_starts.items in
    let some : 0 < length places = omega (arith, c.len-len.ensures, c.self.inside.key_starts.ok.0, c.if-len-gt0.true) in
    let last : c.len-len.result - 1 ≡ length places - 1 = omega (arith, c.len-len.ensures, c.self.inside.key_starts.ok.0) in
    let start = get_or_read places _ _ (omega (arith, some, last)) c.index-start.ensures 0 ∙ ap (λ n. get_or places n 0) last in
    (built-shorter _ _ _ _ _ _ _ c.args.next_key.now c.self.invariant some start refl).0

pub invariant_of-self : goal.invariant_of-self
invariant_of-self c =
    let places = c.self.inside.key_starts.items in
    let some : 0 < length places = omega (arith, c.len-len.ensures, c.self.inside.key_starts.ok.0, c.if-len-gt0.true) in
    let last : c.len-len.result - 1 ≡ length places - 1 = omega (arith, c.len-len.ensures, c.self.inside.key_starts.ok.0) in
    let start = get_or_read places _ _ (omega (arith, some, last)) c.index-start.ensures 0 ∙ ap (λ n. get_or places n 0) last in
    built-again _ _ _ _ _ (built-shorter _ _ _ _ _ _ _ c.args.next_key.now c.self.invariant some start c.shorten_from.ensures).1

pub returns-then-len-gt0 : goal.returns-then-len-gt0
returns-then-len-gt0 c =
    let places = c.self.inside.key_starts.items in
    let some : 0 < length places = omega (arith, c.len-len.ensures, c.self.inside.key_starts.ok.0, c.if-len-gt0.true) in
    let last : c.len-len.result - 1 ≡ length places - 1 = omega (arith, c.len-len.ensures, c.self.inside.key_starts.ok.0) in
    let start = get_or_read places _ _ (omega (arith, some, last)) c.index-start.ensures 0 ∙ ap (λ n. get_or places n 0) last in
    built-is _ _ _ _ _ (built-shorter _ _ _ _ _ _ _ c.args.next_key.now c.self.invariant some start c.shorten_from.ensures).1 ∙ ap (λ es. with_last_key_shortened es c.args.next_key.now) c.self.view_is

pub returns-else-len-gt0 : goal.returns-else-len-gt0
returns-else-len-gt0 c =
    sym c.self.view_is ∙ none-built _ _ _ _ _ c.args.next_key.now c.self.invariant (omega (arith, c.len-len.ensures, c.self.inside.key_starts.ok.0, c.if-len-gt0.false))
    ∙ ap (λ es. with_last_key_shortened es c.args.next_key.now) c.self.view_is
