use Rattle.std.proofs.Common.{◌∷◌, [], ◌++◌, length, take, sym, ap, ◌∙◌, subst, arith}
use Rattle.std.proofs.Math.Seq.{take-append_seam}
use Rattle.sstable_index.specs.Building.{MayComeNext, address_of}
use Rattle.sstable_index.proofs.Builds.{built-is, built-again, built-as, built-more, same-count}
use Rattle.sstable_index.proofs.Outcomes.{ok-at, err-at, on-ok, on-err}
use Rattle.sstable_index.proofs.builder.SSTableIndexBuilder.add_block.Goals as goal

pub invariant_of-self-then-is_err : goal.invariant_of-self-then-is_err
invariant_of-self-then-is_err c =
    let keys = c.self.inside.keys.items in
    let places = c.self.inside.key_starts.items in
    let failed = sym c.is_err.ensures.value ∙ c.if-is_err.true in
    let ordinals = err-at _ _ c.push_place-pushed.ensures.err_ordinal failed in
    let count = same-count _ _ _ _ _ c.self.invariant in
    built-again _ _ _ _ _ (built-as _ _ _ _ _ _ _ _ _ c.self.invariant
    (c.truncate.ensures.items ∙ ap (λ n. take n c.push_key.new.keys.items) (omega (arith, c.len-len.ensures, c.self.inside.keys.ok.0)) ∙ ap (λ bytes. take (length keys) bytes) c.in_ok-push_key.ensures.key ∙ take-append_seam keys c.args.last_key.now)
    (c.truncate-then-is_err.ensures.items ∙ ap (λ n. take n c.push_key.new.starts.items) (omega (arith, c.len.ensures, c.push_place-pushed.new.ordinals.ok.0, ap length ordinals, count.0, count.1))
    ∙ ap (λ ps. take (length places) ps) c.in_ok-push_key.ensures.start ∙ take-append_seam places (length keys ∷ []))
    (err-at _ _ c.push_place-pushed.ensures.err_range failed) ordinals)

pub returns-then-is_err-clause-err : goal.returns-then-is_err-clause-err
returns-then-is_err-clause-err c =
    let keys = c.self.inside.keys.items in
    let places = c.self.inside.key_starts.items in
    let failed = sym c.is_err.ensures.value ∙ c.if-is_err.true in
    let ordinals = err-at _ _ c.push_place-pushed.ensures.err_ordinal failed in
    let count = same-count _ _ _ _ _ c.self.invariant in
    on-err _ _ (built-is _ _ _ _ _ (built-as _ _ _ _ _ _ _ _ _ c.self.invariant
    (c.truncate.ensures.items ∙ ap (λ n. take n c.push_key.new.keys.items) (omega (arith, c.len-len.ensures, c.self.inside.keys.ok.0)) ∙ ap (λ bytes. take (length keys) bytes) c.in_ok-push_key.ensures.key ∙ take-append_seam keys c.args.last_key.now)
    (c.truncate-then-is_err.ensures.items ∙ ap (λ n. take n c.push_key.new.starts.items) (omega (arith, c.len.ensures, c.push_place-pushed.new.ordinals.ok.0, ap length ordinals, count.0, count.1))
    ∙ ap (λ ps. take (length places) ps) c.in_ok-push_key.ensures.start ∙ take-append_seam places (length keys ∷ []))
    (err-at _ _ c.push_place-pushed.ensures.err_range failed) ordinals) ∙ c.self.view_is)

pub invariant_of-self-else-is_err : goal.invariant_of-self-else-is_err
invariant_of-self-else-is_err c =
    let done = sym c.is_err.ensures.value ∙ c.if-is_err.false in
    built-again _ _ _ _ _ (built-more _ _ _ _ _ _ _ _ _ c.args.last_key.now c.args.byte_range c.args.first_ordinal c.self.invariant
    (subst (λ es. MayComeNext es c.args.byte_range c.args.first_ordinal) (sym c.self.view_is) c.requires)
    c.in_ok-push_key.ensures.key c.in_ok-push_key.ensures.start (ok-at _ _ c.push_place-pushed.ensures.first done) (ok-at _ _ c.push_place-pushed.ensures.later done)
    (ok-at _ _ c.push_place-pushed.ensures.ordinal done))

pub returns-else-is_err-clause-ok : goal.returns-else-is_err-clause-ok
returns-else-is_err-clause-ok c =
    let done = sym c.is_err.ensures.value ∙ c.if-is_err.false in
    on-ok _ _ (built-is _ _ _ _ _ (built-more _ _ _ _ _ _ _ _ _ c.args.last_key.now c.args.byte_range c.args.first_ordinal c.self.invariant
    (subst (λ es. MayComeNext es c.args.byte_range c.args.first_ordinal) (sym c.self.view_is) c.requires)
    c.in_ok-push_key.ensures.key c.in_ok-push_key.ensures.start (ok-at _ _ c.push_place-pushed.ensures.first done) (ok-at _ _ c.push_place-pushed.ensures.later done)
    (ok-at _ _ c.push_place-pushed.ensures.ordinal done))
    ∙ ap (λ es. es ++ (c.args.last_key.now, address_of c.args.byte_range c.args.first_ordinal) ∷ []) c.self.view_is)
