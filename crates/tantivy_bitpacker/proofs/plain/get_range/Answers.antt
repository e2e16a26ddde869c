use Rattle.std.proofs.Common.{◌∷◌, [], ◌++◌, ap, sym, ◌∙◌, refl, arith}
use Rattle.std.proofs.lemmas.List.{take_more_set}
use Rattle.tantivy_bitpacker.specs.Packed.{unpacked_from}
use Rattle.tantivy_bitpacker.proofs.Unpacking.{unpacked_from-push}
use Rattle.tantivy_bitpacker.proofs.plain.get_range.Goals as goal

pub loop-i-init : goal.loop-i-init
unfolding unpacked_from
loop-i-init c = refl

pub loop-i-preserved : goal.loop-i-preserved
loop-i-preserved c =
    take_more_set c.loop-i.output c.loop-i.i c.get.result (omega arith) ∙ ap (λ l. l ++ c.get.result ∷ []) c.loop-i.invariant
    ∙ ap (λ v. unpacked_from c.args.start_idx c.loop-i.i c.args.unpacker.now c.args.bytes.now ++ v ∷ []) c.get.ensures
    ∙ sym (unpacked_from-push c.args.start_idx c.loop-i.i c.args.unpacker.now c.args.bytes.now)
