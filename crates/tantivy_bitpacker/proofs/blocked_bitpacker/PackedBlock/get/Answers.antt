use Rattle.std.proofs.Common.{◌≡◌, ◌+◌, ◌*◌, ◌^◌, ◌<◌, ap, sym, ◌∙◌, subst}
use Rattle.tantivy_bitpacker.specs.Packed.{bits_from}
use Rattle.tantivy_bitpacker.proofs.Blocks.{block_numbers-at, block_numbers-fit}
use Rattle.tantivy_bitpacker.proofs.blocked_bitpacker.PackedBlock.get.Goals as goal

read : (c : goal.After-get) → c.get.result ≡ bits_from (c.args.idx * c.args.self.now.num_bits) c.args.self.now.num_bits c.args.self.now.bytes.items
read c = c.get.ensures ∙ ap (λ w. bits_from (c.args.idx * w) w c.deref.result.now) c.new.ensures ∙ ap (bits_from (c.args.idx * c.args.self.now.num_bits) c.args.self.now.num_bits) c.deref.ensures.value

pub overflow_add-result : goal.overflow_add-result
overflow_add-result c = record { fits = subst (λ v. c.args.self.now.base_value + v < 2 ^ 64) (sym (read c)) (block_numbers-fit c.args.self.now c.args.idx c.requires.block c.requires.within) }

pub returns : goal.returns
returns c = ap (λ v. c.args.self.now.base_value + v) (read c) ∙ sym (block_numbers-at c.args.self.now c.args.idx c.requires.within)
