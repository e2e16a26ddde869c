use Rattle.std.proofs.Common.{◌≡◌, sym, ap, subst, ◌∙◌, length, w32, List, ℕ}
use Rattle.std.specs.Int.{div_ceil, to_le_bytes}
use Rattle.std.specs.Io.KnownBytes.{Appends}
use Rattle.std.proofs.KnownBytes.{Appends-trans}
use Rattle.owned_bytes.specs.Outside.{AppendsPrefix}
use Rattle.owned_bytes.proofs.InTurn.{AppendsPrefix-second}
use Rattle.common_bitset.specs.Laid.{IsLaid}
use Rattle.common_bitset.specs.Numbers.{Numbers}
use Rattle.common_bitset.specs.Subset.{Subset, word_at, word_in, gathered, words_bytes}
use Rattle.common_bitset.specs.Laws.Gathered.{word_in-gathered}
use Rattle.common_bitset.proofs.Written.{written_kept}
use Rattle.common_bitset.proofs.bitset.BitSet.serialize.Goals as goal

-- the words in memory are those of the set
words_are : (items slice : List Numbers) (count max : ℕ) (s : Subset) → IsLaid items count max → slice ≡ items → record { elements = gathered max (word_at items); max_value = max } ≡ s
    → words_bytes (length slice) (word_at slice) ≡ words_bytes (div_ceil s.max_value 64) (word_in s.elements)
words_are items slice count max s laid lent shown =
    ap (λ xs. words_bytes (length xs) (word_at xs)) lent ∙ (λ i. words_bytes (laid.length_is i) (λ k. sym (word_in-gathered max (word_at items) k laid.are_words) i))
    ∙ ap (λ t. words_bytes (div_ceil t.max_value 64) (word_in t.elements)) shown

pub returns-in-Err-write-clause-bytes : goal.returns-in-Err-write-clause-bytes
returns-in-Err-write-clause-bytes g c =
    let a = g.W.Sink.written c.args.writer.now in
    let b = g.W.Sink.written c.write_all.new.self in
    let d = g.W.Sink.written c.write.new.writer in
    let words = words_are c.self.inside.tinysets.items c.as_slice.result.now c.self.inside.len c.self.inside.max_value c.args.self.now c.self.invariant c.as_slice.ensures.value c.self.view_is in
    let bound = c.to_le_bytes.ensures ∙ ap (λ s. to_le_bytes w32 s.max_value) c.self.view_is in
    AppendsPrefix-second a b d (to_le_bytes w32 c.args.self.now.max_value) _ (subst (Appends a b) bound c.in-Ok.ensures.bytes) (subst (AppendsPrefix b d) words c.in-Err-write.ensures.bytes)

pub returns-clause-bytes : goal.returns-clause-bytes
returns-clause-bytes g c =
    let a = g.W.Sink.written c.args.writer.now in
    let b = g.W.Sink.written c.write_all.new.self in
    let d = g.W.Sink.written c.write.new.writer in
    let words = words_are c.self.inside.tinysets.items c.as_slice.result.now c.self.inside.len c.self.inside.max_value c.args.self.now c.self.invariant c.as_slice.ensures.value c.self.view_is in
    let bound = c.to_le_bytes.ensures ∙ ap (λ s. to_le_bytes w32 s.max_value) c.self.view_is in
    written_kept a d (g.W.Sink.written c.flush.new.self) c.flush.result _
    (Appends-trans a b d (to_le_bytes w32 c.args.self.now.max_value) _ (subst (Appends a b) bound c.in-Ok.ensures.bytes) (subst (Appends b d) words c.in-Ok-write.ensures.bytes)) c.flush.ensures.bytes
