use Rattle.std.proofs.Common.{◌≡◌, ◌+◌, ◌-◌, ◌%◌, ◌++◌, [], ◌∷◌, List, ℕ, ap, subst, ◌∙◌, arith}
use Rattle.std.specs.Int.{w8, w16, w32, w64, to_le_bytes}
use Rattle.sstable_format.specs.Meta.{Meta}
use Rattle.block_addresses.specs.Written.{meta_bytes}
use Rattle.block_addresses.proofs.WriteSteps.{behind}
use Rattle.block_addresses.proofs.meta.BlockAddrBlockMetadata.write.Goals as goal

-- what was appended, and what it is
appended : (before now bytes told : List ℕ) → now ≡ before ++ bytes → bytes ≡ told → now ≡ before ++ told
appended before now bytes told is same = is ∙ ap (λ xs. before ++ xs) same

pub returns : goal.returns
returns c =
    let m = c.self.inside in
    let low_ordinal : m.ordinal.bits ≡ m.ordinal.bits % 256 = omega arith in
    let low_range : m.range.bits ≡ m.range.bits % 256 = omega arith in
    let P : Meta → Type 0 = λ n. c.extend_from_slice-8.new.self.items ≡ c.args.store.now.items ++ meta_bytes n in
    let last : to_le_bytes w16 m.last_block ≡ to_le_bytes w16 (m.last_block + 1 - 1) = ap (to_le_bytes w16) (omega arith) in
    let all : List ℕ = c.extend_from_slice-8.new.self.items in
    let s0 : List ℕ = c.args.store.now.items in
    let s1 : List ℕ = c.extend_from_slice.new.self.items in
    let s2 : List ℕ = c.extend_from_slice-2.new.self.items in
    let s3 : List ℕ = c.extend_from_slice-3.new.self.items in
    let s4 : List ℕ = c.extend_from_slice-4.new.self.items in
    let s5 : List ℕ = c.extend_from_slice-5.new.self.items in
    let s6 : List ℕ = c.extend_from_slice-6.new.self.items in
    let s7 : List ℕ = c.extend_from_slice-7.new.self.items in
    let e0 : s1 ≡ s0 ++ (to_le_bytes w64 m.data_offset) = appended s0 s1 c.to_le_bytes.result (to_le_bytes w64 m.data_offset) c.in_ok-extend_from_slice.ensures.items (c.to_le_bytes.ensures) in
    let e1 : s2 ≡ s1 ++ (to_le_bytes w64 m.range_start) = appended s1 s2 c.to_le_bytes-2.result (to_le_bytes w64 m.range_start) c.in_ok-extend_from_slice-2.ensures.items (c.to_le_bytes-2.ensures) in
    let e2 : s3 ≡ s2 ++ (to_le_bytes w64 m.first_ordinal) = appended s2 s3 c.to_le_bytes-3.result (to_le_bytes w64 m.first_ordinal) c.in_ok-extend_from_slice-3.ensures.items (c.to_le_bytes-3.ensures) in
    let e3 : s4 ≡ s3 ++ (to_le_bytes w32 m.range.slope) = appended s3 s4 c.to_le_bytes-4.result (to_le_bytes w32 m.range.slope) c.in_ok-extend_from_slice-4.ensures.items (c.to_le_bytes-4.ensures) in
    let e4 : s5 ≡ s4 ++ (to_le_bytes w32 m.ordinal.slope) = appended s4 s5 c.to_le_bytes-5.result (to_le_bytes w32 m.ordinal.slope) c.in_ok-extend_from_slice-5.ensures.items (c.to_le_bytes-5.ensures) in
    let e5 : s6 ≡ s5 ++ (to_le_bytes w8 m.ordinal.bits) = appended s5 s6 c.to_le_bytes-6.result (to_le_bytes w8 m.ordinal.bits) c.in_ok-extend_from_slice-6.ensures.items (c.to_le_bytes-6.ensures ∙ ap (λ n. n ∷ []) low_ordinal) in
    let e6 : s7 ≡ s6 ++ (to_le_bytes w8 m.range.bits) = appended s6 s7 c.to_le_bytes-7.result (to_le_bytes w8 m.range.bits) c.in_ok-extend_from_slice-7.ensures.items (c.to_le_bytes-7.ensures ∙ ap (λ n. n ∷ []) low_range) in
    let e7 : all ≡ s7 ++ (to_le_bytes w16 (m.last_block + 1 - 1)) = appended s7 all c.to_le_bytes-8.result (to_le_bytes w16 (m.last_block + 1 - 1)) c.in_ok-extend_from_slice-8.ensures.items (c.to_le_bytes-8.ensures ∙ last) in
    let f6 : all ≡ s6 ++ ((to_le_bytes w8 m.range.bits) ++ (to_le_bytes w16 (m.last_block + 1 - 1))) = behind s6 s7 all (to_le_bytes w8 m.range.bits) ((to_le_bytes w16 (m.last_block + 1 - 1))) e6 e7 in
    let f5 : all ≡ s5 ++ ((to_le_bytes w8 m.ordinal.bits) ++ ((to_le_bytes w8 m.range.bits) ++ (to_le_bytes w16 (m.last_block + 1 - 1)))) = behind s5 s6 all (to_le_bytes w8 m.ordinal.bits) (((to_le_bytes w8 m.range.bits) ++ (to_le_bytes w16 (m.last_block + 1 - 1)))) e5 f6 in
    let f4 : all ≡ s4 ++ ((to_le_bytes w32 m.ordinal.slope) ++ ((to_le_bytes w8 m.ordinal.bits) ++ ((to_le_bytes w8 m.range.bits) ++ (to_le_bytes w16 (m.last_block + 1 - 1))))) = behind s4 s5 all (to_le_bytes w32 m.ordinal.slope) (((to_le_bytes w8 m.ordinal.bits) ++ ((to_le_bytes w8 m.range.bits) ++ (to_le_bytes w16 (m.last_block + 1 - 1))))) e4 f5 in
    let f3 : all ≡ s3 ++ ((to_le_bytes w32 m.range.slope) ++ ((to_le_bytes w32 m.ordinal.slope) ++ ((to_le_bytes w8 m.ordinal.bits) ++ ((to_le_bytes w8 m.range.bits) ++ (to_le_bytes w16 (m.last_block + 1 - 1)))))) = behind s3 s4 all (to_le_bytes w32 m.range.slope) (((to_le_bytes w32 m.ordinal.slope) ++ ((to_le_bytes w8 m.ordinal.bits) ++ ((to_le_bytes w8 m.range.bits) ++ (to_le_bytes w16 (m.last_block + 1 - 1)))))) e3 f4 in
    let f2 : all ≡ s2 ++ ((to_le_bytes w64 m.first_ordinal) ++ ((to_le_bytes w32 m.range.slope) ++ ((to_le_bytes w32 m.ordinal.slope) ++ ((to_le_bytes w8 m.ordinal.bits) ++ ((to_le_bytes w8 m.range.bits) ++ (to_le_bytes w16 (m.last_block + 1 - 1))))))) = behind s2 s3 all (to_le_bytes w64 m.first_ordinal) (((to_le_bytes w32 m.range.slope) ++ ((to_le_bytes w32 m.ordinal.slope) ++ ((to_le_bytes w8 m.ordinal.bits) ++ ((to_le_bytes w8 m.range.bits) ++ (to_le_bytes w16 (m.last_block + 1 - 1))))))) e2 f3 in
    let f1 : all ≡ s1 ++ ((to_le_bytes w64 m.range_start) ++ ((to_le_bytes w64 m.first_ordinal) ++ ((to_le_bytes w32 m.range.slope) ++ ((to_le_bytes w32 m.ordinal.slope) ++ ((to_le_bytes w8 m.ordinal.bits) ++ ((to_le_bytes w8 m.range.bits) ++ (to_le_bytes w16 (m.last_block + 1 - 1)))))))) = behind s1 s2 all (to_le_bytes w64 m.range_start) (((to_le_bytes w64 m.first_ordinal) ++ ((to_le_bytes w32 m.range.slope) ++ ((to_le_bytes w32 m.ordinal.slope) ++ ((to_le_bytes w8 m.ordinal.bits) ++ ((to_le_bytes w8 m.range.bits) ++ (to_le_bytes w16 (m.last_block + 1 - 1)))))))) e1 f2 in
    let f0 : all ≡ s0 ++ ((to_le_bytes w64 m.data_offset) ++ ((to_le_bytes w64 m.range_start) ++ ((to_le_bytes w64 m.first_ordinal) ++ ((to_le_bytes w32 m.range.slope) ++ ((to_le_bytes w32 m.ordinal.slope) ++ ((to_le_bytes w8 m.ordinal.bits) ++ ((to_le_bytes w8 m.range.bits) ++ (to_le_bytes w16 (m.last_block + 1 - 1))))))))) = behind s0 s1 all (to_le_bytes w64 m.data_offset) (((to_le_bytes w64 m.range_start) ++ ((to_le_bytes w64 m.first_ordinal) ++ ((to_le_bytes w32 m.range.slope) ++ ((to_le_bytes w32 m.ordinal.slope) ++ ((to_le_bytes w8 m.ordinal.bits) ++ ((to_le_bytes w8 m.range.bits) ++ (to_le_bytes w16 (m.last_block + 1 - 1))))))))) e0 f1 in
    subst P c.self.view_is f0
