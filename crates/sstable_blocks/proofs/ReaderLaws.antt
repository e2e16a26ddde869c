-- What the parts of a step over entries do.
use Rattle.std.proofs.Common.{◌≡◌, ℕ, ◌+◌, ◌-◌, ◌<◌, ◌≤◌, length, take, drop, Option, Some, None, refl, ap, sym, ◌∙◌, subst, arith, length-drop, drop-drop}
use Rattle.std.specs.Prelude.{slice_range}
use Rattle.std.specs.Prelude.{IsSome, slice_get}
use Rattle.std.proofs.lemmas.Bool.{false≢true}
use Rattle.std.proofs.lemmas.Option.{slice_get_within}
use Rattle.owned_bytes.specs.Front.{◌>>=◌}
use Rattle.sstable_blocks.specs.declared.entry_reader.Standing.{Standing}
use Rattle.sstable_blocks.specs.declared.entry_reader.Standing.TheVariants.{Between, AtEntry, Ended, Failed}
use Rattle.sstable_values.specs.Values.{Values, Listed, Everywhere, value_at, HasPlace}
use Rattle.sstable_blocks.specs.Entries.{Entry}
use Rattle.sstable_blocks.specs.EntryReader.{if_current}
use Rattle.sstable_blocks.specs.Delta.{keep_and_add_at}
use Rattle.sstable_blocks.specs.BlockReader.{State, unread}
use Rattle.sstable_blocks.specs.BlockSteps.{TakesDelta}
use Rattle.sstable_blocks.proofs.DeltaLaws.{delta-taken}

-- A delta whose lengths were read, and whose added bytes are there.
pub takes_delta : (old new : State) (keep add len begin end : ℕ) → keep_and_add_at (unread old) ≡ Some ((keep, add), drop len (unread old)) → 1 ≤ len → len ≤ length (unread old)
    → add ≤ length (unread old) - len → begin ≡ old.offset + len → end ≡ begin + add → new ≡ record old { offset = end } → TakesDelta old new keep begin end
takes_delta old new keep add len begin end lens some long enough is_begin is_end is_new = subst (λ (s : State). TakesDelta old s keep begin end) (sym is_new) (record {
  delta = delta-taken (unread old) (drop len (unread old)) keep add lens (simp length-drop (omega (arith, enough')))
      ∙ ap (λ suffix. Some (record { keep = keep; suffix = suffix }, drop add (drop len (unread old)))) suffix_is
      ∙ ap (λ rest. Some (record { keep = keep; suffix = slice_range old.block begin end }, rest)) rest_is;
  ordered = omega (arith, is_end);
  within = omega (arith, long', enough', some, is_begin, is_end);
  shorter = simp length-drop (omega (arith, long', enough', some, is_begin, is_end));
  same = refl;
})
  where
    long' : len ≤ length old.block - old.offset
    long' = simp length-drop at long

    enough' : add ≤ length old.block - old.offset - len
    enough' = simp length-drop at enough

    suffix_is : take add (drop len (unread old)) ≡ slice_range old.block begin end
    suffix_is = let n : end - begin ≡ add = omega (arith, is_end) in
        ap (take add) (drop-drop len old.offset old.block ∙ ap (λ b. drop b old.block) (sym is_begin)) ∙ ap (λ n. take n (drop begin old.block)) (sym n)

    rest_is : drop add (drop len (unread old)) ≡ drop end old.block
    rest_is = ap (drop add) (drop-drop len old.offset old.block ∙ ap (λ b. drop b old.block) (sym is_begin)) ∙ drop-drop add begin old.block ∙ ap (λ b. drop b old.block) (sym is_end)

-- A current entry has a value.
pub has_place : {V : Type 0} (standing : Standing) (values : Values V) (i : ℕ) (entry : V → Option (Entry V)) → IsSome (if_current standing (value_at values i >>= entry)) → HasPlace values i
has_place Between values i entry some = absurd (false≢true some)
has_place Ended values i entry some = absurd (false≢true some)
has_place (Failed e) values i entry some = absurd (false≢true some)
has_place AtEntry (Everywhere value) i entry some = tt
has_place {V} AtEntry (Listed values) i entry some = by_value (slice_get values i) refl some
  where
    by_value : (o : Option V) → slice_get values i ≡ o → IsSome (o >>= entry) → i < length values
    by_value None e none = absurd (false≢true none)
    by_value (Some v) e there = slice_get_within values i v e
