-- What loading an index part by its footer answers.
use Rattle.std.proofs.Common.{◌≡◌, ◌≢◌, ℕ, ◌+◌, ◌-◌, ◌^◌, ◌<◌, ◌≤◌, List, length, drop, min, Bool, true, false, ◌||◌, ◌&&◌, Option, Some, None, Err, refl, ap, sym, subst, ◌∙◌, arith, length-drop, leb}
use Rattle.std.specs.Prelude.{◌==◌, is_some, nat_le}
use Rattle.std.specs.Int.{w8, w32}
use Rattle.std.proofs.lemmas.Bool.{eqb-true, ne_eqb, leb-true, leb-false, false≢true}
use Rattle.owned_bytes.specs.Front.{◌>>=◌, provided, number_at}
use Rattle.sstable_format.specs.declared.footer.Footer.{Footer}
use Rattle.sstable_format.specs.Version.{is_known}
use Rattle.sstable_format.specs.Index.{IndexEntry, Entries}
use Rattle.sstable_values.proofs.Counted.{number_at-short}
use Rattle.sstable_format.specs.Refused.{is_compressed_at}
use Rattle.sstable_index.specs.declared.errors.SstError.{SstError}
use Rattle.sstable_index.specs.declared.load_errors.LoadError.{LoadError}
use Rattle.sstable_index.specs.declared.load_errors.LoadError.TheVariants as loading
use Rattle.sstable_index.specs.Errors.{error_in_table}
use Rattle.sstable_index.specs.Usable.{usable_index, usable_entries}
use Rattle.sstable_index.specs.Reading.{LoadsV2, LoadsV3, IsCompressedIn, ReadsIndex}

-- a known version that isn't 2
pub three-is : (version : ℕ) → is_known version ≡ true → (version ≡ 2 → ⊥) → version ≡ 3
three-is version known other = eqb-true version 3 (sym (ap (λ t. t || (version == 3)) (ne_eqb version 2 other)) ∙ known)

-- what is looked for at a place
abbrev compressed : ℕ × List ℕ → Option (Unit {0})
compressed len = number_at w8 len.1 >>= (λ (compress : ℕ × List ℕ). provided (nat_le 2 len.0 && (compress.0 == 1)))

compressed-within : (place : ℕ) (bytes : List ℕ) → is_compressed_at place bytes ≡ true → place < length bytes
compressed-within place bytes is = by (leb (length bytes) place) refl
  where
    by : (t : Bool) → leb (length bytes) place ≡ t → place < length bytes
    by true e =
        let past : length bytes ≤ place = leb-true _ _ e in
        absurd (false≢true (sym (ap (λ o. is_some (o >>= compressed)) (number_at-short (drop place bytes) (omega (arith, past, length-drop place bytes)))) ∙ is))
    by false e = leb-false _ _ e

pub v3-error : (footer : Footer) (part bytes : List ℕ) (n : ℕ) (e : LoadError) (error : SstError) → error ≡ error_in_table footer.index_offset e → LoadsV3 n bytes (Err e)
    → usable_index footer.version part ≡ (usable_entries n bytes >>= (λ entries. Some (Entries entries))) → ReadsIndex footer part (Err error)
v3-error footer part bytes n loading.Memory error is loads tells = subst (λ x. ReadsIndex footer part (Err x)) (sym is) tt
v3-error footer part bytes n (loading.Corrupt damage) error is loads tells = subst (λ x. ReadsIndex footer part (Err x)) (sym is) (tells ∙ ap (λ (o : Option (List IndexEntry)). o >>= (λ entries. Some (Entries entries))) loads)
v3-error footer part bytes n (loading.Compressed place) error is loads tells = absurd loads

pub v2-error : (footer : Footer) (part : List ℕ) (e : LoadError) (error : SstError) → footer.version ≡ 2 → footer.index_offset + length part < 2 ^ 64 → error ≡ error_in_table footer.index_offset e → LoadsV2 part (Err e)
    → ReadsIndex footer part (Err error)
v2-error footer part loading.Memory error two placed is loads = subst (λ x. ReadsIndex footer part (Err x)) (sym is) tt
v2-error footer part (loading.Corrupt damage) error two placed is loads = subst (λ x. ReadsIndex footer part (Err x)) (sym is) (ap (λ v. usable_index v part) two ∙ loads)
v2-error footer part (loading.Compressed place) error two placed is loads =
    let within = compressed-within place part loads.1 in
    let same : min (footer.index_offset + place) (2 ^ 64 - 1) ≡ footer.index_offset + place = omega (arith, within, placed) in
    let none : usable_index footer.version part ≡ None = ap (λ v. usable_index v part) two ∙ loads.0 in
    subst (λ x. ReadsIndex footer part (Err x)) (sym is) (none, (two, place, same, loads.1))
