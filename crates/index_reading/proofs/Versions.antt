-- What the last bytes of a file tell of its version.
use Rattle.std.proofs.Common.{◌≡◌, ℕ, ◌-◌, ◌≤◌, List, length, drop, min, Option, Some, None, Ok, Err, true, false, refl, ap, sym, ◌∙◌, arith, length-drop, drop-drop, leb}
use Rattle.std.proofs.lemmas.Bool.{leb-true, leb-false}
use Rattle.std.proofs.lemmas.List.{take_all}
use Rattle.std.specs.Prelude.{IfSome}
use Rattle.std.specs.Int.{w32, from_le_bytes}
use Rattle.owned_bytes.specs.Front.{◌>>=◌, number_at}
use Rattle.owned_bytes.specs.Outside.{FileState, IsPart, IsRead, HasLength}
use Rattle.sstable_format.specs.Version.{version_of, is_known}
use Rattle.sstable_format.proofs.Ends.{at_end-none, number_at_end}
use Rattle.sstable_format.specs.Ending.{IsEnding}
use Rattle.sstable_format.proofs.Endings.{ending-is, unknown-known, known-known, version-told as version_told}
use Rattle.index_reading.specs.declared.errors.IndexError.TheVariants.{Version}
use Rattle.index_reading.specs.Steps.{ReadsVersion}

pub version-told : (file : FileState) (size k v : ℕ) (ending : List ℕ) → HasLength file.contents file.size → size ≡ file.size → 4 ≤ file.size → k ≡ min size 20
    → IsRead file (size - k) size ending → version_of ending ≡ Some v → IfSome file.contents (λ bytes. version_of bytes ≡ Some v)
version-told file size k v ending long same room is read told = by file.contents long read.bytes
  where
    by : (contents : Option (List ℕ)) → HasLength contents file.size → IsPart contents (size - k) size ending → IfSome contents (λ bytes. version_of bytes ≡ Some v)
    by None long part = tt
    by (Some bytes) long part =
        let e : IsEnding bytes ending = ending-is bytes ending size (omega (arith, room, same)) (omega (arith, read.len, is)) (long ∙ sym same)
        (ap (λ n. drop n bytes) (omega (arith, read.len, is)) ∙ sym (part ∙ take_all (size - (size - k)) (drop (size - k) bytes) (omega (arith, long, same, length-drop (size - k) bytes)))) in
        (version_told bytes ending v e told).0

pub reads-known : {T : Type 0} (contents : Option (List ℕ)) (v : ℕ) (x : T) → IfSome contents (λ file. version_of file ≡ Some v) → is_known v ≡ true → IfSome contents (ReadsVersion (Ok x))
reads-known None v x told known = tt
reads-known (Some file) v x told known = record { known = known-known file v told known; no_other = unknown-known file v told known }

pub reads-other : (T : Type 0) (contents : Option (List ℕ)) (v : ℕ) → IfSome contents (λ file. version_of file ≡ Some v) → is_known v ≡ false → IfSome contents (ReadsVersion {T = T} (Err (Version v)))
reads-other T None v told known = tt
reads-other T (Some file) v told known = record { told = told; unknown = known }

-- the last bytes of a file are those of its last part
pub version_of-part : (file : List ℕ) (start v : ℕ) → start ≤ length file → version_of (drop start file) ≡ Some v → version_of file ≡ Some v
version_of-part file start v within told =
    elim (leb 4 (length (drop start file))) as (λ t. leb 4 (length (drop start file)) ≡ t → version_of file ≡ Some v) [
      | true ↦ λ e.
          let fits : 4 ≤ length (drop start file) = leb-true _ _ e in
          let len = length-drop start file in
          ap (λ o. o >>= value) (number_at_end w32 file (omega (arith, fits, len)))
          ∙ ap (λ (l : List ℕ). Some (from_le_bytes w32 l)) (ap (λ n. drop n file) (omega (arith, fits, len, within)) ∙ sym (drop-drop (length (drop start file) - 4) start file))
          ∙ sym (ap (λ o. o >>= value) (number_at_end w32 (drop start file) fits)) ∙ told
      | false ↦ λ e. absurd (nothing (sym (ap (λ o. o >>= value) (at_end-none 4 (number_at w32) (drop start file) (leb-false _ _ e))) ∙ told))
    ] refl
  where
    value : ℕ × List ℕ → Option ℕ
    value ended = Some ended.0

    nothing : None ≡ Some v → ⊥
    nothing e = cc
