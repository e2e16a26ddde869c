-- What the end of a table tells of it.
use Rattle.std.proofs.Common.{◌≡◌, ℕ, ◌+◌, ◌-◌, ◌<◌, ◌≤◌, List, [], length, take, drop, min, Option, Some, None, true, false, refl, ap, sym, ◌∙◌, arith, ◌⊎◌, inl, inr, ⊎_elim, length-drop, length-take, drop-drop, leb}
use Rattle.std.specs.Int.{w32, w64, from_le_bytes}
use Rattle.std.specs.Prelude.{is_some, ◌&&◌, ◌||◌, ◌==◌, not, nat_le}
use Rattle.std.proofs.lemmas.Bool.{le-leb, lt-leb, leb-true, leb-false, eq-eqb, eqb-true, ne_eqb, or_from, or_left, or_right, false≢true}
use Rattle.std.proofs.lemmas.List.{take_all}
use Rattle.owned_bytes.specs.Front.{◌>>=◌, provided, number_at, bytes_at}
use Rattle.owned_bytes.proofs.Pieces.{some_is}
use Rattle.sstable_format.specs.declared.footer.Footer.{Footer}
use Rattle.sstable_format.specs.Footer.{footer_at}
use Rattle.sstable_format.specs.Index.{at_end}
use Rattle.sstable_format.specs.Table.{parts_of}
use Rattle.sstable_format.specs.Ending.{HasFooter, IsEnding}
use Rattle.sstable_format.specs.Version.{version_of, is_known, has_known_version, has_unknown_version}
use Rattle.sstable_format.proofs.Ends.{at_end-found, at_end-none, number_at_end, footer_in, footer_at-whole, bytes_at-front, bytes_at-none}

pub last_four : (table ending : List ℕ) → IsEnding table ending → drop (length ending - 4) ending ≡ drop (length table - 4) table
last_four table ending e =
    ap (drop (length ending - 4)) (sym e.last) ∙ drop-drop (length ending - 4) (length table - length ending) table
    ∙ ap (λ n. drop n table) (omega (arith, e.room, e.len))

pub version_of-ending : (table ending : List ℕ) → IsEnding table ending → version_of table ≡ Some (from_le_bytes w32 (drop (length ending - 4) ending))
version_of-ending table ending e =
    ap (λ o. o >>= (λ (ended : ℕ × List ℕ). Some ended.0)) (number_at_end w32 table e.room)
    ∙ ap (λ (l : List ℕ). Some (from_le_bytes w32 l)) (sym (last_four table ending e))

pub unknown-known : (table : List ℕ) (version : ℕ) → version_of table ≡ Some version → is_known version ≡ true → has_unknown_version table ≡ false
unknown-known table version told known =
    ap (λ o. is_some (o >>= (λ v. provided (not (is_known v))))) told ∙ ap (λ t. is_some (provided (not t))) known

pub known-known : (table : List ℕ) (version : ℕ) → version_of table ≡ Some version → is_known version ≡ true → has_known_version table ≡ true
known-known table version told known =
    ap (λ o. is_some (o >>= (λ v. provided (is_known v)))) told ∙ ap (λ t. is_some (provided t)) known

pub parts_of-short : (table : List ℕ) → length table < 20 → parts_of table ≡ None
unfolding parts_of
parts_of-short table short =
    ap (λ o. o >>= (λ (ended : Footer × List ℕ). bytes_at ended.0.index_offset ended.1 >>= (λ parts. Some (record { front = parts.0; index_part = parts.1; count = ended.0.num_terms; version = ended.0.version })))) (at_end-none 20 footer_at table short)

pub parts_of-far : (table body : List ℕ) (footer : Footer) → at_end 20 footer_at table ≡ Some (footer, body) → length body < footer.index_offset → parts_of table ≡ None
unfolding parts_of
parts_of-far table body footer ended far =
    ap (λ o. o >>= (λ (ended : Footer × List ℕ). bytes_at ended.0.index_offset ended.1 >>= (λ parts. Some (record { front = parts.0; index_part = parts.1; count = ended.0.num_terms; version = ended.0.version })))) ended
    ∙ ap (λ o. o >>= (λ (parts : List ℕ × List ℕ). Some (record { front = parts.0; index_part = parts.1; count = footer.num_terms; version = footer.version }))) (bytes_at-none footer.index_offset body far)

pub parts_of-found : (table body : List ℕ) (footer : Footer) → at_end 20 footer_at table ≡ Some (footer, body) → footer.index_offset ≤ length body
    → parts_of table ≡ Some (record { front = take footer.index_offset body; index_part = drop footer.index_offset body; count = footer.num_terms; version = footer.version })
unfolding parts_of
parts_of-found table body footer ended fits =
    ap (λ o. o >>= (λ (ended : Footer × List ℕ). bytes_at ended.0.index_offset ended.1 >>= (λ parts. Some (record { front = parts.0; index_part = parts.1; count = ended.0.num_terms; version = ended.0.version })))) ended
    ∙ ap (λ o. o >>= (λ (parts : List ℕ × List ℕ). Some (record { front = parts.0; index_part = parts.1; count = footer.num_terms; version = footer.version }))) (bytes_at-front footer.index_offset body fits)

pub footer-found : (table : List ℕ) → 20 ≤ length table → at_end 20 footer_at table ≡ Some (footer_in (drop (length table - 20) table), take (length table - 20) table)
footer-found table fits =
    at_end-found 20 footer_at table [] (footer_in (drop (length table - 20) table)) fits
    (footer_at-whole (drop (length table - 20) table) (omega (arith, fits, length-drop (length table - 20) table)))

-- the version of a table is told by its last bytes alone
pub version-told : (table ending : List ℕ) (v : ℕ) → IsEnding table ending → version_of ending ≡ Some v → (version_of table ≡ Some v) × (v ≡ from_le_bytes w32 (drop (length ending - 4) ending))
version-told table ending v e told =
    let here : version_of ending ≡ Some (from_le_bytes w32 (drop (length ending - 4) ending)) =
    ap (λ o. o >>= (λ (ended : ℕ × List ℕ). Some ended.0)) (number_at_end w32 ending (omega (arith, e.room, e.len))) in
    let same : v ≡ from_le_bytes w32 (drop (length ending - 4) ending) = some_is v (from_le_bytes w32 (drop (length ending - 4) ending)) (sym told ∙ here) in
    (version_of-ending table ending e ∙ ap Some (sym same), same)

pub ending-is : (table ending : List ℕ) (n : ℕ) → 4 ≤ n → length ending ≡ min n 20 → length table ≡ n → drop (n - length ending) table ≡ ending → IsEnding table ending
ending-is table ending n room len whole last = record {
  room = omega arith;
  len = len ∙ ap (λ m. min m 20) (sym whole);
  last = ap (λ m. drop (m - length ending) table) whole ∙ last;
}

-- the known versions
pub known-either : (v : ℕ) → is_known v ≡ true → ((v ≡ 2 → ⊥) × (v ≡ 3)) ⊎ (v ≡ 2)
known-either v known = elim (v == 2) as (λ t. (v == 2) ≡ t → ((v ≡ 2 → ⊥) × (v ≡ 3)) ⊎ (v ≡ 2)) [
  | true ↦ λ two. inr (eqb-true v 2 two)
  | false ↦ λ other. elim (v == 3) as (λ t. (v == 3) ≡ t → ((v ≡ 2 → ⊥) × (v ≡ 3)) ⊎ (v ≡ 2)) [
    | true ↦ λ three. inl ((λ two. absurd (false≢true (sym other ∙ eq-eqb v 2 two))), eqb-true v 3 three)
    | false ↦ λ neither. absurd (false≢true (sym (or_from (v == 2) (v == 3) other neither) ∙ known))
  ] refl
] refl

pub known-is : (v : ℕ) → ((v ≡ 2 → ⊥) × (v ≡ 3)) ⊎ (v ≡ 2) → is_known v ≡ true
known-is v is = ⊎_elim (λ three. or_right (v == 2) (v == 3) (eq-eqb _ _ three.1)) (λ two. or_left (v == 2) (v == 3) (eq-eqb _ _ two)) is

pub unknown-is : (v : ℕ) → (v ≡ 2 → ⊥) → (v ≡ 3 → ⊥) → is_known v ≡ false
unknown-is v two three = or_from (v == 2) (v == 3) (ne_eqb _ _ two) (ne_eqb _ _ three)

-- the last four bytes are the version of the footer
footer-version : (ending : List ℕ) → length ending ≡ 20 → (footer_in ending).version ≡ from_le_bytes w32 (drop (length ending - 4) ending)
footer-version ending len =
    let place : 16 ≡ length ending - 4 = omega (arith, len) in
    ap (from_le_bytes w32) (take_all 4 (drop 16 ending) (omega (arith, len, length-drop 16 ending)))
    ∙ ap (λ n. from_le_bytes w32 (drop n ending)) place

ended-by : (table ending : List ℕ) → IsEnding table ending → 20 ≤ length table → at_end 20 footer_at table ≡ Some (footer_in ending, take (length table - 20) table)
ended-by table ending e fits =
    let long : length ending ≡ 20 = omega (arith, e.len, fits) in
    let same : drop (length table - 20) table ≡ ending = ap (λ n. drop (length table - n) table) (sym long) ∙ e.last in
    footer-found table fits ∙ ap (λ (l : List ℕ). Some (footer_in l, take (length table - 20) table)) same

-- an index offset past the footer
pub far-by : (table ending : List ℕ) → IsEnding table ending → 20 ≤ length table → length table < (footer_in ending).index_offset + 20 → parts_of table ≡ None
far-by table ending e fits far =
    parts_of-far table (take (length table - 20) table) (footer_in ending) (ended-by table ending e fits)
    (omega (arith, far, fits, length-take (length table - 20) table))

pub footer-by : (table ending : List ℕ) (footer : Footer) (v : ℕ) → IsEnding table ending → v ≡ from_le_bytes w32 (drop (length ending - 4) ending) → 20 ≤ length table
    → is_known v ≡ true
    → footer.index_offset ≡ (footer_in ending).index_offset → footer.num_terms ≡ (footer_in ending).num_terms → footer.version ≡ (footer_in ending).version
    → footer.index_offset + 20 ≤ length table → HasFooter table footer
footer-by table ending footer v e is fits known offset count version near =
    let same : footer.version ≡ v = version ∙ footer-version ending (omega (arith, e.len, fits)) ∙ sym is in
    let told : version_of table ≡ Some v = version_of-ending table ending e ∙ ap Some (sym is) in
    record {
      read = ended-by table ending e fits
          ∙ ap (λ n. Some (record { index_offset = n; num_terms = (footer_in ending).num_terms; version = (footer_in ending).version }, take (length table - 20) table)) (sym offset)
          ∙ ap (λ n. Some (record { index_offset = footer.index_offset; num_terms = n; version = (footer_in ending).version }, take (length table - 20) table)) (sym count)
          ∙ ap (λ n. Some (record { index_offset = footer.index_offset; num_terms = footer.num_terms; version = n }, take (length table - 20) table)) (sym version);
      told = told ∙ ap Some (sym same);
      known = ap is_known same ∙ known;
      fits = near;
    }
