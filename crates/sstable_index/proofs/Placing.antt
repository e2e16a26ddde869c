-- Where a block stands.
use Rattle.std.proofs.Common.{◌≡◌, ℕ, zero, suc, ◌+◌, ◌<◌, List, [], ◌∷◌, length, map, drop, get_or, true, refl, ap, sym, ◌∙◌, arith}
use Rattle.std.proofs.lemmas.Bool.{and_parts, eqb-true}
use Rattle.sstable_values.specs.Codec.{Address}
use Rattle.sstable_index.specs.Building.{adjoin, starts_of}
use Rattle.sstable_index.proofs.Builds.{adjoin-next}

abbrev pub kept_at : List ℕ → List ℕ → ℕ → Address
kept_at starts ordinals i = record { start = get_or starts i 0; end = get_or starts (i + 1) 0; first_ordinal = get_or ordinals i 0 }

kept-at : (addresses : List Address) (i : ℕ) → adjoin addresses ≡ true → i < length addresses
    → drop i addresses ≡ record { start = get_or (starts_of addresses) i 0; end = get_or (starts_of addresses) (suc i) 0; first_ordinal = get_or (map (λ address. address.first_ordinal) addresses) i 0 } ∷ drop (suc i) addresses
kept-at [] i e within = absurd (omega (arith, within))
kept-at (address ∷ addresses) zero e within = refl
kept-at (address ∷ []) (suc i) e within = absurd (omega (arith, within))
kept-at (address ∷ next ∷ addresses) (suc i) e within =
    let parts = adjoin-next address next addresses e in
    let same : address.end ≡ next.start = eqb-true _ _ (and_parts _ _ parts.0).0 in
    let ends = map (λ (block : Address). block.end) (next ∷ addresses) in
    let ordinals = map (λ (a : Address). a.first_ordinal) (next ∷ addresses) in
    kept-at (next ∷ addresses) i parts.1 (omega (arith, within))
    ∙ ap (λ start. record { start = get_or (start ∷ ends) i 0; end = get_or (start ∷ ends) (suc i) 0; first_ordinal = get_or ordinals i 0 } ∷ drop (suc i) (next ∷ addresses)) (sym same)

-- the place of block i, by the numbers that are kept
pub kept-is : (addresses : List Address) (starts ordinals : List ℕ) (i start end ordinal : ℕ) → starts ≡ starts_of addresses → ordinals ≡ map (λ address. address.first_ordinal) addresses → adjoin addresses ≡ true → i < length addresses
    → start ≡ get_or starts i 0 → end ≡ get_or starts (i + 1) 0 → ordinal ≡ get_or ordinals i 0
    → drop i addresses ≡ record { start = start; end = end; first_ordinal = ordinal } ∷ drop (i + 1) addresses
kept-is addresses starts ordinals i start end ordinal s o e within a b c =
    let n : suc i ≡ i + 1 = omega arith in
    let first : get_or (starts_of addresses) i 0 ≡ start = ap (λ ss. get_or ss i 0) (sym s) ∙ sym a in
    let second : get_or (starts_of addresses) (suc i) 0 ≡ end = ap (λ ss. get_or ss (suc i) 0) (sym s) ∙ ap (λ m. get_or starts m 0) n ∙ sym b in
    let third : get_or (map (λ (address : Address). address.first_ordinal) addresses) i 0 ≡ ordinal = ap (λ os. get_or os i 0) (sym o) ∙ sym c in
    kept-at addresses i e within
    ∙ ap (λ x. record { start = x; end = get_or (starts_of addresses) (suc i) 0; first_ordinal = get_or (map (λ (address : Address). address.first_ordinal) addresses) i 0 } ∷ drop (suc i) addresses) first
    ∙ ap (λ x. record { start = start; end = x; first_ordinal = get_or (map (λ (address : Address). address.first_ordinal) addresses) i 0 } ∷ drop (suc i) addresses) second
    ∙ ap (λ x. record { start = start; end = end; first_ordinal = x } ∷ drop (suc i) addresses) third
    ∙ ap (λ m. record { start = start; end = end; first_ordinal = ordinal } ∷ drop m addresses) n
