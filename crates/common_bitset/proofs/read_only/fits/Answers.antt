use Rattle.std.proofs.Common.{◌≡◌, ◌*◌, ◌∙◌, ap, sym, subst, length, drop, w32, refl}
use Rattle.std.specs.Int.{from_le_bytes, div_ceil}
use Rattle.common_bitset.specs.Subset.{AreWords, stored_word, stored_bound}
use Rattle.common_bitset.specs.Laws.Stored.{fits_parts, fits_words}
use Rattle.common_bitset.proofs.read_only.fits.Goals as goal

bound_is : (c : goal.After-ends_below) → c.from_le_bytes-max_value.result ≡ stored_bound c.args.bytes.now
bound_is c = c.from_le_bytes-max_value.ensures ∙ ap (from_le_bytes w32) c.in-Some.ensures.cases.0

pub returns : goal.returns
returns c =
    let bytes = c.args.bytes.now in
    let words_is = c.in-Some.ensures.cases.1 in (
      λ h. fits_parts bytes (c.in-Some.ensures.variant.0 refl)
          (ap length (sym words_is) ∙ c.if-words-div_ceil.false ∙ ap (λ n. 8 * n) (c.div_ceil.ensures ∙ ap (λ m. div_ceil m 64) (bound_is c)))
          (subst (λ m. AreWords m (stored_word (drop 4 bytes))) (bound_is c) (subst (λ ws. AreWords c.from_le_bytes-max_value.result (stored_word ws)) words_is (c.ends_below.ensures.0 h))),
      λ fit. c.ends_below.ensures.1 (subst (λ ws. AreWords c.from_le_bytes-max_value.result (stored_word ws)) (sym words_is)
          (subst (λ m. AreWords m (stored_word (drop 4 bytes))) (sym (bound_is c)) (fits_words bytes fit))),
    )
