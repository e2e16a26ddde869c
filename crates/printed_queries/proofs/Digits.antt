-- Characters that are passed over, one at a time.
use Rattle.std.proofs.Common.{◌≡◌, ◌∙◌, sym, ap, refl, ℕ, Bool, true, false, List, [], ◌∷◌}
use Rattle.query_tree.specs.Reader.{skip}

skip_first : (test : ℕ → Bool) (c : ℕ) (cs : List ℕ) → test c ≡ true → skip test (c ∷ cs) ≡ skip test cs
unfolding skip
skip_first test c cs passes = rw passes refl

skip_none : (test : ℕ → Bool) (c : ℕ) (cs : List ℕ) → test c ≡ false → skip test (c ∷ cs) ≡ c ∷ cs
unfolding skip
skip_none test c cs fails = rw fails refl

pub goes_on : (test : ℕ → Bool) (text left rest : List ℕ) (c : ℕ) → skip test text ≡ skip test left → left ≡ c ∷ rest → test c ≡ true → skip test text ≡ skip test rest
goes_on test text left rest c same is passes = same ∙ ap (skip test) is ∙ skip_first test c rest passes

pub stops : (test : ℕ → Bool) (text left rest : List ℕ) (c : ℕ) → skip test text ≡ skip test left → left ≡ c ∷ rest → test c ≡ false → left ≡ skip test text
stops test text left rest c same is fails = is ∙ sym (same ∙ ap (skip test) is ∙ skip_none test c rest fails)

pub ends : (test : ℕ → Bool) (text left : List ℕ) → skip test text ≡ skip test left → left ≡ [] → left ≡ skip test text
unfolding skip
ends test text left same is = is ∙ sym (same ∙ ap (skip test) is)
