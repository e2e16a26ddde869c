-- Why a writer of ranges takes every entry that may come next, and finishes every block that is small enough.
use Rattle.std.proofs.Common.{◌≡◌, ℕ, suc, ◌+◌, ◌<◌, ◌≤◌, true, List, [], ◌∷◌, ◌++◌, length, Option, Some, None, Result, Ok, Err, ⊎_elim, refl, sym, ap, subst, ◌∙◌, arith, take, drop, get_or, drop-cons, append-nil, length-append}
use Rattle.std.specs.Prelude.{◌*◌, ◌^◌, OnOk, IsOk, IfOk, IfSome, map}
use Rattle.std.proofs.lemmas.Bool.{and_parts, eq-eqb, false≢true}
use Rattle.std.proofs.lemmas.Grind.{flat_map-append}
use Rattle.std.proofs.lemmas.List.{take_more, take-append-drop}
use Rattle.std.proofs.lemmas.List.Folds.{length-flat_map-take}
use Rattle.std.specs.declared.ops.Range.{Range}
use Rattle.owned_bytes.specs.Keys.{Key, is_below}
unfoldable use Rattle.owned_bytes.specs.Keys.{is_rising}
use Rattle.owned_bytes.specs.Outside.{HasCause}
use Rattle.owned_bytes.proofs.InTurn.{never_fails}
use Rattle.sstable_values.specs.Codec.{range}
use Rattle.sstable_values.specs.Range.{ends_at}
use Rattle.sstable_blocks.specs.Run.{last_key}
use Rattle.sstable_tables.specs.Laws.{HasGathered, keys_size, values_in}
use Rattle.sstable_tables.specs.Making.{Making, IsTaken, Adds, Refuses, IsTooLong, StopsTable, AppendsTable, IsTable, bytes_of, ending, may_come}
use Rattle.sstable_tables.proofs.Gathered.{gathered-more}
use Rattle.sstable_index.specs.declared.write_errors.SstWriteError.{SstWriteError}
use Rattle.sstable_index.specs.declared.write_errors.SstWriteError.TheVariants.{Memory, Write, Unsorted, ValueRefused, BlockTooLong, Spent}
use Rattle.sstable_tables.proofs.RangeTables.{short-fit, adjoining-taken}
use Rattle.index_writing.specs.Emitting.{numbers_of_all, GainsTable}
unfoldable use Rattle.index_writing.specs.Emitting.{ranged}

pub on-ok : {T E : Type 0} (r : Result T E) (P : Type 0) → OnOk r P → IsOk r → P
on-ok (Ok x) P p is = p
on-ok (Err e) P p is = absurd cc

none-or-some : {A : Type 0} (o : Option A) (x : A) → o ≡ None → o ≡ Some x → ⊥
none-or-some o x none some = absurd cc

pub not-refused : {W : Type 0} (w : Making W (Range ℕ)) (key : Key) (places : Range ℕ) (e : SstWriteError) → IsTaken range w key places → Refuses range w key places e → (e ≡ Memory → ⊥) → ⊥
not-refused w key places Memory taken refuses other = other refl
not-refused w key places Write taken refuses other = refuses
not-refused w key places Unsorted taken refuses other = absurd (false≢true (sym refuses.1 ∙ taken.after))
not-refused w key places ValueRefused taken refuses other = absurd (false≢true (sym refuses.2 ∙ taken.accepted))
not-refused w key places BlockTooLong taken refuses other = none-or-some w.refusal BlockTooLong taken.ready refuses
not-refused w key places Spent taken refuses other = none-or-some w.refusal Spent taken.ready refuses

-- the same of a copy of the key
pub not-refused-at : {W : Type 0} (w : Making W (Range ℕ)) (key copy : Key) (places : Range ℕ) (e : SstWriteError)
    → copy ≡ key → IsTaken range w key places → Refuses range w copy places e → (e ≡ Memory → ⊥) → ⊥
not-refused-at w key copy places e same taken refuses other = not-refused w key places e taken (subst (λ k. Refuses range w k places e) same refuses) other

pub adds-at : {W : Type 0} (old new : Making W (Range ℕ)) (key copy : Key) (places : Range ℕ) → copy ≡ key → Adds old new copy places → Adds old new key places
adds-at old new key copy places same adds = subst (λ k. Adds old new k places) same adds

pub not-stopped : {W : Type 0} (told : W → Option (List ℕ)) (w : Making W (Range ℕ)) (sink : W) (e : SstWriteError) (P : Type 0) → w.refusal ≡ None → (IsTooLong range w → ⊥)
    → StopsTable range w (told w.sink) (told sink) e → HasCause 0 0 P → (e ≡ Write → P) → (e ≡ Memory → ⊥) → ⊥
not-stopped told w sink Memory P ready short stops cause by other = other refl
not-stopped told w sink Write P ready short stops cause by other = never_fails P cause (by refl)
not-stopped told w sink Unsorted P ready short stops cause by other = stops
not-stopped told w sink ValueRefused P ready short stops cause by other = stops
not-stopped told w sink BlockTooLong P ready short stops cause by other =
    ⊎_elim (λ before. none-or-some w.refusal BlockTooLong ready before) (λ now. short now.1) stops.0
not-stopped told w sink Spent P ready short stops cause by other = none-or-some w.refusal Spent ready stops.0

-- ---- a key with the places of its numbers, one after the other

all-of : (ps : List (Key × List ℕ)) (p : Key × List ℕ) → length (numbers_of_all (ps ++ p ∷ [])) ≡ length (numbers_of_all ps) + length p.1
all-of ps p = ap length (flat_map-append (λ (posting : Key × List ℕ). posting.1) ps (p ∷ [])) ∙ length-append (numbers_of_all ps) (p.1 ++ []) ∙ ap (λ ns. length (numbers_of_all ps) + length ns) (append-nil p.1)

pub ranged-push : (start : ℕ) (ps : List (Key × List ℕ)) (p : Key × List ℕ)
    → ranged start (ps ++ p ∷ []) ≡ ranged start ps ++ (p.0, record { start = start + length (numbers_of_all ps); end = start + length (numbers_of_all ps) + length p.1 }) ∷ []
unfolding ranged
ranged-push start [] p = ap (λ n. (p.0, record { start = n; end = n + length p.1 }) ∷ []) (omega arith)
ranged-push start (q ∷ ps) p =
    let one : Key × Range ℕ = (q.0, record { start = start; end = start + length q.1 }) in
    let same : start + length q.1 + length (numbers_of_all ps) ≡ start + length (numbers_of_all (q ∷ ps)) = omega (arith, length-append q.1 (numbers_of_all ps)) in
    ap (λ rest. one ∷ rest) (ranged-push (start + length q.1) ps p ∙ ap (λ n. ranged (start + length q.1) ps ++ (p.0, record { start = n; end = n + length p.1 }) ∷ []) same)

ranged-ends : (start : ℕ) (ps : List (Key × List ℕ)) → ends_at (values_in (ranged start ps)) (start + length (numbers_of_all ps)) ≡ true
unfolding ranged
ranged-ends start [] = refl
ranged-ends start (p ∷ []) = eq-eqb (start + length p.1) (start + length (p.1 ++ [])) (ap (λ ns. start + length ns) (sym (append-nil p.1)))
ranged-ends start (p ∷ q ∷ ps) =
    let same : start + length p.1 + length (numbers_of_all (q ∷ ps)) ≡ start + length (numbers_of_all (p ∷ q ∷ ps)) = omega (arith, length-append p.1 (numbers_of_all (q ∷ ps))) in
    ap (λ n. ends_at (values_in (ranged (start + length p.1) (q ∷ ps))) n) (sym same) ∙ ranged-ends (start + length p.1) (q ∷ ps)

ranged-follows : (start : ℕ) (front : List (Key × List ℕ)) (p : Key × List ℕ) (back : List (Key × List ℕ))
    → is_rising (map (λ (posting : Key × List ℕ). posting.0) (front ++ p ∷ back)) ≡ true → may_come (last_key (ranged start front)) p.0 ≡ true
unfolding ranged is_rising
ranged-follows start [] p back rising = refl
ranged-follows start (q ∷ []) p back rising = (and_parts (is_below q.0 p.0) (is_rising (p.0 ∷ map (λ (posting : Key × List ℕ). posting.0) back)) rising).0
ranged-follows start (q ∷ r ∷ front) p back rising =
    ranged-follows (start + length q.1) (r ∷ front) p back
    (and_parts (is_below q.0 r.0) (is_rising (r.0 ∷ map (λ (posting : Key × List ℕ). posting.0) (front ++ p ∷ back))) rising).1

pub split-at : {X : Type 0} (xs : List X) (i : ℕ) (x : X) → i < length xs → x ≡ get_or xs i x → xs ≡ take i xs ++ x ∷ drop (i + 1) xs
split-at xs i x within at =
    let next : suc i ≡ i + 1 = omega arith in
    sym (take-append-drop i xs) ∙ ap (λ rest. take i xs ++ rest) (drop-cons xs i x within ∙ ap (λ n. get_or xs i x ∷ drop n xs) next ∙ ap (λ y. y ∷ drop (i + 1) xs) (sym at))

pub is-taken : {W : Type 0} (w : Making W (Range ℕ)) (sink : W) (ps : List (Key × List ℕ)) (i : ℕ) (p : Key × List ℕ) (start end : ℕ)
    → HasGathered w sink (ranged 0 (take i ps)) → i < length ps → p ≡ get_or ps i p → is_rising (map (λ posting. posting.0) ps) ≡ true
    → start ≡ length (numbers_of_all (take i ps)) → end ≡ start + length p.1 → IsTaken range w p.0 (record { start = start; end = end })
is-taken w sink ps i p start end has within at rising from to =
    let follows = ranged-follows 0 (take i ps) p (drop (i + 1) ps) (ap (λ xs. is_rising (map (λ (posting : Key × List ℕ). posting.0) xs)) (sym (split-at ps i p within at)) ∙ rising) in
    let adjoins = ap (λ n. ends_at (values_in (ranged 0 (take i ps))) n) (from ∙ omega arith) ∙ ranged-ends 0 (take i ps) in
    record {
      ready = has.ready;
      after = ap (λ o. may_come o p.0) has.last ∙ follows;
      accepted = adjoining-taken w sink (ranged 0 (take i ps)) (record { start = start; end = end }) has (omega (arith, to)) adjoins;
    }

pub has-one-more : {W : Type 0} (old new : Making W (Range ℕ)) (sink : W) (ps : List (Key × List ℕ)) (i : ℕ) (p : Key × List ℕ) (start end : ℕ)
    → i < length ps → p ≡ get_or ps i p → start ≡ length (numbers_of_all (take i ps)) → end ≡ start + length p.1
    → HasGathered old sink (ranged 0 (take i ps)) → Adds old new p.0 (record { start = start; end = end }) → HasGathered new sink (ranged 0 (take (i + 1) ps))
has-one-more old new sink ps i p start end within at from to has adds =
    let more : take (i + 1) ps ≡ take i ps ++ p ∷ [] = take_more ps i p within ∙ ap (λ q. take i ps ++ q ∷ []) (sym at) in
    let first : 0 + length (numbers_of_all (take i ps)) ≡ start = omega (arith, from) in
    let last : 0 + length (numbers_of_all (take i ps)) + length p.1 ≡ end = omega (arith, from, to) in
    subst (HasGathered new sink) (sym (ap (ranged 0) more ∙ ranged-push 0 (take i ps) p ∙ ap (λ n. ranged 0 (take i ps) ++ (p.0, record { start = n; end = 0 + length (numbers_of_all (take i ps)) + length p.1 }) ∷ []) first ∙ ap (λ n. ranged 0 (take i ps) ++ (p.0, record { start = start; end = n }) ∷ []) last))
    (gathered-more old new sink (ranged 0 (take i ps)) p.0 (record { start = start; end = end }) has adds)

pub start-more : (ps : List (Key × List ℕ)) (i : ℕ) (p : Key × List ℕ) (start end : ℕ) → i < length ps → p ≡ get_or ps i p → start ≡ length (numbers_of_all (take i ps)) → end ≡ start + length p.1 → end ≡ length (numbers_of_all (take (i + 1) ps))
start-more ps i p start end within at from to =
    let more : take (i + 1) ps ≡ take i ps ++ p ∷ [] = take_more ps i p within ∙ ap (λ q. take i ps ++ q ∷ []) (sym at) in
    to ∙ ap (λ n. n + length p.1) from ∙ sym (all-of (take i ps) p) ∙ ap (λ xs. length (numbers_of_all xs)) (sym more)

pub start-fits : (ps : List (Key × List ℕ)) (i : ℕ) (p : Key × List ℕ) (start : ℕ) → i < length ps → p ≡ get_or ps i p → start ≡ length (numbers_of_all (take i ps)) → start + length p.1 ≤ length (numbers_of_all ps)
start-fits ps i p start within at from =
    let sum = length-flat_map-take (λ (posting : Key × List ℕ). posting.1) ps i p within in
    omega (arith, sum, from, ap (λ (posting : Key × List ℕ). length posting.1) at)

-- small entries make no block that is too long
pub not-long : {W : Type 0} (w : Making W (Range ℕ)) (sink : W) (entries : List (Key × Range ℕ)) → HasGathered w sink entries
    → keys_size entries + 31 * length entries + 21 < 2 ^ 32 → IsTooLong range w → ⊥
not-long w sink entries has small long = short-fit w sink entries has small long

of_some : {A : Type 0} (P : A → Type 0) (o : Option A) (x : A) → o ≡ Some x → IfSome o P → P x
of_some P o x some p = subst (λ q. IfSome q P) some p

pub gains-table : {E : Type 0} (r : Result (List ℕ) E) (w : Making (List ℕ) (Range ℕ)) (old : List ℕ) (entries : List (Key × Range ℕ)) → HasGathered w old entries
    → IfOk r (λ new. AppendsTable range w (Some w.sink) (Some new)) → IfOk r (λ new. GainsTable entries old new)
gains-table (Ok new) w old entries has a =
    let is : IsTable range w [] (ending range w) = of_some (λ blocks. IsTable range w blocks (bytes_of blocks ++ ending range w)) w.closed [] has.closed a.table in
    record {
      table = ending range w;
      appended = a.appended ∙ ap (λ bytes. bytes ++ ending range w) has.same_sink;
      told = is.told ∙ ap Some has.gathered;
      version = is.version;
    }
gains-table (Err e) w old entries has gives = tt
