-- What handing out space and writing do to an arena.
use Rattle.std.proofs.Common.{◌≡◌, ◌≢◌, ℕ, ◌+◌, ◌-◌, ◌*◌, ◌/◌, ◌%◌, ◌<◌, ◌≤◌, ◌⊎◌, inl, inr, List, [], ◌∷◌, ◌++◌, length, take, drop, set, replicate, refl, sym, ap, subst, ◌∙◌, arith, length-append, length-drop, length-set, Bool, true, false, cond, Result, Ok, Err, IfOk, OnOk}
use Rattle.std.proofs.lemmas.List.{get_or-set_same, get_or-set_other, get_or_append_left, length-replicate, length_push, get_or_push, append-nil}
use Rattle.std.proofs.lemmas.Bool.{cases_eq}
use Rattle.std.proofs.lemmas.Nat.{div-mul-add, mod-mul-add}
use Rattle.std.proofs.lemmas.List.Sums.{sum_by-set, sum_by-append}
use borrow.Author.Tests.{leb-true, leb-false}
use Rattle.tantivy_stacker.specs.Arena.{Arena, page_bytes, page, last_page, Lies, bytes_at, top, spent, IsFull, has_room, next_place, with_space, with_slice, put, put_on_page, Keeps, HandsOut, Writes}
use Rattle.tantivy_stacker.proofs.Pages.{part-append, length-put, part-put_before, part-put_after, part-put_same, take-put}

-- each page is the old one with more bytes behind it
Grows : Arena → Arena → Type 0
Grows old new = (i : ℕ) → i < length old.pages → (zs : List ℕ) × (page new i ≡ page old i ++ zs)

Keeps-grown : (old new : Arena) → new.limit ≡ old.limit → length old.pages ≤ length new.pages → Grows old new → (start end : ℕ) → Keeps old new start end
unfolding Grows bytes_at
Keeps-grown old new same more grown start end = record {
  limit = same;
  lies = λ p n h.
      let i = p / page_bytes in
      let g = grown i h.on_page in
      let longer : length (page new i) ≡ length (page old i) + length g.0 = ap length g.1 ∙ length-append (page old i) g.0 in
      let on = h.on_page in
      let out = h.handed_out in
      record { on_page = omega arith; handed_out = omega arith; in_page = h.in_page };
  reads = λ p n h _.
      let i = p / page_bytes in
      let g = grown i h.on_page in
      ap (λ xs. take n (drop (p % page_bytes) xs)) g.1 ∙ part-append (p % page_bytes) n (page old i) g.0 h.handed_out;
}

-- the last page with n more bytes
abbrev longer : Arena → ℕ → List ℕ
longer a n = page a (last_page a) ++ replicate n 0

-- where the last page has room
abbrev roomy : Arena → ℕ → Arena
roomy a n = record { limit = a.limit; pages = set a.pages (last_page a) (longer a n) }

-- where it has none
abbrev added : Arena → ℕ → Arena
added a n = record { limit = a.limit; pages = a.pages ++ replicate n 0 ∷ [] }

roomy-last : (a : Arena) (n : ℕ) → 1 ≤ length a.pages → page (roomy a n) (last_page a) ≡ longer a n
roomy-last a n some = get_or-set_same a.pages (last_page a) (longer a n) [] (omega arith)

roomy-other : (a : Arena) (n i : ℕ) → i ≢ last_page a → page (roomy a n) i ≡ page a i
roomy-other a n i ne = get_or-set_other a.pages (last_page a) i (longer a n) [] ne

roomy-pages : (a : Arena) (n : ℕ) → length (set a.pages (last_page a) (longer a n)) ≡ length a.pages
roomy-pages a n = length-set a.pages (last_page a) (longer a n)

longer-length : (a : Arena) (n : ℕ) → length (longer a n) ≡ length (page a (last_page a)) + n
longer-length a n = length-append (page a (last_page a)) (replicate n 0) ∙ ap (λ k. length (page a (last_page a)) + k) (length-replicate {A = ℕ} n 0)

roomy-grows : (a : Arena) (n : ℕ) → 1 ≤ length a.pages → Grows a (roomy a n)
unfolding Grows
roomy-grows a n some = λ i h.
    elim (cases_eq i (last_page a)) [
      | inl e ↦ (replicate n 0, ap (page (roomy a n)) e ∙ (roomy-last a n some ∙ ap (λ k. page a k ++ replicate n 0) (sym e)))
      | inr ne ↦ ([], roomy-other a n i ne ∙ sym (append-nil (page a i)))
    ]

added-grows : (a : Arena) (n : ℕ) → Grows a (added a n)
unfolding Grows
added-grows a n = λ i h. ([], get_or_append_left a.pages (replicate n 0 ∷ []) [] i h ∙ sym (append-nil (page a i)))

added-last : (a : Arena) (n : ℕ) → page (added a n) (length a.pages) ≡ replicate n 0
added-last a n = get_or_push a.pages (replicate n 0) [] (length a.pages) refl

added-pages : (a : Arena) (n : ℕ) → length (a.pages ++ replicate n 0 ∷ []) ≡ length a.pages + 1
added-pages a n = length_push a.pages (replicate n 0)

roomy-top : (a : Arena) (n : ℕ) → 1 ≤ length a.pages → top (roomy a n) ≡ top a + n
unfolding top
roomy-top a n some =
    let last : last_page (roomy a n) ≡ last_page a = ap (λ k. k - 1) (roomy-pages a n) in
    let bytes : length (page (roomy a n) (last_page (roomy a n))) ≡ length (page a (last_page a)) + n =
    ap (λ i. length (page (roomy a n) i)) last ∙ (ap length (roomy-last a n some) ∙ longer-length a n) in
    let first : last_page (roomy a n) * page_bytes ≡ last_page a * page_bytes = ap (λ i. i * page_bytes) last in
    omega arith

HandsOut-roomy : (a : Arena) (n : ℕ) → 1 ≤ length a.pages → length (page a (last_page a)) + n ≤ page_bytes → 1 ≤ n → HandsOut a (roomy a n) (top a) n
unfolding top spent IsFull
HandsOut-roomy a n some room one =
    let last = last_page a in
    let had = length (page a last) in
    let pages : length (set a.pages last (longer a n)) ≡ length a.pages = roomy-pages a n in
    let page_is : (last * page_bytes + had) / page_bytes ≡ last = div-mul-add last page_bytes had (omega arith) in
    let place_is : (last * page_bytes + had) % page_bytes ≡ had = mod-mul-add last page_bytes had (omega arith) in
    let bytes : length (page (roomy a n) last) ≡ had + n = ap length (roomy-last a n some) ∙ longer-length a n in
    record {
      fresh = omega arith;
      lies = record {
        on_page = rw page_is (omega arith);
        handed_out = rw (page_is, place_is) (omega arith);
        in_page = rw place_is (omega arith);
      };
      end = roomy-top a n some;
      spends = omega (arith, sum_by-set {X = List ℕ} length a.pages last (longer a n) [] (omega arith), longer-length a n);
      keeps = Keeps-grown a (roomy a n) refl (omega arith) (roomy-grows a n some) 0 0;
      full = λ m h full i below.
          let lower : i < last = omega arith in
          let ne : i ≢ last = omega arith in
          rw (roomy-other a n i ne) (full i lower);
    }

HandsOut-added : (a : Arena) (n : ℕ) → 1 ≤ length a.pages → length (page a (last_page a)) ≤ page_bytes → page_bytes < length (page a (last_page a)) + n → n ≤ page_bytes → 1 ≤ n → HandsOut a (added a n) (length a.pages * page_bytes) n
unfolding top spent IsFull
HandsOut-added a n some bound no_room fits one =
    let last = last_page a in
    let count = length a.pages in
    let pages : length (a.pages ++ replicate n 0 ∷ []) ≡ count + 1 = added-pages a n in
    let new_last : last_page (added a n) ≡ count = omega arith in
    let zero_place : count * page_bytes + 0 ≡ count * page_bytes = omega arith in
    let page_is : (count * page_bytes) / page_bytes ≡ count = rw (← zero_place) (div-mul-add count page_bytes 0 (omega arith)) in
    let place_is : (count * page_bytes) % page_bytes ≡ 0 = rw (← zero_place) (mod-mul-add count page_bytes 0 (omega arith)) in
    let bytes : length (page (added a n) count) ≡ n = ap length (added-last a n) ∙ length-replicate {A = ℕ} n 0 in
    record {
      fresh = omega arith;
      lies = record {
        on_page = rw page_is (omega arith);
        handed_out = rw (page_is, place_is) (omega arith);
        in_page = rw place_is (omega arith);
      };
      end = rw new_last (omega arith);
      spends = omega (arith, sum_by-append {X = List ℕ} length a.pages (replicate n 0 ∷ []), length-replicate {A = ℕ} n 0);
      keeps = Keeps-grown a (added a n) refl (omega arith) (added-grows a n) 0 0;
      full = λ m h full i below.
          let lower : i < count = omega arith in
          let same : page (added a n) i ≡ page a i = get_or_append_left a.pages (replicate n 0 ∷ []) [] i lower in
          elim (cases_eq i last) [
            | inl e ↦ rw (same, e) (omega arith)
            | inr ne ↦ (let earlier : i < last = omega arith in rw same (full i earlier))
          ];
    }

abbrev roomy_case : Arena → ℕ → Bool → Type 0
roomy_case a n b = HandsOut a (record { limit = a.limit; pages = cond b (set a.pages (last_page a) (longer a n)) (a.pages ++ replicate n 0 ∷ []) }) (cond b (top a) (length a.pages * page_bytes)) n

HandsOut-with_space : (a : Arena) (n : ℕ) → 1 ≤ length a.pages → length (page a (last_page a)) ≤ page_bytes → n ≤ page_bytes → 1 ≤ n → HandsOut a (with_space a n) (next_place a n) n
unfolding with_space next_place
HandsOut-with_space a n some bound fits one =
    let by : (b : Bool) → has_room a n ≡ b → roomy_case a n b =
    λ b. elim b as (λ b. has_room a n ≡ b → roomy_case a n b) [
      | true ↦ λ e. HandsOut-roomy a n some (leb-true _ _ e) one
      | false ↦ λ e. HandsOut-added a n some bound (leb-false _ _ e) fits one
    ] in
    by (has_room a n) refl

pub laws_from : {E : Type 0} (r : Result ℕ E) (old new : Arena) (n : ℕ) → 1 ≤ length old.pages → length (page old (last_page old)) ≤ page_bytes → n ≤ page_bytes → 1 ≤ n → IfOk r (λ p. p ≡ next_place old n) → OnOk r (new ≡ with_space old n) → IfOk r (λ p. HandsOut old new p n)
laws_from (Ok p) old new n some bound fits one place space = rw (place, space) (HandsOut-with_space old n some bound fits one)
laws_from (Err e) old new n some bound fits one place space = tt

-- after a write
module _ (a : Arena) (p : ℕ) (bs : List ℕ) (h : Lies a p (length bs)) where
  put-same : page (put a p bs) (p / page_bytes) ≡ put_on_page (page a (p / page_bytes)) (p % page_bytes) bs
  unfolding put
  put-same =
      let on = h.on_page in
      get_or-set_same a.pages (p / page_bytes) (put_on_page (page a (p / page_bytes)) (p % page_bytes) bs) [] on

  put-other : (i : ℕ) → i ≢ p / page_bytes → page (put a p bs) i ≡ page a i
  unfolding put
  put-other i ne = get_or-set_other a.pages (p / page_bytes) i (put_on_page (page a (p / page_bytes)) (p % page_bytes) bs) [] ne

  put-pages : length (put a p bs).pages ≡ length a.pages
  unfolding put
  put-pages = length-set a.pages (p / page_bytes) (put_on_page (page a (p / page_bytes)) (p % page_bytes) bs)

  put-limit : (put a p bs).limit ≡ a.limit
  unfolding put
  put-limit = refl

  put-lengths : (i : ℕ) → length (page (put a p bs) i) ≡ length (page a i)
  put-lengths i =
      elim (cases_eq i (p / page_bytes)) [
        | inl e ↦ (ap (λ k. length (page (put a p bs) k)) e ∙ (ap length put-same ∙ (length-put (page a (p / page_bytes)) (p % page_bytes) bs h.handed_out ∙ ap (λ k. length (page a k)) (sym e))))
        | inr ne ↦ ap length (put-other i ne)
      ]

  put-last : last_page (put a p bs) ≡ last_page a
  put-last = ap (λ k. k - 1) put-pages

  put-reads : (q n : ℕ) → Lies a q n → (q + n ≤ p) ⊎ (p + length bs ≤ q) → bytes_at (put a p bs) q n ≡ bytes_at a q n
  unfolding bytes_at
  put-reads q n g apart =
      let q_is : q / page_bytes * page_bytes + q % page_bytes ≡ q = omega arith in
      let p_is : p / page_bytes * page_bytes + p % page_bytes ≡ p = omega arith in
      elim (cases_eq (q / page_bytes) (p / page_bytes)) [
        | inl e ↦
            (let there : page (put a p bs) (q / page_bytes) ≡ put_on_page (page a (p / page_bytes)) (p % page_bytes) bs = ap (page (put a p bs)) e ∙ put-same in
            let here : page a (p / page_bytes) ≡ page a (q / page_bytes) = ap (page a) (sym e) in
            elim apart [
              | inl before ↦ ap (λ xs. take n (drop (q % page_bytes) xs)) there ∙ (part-put_before (q % page_bytes) n (page a (p / page_bytes)) (p % page_bytes) bs h.handed_out (omega arith) ∙ ap (λ xs. take n (drop (q % page_bytes) xs)) here)
              | inr after ↦ ap (λ xs. take n (drop (q % page_bytes) xs)) there ∙ (part-put_after (q % page_bytes) n (page a (p / page_bytes)) (p % page_bytes) bs h.handed_out (omega arith) ∙ ap (λ xs. take n (drop (q % page_bytes) xs)) here)
            ])
        | inr ne ↦ ap (λ xs. take n (drop (q % page_bytes) xs)) (put-other (q / page_bytes) ne)
      ]

  put-spent : spent (put a p bs) ≡ spent a
  unfolding spent put
  put-spent =
      let on = h.on_page in
      let sums = sum_by-set {X = List ℕ} length a.pages (p / page_bytes) (put_on_page (page a (p / page_bytes)) (p % page_bytes) bs) [] on in
      let lengths = length-put (page a (p / page_bytes)) (p % page_bytes) bs h.handed_out in
      omega arith

  pub Writes-put : Writes a (put a p bs) p bs
  unfolding bytes_at top IsFull
  Writes-put = record {
    written = ap (λ xs. take (length bs) (drop (p % page_bytes) xs)) put-same ∙ part-put_same (page a (p / page_bytes)) (p % page_bytes) bs h.handed_out;
    keeps = record {
      limit = put-limit;
      lies = λ q n g.
          let lengths = put-lengths (q / page_bytes) in
          let on = g.on_page in
          let out = g.handed_out in
          record { on_page = omega (arith, put-pages); handed_out = omega arith; in_page = g.in_page };
      reads = put-reads;
    };
    end = rw put-last (rw put-lengths refl);
    spends = put-spent;
    full = λ m full i below. omega (arith, full i (omega (arith, put-pages)), put-lengths i);
  }

-- What was kept by two calls, one after the other.
pub Keeps-then : {a b c : Arena} {start end : ℕ} → Keeps a b start end → Keeps b c start end → Keeps a c start end
Keeps-then f g = record {
  limit = g.limit ∙ f.limit;
  lies = λ p n h. g.lies p n (f.lies p n h);
  reads = λ p n h apart. g.reads p n (f.lies p n h) apart ∙ f.reads p n h apart;
}

-- A wider range promises less.
pub Keeps-wider : {a b : Arena} {start end : ℕ} (s e : ℕ) → s ≤ start → end ≤ e → Keeps a b start end → Keeps a b s e
Keeps-wider s e lower upper f = record {
  limit = f.limit;
  lies = f.lies;
  reads = λ p n h apart. f.reads p n h (elim apart [ inl before ↦ inl (omega arith) | inr after ↦ inr (omega arith) ]);
}

-- Whatever was handed out lies before the top.
pub Lies-top : (a : Arena) (p n : ℕ) → Lies a p n → p + n ≤ top a
unfolding top
Lies-top a p n h =
    let p_is : p / page_bytes * page_bytes + p % page_bytes ≡ p = omega arith in
    let on = h.on_page in
    let out = h.handed_out in
    let fits = h.in_page in
    elim (cases_eq (p / page_bytes) (last_page a)) [
      | inl e ↦ (let same : length (page a (p / page_bytes)) ≡ length (page a (last_page a)) = ap (λ i. length (page a i)) e in omega arith)
      | inr ne ↦ omega arith
    ]

-- A write through a slice of n bytes.
with_slice-put : (a : Arena) (p n : ℕ) (new : List ℕ) → Lies a p n → length new ≡ n → with_slice a p new ≡ put a p new
unfolding with_slice put
with_slice-put a p n new h same =
    let out = h.handed_out in
    let bytes = page a (p / page_bytes) in
    let whole : take (length bytes) (put_on_page bytes (p % page_bytes) new) ≡ put_on_page bytes (p % page_bytes) new = take-put bytes new (p % page_bytes) (omega arith) in
    ap (λ (xs : List ℕ). record { limit = a.limit; pages = set a.pages (p / page_bytes) xs }) whole

pub Writes-slice : (a : Arena) (p n : ℕ) (new : List ℕ) → Lies a p n → length new ≡ n → Writes a (with_slice a p new) p new
Writes-slice a p n new h same = rw (with_slice-put a p n new h same) (Writes-put a p new (subst (Lies a p) (sym same) h))

-- The places up to the end of what was handed out on a page.
pub Lies-rest : (a : Arena) (p n : ℕ) → Lies a p 0 → n ≡ length (drop (p % page_bytes) (page a (p / page_bytes))) → length (page a (p / page_bytes)) ≤ page_bytes → Lies a p n
Lies-rest a p n h is bound =
    let out = h.handed_out in
    let len : n ≡ length (page a (p / page_bytes)) - p % page_bytes = is ∙ length-drop (p % page_bytes) (page a (p / page_bytes)) in
    record { on_page = h.on_page; handed_out = omega arith; in_page = omega arith }
