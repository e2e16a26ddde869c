use Rattle.std.proofs.Common.{◌≡◌, ◌/◌, ◌%◌, ◌-◌, ◌≤◌, List, [], ℕ, length, take, drop, set, refl, sym, subst, ap, ◌∙◌, arith}
use Rattle.std.proofs.lemmas.List.{get_or_read, take_rest}
use Rattle.tantivy_stacker.specs.Arena.{Arena, Lies, page_bytes, page, put_on_page, with_slice}
use Rattle.tantivy_stacker.proofs.Arena.{Writes-slice, Lies-rest}
use Rattle.tantivy_stacker.proofs.memory_arena.MemoryArena.slice_from_mut.Goals as goal

pub returns : goal.returns
unfolding with_slice
returns c =
    let inside = c.self.inside in
    let old : Arena = record { limit = inside.limit; pages = inside.pages.items } in
    let addr = c.args.addr in
    let same : old ≡ c.args.self.now = c.self.view_is in
    let number : c.number-number.result ≡ addr = c.number-number.ensures in
    let lies : Lies old addr 0 = subst (λ (a : Arena). Lies a addr 0) (sym same) c.requires in
    let on = lies.on_page in
    let read : c.index_mut-page.result.now ≡ page old (c.number-number.result / page_bytes) = get_or_read inside.pages.items (c.number-number.result / page_bytes) c.index_mut-page.result.now (omega arith) c.index_mut-page.ensures.value [] in
    let here : c.index_mut-page.result.now ≡ page old (addr / page_bytes) = read ∙ ap (λ k. page old (k / page_bytes)) number in
    let there : c.index_mut-page.result.now ≡ page c.args.self.now (addr / page_bytes) = here ∙ ap (λ (a : Arena). page a (addr / page_bytes)) same in
    let len : c.len.result ≡ length c.index_mut-page.result.now = c.len.ensures.value in
    let bytes : c.slice_mut.result.now ≡ drop (addr % page_bytes) (page c.args.self.now (addr / page_bytes)) =
    c.slice_mut.ensures.bytes
    ∙ (ap (λ k. take (k - c.number-number.result % page_bytes) (drop (c.number-number.result % page_bytes) c.index_mut-page.result.now)) len
    ∙ (take_rest c.index_mut-page.result.now (c.number-number.result % page_bytes) ∙ (ap (λ k. drop (k % page_bytes) c.index_mut-page.result.now) number ∙ ap (drop (addr % page_bytes)) there))) in
    let bound : length (page c.args.self.now (addr / page_bytes)) ≤ page_bytes = subst (λ (xs : List ℕ). length xs ≤ page_bytes) there (subst (λ k. k ≤ page_bytes) len c.len.ensures.bound) in (
      (
        refl,
        λ w.
            ap (λ k. record { limit = inside.limit; pages = set inside.pages.items (k / page_bytes) (take (length c.index_mut-page.result.now) (put_on_page c.index_mut-page.result.now (k % page_bytes) w)) }) number
            ∙ (ap (λ (xs : List ℕ). record { limit = inside.limit; pages = set inside.pages.items (addr / page_bytes) (take (length xs) (put_on_page xs (addr % page_bytes) w)) }) here ∙ ap (λ (a : Arena). with_slice a addr w) same),
      ),
      record {
        writes_back = tt;
        bytes = bytes;
        writes = λ w n. Writes-slice c.args.self.now addr (length c.slice_mut.result.now) w (Lies-rest c.args.self.now addr (length c.slice_mut.result.now) c.requires (ap length bytes) bound) n;
      },
    )
