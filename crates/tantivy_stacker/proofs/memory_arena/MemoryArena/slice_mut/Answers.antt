use Rattle.std.proofs.Common.{◌≡◌, ◌/◌, ◌%◌, ◌≤◌, List, [], ℕ, length, take, drop, set, refl, sym, subst, ap, ◌∙◌, arith}
use Rattle.std.proofs.lemmas.List.{get_or_read}
use Rattle.tantivy_stacker.specs.Arena.{Arena, Lies, page_bytes, page, put_on_page, bytes_at, with_slice}
use Rattle.tantivy_stacker.proofs.Arena.{Writes-slice}
use Rattle.tantivy_stacker.proofs.memory_arena.MemoryArena.slice_mut.Goals as goal

pub returns : goal.returns
unfolding with_slice bytes_at
returns c =
    let inside = c.self.inside in
    let old : Arena = record { limit = inside.limit; pages = inside.pages.items } in
    let addr = c.args.addr in
    let same : old ≡ c.args.self.now = c.self.view_is in
    let number : c.number-number.result ≡ addr = c.number-number.ensures in
    let lies : Lies old addr c.args.len = subst (λ (a : Arena). Lies a addr c.args.len) (sym same) c.requires in
    let on = lies.on_page in
    let invariant = c.self.invariant in
    let few : length inside.pages.items ≤ 4096 = omega (arith, invariant.1, invariant.2) in
    let read : c.index_mut-page.result.now ≡ page old (c.number-number.result / page_bytes) = get_or_read inside.pages.items (c.number-number.result / page_bytes) c.index_mut-page.result.now (omega arith) c.index_mut-page.ensures.value [] in
    let here : c.index_mut-page.result.now ≡ page old (addr / page_bytes) = read ∙ ap (λ k. page old (k / page_bytes)) number in (
      (
        refl,
        λ w.
            ap (λ k. record { limit = inside.limit; pages = set inside.pages.items (k / page_bytes) (take (length c.index_mut-page.result.now) (put_on_page c.index_mut-page.result.now (k % page_bytes) w)) }) number
            ∙ (ap (λ (xs : List ℕ). record { limit = inside.limit; pages = set inside.pages.items (addr / page_bytes) (take (length xs) (put_on_page xs (addr % page_bytes) w)) }) here ∙ ap (λ (a : Arena). with_slice a addr w) same),
      ),
      record {
        writes_back = tt;
        bytes = c.slice_mut.ensures.bytes ∙ (ap (λ k. take c.args.len (drop (k % page_bytes) c.index_mut-page.result.now)) number ∙ (ap (λ (xs : List ℕ). take c.args.len (drop (addr % page_bytes) xs)) here ∙ ap (λ (a : Arena). bytes_at a addr c.args.len) same));
        len = c.slice_mut.ensures.len;
        pages = subst (λ (a : Arena). length a.pages ≤ 4096) same few;
        writes = λ w n. Writes-slice c.args.self.now addr c.args.len w c.requires n;
      },
    )
