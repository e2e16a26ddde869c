-- A call on a map that first made room in its table.
use Rattle.std.proofs.Common.{◌≡◌, ℕ, ◌+◌, ◌*◌, ◌<◌, ◌≤◌, ◌⊎◌, inl, inr, List, length, refl, sym, ap, subst, ◌∙◌, arith, Option, Result, Ok, Err, OnOk, OnErr, IfOk, IfErr}
use Rattle.tantivy_stacker.specs.declared.error.ArenaError.{ArenaError}
use Rattle.tantivy_stacker.specs.declared.error.ArenaError.TheVariants.{Memory, ArenaFull}
use Rattle.tantivy_stacker.specs.Arena.{Arena, spent, StaysFull, IsAtLimitFrom}
use Rattle.tantivy_stacker.specs.Maps.{Table, IsHeldMap, MapStays, MapPuts, MapWrite, Finds, RehashesAll}
use Rattle.tantivy_stacker.specs.Mutations.{entry_bytes, IsUpdated, DoublesWhereDue, Mutates}
use Rattle.tantivy_stacker.specs.Probes.{IsAbsent}
use Rattle.tantivy_stacker.proofs.Rehashing.{rehashed_held, rehashed_stays, finds_after, puts_after, absent_after, absent_before, write_after, rehashed_write, same_write, same_stays}

-- What a call does to a map that has room.
pub record Puts {V : Type 0} (size : ℕ) (item : List ℕ → V) (old new : Arena) (t u : Table) (key : List ℕ) (post : Option V → V → Type 0) (result : Result V ArenaError) : Type 0 where
  pub write : OnOk result (MapWrite size old new t u)
  pub puts : IfOk result (λ v. MapPuts size item old new t u key v)
  pub called : IfOk result (λ v. IsUpdated size item old t key post v)
  pub unchanged : OnErr result (u ≡ t)
  pub arena : OnErr result (new ≡ old)
  pub space : spent new ≤ spent old + entry_bytes size key
  pub there : (IsAbsent old t.places key → ⊥) → spent new ≡ spent old
  pub full : StaysFull (entry_bytes size key) old new
  pub places : length u.places ≡ length t.places
  pub one_more : OnOk result (IsAbsent old t.places key → u.count ≡ t.count + 1)
  pub same_count : (IsAbsent old t.places key → ⊥) → u.count ≡ t.count
  pub absent : OnErr result (IsAbsent old t.places key)
  pub at_limit : IfErr result (λ e. e ≡ ArenaFull → IsAtLimitFrom (entry_bytes size key) old)

-- a call that found no memory for the table
pub not_mutated : {V : Type 0} (size : ℕ) (item : List ℕ → V) (a : Arena) (t u : Table) (key : List ℕ) (post : Option V → V → Type 0) → IsHeldMap size a t → u ≡ t → Mutates size item a a t u key post (Err Memory)
not_mutated size item a t u key post h same =
    let full : Memory ≡ ArenaFull → ⊥ = λ e. cc in
    rw same (record {
      puts = tt;
      called = tt;
      same = same_stays size item a t;
      arena = refl;
      write = same_write size a t h;
      space = omega arith;
      there = λ _. refl;
      full = λ m l f. f;
      absent = λ e. absurd (full e);
      at_limit = λ e. absurd (full e);
      doubles = tt;
      doubles_too = inr (refl, refl);
      one_more = tt;
      same_count = λ _. refl;
      no_more = refl;
    })

module _ {V : Type 0} (size : ℕ) (item : List ℕ → V) (a : Arena) (t u : Table) (h : IsHeldMap size a t) (r : (u ≡ t) ⊎ RehashesAll t.places u.places) (count : u.count ≡ t.count) (room : u.count * 2 < length u.places) (some : 2 ≤ length u.places) where
  pub held_now : IsHeldMap size a u
  held_now = elim r [
    | inl same ↦ subst (IsHeldMap size a) (sym same) h
    | inr moved ↦ subst (λ k. IsHeldMap size a (record { places = u.places; count = k })) (sym count) (rehashed_held size a t u.places h moved some (omega arith))
  ]

  pub room_now : u.count + 1 < length u.places
  room_now = omega arith

  stays_now : MapStays size item a a t u
  stays_now = elim r [
    | inl same ↦ subst (MapStays size item a a t) (sym same) (same_stays size item a t)
    | inr moved ↦ subst (λ k. MapStays size item a a t (record { places = u.places; count = k })) (sym count) (rehashed_stays size item a t u.places moved)
  ]

  no_write : MapWrite size a a t u
  no_write = elim r [
    | inl same ↦ subst (MapWrite size a a t) (sym same) (same_write size a t h)
    | inr moved ↦ rehashed_write size a t u moved held_now
  ]

  then_write : (c : Arena) (w : Table) → MapWrite size a c u w → MapWrite size a c t w
  then_write c w m = elim r [
    | inl same ↦ subst (λ (s : Table). MapWrite size a c s w) same m
    | inr moved ↦ write_after size a c t u w moved m
  ]

  pub finds_now : (key cut : List ℕ) → key ≡ cut → (found : Option V) → Finds size item a u key found → Finds size item a t cut found
  finds_now key cut same found f = finds_after size item a t u stays_now cut found (subst (λ k. Finds size item a u k found) same f)

  absent_now : (key : List ℕ) → IsAbsent a u.places key → IsAbsent a t.places key
  absent_now key absent = absent_after size item a t u stays_now key absent

  absent_then : (key : List ℕ) → IsAbsent a t.places key → IsAbsent a u.places key
  absent_then key absent = absent_before size item a t u stays_now key absent

  doubles_then : (w : Table) → length w.places ≡ length u.places → DoublesWhereDue t u → DoublesWhereDue t w
  doubles_then w same due = record { doubles = λ few. same ∙ due.doubles few; stays = λ many. same ∙ due.stays many }

  mutates_at : (result : Result V ArenaError) (c : Arena) (w : Table) (key : List ℕ) (post : Option V → V → Type 0) → Puts size item a c u w key post result → DoublesWhereDue t u → Mutates size item a c t w key post result
  mutates_at (Ok v) c w key post p due = record {
    puts = puts_after size item a t u stays_now c w key v p.puts;
    called = (p.called.0, finds_after size item a t u stays_now key p.called.0 p.called.1, p.called.2);
    same = tt;
    arena = tt;
    write = then_write c w p.write;
    space = p.space;
    there = λ there. p.there (λ absent. there (absent_now key absent));
    full = p.full;
    absent = tt;
    at_limit = tt;
    doubles = doubles_then w p.places due;
    doubles_too = tt;
    one_more = λ absent. p.one_more (absent_then key absent) ∙ ap (λ n. n + 1) count;
    same_count = λ there. p.same_count (λ absent. there (absent_now key absent)) ∙ count;
    no_more = tt;
  }
  mutates_at (Err e) c w key post p due = record {
    puts = tt;
    called = tt;
    same = rw (p.unchanged, p.arena) stays_now;
    arena = p.arena;
    write = rw (p.unchanged, p.arena) no_write;
    space = p.space;
    there = λ there. p.there (λ absent. there (absent_now key absent));
    full = p.full;
    absent = λ _. absent_now key p.absent;
    at_limit = p.at_limit;
    doubles = tt;
    doubles_too = inl (doubles_then w p.places due);
    one_more = tt;
    same_count = λ there. p.same_count (λ absent. there (absent_now key absent)) ∙ count;
    no_more = ap (λ (s : Table). s.count) p.unchanged ∙ count;
  }

  pub mutates : (result : Result V ArenaError) (c : Arena) (w : Table) (key cut : List ℕ) (post : Option V → V → Type 0) → key ≡ cut → Puts size item a c u w key post result → DoublesWhereDue t u → Mutates size item a c t w cut post result
  mutates result c w key cut post same p due = subst (λ k. Mutates size item a c t w k post result) same (mutates_at result c w key post p due)
