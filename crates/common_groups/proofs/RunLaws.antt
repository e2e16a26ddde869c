-- Groups that are each read to their end are runs.
use Rattle.std.proofs.Common.{◌≡◌, Bool, true, false, List, [], ◌∷◌, ◌++◌, Option, None, Some, refl, sym, ap, ◌∙◌, subst, append_assoc, append-nil, MatchOption}
use Rattle.std.specs.Prelude.{⊤, option_to_list}
use Rattle.std.specs.Option.{option_map}
use Rattle.std.specs.List.{All}
use Rattle.std.specs.Iterator.{Yields, Drains, Count}
use Rattle.std.specs.Borrow.{Bor}
use Rattle.std.proofs.lemmas.Bool.{false≢true}
use Rattle.std.proofs.lemmas.List.Elements.{All-nil, All-cons}
use denote.Param.Members.{Mut}
use Rattle.common_groups.specs.declared.groups.GroupByIterator.{GroupByIterator}
use Rattle.common_groups.specs.Groups.{source, has_ended, held, held_key, held_items, IsReady, IsOver, GroupIsOver, KeysAre, ReadFrom, Gives}
use Rattle.common_groups.specs.Runs.{all_items, IsRun, IsLongest, AreRuns, GivesAll, ReadsGroup, ReadsGroups}
use Rattle.common_groups.proofs.Calls.{held_of, over_is_ready}

same_head : {A : Type 0} (x y : A) (xs ys : List A) → x ∷ xs ≡ y ∷ ys → x ≡ y
same_head x y xs ys e = cc

module _ {I A : Type 0} (steps : I → Option A → I → Type 0) where
  yields_append : (i j : I) (xs : List A) (k : I) (ys : List A) → Yields steps i xs j → Yields steps j ys k → Yields steps i (xs ++ ys) k
  yields_append i j [] k ys p q = subst (λ m. Yields steps m ys k) (sym p) q
  yields_append i j (x ∷ xs) k ys p q = (p.0, p.1, yields_append p.0 j xs k ys p.2 q)

  read_append : (a b c : Bool) (i j k : I) (xs ys : List A) → ReadFrom steps a i xs b j → ReadFrom steps b j ys c k → ReadFrom steps a i (xs ++ ys) c k
  read_append true true c i j k xs ys p q = (ap (λ l. l ++ ys) p.0 ∙ q.0, q.1, p.2 ∙ q.2)
  read_append true false c i j k xs ys p q = absurd (false≢true p.1)
  read_append false true false i j k xs ys p q = absurd (false≢true q.1)
  read_append false true true i j k xs ys p q =
      (p.0, subst (λ l. Yields steps i l p.0) (sym (append-nil xs) ∙ ap (λ l. xs ++ l) (sym q.0)) p.1, subst (λ m. steps p.0 None m) q.2 p.2)
  read_append false false c i j k xs ys p q = (q.0, yields_append i j xs q.0 ys (subst (λ m. Yields steps i xs m) p.2 p.1) q.1, q.2)

  all_read : (i : I) (read xs : List A) (a b : Bool) (j : I) → a ≡ false → b ≡ true → read ≡ xs → ReadFrom steps a i read b j → Drains steps i xs
  all_read i read xs true b j goes_on stops is p = absurd (false≢true (sym goes_on))
  all_read i read xs false false j goes_on stops is p = absurd (false≢true stops)
  all_read i read xs false true j goes_on stops is p = (j, (p.0, subst (λ l. Yields steps i l p.0) is p.1, p.2))

module _ {I F K A : Type 0} (steps : I → Option A → I → Type 0) where
  pub gives_append : (s t u : GroupByIterator I F K A) (xs ys : List A) → Gives steps s xs t → Gives steps t ys u → Gives steps s (xs ++ ys) u
  gives_append s t u xs ys p q = record {
    read = p.read ++ q.read;
    reads = read_append steps (has_ended s) (has_ended t) (has_ended u) (source s) (source t) (source u) p.read q.read p.reads q.reads;
    given = sym (append_assoc (held_items s) p.read q.read) ∙ ap (λ l. l ++ q.read) p.given ∙ append_assoc xs (held_items t) q.read ∙ ap (λ l. xs ++ l) q.given ∙ sym (append_assoc xs ys (held_items u));
  }

  over_cases : {P : Type 0} (t : GroupByIterator I F K A) → IsOver t → (held t ≡ None → has_ended t ≡ true → P) → P
  over_cases {P} t over go = by (held t) refl over
    where
      by : (o : Option (K × A)) → held t ≡ o → MatchOption o (has_ended t ≡ true) (λ q. ⊥) → P
      by None is e = go is e
      by (Some q) is e = absurd e

  -- what groups that begin anew gave until the source had no more, the source gave
  pub drained : (s : GroupByIterator I F K A) (xs : List A) → held s ≡ None → has_ended s ≡ false → GivesAll steps s xs → Drains steps (source s) xs
  drained s xs fresh goes_on (t, gives, over) = over_cases t over (λ none ended.
      all_read steps (source s) gives.read xs (has_ended s) (has_ended t) (source t) goes_on ended
      (ap (λ o. option_to_list (option_map (λ q. q.1) o) ++ gives.read) (sym fresh) ∙ gives.given ∙ ap (λ o. xs ++ option_to_list (option_map (λ q. q.1) o)) none ∙ append-nil xs) gives.reads)

module _ {I F K A : Type 0} (can : I → Type 0) (callable : F → Type 0) (left : I → Count) (steps : I → Option A → I → Type 0) (g : Mut F (Bor A × Unit {0}) K) (eq : K → K → Bool)
    (same : (k : K) → eq k k ≡ true) (h : A → K) where
  read_gives : (k : K) (s : GroupByIterator I F K A) (xs : List A) (t : GroupByIterator I F K A) → ReadsGroup steps g eq k s xs t → Gives steps s xs t
  read_gives k s [] t p = p.gives
  read_gives k s (x ∷ xs) t p = gives_append steps s p.0 t (x ∷ []) xs p.1.gives (read_gives k p.0 xs t p.2)

  read_keys : (k : K) (s : GroupByIterator I F K A) (xs : List A) (t : GroupByIterator I F K A) → ReadsGroup steps g eq k s xs t → KeysAre g h s → KeysAre g h t
  read_keys k s [] t p known = p.keys h known
  read_keys k s (x ∷ xs) t p known = read_keys k p.0 xs t p.2 (p.1.keys h known)

  read_over : (k : K) (s : GroupByIterator I F K A) (xs : List A) (t : GroupByIterator I F K A) → ReadsGroup steps g eq k s xs t → GroupIsOver eq k t
  read_over k s [] t p = p.over
  read_over k s (x ∷ xs) t p = read_over k p.0 xs t p.2

  read_equal : (k : K) (s : GroupByIterator I F K A) (xs : List A) (t : GroupByIterator I F K A) → ReadsGroup steps g eq k s xs t → KeysAre g h s → All (λ y. eq k (h y) ≡ true) xs
  read_equal k s [] t p known = All-nil (λ y. eq k (h y) ≡ true)
  read_equal k s (x ∷ xs) t p known = All-cons (λ y. eq k (h y) ≡ true) x xs (p.1.of_group h known) (read_equal k p.0 xs t p.2 (p.1.keys h known))

  -- the item that is held is given first
  first_given : (k : K) (s t : GroupByIterator I F K A) (xs : List A) (x : A) → held s ≡ Some (k, x) → (p : Gives steps s xs t) → x ∷ p.read ≡ xs ++ held_items t
  first_given k s t xs x is p = ap (λ o. option_to_list (option_map (λ q. q.1) o) ++ p.read) (sym is) ∙ p.given

  -- a group that was begun has its first item
  read_run : (k : K) (s : GroupByIterator I F K A) (xs : List A) (t : GroupByIterator I F K A) → held_key s ≡ Some k → ReadsGroup steps g eq k s xs t → KeysAre g h s → IsRun eq h k xs
  read_run k s [] t begun p known = none (held t) p.over (p.keys h known).held_is (first_given k s t [] item.0 item.1 p.gives)
    where
      item : (x : A) × (held s ≡ Some (k, x))
      item = held_of (held s) k begun

      is_key : k ≡ h item.0
      is_key = subst (λ (o : Option (K × A)). MatchOption o ⊤ (λ q. q.0 ≡ h q.1)) item.1 known.held_is

      none : (o : Option (K × A)) → MatchOption o (has_ended t ≡ true) (λ q. eq k q.0 ≡ false) → MatchOption o ⊤ (λ q. q.0 ≡ h q.1) → item.0 ∷ p.gives.read ≡ option_to_list (option_map (λ q. q.1) o) → ⊥
      none None over is e = absurd cc
      none (Some q) over is e = false≢true (sym over ∙ ap (eq k) (is ∙ ap h (sym (same_head _ _ _ _ e)) ∙ sym is_key) ∙ same k)
  read_run k s (x ∷ xs) t begun p known = (ap h (sym (same_head _ _ _ _ (first_given k s p.0 (x ∷ []) item.0 item.1 p.1.gives))) ∙ sym is_key, read_equal k p.0 xs t p.2 (p.1.keys h known))
    where
      item : (x : A) × (held s ≡ Some (k, x))
      item = held_of (held s) k begun

      is_key : k ≡ h item.0
      is_key = subst (λ (o : Option (K × A)). MatchOption o ⊤ (λ q. q.0 ≡ h q.1)) item.1 known.held_is

  -- the next group has another key
  read_longest : (k : K) (s : GroupByIterator I F K A) (gs : List (K × List A)) → GroupIsOver eq k s → ReadsGroups can callable left steps g eq s gs → IsLongest eq h k gs
  read_longest k s [] over p = tt
  read_longest k s (group ∷ gs) over p = subst (λ (o : Option (K × A)). MatchOption o (has_ended s ≡ true) (λ q. eq k q.0 ≡ false)) item.1 over
    where
      item : (x : A) × (held s ≡ Some (group.0, x))
      item = held_of (held s) group.0 (ap held_key (sym (p.2.stays (over_is_ready eq k s over))) ∙ p.2.key)

  ends : (t : GroupByIterator I F K A) → held_key t ≡ None → IsReady t → IsOver t
  ends t none ready = by (held t) none ready
    where
      by : (o : Option (K × A)) → option_map (λ q. q.0) o ≡ None → MatchOption o (has_ended t ≡ true) (λ q. ⊤) → MatchOption o (has_ended t ≡ true) (λ q. ⊥)
      by None e ready = ready
      by (Some q) e ready = absurd cc

  pub runs_of_groups : (s : GroupByIterator I F K A) (gs : List (K × List A)) → KeysAre g h s → ReadsGroups can callable left steps g eq s gs → AreRuns eq h gs × GivesAll steps s (all_items gs)
  runs_of_groups s [] known p = (tt, (p.0, p.1.gives, ends p.0 p.1.key p.1.ready))
  runs_of_groups s (group ∷ gs) known p =
      let (t, u, filled, reads, more) = p in
      let here = filled.keys h known in
      let (runs, (v, gives, over)) = runs_of_groups u gs (read_keys group.0 t group.1 u reads here) more in (
        (read_run group.0 t group.1 u filled.key reads here, read_longest group.0 u gs (read_over group.0 t group.1 u reads) more, runs),
        (v, gives_append steps s t v [] (group.1 ++ all_items gs) filled.gives (gives_append steps t u v group.1 (all_items gs) (read_gives group.0 t group.1 u reads) gives), over),
      )
