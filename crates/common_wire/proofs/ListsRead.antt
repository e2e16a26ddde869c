-- Texts and lists from a source.
use Rattle.std.proofs.Common.{◌≡◌, ℕ, zero, suc, ◌+◌, ◌-◌, ◌≤◌, ◌<◌, List, [], ◌∷◌, ◌++◌, length, take, drop, map, Bool, true, false, Some, None, Option, Result, Ok, Err, refl, ap, sym, ◌∙◌, arith, append_assoc, length-append, length-drop, take-append-drop, get_or}
use Rattle.std.specs.Prelude.{nat_le, if◌then◌else◌, All}
use Rattle.std.specs.List.{flat_map}
use Rattle.std.specs.Io.KnownBytes.{Consumes}
use Rattle.std.proofs.lemmas.Bool.{leb-true, leb-false}
use Rattle.std.proofs.lemmas.List.{length-map}
use Rattle.std.proofs.lemmas.List.Folds.{flat_map-map}
use Rattle.common_wire.specs.Taking.{Taken, Value, Cut, Wrong, Taking, continued, ◌>>=◌, give, only_if, bytes_of, counted}
use Rattle.common_wire.specs.Wire.{list_bytes, vint_bytes}
use Rattle.common_wire.specs.Serialized.{IsTaking, IsCause, Takes}
use Rattle.common_wire.specs.TakingLaws.{IsTaking-give, IsTaking-then, IsTaking-only_if, IsTaking-bytes_of, IsTaking-counted, bytes_of-enough, value_is}
use Rattle.common_wire.specs.declared.error.WireError.{WireError}
use Rattle.common_wire.specs.declared.error.WireError.TheVariants.{Memory, Ended, Invalid, Failed}
use Rattle.common_wire.proofs.FromSources.{GoesOn, GoesOn-begin, GoesOn-then, GoesOn-same, GoesOn-trans, Takes-whole, Takes-failed, Takes-give, Takes-refuse}

-- a value that passes a test
module _ {T A : Type 0} (shown : T → A) (taking : Taking A) (test : A → Bool) where
  abbrev tested : Taking A
  tested = taking >>= (λ a. only_if (test a) (give a))

  pub Takes-passed : IsTaking taking → (old now : Option (List ℕ)) (x : T) → test (shown x) ≡ true → Takes shown taking old now (Ok x) → Takes shown tested old now (Ok x)
  Takes-passed p old now x passed took =
      let next : A → Taking A = λ a. only_if (test a) (give a) in
      Takes-whole shown tested (give (shown x)) old now now (Ok x)
      (GoesOn-same tested (next (shown x)) (give (shown x)) old now (λ left. ap (λ (b : Bool). only_if b (give (shown x)) left) passed) (GoesOn-then shown taking next old now x p took))
      (Takes-give shown x (shown x) now refl)

  pub Takes-refused : {U : Type 0} (shown_as : U → A) → IsTaking taking → (old now : Option (List ℕ)) (x : T) → test (shown x) ≡ false → Takes shown taking old now (Ok x) → Takes shown_as tested old now (Err Invalid)
  Takes-refused shown_as p old now x failed took =
      let next : A → Taking A = λ a. only_if (test a) (give a) in
      let refused : Taking A = λ bytes. Wrong in
      Takes-whole shown_as tested refused old now now (Err Invalid)
      (GoesOn-same tested (next (shown x)) refused old now (λ left. ap (λ (b : Bool). only_if b (give (shown x)) left) failed) (GoesOn-then shown taking next old now x p took))
      (Takes-refuse shown_as now)

  pub Takes-untested : {U : Type 0} (shown_as : U → A) (old now : Option (List ℕ)) (e : WireError) → Takes shown taking old now (Err e) → Takes shown_as tested old now (Err e)
  Takes-untested shown_as old now e failed = Takes-failed shown shown_as taking (λ a. only_if (test a) (give a)) old now e (λ a. IsTaking-only_if (test a) (give a) (IsTaking-give a)) failed

-- a value, and then what depends on it
pub Takes-next : {T U A B : Type 0} (shown : T → A) (shown_next : U → B) (taking : Taking A) (next : A → Taking B) (old between now : Option (List ℕ)) (x : T) (r : Result U WireError) → IsTaking taking
    → Takes shown taking old between (Ok x) → Takes shown_next (next (shown x)) between now r → Takes shown_next (taking >>= next) old now r
Takes-next shown shown_next taking next old between now x r p took second =
    Takes-whole shown_next (taking >>= next) (next (shown x)) old between now r (GoesOn-then shown taking next old between x p took) second

-- what a reading of so many bytes took
pub Consumes-taken : (n : ℕ) (old now : Option (List ℕ)) (piece : List ℕ) → Takes (λ (u : Unit {0}). piece) (bytes_of n) old now (Ok tt) → Consumes old now piece
Consumes-taken n None now piece took = tt
Consumes-taken n (Some bytes) None piece took = absurd took
Consumes-taken n (Some bytes) (Some left) piece took =
    let (front, split, alone) = (IsTaking-bytes_of n).front bytes left piece took in
    let is : front ≡ piece = same front piece alone in
    split ∙ ap (λ l. l ++ left) is
  where
    same : (front piece : List ℕ) → bytes_of n front ≡ Value piece [] → front ≡ piece
    same front piece alone = by (nat_le n (length front)) alone
      where
        by : (b : Bool) → (if b then Value (take n front) (drop n front) else Cut) ≡ Value piece [] → front ≡ piece
        by true found = let both = value_is (take n front) piece (drop n front) [] found in sym (take-append-drop n front) ∙ ap (λ l. l ++ drop n front) both.0 ∙ ap (λ l. piece ++ l) both.1 ∙ nothing piece
          where
            nothing : (xs : List ℕ) → xs ++ [] ≡ xs
            nothing [] = refl
            nothing (x ∷ xs) = ap (λ l. x ∷ l) (nothing xs)
        by false found = absurd cc

bytes_of-cut : (n : ℕ) (bytes : List ℕ) → length bytes < n → bytes_of n bytes ≡ Cut
bytes_of-cut n bytes short = by (nat_le n (length bytes)) refl
  where
    by : (b : Bool) → nat_le n (length bytes) ≡ b → (if b then Value (take n bytes) (drop n bytes) else Cut) ≡ Cut
    by true there = absurd (omega (arith, leb-true n (length bytes) there))
    by false there = refl

short_of_cut : (n : ℕ) (bytes : List ℕ) → bytes_of n bytes ≡ Cut → length bytes < n
short_of_cut n bytes cut = by (nat_le n (length bytes)) refl cut
  where
    by : (b : Bool) → nat_le n (length bytes) ≡ b → (if b then Value (take n bytes) (drop n bytes) else Cut) ≡ Cut → length bytes < n
    by true there found = absurd cc
    by false there found = leb-false n (length bytes) there

never_wrong : (n : ℕ) (bytes : List ℕ) → bytes_of n bytes ≡ Wrong → ⊥
never_wrong n bytes wrong = by (nat_le n (length bytes)) wrong
  where
    by : (b : Bool) → (if b then Value (take n bytes) (drop n bytes) else Cut) ≡ Wrong → ⊥
    by true found = cc
    by false found = cc

rest_of_bytes : (n : ℕ) (bytes rest x : List ℕ) → bytes_of n bytes ≡ Value x rest → (n ≤ length bytes) × (length rest ≡ length bytes - n)
rest_of_bytes n bytes rest x found = by (nat_le n (length bytes)) refl found
  where
    by : (b : Bool) → nat_le n (length bytes) ≡ b → (if b then Value (take n bytes) (drop n bytes) else Cut) ≡ Value x rest → (n ≤ length bytes) × (length rest ≡ length bytes - n)
    by true there is = let both = value_is (take n bytes) x (drop n bytes) rest is in (leb-true n (length bytes) there, ap length (sym both.1) ∙ length-drop n bytes)
    by false there is = absurd cc

-- a piece could not be read
pub Takes-no_piece : {T U : Type 0} (shown : T → List ℕ) (shown_piece : U → List ℕ) (n piece : ℕ) (done : List ℕ) (old between now : Option (List ℕ)) (e : WireError) → Consumes old between done → length done + piece ≤ n
    → Takes shown_piece (bytes_of piece) between now (Err e) → Takes shown (bytes_of n) old now (Err e)
Takes-no_piece shown shown_piece n piece done None between now e gone fits failed = tt
Takes-no_piece shown shown_piece n piece done (Some bytes) None now e gone fits failed = absurd gone
Takes-no_piece shown shown_piece n piece done (Some bytes) (Some middle) None e gone fits failed = absurd failed
Takes-no_piece shown shown_piece n piece done (Some bytes) (Some middle) (Some left) e gone fits failed = record {
  cause = cause e failed.cause;
  gone = let (front, split) = failed.gone in (done ++ front, gone ∙ ap (λ l. done ++ l) split ∙ sym (append_assoc done front left));
  within = λ x rest found.
      let whole = rest_of_bytes n bytes rest x found in
      let enough : piece ≤ length middle = omega (arith, whole.0, long) in
      let part : length (drop piece middle) ≤ length left = failed.within (take piece middle) (drop piece middle) (bytes_of-enough piece middle enough) in
      omega (arith, whole.1, part, long, length-drop piece middle);
}
  where
    long : length bytes ≡ length done + length middle
    long = ap length gone ∙ length-append done middle

    cause : (e : WireError) → IsCause e (bytes_of piece middle) → IsCause e (bytes_of n bytes)
    cause Ended cut = bytes_of-cut n bytes (omega (arith, short_of_cut piece middle cut, long))
    cause Invalid wrong = absurd (never_wrong piece middle wrong)
    cause Memory is = tt
    cause Failed is = tt

-- want of memory after some bytes
pub Takes-no_room : {T : Type 0} (shown : T → List ℕ) (n : ℕ) (done : List ℕ) (old now : Option (List ℕ)) → Consumes old now done → length done ≤ n → Takes shown (bytes_of n) old now (Err Memory)
Takes-no_room shown n done None now gone fits = tt
Takes-no_room shown n done (Some bytes) None gone fits = absurd gone
Takes-no_room shown n done (Some bytes) (Some left) gone fits = record {
  cause = tt;
  gone = (done, gone);
  within = λ x rest found. let whole = rest_of_bytes n bytes rest x found in omega (arith, whole.1, ap length gone, length-append done left);
}

-- so many values are left, after these
pub values_left : {A : Type 0} → Taking A → List A → ℕ → Taking (List A)
values_left item xs n = counted n item >>= (λ others. give (xs ++ others))

pub IsTaking-values_left : {A : Type 0} (item : Taking A) (xs : List A) (n : ℕ) → IsTaking item → IsTaking (values_left item xs n)
unfolding values_left
IsTaking-values_left item xs n p = IsTaking-then (counted n item) _ (IsTaking-counted n item p) (λ others. IsTaking-give (xs ++ others))

pub GoesOn-values : {A : Type 0} (item : Taking A) (n : ℕ) (old : Option (List ℕ)) → GoesOn (counted n item) (values_left item [] n) old old
unfolding values_left
GoesOn-values {A = A} item n old = GoesOn-begin (counted n item) (counted n item >>= (λ others. give ([] ++ others))) old (λ bytes. same (counted n item bytes))
  where
    same : (taken : Taken (List A)) → taken ≡ continued taken (λ others. give ([] ++ others))
    same (Value x rest) = refl
    same Cut = refl
    same Wrong = refl

-- one more value was read
pub GoesOn-value : {T A : Type 0} (shown : T → A) (item : Taking A) (xs : List A) (n : ℕ) (old now : Option (List ℕ)) (x : T) → IsTaking item → Takes shown item old now (Ok x)
    → GoesOn (values_left item xs (suc n)) (values_left item (xs ++ shown x ∷ []) n) old now
unfolding values_left counted
GoesOn-value shown item xs n None now x p took = tt
GoesOn-value shown item xs n (Some bytes) None x p took = absurd took
GoesOn-value {A = A} shown item xs n (Some bytes) (Some left) x p took = record {
  same = ap (λ (taken : Taken A). continued (continued taken (λ first. counted n item >>= (λ others. give (first ∷ others)))) (λ others. give (xs ++ others))) took ∙ same (counted n item left);
  gone = let (front, split, alone) = p.front bytes left (shown x) took in (front, split);
}
  where
    same : (taken : Taken (List A)) → continued (continued taken (λ others. give (shown x ∷ others))) (λ others. give (xs ++ others)) ≡ continued taken (λ others. give ((xs ++ shown x ∷ []) ++ others))
    same (Value others rest) = ap (λ l. Value l rest) (sym (append_assoc xs (shown x ∷ []) others))
    same Cut = refl
    same Wrong = refl

-- the next value could not be read
pub Takes-no_value : {T U A : Type 0} (shown : T → A) (shown_all : U → List A) (item : Taking A) (xs : List A) (n : ℕ) (old now : Option (List ℕ)) (e : WireError) → IsTaking item
    → Takes shown item old now (Err e) → Takes shown_all (values_left item xs (suc n)) old now (Err e)
unfolding values_left counted
Takes-no_value {A = A} shown shown_all item xs n old now e p failed =
    Takes-failed (λ (l : List A). l) shown_all (item >>= (λ first. counted n item >>= (λ others. give (first ∷ others)))) (λ others. give (xs ++ others)) old now e (λ others. IsTaking-give (xs ++ others))
    (Takes-failed shown (λ (l : List A). l) item (λ first. counted n item >>= (λ others. give (first ∷ others))) old now e
    (λ first. IsTaking-then (counted n item) _ (IsTaking-counted n item p) (λ others. IsTaking-give (first ∷ others))) failed)

-- no value is left
pub GoesOn-no_values : {A : Type 0} (item : Taking A) (xs : List A) (now : Option (List ℕ)) → GoesOn (values_left item xs 0) (give xs) now now
unfolding values_left counted
GoesOn-no_values item xs now = GoesOn-begin (counted 0 item >>= (λ others. give (xs ++ others))) (give xs) now (λ bytes. ap (λ l. Value l bytes) (nothing xs))
  where
    nothing : {A : Type 0} (ys : List A) → ys ++ [] ≡ ys
    nothing [] = refl
    nothing (y ∷ ys) = ap (λ l. y ∷ l) (nothing ys)

-- the bytes of a list, by its items
pub list_bytes-items : {T A : Type 0} (shown : T → A) (written : A → A) (wire : A → List ℕ) (items : List T)
    → list_bytes wire (map written (map shown items)) ≡ vint_bytes (length items) ++ flat_map (λ x. wire (written (shown x))) items
unfolding list_bytes
list_bytes-items shown written wire items =
    let long : length (map written (map shown items)) ≡ length items = length-map (map shown items) written ∙ length-map items shown in
    let flat : flat_map wire (map written (map shown items)) ≡ flat_map (λ x. wire (written (shown x))) items = flat_map-map wire written (map shown items) ∙ flat_map-map (λ a. wire (written a)) shown items in
    ap (λ n. vint_bytes n ++ flat_map wire (map written (map shown items))) long ∙ ap (λ l. vint_bytes (length items) ++ l) flat

-- items that may be written, one by one
pub All-shown : {T A : Type 0} (shown : T → A) (P : A → Type 0) (items : List T) → All P (map shown items) → All (λ x. P (shown x)) items
All-shown shown P [] all k d h = absurd (omega arith)
All-shown shown P (x ∷ items) all zero d h = all zero (shown x) (omega arith)
All-shown shown P (x ∷ items) all (suc k) d h = All-shown shown P items (λ j e g. all (suc j) e (omega arith)) k d (omega arith)

-- a list's bytes are those of the items so far, those of the next, and those of the others
pub flat_map-split : {X : Type 0} (f : X → List ℕ) (items : List X) (i : ℕ) (x : X) → i < length items → x ≡ get_or items i x
    → flat_map f items ≡ flat_map f (take i items) ++ (f x ++ flat_map f (drop (suc i) items))
flat_map-split f [] i x h is = absurd (omega arith)
flat_map-split f (a ∷ items) zero x h is = ap (λ y. f y ++ flat_map f items) (sym is)
flat_map-split f (a ∷ items) (suc i) x h is =
    ap (λ l. f a ++ l) (flat_map-split f items i x (omega arith) is) ∙ sym (append_assoc (f a) (flat_map f (take i items)) (f x ++ flat_map f (drop (suc i) items)))

-- the bytes of a list that was lent as a slice
pub list_bytes-seen : {T A : Type 0} (shown : T → A) (written : A → A) (wire : A → List ℕ) (items seen : List T) (n : ℕ) → seen ≡ items → n ≡ length seen
    → list_bytes wire (map written (map shown items)) ≡ vint_bytes n ++ flat_map (λ x. wire (written (shown x))) seen
list_bytes-seen shown written wire items seen n same long =
    ap (λ l. list_bytes wire (map written (map shown l))) (sym same) ∙ list_bytes-items shown written wire seen ∙ ap (λ m. vint_bytes m ++ flat_map (λ x. wire (written (shown x))) seen) (sym long)

pub map-push : {T A : Type 0} (shown : T → A) (items : List T) (x : T) → map shown (items ++ x ∷ []) ≡ map shown items ++ shown x ∷ []
map-push shown [] x = refl
map-push shown (y ∷ items) x = ap (λ l. shown y ∷ l) (map-push shown items x)

-- all values were read
pub Takes-done : {U A : Type 0} (shown_all : U → List A) (whole : Taking (List A)) (item : Taking A) (xs : List A) (old now : Option (List ℕ)) (u : U) → GoesOn whole (values_left item xs 0) old now → shown_all u ≡ xs
    → Takes shown_all whole old now (Ok u)
Takes-done shown_all whole item xs old now u went is =
    Takes-whole shown_all whole (give xs) old now now (Ok u) (GoesOn-trans whole (values_left item xs 0) (give xs) old now now went (GoesOn-no_values item xs now)) (Takes-give shown_all u xs now is)

-- the same value, seen in another way
pub Takes-as : {T U A : Type 0} (shown : T → A) (shown_as : U → A) (taking : Taking A) (old now : Option (List ℕ)) (x : T) (y : U) → shown x ≡ shown_as y → Takes shown taking old now (Ok x) → Takes shown_as taking old now (Ok y)
Takes-as shown shown_as taking None now x y same took = tt
Takes-as shown shown_as taking (Some bytes) None x y same took = absurd took
Takes-as shown shown_as taking (Some bytes) (Some left) x y same took = took ∙ ap (λ a. Value a left) same
