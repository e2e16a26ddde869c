-- Takings from a source, one after the other.
use Rattle.std.proofs.Common.{◌≡◌, ℕ, suc, ◌+◌, ◌-◌, ◌*◌, ◌<◌, ◌≤◌, List, [], ◌∷◌, ◌++◌, length, None, Some, Option, Result, Ok, Err, refl, ap, sym, add-one, ◌∙◌, subst, arith, append_assoc, length-append}
use Rattle.std.specs.Prelude.{nat_lt, if◌then◌else◌}
use Rattle.common_wire.specs.Taking.{Taken, Value, Cut, Wrong, Taking, continued, ◌>>=◌, give, refuse, byte}
use Rattle.common_wire.specs.Wire.{groups}
use Rattle.common_wire.specs.Serialized.{limit, IsTaking, IsCause, Takes}
use Rattle.common_wire.specs.declared.error.WireError.{WireError}
use Rattle.common_wire.specs.declared.error.WireError.TheVariants.{Memory, Ended, Invalid, Failed}
use Rattle.common_wire.specs.TakingLaws.{continued_value, value_is, IsTaking-give, IsTaking-then, IsTaking-if}
use Rattle.common_wire.specs.GroupLaws.{groups-last, groups-more, groups-none, IsTaking-groups}
use Rattle.common_wire.proofs.SevenBits.{group_below, limit-rising}

-- a source went on from the whole taking to what is left of it
pub record GoneOn {A : Type 0} (whole rest : Taking A) (bytes left : List ℕ) : Type 0 where
  pub same : whole bytes ≡ rest left
  pub gone : (front : List ℕ) × (bytes ≡ front ++ left)

abbrev pub GoesOn : {A : Type 0} → Taking A → Taking A → Option (List ℕ) → Option (List ℕ) → Type 0
GoesOn whole rest None now = Unit {0}
GoesOn whole rest (Some bytes) None = ⊥
GoesOn whole rest (Some bytes) (Some left) = GoneOn whole rest bytes left

pub GoesOn-begin : {A : Type 0} (whole rest : Taking A) (old : Option (List ℕ)) → ((bytes : List ℕ) → whole bytes ≡ rest bytes) → GoesOn whole rest old old
GoesOn-begin whole rest None same = tt
GoesOn-begin whole rest (Some bytes) same = record { same = same bytes; gone = ([], refl) }

-- a value was taken, and the next taking is left
pub GoesOn-then : {T A B : Type 0} (shown : T → A) (taking : Taking A) (next : A → Taking B) (old now : Option (List ℕ)) (x : T) → IsTaking taking
    → Takes shown taking old now (Ok x) → GoesOn (taking >>= next) (next (shown x)) old now
GoesOn-then shown taking next None now x p took = tt
GoesOn-then shown taking next (Some bytes) None x p took = absurd took
GoesOn-then shown taking next (Some bytes) (Some left) x p took = record {
  same = ap (λ taken. continued taken next) took;
  gone = let (front, split, alone) = p.front bytes left (shown x) took in (front, split);
}

pub GoesOn-trans : {A : Type 0} (whole middle rest : Taking A) (old between now : Option (List ℕ)) → GoesOn whole middle old between → GoesOn middle rest between now → GoesOn whole rest old now
GoesOn-trans whole middle rest None between now first second = tt
GoesOn-trans whole middle rest (Some bytes) None now first second = absurd first
GoesOn-trans whole middle rest (Some bytes) (Some left) None first second = absurd second
GoesOn-trans whole middle rest (Some bytes) (Some left) (Some last) first second = record {
  same = first.same ∙ second.same;
  gone = let (front, split) = first.gone in let (more, split2) = second.gone in
      (front ++ more, split ∙ ap (λ l. front ++ l) split2 ∙ sym (append_assoc front more last));
}

-- only what the rest takes matters
pub GoesOn-same : {A : Type 0} (whole rest other : Taking A) (old now : Option (List ℕ)) → ((left : List ℕ) → rest left ≡ other left) → GoesOn whole rest old now → GoesOn whole other old now
GoesOn-same whole rest other None now same first = tt
GoesOn-same whole rest other (Some bytes) None same first = absurd first
GoesOn-same whole rest other (Some bytes) (Some left) same first = record { same = first.same ∙ same left; gone = first.gone }

-- what the rest takes, the whole takes
pub Takes-whole : {T A : Type 0} (shown : T → A) (whole rest : Taking A) (old between now : Option (List ℕ)) (r : Result T WireError)
    → GoesOn whole rest old between → Takes shown rest between now r → Takes shown whole old now r
Takes-whole shown whole rest None between now r first second = tt
Takes-whole shown whole rest (Some bytes) None now r first second = absurd first
Takes-whole shown whole rest (Some bytes) (Some left) None r first second = absurd second
Takes-whole shown whole rest (Some bytes) (Some left) (Some last) (Ok x) first second = first.same ∙ second
Takes-whole shown whole rest (Some bytes) (Some left) (Some last) (Err e) first second = record {
  cause = subst (IsCause e) (sym first.same) second.cause;
  gone = let (front, split) = first.gone in let (more, split2) = second.gone in
      (front ++ more, split ∙ ap (λ l. front ++ l) split2 ∙ sym (append_assoc front more last));
  within = λ x rest taken. second.within x rest (sym first.same ∙ taken);
}

-- the error of the first taking is that of both
cause_then : {A B : Type 0} (e : WireError) (taken : Taken A) (next : A → Taking B) → IsCause e taken → IsCause e (continued taken next)
cause_then Ended taken next is = ap (λ t. continued t next) is
cause_then Invalid taken next is = ap (λ t. continued t next) is
cause_then Memory taken next is = tt
cause_then Failed taken next is = tt

within_then : {A B : Type 0} (taking : Taking A) (next : A → Taking B) (bytes left : List ℕ) → ((x : A) → IsTaking (next x))
    → ((x : A) (rest : List ℕ) → taking bytes ≡ Value x rest → length rest ≤ length left) → (y : B) (rest : List ℕ) → (taking >>= next) bytes ≡ Value y rest → length rest ≤ length left
within_then taking next bytes left q within y rest taken =
    let (x, middle, first, second) = continued_value (taking bytes) next y rest taken in
    let (front, split, alone) = (q x).front middle rest y second in
    omega (arith, within x middle first, ap length split, length-append front rest)

pub Takes-failed : {T U A B : Type 0} (shown : T → A) (shown_next : U → B) (taking : Taking A) (next : A → Taking B) (old now : Option (List ℕ)) (e : WireError) → ((x : A) → IsTaking (next x))
    → Takes shown taking old now (Err e) → Takes shown_next (taking >>= next) old now (Err e)
Takes-failed shown shown_next taking next None now e q failed = tt
Takes-failed shown shown_next taking next (Some bytes) None e q failed = absurd failed
Takes-failed shown shown_next taking next (Some bytes) (Some left) e q failed = record {
  cause = cause_then e (taking bytes) next failed.cause;
  gone = failed.gone;
  within = within_then taking next bytes left q failed.within;
}

-- a value that was worked out takes no byte
pub Takes-give : {T A : Type 0} (shown : T → A) (x : T) (y : A) (now : Option (List ℕ)) → shown x ≡ y → Takes shown (give y) now now (Ok x)
Takes-give shown x y None is = tt
Takes-give shown x y (Some left) is = ap (λ v. Value v left) (sym is)

pub Takes-refuse : {T A : Type 0} (shown : T → A) (now : Option (List ℕ)) → Takes shown refuse now now (Err Invalid)
Takes-refuse shown None = tt
Takes-refuse shown (Some left) = record { cause = refl; gone = ([], refl); within = λ x rest taken. absurd cc }

-- want of memory, and nothing taken
pub Takes-memory : {T A : Type 0} (shown : T → A) (taking : Taking A) (now : Option (List ℕ)) → IsTaking taking → Takes shown taking now now (Err Memory)
Takes-memory shown taking None p = tt
Takes-memory shown taking (Some left) p = record {
  cause = tt;
  gone = ([], refl);
  within = λ x rest taken. let (front, split, alone) = p.front left rest x taken in omega (arith, ap length split, length-append front rest);
}

-- groups of a number are left, for what is done with the number
pub after : {A : Type 0} → (ℕ → Taking A) → ℕ → ℕ → ℕ → Taking A
after done value scale left = groups left >>= (λ high. done (value + scale * high))

pub GoesOn-groups : {A : Type 0} (done : ℕ → Taking A) (k : ℕ) (old : Option (List ℕ)) → GoesOn (groups k >>= done) (after done 0 1 k) old old
unfolding after
GoesOn-groups done k old = GoesOn-begin (groups k >>= done) (groups k >>= (λ high. done (0 + 1 * high))) old (λ bytes. same (groups k bytes))
  where
    same : (taken : Taken ℕ) → continued taken done ≡ continued taken (λ high. done (0 + 1 * high))
    same (Value x rest) = ap (λ n. done n rest) (omega arith)
    same Cut = refl
    same Wrong = refl

byte_value : (bytes rest : List ℕ) (b : ℕ) → byte bytes ≡ Value b rest → bytes ≡ b ∷ rest
byte_value [] rest b e = absurd cc
byte_value (c ∷ bytes) rest b e = let same = value_is c b bytes rest e in ap (λ x. x ∷ bytes) same.0 ∙ ap (λ l. b ∷ l) same.1

-- one more group, and others after it
pub GoesOn-group : {A : Type 0} (done : ℕ → Taking A) (value scale k b : ℕ) (old now : Option (List ℕ)) → b < 128 → Takes (λ n. n) byte old now (Ok b)
    → GoesOn (after done value scale (suc k)) (after done (value + scale * b) (scale * 128) k) old now
unfolding after
GoesOn-group done value scale k b None now small took = tt
GoesOn-group done value scale k b (Some bytes) None small took = absurd took
GoesOn-group done value scale k b (Some bytes) (Some left) small took =
    let is : bytes ≡ b ∷ left = byte_value bytes left b took in
    record {
      same = ap (after done value scale (suc k)) is ∙ ap (λ taken. continued taken (λ high. done (value + scale * high))) (groups-more k b left small) ∙ same (groups k left);
      gone = (b ∷ [], is);
    }
  where
    same : (taken : Taken ℕ) → continued (continued taken (λ high. give (b + 128 * high))) (λ high. done (value + scale * high)) ≡ continued taken (λ high. done (value + scale * b + scale * 128 * high))
    same (Value x rest) = ap (λ n. done n rest) (omega arith)
    same Cut = refl
    same Wrong = refl

-- the last group
pub GoesOn-last : {A : Type 0} (done : ℕ → Taking A) (value scale k b : ℕ) (old now : Option (List ℕ)) → 128 ≤ b → Takes (λ n. n) byte old now (Ok b)
    → GoesOn (after done value scale (suc k)) (done (value + scale * (b - 128))) old now
unfolding after
GoesOn-last done value scale k b None now large took = tt
GoesOn-last done value scale k b (Some bytes) None large took = absurd took
GoesOn-last done value scale k b (Some bytes) (Some left) large took =
    let is : bytes ≡ b ∷ left = byte_value bytes left b took in
    record {
      same = ap (after done value scale (suc k)) is ∙ ap (λ taken. continued taken (λ high. done (value + scale * high))) (groups-last k b left large);
      gone = (b ∷ [], is);
    }

-- no group may follow
pub GoesOn-none : {A : Type 0} (done : ℕ → Taking A) (value scale : ℕ) (now : Option (List ℕ)) → GoesOn (after done value scale 0) refuse now now
unfolding after
GoesOn-none done value scale now = GoesOn-begin _ refuse now (λ bytes. ap (λ taken. continued taken (λ high. done (value + scale * high))) (groups-none bytes))

-- the byte of a group could not be taken
pub Takes-no_group : {T A : Type 0} (shown : T → A) (done : ℕ → Taking A) (value scale k : ℕ) (old now : Option (List ℕ)) (e : WireError) → ((n : ℕ) → IsTaking (done n))
    → Takes (λ (n : ℕ). n) byte old now (Err e) → Takes shown (after done value scale (suc k)) old now (Err e)
unfolding after groups
Takes-no_group shown done value scale k old now e q failed =
    Takes-failed (λ (n : ℕ). n) shown (groups (suc k)) (λ high. done (value + scale * high)) old now e (λ high. q (value + scale * high))
    (Takes-failed (λ (n : ℕ). n) (λ (n : ℕ). n) byte (λ b. if nat_lt b 128 then (groups k >>= (λ high. give (b + 128 * high))) else give (b - 128)) old now e
    (λ b. IsTaking-if (nat_lt b 128) _ _ (IsTaking-then (groups k) _ (IsTaking-groups k) (λ high. IsTaking-give (b + 128 * high))) (IsTaking-give (b - 128))) failed)

-- A loop that reads groups: i of them were read, and so many may follow.
pub record GroupsRead {A : Type 0} (whole : Taking A) (done : ℕ → Taking A) (left i value scale : ℕ) (old now : Option (List ℕ)) : Type 0 where
  pub scaled : scale ≡ limit i
  pub below : value < scale
  pub goes_on : GoesOn whole (after done value scale left) old now

pub GroupsRead-begin : {A : Type 0} (done : ℕ → Taking A) (k : ℕ) (old : Option (List ℕ)) → GroupsRead (groups k >>= done) done k 0 0 1 old old
GroupsRead-begin done k old = record { scaled = refl; below = omega arith; goes_on = GoesOn-groups done k old }

pub GroupsRead-more : {A : Type 0} (whole : Taking A) (done : ℕ → Taking A) (left k i value scale b : ℕ) (old now next : Option (List ℕ)) → GroupsRead whole done left i value scale old now
    → left ≡ suc k → b < 128 → Takes (λ (n : ℕ). n) byte now next (Ok b) → GroupsRead whole done k (i + 1) (value + scale * b) (scale * 128) old next
GroupsRead-more whole done left k i value scale b old now next p some small took =
    let more : value + scale * b < limit (suc i) = group_below value scale b i p.below p.scaled small in
    record {
      scaled = rw add-one (omega (arith, p.scaled));
      below = omega (arith, more, p.scaled);
      goes_on = GoesOn-trans whole (after done value scale (suc k)) _ old now next (rw some at p.goes_on) (GoesOn-group done value scale k b now next small took);
    }

-- the source ended or failed
pub GroupsRead-cut : {T A : Type 0} (shown : T → A) (whole : Taking A) (done : ℕ → Taking A) (left k i value scale : ℕ) (old now next : Option (List ℕ)) (e : WireError) → ((n : ℕ) → IsTaking (done n))
    → GroupsRead whole done left i value scale old now → left ≡ suc k → Takes (λ (n : ℕ). n) byte now next (Err e) → Takes shown whole old next (Err e)
GroupsRead-cut shown whole done left k i value scale old now next e q p some failed =
    Takes-whole shown whole (after done value scale (suc k)) old now next (Err e) (rw some at p.goes_on) (Takes-no_group shown done value scale k now next e q failed)

-- the last group
pub GroupsRead-last : {T A : Type 0} (shown : T → A) (whole : Taking A) (done : ℕ → Taking A) (left k i value scale b : ℕ) (old now next : Option (List ℕ)) (x : T) → GroupsRead whole done left i value scale old now
    → left ≡ suc k → 128 ≤ b → Takes (λ (n : ℕ). n) byte now next (Ok b) → ((bytes : List ℕ) → done (value + scale * (b - 128)) bytes ≡ Value (shown x) bytes) → Takes shown whole old next (Ok x)
GroupsRead-last shown whole done left k i value scale b old now next x p some large took is =
    let last = GoesOn-last done value scale k b now next large took in
    let given = GoesOn-same (after done value scale (suc k)) (done (value + scale * (b - 128))) (give (shown x)) now next is last in
    Takes-whole shown whole (give (shown x)) old next next (Ok x) (GoesOn-trans whole (after done value scale (suc k)) (give (shown x)) old now next (rw some at p.goes_on) given) (Takes-give shown x (shown x) next refl)

-- a last group of too much
pub GroupsRead-large : {T A : Type 0} (shown : T → A) (whole : Taking A) (done : ℕ → Taking A) (left k i value scale b : ℕ) (old now next : Option (List ℕ)) → GroupsRead whole done left i value scale old now
    → left ≡ suc k → 128 ≤ b → Takes (λ (n : ℕ). n) byte now next (Ok b) → ((bytes : List ℕ) → done (value + scale * (b - 128)) bytes ≡ Wrong) → Takes shown whole old next (Err Invalid)
GroupsRead-large shown whole done left k i value scale b old now next p some large took is =
    let last = GoesOn-last done value scale k b now next large took in
    let refused = GoesOn-same (after done value scale (suc k)) (done (value + scale * (b - 128))) refuse now next is last in
    Takes-whole shown whole refuse old next next (Err Invalid) (GoesOn-trans whole (after done value scale (suc k)) refuse old now next (rw some at p.goes_on) refused) (Takes-refuse shown next)

-- a group that is not the last, where no other may follow
pub GroupsRead-long : {T A : Type 0} (shown : T → A) (whole : Taking A) (done : ℕ → Taking A) (left i value scale b : ℕ) (old now next : Option (List ℕ)) → GroupsRead whole done left i value scale old now
    → left ≡ 1 → b < 128 → Takes (λ (n : ℕ). n) byte now next (Ok b) → Takes shown whole old next (Err Invalid)
GroupsRead-long shown whole done left i value scale b old now next p one small took =
    let more = GroupsRead-more whole done left 0 i value scale b old now next p one small took in
    Takes-whole shown whole refuse old next next (Err Invalid)
    (GoesOn-trans whole (after done (value + scale * b) (scale * 128) 0) refuse old next next more.goes_on (GoesOn-none done (value + scale * b) (scale * 128) next)) (Takes-refuse shown next)

-- groups before the k-th stay below its limit
pub group_fits : (v s b i k : ℕ) → v < s → s ≡ limit i → b < 128 → i < k → v + s * b < limit k
group_fits v s b i k below scaled group before = let one : v + s * b < limit (suc i) = group_below v s b i below scaled group in omega (arith, one, limit-rising i k before)
