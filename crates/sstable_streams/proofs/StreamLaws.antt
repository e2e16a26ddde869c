-- What a stream has left, and what it answers then.
use Rattle.std.proofs.Common.{◌≡◌, List, [], Bool, true, false, Option, Result, Ok, Err, refl, sym, subst}
use Rattle.std.specs.Prelude.{IfOk}
use Rattle.std.specs.declared.ops.Bound.{Bound}
use Rattle.owned_bytes.specs.Keys.{Key}
unfoldable use Rattle.owned_bytes.specs.Keys.{is_rising}
use Rattle.fst_map.specs.Automaton.{Machine}
use Rattle.sstable_values.specs.declared.errors.BlockError.{BlockError}
use Rattle.sstable_values.specs.Codec.{Codec}
use Rattle.sstable_blocks.specs.Placed.{Placed}
use Rattle.sstable_blocks.specs.Slices.{Sliced}
use Rattle.sstable_streams.specs.declared.cursor.Cursor.{Cursor}
use Rattle.sstable_streams.specs.declared.streamer.Standing.{Standing}
use Rattle.sstable_streams.specs.declared.streamer.Standing.TheVariants.{Between, AtEntry, Ended, Failed}
use Rattle.sstable_streams.specs.Streams.{Stream, Current, HasRest, IsLeft, Takes}
unfoldable use Rattle.sstable_streams.specs.Streams.{chosen}
use Rattle.sstable_streams.specs.Places.{stream_of, place_of, if_current}
use Rattle.sstable_streams.proofs.StepLaws.{chosen-none}

-- what is known of a result at Ok, by what was known of it
pub if_ok-onward : {A E : Type 0} {P Q : A → Type 0} (result : Result A E) → ((x : A) → P x → Q x) → IfOk result P → IfOk result Q
if_ok-onward (Ok x) onward known = onward x known
if_ok-onward (Err e) onward known = tt

pub rising-none : is_rising [] ≡ true
unfolding is_rising
rising-none = refl

-- of no entries none is chosen
pub rest-none : {V A S : Type 0} (codec : Codec V) (machine : A → Machine S) (lower upper : Bound Key) (m : Machine S) (stream : Stream V A S) → HasRest codec machine stream (chosen lower upper m []) → HasRest codec machine stream []
rest-none {V} {A} {S} codec machine lower upper m stream rest = subst (λ (entries : List (Placed V)). HasRest codec machine stream entries) (chosen-none {S = S} {V = V} lower upper m) rest

-- as long as no answer stays, the rest is what is left where it stands
pub rest-left : {V A K S : Type 0} (codec : Codec V) (machine : A → Machine S) (tracked : K → Option Key) (cursor : Cursor (Sliced V) A K S) (standing : Standing) (rest : List (Placed V))
    → (standing ≡ Ended → ⊥) → ((e : BlockError) → standing ≡ Failed e → ⊥) → HasRest codec machine (stream_of tracked cursor standing) rest → IsLeft (place_of codec machine tracked cursor) rest
rest-left codec machine tracked cursor Between rest going sound left = left
rest-left codec machine tracked cursor AtEntry rest going sound left = left
rest-left codec machine tracked cursor Ended rest going sound left = absurd (going refl)
rest-left codec machine tracked cursor (Failed e) rest going sound left = absurd (sound e refl)

-- an answer that was given, and where the stream then stands
pub answers : {V A K S : Type 0} (codec : Codec V) (machine : A → Machine S) (tracked : K → Option Key) (cursor : Cursor (Sliced V) A K S) (standing there : Standing) (now : Option (Current V)) (rest : List (Placed V)) (answer given : Result Bool BlockError)
    → standing ≡ there → answer ≡ given → Takes (HasRest codec machine (stream_of tracked cursor there)) (if_current there now) rest given
    → Takes (HasRest codec machine (stream_of tracked cursor standing)) (if_current standing now) rest answer
answers codec machine tracked cursor standing there now rest answer given is_there is_given takes =
    let at_given = subst (λ (a : Result Bool BlockError). Takes (HasRest codec machine (stream_of tracked cursor there)) (if_current there now) rest a) (sym is_given) takes in
    subst (λ (s : Standing). Takes (HasRest codec machine (stream_of tracked cursor s)) (if_current s now) rest answer) (sym is_there) at_given
