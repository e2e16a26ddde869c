-- An iterator that shows the list of what is left gets nearer its end. A reader of contracts may skip this file.
use Rattle.std.proofs.Common.{List, Option, None, Some, length, rules, ap}
use Rattle.std.specs.Iterator.{YieldsFirst, MakesProgress, item_count}

pub step_goes : {A : Type 0} (can : List A → Type 0) (s t : List A) (r : Option A) → can t → YieldsFirst (λ (rest : List A). rest) s r t → MakesProgress can (item_count {A = A} (λ (rest : List A). rest)) s r t
step_goes can s t None able step = Prim.search rules
step_goes can s t (Some x) able step = let longer = ap length step in Prim.search rules
