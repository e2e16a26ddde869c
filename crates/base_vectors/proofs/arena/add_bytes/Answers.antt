use Rattle.std.proofs.Common.{Result, Ok, Err, OnOk, lit≤}
use Rattle.base_vectors.proofs.arena.add_bytes.Goals as goal

on_ok : {A E : Type 0} (r : Result A E) {P : Type 0} → P → OnOk r P
on_ok (Ok x) p = p
on_ok (Err e) p = tt

pub returns : goal.returns
returns c = on_ok c.append.result (c.beside_laws.ensures.list _ _ _ _ _ c.requires c.append.ensures.write).0
