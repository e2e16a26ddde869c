-- Reads of a file, one after the other.
use Rattle.std.proofs.Common.{ℕ, ◌+◌, ◌≤◌, refl, ◌∙◌, arith}
use Rattle.owned_bytes.specs.Outside.{FileState, LeavesFile, ReadsFile}
use Rattle.owned_bytes.proofs.InTurn.{HasCause-second}

-- no read at all
pub leaves-none : (file : FileState) (P : Type 0) → (P → ⊥) → LeavesFile file file P
leaves-none file P never = record {
  contents = refl;
  size = refl;
  cause = record { later = omega arith; rose = λ failed. absurd (never failed) };
  reads = omega arith;
  fetched = omega arith;
}

-- the failure of the whole comes only with that of the call
pub leaves-as : (before now : FileState) (P Q : Type 0) → (Q → P) → LeavesFile before now P → LeavesFile before now Q
leaves-as before now P Q as_failed leaves = record {
  contents = leaves.contents;
  size = leaves.size;
  cause = record { later = leaves.cause.later; rose = λ failed. leaves.cause.rose (as_failed failed) };
  reads = leaves.reads;
  fetched = leaves.fetched;
}

-- a call that did not fail, and then another
pub leaves-then : (before middle now : FileState) (P Q : Type 0) → LeavesFile before middle P → LeavesFile middle now Q → LeavesFile before now Q
leaves-then before middle now P Q first second = record {
  contents = second.contents ∙ first.contents;
  size = second.size ∙ first.size;
  cause = HasCause-second before.faults middle.faults now.faults P Q first.cause second.cause;
  reads = omega (arith, first.reads, second.reads);
  fetched = omega (arith, first.fetched, second.fetched);
}

-- no read at all
pub reads-none : (file : FileState) (P : Type 0) (m n : ℕ) → (P → ⊥) → ReadsFile file file P m n
reads-none file P m n never = record { leaves = leaves-none file P never; reads = omega arith; fetched = omega arith }

-- the failure of the whole comes only with that of the call
pub reads-as : (before now : FileState) (P Q : Type 0) (m n : ℕ) → (Q → P) → ReadsFile before now P m n → ReadsFile before now Q m n
reads-as before now P Q m n as_failed reads =
    record { leaves = leaves-as before now P Q as_failed reads.leaves; reads = reads.reads; fetched = reads.fetched }

-- wider bounds
pub reads-within : (before now : FileState) (P : Type 0) (m n more_reads more_bytes : ℕ) → ReadsFile before now P m n → m ≤ more_reads → n ≤ more_bytes → ReadsFile before now P more_reads more_bytes
reads-within before now P m n more_reads more_bytes reads wide_reads wide_bytes = record {
  leaves = reads.leaves;
  reads = omega (arith, reads.reads, wide_reads);
  fetched = omega (arith, reads.fetched, wide_bytes);
}

-- a read that did not fail, and then another
pub reads-then : (before middle now : FileState) (P Q : Type 0) (m n k l : ℕ) → ReadsFile before middle P m n → ReadsFile middle now Q k l → ReadsFile before now Q (m + k) (n + l)
reads-then before middle now P Q m n k l first second = record {
  leaves = leaves-then before middle now P Q first.leaves second.leaves;
  reads = omega (arith, first.reads, second.reads);
  fetched = omega (arith, first.fetched, second.fetched);
}
