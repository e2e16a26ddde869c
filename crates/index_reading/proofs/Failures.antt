-- Failures that are handed on.
use Rattle.std.proofs.Common.{◌≡◌, ℕ, inl, inr, Err, refl}
use Rattle.owned_bytes.specs.Outside.{FileFailed}
use Rattle.owned_bytes.specs.declared.outside.HandleError.{HandleError}
use Rattle.owned_bytes.specs.declared.outside.HandleError.TheVariants as handle
use Rattle.sstable_index.specs.Errors as tables
use Rattle.sstable_index.specs.declared.errors.SstError.{SstError}
use Rattle.sstable_index.specs.declared.errors.SstError.TheVariants as sst
use Rattle.index_reading.specs.declared.errors.IndexError.{IndexError}
use Rattle.index_reading.specs.declared.errors.IndexError.TheVariants.{Memory, Read}
use Rattle.index_reading.specs.Errors.{error_of_handle, error_of_table, IsReadError, ReadFailed}

-- at another type
pub failed-as : {A B : Type 0} (e : IndexError) → ReadFailed {T = A} (Err e) → ReadFailed {T = B} (Err e)
failed-as Memory failed = absurd cc
failed-as Read failed = refl
failed-as e failed = cc

-- of the file itself
pub failed-by : {A B : Type 0} (h : HandleError) (e : IndexError) → e ≡ error_of_handle h → ReadFailed {T = B} (Err e) → FileFailed {T = A} (Err h)
failed-by handle.Memory e is failed = absurd cc
failed-by handle.Failed e is failed = refl

-- of a table in the file
pub failed-in : {A B : Type 0} (start : ℕ) (t : SstError) (e : IndexError) → e ≡ error_of_table start t → ReadFailed {T = B} (Err e) → tables.ReadFailed {T = A} (Err t)
failed-in start sst.Memory e is failed = absurd cc
failed-in start sst.Read e is failed = refl
failed-in start sst.Corrupt e is failed = absurd cc
failed-in start (sst.Compressed place) e is failed = absurd cc
failed-in start (sst.Version version) e is failed = absurd cc

pub unread-by : (h : HandleError) (e : IndexError) → e ≡ error_of_handle h → IsReadError e
unread-by handle.Memory e is = inl is
unread-by handle.Failed e is = inr is
