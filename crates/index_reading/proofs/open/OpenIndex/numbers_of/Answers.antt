use Rattle.std.proofs.Common.{arith, ◌-◌, refl}
use Rattle.std.proofs.lemmas.Bool.{false≢true}
use Rattle.index_reading.proofs.Failures.{failed-by}
use Rattle.index_reading.proofs.Places.{bytes-split}
use Rattle.index_reading.proofs.PartsRead.{gives-none, gives-places, gives-unread, part-room, reads-numbers, reads-no_numbers, no-read}
use Rattle.index_reading.proofs.open.OpenIndex.numbers_of.Goals as goal

pub returns-then-not-are_places-clause-given : goal.returns-then-not-are_places-clause-given
returns-then-not-are_places-clause-given g c =
    gives-none (g.H.FileHandle.state c.args.handle.now).contents c.args.self.now c.args.start c.args.end (λ places. absurd (false≢true (c.if-not-are_places.ensures.1 places)))

pub returns-then-not-are_places-clause-reads : goal.returns-then-not-are_places-clause-reads
returns-then-not-are_places-clause-reads g c =
    reads-no_numbers c.args.self.now (c.args.end - c.args.start) (g.H.FileHandle.state c.args.handle.now) _ (λ e. cc)

pub packed_part-range-requires : goal.packed_part-range-requires
packed_part-range-requires g c =
    part-room c.args.self.now c.args.start c.args.end c.packed_width-width.result c.file_len.result (c.if-not-are_places.ensures.0 refl) c.packed_width-width.ensures.width (omega (arith, c.requires.packed, c.file_len.ensures))

pub read_part-requires-clause-within : goal.read_part-requires-clause-within
read_part-requires-clause-within g c =
    let room = part-room c.args.self.now c.args.start c.args.end c.packed_width-width.result (g.H.FileHandle.state c.args.handle.now).size (c.if-not-are_places.ensures.0 refl) c.packed_width-width.ensures.width c.requires.packed in
    omega (arith, room, c.packed_part-range.ensures.end, bytes-split c.args.start (c.args.end - c.args.start) c.packed_width-width.result)

pub returns-in-Err-clause-given : goal.returns-in-Err-clause-given
returns-in-Err-clause-given g c =
    gives-unread (g.H.FileHandle.state c.args.handle.now).contents c.args.self.now c.args.start c.args.end c.in-Err.e _ c.from.ensures

pub returns-in-Err-clause-reads : goal.returns-in-Err-clause-reads
returns-in-Err-clause-reads g c =
    reads-numbers c.args.self.now c.args.start c.args.end c.packed_width-width.result c.packed_part-range.result.start c.packed_part-range.result.end (g.H.FileHandle.state c.args.handle.now) (g.H.FileHandle.state c.read_part.new.handle) _ _ (failed-by c.in-Err.e _ c.from.ensures)
    (c.if-not-are_places.ensures.0 refl) c.packed_width-width.ensures.width c.packed_width-width.ensures.few c.packed_part-range.ensures.start c.packed_part-range.ensures.end c.in-Err.ensures.reads

pub returns-clause-reads : goal.returns-clause-reads
returns-clause-reads g c =
    reads-numbers c.args.self.now c.args.start c.args.end c.packed_width-width.result c.packed_part-range.result.start c.packed_part-range.result.end (g.H.FileHandle.state c.args.handle.now) (g.H.FileHandle.state c.read_part.new.handle) _ _ (λ failed. absurd (no-read c.args.self.now.documents _ c.numbers_in.result c.numbers_in.ensures failed))
    (c.if-not-are_places.ensures.0 refl) c.packed_width-width.ensures.width c.packed_width-width.ensures.few c.packed_part-range.ensures.start c.packed_part-range.ensures.end c.in-Ok.ensures.reads

pub returns-clause-given : goal.returns-clause-given
returns-clause-given g c =
    gives-places (g.H.FileHandle.state c.args.handle.now).contents c.args.self.now c.args.start c.args.end (c.args.end - c.args.start) c.packed_width-width.result c.packed_part-range.result.start c.packed_part-range.result.end
    c.in-Ok.part c.as_slice.result.now c.numbers_in.result (c.if-not-are_places.ensures.0 refl) c.packed_width-width.ensures.width refl
    c.packed_part-range.ensures.start c.packed_part-range.ensures.end c.in-Ok.ensures.part.bytes c.as_slice.ensures c.numbers_in.ensures
