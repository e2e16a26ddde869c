use Rattle.std.proofs.Common.{ap, sym, ◌∙◌}
use Rattle.sstable_format.specs.Version.{version_of}
use Rattle.index_reading.proofs.Versions.{version-told, reads-known, reads-other}
use Rattle.index_reading.proofs.open.check_version.Goals as goal

pub returns-then-not-is_known-clause-told : goal.returns-then-not-is_known-clause-told
returns-then-not-is_known-clause-told g c =
    reads-other (Unit {0}) (g.H.FileHandle.state c.args.handle.now).contents c.version_of-version.result
    (version-told (g.H.FileHandle.state c.args.handle.now) c.file_len-size.result c.min.result c.version_of-version.result c.in-Ok.ending
    (g.met.H.FileHandle.contents_len c.args.handle.now) c.file_len-size.ensures c.requires c.min.ensures c.in-Ok.ensures.part (sym (ap version_of c.as_slice.ensures) ∙ c.version_of-version.ensures))
    (sym c.if-not-is_known.ensures)

pub returns-clause-told : goal.returns-clause-told
returns-clause-told g c =
    reads-known (g.H.FileHandle.state c.args.handle.now).contents c.version_of-version.result (tt {0})
    (version-told (g.H.FileHandle.state c.args.handle.now) c.file_len-size.result c.min.result c.version_of-version.result c.in-Ok.ending
    (g.met.H.FileHandle.contents_len c.args.handle.now) c.file_len-size.ensures c.requires c.min.ensures c.in-Ok.ensures.part (sym (ap version_of c.as_slice.ensures) ∙ c.version_of-version.ensures))
    (sym c.if-not-is_known.ensures)
