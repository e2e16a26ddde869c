use Rattle.std.proofs.Common.{length, refl, ap, arith}
use Rattle.std.proofs.lemmas.List.{drop_all}
use Rattle.sstable_blocks.proofs.entry_reader.EntryReader.over.Goals as goal

pub returns : goal.returns
returns g c =
    let s = c.args.block_reader in
    record {
      fresh = record {
        no_entry = refl;
        no_value = c.new.ensures;
        none_given = refl;
        no_delta = drop_all s.offset s.block (omega (arith, ap length c.requires.none));
        bytes = refl;
        start = refl;
      };
      slices = refl;
      first = refl;
      no_answer = refl;
    }
