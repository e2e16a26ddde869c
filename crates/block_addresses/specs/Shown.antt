-- Lines as code holds them.
use Rattle.block_addresses.specs.declared.line.Line.{Line}
use Rattle.block_addresses.specs.Lines as lines

abbrev pub shown_line : Line → lines.Line
shown_line line = record { slope = line.slope; bits = line.bits }
