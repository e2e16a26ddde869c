-- What the end of a table tells.
use Rattle.std.specs.Prelude.{◌≡◌, ℕ, ◌+◌, ◌-◌, ◌<◌, ◌≤◌, min, List, length, take, drop, true, Some}
use Rattle.sstable_format.specs.declared.footer.Footer.{Footer}
use Rattle.sstable_format.specs.Footer.{footer_at, footer_len}
use Rattle.sstable_format.specs.Index.{at_end}
use Rattle.sstable_format.specs.Version.{version_of, is_known}

-- the last 20 bytes of a table, or all of a shorter one, which has its version still
pub record IsEnding (table ending : List ℕ) : Type 0 where
  pub room : 4 ≤ length table
  pub len : length ending ≡ min (length table) footer_len
  pub last : drop (length table - length ending) table ≡ ending

-- the table ends with this footer, of a known version, and its index part begins before it
pub record HasFooter (table : List ℕ) (footer : Footer) : Type 0 where
  pub read : at_end footer_len footer_at table ≡ Some (footer, take (length table - footer_len) table)
  pub told : version_of table ≡ Some footer.version
  pub known : is_known footer.version ≡ true
  pub fits : footer.index_offset + footer_len ≤ length table
