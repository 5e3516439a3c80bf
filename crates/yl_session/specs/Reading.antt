-- Bridge: how far the rows of a text were recorded.
use Rattle.std.specs.Prelude.{◌≡◌, ◌+◌, ℕ, true, false, List, length, take, drop}
use Rattle.yl_text.specs.Lines.{RowValue}
use Rattle.yl_record.specs.Records.{RecordValue, characters_in}
use Rattle.yl_record.specs.Recorded.{RecorderValue, recorded}
use Rattle.yl_lint.specs.TextReport.{records_of}

-- the rows above row i were read: the records `moved` are the first ones of the text, and the
-- recorder, which has read the rows after these, makes the others
pub record IsReadTo (rows : List RowValue) (i : ℕ) (moved : List RecordValue) (r : RecorderValue) : Type 0 where
  pub front : moved ≡ take (length moved) (records_of rows)
  pub told : recorded r (characters_in (drop i rows)) ≡ drop (length moved) (records_of rows)
  pub fed : length moved + length r.records ≡ i
  pub none : r.taken ≡ 0
  pub states : r.states ≡ true
  pub whole : r.refused ≡ false
