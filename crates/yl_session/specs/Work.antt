-- Meaning: how many rows of a text an edit may scan, and of how many documents it may derive the
-- events.
use Rattle.std.specs.Prelude.{ℕ, ◌+◌, ◌-◌, ◌≤◌, List}
use Rattle.yl_record.specs.Records.{records}
use Rattle.yl_sections.specs.Sections.{sections}
use Rattle.yl_rescan.specs.Rescan.{IsRestart, IsStop}
use Rattle.yl_sections.specs.Holding.{documents_holding}
use Rattle.yl_session.specs.declared.work.Work.{Work}

-- An edit of a text with these old rows, each given as its characters, puts k lines in place of the
-- lines from a on, before b. Then the number of rows that are scanned is at least k, and at most
-- that of the rows from r to m. Events are derived of at most as many documents as hold one of
-- these rows.
pub record IsWork (old new : List (List ℕ)) (a b k : ℕ) (work : Work) : Type 0 where
  pub r : ℕ
  pub m : ℕ
  pub restart : IsRestart new a r
  pub stop : IsStop old new (a + k) b m
  pub some : k ≤ work.scanned
  pub few : work.scanned ≤ m - r + 1
  pub documents : work.documents ≤ documents_holding 0 r m (sections (records new))
