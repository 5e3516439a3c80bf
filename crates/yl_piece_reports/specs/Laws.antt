-- Bridge: laws of sections that are kept in pieces: they make the same report, and others may come in place of some.
use Rattle.std.specs.Prelude.{◌≡◌, List, ◌∷◌, ◌++◌}
use Rattle.yl_text.specs.Lines.{RowValue}
use Rattle.yl_config.specs.declared.config.Config.{Config}
use Rattle.yl_sections.specs.Kept.{KeptValue}
use Rattle.yl_lint.specs.TextReport.{report_by}
use Rattle.yl_piece_reports.specs.Cuts.{AreCutsOf, IsCutOf}

-- the report is the same
abbrev pub PiecesReport : Type 0
PiecesReport = (config : Config) (rows : List RowValue) (ks ps : List KeptValue) → AreCutsOf ks ps → report_by config rows ps ≡ report_by config rows ks

-- ---- cuts of some sections and of others

-- the cuts of sections that stand one after another
pub record AreParted (ks ls ps : List KeptValue) : Type 0 where
  pub front : List KeptValue
  pub back : List KeptValue
  pub here : AreCutsOf ks front
  pub there : AreCutsOf ls back
  pub all : ps ≡ front ++ back

pub record CutsAreLocal : Type 0 where
  -- of sections one after another, each has its own
  pub joined : (ks ls ps qs : List KeptValue) → AreCutsOf ks ps → AreCutsOf ls qs → AreCutsOf (ks ++ ls) (ps ++ qs)
  pub parted : (ks ls ps : List KeptValue) → AreCutsOf (ks ++ ls) ps → AreParted ks ls ps
  -- a section in place of another between these has its own cut there
  pub replaced : (above below before behind : List KeptValue) (k : KeptValue) (ps : List KeptValue)
      → AreCutsOf above before → IsCutOf k ps → AreCutsOf below behind → AreCutsOf (above ++ (k ∷ below)) (before ++ (ps ++ behind))
  -- pieces of pieces are pieces of the section
  pub further : (k : KeptValue) (ps qs : List KeptValue) → IsCutOf k ps → AreCutsOf ps qs → IsCutOf k qs
