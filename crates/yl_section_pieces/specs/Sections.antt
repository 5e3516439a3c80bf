-- Bridge: the pieces of all sections of a text in one list, and laws of it: which pieces are those of which sections. A section begins with a
-- piece that has no state before it.
use Rattle.std.specs.Prelude.{ℕ, ◌≡◌, ◌<◌, ◌≤◌, ◌+◌, ◌⊎◌, ◌↔◌, ◌++◌, ◌∷◌, [], List, length, map, take, drop, Some, None, IsSome, option_map, slice_get}
use Rattle.std.specs.List.{AllByRecursion, AllZip, flat_map, splice}
use Rattle.yl_config.specs.declared.config.Config.{Config}
use Rattle.yl_record.specs.Records.{RecordValue}
use Rattle.yl_sections.specs.Judge.{kept_of_section}
use Rattle.yl_sections.specs.Kept.{KeptValue, rows_kept}
use Rattle.yl_sections.specs.Local.{row_total}
use Rattle.yl_pieces.specs.State.{DocumentState}
use Rattle.yl_piece_reports.specs.Cuts.{AreCutsOf}
use Rattle.yl_section_pieces.specs.Pieces.{IsKeptSection, IsStateAfter, PieceValue, summaries, whole_piece}
use Rattle.yl_section_pieces.specs.Edit.{IsPieceAt}

-- ---- in one list

-- these pieces, one section after another, are those of the sections of these rows
pub record AreKeptSections (config : Config) (ss : List (List RecordValue)) (ps : List PieceValue) : Type 0 where
  pub cuts : List (List PieceValue)
  pub each : AllZip (IsKeptSection config) ss cuts
  pub all : ps ≡ flat_map (λ c. c) cuts

pub record SectionsAreListed : Type 0 where
  pub none : (config : Config) → AreKeptSections config [] []
  pub one : (config : Config) (rs : List RecordValue) (ps : List PieceValue) → IsKeptSection config rs ps → AreKeptSections config (rs ∷ []) ps
  -- of sections one after another, each has its own pieces
  pub joined : (config : Config) (ss ts : List (List RecordValue)) (ps qs : List PieceValue)
      → AreKeptSections config ss ps → AreKeptSections config ts qs → AreKeptSections config (ss ++ ts) (ps ++ qs)
  -- other sections, with their pieces, in place of some
  pub spliced : (config : Config) (ss ns : List (List RecordValue)) (ps nps : List PieceValue) (p q f e : ℕ)
      → AreKeptSections config (take p ss) (take f ps) → AreKeptSections config ns nps → AreKeptSections config (drop q ss) (drop e ps)
      → AreKeptSections config (splice ss p q ns) (splice ps f e nps)
  -- each section as one piece
  pub whole : (config : Config) (ss : List (List RecordValue)) → AreKeptSections config ss (map (whole_piece config) ss)
  -- their summaries are cut from those of the sections, and have as many rows
  pub cuts : (config : Config) (ss : List (List RecordValue)) (ps : List PieceValue)
      → AreKeptSections config ss ps → AreCutsOf (map (kept_of_section config) ss) (summaries ps)
  pub rows : (config : Config) (ss : List (List RecordValue)) (ps : List PieceValue)
      → AreKeptSections config ss ps → rows_kept (summaries ps) ≡ row_total ss

-- ---- where sections begin

-- of the pieces of a section the first has no state before it, and each other one has
abbrev pub AreHeaded : List PieceValue → Type 0
AreHeaded [] = ⊥
AreHeaded (p ∷ ps) = (p.before ≡ None) × AllByRecursion (λ q. IsSome q.before) ps

-- a section begins with the piece of this index, or it is the number of pieces
abbrev pub IsSectionBorder : List PieceValue → ℕ → Type 0
IsSectionBorder ps f = (f ≡ length ps) ⊎ (option_map (λ p. p.before) (slice_get ps f) ≡ Some None)

-- the first `f` pieces are those of so many of the first sections, the others those of the others
pub record ArePartedAt (config : Config) (ss : List (List RecordValue)) (ps : List PieceValue) (f : ℕ) : Type 0 where
  pub sections : ℕ
  pub above : AreKeptSections config (take sections ss) (take f ps)
  pub below : AreKeptSections config (drop sections ss) (drop f ps)
  pub within : sections ≤ length ss
  pub last : (sections ≡ length ss) ↔ (f ≡ length ps)
  pub rows : rows_kept (summaries (take f ps)) ≡ row_total (take sections ss)

-- ---- the section of a piece

-- where the piece x of index i stands: the index and the rows of its section, the index of the section's first piece, and its pieces above and
-- below x
pub record IsInSection (config : Config) (ss : List (List RecordValue)) (ps : List PieceValue) (i : ℕ) (x : PieceValue) : Type 0 where
  pub section : ℕ
  pub rows : List RecordValue
  pub start : ℕ
  pub above : List PieceValue
  pub below : List PieceValue
  pub there : slice_get ss section ≡ Some rows
  pub kept : IsKeptSection config rows (above ++ (x ∷ below))
  pub place : start + length above ≡ i
  pub all : ps ≡ take start ps ++ ((above ++ (x ∷ below)) ++ drop (i + 1 + length below) ps)
  pub sections_above : AreKeptSections config (take section ss) (take start ps)
  pub sections_below : AreKeptSections config (drop (section + 1) ss) (drop (i + 1 + length below) ps)
  pub rows_above : rows_kept (summaries (take start ps)) ≡ row_total (take section ss)
  pub rows_before : rows_kept (summaries (take i ps)) ≡ row_total (take section ss) + rows_kept (summaries above)

-- the piece x of index i is a whole section
pub record IsWholeSection (config : Config) (ss : List (List RecordValue)) (ps : List PieceValue) (i : ℕ) (x : PieceValue) : Type 0 where
  pub section : ℕ
  pub rows : List RecordValue
  pub there : slice_get ss section ≡ Some rows
  pub whole : x ≡ whole_piece config rows
  pub sections_above : AreKeptSections config (take section ss) (take i ps)
  pub sections_below : AreKeptSections config (drop (section + 1) ss) (drop (i + 1) ps)
  pub rows_above : rows_kept (summaries (take i ps)) ≡ row_total (take section ss)

-- of a section's rows, those above a piece that has the state s before it, its own, and those below it. Other pieces stand above it
pub record StandsAfter
    (config : Config) (rs : List RecordValue) (above : List PieceValue) (k : KeptValue) (s : DocumentState) (below : List PieceValue) : Type 0 where
  pub front : List RecordValue
  pub own : List RecordValue
  pub rest : List RecordValue
  pub all : rs ≡ front ++ (own ++ rest)
  pub more : 0 < length above
  pub place : IsPieceAt config front own rest above (record { kept = k; before = Some s }) below
  pub state : IsStateAfter front s

pub record SectionsAreFound : Type 0 where
  pub heads : (config : Config) (rs : List RecordValue) (ps : List PieceValue) → IsKeptSection config rs ps → AreHeaded ps
  pub parted : (config : Config) (ss : List (List RecordValue)) (ps : List PieceValue) (f : ℕ)
      → AreKeptSections config ss ps → IsSectionBorder ps f → ArePartedAt config ss ps f
  pub inside : (config : Config) (ss : List (List RecordValue)) (ps : List PieceValue) (i : ℕ) (x : PieceValue)
      → AreKeptSections config ss ps → slice_get ps i ≡ Some x → IsInSection config ss ps i x
  -- the first piece of a section has no state before it, and after the last one comes another section or nothing
  pub first : (config : Config) (ss : List (List RecordValue)) (ps : List PieceValue) (i : ℕ) (x : PieceValue) (h : IsInSection config ss ps i x)
      → x.before ≡ None → h.above ≡ []
  pub last : (config : Config) (ss : List (List RecordValue)) (ps : List PieceValue) (i : ℕ) (x : PieceValue) (h : IsInSection config ss ps i x)
      → i < length ps → IsSectionBorder ps (i + 1) → h.below ≡ []
  -- so a piece that is both is a whole section
  pub whole : (config : Config) (ss : List (List RecordValue)) (ps : List PieceValue) (i : ℕ) (x : PieceValue)
      → AreKeptSections config ss ps → slice_get ps i ≡ Some x → x.before ≡ None → IsSectionBorder ps (i + 1) → IsWholeSection config ss ps i x
  -- a piece that has a state before it stands after it in its section
  pub after : (config : Config) (rs : List RecordValue) (above : List PieceValue) (k : KeptValue) (s : DocumentState) (below : List PieceValue)
      → IsKeptSection config rs (above ++ (record { kept = k; before = Some s } ∷ below)) → StandsAfter config rs above k s below
  -- a piece y in place of the piece x, where the section has the rows rs then
  pub replaced : (config : Config) (ss : List (List RecordValue)) (ps : List PieceValue) (i : ℕ) (x : PieceValue) (h : IsInSection config ss ps i x)
      (rs : List RecordValue) (y : PieceValue)
      → slice_get ps i ≡ Some x → IsKeptSection config rs (h.above ++ (y ∷ h.below))
      → AreKeptSections config (splice ss h.section (h.section + 1) (rs ∷ [])) (splice ps i (i + 1) (y ∷ []))
