-- Meaning: where the documents of a text begin, by each two of its lexemes.
use Rattle.std.specs.Prelude.{◌≡◌, ℕ, List}
use Rattle.yl_row.specs.Entries.{entries}
use Rattle.yl_row.specs.Directives.{kinds_of}
use Rattle.yl_events.specs.Documents.{beginnings}
use Rattle.yl_events.specs.Cut.{beginnings_by_two}

-- each two lexemes of a text say whether a document begins between them
abbrev pub TextsCutByTwo : Type 0
TextsCutByTwo = (rows : List (List ℕ)) → beginnings_by_two (kinds_of (entries rows)) ≡ beginnings (kinds_of (entries rows))
