-- Bridge: what scanning an edited text again makes of its records.
use Rattle.std.specs.Prelude.{◌≡◌, ◌≤◌, ◌<◌, ◌+◌, ◌⊎◌, ℕ, List, Option, IfSome, length, take, drop}
use Rattle.std.specs.List.{splice}
use Rattle.yl_text.specs.Store.{IsRange}
use Rattle.yl_record.specs.Records.{RecordValue}
use Rattle.yl_sections.specs.Alike.{GoOnAlike}
use Rattle.yl_sections.specs.Holding.{TakesNothing}
use Rattle.yl_rescan.specs.Held.{AreHeld}
use Rattle.yl_rescan.specs.Rescan.{IsRescan}

-- the lines from a on, before b, were replaced by k lines: the new records, which replace those
-- from row `from` on, before `old_end`, and end before row `end` of the new text, are at least
-- those of the edited lines and of the row above them, if there is one
pub record HoldsEdit (a b k from old_end end : ℕ) : Type 0 where
  pub above : (from < a) ⊎ (from ≡ 0)
  pub old_lines : b ≤ old_end
  pub new_lines : a + k ≤ end

-- these records, in place of the old ones from row `from` on, before `old_end`, make the records
-- that are held of the new text, as `rescan` promises
pub record WasRescanned (old : List RecordValue) (ps qs : List (List ℕ)) (cut : Option ℕ) (a b k from old_end end n : ℕ) (items : List RecordValue) : Type 0 where
  pub range : IsRange from old_end (length old)
  pub held : AreHeld qs cut (splice old from old_end items)
  pub before : take from old ≡ take from (splice old from old_end items)
  pub behind : drop old_end old ≡ drop end (splice old from old_end items)
  pub within : end ≤ length qs
  pub some : end ≡ from + length items
  pub alike : GoOnAlike old (splice old from old_end items) old_end end
  pub taken : TakesNothing old (splice old from old_end items) from
  pub below : IfSome cut (λ c. end ≤ c)
  pub holds : HoldsEdit a b k from old_end end
  pub work : IsRescan ps qs a b k from end n
