-- Meaning: what the facts of a text decide for the whole text (yamllint's rule indentation, the
-- options spaces and indent-sequences).
use Rattle.std.specs.Prelude.{ℕ, Bool, false, nat_lt, ◌==◌, if◌then◌else◌, List, [], ◌∷◌, ◌-◌, Option, Some, None, unwrap_or}
use Rattle.std.specs.Option.{option_or}
use Rattle.yl_indentation.specs.declared.fact.Expectation.{Expectation}
use Rattle.yl_indentation.specs.declared.fact.Expectation.TheVariants.{At, Beyond, EntryIn}
use Rattle.yl_indentation.specs.declared.fact.Fact.{Fact}
use Rattle.yl_indentation.specs.declared.measure.Measure.{Measure}

abbrev pub empty_measure : Measure
empty_measure = record { step = None; step_with_entries = None; flush = None }

-- each value is the earlier one, if there is one, and else the later one
abbrev pub and_later : Measure → Measure → Measure
and_later m n = record {
  step = option_or m.step n.step;
  step_with_entries = option_or m.step_with_entries n.step_with_entries;
  flush = option_or m.flush n.flush;
}

abbrev pub positive_step : ℕ → Option ℕ
positive_step n = if nat_lt 0 n then Some n else None

-- the measure of a lexeme in this column: how far it stands beyond its base, if it does
abbrev pub measure_at : ℕ → Expectation → Measure
measure_at column (At e) = empty_measure
measure_at column (Beyond base) =
    let step = positive_step (column - base) in record { step = step; step_with_entries = step; flush = None }
measure_at column (EntryIn base) =
    record { step = None; step_with_entries = positive_step (column - base); flush = Some (column == base) }

abbrev pub measure_of : List Fact → Measure
measure_of [] = empty_measure
measure_of (f ∷ fs) = and_later (measure_at f.column f.expectation) (measure_of fs)

-- there is an entry in a mapping, and the first one stands in the mapping's column
abbrev pub is_flush : Measure → Bool
is_flush m = unwrap_or m.flush false
