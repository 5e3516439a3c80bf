-- Meaning: the options of yamllint's default configuration.
use Rattle.std.specs.Prelude.{false, true, Some, None, replicate, slice_set}
use Rattle.yl_lexeme_rules.specs.declared.brackets.BracketsOptions.{BracketsOptions}
use Rattle.yl_lexeme_rules.specs.declared.brackets.Forbid.TheVariants.{Nothing}
use Rattle.yl_lexeme_rules.specs.declared.truthy.TruthyWords.{TruthyWords}
use Rattle.yl_lexeme_rules.specs.declared.truthy.TruthyOptions.{TruthyOptions}
use Rattle.yl_lexeme_rules.specs.declared.options.LexemeOptions.{LexemeOptions}

-- no spaces inside brackets, empty or not
abbrev pub standard_brackets : BracketsOptions
standard_brackets = record {
  forbid = Nothing;
  min_spaces_inside = Some 0;
  max_spaces_inside = Some 0;
  min_spaces_inside_empty = None;
  max_spaces_inside_empty = None;
}

-- `false` and `true`, which have these indices among the truthy words
abbrev pub standard_words : TruthyWords
standard_words = record { allowed = slice_set (slice_set (replicate 18 false) 12 true) 16 true }

abbrev pub standard_truthy : TruthyOptions
standard_truthy = record { allowed_values = standard_words; check_keys = true }

abbrev pub standard_options : LexemeOptions
standard_options = record {
  braces = Some standard_brackets;
  brackets = Some standard_brackets;
  colons = Some (record { max_spaces_before = Some 0; max_spaces_after = Some 1 });
  commas = Some (record {
    max_spaces_before = Some 0;
    min_spaces_after = Some 1;
    max_spaces_after = Some 1;
  });
  hyphens = Some (record { max_spaces_after = Some 1 });
  document_start = Some (record { present = true });
  truthy = Some standard_truthy;
  quoted_strings = None;
}
