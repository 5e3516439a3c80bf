-- Meaning: the options of yamllint's default configuration.
use Rattle.std.specs.Prelude.{true, false, Some}
use Rattle.yl_rules.specs.declared.new_lines.NewLine.TheVariants.{Unix}
use Rattle.yl_lexeme_rules.specs.declared.quoted_strings.QuoteType.TheVariants.{Any}
use Rattle.yl_lexeme_rules.specs.Standard.{standard_brackets, standard_truthy}
use Rattle.yl_indentation.specs.declared.options.Spaces.TheVariants.{Consistent}
use Rattle.yl_indentation.specs.declared.options.IndentSequences.TheVariants.{Indented}
use Rattle.yl_settings.specs.declared.options.RuleOptions.{RuleOptions}

unfoldable pub standard_rule_options : RuleOptions
standard_rule_options = record {
  anchors = record { forbid_undeclared_aliases = true; forbid_duplicated_anchors = false; forbid_unused_anchors = false };
  braces = standard_brackets;
  brackets = standard_brackets;
  colons = record { max_spaces_before = Some 0; max_spaces_after = Some 1 };
  commas = record { max_spaces_before = Some 0; min_spaces_after = Some 1; max_spaces_after = Some 1 };
  comments = record { require_starting_space = true; ignore_shebangs = true; min_spaces_from_content = Some 2 };
  document_start = record { present = true };
  hyphens = record { max_spaces_after = Some 1 };
  indentation = record { spaces = Consistent; indent_sequences = Indented };
  key_duplicates = record { forbid_duplicated_merge_keys = false };
  quoted_strings = record { quote_type = Any; required = true };
  row = record { max = 80; allow_non_breakable_words = true };
  run = record { new_line = Unix; empty_lines = record { max = 2; max_start = 0; max_end = 0 } };
  truthy = standard_truthy;
}
