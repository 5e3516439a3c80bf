-- Meaning: the option table: the options of each rule, and the values that each option takes. The
-- default values are in `Standard.antt`.
use Rattle.std.specs.Prelude.{ℕ, if◌then◌else◌, List, Option, codes, bytes_eq, is_some, unwrap_or}
use Rattle.yl_text.specs.declared.finding.RuleId.{RuleId}
use Rattle.yl_text.specs.declared.finding.RuleId.TheVariants.{Anchors, Braces, Brackets, Colons, Commas, Comments, DocumentStart, EmptyLines, Hyphens, Indentation, KeyDuplicates, LineLength, NewLines, QuotedStrings, Truthy}
use Rattle.yl_rules.specs.declared.options.RowOptions.{RowOptions}
use Rattle.yl_rules.specs.declared.options.RunOptions.{RunOptions}
use Rattle.yl_rules.specs.declared.comments.CommentsOptions.{CommentsOptions}
use Rattle.yl_lexeme_rules.specs.declared.brackets.BracketsOptions.{BracketsOptions}
use Rattle.yl_lexeme_rules.specs.declared.colons.ColonsOptions.{ColonsOptions}
use Rattle.yl_lexeme_rules.specs.declared.commas.CommasOptions.{CommasOptions}
use Rattle.yl_lexeme_rules.specs.declared.hyphens.HyphensOptions.{HyphensOptions}
use Rattle.yl_lexeme_rules.specs.declared.document_start.DocumentStartOptions.{DocumentStartOptions}
use Rattle.yl_lexeme_rules.specs.declared.truthy.TruthyOptions.{TruthyOptions}
use Rattle.yl_lexeme_rules.specs.declared.quoted_strings.QuotedStringsOptions.{QuotedStringsOptions}
use Rattle.yl_indentation.specs.declared.options.IndentationOptions.{IndentationOptions}
use Rattle.yl_tree.specs.declared.options.AnchorsOptions.{AnchorsOptions}
use Rattle.yl_tree.specs.declared.options.KeyDuplicatesOptions.{KeyDuplicatesOptions}
use Rattle.yl_settings.specs.declared.options.RuleOptions.{RuleOptions}
use Rattle.yl_settings.specs.declared.table.Answer.{Answer}
use Rattle.yl_settings.specs.declared.table.Answer.TheVariants.{UnknownName, WrongValue, Taken}
use Rattle.yl_settings.specs.Nodes.{ItemValue}
use Rattle.yl_settings.specs.Values.{flag_in, number_in, limit_in, forbid_in, spaces_in, sequences_in, no_in, new_line_in, quote_type_in, truthy_in}

-- the result of setting an option, and the change of its rule's options
pub record Setting (O : Type 0) : Type 0 where
  pub answer : Answer
  pub change : O → O

abbrev pub unknown : {O : Type 0} → Setting O
unknown = record { answer = UnknownName; change = λ o. o }

-- the option takes this value, if there is one
abbrev pub setting_of : {A O : Type 0} → Option A → (Option A → O → O) → Setting O
setting_of value set = record { answer = if is_some value then Taken else WrongValue; change = set value }

abbrev pub anchors_option : List ℕ → ItemValue → Setting AnchorsOptions
anchors_option name item =
    if bytes_eq name (codes "forbid-undeclared-aliases") then setting_of (flag_in item.kind) (λ v o. record o { forbid_undeclared_aliases = unwrap_or v o.forbid_undeclared_aliases })
    else if bytes_eq name (codes "forbid-duplicated-anchors") then setting_of (flag_in item.kind) (λ v o. record o { forbid_duplicated_anchors = unwrap_or v o.forbid_duplicated_anchors })
    else if bytes_eq name (codes "forbid-unused-anchors") then setting_of (flag_in item.kind) (λ v o. record o { forbid_unused_anchors = unwrap_or v o.forbid_unused_anchors })
    else unknown

-- the options of both braces and brackets
abbrev pub brackets_option : List ℕ → ItemValue → Setting BracketsOptions
brackets_option name item =
    if bytes_eq name (codes "forbid") then setting_of (forbid_in item.kind) (λ v o. record o { forbid = unwrap_or v o.forbid })
    else if bytes_eq name (codes "min-spaces-inside") then setting_of (limit_in item.kind) (λ v o. record o { min_spaces_inside = unwrap_or v o.min_spaces_inside })
    else if bytes_eq name (codes "max-spaces-inside") then setting_of (limit_in item.kind) (λ v o. record o { max_spaces_inside = unwrap_or v o.max_spaces_inside })
    else if bytes_eq name (codes "min-spaces-inside-empty") then setting_of (limit_in item.kind) (λ v o. record o { min_spaces_inside_empty = unwrap_or v o.min_spaces_inside_empty })
    else if bytes_eq name (codes "max-spaces-inside-empty") then setting_of (limit_in item.kind) (λ v o. record o { max_spaces_inside_empty = unwrap_or v o.max_spaces_inside_empty })
    else unknown

abbrev pub colons_option : List ℕ → ItemValue → Setting ColonsOptions
colons_option name item =
    if bytes_eq name (codes "max-spaces-before") then setting_of (limit_in item.kind) (λ v o. record o { max_spaces_before = unwrap_or v o.max_spaces_before })
    else if bytes_eq name (codes "max-spaces-after") then setting_of (limit_in item.kind) (λ v o. record o { max_spaces_after = unwrap_or v o.max_spaces_after })
    else unknown

abbrev pub commas_option : List ℕ → ItemValue → Setting CommasOptions
commas_option name item =
    if bytes_eq name (codes "max-spaces-before") then setting_of (limit_in item.kind) (λ v o. record o { max_spaces_before = unwrap_or v o.max_spaces_before })
    else if bytes_eq name (codes "min-spaces-after") then setting_of (limit_in item.kind) (λ v o. record o { min_spaces_after = unwrap_or v o.min_spaces_after })
    else if bytes_eq name (codes "max-spaces-after") then setting_of (limit_in item.kind) (λ v o. record o { max_spaces_after = unwrap_or v o.max_spaces_after })
    else unknown

abbrev pub comments_option : List ℕ → ItemValue → Setting CommentsOptions
comments_option name item =
    if bytes_eq name (codes "require-starting-space") then setting_of (flag_in item.kind) (λ v o. record o { require_starting_space = unwrap_or v o.require_starting_space })
    else if bytes_eq name (codes "ignore-shebangs") then setting_of (flag_in item.kind) (λ v o. record o { ignore_shebangs = unwrap_or v o.ignore_shebangs })
    else if bytes_eq name (codes "min-spaces-from-content") then setting_of (limit_in item.kind) (λ v o. record o { min_spaces_from_content = unwrap_or v o.min_spaces_from_content })
    else unknown

abbrev pub document_start_option : List ℕ → ItemValue → Setting DocumentStartOptions
document_start_option name item =
    if bytes_eq name (codes "present") then setting_of (flag_in item.kind) (λ v o. record o { present = unwrap_or v o.present })
    else unknown

abbrev pub empty_lines_option : List ℕ → ItemValue → Setting RunOptions
empty_lines_option name item =
    if bytes_eq name (codes "max") then setting_of (number_in 0 item.kind) (λ v o. record o { empty_lines = record o.empty_lines { max = unwrap_or v o.empty_lines.max } })
    else if bytes_eq name (codes "max-start") then setting_of (number_in 0 item.kind) (λ v o. record o { empty_lines = record o.empty_lines { max_start = unwrap_or v o.empty_lines.max_start } })
    else if bytes_eq name (codes "max-end") then setting_of (number_in 0 item.kind) (λ v o. record o { empty_lines = record o.empty_lines { max_end = unwrap_or v o.empty_lines.max_end } })
    else unknown

abbrev pub hyphens_option : List ℕ → ItemValue → Setting HyphensOptions
hyphens_option name item =
    if bytes_eq name (codes "max-spaces-after") then setting_of (limit_in item.kind) (λ v o. record o { max_spaces_after = unwrap_or v o.max_spaces_after })
    else unknown

abbrev pub indentation_option : List ℕ → ItemValue → Setting IndentationOptions
indentation_option name item =
    if bytes_eq name (codes "spaces") then setting_of (spaces_in item.kind) (λ v o. record o { spaces = unwrap_or v o.spaces })
    else if bytes_eq name (codes "indent-sequences") then setting_of (sequences_in item.kind) (λ v o. record o { indent_sequences = unwrap_or v o.indent_sequences })
    else if bytes_eq name (codes "check-multi-line-strings") then setting_of (no_in item.kind) (λ v o. o)
    else unknown

abbrev pub key_duplicates_option : List ℕ → ItemValue → Setting KeyDuplicatesOptions
key_duplicates_option name item =
    if bytes_eq name (codes "forbid-duplicated-merge-keys") then setting_of (flag_in item.kind) (λ v o. record o { forbid_duplicated_merge_keys = unwrap_or v o.forbid_duplicated_merge_keys })
    else unknown

abbrev pub line_length_option : List ℕ → ItemValue → Setting RowOptions
line_length_option name item =
    if bytes_eq name (codes "max") then setting_of (number_in 0 item.kind) (λ v o. record o { max = unwrap_or v o.max })
    else if bytes_eq name (codes "allow-non-breakable-words") then setting_of (flag_in item.kind) (λ v o. record o { allow_non_breakable_words = unwrap_or v o.allow_non_breakable_words })
    else unknown

abbrev pub new_lines_option : List ℕ → ItemValue → Setting RunOptions
new_lines_option name item =
    if bytes_eq name (codes "type") then setting_of (new_line_in item.kind) (λ v o. record o { new_line = unwrap_or v o.new_line })
    else unknown

abbrev pub quoted_strings_option : List ℕ → ItemValue → Setting QuotedStringsOptions
quoted_strings_option name item =
    if bytes_eq name (codes "quote-type") then setting_of (quote_type_in item.kind) (λ v o. record o { quote_type = unwrap_or v o.quote_type })
    else if bytes_eq name (codes "required") then setting_of (flag_in item.kind) (λ v o. record o { required = unwrap_or v o.required })
    else unknown

abbrev pub truthy_option : List ℕ → ItemValue → Setting TruthyOptions
truthy_option name item =
    if bytes_eq name (codes "allowed-values") then setting_of (truthy_in item) (λ v o. record o { allowed_values = unwrap_or v o.allowed_values })
    else if bytes_eq name (codes "check-keys") then setting_of (flag_in item.kind) (λ v o. record o { check_keys = unwrap_or v o.check_keys })
    else unknown

-- a setting of the options of one rule, as a setting of all options
abbrev pub setting_in : {O : Type 0} → ((O → O) → RuleOptions → RuleOptions) → Setting O → Setting RuleOptions
setting_in on s = record { answer = s.answer; change = on s.change }

unfoldable pub option_of : RuleId → List ℕ → ItemValue → Setting RuleOptions
option_of Anchors name item = setting_in (λ f o. record o { anchors = f o.anchors }) (anchors_option name item)
option_of Braces name item = setting_in (λ f o. record o { braces = f o.braces }) (brackets_option name item)
option_of Brackets name item = setting_in (λ f o. record o { brackets = f o.brackets }) (brackets_option name item)
option_of Colons name item = setting_in (λ f o. record o { colons = f o.colons }) (colons_option name item)
option_of Commas name item = setting_in (λ f o. record o { commas = f o.commas }) (commas_option name item)
option_of Comments name item = setting_in (λ f o. record o { comments = f o.comments }) (comments_option name item)
option_of DocumentStart name item = setting_in (λ f o. record o { document_start = f o.document_start }) (document_start_option name item)
option_of EmptyLines name item = setting_in (λ f o. record o { run = f o.run }) (empty_lines_option name item)
option_of Hyphens name item = setting_in (λ f o. record o { hyphens = f o.hyphens }) (hyphens_option name item)
option_of Indentation name item = setting_in (λ f o. record o { indentation = f o.indentation }) (indentation_option name item)
option_of KeyDuplicates name item = setting_in (λ f o. record o { key_duplicates = f o.key_duplicates }) (key_duplicates_option name item)
option_of LineLength name item = setting_in (λ f o. record o { row = f o.row }) (line_length_option name item)
option_of NewLines name item = setting_in (λ f o. record o { run = f o.run }) (new_lines_option name item)
option_of QuotedStrings name item = setting_in (λ f o. record o { quoted_strings = f o.quoted_strings }) (quoted_strings_option name item)
option_of Truthy name item = setting_in (λ f o. record o { truthy = f o.truthy }) (truthy_option name item)
option_of _ name item = unknown

-- these options, with the options of one rule taken from others
abbrev pub with_options_of : RuleId → RuleOptions → RuleOptions → RuleOptions
with_options_of Anchors from o = record o { anchors = from.anchors }
with_options_of Braces from o = record o { braces = from.braces }
with_options_of Brackets from o = record o { brackets = from.brackets }
with_options_of Colons from o = record o { colons = from.colons }
with_options_of Commas from o = record o { commas = from.commas }
with_options_of Comments from o = record o { comments = from.comments }
with_options_of DocumentStart from o = record o { document_start = from.document_start }
with_options_of EmptyLines from o = record o { run = record o.run { empty_lines = from.run.empty_lines } }
with_options_of Hyphens from o = record o { hyphens = from.hyphens }
with_options_of Indentation from o = record o { indentation = from.indentation }
with_options_of KeyDuplicates from o = record o { key_duplicates = from.key_duplicates }
with_options_of LineLength from o = record o { row = from.row }
with_options_of NewLines from o = record o { run = record o.run { new_line = from.run.new_line } }
with_options_of QuotedStrings from o = record o { quoted_strings = from.quoted_strings }
with_options_of Truthy from o = record o { truthy = from.truthy }
with_options_of _ from o = o
