-- Short texts, as lexemes, and what the rules find in them, computed.
use Rattle.std.specs.Prelude.{ℕ, Bool, ◌≡◌, refl, List, [], ◌∷◌, ◌++◌, ◌&&◌, codes, length, true, Some, is_some}
use Rattle.std.specs.List.{list_all}
use Rattle.std.specs.Ordering.{is_lt, nat_cmp}
use Rattle.std.specs.Cmp.Lexicographic.{slice_cmp}
use Rattle.yl_lexeme.specs.declared.lexeme.Style.TheVariants.{Plain, Double}
use Rattle.yl_lexeme.specs.declared.lexeme.Kind.{Kind}
use Rattle.yl_lexeme.specs.declared.lexeme.Kind.TheVariants.{Directive, DocStart, Entry, Key, Value, Comma, SeqOpen, SeqClose, MapOpen, MapClose, Alias, Tag, Scalar}
use Rattle.yl_lexeme.specs.Lexeme.{LexemeValue}
use Rattle.yl_text.specs.Finding.{FindingValue, one_finding}
use Rattle.yl_text.specs.declared.finding.RuleId.TheVariants.{Braces, Brackets, Colons, Commas, DocumentStart, Hyphens, QuotedStrings, Truthy}
use Rattle.yl_lexeme_rules.specs.declared.brackets.Forbid.TheVariants.{NonEmpty}
use Rattle.yl_lexeme_rules.specs.declared.options.LexemeOptions.{LexemeOptions}
use Rattle.yl_lexeme_rules.specs.declared.quoted_strings.QuoteType.TheVariants as quotes
use Rattle.yl_lexeme_rules.specs.Lexemes.{lexeme_findings}
use Rattle.yl_lexeme_rules.specs.Standard.{standard_brackets, standard_options}
use Rattle.yl_lexeme_rules.specs.Truthy.{core_words, truthy_index, truthy_words}

-- a lexeme in one line, from a column to before another
abbrev lexeme : Kind → ℕ → ℕ → ℕ → List ℕ → LexemeValue
lexeme kind line from behind value =
    record { kind = kind; start = record { line = line; col = from }; end = record { line = line; col = behind }; value = value }

abbrev all_of : LexemeOptions → List LexemeValue → List FindingValue
all_of o xs = lexeme_findings o (length xs) xs

abbrev spaced : LexemeOptions
spaced = record standard_options { braces = Some (record standard_brackets { min_spaces_inside = Some 1; max_spaces_inside = Some 1 }) }

abbrev without_sequences : LexemeOptions
without_sequences = record standard_options { brackets = Some (record standard_brackets { forbid = NonEmpty }) }

abbrev quoting : LexemeOptions
quoting = record standard_options { quoted_strings = Some (record { quote_type = quotes.Single; required = true }) }

abbrev wrong : ℕ → ℕ → List FindingValue
wrong line column = one_finding Truthy line column (codes "truthy value should be one of [false, true]")

abbrev unquoted : ℕ → ℕ → List FindingValue
unquoted line column = one_finding QuotedStrings line column (codes "string value is not quoted with single quotes")

-- '---\na: { }\n'
pub space_in_empty_braces : all_of standard_options (lexeme DocStart 0 0 3 (codes "") ∷ lexeme (Scalar Plain) 1 0 1 (codes "a") ∷ lexeme Value 1 1 2 (codes "") ∷ lexeme MapOpen 1 3 4 (codes "") ∷ lexeme MapClose 1 5 6 (codes "") ∷ []) ≡ one_finding Braces 2 5 (codes "too many spaces inside empty braces")
space_in_empty_braces = refl

-- '---\na: {b: 1}\n'
pub no_space_inside_braces : all_of spaced (lexeme DocStart 0 0 3 (codes "") ∷ lexeme (Scalar Plain) 1 0 1 (codes "a") ∷ lexeme Value 1 1 2 (codes "") ∷ lexeme MapOpen 1 3 4 (codes "") ∷ lexeme (Scalar Plain) 1 4 5 (codes "b") ∷ lexeme Value 1 5 6 (codes "") ∷ lexeme (Scalar Plain) 1 7 8 (codes "1") ∷ lexeme MapClose 1 8 9 (codes "") ∷ []) ≡ one_finding Braces 2 5 (codes "too few spaces inside braces") ++ one_finding Braces 2 9 (codes "too few spaces inside braces")
no_space_inside_braces = refl

-- '---\na: [1]\n'
pub forbidden_sequence : all_of without_sequences (lexeme DocStart 0 0 3 (codes "") ∷ lexeme (Scalar Plain) 1 0 1 (codes "a") ∷ lexeme Value 1 1 2 (codes "") ∷ lexeme SeqOpen 1 3 4 (codes "") ∷ lexeme (Scalar Plain) 1 4 5 (codes "1") ∷ lexeme SeqClose 1 5 6 (codes "") ∷ []) ≡ one_finding Brackets 2 5 (codes "forbidden flow sequence")
forbidden_sequence = refl

-- '---\na: []\n'
pub empty_sequence : all_of without_sequences (lexeme DocStart 0 0 3 (codes "") ∷ lexeme (Scalar Plain) 1 0 1 (codes "a") ∷ lexeme Value 1 1 2 (codes "") ∷ lexeme SeqOpen 1 3 4 (codes "") ∷ lexeme SeqClose 1 4 5 (codes "") ∷ []) ≡ []
empty_sequence = refl

-- '---\na : 1\n'
pub space_before_colon : all_of standard_options (lexeme DocStart 0 0 3 (codes "") ∷ lexeme (Scalar Plain) 1 0 1 (codes "a") ∷ lexeme Value 1 2 3 (codes "") ∷ lexeme (Scalar Plain) 1 4 5 (codes "1") ∷ []) ≡ one_finding Colons 2 2 (codes "too many spaces before colon")
space_before_colon = refl

-- '---\n- *x : 1\n'
pub space_behind_alias : all_of standard_options (lexeme DocStart 0 0 3 (codes "") ∷ lexeme Entry 1 0 1 (codes "") ∷ lexeme Alias 1 2 4 (codes "x") ∷ lexeme Value 1 5 6 (codes "") ∷ lexeme (Scalar Plain) 1 7 8 (codes "1") ∷ []) ≡ []
space_behind_alias = refl

-- '---\n?  a\n: b\n'
pub spaces_behind_question_mark : all_of standard_options (lexeme DocStart 0 0 3 (codes "") ∷ lexeme Key 1 0 1 (codes "") ∷ lexeme (Scalar Plain) 1 3 4 (codes "a") ∷ lexeme Value 2 0 1 (codes "") ∷ lexeme (Scalar Plain) 2 2 3 (codes "b") ∷ []) ≡ one_finding Colons 2 3 (codes "too many spaces after question mark")
spaces_behind_question_mark = refl

-- '---\na: [1 ,2]\n'
pub spaces_round_comma : all_of standard_options (lexeme DocStart 0 0 3 (codes "") ∷ lexeme (Scalar Plain) 1 0 1 (codes "a") ∷ lexeme Value 1 1 2 (codes "") ∷ lexeme SeqOpen 1 3 4 (codes "") ∷ lexeme (Scalar Plain) 1 4 5 (codes "1") ∷ lexeme Comma 1 6 7 (codes "") ∷ lexeme (Scalar Plain) 1 7 8 (codes "2") ∷ lexeme SeqClose 1 8 9 (codes "") ∷ []) ≡ one_finding Commas 2 6 (codes "too many spaces before comma") ++ one_finding Commas 2 8 (codes "too few spaces after comma")
spaces_round_comma = refl

-- '---\na: [1\n  , 2]\n'
pub first_comma : all_of standard_options (lexeme DocStart 0 0 3 (codes "") ∷ lexeme (Scalar Plain) 1 0 1 (codes "a") ∷ lexeme Value 1 1 2 (codes "") ∷ lexeme SeqOpen 1 3 4 (codes "") ∷ lexeme (Scalar Plain) 1 4 5 (codes "1") ∷ lexeme Comma 2 2 3 (codes "") ∷ lexeme (Scalar Plain) 2 4 5 (codes "2") ∷ lexeme SeqClose 2 5 6 (codes "") ∷ []) ≡ one_finding Commas 3 2 (codes "too many spaces before comma")
first_comma = refl

-- '---\n-  a\n'
pub spaces_behind_hyphen : all_of standard_options (lexeme DocStart 0 0 3 (codes "") ∷ lexeme Entry 1 0 1 (codes "") ∷ lexeme (Scalar Plain) 1 3 4 (codes "a") ∷ []) ≡ one_finding Hyphens 2 3 (codes "too many spaces after hyphen")
spaces_behind_hyphen = refl

-- 'a: 1\n'
pub no_document_start : all_of standard_options (lexeme (Scalar Plain) 0 0 1 (codes "a") ∷ lexeme Value 0 1 2 (codes "") ∷ lexeme (Scalar Plain) 0 3 4 (codes "1") ∷ []) ≡ one_finding DocumentStart 1 1 (codes "missing document start \"---\"")
no_document_start = refl

-- '---\nyes: "no"\nb: !!str yes\nc: [on, off]\n'
pub truthy_words_found : all_of standard_options (lexeme DocStart 0 0 3 (codes "") ∷ lexeme (Scalar Plain) 1 0 3 (codes "yes") ∷ lexeme Value 1 3 4 (codes "") ∷ lexeme (Scalar Double) 1 5 9 (codes "no") ∷ lexeme (Scalar Plain) 2 0 1 (codes "b") ∷ lexeme Value 2 1 2 (codes "") ∷ lexeme Tag 2 3 8 (codes "") ∷ lexeme (Scalar Plain) 2 9 12 (codes "yes") ∷ lexeme (Scalar Plain) 3 0 1 (codes "c") ∷ lexeme Value 3 1 2 (codes "") ∷ lexeme SeqOpen 3 3 4 (codes "") ∷ lexeme (Scalar Plain) 3 4 6 (codes "on") ∷ lexeme Comma 3 6 7 (codes "") ∷ lexeme (Scalar Plain) 3 8 11 (codes "off") ∷ lexeme SeqClose 3 11 12 (codes "") ∷ []) ≡ wrong 2 1 ++ (wrong 4 5 ++ wrong 4 9)
truthy_words_found = refl

-- '---\nk: !!map\n  yes: 1\n'
pub tag_of_a_mapping : all_of standard_options (lexeme DocStart 0 0 3 (codes "") ∷ lexeme (Scalar Plain) 1 0 1 (codes "k") ∷ lexeme Value 1 1 2 (codes "") ∷ lexeme Tag 1 3 8 (codes "") ∷ lexeme (Scalar Plain) 2 2 5 (codes "yes") ∷ lexeme Value 2 5 6 (codes "") ∷ lexeme (Scalar Plain) 2 7 8 (codes "1") ∷ []) ≡ wrong 3 3
tag_of_a_mapping = refl

-- '%YAML 1.2\n---\na: yes\nb: True\n'
pub fewer_truthy_words : all_of standard_options (lexeme Directive 0 0 9 (codes "%YAML 1.2") ∷ lexeme DocStart 1 0 3 (codes "") ∷ lexeme (Scalar Plain) 2 0 1 (codes "a") ∷ lexeme Value 2 1 2 (codes "") ∷ lexeme (Scalar Plain) 2 3 6 (codes "yes") ∷ lexeme (Scalar Plain) 3 0 1 (codes "b") ∷ lexeme Value 3 1 2 (codes "") ∷ lexeme (Scalar Plain) 3 3 7 (codes "True") ∷ []) ≡ wrong 4 4
fewer_truthy_words = refl

-- '%YAML 1.1\n---\na: yes\n'
pub truthy_words_of_1_1 : all_of standard_options (lexeme Directive 0 0 9 (codes "%YAML 1.1") ∷ lexeme DocStart 1 0 3 (codes "") ∷ lexeme (Scalar Plain) 2 0 1 (codes "a") ∷ lexeme Value 2 1 2 (codes "") ∷ lexeme (Scalar Plain) 2 3 6 (codes "yes") ∷ []) ≡ wrong 3 4
truthy_words_of_1_1 = refl

-- '---\na: "x"\nb: 1\nc: x\n'
pub other_quotes : all_of quoting (lexeme DocStart 0 0 3 (codes "") ∷ lexeme (Scalar Plain) 1 0 1 (codes "a") ∷ lexeme Value 1 1 2 (codes "") ∷ lexeme (Scalar Double) 1 3 6 (codes "x") ∷ lexeme (Scalar Plain) 2 0 1 (codes "b") ∷ lexeme Value 2 1 2 (codes "") ∷ lexeme (Scalar Plain) 2 3 4 (codes "1") ∷ lexeme (Scalar Plain) 3 0 1 (codes "c") ∷ lexeme Value 3 1 2 (codes "") ∷ lexeme (Scalar Plain) 3 3 4 (codes "x") ∷ []) ≡ unquoted 2 4 ++ unquoted 4 4
other_quotes = refl

-- ---- the truthy words

-- each of these comes behind the one before it in the order of bytes, the first behind this one
abbrev rise_from : List ℕ → List (List ℕ) → Bool
rise_from w [] = true
rise_from w (v ∷ vs) = is_lt (slice_cmp nat_cmp w v) && rise_from v vs

pub words_in_order : rise_from [] truthy_words ≡ true
words_in_order = refl

pub core_words_among_them : list_all (λ w. is_some (truthy_index w)) core_words ≡ true
core_words_among_them = refl
