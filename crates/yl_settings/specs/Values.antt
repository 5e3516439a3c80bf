-- Meaning: the values that options take, and the scalars that denote them.
use Rattle.std.specs.Prelude.{ℕ, Bool, true, false, if◌then◌else◌, Option, Some, None, codes, bytes_eq, replicate, slice_set}
use Rattle.yl_rules.specs.declared.level.Level.{Level}
use Rattle.yl_rules.specs.declared.level.Level.TheVariants.{Error, Warning}
use Rattle.yl_rules.specs.declared.new_lines.NewLine.{NewLine}
use Rattle.yl_rules.specs.declared.new_lines.NewLine.TheVariants.{Unix, Dos}
use Rattle.yl_lexeme_rules.specs.declared.brackets.Forbid.{Forbid}
use Rattle.yl_lexeme_rules.specs.declared.brackets.Forbid.TheVariants.{Nothing, NonEmpty, Everything}
use Rattle.yl_lexeme_rules.specs.declared.quoted_strings.QuoteType.{QuoteType}
use Rattle.yl_lexeme_rules.specs.declared.quoted_strings.QuoteType.TheVariants.{Any, Single, Double}
use Rattle.yl_lexeme_rules.specs.declared.truthy.TruthyWords.{TruthyWords}
use Rattle.yl_lexeme_rules.specs.Truthy.{truthy_index}
use Rattle.yl_indentation.specs.declared.options.Spaces.{Spaces}
use Rattle.yl_indentation.specs.declared.options.Spaces.TheVariants as spaces
use Rattle.yl_indentation.specs.declared.options.IndentSequences.{IndentSequences}
use Rattle.yl_indentation.specs.declared.options.IndentSequences.TheVariants as sequences
use Rattle.yl_events.specs.Event.{EventKindValue}
use Rattle.yl_settings.specs.Words.{plain_word, word, flag, number, limit}
use Rattle.yl_settings.specs.Nodes.{Nodes, NoNode, Node, ItemValue, starts_sequence}

abbrev pub flag_in : EventKindValue → Option Bool
flag_in kind = flag (plain_word kind)

abbrev pub number_in : ℕ → EventKindValue → Option ℕ
number_in least kind = number least (plain_word kind)

abbrev pub limit_in : EventKindValue → Option (Option ℕ)
limit_in kind = limit (plain_word kind)

abbrev pub level_in : EventKindValue → Option Level
level_in kind = if bytes_eq (word kind) (codes "error") then Some Error else if bytes_eq (word kind) (codes "warning") then Some Warning else None

-- one value for true, another for false, and `other` if there is no truth value
abbrev pub flag_or : {A : Type 0} → Option Bool → A → A → Option A → Option A
flag_or (Some true) one another other = Some one
flag_or (Some false) one another other = Some another
flag_or None one another other = other

abbrev pub forbid_in : EventKindValue → Option Forbid
forbid_in kind = flag_or (flag_in kind) Everything Nothing (if bytes_eq (word kind) (codes "non-empty") then Some NonEmpty else None)

abbrev pub every : Option ℕ → Option Spaces → Option Spaces
every (Some n) other = Some (spaces.Every n)
every None other = other

abbrev pub spaces_in : EventKindValue → Option Spaces
spaces_in kind = every (number_in 1 kind) (if bytes_eq (word kind) (codes "consistent") then Some spaces.Consistent else None)

abbrev pub sequences_in : EventKindValue → Option IndentSequences
sequences_in kind =
    flag_or (flag_in kind) sequences.Indented sequences.NotIndented
    (if bytes_eq (word kind) (codes "whatever") then Some sequences.Whatever
    else if bytes_eq (word kind) (codes "consistent") then Some sequences.Consistent else None)

-- a false word, and no other
abbrev pub no_in : EventKindValue → Option Bool
no_in kind = flag_or_none (flag_in kind)
  where
    flag_or_none : Option Bool → Option Bool
    flag_or_none (Some false) = Some false
    flag_or_none _ = None

abbrev pub new_line_in : EventKindValue → Option NewLine
new_line_in kind = if bytes_eq (word kind) (codes "unix") then Some Unix else if bytes_eq (word kind) (codes "dos") then Some Dos else None

abbrev pub quote_type_in : EventKindValue → Option QuoteType
quote_type_in kind =
    if bytes_eq (word kind) (codes "any") then Some Any
    else if bytes_eq (word kind) (codes "single") then Some Single
    else if bytes_eq (word kind) (codes "double") then Some Double else None

-- the set with one more word. There is none if the word is not truthy
abbrev pub with_word : Option TruthyWords → Option ℕ → Option TruthyWords
with_word None index = None
with_word (Some set) None = None
with_word (Some set) (Some index) = Some (record { allowed = slice_set set.allowed index true })

-- the set with the words of these nodes. There is none unless all of them are truthy
unfoldable pub words_beside : Option TruthyWords → Nodes → Option TruthyWords
words_beside set NoNode = set
words_beside set (Node kind place inside more) = words_beside (with_word set (truthy_index (word kind))) more

abbrev pub no_words : TruthyWords
no_words = record { allowed = replicate 18 false }

-- the words of a sequence of truthy words
abbrev pub truthy_in : ItemValue → Option TruthyWords
truthy_in item = if starts_sequence item.kind then words_beside (Some no_words) item.inside else None
