-- Bridge: what the rules on lexemes find in some rows, by what they know of the lexemes above
-- without their lines.
use Rattle.std.specs.Prelude.{◌≡◌, ◌<◌, ◌+◌, ℕ, Bool, true, false, not, List, [], ◌∷◌, map, None, option_map, IfSome}
use Rattle.std.specs.Option.{option_map_or}
use Rattle.yl_text.specs.Finding.{FindingValue}
use Rattle.yl_lexeme.specs.Lexeme.{LexemeValue, is_opening}
use Rattle.yl_marks.specs.declared.facts.KeyFacts.{KeyFacts}
use Rattle.yl_lexeme_rules.specs.declared.options.LexemeOptions.{LexemeOptions}
use Rattle.yl_lexeme_rules.specs.declared.state.LexemeRulesState.{LexemeRulesState}
use Rattle.yl_lexeme_rules.specs.Lexemes.{findings_behind, first_span}
use Rattle.yl_lexeme_rules.specs.LexemesLeft.{LexemesRead, after_lexeme, findings_waiting}

-- ---- so many lines below

-- the lexeme, so many lines below
abbrev pub lexeme_below : ℕ → LexemeValue → LexemeValue
lexeme_below n x = record x { start = record x.start { line = n + x.start.line }; end = record x.end { line = n + x.end.line } }

-- the problem, so many lines below
abbrev pub finding_below : ℕ → FindingValue → FindingValue
finding_below n f = record f { line = n + f.line }

-- ---- lexemes that were read

-- what the rules know of them, without lines
abbrev pub lexemes_state : LexemesRead → LexemeRulesState
lexemes_state r = record { latest = option_map (λ x. x.kind) r.latest; is_1_2 = r.is_1_2; in_directives = r.in_directives }

-- the latest of them is no opening bracket
abbrev pub is_settled : LexemeRulesState → Bool
is_settled s = not (option_map_or is_opening s.latest false)

-- the latest of them begins and ends above this line
abbrev pub IsAbove : ℕ → LexemesRead → Type 0
IsAbove line r = IfSome r.latest (λ x. (x.start.line < line) × (x.end_line < line))

-- the summary once these are read too
abbrev pub after_lexemes : LexemesRead → List LexemeValue → LexemesRead
after_lexemes r [] = r
after_lexemes r (x ∷ xs) = after_lexemes (after_lexeme r x) xs

-- ---- the law

-- the same lexemes stand in rows from the line i on, after those of `a`, and in rows from the line
-- j on, after those of `b`
pub record AreJudgedAlike (v : Bool) (o : LexemeOptions) (a b : LexemesRead) (i j : ℕ) (xs : List LexemeValue) (ks : List KeyFacts) : Type 0 where
  -- what waits at the latest of `a`, if that is no opening bracket, is what is found if none comes
  pub waiting : is_settled (lexemes_state a) ≡ true → findings_waiting o a (first_span (map (lexeme_below i) xs)) ≡ findings_waiting o a None
  -- the same is found at them, at the same places of the rows
  pub rest : map (finding_below j) (findings_behind v o a.latest (map (lexeme_below i) xs) ks)
      ≡ map (finding_below i) (findings_behind v o b.latest (map (lexeme_below j) xs) ks)
  -- the same is known of the lexemes after them
  pub after : lexemes_state (after_lexemes a (map (lexeme_below i) xs)) ≡ lexemes_state (after_lexemes b (map (lexeme_below j) xs))

-- where the same is known, without lines, of the lexemes that were read, the lexemes of the next
-- rows are judged alike
abbrev pub LexemesAreJudgedAlike : Type 0
LexemesAreJudgedAlike =
    (v : Bool) (o : LexemeOptions) (a b : LexemesRead) (i j : ℕ) (xs : List LexemeValue) (ks : List KeyFacts)
    → lexemes_state a ≡ lexemes_state b → IsAbove i a → IsAbove j b → AreJudgedAlike v o a b i j xs ks
