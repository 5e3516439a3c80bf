-- What is told of rows stands in them.
use Rattle.std.proofs.Common.{◌≡◌, ◌≤◌, ◌<◌, ◌+◌, ◌-◌, ℕ, List, [], ◌∷◌, length, take, Option, Some, None, arith}
use Rattle.std.specs.Prelude.{IfSome, option_and_then, option_map, slice_get}
use Rattle.std.specs.List.{AllByRecursion}
use Rattle.std.specs.Option.{option_map_or}
use Rattle.std.proofs.lemmas.List.{length-take}
use Rattle.yl_text.specs.Finding.{FindingValue}
use Rattle.yl_text.proofs.Every.{all_both, all_got, all_map, all_take, all_then}
use Rattle.yl_lexeme.specs.Lexeme.{CommentValue, LexemeValue, PlacedCommentValue}
use Rattle.yl_marks.specs.declared.token.Token.{Token}
use Rattle.yl_marks.specs.Keys.{token_of}
use Rattle.yl_events.specs.declared.fault.PlacedParseFault.{PlacedParseFault}
use Rattle.yl_config.specs.declared.config.Config.{Config}
use Rattle.yl_record.specs.Records.{RecordValue}
use Rattle.yl_sections.specs.declared.comments.LexemeEnd.{LexemeEnd}
use Rattle.yl_sections.specs.Kept.{comment_at, comments_from, last_lexeme_end, lexeme_options_of}
use Rattle.yl_sections.specs.Sections.{lexemes_from}
use Rattle.yl_pieces.specs.State.{DocumentState, context_from, lexemes_from_state}
use Rattle.yl_pieces.specs.Told.{ToldFault, fault_in, keys_in, spaces_in, symbols_in, told_by, told_fault, tokens_in, version_in}
use Rattle.yl_pieces.specs.Within.{IsAmong, IsToldWithin, ToldIsWithin}
use Rattle.yl_pieces.proofs.JoinedLines.{all_above, all_below}
use Rattle.yl_pieces.proofs.WithinFacts.{facts_lines}
use Rattle.yl_pieces.proofs.WithinFindings.{found_lines}

-- ---- lists

all_two : {X : Type 0} (P Q : X → Type 0) (xs : List X) → AllByRecursion P xs → AllByRecursion Q xs → AllByRecursion (λ x. P x × Q x) xs
all_two P Q [] h g = tt
all_two P Q (x ∷ xs) h g = ((h.0, g.0), all_two P Q xs h.1 g.1)

-- ---- comments

module _ (line high : ℕ) where
  abbrev Between : PlacedCommentValue → Type 0
  Between c = (line ≤ c.line) × (c.line < high)

  comment_between : (k : ℕ) (last : Option LexemeEnd) (c : Option CommentValue) → line ≤ k → k < high → AllByRecursion Between (comment_at k last c)
  comment_between k last None l h = tt
  comment_between k last (Some c) l h = ((l, h), tt)

  comments_between : (k : ℕ) (last : Option LexemeEnd) (rs : List RecordValue) → line ≤ k → k + length rs ≤ high → AllByRecursion Between (comments_from last k rs)
  comments_between k last [] l h = tt
  comments_between k last (r ∷ rs) l h =
      let end = last_lexeme_end last k r.entry.lexemes in
      all_both Between (comment_at k end r.entry.comment) (comments_from end (k + 1) rs)
      (comment_between k end r.entry.comment l (omega (arith, h))) (comments_between (k + 1) end rs (omega (arith, l)) (omega (arith, h)))

-- ---- all that is told

module _ (config : Config) (s : DocumentState) (line : ℕ) (rs : List RecordValue) where
  abbrev Is : ℕ → Type 0
  Is l = IsAmong line (length rs) l

  abbrev xs : List LexemeValue
  xs = lexemes_from line rs

  abbrev Begins : LexemeValue → Type 0
  Begins x = Is x.start.line

  lexemes_within : AllByRecursion Begins xs
  lexemes_within = all_two (λ (x : LexemeValue). line ≤ x.start.line) (λ (x : LexemeValue). x.start.line < line + length rs) xs (all_below line rs) (all_above line rs)

  tokens_within : AllByRecursion (λ (x : Token). Is x.start.line) (tokens_in line rs)
  tokens_within = all_map (λ (x : Token). Is x.start.line) Begins token_of xs (λ x h. h) lexemes_within

  abbrev placed : PlacedParseFault → LexemeValue → ToldFault
  placed f x = record { place = x.start; kind = f.kind }

  placed_within : (f : PlacedParseFault) (x : Option LexemeValue) → IfSome x Begins
      → IfSome (option_map (placed f) x) (λ (g : ToldFault). Is g.place.line)
  placed_within f None h = tt
  placed_within f (Some x) h = h

  fault_within : (o : Option PlacedParseFault) → IfSome (option_and_then (told_fault xs) o) (λ (g : ToldFault). Is g.place.line)
  fault_within None = tt
  fault_within (Some f) = placed_within f (slice_get xs f.place) (all_got Begins xs f.place lexemes_within)

  comments_within : (there : Option ToldFault) → AllByRecursion (λ (c : PlacedCommentValue). Is c.line) (comments_from None line (option_map_or (λ f. take (f.place.line - line) rs) there rs))
  comments_within None = comments_between line (line + length rs) line None rs (omega arith) (omega arith)
  comments_within (Some f) =
      let n = f.place.line - line in
      comments_between line (line + length rs) line None (take n rs) (omega arith) (omega (arith, length-take n rs))

  -- a problem stands in the line after that of its lexeme, since lines of problems count from 1
  abbrev IsNext : FindingValue → Type 0
  IsNext f = (l : ℕ) × ((f.line ≡ l + 1) × Is l)

  next_within : (f : FindingValue) → IsNext f → (line < f.line) × (f.line ≤ line + length rs)
  next_within f h = (omega (arith, h.1.0, h.1.1.0), omega (arith, h.1.0, h.1.1.1))

  told_within : (o : Option PlacedParseFault) → IsToldWithin line (length rs) (told_by config s line rs o)
  told_within o =
      let counted = option_map_or (λ f. f.place) o (length xs) in
      record {
        found =
            all_then IsNext (λ (f : FindingValue). (line < f.line) × (f.line ≤ line + length rs)) _ next_within
            (found_lines Is (version_in s xs) (lexeme_options_of config) (lexemes_from_state s.lexemes).latest (take counted xs) (keys_in s line rs) (all_take Begins xs counted lexemes_within));
        facts = facts_lines Is (context_from s.context) (tokens_in line rs) counted (spaces_in line rs) (symbols_in s line rs) tokens_within;
        comments = comments_within (option_and_then (told_fault xs) o);
        fault = fault_within o;
      }

pub told_is_within : ToldIsWithin
told_is_within = λ config s line rs. told_within config s line rs (fault_in s line rs)
