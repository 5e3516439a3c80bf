-- A scalar that may go on ends so far in its first row, and behind it the row holds nothing but white space.
use Rattle.std.proofs.Common.{◌≡◌, ℕ, suc, ◌+◌, ◌-◌, ◌≤◌, Bool, true, false, List, [], ◌∷◌, length, take, drop, Option, Some, None, refl, ap, sym, subst, ◌∙◌, arith}
use Rattle.std.proofs.lemmas.Bool.{eqb-true}
use Rattle.std.proofs.Math.Seq.{take-length}
use Rattle.yl_text.specs.Character.{is_blank, without_end}
use Rattle.yl_scalar.specs.declared.answer.ScalarFault.TheVariants.{BadHeader}
use Rattle.yl_scalar.specs.declared.answer.ScalarStep.{ScalarStep}
use Rattle.yl_scalar.specs.Reader.{step_value}
use Rattle.yl_scalar.specs.Reading.{ScalarStepValue, GoesOn, Fails, unless_bad}
use Rattle.yl_scalar.specs.Allowed.{first_bad}
use Rattle.yl_scalar.specs.Plain.{stop, part, reaches_end}
use Rattle.yl_scalar.specs.PlainSteps.{PlainReaderValue, plain_begin, plain_step_behind}
use Rattle.yl_scalar.specs.Quoted.{Stretch, Closes, Breaks, Faulty, stretch}
use Rattle.yl_scalar.specs.QuotedSteps.{QuotedReaderValue, quoted_begin, quoted_start, quoted_step_behind}
use Rattle.yl_scalar.specs.Header.{indicators, misfit}
use Rattle.yl_scalar.specs.Block.{BlockReaderValue, block_begin, header_read, header_end}
use Rattle.yl_row.specs.ScalarReader.{ScalarReaderValue, InPlain, InQuoted, InBlock, map_step}
use Rattle.yl_row.specs.Begins.{BeginsAt}
use Rattle.yl_row.proofs.Carry.{blank_end, blank_behind}
use Rattle.yl_row.proofs.Modes.{part_len, said_by_style}

unless_begins : {S : Type 0} (f : S → ScalarReaderValue) (at : ℕ) (text : List ℕ) (bad : Option ℕ) (down column : ℕ) (t : ScalarStepValue S) → BeginsAt at text (map_step f t) → BeginsAt at text (map_step f (unless_bad bad down column t))
unless_begins f at text None down column t h = h
unless_begins f at text (Some i) down column t h = tt

behind_part : (flow : Bool) (text : List ℕ) → reaches_end flow false text ≡ true → is_blank (drop (length (part flow false text)) text) ≡ true
behind_part flow text h =
    let e : part flow false text ≡ without_end text = ap without_end (ap (λ n. take n text) (eqb-true (stop flow false text) (length text) h) ∙ take-length text) in
    ap (λ p. is_blank (drop (length p) text)) e ∙ blank_end text

plain_taken : (at : ℕ) (text : List ℕ) (reaches : Bool) (s : PlainReaderValue) → s.down + s.blanks ≡ 0 → (reaches ≡ true → is_blank (drop (s.column - at) text) ≡ true) → s.column ≤ at + length text → BeginsAt at text (map_step InPlain (plain_step_behind reaches s))
plain_taken at text true s rows h le = record { rows = rows; spaces = tt; blank = h refl; column = le }
plain_taken at text false s rows h le = tt

pub plain_begins : (flow : Bool) (least at : ℕ) (text : List ℕ) → BeginsAt at text (map_step InPlain (plain_begin flow least at text))
plain_begins flow least at text =
    unless_begins InPlain at text (first_bad (part flow false text)) 0 at _
    (plain_taken at text (reaches_end flow false text) _ refl
    (λ h. let e : at + length (part flow false text) - at ≡ length (part flow false text) = omega arith in ap (λ n. is_blank (drop n text)) e ∙ behind_part flow text h)
    (omega (arith, part_len flow false text)))

quoted_took : (at : ℕ) (text : List ℕ) (s : QuotedReaderValue) (column : ℕ) (t : Stretch) → s.down + s.blanks ≡ 0 → BeginsAt at text (map_step InQuoted (quoted_step_behind s column t))
quoted_took at text s column (Closes value place) rows = tt
quoted_took at text s column (Breaks value backslash) rows = record { rows = rows; spaces = tt; blank = tt; column = tt }
quoted_took at text s column (Faulty fault place) rows = tt

pub quoted_begins : (double : Bool) (at : ℕ) (rest text : List ℕ) → BeginsAt at text (map_step InQuoted (quoted_begin double at rest))
quoted_begins double at rest text = quoted_took at text (quoted_start double at) (at + 1) (stretch double 0 [] 0 0 rest) refl

header_begins : (least at c : ℕ) (header : List ℕ) (bad : Option ℕ) → BeginsAt at (c ∷ header) (map_step InBlock (header_read least (at + 1) header bad))
header_begins least at c header None =
    unless_begins InBlock at (c ∷ header) (first_bad header) 0 (at + 1) (GoesOn (header_end least (indicators header).0 (at + 1 + length header)))
    (record {
      rows = refl;
      spaces = omega arith;
      blank = (let e : at + 1 + length header - at ≡ suc (length header) = omega arith in ap (λ n. is_blank (drop n (c ∷ header))) e ∙ blank_behind header);
      column = omega arith;
    })
header_begins least at c header (Some place) =
    unless_begins {S = BlockReaderValue} InBlock at (c ∷ header) (first_bad (take (place + 1) header)) 0 (at + 1) (Fails BadHeader 0 (at + 1 + place)) tt

pub block_begins : (least at c : ℕ) (header : List ℕ) → BeginsAt at (c ∷ header) (map_step InBlock (block_begin least at header))
block_begins least at c header = header_begins least at c header (misfit header)

-- the same of what a reader's answer says
pub line_begins : {S : Type 0} (f : S → ScalarReaderValue) (at : ℕ) (text : List ℕ) (l : ScalarStep) (value : List ℕ) (s : S) (t : ScalarStepValue S)
    → step_value l value s ≡ t → BeginsAt at text (map_step f t) → BeginsAt at text (step_value l value (f s))
line_begins f at text l value s t e h = subst (BeginsAt at text) (sym (said_by_style f l value s ∙ ap (map_step f) e)) h
