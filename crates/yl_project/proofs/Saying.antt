-- What is said of a text that was read.
use Rattle.std.proofs.Common.{◌≡◌, ℕ, Bool, List, [], ◌++◌, map, Option, Some, None, IfOk, option_map, is_some, unwrap_or, Result, Ok, Err, refl, sym, ap, subst, ◌∙◌}
use Rattle.yl_text.specs.declared.position.Pos.{Pos}
use Rattle.yl_text.specs.Fault.{IsText}
use Rattle.yl_text.specs.Lines.{RowValue, IsLines, lines_of}
use Rattle.yl_lexeme.specs.Lexeme.{LexemeValue}
use Rattle.yl_events.specs.Event.{EventValue}
use Rattle.yl_settings.specs.Nodes.{ItemValue}
use Rattle.yl_patterns.specs.Patterns.{PatternValue}
use Rattle.yl_row.specs.Entries.{entries}
use Rattle.yl_scan.specs.Output.{output_of_entries}
use Rattle.yl_scan.specs.Step.{characters_of}
use Rattle.yl_scan.specs.Whole.{ScannedTextValue, text_value_of_output}
use Rattle.yl_config.specs.declared.fault.ConfigFault.{ConfigFault}
use Rattle.yl_config.specs.declared.misfit.Misfit.{Misfit}
use Rattle.yl_config.specs.declared.misfit.MisfitKind.{MisfitKind}
use Rattle.yl_config.specs.declared.misfit.MisfitKind.TheVariants.{NotAMapping, UnknownKey, UnknownRule, UnknownOption, BadValue, BadLevel, UnknownExtends}
use Rattle.yl_config.specs.Document.{next_misfits, root_of}
use Rattle.yl_config.specs.Faults.{fault_by, place_from_one}
use Rattle.yl_config.specs.Misfits.{earliest}
use Rattle.yl_config.specs.Outcome.{from_own}
use Rattle.yl_config.proofs.Saying.{their_lines}
use Rattle.yl_config.specs.Syntax.{earlier_place, open_end, parse_fault, text_fault}
use Rattle.yl_config.specs.TextDocuments.{AreBuilt, BuiltDocumentValue, documents_of}
use Rattle.yl_config.specs.TextReading.{TextReading, end_of, lexeme_in_text, place_of_fault, reading_of}
use Rattle.yl_project.specs.Misfits.{root_misfits}
use Rattle.yl_project.specs.Outcome.{IsToldOf, Judge, Says, SaysOfText, projecting, told, told_of, told_own, told_unless}
use Rattle.yl_project.specs.Said.{ProjectValue, said_over}
use Rattle.yl_project.specs.Texts.{with_lines}

-- ---- what is said of a text is neither that it is too large nor no UTF-8, nor want of memory

by_kind : {A : Type 0} (judge : List RowValue → Judge A) (t : List ℕ) (kind : MisfitKind) (p : Pos)
    → SaysOfText judge t (Err (fault_by kind (place_from_one p))) → IsToldOf judge t (Err (fault_by kind (place_from_one p)))
by_kind judge t NotAMapping p h = h
by_kind judge t UnknownKey p h = h
by_kind judge t UnknownRule p h = h
by_kind judge t UnknownOption p h = h
by_kind judge t BadValue p h = h
by_kind judge t BadLevel p h = h
by_kind judge t UnknownExtends p h = h

by_first : {A : Type 0} (judge : List RowValue → Judge A) (t : List ℕ) (place : Option Pos) (said : A) (first : Option Misfit)
    → SaysOfText judge t (told_unless place (told said first)) → IsToldOf judge t (told_unless place (told said first))
by_first judge t (Some place) said first h = h
by_first judge t None said None h = h
by_first judge t None said (Some m) h = by_kind judge t m.kind m.place h

by_documents : {A : Type 0} (judge : List RowValue → Judge A) (t : List ℕ) (place : Option Pos) (ds : List BuiltDocumentValue)
    → SaysOfText judge t (told_unless place (told_own (judge (lines_of t)) ds)) → IsToldOf judge t (told_unless place (told_own (judge (lines_of t)) ds))
by_documents judge t place ds h = by_first judge t place _ _ h

pub told_of_text : {A : Type 0} (judge : List RowValue → Judge A) (t : List ℕ) (answer : Result A ConfigFault) → SaysOfText judge t answer → IsToldOf judge t answer
told_of_text {A = A} judge t answer h =
    let r = reading_of (characters_of (lines_of t)) in
    let own = told_unless (text_fault r h.1.documents) (told_own (judge (lines_of t)) (from_own h.1.documents)) in
    let same : Says (judge (lines_of t)) r own = record { documents = h.1.documents; built = h.1.built; judged = refl } in
    let P : Result A ConfigFault → Type 0 = λ a. IsToldOf judge t a in
    subst P (sym h.1.judged) (by_documents judge t (text_fault r h.1.documents) (from_own h.1.documents) (h.0, same))

-- of the rows that a text was split into
pub told_of_rows : {A : Type 0} (judge : List RowValue → Judge A) (t : List ℕ) (rows : List RowValue) (answer : Result A ConfigFault) → IsText t → IsLines t rows
    → Says (judge rows) (reading_of (characters_of rows)) answer → IsToldOf judge t answer
told_of_rows judge t rows answer text lines h =
    let P : List RowValue → Type 0 = λ ps. Says (judge ps) (reading_of (characters_of ps)) answer in
    told_of_text judge t answer (text, subst P (their_lines t rows lines) h)

-- what a document says, and the first that does not fit, from what was found of it
pub told_by_parts : (base : ProjectValue) (in_files lines : List RowValue) (es : List EventValue) (next : Option Pos) (root : ItemValue) (files : Option (List PatternValue)) (those : List PatternValue)
    (has : Bool) (said : ProjectValue) (first : Option Misfit) (answer : Result ProjectValue ConfigFault)
    → root ≡ root_of es → files ≡ with_lines [] in_files → those ≡ unwrap_or files [] → has ≡ is_some files
    → said ≡ said_over base those lines root → first ≡ earliest None (root_misfits lines has root ++ next_misfits next) → answer ≡ told said first
    → answer ≡ told_of (projecting base in_files lines) es next
unfolding projecting
told_by_parts base in_files lines es next root files those has said first answer is_root are those_are has_is said_is first_is answered =
    let all = with_lines [] in_files in
    let whole = said_over base (unwrap_or all []) lines (root_of es) in
    let same : said ≡ whole = said_is ∙ (ap (λ (p : List PatternValue). said_over base p lines root) (those_are ∙ ap (λ (o : Option (List PatternValue)). unwrap_or o []) are)
    ∙ ap (λ (i : ItemValue). said_over base (unwrap_or all []) lines i) is_root) in
    let earlier : first ≡ earliest None (root_misfits lines (is_some all) (root_of es) ++ next_misfits next) =
    first_is ∙ (ap (λ (b : Bool). earliest None (root_misfits lines b root ++ next_misfits next)) (has_is ∙ ap (λ (o : Option (List PatternValue)). is_some o) are)
    ∙ ap (λ (i : ItemValue). earliest None (root_misfits lines (is_some all) i ++ next_misfits next)) is_root) in
    answered ∙ (ap (λ (s : ProjectValue). told s first) same ∙ ap (λ (m : Option Misfit). told whole m) earlier)

-- what is so of what is told
pub in_ok : {T E : Type 0} {P Q : T → Type 0} (r : Result T E) → ((x : T) → P x → Q x) → IfOk r P → IfOk r Q
in_ok (Ok x) f h = f x h
in_ok (Err e) f h = h

-- what was scanned of rows gives what they are read to, and with its documents what is said of them
pub says : {A : Type 0} (judge : Judge A) (rows : List (List ℕ)) (scanned : ScannedTextValue) (xs : List LexemeValue) (stop place : Option Pos) (ds : List BuiltDocumentValue)
    (answer : Result A ConfigFault)
    → scanned ≡ text_value_of_output (output_of_entries 0 (entries rows))
    → xs ≡ map lexeme_in_text scanned.lexemes → stop ≡ option_map place_of_fault scanned.fault
    → AreBuilt (documents_of xs) ds
    → place ≡ earlier_place stop (parse_fault (open_end (end_of rows) stop) ds)
    → answer ≡ told_unless place (told_own judge (from_own ds))
    → Says judge (reading_of rows) answer
says judge rows scanned xs stop place ds answer of are at built is_place is_answer =
    let r = reading_of rows in
    let lexemes : xs ≡ r.lexemes = are ∙ ap (λ (s : ScannedTextValue). map lexeme_in_text s.lexemes) of in
    let fault : stop ≡ r.fault = at ∙ ap (λ (s : ScannedTextValue). option_map place_of_fault s.fault) of in
    let P : List LexemeValue → Type 0 = λ ys. AreBuilt (documents_of ys) ds in
    record {
      documents = ds;
      built = subst P lexemes built;
      judged = is_answer ∙ ap (λ (p : Option Pos). told_unless p (told_own judge (from_own ds)))
          (is_place ∙ ap (λ (p : Option Pos). earlier_place p (parse_fault (open_end (end_of rows) p) ds)) fault);
    }
