-- Meaning: what changes of a text leave (LSP 3.17, `TextDocumentContentChangeEvent`), and why a text is not followed any more.
use Rattle.std.specs.Prelude.{ℕ, Bool, true, false, nat_le, if◌then◌else◌, List, [], ◌∷◌, length, drop, Result, Ok, Err}
use Rattle.yl_text.specs.declared.TheConstants.{MAX_BYTES}
use Rattle.yl_text.specs.Lines.{lines_of}
use Rattle.yl_text.specs.Edit.{offset, edited_text}
use Rattle.yl_units.specs.declared.encoding.Encoding.{Encoding}
use Rattle.yl_units.specs.Places.{place_of}
use Rattle.yl_lsp.specs.declared.range.Range.{Range}
use Rattle.yl_lsp.specs.Params.{ChangeValue, Whole, Within, Unread}
use Rattle.yl_workspace.specs.declared.cause.Cause.{Cause}
use Rattle.yl_workspace.specs.declared.cause.Cause.TheVariants.{OutOfMemory, TooLarge, BadChange}

-- a text that is the editor's, or why it is not followed
pub data TextValue : Type 0 where
  Followed : (text : List ℕ) → TextValue
  Lost : (cause : Cause) → TextValue

abbrev pub within_bounds : List ℕ → Result (List ℕ) Cause
within_bounds text = if nat_le (length text) MAX_BYTES then Ok text else Err TooLarge

-- the text with these bytes in a range, whatever numbers its places have; there is none where the range ends before its start
unfoldable pub changed_text : Encoding → List ℕ → Range → List ℕ → Result (List ℕ) Cause
changed_text e old range new =
    let ps = lines_of old in
    let from = place_of e ps range.start in
    let to = place_of e ps range.end in
    if nat_le (offset ps from) (offset ps to) then within_bounds (edited_text ps from to new) else Err BadChange

-- a text is followed if memory was granted
abbrev pub followed_if : Bool → Result (List ℕ) Cause → TextValue
followed_if granted (Err cause) = Lost cause
followed_if true (Ok text) = Followed text
followed_if false (Ok text) = Lost OutOfMemory

-- the text after a change. Of a lost text only a change of the whole makes a text that is followed
abbrev pub text_after_change : Encoding → Bool → TextValue → ChangeValue → TextValue
text_after_change e granted old (Whole new) = followed_if granted (within_bounds new)
text_after_change e granted old Unread = Lost BadChange
text_after_change e granted (Lost cause) (Within range new) = Lost cause
text_after_change e granted (Followed old) (Within range new) = followed_if granted (changed_text e old range new)

-- Memory is asked for again and again, and the answers are a list, in their order. Past its end memory is granted
abbrev pub is_granted : List Bool → Bool
is_granted [] = true
is_granted (granted ∷ grants) = granted

-- the text after changes, which are made in their order; memory is asked for once for each
abbrev pub text_after_changes : Encoding → List Bool → TextValue → List ChangeValue → TextValue
text_after_changes e grants text [] = text
text_after_changes e grants text (c ∷ cs) = text_after_changes e (drop 1 grants) (text_after_change e (is_granted grants) text c) cs
