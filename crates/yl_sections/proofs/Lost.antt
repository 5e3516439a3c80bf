-- Where a section begins at a row after an edit below it, and did not before, a scan fault stood in that row.
use Rattle.std.proofs.Common.{◌≡◌, ◌≤◌, ◌<◌, ℕ, zero, suc, ◌+◌, ◌-◌, Bool, true, false, cond, ◌&&◌, ◌||◌, not, List, [], ◌∷◌, length, map, take, drop, Option, Some, None, refl, ap, sym, subst, ◌∙◌, eqb, ltb, arith, inl, inr, add-one}
use Rattle.std.specs.Prelude.{◌==◌, nat_le, IsSome, slice_get, option_map, unwrap_or}
use Rattle.std.specs.Bool.{then_some}
use Rattle.std.specs.Option.{option_or, option_map_or}
use Rattle.std.specs.List.{AllByRecursion, filter, position, position_or_len}
use Rattle.std.proofs.lemmas.Bool.{and_parts, eqb-true, ltb-true, le-leb}
use Rattle.std.proofs.lemmas.List.{length-map}
use Rattle.yl_text.specs.Character.{is_white, is_blank, is_marker_of, indentation, without_end}
use Rattle.std.specs.Option.{option_map_or}
use Rattle.yl_events.specs.Cut.{is_beginning}
use Rattle.yl_scalar.specs.declared.answer.ScalarFault.{ScalarFault}
use Rattle.yl_scalar.specs.declared.answer.ScalarFault.TheVariants as scalar
use Rattle.yl_scalar.specs.Reading.{ScalarOutcomeValue, Whole, Refused}
use Rattle.yl_scalar.specs.Allowed.{first_bad}
use Rattle.yl_lexeme.specs.declared.lexeme.Style.{Style}
use Rattle.yl_lexeme.specs.declared.lexeme.Kind.{Kind}
use Rattle.yl_lexeme.specs.declared.lexeme.Kind.TheVariants.{DocStart, Anchor, Alias}
use Rattle.yl_lexeme.specs.Lexeme.{LexemeValue, CommentValue}
use Rattle.yl_lexeme.specs.Past.{Context, in_flow, may_begin, near, past_lexeme}
use Rattle.yl_lexeme.specs.Known.{SurroundingsValue, context_of, new_row, row_start, surroundings_at, surroundings_behind, no_surroundings}
use Rattle.yl_row.specs.declared.fault.ScanFault.{ScanFault}
use Rattle.yl_row.specs.declared.fault.ScanFault.TheVariants.{NotAllowed, TabInIndentation, EntryNotAllowed, KeyNotAllowed, ValueNotAllowed, ContentAfterDocumentEnd}
use Rattle.yl_row.specs.declared.fault.PlacedScanFault.{PlacedScanFault}
use Rattle.yl_row.specs.Fault.{fault_at, is_tab, is_unclosed, of_scalar}
use Rattle.yl_row.specs.Step.{FoundLexemeValue, found_at, found_in_row, document_at, block_at, word_at, tag_found, name_found, name_len, directive_len, scalar_found, place_fault, tab_before, bad_in, first_tab, is_plain_start, is_value_at}
use Rattle.yl_row.specs.Entries.{RowEntry, LineStateValue, Stopped, Stands, RowReading, ends_document, entry_of, entries, entries_below, with_lexeme, reading_or_fault, comment_or, comment_of, lexeme_of, after_lexeme, lexemes_up_to_fault, sound_state, stopped_rows}
use Rattle.yl_row.specs.Run.{lexeme_reading_by, row_reading_by, entries_by}
use Rattle.yl_row.proofs.Agree.{run-entries}
use Rattle.yl_scan.specs.Restart.{state_at}
use Rattle.yl_scan.specs.Resume.{from_state}
use Rattle.yl_scan.proofs.Resumed.{resumed}
use Rattle.yl_scan.proofs.Restarts.{prefix}
use Rattle.yl_events.specs.Documents.{is_document_start, is_document_end, is_directive}
use Rattle.yl_record.specs.Records.{RecordValue, records, records_with}
use Rattle.yl_sections.specs.Sections.{is_section_start}
use Rattle.yl_sections.specs.Local.{kind_after, begins_section, is_start_at}
use Rattle.yl_sections.specs.Front.{IsFront, LostLaw}
use Rattle.yl_sections.proofs.Cuts.{none_begins}
use Rattle.yl_sections.proofs.Last.{last_kept, stopped_empty, run_count, none_stands}

-- ---- the lexeme at a place

-- a fault for a tab stands at the row's first tab
abbrev OnlyTab : Option ℕ → Option PlacedScanFault → Type 0
OnlyTab tab o = (f : PlacedScanFault) → o ≡ Some f → is_tab f.fault ≡ true → tab ≡ Some f.column

only_none : (tab : Option ℕ) → OnlyTab tab None
only_none tab f e h = cc

only_other : (tab : Option ℕ) (g : PlacedScanFault) → is_tab g.fault ≡ false → OnlyTab tab (Some g)
only_other tab g n f e h = let same : g ≡ f = cc in let k : false ≡ true = sym n ∙ (ap (λ (x : PlacedScanFault). is_tab x.fault) same ∙ h) in cc

only_when : (tab : Option ℕ) (b : Bool) (fault : ScanFault) (column : ℕ) → is_tab fault ≡ false → OnlyTab tab (then_some b (fault_at fault column))
only_when tab true fault column n = only_other tab (fault_at fault column) n
only_when tab false fault column n = only_none tab

only_or : (tab : Option ℕ) (o p : Option PlacedScanFault) → OnlyTab tab o → OnlyTab tab p → OnlyTab tab (option_or o p)
only_or tab None p a b = b
only_or tab (Some f) p a b = a

only_either : (tab : Option ℕ) (b : Bool) (o p : Option PlacedScanFault) → OnlyTab tab o → OnlyTab tab p → OnlyTab tab (cond b o p)
only_either tab true o p c d = c
only_either tab false o p c d = d

only_if : (tab : Option ℕ) (b : Bool) (o : Option PlacedScanFault) → OnlyTab tab o → OnlyTab tab (cond b None o)
only_if tab true o a = only_none tab
only_if tab false o a = a

only_at : (tab : ℕ) (b : Bool) → OnlyTab (Some tab) (then_some b (fault_at TabInIndentation tab))
only_at tab true f e h = let same : fault_at TabInIndentation tab ≡ f = cc in ap (λ (x : PlacedScanFault). Some x.column) same
only_at tab false f e h = cc

only_before : (tab : Option ℕ) (column : ℕ) → OnlyTab tab (tab_before tab column)
only_before None column = only_none None
only_before (Some tab) column = only_at tab (ltb tab column)

only_placed : (tab : Option ℕ) (fault : ScanFault) (column : ℕ) (o : Option ℕ) → is_tab fault ≡ false → OnlyTab tab (option_map (λ (i : ℕ). fault_at fault (column + i)) o)
only_placed tab fault column None n = only_none tab
only_placed tab fault column (Some i) n = only_other tab (fault_at fault (column + i)) n

only_bad : (tab : Option ℕ) (column : ℕ) (cs : List ℕ) → OnlyTab tab (bad_in column cs)
only_bad tab column cs = only_placed tab NotAllowed column (first_bad cs) refl

scalar_no_tab : (fault : ScalarFault) → is_tab (of_scalar fault) ≡ false
scalar_no_tab scalar.NotAllowed = refl
scalar_no_tab scalar.UnclosedQuote = refl
scalar_no_tab scalar.MarkerInQuote = refl
scalar_no_tab scalar.BadEscape = refl
scalar_no_tab scalar.BadHeader = refl
scalar_no_tab scalar.BadIndentation = refl

-- it is no document's start, and only its row's first tab may be a fault as a tab
record Fits (tab : Option ℕ) (f : FoundLexemeValue) : Type 0 where
  pub other : is_document_start f.kind ≡ false
  pub tabs : OnlyTab tab f.fault

fits : {tab : Option ℕ} {f : FoundLexemeValue} → is_document_start f.kind ≡ false → OnlyTab tab f.fault → Fits tab f
fits a b = record { other = a; tabs = b }

either : (tab : Option ℕ) (b : Bool) (x y : FoundLexemeValue) → Fits tab x → Fits tab y → Fits tab (cond b x y)
either tab true x y p q = p
either tab false x y p q = q

scalar_fits : (tab : Option ℕ) (style : Style) (at : ℕ) (r : ScalarOutcomeValue) → Fits tab (scalar_found style at r)
scalar_fits tab style at (Whole e) = fits refl (only_none tab)
scalar_fits tab style at (Refused fault down column) = fits refl (only_other tab _ (scalar_no_tab fault))

only_key : (tab : Option ℕ) (key : Option ℕ) (o : Option PlacedScanFault) → OnlyTab tab o → OnlyTab tab (option_map_or (tab_before tab) key o)
only_key tab None o h = h
only_key tab (Some key) o h = only_before tab key

tag_fits : (tab : Option ℕ) (at : ℕ) (cs : List ℕ) (len : Option ℕ) → Fits tab (tag_found at cs len)
tag_fits tab at cs None = fits refl (only_other tab _ refl)
tag_fits tab at cs (Some len) = fits refl (only_bad tab (at + 1) (take len cs))

name_tabs : (tab : Option ℕ) (kind : Kind) (at : ℕ) (cs : List ℕ) → OnlyTab tab (name_found kind at cs).fault
name_tabs tab kind at cs = only_or tab _ _ (only_when tab (eqb (name_len cs) 0) _ at refl) (only_bad tab (at + 1) (take (name_len cs) cs))

-- of the lexeme at a place, or another
record TabsOr (tab : Option ℕ) (o : Option FoundLexemeValue) : Type 0 where
  pub or : (y : FoundLexemeValue) → OnlyTab tab y.fault → OnlyTab tab (unwrap_or o y).fault

tabs_none : (tab : Option ℕ) → TabsOr tab None
tabs_none tab = record { or = λ y h. h }

tabs_some : (tab : Option ℕ) (x : FoundLexemeValue) → OnlyTab tab x.fault → TabsOr tab (Some x)
tabs_some tab x p = record { or = λ y h. p }

tabs_either : (tab : Option ℕ) (b : Bool) (o p : Option FoundLexemeValue) → TabsOr tab o → TabsOr tab p → TabsOr tab (cond b o p)
tabs_either tab true o p a b = a
tabs_either tab false o p a b = b

record OtherOr (o : Option FoundLexemeValue) : Type 0 where
  pub or : (y : FoundLexemeValue) → is_document_start y.kind ≡ false → is_document_start (unwrap_or o y).kind ≡ false

other_none : OtherOr None
other_none = record { or = λ y h. h }

other_some : (x : FoundLexemeValue) → is_document_start x.kind ≡ false → OtherOr (Some x)
other_some x p = record { or = λ y h. p }

other_either : (b : Bool) (o p : Option FoundLexemeValue) → OtherOr o → OtherOr p → OtherOr (cond b o p)
other_either true o p a b = a
other_either false o p a b = b

other_marker : (b : Bool) (o p : Option FoundLexemeValue) → b ≡ false → OtherOr p → OtherOr (cond b o p)
other_marker true o p e h = absurd (cc)
other_marker false o p e h = h

module _ (rows : List (List ℕ)) (tab : Option ℕ) (at : ℕ) (a : Context) (c : ℕ) (cs : List ℕ) where
  word_at_fits : Fits tab (word_at rows at a c cs)
  word_at_fits =
      either tab (eqb c 0x26) _ _ (fits refl (name_tabs tab Anchor at cs)) (either tab (eqb c 0x2A) _ _ (fits refl (name_tabs tab Alias at cs)) (either tab (eqb c 0x21) _ _ (tag_fits tab at cs _)
      (either tab (eqb c 0x27) _ _ (scalar_fits tab _ _ _) (either tab (eqb c 0x22) _ _ (scalar_fits tab _ _ _) (either tab (eqb c 0x7C && not (in_flow a)) _ _ (scalar_fits tab _ _ _)
      (either tab (eqb c 0x3E && not (in_flow a)) _ _ (scalar_fits tab _ _ _) (either tab (is_plain_start (in_flow a) c cs) _ _ (scalar_fits tab _ _ _) (fits refl (only_other tab _ refl)))))))))

  block_at_fits : (first : Bool) → Fits tab (block_at rows tab first at a c cs)
  block_at_fits first =
      let refused : (fault : ScanFault) → is_tab fault ≡ false → OnlyTab tab (option_or (tab_before tab at) (then_some (not (may_begin first a)) (fault_at fault at))) =
      λ fault n. only_or tab _ _ (only_before tab at) (only_when tab (not (may_begin first a)) fault at n) in
      either tab (eqb c 0x2D && is_blank (take 1 cs)) _ _ (fits refl (only_either tab (in_flow a) _ _ (only_other tab _ refl) (refused EntryNotAllowed refl)))
      (either tab (eqb c 0x3F && is_blank (take 1 cs)) _ _ (fits refl (only_if tab (in_flow a) _ (refused KeyNotAllowed refl)))
      (either tab (eqb c 0x3A && is_value_at (in_flow a) a.last cs) _ _ (fits refl (only_if tab (in_flow a) _ (only_key tab (near at a.start) _ (refused ValueNotAllowed refl))))
      (either tab (eqb c 0x5B) _ _ (fits refl (only_none tab)) (either tab (eqb c 0x7B) _ _ (fits refl (only_none tab))
      (either tab (eqb c 0x5D) _ _ (fits refl (only_when tab _ _ at refl)) (either tab (eqb c 0x7D) _ _ (fits refl (only_when tab _ _ at refl))
      (either tab (eqb c 0x2C) _ _ (fits refl (only_when tab _ _ at refl)) word_at_fits)))))))

  document_tabs : TabsOr tab (document_at c cs a)
  document_tabs =
      tabs_either tab (is_marker_of 0x2D (c ∷ cs)) _ _ (tabs_some tab _ (only_none tab))
      (tabs_either tab (is_marker_of 0x2E (c ∷ cs)) _ _ (tabs_some tab _ (only_placed tab ContentAfterDocumentEnd 3 _ refl))
      (tabs_either tab _ _ _ (tabs_some tab _ (only_bad tab 0 (without_end (take (directive_len false (c ∷ cs)) (c ∷ cs))))) (tabs_none tab)))

  found_tabs : (first : Bool) → OnlyTab tab (found_at rows tab first at a c cs).fault
  unfolding found_at
  found_tabs first = (tabs_either tab (eqb at 0) _ _ document_tabs (tabs_none tab)).or (block_at rows tab first at a c cs) (block_at_fits first).tabs

  step_tabs : (first : Bool) → OnlyTab tab (option_or (place_fault tab first at a) (found_at rows tab first at a c cs).fault)
  step_tabs first = only_or tab (place_fault tab first at a) _ (by_first (first && not (in_flow a))) (found_tabs first)
    where
      by_first : (b : Bool) → OnlyTab tab (cond b (tab_before tab at) None)
      by_first true = only_before tab at
      by_first false = only_none tab

  document_other : is_marker_of 0x2D (c ∷ cs) ≡ false → OtherOr (document_at c cs a)
  document_other n =
      other_marker (is_marker_of 0x2D (c ∷ cs)) _ _ n
      (other_either (is_marker_of 0x2E (c ∷ cs)) _ _ (other_some _ refl) (other_either _ _ _ (other_some _ refl) other_none))

  -- none but a marker at the row's start starts a document
  found_other : (first : Bool) → (at ≡ 0 → is_marker_of 0x2D (c ∷ cs) ≡ false) → is_document_start (found_at rows tab first at a c cs).kind ≡ false
  unfolding found_at
  found_other first n = (by_column (eqb at 0) refl).or (block_at rows tab first at a c cs) (block_at_fits first).other
    where
      by_column : (b : Bool) → eqb at 0 ≡ b → OtherOr (cond b (document_at c cs a) None)
      by_column true e = document_other (n (eqb-true at 0 e))
      by_column false e = other_none

-- ---- a row from a place on

module _ (P : RowReading SurroundingsValue → Type 0) where
  one_of : (b : Bool) (x y : RowReading SurroundingsValue) → P x → P y → P (cond b x y)
  one_of true x y p q = p
  one_of false x y p q = q

abbrev HasTabs : Option ℕ → RowReading SurroundingsValue → Type 0
HasTabs tab r = OnlyTab tab r.fault

tabs_comment : (tab : Option ℕ) (c : CommentValue) (k : SurroundingsValue) (o : Option PlacedScanFault) → OnlyTab tab o → HasTabs tab (comment_or c k no_surroundings o)
tabs_comment tab c k None h = only_none tab
tabs_comment tab c k (Some f) h = h

tabs_chosen : (tab : Option ℕ) (x : LexemeValue) (more : RowReading SurroundingsValue) (o : Option PlacedScanFault) → OnlyTab tab o → HasTabs tab more → HasTabs tab (reading_or_fault x no_surroundings more o)
tabs_chosen tab x more None h g = g
tabs_chosen tab x more (Some f) h g = one_of (HasTabs tab) (ends_document x.kind) _ _ h h

tabs_after : (tab : Option ℕ) (at : ℕ) (found : FoundLexemeValue) (k : SurroundingsValue) (more : ℕ → RowReading SurroundingsValue) (down : ℕ) → ((skip : ℕ) → HasTabs tab (more skip)) → HasTabs tab (after_lexeme at found k more down)
tabs_after tab at found k more zero h = h (found.column - at - 1)
tabs_after tab at found k more (suc down) h = only_none tab

read_tabs : (rows : List (List ℕ)) (tab : Option ℕ) (skip : ℕ) (bs first : Bool) (at : ℕ) (k : SurroundingsValue) (cs : List ℕ) → HasTabs tab (row_reading_by rows tab skip bs first at k cs)
read_tabs rows tab skip bs first at k [] = only_none tab
read_tabs rows tab skip bs first at k (c ∷ cs) =
    let k0 = surroundings_at first at k in
    let found = found_at rows tab first at (context_of k0) c cs in
    let k' = surroundings_behind (past_lexeme at first (context_of k0) found.kind) k0 in
    one_of (HasTabs tab) (ltb 0 skip) _ _ (read_tabs rows tab (skip - 1) false first (at + 1) k cs)
    (one_of (HasTabs tab) (is_white c) _ _ (read_tabs rows tab 0 true first (at + 1) k cs)
    (one_of (HasTabs tab) (eqb c 35 && bs) _ _ (tabs_comment tab (comment_of at (c ∷ cs)) (new_row k) (bad_in at (c ∷ cs)) (only_bad tab at (c ∷ cs)))
    (tabs_chosen tab (lexeme_of at found) _ (option_or (place_fault tab first at (context_of k0)) found.fault) (step_tabs rows tab at (context_of k0) c cs first)
    (tabs_after tab at found (new_row k') (λ skip. row_reading_by rows tab skip false false (at + 1) k' cs) found.down (λ skip. read_tabs rows tab skip false false (at + 1) k' cs)))))

-- no lexeme starts a document
abbrev IsOther : LexemeValue → Type 0
IsOther x = is_document_start x.kind ≡ false

abbrev AreOther : RowReading SurroundingsValue → Type 0
AreOther r = AllByRecursion IsOther r.lexemes

other_comment : (c : CommentValue) (k : SurroundingsValue) (o : Option PlacedScanFault) → AreOther (comment_or c k no_surroundings o)
other_comment c k None = tt
other_comment c k (Some f) = tt

other_chosen : (x : LexemeValue) (more : RowReading SurroundingsValue) (o : Option PlacedScanFault) → IsOther x → AreOther more → AreOther (reading_or_fault x no_surroundings more o)
other_chosen x more None h g = (h, g)
other_chosen x more (Some f) h g = one_of AreOther (ends_document x.kind) _ _ (h, tt) tt

other_after : (at : ℕ) (found : FoundLexemeValue) (k : SurroundingsValue) (more : ℕ → RowReading SurroundingsValue) (down : ℕ) → ((skip : ℕ) → AreOther (more skip)) → AreOther (after_lexeme at found k more down)
other_after at found k more zero h = h (found.column - at - 1)
other_after at found k more (suc down) h = tt

further : (cs : List ℕ) (at : ℕ) → at + 1 ≡ 0 → is_marker_of 0x2D cs ≡ false
further cs at e = absurd (omega (arith, e))

read_other : (rows : List (List ℕ)) (tab : Option ℕ) (skip : ℕ) (bs first : Bool) (at : ℕ) (k : SurroundingsValue) (cs : List ℕ) → (at ≡ 0 → is_marker_of 0x2D cs ≡ false)
    → AreOther (row_reading_by rows tab skip bs first at k cs)
read_other rows tab skip bs first at k [] n = tt
read_other rows tab skip bs first at k (c ∷ cs) n =
    let k0 = surroundings_at first at k in
    let found = found_at rows tab first at (context_of k0) c cs in
    let k' = surroundings_behind (past_lexeme at first (context_of k0) found.kind) k0 in
    one_of AreOther (ltb 0 skip) _ _ (read_other rows tab (skip - 1) false first (at + 1) k cs (further cs at))
    (one_of AreOther (is_white c) _ _ (read_other rows tab 0 true first (at + 1) k cs (further cs at))
    (one_of AreOther (eqb c 35 && bs) _ _ (other_comment (comment_of at (c ∷ cs)) (new_row k) (bad_in at (c ∷ cs)))
    (other_chosen (lexeme_of at found) _ (option_or (place_fault tab first at (context_of k0)) found.fault) (found_other rows tab at (context_of k0) c cs first n)
    (other_after at found (new_row k') (λ skip. row_reading_by rows tab skip false false (at + 1) k' cs) found.down (λ skip. read_other rows tab skip false false (at + 1) k' cs (further cs at))))))

-- behind a fault stands no comment
abbrev HasNoComment : RowReading SurroundingsValue → Type 0
HasNoComment r = (f : PlacedScanFault) → r.fault ≡ Some f → r.comment ≡ None

silent_comment : (c : CommentValue) (k : SurroundingsValue) (o : Option PlacedScanFault) → HasNoComment (comment_or c k no_surroundings o)
silent_comment c k None f e = cc
silent_comment c k (Some g) f e = refl

silent_chosen : (x : LexemeValue) (more : RowReading SurroundingsValue) (o : Option PlacedScanFault) → HasNoComment more → HasNoComment (reading_or_fault x no_surroundings more o)
silent_chosen x more None g = g
silent_chosen x more (Some h) g = one_of HasNoComment (ends_document x.kind) _ _ (λ f e. refl) (λ f e. refl)

silent_after : (at : ℕ) (found : FoundLexemeValue) (k : SurroundingsValue) (more : ℕ → RowReading SurroundingsValue) (down : ℕ) → ((skip : ℕ) → HasNoComment (more skip)) → HasNoComment (after_lexeme at found k more down)
silent_after at found k more zero h = h (found.column - at - 1)
silent_after at found k more (suc down) h = λ f e. refl

read_silent : (rows : List (List ℕ)) (tab : Option ℕ) (skip : ℕ) (bs first : Bool) (at : ℕ) (k : SurroundingsValue) (cs : List ℕ) → HasNoComment (row_reading_by rows tab skip bs first at k cs)
read_silent rows tab skip bs first at k [] = λ f e. refl
read_silent rows tab skip bs first at k (c ∷ cs) =
    let k0 = surroundings_at first at k in
    let found = found_at rows tab first at (context_of k0) c cs in
    let k' = surroundings_behind (past_lexeme at first (context_of k0) found.kind) k0 in
    one_of HasNoComment (ltb 0 skip) _ _ (read_silent rows tab (skip - 1) false first (at + 1) k cs)
    (one_of HasNoComment (is_white c) _ _ (read_silent rows tab 0 true first (at + 1) k cs)
    (one_of HasNoComment (eqb c 35 && bs) _ _ (silent_comment (comment_of at (c ∷ cs)) (new_row k) (bad_in at (c ∷ cs)))
    (silent_chosen (lexeme_of at found) _ (option_or (place_fault tab first at (context_of k0)) found.fault)
    (silent_after at found (new_row k') (λ skip. row_reading_by rows tab skip false false (at + 1) k' cs) found.down (λ skip. read_silent rows tab skip false false (at + 1) k' cs)))))

-- whatever stands below, a row has lexemes or a fault in both texts, or no lexemes in both
abbrev EmptyAlike : RowReading SurroundingsValue → RowReading SurroundingsValue → Type 0
EmptyAlike r r' = r.lexemes ≡ [] → r.fault ≡ None → r'.lexemes ≡ []

alike_if : (b : Bool) (x y x' y' : RowReading SurroundingsValue) → EmptyAlike x x' → EmptyAlike y y' → EmptyAlike (cond b x y) (cond b x' y')
alike_if true x y x' y' p q = p
alike_if false x y x' y' p q = q

comment_empty : (c : CommentValue) (k : SurroundingsValue) (o : Option PlacedScanFault) → (comment_or c k no_surroundings o).lexemes ≡ []
comment_empty c k None = refl
comment_empty c k (Some f) = refl

abbrev IsEmpty : RowReading SurroundingsValue → Type 0
IsEmpty r = (r.lexemes ≡ []) × (r.fault ≡ None)

not_empty : (x : LexemeValue) (more : RowReading SurroundingsValue) (o : Option PlacedScanFault) → IsEmpty (reading_or_fault x no_surroundings more o) → ⊥
not_empty x more None h = let e : x ∷ more.lexemes ≡ [] = h.0 in cc
not_empty x more (Some f) h = one_of (λ r. IsEmpty r → ⊥) (ends_document x.kind) _ _ (λ g. let e : x ∷ [] ≡ [] = g.0 in cc) (λ g. let e : Some f ≡ None = g.1 in cc) h

read_alike : (rows rows' : List (List ℕ)) (tab : Option ℕ) (skip : ℕ) (bs first : Bool) (at : ℕ) (k : SurroundingsValue) (cs : List ℕ)
    → EmptyAlike (row_reading_by rows tab skip bs first at k cs) (row_reading_by rows' tab skip bs first at k cs)
read_alike rows rows' tab skip bs first at k [] = λ e f. refl
read_alike rows rows' tab skip bs first at k (c ∷ cs) =
    let k0 = surroundings_at first at k in
    let found = found_at rows tab first at (context_of k0) c cs in
    let k' = surroundings_behind (past_lexeme at first (context_of k0) found.kind) k0 in
    alike_if (ltb 0 skip) _ _ _ _ (read_alike rows rows' tab (skip - 1) false first (at + 1) k cs)
    (alike_if (is_white c) _ _ _ _ (read_alike rows rows' tab 0 true first (at + 1) k cs)
    (alike_if (eqb c 35 && bs) _ _ _ _ (λ e f. comment_empty (comment_of at (c ∷ cs)) (new_row k) (bad_in at (c ∷ cs)))
    (λ e f. absurd (not_empty (lexeme_of at found) (after_lexeme at found (new_row k') (λ skip. row_reading_by rows tab skip false false (at + 1) k' cs) found.down) (option_or (place_fault tab first at (context_of k0)) found.fault) (e, f)))))

-- ---- a row that starts a document

abbrev is_tab_character : ℕ → Bool
is_tab_character c = eqb c 9

three_tabs : (t : ℕ) (rest : List ℕ) → position is_tab_character (0x2D ∷ 0x2D ∷ 0x2D ∷ rest) ≡ Some t → 3 ≤ t
three_tabs t rest h = by_len (position_or_len is_tab_character rest) h
  where
    by_len : (n : ℕ) → cond (ltb (1 + (1 + (1 + n))) (length (0x2D ∷ 0x2D ∷ 0x2D ∷ rest))) (Some (1 + (1 + (1 + n)))) None ≡ Some t → 3 ≤ t
    by_len n e = by_case (ltb (1 + (1 + (1 + n))) (length (0x2D ∷ 0x2D ∷ 0x2D ∷ rest))) e
      where
        by_case : (b : Bool) → cond b (Some (1 + (1 + (1 + n)))) None ≡ Some t → 3 ≤ t
        by_case true g = let s : 1 + (1 + (1 + n)) ≡ t = cc in omega (arith, s)
        by_case false g = cc

below_zero : (t : ℕ) (b : Bool) → ltb t 0 ≡ b → b ≡ false
below_zero t true e = let l = ltb-true t 0 e in absurd (omega (arith, l))
below_zero t false e = refl

none_before : (tab : Option ℕ) → tab_before tab 0 ≡ None
none_before None = refl
none_before (Some t) = ap (λ b. then_some b (fault_at TabInIndentation t)) (below_zero t (ltb t 0) refl)

none_if : (b : Bool) (o : Option PlacedScanFault) → o ≡ None → cond b o None ≡ None
none_if true o e = e
none_if false o e = refl

abbrev start_found : FoundLexemeValue
start_found = found_in_row DocStart 3 [] None

no_step_fault : (tab : Option ℕ) (a : Context) → option_or (place_fault tab true 0 a) start_found.fault ≡ None
no_step_fault tab a = ap (λ (o : Option PlacedScanFault). option_or o None) (none_if (not (in_flow a)) (tab_before tab 0) (none_before tab))

abbrev ends_by : ℕ → LexemeValue → Bool
ends_by column x = x.end.line == 0 && nat_le x.end.col column

-- what is left of a row's lexemes begins a section as they do
start_left : (tab : Option ℕ) (last : Option Kind) (xs : List LexemeValue) (o : Option PlacedScanFault) → OnlyTab tab o → ((t : ℕ) → tab ≡ Some t → 3 ≤ t)
    → is_section_start last (lexemes_up_to_fault o (lexeme_of 0 start_found ∷ xs)) ≡ option_map_or (λ (l : Kind). is_beginning l DocStart) last false
start_left tab last xs None only far = refl
start_left tab last xs (Some f) only far = by_tab (is_tab f.fault) refl
  where
    by_tab : (b : Bool) → is_tab f.fault ≡ b → is_section_start last (cond b (filter (ends_by f.column) (lexeme_of 0 start_found ∷ xs)) (lexeme_of 0 start_found ∷ xs)) ≡ option_map_or (λ (l : Kind). is_beginning l DocStart) last false
    by_tab true e =
        let l : 3 ≤ f.column = far f.column (only f refl e) in
        ap (λ b. is_section_start last (cond b (lexeme_of 0 start_found ∷ filter (ends_by f.column) xs) (filter (ends_by f.column) xs))) (le-leb 3 f.column l)
    by_tab false e = refl

abbrev row_of : List (List ℕ) → SurroundingsValue → List ℕ → RowReading SurroundingsValue
row_of rows k row = row_reading_by rows (first_tab false row) 0 true true 0 k row

abbrev left_of : RowReading SurroundingsValue → List LexemeValue
left_of r = lexemes_up_to_fault r.fault r.lexemes

found_marker : (rows : List (List ℕ)) (tab : Option ℕ) (first : Bool) (a : Context) (c : ℕ) (cs : List ℕ) → is_marker_of 0x2D (c ∷ cs) ≡ true → found_at rows tab first 0 a c cs ≡ start_found
unfolding found_at
found_marker rows tab first a c cs m = rw m refl

module _ (rows : List (List ℕ)) (tab : Option ℕ) (k : SurroundingsValue) (cs : List ℕ) (marker : is_marker_of 0x2D (0x2D ∷ cs) ≡ true) where
  abbrev k0 : SurroundingsValue
  k0 = surroundings_at true 0 k

  abbrev k1 : SurroundingsValue
  k1 = surroundings_behind (past_lexeme 0 true (context_of k0) DocStart) k0

  abbrev more : ℕ → SurroundingsValue → RowReading SurroundingsValue
  more skip k' = row_reading_by rows tab skip false false 1 k' cs

  read_first : row_reading_by rows tab 0 true true 0 k (0x2D ∷ cs) ≡ lexeme_reading_by tab true 0 k0 more (found_at rows tab true 0 (context_of k0) 0x2D cs)
  read_first = refl {a = lexeme_reading_by tab true 0 k0 more (found_at rows tab true 0 (context_of k0) 0x2D cs)}

  read_start : lexeme_reading_by tab true 0 k0 more start_found ≡ reading_or_fault (lexeme_of 0 start_found) no_surroundings (more 2 k1) (option_or (place_fault tab true 0 (context_of k0)) start_found.fault)
  read_start = refl {a = reading_or_fault (lexeme_of 0 start_found) no_surroundings (more 2 k1) (option_or (place_fault tab true 0 (context_of k0)) start_found.fault)}

  marker_read : row_reading_by rows tab 0 true true 0 k (0x2D ∷ cs) ≡ with_lexeme (lexeme_of 0 start_found) (more 2 k1)
  marker_read =
      read_first
      ∙ (ap (λ (f : FoundLexemeValue). lexeme_reading_by tab true 0 k0 more f) (found_marker rows tab true (context_of k0) 0x2D cs marker)
      ∙ (read_start ∙ ap (λ (o : Option PlacedScanFault). reading_or_fault (lexeme_of 0 start_found) no_surroundings (more 2 k1) o) (no_step_fault tab (context_of k0))))

start_here : (rows : List (List ℕ)) (k : SurroundingsValue) (last : Option Kind) (rest : List ℕ) → is_marker_of 0x2D (0x2D ∷ 0x2D ∷ 0x2D ∷ rest) ≡ true
    → is_section_start last (left_of (row_of rows k (0x2D ∷ 0x2D ∷ 0x2D ∷ rest))) ≡ option_map_or (λ (l : Kind). is_beginning l DocStart) last false
start_here rows k last rest marker =
    let cs = 0x2D ∷ 0x2D ∷ rest in
    let tab = first_tab false (0x2D ∷ cs) in
    let behind = more rows tab k cs marker 2 (k1 rows tab k cs marker) in
    ap (λ (r : RowReading SurroundingsValue). is_section_start last (left_of r)) (marker_read rows tab k cs marker)
    ∙ start_left tab last behind.lexemes behind.fault (read_tabs rows tab 2 false false 1 (k1 rows tab k cs marker) cs) (λ t e. three_tabs t rest e)

hyphens : (x y z : ℕ) (rest : List ℕ) → is_marker_of 0x2D (x ∷ y ∷ z ∷ rest) ≡ true → (x ≡ 0x2D) × ((y ≡ 0x2D) × (z ≡ 0x2D))
hyphens x y z rest h =
    let p = and_parts _ _ h in
    let q = and_parts _ _ p.0 in
    let r = and_parts _ _ q.0 in
    (eqb-true x 0x2D r.0, (eqb-true y 0x2D r.1, eqb-true z 0x2D q.1))

marker_start : (rows : List (List ℕ)) (k : SurroundingsValue) (last : Option Kind) (row : List ℕ) → is_marker_of 0x2D row ≡ true → is_section_start last (left_of (row_of rows k row)) ≡ option_map_or (λ (l : Kind). is_beginning l DocStart) last false
marker_start rows k last [] h = cc
marker_start rows k last (x ∷ []) h = cc
marker_start rows k last (x ∷ y ∷ []) h = cc
marker_start rows k last (x ∷ y ∷ z ∷ rest) h =
    let p = hyphens x y z rest h in
    let e : x ∷ y ∷ z ∷ rest ≡ 0x2D ∷ 0x2D ∷ 0x2D ∷ rest = ap (λ a. a ∷ y ∷ z ∷ rest) p.0 ∙ (ap (λ a. 0x2D ∷ a ∷ z ∷ rest) p.1.0 ∙ ap (λ a. 0x2D ∷ 0x2D ∷ a ∷ rest) p.1.1) in
    subst (λ (cs : List ℕ). is_section_start last (left_of (row_of rows k cs)) ≡ option_map_or (λ (l : Kind). is_beginning l DocStart) last false) (sym e)
    (start_here rows k last rest (subst (λ (cs : List ℕ). is_marker_of 0x2D cs ≡ true) e h))

-- ---- a row that began no section

-- some of them
all_left : (p : LexemeValue → Bool) (xs : List LexemeValue) → AllByRecursion IsOther xs → AllByRecursion IsOther (filter p xs)
all_left p [] h = tt
all_left p (x ∷ xs) h = by_test (p x) (all_left p xs h.1)
  where
    by_test : (b : Bool) → AllByRecursion IsOther (filter p xs) → AllByRecursion IsOther (cond b (x ∷ filter p xs) (filter p xs))
    by_test true g = (h.0, g)
    by_test false g = g

left_other : (o : Option PlacedScanFault) (xs : List LexemeValue) → AllByRecursion IsOther xs → AllByRecursion IsOther (lexemes_up_to_fault o xs)
left_other None xs h = h
left_other (Some f) xs h = by_tab (is_tab f.fault)
  where
    by_tab : (b : Bool) → AllByRecursion IsOther (cond b (filter (ends_by f.column) xs) xs)
    by_tab true = all_left (ends_by f.column) xs h
    by_tab false = h

none_left : (o : Option PlacedScanFault) → lexemes_up_to_fault o [] ≡ []
none_left None = refl
none_left (Some f) = by_tab (is_tab f.fault)
  where
    by_tab : (b : Bool) → cond b (filter (ends_by f.column) []) [] ≡ []
    by_tab true = refl
    by_tab false = refl

-- a section that begins with none of them a document's start begins behind a document's end
behind_end : (last : Option Kind) (xs : List LexemeValue) → AllByRecursion IsOther xs → is_section_start last xs ≡ true → (l : Kind) × ((last ≡ Some l) × (is_document_end l ≡ true))
behind_end last [] h b = absurd (cc)
behind_end None (x ∷ xs) h b = absurd (cc)
behind_end (Some l) (x ∷ xs) h b = by_end (is_document_end l) refl
  where
    by_end : (t : Bool) → is_document_end l ≡ t → (m : Kind) × ((Some l ≡ Some m) × (is_document_end m ≡ true))
    by_end true e = (l, (refl, e))
    by_end false e =
        let f : option_map_or (λ (l : Kind). is_beginning l x.kind) (Some l) false ≡ false = rw (e, h.0) refl in
        let g : true ≡ false = sym b ∙ f in
        absurd (cc)

-- behind it each lexeme begins one
none_behind_end : (last : Option Kind) (l : Kind) (xs : List LexemeValue) → last ≡ Some l → is_document_end l ≡ true → is_section_start last xs ≡ false → xs ≡ []
none_behind_end last l [] e d b = refl
none_behind_end last l (x ∷ xs) e d b =
    let f : is_section_start last (x ∷ xs) ≡ true = ap (λ (k : Option Kind). option_map_or (λ (l : Kind). is_beginning l x.kind) k false) e ∙ ap (λ t. t || (is_document_start x.kind && not (is_directive l))) d in
    let g : true ≡ false = sym f ∙ b in
    absurd (cc)

-- the row as it was read
record IsLost (r : RowReading SurroundingsValue) : Type 0 where
  pub lexemes : left_of r ≡ []
  pub fault : PlacedScanFault
  pub failed : r.fault ≡ Some fault

module _ (rows rows' : List (List ℕ)) (k : SurroundingsValue) (last : Option Kind) (row : List ℕ) (before : is_section_start last (left_of (row_of rows k row)) ≡ false)
    (after : is_section_start last (left_of (row_of rows' k row)) ≡ true) where
  abbrev old : RowReading SurroundingsValue
  old = row_of rows k row

  abbrev new : RowReading SurroundingsValue
  new = row_of rows' k row

  no_marker : (b : Bool) → is_marker_of 0x2D row ≡ b → b ≡ false
  no_marker true e = let f : false ≡ true = sym before ∙ (marker_start rows k last row e ∙ (sym (marker_start rows' k last row e) ∙ after)) in absurd (cc)
  no_marker false e = refl

  failed_row : left_of old ≡ [] → (o : Option PlacedScanFault) → old.fault ≡ o → IsLost old
  failed_row none (Some f) e = record { lexemes = none; fault = f; failed = e }
  failed_row none None e =
      let empty : old.lexemes ≡ [] = sym (ap (λ (p : Option PlacedScanFault). lexemes_up_to_fault p old.lexemes) e) ∙ none in
      let there : new.lexemes ≡ [] = read_alike rows rows' (first_tab false row) 0 true true 0 k row empty e in
      let f : is_section_start last (left_of new) ≡ false = ap (λ (xs : List LexemeValue). is_section_start last (lexemes_up_to_fault new.fault xs)) there ∙ ap (is_section_start last) (none_left new.fault) in
      let g : true ≡ false = sym after ∙ f in
      absurd (cc)

  lost_row : IsLost old
  lost_row =
      let n = no_marker (is_marker_of 0x2D row) refl in
      let other = left_other new.fault new.lexemes (read_other rows' (first_tab false row) 0 true true 0 k row (λ e. n)) in
      let d = behind_end last (left_of new) other after in
      failed_row (none_behind_end last d.0 (left_of old) d.1.0 d.1.1 before) old.fault refl

-- ---- rows

abbrev IsBareEntry : RowEntry → Type 0
IsBareEntry e = (e.lexemes ≡ []) × (e.comment ≡ None)

stopped_bare : (to_end : Bool) (down : ℕ) (rows : List (List ℕ)) → AllByRecursion IsBareEntry (stopped_rows to_end down rows)
stopped_bare to_end zero [] = tt
stopped_bare to_end (suc down) [] = tt
stopped_bare to_end zero (_ ∷ rows) = ((refl, refl), stopped_bare to_end 0 rows)
stopped_bare to_end (suc down) (_ ∷ rows) = ((refl, refl), stopped_bare to_end down rows)

lost_entries : (s : Option LineStateValue) (r : RowReading SurroundingsValue) (rows : List (List ℕ)) (more : ℕ → ℕ → SurroundingsValue → List RowEntry) → IsLost r → HasNoComment r
    → AllByRecursion IsBareEntry (entry_of s r ∷ entries_below more rows r r.fault)
lost_entries s r rows more h silent =
    let below : AllByRecursion IsBareEntry (entries_below more rows r r.fault) = subst (λ (o : Option PlacedScanFault). AllByRecursion IsBareEntry (entries_below more rows r o)) (sym h.failed) (stopped_bare (is_unclosed h.fault.fault) h.fault.down rows) in
    ((h.lexemes, silent h.fault h.failed), below)

-- no fault stands above a sound row that none stands before
abbrev KeepsSound : List RowEntry → Type 0
KeepsSound es = (i : ℕ) (levels : List ℕ) (brackets : List Kind) (z : Option Kind) → state_at es i ≡ Some (Stands levels brackets z) → (j : ℕ) (e : RowEntry) → j < i → slice_get es j ≡ Some e → e.fault ≡ None

stopped_never : (to_end : Bool) (down : ℕ) (rows : List (List ℕ)) (i : ℕ) (levels : List ℕ) (brackets : List Kind) (z : Option Kind) (P : Type 0) → state_at (stopped_rows to_end down rows) i ≡ Some (Stands levels brackets z) → P
stopped_never to_end down [] i levels brackets z P h = cc
stopped_never to_end zero (row ∷ rows) zero levels brackets z P h = none_stands (is_blank row || to_end) levels brackets z P h
stopped_never to_end zero (row ∷ rows) (suc i) levels brackets z P h = stopped_never to_end 0 rows i levels brackets z P h
stopped_never to_end (suc down) (row ∷ rows) zero levels brackets z P h = cc
stopped_never to_end (suc down) (row ∷ rows) (suc i) levels brackets z P h = stopped_never to_end down rows i levels brackets z P h

onto_sound : (s : Option LineStateValue) (r : RowReading SurroundingsValue) (rows : List (List ℕ)) (more : ℕ → ℕ → SurroundingsValue → List RowEntry) (o : Option PlacedScanFault) → r.fault ≡ o
    → ((down column : ℕ) (k : SurroundingsValue) → KeepsSound (more down column k)) → KeepsSound (entry_of s r ∷ entries_below more rows r o)
onto_sound s r rows more o is keep zero levels brackets z h j e l at = absurd (omega (arith, l))
onto_sound s r rows more (Some f) is keep (suc i) levels brackets z h j e l at = stopped_never (is_unclosed f.fault) f.down rows i levels brackets z (e.fault ≡ None) h
onto_sound s r rows more None is keep (suc i) levels brackets z h zero e l at = let same : entry_of s r ≡ e = cc in ap (λ (x : RowEntry). x.fault) (sym same) ∙ is
onto_sound s r rows more None is keep (suc i) levels brackets z h (suc j) e l at = keep r.down r.column r.behind i levels brackets z h j e (omega (arith, l)) at

run_sound : (start : Bool) (down column : ℕ) (k : SurroundingsValue) (rows : List (List ℕ)) → KeepsSound (entries_by start down column k rows)
run_sound start down column k [] = λ i levels brackets z h j e l at. cc
run_sound start zero column k (row ∷ rows) =
    let r = row_reading_by rows (first_tab false row) 0 true true 0 k row in
    onto_sound (sound_state start row (context_of k)) r rows (λ down column k. entries_by false down column k rows) r.fault refl (λ down column k. run_sound false down column k rows)
run_sound start (suc zero) column k (row ∷ rows) =
    let r = row_reading_by rows (first_tab true row) column false false 0 k row in
    onto_sound None r rows (λ down column k. entries_by false down column k rows) r.fault refl (λ down column k. run_sound false down column k rows)
run_sound start (suc (suc down)) column k (row ∷ rows) = inside (run_sound false (suc down) column k rows)
  where
    inside : KeepsSound (entries_by false (suc down) column k rows) → KeepsSound (entries_by start (suc (suc down)) column k (row ∷ rows))
    inside keep zero levels brackets z h j e l at = absurd (omega (arith, l))
    inside keep (suc i) levels brackets z h zero e l at = let same : record { state = None; lexemes = []; comment = None; fault = None } ≡ e = cc in sym (ap (λ (x : RowEntry). x.fault) same)
    inside keep (suc i) levels brackets z h (suc j) e l at = keep i levels brackets z h j e (omega (arith, l)) at

-- ---- two texts

-- rows that are the same down to one of them
record GoOn (t u : List (List ℕ)) (r : ℕ) : Type 0 where
  pub row : List ℕ
  pub below : List (List ℕ)
  pub below' : List (List ℕ)
  pub old : drop r t ≡ row ∷ below
  pub new : drop r u ≡ row ∷ below'

go_on : (r : ℕ) (t u : List (List ℕ)) → take (suc r) t ≡ take (suc r) u → r < length u → GoOn t u r
go_on r t [] h l = absurd (omega (arith, l))
go_on r [] (y ∷ u) h l = cc
go_on zero (x ∷ t) (y ∷ u) h l = let e : x ≡ y = cc in record { row = y; below = t; below' = u; old = ap (λ c. c ∷ t) e; new = refl }
go_on (suc r) (x ∷ t) (y ∷ u) h l =
    let more : take (suc r) t ≡ take (suc r) u = cc in
    let g = go_on r t u more (omega (arith, l)) in
    record { row = g.row; below = g.below; below' = g.below'; old = g.old; new = g.new }

state_within : (es : List RowEntry) (i : ℕ) (s : LineStateValue) → state_at es i ≡ Some s → i < length es
state_within [] i s h = absurd (cc)
state_within (e ∷ es) zero s h = omega arith
state_within (e ∷ es) (suc i) s h = let l = state_within es i s h in omega (arith, l)

-- of the row's record
start_of_entry : (last : Option Kind) (r : ℕ) (ns : List ℕ) (es : List RowEntry) (e : RowEntry) (rest : List RowEntry) → length es ≤ length ns → drop r es ≡ e ∷ rest → begins_section last (drop r (records_with ns es)) ≡ is_section_start last e.lexemes
start_of_entry last zero [] [] e rest l h = absurd (cc)
start_of_entry last (suc r) [] [] e rest l h = absurd (cc)
start_of_entry last r [] (x ∷ es) e rest l h = absurd (omega (arith, l))
start_of_entry last zero (n ∷ ns) [] e rest l h = absurd (cc)
start_of_entry last zero (n ∷ ns) (x ∷ es) e rest l h = let same : x ≡ e = cc in ap (λ (y : RowEntry). is_section_start last y.lexemes) same
start_of_entry last (suc r) (n ∷ ns) [] e rest l h = absurd (cc)
start_of_entry last (suc r) (n ∷ ns) (x ∷ es) e rest l h = start_of_entry last r ns es e rest (omega (arith, l)) h

entry_of_record : (i : ℕ) (ns : List ℕ) (es : List RowEntry) (x : RecordValue) → slice_get (records_with ns es) i ≡ Some x → slice_get es i ≡ Some x.entry
entry_of_record i [] es x h = cc
entry_of_record i (n ∷ ns) [] x h = cc
entry_of_record zero (n ∷ ns) (e ∷ es) x h = let same : record { indentation = n; entry = e } ≡ x = cc in ap (λ (y : RecordValue). Some y.entry) same
entry_of_record (suc i) (n ∷ ns) (e ∷ es) x h = entry_of_record i ns es x h

bare_at : (r i : ℕ) (es : List RowEntry) (e : RowEntry) → AllByRecursion IsBareEntry (drop r es) → r ≤ i → slice_get es i ≡ Some e → IsBareEntry e
bare_at r i [] e h l at = cc
bare_at zero zero (x ∷ es) e h l at = let same : x ≡ e = cc in subst IsBareEntry same h.0
bare_at zero (suc i) (x ∷ es) e h l at = bare_at 0 i es e h.1 (omega arith) at
bare_at (suc r) zero (x ∷ es) e h l at = absurd (omega (arith, l))
bare_at (suc r) (suc i) (x ∷ es) e h l at = bare_at r i es e h (omega (arith, l)) at

no_start : (rs : List RecordValue) → is_start_at rs 0 ≡ false
no_start [] = refl
no_start (r ∷ rs) = none_begins r.entry.lexemes

some_state : (o : Option LineStateValue) → IsSome o → (s : LineStateValue) × (o ≡ Some s)
some_state None h = absurd (cc)
some_state (Some s) h = (s, refl)

quiet_start : (last : Option Kind) (rs : List RecordValue) → AllByRecursion (λ r. r.entry.lexemes ≡ []) rs → begins_section last rs ≡ false
quiet_start last [] h = refl
quiet_start last (r ∷ rs) h = ap (is_section_start last) h.0

module _ (t : List (List ℕ)) (r : ℕ) where
  few_entries : length (entries t) ≤ length (map indentation t)
  few_entries = let many : length (entries t) ≡ length (map indentation t) = sym (ap length (run-entries t)) ∙ run_count true 0 0 no_surroundings t ∙ sym (length-map t indentation) in omega (arith, many)

  -- whether it begins a section, by its reading
  start_by : (levels : List ℕ) (brackets : List Kind) (last : Option Kind) (row : List ℕ) (below : List (List ℕ)) → state_at (entries t) r ≡ Some (Stands levels brackets last) → drop r t ≡ row ∷ below
      → is_start_at (records t) r ≡ is_section_start last (left_of (row_of below (row_start levels brackets last) row))
  start_by levels brackets last row below s here =
      let k = row_start levels brackets last in
      let rd = row_of below k row in
      let es : drop r (entries t) ≡ entry_of (sound_state true row (context_of k)) rd ∷ entries_below (λ down column k. entries_by false down column k below) below rd rd.fault
      = resumed t r (Stands levels brackets last) s ∙ ap (from_state (Stands levels brackets last)) here in
      ap (λ (o : Option Kind). begins_section o (drop r (records t))) (last_kept t r levels brackets last s)
      ∙ start_of_entry last r (map indentation t) (entries t) _ _ few_entries es

  front_by : (levels : List ℕ) (brackets : List Kind) (last : Option Kind) (row : List ℕ) (below : List (List ℕ)) → state_at (entries t) r ≡ Some (Stands levels brackets last) → drop r t ≡ row ∷ below
      → IsLost (row_of below (row_start levels brackets last) row) → IsFront r (records t)
  front_by levels brackets last row below s here lost =
      let k = row_start levels brackets last in
      let rd = row_of below k row in
      let es : drop r (entries t) ≡ entry_of (sound_state true row (context_of k)) rd ∷ entries_below (λ down column k. entries_by false down column k below) below rd rd.fault
      = resumed t r (Stands levels brackets last) s ∙ ap (from_state (Stands levels brackets last)) here in
      let bare : AllByRecursion IsBareEntry (drop r (entries t)) = subst (AllByRecursion IsBareEntry) (sym es)
      (lost_entries (sound_state true row (context_of k)) rd below (λ down column k. entries_by false down column k below) lost (read_silent below (first_tab false row) 0 true true 0 k row)) in
      let sound = subst KeepsSound (run-entries t) (run_sound true 0 0 no_surroundings t) in
      record {
        sound = λ i x l at. sound r levels brackets last s i x.entry l (entry_of_record i (map indentation t) (entries t) x at);
        bare = λ i x l at. bare_at r i (entries t) x.entry bare l (entry_of_record i (map indentation t) (entries t) x at);
      }

module _ (old new : List (List ℕ)) (r : ℕ) (same : take (r + 1) old ≡ take (r + 1) new) (before : is_start_at (records old) r ≡ false) (after : is_start_at (records new) r ≡ true) where
  by_state : (s : LineStateValue) → state_at (entries new) r ≡ Some s → IsFront r (records old)
  by_state Stopped e =
      let f : is_start_at (records new) r ≡ false = quiet_start (kind_after None (take r (records new))) (drop r (records new)) (stopped_empty new r e) in
      let g : true ≡ false = sym after ∙ f in
      absurd (cc)
  by_state (Stands levels brackets last) e =
      let k = row_start levels brackets last in
      let many : length (entries new) ≡ length new = sym (ap length (run-entries new)) ∙ run_count true 0 0 no_surroundings new in
      let rows = go_on r old new (rw (← add-one) same) (omega (arith, state_within (entries new) r (Stands levels brackets last) e, many)) in
      let there : state_at (entries old) r ≡ Some (Stands levels brackets last) = (prefix old new r same).0 ∙ e in
      front_by old r levels brackets last rows.row rows.below there rows.old
      (lost_row rows.below rows.below' k last rows.row (sym (start_by old r levels brackets last rows.row rows.below there rows.old) ∙ before)
      (sym (start_by new r levels brackets last rows.row rows.below' e rows.new) ∙ after))

pub lost_rows : LostLaw
lost_rows old new r above sound before after = elim above [
  | inl z ↦ let g : true ≡ false = sym after ∙ (ap (λ n. is_start_at (records new) n) z ∙ no_start (records new)) in absurd (cc)
  | inr same ↦ elim sound [
    | inl z ↦ let g : true ≡ false = sym after ∙ (ap (λ n. is_start_at (records new) n) z ∙ no_start (records new)) in absurd (cc)
    | inr s ↦ let p = some_state (state_at (entries new) r) s in by_state old new r same before after p.0 p.1
  ]
]
