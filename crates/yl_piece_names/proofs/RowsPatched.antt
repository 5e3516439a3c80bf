-- What the rules on keys and anchors find in a section where rows come in place of others.
use Rattle.std.proofs.Common.{◌≡◌, ℕ, ◌+◌, ◌-◌, ◌<◌, arith, List, [], ◌∷◌, ◌++◌, map, length, true, not, ◌&&◌, Option, Some, None, refl, sym, ◌∙◌, ap, subst, append_assoc, zero-add}
use Rattle.std.specs.Prelude.{IsPermutation}
use Rattle.std.specs.List.{AllByRecursion}
use Rattle.std.proofs.lemmas.List.{length-append, map-append}
use Rattle.yl_text.specs.declared.position.Pos.{Pos}
use Rattle.yl_text.specs.Finding.{FindingValue}
use Rattle.yl_text.proofs.Every.{all_both, all_then}
use Rattle.yl_lexeme.specs.Lexeme.{LexemeValue}
use Rattle.yl_events.specs.declared.fault.ParseFault.{ParseFault}
use Rattle.yl_events.specs.declared.fault.PlacedParseFault.{PlacedParseFault}
use Rattle.yl_events.specs.Event.{EventValue}
use Rattle.yl_lexeme_rules.specs.LexemesAlike.{after_lexemes, finding_below, is_settled, lexemes_state}
use Rattle.yl_tree.specs.declared.options.TreeOptions.{TreeOptions}
use Rattle.yl_tree.specs.OpenNodes.{OpenNodes}
use Rattle.yl_config.specs.declared.config.Config.{Config}
use Rattle.yl_record.specs.Records.{RecordValue}
use Rattle.yl_sections.specs.Judge.{document_of}
use Rattle.yl_sections.specs.Kept.{event_findings, tree_options_of}
use Rattle.yl_sections.specs.Sections.{lexemes_from, lexemes_of}
use Rattle.yl_sections.proofs.RowJudging.{lexemes_of_both}
use Rattle.yl_pieces.specs.State.{DocumentState, lexemes_from_state, start_state}
use Rattle.yl_pieces.specs.Told.{Told, end_fault, fault_in, is_border, state_after}
use Rattle.yl_pieces.specs.Laws.{AreClosed, AreJoined, document_fault, fault_after}
use Rattle.yl_open_collections.specs.OpenBy.{without_keys}
use Rattle.yl_pieces.specs.DuplicatesOfRuns.{event_below, place_below}
use Rattle.yl_pieces.specs.Edit.{IsEditTold, IsPieceAfter, IsPieceEdit, after_front, after_next}
use Rattle.yl_pieces.specs.Events.{end_events, events_in, start_event, without_anchor}
use Rattle.yl_pieces.specs.Patched.{finding_moved, list_patched, row_of}
use Rattle.yl_pieces.proofs.EditTold.{edit_told, none_there, none_told}
use Rattle.yl_pieces.proofs.EventsJoined.{events_joined}
use Rattle.yl_pieces.proofs.EventsOfSection.{events_of_section}
use Rattle.yl_pieces.proofs.JoinedTold.{all_joined}
use Rattle.yl_pieces.proofs.OfSection.{told_of_section}
use Rattle.yl_piece_names.specs.Moved.{IfNamed, IsAbove, IsFrom, IsIn, event_moved, place_of_reference}
use Rattle.yl_piece_names.specs.SameNames.{LeaveSameKeys}
use Rattle.yl_piece_names.specs.Asked.{HasPlace}
use Rattle.yl_piece_names.specs.AnchorsPatched.{ReferencesEdit, placeless}
use Rattle.yl_piece_names.specs.TreePatched.{AreFoundAlone, EventsEdit, IsFoundBelow, tree_findings_after}
use Rattle.yl_piece_names.specs.RowsPatched.{AreRowsPatched, HaveSameReferences, IsFoundNow, RowNamesStay, RowsArePatched, event_parts, events_alone, events_behind, events_of_rows, open_behind, reference_parts, references_in, row_findings}
use Rattle.yl_piece_names.proofs.EventsPlaced.{events_placed}
use Rattle.yl_piece_names.proofs.RowsEvents.{end_stands, end_stays, events_from_1, events_onto, events_stand, in_above, in_from, named_in}
use Rattle.yl_piece_names.proofs.RowsReferences.{references_from_1, references_onto, references_stand, rows_apart, rows_refer, three_parts}
use Rattle.yl_piece_names.proofs.SameNames.{same_names}
use Rattle.yl_piece_names.proofs.TreePatched.{found_alone, tree_patched}
use Rattle.yl_piece_names.proofs.AnchorsPatched.{placeless_at}

-- ---- a lexeme stands above a border

some_read : (xs : List LexemeValue) → (is_settled (lexemes_state (after_lexemes (lexemes_from_state start_state.lexemes) xs)) && not (lexemes_state (after_lexemes (lexemes_from_state start_state.lexemes) xs)).in_directives) ≡ true
    → 0 < length xs
some_read [] h = cc
some_read (x ∷ xs) h = omega arith

pub some_lexeme : (front more : List RecordValue) → is_border (after_front front) ≡ true → 0 < length (lexemes_of (front ++ more))
some_lexeme front more border =
    let some : 0 < length (lexemes_from 0 front) = some_read (lexemes_from 0 front) border in
    let both : length (lexemes_of (front ++ more)) ≡ length (lexemes_from 0 front) + length (lexemes_from (0 + length front) more) =
    ap length (lexemes_of_both 0 front more) ∙ length-append (lexemes_from 0 front) (lexemes_from (0 + length front) more) in
    omega (arith, some, both)

-- ---- the fault of a document

none_at_end : (n : ℕ) (f : Option ParseFault) → fault_after n f ≡ None → f ≡ None
none_at_end n None h = refl
none_at_end n (Some f) h = cc

-- no fault among the rows, and none at the end
fault_parts : (rs : List RecordValue) (f : Option PlacedParseFault) → document_fault rs f ≡ None → (f ≡ None) × (end_fault (state_after start_state 0 rs) ≡ None)
fault_parts rs None h = (refl, none_at_end (length (lexemes_of rs)) (end_fault (state_after start_state 0 rs)) h)
fault_parts rs (Some f) h = cc

-- ---- a section in three parts

module _ (config : Config) (front rows rest : List RecordValue) (some : 0 < length front) (closed : AreClosed front) (sound : fault_in start_state 0 front ≡ None)
    (border : is_border (after_front front) ≡ true) (piece : IsPieceAfter front rows) (sound_all : fault_in start_state 0 (front ++ (rows ++ rest)) ≡ None) where
  abbrev before : DocumentState
  before = after_front front

  abbrev after : DocumentState
  after = after_next front rows

  abbrev n : ℕ
  n = length front

  upper : AreJoined config start_state 0 front (rows ++ rest)
  upper = all_joined config start_state 0 front (rows ++ rest) closed (omega (arith, some)) sound border

  lower : AreJoined config before n rows rest
  lower = all_joined config before n rows rest piece.closed (omega (arith, some)) piece.sound piece.border

  sound_lower : fault_in before (0 + n) (rows ++ rest) ≡ None
  sound_lower =
      none_there before (0 + n) (rows ++ rest) config
      (sym (ap (λ (t : Told). t.fault) upper.told_is) ∙ none_told start_state 0 (front ++ (rows ++ rest)) config sound_all)

  sound_there : fault_in before n (rows ++ rest) ≡ None
  sound_there = ap (λ k. fault_in before k (rows ++ rest)) (sym (zero-add n)) ∙ sound_lower

  sound_rest : fault_in after (n + length rows) rest ≡ None
  sound_rest =
      none_there after (n + length rows) rest config
      (sym (ap (λ (t : Told). t.fault) lower.told_is) ∙ none_told before n (rows ++ rest) config sound_there)

  pub three_runs : events_in start_state 0 (front ++ (rows ++ rest)) ≡ events_in start_state 0 front ++ (events_in before n rows ++ events_in after (n + length rows) rest)
  three_runs =
      events_joined start_state 0 front (rows ++ rest) closed (omega (arith, some)) sound sound_lower
      ∙ ap (λ k. events_in start_state 0 front ++ events_in before k (rows ++ rest)) (zero-add n)
      ∙ ap (λ es. events_in start_state 0 front ++ es) (events_joined before n rows rest piece.closed (omega (arith, some)) piece.sound sound_rest)

  pub document_runs : (document_of (lexemes_of (front ++ (rows ++ rest)))).fault ≡ None → map without_anchor (events_of_rows (front ++ (rows ++ rest)))
      ≡ (start_event ∷ events_in start_state 0 front) ++ (events_in before n rows ++ (events_in after (n + length rows) rest ++ end_events (state_after start_state 0 (front ++ (rows ++ rest)))))
  document_runs none =
      events_of_section (front ++ (rows ++ rest)) (some_lexeme front (rows ++ rest) border) none
      ∙ ap (λ es. start_event ∷ es)
      (ap (λ es. es ++ end_events (state_after start_state 0 (front ++ (rows ++ rest)))) three_runs
      ∙ append_assoc (events_in start_state 0 front) (events_in before n rows ++ events_in after (n + length rows) rest) (end_events (state_after start_state 0 (front ++ (rows ++ rest))))
      ∙ ap (λ es. events_in start_state 0 front ++ es) (append_assoc (events_in before n rows) (events_in after (n + length rows) rest) (end_events (state_after start_state 0 (front ++ (rows ++ rest))))))

-- ---- an edit

module _ (config : Config) (front old new rest : List RecordValue) (e : IsPieceEdit front old new) (none : (document_of (lexemes_of (front ++ (old ++ rest)))).fault ≡ None) where
  abbrev was : List RecordValue
  was = front ++ (old ++ rest)

  abbrev now : List RecordValue
  now = front ++ (new ++ rest)

  abbrev high : ℕ
  high = length front

  edit : IsEditTold config front old new rest
  edit = edit_told config front old new rest e

  was_some : 0 < length (lexemes_of was)
  was_some = some_lexeme front (old ++ rest) e.border

  now_some : 0 < length (lexemes_of now)
  now_some = some_lexeme front (new ++ rest) e.border

  was_parts : (fault_in start_state 0 was ≡ None) × (end_fault (state_after start_state 0 was) ≡ None)
  was_parts = fault_parts was (fault_in start_state 0 was) (sym ((told_of_section config was).fault was_some) ∙ none)

  now_sound : fault_in start_state 0 now ≡ None
  now_sound = edit.sound was_parts.0

  same_after : state_after start_state 0 was ≡ state_after start_state 0 now
  same_after = edit.state was_parts.0

  now_none : (document_of (lexemes_of now)).fault ≡ None
  now_none =
      (told_of_section config now).fault now_some
      ∙ ap (document_fault now) now_sound
      ∙ ap (fault_after (length (lexemes_of now))) (ap end_fault (sym same_after) ∙ was_parts.1)

  abbrev below : List EventValue
  below = (event_parts front old new rest).below

  down : (place : Option Pos) → IsIn (high + length old) (length rest) place → IsFrom (high + length old) place
  down place h = in_from (high + length old) (length rest) place h

  moved_below : map (event_moved (length old) (length new)) below ≡ events_in (after_next front new) (high + length new) rest ++ end_events (state_after start_state 0 now)
  moved_below =
      map-append (event_moved (length old) (length new)) (events_in (after_next front old) (high + length old) rest) (end_events (state_after start_state 0 was))
      ∙ (λ i. (events_onto (length old) (length new) (after_next front old) high rest e.some ∙ ap (λ s. events_in s (high + length new) rest) e.same) i
      ++ (end_stays (length old) (length new) (state_after start_state 0 was) ∙ ap end_events same_after) i)

  events_edit : EventsEdit (length front) (length old) (length new) (event_parts front old new rest) (events_of_rows was) (events_of_rows now)
  events_edit = record {
    was_is = document_runs config front old rest e.some e.closed e.sound e.border e.old_piece was_parts.0 none;
    now_is =
        document_runs config front new rest e.some e.closed e.sound e.border e.new_piece now_sound now_none
        ∙ ap (λ es. (start_event ∷ events_in start_state 0 front) ++ (events_behind front new ++ es)) (sym moved_below);
    stand_above = (tt, named_in (IsIn 0 high) (IsAbove high) (events_in start_state 0 front) (in_above high) (events_stand start_state 0 front));
    stand_in = named_in (IsIn high (length old)) (IsIn high (length old)) (events_behind front old) (λ place h. h) (events_stand (after_front front) high old);
    stand_below =
        all_both (IfNamed (IsFrom (high + length old))) (events_in (after_next front old) (high + length old) rest) (end_events (state_after start_state 0 was))
        (named_in (IsIn (high + length old) (length rest)) (IsFrom (high + length old)) (events_in (after_next front old) (high + length old) rest) down
        (events_stand (after_next front old) (high + length old) rest))
        (named_in (IsFrom (high + length old)) (IsFrom (high + length old)) (end_events (state_after start_state 0 was)) (λ place h. h)
        (end_stands (IsFrom (high + length old)) (state_after start_state 0 was) tt));
  }

  line_free : (rows : List RecordValue) → map placeless (references_in high rows) ≡ map placeless (references_in 1 rows)
  line_free rows = ap (map placeless) (references_from_1 high rows e.some) ∙ placeless_at (place_below (high - 1)) (references_in 1 rows)

  references_edit : HaveSameReferences old new
      → ReferencesEdit (length front) (length old) (length new) (reference_parts front old new rest) (events_of_rows was) (events_of_rows now)
  references_edit same = record {
    was_apart = rows_apart was was_some none;
    now_apart = rows_apart now now_some now_none;
    was_has = rows_refer was was_some none ∙ three_parts front old rest;
    now_has =
        rows_refer now now_some now_none
        ∙ three_parts front new rest
        ∙ ap (λ rs. references_in 0 front ++ (references_in high new ++ rs)) (sym (references_onto (length old) (length new) high rest));
    same_names = line_free old ∙ same ∙ sym (line_free new);
    stand_above =
        all_then (λ r. IsIn 0 high (place_of_reference r)) (λ r. IsAbove high (place_of_reference r)) (references_in 0 front) (λ r h. in_above high (place_of_reference r) h)
        (references_stand 0 front);
    stand_in = references_stand high old;
    stand_below =
        all_then (λ r. IsIn (high + length old) (length rest) (place_of_reference r)) (λ r. IsFrom (high + length old) (place_of_reference r)) (references_in (high + length old) rest)
        (λ r h. down (place_of_reference r) h) (references_stand (high + length old) rest);
  }

  -- ---- from line 1 on

  abbrev o : TreeOptions
  o = tree_options_of config

  abbrev s : OpenNodes
  s = open_behind front

  from_1 : (rows : List RecordValue) → events_behind front rows ≡ map (event_below (high - 1)) (events_alone front rows)
  from_1 rows = events_from_1 (after_front front) high rows e.some

  placed_1 : AllByRecursion HasPlace (events_alone front old)
  placed_1 = events_placed (after_front front) 1 old

  keys_below : LeaveSameKeys s (events_alone front old) (events_alone front new) → LeaveSameKeys s (events_behind front old) (events_behind front new)
  keys_below same =
      subst (λ es. LeaveSameKeys s es (events_behind front new)) (sym (from_1 old))
      (subst (λ es. LeaveSameKeys s (map (event_below (high - 1)) (events_alone front old)) es) (sym (from_1 new))
      (same_names.below (high - 1) s (events_alone front old) (events_alone front new) same))

  alone_below : AreFoundAlone o s (events_alone front new) → AreFoundAlone o s (events_behind front new)
  alone_below alone = subst (λ es. AreFoundAlone o s es) (sym (from_1 new)) (tree_patched.alone_below o (high - 1) s (events_alone front new) alone)

  there : tree_findings_after o (without_keys s) (events_behind front new) (references_in 0 front) (references_in high new) (references_in (high + length old) rest)
      ≡ map (finding_below (high - 1)) (row_findings config front old new rest)
  there =
      (λ i. tree_findings_after o (without_keys s) (from_1 new i) (references_in 0 front) (references_from_1 high new e.some i) (references_in (high + length old) rest))
      ∙ tree_patched.below o (high - 1) (without_keys s) (events_alone front new) (references_in 0 front) (references_in 1 new) (references_in (high + length old) rest)

  abbrev cut : List FindingValue → List FindingValue
  cut found = list_patched row_of (finding_moved (length old) (length new)) high (length old) (event_findings config (events_of_rows was)) found

  found_now : HaveSameReferences old new → IsFoundBelow o (event_parts front old new rest) → AreFoundAlone o s (events_alone front new) → IsFoundNow config front old new rest
  found_now same below alone =
      subst (λ fs. IsPermutation (event_findings config (events_of_rows now)) (cut fs))
      (found_alone s (events_behind front new) o (references_in 0 front) (references_in high new) (references_in (high + length old) rest) (alone_below alone) ∙ there)
      (tree_patched.all o high (length old) (length new) (event_parts front old new rest) (reference_parts front old new rest) (events_of_rows was) (events_of_rows now)
      events_edit (references_edit same) below)

  names_now : RowNamesStay o front old new → IsFoundNow config front old new rest
  names_now stay =
      found_now stay.references (tree_patched.same o s (events_behind front old) (events_behind front new) below (keys_below stay.keys))
      (tree_patched.stay o s (events_alone front old) (events_alone front new) (record { keys = stay.keys; asked = stay.asked; placed = placed_1; alone = stay.alone }))

  rows_patched : AreRowsPatched config front old new rest
  rows_patched = record { events = events_edit; references = references_edit; placed = placed_1; sound = now_none; found = found_now; names = names_now }

pub rows_are_patched : RowsArePatched
rows_are_patched = λ config front old new rest e none. rows_patched config front old new rest e none
