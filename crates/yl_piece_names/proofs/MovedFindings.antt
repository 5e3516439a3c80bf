-- What rules on events find at events that are moved.
use Rattle.std.specs.Prelude.{if◌then◌else◌, IfSome}
use Rattle.std.proofs.Common.{◌≡◌, ℕ, ◌+◌, ◌-◌, ◌≤◌, arith, List, [], ◌∷◌, ◌++◌, map, Bool, true, false, refl, sym, ◌∙◌, ap, codes, Option, Some, None, option_map}
use Rattle.std.specs.List.{AllByRecursion, flat_map}
use Rattle.std.specs.Str.{chars}
use Rattle.std.proofs.lemmas.List.{map-append}
use Rattle.yl_text.specs.declared.position.Pos.{Pos}
use Rattle.yl_text.specs.declared.finding.RuleId.{RuleId}
use Rattle.yl_text.specs.Finding.{FindingValue, one_finding}
use Rattle.yl_events.specs.Event.{EventValue}
use Rattle.yl_lexeme_rules.specs.LexemesAlike.{finding_below}
use Rattle.yl_tree.specs.Keys.{name_of}
use Rattle.yl_tree.specs.Messages.{name_finding, printed_character}
use Rattle.yl_tree.specs.OpenNodes.{OpenNodes, with_event, keys_if_next}
use Rattle.yl_open_collections.specs.Counted.{finding_among, key_findings_after}
use Rattle.yl_pieces.specs.DuplicatesOfRuns.{place_below}
use Rattle.yl_pieces.specs.Patched.{finding_moved}
use Rattle.yl_piece_names.specs.Moved.{IfNamed, IsFrom, place_moved, event_moved}

pub moved_if : (gone come : ℕ) (b : Bool) (fs gs : List FindingValue) → fs ≡ map (finding_moved gone come) gs → (if b then fs else []) ≡ map (finding_moved gone come) (if b then gs else [])
moved_if gone come true fs gs e = e
moved_if gone come false fs gs e = refl

module _ (rule : RuleId) (gone come : ℕ) where
  line_moved : (line column : ℕ) (message : List ℕ) → gone ≤ line → one_finding rule (line - gone + come + 1) column message ≡ map (finding_moved gone come) (one_finding rule (line + 1) column message)
  line_moved line column message from =
      let sum : line - gone + come + 1 ≡ line + 1 - gone + come = omega (arith, from) in
      ap (λ l. one_finding rule l column message) sum

  pub name_moved : (place : Option Pos) (front name back : List ℕ) → IsFrom gone place
      → name_finding rule (option_map (place_moved gone come) place) front name back ≡ map (finding_moved gone come) (name_finding rule place front name back)
  name_moved None front name back from = refl
  name_moved (Some p) front name back from = line_moved p.line (p.col + 1) (front ++ (flat_map printed_character (chars name) ++ back)) from

module _ (rule : RuleId) (n : ℕ) where
  line_below : (line column : ℕ) (message : List ℕ) → one_finding rule (n + line + 1) column message ≡ map (finding_below n) (one_finding rule (line + 1) column message)
  line_below line column message =
      let sum : n + line + 1 ≡ n + (line + 1) = omega arith in
      ap (λ l. one_finding rule l column message) sum

  pub name_below : (place : Option Pos) (front name back : List ℕ)
      → name_finding rule (option_map (place_below n) place) front name back ≡ map (finding_below n) (name_finding rule place front name back)
  name_below None front name back = refl
  name_below (Some p) front name back = line_below p.line (p.col + 1) (front ++ (flat_map printed_character (chars name) ++ back))

module _ (test : List (List ℕ) → List ℕ → Bool) (rule : RuleId) (words : List ℕ) (gone come : ℕ) where
  abbrev at : List (List ℕ) → EventValue → Option (List ℕ) → List FindingValue
  at = finding_among test rule words

  one_moved : (e : EventValue) (keys : List (List ℕ)) (name : Option (List ℕ)) → IfSome name (λ n. IsFrom gone e.place) → at keys (event_moved gone come e) name ≡ map (finding_moved gone come) (at keys e name)
  one_moved e keys None from = refl
  one_moved e keys (Some name) from =
      moved_if gone come (test keys name) (name_finding rule (option_map (place_moved gone come) e.place) words name (codes "\" in mapping"))
      (name_finding rule e.place words name (codes "\" in mapping")) (name_moved rule gone come e.place words name (codes "\" in mapping") from)

  pub keys_moved : (s : OpenNodes) (es : List EventValue) → AllByRecursion (IfNamed (IsFrom gone)) es
      → key_findings_after test rule words s (map (event_moved gone come) es) ≡ map (finding_moved gone come) (key_findings_after test rule words s es)
  keys_moved s [] from = refl
  keys_moved s (e ∷ es) from =
      ap (λ fs. fs ++ key_findings_after test rule words (with_event e s) (map (event_moved gone come) es)) (one_moved e (keys_if_next s.innermost) (name_of e) from.0)
      ∙ ap (λ gs. map (finding_moved gone come) (at (keys_if_next s.innermost) e (name_of e)) ++ gs) (keys_moved (with_event e s) es from.1)
      ∙ sym (map-append (finding_moved gone come) (at (keys_if_next s.innermost) e (name_of e)) (key_findings_after test rule words (with_event e s) es))
