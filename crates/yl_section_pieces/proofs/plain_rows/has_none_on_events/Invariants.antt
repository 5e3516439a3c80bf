use Rattle.std.proofs.Common.{◌≡◌, drop, false}
use Rattle.std.specs.List.{AllByRecursion}
use Rattle.yl_text.specs.Finding.{FindingValue}
use Rattle.yl_section_pieces.specs.Edit.{is_on_events}
use Rattle.yl_section_pieces.proofs.plain_rows.has_none_on_events.Given as goal

abbrev pub invariant-loop-finding : goal.invariant-loop-finding
invariant-loop-finding g l =
    AllByRecursion (λ (f : FindingValue). is_on_events f.rule ≡ false) (drop l.finding-index l.found) → AllByRecursion (λ (f : FindingValue). is_on_events f.rule ≡ false) l.found
