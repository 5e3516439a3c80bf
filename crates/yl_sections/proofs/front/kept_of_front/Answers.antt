use Rattle.std.proofs.Common.{◌≡◌, ◌++◌, ◌∙◌, ℕ, List, [], refl, Option}
use Rattle.std.specs.Option.{option_map}
use Rattle.yl_text.specs.Finding.{FindingValue}
use Rattle.yl_lexeme.specs.Lexeme.{PlacedCommentValue}
use Rattle.yl_indentation.specs.declared.fact.Fact.{Fact}
use Rattle.yl_sections.specs.Kept.{KeptValue, SectionFaultValue}
use Rattle.yl_sections.specs.Owned.{section_fault_value}
use Rattle.yl_sections.proofs.FrontRows.{front_judged}
use Rattle.yl_sections.proofs.front.kept_of_front.Goals as goal

-- both lists of findings, one after the other
both : (none one all found hidden xs ys : List FindingValue) → none ≡ [] → one ≡ none ++ xs → all ≡ one ++ ys → xs ≡ found → ys ≡ hidden → all ≡ found ++ hidden
both none one all found hidden xs ys a b c d e = rw (c, b, a, d, e) refl

parts : (rows : ℕ) (k new : KeptValue) (first : ℕ) (found hidden : List FindingValue) (facts : List Fact) (comments : List PlacedCommentValue) (fault : Option SectionFaultValue)
    → new ≡ record { rows = rows; first = first; found = found; facts = facts; comments = comments; fault = fault; hidden = hidden; parse_fault = fault }
    → first ≡ k.first → facts ≡ k.facts → comments ≡ k.comments → fault ≡ k.parse_fault → hidden ≡ []
    → new ≡ record { rows = rows; first = k.first; found = found; facts = k.facts; comments = k.comments; fault = k.parse_fault; hidden = []; parse_fault = k.parse_fault }
parts rows k new first found hidden facts comments fault put a b c d e = put ∙ rw (a, b, c, d, e) refl

pub returns : goal.returns
returns g c = λ config rs within front is.
    front_judged config rs c.args.rows c.args.kept.now c.push_findings-2.new.all.items c.new-2.result within front is
    (both c.new-found.result.items c.push_findings.new.all.items c.push_findings-2.new.all.items c.args.kept.now.found c.args.kept.now.hidden c.found.result.now c.hidden.result.now
    c.new-found.ensures.items c.in_ok-push_findings.ensures c.in_ok-push_findings-2.ensures c.found.ensures c.hidden.ensures)
    (parts c.args.rows c.args.kept.now c.new-2.result c.first.result c.push_findings-2.new.all.items c.new.result.items c.in_ok-facts.facts.items c.in_ok-comments.comments.items
    (option_map section_fault_value c.parse_fault-fault.result) c.new-2.ensures c.first.ensures (c.in_ok-facts.ensures ∙ c.facts.ensures) (c.in_ok-comments.ensures ∙ c.comments.ensures) c.parse_fault-fault.ensures c.new.ensures.items)
