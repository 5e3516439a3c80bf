use Rattle.std.proofs.Common.{◌≡◌, ◌∙◌, ap, map, reverse}
use Rattle.std.proofs.lemmas.Result.{IfOk-weaker}
use Rattle.yl_events.specs.SymbolParsing.{SymbolParserValue}
use Rattle.yl_open_collections.specs.OpenBy.{open_by}
use Rattle.yl_piece_names.specs.OpeningEvents.{opened_by, opening_of}
use Rattle.yl_section_pieces.proofs.OpenBefore.{goals_say}
use Rattle.yl_section_pieces.proofs.openings.openings_of.Goals as goal

pub returns : goal.returns
returns g c =
    let goals = c.args.before.now.parser.goals in
    let items = c.deref.result.now in
    let reversed = ap reverse c.deref.ensures.value ∙ c.goals-goals.ensures.goals ∙ ap (λ (p : SymbolParserValue). p.goals) c.parser.ensures in
    IfOk-weaker c.openings_of_all.result (λ v. v.items ≡ map opening_of items) (λ v. opened_by v.items ≡ open_by goals)
    (λ v e. ap opened_by e ∙ goals_say goals items reversed) c.openings_of_all.ensures
