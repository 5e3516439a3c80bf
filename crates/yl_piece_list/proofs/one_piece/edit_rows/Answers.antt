use Rattle.std.proofs.Common.{◌≡◌, List, map, take, drop, Option, Some, None, ap, ◌∙◌, subst}
use Rattle.std.specs.Prelude.{IfSome}
use Rattle.yl_config.specs.declared.config.Config.{Config}
use Rattle.yl_record.specs.Records.{RecordValue}
use Rattle.yl_sections.specs.Kept.{KeptValue}
use Rattle.yl_pieces.specs.State.{DocumentState}
use Rattle.yl_section_pieces.specs.Pieces.{IsStateAfter}
use Rattle.yl_section_pieces.specs.Edit.{IsEditAlone, kept_alone}
use Rattle.yl_piece_list.proofs.one_piece.edit_rows.Goals as goal

abbrev IsAlone : Config → DocumentState → KeptValue → (own new : List RecordValue) → KeptValue → Type 0
IsAlone config s kept own new k = (front : List RecordValue) → IsStateAfter front s → IsEditAlone config front own new kept × (k ≡ kept_alone config s front new)

given : (config : Config) (s : DocumentState) (kept : KeptValue) (o n own new : List RecordValue) (r : Option KeptValue) (k : KeptValue)
    → IfSome r (λ j. IsAlone config s kept o n j) → r ≡ Some k → o ≡ own → n ≡ new → IsAlone config s kept own new k
given config s kept o n own new None k h e a b = absurd (cc)
given config s kept o n own new (Some j) k h e a b =
    let same : j ≡ k = of_some j k e in
    subst (λ (ns : List RecordValue). IsAlone config s kept own ns k) b
    (subst (λ (os : List RecordValue). IsAlone config s kept os n k) a (subst (λ (i : KeptValue). IsAlone config s kept o n i) same h))
  where
    of_some : (j k : KeptValue) → Some j ≡ Some k → j ≡ k
    of_some j k e = cc

pub returns : goal.returns
returns g c = λ front at. (
  c.in_ok-before-in-Some.ensures front at,
  given c.args.config.now c.args.before.now c.args.kept.now (map (λ r. r.now) c.deref.result.now) (map (λ r. r.now) c.deref-2.result.now)
      (drop c.args.row (take c.args.last c.args.old.now.items)) (drop c.args.row (take c.args.new_last c.args.records.now)) c.in_ok-edit_piece.field-0 c.in-Some.kept
      c.in_ok-edit_piece.ensures c.in-Some.is
      (ap (λ rs. map (λ r. r.now) rs) c.deref.ensures.value ∙ c.in_ok-old_rows.ensures)
      (ap (λ rs. map (λ r. r.now) rs) c.deref-2.ensures.value ∙ c.in_ok-new_rows.ensures) front at,
)
