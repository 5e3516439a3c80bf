-- Both lists of a text whose sections are plain are ready for a patch.
use Rattle.std.proofs.Common.{◌≡◌, ◌<◌, ◌≤◌, ◌^◌, List, length, sym, subst}
use Rattle.std.specs.List.{AllByRecursion}
use Rattle.yl_text.specs.Lines.{RowValue}
use Rattle.yl_config.specs.declared.config.Config.{Config}
use Rattle.yl_sections.specs.Kept.{KeptValue, rows_kept}
use Rattle.yl_problem_lists.specs.Parts.{IsLow, PartsValue, is_no_fault, without_fault}
use Rattle.yl_problem_lists.specs.Rooms.{IsJudgedReady, IsReadyFor, ToldFault}
use Rattle.yl_problem_lists.specs.declared.change.LinesPatch.{LinesPatch}
use Rattle.yl_problem_lists.proofs.Ordered.{order_filter}
use Rattle.yl_found.specs.Faultless.{faultless}
use Rattle.yl_found.specs.Found.{all_parts, parts_of}
use Rattle.yl_found.specs.Plain.{IsPlain}
use Rattle.yl_found.proofs.EachFound.{parts_low}
use Rattle.yl_found.proofs.Ready.{fault_apart, shown_in_order, suppressed_in_order}

pub ready_for : {A : Type 0} (config : Config) (rows : List RowValue) (ks : List KeptValue) (p : LinesPatch A) → AllByRecursion IsPlain (faultless ks) → length rows < 2 ^ 63 → rows_kept ks < 2 ^ 63
    → p.first ≤ p.old_end → IsJudgedReady p → ToldFault p.had_fault (all_parts config rows ks).shown → IsReadyFor p (all_parts config rows ks)
ready_for config rows ks p plain few few_rows lines judged told =
    let all = all_parts config rows ks in
    let apart : parts_of config rows ks ≡ without_fault all = sym (fault_apart config rows ks plain) in
    let low = parts_low config rows ks plain few few_rows in record {
      lines = lines;
      judged = judged;
      ordered = record {
        shown_in_order = order_filter is_no_fault all.shown (shown_in_order config rows ks plain);
        suppressed_in_order = suppressed_in_order config rows ks plain;
        shown_low = subst (λ (qs : PartsValue). AllByRecursion IsLow qs.shown) apart low.0;
        suppressed_low = subst (λ (qs : PartsValue). AllByRecursion IsLow qs.suppressed) apart low.1;
      };
      fault = told;
    }
