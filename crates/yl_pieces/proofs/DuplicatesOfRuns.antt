-- What key-duplicates finds at the events of a run.
use Rattle.std.specs.Prelude.{not, codes, bytes_eq, [], ◌||◌}
use Rattle.yl_text.specs.declared.finding.RuleId.TheVariants.{KeyDuplicates}
use Rattle.yl_tree.specs.declared.options.KeyDuplicatesOptions.{KeyDuplicatesOptions}
use Rattle.yl_tree.specs.KeyRules.{is_duplicate}
use Rattle.yl_pieces.specs.DuplicatesOfRuns.{DuplicatesOfRuns}
use Rattle.yl_pieces.proofs.KeyFindings.{all_found, all_moved, both, same_found}

pub duplicates_of_runs : (o : KeyDuplicatesOptions) → DuplicatesOfRuns o
duplicates_of_runs o = record {
  whole = λ es. all_found (is_duplicate o) KeyDuplicates (codes "duplication of key \"") [] es;
  runs = λ s es fs. both (is_duplicate o) KeyDuplicates (codes "duplication of key \"") s es fs;
  lasting = λ s t es same agree. same_found s t same (λ name. o.forbid_duplicated_merge_keys || not (bytes_eq name (codes "<<"))) (λ key name. bytes_eq key name) KeyDuplicates
      (codes "duplication of key \"") es agree;
  below = λ n s es. all_moved (is_duplicate o) KeyDuplicates (codes "duplication of key \"") n s es;
}
