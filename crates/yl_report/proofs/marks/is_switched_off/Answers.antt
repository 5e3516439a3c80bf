use Rattle.std.proofs.Common.{◌-◌, sym, arith, rules}
use Rattle.std.specs.Prelude.{nat_le}
use Rattle.std.proofs.lemmas.List.Sorted.{IsPartitionPoint-from_clause, IsPartitionedBy-leb}
use Rattle.yl_report.specs.declared.marks.Switch.{Switch}
use Rattle.yl_report.proofs.LastSwitch.{switched_off-none, switched_off-at}
use Rattle.yl_report.proofs.marks.is_switched_off.Goals as goal

pub returns-then-behind-eq0 : goal.returns-then-behind-eq0
returns-then-behind-eq0 c =
    let ws = c.args.switches.now in
    let parted = IsPartitionPoint-from_clause (λ (w : Switch). nat_le w.line c.args.line) ws c.partition_point-behind.result c.partition_point-behind.ensures.partitioned
    (IsPartitionedBy-leb (λ (w : Switch). w.line) ws c.args.line c.requires) (λ a r f' k. search rules) in
    sym (switched_off-none ws c.args.line c.partition_point-behind.result parted.0 parted.1 c.if-behind-eq0.true)

pub returns : goal.returns
returns c =
    let ws = c.args.switches.now in
    let n = c.partition_point-behind.result in
    let parted = IsPartitionPoint-from_clause (λ (w : Switch). nat_le w.line c.args.line) ws n c.partition_point-behind.ensures.partitioned
    (IsPartitionedBy-leb (λ (w : Switch). w.line) ws c.args.line c.requires) (λ a r f' k. search rules) in
    sym (switched_off-at ws c.args.line n parted.0 parted.1 (n - 1) _ (omega arith) (omega arith))
