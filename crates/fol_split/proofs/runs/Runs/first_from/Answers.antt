use Rattle.std.proofs.Common.{arith, rules}
use Rattle.std.specs.List.Sorted.{IsPartitionedBy}
use Rattle.std.proofs.lemmas.List.Sorted.{IsPartitionPoint-from_clause}
use Rattle.fol_split.specs.Runs.{no_run, ends_before}
use Rattle.fol_split.proofs.RunLists.{ends_first}
use Rattle.fol_split.proofs.runs.Runs.first_from.Goals as goal

pub returns-clause-before : goal.returns-clause-before
returns-clause-before c =
    let parted : IsPartitionedBy (ends_before c.args.window.z c.args.window.from) c.deref.result.now = rw c.deref.ensures.value (ends_first c.self.inside.runs.items c.self.invariant.0.sound c.args.window.z c.args.window.from) in
    let point = IsPartitionPoint-from_clause (ends_before c.args.window.z c.args.window.from) c.deref.result.now c.partition_point.result c.partition_point.ensures.partitioned parted (λ a r q k. search rules) in
    let here = rw c.deref.ensures.value at point in
    rw (← c.self.view_is) (λ k l. here.0 k no_run (omega arith) l)

pub returns-clause-after : goal.returns-clause-after
returns-clause-after c =
    let parted : IsPartitionedBy (ends_before c.args.window.z c.args.window.from) c.deref.result.now = rw c.deref.ensures.value (ends_first c.self.inside.runs.items c.self.invariant.0.sound c.args.window.z c.args.window.from) in
    let point = IsPartitionPoint-from_clause (ends_before c.args.window.z c.args.window.from) c.deref.result.now c.partition_point.result c.partition_point.ensures.partitioned parted (λ a r q k. search rules) in
    let here = rw c.deref.ensures.value at point in
    rw (← c.self.view_is) (λ k l m. here.1 k no_run l m)
