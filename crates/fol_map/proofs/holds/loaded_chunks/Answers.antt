use Rattle.std.proofs.lemmas.Result.{IfOk-weaker}
use Rattle.std.specs.BTreeMap.{keys}
use Rattle.fol_map.specs.Holds.{holds}
use Rattle.fol_map.proofs.Ordered.{held_of}
use Rattle.fol_map.proofs.holds.loaded_chunks.Goals as goal

pub returns : goal.returns
returns c = IfOk-weaker c.in_order.result _ _ (λ xs e. held_of c.in_ok-counts.counts (holds c.args.history.now c.args.tasks.now) (keys c.in_ok-counts.counts) xs.items e c.in_order.ensures.ordered c.in_order.ensures.has c.in_ok-counts.ensures.counted c.in_ok-counts.ensures.holds) c.in_order.ensures.keys
