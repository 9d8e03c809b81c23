use Rattle.std.proofs.Common.{[], refl, arith}
use Rattle.fol_script.specs.Kept.{entries_in}
use Rattle.fol_script.proofs.ReadWorld.{nothing_held}
use Rattle.fol_script.proofs.worlds.read_lines.Goals as goal

pub loop-rest-init : goal.loop-rest-init
loop-rest-init c = record {
  few = omega arith;
  so_far = ([], (refl, nothing_held (entries_in c.new.result) (entries_in c.new-2.result) c.new.ensures c.new-2.ensures), refl, refl);
}
