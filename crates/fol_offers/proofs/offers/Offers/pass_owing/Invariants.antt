use Rattle.std.proofs.Common.{◌≡◌, ◌≤◌, ◌-◌}
use Rattle.fol_offers.specs.InTurn.{IsFree}
use Rattle.fol_offers.specs.PassedTicks.{PassesMany}
use Rattle.fol_offers.proofs.offers.Offers.pass_owing.Given as goal

abbrev pub invariant-regions : goal.invariant-regions
invariant-regions l = record {
  few : l.done ≤ l.most;
  slots : l.self.slots ≡ l.fn.self.slots;
  workers : l.self.workers ≡ l.fn.self.workers;
  passed : PassesMany l.fn.self.core l.self.core l.by l.done;
  free : IsFree l.self.workers l.self.core.history l.by;
}

abbrev pub decreases-regions : goal.decreases-regions
decreases-regions l = l.most - l.done
