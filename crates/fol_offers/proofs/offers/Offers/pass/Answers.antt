use Rattle.std.proofs.Common.{◌≤◌, ◌∙◌, length, arith}
use Rattle.std.specs.Prelude.{nat_eq}
use Rattle.fol_offers.specs.Shown.{Shown}
use Rattle.fol_offers.proofs.PassedTicks.{passes_none}
use Rattle.fol_offers.proofs.QuietTicks.{back_same}
use Rattle.fol_offers.proofs.offers.Offers.pass.Goals as goal

pub returns-then-front-clause-passed : goal.returns-then-front-clause-passed
returns-then-front-clause-passed c = record {
  cleared = c.call_back_one.new.self;
  clears = c.call_back_one.ensures;
  slots = c.call_back_one.ensures.slots;
  workers = c.call_back_one.ensures.workers;
  passes = passes_none c.call_back_one.new.self.core c.args.by;
}

pub pass_owing-requires : goal.pass_owing-requires
pass_owing-requires c =
    let old : Shown = c.args.self.now in
    let new : Shown = c.call_back_one.new.self in
    let back = c.call_back_one.ensures in
    let short : length new.core.history ≤ length old.core.history
    = (let now = c.front.ensures in let before = c.front-front.ensures in let no_more = c.if-front.false in omega (arith, now, before, no_more)) in
    let same = back_same old new c.args.by (nat_eq c.args.region) back short in record {
      free = rw (same, back.workers) c.requires.free;
    }

pub returns-clause-passed : goal.returns-clause-passed
returns-clause-passed c =
    let back = c.call_back_one.ensures in
    let did = c.pass_owing.ensures in record {
      cleared = c.call_back_one.new.self;
      clears = back;
      slots = did.slots ∙ back.slots;
      workers = did.workers ∙ back.workers;
      passes = did.passed;
    }
