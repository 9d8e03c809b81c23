use Rattle.std.proofs.Common.{◌≡◌, ◌+◌, ℕ, refl, ◌∙◌, subst, arith}
use Rattle.fol_core.specs.Meaning.{Meaning}
use Rattle.fol_offers.specs.PassedTicks.{PassesMany}
use Rattle.fol_offers.proofs.PassedTicks.{passes_both, passes_none}
use Rattle.fol_offers.proofs.offers.Offers.pass_owing.Goals as goal

pub regions-init : goal.regions-init
regions-init c = record {
  few = omega arith;
  slots = refl;
  workers = refl;
  passed = passes_none c.args.self.now.core c.args.by;
  free = c.requires.free;
}

pub regions-preserved : goal.regions-preserved
regions-preserved c =
    let i = c.regions.invariant in
    let did = c.pass_next-passed.ensures in record {
      few = (let before = c.regions-test.true in let few = did.few in omega (arith, before, few));
      slots = did.slots ∙ i.slots;
      workers = did.workers ∙ i.workers;
      passed = passes_both c.args.self.now.core c.regions.self.core c.pass_next-passed.new.self.core c.args.by c.regions.done c.pass_next-passed.result i.passed did.passed;
      free = did.free;
    }

pub returns-then-passed-eq0-clause-passed : goal.returns-then-passed-eq0-clause-passed
returns-then-passed-eq0-clause-passed c =
    let m : Meaning = c.args.self.now.core in
    let n : Meaning = c.pass_next-passed.new.self.core in
    let none = c.if-passed-eq0.true in
    let same : c.regions.done + c.pass_next-passed.result ≡ c.regions.done = omega (arith, none) in
    subst (λ (k : ℕ). PassesMany m n c.args.by k) same
    (passes_both m c.regions.self.core n c.args.by c.regions.done c.pass_next-passed.result c.regions.invariant.passed c.pass_next-passed.ensures.passed)
