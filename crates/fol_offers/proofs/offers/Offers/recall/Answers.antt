use Rattle.std.proofs.Common.{rules, ℕ, Bool, false, refl, ◌||◌}
use Rattle.std.specs.Prelude.{nat_eq}
use Rattle.fol_offers.proofs.CalledBack.{back_both, back_every, back_fewer, back_none}
use Rattle.fol_offers.proofs.offers.Offers.recall.Goals as goal

pub loop-i-init : goal.loop-i-init
loop-i-init c = ((λ r. false), back_none c.args.self.now c.args.by (λ r. false) (λ r marked. refl))

pub loop-i-smaller : goal.loop-i-smaller
loop-i-smaller c = back_fewer c.loop-i.self c.call_back.new.self c.args.by c.in-Some.region c.call_back.ensures c.in-Some.ensures.some c.in-Some.ensures.given

pub loop-i-preserved : goal.loop-i-preserved
loop-i-preserved c =
    let f : ℕ → Bool = c.loop-i.invariant.0 in
    ((λ r. f r || nat_eq c.in-Some.region r), back_both c.args.self.now c.loop-i.self c.call_back.new.self c.args.by f (nat_eq c.in-Some.region) c.loop-i.invariant.1 c.call_back.ensures)

pub returns-clause-back : goal.returns-clause-back
returns-clause-back c = back_every c.args.self.now c.loop-i.self c.args.by c.loop-i.invariant.0 c.loop-i.invariant.1 (search rules)
