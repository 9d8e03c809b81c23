use Rattle.std.proofs.Common.{ℕ, ◌+◌, List, [], take, get_or, refl, sym, ◌||◌}
use Rattle.std.specs.Prelude.{nat_eq}
use Rattle.std.proofs.lemmas.List.Folds.{list_any_more}
use Rattle.fol_tick_laws.specs.Touching.{lists}
use Rattle.fol_offers.proofs.CalledBack.{back_as, back_both, back_none}
use Rattle.fol_offers.proofs.offers.Offers.call_all_back.Goals as goal

pub loop-region-init : goal.loop-region-init
loop-region-init c = back_none c.args.self.now c.args.by (lists []) (λ r marked. refl)

pub loop-region-preserved : goal.loop-region-preserved
loop-region-preserved c =
    let i : ℕ = c.loop-region.region-index in
    let xs : List ℕ = c.args.regions.now in
    let x : ℕ = get_or xs i 0 in
    let both = back_both c.args.self.now c.loop-region.self c.call_back_one.new.self c.args.by (lists (take i xs)) (nat_eq x) c.loop-region.invariant c.call_back_one.ensures in
    back_as c.args.self.now c.call_back_one.new.self c.args.by (λ r. lists (take i xs) r || nat_eq x r) both (lists (take (i + 1) xs))
    (λ r marked. sym (list_any_more (λ id. nat_eq id r) xs i 0 c.loop-region-test.true))
