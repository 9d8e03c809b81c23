use Rattle.std.proofs.Common.{rules, ◌≡◌, ap, ◌∙◌, false}
use Rattle.fol_tick_laws.specs.Touching.{lists}
use Rattle.fol_tick_laws.proofs.early.spares.Goals as goal

pub returns-clause-spared : goal.returns-clause-spared
returns-clause-spared g c =
    let none : lists c.in-Ok.touched.items 1 ≡ false = search rules in
    rw c.in-Ok.ensures.same (c.unlisted_is_spared.ensures c.args.core.now c.args.chunk c.in-Ok.touched.items c.in-Ok.ensures.ready c.in-Ok.ensures.listed
    (λ r prepared. ap (λ q. lists c.in-Ok.touched.items q) (c.requires.only r prepared) ∙ none))
