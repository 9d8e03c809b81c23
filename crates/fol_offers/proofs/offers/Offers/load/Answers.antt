use Rattle.std.proofs.Common.{rules, sym, subst}
use Rattle.fol_core.specs.Ahead.{may_touch}
use Rattle.fol_core.specs.Meaning.{world_of}
use Rattle.fol_offers.specs.Shown.{CallsBack, Shown}
use Rattle.fol_offers.proofs.EventsKept.{spared, tied_loads}
use Rattle.fol_offers.proofs.offers.Offers.load.Goals as goal

pub load-requires-clause-spares : goal.load-requires-clause-spares
load-requires-clause-spares c =
    let now : Shown = record { core = c.self.inside.core; slots = c.self.inside.keeper.slots; workers = c.self.inside.keeper.workers } in
    (spared c.args.self.now now c.self.inside.keeper c.self.inside.places c.args.by c.args.c c.self.invariant (search rules)
    (subst (λ (v : Shown). CallsBack c.args.self.now v c.args.by (may_touch (world_of c.args.self.now.core) c.args.c)) (sym c.self.view_is) c.in_ok-clear.ensures.ok)).load

pub invariant_of-self : goal.invariant_of-self
invariant_of-self c =
    let now : Shown = record { core = c.self.inside.core; slots = c.self.inside.keeper.slots; workers = c.self.inside.keeper.workers } in
    tied_loads c.self.inside.core c.load.new.self c.self.inside.keeper c.self.inside.places c.args.by c.self.invariant c.args.c c.load.result
    (spared c.args.self.now now c.self.inside.keeper c.self.inside.places c.args.by c.args.c c.self.invariant (search rules)
    (subst (λ (v : Shown). CallsBack c.args.self.now v c.args.by (may_touch (world_of c.args.self.now.core) c.args.c)) (sym c.self.view_is) c.in_ok-clear.ensures.ok)).load
    c.load.ensures.recorded c.load.ensures.refused
