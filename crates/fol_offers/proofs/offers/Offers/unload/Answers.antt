use Rattle.std.proofs.Common.{rules, sym, subst}
use Rattle.fol_core.specs.Ahead.{may_touch}
use Rattle.fol_core.specs.Meaning.{world_of}
use Rattle.fol_offers.specs.Shown.{CallsBack, Shown}
use Rattle.fol_offers.proofs.EventsKept.{spared, tied_unloads}
use Rattle.fol_offers.proofs.offers.Offers.unload.Goals as goal

pub unload-requires-clause-spares : goal.unload-requires-clause-spares
unload-requires-clause-spares c =
    let now : Shown = record { core = c.self.inside.core; slots = c.self.inside.keeper.slots; workers = c.self.inside.keeper.workers } in
    (spared c.args.self.now now c.self.inside.keeper c.self.inside.places c.args.by c.args.c c.self.invariant (search rules)
    (subst (λ (v : Shown). CallsBack c.args.self.now v c.args.by (may_touch (world_of c.args.self.now.core) c.args.c)) (sym c.self.view_is) c.in_ok-clear.ensures.ok)).unload

pub invariant_of-self : goal.invariant_of-self
invariant_of-self c =
    let now : Shown = record { core = c.self.inside.core; slots = c.self.inside.keeper.slots; workers = c.self.inside.keeper.workers } in
    tied_unloads c.self.inside.core c.unload.new.self c.self.inside.keeper c.self.inside.places c.args.by c.self.invariant c.args.c c.unload.result
    (spared c.args.self.now now c.self.inside.keeper c.self.inside.places c.args.by c.args.c c.self.invariant (search rules)
    (subst (λ (v : Shown). CallsBack c.args.self.now v c.args.by (may_touch (world_of c.args.self.now.core) c.args.c)) (sym c.self.view_is) c.in_ok-clear.ensures.ok)).unload
    c.unload.ensures.recorded c.unload.ensures.refused
