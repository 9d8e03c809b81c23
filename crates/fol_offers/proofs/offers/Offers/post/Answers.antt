use Rattle.std.proofs.Common.{rules, sym, subst}
use Rattle.fol_core.specs.Ahead.{may_touch}
use Rattle.fol_core.specs.Meaning.{world_of}
use Rattle.fol_offers.specs.Shown.{CallsBack, Shown}
use Rattle.fol_offers.proofs.EventsKept.{spared, tied_posts}
use Rattle.fol_offers.proofs.offers.Offers.post.Goals as goal

pub post-requires-clause-spares : goal.post-requires-clause-spares
post-requires-clause-spares c =
    let now : Shown = record { core = c.self.inside.core; slots = c.self.inside.keeper.slots; workers = c.self.inside.keeper.workers } in
    (spared c.args.self.now now c.self.inside.keeper c.self.inside.places c.args.by c.args.c c.self.invariant (search rules)
    (subst (λ (v : Shown). CallsBack c.args.self.now v c.args.by (may_touch (world_of c.args.self.now.core) c.args.c)) (sym c.self.view_is) c.in-Ok.ensures.ok)).post

pub invariant_of-self : goal.invariant_of-self
invariant_of-self c =
    let now : Shown = record { core = c.self.inside.core; slots = c.self.inside.keeper.slots; workers = c.self.inside.keeper.workers } in
    tied_posts c.self.inside.core c.post.new.self c.self.inside.keeper c.self.inside.places c.args.by c.self.invariant c.args.c c.args.delay c.args.action c.post.result
    (spared c.args.self.now now c.self.inside.keeper c.self.inside.places c.args.by c.args.c c.self.invariant (search rules)
    (subst (λ (v : Shown). CallsBack c.args.self.now v c.args.by (may_touch (world_of c.args.self.now.core) c.args.c)) (sym c.self.view_is) c.in-Ok.ensures.ok)).post
    c.post.ensures.recorded c.post.ensures.refused
