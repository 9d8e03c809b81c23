use Rattle.std.proofs.Common.{ap, ◌∙◌}
use Rattle.fol_bags.specs.Labels.{numbered}
use Rattle.fol_bags.specs.Places.{exchanged}
use Rattle.fol_bags.proofs.PlaceSteps.{owned_exchanged, owned_kept}
use Rattle.fol_bags.proofs.places.Places.exchange.Goals as goal

pub returns-in-Ok : goal.returns-in-Ok
returns-in-Ok c =
    rw (← c.self.view_is) (owned_exchanged c.self.inside.rows.entries c.args.a c.args.b (numbered c.self.inside.labels) (numbered c.exchange.new.self) c.in-Ok.ensures.ok)

pub returns-in-Err : goal.returns-in-Err
returns-in-Err c =
    rw (← c.self.view_is) (λ q. c.relabel.ensures q ∙ ap (exchanged c.args.a c.args.b)
    (owned_kept c.self.inside.rows.entries (numbered c.self.inside.labels) (numbered c.exchange.new.self) c.in-Err.ensures.err q))
