use Rattle.fol_bags.specs.Labels.{numbered}
use Rattle.fol_bags.proofs.PlaceSteps.{relabelled}
use Rattle.fol_bags.proofs.places.Places.relabel.Goals as goal

pub returns : goal.returns
returns c =
    rw (← c.self.view_is) (relabelled (numbered c.self.inside.labels) c.args.a c.args.b c.label-label.result c.label-other.result
    c.label-label.ensures.its c.label-label.ensures.alone c.label-other.ensures.its c.label-other.ensures.alone
    c.self.inside.rows.entries c.exchange_labels.new.rows.entries c.exchange_labels.ensures)
