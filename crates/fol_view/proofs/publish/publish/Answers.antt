use Rattle.std.proofs.Common.{sym, subst, drop, List, Option}
use Rattle.left_right.specs.Sides.{view}
use Rattle.fol_view.specs.Boards.{Showing}
use Rattle.fol_view.specs.Boards.{CanPublish}
use Rattle.fol_view.proofs.Showing.{turns}
use Rattle.fol_view.proofs.publish.publish.Goals as goal

pub publish_as-next-requires : goal.publish_as-next-requires
publish_as-next-requires g c next is =
    let w = c.loop.writer in
    let first = c.args.writer in
    let inv = c.loop.invariant in
    let can = subst (λ (x : Option Showing × List Showing). CanPublish x.0 x.1) (λ i. (sym inv.2 i, sym inv.3 i)) c.requires in
    turns w.desk.place.id (view w.desk.place) w.desk.shown.value (drop w.behind w.log.items) next can is
