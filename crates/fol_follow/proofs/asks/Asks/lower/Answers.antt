use Rattle.std.proofs.Common.{◌∙◌, get_or, pos}
use Rattle.fol_keyed.proofs.Keyed.{at_own}
use Rattle.fol_follow.specs.declared.entries.EntityAt.{EntityAt}
use Rattle.fol_follow.specs.Table.{visits_in}
use Rattle.fol_follow.proofs.Counting.{raised_next}
use Rattle.fol_follow.proofs.asks.Asks.lower.Goals as goal

pub loop-place-preserved : goal.loop-place-preserved
loop-place-preserved c =
    let d : EntityAt = record { id = 0; at = record { x = pos 0; y = pos 0; z = pos 0 } } in
    let x : EntityAt = get_or c.args.here.now c.loop-place.place-index d in
    record {
      raised = raised_next c.args.here.now c.loop-place.place-index x (visits_in c.args.self.now.counts) (visits_in c.loop-place.self.counts) (visits_in c.count_visit.new.self.counts) c.requires.order
          c.loop-place-test.true (at_own c.args.here.now c.loop-place.place-index d c.loop-place-test.true) (c.requires.known c.loop-place.place-index d c.loop-place-test.true) c.loop-place.invariant.raised c.count_visit.ensures.counts;
      rows = c.count_visit.ensures.rows ∙ c.loop-place.invariant.rows;
    }

pub count_visit-requires-clause-known : goal.count_visit-requires-clause-known
count_visit-requires-clause-known c =
    let d : EntityAt = record { id = 0; at = record { x = pos 0; y = pos 0; z = pos 0 } } in
    c.loop-place.invariant.raised.known (get_or c.args.here.now c.loop-place.place-index d).id ∙ c.requires.known c.loop-place.place-index d c.loop-place-test.true
