use Rattle.std.proofs.Common.{◌∙◌, arith}
use Rattle.fol_regions.proofs.BoundSteps.{most_more, most_put}
use Rattle.fol_regions.proofs.dead_bounds.add.Goals as goal

pub loop-nothing-preserved : goal.loop-nothing-preserved
loop-nothing-preserved c = record {
  same = λ r. rw c.push_reserved.ensures.items (most_more _ r ∙ c.loop-nothing.invariant.same r);
  memory = omega (arith, c.loop-nothing.invariant.memory, c.push_reserved.ensures.capacity);
  capacity = omega (arith, c.loop-nothing.invariant.capacity, c.push_reserved.ensures.capacity);
}

pub returns-clause-noted : goal.returns-clause-noted
returns-clause-noted c = λ r.
    let same = c.loop-nothing.invariant.same r in
    let put = most_put c.loop-nothing.known.items c.args.id c.args.most c.place-at.result c.place-at.ensures.at (omega arith) r in
    rw (← same) put
