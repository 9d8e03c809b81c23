use Rattle.std.proofs.Common.{arith, get_or, sym}
use Rattle.std.proofs.lemmas.List.{get_or_default}
use Rattle.fol_regions.proofs.BoundSteps.{most_kept, most_past, most_raised, most_unknown}
use Rattle.fol_regions.specs.declared.dead_bounds.Known.{Known}
use Rattle.fol_regions.proofs.dead_bounds.raise.Goals as goal

pub returns-then-at-known : goal.returns-then-at-known
returns-then-at-known c = λ r. most_kept c.args.known.now c.args.id c.args.more r (sym (most_past c.args.known.now c.args.id (omega (arith, c.place-at.ensures.at))))

pub returns-then-before-id : goal.returns-then-before-id
returns-then-before-id c =
    let none : Known = record { id = 0; most = 0 } in
    let here = get_or_default c.args.known.now c.place-at.result none (get_or c.args.known.now c.place-at.result none) (omega arith) in
    most_raised c.args.known.now c.args.id c.raised.result c.place-at.result c.place-at.ensures.at (omega arith) (get_or c.args.known.now c.place-at.result none) c.args.more here c.if-before-id.true c.raised.ensures

pub returns-else-before-id : goal.returns-else-before-id
returns-else-before-id c = λ r.
    let none : Known = record { id = 0; most = 0 } in
    let here = get_or_default c.args.known.now c.place-at.result none (get_or c.args.known.now c.place-at.result none) (omega arith) in
    most_kept c.args.known.now c.args.id c.args.more r (most_unknown c.args.known.now c.args.id c.place-at.result (get_or c.args.known.now c.place-at.result none) c.place-at.ensures.at (omega arith) here c.if-before-id.false)
