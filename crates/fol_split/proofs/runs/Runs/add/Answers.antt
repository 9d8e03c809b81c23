use Rattle.std.proofs.Common.{arith}
use Rattle.fol_split.specs.Runs.{Marks}
use Rattle.fol_split.proofs.Adding.{all-more, marked_more, room_more}
use Rattle.fol_split.proofs.runs.Runs.add.Goals as goal

pub invariant_of-self : goal.invariant_of-self
invariant_of-self c =
    let m : Marks = record { runs = c.self.inside.runs.items; left = c.self.inside.left.items; class = c.self.inside.class.items } in
    let requires = rw (← c.self.view_is) at c.requires in
    let marked = c.self.invariant.0 in
    let room = room_more m c.args.run marked requires.few requires.solid requires.in_order requires.in_range in
    let ok = c.push.ensures.succeeds (omega (arith, room, c.self.invariant.1.runs)) in
    let ok-2 = c.push-2.ensures.succeeds (omega (arith, room, marked.flags, c.self.invariant.1.left)) in
    let runs = rw ok at c.push.ensures.items in
    let left = rw ok-2 at c.push-2.ensures.items in
    rw (runs, left) (
      marked_more m c.args.run marked requires.few requires.solid requires.in_order requires.in_range requires.left,
      record {
        runs = omega (arith, c.push.ensures.capacity, c.self.invariant.1.runs);
        left = omega (arith, c.push-2.ensures.capacity, c.self.invariant.1.left);
        class = c.self.invariant.1.class;
      },
    )

pub returns-clause-all : goal.returns-clause-all
returns-clause-all c =
    let m : Marks = record { runs = c.self.inside.runs.items; left = c.self.inside.left.items; class = c.self.inside.class.items } in
    let requires = rw (← c.self.view_is) at c.requires in
    let room = room_more m c.args.run c.self.invariant.0 requires.few requires.solid requires.in_order requires.in_range in
    let ok = c.push.ensures.succeeds (omega (arith, room, c.self.invariant.1.runs)) in
    let runs = rw ok at c.push.ensures.items in
    rw (runs, ← c.self.view_is) (all-more m.runs c.args.run)

pub returns-clause-flags : goal.returns-clause-flags
returns-clause-flags c =
    let m : Marks = record { runs = c.self.inside.runs.items; left = c.self.inside.left.items; class = c.self.inside.class.items } in
    let requires = rw (← c.self.view_is) at c.requires in
    let marked = c.self.invariant.0 in
    let room = room_more m c.args.run marked requires.few requires.solid requires.in_order requires.in_range in
    let ok = c.push.ensures.succeeds (omega (arith, room, c.self.invariant.1.runs)) in
    let ok-2 = c.push-2.ensures.succeeds (omega (arith, room, marked.flags, c.self.invariant.1.left)) in
    let runs = rw ok at c.push.ensures.len in
    let left = rw ok-2 at c.push-2.ensures.len in
    omega (arith, runs, left, marked.flags)
