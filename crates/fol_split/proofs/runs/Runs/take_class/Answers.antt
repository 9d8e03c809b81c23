use Rattle.std.proofs.Common.{ap, arith, length, subst}
use Rattle.fol_split.specs.Runs.{Marks, IsMarked}
use Rattle.fol_split.proofs.Adding.{few_runs}
use Rattle.fol_split.proofs.Taking.{marked_cleared}
use Rattle.fol_split.proofs.Search.{search_start, search_step, search_class}
use Rattle.fol_split.proofs.runs.Runs.take_class.Goals as goal

pub invariant_of-self : goal.invariant_of-self
invariant_of-self c = (
  marked_cleared _ _ c.self.invariant.0 c.clear.ensures.items,
  record {
    runs = c.self.invariant.1.runs;
    left = c.self.invariant.1.left;
    class = omega (arith, c.clear.ensures.capacity, c.self.invariant.1.class);
  },
)

pub loop-next-init : goal.loop-next-init
loop-next-init c =
    let m : Marks = record { runs = c.self.inside.runs.items; left = c.self.inside.left.items; class = c.self.inside.class.items } in
    let requires = rw (← c.self.view_is) at c.requires in
    rw (← c.self.view_is) (search_start m c.self.invariant.0 c.args.merge c.requires.reach_low c.args.first c.take.new.self requires.left (rw c.clear.ensures.items at c.take.ensures))

pub overflow_add-next : goal.overflow_add-next
overflow_add-next c =
    let marked : IsMarked c.args.self.now = subst IsMarked c.self.view_is c.self.invariant.0 in
    omega (arith, ap length c.loop-next.invariant.runs, few_runs c.args.self.now.runs marked.sound)

pub loop-next-smaller : goal.loop-next-smaller
loop-next-smaller c = omega (arith, ap length c.loop-next.invariant.runs)

pub loop-next-preserved : goal.loop-next-preserved
loop-next-preserved c =
    let marked : IsMarked c.args.self.now = subst IsMarked c.self.view_is c.self.invariant.0 in
    search_step c.args.self.now marked c.args.merge c.requires.reach_low c.args.first _ _ c.loop-next.next c.loop-next.invariant (omega (arith, c.taken.ensures.value)) (rw c.taken_at.ensures.value at c.take_near.ensures)

pub returns : goal.returns
returns c =
    let marked : IsMarked c.args.self.now = subst IsMarked c.self.view_is c.self.invariant.0 in
    search_class c.args.self.now marked c.args.merge c.requires.reach_low c.args.first _ _ c.loop-next.next c.loop-next.invariant (omega (arith, c.taken.ensures.value)) c.sort_class.ensures
