use Rattle.std.proofs.Common.{sym, ◌∙◌, ap, arith}
use Rattle.fol_split.specs.Runs.{no_run, all_of, run_at, first_of}
use Rattle.fol_split.proofs.Pools.{left_is, class_room, pool_after, takes_class, class_apart}
use Rattle.fol_split.proofs.Rows.{first_in}
use Rattle.fol_split.proofs.pool.Pool.take_class.Goals as goal

pub take_class-requires-clause-left : goal.take_class-requires-clause-left
take_class-requires-clause-left c =
    let requires = rw (← c.self.view_is) at c.requires in
    let runs = c.self.inside.runs.runs in
    let there = first_in (run_at runs c.args.k) (requires.sound.solid c.args.k no_run requires.in_place) in
    sym (left_is c.self.inside.runs c.self.inside.found.items c.args.k (first_of (run_at runs c.args.k)) c.self.invariant.0 requires.in_place there) ∙ requires.left

pub append_class-requires-clause-order : goal.append_class-requires-clause-order
append_class-requires-clause-order c = ap all_of c.take_class.ensures.runs ∙ c.self.invariant.2 ∙ sym c.deref.ensures.value

pub append_class-requires-clause-room : goal.append_class-requires-clause-room
append_class-requires-clause-room c = omega (arith, class_room _ _ _ _ _ c.self.invariant.0 c.take_class.ensures, c.self.invariant.1.found)

pub invariant_of-self : goal.invariant_of-self
invariant_of-self c = (
  rw c.append_class.ensures.found (pool_after _ _ _ _ _ c.self.invariant.0 c.take_class.ensures),
  record {
    order = c.self.invariant.1.order;
    found = omega (arith, c.append_class.ensures.room, c.self.invariant.1.found);
  },
  ap all_of c.take_class.ensures.runs ∙ c.self.invariant.2,
)

pub returns-clause-class : goal.returns-clause-class
returns-clause-class c =
    let requires = rw (← c.self.view_is) at c.requires in
    rw (← c.self.view_is, c.append_class.ensures.found) (takes_class _ _ _ _ _ c.self.invariant.0 c.take_class.ensures requires.apart)

pub returns-clause-apart : goal.returns-clause-apart
returns-clause-apart c =
    let requires = rw (← c.self.view_is) at c.requires in
    rw c.append_class.ensures.found (class_apart _ _ _ _ _ c.self.invariant.0 c.take_class.ensures requires.apart)
