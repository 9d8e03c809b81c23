use Rattle.std.proofs.Common.{◌∙◌, map}
use Rattle.fol_chunks.specs.Areas.{paid, stepped_in}
use Rattle.fol_chunks.specs.Contents.{is_recorded}
use Rattle.fol_chunks.specs.Rows.{stepped}
use Rattle.fol_chunks.proofs.Areas.{steps_inside}
use Rattle.fol_chunks.proofs.Often.{iterate_same, often_order}
use Rattle.fol_chunks.proofs.Owing.{none_owed}
use Rattle.fol_chunks.proofs.walkers.Walkers.step.Goals as goal

pub invariant_of-self : goal.invariant_of-self
invariant_of-self c =
    let es = map (paid c.self.inside.owed) c.self.inside.list.items in
    let same = iterate_same (map (stepped_in c.in-Some.area)) (map (stepped (is_recorded c.args.chunks.now))) c.args.ticks es (steps_inside (is_recorded c.args.chunks.now) c.in-Some.area c.in-Some.ensures) in
    rw (c.add.ensures.paid, same) (often_order (is_recorded c.args.chunks.now) c.args.ticks es c.self.invariant)

pub returns-in-Some-clause-moved : goal.returns-in-Some-clause-moved
returns-in-Some-clause-moved c =
    let es = map (paid c.self.inside.owed) c.self.inside.list.items in
    rw (← c.self.view_is)
    (c.add.ensures.paid
    ∙ iterate_same (map (stepped_in c.in-Some.area)) (map (stepped (is_recorded c.args.chunks.now))) c.args.ticks es (steps_inside (is_recorded c.args.chunks.now) c.in-Some.area c.in-Some.ensures))

pub invariant_of-self-in-None : goal.invariant_of-self-in-None
invariant_of-self-in-None c =
    let es = map (paid c.self.inside.owed) c.self.inside.list.items in
    rw (none_owed c.settle.new.self c.step_all.new.entities.items c.settle.ensures.none, c.step_all.ensures.steps, c.settle.ensures.paid) (often_order (is_recorded c.args.chunks.now) c.args.ticks es c.self.invariant)

pub returns-in-None-clause-moved : goal.returns-in-None-clause-moved
returns-in-None-clause-moved c =
    let moved = rw c.settle.ensures.paid at c.step_all.ensures.steps in
    rw (← c.self.view_is) (none_owed c.settle.new.self c.step_all.new.entities.items c.settle.ensures.none ∙ moved)
