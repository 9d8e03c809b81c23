use Rattle.std.proofs.Common.{◌+◌, sym, ◌∙◌, ap, drop, get_or}
use Rattle.std.proofs.lemmas.List.{take_rest}
use Rattle.fol_model.specs.declared.tasks.Task.{Task}
use Rattle.fol_model.specs.declared.tasks.Wish.{Wish}
use Rattle.fol_model.specs.declared.events.Accept.TheVariants as accept
use Rattle.fol_world.specs.Underway.{holding}
use Rattle.fol_world.proofs.StillHeld.{accepted_beside, answers_alike, can_queue_now, in_order, may_one, next_in_turn, posts, taken, takes_over}
use Rattle.fol_world.proofs.wishes.accept_next.Goals as goal

-- some task
abbrev any_task : Wish → Task
any_task x = record { number = 0; chunk = x.chunk; action = x.action }

pub drop_due-requires : goal.drop_due-requires
drop_due-requires c = let m = c.requires in record {
  out = taken c.args.tables.now c.args.chunks.now m.world m.since c.args.region (m.rest + 1) c.args.held.now m.held;
  order = in_order c.args.tables.now c.args.chunks.now m.world m.since c.args.region (m.rest + 1) c.args.held.now m.held;
}

pub accept_one-requires : goal.accept_one-requires
accept_one-requires c = let m = c.requires in may_one c.args.tables.now c.args.chunks.now m.world m.since c.args.region m.rest c.args.held.now m.held c.args.wish m.fit m.free

pub queue-number-requires : goal.queue-number-requires
queue-number-requires c =
    let m = c.requires in
    let found = c.in-Some.ensures in
    let d : Task = any_task c.args.wish in
    let s = next_in_turn c.args.tables.now c.args.chunks.now m.world m.since c.args.region (m.rest + 1) c.args.held.now m.held c.in-Some.i d found.0 c.drop_due.new.tables c.drop_due.ensures in
    can_queue_now c.drop_due.new.tables c.args.chunks.now m.world m.since c.args.region m.rest (get_or c.args.held.now c.in-Some.i d) (drop (c.in-Some.i + 1) c.args.held.now) s c.args.wish (found.1 d) m.fit

pub returns-in-Some-clause-accepted : goal.returns-in-Some-clause-accepted
returns-in-Some-clause-accepted c w since n held ok free =
    let found = c.in-Some.ensures in
    let d : Task = any_task c.args.wish in
    let s = next_in_turn c.args.tables.now c.args.chunks.now w since c.args.region (n + 1) c.args.held.now held c.in-Some.i d found.0 c.drop_due.new.tables c.drop_due.ensures in
    rw (take_rest c.args.held.now (c.in-Some.i + 1))
    (takes_over c.drop_due.new.tables c.args.chunks.now w since c.args.region n (get_or c.args.held.now c.in-Some.i d) (drop (c.in-Some.i + 1) c.args.held.now) s c.args.wish (found.1 d) ok
    c.queue-number.new.tables c.queue-number.ensures.queued)

pub returns-in-Some-clause-answer : goal.returns-in-Some-clause-answer
returns-in-Some-clause-answer c w since n held =
    let found = c.in-Some.ensures in
    let d : Task = any_task c.args.wish in
    let s = next_in_turn c.args.tables.now c.args.chunks.now w since c.args.region (n + 1) c.args.held.now held c.in-Some.i d found.0 c.drop_due.new.tables c.drop_due.ensures in
    ap accept.Posted (c.queue-number.ensures.number ∙ s.underway.midway.course.next_job)
    ∙ sym (posts c.drop_due.new.tables c.args.chunks.now w since c.args.region n (get_or c.args.held.now c.in-Some.i d) (drop (c.in-Some.i + 1) c.args.held.now) s c.args.wish (found.1 d))

pub returns-in-None-clause-accepted : goal.returns-in-None-clause-accepted
returns-in-None-clause-accepted c w since n held ok free =
    accepted_beside c.args.tables.now c.args.chunks.now w since c.args.region n c.args.held.now held c.args.wish c.accept_one.new.tables c.accept_one.new.chunks
    (c.accept_one.ensures.accepted (holding c.args.held.now w) since c.args.region n held.underway ok free) c.accept_one.ensures.tickets

pub returns-in-None-clause-answer : goal.returns-in-None-clause-answer
returns-in-None-clause-answer c w since n held =
    c.accept_one.ensures.answer (holding c.args.held.now w) since c.args.region n held.underway
    ∙ answers_alike c.args.tables.now c.args.chunks.now w since c.args.region n c.args.held.now held c.args.wish
