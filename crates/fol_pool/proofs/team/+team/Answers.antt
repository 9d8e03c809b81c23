use Rattle.std.proofs.Common.{arith}
use Rattle.fol_pool.specs.Works.{IsBack}
use Rattle.std.proofs.Crossing.{crosses}
use borrow.Author.Rules.{rules}
use denote.Param.Send.{sendable}
use Rattle.fol_live.proofs.Crossing.{Live-sync, Seat-send}
use Rattle.fol_live.specs.Lives.{live_id}
use Rattle.fol_pool.specs.Team.{IsReady}
use Rattle.fol_pool.proofs.Crossing.{Bell-sync}
use Rattle.fol_pool.proofs.Together.{all_last, as_many, back_more}
use Rattle.fol_pool.proofs.team.+team.Goals as goal

pub spawn_with-requires-send-F : goal.spawn_with-requires-send-F
spawn_with-requires-send-F g t c κs within = search (c.requires-raw, sendable, crosses, Seat-send, Live-sync, Bell-sync) depth 20

pub spawn_with-requires-send-T : goal.spawn_with-requires-send-T
spawn_with-requires-send-T g t c κs within = search (sendable, Seat-send) depth 14

pub spawn_with-requires-clause-runs : goal.spawn_with-requires-clause-runs
spawn_with-requires-clause-runs g t c κs within =
    let items = c.in-Some.ensures.items in
    let l = live_id c.args.live.now in
    let ready : IsReady l c.in-Some.seat = all_last (IsReady l) c.pop.new.self.items c.in-Some.seat (rw items at c.requires.ready) in
    (ready.own, (ready.rests, (search rules, search rules)))

pub spawn_with-requires-in-Err-clause-own : goal.spawn_with-requires-in-Err-clause-own
spawn_with-requires-in-Err-clause-own g t c κs within =
    let items = c.in-Some.ensures.items in
    let closure = c.in-Err.ensures.err in
    let l = live_id c.args.live.now in
    let ready : IsReady l c.in-Some.seat = all_last (IsReady l) c.pop.new.self.items c.in-Some.seat (rw items at c.requires.ready) in
    rw closure ready.own

pub spawn_with-requires-in-Err-clause-rests : goal.spawn_with-requires-in-Err-clause-rests
spawn_with-requires-in-Err-clause-rests g t c κs within =
    let items = c.in-Some.ensures.items in
    let closure = c.in-Err.ensures.err in
    let l = live_id c.args.live.now in
    let ready : IsReady l c.in-Some.seat = all_last (IsReady l) c.pop.new.self.items c.in-Some.seat (rw items at c.requires.ready) in
    rw closure ready.rests

pub push_reserved-requires-in-Ok : goal.push_reserved-requires-in-Ok
push_reserved-requires-in-Ok g t c =
    let many = as_many c.pop.new.self.items c.team-ended.result.workers.items c.team-ended.ensures.workers in
    omega (arith, many, c.team-ended.ensures.room, c.pop.ensures.capacity, c.in-Some.ensures.cases, c.args.workers.ok, c.team-ended.result.workers.ok, c.pop.new.self.ok)

pub push_reserved-requires-in-Err : goal.push_reserved-requires-in-Err
push_reserved-requires-in-Err g t c =
    let many = as_many c.pop.new.self.items c.team-ended-in-Err.result.workers.items c.team-ended-in-Err.ensures.workers in
    omega (arith, many, c.team-ended-in-Err.ensures.room, c.pop.ensures.capacity, c.in-Some.ensures.cases, c.args.workers.ok, c.team-ended-in-Err.result.workers.ok, c.pop.new.self.ok)

pub returns-in-Ok-clause-workers : goal.returns-in-Ok-clause-workers
returns-in-Ok-clause-workers g t c =
    let whole = c.in-Some.ensures.items in
    let pushed = c.push_reserved-in-Ok.ensures.items in
    let promise = c.in-Ok.ensures.ok in
    let value = c.of.ensures in
    let back : IsBack c.in-Some.seat c.join.result = rw (promise, value) at c.join.ensures in
    rw (whole, pushed) (back_more c.pop.new.self.items c.team-ended.result.workers.items c.in-Some.seat c.join.result c.team-ended.ensures.workers back)

pub returns-in-Err-clause-workers : goal.returns-in-Err-clause-workers
returns-in-Err-clause-workers g t c =
    let whole = c.in-Some.ensures.items in
    let pushed = c.push_reserved-in-Err.ensures.items in
    let closure = c.in-Err.ensures.err in
    let back : IsBack c.in-Some.seat c.spawn_with-in-Err.result = rw closure at c.spawn_with-in-Err.ensures in
    rw (whole, pushed) (back_more c.pop.new.self.items c.team-ended-in-Err.result.workers.items c.in-Some.seat c.spawn_with-in-Err.result c.team-ended-in-Err.ensures.workers back)
