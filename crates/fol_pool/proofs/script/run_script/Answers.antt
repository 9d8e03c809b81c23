use Rattle.std.proofs.Common.{◌≡◌, ◌∙◌, refl, arith}
use Rattle.fol_model.specs.GridNumbers.{IsGrid}
use Rattle.fol_live.specs.Lives.{live_id}
use Rattle.fol_live.specs.Seat.{LiveId}
use Rattle.fol_live.specs.Seats.{newcomer}
use Rattle.fol_pool.specs.Works.{SameSeat}
use Rattle.fol_pool.proofs.Newcomers.{Dealt, all_ready, dealt}
use Rattle.fol_pool.proofs.Together.{all_own, all_there, as_many, legal_answer, outputs_answer}
use Rattle.fol_pool.proofs.script.run_script.Goals as goal

pub play-ended-requires-clause-starts : goal.play-ended-requires-clause-starts
play-ended-requires-clause-starts g c κs within =
    let l : LiveId = live_id c.in_ok-live.field-0.live in
    let d : Dealt l c.args.opening c.args.workers c.remove-caller.result c.remove-caller.new.self.items
    = dealt l c.args.opening c.args.workers c.in_ok-live.field-0.seats.items c.remove-caller.result c.remove-caller.new.self.items c.in_ok-live.ensures.seats c.remove-caller.ensures.value c.remove-caller.ensures.items in
    rw d.caller (record { zero = refl; orders = refl; calls = tt })

pub play-ended-requires-clause-ready : goal.play-ended-requires-clause-ready
play-ended-requires-clause-ready g c κs within =
    let l : LiveId = live_id c.in_ok-live.field-0.live in
    let d : Dealt l c.args.opening c.args.workers c.remove-caller.result c.remove-caller.new.self.items
    = dealt l c.args.opening c.args.workers c.in_ok-live.field-0.seats.items c.remove-caller.result c.remove-caller.new.self.items c.in_ok-live.ensures.seats c.remove-caller.ensures.value c.remove-caller.ensures.items in
    let grid : IsGrid c.args.opening.grid = rw (← c.opening.view_is) c.opening.invariant.grid in
    all_ready l c.args.opening 1 c.remove-caller.new.self.items (omega arith) grid d.workers

pub close-requires-clause-own : goal.close-requires-clause-own
close-requires-clause-own g c =
    let l : LiveId = live_id c.in_ok-live.field-0.live in
    let d : Dealt l c.args.opening c.args.workers c.remove-caller.result c.remove-caller.new.self.items
    = dealt l c.args.opening c.args.workers c.in_ok-live.field-0.seats.items c.remove-caller.result c.remove-caller.new.self.items c.in_ok-live.ensures.seats c.remove-caller.ensures.value c.remove-caller.ensures.items in
    let first = d.caller in
    let same : SameSeat (newcomer l c.args.opening 0) c.play-ended.result.caller = rw first at c.play-ended.ensures.caller in
    all_own l c.args.opening c.args.workers c.remove-caller.new.self.items c.play-ended.result.workers.items c.play-ended.result.caller d.workers d.many c.play-ended.ensures.workers same

pub close-requires-clause-all : goal.close-requires-clause-all
close-requires-clause-all g c =
    let l : LiveId = live_id c.in_ok-live.field-0.live in
    let d : Dealt l c.args.opening c.args.workers c.remove-caller.result c.remove-caller.new.self.items
    = dealt l c.args.opening c.args.workers c.in_ok-live.field-0.seats.items c.remove-caller.result c.remove-caller.new.self.items c.in_ok-live.ensures.seats c.remove-caller.ensures.value c.remove-caller.ensures.items in
    let first = d.caller in
    let same : SameSeat (newcomer l c.args.opening 0) c.play-ended.result.caller = rw first at c.play-ended.ensures.caller in
    all_there l c.args.opening c.args.workers c.remove-caller.new.self.items c.play-ended.result.workers.items c.play-ended.result.caller d.workers d.many c.play-ended.ensures.workers same _ c.in_ok-live.ensures.count

pub close-requires-clause-room : goal.close-requires-clause-room
close-requires-clause-room g c =
    let many = as_many c.remove-caller.new.self.items c.play-ended.result.workers.items c.play-ended.ensures.workers in
    omega (arith, many, c.play-ended.ensures.room, c.remove-caller.ensures.capacity, c.remove-caller.ensures.len, c.in_ok-live.field-0.seats.ok, c.play-ended.result.workers.ok, c.remove-caller.new.self.ok)

pub returns-clause-legal : goal.returns-clause-legal
returns-clause-legal g c =
    let l : LiveId = live_id c.in_ok-live.field-0.live in
    let d : Dealt l c.args.opening c.args.workers c.remove-caller.result c.remove-caller.new.self.items
    = dealt l c.args.opening c.args.workers c.in_ok-live.field-0.seats.items c.remove-caller.result c.remove-caller.new.self.items c.in_ok-live.ensures.seats c.remove-caller.ensures.value c.remove-caller.ensures.items in
    let first = d.caller in
    let same : SameSeat (newcomer l c.args.opening 0) c.play-ended.result.caller = rw first at c.play-ended.ensures.caller in
    let script : c.into_vec-commands.result.items ≡ c.args.script = c.into_vec-commands.ensures ∙ c.script.view_is in
    legal_answer l c.args.opening c.args.workers _ c.remove-caller.new.self.items c.play-ended.result.workers.items c.play-ended.result.caller c.args.script c.play-ended.result.finished c.close.result
    c.in_ok-live.ensures.count d.workers d.many c.play-ended.ensures.workers same (rw script at c.play-ended.ensures.finished) c.close.ensures.finished c.close.ensures.closing

pub returns-clause-outputs : goal.returns-clause-outputs
returns-clause-outputs g c =
    let l : LiveId = live_id c.in_ok-live.field-0.live in
    let d : Dealt l c.args.opening c.args.workers c.remove-caller.result c.remove-caller.new.self.items
    = dealt l c.args.opening c.args.workers c.in_ok-live.field-0.seats.items c.remove-caller.result c.remove-caller.new.self.items c.in_ok-live.ensures.seats c.remove-caller.ensures.value c.remove-caller.ensures.items in
    let first = d.caller in
    let same : SameSeat (newcomer l c.args.opening 0) c.play-ended.result.caller = rw first at c.play-ended.ensures.caller in
    outputs_answer l c.args.opening _ c.play-ended.result.workers.items c.play-ended.result.caller c.close.result same c.close.ensures.closing
