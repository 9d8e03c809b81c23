use Rattle.std.proofs.Common.{◌≡◌, ◌∙◌}
use Rattle.fol_live.specs.Goes.{Hosts}
use Rattle.fol_live.proofs.HeldTicks.{held_may_run, hosts_lock, hosts_number, run_held}
use Rattle.fol_shared_tests.proofs.world.run.Goals as goal

pub run_tick-requires : goal.run_tick-requires
run_tick-requires g c = held_may_run c.args.seat c.args.tick.now c.requires.holds

pub returns-clause-own : goal.returns-clause-own
returns-clause-own g c =
    let ok = c.in-Ok.ensures.ok in
    let taken : c.of-host.result.seat ≡ c.args.seat = c.of-host.ensures.seat in
    let given : c.into_seat.result ≡ c.run_tick.new.host.seat = c.into_seat.ensures in
    let hosts : Hosts c.args.seat ok.0 c.run_tick.new.host.seat = rw taken at ok.1 in
    rw given (hosts_lock _ _ ok.0 hosts ∙ c.requires.own)

pub returns-clause-number : goal.returns-clause-number
returns-clause-number g c =
    let ok = c.in-Ok.ensures.ok in
    let taken : c.of-host.result.seat ≡ c.args.seat = c.of-host.ensures.seat in
    let given : c.into_seat.result ≡ c.run_tick.new.host.seat = c.into_seat.ensures in
    let hosts : Hosts c.args.seat ok.0 c.run_tick.new.host.seat = rw taken at ok.1 in
    rw given (hosts_number _ _ ok.0 hosts)

pub returns-clause-holds : goal.returns-clause-holds
returns-clause-holds g c =
    let ok = c.in-Ok.ensures.ok in
    let taken : c.of-host.result.seat ≡ c.args.seat = c.of-host.ensures.seat in
    let given : c.into_seat.result ≡ c.run_tick.new.host.seat = c.into_seat.ensures in
    let hosts : Hosts c.args.seat ok.0 c.run_tick.new.host.seat = rw taken at ok.1 in
    run_held c.args.seat c.into_seat.result c.args.tick.now c.run_tick.new.tick ok.0 c.requires.holds ok.2 (rw given hosts)
