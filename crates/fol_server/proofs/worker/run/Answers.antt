use Rattle.std.proofs.Common.{◌≡◌, subst, sym}
use Rattle.fol_data.specs.declared.tick.Tick.{Tick}
use Rattle.fol_tick.specs.Runs.{Finishes, MayRun}
use Rattle.fol_live.specs.Goes.{Hosts}
use Rattle.fol_live.proofs.HeldTicks.{held_may_run, hosts_lock, hosts_number, run_held}
use Rattle.fol_server.proofs.worker.run.Goals as goal

pub run_tick-ran-requires : goal.run_tick-ran-requires
run_tick-ran-requires g c = subst MayRun (sym c.deref_mut.ensures.value) (held_may_run c.args.seat c.args.tick.value c.requires.holds)

pub returns-in-Ok : goal.returns-in-Ok
returns-in-Ok g c =
    let ok = c.in-Ok.ensures.ok in
    let taken : c.of-host.result.seat ≡ c.args.seat = c.of-host.ensures.seat in
    let given : c.into_seat-seat.result ≡ c.run_tick-ran.new.host.seat = c.into_seat-seat.ensures in
    let hosts : Hosts c.args.seat ok.0 c.run_tick-ran.new.host.seat = rw taken at ok.1 in
    let back : Hosts c.args.seat ok.0 c.into_seat-seat.result = rw given hosts in (
      (hosts_lock _ _ ok.0 back, hosts_number _ _ ok.0 back),
      run_held c.args.seat c.into_seat-seat.result c.args.tick.value c.run_tick-ran.new.tick ok.0 c.requires.holds
          (subst (λ (t : Tick). Finishes t c.run_tick-ran.new.tick ok.0) c.deref_mut.ensures.value ok.2) back,
    )

pub returns-in-Err : goal.returns-in-Err
returns-in-Err g c =
    let err = c.in-Err.ensures.err in
    let taken : c.of-host.result.seat ≡ c.args.seat = c.of-host.ensures.seat in
    let given : c.into_seat-seat.result ≡ c.run_tick-ran.new.host.seat = c.into_seat-seat.ensures in
    let hosts : Hosts c.args.seat err.0 c.run_tick-ran.new.host.seat = rw taken at err.1 in
    let back : Hosts c.args.seat err.0 c.into_seat-seat.result = rw given hosts in
    ((hosts_lock _ _ err.0 back, hosts_number _ _ err.0 back), tt)
