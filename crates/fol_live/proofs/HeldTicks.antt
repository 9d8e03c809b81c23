-- From the claim of a seat's tick to its release.
use Rattle.std.proofs.Common.{◌≡◌, ℕ, refl, sym, ◌∙◌, ap, subst, inl, inr, List}
use Rattle.fol_data.specs.declared.tick.Tick.{Tick}
use Rattle.fol_tick.specs.Calls.{HostCall}
use Rattle.fol_tick.specs.Runs.{Finishes, MayRun}
use Rattle.fol_core.specs.Ticks.{SameTick}
use Rattle.fol_offers.proofs.FitTicks.{fit_may_run}
use Rattle.fol_live.specs.Calls.{Claims}
use Rattle.fol_live.specs.Goes.{Hosts}
use Rattle.fol_live.specs.Held.{HoldsRun, HoldsTick}
use Rattle.fol_live.specs.Seat.{Shown, held_in}

pub claimed_held : (old new : Shown) (tick : Tick) → Claims old new tick → HoldsTick new tick
claimed_held old new tick did = record {
  offered = did.offered;
  holds = did.holds;
  fit = did.fit;
  is = did.is ∙ ap (λ (s : Shown). record did.offered { worker = s.number }) (sym did.same);
}

pub held_may_run : (s : Shown) (tick : Tick) → HoldsTick s tick → MayRun tick
held_may_run s tick h = subst MayRun (sym h.is) (fit_may_run h.offered s.number h.fit)

same_self : (t : Tick) → SameTick t t
same_self t = record {
  worker = refl;
  region = refl;
  begun = refl;
  chunks = refl;
  due = refl;
  counter = refl;
  owed = refl;
  tasks = refl;
  contents = refl;
  log = refl;
  next = refl;
  moved = refl;
}

-- a host is the same seat, with the same in its hand
pub hosts_lock : (old new : Shown) (calls : List HostCall) → Hosts old calls new → new.lock ≡ old.lock
hosts_lock old new calls (inl none) = ap (λ (s : Shown). s.lock) none.1
hosts_lock old new calls (inr did) = did.does.goes.lock ∙ did.looks.lock

pub hosts_number : (old new : Shown) (calls : List HostCall) → Hosts old calls new → new.number ≡ old.number
hosts_number old new calls (inl none) = ap (λ (s : Shown). s.number) none.1
hosts_number old new calls (inr did) = did.does.goes.number ∙ did.looks.number

hosts_hand : (old new : Shown) (calls : List HostCall) → Hosts old calls new → new.hand ≡ old.hand
hosts_hand old new calls (inl none) = ap (λ (s : Shown). s.hand) none.1
hosts_hand old new calls (inr did) = did.hand

pub run_held : (old new : Shown) (tick finished : Tick) (calls : List HostCall) → HoldsTick old tick → Finishes tick finished calls → Hosts old calls new → HoldsRun new finished
run_held old new tick finished calls h done hosts =
    let is : tick ≡ record h.offered { worker = new.number }
    = h.is ∙ ap (λ (k : ℕ). record h.offered { worker = k }) (sym (hosts_number old new calls hosts)) in
    record {
      offered = h.offered;
      holds = ap held_in (hosts_hand old new calls hosts) ∙ h.holds;
      calls = calls;
      finished = finished;
      ran = subst (λ (t : Tick). Finishes t finished calls) is done;
      same = same_self finished;
    }
