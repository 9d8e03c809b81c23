-- A seat gives its tick back.
use Rattle.std.proofs.Common.{◌≡◌, ◌∙◌, ℕ, sym, ap, refl, subst}
use Rattle.std.specs.Prelude.{Result, Ok, Err, IfErr, OnErr, OnOk, None, Some}
use Rattle.std.specs.Option.{ForSome}
use Rattle.std.specs.Global.{Box}
use Rattle.fol_data.specs.declared.tick.Tick.{Tick}
use Rattle.fol_core.specs.Ticks.{SameTick}
use Rattle.fol_slots.specs.Shown.{freed}
use Rattle.fol_tick.specs.Runs.{Finishes}
use Rattle.fol_live.specs.declared.origin.Origin.{Origin}
use Rattle.fol_live.specs.Calls.{Releases}
use Rattle.fol_live.specs.Held.{HoldsRun}
use Rattle.fol_live.specs.Seat.{HasHand, Shown, held_in}
use Rattle.fol_live.specs.Shown as worlds
use Rattle.fol_live.specs.Turned.{GivesIn}
use Rattle.fol_live.specs.Turns.{EndsAndPasses}
use Rattle.fol_live.proofs.Called.{refused, released}
use Rattle.fol_live.proofs.Taken.{Done, Hand}

-- the worker of the tick is the seat
pub worker_is : (s : Shown) (tick : Tick) → HoldsRun s tick → tick.worker ≡ s.number
worker_is s tick h = h.same.worker ∙ h.ran.same.worker

pub gives_in : (o : Origin) (number : ℕ) (hand : Hand) (s : Shown) (tick : Tick) → HasHand o number hand → s.number ≡ number → s.hand ≡ hand → HoldsRun s tick → GivesIn hand tick
gives_in o number None s tick has numbers hands h = absurd (none_holds (sym (ap held_in hands) ∙ h.holds))
  where
    none_holds : None ≡ Some h.offered → ⊥
    none_holds e = cc
gives_in o number (Some w) s tick has numbers hands h =
    let same : s.number ≡ w.number = numbers ∙ sym has.number_is in
    record {
      claimed = h.offered;
      is = sym (ap held_in hands) ∙ h.holds;
      calls = h.calls;
      finished = h.finished;
      ran = subst (λ (k : ℕ). Finishes (record h.offered { worker = k }) h.finished h.calls) same h.ran;
      same = h.same;
    }

-- what the hand is afterwards
pub hand_after : {E : Type 0} (o : Origin) (number : ℕ) (before after : Hand) (r : Result ℕ E) (tick : Tick) → HasHand o number before → GivesIn before tick
    → OnOk r (ForSome before (λ w. after ≡ Some (freed w))) → OnErr r (after ≡ before) → HasHand o number after
hand_after o number None after r tick has gives freed_is kept = absurd gives
hand_after o number (Some w) after (Ok k) tick has gives freed_is kept =
    subst (λ (h : Hand). HasHand o number h) (sym (freed_is w refl)) (record { sized = has.sized; slots = has.slots; number_is = has.number_is; some = has.some })
hand_after o number (Some w) after (Err e) tick has gives freed_is kept = subst (λ (h : Hand). HasHand o number h) (sym kept) has

pub free_after : (before after : Hand) (tick : Tick) → GivesIn before tick → ForSome before (λ w. after ≡ Some (freed w)) → held_in after ≡ None
free_after None after tick gives freed_is = absurd gives
free_after (Some w) after tick gives freed_is = ap held_in (freed_is w refl)

pub release_done : {old new : Shown} {y n : worlds.Shown} (before : Hand) (tick : Tick) (most : ℕ) (answer : Result ℕ (Box Tick)) → (e : EndsAndPasses y n tick most answer)
    → Done old new e.ends.now n tick.worker → GivesIn before tick → old.hand ≡ before → OnOk answer (ForSome before (λ w. new.hand ≡ Some (freed w))) → OnErr answer (new.hand ≡ before)
    → IfErr answer (λ t. SameTick tick t.value) → Releases old new tick most answer
release_done before tick most (Ok k) e d gives was freed_is kept same = released tick most e d k refl (free_after before _ tick gives freed_is)
release_done before tick most (Err left) e d gives was freed_is kept same = refused tick most e d left left refl same (kept ∙ sym was)
