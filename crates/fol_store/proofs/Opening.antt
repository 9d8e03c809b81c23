-- A bag that is opened.
use Rattle.std.proofs.Common.{◌≡◌, ℕ, ◌+◌, ◌<◌, ◌≤◌, ◌^◌, true, false, List, [], length, refl, sym, ◌∙◌, ap, arith}
use Rattle.std.specs.Prelude.{nat_eq, if◌then◌else◌}
use Rattle.std.proofs.Math.ListN.{get_or-eq_default}
use Rattle.fol_model.specs.ActionStep.{at_id}
use Rattle.fol_data.specs.declared.region_data.RegionData.{RegionData}
use Rattle.fol_bags.specs.declared.slot.Slot.{Slot}
use Rattle.fol_store.specs.Bag.{Bag, new_bag}
use Rattle.fol_bags.specs.Moves.{SameThings}
use Rattle.fol_bags.specs.Things.{Key, things, IsTimely, no_data}
use Rattle.fol_store.specs.Stock.{Stock, slot, flat_of, jobs_of, next_of, bag_of}
use Rattle.fol_bags.specs.Slots.{no_slot}
use Rattle.fol_store.specs.Sound.{IsBag, IsSound}
use Rattle.fol_bags.proofs.Empty.{things_none, things_of_nothing, timely_empty}
use Rattle.fol_store.proofs.Totals.{same_flat, same_jobs}
use Rattle.fol_store.proofs.Resound.{SameColumns}
use Rattle.fol_store.proofs.BagSteps.{with_bags, one_sound, one_found, bags_shown}

pub record OpenStep (s t : Stock) (id : ℕ) (b : Bag) : Type 0 where
  pub sound : IsSound t
  pub bags : bag_of t ≡ at_id (bag_of s) id b
  pub next : next_of t ≡ id + 1
  pub contents : flat_of t ≡ flat_of s
  pub tasks : jobs_of t ≡ jobs_of s

module _ (s : Stock) (bags : List Slot) (spare slots id tick owed : ℕ) (body : RegionData) where
  abbrev pub opened : Slot
  opened = record { body = body; here = true; taken = false; listed = true; calm = true; chunks = []; list = []; touched = []; since = [] }

  pub open_step : ((u : ℕ) → slot (with_bags s bags spare slots) u ≡ (if nat_eq id u then opened else slot s u)) → SameThings (record no_data { tick = tick; owed = owed }) body → body.queues.tasks ≡ []
      → id ≡ length s.bags → length bags ≡ id + 1 → tick ≤ 2 ^ 62 → IsSound s → OpenStep s (with_bags s bags spare slots) id (new_bag tick owed)
  unfolding next_of
  open_step e new none at_end long small h =
      let same : (k : Key) → things body k ≡ things (slot s id).body k = λ k. new.things k ∙ things_of_nothing tick owed k ∙ sym (ap (λ (b : Slot). things b.body k) (get_or-eq_default s.bags no_slot {n = id} (omega arith)) ∙ things_none k) in
      let timely : IsTimely body = timely_empty body (rw new.tick small) none in
      let sound : IsSound (with_bags s bags spare slots) = one_sound s bags spare slots id opened e h same (omega arith) timely new_one in
      record {
        sound = sound;
        bags = bags_shown s bags spare slots id opened (new_bag tick owed) e (rw (new.tick, new.owed) refl);
        next = long;
        contents = same_flat s (with_bags s bags spare slots) (one_found s bags spare slots id opened e h same);
        tasks = same_jobs s (with_bags s bags spare slots) (one_found s bags spare slots id opened e h same);
      }
    where
      never : {P : Type 0} → false ≡ true → P
      never z = absurd (let f : ⊥ = cc in f)

      new_one : SameColumns s (with_bags s bags spare slots) → IsBag (with_bags s bags spare slots) id opened
      new_one columns = record {
        claims = λ o c q. let l : id < length s.bags = h.bag_range c id q in absurd (omega arith);
        held = λ o c q. never q;
        near = λ o k w x q r. never r;
        untouched = λ o p. refl;
        opened = λ o. refl;
        one = refl;
        out = λ o k x q. never o;
        list = λ o. refl;
      }
