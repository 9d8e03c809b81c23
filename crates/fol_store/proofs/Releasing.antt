-- The memory of a closed bag in which nothing lies goes back.
use Rattle.std.proofs.Common.{◌≡◌, ℕ, ◌≤◌, true, List, length, refl, sym, ◌∙◌, ap, inl, inr, arith}
use Rattle.std.specs.Prelude.{nat_eq, if◌then◌else◌}
use Rattle.std.proofs.lemmas.Bool.{cases_Bool, eqb-true}
use Rattle.std.proofs.Math.Path.{fun_ext}
use Rattle.fol_model.specs.declared.places.ChunkPos.{ChunkPos}
use Rattle.fol_data.specs.declared.region_data.RegionData.{RegionData}
use Rattle.fol_bags.specs.declared.slot.Slot.{Slot}
use Rattle.fol_store.specs.Bag.{Bag}
use Rattle.fol_bags.specs.Things.{Key, things, IsTimely}
use Rattle.fol_store.specs.Stock.{Stock, slot, bag_of, next_of, shown}
use Rattle.fol_store.specs.Sound.{IsSound}
use Rattle.fol_store.specs.Steps.{Draws, SameMeaning, SameWorld}
use Rattle.fol_store.proofs.BagSteps.{with_bags, one_columns, one_found, one_kept, one_sound}
use Rattle.fol_store.proofs.Resound.{Kept, SameColumns}
use Rattle.fol_store.proofs.Stepping.{others_same}
use Rattle.fol_store.proofs.Totals.{same_flat, same_jobs}

pub record Released (s t : Stock) : Type 0 where
  pub sound : IsSound t
  pub draws : (n : ℕ) (chunks : List ChunkPos) → Draws n chunks s t
  pub bags : bag_of t ≡ bag_of s

module _ (s : Stock) (bags : List Slot) (spare slots id : ℕ) (body : RegionData) where
  abbrev t : Stock
  t = with_bags s bags spare slots

  abbrev left : Slot
  left = record (slot s id) { body = body }

  module _ (e : (u : ℕ) → slot t u ≡ (if nat_eq id u then left else slot s u)) (same : (k : Key) → things body k ≡ things (slot s id).body k) (here : (slot s id).here ≡ true → body ≡ (slot s id).body) where
    shown_left : shown left ≡ shown (slot s id)
    shown_left = elim (cases_Bool (slot s id).here) [
      | inl q ↦ ap (λ (r : RegionData). let b : Slot = record (slot s id) { body = r } in shown b) (here q)
      | inr q ↦ rw q refl
    ]

    pick : (u : ℕ) → shown (if nat_eq id u then left else slot s u) ≡ shown (slot s u)
    pick u = elim (cases_Bool (nat_eq id u)) [
      | inl q ↦ rw q (shown_left ∙ ap (λ v. shown (slot s v)) (eqb-true id u q))
      | inr q ↦ rw q refl
    ]

    bags_same : bag_of t ≡ bag_of s
    unfolding bag_of
    bags_same = fun_ext (λ u. ap shown (e u) ∙ pick u)

    kept : Kept (slot s id) left
    kept = record { here = refl; taken = refl; chunks = refl; list = refl; touched = refl; listed = λ o. o; calm = λ o. o }

    pub released : IsTimely body → length bags ≡ length s.bags → s.spare ≤ spare → s.slots ≤ slots → IsSound s → Released s t
    released timely long more_spare more_slots h =
        let columns : SameColumns s t = one_columns s bags spare slots id left e same in
        record {
          sound = one_sound s bags spare slots id left e h same (omega arith) timely (one_kept s bags spare slots id left e h kept);
          draws = λ n chunks. record {
            same = record { found = one_found s bags spare slots id left e h same; bags = long; spare = more_spare; slots = more_slots };
            arrivals = refl;
            own = ap (λ (f : ℕ → Bag). f n) bags_same;
            others = others_same n chunks (bag_of s) (bag_of t) bags_same;
            gathered = λ q g. record { place = g.place; alone = λ k w x a b. g.alone k w x (sym (columns k w) ∙ a) b };
          };
          bags = bags_same;
        }

pub world_trans : (r s t : Stock) → SameWorld r s → SameWorld s t → SameWorld r t
world_trans r s t a b = record {
  contents = b.contents ∙ a.contents;
  tasks = b.tasks ∙ a.tasks;
  next = b.next ∙ a.next;
  spare = let x : r.spare ≤ s.spare = a.spare in let y : s.spare ≤ t.spare = b.spare in omega arith;
  slots = let x : r.slots ≤ s.slots = a.slots in let y : s.slots ≤ t.slots = b.slots in omega arith;
}

-- the world stays where what the store holds stays
pub world_kept : (r s t : Stock) → SameWorld r s → SameMeaning s t → SameWorld r t
unfolding next_of
world_kept r s t a b = world_trans r s t a (record { contents = same_flat s t b.found; tasks = same_jobs s t b.found; next = b.bags; spare = b.spare; slots = b.slots })
