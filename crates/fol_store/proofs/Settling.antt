-- A bag that gets other chunks, and one that becomes listed.
use Rattle.std.proofs.Common.{◌≡◌, ℕ, ◌<◌, ◌≤◌, true, false, List, [], length, get_or, refl, sym, ◌∙◌, ap, subst, ◌⊎◌, inl, inr, pos, Some}
use Rattle.std.specs.Prelude.{nat_eq, if◌then◌else◌}
use Rattle.fol_model.specs.declared.places.ChunkPos.{ChunkPos}
use Rattle.fol_model.specs.ActionStep.{at_id}
use Rattle.fol_chunks.specs.Contents.{is_recorded}
use Rattle.fol_keyed.proofs.Places.{same_chunk-self}
use Rattle.fol_bags.specs.declared.slot.Slot.{Slot}
use Rattle.fol_store.specs.Bag.{Bag}
use Rattle.fol_bags.specs.Things.{chunk_at}
use Rattle.fol_store.specs.Stock.{Stock, Where, in_bag, slot, place, bag_of, shown}
use Rattle.fol_store.specs.Sound.{Near, IsBag, IsSound}
use Rattle.fol_store.specs.Steps.{SameMeaning, IsGathered}
use Rattle.fol_store.proofs.Resound.{SameColumns}
use Rattle.fol_store.proofs.BagSteps.{with_bags, one_step, one_found, bag_slot}
use Rattle.fol_keyed.proofs.Recorded.{recorded_index}
use Rattle.fol_store.proofs.Stepping.{here_not_taken}

pub record Settled (s t : Stock) (id : ℕ) (b : Bag) : Type 0 where
  pub sound : IsSound t
  pub bags : bag_of t ≡ at_id (bag_of s) id b
  pub same : SameMeaning s t

module _ (s : Stock) (bags : List Slot) (spare slots id : ℕ) (list : List ChunkPos) where
  abbrev t : Stock
  t = with_bags s bags spare slots

  abbrev listed : Slot
  listed = record (slot s id) { listed = false; chunks = list; list = list }

  abbrev finished : Slot
  finished = record (slot s id) { listed = true; calm = true; touched = [] }

  no : {P : Type 0} → false ≡ true → P
  no e = absurd (let z : ⊥ = cc in z)

  pub relisted : ((u : ℕ) → slot t u ≡ (if nat_eq id u then listed else slot s u)) → (slot s id).here ≡ true → (slot s id).listed ≡ false
      → ((k : ℕ) (d : ChunkPos) → k < length (slot s id).chunks → (is_recorded list (get_or (slot s id).chunks k d) ≡ true) ⊎ ((place s (get_or (slot s id).chunks k d)).bag ≡ Some id → ⊥))
      → length bags ≡ length s.bags → s.spare ≤ spare → s.slots ≤ slots → IsSound s → Settled s t id (let b : Bag = record (bag_of s id) { chunks = list } in b)
  relisted e here not_listed gone long more_spare more_slots h =
      let step = one_step s bags spare slots id listed e (let b : Bag = record (bag_of s id) { chunks = list } in b) h (λ k. refl) long (h.bag_times id) bag is_shown in
      record {
        sound = step.sound;
        bags = step.bags;
        same = record { found = one_found s bags spare slots id listed e h (λ k. refl); bags = long; spare = more_spare; slots = more_slots };
      }
    where
      not_taken : (slot s id).taken ≡ false
      not_taken = here_not_taken id s h here

      is_shown : shown listed ≡ (let b : Bag = record (bag_of s id) { chunks = list } in b)
      is_shown = rw (bag_slot s id, not_listed) refl

      bag : SameColumns s t → IsBag t id listed
      bag columns = record {
        claims = λ o c q.
            let old : is_recorded (slot s id).chunks c ≡ true = (h.bags id).claims o c q in
            let z : ChunkPos = record { x = pos 0; z = pos 0 } in
            let r = recorded_index (slot s id).chunks c z old in
            elim (gone r.0 z r.1) [
              | inl y ↦ ap (is_recorded list) (sym r.2) ∙ y
              | inr n ↦ absurd (n (ap (λ v. (place s v).bag) r.2 ∙ q))
            ];
        held = λ o c q. no (sym not_taken ∙ o);
        near = λ o k w x q r. no o;
        untouched = λ o p. no o;
        opened = λ o. no o;
        one = (h.bags id).one;
        out = λ o k x q. no (sym not_taken ∙ o);
        list = λ o. refl;
      }

  pub now_whole : ((u : ℕ) → slot t u ≡ (if nat_eq id u then finished else slot s u)) → (slot s id).here ≡ true
      → ((q : ChunkPos) → is_recorded (slot s id).chunks q ≡ true → IsGathered s id q)
      → length bags ≡ length s.bags → s.spare ≤ spare → s.slots ≤ slots → IsSound s → Settled s t id (let b : Bag = record (bag_of s id) { listed = true; calm = true } in b)
  now_whole e here gathered long more_spare more_slots h =
      let step = one_step s bags spare slots id finished e (let b : Bag = record (bag_of s id) { listed = true; calm = true } in b) h (λ k. refl) long (h.bag_times id) bag (ap (λ (b : Bag). let r : Bag = record b { listed = true; calm = true } in r) (sym (bag_slot s id))) in
      record {
        sound = step.sound;
        bags = step.bags;
        same = record { found = one_found s bags spare slots id finished e h (λ k. refl); bags = long; spare = more_spare; slots = more_slots };
      }
    where
      bag : SameColumns s t → IsBag t id finished
      bag columns = record {
        claims = λ o c q. (h.bags id).claims o c q;
        held = λ o c q. (gathered c q).place;
        near = λ o k w x q r.
            let P : Where → Type 0 = λ v. Near id finished (chunk_at k x) v in
            subst P (sym ((gathered (chunk_at k x) r).alone k w x (sym (columns k w) ∙ q) (same_chunk-self (chunk_at k x)))) refl;
        untouched = λ o p. refl;
        opened = λ o. rw here refl;
        one = (h.bags id).one;
        out = λ o k x q. (h.bags id).out o k x (sym (columns k (in_bag id)) ∙ q);
        list = λ o. (h.bags id).list o;
      }
