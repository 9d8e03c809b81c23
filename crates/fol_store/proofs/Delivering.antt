-- The last task that came goes into the bag that has its chunk.
use Rattle.std.proofs.Common.{◌≡◌, ◌≢◌, ℕ, ◌<◌, ◌≤◌, Bool, true, false, ◌&&◌, List, [], ◌∷◌, ◌++◌, length, refl, sym, ◌∙◌, ap, subst, inl, inr, arith, Some}
use Rattle.std.specs.Prelude.{nat_eq, if◌then◌else◌, All}
use Rattle.std.proofs.lemmas.Bool.{cases_eq}
use Rattle.fol_queues.specs.declared.dated.Dated.{Dated}
use Rattle.fol_data.specs.Rests.{IsInTime}
use Rattle.fol_data.specs.declared.region_data.RegionData.{RegionData}
use Rattle.fol_bags.specs.declared.slot.Slot.{Slot}
use Rattle.fol_bags.specs.Moves.{SameThings, Queues}
use Rattle.fol_bags.specs.Things.{Key, Thing, things, chunk_at, IsTimely}
use Rattle.fol_store.specs.Stock.{Stock, Where, arriving, in_spot, in_bag, slot, place, column, bag_of}
use Rattle.fol_store.specs.Sound.{IsSound}
use Rattle.fol_store.proofs.Columns.{Moves}
use Rattle.fol_store.proofs.Totals.{where_cases}
use Rattle.fol_store.proofs.Resound.{Kept, kept_self, moved_found, moved_sound, MovesSoundly}
use Rattle.fol_store.proofs.BagSteps.{with_bags, slot_here, slot_other}
use Rattle.fol_store.proofs.Queuing.{shown_same, kept_filled}
use Rattle.fol_store.proofs.Arriving.{Changed, bags_same, is_last, last_chunk_is, nowhere_else, others_differ, others_wait, came_in}

module _ (s : Stock) (xs : List Dated) (d : Dated) (bags : List Slot) (spare slots id : ℕ) (r : RegionData) (arrivals_are : s.arrivals ≡ xs ++ d ∷ []) where
  abbrev t : Stock
  t = record s { arrivals = xs; bags = bags; spare = spare; slots = slots }

  abbrev filled : Slot
  filled = record (slot s id) { body = r }

  abbrev goes : (k : Key) → Thing k → Bool
  goes k x = is_last s xs d arrivals_are k x

  module _ (e : (u : ℕ) → slot t u ≡ (if nat_eq id u then filled else slot s u)) (h : IsSound s) (q : Queues d (slot s id).body r) (home : (place s d.task.chunk).bag ≡ Some id) (here : (slot s id).here ≡ true) where
    own : (k : Key) → things (slot t id).body k ≡ things r k
    own k = ap (λ (b : Slot). things b.body k) (slot_here s bags spare slots id filled e)

    others : (u : ℕ) (k : Key) → id ≢ u → things (slot t u).body k ≡ things (slot s u).body k
    others u k n = ap (λ (b : Slot). things b.body k) (slot_other s bags spare slots id filled e u n)

    apart : arriving ≢ in_bag id
    apart z = cc

    same : SameThings (slot s id).body (slot s id).body
    same = record { things = λ k. refl; tick = refl; owed = refl }

    moves : (k : Key) → Moves where_cases (column s k) (column t k) arriving (in_bag id) (goes k)
    moves k = record {
      left = others_wait s xs d arrivals_are h.arrivals_differ k;
      come = own k ∙ came_in s xs d arrivals_are h.arrivals_differ (slot s id).body (slot s id).body r same q (nowhere_else s xs d arrivals_are h.arrivals_differ h (in_bag id) apart) k;
      rest = rest k;
    }
      where
        rest : (k : Key) (w : Where) → w ≢ arriving → w ≢ in_bag id → column t k w ≡ column s k w
        rest k arriving a b = absurd (a refl)
        rest k (in_spot n) a b = refl
        rest k (in_bag u) a b = others u k (λ z. b (ap (λ m. in_bag m) (sym z)))

    kept : (u : ℕ) → Kept (slot s u) (slot t u)
    kept u = elim (cases_eq id u) [
      | inl m ↦ let P : ℕ → Type 0 = λ v. Kept (slot s v) (slot t v) in subst P m (let Q : Slot → Type 0 = λ b. Kept (slot s id) b in subst Q (sym (slot_here s bags spare slots id filled e)) (kept_filled s bags spare slots id r e h))
      | inr n ↦ let Q : Slot → Type 0 = λ b. Kept (slot s u) b in subst Q (sym (slot_other s bags spare slots id filled e u n)) (kept_self (slot s u))
    ]

    -- the chunk of the task is one of the bag's alone
    mine : (k : Key) (x : Thing k) → column s k arriving ≡ Some x → goes k x ≡ true → (place s (chunk_at k x)).bag ≡ Some id
    mine k x z g = ap (λ c. (place s c).bag) (last_chunk_is s xs d arrivals_are h.arrivals_differ k x z g) ∙ home

    both : (a b : Bool) → a ≡ true → b ≡ true → (a && b) ≡ false → ⊥
    both a b m n f = let z : true ≡ false = (rw (m, n) at f) in cc

    soundly : IsTimely r → length bags ≡ length s.bags → All (IsInTime 0) xs → MovesSoundly s t arriving (in_bag id) goes apart moves
    soundly timely long in_time = record {
      come = mine;
      stay = λ k w x z f. h.lies k w x z;
      spot_range = h.spot_range;
      bag_range = λ c i z. let l : i < length s.bags = h.bag_range c i z in omega arith;
      kept = kept;
      fewer = λ u o c z. inl z;
      more = λ u o c z. z;
      lands = λ u o k x z p g.
          let listed : (slot s u).listed ≡ true = (kept u).listed o in
          let held : (place s (chunk_at k x)).bag ≡ Some u = (h.bags u).held (rw listed refl) (chunk_at k x) g in
          let f : Some id ≡ Some u = sym (mine k x z p) ∙ held in
          cc;
      none_come = λ u o z.
          let f : id ≡ u = cc in
          let out : (slot s u).taken ≡ true = sym (kept u).taken ∙ o in
          let P : ℕ → Type 0 = λ v. (slot s v).here ≡ true in
          both (slot s u).here (slot s u).taken (subst P f here) out (h.bags u).one;
      spot_times = h.spot_times;
      bag_times = λ u. elim (cases_eq id u) [
        | inl m ↦ let P : ℕ → Type 0 = λ v. IsTimely (slot t v).body in subst P m (let Q : Slot → Type 0 = λ b. IsTimely b.body in subst Q (sym (slot_here s bags spare slots id filled e)) timely)
        | inr n ↦ let Q : Slot → Type 0 = λ b. IsTimely b.body in subst Q (sym (slot_other s bags spare slots id filled e u n)) (h.bag_times u)
      ];
      arrival_times = in_time;
      arrivals_differ = others_differ s xs d arrivals_are h.arrivals_differ;
    }

    pub delivered : IsTimely r → length bags ≡ length s.bags → All (IsInTime 0) xs → s.spare ≤ spare → s.slots ≤ slots → Changed s t
    delivered timely long in_time more room = record {
      sound = moved_sound s t arriving (in_bag id) goes apart moves (soundly timely long in_time) h;
      same = record { found = moved_found s t arriving (in_bag id) goes apart moves h.unique; bags = long; spare = more; slots = room };
    }

    pub delivered_bags : bag_of t ≡ bag_of s
    delivered_bags = bags_same (with_bags s bags spare slots) t refl ∙ shown_same s bags spare slots id r e h q.tick q.owed
