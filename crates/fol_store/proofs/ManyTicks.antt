-- Several ticks of a region pass, one after another, in which none of its tasks is due.
use Rattle.std.proofs.Common.{◌≡◌, ℕ, zero, suc, ◌+◌, ◌-◌, ◌≤◌, ◌^◌, true, List, length, get_or, map, refl, sym, ◌∙◌, ap, subst, inl, inr, arith}
use Rattle.std.specs.Prelude.{nat_eq, if◌then◌else◌}
use Rattle.std.specs.Fn.{iterate}
use Rattle.std.proofs.Math.ListN.{set}
use Rattle.std.proofs.Math.Path.{fun_ext}
use Rattle.std.proofs.lemmas.Bool.{cases_Bool, eqb-true, eqb-false}
use Rattle.std.proofs.lemmas.List.{get_or-set_same, get_or-set_other, length-set}
use Rattle.fol_model.specs.ActionStep.{Flat, Recorded, at_id}
use Rattle.fol_model.specs.FlatTick.{moved}
use Rattle.fol_model.specs.World.{block_in}
use Rattle.fol_queues.specs.Waiting.{due_count}
use Rattle.fol_chunks.specs.Contents.{Contents, flat_of as contents_of, is_recorded}
use Rattle.fol_chunks.specs.Rows.{stepped}
use Rattle.fol_chunks.proofs.Movement.{standing_stepped}
use Rattle.fol_bags.specs.declared.slot.Slot.{Slot}
use Rattle.fol_bags.specs.Things.{Key, of_block, of_entity, of_task, things, some_number, IsTimely}
use Rattle.fol_bags.specs.Slots.{no_slot}
use Rattle.fol_bags.proofs.OpenBags.{here_range}
use Rattle.fol_store.specs.Bag.{Bag}
use Rattle.fol_store.specs.Stock.{Stock, slot, shown, bag_of, next_of}
use Rattle.fol_store.specs.Sound.{IsSound}
use Rattle.fol_store.specs.Passing.{PassesOnce, HoldsSame, PassesTimes}
use Rattle.fol_store.proofs.Resound.{Kept}
use Rattle.fol_store.proofs.BagSteps.{OneStep, with_bags, bag_slot, bags_shown, slot_here, slot_other, one_kept, one_step}
use Rattle.fol_store.proofs.Passing.{none_sooner, passed_timely, passed_sound, passed_contents, passed_tasks, waits_longer}

-- the bag after so many more ticks, with these contents
abbrev pub aged_by : ℕ → Slot → Contents → Slot
aged_by n b chunks = record b {
  body = record b.body {
    tick = b.body.tick + n;
    owed = b.body.owed - n;
    chunks = chunks;
  };
}

-- so many ticks can pass in the bag, after which these are its contents
pub record Passable (n : ℕ) (b : Slot) (chunks : Contents) : Type 0 where
  pub here : b.here ≡ true
  pub listed : b.listed ≡ true
  pub calm : b.calm ≡ true
  pub none_due : due_count (b.body.tick + n) b.body.queues ≡ 0
  pub owes : n ≤ b.body.owed
  pub early : b.body.tick + n ≤ 2 ^ 62
  pub walk : contents_of chunks ≡ iterate (moved (is_recorded b.chunks)) n (contents_of b.body.chunks)

-- contents one movement later
abbrev next_contents : Recorded → Contents → Contents
next_contents rec v = record v { entities = map (stepped rec) v.entities }

next_moved : (rec : Recorded) (v : Contents) → contents_of (next_contents rec v) ≡ moved rec (contents_of v)
next_moved rec v = ap (λ f. let r : Flat = record { blocks = block_in v.blocks; standing = f } in r) (standing_stepped rec v.entities)

-- the bag one tick later
abbrev next_slot : Slot → Slot
next_slot b = aged_by 1 b (next_contents (is_recorded b.chunks) b.body.chunks)

passable_next : (n : ℕ) (b : Slot) (chunks : Contents) → Passable (suc n) b chunks → Passable n (next_slot b) chunks
passable_next n b chunks p = record {
  here = p.here;
  listed = p.listed;
  calm = p.calm;
  none_due =
      let e : b.body.tick + suc n ≡ b.body.tick + 1 + n = omega arith in
      let P : ℕ → Type 0 = λ t. due_count t b.body.queues ≡ 0 in subst P e p.none_due;
  owes = let l = p.owes in omega (arith, l);
  early = let l = p.early in omega (arith, l);
  walk = p.walk ∙ ap (iterate (moved (is_recorded b.chunks)) n) (sym (next_moved (is_recorded b.chunks) b.body.chunks));
}

aged_none : (b : Slot) (chunks : Contents) → aged_by 0 b chunks ≡ record b { body = record b.body { chunks = chunks } }
aged_none b chunks =
    let e : b.body.tick + 0 ≡ b.body.tick = omega arith in
    let f : b.body.owed - 0 ≡ b.body.owed = omega arith in
    rw (e, f) refl

aged_later : (n : ℕ) (b : Slot) (chunks : Contents) → aged_by (suc n) b chunks ≡ aged_by n (next_slot b) chunks
aged_later n b chunks =
    let e : b.body.tick + suc n ≡ b.body.tick + 1 + n = omega arith in
    let f : b.body.owed - suc n ≡ b.body.owed - 1 - n = omega arith in
    rw (e, f) refl

at_itself : (f : ℕ → Bag) (id : ℕ) → at_id f id (f id) ≡ f
at_itself f id = fun_ext (λ u. elim (cases_Bool (nat_eq id u)) [ inl q ↦ rw q (ap f (eqb-true id u q)) | inr q ↦ rw q refl ])

-- ---- no tick passes
module _ (s : Stock) (id : ℕ) (bags : List Slot) (spare slots : ℕ) (chunks : Contents) (h : IsSound s) (p : Passable 0 (slot s id) chunks) where
  abbrev same_slot : Slot
  same_slot = record (slot s id) { body = record (slot s id).body { chunks = chunks } }

  same_things : (k : Key) → things same_slot.body k ≡ things (slot s id).body k
  same_things (of_block b) = ap (λ (f : Flat). some_number (f.blocks b)) p.walk
  same_things (of_entity n) = ap (λ (f : Flat). f.standing n) p.walk
  same_things (of_task n) = refl

  same_kept : Kept (slot s id) same_slot
  same_kept = record { here = refl; taken = refl; chunks = refl; list = refl; touched = refl; listed = λ o. o; calm = λ o. o }

  same_timely : IsTimely same_slot.body
  same_timely = let t = h.bag_times id in record { tick = t.tick; in_time = t.in_time }

  module _ (e : (u : ℕ) → slot (with_bags s bags spare slots) u ≡ (if nat_eq id u then same_slot else slot s u)) (long : length bags ≡ length s.bags) where
    none_passes : OneStep s (with_bags s bags spare slots) id (bag_of s id)
    none_passes = one_step s bags spare slots id same_slot e (bag_of s id) h same_things long same_timely (one_kept s bags spare slots id same_slot e h same_kept) (sym (bag_slot s id))

    holds_same : HoldsSame s (with_bags s bags spare slots)
    holds_same = record {
      bags = none_passes.bags ∙ at_itself (bag_of s) id;
      contents = none_passes.contents;
      tasks = none_passes.tasks;
      next = none_passes.next;
    }

-- ---- the first of some ticks passes
module _ (s : Stock) (id n : ℕ) (chunks : Contents) (h : IsSound s) (p : Passable (suc n) (slot s id) chunks) where
  abbrev rec : Recorded
  rec = is_recorded (slot s id).chunks

  abbrev contents : Contents
  contents = next_contents rec (slot s id).body.chunks

  abbrev bags : List Slot
  bags = set s.bags id (next_slot (slot s id))

  -- the store after it
  abbrev mid : Stock
  mid = with_bags s bags s.spare s.slots

  long : length bags ≡ length s.bags
  long = length-set s.bags id (next_slot (slot s id))

  at_mid : (u : ℕ) → slot mid u ≡ (if nat_eq id u then next_slot (slot s id) else slot s u)
  at_mid u =
      elim (cases_Bool (nat_eq id u)) [
        | inl q ↦
            let P : ℕ → Type 0 = λ v. get_or bags v no_slot ≡ next_slot (slot s id) in
            rw q (subst P (eqb-true id u q) (get_or-set_same s.bags id (next_slot (slot s id)) no_slot (here_range s.bags id p.here)))
        | inr q ↦ rw q (get_or-set_other s.bags id u (next_slot (slot s id)) no_slot (λ e. eqb-false id u q (sym e)))
      ]

  none : due_count ((slot s id).body.tick + 1) (slot s id).body.queues ≡ 0
  none = none_sooner ((slot s id).body.tick + 1) ((slot s id).body.tick + suc n) (slot s id).body.queues.tasks (omega arith) p.none_due

  mid_sound : IsSound mid
  mid_sound =
      passed_sound s bags s.spare s.slots id contents at_mid (next_moved rec (slot s id).body.chunks) h p.listed p.calm long
      (passed_timely s bags 0 0 id contents none h (let l = p.early in omega (arith, l)))

  here_mid : slot mid id ≡ next_slot (slot s id)
  here_mid = slot_here s bags s.spare s.slots id (next_slot (slot s id)) at_mid

  mid_passable : Passable n (slot mid id) chunks
  mid_passable = let P : Slot → Type 0 = λ b. Passable n b chunks in subst P (sym here_mid) (passable_next n (slot s id) chunks p)

  mid_bags : bag_of mid ≡ at_id (bag_of s) id (record (bag_of s id) { tick = (bag_of s id).tick + 1; owed = (bag_of s id).owed - 1 })
  mid_bags = bags_shown s bags s.spare s.slots id (next_slot (slot s id)) (next_bag (bag_of s id)) at_mid (shown_next p.here)
    where
      next_bag : Bag → Bag
      next_bag b = record b { tick = b.tick + 1; owed = b.owed - 1 }

      shown_next : (slot s id).here ≡ true → shown (next_slot (slot s id)) ≡ next_bag (bag_of s id)
      shown_next e = rw (bag_slot s id, e) refl

  once : PassesOnce id s mid
  unfolding bag_of next_of
  once = record {
    here = p.here;
    whole = rw (p.listed, p.calm) refl;
    owes = rw p.here (let l = p.owes in omega (arith, l));
    bags = mid_bags;
    contents = passed_contents s bags s.spare s.slots id contents at_mid (next_moved rec (slot s id).body.chunks) h p.listed p.calm;
    tasks = passed_tasks s bags s.spare s.slots id contents at_mid (next_moved rec (slot s id).body.chunks) h p.listed p.calm;
    later = waits_longer s bags 0 0 id contents none h p.listed p.calm;
    next = long;
  }

  -- the bags after the rest of them, as seen from there
  at_last : (last : Stock) → ((u : ℕ) → slot last u ≡ (if nat_eq id u then aged_by (suc n) (slot s id) chunks else slot s u))
      → (u : ℕ) → slot last u ≡ (if nat_eq id u then aged_by n (slot mid id) chunks else slot mid u)
  at_last last e u =
      e u ∙ elim (cases_Bool (nat_eq id u)) [
        | inl q ↦ rw q (aged_later n (slot s id) chunks ∙ ap (λ b. aged_by n b chunks) (sym here_mid))
        | inr q ↦ rw q (sym (slot_other s bags s.spare s.slots id (next_slot (slot s id)) at_mid u (eqb-false id u q)))
      ]

-- so many ticks passed between two stores, and the second is sound
pub record HavePassed (id n : ℕ) (old new : Stock) : Type 0 where
  pub times : PassesTimes id n old new
  pub sound : IsSound new

pub passes : (n : ℕ) (s : Stock) (id : ℕ) (bags : List Slot) (spare slots : ℕ) (chunks : Contents) → IsSound s → Passable n (slot s id) chunks
    → ((u : ℕ) → slot (with_bags s bags spare slots) u ≡ (if nat_eq id u then aged_by n (slot s id) chunks else slot s u)) → length bags ≡ length s.bags → HavePassed id n s (with_bags s bags spare slots)
passes zero s id bags spare slots chunks h p e long =
    let same : (u : ℕ) → slot (with_bags s bags spare slots) u ≡ (if nat_eq id u then same_slot s id bags spare slots chunks h p else slot s u) =
    λ u. e u ∙ ap (λ (b : Slot). if nat_eq id u then b else slot s u) (aged_none (slot s id) chunks) in
    record {
      times = holds_same s id bags spare slots chunks h p same long;
      sound = (none_passes s id bags spare slots chunks h p same long).sound;
    }
passes (suc n) s id bags spare slots chunks h p e long_new =
    let r : HavePassed id n (mid s id n chunks h p) (with_bags s bags spare slots) =
    passes n (mid s id n chunks h p) id bags spare slots chunks (mid_sound s id n chunks h p) (mid_passable s id n chunks h p) (at_last s id n chunks h p (with_bags s bags spare slots) e) (long_new ∙ sym (long s id n chunks h p)) in
    record {
      times = (mid s id n chunks h p, once s id n chunks h p, r.times);
      sound = r.sound;
    }
