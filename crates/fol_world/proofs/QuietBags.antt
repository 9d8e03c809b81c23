-- The bags and the stack when quiet ticks of a region pass.
use Rattle.std.proofs.Common.{◌≡◌, ℕ, zero, suc, ◌+◌, ◌-◌, ◌<◌, sym, ◌∙◌, ap, arith, true, inl, inr, List}
use Rattle.std.specs.Prelude.{nat_lt}
use Rattle.std.proofs.lemmas.Bool.{cases_eq, and_from, and_parts, lt-ltb, ltb-true}
use Rattle.fol_model.specs.GridState.{GridState, is_ready}
use Rattle.fol_model.specs.ActionStep.{at_id}
use Rattle.fol_laws.proofs.FunctionsChanged.{at_here, at_other}
use Rattle.fol_store.specs.Bag.{Bag}
use Rattle.fol_store.specs.Passing.{PassesTimes}
use Rattle.fol_store.specs.Stock.{Stock, bag_of}
use Rattle.fol_world.specs.Agenda.{Covers, HaveBags, IsAgenda, owes}

-- the bags when a tick of a region passed
abbrev pub passed_bags : (ℕ → Bag) → ℕ → ℕ → Bag
passed_bags f id = at_id f id (record (f id) { tick = (f id).tick + 1; owed = (f id).owed - 1 })

pub passed_here : (f h : ℕ → Bag) (id r : ℕ) → h ≡ passed_bags f id → (h r).here ≡ (f r).here
passed_here f h id r e = ap (λ (x : ℕ → Bag). (x r).here) e ∙ elim (cases_eq r id) [
  | inl s ↦ rw s (ap (λ (b : Bag). b.here) (at_here f id (record (f id) { tick = (f id).tick + 1; owed = (f id).owed - 1 })))
  | inr d ↦ ap (λ (b : Bag). b.here) (at_other f id (record (f id) { tick = (f id).tick + 1; owed = (f id).owed - 1 }) r d)
]

pub passed_have : (g : GridState) (f h : ℕ → Bag) (id : ℕ) → h ≡ passed_bags f id → HaveBags g f → HaveBags g h
passed_have g f h id e have r x = passed_here f h id r e ∙ have r x

-- a region that owes a tick then owed one before
owed_before : (f : ℕ → Bag) (id r : ℕ) → nat_lt 0 (passed_bags f id r).owed ≡ true → nat_lt 0 (f r).owed ≡ true
owed_before f id r x = elim (cases_eq r id) [
  | inl s ↦ let here = at_here f id (record (f id) { tick = (f id).tick + 1; owed = (f id).owed - 1 }) in
      let y : nat_lt 0 ((f id).owed - 1) ≡ true = rw (s, here) at x in
      rw s (lt-ltb 0 (f id).owed (omega (arith, ltb-true 0 ((f id).owed - 1) y)))
  | inr d ↦ let other = at_other f id (record (f id) { tick = (f id).tick + 1; owed = (f id).owed - 1 }) r d in rw other at x
]

pub passed_covers : (xs : List ℕ) (g : GridState) (f h : ℕ → Bag) (id : ℕ) → h ≡ passed_bags f id → Covers xs g f → Covers xs g h
passed_covers xs g f h id e covers r x =
    let y : owes g (passed_bags f id) r ≡ true = ap (λ (k : ℕ → Bag). owes g k r) (sym e) ∙ x in
    let p = and_parts (is_ready (g.state r)) (nat_lt 0 (passed_bags f id r).owed) y in
    covers r (and_from (is_ready (g.state r)) (nat_lt 0 (f r).owed) p.0 (owed_before f id r p.1))

-- a region that owes a tick has its bag, and owes some
pub owing_here : (g : GridState) (f : ℕ → Bag) (id : ℕ) → HaveBags g f → owes g f id ≡ true → (f id).here ≡ true
owing_here g f id have o = have id (and_parts (is_ready (g.state id)) (nat_lt 0 (f id).owed) o).0

pub owing_some : (g : GridState) (f : ℕ → Bag) (id : ℕ) → owes g f id ≡ true → 0 < (f id).owed
owing_some g f id o = ltb-true 0 (f id).owed (and_parts (is_ready (g.state id)) (nat_lt 0 (f id).owed) o).1

-- where the region owes more ticks still, the stack stays as it has to be
pub passed_agenda : (xs : List ℕ) (g : GridState) (f h : ℕ → Bag) (id : ℕ) → h ≡ passed_bags f id → 0 < (h id).owed → IsAgenda xs g f → IsAgenda xs g h
passed_agenda xs g f h id e more a = record {
  covers = passed_covers xs g f h id e a.covers;
  top = λ ys r is. owes_still r (a.top ys r is);
}
  where
    owed_still : (r : ℕ) → nat_lt 0 (f r).owed ≡ true → nat_lt 0 (h r).owed ≡ true
    owed_still r x = elim (cases_eq r id) [
      | inl s ↦ rw s (lt-ltb 0 (h id).owed more)
      | inr d ↦ let other = at_other f id (record (f id) { tick = (f id).tick + 1; owed = (f id).owed - 1 }) r d in rw (e, other) x
    ]

    owes_still : (r : ℕ) → owes g f r ≡ true → owes g h r ≡ true
    owes_still r x =
        let p = and_parts (is_ready (g.state r)) (nat_lt 0 (f r).owed) x in
        and_from (is_ready (g.state r)) (nat_lt 0 (h r).owed) p.0 (owed_still r p.1)

-- ---- many ticks

pub times_have : (g : GridState) (id n : ℕ) (k l : Stock) → PassesTimes id n k l → HaveBags g (bag_of k) → HaveBags g (bag_of l)
times_have g id zero k l p have = rw p.bags have
times_have g id (suc n) k l p have = times_have g id n p.0 l p.2 (passed_have g (bag_of k) (bag_of p.0) id p.1.bags have)

pub times_covers : (xs : List ℕ) (g : GridState) (id n : ℕ) (k l : Stock) → PassesTimes id n k l → Covers xs g (bag_of k) → Covers xs g (bag_of l)
times_covers xs g id zero k l p covers = rw p.bags covers
times_covers xs g id (suc n) k l p covers = times_covers xs g id n p.0 l p.2 (passed_covers xs g (bag_of k) (bag_of p.0) id p.1.bags covers)
