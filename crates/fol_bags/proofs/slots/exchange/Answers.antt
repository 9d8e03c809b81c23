use Rattle.std.proofs.Common.{◌≡◌, ◌≢◌, ℕ, refl, sym, ◌∙◌, inl, inr}
use Rattle.std.specs.Prelude.{nat_eq, if◌then◌else◌}
use Rattle.std.proofs.lemmas.Bool.{cases_Bool, eqb-true}
use Rattle.fol_bags.specs.declared.slot.Slot.{Slot}
use Rattle.fol_bags.specs.Slots.{no_slot, slot_in}
use Rattle.fol_bags.proofs.slots.exchange.Goals as goal

-- the bags after both were taken out and laid in each other's place
exchanged : (a b : ℕ) (f g h i k : ℕ → Slot) (x y : Slot) → a ≢ b
    → ((u : ℕ) → g u ≡ (if nat_eq a u then no_slot else f u))
    → ((u : ℕ) → h u ≡ (if nat_eq b u then no_slot else g u))
    → ((u : ℕ) → i u ≡ (if nat_eq a u then y else h u))
    → ((u : ℕ) → k u ≡ (if nat_eq b u then x else i u))
    → x ≡ f a → y ≡ g b
    → (u : ℕ) → k u ≡ (if nat_eq a u then f b else (if nat_eq b u then f a else f u))
exchanged a b f g h i k x y apart one two three four first second u = elim (cases_Bool (nat_eq b u)) [
  | inl e ↦ elim (cases_Bool (nat_eq a u)) [
    | inl d ↦ absurd (apart (eqb-true a u d ∙ sym (eqb-true b u e)))
    | inr d ↦ four u ∙ rw (e, d) first
  ]
  | inr e ↦ elim (cases_Bool (nat_eq a u)) [
    | inl d ↦ four u ∙ rw (e, d) (three u ∙ rw d (second ∙ one b ∙ other))
    | inr d ↦ four u ∙ rw (e, d) (three u ∙ rw d (two u ∙ rw e (one u ∙ rw d refl)))
  ]
]
  where
    other : (if nat_eq a b then no_slot else f b) ≡ f b
    other = elim (cases_Bool (nat_eq a b)) [
      | inl d ↦ absurd (apart (eqb-true a b d))
      | inr d ↦ rw d refl
    ]

pub returns : goal.returns
returns c = record {
  sets = record {
    slots = exchanged c.args.a c.args.b (slot_in c.args.bags.now.items) (slot_in c.lift-first.new.self.items) (slot_in c.lift-second.new.self.items) (slot_in c.lay.new.self.items) (slot_in c.lay-2.new.self.items)
        c.lift-first.result c.lift-second.result c.requires.differ c.lift-first.ensures.sets.slots c.lift-second.ensures.sets.slots c.lay.ensures.sets.slots c.lay-2.ensures.sets.slots c.lift-first.ensures.kept c.lift-second.ensures.kept;
    len = c.lay-2.ensures.sets.len ∙ c.lay.ensures.sets.len ∙ c.lift-second.ensures.sets.len ∙ c.lift-first.ensures.sets.len;
    free = c.lay-2.ensures.sets.free ∙ c.lay.ensures.sets.free ∙ c.lift-second.ensures.sets.free ∙ c.lift-first.ensures.sets.free;
  };
}
