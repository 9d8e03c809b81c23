-- Regions are offered one after another.
use Rattle.std.proofs.Common.{◌≡◌, ◌≢◌, ℕ, ◌<◌, sym, refl, ap, ◌∙◌, subst, Bool, true, false, true≢false, not, ◌&&◌, cond, arith, inl, inr}
use Rattle.std.specs.Prelude.{Option, Some, None}
use Rattle.std.proofs.lemmas.Bool.{and_from, and_parts, false_from_ne_true, not_from_false, not-true}
use Rattle.std.proofs.lemmas.Bool.Decides.{eqb_tells}
use Rattle.fol_model.specs.ActionStep.{at_id}
use Rattle.fol_model.specs.Counting.{count_below}
use Rattle.fol_model.specs.World.{World}
use Rattle.fol_laws.proofs.CountBelow.{count_less}
use Rattle.fol_laws.proofs.FunctionsChanged.{at_here, at_other}
use Rattle.fol_core.specs.Ahead.{Prepares}
use Rattle.fol_core.specs.Answers.{is_free, is_owing, is_over}
use Rattle.fol_core.specs.Meaning.{Meaning, Stays, is_prepared, world_of}
use Rattle.fol_offers.specs.Shown.{NoneFree, OffersMore, OffersNext, Shown}
use Rattle.fol_offers.proofs.Facts.{stays_free}
use Rattle.fol_offers.proofs.Tying.{same_world}

-- what is left to be offered is the same where the core stands for what it stood for
pub none_free_stays : (m n : Meaning) → Stays m n → NoneFree m → NoneFree n
none_free_stays m n same none =
    let world_is : world_of n ≡ world_of m = same_world m n same.opening same.history in
    elim none [
      | inl over ↦ inl (ap is_over world_is ∙ over)
      | inr all ↦ inr (λ r some low. stays_free m n r same ∙ all r some (subst (λ (w : World). r < w.grid.next) world_is low))
    ]

-- a region that is free then was free before
module _ (a b : Shown) (did : OffersMore a b) where
  free_before : (r : ℕ) → is_free b.core r ≡ true → is_free a.core r ≡ true
  free_before r free =
      let parts = and_parts (is_owing (world_of b.core) r) (not (is_prepared b.core r)) free in
      let none : is_prepared b.core r ≡ false = not-true (is_prepared b.core r) parts.1 in
      let owing : is_owing (world_of a.core) r ≡ true = ap (λ (w : World). is_owing w r) (sym (same_world a.core b.core did.opening did.history)) ∙ parts.0 in
      and_from (is_owing (world_of a.core) r) (not (is_prepared a.core r)) owing
      (not_from_false (is_prepared a.core r) (false_from_ne_true (is_prepared a.core r) (λ was. true≢false (sym (did.prepared r was) ∙ none))))

  pub more_stays : (c : Shown) → c.slots ≡ b.slots → c.workers ≡ b.workers → Stays b.core c.core → OffersMore a c
  more_stays c slots workers same =
      let marks : (r : ℕ) → is_prepared c.core r ≡ is_prepared b.core r = λ r. ap (λ (f : ℕ → Bool). f r) same.prepared in record {
        slots = slots ∙ did.slots;
        workers = workers ∙ did.workers;
        opening = same.opening ∙ did.opening;
        history = same.history ∙ did.history;
        prepared = λ r was. marks r ∙ did.prepared r was;
        free = λ r now. did.free r (sym (marks r) ∙ now);
      }

  pub more_next : (c : Shown) (o : Option ℕ) → c.slots ≡ b.slots → c.workers ≡ b.workers → OffersNext b.core c.core o → OffersMore a c
  more_next c None slots workers next = more_stays c slots workers next.0
  more_next c (Some r) slots workers next =
      let prepares = next.2 in
      let marks : (q : ℕ) → is_prepared c.core q ≡ at_id (is_prepared b.core) r true q = λ q. ap (λ (f : ℕ → Bool). f q) prepares.prepared in record {
        slots = slots ∙ did.slots;
        workers = workers ∙ did.workers;
        opening = prepares.opening ∙ did.opening;
        history = prepares.history ∙ did.history;
        prepared = λ q was. elim (eqb_tells r q) [
          | inl y ↦ ap (is_prepared c.core) (sym y.1) ∙ (marks r ∙ at_here (is_prepared b.core) r true)
          | inr y ↦ marks q ∙ (at_other (is_prepared b.core) r true q (λ z. y.1 (sym z)) ∙ did.prepared q was)
        ];
        free = λ q now. elim (eqb_tells r q) [
          | inl y ↦ inr (ap (is_free a.core) (sym y.1) ∙ free_before r next.1)
          | inr y ↦ did.free q (sym (at_other (is_prepared b.core) r true q (λ z. y.1 (sym z))) ∙ (sym (marks q) ∙ now))
        ];
      }

-- nothing was offered yet
pub more_none : (a : Shown) → OffersMore a a
more_none a = record { slots = refl; workers = refl; opening = refl; history = refl; prepared = λ r was. was; free = λ r now. inl now }

-- then one region fewer is free
pub free_fewer : (m n : Meaning) (r : ℕ) → is_free m r ≡ true → r < (world_of m).grid.next → Prepares m n r
    → count_below (is_free n) (world_of n).grid.next < count_below (is_free m) (world_of m).grid.next
free_fewer m n r free low did =
    let world_is : world_of n ≡ world_of m = same_world m n did.opening did.history in
    let next : ℕ = (world_of m).grid.next in
    let marked : is_prepared n r ≡ true = ap (λ (f : ℕ → Bool). f r) did.prepared ∙ at_here (is_prepared m) r true in
    let gone : is_free n r ≡ false = ap (λ (x : Bool). is_owing (world_of n) r && not x) marked ∙ none_of (is_owing (world_of n) r) in
    let others : (k : ℕ) → k ≢ r → is_free m k ≡ is_free n k = λ k ne.
    let mark : is_prepared n k ≡ is_prepared m k = ap (λ (f : ℕ → Bool). f k) did.prepared ∙ at_other (is_prepared m) r true k ne in
    λ j. is_owing (sym world_is j) k && not (sym mark j) in
    let sum = count_less (is_free m) (is_free n) next r low gone others in
    let one : cond (is_free m r) 1 0 ≡ 1 = ap (λ (z : Bool). cond {A = ℕ} z 1 0) free in
    let same : count_below (is_free n) (world_of n).grid.next ≡ count_below (is_free n) next = ap (λ (w : World). count_below (is_free n) w.grid.next) world_is in
    omega (arith, sum, one, same)
  where
    none_of : (b : Bool) → (b && false) ≡ false
    none_of true = refl
    none_of false = refl
