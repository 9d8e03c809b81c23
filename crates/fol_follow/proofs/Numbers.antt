-- Tests on numbers and pairs of numbers.
use Rattle.std.proofs.Common.{◌≡◌, ◌≢◌, ℕ, ◌+◌, ◌<◌, ◌≤◌, ◌&&◌, ◌||◌, Bool, true, false, cond, refl, sym, ◌∙◌, ap, inl, inr, arith}
use Rattle.std.specs.Prelude.{nat_eq, nat_le, Option}
use Rattle.std.specs.Cmp.{nat_eq_equiv, IsTotalOrder}
use Rattle.std.specs.Ordering.{nat_cmp, is_eq, ordering_then}
use Rattle.std.specs.declared.cmp.Ordering.{Ordering}
use Rattle.std.specs.declared.cmp.Ordering.TheVariants.{Less, Equal, Greater}
use Rattle.std.proofs.lemmas.Bool.{cases_Bool, eqb-true, eqb-false, eq-eqb, ne_eqb, leb-true, leb-false}
use Rattle.std.proofs.lemmas.Cmp.{nat_cmp_total}
use Rattle.std.specs.Cmp.{tied_itself}
use Rattle.fol_keyed.proofs.Places.{nat_cmp_tells}
use Rattle.fol_follow.specs.Table.{pair_cmp}

pub nat_self : (n : ℕ) → nat_eq n n ≡ true
nat_self n = nat_eq_equiv.refl n

-- two tests are the same where each is true where the other is
pub same_answer : (a b : Bool) → (a ≡ true → b ≡ true) → (b ≡ true → a ≡ true) → a ≡ b
same_answer true b f g = sym (f refl)
same_answer false true f g = g refl
same_answer false false f g = refl

is_eq-true : (o : Ordering) → is_eq o ≡ true → o ≡ Equal
is_eq-true Less h = cc
is_eq-true Equal h = refl
is_eq-true Greater h = cc

both_eq : (a b : Ordering) → is_eq (ordering_then a b) ≡ (is_eq a && is_eq b)
both_eq Less b = refl
both_eq Equal b = refl
both_eq Greater b = refl

pub one_eq : (a b : ℕ) → is_eq (nat_cmp a b) ≡ nat_eq a b
one_eq a b = same_answer (is_eq (nat_cmp a b)) (nat_eq a b)
    (λ h. eq-eqb a b (nat_cmp_tells a b (is_eq-true (nat_cmp a b) h)))
    (λ h. let s : a ≡ b = eqb-true a b h in let t : nat_cmp a a ≡ Equal = tied_itself nat_cmp_total a in ap is_eq (ap (nat_cmp a) (sym s) ∙ t))

-- the pairs tie just where both parts are the same
pub pair_eq : (a b c d : ℕ) → is_eq (pair_cmp (a, b) (c, d)) ≡ (nat_eq a c && nat_eq b d)
pair_eq a b c d = both_eq (nat_cmp a c) (nat_cmp b d) ∙ ap (λ (x : Bool). x && is_eq (nat_cmp b d)) (one_eq a c) ∙ ap (λ (x : Bool). nat_eq a c && x) (one_eq b d)

-- a map with one pair put, and a set with one added
pub pair_put : (heads head : ℕ × ℕ → Option ℕ) (a b : ℕ) (w v : Option ℕ) → w ≡ v → ((q : ℕ × ℕ) → heads q ≡ cond (is_eq (pair_cmp (a, b) q)) w (head q))
    → (e due : ℕ) → heads (e, due) ≡ cond (nat_eq a e && nat_eq b due) v (head (e, due))
pair_put heads head a b w v s put e due =
    put (e, due)
    ∙ ap (λ (x : Bool). cond x w (head (e, due))) (pair_eq a b e due)
    ∙ ap (λ (x : Option ℕ). cond (nat_eq a e && nat_eq b due) x (head (e, due))) s

pub pair_added : (more made : ℕ × ℕ → Bool) (a b : ℕ) → ((q : ℕ × ℕ) → more q ≡ cond (is_eq (pair_cmp (a, b) q)) true (made q))
    → (e due : ℕ) → more (e, due) ≡ ((nat_eq a e && nat_eq b due) || made (e, due))
pair_added more made a b put e due =
    put (e, due)
    ∙ ap (λ (x : Bool). cond x true (made (e, due))) (pair_eq a b e due)
    ∙ or_is (nat_eq a e && nat_eq b due) (made (e, due))
  where
    or_is : (x y : Bool) → cond x true y ≡ (x || y)
    or_is true y = refl
    or_is false y = refl
