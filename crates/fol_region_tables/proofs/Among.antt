-- Which sections are among a list.
use Rattle.std.proofs.Common.{◌≡◌, ℕ, zero, suc, ◌+◌, ◌<◌, refl, sym, ◌∙◌, ap, arith, Bool, true, false, cond, ◌||◌, List, [], ◌∷◌, length, get_or, take}
use Rattle.std.specs.Cmp.{both_ways}
use Rattle.std.proofs.lemmas.Bool.{or_left, or_right}
use Rattle.std.proofs.lemmas.List.Folds.{list_any_more}
use Rattle.fol_model.specs.declared.places.SectionPos.{SectionPos}
use Rattle.fol_model.specs.Geometry.{same_section, is_among}
use Rattle.fol_laws.proofs.SamePlaces.{same_section-true, same_section-self}

pub same_section-swap : (a b : SectionPos) → same_section a b ≡ same_section b a
same_section-swap a b = both_ways (same_section a b) (same_section b a)
    (λ h. let e = same_section-true a b h in rw e (same_section-self b))
    (λ h. let e = same_section-true b a h in rw e (same_section-self a))

-- one section more of the list
pub among_more : (xs : List SectionPos) (i : ℕ) (d q : SectionPos) → i < length xs → is_among (take (i + 1) xs) q ≡ (is_among (take i xs) q || same_section (get_or xs i d) q)
among_more xs i d q l = list_any_more (same_section q) xs i d l ∙ ap (λ b. is_among (take i xs) q || b) (same_section-swap q (get_or xs i d))

-- a function that is set at one section after it was set at those before it
pub set_more : (f g h : SectionPos → ℕ) (xs : List SectionPos) (i v : ℕ) (d : SectionPos) → i < length xs
    → ((q : SectionPos) → g q ≡ cond (is_among (take i xs) q) v (f q)) → ((q : SectionPos) → h q ≡ cond (same_section (get_or xs i d) q) v (g q))
    → (q : SectionPos) → h q ≡ cond (is_among (take (i + 1) xs) q) v (f q)
set_more f g h xs i v d l e k q = k q ∙ ap (λ n. cond (same_section (get_or xs i d) q) v n) (e q) ∙ either (is_among (take i xs) q) (same_section (get_or xs i d) q) ∙ ap (λ b. cond b v (f q)) (sym (among_more xs i d q l))
  where
    either : (a b : Bool) → cond b v (cond a v (f q)) ≡ cond (a || b) v (f q)
    either true true = refl
    either true false = refl
    either false true = refl
    either false false = refl

-- each of the list is among it
pub among_at : (xs : List SectionPos) (i : ℕ) (d : SectionPos) → i < length xs → is_among xs (get_or xs i d) ≡ true
among_at [] i d l = absurd (omega arith)
among_at (x ∷ xs) zero d l = or_left _ _ (same_section-self x)
among_at (x ∷ xs) (suc i) d l = or_right (same_section (get_or xs i d) x) _ (among_at xs i d (omega arith))
