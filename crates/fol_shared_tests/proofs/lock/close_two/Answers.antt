use Rattle.std.proofs.Common.{◌≡◌, ℕ, zero, suc, ◌<◌, [], ◌∷◌, ◌++◌, sym, refl, ap, ◌∙◌, subst, arith, Some}
use Rattle.std.specs.Prelude.{slice_get}
use Rattle.fol_lock.specs.Lock.{seat_count}
use Rattle.fol_lock.specs.Seat.{Shown, AreAll}
use Rattle.fol_lock.proofs.Callers.{AreAll-in_order}
use Rattle.fol_shared_tests.proofs.lock.close_two.Goals as goal

two : {O E : Type 0} (first second : Shown O E) → first.number ≡ 0 → second.number ≡ 1 → AreAll 2 (first ∷ (second ∷ []))
two first second zeroth one = AreAll-in_order 2 (first ∷ (second ∷ [])) each
  where
    each : (n : ℕ) → n < 2 → (s : Shown _ _) × (slice_get (first ∷ (second ∷ [])) n ≡ Some s) × (s.number ≡ n)
    each zero low = (first, refl, zeroth)
    each (suc zero) low = (second, refl, one)
    each (suc (suc n)) low = absurd (omega arith)

pub close-requires-clause-all : goal.close-requires-clause-all
close-requires-clause-all c =
    let items = c.push_reserved-2.ensures.items ∙ ap (λ xs. xs ++ c.args.second ∷ []) (c.push_reserved.ensures.items ∙ ap (λ xs. xs ++ c.args.first ∷ []) c.in_ok-seats.ensures.items) in
    subst (λ xs. AreAll (seat_count c.args.lock) xs) (sym items) (subst (λ count. AreAll count (c.args.first ∷ (c.args.second ∷ []))) (sym c.requires.count) (two c.args.first c.args.second c.requires.first.1 c.requires.second.1))
