-- Queues with one task, and regions that hold nothing.
use Rattle.std.proofs.Common.{◌≡◌, ℕ, ℤ, inl, inr, sym, ◌∙◌, ap, refl, subst, List, [], Option, Some, None}
use Rattle.std.specs.Prelude.{nat_eq}
use Rattle.std.specs.Option.{ForSome}
use Rattle.std.proofs.lemmas.Bool.{cases_Bool}
use Rattle.fol_model.specs.ActionStep.{Flat, at_id}
use Rattle.fol_queues.specs.declared.dated.Dated.{Dated}
use Rattle.fol_queues.specs.Waiting.{Waiting, dated, dated_in, IsRaisable}
use Rattle.fol_chunks.specs.Contents.{nothing, Apart}
use Rattle.fol_data.specs.Rests.{IsInTime}

-- where one task is in time, all are
pub one_in_time : (tick number : ℕ) (d : Dated) (tasks : ℕ → Option Dated) → tasks ≡ at_id (λ n. None) number (Some d) → IsInTime tick d → (n : ℕ) → ForSome (tasks n) (IsInTime tick)
one_in_time tick number d tasks e h n x is =
    let one = rw e at is in
    elim (cases_Bool (nat_eq number n)) [
      | inl t ↦ let same = rw t at one in let own : d ≡ x = cc in subst (IsInTime tick) own h
      | inr t ↦ let none = rw t at one in absurd cc
    ]

-- where its one task can be moved, all can
pub one_raisable : (olds : List Dated) (q : Waiting) (k : ℕ) (d : Dated) (offset : ℤ) → olds ≡ [] → dated q ≡ at_id (dated_in olds) k (Some d) → IsRaisable offset d → (n : ℕ) → ForSome (dated q n) (IsRaisable offset)
one_raisable olds q k d offset empty is h n x e =
    let f : at_id (dated_in []) k (Some d) n ≡ Some x = ap (λ (g : ℕ → Option Dated). g n) (sym (rw empty at is)) ∙ e in
    elim (cases_Bool (nat_eq k n)) [
      | inl t ↦ let g : Some d ≡ Some x = rw t at f in let s : d ≡ x = cc in subst (λ (y : Dated). IsRaisable offset y) s h
      | inr t ↦ let g : None ≡ Some x = rw t at f in cc
    ]

-- nothing is apart from anything
pub apart_from_nothing : (f g : Flat) → f ≡ nothing → Apart f g
apart_from_nothing f g e = subst (λ (h : Flat). Apart h g) (sym e) (record { blocks = λ b. refl; standing = λ id. refl })
