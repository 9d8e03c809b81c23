-- A worker that is met leaves no tick to be offered where none was left.
use Rattle.std.proofs.Common.{◌≡◌, ◌∙◌, ◌<◌, ℕ, refl, sym, ap, subst, Bool, false, ◌&&◌, inl, inr}
use Rattle.std.specs.Prelude.{nat_eq, not}
use Rattle.std.proofs.lemmas.Bool.{cases_Bool}
use Rattle.fol_model.specs.declared.events.Event.TheVariants.{Begin}
use Rattle.fol_model.specs.ActionStep.{at_id}
use Rattle.fol_model.specs.Begin.{begin}
use Rattle.fol_model.specs.QueuedTask.{begun}
use Rattle.fol_model.specs.World.{World}
use Rattle.fol_model.specs.Run.{after}
use Rattle.fol_core.specs.Ahead.{Learns}
use Rattle.fol_core.specs.Answers.{is_over, is_owing}
use Rattle.fol_core.specs.Meaning.{Meaning, is_prepared, world_of}
use Rattle.fol_offers.specs.Ends.{Meets}
use Rattle.fol_offers.specs.Shown.{NoneFree, Shown}
use Rattle.fol_offers.proofs.Tying.{one_more, over_begun}

next_begun : (w : World) (k r : ℕ) → (after w (Begin k r)).grid.next ≡ w.grid.next
unfolding begun begin
next_begun w k r = refl

free_begun : (w : World) (k r q : ℕ) (marks : ℕ → Bool) → (is_owing w q && not (marks q)) ≡ false → (is_owing (after w (Begin k r)) q && not (at_id marks r false q)) ≡ false
unfolding begun begin
free_begun w k r q marks none = elim (cases_Bool (nat_eq r q)) [ inl same ↦ rw same refl | inr other ↦ rw other none ]

-- nor does a Begin that is learnt
pub learnt_none_left : (m n : Meaning) (by k r : ℕ) → Learns m n by k r → NoneFree m → NoneFree n
learnt_none_left m n by k r did (inl over) =
    inl (ap is_over (one_more m n (record { by = by; event = Begin k r }) did.opening did.history) ∙ over_begun (world_of m) k r ∙ over)
learnt_none_left m n by k r did (inr none) =
    let now : world_of n ≡ after (world_of m) (Begin k r) = one_more m n (record { by = by; event = Begin k r }) did.opening did.history in
    inr (λ q some below.
    let given : q < (world_of m).grid.next = subst (λ (x : ℕ). q < x) (ap (λ (w : World). w.grid.next) now ∙ next_begun (world_of m) k r) below in
    ap (λ (w : World). is_owing w q && not (is_prepared n q)) now ∙ ap (λ (f : ℕ → Bool). is_owing (after (world_of m) (Begin k r)) q && not (f q)) did.prepared
    ∙ free_begun (world_of m) k r q (is_prepared m) (none q some given))

pub met_none_left : (a b : Shown) (k r : ℕ) → Meets a b k r → NoneFree a.core → NoneFree b.core
met_none_left a b k r did none = elim (cases_Bool (is_prepared a.core r)) [
  | inl marked ↦ learnt_none_left a.core b.core k k r (did.learnt marked) none
  | inr free ↦ subst NoneFree (sym (did.known free)) none
]
