-- How much room the wishes of tasks need.
use Rattle.std.proofs.Common.{◌≡◌, ℕ, ◌+◌, ◌≤◌, ◌<◌, refl, ◌∙◌, ap, arith, inl, inr, List, [], ◌∷◌, length, get_or, take, drop, drop-drop}
use Rattle.std.specs.Prelude.{nat_le, Option, Some, None}
use Rattle.std.specs.List.{sum_by}
use Rattle.std.specs.Option.{option_to_list}
use Rattle.std.proofs.lemmas.Bool.{cases_Bool}
use Rattle.std.proofs.lemmas.List.Sums.{sum_by-append, sum_by-cons}
use Rattle.fol_model.specs.Geometry.{chunk_of}
use Rattle.fol_model.specs.ActionStep.{Flat, Recorded, Standing, departs, plain_of, plain_wishes}
use Rattle.fol_model.specs.declared.places.BlockPos.{BlockPos}
use Rattle.fol_model.specs.declared.places.ChunkPos.{ChunkPos}
use Rattle.fol_model.specs.declared.actions.Action.{Action}
use Rattle.fol_model.specs.declared.actions.Action.TheVariants as action
use Rattle.fol_model.specs.declared.tasks.Task.{Task}
use Rattle.fol_model.specs.declared.tasks.Wish.{Wish}
use Rattle.fol_data.specs.declared.tick.Tick.{Tick}
use Rattle.fol_tick.specs.MostAsked.{most_asked, most_posted}
use Rattle.fol_tick.specs.Prepared.{again_in, repeated_by}
use Rattle.fol_tick.specs.Runs.{next_task}
use Rattle.fol_tick.proofs.OneTask.{from_next}

few_departs : (rec : Recorded) (id : ℕ) (to : BlockPos) (o : Option Standing) → length (departs rec id to o) ≤ 1
few_departs rec id to None = omega arith
few_departs rec id to (Some b) = elim (cases_Bool (rec (chunk_of b.at))) [ inl e ↦ rw e (omega arith) | inr e ↦ rw e (omega arith) ]

-- a plain action asks for no more
few_posted : (rec : Recorded) (f : Flat) (a : Action) → length (plain_wishes rec f a) ≤ most_posted a
few_posted rec f (action.Set at id) = omega arith
few_posted rec f (action.Copy at to) = omega arith
few_posted rec f (action.Load k) = omega arith
few_posted rec f (action.Unload k) = omega arith
few_posted rec f (action.Post k d inner) = omega arith
few_posted rec f (action.Send id to) = few_departs rec id to (f.standing id)
few_posted rec f (action.Arrive e) = omega arith
few_posted rec f (action.Every p left inner) = omega arith

-- nor does one that runs again
few_again : (c : ChunkPos) (a : Action) → length (option_to_list (repeated_by c a)) ≡ length (option_to_list (again_in a))
few_again c (action.Set at id) = refl
few_again c (action.Copy at to) = refl
few_again c (action.Load k) = refl
few_again c (action.Unload k) = refl
few_again c (action.Post k d inner) = refl
few_again c (action.Send id to) = refl
few_again c (action.Arrive e) = refl
few_again c (action.Every p left inner) = elim (cases_Bool (nat_le 2 left)) [ inl e ↦ rw e refl | inr e ↦ rw e refl ]

-- nor do both together
pub few_asked : (rec : Recorded) (f : Flat) (c : ChunkPos) (a : Action) (wish again : Option Wish) → option_to_list wish ≡ plain_wishes rec f (plain_of a) → again ≡ repeated_by c a
    → length (option_to_list wish) + length (option_to_list again) ≤ most_posted (plain_of a) + length (option_to_list (again_in a))
few_asked rec f c a wish again e r =
    let posted = few_posted rec f (plain_of a) in
    let own : length (option_to_list wish) ≡ length (plain_wishes rec f (plain_of a)) = ap (λ (ws : List Wish). length ws) e in
    let more : length (option_to_list again) ≡ length (option_to_list (again_in a)) = ap (λ (o : Option Wish). length (option_to_list o)) r ∙ few_again c a in
    omega arith

-- the first of some tasks, and those behind it
pub asked_next : (ts : List Task) (k : ℕ) → sum_by most_asked (drop k ts) ≡ sum_by most_asked (take 1 (drop k ts)) + sum_by most_asked (drop (k + 1) ts)
asked_next ts k = split (drop k ts) ∙ ap (λ us. sum_by most_asked (take 1 (drop k ts)) + sum_by most_asked us) (drop-drop 1 k ts)
  where
    split : (us : List Task) → sum_by most_asked us ≡ sum_by most_asked (take 1 us) + sum_by most_asked (drop 1 us)
    split [] = refl
    split (u ∷ us) = sum_by-append most_asked (u ∷ []) us

asked_one : (t : Task) → sum_by most_asked (t ∷ []) ≡ most_asked t
asked_one t = sum_by-cons most_asked t [] ∙ omega arith

pub asked_here : (t : Tick) (x : Task) → t.next < length t.due → x ≡ get_or t.due t.next x → sum_by most_asked (next_task t) ≡ most_asked x
asked_here t x here is = ap (λ (us : List Task). sum_by most_asked (take 1 us)) (from_next t.due t.next x here is) ∙ asked_one x
