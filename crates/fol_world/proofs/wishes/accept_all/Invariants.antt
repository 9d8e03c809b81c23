use Rattle.std.proofs.Common.{◌≡◌, ◌≤◌, ◌+◌, ◌++◌, ℕ, length, vec_len, vec_capacity}
use Rattle.std.specs.VecDeque.{deque_len}
use Rattle.fol_model.specs.World.{World}
use Rattle.fol_model.specs.End.{all_accepted, answers}
use Rattle.fol_world.specs.Underway.{AreFit, MayAcceptAll, StillHold}
use Rattle.fol_world.proofs.wishes.accept_all.Given as goal

abbrev pub invariant-loop-wish : goal.invariant-loop-wish
invariant-loop-wish l = record {
  may : MayAcceptAll l.tables l.chunks l.region l.held l.wishes.items;
  room : vec_len l.answers + deque_len l.wishes ≤ vec_capacity l.answers;
  places : vec_len l.tables.agenda + length l.wishes.items ≤ vec_len l.initial.tables.agenda + length l.initial.wishes.items;
  capacity : vec_capacity l.tables.agenda ≡ vec_capacity l.initial.tables.agenda;
  size : l.tables.course.size ≡ l.initial.tables.course.size;
  accepted : (w : World) (since : ℕ → ℕ) (n : ℕ) → StillHold l.initial.tables l.initial.chunks w since l.region l.due (length l.initial.wishes.items + n) → AreFit (w.recorded l.region) w l.initial.wishes.items
      → (m : World) × StillHold l.tables l.chunks m since l.region l.held (length l.wishes.items + n) × AreFit (m.recorded l.region) m l.wishes.items
      × (all_accepted m l.wishes.items ≡ all_accepted w l.initial.wishes.items) × (l.answers.items ++ answers m l.wishes.items ≡ l.initial.answers.items ++ answers w l.initial.wishes.items);
}

abbrev pub decreases-loop-wish : goal.decreases-loop-wish
decreases-loop-wish l = deque_len l.wishes
