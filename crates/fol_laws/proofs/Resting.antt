-- What an event that does not touch a Ready region leaves as it was.
use Rattle.std.proofs.Common.{◌≡◌, ℕ, refl, sym, ◌∙◌, ap, true, false, inl, inr}
use Rattle.std.specs.Prelude.{◌↔◌, nat_eq, if◌then◌else◌, Option, Some, None}
use Rattle.std.proofs.lemmas.Bool.{cases_Bool, eqb-true, eqb-false, eq-eqb, ne_eqb}
use Rattle.fol_model.specs.declared.places.ChunkPos.{ChunkPos}
use Rattle.fol_model.specs.declared.regions.State.TheVariants.{Ready}
use Rattle.fol_model.specs.Geometry.{section_of}
use Rattle.fol_model.specs.GridState.{GridState, is_loaded}
use Rattle.fol_laws.specs.Steps.{SameSections}
use Rattle.fol_model.specs.ActionStep.{Recorded}
use Rattle.fol_model.specs.World.{World}
use Rattle.fol_model.specs.Job.{Job}
use Rattle.fol_laws.specs.LateBegin.{ground}

-- the task, where it is on the chunks of r
abbrev pub rests : GridState → ℕ → Option Job → Option Job
rests g r None = None
rests g r (Some j) = if ground g r j.chunk then Some j else None

pub record Resting (r : ℕ) (w v : World) : Type 0 where
  pub ready : v.grid.state r ≡ Ready
  pub same_ground : ground v.grid r ≡ ground w.grid r
  pub grid : v.grid.grid ≡ w.grid.grid
  pub sections : SameSections w.grid v.grid r
  pub loaded : (c : ChunkPos) → ground w.grid r c ≡ true → is_loaded v.grid c ≡ is_loaded w.grid c
  pub owed : v.owed r ≡ w.owed r
  pub tick : v.tick r ≡ w.tick r
  pub jobs : (n : ℕ) → rests w.grid r (v.jobs n) ≡ rests w.grid r (w.jobs n)
  pub phase : v.in_phase ≡ w.in_phase
  pub stopped : v.stopped ≡ w.stopped

same_test : (a b r : ℕ) → (a ≡ r) ↔ (b ≡ r) → nat_eq b r ≡ nat_eq a r
same_test a b r h = elim (cases_Bool (nat_eq a r)) [
  | inl e ↦ let x : b ≡ r = h.0 (eqb-true _ _ e) in eq-eqb _ _ x ∙ sym e
  | inr e ↦ let x : nat_eq b r ≡ false = ne_eqb _ _ (λ y. eqb-false a r e (h.1 y)) in x ∙ sym e
]

ground_at : (g h : GridState) (r : ℕ) → h.grid ≡ g.grid → SameSections g h r → (c : ChunkPos) → ground h r c ≡ ground g r c
ground_at g h r e s c = rw e (same_test (g.owner (section_of g.grid c)) (h.owner (section_of g.grid c)) r (s (section_of g.grid c)))

ground_same : (g h : GridState) (r : ℕ) → h.grid ≡ g.grid → SameSections g h r → ground h r ≡ ground g r
ground_same g h r e s = λ i c. ground_at g h r e s c i

-- the grid and the sections give the ground
pub resting : (r : ℕ) (w v : World) → v.grid.state r ≡ Ready → v.grid.grid ≡ w.grid.grid → SameSections w.grid v.grid r
    → ((c : ChunkPos) → ground w.grid r c ≡ true → is_loaded v.grid c ≡ is_loaded w.grid c)
    → v.owed r ≡ w.owed r → v.tick r ≡ w.tick r → ((n : ℕ) → rests w.grid r (v.jobs n) ≡ rests w.grid r (w.jobs n)) → v.in_phase ≡ w.in_phase → v.stopped ≡ w.stopped → Resting r w v
resting r w v ready g s h o t j p q = record { ready = ready; same_ground = ground_same w.grid v.grid r g s; grid = g; sections = s; loaded = h; owed = o; tick = t; jobs = j; phase = p; stopped = q }

pub rest_self : (r : ℕ) (w : World) → w.grid.state r ≡ Ready → Resting r w w
rest_self r w ready = record { ready = ready; same_ground = refl; grid = refl; sections = λ s. ((λ e. e), (λ e. e)); loaded = λ c h. refl; owed = refl; tick = refl; jobs = λ n. refl; phase = refl; stopped = refl }

pub rests_same : (g h : GridState) (r : ℕ) (o : Option Job) → ground h r ≡ ground g r → rests h r o ≡ rests g r o
rests_same g h r None e = refl
rests_same g h r (Some j) e = let x : ground h r j.chunk ≡ ground g r j.chunk = ap (λ (f : Recorded). f j.chunk) e in rw x refl

pub rest_then : (r : ℕ) (u w v : World) → Resting r u w → Resting r w v → Resting r u v
rest_then r u w v a b = record {
  ready = b.ready;
  same_ground = b.same_ground ∙ a.same_ground;
  grid = b.grid ∙ a.grid;
  sections = λ s. ((λ e. (b.sections s).0 ((a.sections s).0 e)), (λ e. (a.sections s).1 ((b.sections s).1 e)));
  loaded = λ c h. b.loaded c (ap (λ (f : Recorded). f c) a.same_ground ∙ h) ∙ a.loaded c h;
  owed = b.owed ∙ a.owed;
  tick = b.tick ∙ a.tick;
  jobs = λ n. sym (rests_same u.grid w.grid r (v.jobs n) a.same_ground) ∙ b.jobs n ∙ rests_same u.grid w.grid r (w.jobs n) a.same_ground ∙ a.jobs n;
  phase = b.phase ∙ a.phase;
  stopped = b.stopped ∙ a.stopped;
}
