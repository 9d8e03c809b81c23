-- Events that change no more than the course.
use Rattle.std.proofs.Common.{◌≡◌, ℕ, ◌+◌, ◌<◌, ◌^◌, refl, sym, ◌∙◌, ap, arith, true, false, List, [], ◌∷◌, ◌++◌, ◌||◌}
use Rattle.std.proofs.lemmas.Bool.{or_parts}
use Rattle.fol_model.specs.declared.openings.Opening.{Opening}
use Rattle.fol_model.specs.declared.events.Event.TheVariants.{Finish, Stop}
use Rattle.fol_model.specs.declared.events.Entry.{Entry}
use Rattle.fol_model.specs.Run.{world}
use Rattle.fol_world.specs.declared.tables.Course.{Course}
use Rattle.fol_world.specs.declared.tables.Tables.{Tables}
use Rattle.fol_world.specs.Stands.{Stands}
use Rattle.fol_world.proofs.Longer.{stands_more}

module _ (o : Opening) (h : List Entry) (t : Tables) (s : Stands o h t) (on : (t.course.finished || t.course.stopped) ≡ false) where
  parts : (t.course.finished ≡ false) × (t.course.stopped ≡ false)
  parts = or_parts t.course.finished t.course.stopped on

  running : (world o h).finished ≡ false
  running = sym s.fits.course.finished ∙ parts.0

  going : (world o h).stopped ≡ false
  going = sym s.fits.course.stopped ∙ parts.1

  pub finish_kept : (by : ℕ) (c : Course) → c ≡ record t.course { size = t.course.size + 1 } → t.course.in_phase ≡ false → t.course.size < 2 ^ 50
      → Stands o (h ++ (record { by = by; event = Finish }) ∷ []) (record t { course = record c { finished = true } })
  finish_kept by c e p l = let size : c.size ≡ t.course.size + 1 = ap (λ (x : Course). x.size) e in
      stands_more o h (record { by = by; event = Finish }) t (record t { course = record c { finished = true } }) s running (sym s.fits.course.in_phase ∙ p, going)
      (record {
        grid = s.fits.grid;
        regions = s.fits.regions;
        stored = s.fits.stored;
        tickets = s.fits.tickets;
        agenda = s.fits.agenda;
        course = record {
          next_job = ap (λ (x : Course). x.next_job) e ∙ s.fits.course.next_job;
          in_phase = ap (λ (x : Course). x.in_phase) e ∙ s.fits.course.in_phase;
          sum = ap (λ (x : Course). x.sum) e ∙ s.fits.course.sum;
          stopped = ap (λ (x : Course). x.stopped) e ∙ s.fits.course.stopped;
          finished = refl;
        };
      })
      (omega arith) (omega arith) (λ x. omega arith)

  pub stop_kept : (by caller : ℕ) (c : Course) → c ≡ record t.course { size = t.course.size + 1 }
      → Stands o (h ++ (record { by = by; event = Stop caller }) ∷ []) (record t { course = record c { stopped = true } })
  stop_kept by caller c e = let size : c.size ≡ t.course.size + 1 = ap (λ (x : Course). x.size) e in let few = s.size.before parts.1 in
      stands_more o h (record { by = by; event = Stop caller }) t (record t { course = record c { stopped = true } }) s running going
      (record {
        grid = s.fits.grid;
        regions = s.fits.regions;
        stored = s.fits.stored;
        tickets = s.fits.tickets;
        agenda = s.fits.agenda;
        course = record {
          next_job = ap (λ (x : Course). x.next_job) e ∙ s.fits.course.next_job;
          in_phase = ap (λ (x : Course). x.in_phase) e ∙ s.fits.course.in_phase;
          sum = ap (λ (x : Course). x.sum) e ∙ s.fits.course.sum;
          stopped = refl;
          finished = ap (λ (x : Course). x.finished) e ∙ s.fits.course.finished;
        };
      })
      (omega arith) (omega arith) (λ x. absurd (cc))
