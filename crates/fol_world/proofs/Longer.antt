-- One entry more: the world, the numbers at the Begins, and what the tables stand for.
use Rattle.std.proofs.Common.{◌≡◌, ℕ, ◌+◌, ◌≤◌, ◌^◌, refl, arith, false, List, [], ◌∷◌, ◌++◌, length, length-append}
use Rattle.std.proofs.lemmas.List.{append-nil}
use Rattle.fol_model.specs.declared.openings.Opening.{Opening}
use Rattle.fol_model.specs.declared.events.Entry.{Entry}
use Rattle.fol_model.specs.World.{World, start}
use Rattle.fol_model.specs.Run.{Allowed, after, after_all, world}
use Rattle.fol_laws.specs.Growth.{answered, answers_in}
use Rattle.fol_laws.proofs.LongerRuns.{run_more, world_more}
use Rattle.fol_laws.proofs.WholeRuns.{Good, good_run}
use Rattle.fol_world.specs.declared.tables.Tables.{Tables}
use Rattle.fol_world.specs.Hands.{since, since_after, since_from}
use Rattle.fol_world.specs.Stands.{Fits, Stands}

pub since_more : (w : World) (f : ℕ → ℕ) (es : List Entry) (e : Entry) → since_from w f (es ++ e ∷ []) ≡ since_after (since_from w f es) (after_all w es) e.event
since_more w f [] e = refl
since_more w f (x ∷ es) e = since_more (after w x.event) (since_after f w x.event) es e

pub answered_more : (es : List Entry) (e : Entry) → answered (es ++ e ∷ []) ≡ answered es + answers_in e.event
answered_more [] e = omega arith
answered_more (x ∷ es) e = omega (arith, answered_more es e)

pub length_more : (es : List Entry) (e : Entry) → length (es ++ e ∷ []) ≡ length es + 1
length_more es e = length-append es (e ∷ [])

-- the world after the history has all that the laws say
pub good_of : (o : Opening) (h : List Entry) (t : Tables) → Stands o h t → Good o (world o h)
good_of o h t s = good_run o h [] s.grid (rw (append-nil h) s.run)

pub stands_more : (o : Opening) (h : List Entry) (e : Entry) (t u : Tables) → Stands o h t → (world o h).finished ≡ false → Allowed (world o h) e.event
    → Fits u (after (world o h) e.event) (since_after (since o h) (world o h) e.event)
    → u.course.size ≡ t.course.size + (1 + answers_in e.event) → u.course.size ≤ 2 ^ 50 + 1 → (u.course.stopped ≡ false → u.course.size ≤ 2 ^ 50)
    → Stands o (h ++ e ∷ []) u
stands_more o h e t u s free ok fits grows most before = record {
  grid = s.grid;
  run = run_more (start o) h e s.run free ok;
  fits = rw (world_more (start o) h e, since_more (start o) (λ r. 0) h e) fits;
  size = record {
    size = omega (arith, grows, s.size.size, answered_more h e, length_more h e);
    most = most;
    before = before;
  };
}
