-- A tick after its next task.
use Rattle.std.proofs.Common.{◌≡◌, ℕ, ◌+◌, ◌-◌, ◌<◌, refl, sym, ◌∙◌, ap, subst, arith, List, [], ◌∷◌, map, length, get_or, take, drop, length-drop}
use Rattle.std.proofs.lemmas.List.{length-map, length-take}
use Rattle.std.specs.List.{slice_range}
use Rattle.fol_model.specs.ActionStep.{Flat, act, plain_of}
use Rattle.fol_model.specs.declared.tasks.Task.{Task}
use Rattle.fol_chunks.specs.Contents.{Contents, flat_of, is_recorded}
use Rattle.fol_data.specs.declared.tick.Tick.{Tick}
use Rattle.fol_tick.specs.Calls.{HostCall}
use Rattle.fol_tick.specs.Prepared.{IsStockOf, prepared_of}
use Rattle.fol_tick.specs.Runs.{TasksRan, Runs, AreFresh, MayRun, next_task}
use Rattle.fol_tick.specs.Logs.{stage_at, with_log}
use Rattle.fol_tick.specs.declared.log.OpenLog.{OpenLog}
use Rattle.fol_tick.specs.declared.prepared.Prepared.{Prepared}
use Rattle.fol_tick.specs.declared.prepared.Stock.{Stock}
use Rattle.fol_tick.proofs.OneTask.{from_next}
use Rattle.fol_tick.proofs.Freshness.{fresh_after}

-- the tick with other contents, one task further
abbrev pub further : Tick → Contents → Tick
further t chunks = record t { body = record t.body { chunks = chunks }; next = t.next + 1 }

module _ (t : Tick) (x : Task) (may : MayRun t) (here : t.next < length t.due) (is : x ≡ get_or t.due t.next x) where
  pub first_is : next_task t ≡ x ∷ []
  first_is = ap (λ ts. take 1 ts) (from_next t.due t.next x here is)

  between_is : slice_range t.due t.next (t.next + 1) ≡ x ∷ []
  between_is = let one : (t.next + 1) - t.next ≡ 1 = omega arith in rw one first_is

  pub next_runs : (log log' : OpenLog) (chunks : Contents) (calls : List HostCall) → TasksRan (is_recorded t.chunks) (x ∷ []) (stage_at t.body.chunks log) (stage_at chunks log') calls → Runs (with_log t log) (with_log (further t chunks) log') calls
  next_runs log log' chunks calls h = record {
    same = record {
      worker = refl;
      region = refl;
      begun = refl;
      chunks = refl;
      due = refl;
      counter = refl;
      owed = refl;
      queues = refl;
    };
    unmoved = may.unmoved;
    forward = omega arith;
    within = omega arith;
    tasks = let P : List Task → Type 0 = λ ts. TasksRan (is_recorded t.chunks) ts (stage_at t.body.chunks log) (stage_at chunks log') calls in subst P (sym between_is) h;
  }

  pub next_may : (chunks : Contents) → flat_of chunks ≡ act (is_recorded t.chunks) (flat_of t.body.chunks) (plain_of x.action) → MayRun (further t chunks)
  next_may chunks e = record {
    unmoved = may.unmoved;
    within = omega arith;
    chunk_order = may.chunk_order;
    chunk_places = may.chunk_places;
    task_order = may.task_order;
    task_limits = may.task_limits;
    fresh =
        let rest : AreFresh (flat_of t.body.chunks) (x ∷ drop (t.next + 1) t.due) = let P : List Task → Type 0 = λ ts. AreFresh (flat_of t.body.chunks) ts in subst P (from_next t.due t.next x here is) may.fresh in
        let P : Flat → Type 0 = λ f. AreFresh f (drop (t.next + 1) t.due) in
        subst P (sym e) (fresh_after (is_recorded t.chunks) (flat_of t.body.chunks) x (drop (t.next + 1) t.due) rest);
  }

  pub prepared_next : (r : Prepared) → r ≡ prepared_of x → r ∷ [] ≡ map prepared_of (next_task t)
  prepared_next r e = ap (λ (y : Prepared). y ∷ []) e ∙ ap (λ (ts : List Task). map prepared_of ts) (sym first_is)

-- where wishes are prepared for it, there is a next task
pub has_next : (t : Tick) (r : Prepared) → r ∷ [] ≡ map prepared_of (next_task t) → t.next < length t.due
has_next t r e =
    let long = ap (λ (rs : List Prepared). length rs) e in
    omega (arith, simp (length-map, length-take, length-drop) at long)

-- what is taken for what is left is taken for the next task and those behind it
pub next_taken : (ts : List Task) (k : ℕ) (x : Task) → k < length ts → x ≡ get_or ts k x → (s : Stock) → IsStockOf (drop k ts) s → IsStockOf (x ∷ drop (k + 1) ts) s
next_taken ts k x l e s h = let P : List Task → Type 0 = λ us. IsStockOf us s in subst P (from_next ts k x l e) h
