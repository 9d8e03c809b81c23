-- The turns of a worker in a tick: its calls, one for each task that asks.
use Rattle.std.proofs.Common.{◌≡◌, ℕ, refl, sym, ◌∙◌, ap, List, [], ◌∷◌, ◌++◌, map, append_assoc}
use Rattle.std.proofs.lemmas.List.{append-nil}
use Rattle.fol_model.specs.ActionStep.{plain_of}
use Rattle.fol_model.specs.declared.events.Event.TheVariants.{Load, Unload}
use Rattle.fol_model.specs.declared.events.Loaded.{Loaded}
use Rattle.fol_model.specs.declared.events.Loaded.TheVariants as loads
use Rattle.fol_model.specs.declared.events.Unloaded.{Unloaded}
use Rattle.fol_model.specs.declared.events.Unloaded.TheVariants as unloads
use Rattle.fol_model.specs.declared.tasks.Task.{Task}
use Rattle.fol_model.specs.declared.tasks.Ran.{Ran}
use Rattle.fol_model.specs.World.{World}
use Rattle.fol_model.specs.Run.{after}
use Rattle.fol_model.specs.Legal.{ticking, load_outcome, unload_outcome}
use Rattle.fol_tick.specs.Calls.{HostCall, action_called, outcome_of_load, outcome_of_unload, told}
use Rattle.fol_tick.specs.Calls as calls
use Rattle.fol_seat_laws.specs.Turns.{Turns}
use Rattle.fol_seat_laws.proofs.Turning.{turns_step}
use Rattle.fol_live.specs.Goes.{entries_of, entry_of, event_of}

same_load : (a : Loaded) → load_outcome a ≡ outcome_of_load a
same_load loads.Counted = refl
same_load (loads.Full present wanted) = refl
same_load loads.Over = refl

same_unload : (a : Unloaded) → unload_outcome a ≡ outcome_of_unload a
same_unload unloads.Lowered = refl
same_unload unloads.NoTicket = refl
same_unload unloads.Over = refl

-- the calls of the worker, in order
pub turns_asked : (k : ℕ) (w : World) (r : ℕ) (ts : List Task) (xs : List HostCall) (before : List Ran) → map action_called xs ≡ map (λ t. plain_of t.action) ts
    → Turns k w (ticking r ts before) (entries_of k xs) (ticking r [] (before ++ told ts xs))
turns_asked k w r [] [] before same = ap (ticking r []) (sym (append-nil before))
turns_asked k w r [] (x ∷ xs) before same = absurd (cc)
turns_asked k w r (t ∷ ts) [] before same = absurd (cc)
turns_asked k w r (t ∷ ts) (calls.loaded c a ∷ xs) before same =
    let y : Ran = record { number = t.number; outcome = load_outcome a } in
    let x : HostCall = calls.loaded c a in
    let rest = turns_asked k (after w (event_of k x)) r ts xs (before ++ y ∷ []) (cc) in
    let whole : (before ++ y ∷ []) ++ told ts xs ≡ before ++ told (t ∷ ts) (x ∷ xs)
    = append_assoc before (y ∷ []) (told ts xs) ∙ ap (λ o. before ++ (record { number = t.number; outcome = o }) ∷ told ts xs) (same_load a) in
    rw (← whole) (turns_step k w (ticking r (t ∷ ts) before) (ticking r [] ((before ++ y ∷ []) ++ told ts xs)) (entry_of k x) (entries_of k xs) (Load k c a) refl refl (cc) rest)
turns_asked k w r (t ∷ ts) (calls.unloaded c a ∷ xs) before same =
    let y : Ran = record { number = t.number; outcome = unload_outcome a } in
    let x : HostCall = calls.unloaded c a in
    let rest = turns_asked k (after w (event_of k x)) r ts xs (before ++ y ∷ []) (cc) in
    let whole : (before ++ y ∷ []) ++ told ts xs ≡ before ++ told (t ∷ ts) (x ∷ xs)
    = append_assoc before (y ∷ []) (told ts xs) ∙ ap (λ o. before ++ (record { number = t.number; outcome = o }) ∷ told ts xs) (same_unload a) in
    rw (← whole) (turns_step k w (ticking r (t ∷ ts) before) (ticking r [] ((before ++ y ∷ []) ++ told ts xs)) (entry_of k x) (entries_of k xs) (Unload k c a) refl refl (cc) rest)
