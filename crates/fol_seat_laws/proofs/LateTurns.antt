-- What a worker is at where Begins are recorded late.
use Rattle.std.proofs.Common.{◌≡◌, ℕ, ◌≤◌, refl, List, [], ◌++◌}
use Rattle.std.specs.List.{AllByRecursion}
use Rattle.fol_model.specs.declared.openings.Opening.{Opening}
use Rattle.fol_model.specs.declared.events.Entry.{Entry}
use Rattle.fol_model.specs.declared.tasks.Ran.{Ran}
use Rattle.fol_model.specs.declared.tasks.Task.{Task}
use Rattle.fol_model.specs.GridNumbers.{IsGrid}
use Rattle.fol_model.specs.World.{World, start}
use Rattle.fol_model.specs.Run.{Run, RunFrom, world}
use Rattle.fol_model.specs.Legal.{Doing, idle, ticking}
use Rattle.fol_laws.proofs.WholeRuns.{Good, good_run, good_start}
use Rattle.fol_seat_laws.specs.InTurn.{AreInTurn, NoneOpen}
use Rattle.fol_seat_laws.specs.Late.{DeedsGoOn, OnlyBegins, StaysIdle, StaysInTick, WholeTicksLeaveNoneOpen}
use Rattle.fol_seat_laws.specs.Signed.{IsSigned, deeds_of}
use Rattle.fol_seat_laws.specs.Turns.{Turns}
use Rattle.fol_seat_laws.proofs.InTick.{InTick, at_along, none_open}
use Rattle.fol_seat_laws.proofs.OwnDeeds.{deeds_on, none_is_of, none_of_begins}
use Rattle.fol_seat_laws.proofs.Splits.{all_behind}
use Rattle.fol_seat_laws.proofs.Stopping.{run_behind}
use Rattle.fol_seat_laws.proofs.Turning.{turns_both, turns_past_others}

pub whole_ticks_leave_none_open : WholeTicksLeaveNoneOpen
whole_ticks_leave_none_open o k h t = none_open k (start o) h t

module _ (o : Opening) (k : ℕ) (h seen rest : List Entry) (is : h ≡ seen ++ rest) (grid : IsGrid o.grid) (run : Run o h) (signed : AllByRecursion IsSigned h) where
  whole : Run o (seen ++ rest)
  whole = rw is at run

  good : Good o (world o seen)
  good = good_run o seen rest grid whole

  run_rest : RunFrom (world o seen) rest
  run_rest = run_behind (start o) seen rest whole

  signed_rest : AllByRecursion IsSigned rest
  signed_rest = all_behind IsSigned seen rest (rw is at signed)

  goes : (d f : Doing) → Turns k (start o) idle seen d → Turns k (world o seen) d rest f → Turns k (start o) idle h f
  goes d f a b = rw is (turns_both k (start o) idle d f seen rest a b)

  in_tick : (r : ℕ) (ds : List Task) (told : List Ran) → Turns k (start o) idle seen (ticking r ds told) → InTick k r seen (world o seen)
  in_tick r ds told t = at_along o k seen [] seen rest (start o) idle (ticking r ds told) refl (good_start o grid) whole tt t

  still_idle : 1 ≤ k → OnlyBegins k rest → Turns k (start o) idle seen idle → NoneOpen k h → Turns k (start o) idle h idle
  still_idle some begins t none =
      let others = none_is_of o k h some seen rest (world o seen) is none good run_rest signed_rest begins in
      goes idle idle t (turns_past_others k (world o seen) idle rest others)

  further : AreInTurn h → 1 ≤ k → (r : ℕ) (ds left : List Task) (told more : List Ran) (deeds : List Entry) (w : World) → Turns k (start o) idle seen (ticking r ds told)
      → deeds_of k rest ≡ deeds → Turns k w (ticking r ds told) deeds (ticking r left more) → Turns k (start o) idle h (ticking r left more)
  further in_turn some r ds left told more deeds w t own did =
      goes (ticking r ds told) (ticking r left more) t
      (deeds_on o k h some seen rest (world o seen) w r r ds left told more in_turn is good run_rest signed_rest (in_tick r ds told t) (rw own did))

  still_in_tick : AreInTurn h → 1 ≤ k → OnlyBegins k rest → (r : ℕ) (ds : List Task) (told : List Ran) → Turns k (start o) idle seen (ticking r ds told)
      → Turns k (start o) idle h (ticking r ds told)
  still_in_tick in_turn some begins r ds told t = further in_turn some r ds ds told told [] (world o seen) t (none_of_begins k rest begins) refl

pub stays_idle : StaysIdle
stays_idle = still_idle

pub stays_in_tick : StaysInTick
stays_in_tick = still_in_tick

pub deeds_go_on : DeedsGoOn
deeds_go_on = further
