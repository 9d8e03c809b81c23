-- A worker whose Begin came late is in the tick that was made for it.
use Rattle.std.proofs.Common.{◌≡◌, ℕ, ◌≤◌, refl, sym, ◌∙◌, subst, true, inl, inr, List, [], ◌∷◌, ◌++◌, append_assoc}
use Rattle.std.specs.Prelude.{nat_eq}
use Rattle.std.specs.List.{AllByRecursion}
use Rattle.std.proofs.lemmas.Bool.{eq-eqb}
use Rattle.fol_lock.proofs.Logs.{given_by-append}
use Rattle.fol_model.specs.declared.openings.Opening.{Opening}
use Rattle.fol_model.specs.declared.events.Entry.{Entry}
use Rattle.fol_model.specs.declared.events.Event.TheVariants.{Begin}
use Rattle.fol_model.specs.GridNumbers.{IsGrid}
use Rattle.fol_model.specs.OpenTick.{NoEnd}
use Rattle.fol_model.specs.QueuedTask.{begun}
use Rattle.fol_model.specs.World.{due, start}
use Rattle.fol_model.specs.Run.{Allowed, Run, world}
use Rattle.fol_model.specs.Legal.{asking, idle, ticking}
use Rattle.fol_laws.specs.LateBegin.{NoneTouches}
use Rattle.fol_laws.proofs.LateBegins.{late_begin}
use Rattle.fol_laws.proofs.LongerRuns.{world_both}
use Rattle.fol_core.proofs.FinishedRun.{before_entry}
use Rattle.fol_seat_laws.specs.InTurn.{AreInTurn, NoneOpen}
use Rattle.fol_seat_laws.specs.Late.{LateTurn, OnlyBegins}
use Rattle.fol_seat_laws.specs.Signed.{IsSigned, is_start, own_of}
use Rattle.fol_seat_laws.specs.Turns.{Turns}
use Rattle.fol_seat_laws.proofs.InTick.{none_open}
use Rattle.fol_seat_laws.proofs.Splits.{InSecond, all_before, all_behind, none_before, stands}
use Rattle.fol_seat_laws.proofs.LateTurns.{stays_idle, stays_in_tick}
use Rattle.fol_seat_laws.proofs.Turning.{turned, turns_more}

abbrev IsStart : Entry → Type 0
IsStart e = is_start e.event ≡ true

only_both : (k : ℕ) (xs ys : List Entry) → OnlyBegins k (xs ++ ys) → OnlyBegins k xs × OnlyBegins k ys
only_both k xs ys all =
    let both : AllByRecursion IsStart (own_of k xs ++ own_of k ys) = subst (AllByRecursion IsStart) (given_by-append (λ (e : Entry). e.by) k xs ys) all in
    (all_before IsStart (own_of k xs) (own_of k ys) both, all_behind IsStart (own_of k xs) (own_of k ys) both)

-- a worker that is at nothing is in its tick after the Begin
begin_turns : (o : Opening) (k r by : ℕ) (zs : List Entry) → Turns k (start o) idle zs idle
    → Turns k (start o) idle (zs ++ (record { by = by; event = Begin k r }) ∷ []) (ticking r (asking (due (begun (world o zs) k r) r)) [])
begin_turns o k r by zs t =
    let e : Entry = record { by = by; event = Begin k r } in
    let own : nat_eq k k ≡ true = eq-eqb k k refl in
    let more : Turns k (start o) idle (zs ++ e ∷ []) (turned k (world o zs) idle e) = turns_more k (start o) idle idle zs e t (λ mine. tt) in
    rw own at more

module _ (o : Opening) (k r by : ℕ) (h seen rest before between since : List Entry) where
  abbrev b : Entry
  b = record { by = by; event = Begin k r }

  module _ (cut : h ≡ seen ++ rest) (is : h ≡ (before ++ between) ++ b ∷ since) (grid : IsGrid o.grid) (run : Run o h) (signed : AllByRecursion IsSigned h) (in_turn : AreInTurn h) (some : 1 ≤ k)
      (begins : OnlyBegins k rest) where
    -- the world before the Begin takes the due tasks that the tick was made with
    same_due : Allowed (world o before) (Begin k r) → NoneTouches (world o before) r between → due (begun (world o (before ++ between)) k r) r ≡ due (begun (world o before) k r) r
    same_due allowed calm =
        let all : Run o (before ++ (between ++ b ∷ since)) = rw (is, append_assoc before between (b ∷ since)) at run in
        let late = late_begin o before between (b ∷ since) r k grid all allowed calm in
        rw (world_both (start o) before between) late.1.due

    -- the Begin stands behind what was seen
    stands_behind : Turns k (start o) idle seen idle → NoEnd r since → InSecond seen rest (before ++ between) b since
    stands_behind t runs_on = elim (stands seen rest (before ++ between) b since (sym cut ∙ is)) [
      | inl s ↦
          let none : NoEnd r (s.between ++ rest) = rw s.behind at runs_on in
          absurd (none_open k (start o) seen t (before ++ between) b s.between r s.first refl (none_before r s.between rest none))
      | inr s ↦ s
    ]

    late : Turns k (start o) idle seen idle → Allowed (world o before) (Begin k r) → NoneTouches (world o before) r between → NoEnd r since
        → Turns k (start o) idle h (ticking r (asking (due (begun (world o before) k r) r)) [])
    late t allowed calm runs_on =
        let s = stands_behind t runs_on in
        let zs = before ++ between in
        let whole : Run o (zs ++ b ∷ since) = rw is at run in
        let names : AllByRecursion IsSigned (zs ++ b ∷ since) = rw is at signed in
        let own = only_both k s.between (b ∷ since) (rw s.second at begins) in
        let behind = only_both k (b ∷ []) since own.1 in
        let none : NoneOpen k zs = in_turn zs b since k r is refl in
        let still : Turns k (start o) idle zs idle
        = stays_idle o k zs seen s.between s.ahead grid (before_entry (start o) zs (b ∷ since) whole) (all_before IsSigned zs (b ∷ since) names) some own.0 t none in
        let begun_at : Turns k (start o) idle (zs ++ b ∷ []) (ticking r (asking (due (begun (world o before) k r) r)) []) = rw (← same_due allowed calm) (begin_turns o k r by zs still) in
        stays_in_tick o k h (zs ++ b ∷ []) since (is ∙ sym (append_assoc zs (b ∷ []) since)) grid run signed in_turn some behind.1 r (asking (due (begun (world o before) k r) r)) [] begun_at

pub late_turn : LateTurn
late_turn o k h seen rest cut grid run signed in_turn some begins t tick worker made of =
    let all = late o tick.worker tick.region made.by h seen rest made.before made.between made.since cut made.begin grid run signed in_turn (rw worker some) (rw worker begins) (rw worker t)
    made.allowed made.calm made.runs_on in
    rw (← worker, of.due) all
