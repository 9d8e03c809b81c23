-- Quiet ticks leave what is offered where it is.
use Rattle.std.proofs.Common.{◌≡◌, ℕ, zero, suc, ◌+◌, ◌<◌, ◌≤◌, List, [], ◌∷◌, ◌++◌, length, sym, refl, ap, ◌∙◌, subst, Option, Some, None, false, true≢false, append_assoc, inl, inr, Bool, arith, length-append}
use Rattle.std.specs.Prelude.{nat_eq}
use Rattle.std.proofs.lemmas.Bool.{eq-eqb, ne_eqb}
use Rattle.std.proofs.lemmas.List.{append-nil}
use Rattle.fol_model.specs.declared.events.Entry.{Entry}
use Rattle.fol_model.specs.declared.events.Event.TheVariants.{Begin, End}
use Rattle.fol_model.specs.declared.regions.State.TheVariants.{Ready, Ticking}
use Rattle.fol_model.specs.declared.tasks.Wish.{Wish}
use Rattle.fol_model.specs.End.{answers, run_down, ticked}
use Rattle.fol_model.specs.OpenTick.{NoEnd}
use Rattle.fol_model.specs.World.{World, start}
use Rattle.fol_model.specs.Run.{Allowed, Run, RunFrom, after, after_all}
use Rattle.fol_laws.specs.LateBegin.{touches, wishes_touch}
use Rattle.fol_core.proofs.FinishedRun.{before_entry}
use Rattle.fol_core.specs.Answers.{is_over}
use Rattle.fol_core.specs.Meaning.{Meaning, is_prepared, world_of}
use Rattle.fol_core.specs.Quiet.{Passes, quiet_tick, quiet_ticks}
use Rattle.fol_seat_laws.specs.InTurn.{NoneOpen}
use Rattle.fol_seat_laws.proofs.Splits.{none_before}
use Rattle.fol_slots.specs.Shown.{Keeper, place_at}
use Rattle.fol_offers.specs.Offered.{Offered}
use Rattle.fol_offers.specs.Places.{region_at}
use Rattle.fol_offers.specs.InTurn.{IsFree}
use Rattle.fol_offers.specs.Shown.{CallsBack, Shown}
use Rattle.fol_offers.specs.Tied.{Tied}
use Rattle.fol_offers.proofs.Facts.{open_ticks}
use Rattle.fol_offers.proofs.Passing.{in_use_passes, passes_one}
use Rattle.fol_offers.proofs.Turns.{in_longer, turns_begin, turns_other}
use Rattle.fol_offers.proofs.Tying.{one_more, over_begun, ticked_more, tied_stays}
use Rattle.fol_offers.proofs.Wishes.{over_ended}

-- ---- parts of a run

entry_allowed : (w : World) (es rest : List Entry) (e : Entry) → RunFrom w (es ++ e ∷ rest) → Allowed (after_all w es) e.event
entry_allowed w [] rest e run = run.1
entry_allowed w (x ∷ es) rest e run = entry_allowed (after w x.event) es rest e run.2

no_wishes : (w : World) (xs : List Wish) → [] ≡ answers w xs → xs ≡ []
no_wishes w [] e = refl
no_wishes w (x ∷ xs) e = absurd (cc)

-- the Begin and the End of such a tick
abbrev begin : ℕ → ℕ → Entry
begin by r = record { by = by; event = Begin by r }

abbrev end : ℕ → ℕ → ℕ → Entry
end by r t = record { by = by; event = End by r t [] [] }

-- ---- one tick

module _ (m n : Meaning) (s : Keeper Offered) (xs : List ℕ) (tied : Tied m s xs) (by r t : ℕ) (opening : n.opening ≡ m.opening) (history : n.history ≡ m.history ++ quiet_tick by r t) (prepared : is_prepared n ≡ is_prepared m)
    (run : Run n.opening n.history) (unprepared : is_prepared m r ≡ false) where
  -- the core between Begin and End
  abbrev mid : Meaning
  mid = record m { history = m.history ++ begin by r ∷ [] }

  both : n.history ≡ (m.history ++ begin by r ∷ []) ++ end by r t ∷ []
  both = history ∙ sym (append_assoc m.history (begin by r ∷ []) (end by r t ∷ []))

  whole : Run m.opening (m.history ++ begin by r ∷ end by r t ∷ [])
  whole = rw (opening, history) at run

  ready : (world_of m).grid.state r ≡ Ready
  ready = (entry_allowed (start m.opening) m.history (end by r t ∷ []) (begin by r) whole).0

  marks : (q : ℕ) → is_prepared n q ≡ is_prepared m q
  marks q = ap (λ (f : ℕ → Bool). f q) prepared

  -- no slot is that of the region
  no_slot : (j : ℕ) → j < length xs → 0 < region_at xs j → nat_eq r (region_at xs j) ≡ false
  no_slot j low pos = ne_eqb r (region_at xs j) (λ same.
      let u = tied.used j low pos in
      found_or_not (place_at s j).found
      (λ e. true≢false (sym (u.waits e).prepared ∙ (ap (is_prepared m) (sym same) ∙ unprepared)))
      (λ k e.
      let runs = u.runs k e in
      let ticks : (world_of m).grid.state r ≡ Ticking = ap (λ (q : ℕ). (world_of m).grid.state q) (same ∙ sym runs.of) ∙ open_ticks m (record u.tick { worker = k }) tied.grid (before_entry (start m.opening) m.history (begin by r ∷ end by r t ∷ []) whole) runs.opened in
      never (sym ready ∙ ticks)))
    where
      found_or_not : (o : Option ℕ) → (o ≡ None → ⊥) → ((k : ℕ) → o ≡ Some k → ⊥) → ⊥
      found_or_not None none some = none refl
      found_or_not (Some k) none some = some k refl

      never : Ready ≡ Ticking → ⊥
      never e = cc

  -- the End has no wishes, so that it touches no other region
  spares : (q : ℕ) → nat_eq r q ≡ false → touches (world_of mid) q (end by r t).event ≡ false
  spares q other =
      let allowed = entry_allowed (start m.opening) (m.history ++ begin by r ∷ []) [] (end by r t) (rw (opening, both) at run) in
      let none : (ticked (world_of mid) r []).wishes ≡ [] = no_wishes (run_down (world_of mid) r []) (ticked (world_of mid) r []).wishes allowed.4 in
      let off : wishes_touch (run_down (world_of mid) r []) (ticked (world_of mid) r []).wishes q ≡ false = ap (λ (ys : List Wish). wishes_touch (run_down (world_of mid) r []) ys q) none in
      rw (other, off) refl

  over : is_over (world_of n) ≡ is_over (world_of m)
  over = ap is_over (one_more mid n (end by r t) opening both) ∙ (over_ended (world_of mid) r [] ∙ (ap is_over (one_more m mid (begin by r) refl refl) ∙ over_begun (world_of m) by r))

  -- what ticks then ticked before
  ticked_before : (q : ℕ) → (world_of n).grid.state q ≡ Ticking → (world_of m).grid.state q ≡ Ticking
  ticked_before q e = elim (ticked_more mid n (end by r t) q opening both e) [
    | inl was ↦ elim (ticked_more m mid (begin by r) q refl refl was.0) [
      | inl before ↦ before.0
      | inr begins ↦ absurd (true≢false (sym begins ∙ was.1))
    ]
    | inr begins ↦ absurd (true≢false (sym begins))
  ]

  -- the worker had no open tick, and has none
  one_closed : NoneOpen by m.history → NoneOpen by n.history
  one_closed none before e since q is begins runs_on = elim (in_longer (m.history ++ begin by r ∷ []) before since (end by r t) e (sym both ∙ is)) [
    | inl last ↦ absurd (other_event (sym begins ∙ ap (λ (x : Entry). x.event) last.1))
    | inr old ↦ elim (in_longer m.history before old.0 (begin by r) e old.1) [
      | inl newest ↦ absurd (closed q old.0 (region_of (sym begins ∙ ap (λ (x : Entry). x.event) newest.1)) (subst (NoEnd q) old.2 runs_on))
      | inr older ↦ none before e older.0 q older.1 begins (none_before q older.0 (begin by r ∷ []) (subst (NoEnd q) older.2 (none_before q old.0 (end by r t ∷ []) (subst (NoEnd q) old.2 runs_on))))
    ]
  ]
    where
      other_event : Begin by q ≡ End by r t [] [] → ⊥
      other_event e = cc

      region_of : Begin by q ≡ Begin by r → q ≡ r
      region_of e = cc

      closed : (p : ℕ) (ys : List Entry) → p ≡ r → NoEnd p (ys ++ end by r t ∷ []) → ⊥
      closed p [] same none_ends = true≢false (sym (eq-eqb r p (sym same)) ∙ none_ends.0)
      closed p (y ∷ ys) same none_ends = closed p ys same none_ends.1

  tied_one : (1 ≤ by) × (by ≤ s.workers) → NoneOpen by m.history → Tied n s xs
  tied_one few none = record {
    grid = rw opening tied.grid;
    in_turn = rw both (turns_other s.workers (m.history ++ begin by r ∷ []) (turns_begin s.workers m.history tied.in_turn by by r none few.0 few.1) (end by r t) (λ q. refl));
    calm = λ ends q. marks q ∙ tied.calm (sym over ∙ ends) q;
    places = tied.places;
    slots = tied.slots;
    few = tied.few;
    unused = tied.unused;
    used = λ j low pos.
        let q : ℕ = region_at xs j in
        let other : nat_eq r q ≡ false = no_slot j low pos in
        in_use_passes mid n q (place_at s j) (passes_one mid n q (end by r t) opening both (marks q) (λ _. (spares q other, refl)) other)
        (in_use_passes m mid q (place_at s j) (passes_one m mid q (begin by r) refl refl refl (λ _. (other, refl)) refl) (tied.used j low pos));
    apart = tied.apart;
    prepared = λ q e. tied.prepared q (sym (marks q) ∙ e);
    ticking = λ q e. tied.ticking q (ticked_before q e);
  }

-- ---- several ticks

module _ (s : Keeper Offered) (xs : List ℕ) (by r t : ℕ) (few : (1 ≤ by) × (by ≤ s.workers)) where
  tied_some : (k : ℕ) (m n : Meaning) → Tied m s xs → n.opening ≡ m.opening → n.history ≡ m.history ++ quiet_ticks by r t k → is_prepared n ≡ is_prepared m → Run n.opening n.history → is_prepared m r ≡ false → NoneOpen by m.history
      → Tied n s xs × NoneOpen by n.history
  unfolding quiet_ticks
  tied_some zero m n tied opening history prepared run unprepared none =
      let same : n.history ≡ m.history = history ∙ append-nil m.history in
      (tied_stays m n s xs record { opening = opening; history = same; prepared = prepared } tied, subst (NoneOpen by) (sym same) none)
  tied_some (suc k) m n tied opening history prepared run unprepared none =
      let mid : Meaning = record m { history = m.history ++ quiet_ticks by r t k } in
      let longer : n.history ≡ mid.history ++ quiet_tick by r (t + suc k) = history ∙ sym (append_assoc m.history (quiet_ticks by r t k) (quiet_tick by r (t + suc k))) in
      let before : Run m.opening mid.history = before_entry (start m.opening) mid.history (quiet_tick by r (t + suc k)) (rw (opening, longer) at run) in
      let first = tied_some k m mid tied refl refl refl before unprepared none in (
        tied_one mid n s xs first.0 by r (t + suc k) opening longer prepared run unprepared few first.1,
        one_closed mid n s xs first.0 by r (t + suc k) opening longer prepared run unprepared first.1,
      )

-- the worker passed ticks of a region that is not prepared, and has none open still
pub tied_passes : (m n : Meaning) (s : Keeper Offered) (xs : List ℕ) (by r k : ℕ) → Tied m s xs → Run n.opening n.history → is_prepared m r ≡ false → IsFree s.workers m.history by → Passes m n by r k
    → Tied n s xs × IsFree s.workers n.history by
tied_passes m n s xs by r k tied run unprepared free did =
    let more = tied_some s xs by r ((world_of m).tick r) (free.some, free.low) k m n tied did.opening did.history did.prepared run unprepared free.none in
    (more.0, record { some = free.some; low = free.low; none = more.1 })

-- where a Begin was learnt of, the history is longer
pub back_same : (a b : Shown) (by : ℕ) (f : ℕ → Bool) → CallsBack a b by f → length b.core.history ≤ length a.core.history → b.core.history ≡ a.core.history
back_same a b by f back short = back.history ∙ go back.learnt (
    let all = ap (λ (h : List Entry). length h) back.history in
    let both = length-append a.core.history back.learnt in
    omega (arith, all, both, short))
  where
    go : (es : List Entry) → length es ≡ 0 → a.core.history ++ es ≡ a.core.history
    go [] none = append-nil a.core.history
    go (e ∷ es) none = absurd (omega (arith, none))
