-- The turns that workers take.
use Rattle.std.proofs.Common.{◌≡◌, ℕ, ◌<◌, ◌≤◌, List, [], ◌∷◌, ◌++◌, sym, refl, ap, ◌∙◌, subst, Some, true, false, true≢false, ◌⊎◌, inl, inr}
use Rattle.std.specs.List.{AllByRecursion}
use Rattle.std.proofs.lemmas.Bool.{eq-eqb}
use Rattle.fol_model.specs.declared.events.Entry.{Entry}
use Rattle.fol_model.specs.declared.events.Event.{Event}
use Rattle.fol_model.specs.declared.events.Event.TheVariants.{Begin}
use Rattle.fol_model.specs.Legal.{worker_of}
use Rattle.fol_model.specs.OpenTick.{NoEnd, is_begin, is_end}
use Rattle.fol_model.specs.Run.{Run}
use Rattle.fol_laws.proofs.SortedRows.{all_append}
use Rattle.fol_core.specs.Meaning.{Meaning, is_prepared, world_of}
use Rattle.fol_seat_laws.specs.InTurn.{NoneOpen}
use Rattle.fol_seat_laws.specs.Signed.{IsBegunBelow, is_start}
use Rattle.fol_seat_laws.proofs.InTick.{start_is}
use Rattle.fol_seat_laws.proofs.Splits.{all_behind, none_before, stands}
use Rattle.fol_slots.specs.Shown.{FoundOnlyAt, Keeper, place_at}
use Rattle.fol_offers.specs.Offered.{Offered}
use Rattle.fol_offers.specs.InTurn.{IsFree, TakeTurns}
use Rattle.fol_offers.specs.Places.{region_at}
use Rattle.fol_offers.specs.Tied.{InUse, Tied}
use Rattle.fol_offers.proofs.Facts.{begun_ticks}

-- ---- one entry more

module _ {A : Type 0} where
  none_longer : (ys zs : List A) (x : A) → [] ≡ ys ++ x ∷ zs → ⊥
  none_longer [] zs x e = cc
  none_longer (y ∷ ys) zs x e = cc

  -- what stands in a list with one element more is that element, or stood there before
  pub in_longer : (h before after : List A) (e x : A) → h ++ e ∷ [] ≡ before ++ x ∷ after → ((before ≡ h) × (x ≡ e)) ⊎ ((rest : List A) × (h ≡ before ++ x ∷ rest) × (after ≡ rest ++ e ∷ []))
  in_longer [] [] after e x is = let z : e ∷ [] ≡ x ∷ after = is in inl (refl, cc)
  in_longer [] (b ∷ bs) after e x is = absurd (none_longer bs after x (let z : e ∷ [] ≡ b ∷ (bs ++ x ∷ after) = is in cc))
  in_longer (y ∷ ys) [] after e x is = let z : y ∷ (ys ++ e ∷ []) ≡ x ∷ after = is in let first : y ≡ x = cc in inr (ys, ap (λ (w : A). w ∷ ys) first, cc)
  in_longer (y ∷ ys) (b ∷ bs) after e x is =
      let z : y ∷ (ys ++ e ∷ []) ≡ b ∷ (bs ++ x ∷ after) = is in
      let first : y ≡ b = cc in
      let others : ys ++ e ∷ [] ≡ bs ++ x ∷ after = cc in
      elim (in_longer ys bs after e x others) [
        | inl last ↦ inl ((λ k. sym first k ∷ last.0 k), last.1)
        | inr old ↦ inr (old.0, (λ k. first k ∷ old.1 k), old.2)
      ]

-- where no entry stands, nobody began anything
pub turns_first : (w : ℕ) (h : List Entry) → h ≡ [] → TakeTurns w h
turns_first w h none = subst (TakeTurns w) (sym none) record { turns = λ before e after k r is. absurd (nothing before after e is); below = tt }
  where
    nothing : (before after : List Entry) (e : Entry) → [] ≡ before ++ e ∷ after → ⊥
    nothing [] after e is = cc
    nothing (b ∷ bs) after e is = cc

module _ (w : ℕ) (h : List Entry) (t : TakeTurns w h) where
  turns_more : (e : Entry) → ((k r : ℕ) → e.event ≡ Begin k r → NoneOpen k h × (1 ≤ k) × (k ≤ w)) → TakeTurns w (h ++ e ∷ [])
  turns_more e may = record {
    turns = λ before x after k r is begins. elim (in_longer h before after e x is) [
      | inl last ↦ subst (NoneOpen k) (sym last.0) (may k r (ap (λ (y : Entry). y.event) (sym last.1) ∙ begins)).0
      | inr old ↦ t.turns before x old.0 k r old.1 begins
    ];
    below = all_append (IsBegunBelow w) h (e ∷ []) t.below (
      (λ starts.
          let b = start_is (worker_of e.event) e.event starts refl in
          let from = may (worker_of e.event) b.0 b.1 in
          record { some = from.1; low = from.2 }),
      tt,
    );
  }

  -- a Begin of a worker that has none open
  pub turns_begin : (by k r : ℕ) → NoneOpen k h → 1 ≤ k → k ≤ w → TakeTurns w (h ++ (record { by = by; event = Begin k r }) ∷ [])
  turns_begin by k r none some low = turns_more (record { by = by; event = Begin k r })
      (λ j q is. let same : k ≡ j = ap worker_of is in subst (λ (x : ℕ). NoneOpen x h × (1 ≤ x) × (x ≤ w)) same (none, some, low))

  -- what is no Begin
  pub turns_other : (e : Entry) → ((q : ℕ) → is_begin q e.event ≡ false) → TakeTurns w (h ++ e ∷ [])
  turns_other e other = turns_more e (λ k r is. absurd (true≢false (sym (eq-eqb r r refl) ∙ (ap (is_begin r) (sym is) ∙ other r))))

-- ---- the End of a tick

last_no_end : (q : ℕ) (xs : List Entry) (e : Entry) → NoEnd q (xs ++ e ∷ []) → is_end q e.event ≡ false
last_no_end q [] e none = none.0
last_no_end q (x ∷ xs) e none = last_no_end q xs e none.1

module _ (w k r : ℕ) (h zs since : List Entry) (b e : Entry) (t : TakeTurns w h) (is : h ≡ zs ++ b ∷ since) (begins : b.event ≡ Begin k r) (runs_on : NoEnd r since) (ends : is_end r e.event ≡ true) where
  -- another Begin of the worker, from the Begin of its tick on
  none_since : (before mid rest : List Entry) (x : Entry) (q : ℕ) → h ≡ before ++ x ∷ rest → before ≡ zs ++ mid → b ∷ since ≡ mid ++ x ∷ rest → x.event ≡ Begin k q → is_end q e.event ≡ false → ⊥
  none_since before [] rest x q at ahead second starts other =
      let same : b ≡ x = cc in
      let region : Begin k r ≡ Begin k q = sym begins ∙ (ap (λ (y : Entry). y.event) same ∙ starts) in
      let one : r ≡ q = cc in
      true≢false (sym ends ∙ (ap (λ (p : ℕ). is_end p e.event) one ∙ other))
  none_since before (y ∷ ys) rest x q at ahead second starts other =
      let first : b ≡ y = cc in
      let later : since ≡ ys ++ x ∷ rest = cc in
      let runs : NoEnd r (ys ++ x ∷ rest) = subst (NoEnd r) later runs_on in
      t.turns before x rest k q at starts zs b ys r (ahead ∙ ap (λ (z : Entry). zs ++ z ∷ ys) (sym first)) begins (none_before r ys (x ∷ rest) runs)

  none_behind : NoneOpen k (h ++ e ∷ [])
  none_behind before x rest q same starts unended = elim (in_longer h before rest e x same) [
    | inl last ↦ absurd (true≢false (sym ends ∙ ap (is_end r) (ap (λ (y : Entry). y.event) (sym last.1) ∙ starts)))
    | inr old ↦
        let run : NoEnd q (old.0 ++ e ∷ []) = subst (NoEnd q) old.2 unended in
        let mid : NoEnd q old.0 = none_before q old.0 (e ∷ []) run in
        elim (stands zs (b ∷ since) before x old.0 (sym is ∙ old.1)) [
          | inl s ↦ t.turns zs b since k r is begins before x s.between q s.first starts (none_before q s.between (b ∷ since) (subst (NoEnd q) s.behind mid))
          | inr s ↦ none_since before s.between old.0 x q old.1 s.ahead s.second starts (last_no_end q old.0 e run)
        ]
  ]

  -- behind the End of its tick a worker is free
  pub end_frees : IsFree w (h ++ e ∷ []) k
  end_frees =
      let all : AllByRecursion (IsBegunBelow w) (zs ++ b ∷ since) = subst (AllByRecursion (IsBegunBelow w)) is t.below in
      let from = (all_behind (IsBegunBelow w) zs (b ∷ since) all).0 (ap is_start begins) in
      let worker : worker_of b.event ≡ k = ap worker_of begins in
      record { some = subst (λ (j : ℕ). 1 ≤ j) worker from.some; low = subst (λ (j : ℕ). j ≤ w) worker from.low; none = none_behind }

-- ---- who was found

-- a worker that was found at the slot of a prepared region, and at no other, has no open tick
pub none_open : (m : Meaning) (s : Keeper Offered) (xs : List ℕ) (i k : ℕ) → Tied m s xs → Run m.opening m.history → is_prepared m (region_at xs i) ≡ true → FoundOnlyAt s k i → NoneOpen k m.history
none_open m s xs i k t run marked only before e since r is begins runs_on =
    let begun : m.history ≡ before ++ (record { by = e.by; event = Begin k r }) ∷ since = is ∙ ap (λ (v : Event). before ++ (record { by = e.by; event = v }) ∷ since) begins in
    let b = begun_ticks m.opening m.history before since e.by k r t.grid run begun runs_on in
    let z = t.ticking r b.0 in
    let j : ℕ = z.0 in
    let u : InUse m (region_at xs j) (place_at s j) = t.used j z.3 (subst (λ (x : ℕ). 0 < x) (sym z.4) z.2) in
    let runs = u.runs z.1 z.5 in
    let made = runs.opened.made in
    let own : u.tick.region ≡ r = runs.of ∙ z.4 in
    let a = begun_ticks m.opening m.history (made.before ++ made.between) made.since made.by z.1 u.tick.region t.grid run made.begin made.runs_on in
    let same : z.1 ≡ k = sym a.1 ∙ (ap (world_of m).worker own ∙ b.1) in
    let here : j ≡ i = only j (z.5 ∙ ap (λ (x : ℕ). Some x) same) in
    true≢false (sym marked ∙ (ap (λ (x : ℕ). is_prepared m (region_at xs x)) (sym here) ∙ runs.unprepared))
