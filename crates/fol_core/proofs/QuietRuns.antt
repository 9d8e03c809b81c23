-- Quiet ticks, one after another.
use Rattle.std.proofs.Common.{◌≡◌, ℕ, zero, suc, ◌+◌, refl, sym, ◌∙◌, ap, arith, List, [], ◌∷◌, ◌++◌}
use Rattle.std.proofs.lemmas.List.{append-nil, append_assoc}
use Rattle.fol_model.specs.declared.events.Accept.{Accept}
use Rattle.fol_model.specs.declared.events.Entry.{Entry}
use Rattle.fol_model.specs.declared.events.Event.TheVariants.{Begin, End}
use Rattle.fol_model.specs.declared.tasks.Ran.{Ran}
use Rattle.fol_core.specs.Meaning.{Meaning, Stays, world_of}
use Rattle.fol_core.specs.Quiet.{Passes, quiet_tick, quiet_ticks}

-- ---- their entries
pub no_ticks : (h : List Entry) (worker r t : ℕ) → h ≡ h ++ quiet_ticks worker r t 0
unfolding quiet_ticks
no_ticks h worker r t = sym (append-nil h)

last_tick : (worker r t n : ℕ) → quiet_ticks worker r t (n + 1) ≡ quiet_ticks worker r t n ++ quiet_tick worker r (t + n + 1)
unfolding quiet_ticks
last_tick worker r t n =
    let next : n + 1 ≡ suc n = omega arith in
    let counter : t + suc n ≡ t + n + 1 = omega arith in
    ap (quiet_ticks worker r t) next ∙ ap (λ k. quiet_ticks worker r t n ++ quiet_tick worker r k) counter

-- the Begin and the End of one more
pub tick_more : (g h : List Entry) (worker r t n tick : ℕ) (ran : List Ran) (accepts : List Accept) → g ≡ h ++ quiet_ticks worker r t n → tick ≡ t + n + 1 → ran ≡ [] → accepts ≡ []
    → (g ++ (record { by = worker; event = Begin worker r }) ∷ []) ++ (record { by = worker; event = End worker r tick ran accepts }) ∷ [] ≡ h ++ quiet_ticks worker r t (n + 1)
tick_more g h worker r t n tick ran accepts before counter no_ran no_accepts =
    append_assoc g ((record { by = worker; event = Begin worker r }) ∷ []) ((record { by = worker; event = End worker r tick ran accepts }) ∷ [])
    ∙ (λ i. before i ++ (record { by = worker; event = Begin worker r }) ∷ (record { by = worker; event = End worker r (counter i) (no_ran i) (no_accepts i) }) ∷ [])
    ∙ append_assoc h (quiet_ticks worker r t n) (quiet_tick worker r (t + n + 1))
    ∙ ap (λ es. h ++ es) (sym (last_tick worker r t n))

-- some, and then some more
ticks_both : (worker r t n k : ℕ) → quiet_ticks worker r t (n + k) ≡ quiet_ticks worker r t n ++ quiet_ticks worker r (t + n) k
unfolding quiet_ticks
ticks_both worker r t n zero =
    let none : n + 0 ≡ n = omega arith in
    ap (quiet_ticks worker r t) none ∙ sym (append-nil (quiet_ticks worker r t n))
ticks_both worker r t n (suc k) =
    let next : n + suc k ≡ suc (n + k) = omega arith in
    let counter : t + suc (n + k) ≡ t + n + suc k = omega arith in
    ap (quiet_ticks worker r t) next
    ∙ ap (λ es. es ++ quiet_tick worker r (t + suc (n + k))) (ticks_both worker r t n k)
    ∙ ap (λ c. (quiet_ticks worker r t n ++ quiet_ticks worker r (t + n) k) ++ quiet_tick worker r c) counter
    ∙ append_assoc (quiet_ticks worker r t n) (quiet_ticks worker r (t + n) k) (quiet_tick worker r (t + n + suc k))

-- one, and then some more
pub ticks_after : (worker r t n : ℕ) → quiet_ticks worker r t (suc n) ≡ quiet_tick worker r (t + 1) ++ quiet_ticks worker r (t + 1) n
unfolding quiet_ticks
ticks_after worker r t n =
    let next : suc n ≡ 1 + n = omega arith in
    ap (quiet_ticks worker r t) next ∙ ticks_both worker r t 1 n

-- ---- what a core that passed them stands for
pub passes_none : (m : Meaning) (worker r : ℕ) → Passes m m worker r 0
passes_none m worker r = record { opening = refl; history = no_ticks m.history worker r ((world_of m).tick r); prepared = refl }

pub passes_still : (old mid new : Meaning) (worker r n : ℕ) → Passes old mid worker r n → Stays mid new → Passes old new worker r n
passes_still old mid new worker r n p s = record { opening = s.opening ∙ p.opening; history = s.history ∙ p.history; prepared = s.prepared ∙ p.prepared }

pub passes_more : (old mid new : Meaning) (worker r n k : ℕ) → Passes old mid worker r n → (world_of mid).tick r ≡ (world_of old).tick r + n → Passes mid new worker r k → Passes old new worker r (n + k)
passes_more old mid new worker r n k p now more = record {
  opening = more.opening ∙ p.opening;
  history = more.history
      ∙ (λ i. p.history i ++ quiet_ticks worker r (now i) k)
      ∙ append_assoc old.history (quiet_ticks worker r ((world_of old).tick r) n) (quiet_ticks worker r ((world_of old).tick r + n) k)
      ∙ ap (λ es. old.history ++ es) (sym (ticks_both worker r ((world_of old).tick r) n k));
  prepared = more.prepared ∙ p.prepared;
}
