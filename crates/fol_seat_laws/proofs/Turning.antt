-- How what a worker is at goes on with a history that others lengthen too.
use Rattle.std.proofs.Common.{◌≡◌, ℕ, ◌≤◌, refl, sym, ◌∙◌, ap, subst, arith, true, false, inl, inr, List, [], ◌∷◌, ◌++◌, IsTrue}
use Rattle.std.specs.Prelude.{◌≢◌, nat_eq, if◌then◌else◌}
use Rattle.std.specs.List.{AllByRecursion}
use Rattle.std.proofs.lemmas.Bool.{cases_Bool, eq-eqb, ne_eqb}
use Rattle.fol_model.specs.declared.events.Entry.{Entry}
use Rattle.fol_model.specs.declared.events.Event.{Event}
use Rattle.fol_model.specs.declared.events.Event.TheVariants.{Load, Unload, Post, PhaseOpen, Begin, End, PhaseClose, Finish, Stop}
use Rattle.fol_model.specs.World.{World}
use Rattle.fol_model.specs.Run.{after, after_all}
use Rattle.fol_model.specs.Legal.{Doing, idle, IsTurn, turn, worker_of, WholeTicks}
use Rattle.fol_seat_laws.specs.Signed.{IsSigned, is_named, is_start, own_of}
use Rattle.fol_seat_laws.specs.Turns.{Turns}
use Rattle.fol_seat_laws.proofs.OwnEntries.{own_none}

-- what the worker is at after an entry
abbrev pub turned : ℕ → World → Doing → Entry → Doing
turned k w d e = if nat_eq (worker_of e.event) k then turn w d e.event else d

-- a worker that ends at nothing did whole ticks
pub turns_whole : (k : ℕ) (w : World) (d : Doing) (es : List Entry) → Turns k w d es idle → WholeTicks k w d es
turns_whole k w d [] t = t
turns_whole k w d (e ∷ es) t = (t.0, turns_whole k (after w e.event) (turned k w d e) es t.1)

-- several entries more
pub turns_both : (k : ℕ) (w : World) (d f g : Doing) (es fs : List Entry) → Turns k w d es f → Turns k (after_all w es) f fs g → Turns k w d (es ++ fs) g
turns_both k w d f g [] fs a b = rw a b
turns_both k w d f g (e ∷ es) fs a b = (a.0, turns_both k (after w e.event) (turned k w d e) f g es fs a.1 b)

-- a phase event is of no worker
phase_worker : (e : Event) → is_named e ≡ false → is_start e ≡ false → worker_of e ≡ 0
phase_worker (Load caller c a) named starts = absurd (cc)
phase_worker (Unload caller c a) named starts = absurd (cc)
phase_worker (Post caller c d x a) named starts = absurd (cc)
phase_worker (PhaseOpen n) named starts = refl
phase_worker (Begin worker r) named starts = absurd (cc)
phase_worker (End worker r tick ran accepts) named starts = absurd (cc)
phase_worker PhaseClose named starts = refl
phase_worker Finish named starts = refl
phase_worker (Stop caller) named starts = absurd (cc)

-- no Begin of the worker
abbrev pub IsNoBegin : ℕ → Entry → Type 0
IsNoBegin k e = is_start e.event ≡ true → worker_of e.event ≢ k

-- a signed entry of another seat is not of the worker
pub other_worker : (k : ℕ) (e : Entry) → 1 ≤ k → IsSigned e → IsNoBegin k e → e.by ≢ k → nat_eq (worker_of e.event) k ≡ false
other_worker k e some signed begins other = ne_eqb (worker_of e.event) k (elim (cases_Bool (is_named e.event)) [
  | inl named ↦ λ same. other (sym (signed named) ∙ same)
  | inr free ↦ elim (cases_Bool (is_start e.event)) [
    | inl starts ↦ begins starts
    | inr none ↦ λ same. let zero = phase_worker e.event free none in absurd (omega (arith, zero, same, some))
  ]
])

-- the entry is not of the worker
abbrev pub IsOfOther : ℕ → Entry → Type 0
IsOfOther k e = nat_eq (worker_of e.event) k ≡ false

-- entries of others leave a worker at what it was at
pub turns_past_others : (k : ℕ) (w : World) (d : Doing) (es : List Entry) → AllByRecursion (IsOfOther k) es → Turns k w d es d
turns_past_others k w d [] others = refl
turns_past_others k w d (e ∷ es) others = let other = others.0 in rw other ((λ mine. absurd (cc)), turns_past_others k (after w e.event) d es others.1)

-- one entry more
pub turns_more : (k : ℕ) (w : World) (d f : Doing) (es : List Entry) (e : Entry) → Turns k w d es f
    → (IsTrue (nat_eq (worker_of e.event) k) → IsTurn f e.event) → Turns k w d (es ++ e ∷ []) (turned k (after_all w es) f e)
turns_more k w d f [] e t ok = rw t (ok, refl)
turns_more k w d f (x ∷ es) e t ok = (t.0, turns_more k (after w x.event) (turned k w d x) f es e t.1 ok)

-- an entry of the worker in front
pub turns_step : (k : ℕ) (w : World) (d f : Doing) (e : Entry) (es : List Entry) (v : Event) → e.event ≡ v → worker_of v ≡ k → IsTurn d v
    → Turns k (after w e.event) (turn w d v) es f → Turns k w d (e ∷ es) f
turns_step k w d f e es v is own ok rest =
    let same : nat_eq (worker_of e.event) k ≡ true = eq-eqb (worker_of e.event) k (ap worker_of is ∙ own) in
    rw same ((λ mine. rw is ok), subst (λ (x : Event). Turns k (after w e.event) (turn w d x) es f) (sym is) rest)
