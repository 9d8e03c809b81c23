-- Runs of a book, entry by entry.
use Rattle.std.proofs.Common.{◌≡◌, ◌≢◌, ℕ, zero, suc, ◌+◌, ◌-◌, ◌<◌, ◌≤◌, ◌&&◌, ◌||◌, Bool, true, false, refl, sym, ◌∙◌, ap, inl, inr, arith, List, [], ◌∷◌, ◌++◌}
use Rattle.std.specs.Prelude.{nat_eq, Option, Some, None}
use Rattle.std.proofs.lemmas.Bool.{cases_Bool}
use Rattle.fol_model.specs.declared.openings.Opening.{Opening}
use Rattle.fol_follow.specs.declared.entries.Asked.TheVariants.{Queued, Unknown}
use Rattle.fol_follow.specs.declared.entries.BookEvent.{BookEvent}
use Rattle.fol_follow.specs.declared.entries.BookEvent.TheVariants.{Ask, Visit}
use Rattle.fol_follow.specs.declared.entries.BookEntry.{BookEntry}
use Rattle.fol_follow.specs.Visits.{Allowed, IsRun, RunFrom, State, after, after_all, book_after, has_visit, is_visit_of, start}

pub after_both : (s : State) (es fs : List BookEntry) → after_all s (es ++ fs) ≡ after_all (after_all s es) fs
after_both s [] fs = refl
after_both s (e ∷ es) fs = after_both (after s e.event) es fs

pub run_more : (o : Opening) (s : State) (es : List BookEntry) (e : BookEntry) → RunFrom o s es → Allowed o (after_all s es) e.event → RunFrom o s (es ++ e ∷ [])
run_more o s [] e run here = (here, tt)
run_more o s (x ∷ es) e run here = (run.0, run_more o (after s x.event) es e run.1 here)

pub run_parts : (o : Opening) (s : State) (es fs : List BookEntry) → RunFrom o s (es ++ fs) → RunFrom o s es × RunFrom o (after_all s es) fs
run_parts o s [] fs run = (tt, run)
run_parts o s (e ∷ es) fs run = let p = run_parts o (after s e.event) es fs run.1 in ((run.0, p.0), p.1)

made_one : (s : State) (e : BookEvent) (r b : ℕ) → (after s e).made r b ≡ (is_visit_of r b e || s.made r b)
made_one s (Ask entity delay (Queued n)) r b = refl
made_one s (Ask entity delay Unknown) r b = refl
made_one s (Visit region begun here visits) r b = refl

or_swap : (x y z : Bool) → (x || (y || z)) ≡ ((y || x) || z)
or_swap true true z = refl
or_swap true false z = refl
or_swap false true z = refl
or_swap false false z = refl

made_along : (s : State) (es : List BookEntry) (r b : ℕ) → (after_all s es).made r b ≡ (has_visit es r b || s.made r b)
made_along s [] r b = refl
made_along s (e ∷ es) r b =
    made_along (after s e.event) es r b
    ∙ ap (λ (x : Bool). has_visit es r b || x) (made_one s e.event r b)
    ∙ or_swap (has_visit es r b) (is_visit_of r b e.event) (s.made r b)

or_false : (x : Bool) → (x || false) ≡ x
or_false true = refl
or_false false = refl

-- a visit of a tick was made just where the history holds one
pub made_is : (es : List BookEntry) (r b : ℕ) → (book_after es).made r b ≡ has_visit es r b
made_is es r b = made_along start es r b ∙ or_false (has_visit es r b)
