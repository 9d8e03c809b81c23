-- The beginnings of a history.
use Rattle.std.proofs.Common.{◌≡◌, ℕ, ◌<◌, ◌≤◌, refl, sym, ◌∙◌, ap, arith, true, false, inl, inr, List, [], ◌∷◌, ◌++◌, length, take, drop, append_assoc, append-nil, subst}
use Rattle.std.specs.Prelude.{nat_eq, if◌then◌else◌}
use Rattle.std.specs.List.{list_all}
use Rattle.std.proofs.lemmas.Bool.{and_parts, cases_lt}
use Rattle.std.proofs.lemmas.List.{map-append, take-append-drop, take-take}
use Rattle.std.proofs.lemmas.List.Folds.{list_all-append}
use Rattle.fol_model.specs.declared.openings.Opening.{Opening}
use Rattle.fol_model.specs.declared.scripts.Command.{Command}
use Rattle.fol_model.specs.declared.closings.Closing.{Closing}
use Rattle.fol_model.specs.declared.events.Entry.{Entry}
use Rattle.fol_model.specs.declared.events.Event.{Event}
use Rattle.fol_model.specs.declared.events.Event.TheVariants.{Finish}
use Rattle.fol_model.specs.World.{World, start}
use Rattle.fol_model.specs.Run.{RunFrom, after}
use Rattle.fol_model.specs.Legal.{Doing, Legal, WholeTicks, idle, is_of, orders, orders_of, turn, worker_of}
use Rattle.fol_model.specs.SoFar.{SoFar, TicksSoFar}
use Rattle.fol_check.specs.Next.{entry_of}
use Rattle.fol_check.specs.Replays.{Ends, LastFinishes, SoFarAt, StopsAt, entries}
use Rattle.fol_check.proofs.Following.{last_allowed, orders_with}

-- ---- an entry less

run_before : (w : World) (h : List Entry) (e : Entry) → RunFrom w (h ++ e ∷ []) → RunFrom w h
run_before w [] e run = tt
run_before w (x ∷ h) e run = (run.0, run.1, run_before (after w x.event) h e run.2)

ticks_before : (k : ℕ) (w : World) (d : Doing) (h : List Entry) (e : Entry) → TicksSoFar k w d (h ++ e ∷ []) → TicksSoFar k w d h
ticks_before k w d [] e so = tt
ticks_before k w d (x ∷ h) e so = (so.0, ticks_before k (after w x.event) (if nat_eq (worker_of x.event) k then turn w d x.event else d) h e so.1)

so_far_before : (o : Opening) (cs : List Command) (n : ℕ) (h : List Entry) (e : Entry) → SoFar o cs n (h ++ e ∷ []) → SoFar o cs n h
so_far_before o cs n h e so = record {
  run = run_before (start o) h e so.run;
  later = orders_of e.event ++ so.later;
  commands = sym (append_assoc (orders h) (orders_of e.event) so.later) ∙ ap (λ os. os ++ so.later) (sym (orders_with h e)) ∙ so.commands;
  workers = (and_parts (list_all (λ (x : Entry). is_of n x.event) h) (list_all (λ (x : Entry). is_of n x.event) (e ∷ [])) (sym (list_all-append (λ (x : Entry). is_of n x.event) h (e ∷ [])) ∙ so.workers)).0;
  ticks = λ k low high. ticks_before k (start o) idle h e (so.ticks k low high);
  finish = λ over. absurd (let going = (last_allowed (start o) h e so.run).0 in let never : false ≡ true = sym going ∙ over in cc);
}

-- the beginning of a beginning is one
pub so_far_first : (o : Opening) (cs : List Command) (n : ℕ) (h g : List Entry) → SoFar o cs n (h ++ g) → SoFar o cs n h
so_far_first o cs n h [] so = let P : List Entry → Type 0 = SoFar o cs n in subst P (append-nil h) so
so_far_first o cs n h (e ∷ g) so =
    let P : List Entry → Type 0 = SoFar o cs n in
    so_far_before o cs n h e (so_far_first o cs n (h ++ e ∷ []) g (subst P (sym (append_assoc h (e ∷ []) g)) so))

entries_both : (es fs : List Event) → entries (es ++ fs) ≡ entries es ++ entries fs
entries_both es fs = map-append entry_of es fs

pub so_far_taken : (o : Opening) (cs : List Command) (es : List Event) (n : ℕ) → SoFar o cs 64 (entries es) → SoFarAt o cs es n
so_far_taken o cs es n so =
    let P : List Entry → Type 0 = SoFar o cs 64 in
    so_far_first o cs 64 (entries (take n es)) (entries (drop n es)) (subst P (sym (ap entries (take-append-drop n es)) ∙ entries_both (take n es) (drop n es)) so)

pub so_far_earlier : (o : Opening) (cs : List Command) (es : List Event) (m n : ℕ) → m ≤ n → SoFarAt o cs es n → SoFarAt o cs es m
so_far_earlier o cs es m n less so =
    let P : List Event → Type 0 = λ xs. SoFar o cs 64 (entries xs) in
    subst P (take-take m n es less) (so_far_taken o cs (take n es) m so)

-- ---- a legal history is the beginning of one

ticks_whole : (k : ℕ) (w : World) (d : Doing) (h : List Entry) → WholeTicks k w d h → TicksSoFar k w d h
ticks_whole k w d [] whole = tt
ticks_whole k w d (x ∷ h) whole = (whole.0, ticks_whole k (after w x.event) (if nat_eq (worker_of x.event) k then turn w d x.event else d) h whole.1)

pub legal_so_far : (o : Opening) (cs : List Command) (n : ℕ) (h : List Entry) → Legal o cs n h → SoFar o cs n h
legal_so_far o cs n h legal = record {
  run = legal.run;
  later = [];
  commands = append-nil (orders h) ∙ legal.commands;
  workers = legal.workers;
  ticks = λ k low high. ticks_whole k (start o) idle h (legal.ticks k low high);
  finish = λ over. refl;
}

pub legal_last : (o : Opening) (cs : List Command) (n : ℕ) (h : List Entry) → Legal o cs n h → LastFinishes h
legal_last o cs n h legal = record { before = legal.others; last = record { by = legal.by; event = Finish }; is = legal.finish; finish = refl }

-- ---- where events stop

stops_later : (o : Opening) (cs : List Command) (es : List Event) (m n : ℕ) → StopsAt o cs es m → StopsAt o cs es n → m < n → ⊥
stops_later o cs es m n a b less =
    let first = a.place in
    let second = b.place in
    let within = b.within in
    a.no_more (omega arith) (so_far_earlier o cs es m b.before (omega arith) b.so_far)

pub stops_once : (o : Opening) (cs : List Command) (es : List Event) (m n : ℕ) → StopsAt o cs es m → StopsAt o cs es n → m ≡ n
stops_once o cs es m n a b = elim (cases_lt m n) [
  | inl less ↦ absurd (stops_later o cs es m n a b less)
  | inr rest ↦ elim (cases_lt n m) [
    | inl less ↦ absurd (stops_later o cs es n m b a less)
    | inr same ↦ omega arith
  ]
]

pub stops_or_ends : (o : Opening) (cs : List Command) (es : List Event) (n : ℕ) (c : Closing) → StopsAt o cs es n → Ends o cs es c → ⊥
stops_or_ends o cs es n c a ends = elim (cases_lt a.before (length es)) [
  | inl less ↦ a.no_more less (so_far_taken o cs es n (legal_so_far o cs 64 (entries es) ends.legal))
  | inr all ↦ let within = a.within in a.unfinished (omega arith) (legal_last o cs 64 (entries es) ends.legal)
]
