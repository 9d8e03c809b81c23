-- A legal history stays legal where there may be more workers.
use Rattle.std.proofs.Common.{◌≡◌, ℕ, ◌<◌, ◌≤◌, refl, List, [], ◌∷◌, true, false, arith, nat_eq, inl, inr}
use Rattle.std.specs.Prelude.{◌&&◌, nat_le}
use Rattle.std.specs.List.{list_all}
use Rattle.std.proofs.lemmas.Bool.{cases_Bool, and_parts, and_from, eqb-true, leb-true, leb-false, le-leb}
use Rattle.fol_model.specs.declared.openings.Opening.{Opening}
use Rattle.fol_model.specs.declared.scripts.Command.{Command}
use Rattle.fol_model.specs.declared.events.Event.{Event}
use Rattle.fol_model.specs.declared.events.Event.TheVariants as events
use Rattle.fol_model.specs.declared.events.Entry.{Entry}
use Rattle.fol_model.specs.World.{World, start}
use Rattle.fol_model.specs.Run.{after}
use Rattle.fol_model.specs.Legal.{Legal, WholeTicks, idle, is_of, worker_of}
use Rattle.fol_laws.specs.MoreWorkers.{LegalOfMore}

module _ (w v : ℕ) (more : w ≤ v) where
  within_more : (k : ℕ) → nat_le k w ≡ true → nat_le k v ≡ true
  within_more k h = le-leb k v (let l = leb-true k w h in omega arith)

  worker_more : (k : ℕ) → (nat_le 1 k && nat_le k w) ≡ true → (nat_le 1 k && nat_le k v) ≡ true
  worker_more k h = let p = and_parts (nat_le 1 k) (nat_le k w) h in and_from (nat_le 1 k) (nat_le k v) p.0 (within_more k p.1)

  of_more : (e : Event) → is_of w e ≡ true → is_of v e ≡ true
  of_more (events.Begin worker r) h = worker_more worker h
  of_more (events.End worker r tick ran accepts) h = worker_more worker h
  of_more (events.Stop caller) h = absurd cc
  of_more (events.Load caller c answer) h = within_more caller h
  of_more (events.Unload caller c answer) h = within_more caller h
  of_more (events.Post caller c d a answer) h = within_more caller h
  of_more (events.PhaseOpen n) h = le-leb 0 v (omega arith)
  of_more events.PhaseClose h = le-leb 0 v (omega arith)
  of_more events.Finish h = le-leb 0 v (omega arith)

  all_more : (es : List Entry) → list_all (λ e. is_of w e.event) es ≡ true → list_all (λ e. is_of v e.event) es ≡ true
  all_more [] h = refl
  all_more (e ∷ es) h =
      let p = and_parts (is_of w e.event) (list_all (λ x. is_of w x.event) es) h in
      and_from (is_of v e.event) (list_all (λ x. is_of v x.event) es) (of_more e.event p.0) (all_more es p.1)

-- the worker of an event of workers up to w is one of them, or 0
worker_within : (w : ℕ) (e : Event) → is_of w e ≡ true → worker_of e ≤ w
worker_within w (events.Begin worker r) h = let p = and_parts (nat_le 1 worker) (nat_le worker w) h in leb-true worker w p.1
worker_within w (events.End worker r tick ran accepts) h = let p = and_parts (nat_le 1 worker) (nat_le worker w) h in leb-true worker w p.1
worker_within w (events.Stop caller) h = absurd cc
worker_within w (events.Load caller c answer) h = leb-true caller w h
worker_within w (events.Unload caller c answer) h = leb-true caller w h
worker_within w (events.Post caller c d a answer) h = leb-true caller w h
worker_within w (events.PhaseOpen n) h = omega arith
worker_within w events.PhaseClose h = omega arith
worker_within w events.Finish h = omega arith

-- no entry is of worker k, who stays at nothing
not_a_turn : (w k : ℕ) → w < k → (e : Event) → is_of w e ≡ true → nat_eq (worker_of e) k ≡ false
not_a_turn w k above e h = elim (cases_Bool (nat_eq (worker_of e) k)) [
  | inl same ↦ absurd (let s = eqb-true (worker_of e) k same in let l = worker_within w e h in omega arith)
  | inr other ↦ other
]

idle_ticks : (w k : ℕ) → w < k → (x : World) (es : List Entry) → list_all (λ e. is_of w e.event) es ≡ true → WholeTicks k x idle es
idle_ticks w k above x [] h = refl
idle_ticks w k above x (e ∷ es) h =
    let p = and_parts (is_of w e.event) (list_all (λ x. is_of w x.event) es) h in
    let other = not_a_turn w k above e.event p.0 in
    rw other (λ same. absurd (let never : false ≡ true = same in cc), idle_ticks w k above (after x e.event) es p.1)

ticks_more : (o : Opening) (script : List Command) (w : ℕ) (es : List Entry) → Legal o script w es → (k : ℕ) → 1 ≤ k → WholeTicks k (start o) idle es
ticks_more o script w es legal k low = elim (cases_Bool (nat_le k w)) [
  | inl h ↦ legal.ticks k low (leb-true k w h)
  | inr h ↦ idle_ticks w k (let l = leb-false k w h in omega arith) (start o) es legal.workers
]

pub legal_of_more : LegalOfMore
legal_of_more o script w v es more legal = record {
  run = legal.run;
  commands = legal.commands;
  workers = all_more w v more es legal.workers;
  ticks = λ k low high. ticks_more o script w es legal k low;
  others = legal.others;
  by = legal.by;
  finish = legal.finish;
}
