-- One more region begins early, and the Begin of one that did is recorded.
use Rattle.std.proofs.Common.{◌≡◌, ℕ, ◌-◌, refl, sym, ◌∙◌, ap, Bool, true, false, inl, inr, ◌&&◌}
use Rattle.std.specs.Prelude.{nat_eq, nat_le, if◌then◌else◌, Option, Some, None}
use Rattle.std.proofs.Math.Path.{fun_ext}
use Rattle.std.proofs.lemmas.Bool.{cases_Bool, cases_eq, eqb-true, eq-eqb, ne_eqb}
use Rattle.fol_model.specs.declared.regions.State.{State}
use Rattle.fol_model.specs.declared.regions.State.TheVariants.{Ticking}
use Rattle.fol_model.specs.Geometry.{section_of}
use Rattle.fol_model.specs.GridState.{GridState, is_loaded, with_state}
use Rattle.fol_model.specs.Begin.{begin}
use Rattle.fol_model.specs.ActionStep.{Recorded, at_id}
use Rattle.fol_model.specs.Job.{Job}
use Rattle.fol_model.specs.QueuedTask.{begun, counted_down}
use Rattle.fol_model.specs.World.{World}
use Rattle.fol_laws.specs.LateBegin.{ground}
use Rattle.fol_early_laws.specs.EarlyBegins.{ahead_of, down_all, unhanded}

-- ---- one region more

states_more : (s : ℕ → State) (p : ℕ → Bool) (r : ℕ) → with_state (λ q. if p q then Ticking else s q) r Ticking ≡ (λ q. if at_id p r true q then Ticking else s q)
states_more s p r = fun_ext (λ q. elim (cases_Bool (nat_eq r q)) [ inl e ↦ rw e refl | inr e ↦ rw e refl ])

workers_more : (r : ℕ) → at_id {X = ℕ} (λ (q : ℕ). 0) r 0 ≡ (λ q. 0)
workers_more r = fun_ext (λ q. elim (cases_Bool (nat_eq r q)) [ inl e ↦ rw e refl | inr e ↦ rw e refl ])

owed_more : (f : ℕ → ℕ) (p : ℕ → Bool) (r : ℕ) → p r ≡ false
    → at_id (λ q. if p q then f q - 1 else f q) r ((if p r then f r - 1 else f r) - 1) ≡ (λ q. if at_id p r true q then f q - 1 else f q)
owed_more f p r n = fun_ext (λ q. elim (cases_Bool (nat_eq r q)) [ inl e ↦ let k : r ≡ q = eqb-true r q e in rw (e, n) (ap (λ z. f z - 1) k) | inr e ↦ rw e refl ])

recorded_more : (g : GridState) (f : ℕ → Recorded) (p : ℕ → Bool) (r : ℕ)
    → at_id (λ q. if p q then (λ c. is_loaded g c && ground g q c) else f q) r (λ c. is_loaded g c && ground g r c) ≡ (λ q. if at_id p r true q then (λ c. is_loaded g c && ground g q c) else f q)
recorded_more g f p r = fun_ext (λ q. elim (cases_Bool (nat_eq r q)) [ inl e ↦ let k : r ≡ q = eqb-true r q e in rw e (ap (λ z c. is_loaded g c && ground g z c) k) | inr e ↦ rw e refl ])

job_more : (g : GridState) (p : ℕ → Bool) (r : ℕ) → p r ≡ false → (x : Option Job) → counted_down g r (down_all g p x) ≡ down_all g (at_id p r true) x
job_more g p r n None = refl
job_more g p r n (Some j) = elim (cases_Bool (nat_eq j.taker 0)) [
  | inl z ↦ elim (cases_eq r (g.owner (section_of g.grid j.chunk))) [
    | inl e ↦ let a : p (g.owner (section_of g.grid j.chunk)) ≡ false = ap p (sym e) ∙ n in let b : nat_eq r (g.owner (section_of g.grid j.chunk)) ≡ true = eq-eqb r _ e in
        let d : nat_eq (g.owner (section_of g.grid j.chunk)) r ≡ true = eq-eqb _ r (sym e) in
        rw (z, a, b, z, d) (ap (λ k. Some (record j { rest = j.rest - 1; taker = if nat_le j.rest 1 then k else 0 })) e)
    | inr d ↦ let b : nat_eq r (g.owner (section_of g.grid j.chunk)) ≡ false = ne_eqb r _ d in
        let y : nat_eq (g.owner (section_of g.grid j.chunk)) r ≡ false = ne_eqb _ r (λ x. d (sym x)) in
        elim (cases_Bool (p (g.owner (section_of g.grid j.chunk)))) [
          | inl k ↦ elim (cases_Bool (nat_eq (if nat_le j.rest 1 then g.owner (section_of g.grid j.chunk) else 0) 0)) [ inl m ↦ rw (z, b, k, m, y) refl | inr m ↦ rw (z, b, k, m) refl ]
          | inr k ↦ rw (z, b, k, z, y) refl
        ]
  ]
  | inr z ↦ rw (z, z) refl
]

pub ahead_more : (w : World) (p : ℕ → Bool) (r : ℕ) → p r ≡ false → begun (ahead_of w p) 0 r ≡ ahead_of w (at_id p r true)
unfolding ahead_of begun begin
ahead_more w p r n = λ i. record w {
  grid = record w.grid { state = states_more w.grid.state p r i };
  jobs = λ k. job_more w.grid p r n (w.jobs k) i;
  worker = workers_more r i;
  recorded = recorded_more w.grid w.recorded p r i;
  owed = owed_more w.owed p r n i;
}

-- the same over worlds that differ in who has the open ticks
pub unhanded_begun : (x : World) (worker r : ℕ) → unhanded (begun x worker r) ≡ unhanded (begun (unhanded x) 0 r)
unfolding begun begin
unhanded_begun x worker r = refl

pub unhanded_ahead : (w : World) (p : ℕ → Bool) → unhanded (ahead_of w p) ≡ ahead_of w p
unfolding ahead_of
unhanded_ahead w p = refl

-- ---- one region less, whose Begin was recorded

states_less : (s : ℕ → State) (p : ℕ → Bool) (r : ℕ) → p r ≡ true → (q : ℕ) → (if at_id p r false q then Ticking else with_state s r Ticking q) ≡ (if p q then Ticking else s q)
states_less s p r n q = elim (cases_Bool (nat_eq r q)) [ inl e ↦ let k : p q ≡ true = ap p (sym (eqb-true r q e)) ∙ n in rw (e, k) refl | inr e ↦ rw e refl ]

owed_less : (f : ℕ → ℕ) (p : ℕ → Bool) (r : ℕ) → p r ≡ true → (q : ℕ) → (if at_id p r false q then at_id f r (f r - 1) q - 1 else at_id f r (f r - 1) q) ≡ (if p q then f q - 1 else f q)
owed_less f p r n q = elim (cases_Bool (nat_eq r q)) [ inl e ↦ let x : r ≡ q = eqb-true r q e in let k : p q ≡ true = ap p (sym x) ∙ n in rw (e, k) (ap (λ z. f z - 1) x) | inr e ↦ rw e refl ]

recorded_less : (g : GridState) (f : ℕ → Recorded) (p : ℕ → Bool) (r : ℕ) → p r ≡ true
    → (q : ℕ) → (if at_id p r false q then (λ c. is_loaded g c && ground g q c) else at_id f r (λ c. is_loaded g c && ground g r c) q) ≡ (if p q then (λ c. is_loaded g c && ground g q c) else f q)
recorded_less g f p r n q = elim (cases_Bool (nat_eq r q)) [
  | inl e ↦ let x : r ≡ q = eqb-true r q e in let k : p q ≡ true = ap p (sym x) ∙ n in rw (e, k) (ap (λ z c. is_loaded g c && ground g z c) x)
  | inr e ↦ rw e refl
]

down_plain : (g : GridState) (p : ℕ → Bool) (j : Job) → p (g.owner (section_of g.grid j.chunk)) ≡ false → down_all g p (Some j) ≡ Some j
down_plain g p j d = elim (cases_Bool (nat_eq j.taker 0)) [ inl z ↦ rw (z, d) refl | inr z ↦ rw z refl ]

job_less : (g : GridState) (p : ℕ → Bool) (r : ℕ) → p r ≡ true → (x : Option Job) → down_all g (at_id p r false) (counted_down g r x) ≡ down_all g p x
job_less g p r n None = refl
job_less g p r n (Some j) = elim (cases_eq r (g.owner (section_of g.grid j.chunk))) [
  | inl e ↦ let b : nat_eq r (g.owner (section_of g.grid j.chunk)) ≡ true = eq-eqb r _ e in
      let k : p (g.owner (section_of g.grid j.chunk)) ≡ true = ap p (sym e) ∙ n in
      let d : nat_eq (g.owner (section_of g.grid j.chunk)) r ≡ true = eq-eqb _ r (sym e) in
      let off : at_id p r false (g.owner (section_of g.grid j.chunk)) ≡ false = rw b refl in
      elim (cases_Bool (nat_eq j.taker 0)) [
        | inl z ↦ let j2 : Job = record j { rest = j.rest - 1; taker = if nat_le j.rest 1 then r else 0 } in
            let one : counted_down g r (Some j) ≡ Some j2 = rw (z, d) refl in
            let all : down_all g p (Some j) ≡ Some (record j { rest = j.rest - 1; taker = if nat_le j.rest 1 then g.owner (section_of g.grid j.chunk) else 0 }) = rw (z, k) refl in
            ap (down_all g (at_id p r false)) one ∙ down_plain g (at_id p r false) j2 off
            ∙ ap (λ v. Some (record j { rest = j.rest - 1; taker = if nat_le j.rest 1 then v else 0 })) e ∙ sym all
        | inr z ↦ let one : counted_down g r (Some j) ≡ Some j = rw z refl in let all : down_all g p (Some j) ≡ Some j = rw z refl in
            ap (down_all g (at_id p r false)) one ∙ down_plain g (at_id p r false) j off ∙ sym all
      ]
  | inr d ↦ let y : nat_eq (g.owner (section_of g.grid j.chunk)) r ≡ false = ne_eqb _ r (λ x. d (sym x)) in
      let b : nat_eq r (g.owner (section_of g.grid j.chunk)) ≡ false = ne_eqb r _ d in
      let same : at_id p r false (g.owner (section_of g.grid j.chunk)) ≡ p (g.owner (section_of g.grid j.chunk)) = rw b refl in
      let one : counted_down g r (Some j) ≡ Some j = (elim (cases_Bool (nat_eq j.taker 0)) [ inl z ↦ rw (z, y) refl | inr z ↦ rw z refl ]) in
      ap (down_all g (at_id p r false)) one
      ∙ (λ i. if nat_eq j.taker 0 && same i then Some (record j { rest = j.rest - 1; taker = if nat_le j.rest 1 then g.owner (section_of g.grid j.chunk) else 0 }) else Some j)
]

pub ahead_less : (w : World) (p : ℕ → Bool) (worker r : ℕ) → p r ≡ true → ahead_of (begun w worker r) (at_id p r false) ≡ ahead_of w p
unfolding ahead_of begun begin
ahead_less w p worker r n = λ i. record w {
  grid = record w.grid { state = λ q. states_less w.grid.state p r n q i };
  jobs = λ k. job_less w.grid p r n (w.jobs k) i;
  worker = λ q. 0;
  recorded = λ q. recorded_less w.grid w.recorded p r n q i;
  owed = λ q. owed_less w.owed p r n q i;
}
