-- The tick of a Begin in the world ahead of the history is that of a Begin in the world after it.
use Rattle.std.proofs.Common.{◌≡◌, ◌≢◌, ℕ, ◌-◌, ◌<◌, refl, sym, ◌∙◌, ap, subst, arith, Bool, false, inl, inr, []}
use Rattle.std.specs.Prelude.{nat_eq, nat_le, if◌then◌else◌, Option, Some, None}
use Rattle.std.proofs.Math.Path.{fun_ext}
use Rattle.std.proofs.lemmas.Bool.{cases_Bool, ne_eqb, true≢false}
use Rattle.fol_model.specs.declared.regions.State.TheVariants.{Ready, Ticking}
use Rattle.fol_model.specs.Geometry.{section_of}
use Rattle.fol_model.specs.GridState.{GridState}
use Rattle.fol_model.specs.Job.{Job, taken_task}
use Rattle.fol_model.specs.QueuedTask.{begun, counted_down, queued_in}
use Rattle.fol_model.specs.World.{World, due}
use Rattle.fol_laws.proofs.SoundState.{SoundWorld}
use Rattle.fol_laws.proofs.TickingKept.{due_same}
use Rattle.fol_early_laws.specs.EarlyBegins.{ahead_of, down_all, IsAhead, unhanded}
use Rattle.fol_data.specs.declared.tick.Tick.{Tick}
use Rattle.fol_core.specs.Ticks.{IsTick, IsTickOf}

keeps_other : (g : GridState) (r : ℕ) (j : Job) → nat_eq (g.owner (section_of g.grid j.chunk)) r ≡ false → counted_down g r (Some j) ≡ Some j
keeps_other g r j d = elim (cases_Bool (nat_eq j.taker 0)) [ inl z ↦ rw (z, d) refl | inr z ↦ rw z refl ]

not_queued : (g : GridState) (r : ℕ) (j : Job) → nat_eq (g.owner (section_of g.grid j.chunk)) r ≡ false → queued_in g r (Some j) ≡ None
unfolding queued_in
not_queued g r j d = elim (cases_Bool (nat_eq j.taker 0)) [ inl z ↦ rw (z, d) refl | inr z ↦ rw z refl ]

-- what the tick keeps of a task: on the ground of a marked region there is none
queued_same : (g : GridState) (p : ℕ → Bool) (r : ℕ) → p r ≡ false → (x : Option Job) → queued_in g r (counted_down g r (down_all g p x)) ≡ queued_in g r (counted_down g r x)
unfolding queued_in
queued_same g p r n None = refl
queued_same g p r n (Some j) = elim (cases_Bool (nat_eq j.taker 0)) [
  | inl z ↦ elim (cases_Bool (p (g.owner (section_of g.grid j.chunk)))) [
    | inl k ↦ let j2 : Job = record j { rest = j.rest - 1; taker = if nat_le j.rest 1 then g.owner (section_of g.grid j.chunk) else 0 } in
        let down : down_all g p (Some j) ≡ Some j2 = rw (z, k) refl in
        let d : nat_eq (g.owner (section_of g.grid j.chunk)) r ≡ false = ne_eqb _ r (λ e. true≢false (sym k ∙ ap p e ∙ n)) in
        ap (λ x. queued_in g r (counted_down g r x)) down ∙ ap (queued_in g r) (keeps_other g r j2 d) ∙ not_queued g r j2 d
        ∙ sym (ap (queued_in g r) (keeps_other g r j d) ∙ not_queued g r j d)
    | inr k ↦ let down : down_all g p (Some j) ≡ Some j = rw (z, k) refl in ap (λ x. queued_in g r (counted_down g r x)) down
  ]
  | inr z ↦ let down : down_all g p (Some j) ≡ Some j = rw z refl in ap (λ x. queued_in g r (counted_down g r x)) down
]

-- ---- tasks that the tick takes

not_listed : (r n : ℕ) (j : Job) → nat_eq j.taker r ≡ false → taken_task r n (Some j) ≡ []
not_listed r n j e = rw e refl

taken_same : (g : GridState) (p : ℕ → Bool) (r n : ℕ) → p r ≡ false → 0 < r → (x : Option Job) → ((j : Job) → x ≡ Some j → j.taker ≢ r)
    → taken_task r n (counted_down g r (down_all g p x)) ≡ taken_task r n (counted_down g r x)
taken_same g p r n f l None h = refl
taken_same g p r n f l (Some j) h = elim (cases_Bool (nat_eq j.taker 0)) [
  | inl z ↦ elim (cases_Bool (p (g.owner (section_of g.grid j.chunk)))) [
    | inl k ↦ let j2 : Job = record j { rest = j.rest - 1; taker = if nat_le j.rest 1 then g.owner (section_of g.grid j.chunk) else 0 } in
        let down : down_all g p (Some j) ≡ Some j2 = rw (z, k) refl in
        let d : nat_eq (g.owner (section_of g.grid j.chunk)) r ≡ false = ne_eqb _ r (λ e. true≢false (sym k ∙ ap p e ∙ f)) in
        let a : nat_eq 0 r ≡ false = ne_eqb 0 r (λ e. omega arith) in
        let t : nat_eq j.taker r ≡ false = ne_eqb _ r (h j refl) in
        let t2 : nat_eq j2.taker r ≡ false = elim (cases_Bool (nat_le j.rest 1)) [ inl m ↦ rw (m, d) refl | inr m ↦ rw (m, a) refl ] in
        ap (λ x. taken_task r n (counted_down g r x)) down ∙ ap (taken_task r n) (keeps_other g r j2 d) ∙ not_listed r n j2 t2
        ∙ sym (ap (taken_task r n) (keeps_other g r j d) ∙ not_listed r n j t)
    | inr k ↦ let down : down_all g p (Some j) ≡ Some j = rw (z, k) refl in ap (λ x. taken_task r n (counted_down g r x)) down
  ]
  | inr z ↦ let down : down_all g p (Some j) ≡ Some j = rw z refl in ap (λ x. taken_task r n (counted_down g r x)) down
]

-- ---- the tick of a Begin ahead is that of a Begin in the world
module _ (w : World) (p : ℕ → Bool) (r : ℕ) (free : p r ≡ false) where
  module _ (sound : SoundWorld w) (ready : w.grid.state r ≡ Ready) where
    given : 0 < r
    given = sound.rules.given r (λ d. cc)

    not_taken : (n : ℕ) (j : Job) → w.jobs n ≡ Some j → j.taker ≢ r
    not_taken n j e t = let l = given in
        let k : w.grid.state j.taker ≡ Ticking = (sound.each n j e).takes (λ z. omega arith) in
        let m : w.grid.state j.taker ≡ w.grid.state r = ap w.grid.state t in absurd (cc)

    due_ahead : (worker : ℕ) → due (begun (ahead_of w p) worker r) r ≡ due (begun w worker r) r
    unfolding begun ahead_of
    due_ahead worker = due_same r (begun w worker r) (begun (ahead_of w p) worker r) w.next_job (λ n. taken_same w.grid p r n free given (w.jobs n) (not_taken n))

    tick_of : (tick : Tick) → tick.region ≡ r → IsTickOf (ahead_of w p) tick → IsTickOf w tick
    unfolding begun ahead_of queued_in
    tick_of tick e k = record {
      chunks = k.chunks;
      due = k.due ∙ rw e (due_ahead tick.worker);
      counter = k.counter;
      owed = k.owed ∙ rw (e, free) refl;
      queued = k.queued ∙ rw e (fun_ext (λ n. queued_same w.grid p r free (w.jobs n)));
    }

    pub tick_back : (place seat : ℕ) (tick : Tick) → IsTick (ahead_of w p) place seat r tick → IsTick w place seat r tick
    unfolding ahead_of
    tick_back place seat tick k = record {
      worker = k.worker;
      region = k.region;
      begun = k.begun;
      of = tick_of tick k.region k.of;
      contents = k.contents;
      ran = k.ran;
      wishes = k.wishes;
      next = k.next;
      moved = k.moved;
    }

-- ---- who has the open ticks is nothing to a Begin
due_unhanded : (x : World) (worker r : ℕ) → due (begun (unhanded x) worker r) r ≡ due (begun x worker r) r
unfolding begun
due_unhanded x worker r = due_same r (begun x worker r) (begun (unhanded x) worker r) x.next_job (λ n. refl)

of_unhanded : (x : World) (tick : Tick) → IsTickOf x tick → IsTickOf (unhanded x) tick
unfolding begun
of_unhanded x tick k = record { chunks = k.chunks; due = k.due ∙ sym (due_unhanded x tick.worker tick.region); counter = k.counter; owed = k.owed; queued = k.queued }

pub tick_unhanded : (x : World) (place seat r : ℕ) (tick : Tick) → IsTick x place seat r tick → IsTick (unhanded x) place seat r tick
tick_unhanded x place seat r tick k = record {
  worker = k.worker;
  region = k.region;
  begun = k.begun;
  of = of_unhanded x tick k.of;
  contents = k.contents;
  ran = k.ran;
  wishes = k.wishes;
  next = k.next;
  moved = k.moved;
}

-- the same, where x is ahead of w
pub tick_ahead : (p : ℕ → Bool) (w x : World) (r place seat : ℕ) (tick : Tick) → IsAhead p w x → p r ≡ false → SoundWorld w → w.grid.state r ≡ Ready → IsTick x place seat r tick → IsTick w place seat r tick
tick_ahead p w x r place seat tick a off sound ready k = tick_back w p r off sound ready place seat tick (let P : World → Type 0 = λ v. IsTick v place seat r tick in subst P a.same (tick_unhanded x place seat r tick k))
