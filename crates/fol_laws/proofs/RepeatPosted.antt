-- The repeat of a task is posted.
use Rattle.std.proofs.Common.{◌≡◌, ℕ, zero, suc, ◌+◌, ◌-◌, ◌≤◌, ◌<◌, refl, sym, ◌∙◌, ap, arith, true, false, inl, inr, List, [], ◌∷◌, ◌++◌, append_assoc}
use Rattle.std.specs.Prelude.{nat_eq, nat_le, nat_lt, Option, Some, None}
use Rattle.std.specs.List.{AllByRecursion}
use Rattle.std.proofs.lemmas.Bool.{cases_Bool, cases_eq, eq-eqb, leb-true, le-leb, ltb-true, lt-ltb}
use Rattle.fol_model.specs.declared.places.ChunkPos.{ChunkPos}
use Rattle.fol_model.specs.declared.places.SectionPos.{SectionPos}
use Rattle.fol_model.specs.declared.regions.State.TheVariants.{Ticking}
use Rattle.fol_model.specs.Geometry.{section_of, distance, is_within, is_chunk}
use Rattle.fol_model.specs.GridState.{GridState, is_present, present_count}
use Rattle.fol_model.specs.Universe.{all_sections}
use Rattle.fol_model.specs.Add.{add, is_full, wanted, is_wanted}
use Rattle.fol_model.specs.Rules.{Rules}
use Rattle.fol_laws.proofs.AddEffect.{present_after}
use Rattle.fol_laws.proofs.ListCounts.{count_by-none}
use Rattle.fol_model.specs.Deed.{Deed}
use Rattle.fol_model.specs.ActionStep.{Flat, Recorded, act, plain_of, plain_wishes, repeats, wishes_of}
use Rattle.fol_model.specs.FlatTick.{acted, asked, flat_tick}
use Rattle.fol_model.specs.World.{World, due, due_below}
use Rattle.fol_model.specs.Job.{taken_task}
use Rattle.fol_model.specs.End.{dropped, ticked, put_back, accepted, all_accepted, run_down, answers}
use Rattle.fol_model.specs.Holds.{posted, posting}
use Rattle.fol_laws.proofs.SoundState.{SoundWorld}
use Rattle.fol_model.specs.DueRule.{taken_by, asked_before, IsRepeated}
use Rattle.fol_model.specs.declared.places.BlockPos.{BlockPos}
use Rattle.fol_model.specs.declared.actions.Action.{Action}
use Rattle.fol_model.specs.declared.actions.Action.TheVariants as action
use Rattle.fol_model.specs.declared.tasks.Ran.{Ran}
use Rattle.fol_model.specs.declared.tasks.Task.{Task}
use Rattle.fol_model.specs.declared.tasks.Wish.{Wish}
use Rattle.fol_model.specs.declared.events.Accept.{Accept}
use Rattle.fol_model.specs.declared.events.Accept.TheVariants as accept
use Rattle.fol_laws.proofs.WishLimits.{WishOk}
use Rattle.fol_laws.proofs.SoundRuns.{Ending, accepted_ending, all_accepted_ending, run_down_ending, wishes_ok}
use Rattle.fol_laws.proofs.RecordedMargins.{chunk_held}

-- ---- where the repeat stands among the wishes
asked_append : (rec : Recorded) (f : Flat) (xs ys : List Task) → asked rec f (xs ++ ys) ≡ asked rec f xs ++ asked rec (acted rec f xs) ys
asked_append rec f [] ys = refl
asked_append rec f (t ∷ xs) ys = let i = asked_append rec (act rec f (plain_of t.action)) xs ys in
    rw i (sym (append_assoc (wishes_of rec f t) (asked rec (act rec f (plain_of t.action)) xs) (asked rec (acted rec f (t ∷ xs)) ys)))

abbrev repeat : ChunkPos → ℕ → ℕ → Deed → Wish
repeat c p left inner = record { chunk = c; delay = p; action = action.Every p (left - 1) inner; back = None }

regroup : (a b c : List Wish) (x : Wish) → a ++ ((b ++ (x ∷ [])) ++ c) ≡ (a ++ b) ++ (x ∷ c)
regroup a b c x = simp append_assoc

asked_repeat : (rec : Recorded) (f : Flat) (xs ys : List Task) (n : ℕ) (c : ChunkPos) (p left : ℕ) (inner : Deed) → 2 ≤ left
    → asked rec f (xs ++ (record { number = n; chunk = c; action = action.Every p left inner }) ∷ ys)
    ≡ (asked rec f xs ++ plain_wishes rec (acted rec f xs) (plain_of (action.Every p left inner)))
    ++ repeat c p left inner ∷ asked rec (act rec (acted rec f xs) (plain_of (action.Every p left inner))) ys
asked_repeat rec f xs ys n c p left inner l =
    let z : nat_le 2 left ≡ true = le-leb _ _ l in
    let g = acted rec f xs in
    let one : repeats c (action.Every p left inner) ≡ repeat c p left inner ∷ [] = rw z refl in
    asked_append rec f xs ((record { number = n; chunk = c; action = action.Every p left inner }) ∷ ys)
    ∙ ap (λ (r : List Wish). asked rec f xs ++ ((plain_wishes rec g (plain_of (action.Every p left inner)) ++ r) ++ asked rec (act rec g (plain_of (action.Every p left inner))) ys)) one
    ∙ regroup (asked rec f xs) (plain_wishes rec g (plain_of (action.Every p left inner))) _ (repeat c p left inner)

-- the due task n stands behind those with lower numbers
pub record Split (w : World) (r n : ℕ) (ts : List Task) (t : Task) : Type 0 where
  pub later : List Task
  pub is : ts ≡ due_below w r n ++ t ∷ later

due_split : (w : World) (r n m : ℕ) (c : ChunkPos) (a : Action) → n < m → w.jobs n ≡ Some (taken_by c a r) → Split w r n (due_below w r m) (record { number = n; chunk = c; action = a })
unfolding due_below
due_split w r n zero c a l q = absurd (omega arith)
due_split w r n (suc m) c a l q = elim (cases_eq n m) [
  | inl e ↦ let z : nat_eq r r ≡ true = eq-eqb _ _ refl in
      let t : taken_task r n (Some (taken_by c a r)) ≡ (record { number = n; chunk = c; action = a }) ∷ [] = rw z refl in
      let u : taken_task r m (w.jobs m) ≡ (record { number = n; chunk = c; action = a }) ∷ [] = rw (← e) (ap (taken_task r n) q ∙ t) in
      record { later = []; is = ap (λ (x : List Task). due_below w r m ++ x) u ∙ ap (λ (k : ℕ). due_below w r k ++ (record { number = n; chunk = c; action = a }) ∷ []) (sym e) }
  | inr e ↦ let i = due_split w r n m c a (omega arith) q in
      record {
        later = i.later ++ taken_task r m (w.jobs m);
        is = ap (λ (x : List Task). x ++ taken_task r m (w.jobs m)) i.is ∙ append_assoc (due_below w r n) _ _;
      }
]

all_first : (rec : Recorded) (xs ys : List Wish) → AllByRecursion (WishOk rec) (xs ++ ys) → AllByRecursion (WishOk rec) xs
all_first rec [] ys h = tt
all_first rec (x ∷ xs) ys h = (h.0, all_first rec xs ys h.1)

-- ---- a present section stays present while wishes are accepted
record Wider (w v : World) : Type 0 where
  pub grid : v.grid.grid ≡ w.grid.grid
  pub owner : (s : SectionPos) → 0 < w.grid.owner s → 0 < v.grid.owner s

posted_wider : (w : World) (c : ChunkPos) (d : ℕ) (a : Action) → SoundWorld w → is_chunk c ≡ true → Wider w (posted w c d a)
unfolding posted add
posted_wider w c d a s l = elim (cases_Bool (is_full w.grid c)) [
  | inl f ↦ rw f (record { grid = refl; owner = λ p h. h })
  | inr f ↦ elim (cases_Bool (nat_eq (wanted w.grid c) 0)) [
    | inl k ↦ rw (f, k) (record { grid = refl; owner = λ p h. h })
    | inr k ↦ rw (f, k) (record { grid = refl; owner = λ p h. present_after w.grid c s.rules s.grid l p h })
  ]
]

put_back_wider : (w : World) (a : Action) (b : Option BlockPos) → Wider w (put_back w a b)
put_back_wider w (action.Set at id) b = record { grid = refl; owner = λ p h. h }
put_back_wider w (action.Copy at to) b = record { grid = refl; owner = λ p h. h }
put_back_wider w (action.Load c) b = record { grid = refl; owner = λ p h. h }
put_back_wider w (action.Unload c) b = record { grid = refl; owner = λ p h. h }
put_back_wider w (action.Post c d inner) b = record { grid = refl; owner = λ p h. h }
put_back_wider w (action.Send id to) b = record { grid = refl; owner = λ p h. h }
put_back_wider w (action.Arrive e) None = record { grid = refl; owner = λ p h. h }
put_back_wider w (action.Arrive e) (Some b) = record { grid = refl; owner = λ p h. h }
put_back_wider w (action.Every p l inner) b = record { grid = refl; owner = λ p h. h }

accepted_wider : (rec : Recorded) (w : World) (x : Wish) → SoundWorld w → WishOk rec x → Wider w (accepted w x)
unfolding accepted
accepted_wider rec w x s ok = elim (cases_Bool (is_full w.grid x.chunk)) [
  | inl f ↦ rw f (put_back_wider w x.action x.back)
  | inr f ↦ rw f (posted_wider w x.chunk x.delay x.action s ok.chunk)
]

all_wider : (rec : Recorded) (w : World) (xs : List Wish) (r : ℕ) → Ending r w → AllByRecursion (WishOk rec) xs → Wider w (all_accepted w xs)
all_wider rec w [] r e ok = record { grid = refl; owner = λ p h. h }
all_wider rec w (x ∷ xs) r e ok =
    let a = accepted_wider rec w x e.sound ok.0 in
    let b = all_wider rec (accepted w x) xs r (accepted_ending rec w x r e ok.0) ok.1 in
    record { grid = b.grid ∙ a.grid; owner = λ p h. b.owner p (a.owner p h) }

-- ---- where each section round the chunk is present there is room
not_wanted : (g : GridState) (c : ChunkPos) (s : SectionPos) → (distance (section_of g.grid c) s ≤ g.grid.create → 0 < g.owner s) → is_wanted g c s ≡ false
not_wanted g c s h = elim (cases_Bool (is_within (section_of g.grid c) g.grid.create s)) [
  | inl e ↦ let p : is_present g s ≡ true = lt-ltb _ _ (h (leb-true _ _ e)) in rw p refl
  | inr e ↦ elim (cases_Bool (is_present g s)) [ inl p ↦ rw p refl | inr p ↦ rw (p, e) refl ]
]

has_room : (g : GridState) (c : ChunkPos) → Rules g → ((s : SectionPos) → distance (section_of g.grid c) s ≤ g.grid.create → 0 < g.owner s) → is_full g c ≡ false
unfolding is_full wanted
has_room g c rules h =
    let w = count_by-none (is_wanted g c) (λ s. not_wanted g c s (h s)) all_sections in
    elim (cases_Bool (nat_lt 16384 (present_count g + wanted g c))) [
      | inl e ↦ let x : 16384 < present_count g + wanted g c = ltb-true _ _ e in let y = rules.count in absurd (omega arith)
      | inr e ↦ e
    ]

down_grid : (w : World) (r : ℕ) (ran : List Ran) → ((run_down w r ran).grid.grid ≡ w.grid.grid) × ((run_down w r ran).grid.owner ≡ w.grid.owner)
unfolding dropped
down_grid w r ran = (refl, refl)

room_later : (w : World) (r : ℕ) (ran : List Ran) (xs : List Wish) (c : ChunkPos) → SoundWorld w → w.grid.state r ≡ Ticking → AllByRecursion (WishOk (w.recorded r)) xs → 0 < w.grid.holds c
    → is_full (all_accepted (run_down w r ran) xs).grid c ≡ false
room_later w r ran xs c s t ok h =
    let v = all_accepted (run_down w r ran) xs in
    let e = run_down_ending w r ran s t in
    let k = all_wider (w.recorded r) (run_down w r ran) xs r e ok in
    let d = down_grid w r ran in
    let g : v.grid.grid ≡ w.grid.grid = k.grid ∙ d.0 in
    has_room v.grid c (all_accepted_ending (w.recorded r) (run_down w r ran) xs r e ok).sound.rules
    (λ p l. k.owner p (let l2 : distance (section_of w.grid.grid c) p ≤ w.grid.grid.create = rw g at l in
    let o : (run_down w r ran).grid.owner p ≡ w.grid.owner p = ap (λ (f : SectionPos → ℕ). f p) d.1 in
    let a = s.rules.margin c p h l2 in omega arith))

wishes_asked : (w : World) (r : ℕ) (ran : List Ran) → (ticked w r ran).wishes ≡ asked (w.recorded r) w.flat (due w r)
unfolding flat_tick
wishes_asked w r ran = refl

answers_append : (w : World) (xs : List Wish) (x : Wish) (ys : List Wish) → answers w (xs ++ x ∷ ys) ≡ answers w xs ++ posting (all_accepted w xs) x.chunk ∷ answers (accepted (all_accepted w xs) x) ys
answers_append w [] x ys = refl
answers_append w (z ∷ xs) x ys = ap (λ (l : List Accept). posting w z.chunk ∷ l) (answers_append (accepted w z) xs x ys)

pub is_repeated : (w : World) (r : ℕ) (ran : List Ran) (n : ℕ) (c : ChunkPos) (p left : ℕ) (inner : Deed) → SoundWorld w → w.grid.state r ≡ Ticking → n < w.next_job
    → w.jobs n ≡ Some (taken_by c (action.Every p left inner) r) → 2 ≤ left → IsRepeated w r ran n c p left inner
is_repeated w r ran n c p left inner s t m q l =
    let ts = due_split w r n w.next_job c (action.Every p left inner) m q in
    let g = acted (w.recorded r) w.flat (due_below w r n) in
    let before = asked_before w r n (action.Every p left inner) in
    let later = asked (w.recorded r) (act (w.recorded r) g (plain_of (action.Every p left inner))) ts.later in
    let is : (ticked w r ran).wishes ≡ before ++ repeat c p left inner ∷ later =
    wishes_asked w r ran ∙ ap (asked (w.recorded r) w.flat) ts.is ∙ asked_repeat (w.recorded r) w.flat (due_below w r n) ts.later n c p left inner l in
    let ok : AllByRecursion (WishOk (w.recorded r)) (before ++ repeat c p left inner ∷ later) = rw is at (wishes_ok w r ran s) in
    let room = room_later w r ran before c s t (all_first (w.recorded r) before _ ok) (chunk_held w n (taken_by c (action.Every p left inner) r) s q) in
    let v = all_accepted (run_down w r ran) before in
    let x = repeat c p left inner in
    let one : posting v c ≡ accept.Posted v.next_job = rw room refl in
    record {
      later = later;
      wishes = is;
      number = v.next_job;
      later_answers = answers (accepted v x) later;
      answered = ap (answers (run_down w r ran)) is ∙ answers_append (run_down w r ran) before x later ∙ ap (λ (l : Accept). answers (run_down w r ran) before ++ l ∷ answers (accepted v x) later) one;
    }
