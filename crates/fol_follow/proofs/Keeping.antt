-- The tables of a book stay what stands after its history.
use Rattle.std.proofs.Common.{◌≡◌, ◌≢◌, ℕ, zero, suc, ◌+◌, ◌<◌, ◌≤◌, ◌^◌, ◌&&◌, ◌||◌, Bool, true, false, cond, refl, sym, ◌∙◌, ap, subst, inl, inr, arith, List, [], ◌∷◌, ◌++◌, length, length-append}
use Rattle.std.specs.Prelude.{nat_eq, if◌then◌else◌, Option, Some, None, All}
use Rattle.std.specs.Option.{is_some, unwrap_or}
use Rattle.std.specs.BTreeSet.{BTreeSet, contains}
use Rattle.std.proofs.Math.Path.{fun_ext}
use Rattle.std.proofs.lemmas.Bool.{cases_Bool}
use Rattle.fol_model.specs.declared.openings.Opening.{Opening}
use Rattle.fol_model.specs.ActionStep.{at_id}
use Rattle.fol_follow.specs.declared.entries.EntityAt.{EntityAt}
use Rattle.fol_follow.specs.declared.entries.Visit as rows
use Rattle.fol_follow.specs.declared.entries.Asked.{Asked}
use Rattle.fol_follow.specs.declared.entries.Asked.TheVariants.{Queued, Unknown}
use Rattle.fol_follow.specs.declared.entries.BookEvent.{BookEvent}
use Rattle.fol_follow.specs.declared.entries.BookEvent.TheVariants.{Ask, Visit}
use Rattle.fol_follow.specs.declared.entries.BookEntry.{BookEntry}
use Rattle.fol_follow.specs.Here.{AreKnown, is_known}
use Rattle.fol_follow.specs.Visits.{Allowed, AreVisits, IsRun, Pending, State, after, answer_to, book_after, has_visit, lowered, start}
use Rattle.fol_follow.specs.Table.{Answered, AreAtMost, Table, count_of, pair_cmp, pending, visits_in}
use Rattle.fol_follow.specs.Kept.{Keeps}
use Rattle.fol_follow.proofs.Runs.{after_both, made_is, run_more}

abbrev pub entry : ℕ → BookEvent → BookEntry
entry by event = record { by = by; event = event }

one_longer : (h : List BookEntry) (e : BookEntry) → length (h ++ e ∷ []) ≡ length h + 1
one_longer h e = length-append h (e ∷ [])

-- an answer adds one row at most
pub rows_answered : (old new : Table) (entity delay : ℕ) (a : Asked) → Answered old new entity delay a → length new.rows ≤ length old.rows + 1
rows_answered old new entity delay (Queued n) (has, number, counts, rows, asks) = omega (arith, rows)
rows_answered old new entity delay Unknown (lacks, same) = omega (arith, ap (λ (t : Table). length t.rows) same)

module _ (o : Opening) (h : List BookEntry) (t : Table) (made : BTreeSet (ℕ × ℕ)) (keeps : Keeps o h t made) where
  then_is : (e : BookEntry) → book_after (h ++ e ∷ []) ≡ after (book_after h) e.event
  then_is e = after_both start h (e ∷ [])

  -- an ask of an entity that the opening does not have
  pub keeps_unknown : (by entity delay : ℕ) → is_known o entity ≡ false → 1 ≤ delay → delay ≤ 1000000 → length h < 2 ^ 50
      → Keeps o (h ++ entry by (Ask entity delay Unknown) ∷ []) t made
  keeps_unknown by entity delay lacks low high few =
      let e : BookEntry = entry by (Ask entity delay Unknown) in
      let s = then_is e in
      let l = one_longer h e in
      record {
        run = run_more o start h e keeps.run (low, high, rw lacks refl);
        asks = keeps.asks ∙ sym (ap (λ (x : State). x.asks) s);
        next = ap (λ (x : State). x.next) s ∙ keeps.next;
        known = keeps.known;
        visited = λ r b. keeps.visited r b ∙ sym (ap (λ (x : State). x.made r b) s);
        counts = λ id. let c = keeps.counts id in omega arith;
        rows = let r = keeps.rows in omega arith;
        few = omega arith;
      }

  -- an ask that was queued in the table
  pub keeps_queued : (by entity delay : ℕ) (new : Table) → is_known o entity ≡ true → 1 ≤ delay → delay ≤ 1000000 → length h < 2 ^ 50 → new.counts ≡ t.counts → length new.rows ≡ length t.rows + 1
      → pending new ≡ at_id (pending t) (length t.rows + 1) (Some (record { entity = entity; rest = delay }))
      → Keeps o (h ++ entry by (Ask entity delay (Queued (length t.rows + 1))) ∷ []) new made
  keeps_queued by entity delay new has low high few counts rows asks =
      let e : BookEntry = entry by (Ask entity delay (Queued (length t.rows + 1))) in
      let s = then_is e in
      let l = one_longer h e in
      let next = keeps.next in
      record {
        run = run_more o start h e keeps.run (low, high, (rw (has, next) refl));
        asks = asks ∙ ap (λ (f : ℕ → Option Pending). at_id f (length t.rows + 1) (Some (record { entity = entity; rest = delay }))) keeps.asks ∙ sym (ap (λ (x : State). x.asks) s);
        next = ap (λ (x : State). x.next) s ∙ ap (λ (n : ℕ). n + 1) next ∙ ap (λ (n : ℕ). n + 1) (sym rows);
        known = λ id. ap (λ (f : List (ℕ × ℕ)). is_some (visits_in f id)) counts ∙ keeps.known id;
        visited = λ r b. keeps.visited r b ∙ sym (ap (λ (x : State). x.made r b) s);
        counts = λ id. (let c = keeps.counts id in let same = ap (λ (f : List (ℕ × ℕ)). unwrap_or (visits_in f id) 0) counts in omega arith);
        rows = let r = keeps.rows in omega arith;
        few = omega arith;
      }

  -- an ask that the table answered
  pub keeps_ask : (by entity delay : ℕ) (new : Table) (a : Asked) → Answered t new entity delay a → 1 ≤ delay → delay ≤ 1000000 → length h < 2 ^ 50
      → Keeps o (h ++ entry by (Ask entity delay a) ∷ []) new made × (a ≡ answer_to o (book_after h) entity)
  keeps_ask by entity delay new (Queued n) (has, number, counts, rows, asks) low high few =
      let next = keeps.next in
      let known : is_known o entity ≡ true = sym (keeps.known entity) ∙ has in
      let P : ℕ → Type 0 = λ k. Keeps o (h ++ entry by (Ask entity delay (Queued k)) ∷ []) new made in
      (subst P (sym number) (keeps_queued by entity delay new known low high few counts rows asks), rw (known, number, next) refl)
  keeps_ask by entity delay new Unknown (lacks, same) low high few =
      let unknown : is_known o entity ≡ false = sym (keeps.known entity) ∙ lacks in
      let P : Table → Type 0 = λ x. Keeps o (h ++ entry by (Ask entity delay Unknown) ∷ []) x made in
      (subst P (sym same) (keeps_unknown by entity delay unknown low high few), rw unknown refl)

  -- a visit that was counted in the table
  pub keeps_visit : (by r b : ℕ) (here : List EntityAt) (visits : List rows.Visit) (new : Table) (more : BTreeSet (ℕ × ℕ)) → contains pair_cmp made (r, b) ≡ false → AreKnown o here
      → AreVisits (pending t) here visits → length h < 2 ^ 50 → new.rows ≡ t.rows → pending new ≡ (λ n. lowered here (pending t n)) → ((id : ℕ) → is_some (visits_in new.counts id) ≡ is_some (visits_in t.counts id))
      → ((id : ℕ) → count_of new id ≤ count_of t id + 1) → ((q c : ℕ) → contains pair_cmp more (q, c) ≡ ((nat_eq r q && nat_eq b c) || contains pair_cmp made (q, c)))
      → Keeps o (h ++ entry by (Visit r b here visits) ∷ []) new more
  keeps_visit by r b here visits new more fresh known due few rows asks same bound put =
      let e : BookEntry = entry by (Visit r b here visits) in
      let s = then_is e in
      let l = one_longer h e in
      let is : pending t ≡ (book_after h).asks = keeps.asks in
      let P : (ℕ → Option Pending) → Type 0 = λ f. AreVisits f here visits in
      record {
        run = run_more o start h e keeps.run (sym (keeps.visited r b) ∙ fresh, known, subst P is due);
        asks = asks ∙ fun_ext (λ n. ap (λ (f : ℕ → Option Pending). lowered here (f n)) is) ∙ sym (ap (λ (x : State). x.asks) s);
        next = ap (λ (x : State). x.next) s ∙ keeps.next ∙ ap (λ n. n + 1) (sym (ap length rows));
        known = λ id. same id ∙ keeps.known id;
        visited = λ q c. put q c ∙ ap (λ (x : Bool). (nat_eq r q && nat_eq b c) || x) (keeps.visited q c) ∙ sym (ap (λ (x : State). x.made q c) s);
        counts = λ id. (let c = keeps.counts id in let m = bound id in omega arith);
        rows = (let n = keeps.rows in let m = ap length rows in omega arith);
        few = omega arith;
      }

  -- whether a tick was visited is what the history says
  pub visited_is : (r b : ℕ) → contains pair_cmp made (r, b) ≡ has_visit h r b
  visited_is r b = keeps.visited r b ∙ made_is h r b
