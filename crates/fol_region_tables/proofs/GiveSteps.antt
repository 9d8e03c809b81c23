-- Sections that had no owner become a region's.
use Rattle.std.proofs.Common.{◌≡◌, ℕ, ◌+◌, ◌≤◌, ◌<◌, refl, sym, ◌∙◌, ap, arith, true, cond, List, length, inl, inr}
use Rattle.std.specs.Prelude.{◌≢◌, ℤ, filter, nat_eq}
use Rattle.std.proofs.Math.Path.{fun_ext}
use Rattle.std.proofs.lemmas.Bool.{cases_Bool, cases_eq, eqb-true}
use Rattle.std.proofs.lemmas.List.{length-set}
use Rattle.std.proofs.lemmas.List.Sums.{length-filter}
use Rattle.fol_lists.specs.Numbered.{total, with_list}
use Rattle.fol_model.specs.declared.places.SectionPos.{SectionPos}
use Rattle.fol_model.specs.Geometry.{is_section, is_among}
use Rattle.fol_model.specs.Universe.{all_sections, count_sections}
use Rattle.fol_pages.specs.Pages.{LieIn}
use Rattle.fol_region_tables.specs.Rows.{united}
use Rattle.fol_region_tables.specs.Slots.{slot_of}
use Rattle.fol_region_tables.specs.Owners.{owner_in}
use Rattle.fol_region_tables.specs.declared.pages.OwnerPage.{OwnerPage}
use Rattle.fol_region_tables.specs.Book.{Book, IsBook, Gives, owner_of, state_of, is_live, rows_of, ahead_of, behind_of, waits_of}
use Rattle.fol_region_tables.proofs.BookFacts.{put_at, put_other, put_unused, live_slot}
use Rattle.fol_region_tables.proofs.Chosen.{filter_like, count_either, united_chosen}
use Rattle.fol_region_tables.proofs.OwnSteps.{own_other, own_here, own_length, own_count, own_limits}
use Rattle.fol_region_tables.proofs.Totals.{total_with}

module _ (b : Book) (is : IsBook b) (t : ℕ) (live : is_live b t ≡ true) (xs : List SectionPos) (owned : List ((ℤ × ℤ) × OwnerPage)) (free : ℕ)
    (set : (q : SectionPos) → owner_in owned q ≡ cond (is_among xs q) t (owner_of b q)) (absent : (s : SectionPos) → is_among xs s ≡ true → owner_of b s ≡ 0)
    (row : xs ≡ filter (is_among xs) all_sections) where
  abbrev pub given : Book
  given = record b { owned = owned; free = free; rows = with_list b.rows (slot_of b.slots t) (united (rows_of b t) xs) }

  pos : 0 < t
  pos = (is.given t live).0

  limit : (s : SectionPos) → nat_eq (owner_of b s) t ≡ true → is_section s ≡ true
  limit s h = is.limits s (omega (arith, pos, eqb-true (owner_of b s) t h))

  owners : (s : SectionPos) → owner_of given s ≡ cond (is_among xs s) t (owner_of b s)
  unfolding owner_of
  owners s = set s

  united_is : united (rows_of b t) xs ≡ filter (λ s. nat_eq (owner_of given s) t) all_sections
  united_is = ap (λ ys. united ys xs) (is.rows t pos) ∙ united_chosen (λ s. nat_eq (owner_of b s) t) (λ s. nat_eq (owner_of given s) t) xs limit (own_here (owner_of b) (owner_of given) xs t pos owners absent row)

  united_length : length (united (rows_of b t) xs) ≡ length (rows_of b t) + length xs
  united_length = ap length united_is ∙ length-filter (λ s. nat_eq (owner_of given s) t) all_sections
      ∙ count_either (λ s. nat_eq (owner_of b s) t) (is_among xs) (λ s. nat_eq (owner_of given s) t)
      (λ s h. elim (cases_Bool (is_among xs s)) [ inl e ↦ absurd (omega (arith, pos, eqb-true (owner_of b s) t h, absent s e)) | inr e ↦ e ])
      (own_here (owner_of b) (owner_of given) xs t pos owners absent row) all_sections
      ∙ ap (λ n. n + count_sections (is_among xs)) (sym (ap length (is.rows t pos) ∙ length-filter (λ s. nat_eq (owner_of b s) t) all_sections))
      ∙ ap (λ n. length (rows_of b t) + n) (sym (own_length (owner_of b) (owner_of given) xs t pos owners absent row))

  rows_here : rows_of given t ≡ united (rows_of b t) xs
  unfolding rows_of
  rows_here = put_at b.slots b.rows is.row_numbers t (live_slot b t live) (united (rows_of b t) xs)

  rows_there : (r : ℕ) → r ≢ t → rows_of given r ≡ rows_of b r
  unfolding rows_of
  rows_there r n = put_other b.slots b.rows is.row_numbers t (live_slot b t live) (united (rows_of b t) xs) r n

  total_given : total given.rows ≡ total b.rows + length xs
  unfolding rows_of
  total_given = omega (arith, total_with b.rows (slot_of b.slots t) (united (rows_of b t) xs) (omega (arith, live_slot b t live, is.row_numbers)), united_length)

  pub given_book : IsBook given
  unfolding is_live waits_of ahead_of behind_of
  given_book = record {
    rows = λ r p. elim (cases_eq r t) [
      | inl e ↦ ap (rows_of given) e ∙ rows_here ∙ united_is ∙ ap (λ j. filter (λ s. nat_eq (owner_of given s) j) all_sections) (sym e)
      | inr n ↦ rows_there r n ∙ is.rows r p ∙ filter_like _ _ (λ s. sym (own_other (owner_of b) (owner_of given) xs t pos owners absent row r p n s)) all_sections
    ];
    limits = own_limits (owner_of b) (owner_of given) xs t pos owners absent row is.limits;
    ahead = is.ahead;
    behind = is.behind;
    given = is.given;
    some = λ r l. elim (cases_eq r t) [
      | inl e ↦ omega (arith, ap (λ j. length (rows_of given j)) e, ap length rows_here, united_length, is.some t live)
      | inr n ↦ omega (arith, ap length (rows_there r n), is.some r l)
    ];
    next = is.next;
    unused = λ k h. let old = is.unused k h in (put_unused b.slots b.rows is.row_numbers t (live_slot b t live) (united (rows_of b t) xs) k (λ e. h t (sym e)) ∙ old.0, old.1);
    row_numbers = length-set {A = List SectionPos} b.rows.lists (slot_of b.slots t) (united (rows_of b t) xs) ∙ is.row_numbers;
    ahead_numbers = is.ahead_numbers;
    behind_numbers = is.behind_numbers;
    total = total_given ∙ ap (λ n. n + length xs) is.total ∙ sym (own_count (owner_of b) (owner_of given) xs t pos owners absent row);
    row_room = is.row_room;
    ahead_fits = is.ahead_fits;
    behind_fits = is.behind_fits;
    room = is.room;
  }

  pub given_is : ((n : ℕ) → LieIn (is_among xs) n → b.free ≤ free + n) → Gives b given xs t
  unfolding state_of is_live waits_of ahead_of
  given_is l = record { owner = fun_ext owners; state = refl; waits = refl; live = refl; next = refl; free = l }
