-- The same tables with more room.
use Rattle.std.proofs.Common.{◌≡◌, ℕ, ◌≤◌, sym, ◌∙◌, ap, arith, List, []}
use Rattle.std.specs.Prelude.{nat_eq, nat_lt, slice_index_or}
use Rattle.std.proofs.Math.Path.{fun_ext}
use Rattle.fol_model.specs.declared.places.SectionPos.{SectionPos}
use Rattle.fol_region_tables.specs.Book.{Book, IsAlike, IsBook, owner_of, state_of, waits_of, is_live, rows_of, ahead_of, behind_of}
use Rattle.fol_region_tables.specs.Slots.{SlotTable, slot_of, slot_state}
use Rattle.fol_lists.specs.Numbered.{Numbered, total}
use Rattle.fol_region_tables.proofs.PartingSteps.{count_same}
use Rattle.std.specs.List.{list_any}

module _ (b c : Book) (h : IsBook b) (owner : (q : SectionPos) → owner_of c q ≡ owner_of b q) (slots : c.slots ≡ b.slots) (rows : c.rows ≡ b.rows) (ahead : c.ahead.lists ≡ b.ahead.lists) (ahead_room : b.ahead.room ≤ c.ahead.room)
    (behind : c.behind.lists ≡ b.behind.lists) (behind_room : b.behind.room ≤ c.behind.room) (next : c.next ≡ b.next) where
  owner_r : owner_of c ≡ owner_of b
  owner_r = fun_ext owner

  ahead_r : ahead_of c ≡ ahead_of b
  unfolding ahead_of
  ahead_r = fun_ext (λ u. ap (λ (f : SlotTable). slice_index_or c.ahead.lists (slot_of f u) []) slots ∙ ap (λ ls. slice_index_or ls (slot_of b.slots u) []) ahead)

  behind_r : behind_of c ≡ behind_of b
  unfolding behind_of
  behind_r = fun_ext (λ u. ap (λ (f : SlotTable). slice_index_or c.behind.lists (slot_of f u) []) slots ∙ ap (λ ls. slice_index_or ls (slot_of b.slots u) []) behind)

  rows_r : rows_of c ≡ rows_of b
  unfolding rows_of
  rows_r = fun_ext (λ u. ap (λ (f : SlotTable). slice_index_or c.rows.lists (slot_of f u) []) slots ∙ ap (λ (v : Numbered SectionPos). slice_index_or v.lists (slot_of b.slots u) []) rows)

  waits_r : waits_of c ≡ waits_of b
  unfolding waits_of
  waits_r = fun_ext (λ u. fun_ext (λ t. ap (λ (f : ℕ → List ℕ). list_any (nat_eq t) (f u)) ahead_r))

  live_r : is_live c ≡ is_live b
  unfolding is_live
  live_r = fun_ext (λ r. ap (λ (f : SlotTable). nat_lt (slot_of f r) f.room) slots)

  state_r : state_of c ≡ state_of b
  unfolding state_of
  state_r = fun_ext (λ r. ap (λ (f : SlotTable). slot_state f r) slots)

  pub roomy_alike : IsAlike b c
  roomy_alike = record { owner = owner_r; state = state_r; waits = waits_r; live = live_r; next = next }

  pub roomy_book : IsBook c
  roomy_book = record {
    rows = λ r l. let x = rows_r in let o = owner_r in rw (x, o) (h.rows r l);
    limits = let o = owner_r in rw o h.limits;
    ahead = let x = ahead_r in let w = waits_r in rw (x, w, next) h.ahead;
    behind = let x = behind_r in let w = waits_r in rw (x, w, next) h.behind;
    given = let l = live_r in rw (l, next) h.given;
    some = let l = live_r in let x = rows_r in rw (l, x) h.some;
    next = rw next h.next;
    unused = rw (slots, rows, ahead, behind) h.unused;
    row_numbers = rw (slots, rows) h.row_numbers;
    ahead_numbers = rw (slots, ahead) h.ahead_numbers;
    behind_numbers = rw (slots, behind) h.behind_numbers;
    ahead_fits = rw ahead (omega (arith, h.ahead_fits, ahead_room));
    behind_fits = rw behind (omega (arith, h.behind_fits, behind_room));
    total = ap (λ (v : Numbered SectionPos). total v) rows ∙ h.total ∙ count_same (λ q. nat_lt 0 (owner_of b q)) (λ q. nat_lt 0 (owner_of c q)) (λ q. ap (λ (f : SectionPos → ℕ). nat_lt 0 (f q)) (sym owner_r));
    row_room = rw rows h.row_room;
    room = rw slots h.room;
  }
