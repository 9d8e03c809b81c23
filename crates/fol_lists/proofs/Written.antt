-- Lists that are written to another vector, one behind the other.
use Rattle.std.proofs.Common.{◌≡◌, ℕ, ◌+◌, ◌<◌, ◌≤◌, refl, sym, ◌∙◌, ap, arith, List, [], ◌∷◌, ◌++◌, length, get_or, take, drop, length-append, subst}
use Rattle.std.specs.Prelude.{slice_set, sum_by}
use Rattle.std.specs.List.{All}
use Rattle.std.proofs.lemmas.List.{take_more_set, take_more, take_all, map-append, get_or-map, get_or-drop, drop-set-lt, drop-drop, length-map, length-set}
use Rattle.std.proofs.lemmas.List.Elements.{All-push}
use Rattle.std.proofs.lemmas.List.Sums.{sum_by_more, sum_by_more_le}
use Rattle.fol_lists.specs.declared.spans.Span.{Span}
use Rattle.fol_lists.specs.Spans.{AreApart, IsSpan, piece_of, pieces_of}
use Rattle.fol_lists.proofs.Apart.{apart_push}
use Rattle.fol_lists.proofs.Pieces.{pieces-front, piece-behind, fit_longer}

-- the lists before the place i are written, and their spans are the new ones
pub record IsWritten {T : Type 0} (cells : List T) (old spans : List Span) (into : List T) (i : ℕ) : Type 0 where
  pub lists : pieces_of into (take i spans) ≡ take i (pieces_of cells old)
  pub left : drop i spans ≡ drop i old
  pub len : length spans ≡ length old
  pub fit : All (IsSpan (length into)) (take i spans)
  pub apart : AreApart (take i spans)
  pub used : length into ≡ sum_by length (take i (pieces_of cells old))

module _ {T : Type 0} (cells : List T) (old spans : List Span) (into : List T) (i : ℕ) (w : IsWritten cells old spans into i) (l : i < length spans) (d : Span) where
  -- the span that comes next is the old one
  pub next_is : get_or spans i d ≡ get_or old i d
  next_is = ap (λ k. get_or spans k d) (omega arith) ∙ sym (get_or-drop i spans 0 d) ∙ ap (λ xs. get_or xs 0 d) w.left ∙ get_or-drop i old 0 d ∙ ap (λ k. get_or old k d) (omega arith)

  pub next_piece : piece_of cells (get_or spans i d) ≡ get_or (pieces_of cells old) i []
  next_piece = ap (piece_of cells) next_is ∙ sym (get_or-map (piece_of cells) old i d [] (omega (arith, w.len)))

  pub next_fit : All (IsSpan (length cells)) old → IsSpan (length cells) (get_or spans i d)
  next_fit fit = let e = next_is in rw e (fit i d (omega (arith, w.len)))

  pub next_room : length into + length (piece_of cells (get_or spans i d)) ≤ sum_by length (pieces_of cells old)
  next_room = omega (arith, w.used, ap length next_piece, sum_by_more_le length (pieces_of cells old) i [] (omega (arith, w.len, length-map old (piece_of cells))))

  more : take (i + 1) (pieces_of cells old) ≡ take i (pieces_of cells old) ++ get_or (pieces_of cells old) i [] ∷ []
  more = take_more (pieces_of cells old) i [] (omega (arith, w.len, length-map old (piece_of cells)))

  written_more : (xs : List T) (s : Span) → xs ≡ piece_of cells (get_or spans i d) → s.from ≡ length into → s.to ≡ length (into ++ xs) → s.end ≡ length (into ++ xs) → IsWritten cells old (slice_set spans i s) (into ++ xs) (i + 1)
  written_more xs s e from to end = record {
    lists =
        ap (pieces_of (into ++ xs)) (take_more_set spans i s l)
        ∙ map-append (piece_of (into ++ xs)) (take i spans) (s ∷ [])
        ∙ ap (λ ps. ps ++ piece_of (into ++ xs) s ∷ []) (pieces-front into xs (take i spans) w.fit ∙ w.lists)
        ∙ ap (λ p. take i (pieces_of cells old) ++ p ∷ []) (piece-behind into xs s.from s.to from to ∙ e ∙ next_piece)
        ∙ sym more;
    left =
        drop-set-lt (i + 1) spans i s (omega arith)
        ∙ sym (drop-drop 1 i spans)
        ∙ ap (drop 1) w.left
        ∙ drop-drop 1 i old;
    len = length_set ∙ w.len;
    fit = let e2 = take_more_set spans i s l in
        rw e2 (All-push (IsSpan (length (into ++ xs))) (take i spans) s (fit_longer (length into) (length (into ++ xs)) (take i spans) (omega (arith, length-append into xs)) w.fit)
        (record { rising = omega (arith, length-append into xs); free = omega (arith, to, end); within = omega (arith, end) }));
    apart = let e2 = take_more_set spans i s l in
        rw e2 (apart_push (take i spans) s (length into) w.fit from w.apart);
    used = length-append into xs ∙ omega (arith, w.used, ap length (e ∙ next_piece), sum_by_more length (pieces_of cells old) i [] (omega (arith, w.len, length-map old (piece_of cells))));
  }
    where
      length_set : length (slice_set spans i s) ≡ length spans
      length_set = length-set spans i s

  pub written_next : (after : List T) (s : Span) → after ≡ into ++ piece_of cells (get_or spans i d) → s.from ≡ length into → s.to ≡ length after → s.end ≡ length after → IsWritten cells old (slice_set spans i s) after (i + 1)
  written_next after s e from to end =
      let last : s.to ≡ length (into ++ piece_of cells (get_or spans i d)) = to ∙ ap length e in
      let places : s.end ≡ length (into ++ piece_of cells (get_or spans i d)) = end ∙ ap length e in
      rw e (written_more (piece_of cells (get_or spans i d)) s refl from last places)

-- ---- all lists are written
module _ {T : Type 0} (cells : List T) (old spans : List Span) (into : List T) (i : ℕ) (w : IsWritten cells old spans into i) (all : i ≡ length old) where
  whole : take i spans ≡ spans
  whole = take_all i spans (omega (arith, w.len, all))

  old_whole : take i (pieces_of cells old) ≡ pieces_of cells old
  old_whole = take_all i (pieces_of cells old) (omega (arith, all, length-map old (piece_of cells)))

  pub written_all : pieces_of into spans ≡ pieces_of cells old
  written_all = ap (pieces_of into) (sym whole) ∙ w.lists ∙ old_whole

  pub written_fit : All (IsSpan (length into)) spans
  written_fit = subst (All (IsSpan (length into))) whole w.fit

  pub written_apart : AreApart spans
  written_apart = subst AreApart whole w.apart

  pub written_used : length into ≡ sum_by length (pieces_of cells old)
  written_used = w.used ∙ ap (sum_by length) old_whole
