-- Elements that move within a list.
use Rattle.std.proofs.Common.{◌≡◌, ℕ, ◌+◌, ◌-◌, ◌≤◌, ◌<◌, sym, ◌∙◌, ap, arith, List, [], ◌++◌, length, get_or, take, drop, append_assoc, length-append, length-drop, length-take-le}
use Rattle.std.specs.Prelude.{slice_set}
use Rattle.std.specs.List.{All, copy_within, slice_range}
use Rattle.std.proofs.lemmas.List.{drop-drop, drop_at, set-get_or, take-append-le, take-take}
use Rattle.fol_lists.specs.declared.spans.Span.{Span}
use Rattle.fol_lists.specs.Numbered.{shifted}
use Rattle.fol_lists.specs.Spans.{AreApart, IsSpan, piece_of, pieces_of}
use Rattle.fol_lists.proofs.Over.{over, over_at, pieces_over}
use Rattle.fol_lists.proofs.Pieces.{length_piece, piece_at}

-- after a copy further up and others written before it
pub shifted_is : {T : Type 0} (xs ys : List T) (start end by : ℕ) → start ≤ end → start + by + length ys ≤ length xs
    → take (start + by) (copy_within xs start end (start + by + length ys)) ++ (ys ++ drop (start + by + length ys - (start + by)) (drop (start + by) (copy_within xs start end (start + by + length ys)))) ≡ shifted xs start end by ys
shifted_is xs ys start end by u l =
    let to = start + by + length ys in
    let middle = slice_range xs start end in
    let rest = drop (to + (end - start)) xs in
    let long : length (take to xs) ≡ to = length-take-le to xs l in
    let whole : copy_within xs start end to ≡ take to xs ++ (middle ++ rest) = append_assoc (take to xs) middle rest in
    let front : take (start + by) (copy_within xs start end to) ≡ take (start + by) xs =
    ap (take (start + by)) whole ∙ take-append-le (start + by) (take to xs) (middle ++ rest) (omega (arith, long)) ∙ take-take (start + by) to xs (omega arith) in
    let joined : start + by + (to - (start + by)) ≡ to = omega arith in
    let back : drop (to - (start + by)) (drop (start + by) (copy_within xs start end to)) ≡ middle ++ rest =
    drop-drop (to - (start + by)) (start + by) (copy_within xs start end to) ∙ ap (λ k. drop k (copy_within xs start end to)) joined ∙ ap (drop to) whole ∙ drop_at (take to xs) (middle ++ rest) to long in
    let behind : to + (end - start) ≡ end + by + length ys = omega (arith, u) in
    (λ i. front i ++ (ys ++ back i)) ∙ ap (λ k. take (start + by) xs ++ (ys ++ (middle ++ drop k xs))) behind

pub length_shifted : {T : Type 0} (xs ys : List T) (start end by : ℕ) → start ≤ end → end + by + length ys ≤ length xs → length (shifted xs start end by ys) ≡ length xs
length_shifted xs ys start end by l h =
    omega (
      arith,
      l,
      h,
      length-append (take (start + by) xs) (ys ++ (slice_range xs start end ++ drop (end + by + length ys) xs)),
      length-append ys (slice_range xs start end ++ drop (end + by + length ys) xs),
      length-append (slice_range xs start end) (drop (end + by + length ys) xs),
      length-take-le (start + by) xs (omega (arith, l, h)),
      length-take-le (end - start) (drop start xs) (omega (arith, l, h, length-drop start xs)),
      length-drop (end + by + length ys) xs,
    )

-- within a list
pub pieces_shifted : {T : Type 0} (cells : List T) (spans : List Span) (n : ℕ) → n < length spans → (d : Span) → All (IsSpan (length cells)) spans → AreApart spans
    → (start end by : ℕ) (xs : List T) → start ≤ end → end + by + length xs ≤ length (get_or (pieces_of cells spans) n [])
    → pieces_of (over cells (get_or spans n d).from (get_or spans n d).to (shifted (piece_of cells (get_or spans n d)) start end by xs)) spans
    ≡ slice_set (pieces_of cells spans) n (shifted (get_or (pieces_of cells spans) n []) start end by xs)
pieces_shifted cells spans n l d fit apart start end by xs u v =
    let span = get_or spans n d in
    let ys = shifted (piece_of cells span) start end by xs in
    let is = fit n d l in
    let long : length ys ≡ span.to - span.from =
    length_shifted (piece_of cells span) xs start end by u (omega (arith, v, ap length (piece_at cells spans n l d))) ∙ length_piece cells span is in
    let within : span.to ≤ length cells = omega (arith, is.free, is.within) in
    ap (pieces_of (over cells span.from span.to ys)) (sym (set-get_or spans n d))
    ∙ pieces_over cells span.from span.to ys is.rising within long spans n l d fit apart (omega arith) is.free span ys (over_at cells span.from span.to ys is.rising within long)
    ∙ ap (λ zs. slice_set (pieces_of cells spans) n (shifted zs start end by xs)) (sym (piece_at cells spans n l d))
