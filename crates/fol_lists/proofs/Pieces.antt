-- Lists as spans of one vector, when the vector grows or a span changes.
use Rattle.std.proofs.Common.{◌≡◌, ℕ, zero, suc, ◌+◌, ◌-◌, ◌≤◌, ◌<◌, refl, sym, ◌∙◌, ap, arith, List, [], ◌∷◌, ◌++◌, length, get_or, take, drop, length-append, length-drop}
use Rattle.std.specs.Prelude.{slice_set, sum_by, replicate}
use Rattle.std.specs.List.{All, slice_range}
use Rattle.std.proofs.lemmas.List.{length-take, take-append-drop, take-append-le, take-take, drop-drop, drop-take, drop-append-le, take_all, drop_at, map-set, get_or-map, length-map, length-take-le, get_or-set_same, set-set, map-append}
use Rattle.std.proofs.lemmas.List.Elements.{All-set, All-weaker, All-append, All-replicate}
use Rattle.std.proofs.lemmas.List.Sums.{sum_by-set, sum_by-append, get_or-le-sum_by}
use Rattle.std.proofs.lemmas.List.Folds.{sum_by-replicate}
use Rattle.fol_lists.specs.declared.spans.Span.{Span}
use Rattle.fol_lists.proofs.Apart.{apart_added, apart_kept}
use Rattle.fol_lists.specs.Spans.{IsSpan, AreSpans, piece_of, pieces_of}

-- ---- more elements behind
pub piece-front : {T : Type 0} (xs ys : List T) (span : Span) → span.from ≤ span.to → span.to ≤ length xs → piece_of (xs ++ ys) span ≡ piece_of xs span
piece-front xs ys span l m =
    ap (take (span.to - span.from)) (drop-append-le span.from xs ys (omega (arith, l, m)))
    ∙ take-append-le (span.to - span.from) (drop span.from xs) ys (omega (arith, l, m, length-drop span.from xs))

pub pieces-front : {T : Type 0} (xs ys : List T) (spans : List Span) → All (IsSpan (length xs)) spans → pieces_of (xs ++ ys) spans ≡ pieces_of xs spans
pieces-front xs ys [] fit = refl
pieces-front xs ys (s ∷ spans) fit =
    let first = fit 0 s (omega arith) in
    let head = piece-front xs ys s first.rising (omega (arith, first.free, first.within)) in
    let rest = pieces-front xs ys spans (λ k d l. fit (suc k) d (omega arith)) in
    λ i. head i ∷ rest i

pub fit_longer : (n m : ℕ) (spans : List Span) → n ≤ m → All (IsSpan n) spans → All (IsSpan m) spans
fit_longer n m spans l fit = All-weaker (IsSpan n) (IsSpan m) (λ s h. record { rising = h.rising; free = h.free; within = omega (arith, h.within) }) spans fit

-- a span up to a place, and behind it one from there on
pub range_joined : {T : Type 0} (xs : List T) (a b c : ℕ) → a ≤ b → b ≤ c → slice_range xs a b ++ slice_range xs b c ≡ slice_range xs a c
range_joined xs a b c l m =
    let n = b - a in
    let whole : c - a ≡ n + (c - b) = omega (arith, l, m) in
    let at : a + n ≡ b = omega (arith, l) in
    let front : take n (take (c - a) (drop a xs)) ≡ slice_range xs a b = take-take n (c - a) (drop a xs) (omega (arith, l, m)) in
    let back : drop n (take (c - a) (drop a xs)) ≡ slice_range xs b c =
    ap (λ k. drop n (take k (drop a xs))) whole ∙ drop-take n (c - b) (drop a xs) ∙ ap (take (c - b)) (drop-drop n a xs ∙ ap (λ k. drop k xs) at) in
    (λ i. sym front i ++ sym back i) ∙ take-append-drop n (take (c - a) (drop a xs))

-- what was put behind
pub piece-behind : {T : Type 0} (xs ys : List T) (n m : ℕ) → n ≡ length xs → m ≡ length (xs ++ ys) → slice_range (xs ++ ys) n m ≡ ys
piece-behind xs ys n m e f =
    ap (take (m - n)) (drop_at xs ys n (sym e)) ∙ take_all (m - n) ys (omega (arith, length-append xs ys))

module _ {T : Type 0} (cells : List T) (spans : List Span) (n : ℕ) (l : n < length spans) (d : Span) where
  -- ---- one span is another one
  pub pieces-set : (s : Span) → pieces_of cells (slice_set spans n s) ≡ slice_set (pieces_of cells spans) n (piece_of cells s)
  pieces-set s = map-set (piece_of cells) spans n s

  pub piece_at : get_or (pieces_of cells spans) n [] ≡ piece_of cells (get_or spans n d)
  piece_at = get_or-map (piece_of cells) spans n d [] l

  -- the list written behind all others with other elements, and more behind it
  pub pieces_moved : (ys zs : List T) (s : Span) → All (IsSpan (length cells)) spans → s.from ≡ length cells → s.to ≡ length (cells ++ ys)
      → pieces_of ((cells ++ ys) ++ zs) (slice_set spans n s) ≡ slice_set (pieces_of cells spans) n ys
  pieces_moved ys zs s fit from to =
      map-set (piece_of ((cells ++ ys) ++ zs)) spans n s
      ∙ ap (λ p. slice_set (pieces_of ((cells ++ ys) ++ zs) spans) n p)
      (piece-front (cells ++ ys) zs s (omega (arith, from, to, length-append cells ys)) (omega (arith, to)) ∙ piece-behind cells ys s.from s.to from to)
      ∙ ap (λ ps. slice_set ps n ys) (pieces-front (cells ++ ys) zs spans (fit_longer (length cells) (length (cells ++ ys)) spans (omega (arith, length-append cells ys)) fit) ∙ pieces-front cells ys spans fit)

-- ---- how many elements the lists hold
pub length_piece : {T : Type 0} (cells : List T) (span : Span) → IsSpan (length cells) span → length (piece_of cells span) ≡ span.to - span.from
length_piece cells span fit = length-take-le (span.to - span.from) (drop span.from cells) (omega (arith, fit.rising, fit.free, fit.within, length-drop span.from cells))

-- how long a list is, by its span
pub length_at : {T : Type 0} (cells : List T) (spans : List Span) (n : ℕ) (d : Span) → n < length spans → All (IsSpan (length cells)) spans
    → length (get_or (pieces_of cells spans) n []) ≡ (get_or spans n d).to - (get_or spans n d).from
length_at cells spans n d l fit = ap length (piece_at cells spans n l d) ∙ length_piece cells (get_or spans n d) (fit n d l)

module _ {T : Type 0} (lists : List (List T)) (n : ℕ) (l : n < length lists) where
  pub total-set : (xs : List T) → sum_by length (slice_set lists n xs) + length (get_or lists n []) ≡ sum_by length lists + length xs
  total-set xs = sum_by-set length lists n xs [] l

  -- the list is another one, and then longer
  pub total_put : (front xs : List T) → sum_by length (slice_set lists n front) + length xs ≡ sum_by length (slice_set lists n (front ++ xs))
  total_put front xs = omega (arith, total-set (front ++ xs), total-set front, length-append front xs)

  pub put_is : (front xs : List T) → slice_set (slice_set lists n front) n (get_or (slice_set lists n front) n [] ++ xs) ≡ slice_set lists n (front ++ xs)
  put_is front xs = set-set lists n front (get_or (slice_set lists n front) n [] ++ xs) ∙ ap (λ ys. slice_set lists n (ys ++ xs)) (get_or-set_same lists n front [] l)

  pub total_cut : (len : ℕ) → sum_by length (slice_set lists n (take len (get_or lists n []))) ≤ sum_by length lists
  total_cut len = omega (arith, total-set (take len (get_or lists n [])), length-take len (get_or lists n []))

  pub length_listed : length (get_or lists n []) ≤ sum_by length lists
  length_listed = get_or-le-sum_by length lists n [] l

pub length_listed_at : {T : Type 0} (cells : List T) (spans : List Span) (n : ℕ) → n < length spans → length (get_or (pieces_of cells spans) n []) ≤ sum_by length (pieces_of cells spans)
length_listed_at cells spans n l = length_listed (pieces_of cells spans) n (omega (arith, length-map spans (piece_of cells)))

-- ---- a list is cut
take_front : {X : Type 0} (n m : ℕ) (xs : List X) → n ≤ m → take n (take m xs) ≡ take n xs
take_front zero m xs l = refl
take_front (suc n) zero xs l = absurd (omega arith)
take_front (suc n) (suc m) [] l = refl
take_front (suc n) (suc m) (x ∷ xs) l = ap (λ ys. x ∷ ys) (take_front n m xs (omega arith))

module _ {T : Type 0} (cells : List T) (spans : List Span) (n : ℕ) (l : n < length spans) (d : Span) (fit : All (IsSpan (length cells)) spans) (len : ℕ)
    (few : len ≤ length (get_or (pieces_of cells spans) n [])) (s : Span) (from : s.from ≡ (get_or spans n d).from) (to : s.to ≡ (get_or spans n d).from + len)
    (end : s.end ≡ (get_or spans n d).end) where
  few_places : s.to ≤ (get_or spans n d).to
  few_places = omega (arith, few, length_at cells spans n d l fit, (fit n d l).rising)

  front_piece : piece_of cells s ≡ take len (piece_of cells (get_or spans n d))
  front_piece =
      ap (λ k. take k (drop s.from cells)) (let e : s.to - s.from ≡ len = omega arith in e) ∙ ap (λ k. take len (drop k cells)) from
      ∙ sym (take_front len ((get_or spans n d).to - (get_or spans n d).from) (drop (get_or spans n d).from cells) (omega (arith, few, length_at cells spans n d l fit)))

  pub pieces_cut : pieces_of cells (slice_set spans n s) ≡ slice_set (pieces_of cells spans) n (take len (get_or (pieces_of cells spans) n []))
  pieces_cut = pieces-set cells spans n l d s ∙ ap (λ p. slice_set (pieces_of cells spans) n p) (front_piece ∙ ap (take len) (sym (piece_at cells spans n l d)))

  pub fit_cut : All (IsSpan (length cells)) (slice_set spans n s)
  fit_cut = All-set (IsSpan (length cells)) spans n s (record { rising = omega (arith, from, to); free = omega (arith, few_places, end, (fit n d l).free); within = omega (arith, end, (fit n d l).within) }) fit

  pub spans_cut : (room : ℕ) → AreSpans cells spans room → AreSpans cells (slice_set spans n s) room
  spans_cut room h = record { fit = fit_cut; apart = apart_kept spans n l s d from end h.apart; few = omega (arith, h.few, ap (sum_by length) pieces_cut, total_cut (pieces_of cells spans) n (omega (arith, length-map spans (piece_of cells))) len); used = h.used }

-- ---- empty lists
pub pieces_empty : {T : Type 0} (cells : List T) (n : ℕ) → pieces_of cells (replicate n (record { from = 0; to = 0; end = 0 })) ≡ replicate n []
pieces_empty cells zero = refl
pieces_empty cells (suc n) = ap (λ ps. [] ∷ ps) (pieces_empty cells n)

pub pieces_added : {T : Type 0} (cells : List T) (spans : List Span) (n : ℕ) → pieces_of cells (spans ++ replicate n (record { from = 0; to = 0; end = 0 })) ≡ pieces_of cells spans ++ replicate n []
pieces_added cells spans n = map-append (piece_of cells) spans (replicate n (record { from = 0; to = 0; end = 0 })) ∙ ap (λ ps. pieces_of cells spans ++ ps) (pieces_empty cells n)

pub total_empty : (T : Type 0) (n : ℕ) → sum_by (length {A = T}) (replicate n []) ≡ 0
total_empty T n = sum_by-replicate (length {A = T}) n [] ∙ omega arith

pub spans_added : {T : Type 0} (cells : List T) (spans : List Span) (room n : ℕ) → AreSpans cells spans room → AreSpans cells (spans ++ replicate n (record { from = 0; to = 0; end = 0 })) room
spans_added {T} cells spans room n h = record {
  fit = All-append (IsSpan (length cells)) spans (replicate n (record { from = 0; to = 0; end = 0 })) h.fit (All-replicate (IsSpan (length cells)) n (record { from = 0; to = 0; end = 0 }) (record { rising = omega arith; free = omega arith; within = omega arith }));
  apart = apart_added spans n h.apart;
  few = omega (arith, h.few, ap (sum_by length) (pieces_added cells spans n), sum_by-append length (pieces_of cells spans) (replicate n []), total_empty T n);
  used = h.used;
}
