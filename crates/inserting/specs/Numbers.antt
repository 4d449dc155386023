-- The tables of an accepted chart as the numbers of a file: none of 2, 4 and 6 to 11 meets them. Assumes nothing.
use Rattle.std.specs.Prelude.{◌≡◌, refl, false, ℕ, zero, suc, ◌+◌, ◌*◌, ◌/◌, ◌%◌, ◌≤◌, ◌<◌, ℤ, negsuc, take}
use Rattle.std.proofs.Math.Path.{sym, subst, ap}
use Rattle.std.proofs.Common.{length-take-le, ◌∙◌, add-zero, lt_of_lt_of_le, arith, take_at, lt-ltb, le-ltb}
use mathlib.Core.List.{List, [], ◌∷◌, ◌++◌, map}
use Rattle.std.proofs.Math.IntN.{pos}
use Rattle.std.proofs.Math.ListN.{length, get_or, length-map, get_or-map}
use Rattle.whole.specs.Bound.{Within, outside}
use Rattle.whole.specs.First.{some-none}
use Rattle.geometry.specs.declared.Place.{Place}
use Rattle.geometry.specs.Plane.{off_grid, OnGrid}
use Rattle.chart.specs.Limits.{most_half_edges, most_faces}
use Rattle.chart.specs.Tables.{unsigned, unsigned_all, rows, place_of}
use Rattle.chart.specs.Chart.{chart_of, InRange}
use Rattle.ranges.specs.Ranges.{not_below, cell, bad_vertex, bad_half_edge, bad_face, out_of_range}
use Rattle.ranges.specs.Passed.{counts-pass}
use Rattle.checks.specs.Checks.{chart_refusal, tables_refusal}
use Rattle.accepted.specs.Accepted.{Accepted}
use Rattle.accepted.proofs.Exactly.{none-refuses}
use Rattle.rewire.specs.Tables.{Natural, out_cell}
use Rattle.writing.specs.Writing.{numbers_refusal}
use Rattle.writing.specs.Laws.{even-rows, edge-rows}
use Rattle.writing.proofs.Laws.{later-refusal, uneven-none, counts-in}

-- each number of a table is below the most half-edges of a chart, so that it has a sign's room
pub record Small (t : List ℕ) : Type 0 where
  pub at : (i : ℕ) → i < length t → get_or t i 0 < most_half_edges

-- ---- unsigned, signed and back
pub unsigned_back : (l : List ℕ) → unsigned_all (map pos l) ≡ l
unsigned_back [] = refl
unsigned_back (x ∷ xs) = ap (λ (t : List ℕ). x ∷ t) (unsigned_back xs)

-- ---- tables that pass have room in the arrays of the largest chart
module _ (vs : List ℤ) (es fs : List ℕ) (p : numbers_refusal vs (map pos es) (map pos fs) ≡ 0) where
  pub edges_room : length es ≤ 4 * most_half_edges
  edges_room =
      let c = (counts-in vs (map pos es) (map pos fs) p).e-most in
      let r = edge-rows vs (map pos es) (uneven-none vs (map pos es) (map pos fs) p) in
      let l = length-map es pos in
      omega (arith, c, r, l)

  pub faces_room : length fs ≤ most_faces
  faces_room = let c = (counts-in vs (map pos es) (map pos fs) p).f-most in let l = length-map fs pos in omega (arith, c, l)

-- what stands in front of an array once it is handed over
pub handed : (t : List ℕ) (m rest : List ℤ) → m ≡ map pos t → take (length t) (m ++ rest) ≡ map pos t
handed t m rest e = take_at m rest (length t) (ap length e ∙ length-map t pos) ∙ e

-- ---- what passes 6
below-passes : (n k : ℕ) → k < n → not_below n (pos k) ≡ false
unfolding not_below
below-passes n k l = simp (le-ltb k 0 (omega arith), lt-ltb k n l)

within-passes : (n : ℕ) (z : ℤ) → Within (suc n) z → outside (negsuc n) (pos (suc n)) z ≡ false
within-passes n (pos a) h = let k = h.abs in le-ltb (suc n) a k
within-passes n (negsuc a) h = let k = h.abs in simp (le-ltb n a (omega arith))

grid-passes : (p : Place) → OnGrid p → off_grid p ≡ false
unfolding off_grid
grid-passes p g = simp (within-passes _ p.x g.x-in, within-passes _ p.y g.y-in)

module _ (us : List ℤ) (gs hs : List ℕ) (a : Accepted (chart_of us gs hs)) where
  r : InRange (chart_of us gs hs)
  r = a.sound.range

  G : List ℤ
  G = map pos gs

  H : List ℤ
  H = map pos hs

  rows-G : rows G ≡ rows gs
  unfolding G
  rows-G = ap (λ (k : ℕ). k / 4) (length-map gs pos)

  length-H : length H ≡ length hs
  unfolding H
  length-H = length-map hs pos

  -- ---- the numbers of half-edges and faces are small
  pub edges-small : length gs ≡ 4 * rows gs → Small gs
  edges-small w =
      record {
        at = λ i l.
            let e : i / 4 * 4 + i % 4 ≡ i = omega arith in
            subst (λ (k : ℕ). get_or gs k 0 < most_half_edges) e (column (i / 4) (omega arith) (i % 4) (omega arith));
      }
    where
      column : (k : ℕ) → k < rows gs → (j : ℕ) → j < 4 → get_or gs (k * 4 + j) 0 < most_half_edges
      column k l zero m = subst (λ (i : ℕ). get_or gs i 0 < most_half_edges) (sym (add-zero (k * 4))) (let b = r.origins k l in let d = a.counts.v-most in omega arith)
      column k l (suc zero) m = lt_of_lt_of_le (r.nexts k l) a.counts.e-most
      column k l (suc (suc zero)) m = lt_of_lt_of_le (r.prevs k l) a.counts.e-most
      column k l (suc (suc (suc zero))) m = let b = r.face-numbers k l in let d = a.counts.f-most in omega arith
      column k l (suc (suc (suc (suc j)))) m = absurd (omega arith)

  pub faces-small : Small hs
  faces-small = record { at = λ i l. lt_of_lt_of_le (r.adjacents i l) a.counts.e-most }

  -- ---- 6
  module _ (naturals : (v : ℕ) → v < rows us → Natural (out_cell us v)) where
    vertices-pass : (v : ℕ) → v < rows us → bad_vertex (rows G) us v ≡ false
    unfolding bad_vertex
    vertices-pass v l =
        simp (
          grid-passes (place_of us v) (r.places v l),
          a.values v l,
          subst (λ (x : ℤ). not_below (rows G) x ≡ false) (sym (naturals v l)) (below-passes (rows G) (unsigned (out_cell us v)) (subst (λ (k : ℕ). unsigned (out_cell us v) < k) (sym rows-G) (r.outs v l))),
        )

    edge-pass : (n h i : ℕ) → get_or gs (h * 4 + i) 0 < n → not_below n (cell G h i) ≡ false
    unfolding G
    edge-pass n h i l = subst (λ (x : ℤ). not_below n x ≡ false) (sym (get_or-map pos gs (h * 4 + i) 0)) (below-passes n (get_or gs (h * 4 + i) 0) l)

    edges-pass : (h : ℕ) → h < rows G → bad_half_edge (rows us) (length H) G h ≡ false
    unfolding bad_half_edge
    edges-pass h m =
        let l : h < rows gs = subst (λ (k : ℕ). h < k) rows-G m in
        simp (
          edge-pass (rows us) h 0 (subst (λ (k : ℕ). get_or gs k 0 < rows us) (sym (add-zero (h * 4))) (r.origins h l)),
          edge-pass (rows G) h 1 (subst (λ (k : ℕ). get_or gs (h * 4 + 1) 0 < k) (sym rows-G) (r.nexts h l)),
          edge-pass (rows G) h 2 (subst (λ (k : ℕ). get_or gs (h * 4 + 2) 0 < k) (sym rows-G) (r.prevs h l)),
          edge-pass (length H) h 3 (subst (λ (k : ℕ). get_or gs (h * 4 + 3) 0 < k) (sym length-H) (r.face-numbers h l)),
        )

    faces-pass : (f : ℕ) → f < length H → bad_face (rows G) H f ≡ false
    unfolding bad_face H
    faces-pass f m =
        let l : f < length hs = subst (λ (k : ℕ). f < k) (length-map hs pos) m in
        subst (λ (x : ℤ). not_below (rows G) x ≡ false) (sym (get_or-map pos hs f 0)) (below-passes (rows G) (get_or hs f 0) (subst (λ (k : ℕ). get_or hs f 0 < k) (sym rows-G) (r.adjacents f l)))

    in-range : out_of_range us G H ≡ false
    unfolding out_of_range
    in-range =
        simp (
          some-none (bad_vertex (rows G) us) (rows us) vertices-pass,
          some-none (bad_half_edge (rows us) (length H) G) (rows G) edges-pass,
          some-none (bad_face (rows G) H) (length H) faces-pass,
        )

    -- ---- 6 to 11
    tables-pass : tables_refusal us (map pos gs) (map pos hs) ≡ 0
    unfolding tables_refusal G H
    tables-pass =
        simp (in-range)
        (ap (λ (e : List ℕ). chart_refusal (chart_of us e (unsigned_all (map pos hs)))) (unsigned_back gs)
        ∙ ap (λ (f : List ℕ). chart_refusal (chart_of us gs f)) (unsigned_back hs)
        ∙ none-refuses (chart_of us gs hs) a)

    -- ---- 2, 4, and these
    pub numbers-pass : length us ≡ 4 * rows us → length gs ≡ 4 * rows gs → numbers_refusal us (map pos gs) (map pos hs) ≡ 0
    unfolding G H
    numbers-pass u g =
        let w : length G ≡ 4 * rows G = length-map gs pos ∙ g ∙ ap (λ (k : ℕ). 4 * k) (sym rows-G) in
        sym (later-refusal us G H (even-rows us G u w) (counts-pass (rows us) (rows G) (length H) (rw (rows-G, length-H) a.counts))) ∙ tables-pass

pub ruleset rooms = (edges_room, faces_room, length-take-le)
