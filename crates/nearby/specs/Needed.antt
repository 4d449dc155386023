-- Each of 7 to 10 is needed in `crowded-pressed`: for each a chart that it alone meets, where a face is crowded and no edge is pressed; so the theorem without
-- this premise is false. And two charts that the theorem is about: far from the edge that shows it, and on the circle. Each row is computed. Assumes nothing.
use Rattle.std.specs.Prelude.{◌≡◌, refl, List, [], ◌∷◌, Bool, true, false, ◌+◌, ◌*◌, ◌/◌, ◌%◌, ℤ, pos}
use Rattle.std.proofs.Common.{sym, ◌∙◌}
use Rattle.std.proofs.lemmas.Bool.{false≢true}
use Rattle.whole.specs.First.{from, some}
use Rattle.geometry.specs.Plane.{off_grid, cross_of, norm2_of, side, lifted, circle}
use Rattle.chart.specs.Tables.{rows, unsigned_all}
use Rattle.chart.specs.Chart.{Chart, chart_of, InRange}
use Rattle.ranges.specs.Ranges.{not_below, bad_vertex, bad_half_edge, bad_face, out_of_range}
use Rattle.ranges.specs.Passed.{in-range}
use Rattle.links.specs.Links.{linked, unlinked, stray_out, stray_adjacent, leaves_again, links_broken}
use Rattle.delaunay.specs.Delaunay.{shares_place, not_left, overhung, crowded}
use Rattle.across.specs.Across.{pressed}

-- the tables of a chart as they stand in its file
pub record Tables : Type 0 where
  pub vs : List ℤ
  pub es : List ℤ
  pub fs : List ℤ

abbrev pub chart : Tables → Chart
chart t = chart_of t.vs (unsigned_all t.es) (unsigned_all t.fs)

-- 7, "at most one outer half-edge leaves a vertex": two sheets with the same three corners, one of them with a vertex within
unfoldable pub sheets : Tables
sheets =
    record {
      vs = pos 0 ∷ pos 0 ∷ pos 0 ∷ pos 0 ∷ pos 12 ∷ pos 0 ∷ pos 0 ∷ pos 1 ∷ pos 0 ∷ pos 12 ∷ pos 0 ∷ pos 3 ∷ pos 3 ∷ pos 3 ∷ pos 0 ∷ pos 9 ∷ [];
      es = pos 0 ∷ pos 2 ∷ pos 4 ∷ pos 1 ∷ pos 1 ∷ pos 5 ∷ pos 3 ∷ pos 0 ∷ pos 1 ∷ pos 4 ∷ pos 0 ∷ pos 1 ∷ pos 2 ∷ pos 1 ∷ pos 5 ∷ pos 0 ∷ pos 2 ∷ pos 0 ∷ pos 2 ∷ pos 1 ∷ pos 0 ∷ pos 3 ∷ pos 1 ∷ pos 0 ∷ pos 0 ∷ pos 8 ∷ pos 10 ∷ pos 2 ∷ pos 1 ∷ pos 17 ∷ pos 13 ∷ pos 0 ∷ pos 1 ∷ pos 10 ∷ pos 6 ∷ pos 2 ∷ pos 3 ∷ pos 12 ∷ pos 14 ∷ pos 3 ∷ pos 3 ∷ pos 6 ∷ pos 8 ∷ pos 2 ∷ pos 0 ∷ pos 15 ∷ pos 16 ∷ pos 4 ∷ pos 1 ∷ pos 14 ∷ pos 9 ∷ pos 3 ∷ pos 2 ∷ pos 7 ∷ pos 17 ∷ pos 0 ∷ pos 2 ∷ pos 9 ∷ pos 12 ∷ pos 3 ∷ pos 3 ∷ pos 16 ∷ pos 11 ∷ pos 4 ∷ pos 2 ∷ pos 11 ∷ pos 15 ∷ pos 4 ∷ pos 0 ∷ pos 13 ∷ pos 7 ∷ pos 0 ∷ [];
      fs = pos 1 ∷ pos 0 ∷ pos 6 ∷ pos 12 ∷ pos 16 ∷ [];
    }

-- 8: the same two sheets, each with corners of its own, at the same places
unfoldable pub copies : Tables
copies =
    record {
      vs = pos 0 ∷ pos 0 ∷ pos 0 ∷ pos 0 ∷ pos 12 ∷ pos 0 ∷ pos 0 ∷ pos 1 ∷ pos 0 ∷ pos 12 ∷ pos 0 ∷ pos 3 ∷ pos 0 ∷ pos 0 ∷ pos 0 ∷ pos 6 ∷ pos 12 ∷ pos 0 ∷ pos 0 ∷ pos 7 ∷ pos 0 ∷ pos 12 ∷ pos 0 ∷ pos 13 ∷ pos 3 ∷ pos 3 ∷ pos 0 ∷ pos 9 ∷ [];
      es = pos 0 ∷ pos 2 ∷ pos 4 ∷ pos 1 ∷ pos 1 ∷ pos 5 ∷ pos 3 ∷ pos 0 ∷ pos 1 ∷ pos 4 ∷ pos 0 ∷ pos 1 ∷ pos 2 ∷ pos 1 ∷ pos 5 ∷ pos 0 ∷ pos 2 ∷ pos 0 ∷ pos 2 ∷ pos 1 ∷ pos 0 ∷ pos 3 ∷ pos 1 ∷ pos 0 ∷ pos 3 ∷ pos 8 ∷ pos 10 ∷ pos 2 ∷ pos 4 ∷ pos 17 ∷ pos 13 ∷ pos 0 ∷ pos 4 ∷ pos 10 ∷ pos 6 ∷ pos 2 ∷ pos 6 ∷ pos 12 ∷ pos 14 ∷ pos 3 ∷ pos 6 ∷ pos 6 ∷ pos 8 ∷ pos 2 ∷ pos 3 ∷ pos 15 ∷ pos 16 ∷ pos 4 ∷ pos 4 ∷ pos 14 ∷ pos 9 ∷ pos 3 ∷ pos 5 ∷ pos 7 ∷ pos 17 ∷ pos 0 ∷ pos 5 ∷ pos 9 ∷ pos 12 ∷ pos 3 ∷ pos 6 ∷ pos 16 ∷ pos 11 ∷ pos 4 ∷ pos 5 ∷ pos 11 ∷ pos 15 ∷ pos 4 ∷ pos 3 ∷ pos 13 ∷ pos 7 ∷ pos 0 ∷ [];
      fs = pos 1 ∷ pos 0 ∷ pos 6 ∷ pos 12 ∷ pos 16 ∷ [];
    }

-- 9: a fan that is folded over, so that two of its faces turn right
unfoldable folded : Tables
folded =
    record {
      vs = pos 1 ∷ pos 0 ∷ pos 0 ∷ pos 12 ∷ pos 3 ∷ pos 2 ∷ pos 0 ∷ pos 7 ∷ pos 1 ∷ pos 1 ∷ pos 0 ∷ pos 13 ∷ pos 5 ∷ pos 4 ∷ pos 0 ∷ pos 8 ∷ pos 6 ∷ pos 5 ∷ pos 0 ∷ pos 9 ∷ [];
      es = pos 4 ∷ pos 5 ∷ pos 7 ∷ pos 2 ∷ pos 0 ∷ pos 9 ∷ pos 11 ∷ pos 3 ∷ pos 4 ∷ pos 15 ∷ pos 8 ∷ pos 1 ∷ pos 2 ∷ pos 6 ∷ pos 12 ∷ pos 0 ∷ pos 1 ∷ pos 12 ∷ pos 6 ∷ pos 0 ∷ pos 0 ∷ pos 7 ∷ pos 0 ∷ pos 2 ∷ pos 4 ∷ pos 4 ∷ pos 3 ∷ pos 0 ∷ pos 1 ∷ pos 0 ∷ pos 5 ∷ pos 2 ∷ pos 3 ∷ pos 2 ∷ pos 15 ∷ pos 1 ∷ pos 4 ∷ pos 11 ∷ pos 1 ∷ pos 3 ∷ pos 0 ∷ pos 14 ∷ pos 13 ∷ pos 4 ∷ pos 3 ∷ pos 1 ∷ pos 9 ∷ pos 3 ∷ pos 0 ∷ pos 3 ∷ pos 4 ∷ pos 0 ∷ pos 2 ∷ pos 10 ∷ pos 14 ∷ pos 4 ∷ pos 3 ∷ pos 13 ∷ pos 10 ∷ pos 4 ∷ pos 2 ∷ pos 8 ∷ pos 2 ∷ pos 1 ∷ [];
      fs = pos 3 ∷ pos 8 ∷ pos 5 ∷ pos 1 ∷ pos 10 ∷ [];
    }

-- 10: three faces about a vertex that leave a gap: what lies across the gap lies across no edge
unfoldable hollow : Tables
hollow =
    record {
      vs = pos 1 ∷ pos 1 ∷ pos 0 ∷ pos 0 ∷ pos 2 ∷ pos 0 ∷ pos 0 ∷ pos 1 ∷ pos 0 ∷ pos 3 ∷ pos 0 ∷ pos 3 ∷ pos 1 ∷ pos 0 ∷ pos 0 ∷ pos 7 ∷ pos 2 ∷ pos 1 ∷ pos 0 ∷ pos 11 ∷ [];
      es = pos 0 ∷ pos 2 ∷ pos 4 ∷ pos 1 ∷ pos 1 ∷ pos 13 ∷ pos 3 ∷ pos 0 ∷ pos 1 ∷ pos 4 ∷ pos 0 ∷ pos 1 ∷ pos 2 ∷ pos 1 ∷ pos 7 ∷ pos 0 ∷ pos 2 ∷ pos 0 ∷ pos 2 ∷ pos 1 ∷ pos 0 ∷ pos 6 ∷ pos 8 ∷ pos 2 ∷ pos 2 ∷ pos 8 ∷ pos 5 ∷ pos 2 ∷ pos 3 ∷ pos 3 ∷ pos 11 ∷ pos 0 ∷ pos 3 ∷ pos 5 ∷ pos 6 ∷ pos 2 ∷ pos 0 ∷ pos 10 ∷ pos 12 ∷ pos 3 ∷ pos 3 ∷ pos 12 ∷ pos 9 ∷ pos 3 ∷ pos 4 ∷ pos 7 ∷ pos 13 ∷ pos 0 ∷ pos 4 ∷ pos 9 ∷ pos 10 ∷ pos 3 ∷ pos 0 ∷ pos 11 ∷ pos 1 ∷ pos 0 ∷ [];
      fs = pos 1 ∷ pos 0 ∷ pos 5 ∷ pos 9 ∷ [];
    }

-- a chart that 11 alone meets: the last edge is pressed and no other, and face 1, which it is no edge of, is crowded too
unfoldable far : Tables
far =
    record {
      vs = pos 7 ∷ pos 1 ∷ pos 0 ∷ pos 3 ∷ pos 3 ∷ pos 3 ∷ pos 0 ∷ pos 0 ∷ pos 1 ∷ pos 3 ∷ pos 0 ∷ pos 1 ∷ pos 0 ∷ pos 0 ∷ pos 0 ∷ pos 11 ∷ pos 0 ∷ pos 3 ∷ pos 0 ∷ pos 12 ∷ [];
      es = pos 1 ∷ pos 2 ∷ pos 4 ∷ pos 1 ∷ pos 2 ∷ pos 5 ∷ pos 9 ∷ pos 0 ∷ pos 2 ∷ pos 4 ∷ pos 0 ∷ pos 1 ∷ pos 0 ∷ pos 8 ∷ pos 12 ∷ pos 2 ∷ pos 0 ∷ pos 0 ∷ pos 2 ∷ pos 1 ∷ pos 1 ∷ pos 7 ∷ pos 1 ∷ pos 0 ∷ pos 3 ∷ pos 13 ∷ pos 10 ∷ pos 3 ∷ pos 0 ∷ pos 11 ∷ pos 5 ∷ pos 0 ∷ pos 2 ∷ pos 12 ∷ pos 3 ∷ pos 2 ∷ pos 4 ∷ pos 1 ∷ pos 11 ∷ pos 0 ∷ pos 4 ∷ pos 6 ∷ pos 13 ∷ pos 3 ∷ pos 3 ∷ pos 9 ∷ pos 7 ∷ pos 0 ∷ pos 4 ∷ pos 3 ∷ pos 8 ∷ pos 2 ∷ pos 0 ∷ pos 10 ∷ pos 6 ∷ pos 3 ∷ [];
      fs = pos 1 ∷ pos 0 ∷ pos 12 ∷ pos 13 ∷ [];
    }

-- four vertices on one circle, so that none is strictly inside
unfoldable square : Tables
square =
    record {
      vs = pos 0 ∷ pos 0 ∷ pos 0 ∷ pos 0 ∷ pos 6 ∷ pos 0 ∷ pos 0 ∷ pos 1 ∷ pos 6 ∷ pos 6 ∷ pos 0 ∷ pos 3 ∷ pos 0 ∷ pos 6 ∷ pos 0 ∷ pos 7 ∷ [];
      es = pos 0 ∷ pos 2 ∷ pos 4 ∷ pos 1 ∷ pos 1 ∷ pos 9 ∷ pos 3 ∷ pos 0 ∷ pos 1 ∷ pos 4 ∷ pos 0 ∷ pos 1 ∷ pos 2 ∷ pos 1 ∷ pos 7 ∷ pos 0 ∷ pos 2 ∷ pos 0 ∷ pos 2 ∷ pos 1 ∷ pos 0 ∷ pos 6 ∷ pos 8 ∷ pos 2 ∷ pos 2 ∷ pos 8 ∷ pos 5 ∷ pos 2 ∷ pos 3 ∷ pos 3 ∷ pos 9 ∷ pos 0 ∷ pos 3 ∷ pos 5 ∷ pos 6 ∷ pos 2 ∷ pos 0 ∷ pos 7 ∷ pos 1 ∷ pos 0 ∷ [];
      fs = pos 1 ∷ pos 0 ∷ pos 5 ∷ [];
    }

-- what 6 to 10 say of a chart, and whether an edge of it is pressed and a face crowded
pub record Row (t : Tables) (seven eight nine ten edge face : Bool) : Type 0 where
  pub range : out_of_range t.vs t.es t.fs ≡ false
  pub even : rows t.es % 2 ≡ 0
  pub links : links_broken (chart t) ≡ seven
  pub places : some (shares_place (chart t)) (chart t).vertices ≡ eight
  pub turns : some (not_left (chart t)) (chart t).faces ≡ nine
  pub rim : some (overhung (chart t)) (chart t).half_edges ≡ ten
  pub edges : some (pressed (chart t)) ((chart t).half_edges / 2) ≡ edge
  pub circles : some (crowded (chart t)) (chart t).faces ≡ face

pub sheets-row : Row sheets true false false false false true
unfolding sheets from off_grid cross_of norm2_of side lifted circle not_below bad_vertex bad_half_edge bad_face out_of_range linked links_broken
sheets-row = record { range = refl; even = refl; links = refl; places = refl; turns = refl; rim = refl; edges = refl; circles = refl }

pub copies-row : Row copies false true false false false true
unfolding copies from off_grid cross_of norm2_of side lifted circle not_below bad_vertex bad_half_edge bad_face out_of_range linked links_broken
copies-row = record { range = refl; even = refl; links = refl; places = refl; turns = refl; rim = refl; edges = refl; circles = refl }

folded-row : Row folded false false true false false true
unfolding folded from off_grid cross_of norm2_of side lifted circle not_below bad_vertex bad_half_edge bad_face out_of_range linked links_broken
folded-row = record { range = refl; even = refl; links = refl; places = refl; turns = refl; rim = refl; edges = refl; circles = refl }

hollow-is : Row hollow false false false true false true
unfolding hollow from off_grid cross_of norm2_of side lifted circle not_below bad_vertex bad_half_edge bad_face out_of_range linked links_broken
hollow-is = record { range = refl; even = refl; links = refl; places = refl; turns = refl; rim = refl; edges = refl; circles = refl }

hollow_row : Row hollow false false false true false true
hollow_row = hollow-is

far-row : Row far false false false false true true
unfolding far from off_grid cross_of norm2_of side lifted circle not_below bad_vertex bad_half_edge bad_face out_of_range linked links_broken
far-row = record { range = refl; even = refl; links = refl; places = refl; turns = refl; rim = refl; edges = refl; circles = refl }

square-row : Row square false false false false false false
unfolding square from off_grid cross_of norm2_of side lifted circle not_below bad_vertex bad_half_edge bad_face out_of_range linked links_broken
square-row = record { range = refl; even = refl; links = refl; places = refl; turns = refl; rim = refl; edges = refl; circles = refl }

-- of 7 the last clause alone meets the two sheets
pub record Lone : Type 0 where
  pub linked-each : some (unlinked (chart sheets)) (chart sheets).half_edges ≡ false
  pub out-each : some (stray_out (chart sheets)) (chart sheets).vertices ≡ false
  pub adjacent-each : some (stray_adjacent (chart sheets)) (chart sheets).faces ≡ false
  pub leaves-again : some (leaves_again (chart sheets)) (chart sheets).half_edges ≡ true

pub lone_row : Lone
unfolding sheets from linked
lone_row = record { linked-each = refl; out-each = refl; adjacent-each = refl; leaves-again = refl }

-- of the far one: its last edge alone, and face 1, is met
record Far : Type 0 where
  last-alone : some (pressed (chart far)) 6 ≡ false
  last : pressed (chart far) 6 ≡ true
  first-face : crowded (chart far) 1 ≡ true
  other-face : ((chart far).face (6 * 2) ≡ 2) × ((chart far).face (6 * 2 + 1) ≡ 3)

far-rows : Far
unfolding far from cross_of norm2_of side lifted circle
far-rows = record { last-alone = refl; last = refl; first-face = refl; other-face = (refl, refl) }

-- 11 is seen across one edge
abbrev Seen : Chart → Type 0
Seen c = some (pressed c) (c.half_edges / 2) ≡ some (crowded c) c.faces

abbrev pub Seven : Chart → Type 0
Seven c = links_broken c ≡ false

abbrev pub Eight : Chart → Type 0
Eight c = some (shares_place c) c.vertices ≡ false

abbrev pub Nine : Chart → Type 0
Nine c = some (not_left c) c.faces ≡ false

abbrev pub Ten : Chart → Type 0
Ten c = some (overhung c) c.half_edges ≡ false

-- a chart with a crowded face and no pressed edge is not seen
unseen : {t : Tables} {a b d e : Bool} → Row t a b d e false true → Seen (chart t) → ⊥
unseen r s = false≢true (sym r.edges ∙ s ∙ r.circles)

pub ranged : {t : Tables} {a b d e f g : Bool} → Row t a b d e f g → InRange (chart t)
ranged {t} r = in-range t.vs t.es t.fs r.range r.even

pub record Needed : Type 0 where
  pub seven : ((c : Chart) → InRange c → Eight c → Nine c → Ten c → Seen c) → ⊥
  pub eight : ((c : Chart) → InRange c → Seven c → Nine c → Ten c → Seen c) → ⊥
  pub nine : ((c : Chart) → InRange c → Seven c → Eight c → Ten c → Seen c) → ⊥
  pub ten : ((c : Chart) → InRange c → Seven c → Eight c → Nine c → Seen c) → ⊥

pub needed : Needed
needed =
    record {
      seven = λ f. unseen sheets-row (f (chart sheets) (ranged sheets-row) sheets-row.places sheets-row.turns sheets-row.rim);
      eight = λ f. unseen copies-row (f (chart copies) (ranged copies-row) copies-row.links copies-row.turns copies-row.rim);
      nine = λ f. unseen folded-row (f (chart folded) (ranged folded-row) folded-row.links folded-row.places folded-row.rim);
      ten = λ f. unseen hollow-is (f (chart hollow) (ranged hollow-is) hollow-is.links hollow-is.places hollow-is.turns);
    }
