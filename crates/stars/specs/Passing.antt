-- A wired chart in range whose faces turn left, whose rim is convex and in which no vertex across an edge is strictly inside the circle on the other side is
-- an accepted one. Assumes nothing.
use Rattle.std.specs.Prelude.{◌≡◌, refl, Bool, true, false, not, ◌&&◌, ℕ, ◌*◌, ◌/◌, ◌<◌, ℤ, pos}
use Rattle.std.proofs.Common.{sym, ◌∙◌, arith}
use Rattle.std.specs.Int.Signed.{lt_z}
use Rattle.std.proofs.lemmas.Bool.{eqb-false, not-true}
use Rattle.whole.specs.Bools.{is_false}
use Rattle.whole.specs.First.{some, some-none}
use Rattle.signs.specs.Signs.{Pos, Low}
use Rattle.signs.specs.Order.{test-pos, pos-low}
use Rattle.whole.specs.Bound.{outside}
use Rattle.ranges.specs.Ranges.{value_max}
use Rattle.ranges.specs.Passed.{Counted}
use Rattle.geometry.specs.Plane.{side, circle}
use Rattle.chart.specs.Chart.{Chart, InRange, partner, partner-in, outer}
use Rattle.across.specs.Across.{presses, pressed}
use Rattle.sound.specs.Sound.{Sound, Inner, Outer, start, end}
use Rattle.sound.proofs.Exactly.{none_before}
use Rattle.nearby.specs.Local.{crowded-pressed}
use Rattle.accepted.specs.Accepted.{Accepted, accepted}
use Rattle.patches.specs.Wired.{Wired, prev-face, next-differs, prev-differs, next-prev-differ}
use Rattle.stars.specs.Star.{Tri, tri-at, tri-partner}

pub record Fitting (c : Chart) : Type 0 where
  pub faces-two : 1 < c.faces
  pub wired : Wired c
  pub range : InRange c
  pub one_place : (v w : ℕ) → v < c.vertices → w < c.vertices → c.place v ≡ c.place w → v ≡ w
  pub turns : (h x y w : ℕ) → Tri c h x y w → Pos (side (c.place x) (c.place y) (c.place w))
  pub hull : (h z : ℕ) → Outer c h → z < c.vertices → Low (side (start c h) (end c h) (c.place z))
  pub calm : (h x y w u : ℕ) → Tri c h x y w → Tri c (partner h) y x u → Low (circle (c.place x) (c.place y) (c.place w) (c.place u))

module _ (c : Chart) (s : Fitting c) where
  abbrev w : Wired c
  w = s.wired

  -- ---- rows 7 to 10
  as-sound : Sound c
  as-sound =
      let zero_in : 0 < c.faces = let l = s.faces-two in omega arith in
      record {
        faces-two = s.faces-two;
        range = s.range;
        next_start = w.next_start;
        prev-next = w.prev-next;
        next-prev = w.next-prev;
        next-face = w.next-face;
        prev-face = prev-face c w;
        next-next = w.next-next;
        turns-left = λ h i. s.turns h _ _ _ (tri-at h i);
        hull = λ h z o l p. pos-low p (s.hull h z o l);
        one_place = s.one_place;
        ends-differ = w.ends-differ;
        lone = w.lone;
        adjacent-face = w.adjacent-face;
        outer_one = (w.adjacents 0 zero_in, w.adjacent-face 0 zero_in);
        inner-one = (w.adjacents 1 s.faces-two, λ e. one_not_zero (sym (w.adjacent-face 1 s.faces-two) ∙ e));
        of-face = w.of-face;
        next-differs = next-differs c w;
        prev-differs = prev-differs c w;
        next-prev-differ = next-prev-differ c w;
        out-start = w.out-start;
      }
    where
      one_not_zero : ◌≡◌ {A = ℕ} 1 0 → ⊥
      one_not_zero e = omega arith

  -- ---- row 11, by the edges
  and_no : (a b : Bool) → (a ≡ true → b ≡ false) → (a && b) ≡ false
  and_no true b f = f refl
  and_no false b f = refl

  inner : (h : ℕ) → h < c.half_edges → outer c h ≡ false → Inner c h
  inner h l e = (l, eqb-false (c.face h) 0 e)

  low-test : {z : ℤ} → Low z → lt_z (pos 0) z ≡ false
  low-test {z} k = is_false (lt_z (pos 0) z) (λ e. pos-low (test-pos e) k)

  edges-calm : some (pressed c) (c.half_edges / 2) ≡ false
  edges-calm = some-none (pressed c) (c.half_edges / 2) (λ k l. at (k * 2) (omega arith))
    where
      at : (h : ℕ) → h < c.half_edges → presses c h ≡ false
      at h l =
          and_no (not (outer c h)) _
          (λ e.
          and_no (not (outer c (partner h))) _
          (λ f.
          let t = tri-at {c = c} h (inner h l (not-true (outer c h) e)) in
          low-test (s.calm h _ _ _ _ t (tri-partner c w t (inner (partner h) (partner-in s.range h l) (not-true (outer c (partner h)) f))))))

  -- ---- so all that an accepted chart gives
  pub fits : Counted c.vertices c.half_edges c.faces → ((v : ℕ) → v < c.vertices → outside (pos 0) (pos value_max) (c.value v) ≡ false) → Accepted c
  fits n values =
      let b = none_before c as-sound in
      accepted c n s.range (record { before = b; circles = sym (crowded-pressed c s.range b) ∙ edges-calm }) values
