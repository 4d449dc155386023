-- The search's recursion without a depth: each face is opened once, so the depth never runs out. Assumes nothing.
use Rattle.std.specs.Prelude.{◌≡◌, Bool, not, ◌&&◌, List, ◌∷◌}
use Rattle.std.proofs.Math.Path.{refl, sym, ap}
use Rattle.std.proofs.Common.{◌∙◌}
use Rattle.std.proofs.Math.Logic.{⊎_elim}
use Rattle.std.proofs.Math.Bool.{true, false}
use Prim.Native.Nat.{ℕ, zero, suc, ◌≤◌, ◌<◌}
use native.Mathlib.Omega.{arith}
use Rattle.faceset.specs.Set.{add}
use Rattle.faceset.specs.Laws.{cases, count-new, count-le}
use Rattle.geometry.specs.declared.Place.{Place}
use Rattle.chart.specs.Chart.{Chart, partner, InRange, partner-in, outer}
use Rattle.flips.specs.Search.{Found, in_circle, should_flip, opening, listing, inspect, inspect_flips, inspect_all, opened_count, free}

module _ (c : Chart) (q : Place) where
  -- a face that is to be opened is not opened yet
  flip-new : (o : ℕ → Bool) (h : ℕ) → should_flip c q o h ≡ true → o (c.face h) ≡ false
  unfolding should_flip
  flip-new o h y = new (outer c h) (o (c.face h)) (in_circle c q h) y
    where
      new : (a b d : Bool) → (not a && (not b && d)) ≡ true → b ≡ false
      new a false d e = refl
      new true true d e = sym e
      new false true d e = sym e

  inspect-open : (d h : ℕ) (w : Found) → should_flip c q w.opened h ≡ true → inspect c q (suc d) h w ≡ inspect c q d (partner (c.next h)) (inspect c q d (partner (c.prev h)) (opening c h w))
  unfolding inspect
  inspect-open d h w y = rw (inspect, y)

  inspect-border : (d h : ℕ) (w : Found) → should_flip c q w.opened h ≡ false → inspect c q (suc d) h w ≡ listing h w
  unfolding inspect
  inspect-border d h w y = rw (inspect, y)

  module _ (r : InRange c) where
    -- an opening leaves one face fewer
    pub one_fewer : (o : ℕ → Bool) (h : ℕ) → h < c.half_edges → should_flip c q o h ≡ true → (opened_count c (add (c.face h) o) ≡ suc (opened_count c o)) × (suc (free c (add (c.face h) o)) ≡ free c o)
    one_fewer o h l y =
        let gone : opened_count c (add (c.face h) o) ≡ suc (opened_count c o) = count-new c.faces (c.face h) o (r.face-numbers h l) (flip-new o h y) in
        (gone, omega (arith, count-le c.faces (add (c.face h) o)))

    -- where e1 and e2 start
    pub e1-in : (h : ℕ) → h < c.half_edges → partner (c.next h) < c.half_edges
    e1-in h l = partner-in r (c.next h) (r.nexts h l)

    pub e2-in : (h : ℕ) → h < c.half_edges → partner (c.prev h) < c.half_edges
    e2-in h l = partner-in r (c.prev h) (r.prevs h l)

    -- a search closes no face
    no_more : (d h : ℕ) (w : Found) → h < c.half_edges → free c (inspect c q d h w).opened ≤ free c w.opened
    unfolding inspect
    no_more zero h w l = omega arith
    no_more (suc d) h w l =
        ⊎_elim
        (λ (y : should_flip c q w.opened h ≡ true).
        let w2 : Found = inspect c q d (partner (c.prev h)) (opening c h w) in
        rw (inspect-open d h w y)
        (omega (arith, (one_fewer w.opened h l y).1, no_more d (partner (c.prev h)) (opening c h w) (e2-in h l), no_more d (partner (c.next h)) w2 (e1-in h l))))
        (λ (y : should_flip c q w.opened h ≡ false). rw (inspect-border d h w y) (omega arith))
        (cases (should_flip c q w.opened h))

    -- depths above the number of faces that are not opened find the same
    enough : (d e h : ℕ) (w : Found) → h < c.half_edges → free c w.opened < d → free c w.opened < e → inspect c q d h w ≡ inspect c q e h w
    enough zero e h w l m n = absurd (omega arith)
    enough (suc d) zero h w l m n = absurd (omega arith)
    enough (suc d) (suc e) h w l m n =
        ⊎_elim
        (λ (y : should_flip c q w.opened h ≡ true).
        let fewer : suc (free c (add (c.face h) w.opened)) ≡ free c w.opened = (one_fewer w.opened h l y).1 in
        let w2 : Found = inspect c q d (partner (c.prev h)) (opening c h w) in
        let still : free c w2.opened ≤ free c (add (c.face h) w.opened) = no_more d (partner (c.prev h)) (opening c h w) (e2-in h l) in
        inspect-open d h w y
        ∙ enough d e (partner (c.next h)) w2 (e1-in h l) (omega arith) (omega arith)
        ∙ ap (inspect c q e (partner (c.next h))) (enough d e (partner (c.prev h)) (opening c h w) (e2-in h l) (omega arith) (omega arith))
        ∙ sym (inspect-open e h w y))
        (λ (y : should_flip c q w.opened h ≡ false). inspect-border d h w y ∙ sym (inspect-border e h w y))
        (cases (should_flip c q w.opened h))

    -- ---- the recursion: h's face is opened, and all from e2 is found, then all from e1
    pub found-open : (h : ℕ) (w : Found) → h < c.half_edges → should_flip c q w.opened h ≡ true → inspect_flips c q h w ≡ inspect_flips c q (partner (c.next h)) (inspect_flips c q (partner (c.prev h)) (opening c h w))
    found-open h w l y =
        let fewer : suc (free c (add (c.face h) w.opened)) ≡ free c w.opened = (one_fewer w.opened h l y).1 in
        let w2 : Found = inspect c q c.faces (partner (c.prev h)) (opening c h w) in
        let still : free c w2.opened ≤ free c (add (c.face h) w.opened) = no_more c.faces (partner (c.prev h)) (opening c h w) (e2-in h l) in
        inspect-open c.faces h w y
        ∙ enough c.faces (suc c.faces) (partner (c.next h)) w2 (e1-in h l) (omega arith) (omega arith)
        ∙ ap (inspect_flips c q (partner (c.next h))) (enough c.faces (suc c.faces) (partner (c.prev h)) (opening c h w) (e2-in h l) (omega arith) (omega arith))

    -- or h is border
    pub found-border : (h : ℕ) (w : Found) → should_flip c q w.opened h ≡ false → inspect_flips c q h w ≡ listing h w
    found-border h w y = inspect-border c.faces h w y

    -- ---- the same with the half-edges s still waiting
    pub all-open : (h : ℕ) (s : List ℕ) (w : Found) → h < c.half_edges → should_flip c q w.opened h ≡ true → inspect_all c q (h ∷ s) w ≡ inspect_all c q (partner (c.prev h) ∷ partner (c.next h) ∷ s) (opening c h w)
    unfolding inspect_all
    all-open h s w l y = ap (inspect_all c q s) (found-open h w l y)

    pub all-border : (h : ℕ) (s : List ℕ) (w : Found) → should_flip c q w.opened h ≡ false → inspect_all c q (h ∷ s) w ≡ inspect_all c q s (listing h w)
    unfolding inspect_all
    all-border h s w y = ap (inspect_all c q s) (found-border h w y)
