-- The chart with the new vertex joined to the corners around it: what holds while edges are flipped holds at the start. Assumes nothing.
use Rattle.std.specs.Prelude.{◌≡◌, refl, Bool, cond, List, ℕ, ◌+◌, ◌<◌, ℤ}
use Rattle.std.proofs.Common.{sym, subst, ap, ◌∙◌, arith, eq-eqb, ne_eqb}
use Rattle.std.proofs.Math.Decide.{ℕ_discrete}
use Rattle.signs.specs.Signs.{Pos, Neg, Zero, Low, High}
use Rattle.signs.specs.Order.{not-pos, neg-nil, neg_low, pos-high, zero_high}
use Rattle.cells.specs.Points.{dots, back, dot-back}
use Rattle.cells.specs.Corner.{Apart, open-left}
use Rattle.cells.specs.Window.{inside-circle}
use Rattle.geometry.specs.declared.Place.{Place}
use Rattle.geometry.specs.Plane.{side, circle}
use Rattle.geometry.specs.Laws.{circle-turn}
use Rattle.chart.specs.Chart.{Chart, partner}
use Rattle.accepted.specs.Accepted.{Accepted}
use Rattle.patches.specs.declared.Row.{Row}
use Rattle.patches.specs.Rows.{none, hit_of, Throughout, throughout}
use Rattle.patches.specs.Wired
use Rattle.patches.specs.Wired.{Wired, sound-wired, partner-below}
use Rattle.patches.specs.Patch.{Patch, patched, grown_with, origin-old, outer-missed}
use Rattle.patches.specs.Insert.{inserted, insert_rows}
use Rattle.patches.proofs.Insert.{insert-patch}
use Rattle.patches.specs.Split.{split, split_rows}
use Rattle.patches.proofs.Split.{split-patch}
use Rattle.sound.specs.Sound.{Inner, Outer, start, end, Sound}
use Rattle.nearby.specs.Chart as Ch
use Rattle.nearby.specs.Rim as Ri
use Rattle.nearby.specs.Vertex.{no-vertex}
use Rattle.stars.specs.Circles.{on-left}
use Rattle.stars.specs.Star.{Tri, tri-next, tri-prev, tri-partner, tri-at, tri-split, good-at, Good, star₀, star₁, star₂, Growing}

-- what holds of the corners at h holds of the corners of h
tri-subst : (c : Chart) (Q : ℕ → ℕ → ℕ → Type 0) {h x y w : ℕ} → Tri c h x y w → Q (c.origin h) (c.origin (partner h)) (c.origin (c.prev h)) → Q x y w
tri-subst c Q {h} {x} {y} {w} t g =
    subst (λ (k : ℕ). Q x y k) t.apex
    (subst (λ (k : ℕ). Q x k (c.origin (c.prev h))) t.to (subst (λ (k : ℕ). Q k (c.origin (partner h)) (c.origin (c.prev h))) t.from g))

module _ (c : Chart) (a : Accepted c) (q : Place) where
  abbrev P : ℕ → Place
  P = c.place

  abbrev n : ℕ
  n = c.vertices

  w : Wired c
  w = sound-wired a.sound

  -- ---- an accepted chart, by the corners
  pub acc-turns : {h x y v : ℕ} → Tri c h x y v → Pos (side (P x) (P y) (P v))
  acc-turns {h} t = tri-subst c (λ i j k. Pos (side (P i) (P j) (P k))) t (a.sound.turns-left h t.inner)

  pub acc-empty : {h x y v : ℕ} → Tri c h x y v → (z : ℕ) → z < n → Low (circle (P x) (P y) (P v) (P z))
  acc-empty {h} t z l = tri-subst c (λ i j k. Low (circle (P i) (P j) (P k) (P z))) t (not-pos (a.empty-circle h z t.inner l))

  corners-apart : {h x y v : ℕ} → Tri c h x y v → Apart (P x) (P y)
  corners-apart {h} {x} {y} t e f =
      a.sound.ends-differ h t.inner.0
      (a.sound.one_place (c.origin h) (c.origin (partner h)) (w.origins h t.inner.0) (w.origins (partner h) (partner-below c w h t.inner.0))
      (λ i. tri-path i))
    where
      tri-path : P (c.origin h) ≡ P (c.origin (partner h))
      tri-path = ap P t.from ∙ (λ i. record { x = e i; y = f i }) ∙ ap P (sym t.to)

  from_in : {h x y v : ℕ} → Tri c h x y v → x < n
  from_in {h} t = subst (λ (k : ℕ). k < n) t.from (w.origins h t.inner.0)

  apex-in : {h x y v : ℕ} → Tri c h x y v → v < n
  apex-in {h} t = from_in (tri-prev c w t)

  to_in : {h x y v : ℕ} → Tri c h x y v → y < n
  to_in {h} t = from_in (tri-next c w t)

  -- left of two sides and left of or on the third is inside the circle
  pub inside : {h x y v : ℕ} → Tri c h x y v → High (side (P x) (P y) q) → Pos (side (P y) (P v) q) → Pos (side (P v) (P x) q) → Pos (circle (P x) (P y) (P v) q)
  inside {h} {x} {y} {v} t i j k = inside-circle (P x) (P y) (P v) q (corners-apart t) i j k

  snd : Sound c
  snd = a.sound

  -- left of or on no outer half-edge, by where it ends
  side-low : (h : ℕ) → h < c.half_edges → Neg (Ch.sd c snd h q) → Low (side (start c h) (end c h) q)
  side-low h l k = neg_low (subst (λ (v : ℕ). Neg (side (start c h) (P v) q)) (w.next_start h l) k)

  bare : (e : ℕ) → Inner c e → High (Ch.sd c snd e q) → Pos (Ch.sd c snd (c.next e) q) → Pos (Ch.sd c snd (c.prev e) q) → (v : ℕ) → v < n → P v ≡ q → ⊥
  bare e i x y z v l p =
      no-vertex c snd e v i.0 l i.1 (subst (λ (r : Place). High (Ch.sd c snd e r)) (sym p) x) (subst (λ (r : Place). Pos (Ch.sd c snd (c.next e) r)) (sym p) y)
      (subst (λ (r : Place). Pos (Ch.sd c snd (c.prev e) r)) (sym p) z)

  -- ---- any triangles written in that make a star about the new vertex
  module _ (z : ℤ) (rs : List Row) (out : ℕ → ℕ) (p : Patch c rs (grown_with c rs out q z)) (rim : (h : ℕ) → Outer c h → Low (side (start c h) (end c h) q)) where
    abbrev d : Chart
    d = grown_with c rs out q z

    abbrev Q : ℕ → Place
    Q = d.place

    q-is : q ≡ Q n
    q-is = sym (ap (λ (b : Bool). cond b q (c.place n)) (eq-eqb n n refl))

    old-is : (x : ℕ) → x < n → P x ≡ Q x
    old-is x l = sym (ap (λ (b : Bool). cond b q (c.place x)) (ne_eqb x n (λ e. omega arith)))

    -- places of the old chart and of the new
    side-is : (x y : ℕ) (r s : Place) → x < n → y < n → r ≡ s → side (P x) (P y) r ≡ side (Q x) (Q y) s
    side-is x y r s l m e = λ i. side (old-is x l i) (old-is y m i) (e i)

    circle-is : (x y v : ℕ) (r s : Place) → x < n → y < n → v < n → r ≡ s → circle (P x) (P y) (P v) r ≡ circle (Q x) (Q y) (Q v) s
    circle-is x y v r s l m k e = λ i. circle (old-is x l i) (old-is y m i) (old-is v k i) (e i)

    below : (x : ℕ) → x < n → x ≡ n → ⊥
    below x l e = omega arith

    -- a face that was there
    old-good : (h x y v : ℕ) → hit_of rs h ≡ none → Tri c h x y v → Good Q n x y v
    old-good h x y v o t =
        let lx = from_in t in
        let ly = to_in t in
        let lv = apex-in t in
        record {
          turns = subst Pos (side-is x y (P v) (Q v) lx ly (old-is v lv)) (acc-turns t);
          empty = λ i j k u l. subst Low (circle-is x y v (P u) (Q u) lx ly lv (old-is u l)) (acc-empty t u l);
          link = λ e. absurd (below v lv e);
        }

    -- ---- a face of the star, on a side that q is left of and whose face's circle holds q
    module _ (h x y v : ℕ) (t : Tri c h x y v) (s : Pos (side (P x) (P y) q)) (j : Pos (circle (P x) (P y) (P v) q)) where
      s' : Pos (side (Q x) (Q y) (Q n))
      s' = subst Pos (side-is x y q (Q n) (from_in t) (to_in t) q-is) s

      m' : (u : ℕ) → u < n → High (side (Q x) (Q y) (Q u)) → Low (circle (Q x) (Q y) (Q n) (Q u))
      m' u l k =
          let lx = from_in t in
          let ly = to_in t in
          let lv = apex-in t in
          on-left (Q x) (Q y) (Q v) (Q n) (Q u) (subst Pos (side-is x y (P v) (Q v) lx ly (old-is v lv)) (acc-turns t)) s'
          (subst Pos (circle-is x y v q (Q n) lx ly lv q-is) j)
          (subst Low (circle-is x y v (P u) (Q u) lx ly lv (old-is u l)) (acc-empty t u l)) k

      pub ray₀ : Good Q n x y n
      ray₀ = star₀ Q n x y (below x (from_in t)) (below y (to_in t)) s' m'

      pub ray₁ : Good Q n y n x
      ray₁ = star₁ Q n x y (below x (from_in t)) (below y (to_in t)) s' m'

      pub ray₂ : Good Q n n x y
      ray₂ = star₂ Q n x y (below x (from_in t)) (below y (to_in t)) s' m'

    abbrev pub Fine : Row → Type 0
    Fine r = Good Q n r.from r.to r.apex

    pub grown : Throughout Fine rs → Growing d n
    grown fine =
        record {
          wired = patched c d rs w p;
          size = refl;
          hull = λ h u o l. hull h u o l (ℕ_discrete u n);
          good =
              λ h x y v t.
              tri-split c d rs w p h x y v (Good Q n x y v) t (λ o s. old-good h x y v o s)
              (λ r e i k l. good-at Q n r x y v (throughout Fine rs h r fine e) i k l);
        }
      where
        hull : (h u : ℕ) → Outer d h → u < n + 1 → Dec (u ≡ n) → Low (side (start d h) (end d h) (Q u))
        hull h u o l t =
            let m = outer-missed c d rs w p h o in
            let x = origin-old c d rs w p h m.0 in
            let y = p.ends-kept h m.1.0 m.0 in
            let lx = w.origins h m.1.0 in
            let ly = w.origins (partner h) (partner-below c w h m.1.0) in
            subst (λ (k : ℕ). Low (side (Q k) (Q (d.origin (partner h))) (Q u))) (sym x)
            (subst (λ (k : ℕ). Low (side (Q (c.origin h)) (Q k) (Q u))) (sym y) (by lx ly m.1 t))
          where
            by : c.origin h < n → c.origin (partner h) < n → Outer c h → Dec (u ≡ n) → Low (side (Q (c.origin h)) (Q (c.origin (partner h))) (Q u))
            by lx ly oc (yes e) =
                subst (λ (k : ℕ). Low (side (Q (c.origin h)) (Q (c.origin (partner h))) (Q k))) (sym e)
                (subst Low (side-is (c.origin h) (c.origin (partner h)) q (Q n) lx ly q-is) (rim h oc))
            by lx ly oc (no e) =
                let k : u < n = omega arith in
                subst Low (side-is (c.origin h) (c.origin (partner h)) (P u) (Q u) lx ly (old-is u k)) (not-pos (a.sound.hull h u oc k))

  -- ---- into a face: e is a half-edge of it
  module _ (z : ℤ) (e : ℕ) (ie : Inner c e) (s₀ : Pos (side (P (c.origin e)) (P (c.origin (c.next e))) q)) (s₁ : Pos (side (P (c.origin (c.next e))) (P (c.origin (c.prev e))) q)) (s₂ : Pos (side (P (c.origin (c.prev e))) (P (c.origin e)) q)) where
    te : Tri c e (c.origin e) (c.origin (c.next e)) (c.origin (c.prev e))
    te = record { inner = ie; from = refl; to = sym (w.next_start e ie.0); apex = refl }

    s₁' : Pos (Ch.sd c snd (c.next e) q)
    s₁' = subst Pos (sym (Ch.side-next c snd e q ie.0 ie.1)) s₁

    s₂' : Pos (Ch.sd c snd (c.prev e) q)
    s₂' = subst Pos (sym (Ch.side-prev c snd e q ie.0)) s₂

    low : (h : ℕ) → Outer c h → Low (side (start c h) (end c h) q)
    low h o = side-low h o.0 (Ri.inside c snd e h q ie.0 o.0 ie.1 o.1 s₀ s₁' s₂')

    pub bare-face : (v : ℕ) → v < n → P v ≡ q → ⊥
    bare-face = bare e ie (pos-high s₀) s₁' s₂'

    j₀ : Pos (circle (P (c.origin e)) (P (c.origin (c.next e))) (P (c.origin (c.prev e))) q)
    j₀ = inside te (pos-high s₀) s₁ s₂

    pub insert-grows : Growing (inserted c e q z) n
    insert-grows =
        let p = insert-patch c w e ie q z in
        let rim : (h : ℕ) → Outer c h → Low (side (start c h) (end c h) q) = low in
        let tn = tri-next c w te in
        let tp = tri-prev c w te in
        let j₁ = subst Pos (circle-turn (P (c.origin e)) (P (c.origin (c.next e))) (P (c.origin (c.prev e))) q) j₀ in
        let j₂ = subst Pos (circle-turn (P (c.origin (c.next e))) (P (c.origin (c.prev e))) (P (c.origin e)) q) j₁ in
        grown z (insert_rows c e) _ p rim
        (Throughout.cons (ray₀ z _ _ p rim e _ _ _ te s₀ j₀) (ray₁ z _ _ p rim e _ _ _ te s₀ j₀) (ray₂ z _ _ p rim e _ _ _ te s₀ j₀)
        (Throughout.cons (ray₀ z _ _ p rim _ _ _ _ tn s₁ j₁) (ray₁ z _ _ p rim _ _ _ _ tn s₁ j₁) (ray₂ z _ _ p rim _ _ _ _ tn s₁ j₁)
        (Throughout.cons (ray₀ z _ _ p rim _ _ _ _ tp s₂ j₂) (ray₁ z _ _ p rim _ _ _ _ tp s₂ j₂) (ray₂ z _ _ p rim _ _ _ _ tp s₂ j₂) Throughout.nil)))

  -- ---- into an inner edge: e is one of its halves
  module _ (z : ℤ) (e : ℕ) (ie : Inner c e) (it : Inner c (partner e)) (on : Zero (side (P (c.origin e)) (P (c.origin (partner e))) q)) (between : Neg (dots (P (c.origin e)) (P (c.origin (partner e))) q)) where
    abbrev t : ℕ
    t = partner e

    abbrev A : Place
    A = P (c.origin e)

    abbrev B : Place
    B = P (c.origin t)

    abbrev C : Place
    C = P (c.origin (c.prev e))

    abbrev D : Place
    D = P (c.origin (c.prev t))

    ue : Tri c e (c.origin e) (c.origin t) (c.origin (c.prev e))
    ue = tri-at e ie

    ut : Tri c t (c.origin t) (c.origin e) (c.origin (c.prev t))
    ut = tri-partner c w ue it

    on' : Zero (side B A q)
    on' = neg-nil (back A B q) on

    between' : Neg (dots B A q)
    between' = subst Neg (dot-back A B q) between

    le : Pos (side B C q) × Pos (side C A q)
    le = open-left A B C q (acc-turns ue) on between

    lt : Pos (side A D q) × Pos (side D B q)
    lt = open-left B A D q (acc-turns ut) on' between'

    je : Pos (circle A B C q)
    je = inside ue (zero_high on) le.0 le.1

    jt : Pos (circle B A D q)
    jt = inside ut (zero_high on') lt.0 lt.1

    on'' : Zero (Ch.sd c snd e q)
    on'' = subst (λ (k : ℕ). Zero (side A (P k) q)) (sym (w.next_start e ie.0)) on

    between'' : Neg (dots A (P (c.origin (c.next e))) q)
    between'' = subst (λ (k : ℕ). Neg (dots A (P k) q)) (sym (w.next_start e ie.0)) between

    low-edge : (h : ℕ) → Outer c h → Low (side (start c h) (end c h) q)
    low-edge h o = side-low h o.0 (Ri.amid c snd e h q ie.0 o.0 ie.1 it.1 o.1 on'' between'')

    pub bare-edge : (v : ℕ) → v < n → P v ≡ q → ⊥
    bare-edge = let r = Ri.open-sides c snd e q ie.0 ie.1 on'' between'' in bare e ie (zero_high on'') r.0 r.1

    patch-edge : Patch c (split_rows c e t) (split c e q z)
    patch-edge = split-patch c w e ie it q z

    pub split-grows : Growing (split c e q z) n
    split-grows =
        let p = patch-edge in
        let rim : (h : ℕ) → Outer c h → Low (side (start c h) (end c h) q) = low-edge in
        let en = tri-next c w ue in
        let ep = tri-prev c w ue in
        let tn = tri-next c w ut in
        let tp = tri-prev c w ut in
        let j-en : Pos (circle B C A q) = subst Pos (circle-turn A B C q) je in
        let j-ep : Pos (circle C A B q) = subst Pos (circle-turn B C A q) j-en in
        let j-tn : Pos (circle A D B q) = subst Pos (circle-turn B A D q) jt in
        let j-tp : Pos (circle D B A q) = subst Pos (circle-turn A D B q) j-tn in
        grown z (split_rows c e t) _ p rim
        (Throughout.cons (ray₁ z _ _ p rim _ _ _ _ ep le.1 j-ep) (ray₂ z _ _ p rim _ _ _ _ ep le.1 j-ep) (ray₀ z _ _ p rim _ _ _ _ ep le.1 j-ep)
        (Throughout.cons (ray₁ z _ _ p rim _ _ _ _ tn lt.0 j-tn) (ray₂ z _ _ p rim _ _ _ _ tn lt.0 j-tn) (ray₀ z _ _ p rim _ _ _ _ tn lt.0 j-tn)
        (Throughout.cons (ray₁ z _ _ p rim _ _ _ _ tp lt.1 j-tp) (ray₂ z _ _ p rim _ _ _ _ tp lt.1 j-tp) (ray₀ z _ _ p rim _ _ _ _ tp lt.1 j-tp)
        (Throughout.cons (ray₁ z _ _ p rim _ _ _ _ en le.0 j-en) (ray₂ z _ _ p rim _ _ _ _ en le.0 j-en) (ray₀ z _ _ p rim _ _ _ _ en le.0 j-en) Throughout.nil))))
