-- Where a place lies on a sound chart: at two of vertex, open edge and inner face never, in two faces never; and at one of them where it is strictly left of no
-- outer half-edge (02, CR 2). Of every place, on the grid or off it. Assumes nothing.
use Rattle.std.specs.Prelude.{◌≡◌, refl, ◌⊎◌, true, false, ◌&&◌, ℕ, ◌+◌, ◌<◌, ◌≤◌, ℤ, ◌-ℤ◌, [], ◌∷◌}
use Rattle.std.proofs.Common.{sym, ap, ◌∙◌, inl, inr, eq-eqb}
use Rattle.std.proofs.Math.Path.{subst}
use Rattle.std.proofs.lemmas.Bool.{false≢true}
use native.Mathlib.Omega.{arith}
use Rattle.std.proofs.Math.Decide.{ℕ_discrete}
use Rattle.std.proofs.Math.IntN.{nat_abs}
use Rattle.whole.specs.Poly.{var, ◌⊖◌, env, agree, solve! }
use Rattle.whole.specs.Bound.{Within, sub_in, same_in}
use Rattle.whole.specs.Bools.{and-true, and_both}
use Rattle.whole.specs.First.{some_or_none}
use Rattle.signs.specs.Signs.{sg, up, dn, ze, ◌&◌, ◌or◌, Is, Pos, Neg, Zero, Low, High, Off, left, right, either}
use Rattle.signs.specs.Order.{zero_high, pos-high, neg_low, not-pos, pos-zero, neg-zero, neg-nil}
use Rattle.geometry.specs.declared.Place.{Place}
use Rattle.geometry.specs.Plane.{side}
use Rattle.geometry.specs.Laws.{place-eq}
use Rattle.cells.specs.Points.{dots, ray, ray-base}
use Rattle.cells.specs.Corner.{left-ray}
use Rattle.cells.specs.Rays.{steep, steep-off, reach, reach-in}
use Rattle.chart.specs.Chart.{Chart, partner, partner-twice, partner-in, outer}
use Rattle.sound.specs.Tests.{above_zero}
use Rattle.sound.specs.Sound.{Sound}
use Rattle.nearby.specs.Chart as Ch
use Rattle.nearby.specs.Rim as R
use Rattle.nearby.specs.Line.{Differ, at_most_one}
use Rattle.nearby.specs.Once as O
use Rattle.nearby.specs.Vertex.{no-vertex}
use Rattle.locate.specs.Location.{at_vertex, on_edge}
use Rattle.home.specs.Facts.{side_at, dots_at, AtVertex, OnEdge, InFace, vertex-to, vertex-from, edge_to, edge-from}
use Rattle.home.specs.Count as N

module _ (c : Chart) (snd : Sound c) (q : Place) where
  abbrev A : ℕ → Place
  A = Ch.A c snd

  abbrev B : ℕ → Place
  B = Ch.B c snd

  abbrev C : ℕ → Place
  C = Ch.C c snd

  abbrev sd : ℕ → ℤ
  sd h = Ch.sd c snd h q

  -- q is strictly left of no outer half-edge; and at no vertex
  abbrev Inside : Type 0
  Inside = (h : ℕ) → h < c.half_edges → c.face h ≡ 0 → Low (sd h)

  abbrev Bare : Type 0
  Bare = (v : ℕ) → AtVertex c q v → ⊥

  -- the side by the partner's origin and by the next one's
  pub sd-side : (h : ℕ) → h < c.half_edges → sd h ≡ side_at c q h
  sd-side h l = ap (λ (v : ℕ). side (A h) (c.place v) q) (snd.next_start h l)

  dot-side : (h : ℕ) → h < c.half_edges → dots (A h) (B h) q ≡ dots_at c q h
  dot-side h l = ap (λ (v : ℕ). dots (A h) (c.place v) q) (snd.next_start h l)

  -- ---- an open edge, by the starts of its half-edge and of the next one
  pub record Open (h : ℕ) : Type 0 where
    pub there : h < c.half_edges
    pub on : Zero (sd h)
    pub between : Neg (dots (A h) (B h) q)

  pub open_of : (h : ℕ) → OnEdge c q h → Open h
  open_of h e =
      record {
        there = e.there;
        on = subst Zero (sym (sd-side h e.there)) e.on;
        between = subst Neg (sym (dot-side h e.there)) e.between;
      }

  pub of-open : (h : ℕ) → Open h → OnEdge c q h
  of-open h e =
      record {
        there = e.there;
        on = subst Zero (sd-side h e.there) e.on;
        between = subst Neg (dot-side h e.there) e.between;
      }

  pub open-twin : (h : ℕ) → Open h → Open (partner h)
  open-twin h e =
      record {
        there = partner-in snd.range h e.there;
        on = neg-nil (Ch.twin-side c snd h q e.there) e.on;
        between = subst Neg (sym (R.twin-dot c snd h q e.there)) e.between;
      }

  pub edge-twin : (h : ℕ) → OnEdge c q h → OnEdge c q (partner h)
  edge-twin h e = of-open (partner h) (open-twin h (open_of h e))

  -- ---- a face, from any of its half-edges
  pub record Held (h : ℕ) : Type 0 where
    pub there : h < c.half_edges
    pub inner : c.face h ≡ 0 → ⊥
    pub first : Pos (sd h)
    pub second : Pos (sd (c.next h))
    pub third : Pos (sd (c.prev h))

  pub held_next : (h : ℕ) → Held h → Held (c.next h)
  held_next h e =
      record {
        there = snd.range.nexts h e.there;
        inner = Ch.next-inner c snd h e.there e.inner;
        first = e.second;
        second = subst (λ (k : ℕ). Pos (sd k)) (sym (snd.next-next h (e.there, e.inner))) e.third;
        third = subst (λ (k : ℕ). Pos (sd k)) (sym (snd.prev-next h e.there)) e.first;
      }

  not-zero : (n : ℕ) → 0 < n → n ≡ 0 → ⊥
  not-zero n l e = omega arith

  pub held_of : (f : ℕ) → InFace c q f → Held (c.adjacent f)
  held_of f e =
      let l : c.adjacent f < c.half_edges = snd.range.adjacents f e.there in
      record {
        there = l;
        inner = λ z. not-zero f e.inner (sym (snd.adjacent-face f e.there) ∙ z);
        first = subst Pos (sym (sd-side (c.adjacent f) l)) e.first;
        second = subst Pos (sym (sd-side (c.next (c.adjacent f)) (snd.range.nexts (c.adjacent f) l))) e.second;
        third = subst Pos (sym (sd-side (c.prev (c.adjacent f)) (snd.range.prevs (c.adjacent f) l))) e.third;
      }

  of-adj : (f : ℕ) → 0 < f → f < c.faces → Held (c.adjacent f) → InFace c q f
  of-adj f p l e =
      record {
        inner = p;
        there = l;
        first = subst Pos (sd-side (c.adjacent f) e.there) e.first;
        second = subst Pos (sd-side (c.next (c.adjacent f)) (snd.range.nexts (c.adjacent f) e.there)) e.second;
        third = subst Pos (sd-side (c.prev (c.adjacent f)) (snd.range.prevs (c.adjacent f) e.there)) e.third;
      }

  pub of-held : (h : ℕ) → Held h → InFace c q (c.face h)
  of-held h e = of-adj f (above_zero f e.inner) fl (pick (snd.of-face h (e.there, e.inner)))
    where
      f : ℕ
      f = c.face h

      fl : f < c.faces
      fl = snd.range.face-numbers h e.there

      a : ℕ
      a = c.adjacent f

      al : a < c.half_edges
      al = snd.range.adjacents f fl

      ai : c.face a ≡ 0 → ⊥
      ai z = e.inner (sym (snd.adjacent-face f fl) ∙ z)

      once : Held (c.prev a) → Held a
      once k = subst Held (snd.next-prev a al) (held_next (c.prev a) k)

      twice : Held (c.next a) → Held a
      twice k = once (subst Held (snd.next-next a (al, ai)) (held_next (c.next a) k))

      pick : (h ≡ a) ⊎ ((h ≡ c.next a) ⊎ (h ≡ c.prev a)) → Held a
      pick (inl d) = subst Held d e
      pick (inr (inl d)) = twice (subst Held d e)
      pick (inr (inr d)) = once (subst Held d e)

  -- ---- what has a home is inside the rim
  pub held-strict : (k : ℕ) → Held k → (h : ℕ) → h < c.half_edges → c.face h ≡ 0 → Neg (sd h)
  held-strict k d h l o = R.inside c snd k h q d.there l d.inner o d.first d.second d.third

  open-low : (k : ℕ) → Open k → Inside
  open-low k e h l o = pick (ℕ_discrete (c.face k) 0)
    where
      by : (k : ℕ) → Open k → (c.face k ≡ 0 → ⊥) → Low (sd h)
      by k u i = R.beside c snd k h q u.there l i o u.on u.between

      pick : Dec (c.face k ≡ 0) → Low (sd h)
      pick (no i) = by k e i
      pick (yes z) = by (partner k) (open-twin k e) (R.inner-side c snd k e.there z)

  pub open-strict : (k : ℕ) → Open k → (c.face k ≡ 0 → ⊥) → (c.face (partner k) ≡ 0 → ⊥) → (h : ℕ) → h < c.half_edges → c.face h ≡ 0 → Neg (sd h)
  open-strict k e i j h l o = R.amid c snd k h q e.there l i j o e.on e.between

  -- ---- a vertex is no other home
  vertex-open : (v h : ℕ) → AtVertex c q v → Open h → (c.face h ≡ 0 → ⊥) → ⊥
  vertex-open v h a e i =
      let w : q ≡ c.place v = sym (place-eq (c.place v) q a.x-is a.y-is) in
      let s = R.open-sides c snd h q e.there i e.on e.between in
      no-vertex c snd h v e.there a.there i (subst (λ (p : Place). High (Ch.sd c snd h p)) w (zero_high e.on))
      (subst (λ (p : Place). Pos (Ch.sd c snd (c.next h) p)) w s.0) (subst (λ (p : Place). Pos (Ch.sd c snd (c.prev h) p)) w s.1)

  vertex-edge' : (v h : ℕ) → AtVertex c q v → Open h → ⊥
  vertex-edge' v h a e = pick (ℕ_discrete (c.face h) 0)
    where
      pick : Dec (c.face h ≡ 0) → ⊥
      pick (yes o) = vertex-open v (partner h) a (open-twin h e) (R.inner-side c snd h e.there o)
      pick (no i) = vertex-open v h a e i

  vertex-held : (v h : ℕ) → AtVertex c q v → Held h → ⊥
  vertex-held v h a e =
      let w : q ≡ c.place v = sym (place-eq (c.place v) q a.x-is a.y-is) in
      no-vertex c snd h v e.there a.there e.inner (subst (λ (p : Place). High (Ch.sd c snd h p)) w (pos-high e.first))
      (subst (λ (p : Place). Pos (Ch.sd c snd (c.next h) p)) w e.second) (subst (λ (p : Place). Pos (Ch.sd c snd (c.prev h) p)) w e.third)

  -- ---- a ray from q that tells it from all vertices, and these from each other
  module _ (low : Inside) (bare : Bare) where
    m : ℕ
    m = reach (λ v. (c.place v).y -ℤ q.y) c.vertices

    ρ : Place
    ρ = steep (m + m)

    near : (v : ℕ) → v < c.vertices → Within m ((c.place v).y -ℤ q.y)
    unfolding m
    near v l = reach-in (λ v. (c.place v).y -ℤ q.y) c.vertices v l

    off : (v : ℕ) → v < c.vertices → Off (ray ρ q (c.place v))
    unfolding ρ
    off v l =
        let n : nat_abs ((c.place v).y -ℤ q.y) ≤ m = (near v l).abs in
        steep-off (m + m) q (c.place v) (record { abs = omega arith })
        (λ x y. bare v (record { there = l; x-is = x; y-is = y }))

    step-y : (a b d : ℤ) → a -ℤ b ≡ (a -ℤ d) -ℤ (b -ℤ d)
    unfolding agree
    step-y a b d = solve! (env (a ∷ b ∷ d ∷ [])) (var 0 ⊖ var 1) (var 0 ⊖ var 2 ⊖ (var 1 ⊖ var 2)) tt

    dif : Differ c snd q ρ
    unfolding ρ
    dif v w l k n =
        subst Off (ray-base (steep (m + m)) q (c.place w) (c.place v))
        (steep-off (m + m) (c.place w) (c.place v) (same_in (step-y (c.place v).y (c.place w).y q.y) (sub_in (near v l) (near w k))) (Ch.places-apart c snd v w l k n))

    abbrev tri : ℕ → ℤ
    tri = N.tri c snd q ρ dif low off

    one-adds : (i k : ℕ) → i < c.half_edges → k < c.half_edges → (c.face i ≡ 0 → ⊥) → (c.face k ≡ 0 → ⊥) → Pos (tri i) → Pos (tri k) → (k ≡ i) ⊎ ((k ≡ c.next i) ⊎ (k ≡ c.prev i))
    one-adds = N.one-adds c snd q ρ dif low off

    held-adds : (h : ℕ) → Held h → Pos (tri h)
    held-adds h e = N.held-adds c snd q ρ dif low off h e.there e.inner e.first e.second e.third

    -- ---- an open edge seen from an inner side: its face counts where it starts left of the ray
    record Seen (t : ℕ) : Type 0 where
      pub second : Pos (sd (c.next t))
      pub third : Pos (sd (c.prev t))
      pub starts : Pos (tri t) ⊎ (Neg (ray ρ q (A t)) × Pos (ray ρ q (B t)))

    seen : (t : ℕ) → Open t → (c.face t ≡ 0 → ⊥) → Seen t
    seen t e i = record { second = s.0; third = s.1; starts = pick (either sides) }
      where
        l : t < c.half_edges
        l = e.there

        s : Pos (sd (c.next t)) × Pos (sd (c.prev t))
        s = R.open-sides c snd t q l i e.on e.between

        sides : Is (up (sg (ray ρ q (A t))) & dn (sg (ray ρ q (B t))) or dn (sg (ray ρ q (A t))) & up (sg (ray ρ q (B t))))
        sides = left-ray ρ q (A t) (B t) (C t) e.on (subst Pos (Ch.side-next c snd t q l i) s.0) (subst Pos (Ch.side-prev c snd t q l) s.1) (off (c.origin t) (snd.range.origins t l))

        pick : Is (up (sg (ray ρ q (A t))) & dn (sg (ray ρ q (B t)))) ⊎ Is (dn (sg (ray ρ q (A t))) & up (sg (ray ρ q (B t)))) → Pos (tri t) ⊎ (Neg (ray ρ q (A t)) × Pos (ray ρ q (B t)))
        pick (inl r) = inl (N.edge-adds c snd q ρ dif low off t l i e.on s.0 s.1 (record { is = left r }))
        pick (inr r) = inr (record { is = left r }, record { is = right r })

    -- of two inner sides the one whose face counts
    record Plus (h t : ℕ) : Type 0 where
      pub which : (t ≡ h) ⊎ (t ≡ partner h)
      pub open_at : Open t
      pub inner : c.face t ≡ 0 → ⊥
      pub second : Pos (sd (c.next t))
      pub third : Pos (sd (c.prev t))
      pub counted : Pos (tri t)

    plus : (h : ℕ) → Open h → (c.face h ≡ 0 → ⊥) → (c.face (partner h) ≡ 0 → ⊥) → (t : ℕ) × Plus h t
    plus h e i j = pick (seen h e i).starts
      where
        u : Open (partner h)
        u = open-twin h e

        v : Seen (partner h)
        v = seen (partner h) u j

        other : Pos (ray ρ q (B h)) → Pos (tri (partner h))
        other p =
            N.edge-adds c snd q ρ dif low off (partner h) u.there j u.on v.second v.third
            (subst (λ (x : Place). Pos (ray ρ q x)) (sym (Ch.twin-A c snd h e.there)) p)

        pick : Pos (tri h) ⊎ (Neg (ray ρ q (A h)) × Pos (ray ρ q (B h))) → (t : ℕ) × Plus h t
        pick (inl p) = (h, record { which = inl refl; open_at = e; inner = i; second = (seen h e i).second; third = (seen h e i).third; counted = p })
        pick (inr r) = (partner h, record { which = inr refl; open_at = u; inner = j; second = v.second; third = v.third; counted = other r.1 })

    -- ---- so q has one home at most
    edge-held : (h k : ℕ) → Open h → (c.face h ≡ 0 → ⊥) → (c.face (partner h) ≡ 0 → ⊥) → Held k → ⊥
    edge-held h k e i j d =
        let r = plus h e i j in
        pick r.0 r.1 (one-adds k r.0 d.there r.1.open_at.there d.inner r.1.inner (held-adds k d) r.1.counted)
      where
        pick : (t : ℕ) → Plus h t → (t ≡ k) ⊎ ((t ≡ c.next k) ⊎ (t ≡ c.prev k)) → ⊥
        pick t p (inl w) = pos-zero (subst (λ (x : ℕ). Pos (sd x)) (sym w) d.first) p.open_at.on
        pick t p (inr (inl w)) = pos-zero (subst (λ (x : ℕ). Pos (sd x)) (sym w) d.second) p.open_at.on
        pick t p (inr (inr w)) = pos-zero (subst (λ (x : ℕ). Pos (sd x)) (sym w) d.third) p.open_at.on

    held-held : (h k : ℕ) → Held h → Held k → c.face h ≡ c.face k
    held-held h k d e = pick (one-adds h k d.there e.there d.inner e.inner (held-adds h d) (held-adds k e))
      where
        pick : (k ≡ h) ⊎ ((k ≡ c.next h) ⊎ (k ≡ c.prev h)) → c.face h ≡ c.face k
        pick (inl w) = sym (ap c.face w)
        pick (inr (inl w)) = sym (ap c.face w ∙ snd.next-face h d.there)
        pick (inr (inr w)) = sym (ap c.face w ∙ snd.prev-face h d.there)

    open-open : (h k : ℕ) → Open h → (c.face h ≡ 0 → ⊥) → (c.face (partner h) ≡ 0 → ⊥) → Open k → (c.face k ≡ 0 → ⊥) → (c.face (partner k) ≡ 0 → ⊥) → (k ≡ h) ⊎ (k ≡ partner h)
    open-open h k e i j e' i' j' =
        let r = plus h e i j in
        let r' = plus k e' i' j' in
        pick r.0 r.1 r'.0 r'.1
        (one-adds r.0 r'.0 r.1.open_at.there r'.1.open_at.there r.1.inner r'.1.inner r.1.counted r'.1.counted)
      where
        ends : (t u : ℕ) → (t ≡ h) ⊎ (t ≡ partner h) → (u ≡ k) ⊎ (u ≡ partner k) → u ≡ t → (k ≡ h) ⊎ (k ≡ partner h)
        ends t u (inl w) (inl w') y = inl (sym w' ∙ y ∙ w)
        ends t u (inr w) (inl w') y = inr (sym w' ∙ y ∙ w)
        ends t u (inl w) (inr w') y = inr (sym (ap partner (sym y ∙ w') ∙ partner-twice k) ∙ ap partner w)
        ends t u (inr w) (inr w') y = inl (sym (ap partner (sym y ∙ w') ∙ partner-twice k) ∙ ap partner w ∙ partner-twice h)

        pick : (t : ℕ) → Plus h t → (u : ℕ) → Plus k u → (u ≡ t) ⊎ ((u ≡ c.next t) ⊎ (u ≡ c.prev t)) → (k ≡ h) ⊎ (k ≡ partner h)
        pick t p u p' (inl w) = ends t u p.which p'.which w
        pick t p u p' (inr (inl w)) = absurd (pos-zero (subst (λ (x : ℕ). Pos (sd x)) (sym w) p.second) p'.open_at.on)
        pick t p u p' (inr (inr w)) = absurd (pos-zero (subst (λ (x : ℕ). Pos (sd x)) (sym w) p.third) p'.open_at.on)

    -- two outer half-edges: which way they cross the ray's line is seen from their inner sides
    rim-rim : (h k : ℕ) → Open h → Open k → c.face h ≡ 0 → c.face k ≡ 0 → h ≡ k
    rim-rim h k e e' o o' = pick (crosses h e o) (crosses k e' o')
      where
        inner : (h : ℕ) → Open h → c.face h ≡ 0 → c.face (partner h) ≡ 0 → ⊥
        inner h e o = R.inner-side c snd h e.there o

        within : (h : ℕ) → Open h → c.face h ≡ 0 → Seen (partner h)
        within h e o = seen (partner h) (open-twin h e) (inner h e o)

        crosses : (h : ℕ) → Open h → c.face h ≡ 0 → Pos (tri (partner h)) ⊎ O.Down c snd q ρ dif low h
        crosses h e o = choose (within h e o).starts
          where
            choose : Pos (tri (partner h)) ⊎ (Neg (ray ρ q (A (partner h))) × Pos (ray ρ q (B (partner h)))) → Pos (tri (partner h)) ⊎ O.Down c snd q ρ dif low h
            choose (inl p) = inl p
            choose (inr r) =
                inr
                (record {
                  there = e.there;
                  outer = o;
                  from_up = subst (λ (p : Place). Pos (ray ρ q p)) (Ch.twin-B c snd h e.there) r.1;
                  to-down = subst (λ (p : Place). Neg (ray ρ q p)) (Ch.twin-A c snd h e.there) r.0;
                })

        -- of one face, and neither is the next of the other
        one : Pos (tri (partner h)) → Pos (tri (partner k)) → (partner k ≡ partner h) ⊎ ((partner k ≡ c.next (partner h)) ⊎ (partner k ≡ c.prev (partner h))) → h ≡ k
        one p p' (inl w) = sym (sym (partner-twice k) ∙ ap partner w ∙ partner-twice h)
        one p p' (inr (inl w)) =
            absurd (pos-zero (subst (λ (x : ℕ). Pos (sd x)) (sym w) (within h e o).second) (open-twin k e').on)
        one p p' (inr (inr w)) =
            absurd (pos-zero (subst (λ (x : ℕ). Pos (sd x)) (sym w) (within h e o).third) (open-twin k e').on)

        pick : Pos (tri (partner h)) ⊎ O.Down c snd q ρ dif low h → Pos (tri (partner k)) ⊎ O.Down c snd q ρ dif low k → h ≡ k
        pick (inl p) (inl p') = one p p' (one-adds (partner h) (partner k) (open-twin h e).there (open-twin k e').there (inner h e o) (inner k e' o') p p')
        pick (inl p) (inr d') = absurd (N.none-adds c snd q ρ dif low off k d' e'.on (partner h) (open-twin h e).there p)
        pick (inr d) (inl p') = absurd (N.none-adds c snd q ρ dif low off h d e.on (partner k) (open-twin k e').there p')
        pick (inr d) (inr d') = at_most_one c snd q ρ dif h k d.there d'.there o o' d.from_up d.to-down d'.from_up d'.to-down

    -- ---- and one at least, where it is on no open edge of the rim
    module _ (clear : (h : ℕ) → h < c.half_edges → c.face h ≡ 0 → Zero (sd h) → Neg (dots (A h) (B h) q) → ⊥) where
      prev-prev : (h : ℕ) → h < c.half_edges → (c.face h ≡ 0 → ⊥) → c.prev (c.prev h) ≡ c.next h
      prev-prev h l i = sym (ap c.prev (snd.next-next h (l, i))) ∙ snd.prev-next (c.next h) (snd.range.nexts h l)

      found : ((h : ℕ) × Open h) ⊎ ((h : ℕ) × Held h)
      found = pick (either (N.adds-held c snd q ρ dif low off h l i r.3))
        where
          r : (h : ℕ) × (h < c.half_edges) × (c.face h ≡ 0 → ⊥) × Pos (tri h)
          r = N.some-adds c snd q ρ dif low off clear

          h : ℕ
          h = r.0

          l : h < c.half_edges
          l = r.1

          i : c.face h ≡ 0 → ⊥
          i = r.2

          nl : c.next h < c.half_edges
          nl = snd.range.nexts h l

          pl : c.prev h < c.half_edges
          pl = snd.range.prevs h l

          ni : c.face (c.next h) ≡ 0 → ⊥
          ni = Ch.next-inner c snd h l i

          qi : c.face (c.prev h) ≡ 0 → ⊥
          qi = Ch.prev-inner c snd h l i

          open_at : (k : ℕ) → k < c.half_edges → (c.face k ≡ 0 → ⊥) → Zero (sd k) → Pos (sd (c.next k)) → Pos (sd (c.prev k)) → Open k
          open_at k kl ki z x y = record { there = kl; on = z; between = R.sides-open c snd k q kl ki z x y }

          nx : Pos (side (B h) (C h) q) → Pos (sd (c.next h))
          nx p = subst Pos (sym (Ch.side-next c snd h q l i)) p

          pv : Pos (side (C h) (A h) q) → Pos (sd (c.prev h))
          pv p = subst Pos (sym (Ch.side-prev c snd h q l)) p

          at_edge : Is (ze (sg (side (B h) (C h) q)) & up (sg (side (C h) (A h) q)) & up (sg (sd h))) ⊎ Is (ze (sg (side (C h) (A h) q)) & up (sg (sd h)) & up (sg (side (B h) (C h) q))) → ((h : ℕ) × Open h) ⊎ ((h : ℕ) × Held h)
          at_edge (inl t) =
              inl (
                c.next h,
                open_at (c.next h) nl ni (subst Zero (sym (Ch.side-next c snd h q l i)) (record { is = left t }))
                    (subst (λ (k : ℕ). Pos (sd k)) (sym (snd.next-next h (l, i))) (pv (record { is = left (right t) })))
                    (subst (λ (k : ℕ). Pos (sd k)) (sym (snd.prev-next h l)) (record { is = right (right t) })),
              )
          at_edge (inr t) =
              inl (
                c.prev h,
                open_at (c.prev h) pl qi (subst Zero (sym (Ch.side-prev c snd h q l)) (record { is = left t }))
                    (subst (λ (k : ℕ). Pos (sd k)) (sym (snd.next-prev h l)) (record { is = left (right t) }))
                    (subst (λ (k : ℕ). Pos (sd k)) (sym (prev-prev h l i)) (nx (record { is = right (right t) }))),
              )

          rest : Is (ze (sg (sd h)) & up (sg (side (B h) (C h) q)) & up (sg (side (C h) (A h) q))) ⊎ Is (ze (sg (side (B h) (C h) q)) & up (sg (side (C h) (A h) q)) & up (sg (sd h)) or ze (sg (side (C h) (A h) q)) & up (sg (sd h)) & up (sg (side (B h) (C h) q))) → ((h : ℕ) × Open h) ⊎ ((h : ℕ) × Held h)
          rest (inl t) =
              inl (h, open_at h l i (record { is = left t }) (nx (record { is = left (right t) })) (pv (record { is = right (right t) })))
          rest (inr t) = at_edge (either t)

          pick : Is (up (sg (side (B h) (C h) q)) & up (sg (side (C h) (A h) q)) & up (sg (sd h))) ⊎ Is (ze (sg (sd h)) & up (sg (side (B h) (C h) q)) & up (sg (side (C h) (A h) q)) or ze (sg (side (B h) (C h) q)) & up (sg (side (C h) (A h) q)) & up (sg (sd h)) or ze (sg (side (C h) (A h) q)) & up (sg (sd h)) & up (sg (side (B h) (C h) q))) → ((h : ℕ) × Open h) ⊎ ((h : ℕ) × Held h)
          pick (inl t) =
              inr (h, record { there = l; inner = i; first = record { is = right (right t) }; second = nx (record { is = left t }); third = pv (record { is = left (right t) }) })
          pick (inr t) = rest (either t)

  -- ---- the theorem, of each half-edge and face
  edge-face' : (h k : ℕ) → Open h → Held k → ⊥
  edge-face' h k e d = pick (ℕ_discrete (c.face h) 0) (ℕ_discrete (c.face (partner h)) 0)
    where
      pick : Dec (c.face h ≡ 0) → Dec (c.face (partner h) ≡ 0) → ⊥
      pick (yes o) y = neg-zero (held-strict k d h e.there o) e.on
      pick (no i) (yes o) = neg-zero (held-strict k d (partner h) (partner-in snd.range h e.there) o) (open-twin h e).on
      pick (no i) (no j) = edge-held (λ g l o. neg_low (held-strict k d g l o)) (λ v a. vertex-held v k a d) h k e i j d

  pub vertex-edge : (v h : ℕ) → AtVertex c q v → OnEdge c q h → ⊥
  vertex-edge v h a e = vertex-edge' v h a (open_of h e)

  pub vertex-face : (v f : ℕ) → AtVertex c q v → InFace c q f → ⊥
  vertex-face v f a e = vertex-held v (c.adjacent f) a (held_of f e)

  pub edge-face : (h f : ℕ) → OnEdge c q h → InFace c q f → ⊥
  edge-face h f e d = edge-face' h (c.adjacent f) (open_of h e) (held_of f d)

  pub one-vertex : (v w : ℕ) → AtVertex c q v → AtVertex c q w → v ≡ w
  one-vertex v w a b =
      snd.one_place v w a.there b.there (place-eq (c.place v) (c.place w) (a.x-is ∙ sym b.x-is) (a.y-is ∙ sym b.y-is))

  pub one-face : (f g : ℕ) → InFace c q f → InFace c q g → f ≡ g
  one-face f g a b =
      let d = held_of f a in
      sym (snd.adjacent-face f a.there)
      ∙ held-held (λ h l o. neg_low (held-strict (c.adjacent f) d h l o)) (λ v e. vertex-held v (c.adjacent f) e d) (c.adjacent f) (c.adjacent g) d (held_of g b)
      ∙ snd.adjacent-face g b.there

  -- of an edge with two inner sides, and of any other
  inner-edge : (h k : ℕ) → Open h → Open k → (c.face h ≡ 0 → ⊥) → (c.face (partner h) ≡ 0 → ⊥) → (k ≡ h) ⊎ (k ≡ partner h)
  inner-edge h k e e' i j =
      open-open (λ g l o. neg_low (strict g l o)) (λ v w. vertex-edge' v h w e) h k e i j e'
      (λ o. neg-zero (strict k e'.there o) e'.on) (λ o. neg-zero (strict (partner k) (partner-in snd.range k e'.there) o) (open-twin k e').on)
    where
      strict : (g : ℕ) → g < c.half_edges → c.face g ≡ 0 → Neg (sd g)
      strict = open-strict h e i j

  rim-edge : (h k : ℕ) → Open h → Open k → c.face h ≡ 0 → c.face k ≡ 0 → h ≡ k
  rim-edge h k e e' o o' = rim-rim (open-low h e) (λ v w. vertex-edge' v h w e) h k e e' o o'

  pub one-edge : (h k : ℕ) → OnEdge c q h → OnEdge c q k → (k ≡ h) ⊎ (k ≡ partner h)
  one-edge h k a b = sides (ℕ_discrete (c.face h) 0) (ℕ_discrete (c.face (partner h)) 0)
    where
      e : Open h
      e = open_of h a

      e' : Open k
      e' = open_of k b

      turned : (h ≡ k) ⊎ (h ≡ partner k) → (k ≡ h) ⊎ (k ≡ partner h)
      turned (inl w) = inl (sym w)
      turned (inr w) = inr (sym (ap partner w ∙ partner-twice k))

      -- h and k by their outer half-edges
      rim : (g : ℕ) → (g ≡ h) ⊎ (g ≡ partner h) → Open g → c.face g ≡ 0 → Dec (c.face k ≡ 0) → Dec (c.face (partner k) ≡ 0) → (k ≡ h) ⊎ (k ≡ partner h)
      rim g w u o (yes z) y = same w (rim-edge g k u e' o z)
        where
          same : (g ≡ h) ⊎ (g ≡ partner h) → g ≡ k → (k ≡ h) ⊎ (k ≡ partner h)
          same (inl w) d = inl (sym d ∙ w)
          same (inr w) d = inr (sym d ∙ w)
      rim g w u o (no i) (yes z) = same w (rim-edge g (partner k) u (open-twin k e') o z)
        where
          same : (g ≡ h) ⊎ (g ≡ partner h) → g ≡ partner k → (k ≡ h) ⊎ (k ≡ partner h)
          same (inl w) d = inr (sym (ap partner (sym w ∙ d) ∙ partner-twice k))
          same (inr w) d = inl (sym (partner-twice k) ∙ ap partner (sym d ∙ w) ∙ partner-twice h)
      rim g w u o (no i) (no j) = turned (inner-edge k h e' e i j)

      sides : Dec (c.face h ≡ 0) → Dec (c.face (partner h) ≡ 0) → (k ≡ h) ⊎ (k ≡ partner h)
      sides (yes o) y = rim h (inl refl) e o (ℕ_discrete (c.face k) 0) (ℕ_discrete (c.face (partner k)) 0)
      sides (no i) (yes o) = rim (partner h) (inr refl) (open-twin h e) o (ℕ_discrete (c.face k) 0) (ℕ_discrete (c.face (partner k)) 0)
      sides (no i) (no j) = inner-edge h k e e' i j

  -- ---- and what has a home is strictly left of no outer half-edge
  pub vertex-inside : (v h : ℕ) → AtVertex c q v → h < c.half_edges → c.face h ≡ 0 → Low (side_at c q h)
  vertex-inside v h a l o =
      subst (λ (p : Place). Low (side_at c p h)) (place-eq (c.place v) q a.x-is a.y-is) (not-pos (snd.hull h v (l, o) a.there))

  pub edge-low : (k h : ℕ) → OnEdge c q k → h < c.half_edges → c.face h ≡ 0 → Low (side_at c q h)
  edge-low k h e l o = subst Low (sd-side h l) (open-low k (open_of k e) h l o)

  pub edge-inside : (k h : ℕ) → OnEdge c q k → h < c.half_edges → c.face h ≡ 0 → Low (side_at c q h)
  edge-inside = edge-low

  pub face-inside : (f h : ℕ) → InFace c q f → h < c.half_edges → c.face h ≡ 0 → Low (side_at c q h)
  face-inside f h e l o = subst Low (sd-side h l) (neg_low (held-strict (c.adjacent f) (held_of f e) h l o))

  -- ---- where q is strictly left of no outer half-edge it has a home
  pub somewhere : ((h : ℕ) → h < c.half_edges → c.face h ≡ 0 → Low (side_at c q h)) → ((v : ℕ) × AtVertex c q v) ⊎ (((h : ℕ) × OnEdge c q h) ⊎ ((f : ℕ) × InFace c q f))
  somewhere low = pick (some_or_none (at_vertex c q) c.vertices) (some_or_none (λ h. outer c h && on_edge c q h) c.half_edges)
    where
      low' : Inside
      low' h l o = subst Low (sym (sd-side h l)) (low h l o)

      face : ((h : ℕ) × Open h) ⊎ ((h : ℕ) × Held h) → ((v : ℕ) × AtVertex c q v) ⊎ (((h : ℕ) × OnEdge c q h) ⊎ ((f : ℕ) × InFace c q f))
      face (inl r) = inr (inl (r.0, of-open r.0 r.1))
      face (inr r) = inr (inr (c.face r.0, of-held r.0 r.1))

      pick : ((v : ℕ) × (v < c.vertices) × (at_vertex c q v ≡ true)) ⊎ ((v : ℕ) → v < c.vertices → at_vertex c q v ≡ false) → ((h : ℕ) × (h < c.half_edges) × ((outer c h && on_edge c q h) ≡ true)) ⊎ ((h : ℕ) → h < c.half_edges → (outer c h && on_edge c q h) ≡ false) → ((v : ℕ) × AtVertex c q v) ⊎ (((h : ℕ) × OnEdge c q h) ⊎ ((f : ℕ) × InFace c q f))
      pick (inl r) s = inl (r.0, vertex-to c q r.0 r.1 r.2)
      pick (inr n) (inl s) = inr (inl (s.0, edge_to c q s.0 s.1 (and-true (outer c s.0) (on_edge c q s.0) s.2).1))
      pick (inr n) (inr s) =
          face
          (found low' (λ v a. false≢true (sym (n v a.there) ∙ vertex-from c q v a))
          (λ h l o z d. false≢true (sym (s h l) ∙ and_both (outer c h) (on_edge c q h) (eq-eqb (c.face h) 0 o) (edge-from c q h (of-open h (record { there = l; on = z; between = d }))))))
