-- 02, CR 11, the whole neighbourhood: for a load inside a face or on an inner edge of an accepted chart the faces opened are exactly those whose circle strictly
-- holds it, and the listed edges are their borders to the rest, each once, in a closed ring. Of the answer's own search. Assumes nothing.
use Rattle.std.specs.Prelude.{◌≡◌, ◌⊎◌, Bool, true, false, not, cond, ◌&&◌, List, [], ◌∷◌, map, reverse, eqb, ltb, ℤ}
use Rattle.std.proofs.Math.Path.{refl, sym, ap}
use Rattle.std.proofs.Common.{subst, ◌∙◌, inl, inr, append-nil, arith, ltb-true, lt-ltb}
use Rattle.std.proofs.lemmas.Bool.{false≢true, eqb-false, not-true}
use Prim.Native.Nat.{ℕ, zero, suc, ◌<◌}
use Rattle.whole.specs.Bools.{and-true, and_both, or-false, same_test}
use Rattle.faceset.specs.Set.{none, add, one, count_below}
use Rattle.faceset.specs.Laws.{count-ext}
use Rattle.geometry.specs.declared.Place.{Place}
use Rattle.geometry.specs.Plane.{circle}
use Rattle.geometry.specs.Laws.{circle-turn}
use Rattle.chart.specs.Chart.{Chart, partner, partner-twice, partner-in, outer, corner₀, corner₁, corner₂}
use Rattle.delaunay.specs.Delaunay.{in_circle}
use Rattle.sound.specs.Tests.{above_zero}
use Rattle.sound.specs.Sound.{Sound, Inner}
use Rattle.accepted.specs.Accepted.{Accepted}
use Rattle.locate.specs.declared.Location.{Location}
use Rattle.locate.specs.declared.Location.TheVariants.{OnEdge, OnFace}
use Rattle.locate.specs.Location.{even, on_edge, in_face, left_of, location_of}
use Rattle.locate.proofs.Laws.{located}
use Rattle.flips.specs.Search.{Found, found, should_flip, inspect_all, opened_count}
use Rattle.flips.specs.Laws.{all-open}
use Rattle.neighbors.specs.Neighbors.{finished, starts, face_search, edge_search, part_of_convex_hull, search_of, neighbors_of}
use Rattle.neighbors.specs.Answers.{face-answer, edge-answer}
use Rattle.neighbors.specs.Each.{done, also, each-reverse}
use Rattle.neighbors.specs.Counting.{Leads, All, search-leads}
use Rattle.neighbors.specs.Counting.Leads.{stays, opens, lists}
use Rattle.signs.specs.Signs.{Pos}
use Rattle.signs.specs.Order.{test-pos, pos-test}
use Rattle.nearby.specs.Windows as Wn
use Rattle.home.specs.Facts.{face-to, edge_to}
use Rattle.home.specs.Home as Hm
use Rattle.home.specs.Located.{face-location, edge-location}
use Rattle.neighbourhood.specs.Rings.{times, many-reverse, each-standing, Ring}
use Rattle.neighbourhood.proofs.Rings.{ring-back, ring-map}
use Rattle.neighbourhood.specs.Turning.{Turn, Follows}
use Rattle.neighbourhood.specs.Seat.{Seat, face-seat, edge-seat, seat-hole}
use Rattle.neighbourhood.specs.Opening.{border, ring_of, one-true, parts-flip}
use Rattle.neighbourhood.specs.Moment.{Moment}
use Rattle.neighbourhood.proofs.Moment.{waits, unopened, kept, begins}
use Rattle.neighbourhood.specs.Simple.{Fan, fan-reverse, first_fan, origins-once}
use Rattle.neighbourhood.proofs.Simple.{fans}
use Rattle.neighbourhood.proofs.Whole as W
use Rattle.neighbourhood.specs.Neighbourhood.{holding, Amid, Neighbourhood}

module _ (c : Chart) (acc : Accepted c) (q : Place) where
  abbrev snd : Sound c
  snd = acc.sound

  abbrev circ : ℕ → ℤ
  circ = Wn.circ c snd q

  -- ---- the circle of a face is that of its adjacent half-edge
  face-circ : (f : ℕ) → circle (c.place (corner₀ c f)) (c.place (corner₁ c f)) (c.place (corner₂ c f)) q ≡ circ (c.adjacent f)
  face-circ f = circle-turn (c.place (corner₀ c f)) (c.place (corner₁ c f)) (c.place (corner₂ c f)) q

  inner-adjacent : (f : ℕ) → 0 < f → f < c.faces → Inner c (c.adjacent f)
  inner-adjacent f z l = (snd.range.adjacents f l, λ e. let y : f ≡ 0 = sym (snd.adjacent-face f l) ∙ e in omega arith)

  -- the face that the load is in is one of those that hold it
  pub face-held : (f : ℕ) → f < c.faces → in_face c q f ≡ true → holding c q f ≡ true
  face-held f l e =
      let i = face-to c q f l e in
      let a = inner-adjacent f i.inner l in
      and_both (ltb 0 f) (in_circle c q f) (lt-ltb 0 f i.inner)
      (pos-test (subst Pos (Wn.circ-prev c snd q (c.adjacent f) a.0 a.1 ∙ sym (face-circ f)) (seat-hole c snd q (c.prev (c.adjacent f)) (face-seat c snd q f i))))

  -- ---- at the end of a search
  module _ (g : ℕ) (seat : Seat c snd q g) (w : Found) (m : Moment c snd q g [] w) (fan : Fan c snd q (ring_of [] w)) where
    faces-exactly : (f : ℕ) → f < c.faces → w.opened f ≡ holding c q f
    faces-exactly f l = same_test (w.opened f) (holding c q f) forth back
      where
        h : ℕ
        h = c.adjacent f

        forth : w.opened f ≡ true → holding c q f ≡ true
        forth u =
            let r = m.holes h (snd.range.adjacents f l) (ap w.opened (snd.adjacent-face f l) ∙ u) in
            and_both (ltb 0 f) (in_circle c q f) (lt-ltb 0 f (above_zero f (λ e. r.0 (snd.adjacent-face f l ∙ e)))) (pos-test (subst Pos (sym (face-circ f)) r.1))

        back : holding c q f ≡ true → w.opened f ≡ true
        back u =
            let r = and-true (ltb 0 f) (in_circle c q f) u in
            sym (ap w.opened (snd.adjacent-face f l)) ∙ W.all-opened c acc q g seat w m h (inner-adjacent f (ltb-true 0 f r.0) l) (subst Pos (face-circ f) (test-pos r.1))

    border-exactly : (x : ℕ) → x < c.half_edges → border c w.opened x ≡ border c (holding c q) x
    border-exactly x l =
        ap (λ (b : Bool). b && not (w.opened (c.face (partner x)))) (faces-exactly (c.face x) (snd.range.face-numbers x l))
        ∙ ap (λ (b : Bool). holding c q (c.face x) && not b) (faces-exactly (c.face (partner x)) (snd.range.face-numbers (partner x) (partner-in snd.range x l)))

    count_held : opened_count c w.opened ≡ count_below c.faces (holding c q)
    count_held = count-ext c.faces w.opened (holding c q) faces-exactly

    -- what stands in the list is a border
    left-of : (x : ℕ) → x < c.half_edges → 0 < times x w.listed → left_of c q x ≡ true
    left-of x l t =
        let s = W.listed-times c acc q g seat w m x l in
        let u = and-true (w.opened (c.face x)) (not (w.opened (c.face (partner x)))) (one-true (border c w.opened x) (omega arith)) in
        pos-test (subst Pos (Hm.sd-side c snd q x l) (W.strictly c acc q g seat w m x l u.0 (not-true (w.opened (c.face (partner x))) u.1)))

    -- a turn through opened faces goes through faces whose circle holds q
    turn-held : (n y x : ℕ) → y < c.half_edges → Turn c w.opened n y x → Turn c (holding c q) n y x
    turn-held zero y x l t = t
    turn-held (suc n) y x l (f, inl e) = (sym (faces-exactly (c.face y) (snd.range.face-numbers y l)) ∙ f, inl e)
    turn-held (suc n) y x l (f, inr t) =
        (sym (faces-exactly (c.face y) (snd.range.face-numbers y l)) ∙ f, inr (turn-held n (partner (c.next y)) x (partner-in snd.range (c.next y) (snd.range.nexts y l)) t))

    ended : Neighbourhood c q w (finished c w)
    unfolding finished
    ended =
        record {
          opened = faces-exactly;
          counted = count_held;
          below = in-range;
          borders = λ x l. many-reverse (eqb x) w.listed ∙ W.listed-times c acc q g seat w m x l ∙ ap one (border-exactly x l);
          ring = ring-map (λ x. x < c.half_edges) Tied (λ x y. c.origin (partner x) ≡ c.origin y) (reverse w.listed) (λ x y l r. sym r.meets) in-range rings;
          simple = origins-once c snd q g seat (reverse w.listed) back-fan in-range;
          left = each-reverse w.listed (each-standing w.listed as-found left-of);
          turns = ring-map (λ x. x < c.half_edges) Tied (Turn c (holding c q) (opened_count c w.opened)) (reverse w.listed) (λ x y l r. turn-held (opened_count c w.opened) x y l r.turns) in-range rings;
        }
      where
        Tied : ℕ → ℕ → Type 0
        Tied x y = Follows c w.opened (opened_count c w.opened) y x

        as-found : All c w.listed
        as-found = subst (All c) (append-nil w.listed) m.ranged

        in-range : All c (reverse w.listed)
        in-range = each-reverse w.listed as-found

        back-fan : Fan c snd q (reverse w.listed)
        back-fan = fan-reverse c snd q w.listed (subst (Fan c snd q) (append-nil w.listed) fan)

        rings : Ring (λ x y. Follows c w.opened (opened_count c w.opened) y x) (reverse w.listed)
        rings = ring-back (Follows c w.opened (opened_count c w.opened)) w.listed (subst (Ring (Follows c w.opened (opened_count c w.opened))) (append-nil w.listed) m.ring)

  -- ---- the searches: where they start, from a face and from an inner edge, once its face is opened
  record Begun (g : ℕ) (s : List ℕ) : Type 0 where
    pub seat : Seat c snd q g
    pub there : All c s
    pub moment : Moment c snd q g s (found (add (c.face g) none) [])
    pub fan : Fan c snd q (map partner s)

  from-seat : (g : ℕ) (s : List ℕ) → Seat c snd q g → All c s → map partner s ≡ c.prev g ∷ c.next g ∷ g ∷ [] → Begun g s
  from-seat g s seat r e =
      record { seat = seat; there = r; moment = begins c snd q g seat (seat-hole c snd q g seat) s e; fan = subst (Fan c snd q) (sym e) (first_fan c snd q g seat) }

  begun-found : (g : ℕ) (s : List ℕ) → Begun g s → let w = inspect_all c q s (found (add (c.face g) none) []) in Neighbourhood c q w (finished c w)
  begun-found g s b =
      let w = found (add (c.face g) none) [] in
      let t = search-leads c q snd.range s w b.there in
      ended g b.seat (inspect_all c q s w) (kept c snd q g t b.moment) (fans c snd q g t b.moment b.fan)

  -- the face of a half-edge that waits is not opened yet, at no moment of the search
  begun-once : (g : ℕ) (s : List ℕ) → Begun g s → (h : ℕ) (t : List ℕ) (v : Found) → Leads c q s (found (add (c.face g) none) []) (h ∷ t) v → h < c.half_edges → v.opened (c.face h) ≡ false
  begun-once g s b h t v m l = unopened c snd q g v.opened h (waits c snd q g h t v l (kept c snd q g m b.moment))

  -- from a face
  module _ (f : ℕ) (l : f < c.faces) (e : in_face c q f ≡ true) where
    abbrev a : ℕ
    a = c.adjacent f

    al : a < c.half_edges
    al = snd.range.adjacents f l

    own : c.face (c.prev a) ≡ f
    own = snd.prev-face a al ∙ snd.adjacent-face f l

    face-begun : Begun (c.prev a) (starts c f)
    face-begun =
        from-seat (c.prev a) (starts c f) (face-seat c snd q f (face-to c q f l e))
        (also (partner-in snd.range (c.next a) (snd.range.nexts a al)) (also (partner-in snd.range a al) (also (partner-in snd.range (c.prev a) (snd.range.prevs a al)) done)))
        (rw (partner-twice (c.next a), partner-twice a, partner-twice (c.prev a), Wn.prev-prev c snd q a al (inner-adjacent f (face-to c q f l e).inner l).1, snd.next-prev a al))

    face-found : Neighbourhood c q (face_search c q f) (finished c (face_search c q f))
    face-found =
        subst (λ (k : ℕ). let w = inspect_all c q (starts c f) (found (add k none) []) in Neighbourhood c q w (finished c w)) own (begun-found (c.prev a) (starts c f) face-begun)

    pub face-once : (h : ℕ) (t : List ℕ) (v : Found) → Leads c q (starts c f) (found (add f none) []) (h ∷ t) v → h < c.half_edges → v.opened (c.face h) ≡ false
    face-once h t v m =
        begun-once (c.prev a) (starts c f) face-begun h t v (subst (λ (k : ℕ). Leads c q (starts c f) (found (add k none) []) (h ∷ t) v) (sym own) m)

  -- from an inner edge: its face is opened first
  module _ (h : ℕ) (l : h < c.half_edges) (n : part_of_convex_hull c h ≡ false) (e : on_edge c q h ≡ true) where
    abbrev sides : List ℕ
    sides = partner (c.prev h) ∷ partner (c.next h) ∷ partner h ∷ []

    inner : (c.face h ≡ 0 → ⊥) × (c.face (partner h) ≡ 0 → ⊥)
    inner = let u = or-false (outer c h) (outer c (partner h)) n in (eqb-false (c.face h) 0 u.0, eqb-false (c.face (partner h)) 0 u.1)

    edge-begun : Begun h sides
    edge-begun =
        from-seat h sides (edge-seat c snd q h (edge_to c q h l e) inner.0 inner.1)
        (also (partner-in snd.range (c.prev h) (snd.range.prevs h l)) (also (partner-in snd.range (c.next h) (snd.range.nexts h l)) (also (partner-in snd.range h l) done)))
        (rw (partner-twice (c.prev h), partner-twice (c.next h), partner-twice h))

    flips : should_flip c q none h ≡ true
    unfolding none
    flips = parts-flip c snd q none h (l, inner.0) refl (seat-hole c snd q h edge-begun.seat)

    edge-found : Neighbourhood c q (edge_search c q h) (finished c (edge_search c q h))
    edge-found =
        subst (λ (w : Found). Neighbourhood c q w (finished c w)) (sym (all-open c q snd.range h (partner h ∷ []) (found none []) l flips)) (begun-found h sides edge-begun)

    pub edge-once : (k : ℕ) (t : List ℕ) (v : Found) → Leads c q (h ∷ partner h ∷ []) (found none []) (k ∷ t) v → k < c.half_edges → v.opened (c.face k) ≡ false
    unfolding none
    edge-once k t v stays m = refl
    edge-once k t v (opens i y r) m = begun-once h sides edge-begun k t v r m
    edge-once k t v (lists y r) m = absurd (false≢true (sym y ∙ flips))

  -- ---- the answer
  abbrev At : Location → Type 0
  At l = Neighbourhood c q (search_of c q l) (neighbors_of c q l)

  face-at : (f : ℕ) → f < c.faces → in_face c q f ≡ true → At (OnFace f)
  face-at f l e = subst (Neighbourhood c q (face_search c q f)) (sym (face-answer c q f)) (face-found f l e)

  edge_at : (h : ℕ) → h < c.half_edges → part_of_convex_hull c h ≡ false → on_edge c q h ≡ true → At (OnEdge h)
  edge_at h l n e =
      subst (Neighbourhood c q (search_of c q (OnEdge h))) (sym (edge-answer c q h n))
      (subst (λ (w : Found). Neighbourhood c q w (finished c w)) (sym (ap (λ (b : Bool). cond b (found none []) (edge_search c q h)) n)) (edge-found h l n e))

  -- an inner edge by either of its half-edges
  pub inner-too : (h k : ℕ) → part_of_convex_hull c h ≡ false → (k ≡ h) ⊎ (k ≡ partner h) → part_of_convex_hull c k ≡ false
  inner-too h k n (inl e) = rw e n
  inner-too h k n (inr e) = let u = or-false (outer c h) (outer c (partner h)) n in rw (e, partner-twice h, u.0, u.1)

  pub neighbourhood : Amid c q → Neighbourhood c q (search_of c q (location_of c q)) (neighbors_of c q (location_of c q))
  neighbourhood (inl (f, l, e)) = subst At (sym (face-location c q snd f l e)) (face-at f l e)
  neighbourhood (inr (h, l, n, e)) =
      let r = edge-location c q snd h l e in
      let k = located c q (OnEdge r.0) (sym r.1) in
      subst At (sym r.1) (edge_at r.0 k.0 (inner-too h r.0 n r.2) (and-true (even r.0) (on_edge c q r.0) k.1).1)
