-- What holds at each moment of a search (`Moment`): where it starts, and after each turn of its loop. Of every sound chart. Assumes nothing.
use Rattle.std.specs.Prelude.{◌≡◌, ◌⊎◌, ◌||◌, Bool, true, false, not, ◌&&◌, eqb, ℤ}
use Rattle.std.proofs.Math.Path.{refl, sym, ap}
use Rattle.std.proofs.Common.{subst, ◌∙◌, inl, inr, arith, eq-eqb, ne_eqb}
use Rattle.std.proofs.lemmas.Bool.{false≢true, not-true}
use mathlib.Core.List.{List, [], ◌∷◌, ◌++◌, map, append_assoc}
use Prim.Native.Nat.{ℕ, suc, ◌+◌, ◌<◌}
use Rattle.std.proofs.Math.Decide.{ℕ_discrete}
use Rattle.whole.specs.Bools.{and-true}
use Rattle.faceset.specs.Set.{none, add, one}
use Rattle.faceset.specs.Laws.{count_none, count-new}
use Rattle.geometry.specs.declared.Place.{Place}
use Rattle.chart.specs.Chart.{Chart, partner, partner-twice, partner-in}
use Rattle.sound.specs.Sound.{Sound, Inner}
use Rattle.flips.specs.Search.{Found, found, should_flip, opening, listing, opened_count}
use Rattle.flips.specs.Laws.{one_fewer}
use Rattle.neighbors.specs.Counting.{Leads}
use Rattle.neighbors.specs.Counting.Leads.{stays, opens, lists}
use Rattle.cavity.specs.Edge.{same-face, faces-differ}
use Rattle.signs.specs.Signs.{Pos, High}
use Rattle.signs.specs.Order.{pos-high}
use Rattle.neighbors.specs.Each.{Each, done, also, each_append, each_left, each_right, each-head, each_tail}
use Rattle.neighbourhood.specs.Rings.{how_many, times, many-append, tie, link, Ring, closed}
use Rattle.neighbourhood.proofs.Rings.{ring-split}
use Rattle.neighbourhood.specs.Turning.{Follows, follows-more, follows_next, follows-prev, follows-pair, follows-self, follows-last}
use Rattle.nearby.specs.Windows as Wn
use Rattle.neighbourhood.specs.Seat.{Seat}
use Rattle.neighbourhood.proofs.Opening as M
use Rattle.neighbourhood.specs.Opening.{border, ring_of, border-yes, one-true, flip-parts, parts-flip}
use Rattle.neighbourhood.specs.Opening as Op
use Rattle.neighbourhood.specs.Moment as S

module _ (c : Chart) (snd : Sound c) (q : Place) (g : ℕ) where
  abbrev sd : ℕ → ℤ
  sd = Wn.sd c snd q

  abbrev circ : ℕ → ℤ
  circ = Wn.circ c snd q

  abbrev Shut : ℕ → Type 0
  Shut = S.Shut c snd q g

  abbrev Moment : List ℕ → Found → Type 0
  Moment = S.Moment c snd q g

  -- ---- a half-edge that waits is behind a border
  pub waits : (e : ℕ) (s : List ℕ) (w : Found) → e < c.half_edges → Moment (e ∷ s) w → border c w.opened (partner e) ≡ true
  unfolding how_many
  waits e s w l m =
      let t : times (partner e) (w.listed ++ partner e ∷ map partner s) ≡ times (partner e) w.listed + (one (eqb (partner e) (partner e)) + times (partner e) (map partner s)) =
      many-append (eqb (partner e)) w.listed (partner e ∷ map partner s) in
      let u : one (eqb (partner e) (partner e)) ≡ 1 = ap one (eq-eqb (partner e) (partner e) refl) in
      let v = m.counted (partner e) (partner-in snd.range e l) in
      one-true (border c w.opened (partner e)) (omega arith)

  -- the face behind a border is not opened
  pub unopened : (o : ℕ → Bool) (e : ℕ) → border c o (partner e) ≡ true → o (c.face e) ≡ false
  unopened o e b =
      ap (λ (k : ℕ). o (c.face k)) (sym (partner-twice e))
      ∙ not-true (o (c.face (partner (partner e)))) (and-true (o (c.face (partner e))) (not (o (c.face (partner (partner e))))) b).1

  -- ---- a face is opened
  module _ (e : ℕ) (s : List ℕ) (w : Found) (l : e < c.half_edges) (y : should_flip c q w.opened e ≡ true) (m : Moment (e ∷ s) w) where
    i : Inner c e
    i = (flip-parts c snd q w.opened e l y).0

    new : w.opened (c.face e) ≡ false
    new = (flip-parts c snd q w.opened e l y).1

    hole : Pos (circ e)
    hole = (flip-parts c snd q w.opened e l y).2

    b : border c w.opened (partner e) ≡ true
    b = waits e s w l m

    more : (f : ℕ) → w.opened f ≡ true → add (c.face e) w.opened f ≡ true
    more = M.o'-more c snd q w.opened e i new hole b m.high

    now-open : add (c.face e) w.opened (c.face e) ≡ true
    now-open = M.o'-new c snd q w.opened e i new hole b m.high

    rest : List ℕ
    rest = map partner s

    -- the ring with prev and next for the partner
    pub two : w.listed ++ c.prev e ∷ c.next e ∷ map partner s ≡ ring_of (partner (c.prev e) ∷ partner (c.next e) ∷ s) (opening c e w)
    two =
        ap (λ (k : ℕ). w.listed ++ k ∷ c.next e ∷ map partner s) (sym (partner-twice (c.prev e)))
        ∙ ap (λ (k : ℕ). w.listed ++ partner (partner (c.prev e)) ∷ k ∷ map partner s) (sym (partner-twice (c.next e)))

    two-times : (x : ℕ) → x < c.half_edges → times x (w.listed ++ c.prev e ∷ c.next e ∷ map partner s) ≡ one (border c (add (c.face e) w.opened) x)
    unfolding how_many
    two-times x xl =
        many-append (eqb x) w.listed (c.prev e ∷ c.next e ∷ map partner s)
        ∙ M.bordered c snd q w.opened e i new hole b m.high x xl (times x w.listed) (times x (map partner s))
        (sym (many-append (eqb x) w.listed (partner e ∷ map partner s)) ∙ m.counted x xl)

    two-ring : Ring (Follows c (add (c.face e) w.opened) (suc (opened_count c w.opened))) (w.listed ++ c.prev e ∷ c.next e ∷ map partner s)
    two-ring =
        ring-split {P = Follows c w.opened (opened_count c w.opened)} {Q = Follows c (add (c.face e) w.opened) (suc (opened_count c w.opened))} {h = partner e} {a = c.prev e} {b = c.next e} w.listed (map partner s)
        (λ r. snd.ends-differ (partner e) (partner-in snd.range e l) r.meets)
        (follows-more c snd w.opened (add (c.face e) w.opened) more (opened_count c w.opened))
        (follows_next c snd w.opened (add (c.face e) w.opened) more (opened_count c w.opened) e i now-open)
        (follows-prev c snd w.opened (add (c.face e) w.opened) more (opened_count c w.opened) e i now-open)
        (follows-pair c snd w.opened (add (c.face e) w.opened) more (opened_count c w.opened) e i now-open (opened_count c w.opened))
        m.ring

    opened-more : opened_count c (add (c.face e) w.opened) ≡ suc (opened_count c w.opened)
    opened-more = (one_fewer c q snd.range w.opened e l y).0

    pub opens_kept : Moment (partner (c.prev e) ∷ partner (c.next e) ∷ s) (opening c e w)
    opens_kept =
        record {
          ranged = subst (Each (λ x. x < c.half_edges)) two
              (each_append (each_left w.listed (partner e ∷ map partner s) m.ranged)
              (also (snd.range.prevs e l) (also (snd.range.nexts e l) (each_tail (each_right w.listed (partner e ∷ map partner s) m.ranged)))));
          counted = λ x xl. ap (times x) (sym two) ∙ two-times x xl;
          high = M.still-high c snd q w.opened e i new hole b m.high;
          holes = M.still-holes c snd q w.opened e i new hole b m.high m.holes;
          begun = more (c.face g) m.begun;
          shut = m.shut;
          ring = subst (λ (n : ℕ). Ring (Follows c (add (c.face e) w.opened) n) (ring_of (partner (c.prev e) ∷ partner (c.next e) ∷ s) (opening c e w))) (sym opened-more)
              (subst (Ring (Follows c (add (c.face e) w.opened) (suc (opened_count c w.opened)))) two two-ring);
        }

  -- ---- an edge is listed
  module _ (e : ℕ) (s : List ℕ) (w : Found) (y : should_flip c q w.opened e ≡ false) (m : Moment (e ∷ s) w) where
    range-e : e < c.half_edges
    range-e =
        let h : partner e < c.half_edges = each-head (each_right w.listed (partner e ∷ map partner s) m.ranged) in
        subst (λ (k : ℕ). k < c.half_edges) (partner-twice e) (partner-in snd.range (partner e) h)

    shut-e : Shut (partner e)
    shut-e j p =
        let z = partner-twice e in
        let f = parts-flip c snd q w.opened e (range-e, λ u. j (ap c.face z ∙ u)) (unopened w.opened e (waits e s w range-e m)) (subst (λ (k : ℕ). Pos (circ k)) z p) in
        false≢true (sym y ∙ f)

    pub same : ring_of (e ∷ s) w ≡ ring_of s (listing e w)
    same = sym (append_assoc w.listed (partner e ∷ []) (map partner s))

    pub lists-kept : Moment s (listing e w)
    lists-kept =
        record {
          ranged = subst (Each (λ x. x < c.half_edges)) same m.ranged;
          counted = λ x xl. ap (times x) (sym same) ∙ m.counted x xl;
          high = m.high;
          holes = m.holes;
          begun = m.begun;
          shut = each_append m.shut (also shut-e done);
          ring = subst (Ring (Follows c w.opened (opened_count c w.opened))) same m.ring;
        }

  -- turns of the search keep it
  pub kept : {s t : List ℕ} {w v : Found} → Leads c q s w t v → Moment s w → Moment t v
  kept stays m = m
  kept {s = h ∷ s} {w = w} (opens l y r) m = kept r (opens_kept h s w l y m)
  kept {s = h ∷ s} {w = w} (lists y r) m = kept r (lists-kept h s w y m)

  -- ---- where the search starts: the face of g is opened, and behind its three sides nothing is
  module _ (seat : Seat c snd q g) (hole : Pos (circ g)) where
    ig : Inner c g
    ig = (seat.there, seat.inner)

    abbrev o₁ : ℕ → Bool
    o₁ = add (c.face g) none

    at_g : (f : ℕ) → f ≡ c.face g → o₁ f ≡ true
    unfolding add
    at_g f e = ap (λ (b : Bool). b || none f) (eq-eqb f (c.face g) e)

    off-g : (f : ℕ) → (f ≡ c.face g → ⊥) → o₁ f ≡ false
    unfolding add none
    off-g f e = ap (λ (b : Bool). b || none f) (ne_eqb f (c.face g) e)

    only-g : (f : ℕ) → o₁ f ≡ true → f ≡ c.face g
    only-g f e = pick (ℕ_discrete f (c.face g))
      where
        pick : Dec (f ≡ c.face g) → f ≡ c.face g
        pick (yes u) = u
        pick (no u) = absurd (false≢true (sym (off-g f u) ∙ e))

    abbrev three : List ℕ
    three = c.prev g ∷ c.next g ∷ g ∷ []

    three-times : (x : ℕ) → x < c.half_edges → times x three ≡ one (border c o₁ x)
    unfolding how_many
    three-times x xl = pick (ℕ_discrete (c.face x) (c.face g))
      where
        on : c.face x ≡ c.face g → one (border c o₁ x) ≡ 1
        on f =
            let ix : Inner c x = (xl, λ z. seat.inner (sym f ∙ z)) in
            ap one (border-yes (o₁ (c.face x)) (o₁ (c.face (partner x))) (at_g (c.face x) f)
            (off-g (c.face (partner x)) (λ u. faces-differ c snd x ix (partner-in snd.range x xl, λ z. seat.inner (sym u ∙ z)) (u ∙ sym f))))

        off : (c.face x ≡ c.face g → ⊥) → border c o₁ x ≡ false
        off f = ap (λ (b : Bool). b && not (o₁ (c.face (partner x)))) (off-g (c.face x) f)

        which : one (border c o₁ x) ≡ 1 → (x ≡ g) ⊎ ((x ≡ c.next g) ⊎ (x ≡ c.prev g)) → one (eqb x (c.prev g)) + (one (eqb x (c.next g)) + (one (eqb x g) + 0)) ≡ one (border c o₁ x)
        which z (inl u) =
            let y1 : one (eqb x (c.prev g)) ≡ 0 = ap one (ne_eqb x (c.prev g) (λ w. snd.prev-differs g seat.there (sym w ∙ u))) in
            let y2 : one (eqb x (c.next g)) ≡ 0 = ap one (ne_eqb x (c.next g) (λ w. snd.next-differs g seat.there (sym w ∙ u))) in
            let y3 : one (eqb x g) ≡ 1 = ap one (eq-eqb x g u) in
            omega arith
        which z (inr (inl u)) =
            let y1 : one (eqb x (c.prev g)) ≡ 0 = ap one (ne_eqb x (c.prev g) (λ w. snd.next-prev-differ g ig (sym u ∙ w))) in
            let y2 : one (eqb x (c.next g)) ≡ 1 = ap one (eq-eqb x (c.next g) u) in
            let y3 : one (eqb x g) ≡ 0 = ap one (ne_eqb x g (λ w. snd.next-differs g seat.there (sym u ∙ w))) in
            omega arith
        which z (inr (inr u)) =
            let y1 : one (eqb x (c.prev g)) ≡ 1 = ap one (eq-eqb x (c.prev g) u) in
            let y2 : one (eqb x (c.next g)) ≡ 0 = ap one (ne_eqb x (c.next g) (λ w. snd.next-prev-differ g ig (sym w ∙ u))) in
            let y3 : one (eqb x g) ≡ 0 = ap one (ne_eqb x g (λ w. snd.prev-differs g seat.there (sym u ∙ w))) in
            omega arith

        pick : Dec (c.face x ≡ c.face g) → one (eqb x (c.prev g)) + (one (eqb x (c.next g)) + (one (eqb x g) + 0)) ≡ one (border c o₁ x)
        pick (yes f) = which (on f) (same-face c snd g x ig (xl, λ z. seat.inner (sym f ∙ z)) f)
        pick (no f) =
            let y1 : one (eqb x (c.prev g)) ≡ 0 = ap one (ne_eqb x (c.prev g) (λ w. f (ap c.face w ∙ snd.prev-face g seat.there))) in
            let y2 : one (eqb x (c.next g)) ≡ 0 = ap one (ne_eqb x (c.next g) (λ w. f (ap c.face w ∙ snd.next-face g seat.there))) in
            let y3 : one (eqb x g) ≡ 0 = ap one (ne_eqb x g (λ w. f (ap c.face w))) in
            let z : one (border c o₁ x) ≡ 0 = ap one (off f) in
            omega arith

    one-open : opened_count c o₁ ≡ 1
    unfolding none
    one-open = count-new c.faces (c.face g) none (snd.range.face-numbers g seat.there) refl ∙ ap suc (count_none c.faces)

    wider : (f : ℕ) → o₁ f ≡ true → o₁ f ≡ true
    wider f e = e

    three-ring : Ring (Follows c o₁ 1) three
    three-ring =
        closed (link (follows-pair c snd o₁ o₁ wider 0 g ig (at_g (c.face g) refl) 0)
        (link (follows-self c snd o₁ o₁ wider 0 g ig (at_g (c.face g) refl) 0) (tie (follows-last c snd o₁ o₁ wider 0 g ig (at_g (c.face g) refl) 0))))

    high-g : (x : ℕ) → x < c.half_edges → border c o₁ x ≡ true → High (sd x)
    high-g x xl b = which (same-face c snd g x ig (xl, λ z. seat.inner (sym f ∙ z)) f)
      where
        f : c.face x ≡ c.face g
        f = only-g (c.face x) (and-true (o₁ (c.face x)) (not (o₁ (c.face (partner x)))) b).0

        which : (x ≡ g) ⊎ ((x ≡ c.next g) ⊎ (x ≡ c.prev g)) → High (sd x)
        which (inl u) = subst (λ (k : ℕ). High (sd k)) (sym u) seat.first
        which (inr (inl u)) = subst (λ (k : ℕ). High (sd k)) (sym u) (pos-high seat.second)
        which (inr (inr u)) = subst (λ (k : ℕ). High (sd k)) (sym u) (pos-high seat.third)

    -- the three sides wait
    pub begins : (s : List ℕ) → map partner s ≡ three → Moment s (found o₁ [])
    begins s e =
        record {
          ranged = subst (Each (λ x. x < c.half_edges)) (sym e) (also (snd.range.prevs g seat.there) (also (snd.range.nexts g seat.there) (also seat.there done)));
          counted = λ x xl. ap (times x) e ∙ three-times x xl;
          high = high-g;
          holes = λ x xl b. let f = only-g (c.face x) b in ((λ z. seat.inner (sym f ∙ z)), subst Pos (sym (Op.circ-face c snd q g x ig xl f)) hole);
          begun = at_g (c.face g) refl;
          shut = done;
          ring = subst (λ (n : ℕ). Ring (Follows c o₁ n) (map partner s)) (sym one-open) (subst (Ring (Follows c o₁ 1)) (sym e) three-ring);
        }
