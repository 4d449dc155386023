-- Triangles written into a wired chart in place of whole faces leave it wired. Assumes nothing.
use Rattle.std.specs.Prelude.{◌≡◌, ◌⊎◌, cond, List, eqb, ℤ}
use Rattle.std.proofs.Common.{sym, ◌∙◌, inl, inr, ne_eqb, lt_of_lt_of_le}
use Rattle.std.proofs.Math.Path.{ap, subst}
use Prim.Native.Nat.{ℕ, ◌+◌, ◌%◌, ◌≤◌, ◌<◌}
use Rattle.geometry.specs.declared.Place.{Place}
use Rattle.chart.specs.Chart.{Chart, partner}
use Rattle.sound.specs.Sound.{Inner, Outer}
use Rattle.patches.specs.declared.Row.{Row}
use Rattle.patches.specs.Rows.{turn, Hit, none, hit, hit_of, face_hit, cases, Distinct, Throughout, throughout, hit-key, hit-next, hit-prev, OfFace, same, once, twice, hit-face, face-key}
use Rattle.patches.specs.Wired.{Wired, prev-face}

-- ---- a column where a row is hit, and where none is
abbrev pub from_by : Hit → ℕ → ℕ
from_by none k = k
from_by (hit r) k = r.from

abbrev pub next_by : Hit → ℕ → ℕ
next_by none k = k
next_by (hit r) k = r.next

abbrev pub prev_by : Hit → ℕ → ℕ
prev_by none k = k
prev_by (hit r) k = r.prev

abbrev pub face_by : Hit → ℕ → ℕ
face_by none k = k
face_by (hit r) k = r.face

abbrev pub key_by : Hit → ℕ → ℕ
key_by none k = k
key_by (hit r) k = r.key

-- the columns of d are those of c with the triangles written in
pub record Written (c : Chart) (rs : List Row) (d : Chart) : Type 0 where
  pub origin-is : (h : ℕ) → d.origin h ≡ from_by (hit_of rs h) (c.origin h)
  pub next-is : (h : ℕ) → d.next h ≡ next_by (hit_of rs h) (c.next h)
  pub prev-is : (h : ℕ) → d.prev h ≡ prev_by (hit_of rs h) (c.prev h)
  pub face-is : (h : ℕ) → d.face h ≡ face_by (hit_of rs h) (c.face h)
  pub adjacent-is : (f : ℕ) → d.adjacent f ≡ key_by (face_hit rs f) (c.adjacent f)

-- a row that fits the chart
pub record RowIn (d : Chart) (r : Row) : Type 0 where
  pub key_in : r.key < d.half_edges
  pub face-in : r.face < d.faces
  pub inner : r.face ≡ 0 → ⊥
  pub from_in : r.from < d.vertices
  pub differ : r.from ≡ r.to → ⊥
  pub ends : d.origin (partner r.key) ≡ r.to

-- they take the place of whole faces, and all that is new is among them
pub record Patch (c : Chart) (rs : List Row) (d : Chart) : Type 0 where
  pub written : Written c rs d
  pub vertices-more : c.vertices ≤ d.vertices
  pub edges_more : c.half_edges ≤ d.half_edges
  pub faces-more : c.faces ≤ d.faces
  pub pairs : d.half_edges % 2 ≡ 0
  pub apart : Distinct rs
  pub fit : Throughout (RowIn d) rs
  pub new-edges : (h : ℕ) → h < d.half_edges → hit_of rs h ≡ none → h < c.half_edges
  pub new-faces : (f : ℕ) → f < d.faces → face_hit rs f ≡ none → f < c.faces
  pub whole : (h : ℕ) → h < c.half_edges → hit_of rs h ≡ none → face_hit rs (c.face h) ≡ none
  pub whole_back : (h : ℕ) → h < c.half_edges → face_hit rs (c.face h) ≡ none → hit_of rs h ≡ none
  pub ends-kept : (h : ℕ) → h < c.half_edges → hit_of rs h ≡ none → d.origin (partner h) ≡ c.origin (partner h)
  pub outs : (v : ℕ) → v < d.vertices → d.out v < d.half_edges
  pub out-start : (v : ℕ) → v < d.vertices → d.origin (d.out v) ≡ v

module _ (c d : Chart) (rs : List Row) (w : Wired c) (p : Patch c rs d) where
  -- ---- the columns at a half-edge that is missed
  pub origin-old : (h : ℕ) → hit_of rs h ≡ none → d.origin h ≡ c.origin h
  origin-old h e = p.written.origin-is h ∙ ap (λ (t : Hit). from_by t (c.origin h)) e

  pub next-old : (h : ℕ) → hit_of rs h ≡ none → d.next h ≡ c.next h
  next-old h e = p.written.next-is h ∙ ap (λ (t : Hit). next_by t (c.next h)) e

  pub prev-old : (h : ℕ) → hit_of rs h ≡ none → d.prev h ≡ c.prev h
  prev-old h e = p.written.prev-is h ∙ ap (λ (t : Hit). prev_by t (c.prev h)) e

  pub face-old : (h : ℕ) → hit_of rs h ≡ none → d.face h ≡ c.face h
  face-old h e = p.written.face-is h ∙ ap (λ (t : Hit). face_by t (c.face h)) e

  adjacent-old : (f : ℕ) → face_hit rs f ≡ none → d.adjacent f ≡ c.adjacent f
  adjacent-old f e = p.written.adjacent-is f ∙ ap (λ (t : Hit). key_by t (c.adjacent f)) e

  -- ---- and at one that is hit
  pub origin-new : (h : ℕ) (x : Row) → hit_of rs h ≡ hit x → d.origin h ≡ x.from
  origin-new h x e = p.written.origin-is h ∙ ap (λ (t : Hit). from_by t (c.origin h)) e

  pub next-new : (h : ℕ) (x : Row) → hit_of rs h ≡ hit x → d.next h ≡ x.next
  next-new h x e = p.written.next-is h ∙ ap (λ (t : Hit). next_by t (c.next h)) e

  pub prev-new : (h : ℕ) (x : Row) → hit_of rs h ≡ hit x → d.prev h ≡ x.prev
  prev-new h x e = p.written.prev-is h ∙ ap (λ (t : Hit). prev_by t (c.prev h)) e

  pub face-new : (h : ℕ) (x : Row) → hit_of rs h ≡ hit x → d.face h ≡ x.face
  face-new h x e = p.written.face-is h ∙ ap (λ (t : Hit). face_by t (c.face h)) e

  adjacent-new : (f : ℕ) (x : Row) → face_hit rs f ≡ hit x → d.adjacent f ≡ x.key
  adjacent-new f x e = p.written.adjacent-is f ∙ ap (λ (t : Hit). key_by t (c.adjacent f)) e

  row_in : (h : ℕ) (x : Row) → hit_of rs h ≡ hit x → RowIn d x
  row_in h x e = throughout (RowIn d) rs h x p.fit e

  -- ---- next and prev of a missed half-edge are missed
  next-missed : (h : ℕ) → h < c.half_edges → hit_of rs h ≡ none → hit_of rs (c.next h) ≡ none
  next-missed h l e = p.whole_back (c.next h) (w.nexts h l) (subst (λ (f : ℕ). face_hit rs f ≡ none) (sym (w.next-face h l)) (p.whole h l e))

  prev-missed : (h : ℕ) → h < c.half_edges → hit_of rs h ≡ none → hit_of rs (c.prev h) ≡ none
  prev-missed h l e = p.whole_back (c.prev h) (w.prevs h l) (subst (λ (f : ℕ). face_hit rs f ≡ none) (sym (prev-face c w h l)) (p.whole h l e))

  -- ---- where a half-edge ends, and what is across
  pub end-new : (h : ℕ) (x : Row) → hit_of rs h ≡ hit x → d.origin (partner h) ≡ x.to
  end-new h x e = ap (λ (k : ℕ). d.origin (partner k)) (sym (hit-key rs h x e)) ∙ (row_in h x e).ends

  pub apex-new : (h : ℕ) (x : Row) → hit_of rs h ≡ hit x → d.origin (d.prev h) ≡ x.apex
  apex-new h x e = ap d.origin (prev-new h x e) ∙ origin-new x.prev (turn (turn x)) (hit-prev rs h x p.apart e)

  pub apex-old : (h : ℕ) → h < c.half_edges → hit_of rs h ≡ none → d.origin (d.prev h) ≡ c.origin (c.prev h)
  apex-old h l e = ap d.origin (prev-old h e) ∙ origin-old (c.prev h) (prev-missed h l e)

  pub inner-old : (h : ℕ) → hit_of rs h ≡ none → Inner d h → Inner c h
  inner-old h e (l, i) = (p.new-edges h l e, λ z. i (face-old h e ∙ z))

  pub outer-missed : (h : ℕ) → Outer d h → (hit_of rs h ≡ none) × Outer c h
  outer-missed h (l, o) =
      cases (hit_of rs h) ((hit_of rs h ≡ none) × Outer c h) (λ e. (e, (p.new-edges h l e, sym (face-old h e) ∙ o)))
      (λ x e. absurd ((row_in h x e).inner (sym (face-new h x e) ∙ o)))

  starts : (h : ℕ) → h < d.half_edges → d.origin (d.next h) ≡ d.origin (partner h)
  starts h l =
      cases (hit_of rs h) (d.origin (d.next h) ≡ d.origin (partner h))
      (λ e.
      let m = p.new-edges h l e in
      ap d.origin (next-old h e) ∙ origin-old (c.next h) (next-missed h m e) ∙ w.next_start h m ∙ sym (p.ends-kept h m e))
      (λ x e. ap d.origin (next-new h x e) ∙ origin-new x.next (turn x) (hit-next rs h x p.apart e) ∙ sym (end-new h x e))

  back : (h : ℕ) → h < d.half_edges → d.prev (d.next h) ≡ h
  back h l =
      cases (hit_of rs h) (d.prev (d.next h) ≡ h)
      (λ e. let m = p.new-edges h l e in ap d.prev (next-old h e) ∙ prev-old (c.next h) (next-missed h m e) ∙ w.prev-next h m)
      (λ x e. ap d.prev (next-new h x e) ∙ prev-new x.next (turn x) (hit-next rs h x p.apart e) ∙ hit-key rs h x e)

  forth : (h : ℕ) → h < d.half_edges → d.next (d.prev h) ≡ h
  forth h l =
      cases (hit_of rs h) (d.next (d.prev h) ≡ h)
      (λ e. let m = p.new-edges h l e in ap d.next (prev-old h e) ∙ next-old (c.prev h) (prev-missed h m e) ∙ w.next-prev h m)
      (λ x e. ap d.next (prev-new h x e) ∙ next-new x.prev (turn (turn x)) (hit-prev rs h x p.apart e) ∙ hit-key rs h x e)

  keeps : (h : ℕ) → h < d.half_edges → d.face (d.next h) ≡ d.face h
  keeps h l =
      cases (hit_of rs h) (d.face (d.next h) ≡ d.face h)
      (λ e. let m = p.new-edges h l e in ap d.face (next-old h e) ∙ face-old (c.next h) (next-missed h m e) ∙ w.next-face h m ∙ sym (face-old h e))
      (λ x e. ap d.face (next-new h x e) ∙ face-new x.next (turn x) (hit-next rs h x p.apart e) ∙ sym (face-new h x e))

  twice-next : (h : ℕ) → Inner d h → d.next (d.next h) ≡ d.prev h
  twice-next h i =
      cases (hit_of rs h) (d.next (d.next h) ≡ d.prev h)
      (λ e.
      let j = inner-old h e i in
      ap d.next (next-old h e) ∙ next-old (c.next h) (next-missed h j.0 e) ∙ w.next-next h j ∙ sym (prev-old h e))
      (λ x e. ap d.next (next-new h x e) ∙ next-new x.next (turn x) (hit-next rs h x p.apart e) ∙ sym (prev-new h x e))

  apart-ends : (h : ℕ) → h < d.half_edges → d.origin h ≡ d.origin (partner h) → ⊥
  apart-ends h l q =
      cases (hit_of rs h) ⊥ (λ e. let m = p.new-edges h l e in w.ends-differ h m (sym (origin-old h e) ∙ q ∙ p.ends-kept h m e))
      (λ x e. (row_in h x e).differ (sym (origin-new h x e) ∙ q ∙ end-new h x e))

  one-leaves : (h k : ℕ) → Outer d h → Outer d k → d.origin h ≡ d.origin k → h ≡ k
  one-leaves h k o q e =
      let a = outer-missed h o in
      let b = outer-missed k q in
      w.lone h k a.1 b.1 (sym (origin-old h a.0) ∙ e ∙ origin-old k b.0)

  has-face : (f : ℕ) → f < d.faces → d.face (d.adjacent f) ≡ f
  has-face f l =
      cases (face_hit rs f) (d.face (d.adjacent f) ≡ f)
      (λ e.
      let m = p.new-faces f l e in
      let n = p.whole_back (c.adjacent f) (w.adjacents f m) (subst (λ (g : ℕ). face_hit rs g ≡ none) (sym (w.adjacent-face f m)) e) in
      ap d.face (adjacent-old f e) ∙ face-old (c.adjacent f) n ∙ w.adjacent-face f m)
      (λ x e. let k = face-key rs f x p.apart e in ap d.face (adjacent-new f x e) ∙ face-new x.key x k.0 ∙ k.1)

  Three : ℕ → Type 0
  Three h = (h ≡ d.adjacent (d.face h)) ⊎ ((h ≡ d.next (d.adjacent (d.face h))) ⊎ (h ≡ d.prev (d.adjacent (d.face h))))

  three-old : (h : ℕ) → Inner c h → hit_of rs h ≡ none → Three h
  unfolding Three
  three-old h i e = pick (w.of-face h i)
    where
      A : ℕ
      A = c.adjacent (c.face h)

      f-in : c.face h < c.faces
      f-in = w.face-numbers h i.0

      A-is : d.adjacent (d.face h) ≡ A
      A-is = ap d.adjacent (face-old h e) ∙ adjacent-old (c.face h) (p.whole h i.0 e)

      A-missed : hit_of rs A ≡ none
      A-missed = p.whole_back A (w.adjacents (c.face h) f-in) (subst (λ (g : ℕ). face_hit rs g ≡ none) (sym (w.adjacent-face (c.face h) f-in)) (p.whole h i.0 e))

      pick : (h ≡ A) ⊎ ((h ≡ c.next A) ⊎ (h ≡ c.prev A)) → (h ≡ d.adjacent (d.face h)) ⊎ ((h ≡ d.next (d.adjacent (d.face h))) ⊎ (h ≡ d.prev (d.adjacent (d.face h))))
      pick (inl x) = inl (x ∙ sym A-is)
      pick (inr (inl x)) = inr (inl (x ∙ sym (ap d.next A-is ∙ next-old A A-missed)))
      pick (inr (inr x)) = inr (inr (x ∙ sym (ap d.prev A-is ∙ prev-old A A-missed)))

  three-new : (h : ℕ) (x : Row) → hit_of rs h ≡ hit x → Three h
  unfolding Three
  three-new h x e = pick (hit-face rs h x p.apart e)
    where
      A-is : (t : Row) → face_hit rs x.face ≡ hit t → d.adjacent (d.face h) ≡ t.key
      A-is t f = ap d.adjacent (face-new h x e) ∙ adjacent-new x.face t f

      pick : OfFace rs x → (h ≡ d.adjacent (d.face h)) ⊎ ((h ≡ d.next (d.adjacent (d.face h))) ⊎ (h ≡ d.prev (d.adjacent (d.face h))))
      pick (same t f k q) = inl (sym (hit-key rs h x e) ∙ ap (λ (y : Row). y.key) (sym q) ∙ sym (A-is t f))
      pick (once t f k q) = inr (inl (sym (hit-key rs h x e) ∙ ap (λ (y : Row). y.key) (sym q) ∙ sym (ap d.next (A-is t f) ∙ next-new t.key t k)))
      pick (twice t f k q) = inr (inr (sym (hit-key rs h x e) ∙ ap (λ (y : Row). y.key) (sym q) ∙ sym (ap d.prev (A-is t f) ∙ prev-new t.key t k)))

  pub patched : Wired d
  unfolding Three
  patched =
      record {
        origins =
            λ h l.
            cases (hit_of rs h) (d.origin h < d.vertices)
            (λ e. subst (λ (v : ℕ). v < d.vertices) (sym (origin-old h e)) (lt_of_lt_of_le (w.origins h (p.new-edges h l e)) p.vertices-more))
            (λ x e. subst (λ (v : ℕ). v < d.vertices) (sym (origin-new h x e)) (row_in h x e).from_in);
        nexts =
            λ h l.
            cases (hit_of rs h) (d.next h < d.half_edges)
            (λ e. subst (λ (v : ℕ). v < d.half_edges) (sym (next-old h e)) (lt_of_lt_of_le (w.nexts h (p.new-edges h l e)) p.edges_more))
            (λ x e. subst (λ (v : ℕ). v < d.half_edges) (sym (next-new h x e)) (row_in x.next (turn x) (hit-next rs h x p.apart e)).key_in);
        prevs =
            λ h l.
            cases (hit_of rs h) (d.prev h < d.half_edges)
            (λ e. subst (λ (v : ℕ). v < d.half_edges) (sym (prev-old h e)) (lt_of_lt_of_le (w.prevs h (p.new-edges h l e)) p.edges_more))
            (λ x e. subst (λ (v : ℕ). v < d.half_edges) (sym (prev-new h x e)) (row_in x.prev (turn (turn x)) (hit-prev rs h x p.apart e)).key_in);
        face-numbers =
            λ h l.
            cases (hit_of rs h) (d.face h < d.faces)
            (λ e. subst (λ (v : ℕ). v < d.faces) (sym (face-old h e)) (lt_of_lt_of_le (w.face-numbers h (p.new-edges h l e)) p.faces-more))
            (λ x e. subst (λ (v : ℕ). v < d.faces) (sym (face-new h x e)) (row_in h x e).face-in);
        adjacents =
            λ f l.
            cases (face_hit rs f) (d.adjacent f < d.half_edges)
            (λ e. subst (λ (v : ℕ). v < d.half_edges) (sym (adjacent-old f e)) (lt_of_lt_of_le (w.adjacents f (p.new-faces f l e)) p.edges_more))
            (λ x e. subst (λ (v : ℕ). v < d.half_edges) (sym (adjacent-new f x e)) (row_in x.key x (face-key rs f x p.apart e).0).key_in);
        outs = p.outs;
        pairs = p.pairs;
        next_start = starts;
        prev-next = back;
        next-prev = forth;
        next-face = keeps;
        next-next = twice-next;
        ends-differ = apart-ends;
        lone = one-leaves;
        adjacent-face = has-face;
        of-face = λ h i. cases (hit_of rs h) (Three h) (λ e. three-old h (inner-old h e i) e) (λ x e. three-new h x e);
        out-start = p.out-start;
      }

-- ---- a chart with triangles written in
abbrev pub put : ℕ → ℕ → (ℕ → ℕ) → ℕ → ℕ
put k x f h = cond (eqb h k) x (f h)

pub put_other : (k x : ℕ) (f : ℕ → ℕ) (h : ℕ) → (h ≡ k → ⊥) → put k x f h ≡ f h
put_other k x f h n = simp (ne_eqb h k n)

abbrev pub with_rows : Chart → List Row → (ℕ → ℕ) → Chart
with_rows c rs out =
    record {
      vertices = c.vertices;
      half_edges = c.half_edges;
      faces = c.faces;
      place = c.place;
      value = c.value;
      out = out;
      origin = λ h. from_by (hit_of rs h) (c.origin h);
      next = λ h. next_by (hit_of rs h) (c.next h);
      prev = λ h. prev_by (hit_of rs h) (c.prev h);
      face = λ h. face_by (hit_of rs h) (c.face h);
      adjacent = λ f. key_by (face_hit rs f) (c.adjacent f);
    }

-- the chart with one vertex, six half-edges and two faces more, and triangles written in
abbrev pub grown_with : Chart → List Row → (ℕ → ℕ) → Place → ℤ → Chart
grown_with c rs out q z =
    record {
      vertices = c.vertices + 1;
      half_edges = c.half_edges + 6;
      faces = c.faces + 2;
      place = λ v. cond (eqb v c.vertices) q (c.place v);
      value = λ v. cond (eqb v c.vertices) z (c.value v);
      out = out;
      origin = λ h. from_by (hit_of rs h) (c.origin h);
      next = λ h. next_by (hit_of rs h) (c.next h);
      prev = λ h. prev_by (hit_of rs h) (c.prev h);
      face = λ h. face_by (hit_of rs h) (c.face h);
      adjacent = λ f. key_by (face_hit rs f) (c.adjacent f);
    }
