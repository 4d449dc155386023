-- Triangles that are written into a chart: each is a row, seen from its first half-edge. Assumes nothing.
use Rattle.std.specs.Prelude.{◌≡◌, refl, Bool, true, false, cond, List, [], ◌∷◌, ℕ, eqb}
use Rattle.std.proofs.Common.{sym, ap, subst, ◌∙◌, eqb-true, eq-eqb, ne_eqb}
use Rattle.std.proofs.lemmas.Bool.{eqb-false}
use Rattle.whole.specs.Bools.{never}
use Rattle.chart.specs.Chart.{Chart}
use Rattle.patches.specs.declared.Row.{Row}

-- the same triangle, seen from the next half-edge
abbrev pub turn : Row → Row
turn r =
    record {
      key = r.next;
      next = r.prev;
      prev = r.key;
      face = r.face;
      from = r.to;
      to = r.apex;
      apex = r.from;
    }

-- by its numbers: half-edge, next, prev and face; where it starts, where it ends, and across
abbrev pub row_from : ℕ → ℕ → ℕ → ℕ → ℕ → ℕ → ℕ → Row
row_from h n p f a b c = record { key = h; next = n; prev = p; face = f; from = a; to = b; apex = c }

-- of a half-edge of a chart, as it stands
abbrev pub row_at : Chart → ℕ → Row
row_at c h = row_from h (c.next h) (c.prev h) (c.face h) (c.origin h) (c.origin (c.next h)) (c.origin (c.prev h))

-- ---- the row of a half-edge among triangles
pub data Hit : Type 0 where
  none : Hit
  hit : Row → Hit

unfoldable pub hit_of : List Row → ℕ → Hit
hit_of [] h = none
hit_of (r ∷ rs) h =
    cond (eqb h r.key) (hit r) (cond (eqb h r.next) (hit (turn r)) (cond (eqb h r.prev) (hit (turn (turn r))) (hit_of rs h)))

-- the triangle of a face
unfoldable pub face_hit : List Row → ℕ → Hit
face_hit [] f = none
face_hit (r ∷ rs) f = cond (eqb f r.face) (hit r) (face_hit rs f)

pub not_none : {X : Type 0} {r : Row} → none ≡ hit r → X
not_none e = never (cc)

pub cases : (h : Hit) → (C : Type 0) → (h ≡ none → C) → ((r : Row) → h ≡ hit r → C) → C
cases none C f g = f refl
cases (hit r) C f g = g r refl

-- how the first triangle can be hit, or a later one
pub data Cons (r : Row) (rs : List Row) (h : ℕ) (x : Row) : Type 0 where
  one : h ≡ r.key → r ≡ x → Cons r rs h x
  two : h ≡ r.next → turn r ≡ x → Cons r rs h x
  three : h ≡ r.prev → turn (turn r) ≡ x → Cons r rs h x
  rest : hit_of rs h ≡ hit x → Cons r rs h x

pub hit-cons : (r : Row) (rs : List Row) (h : ℕ) (x : Row) → hit_of (r ∷ rs) h ≡ hit x → Cons r rs h x
unfolding hit_of
hit-cons r rs h x e = go (eqb h r.key) refl (eqb h r.next) refl (eqb h r.prev) refl e
  where
    go : (a : Bool) → eqb h r.key ≡ a → (b : Bool) → eqb h r.next ≡ b → (d : Bool) → eqb h r.prev ≡ d
        → cond a (hit r) (cond b (hit (turn r)) (cond d (hit (turn (turn r))) (hit_of rs h))) ≡ hit x → Cons r rs h x
    go true p b q d s w = one (eqb-true h r.key p) (cc)
    go false p true q d s w = two (eqb-true h r.next q) (cc)
    go false p false q true s w = three (eqb-true h r.prev s) (cc)
    go false p false q false s w = rest w

-- ---- and the other way
pub at_key : (r : Row) (rs : List Row) → hit_of (r ∷ rs) r.key ≡ hit r
unfolding hit_of
at_key r rs = simp (eq-eqb r.key r.key refl)

pub at_next : (r : Row) (rs : List Row) → (r.next ≡ r.key → ⊥) → hit_of (r ∷ rs) r.next ≡ hit (turn r)
unfolding hit_of
at_next r rs n = simp (ne_eqb r.next r.key n, eq-eqb r.next r.next refl)

pub at-prev : (r : Row) (rs : List Row) → (r.prev ≡ r.key → ⊥) → (r.prev ≡ r.next → ⊥) → hit_of (r ∷ rs) r.prev ≡ hit (turn (turn r))
unfolding hit_of
at-prev r rs n m = simp (ne_eqb r.prev r.key n, ne_eqb r.prev r.next m, eq-eqb r.prev r.prev refl)

pub at_rest : (r : Row) (rs : List Row) (h : ℕ) → (h ≡ r.key → ⊥) → (h ≡ r.next → ⊥) → (h ≡ r.prev → ⊥) → hit_of (r ∷ rs) h ≡ hit_of rs h
unfolding hit_of
at_rest r rs h a b d = simp (ne_eqb h r.key a, ne_eqb h r.next b, ne_eqb h r.prev d)

pub at-nil : (h : ℕ) → hit_of [] h ≡ none
unfolding hit_of
at-nil h = refl

pub face-here : (r : Row) (rs : List Row) → face_hit (r ∷ rs) r.face ≡ hit r
unfolding face_hit
face-here r rs = simp (eq-eqb r.face r.face refl)

pub face-rest : (r : Row) (rs : List Row) (f : ℕ) → (f ≡ r.face → ⊥) → face_hit (r ∷ rs) f ≡ face_hit rs f
unfolding face_hit
face-rest r rs f n = simp (ne_eqb f r.face n)

pub face-nil : (f : ℕ) → face_hit [] f ≡ none
unfolding face_hit
face-nil f = refl

-- what is missed by all is none of the first
pub record Missed (r : Row) (rs : List Row) (h : ℕ) : Type 0 where
  pub key : h ≡ r.key → ⊥
  pub next : h ≡ r.next → ⊥
  pub prev : h ≡ r.prev → ⊥
  pub rest : hit_of rs h ≡ none

pub missed : (r : Row) (rs : List Row) (h : ℕ) → hit_of (r ∷ rs) h ≡ none → Missed r rs h
unfolding hit_of
missed r rs h e = go (eqb h r.key) refl (eqb h r.next) refl (eqb h r.prev) refl e
  where
    go : (a : Bool) → eqb h r.key ≡ a → (b : Bool) → eqb h r.next ≡ b → (d : Bool) → eqb h r.prev ≡ d
        → cond a (hit r) (cond b (hit (turn r)) (cond d (hit (turn (turn r))) (hit_of rs h))) ≡ none → Missed r rs h
    go true p b q d s w = not_none (sym w)
    go false p true q d s w = not_none (sym w)
    go false p false q true s w = not_none (sym w)
    go false p false q false s w = record { key = eqb-false h r.key p; next = eqb-false h r.next q; prev = eqb-false h r.prev s; rest = w }

pub face-missed : (r : Row) (rs : List Row) (f : ℕ) → face_hit (r ∷ rs) f ≡ none → (f ≡ r.face → ⊥) × (face_hit rs f ≡ none)
unfolding face_hit
face-missed r rs f e = go (eqb f r.face) refl e
  where
    go : (a : Bool) → eqb f r.face ≡ a → cond a (hit r) (face_hit rs f) ≡ none → (f ≡ r.face → ⊥) × (face_hit rs f ≡ none)
    go true p w = not_none (sym w)
    go false p w = (eqb-false f r.face p, w)

pub face-cons : (r : Row) (rs : List Row) (f : ℕ) (x : Row) → face_hit (r ∷ rs) f ≡ hit x → (C : Type 0) → (f ≡ r.face → r ≡ x → C) → (face_hit rs f ≡ hit x → C) → C
unfolding face_hit
face-cons r rs f x e C g k = go (eqb f r.face) refl e
  where
    go : (a : Bool) → eqb f r.face ≡ a → cond a (hit r) (face_hit rs f) ≡ hit x → C
    go true p w = g (eqb-true f r.face p) (cc)
    go false p w = k w

-- ---- triangles none of whose half-edges and faces are one
pub record DistinctFrom (r : Row) (rs : List Row) : Type 0 where
  pub next-key : r.next ≡ r.key → ⊥
  pub prev-key : r.prev ≡ r.key → ⊥
  pub prev-next : r.prev ≡ r.next → ⊥
  pub key-out : hit_of rs r.key ≡ none
  pub next-out : hit_of rs r.next ≡ none
  pub prev-out : hit_of rs r.prev ≡ none
  pub face-out : face_hit rs r.face ≡ none

pub data Distinct : List Row → Type 0 where
  nil : Distinct []
  cons : {r : Row} {rs : List Row} → DistinctFrom r rs → Distinct rs → Distinct (r ∷ rs)

-- a fact of each half-edge of each triangle
pub data Throughout (P : Row → Type 0) : List Row → Type 0 where
  nil : Throughout P []
  cons : {r : Row} {rs : List Row} → P r → P (turn r) → P (turn (turn r)) → Throughout P rs → Throughout P (r ∷ rs)

pub throughout : (P : Row → Type 0) (rs : List Row) (h : ℕ) (x : Row) → Throughout P rs → hit_of rs h ≡ hit x → P x
throughout P [] h x nil e = not_none (sym (at-nil h) ∙ e)
throughout P (r ∷ rs) h x (cons a b d t) e = go (λ q. throughout P rs h x t q) (hit-cons r rs h x e)
  where
    go : (hit_of rs h ≡ hit x → P x) → Cons r rs h x → P x
    go ih (one p q) = subst P q a
    go ih (two p q) = subst P q b
    go ih (three p q) = subst P q d
    go ih (rest q) = ih q

-- the row that is hit begins with the half-edge
pub hit-key : (rs : List Row) (h : ℕ) (x : Row) → hit_of rs h ≡ hit x → x.key ≡ h
hit-key [] h x e = not_none (sym (at-nil h) ∙ e)
hit-key (r ∷ rs) h x e = go (λ q. hit-key rs h x q) (hit-cons r rs h x e)
  where
    go : (hit_of rs h ≡ hit x → x.key ≡ h) → Cons r rs h x → x.key ≡ h
    go ih (one p q) = ap (λ (y : Row). y.key) (sym q) ∙ sym p
    go ih (two p q) = ap (λ (y : Row). y.key) (sym q) ∙ sym p
    go ih (three p q) = ap (λ (y : Row). y.key) (sym q) ∙ sym p
    go ih (rest q) = ih q

-- a hit in the later triangles is a hit
later : (r : Row) (rs : List Row) (h : ℕ) (x : Row) → DistinctFrom r rs → hit_of rs h ≡ hit x → hit_of (r ∷ rs) h ≡ hit x
later r rs h x a e =
    at_rest r rs h (λ p. not_none (sym a.key-out ∙ ap (hit_of rs) (sym p) ∙ e)) (λ p. not_none (sym a.next-out ∙ ap (hit_of rs) (sym p) ∙ e))
    (λ p. not_none (sym a.prev-out ∙ ap (hit_of rs) (sym p) ∙ e))
    ∙ e

-- the next half-edge's row is the row turned
pub hit-next : (rs : List Row) (h : ℕ) (x : Row) → Distinct rs → hit_of rs h ≡ hit x → hit_of rs x.next ≡ hit (turn x)
hit-next [] h x nil e = not_none (sym (at-nil h) ∙ e)
hit-next (r ∷ rs) h x (cons a t) e = go (λ q. hit-next rs h x t q) (hit-cons r rs h x e)
  where
    go : (hit_of rs h ≡ hit x → hit_of rs x.next ≡ hit (turn x)) → Cons r rs h x → hit_of (r ∷ rs) x.next ≡ hit (turn x)
    go ih (one p q) = subst (λ (y : Row). hit_of (r ∷ rs) y.next ≡ hit (turn y)) q (at_next r rs a.next-key)
    go ih (two p q) = subst (λ (y : Row). hit_of (r ∷ rs) y.next ≡ hit (turn y)) q (at-prev r rs a.prev-key a.prev-next)
    go ih (three p q) = subst (λ (y : Row). hit_of (r ∷ rs) y.next ≡ hit (turn y)) q (at_key r rs)
    go ih (rest q) = later r rs x.next (turn x) a (ih q)

-- and the previous half-edge's
pub hit-prev : (rs : List Row) (h : ℕ) (x : Row) → Distinct rs → hit_of rs h ≡ hit x → hit_of rs x.prev ≡ hit (turn (turn x))
hit-prev rs h x a e = hit-next rs x.next (turn x) a (hit-next rs h x a e)

-- the triangle of a row's face: the row itself, or the row turned once or twice
pub data OfFace (rs : List Row) (x : Row) : Type 0 where
  same : (t : Row) → face_hit rs x.face ≡ hit t → hit_of rs t.key ≡ hit t → t ≡ x → OfFace rs x
  once : (t : Row) → face_hit rs x.face ≡ hit t → hit_of rs t.key ≡ hit t → turn t ≡ x → OfFace rs x
  twice : (t : Row) → face_hit rs x.face ≡ hit t → hit_of rs t.key ≡ hit t → turn (turn t) ≡ x → OfFace rs x

face-later : (r : Row) (rs : List Row) (f : ℕ) (x : Row) → DistinctFrom r rs → face_hit rs f ≡ hit x → face_hit (r ∷ rs) f ≡ hit x
face-later r rs f x a e = face-rest r rs f (λ p. not_none (sym a.face-out ∙ ap (face_hit rs) (sym p) ∙ e)) ∙ e

pub hit-face : (rs : List Row) (h : ℕ) (x : Row) → Distinct rs → hit_of rs h ≡ hit x → OfFace rs x
hit-face [] h x nil e = not_none (sym (at-nil h) ∙ e)
hit-face (r ∷ rs) h x (cons a t) e = go (λ q. hit-face rs h x t q) (hit-cons r rs h x e)
  where
    more : OfFace rs x → OfFace (r ∷ rs) x
    more (same y p k q) = same y (face-later r rs x.face y a p) (later r rs y.key y a k) q
    more (once y p k q) = once y (face-later r rs x.face y a p) (later r rs y.key y a k) q
    more (twice y p k q) = twice y (face-later r rs x.face y a p) (later r rs y.key y a k) q

    go : (hit_of rs h ≡ hit x → OfFace rs x) → Cons r rs h x → OfFace (r ∷ rs) x
    go ih (one p q) = same r (subst (λ (y : Row). face_hit (r ∷ rs) y.face ≡ hit r) q (face-here r rs)) (at_key r rs) q
    go ih (two p q) = once r (subst (λ (y : Row). face_hit (r ∷ rs) y.face ≡ hit r) q (face-here r rs)) (at_key r rs) q
    go ih (three p q) = twice r (subst (λ (y : Row). face_hit (r ∷ rs) y.face ≡ hit r) q (face-here r rs)) (at_key r rs) q
    go ih (rest q) = more (ih q)

-- a face's triangle begins with a half-edge that is hit, and has that face
pub face-key : (rs : List Row) (f : ℕ) (x : Row) → Distinct rs → face_hit rs f ≡ hit x → (hit_of rs x.key ≡ hit x) × (x.face ≡ f)
face-key [] f x nil e = not_none (sym (face-nil f) ∙ e)
face-key (r ∷ rs) f x (cons a t) e =
    face-cons r rs f x e ((hit_of (r ∷ rs) x.key ≡ hit x) × (x.face ≡ f))
    (λ p q. (subst (λ (y : Row). hit_of (r ∷ rs) y.key ≡ hit y) q (at_key r rs), ap (λ (y : Row). y.face) (sym q) ∙ sym p))
    (λ q. let i = face-key rs f x t q in (later r rs x.key x a i.0, i.1))
