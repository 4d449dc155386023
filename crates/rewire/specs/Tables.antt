-- Triangles written into the tables, and the columns that they leave. Assumes nothing.
use Rattle.std.specs.Prelude.{◌≡◌, Bool, List, [], ◌∷◌, ℕ, zero, suc, ◌+◌, ◌*◌, ◌/◌, ◌≤◌, ◌<◌, eqb, ℤ, pos, length, get_or, set}
use Rattle.std.proofs.Math.Path.{refl, ap}
use Rattle.std.proofs.Common.{sym, subst, ◌∙◌, arith, eqb-true}
use Rattle.std.proofs.Math.Bool.{true, false, cond}
use Rattle.std.proofs.Math.ListN.{length-set}
use Rattle.std.proofs.Math.Seq.{get_or-set_same, get_or-set_other}
use Rattle.std.proofs.lemmas.Bool.{eqb-false}
use Rattle.chart.specs.Tables.{unsigned, rows, place_of, value_of, out_of, origin_of, next_of, prev_of, face_of, adjacent_of}
use Rattle.patches.specs.declared.Row.{Row}
use Rattle.patches.specs.Rows.{row_from, turn, hit, hit_of, face_hit}
use Rattle.patches.specs.Patch.{from_by, next_by, prev_by, face_by, key_by, put}

-- a half-edge's row
unfoldable pub row_in : {A : Type 0} → List A → ℕ → A → A → A → A → List A
row_in es h o n p f = set (set (set (set es (h * 4) o) (h * 4 + 1) n) (h * 4 + 2) p) (h * 4 + 3) f

-- a triangle's three rows
unfoldable pub triangle_in : List ℕ → Row → List ℕ
triangle_in es r =
    row_in (row_in (row_in es r.prev r.apex r.key r.next r.face) r.next r.to r.prev r.key r.face) r.key r.from
    r.next r.prev r.face

-- triangles, the last one first
unfoldable pub triangles_in : List ℕ → List Row → List ℕ
triangles_in es [] = es
triangles_in es (r ∷ rs) = triangle_in (triangles_in es rs) r

unfoldable pub faces_in : List ℕ → List Row → List ℕ
faces_in fs [] = fs
faces_in fs (r ∷ rs) = set (faces_in fs rs) r.face r.key

-- a vertex's out half-edge
unfoldable pub out_in : List ℤ → ℕ → ℕ → List ℤ
out_in vs v h = set vs (v * 4 + 3) (pos h)

-- ---- lengths
pub length-row : {A : Type 0} (es : List A) (h : ℕ) (o n p f : A) → length (row_in es h o n p f) ≡ length es
unfolding row_in
length-row es h o n p f =
    length-set (set (set (set es (h * 4) o) (h * 4 + 1) n) (h * 4 + 2) p) (h * 4 + 3) f
    ∙ length-set (set (set es (h * 4) o) (h * 4 + 1) n) (h * 4 + 2) p
    ∙ length-set (set es (h * 4) o) (h * 4 + 1) n
    ∙ length-set es (h * 4) o

pub length-triangle : (es : List ℕ) (r : Row) → length (triangle_in es r) ≡ length es
unfolding triangle_in
length-triangle es r =
    length-row (row_in (row_in es r.prev r.apex r.key r.next r.face) r.next r.to r.prev r.key r.face) r.key r.from r.next r.prev r.face
    ∙ length-row (row_in es r.prev r.apex r.key r.next r.face) r.next r.to r.prev r.key r.face
    ∙ length-row es r.prev r.apex r.key r.next r.face

pub length-triangles : (es : List ℕ) (rs : List Row) → length (triangles_in es rs) ≡ length es
unfolding triangles_in
length-triangles es [] = refl
length-triangles es (r ∷ rs) = length-triangle (triangles_in es rs) r ∙ length-triangles es rs

pub length-faces : (fs : List ℕ) (rs : List Row) → length (faces_in fs rs) ≡ length fs
unfolding faces_in
length-faces fs [] = refl
length-faces fs (r ∷ rs) = length-set (faces_in fs rs) r.face r.key ∙ length-faces fs rs

-- ---- a row's columns
module _ {A : Type 0} (z : A) (es : List A) (h : ℕ) (o n p f : A) where
  abbrev e₁ : List A
  e₁ = set es (h * 4) o

  abbrev e₂ : List A
  e₂ = set e₁ (h * 4 + 1) n

  abbrev e₃ : List A
  e₃ = set e₂ (h * 4 + 2) p

  -- elsewhere
  pub skip : (j : ℕ) → (j ≡ h * 4 → ⊥) → (j ≡ h * 4 + 1 → ⊥) → (j ≡ h * 4 + 2 → ⊥) → (j ≡ h * 4 + 3 → ⊥) → get_or (row_in es h o n p f) j z ≡ get_or es j z
  unfolding row_in
  skip j a b d e =
      get_or-set_other e₃ (h * 4 + 3) j f z e ∙ get_or-set_other e₂ (h * 4 + 2) j p z d ∙ get_or-set_other e₁ (h * 4 + 1) j n z b ∙ get_or-set_other es (h * 4) j o z a

  module _ (l : h < rows es) where
    long : h * 4 + 3 < length es
    long = omega arith

    pub at₀ : get_or (row_in es h o n p f) (h * 4) z ≡ o
    unfolding row_in
    at₀ =
        get_or-set_other e₃ (h * 4 + 3) (h * 4) f z (λ e. omega arith) ∙ get_or-set_other e₂ (h * 4 + 2) (h * 4) p z (λ e. omega arith)
        ∙ get_or-set_other e₁ (h * 4 + 1) (h * 4) n z (λ e. omega arith) ∙ get_or-set_same es (h * 4) o z (let k = long in omega arith)

    pub at₁ : get_or (row_in es h o n p f) (h * 4 + 1) z ≡ n
    unfolding row_in
    at₁ =
        get_or-set_other e₃ (h * 4 + 3) (h * 4 + 1) f z (λ e. omega arith) ∙ get_or-set_other e₂ (h * 4 + 2) (h * 4 + 1) p z (λ e. omega arith)
        ∙ get_or-set_same e₁ (h * 4 + 1) n z (omega (arith, long, length-set es (h * 4) o))

    pub at₂ : get_or (row_in es h o n p f) (h * 4 + 2) z ≡ p
    unfolding row_in
    at₂ =
        get_or-set_other e₃ (h * 4 + 3) (h * 4 + 2) f z (λ e. omega arith)
        ∙ get_or-set_same e₂ (h * 4 + 2) p z (omega (arith, long, length-set es (h * 4) o, length-set e₁ (h * 4 + 1) n))

    pub at₃ : get_or (row_in es h o n p f) (h * 4 + 3) z ≡ f
    unfolding row_in
    at₃ = get_or-set_same e₃ (h * 4 + 3) f z (omega (arith, long, length-set es (h * 4) o, length-set e₁ (h * 4 + 1) n, length-set e₂ (h * 4 + 2) p))

module _ (es : List ℕ) (h o n p f : ℕ) (l : h < rows es) where
  pub row-origin : (k : ℕ) → origin_of (row_in es h o n p f) k ≡ cond (eqb k h) o (origin_of es k)
  row-origin k = pick (eqb k h) refl
    where
      pick : (b : Bool) → eqb k h ≡ b → get_or (row_in es h o n p f) (k * 4) 0 ≡ cond b o (get_or es (k * 4) 0)
      pick true e = ap (λ (j : ℕ). get_or (row_in es h o n p f) (j * 4) 0) (eqb-true k h e) ∙ at₀ 0 es h o n p f l
      pick false e = let m = eqb-false k h e in skip 0 es h o n p f (k * 4) (λ q. m (omega arith)) (λ q. omega arith) (λ q. omega arith) (λ q. omega arith)

  pub row_next : (k : ℕ) → next_of (row_in es h o n p f) k ≡ cond (eqb k h) n (next_of es k)
  row_next k = pick (eqb k h) refl
    where
      pick : (b : Bool) → eqb k h ≡ b → get_or (row_in es h o n p f) (k * 4 + 1) 0 ≡ cond b n (get_or es (k * 4 + 1) 0)
      pick true e = ap (λ (j : ℕ). get_or (row_in es h o n p f) (j * 4 + 1) 0) (eqb-true k h e) ∙ at₁ 0 es h o n p f l
      pick false e = let m = eqb-false k h e in skip 0 es h o n p f (k * 4 + 1) (λ q. omega arith) (λ q. m (omega arith)) (λ q. omega arith) (λ q. omega arith)

  pub row-prev : (k : ℕ) → prev_of (row_in es h o n p f) k ≡ cond (eqb k h) p (prev_of es k)
  row-prev k = pick (eqb k h) refl
    where
      pick : (b : Bool) → eqb k h ≡ b → get_or (row_in es h o n p f) (k * 4 + 2) 0 ≡ cond b p (get_or es (k * 4 + 2) 0)
      pick true e = ap (λ (j : ℕ). get_or (row_in es h o n p f) (j * 4 + 2) 0) (eqb-true k h e) ∙ at₂ 0 es h o n p f l
      pick false e = let m = eqb-false k h e in skip 0 es h o n p f (k * 4 + 2) (λ q. omega arith) (λ q. omega arith) (λ q. m (omega arith)) (λ q. omega arith)

  pub row-face : (k : ℕ) → face_of (row_in es h o n p f) k ≡ cond (eqb k h) f (face_of es k)
  row-face k = pick (eqb k h) refl
    where
      pick : (b : Bool) → eqb k h ≡ b → get_or (row_in es h o n p f) (k * 4 + 3) 0 ≡ cond b f (get_or es (k * 4 + 3) 0)
      pick true e = ap (λ (j : ℕ). get_or (row_in es h o n p f) (j * 4 + 3) 0) (eqb-true k h e) ∙ at₃ 0 es h o n p f l
      pick false e = let m = eqb-false k h e in skip 0 es h o n p f (k * 4 + 3) (λ q. omega arith) (λ q. omega arith) (λ q. omega arith) (λ q. m (omega arith))

-- ---- a triangle's columns
pub record Within (es : List ℕ) (r : Row) : Type 0 where
  pub key_in : r.key < rows es
  pub next-in : r.next < rows es
  pub prev-in : r.prev < rows es

-- three rows, one after the other: a column's value at h
abbrev chosen : Row → ℕ → ℕ → ℕ → ℕ → ℕ → ℕ
chosen r h a b c k = cond (eqb h r.key) a (cond (eqb h r.next) b (cond (eqb h r.prev) c k))

module _ (es : List ℕ) (r : Row) (w : Within es r) where
  abbrev t₁ : List ℕ
  t₁ = row_in es r.prev r.apex r.key r.next r.face

  abbrev t₂ : List ℕ
  t₂ = row_in t₁ r.next r.to r.prev r.key r.face

  w₂ : r.next < rows t₁
  w₂ = subst (λ (k : ℕ). r.next < k / 4) (sym (length-row es r.prev r.apex r.key r.next r.face)) w.next-in

  w₃ : r.key < rows t₂
  w₃ =
      subst (λ (k : ℕ). r.key < k / 4) (sym (length-row t₁ r.next r.to r.prev r.key r.face ∙ length-row es r.prev r.apex r.key r.next r.face))
      w.key_in

  pub triangle-origin : (h : ℕ) → origin_of (triangle_in es r) h ≡ chosen r h r.from r.to r.apex (origin_of es h)
  unfolding triangle_in
  triangle-origin h =
      row-origin t₂ r.key r.from r.next r.prev r.face w₃ h
      ∙ ap (λ (k : ℕ). cond (eqb h r.key) r.from k)
      (row-origin t₁ r.next r.to r.prev r.key r.face w₂ h
      ∙ ap (λ (k : ℕ). cond (eqb h r.next) r.to k) (row-origin es r.prev r.apex r.key r.next r.face w.prev-in h))

  pub triangle-next : (h : ℕ) → next_of (triangle_in es r) h ≡ chosen r h r.next r.prev r.key (next_of es h)
  unfolding triangle_in
  triangle-next h =
      row_next t₂ r.key r.from r.next r.prev r.face w₃ h
      ∙ ap (λ (k : ℕ). cond (eqb h r.key) r.next k)
      (row_next t₁ r.next r.to r.prev r.key r.face w₂ h
      ∙ ap (λ (k : ℕ). cond (eqb h r.next) r.prev k) (row_next es r.prev r.apex r.key r.next r.face w.prev-in h))

  pub triangle-prev : (h : ℕ) → prev_of (triangle_in es r) h ≡ chosen r h r.prev r.key r.next (prev_of es h)
  unfolding triangle_in
  triangle-prev h =
      row-prev t₂ r.key r.from r.next r.prev r.face w₃ h
      ∙ ap (λ (k : ℕ). cond (eqb h r.key) r.prev k)
      (row-prev t₁ r.next r.to r.prev r.key r.face w₂ h
      ∙ ap (λ (k : ℕ). cond (eqb h r.next) r.key k) (row-prev es r.prev r.apex r.key r.next r.face w.prev-in h))

  pub triangle-face : (h : ℕ) → face_of (triangle_in es r) h ≡ chosen r h r.face r.face r.face (face_of es h)
  unfolding triangle_in
  triangle-face h =
      row-face t₂ r.key r.from r.next r.prev r.face w₃ h
      ∙ ap (λ (k : ℕ). cond (eqb h r.key) r.face k)
      (row-face t₁ r.next r.to r.prev r.key r.face w₂ h
      ∙ ap (λ (k : ℕ). cond (eqb h r.next) r.face k) (row-face es r.prev r.apex r.key r.next r.face w.prev-in h))

-- ---- and those of triangles
module _ (r : Row) (rs : List Row) (h k : ℕ) where
  from_cons : from_by (hit_of (r ∷ rs) h) k ≡ chosen r h r.from r.to r.apex (from_by (hit_of rs h) k)
  unfolding hit_of
  from_cons = pick (eqb h r.key) (eqb h r.next) (eqb h r.prev)
    where
      pick : (a b c : Bool) → from_by (cond a (hit r) (cond b (hit (turn r)) (cond c (hit (turn (turn r))) (hit_of rs h)))) k ≡ cond a r.from (cond b r.to (cond c r.apex (from_by (hit_of rs h) k)))
      pick true b c = refl
      pick false true c = refl
      pick false false true = refl
      pick false false false = refl

  next-cons : next_by (hit_of (r ∷ rs) h) k ≡ chosen r h r.next r.prev r.key (next_by (hit_of rs h) k)
  unfolding hit_of
  next-cons = pick (eqb h r.key) (eqb h r.next) (eqb h r.prev)
    where
      pick : (a b c : Bool) → next_by (cond a (hit r) (cond b (hit (turn r)) (cond c (hit (turn (turn r))) (hit_of rs h)))) k ≡ cond a r.next (cond b r.prev (cond c r.key (next_by (hit_of rs h) k)))
      pick true b c = refl
      pick false true c = refl
      pick false false true = refl
      pick false false false = refl

  prev-cons : prev_by (hit_of (r ∷ rs) h) k ≡ chosen r h r.prev r.key r.next (prev_by (hit_of rs h) k)
  unfolding hit_of
  prev-cons = pick (eqb h r.key) (eqb h r.next) (eqb h r.prev)
    where
      pick : (a b c : Bool) → prev_by (cond a (hit r) (cond b (hit (turn r)) (cond c (hit (turn (turn r))) (hit_of rs h)))) k ≡ cond a r.prev (cond b r.key (cond c r.next (prev_by (hit_of rs h) k)))
      pick true b c = refl
      pick false true c = refl
      pick false false true = refl
      pick false false false = refl

  face-cons : face_by (hit_of (r ∷ rs) h) k ≡ chosen r h r.face r.face r.face (face_by (hit_of rs h) k)
  unfolding hit_of
  face-cons = pick (eqb h r.key) (eqb h r.next) (eqb h r.prev)
    where
      pick : (a b c : Bool) → face_by (cond a (hit r) (cond b (hit (turn r)) (cond c (hit (turn (turn r))) (hit_of rs h)))) k ≡ cond a r.face (cond b r.face (cond c r.face (face_by (hit_of rs h) k)))
      pick true b c = refl
      pick false true c = refl
      pick false false true = refl
      pick false false false = refl

  key-cons : key_by (face_hit (r ∷ rs) h) k ≡ cond (eqb h r.face) r.key (key_by (face_hit rs h) k)
  unfolding face_hit
  key-cons = pick (eqb h r.face)
    where
      pick : (a : Bool) → key_by (cond a (hit r) (face_hit rs h)) k ≡ cond a r.key (key_by (face_hit rs h) k)
      pick true = refl
      pick false = refl

-- all of them in range
pub data Fits (es fs : List ℕ) : List Row → Type 0 where
  nil : Fits es fs []
  cons : {r : Row} {rs : List Row} → Within es r → r.face < length fs → Fits es fs rs → Fits es fs (r ∷ rs)

-- the same as products
abbrev pub Inside : List ℕ → List ℕ → Row → Type 0
Inside es fs x = (x.key < rows es) × (x.next < rows es) × (x.prev < rows es) × (x.face < length fs)

within_more : (es : List ℕ) (rs : List Row) (r : Row) → Within es r → Within (triangles_in es rs) r
within_more es rs r w =
    let e : length es ≡ length (triangles_in es rs) = sym (length-triangles es rs) in
    record {
      key_in = subst (λ (k : ℕ). r.key < k / 4) e w.key_in;
      next-in = subst (λ (k : ℕ). r.next < k / 4) e w.next-in;
      prev-in = subst (λ (k : ℕ). r.prev < k / 4) e w.prev-in;
    }

pub triangles-origin : (es fs : List ℕ) (rs : List Row) → Fits es fs rs → (h : ℕ) → origin_of (triangles_in es rs) h ≡ from_by (hit_of rs h) (origin_of es h)
unfolding triangles_in hit_of
triangles-origin es fs [] nil h = refl
triangles-origin es fs (r ∷ rs) (cons w l t) h =
    triangle-origin (triangles_in es rs) r (within_more es rs r w) h
    ∙ ap (λ (k : ℕ). chosen r h r.from r.to r.apex k) (triangles-origin es fs rs t h) ∙ sym (from_cons r rs h (origin_of es h))

pub triangles-next : (es fs : List ℕ) (rs : List Row) → Fits es fs rs → (h : ℕ) → next_of (triangles_in es rs) h ≡ next_by (hit_of rs h) (next_of es h)
unfolding triangles_in hit_of
triangles-next es fs [] nil h = refl
triangles-next es fs (r ∷ rs) (cons w l t) h =
    triangle-next (triangles_in es rs) r (within_more es rs r w) h
    ∙ ap (λ (k : ℕ). chosen r h r.next r.prev r.key k) (triangles-next es fs rs t h) ∙ sym (next-cons r rs h (next_of es h))

pub triangles-prev : (es fs : List ℕ) (rs : List Row) → Fits es fs rs → (h : ℕ) → prev_of (triangles_in es rs) h ≡ prev_by (hit_of rs h) (prev_of es h)
unfolding triangles_in hit_of
triangles-prev es fs [] nil h = refl
triangles-prev es fs (r ∷ rs) (cons w l t) h =
    triangle-prev (triangles_in es rs) r (within_more es rs r w) h
    ∙ ap (λ (k : ℕ). chosen r h r.prev r.key r.next k) (triangles-prev es fs rs t h) ∙ sym (prev-cons r rs h (prev_of es h))

pub triangles-face : (es fs : List ℕ) (rs : List Row) → Fits es fs rs → (h : ℕ) → face_of (triangles_in es rs) h ≡ face_by (hit_of rs h) (face_of es h)
unfolding triangles_in hit_of
triangles-face es fs [] nil h = refl
triangles-face es fs (r ∷ rs) (cons w l t) h =
    triangle-face (triangles_in es rs) r (within_more es rs r w) h
    ∙ ap (λ (k : ℕ). chosen r h r.face r.face r.face k) (triangles-face es fs rs t h) ∙ sym (face-cons r rs h (face_of es h))

set-column : (l : List ℕ) (i x j : ℕ) → i < length l → get_or (set l i x) j 0 ≡ cond (eqb j i) x (get_or l j 0)
set-column l i x j h = pick (eqb j i) refl
  where
    pick : (b : Bool) → eqb j i ≡ b → get_or (set l i x) j 0 ≡ cond b x (get_or l j 0)
    pick true e = ap (λ (k : ℕ). get_or (set l i x) k 0) (eqb-true j i e) ∙ get_or-set_same l i x 0 h
    pick false e = get_or-set_other l i j x 0 (eqb-false j i e)

pub faces-adjacent : (es fs : List ℕ) (rs : List Row) → Fits es fs rs → (f : ℕ) → adjacent_of (faces_in fs rs) f ≡ key_by (face_hit rs f) (adjacent_of fs f)
unfolding faces_in face_hit
faces-adjacent es fs [] nil f = refl
faces-adjacent es fs (r ∷ rs) (cons w l t) f =
    set-column (faces_in fs rs) r.face r.key f (subst (λ (k : ℕ). r.face < k) (sym (length-faces fs rs)) l)
    ∙ ap (λ (k : ℕ). cond (eqb f r.face) r.key k) (faces-adjacent es fs rs t f) ∙ sym (key-cons r rs f (adjacent_of fs f))

-- ---- the out half-edge of a vertex
pub length-out : (vs : List ℤ) (v h : ℕ) → length (out_in vs v h) ≡ length vs
unfolding out_in
length-out vs v h = length-set vs (v * 4 + 3) (pos h)

pub out-place : (vs : List ℤ) (v h u : ℕ) → place_of (out_in vs v h) u ≡ place_of vs u
unfolding out_in
out-place vs v h u = λ i. record {
  x = get_or-set_other vs (v * 4 + 3) (u * 4) (pos h) (pos 0) (λ e. omega arith) i;
  y = get_or-set_other vs (v * 4 + 3) (u * 4 + 1) (pos h) (pos 0) (λ e. omega arith) i;
}

pub out-value : (vs : List ℤ) (v h u : ℕ) → value_of (out_in vs v h) u ≡ value_of vs u
unfolding out_in
out-value vs v h u = get_or-set_other vs (v * 4 + 3) (u * 4 + 2) (pos h) (pos 0) (λ e. omega arith)

pub out-out : (vs : List ℤ) (v h u : ℕ) → v < rows vs → out_of (out_in vs v h) u ≡ put v h (out_of vs) u
unfolding out_in
out-out vs v h u l = pick (eqb u v) refl
  where
    pick : (b : Bool) → eqb u v ≡ b → unsigned (get_or (set vs (v * 4 + 3) (pos h)) (u * 4 + 3) (pos 0)) ≡ cond b h (unsigned (get_or vs (u * 4 + 3) (pos 0)))
    pick true e = ap (λ (k : ℕ). unsigned (get_or (set vs (v * 4 + 3) (pos h)) (k * 4 + 3) (pos 0))) (eqb-true u v e) ∙ ap unsigned (get_or-set_same vs (v * 4 + 3) (pos h) (pos 0) (omega arith))
    pick false e = let m = eqb-false u v e in ap unsigned (get_or-set_other vs (v * 4 + 3) (u * 4 + 3) (pos h) (pos 0) (λ q. m (omega arith)))

-- ---- the out column holds no negative number: what row 6 asks of it beside its bound
abbrev pub Natural : ℤ → Type 0
Natural z = z ≡ pos (unsigned z)

abbrev pub out_cell : List ℤ → ℕ → ℤ
out_cell vs v = get_or vs (v * 4 + 3) (pos 0)

-- what is natural stays so
abbrev pub KeepsOuts : List ℤ → List ℤ → Type 0
KeepsOuts vs us = (u : ℕ) → Natural (out_cell vs u) → Natural (out_cell us u)

-- and the new vertex's is
pub record NewOut (n : ℕ) (vs us : List ℤ) : Type 0 where
  pub keeps : KeepsOuts vs us
  pub new : Natural (out_cell us n)

set_keeps : {A : Type 0} (P : A → Type 0) (l : List A) (i j : ℕ) (a d : A) → P a → P (get_or l j d) → P (get_or (set l i a) j d)
set_keeps P [] i j a d h k = k
set_keeps P (x ∷ xs) zero zero a d h k = h
set_keeps P (x ∷ xs) zero (suc j) a d h k = k
set_keeps P (x ∷ xs) (suc i) zero a d h k = k
set_keeps P (x ∷ xs) (suc i) (suc j) a d h k = set_keeps P xs i j a d h k

pub out-outed : (vs us : List ℤ) (v h : ℕ) → us ≡ out_in vs v h → KeepsOuts vs us
unfolding out_in
out-outed vs us v h e u o = subst (λ (l : List ℤ). Natural (get_or l (u * 4 + 3) (pos 0))) (sym e) (set_keeps Natural vs (v * 4 + 3) (u * 4 + 3) (pos h) (pos 0) refl o)

pub row-outed : (vs us : List ℤ) (v : ℕ) (x y z : ℤ) (h : ℕ) → v < rows vs → us ≡ row_in vs v x y z (pos h) → NewOut v vs us
unfolding row_in
row-outed vs us v x y z h l e =
    let a : List ℤ = set vs (v * 4) x in
    let b : List ℤ = set a (v * 4 + 1) y in
    let c : List ℤ = set b (v * 4 + 2) z in
    record {
      keeps =
          λ u o.
          let same : get_or c (u * 4 + 3) (pos 0) ≡ get_or vs (u * 4 + 3) (pos 0) =
          get_or-set_other b (v * 4 + 2) (u * 4 + 3) z (pos 0) (λ q. omega arith) ∙ get_or-set_other a (v * 4 + 1) (u * 4 + 3) y (pos 0) (λ q. omega arith) ∙ get_or-set_other vs (v * 4) (u * 4 + 3) x (pos 0) (λ q. omega arith) in
          subst (λ (l : List ℤ). Natural (get_or l (u * 4 + 3) (pos 0))) (sym e)
          (set_keeps Natural c (v * 4 + 3) (u * 4 + 3) (pos h) (pos 0) refl (subst Natural (sym same) o));
      new = subst (λ (l : List ℤ). Natural (get_or l (v * 4 + 3) (pos 0))) (sym e) (subst Natural (sym (at₃ (pos 0) vs v x y z (pos h) l)) refl);
    }

pub new_then : (n : ℕ) (vs us ws : List ℤ) → NewOut n vs us → KeepsOuts us ws → NewOut n vs ws
new_then n vs us ws a k = record { keeps = λ u o. k u (a.keeps u o); new = k n a.new }

-- ---- the row of a half-edge of a table, as it stands
abbrev pub row_of : List ℕ → ℕ → Row
row_of es h = row_from h (next_of es h) (prev_of es h) (face_of es h) (origin_of es h) (origin_of es (next_of es h)) (origin_of es (prev_of es h))

-- tables of n vertices, h half-edges and f faces stand in the first elements of these
pub record FrontFits (n h f : ℕ) (vs : List ℤ) (es fs : List ℕ) : Type 0 where
  pub vertices : 4 * n ≤ length vs
  pub half_edges : 4 * h ≤ length es
  pub faces : f ≤ length fs
